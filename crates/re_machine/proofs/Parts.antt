-- The parts of a tree that is filled, over what a node takes of them.
use Rattle.std.proofs.Common.{◌≡◌, ℕ, ◌+◌, ◌^◌, ◌<◌, ◌≤◌, ◌&&◌, ◌||◌, Bool, true, false, List, [], ◌∷◌, length, refl}
use Rattle.std.proofs.Common.{sym, ap, subst, ◌∙◌, arith}
use Rattle.std.specs.Prelude.{IsTrue, bit_or, if◌then◌else◌}
use Rattle.re_syntax.specs.Tree.{Tree, Letter, AnyLetter, OneOf, LineStart, LineEnd, Then, Either, Many, Several, Maybe}
use Rattle.re_syntax.specs.Tree.{Group}
use Rattle.re_syntax.specs.Nodes.{Node, Alone, Joined, Chosen, Often, Repeated, Optional, Numbered, Builds}
use Rattle.re_spans.specs.declared.leaf.Here.{Here}
use Rattle.re_sets.specs.Numbers.{letters}
use Rattle.re_sets.specs.Spots.{first, last}
use Rattle.re_sets.specs.Words.{on, IsSet}
use Rattle.re_machine.specs.Sets.{AreAdded}
use Rattle.re_machine.specs.Filling.{IsPart, AreFilled, IsLeaf, count, AreParts, IsFilling}
use Rattle.re_machine.specs.declared.fill.Part.{Part}
use Rattle.re_machine.specs.declared.fill.Filling.{Filling}
use Rattle.re_machine.proofs.Filled.{leaf_part, leaf_rows, start_part, start_rows, end_part, end_rows, cat_part}
use Rattle.re_machine.proofs.Filled.{cat_rows, alt_part, alt_rows, many_part, many_rows, several_part, maybe_part}
use Rattle.re_machine.proofs.Filled.{group_part, last_in}
use Rattle.re_machine.proofs.Listing.{builds_count}

leaf_one : (t : Tree) → IsLeaf t → letters t ≡ 1
leaf_one (Letter c) h = refl
leaf_one AnyLetter h = refl
leaf_one (OneOf negated spans) h = refl
leaf_one LineStart h = absurd h
leaf_one LineEnd h = absurd h
leaf_one (Then a b) h = absurd h
leaf_one (Either a b) h = absurd h
leaf_one (Many a) h = absurd h
leaf_one (Several a) h = absurd h
leaf_one (Maybe a) h = absurd h
leaf_one (Group n a) h = absurd h

module _ {S : Type 0} (bits : S → ℕ) (x : Here) (old : List ℕ) (r : Tree) (left : List Node) where
  -- ---- a leaf more

  pub leaf_room : (t : Tree) (f : Filling S) (rows : List ℕ) → IsLeaf t → IsFilling bits x old r (Alone t ∷ left) f rows
      → f.next < length rows
  leaf_room t f rows is i = omega (arith, builds_count left (t ∷ i.trees) r i.builds, leaf_one t is, i.fits, i.next_is)

  pub leaf_more : (t : Tree) (f g : Filling S) (rows : List ℕ) (p : Part S) → IsLeaf t
      → IsFilling bits x old r (Alone t ∷ left) f rows → g.parts.items ≡ p ∷ f.parts.items → g.next ≡ f.next + 1
      → p.null ≡ false → bits p.first ≡ 2 ^ f.next → bits p.last ≡ 2 ^ f.next → IsFilling bits x old r left g rows
  leaf_more t f g rows p is i e n u v w = record {
    trees = t ∷ i.trees;
    builds = i.builds;
    next_is = omega (arith, n, i.next_is, leaf_one t is);
    fits = i.fits;
    parts_are =
        subst (λ (z : List (Part S)). AreParts bits x old (t ∷ i.trees) z rows) (sym e) (
          rows,
          i.parts_are,
          leaf_part t (count i.trees) x p.null (bits p.first) (bits p.last) is u
              (v ∙ ap (λ (z : ℕ). 2 ^ z) i.next_is) (w ∙ ap (λ (z : ℕ). 2 ^ z) i.next_is),
          leaf_rows t (count i.trees) x rows is,
        );
  }

  pub start_more : (f g : Filling S) (rows : List ℕ) (p : Part S) → IsFilling bits x old r (Alone LineStart ∷ left) f
      rows → g.parts.items ≡ p ∷ f.parts.items → g.next ≡ f.next → p.null ≡ x.starts → bits p.first ≡ 0 →
      bits p.last ≡ 0 → IsFilling bits x old r left g rows
  start_more f g rows p i e n u v w = record {
    trees = LineStart ∷ i.trees;
    builds = i.builds;
    next_is = omega (arith, n, i.next_is);
    fits = i.fits;
    parts_are = subst (λ (z : List (Part S)). AreParts bits x old (LineStart ∷ i.trees) z rows) (sym e) (
      rows,
      i.parts_are,
      start_part (count i.trees) x p.null (bits p.first) (bits p.last) u v w,
      start_rows (count i.trees) x rows,
    );
  }

  pub end_more : (f g : Filling S) (rows : List ℕ) (p : Part S) → IsFilling bits x old r (Alone LineEnd ∷ left) f rows
      → g.parts.items ≡ p ∷ f.parts.items → g.next ≡ f.next → p.null ≡ x.ends → bits p.first ≡ 0 → bits p.last ≡ 0 →
      IsFilling bits x old r left g rows
  end_more f g rows p i e n u v w = record {
    trees = LineEnd ∷ i.trees;
    builds = i.builds;
    next_is = omega (arith, n, i.next_is);
    fits = i.fits;
    parts_are = subst (λ (z : List (Part S)). AreParts bits x old (LineEnd ∷ i.trees) z rows) (sym e) (
      rows,
      i.parts_are,
      end_part (count i.trees) x p.null (bits p.first) (bits p.last) u v w,
      end_rows (count i.trees) x rows,
    );
  }

  -- ---- a node over the last two parts, or over the last one

  pub record TwoParts (over : Tree → Tree → Tree) (f : Filling S) (rows : List ℕ) : Type 0 where
    pub a : Tree
    pub b : Tree
    pub others : List Tree
    pub p : Part S
    pub q : Part S
    pub more : List (Part S)
    pub items_are : f.parts.items ≡ q ∷ p ∷ more
    pub builds : Builds left (over a b ∷ others) r
    pub next_is : f.next ≡ count others + letters a + letters b
    pub fits : letters r ≤ length rows
    pub parts_are : AreParts bits x old (b ∷ a ∷ others) (q ∷ p ∷ more) rows

  pub record OnePart (over : Tree → Tree) (f : Filling S) (rows : List ℕ) : Type 0 where
    pub a : Tree
    pub others : List Tree
    pub p : Part S
    pub more : List (Part S)
    pub items_are : f.parts.items ≡ p ∷ more
    pub builds : Builds left (over a ∷ others) r
    pub next_is : f.next ≡ count others + letters a
    pub fits : letters r ≤ length rows
    pub parts_are : AreParts bits x old (a ∷ others) (p ∷ more) rows

  two_of : (node : Node) (over : Tree → Tree → Tree) (trees : List Tree) (items : List (Part S)) (f : Filling S)
      (rows : List ℕ) → (Builds (node ∷ left) [] r → ⊥) → ((b : Tree) → Builds (node ∷ left) (b ∷ []) r → ⊥)
      → ((a b : Tree) (rs : List Tree) → Builds (node ∷ left) (b ∷ a ∷ rs) r → Builds left (over a b ∷ rs) r)
      → f.parts.items ≡ items → Builds (node ∷ left) trees r → f.next ≡ count trees → letters r ≤ length rows
      → AreParts bits x old trees items rows → TwoParts over f rows
  two_of node over [] items f rows n o t e h k l s = absurd (n h)
  two_of node over (b ∷ []) items f rows n o t e h k l s = absurd (o b h)
  two_of node over (b ∷ a ∷ rs) [] f rows n o t e h k l s = absurd s
  two_of node over (b ∷ a ∷ rs) (q ∷ []) f rows n o t e h k l s = absurd s.1
  two_of node over (b ∷ a ∷ rs) (q ∷ p ∷ ps) f rows n o t e h k l s =
      record {
        a = a;
        b = b;
        others = rs;
        p = p;
        q = q;
        more = ps;
        items_are = e;
        builds = t a b rs h;
        next_is = k;
        fits = l;
        parts_are = s;
      }

  one_of : (node : Node) (over : Tree → Tree) (trees : List Tree) (items : List (Part S)) (f : Filling S)
      (rows : List ℕ) → (Builds (node ∷ left) [] r → ⊥) → ((a : Tree) (rs : List Tree) → Builds (node ∷ left) (a ∷ rs) r
      → Builds left (over a ∷ rs) r) → f.parts.items ≡ items → Builds (node ∷ left) trees r → f.next ≡ count trees
      → letters r ≤ length rows → AreParts bits x old trees items rows → OnePart over f rows
  one_of node over [] items f rows n t e h k l s = absurd (n h)
  one_of node over (a ∷ rs) [] f rows n t e h k l s = absurd s
  one_of node over (a ∷ rs) (p ∷ ps) f rows n t e h k l s = record
      { a = a; others = rs; p = p; more = ps; items_are = e; builds = t a rs h; next_is = k; fits = l; parts_are = s }

  pub two_joined : (f : Filling S) (rows : List ℕ) → IsFilling bits x old r (Joined ∷ left) f rows
      → TwoParts Then f rows
  two_joined f rows i = two_of Joined Then i.trees f.parts.items f rows (λ h. h) (λ b h. h) (λ a b rs h. h) refl
      i.builds i.next_is i.fits i.parts_are

  pub two_chosen : (f : Filling S) (rows : List ℕ) → IsFilling bits x old r (Chosen ∷ left) f rows
      → TwoParts Either f rows
  two_chosen f rows i = two_of Chosen Either i.trees f.parts.items f rows (λ h. h) (λ b h. h) (λ a b rs h. h) refl
      i.builds i.next_is i.fits i.parts_are

  pub one_often : (f : Filling S) (rows : List ℕ) → IsFilling bits x old r (Often ∷ left) f rows → OnePart Many f rows
  one_often f rows i = one_of Often Many i.trees f.parts.items f rows (λ h. h) (λ a rs h. h) refl i.builds i.next_is
      i.fits i.parts_are

  pub one_repeated : (f : Filling S) (rows : List ℕ) → IsFilling bits x old r (Repeated ∷ left) f rows
      → OnePart Several f rows
  one_repeated f rows i = one_of Repeated Several i.trees f.parts.items f rows (λ h. h) (λ a rs h. h) refl i.builds
      i.next_is i.fits i.parts_are

  pub one_optional : (f : Filling S) (rows : List ℕ) → IsFilling bits x old r (Optional ∷ left) f rows
      → OnePart Maybe f rows
  one_optional f rows i = one_of Optional Maybe i.trees f.parts.items f rows (λ h. h) (λ a rs h. h) refl i.builds
      i.next_is i.fits i.parts_are

  one_numbered : (n : ℕ) (f : Filling S) (rows : List ℕ) → IsFilling bits x old r (Numbered n ∷ left) f rows
      → OnePart (Group n) f rows
  one_numbered n f rows i = one_of (Numbered n) (Group n) i.trees f.parts.items f rows (λ h. h) (λ a rs h. h) refl
      i.builds i.next_is i.fits i.parts_are

  -- the letters at the end of a part have rows
  pub first_inside : (f : Filling S) (rows : List ℕ) (w : TwoParts Then f rows) (m : ℕ) → IsTrue (on (bits w.p.last) m)
      → m < length rows
  first_inside f rows w m h = let s = w.parts_are.1 in omega (
    arith,
    last_in w.a (count w.others) x w.p.null (bits w.p.first) (bits w.p.last) m s.2 h,
    builds_count left (Then w.a w.b ∷ w.others) r w.builds,
    w.fits,
  )

  pub many_inside : (f : Filling S) (rows : List ℕ) (w : OnePart Many f rows) (m : ℕ) → IsTrue (on (bits w.p.last) m)
      → m < length rows
  many_inside f rows w m h = let s = w.parts_are in omega (
    arith,
    last_in w.a (count w.others) x w.p.null
        (bits w.p.first) (bits w.p.last) m s.2 h,
    builds_count left (Many w.a ∷ w.others) r w.builds,
    w.fits,
  )

  pub several_inside : (f : Filling S) (rows : List ℕ) (w : OnePart Several f rows) (m : ℕ)
      → IsTrue (on (bits w.p.last) m) → m < length rows
  several_inside f rows w m h = let s = w.parts_are in omega (
    arith,
    last_in w.a (count w.others) x w.p.null (bits w.p.first) (bits w.p.last) m s.2 h,
    builds_count left (Several w.a ∷ w.others) r w.builds,
    w.fits,
  )

  pub joined_more : (f g : Filling S) (rows new : List ℕ) (w : TwoParts Then f rows) (m : Part S)
      → AreAdded rows new (bits w.p.last) (bits w.q.first) → length new ≡ length rows → m.null ≡ (w.p.null && w.q.null)
      → bits m.first ≡ (if w.p.null then bit_or (bits w.p.first) (bits w.q.first) else bits w.p.first)
      → bits m.last ≡ (if w.q.null then bit_or (bits w.q.last) (bits w.p.last) else bits w.q.last)
      → g.parts.items ≡ m ∷ w.more → g.next ≡ f.next → IsFilling bits x old r left g new
  joined_more f g rows new w m added len n u v e k =
      let y = w.parts_are in
      let z = y.1 in
      let p = w.p in
      let q = w.q in
      record {
        trees = Then w.a w.b ∷ w.others;
        builds = w.builds;
        next_is = omega (arith, k, w.next_is);
        fits = omega (arith, len, w.fits);
        parts_are = subst (λ (t : List (Part S)). AreParts bits x old (Then w.a w.b ∷ w.others) t new) (sym e) (
          z.0,
          z.1,
          cat_part w.a w.b (count w.others) (count w.others + letters w.a) x p.null q.null m.null (bits p.first)
              (bits q.first) (bits m.first) (bits p.last) (bits q.last) (bits m.last) z.2 refl y.2 n u v,
          cat_rows w.a w.b (count w.others) (count w.others + letters w.a) x p.null q.null (bits p.first) (bits q.first)
              (bits p.last) (bits q.last) z.0 y.0 rows new z.2 refl y.2 z.3 y.3 added,
        );
      }

  pub chosen_more : (f g : Filling S) (rows : List ℕ) (w : TwoParts Either f rows) (m : Part S)
      → m.null ≡ (w.p.null || w.q.null) → bits m.first ≡ bit_or (bits w.p.first) (bits w.q.first)
      → bits m.last ≡ bit_or (bits w.p.last) (bits w.q.last) → g.parts.items ≡ m ∷ w.more
      → g.next ≡ f.next → IsFilling bits x old r left g rows
  chosen_more f g rows w m n u v e k =
      let y = w.parts_are in
      let z = y.1 in
      let p = w.p in
      let q = w.q in
      record {
        trees = Either w.a w.b ∷ w.others;
        builds = w.builds;
        next_is = omega (arith, k, w.next_is);
        fits = w.fits;
        parts_are = subst (λ (t : List (Part S)). AreParts bits x old (Either w.a w.b ∷ w.others) t rows) (sym e) (
          z.0,
          z.1,
          alt_part w.a w.b (count w.others) (count w.others + letters w.a) x p.null q.null m.null (bits p.first)
              (bits q.first) (bits m.first) (bits p.last) (bits q.last) (bits m.last) z.2 refl y.2 n u v,
          alt_rows w.a w.b (count w.others) (count w.others + letters w.a) x z.0 y.0 rows refl z.3 y.3,
        );
      }

  -- a node of one part that is a part itself, and whose rows are filled
  one_more : (over : Tree → Tree) (f g : Filling S) (rows new : List ℕ) (w : OnePart over f rows) (m : Part S)
      → letters (over w.a) ≡ letters w.a → length new ≡ length rows
      → IsPart (over w.a) (count w.others) x m.null (bits m.first) (bits m.last)
      → AreFilled (over w.a) (count w.others) x (w.parts_are).0 new → g.parts.items ≡ m ∷ w.more
      → g.next ≡ f.next → IsFilling bits x old r left g new
  one_more over f g rows new w m o len part filled e k =
      let y = w.parts_are in
      record {
        trees = over w.a ∷ w.others;
        builds = w.builds;
        next_is = omega (arith, k, w.next_is, o);
        fits = omega (arith, len, w.fits);
        parts_are = subst (λ (t : List (Part S)). AreParts bits x old (over w.a ∷ w.others) t new) (sym e)
            (y.0, y.1, part, filled);
      }

  part_as : (t : Tree) (base : ℕ) (p m : Part S) (n : Bool) → m.null ≡ n → m.first ≡ p.first → m.last ≡ p.last →
      IsPart t base x n (bits p.first) (bits p.last) → IsPart t base x m.null (bits m.first) (bits m.last)
  part_as t base p m n e u v h = record {
    null_is = e ∙ h.null_is;
    first_is = subst (λ (z : S). IsSet t base (first t x) (bits z)) (sym u) h.first_is;
    last_is = subst (λ (z : S). IsSet t base (last t x) (bits z)) (sym v) h.last_is;
  }

  pub often_more : (f g : Filling S) (rows new : List ℕ) (w : OnePart Many f rows) (m : Part S)
      → AreAdded rows new (bits w.p.last) (bits w.p.first) → length new ≡ length rows
      → m.null ≡ true → m.first ≡ w.p.first → m.last ≡ w.p.last → g.parts.items ≡ m ∷ w.more
      → g.next ≡ f.next → IsFilling bits x old r left g new
  often_more f g rows new w m added len n u v e k =
      let y = w.parts_are in
      let p = w.p in
      one_more Many f g rows new w m refl len (part_as (Many w.a) (count w.others) p m true n u v
      (many_part w.a (count w.others) x p.null (bits p.first) (bits p.last) y.2))
      (many_rows w.a (count w.others) x p.null (bits p.first) (bits p.last) y.0 rows new y.2 y.3 added) e k

  pub repeated_more : (f g : Filling S) (rows new : List ℕ) (w : OnePart Several f rows) (m : Part S)
      → AreAdded rows new (bits w.p.last) (bits w.p.first) → length new ≡ length rows
      → m.null ≡ w.p.null → m.first ≡ w.p.first → m.last ≡ w.p.last → g.parts.items ≡ m ∷ w.more
      → g.next ≡ f.next → IsFilling bits x old r left g new
  repeated_more f g rows new w m added len n u v e k =
      let y = w.parts_are in
      let p = w.p in
      one_more Several f g rows new w m refl len (part_as (Several w.a) (count w.others) p m p.null n u v
      (several_part w.a (count w.others) x p.null (bits p.first) (bits p.last) y.2))
      (many_rows w.a (count w.others) x p.null (bits p.first) (bits p.last) y.0 rows new y.2 y.3 added) e k

  pub optional_more : (f g : Filling S) (rows : List ℕ) (w : OnePart Maybe f rows) (m : Part S)
      → m.null ≡ true → m.first ≡ w.p.first → m.last ≡ w.p.last → g.parts.items ≡ m ∷ w.more
      → g.next ≡ f.next → IsFilling bits x old r left g rows
  optional_more f g rows w m n u v e k =
      let y = w.parts_are in
      let p = w.p in
      one_more Maybe f g rows rows w m refl refl (part_as (Maybe w.a) (count w.others) p m true n u v
      (maybe_part w.a (count w.others) x p.null (bits p.first) (bits p.last) y.2)) y.3 e k

  pub numbered_more : (n : ℕ) (f : Filling S) (rows : List ℕ) → IsFilling bits x old r (Numbered n ∷ left) f rows
      → IsFilling bits x old r left f rows
  numbered_more n f rows i =
      let w = one_numbered n f rows i in
      let y = w.parts_are in
      let p = w.p in
      one_more (Group n) f f rows rows w p refl refl (group_part n w.a (count w.others) x p.null (bits p.first)
      (bits p.last) y.2) y.3 w.items_are refl

-- ---- the whole tree

module _ {S : Type 0} (bits : S → ℕ) (x : Here) (old : List ℕ) (r : Tree) where
  pub begun : (left : List Node) (f : Filling S) → Builds left [] r → f.parts.items ≡ []
      → f.next ≡ 0 → letters r ≤ length old → IsFilling bits x old r left f old
  begun left f h e n l = record {
    trees = [];
    builds = h;
    next_is = n;
    fits = l;
    parts_are = subst (λ (z : List (Part S)). AreParts bits x old [] z old) (sym e) refl;
  }

  pub record WholePart (f : Filling S) (rows : List ℕ) : Type 0 where
    pub p : Part S
    pub items_are : f.parts.items ≡ p ∷ []
    pub part : IsPart r 0 x p.null (bits p.first) (bits p.last)
    pub filled : AreFilled r 0 x old rows

  whole_of : (trees : List Tree) (items : List (Part S)) (f : Filling S) (rows : List ℕ)
      → f.parts.items ≡ items → Builds [] trees r → AreParts bits x old trees items rows → WholePart f rows
  whole_of [] items f rows e h s = absurd h
  whole_of (b ∷ a ∷ rs) items f rows e h s = absurd h
  whole_of (a ∷ []) [] f rows e h s = absurd s
  whole_of (a ∷ []) (q ∷ p ∷ ps) f rows e h s = absurd s.1
  whole_of (a ∷ []) (p ∷ []) f rows e h s = record {
    p = p;
    items_are = e;
    part = subst (λ (z : Tree). IsPart z 0 x p.null (bits p.first) (bits p.last)) h s.2;
    filled = subst (λ (z : Tree). AreFilled z 0 x old rows) h (subst (λ (z : List ℕ). AreFilled a 0 x z rows) (sym s.1)
        s.3);
  }

  pub whole_part : (f : Filling S) (rows : List ℕ) → IsFilling bits x old r [] f rows → WholePart f rows
  whole_part f rows i = whole_of i.trees f.parts.items f rows refl i.builds i.parts_are

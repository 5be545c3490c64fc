-- The tables of a tree are built.
use Rattle.std.proofs.Common.{◌≡◌, ℕ, ◌<◌, ◌≤◌, ◌&&◌, zero, suc, Bool, true, false, List, [], ◌∷◌, ◌++◌, length, map}
use Rattle.std.proofs.Common.{get_or, refl, sym, ap, subst, ◌∙◌, inl, inr, arith}
use Rattle.std.specs.Prelude.{IsTrue, bit_and, bit_or, slice_index, slice_index_or, if◌then◌else◌}
use Rattle.std.proofs.lemmas.Bool.{cases_lt}
use Rattle.std.proofs.lemmas.List.{length-append}
use Rattle.re_syntax.specs.Tree.{Tree, tree}
use Rattle.re_syntax.specs.declared.re.Re.{Re}
use Rattle.re_spans.specs.declared.leaf.Here.{Here}
use Rattle.re_sets.specs.Readings.{read_as}
use Rattle.re_sets.specs.Spots.{first, last, follow}
use Rattle.re_sets.specs.Numbers.{letters}
use Rattle.re_sets.specs.Words.{on, IsSet}
use Rattle.re_sets.specs.Tables.{IsTable}
use Rattle.re_sets.proofs.Wording.{on_or_left, on_or_right, on_zero}
use Rattle.re_sets.proofs.Telling.{on_and, on_and_from}
use Rattle.re_sets.proofs.Mirrored.{read_letters}
use Rattle.re_machine.specs.Filling.{IsPart, AreFilled}
use Rattle.re_machine.specs.Leaves.{leaves_of, taken_word}
use Rattle.re_machine.specs.Contexts.{kind_of, has_anchor, context_at, IsContext, AreContexts, HasFirsts, HaveNothing}
use Rattle.re_machine.specs.Contexts.{BeginsAre, NoneBegins}
use Rattle.re_machine.specs.Whole.{table_of, IsWhole}
use Rattle.re_machine.specs.declared.contexts.Context.{Context}
use Rattle.re_machine.specs.declared.contexts.Contexts.TheVariants.{ByPlace}
use Rattle.re_machine.specs.declared.tables.Tables.{Tables}
use Rattle.re_machine.proofs.Joining.{len}
use Rattle.re_machine.proofs.Taking.{leaves_count, taken_is}
use Rattle.re_machine.proofs.Anchors.{null_same, first_same, last_same, follow_same, set_here, rows_here}

-- ---- the contexts

module _ {S : Type 0} (bits : S → ℕ) where
  firsts_by : (a b c d : Context S) (within outer all : ℕ) (s e : Bool) → within ≡ bit_or (bits a.first) (bits b.first)
      → outer ≡ bit_or (bits c.first) (bits d.first) → all ≡ bit_or within outer →
      HasFirsts (bits (if s && e then d else (if s then b else (if e then c else a))).first) all
  firsts_by a b c d within outer all true true x y z n h = subst (λ (w : ℕ). IsTrue (on w n)) (sym z)
      (on_or_right within outer n (subst (λ (w : ℕ). IsTrue (on w n)) (sym y)
      (on_or_right (bits c.first) (bits d.first) n h)))
  firsts_by a b c d within outer all true false x y z n h = subst (λ (w : ℕ). IsTrue (on w n)) (sym z)
      (on_or_left within outer n (subst (λ (w : ℕ). IsTrue (on w n)) (sym x)
      (on_or_right (bits a.first) (bits b.first) n h)))
  firsts_by a b c d within outer all false true x y z n h = subst (λ (w : ℕ). IsTrue (on w n)) (sym z)
      (on_or_right within outer n (subst (λ (w : ℕ). IsTrue (on w n)) (sym y)
      (on_or_left (bits c.first) (bits d.first) n h)))
  firsts_by a b c d within outer all false false x y z n h = subst (λ (w : ℕ). IsTrue (on w n)) (sym z)
      (on_or_left within outer n (subst (λ (w : ℕ). IsTrue (on w n)) (sym x)
      (on_or_left (bits a.first) (bits b.first) n h)))

  pub four_firsts : (a b c d : Context S) (within outer all : ℕ) (x : Here)
      → within ≡ bit_or (bits a.first) (bits b.first) → outer ≡ bit_or (bits c.first) (bits d.first)
      → all ≡ bit_or within outer → HasFirsts (bits (context_at (ByPlace a b c d) x).first) all
  four_firsts a b c d within outer all x = firsts_by a b c d within outer all x.starts x.ends

  -- a part whose rows were empty is a context
  pub context_is : (r : Tree) (x : Here) (c : Context S) (f l : ℕ) (old : List ℕ) → IsPart r 0 x c.null f l
      → f ≡ bits c.first → l ≡ bits c.last → HaveNothing old → AreFilled r 0 x old (map bits c.follow.items)
      → IsContext bits r x c
  context_is r x c f l old p e g z a = record {
    null_is = p.null_is;
    first_is = subst (IsSet r 0 (first r x)) e p.first_is;
    last_is = subst (IsSet r 0 (last r x)) g p.last_is;
    rows_is = λ m n. (
      λ h. elim ((a m n).0 h) [
        | inl y ↦ absurd (on_zero n (subst (λ (w : ℕ). IsTrue (on w n)) (z m) y))
        | inr y ↦ y
      ],
      λ h. (a m n).1 (inr h),
    );
  }

  -- where there are no anchors a context serves all places
  pub same_context : (r : Tree) (x y : Here) (c : Context S) → has_anchor r ≡ false → IsContext bits r x c
      → IsContext bits r y c
  same_context r x y c e k = record {
    null_is = k.null_is ∙ null_same r x y e;
    first_is = set_here r (first r x) (first r y) (bits c.first) (λ p. first_same r x y p e) k.first_is;
    last_is = set_here r (last r x) (last r y) (bits c.last) (λ p. last_same r x y p e) k.last_is;
    rows_is = λ m n. (
      λ h. rows_here r (follow r x) (follow r y) m n (λ p q. follow_same r x y p q e) ((k.rows_is m n).0 h),
      λ h. (k.rows_is m n).1 (rows_here r (follow r y) (follow r x) m n (λ p q. sym (follow_same r x y p q e)) h),
    );
  }

  four_by : (r : Tree) (a b c d : Context S) (s e : Bool) → IsContext bits r (kind_of false false) a
      → IsContext bits r (kind_of true false) b → IsContext bits r (kind_of false true) c
      → IsContext bits r (kind_of true true) d → IsContext bits r (kind_of s e)
      (if s && e then d else (if s then b else (if e then c else a)))
  four_by r a b c d true true i j k l = l
  four_by r a b c d true false i j k l = j
  four_by r a b c d false true i j k l = k
  four_by r a b c d false false i j k l = i

  pub four_contexts : (r : Tree) (a b c d : Context S) → IsContext bits r (kind_of false false) a
      → IsContext bits r (kind_of true false) b → IsContext bits r (kind_of false true) c
      → IsContext bits r (kind_of true true) d → AreContexts bits r (ByPlace a b c d)
  four_contexts r a b c d i j k l x = four_by r a b c d x.starts x.ends i j k l

-- ---- the tables

begins_more : (firsts : ℕ) (sets : List ℕ) (xs : List Bool) (b : Bool) (d : ℕ) → d < length (xs ++ b ∷ [])
    → slice_index_or (xs ++ b ∷ []) d false ≡ false → (b ≡ false → bit_and firsts (slice_index sets (length xs)) ≡ 0)
    → BeginsAre firsts sets xs → bit_and firsts (slice_index sets d) ≡ 0
begins_more firsts sets xs b d l e h a = elim (cases_lt d (length xs)) [
  | inl y ↦ a d y (sym (below xs b d y) ∙ e)
  | inr y ↦
      let s : d ≡ length xs = omega (arith, l, y, length-append xs (b ∷ [])) in
      subst (λ (z : ℕ). bit_and firsts (slice_index sets z) ≡ 0) (sym s)
      (h (sym (there xs b) ∙ subst (λ (z : ℕ). slice_index_or (xs ++ b ∷ []) z false ≡ false) s e))
]
  where
    below : (xs : List Bool) (b : Bool) (d : ℕ) → d < length xs → slice_index_or (xs ++ b ∷ []) d
        false ≡ slice_index_or xs d false
    below [] b d l = absurd (omega (arith, l))
    below (y ∷ xs) b zero l = refl
    below (y ∷ xs) b (suc d) l = below xs b d (omega (arith, l))

    there : (xs : List Bool) (b : Bool) → slice_index_or (xs ++ b ∷ []) (length xs) false ≡ b
    there [] b = refl
    there (y ∷ xs) b = there xs b

pub begins_grown : (firsts : ℕ) (sets : List ℕ) (xs ys : List Bool) (b : Bool) → ys ≡ xs ++ b ∷ []
    → (b ≡ false → bit_and firsts (slice_index sets (length xs)) ≡ 0) → BeginsAre firsts sets xs
    → BeginsAre firsts sets ys
begins_grown firsts sets xs ys b e h a = subst (BeginsAre firsts sets) (sym e)
    (λ d l f. begins_more firsts sets xs b d l f h a)

module _ {S : Type 0} (bits : S → ℕ) (size : ℕ) where
  pub table_is : (r : Tree) (t : Tables S) → letters r ≤ size → AreContexts bits r t.contexts
      → map tree t.leaves.items ≡ leaves_of r → IsTable r (table_of bits size t)
  table_is r t few all e = record {
    few = few;
    null_is = λ x. (all x).null_is;
    first_is = λ x. (all x).first_is;
    last_is = λ x. (all x).last_is;
    rows_is = λ x m n l. (all x).rows_is m n;
    takes_is = λ d. taken_is r (map tree t.leaves.items) d e;
  }

  -- a rune with which nothing begins
  pub none_begins : (t : Tables S) (d takes : ℕ) → IsWhole bits size t → takes ≡ taken_word (map tree t.leaves.items) d
      → bit_and (bits t.firsts) takes ≡ 0 → NoneBegins (table_of bits size t) d
  none_begins t d takes whole e z x n h =
      let y = on_and_from (bits (context_at t.contexts x).first) (taken_word (map tree t.leaves.items) d) n h in
      on_zero n (subst (λ (w : ℕ). IsTrue (on w n)) z (on_and (bits t.firsts) takes n (whole.firsts_is x n y.0)
      (subst (λ (w : ℕ). IsTrue (on w n)) (sym e) y.1)))

pub same_default : {X : Type 0} (xs : List X) (n : ℕ) (d e : X) → n < length xs → get_or xs n d ≡ get_or xs n e
same_default [] n d e l = absurd (omega (arith, l))
same_default (x ∷ xs) zero d e l = refl
same_default (x ∷ xs) (suc n) d e l = same_default xs n d e (omega (arith, l))

-- one row more that has nothing
pub nothing_more : (xs : List ℕ) (x : ℕ) → x ≡ 0 → HaveNothing xs → HaveNothing (xs ++ x ∷ [])
nothing_more [] x e h zero = e
nothing_more [] x e h (suc m) = refl
nothing_more (y ∷ xs) x e h zero = h zero
nothing_more (y ∷ xs) x e h (suc m) = nothing_more xs x e (λ n. h (suc n)) m

pub leaves_len : (back : Bool) (r : Tree) (leaves : List Re) → map tree leaves ≡ leaves_of (read_as back r)
    → length leaves ≡ letters r
leaves_len back r leaves e = sym (len tree leaves) ∙ ap length e ∙ leaves_count (read_as back r) ∙ read_letters back r

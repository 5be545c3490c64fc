-- Bad places, as texts get longer at the front.
use Rattle.std.proofs.Common.{◌≡◌, ℕ, ◌+◌, ◌≤◌, ◌==◌, Bool, true, false, List, [], ◌∷◌, ◌++◌, length, drop}
use Rattle.std.proofs.Common.{Option, Some, None, refl, sym, ap, subst, ◌∙◌, arith, append_assoc}
use Rattle.std.specs.Prelude.{if◌then◌else◌}
use Rattle.std.specs.Option.{option_map}
use Rattle.std.proofs.lemmas.List.{length-append, length-drop}
use Rattle.addr_syntax.specs.Marks.{next_of}
use Rattle.edit_parts.specs.Kinds.{is_next}
use Rattle.edit_parts.specs.Texts.{after_blanks}
use Rattle.edit_parts.proofs.Parts.{stands}
use Rattle.edit_files.specs.Answer.{GoesOn, Stops, IsBadAt, IsBadFrom}

module _ {X Y : Type 0} where
  moved_stops : (read : List ℕ → Option X) (whole : List ℕ → Option Y) (f : X → Y) (u front behind : List ℕ) →
      ((w : List ℕ) → whole (u ++ w) ≡ option_map f (read w)) → Stops read front behind →
      Stops whole (u ++ front) behind
  moved_stops read whole f u front [] e x = e front ∙ ap (option_map f) x
  moved_stops read whole f u front (c ∷ cs) e x = λ rest.
      ap whole (append_assoc u front (c ∷ rest)) ∙ e (front ++ c ∷ rest) ∙ ap (option_map f) (x rest)

  -- a part behind what always comes to the same
  pub moved : (read : List ℕ → Option X) (whole : List ℕ → Option Y) (f : X → Y) (u v : List ℕ) (q : ℕ) →
      ((w : List ℕ) → whole (u ++ w) ≡ option_map f (read w)) → IsBadAt read v q → IsBadAt whole (u ++ v) (length u + q)
  moved read whole f u v q e x = record {
    front = u ++ x.front;
    behind = x.behind;
    cut = ap (λ (l : List ℕ). u ++ l) x.cut ∙ sym (append_assoc u x.front x.behind);
    there = omega (arith, x.there, length-append u x.front);
    before = (
      x.before.0,
      f x.before.1,
      ap whole (append_assoc u x.front x.before.0) ∙ e (x.front ++ x.before.0) ∙ ap (option_map f) x.before.2,
    );
    after = moved_stops read whole f u x.front x.behind e x.after;
  }

  -- the same in a text
  pub moved_from : (read : List ℕ → Option X) (whole : List ℕ → Option Y) (f : X → Y) (text u : List ℕ)
      (from mid place : ℕ) →
      from ≤ mid → mid ≤ length text → drop from text ≡ u ++ drop mid text →
      ((w : List ℕ) → whole (u ++ w) ≡ option_map f (read w)) → IsBadFrom read text mid place →
      IsBadFrom whole text from place
  moved_from read whole f text u from mid place l m e g (q, at, x) = (
    length u + q,
    omega (arith, at, l, m, ap length e, length-append u (drop mid text), length-drop from text, length-drop mid text),
    subst (λ (t : List ℕ). IsBadAt whole t (length u + q)) (sym e) (moved read whole f u (drop mid text) q g x),
  )

module _ {X : Type 0} where
  pub map_same : (o : Option X) → option_map (λ x. x) o ≡ o
  map_same None = refl
  map_same (Some x) = refl

  -- a part that is read in the same way behind a front
  pub passed : (read whole : List ℕ → Option X) (u v : List ℕ) (q : ℕ) →
      ((w : List ℕ) → whole (u ++ w) ≡ read w) → IsBadAt read v q → IsBadAt whole (u ++ v) (length u + q)
  passed read whole u v q e x = moved read whole (λ x. x) u v q (λ w. e w ∙ sym (map_same (read w))) x

  pub passed_from : (read whole : List ℕ → Option X) (text u : List ℕ) (from mid place : ℕ) →
      from ≤ mid → mid ≤ length text → drop from text ≡ u ++ drop mid text →
      ((w : List ℕ) → whole (u ++ w) ≡ read w) → IsBadFrom read text mid place → IsBadFrom whole text from place
  passed_from read whole text u from mid place l m e g x =
      moved_from read whole (λ x. x) text u from mid place l m e (λ w. g w ∙ sym (map_same (read w))) x

-- ---- blanks

-- the blanks before a text, before which any text may stand
abbrev pub Blanks : List ℕ → Type 0
Blanks t = (u : List ℕ) × (t ≡ u ++ after_blanks t) × ((w : List ℕ) → after_blanks (u ++ w) ≡ after_blanks w)

blanks_at : (c : ℕ) (cs : List ℕ) → Blanks cs → (b : Bool) → (c == 32) ≡ b → Blanks (c ∷ cs)
blanks_at c cs s true e =
    let gone : (y : List ℕ) → after_blanks (c ∷ y) ≡ after_blanks y =
    λ y. ap (λ (v : Bool). if v then after_blanks y else c ∷ y) e in (
      c ∷ s.0,
      ap (λ (l : List ℕ). c ∷ l) (s.1 ∙ ap (λ (l : List ℕ). s.0 ++ l) (sym (gone cs))),
      λ w. gone (s.0 ++ w) ∙ s.2 w,
    )
blanks_at c cs s false e = ([], sym (ap (λ (v : Bool). if v then after_blanks cs else c ∷ cs) e), λ w. refl)

pub blanks : (t : List ℕ) → Blanks t
blanks [] = ([], refl, λ w. refl)
blanks (c ∷ cs) = blanks_at c cs (blanks cs) (c == 32) refl

module _ {X : Type 0} where
  -- behind blanks
  pub skipped_from : (read : List ℕ → Option X) (text : List ℕ) (from mid place : ℕ) → from ≤ mid → mid ≤ length text →
      drop mid text ≡ after_blanks (drop from text) → IsBadFrom (λ t. read (after_blanks t)) text mid place →
      IsBadFrom (λ t. read (after_blanks t)) text from place
  skipped_from read text from mid place l m e x =
      let b = blanks (drop from text) in
      passed_from (λ t. read (after_blanks t)) (λ t. read (after_blanks t)) text b.0 from mid place l m
      (b.1 ∙ ap (λ (t : List ℕ). b.0 ++ t) (sym e)) (λ w. ap read (b.2 w)) x

  solid_stops : (read : List ℕ → Option X) (front behind : List ℕ) → is_next 32 (next_of (front ++ behind)) ≡ false →
      Stops read front behind → Stops (λ t. read (after_blanks t)) front behind
  solid_stops read [] [] s x = x
  solid_stops read [] (c ∷ cs) s x = λ rest. ap read (stands (c ∷ rest) s) ∙ x rest
  solid_stops read (d ∷ ds) [] s x = ap read (stands (d ∷ ds) s) ∙ x
  solid_stops read (d ∷ ds) (c ∷ cs) s x = λ rest. ap read (stands (d ∷ ds ++ c ∷ rest) s) ∙ x rest

  solid_on : (read : List ℕ → Option X) (front behind : List ℕ) → is_next 32 (next_of (front ++ behind)) ≡ false →
      (x : X) → read [] ≡ Some x → GoesOn read front → GoesOn (λ t. read (after_blanks t)) front
  solid_on read [] behind s x e g = ([], x, e)
  solid_on read (d ∷ ds) behind s x e (more, y, h) = (more, y, ap read (stands (d ∷ ds ++ more) s) ∙ h)

  -- where no blank stands, and nothing is something
  pub solid_from : (read : List ℕ → Option X) (text : List ℕ) (from place : ℕ) →
      is_next 32 (next_of (drop from text)) ≡ false →
      (x : X) → read [] ≡ Some x → IsBadFrom read text from place → IsBadFrom
      (λ t. read (after_blanks t)) text from place
  solid_from read text from place s x e (q, at, bad) =
      let solid : is_next 32 (next_of (bad.front ++ bad.behind)) ≡ false =
      ap (λ (l : List ℕ). is_next 32 (next_of l)) (sym bad.cut) ∙ s in (
        q,
        at,
        record {
          front = bad.front;
          behind = bad.behind;
          cut = bad.cut;
          there = bad.there;
          before = solid_on read bad.front bad.behind solid x e bad.before;
          after = solid_stops read bad.front bad.behind solid bad.after;
        },
      )

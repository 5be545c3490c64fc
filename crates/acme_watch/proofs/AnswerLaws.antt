-- An answer is read as what it tells, and nothing else is read.
use Rattle.std.proofs.Common.{◌≡◌, ◌==◌, ℕ, ◌+◌, ◌-◌, ◌*◌, ◌^◌, ◌<◌, ◌≤◌, ◌&&◌, Bool, true, false, not, cond, List, []}
use Rattle.std.proofs.Common.{◌∷◌, ◌++◌, length, take, drop, Option, Some, None, refl, sym, ap, subst, ◌∙◌, arith}
use Rattle.std.proofs.Common.{length-append}
use Rattle.std.specs.Prelude.{nat_lt, codes}
use Rattle.std.specs.Char.{is_ascii_digit}
use Rattle.std.specs.Fmt.{decimal}
use Rattle.std.specs.List.{position, position_or_len}
use Rattle.std.specs.Str.{bytes_eq}
use Rattle.std.proofs.lemmas.Bool.{leb-true}
use Rattle.std.proofs.lemmas.Bool.Decides.{nat_tests}
use Rattle.std.proofs.lemmas.List.{take-append-drop}
use Rattle.std.proofs.lemmas.Slice.Eq.{bytes_eq-Decides}
use Rattle.am_text.specs.Number.{number_after, number_of}
use Rattle.am_text.proofs.Decimals.{number_is, number_of-decimal}
use Rattle.acme_watch.specs.Lines.{outcome_of, said_as, said_at, said_of}
use Rattle.acme_watch.specs.Laws.{told_text, ReadsAgain, ReadsOnly}
use Rattle.acme_watch.specs.declared.lines.Told.{Told}

-- ---- the two words

outcome_is : (word : List ℕ) (good : Bool) → outcome_of word ≡ Some good → word
    ≡ cond good (codes " ok\n") (codes " fail\n")
unfolding outcome_of
outcome_is word good e = by (bytes_eq word (codes " ok\n")) (bytes_eq word (codes " fail\n")) refl refl e
  where
    by : (b c : Bool) → bytes_eq word (codes " ok\n") ≡ b → bytes_eq word (codes " fail\n") ≡ c
        → cond b (Some true) (cond c (Some false) None) ≡ Some good → word ≡ cond good (codes " ok\n") (codes " fail\n")
    by true c f g h =
        let is : true ≡ good = cc in
        (bytes_eq-Decides word (codes " ok\n")).0 f ∙ ap (λ k. cond k (codes " ok\n") (codes " fail\n")) is
    by false true f g h =
        let is : false ≡ good = cc in
        (bytes_eq-Decides word (codes " fail\n")).0 g ∙ ap (λ k. cond k (codes " ok\n") (codes " fail\n")) is
    by false false f g h = absurd cc

done_well : outcome_of (codes " ok\n") ≡ Some true
unfolding outcome_of
done_well = refl

failed : outcome_of (codes " fail\n") ≡ Some false
unfolding outcome_of
failed = refl

-- ---- the number in front

both : (a b : Bool) → (a && b) ≡ true → (a ≡ true) × (b ≡ true)
both true b e = (refl, e)
both false b e = absurd cc

guard_some : {A : Type 0} (t : Bool) (r : Option A) (x : A) → cond t r None ≡ Some x → (t ≡ true) × (r ≡ Some x)
guard_some true r x e = (refl, e)
guard_some false r x e = absurd cc

guard_else : {A : Type 0} (t : Bool) (r : Option A) (x : A) → cond t None r ≡ Some x → r ≡ Some x
guard_else true r x e = absurd cc
guard_else false r x e = e

no_blank : (d : ℕ) → is_ascii_digit d ≡ true → not (d == 32) ≡ true
no_blank d e =
    let low : 48 ≤ d = leb-true 48 d (both _ _ e).0 in
    let other : (d == 32) ≡ false = grind (arith, nat_tests) in ap not other

blank_after : (ds : List ℕ) (m n : ℕ) (r : List ℕ) → number_after m ds ≡ Some n
    → position_or_len (λ b. b == 32) (ds ++ 32 ∷ r) ≡ length ds
unfolding number_after
blank_after [] m n r e = refl
blank_after (d ∷ ds) m n r e =
    let g = guard_some (is_ascii_digit d
    && nat_lt (m * 10 + (d - 48)) (2 ^ 64)) (number_after (m * 10 + (d - 48)) ds) n e in
    let digit = (both (is_ascii_digit d) (nat_lt (m * 10 + (d - 48)) (2 ^ 64)) g.0).0 in
    let later = blank_after ds (m * 10 + (d - 48)) n r g.1 in
    ap (λ b. cond b (1 + position_or_len (λ b. b == 32) (ds ++ 32 ∷ r)) 0) (no_blank d digit)
    ∙ ap (λ (k : ℕ). 1 + k) later ∙ omega arith

blank_behind : (ds : List ℕ) (n : ℕ) (r : List ℕ) → number_of ds ≡ Some n
    → position_or_len (λ b. b == 32) (ds ++ 32 ∷ r) ≡ length ds
blank_behind [] n r e = absurd cc
blank_behind (d ∷ []) n r e = blank_after (d ∷ []) 0 n r e
blank_behind (d ∷ f ∷ ds) n r e = blank_after (d ∷ f ∷ ds) 0 n r (guard_else (d == 48) _ n e)

take_front : (ds es : List ℕ) → take (length ds) (ds ++ es) ≡ ds
take_front [] es = refl
take_front (d ∷ ds) es = ap (λ (l : List ℕ). d ∷ l) (take_front ds es)

drop_front : (ds es : List ℕ) → drop (length ds) (ds ++ es) ≡ es
drop_front [] es = refl
drop_front (d ∷ ds) es = drop_front ds es

blank_place : (ds : List ℕ) (n : ℕ) (r : List ℕ) → number_of ds ≡ Some n → position (λ b. b == 32) (ds ++ 32 ∷ r)
    ≡ Some (length ds)
blank_place ds n r e =
    let place : position_or_len (λ b. b == 32) (ds ++ 32 ∷ r) ≡ length ds = blank_behind ds n r e in
    let long : length (ds ++ 32 ∷ r) ≡ length ds + length (32 ∷ r) = length-append ds (32 ∷ r) in
    let short : length ds < length (ds ++ 32 ∷ r) = omega (arith, long) in
    let within : nat_lt (length ds) (length (ds ++ 32 ∷ r)) ≡ true = grind (arith, nat_tests) in
    ap (λ (k : ℕ). cond (nat_lt k (length (ds ++ 32 ∷ r))) (Some k) None) place
    ∙ ap (λ b. cond b (Some (length ds)) None) within

-- ---- both

read_as : (n : ℕ) (r : List ℕ) (good : Bool) → n < 2 ^ 64 → outcome_of (32 ∷ r) ≡ Some good
    → said_of (decimal n ++ 32 ∷ r) ≡ Some (record { number = n; good = good })
read_as n r good fits o =
    let is : number_of (decimal n) ≡ Some n = number_of-decimal n fits in
    ap (λ p. said_at p (decimal n ++ 32 ∷ r)) (blank_place (decimal n) n r is)
    ∙ ap (λ (l : List ℕ). said_as (number_of l) (outcome_of (drop (length (decimal n)) (decimal n ++ 32 ∷ r))))
    (take_front (decimal n) (32 ∷ r))
    ∙ ap (λ (l : List ℕ). said_as (number_of (decimal n)) (outcome_of l)) (drop_front (decimal n) (32 ∷ r))
    ∙ ap (λ (k : Option ℕ). said_as k (outcome_of (32 ∷ r))) is
    ∙ ap (λ (k : Option Bool). said_as (Some n) k) o

pub again : ReadsAgain
again told fits = by told.good
  where
    by : (good : Bool) → said_of (decimal told.number ++ cond good (codes " ok\n") (codes " fail\n"))
        ≡ Some (record { number = told.number; good = good })
    by true = read_as told.number _ true fits done_well
    by false = read_as told.number _ false fits failed

pub only : ReadsOnly
only bytes told e = by (position (λ b. b == 32) bytes) e
  where
    parts : (k : ℕ) (number : Option ℕ) (good : Option Bool) → number_of (take k bytes) ≡ number
        → outcome_of (drop k bytes) ≡ good
        → said_as number good ≡ Some told → (told.number < 2 ^ 64) × (bytes ≡ told_text told)
    parts k None good f g h = absurd cc
    parts k (Some n) None f g h = absurd cc
    parts k (Some n) (Some good) f g h =
        let is : ◌≡◌ {A = Told} (record { number = n; good = good }) told = cc in
        let front = number_is (take k bytes) n f in
        let word = outcome_is (drop k bytes) good g in
        subst (λ (t : Told). (t.number < 2 ^ 64) × (bytes ≡ told_text t)) is (
          front.0,
          sym (take-append-drop k bytes) ∙ ap (λ (l : List ℕ). l ++ drop k bytes) front.1
              ∙ ap (λ (l : List ℕ). decimal n ++ l) word,
        )

    by : (place : Option ℕ) → said_at place bytes ≡ Some told → (told.number < 2 ^ 64) × (bytes ≡ told_text told)
    by None h = absurd cc
    by (Some k) h = parts k (number_of (take k bytes)) (outcome_of (drop k bytes)) refl refl h

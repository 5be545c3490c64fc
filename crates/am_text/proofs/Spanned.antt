-- The spans of the lines hold the lines.
use Rattle.std.proofs.Common.{◌≡◌, ℕ, zero, suc, ◌+◌, ◌-◌, ◌<◌, ◌≤◌, true, false, cond, eqb, List, [], ◌∷◌, ◌++◌}
use Rattle.std.proofs.Common.{length, map, take, drop, refl, sym, ap, ◌∙◌, append_assoc, arith}
use Rattle.std.specs.List.{onto_first}
use Rattle.std.proofs.lemmas.Bool.{eqb-true}
use Rattle.std.proofs.lemmas.Bool.Decides.{nat_tests}
use Rattle.std.proofs.lemmas.List.{append-nil, length-append}
use Rattle.am_text.specs.Lines.{spans_after, spans_of, line_at, lines_of}

-- bytes put before the first line; with no line they are one, but for none
onto : List ℕ → List (List ℕ) → List (List ℕ)
onto [] [] = []
onto (p ∷ ps) [] = (p ∷ ps) ∷ []
onto ps (l ∷ ls) = (ps ++ l) ∷ ls

onto-nil : (ls : List (List ℕ)) → onto [] ls ≡ ls
unfolding onto
onto-nil [] = refl
onto-nil (l ∷ ls) = refl

onto-first : (ps : List ℕ) (b : ℕ) (ls : List (List ℕ)) → onto (ps ++ b ∷ []) ls ≡ onto ps (onto_first b ls)
unfolding onto
onto-first [] b [] = refl
onto-first (p ∷ ps) b [] = refl
onto-first [] b (l ∷ ls) = refl
onto-first (p ∷ ps) b (l ∷ ls) = ap (λ (x : List ℕ). x ∷ ls) (append_assoc (p ∷ ps) (b ∷ []) l)

drop-front : (n : ℕ) (xs ys : List ℕ) → n ≤ length xs → drop n (xs ++ ys) ≡ drop n xs ++ ys
drop-front zero xs ys h = refl
drop-front (suc n) [] ys h = absurd (omega arith)
drop-front (suc n) (x ∷ xs) ys h = drop-front n xs ys (omega arith)

take-front : (xs ys : List ℕ) (n : ℕ) → n ≡ length xs → take n (xs ++ ys) ≡ xs
take-front [] ys n e = rw e refl
take-front (x ∷ xs) ys n e = rw e (ap (λ (l : List ℕ). x ∷ l) (take-front xs ys (length xs) refl))

drop-all : (xs : List ℕ) (n : ℕ) → n ≡ length xs → drop n xs ≡ []
drop-all [] n e = rw e refl
drop-all (x ∷ xs) n e = rw e (drop-all xs (length xs) refl)

length-drop : (n : ℕ) (xs : List ℕ) → n ≤ length xs → length (drop n xs) ≡ length xs - n
length-drop zero xs h = omega arith
length-drop (suc n) [] h = absurd (omega arith)
length-drop (suc n) (x ∷ xs) h = length-drop n xs (omega arith) ∙ omega arith

-- a span inside the front
within : (all pre bs : List ℕ) (from : ℕ) → all ≡ pre ++ bs → from ≤ length pre
    → line_at all (record { q0 = from; q1 = length pre }) ≡ drop from pre
within all pre bs from e h =
    let n : length pre - from ≡ length (drop from pre) = sym (length-drop from pre h) in
    rw (e, drop-front from pre bs h) (take-front (drop from pre) bs (length pre - from) n)

onto-one : (ps : List ℕ) → 0 < length ps → onto ps [] ≡ ps ∷ []
unfolding onto
onto-one [] h = absurd (omega arith)
onto-one (p ∷ ps) h = refl

onto-cons : (ps l : List ℕ) (ls : List (List ℕ)) → onto ps (l ∷ ls) ≡ (ps ++ l) ∷ ls
unfolding onto
onto-cons [] l ls = refl
onto-cons (p ∷ ps) l ls = refl

onto-none : (ps : List ℕ) → ps ≡ [] → onto ps [] ≡ []
unfolding onto
onto-none [] e = refl
onto-none (p ∷ ps) e = absurd cc

-- the span of what is pending
pending : (all pre bs : List ℕ) (from at : ℕ) → all ≡ pre ++ bs → at ≡ length pre → from ≤ at
    → line_at all (record { q0 = from; q1 = at }) ≡ drop from pre
pending all pre bs from at e n h =
    ap (λ (k : ℕ). line_at all (record { q0 = from; q1 = k })) n ∙ within all pre bs from e (omega arith)

last-span : (all pre : List ℕ) (from at : ℕ) → all ≡ pre ++ [] → at ≡ length pre → from ≤ at
    → map (line_at all) (spans_after from at []) ≡ onto (drop from pre) []
last-span all pre from at e n h =
    elim (eqb from at) as (λ t. eqb from at ≡ t → map (line_at all)
    (cond t [] (record { q0 = from; q1 = at } ∷ [])) ≡ onto (drop from pre) []) [
      | true ↦ λ i. sym (onto-none (drop from pre) (drop-all pre from (eqb-true from at i ∙ n)))
      | false ↦ λ i.
          let some : 0 < length (drop from pre) = let l = length-drop from pre (omega arith) in
          let d : from < at = grind (arith, nat_tests) in omega arith in
          ap (λ (x : List ℕ). x ∷ []) (pending all pre [] from at e n h) ∙ sym (onto-one (drop from pre) some)
    ] refl

spans-lines : (all pre bs : List ℕ) (from at : ℕ) → all ≡ pre ++ bs → at ≡ length pre → from ≤ at
    → map (line_at all) (spans_after from at bs) ≡ onto (drop from pre) (lines_of bs)
spans-lines all pre [] from at e n h = last-span all pre from at e n h
spans-lines all pre (b ∷ bs) from at e n h =
    let more : List ℕ = pre ++ b ∷ [] in
    let e' : all ≡ more ++ bs = e ∙ sym (append_assoc pre (b ∷ []) bs) in
    let n' : at + 1 ≡ length more = omega (arith, length-append pre (b ∷ []), n) in
    let next = spans-lines all more bs (at + 1) (at + 1) e' n' (omega arith) in
    let on = spans-lines all more bs from (at + 1) e' n' (omega arith) in
    elim (eqb b 10) as (λ t. map (line_at all) (cond t (record { q0 = from; q1 = at } ∷ spans_after (at + 1) (at + 1)
    bs) (spans_after from (at + 1) bs))
    ≡ onto (drop from pre) (cond t ([] ∷ lines_of bs) (onto_first b (lines_of bs)))) [
      | true ↦
          let front : line_at all (record { q0 = from; q1 = at }) ≡ drop from pre
          ++ [] = pending all pre (b ∷ bs) from at e n h ∙ sym (append-nil (drop from pre)) in
          let back : map (line_at all) (spans_after (at + 1) (at + 1) bs) ≡ lines_of bs =
          next ∙ ap (λ (x : List ℕ). onto x (lines_of bs)) (drop-all more (at + 1) n') ∙ onto-nil (lines_of bs) in
          ap (λ (x : List ℕ). x ∷ map (line_at all) (spans_after (at + 1) (at + 1) bs)) front
          ∙ ap (λ (x : List (List ℕ)). (drop from pre ++ []) ∷ x) back
          ∙ sym (onto-cons (drop from pre) [] (lines_of bs))
      | false ↦ on ∙ ap (λ (x : List ℕ). onto x (lines_of bs)) (drop-front from pre (b ∷ []) (omega arith))
          ∙ onto-first (drop from pre) b (lines_of bs)
    ]

pub lines_spans : (bytes : List ℕ) → map (line_at bytes) (spans_of bytes) ≡ lines_of bytes
lines_spans bytes = spans-lines bytes [] bytes 0 0 refl refl (omega arith) ∙ onto-nil (lines_of bytes)

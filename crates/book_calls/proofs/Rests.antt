-- What is missing is a proper end of the spelling of the last item.
use Rattle.std.proofs.Common.{◌≡◌, ℕ, suc, ◌+◌, ◌≤◌, true, false, cond, List, [], ◌∷◌, ◌++◌, length, sym, ap, ◌∙◌}
use Rattle.std.proofs.Common.{arith, append_assoc, append-nil}
use Rattle.std.proofs.lemmas.List.{length-append}
use Rattle.win_events.specs.Spelling.{spelling}
use Rattle.event_book.specs.WindowFiles.{EventFile}
use Rattle.event_book.specs.Laws.{took, spelled_in, last_spelled}
use Rattle.event_book.specs.declared.lives.Recorded.{Recorded}
use Rattle.book_calls.specs.Laws.{Gets, IsProperEnd}

-- two ways to cut a list, the second end the longer one
record IsEnd (rest whole : List ℕ) : Type 0 where
  front : List ℕ
  joined : front ++ rest ≡ whole

too_long : (x : ℕ) (rest before whole : List ℕ) → rest ≡ x ∷ before ++ whole → length rest ≤ length whole → ⊥
too_long x rest before whole h l =
    let size : length rest ≡ suc (length (before ++ whole)) = ap (λ (xs : List ℕ). length xs) h in
    let both : length (before ++ whole) ≡ length before + length whole = length-append before whole in
    omega (arith, size, both, l)

tail_same : (x y : ℕ) (xs ys : List ℕ) → x ∷ xs ≡ y ∷ ys → xs ≡ ys
tail_same x y xs ys h = cc

shorter_end : (given rest before whole : List ℕ) → given ++ rest ≡ before ++ whole → length rest ≤ length whole
    → IsEnd rest whole
shorter_end given rest [] whole h l = record { front = given; joined = h }
shorter_end [] rest (x ∷ before) whole h l = absurd (too_long x rest before whole h l)
shorter_end (y ∷ given) rest (x ∷ before) whole h l = shorter_end given rest before whole
    (tail_same y x (given ++ rest) (before ++ whole) h) l

-- what is spelled ends with the last item
record EndsWith (whole last : List ℕ) : Type 0 where
  before : List ℕ
  joined : whole ≡ before ++ last

ends_with_last : (o : ℕ) (last : List ℕ) (es : List Recorded) → EndsWith (last ++ spelled_in o es)
    (last_spelled o last es)
ends_with_last o last [] = record { before = []; joined = append-nil last }
ends_with_last o last (e ∷ es) =
    elim (took o e.life) as (λ b. EndsWith (last ++ cond b (spelling e.item ++ spelled_in o es) (spelled_in o es))
    (last_spelled o (cond b (spelling e.item) last) es)) [
      | true ↦
          let rest : EndsWith (spelling e.item ++ spelled_in o es) (last_spelled o (spelling e.item) es) =
          ends_with_last o (spelling e.item) es in
          record {
            before = last ++ rest.before;
            joined = ap (λ (x : List ℕ). last ++ x) rest.joined
                ∙ sym (append_assoc last rest.before (last_spelled o (spelling e.item) es));
          }
      | false ↦ ends_with_last o last es
    ]

pub proper_end : (given : List ℕ) (f : EventFile) (o : ℕ) (h : Gets given f o)
    → IsProperEnd h.missing (last_spelled o [] f.items)
proper_end given f o h =
    let last : List ℕ = last_spelled o [] f.items in
    let spelled : EndsWith (spelled_in o f.items) last = ends_with_last o [] f.items in
    let end : IsEnd h.missing last = shorter_end given h.missing spelled.before last (h.joined ∙ spelled.joined)
    (omega (arith, h.proper)) in
    record { front = end.front; joined = end.joined; shorter = h.proper }

-- Ranges of the texts of windows are read as they are spelled.
use Rattle.std.proofs.Common.{◌≡◌, ℕ, ◌<◌, ◌≤◌, List, ◌∷◌, ◌++◌, length, Option, Some, None, refl, ap, sym, subst, ◌∙◌}
use Rattle.std.proofs.Common.{append_assoc, arith}
use Rattle.std.specs.Fmt.{decimal}
use Rattle.am_text.specs.declared.range.Range.{Range}
use Rattle.am_text.specs.Number.{number_of}
use Rattle.am_text.proofs.Decimals.{number_is, number_of-decimal}
use Rattle.am_journal.specs.declared.event.Side.{Side}
use Rattle.am_journal.specs.declared.event.Spot.{Spot}
use Rattle.am_journal.specs.Lawful.{IsSpotInRange}
use Rattle.am_text.specs.Lines.{first_field, after_field}
use Rattle.am_journal.specs.Line.{side_word, window_at, side_of, range_from, range_at, spot_from, spot_at, first_spot}
use Rattle.am_journal.specs.Line.{after_spot, spot_words}
use Rattle.am_journal.proofs.FieldWords.{decimal-visible, first-is, after-is, split-is}
use Rattle.am_journal.proofs.WindowLaws.{window-again, side-again, side-visible, range_same, range-again, window-is}
use Rattle.am_journal.proofs.WindowLaws.{side-is, number_some, some_after, ends_some}

-- ---- what is spelled is read

spot_same : (a : Option ℕ) (b : Option Side) (c : Option Range) (at : Spot) → a ≡ Some at.window → b ≡ Some at.side
    → c ≡ Some at.range → spot_from a b c ≡ Some at
spot_same a b c at e f g = rw (e, f, g) refl

pub spot-again : (at : Spot) → at.range.q0 ≤ at.range.q1 → IsSpotInRange at → spot_at (spot_words at) ≡ Some at
unfolding spot_words
spot-again at ordered fits =
    let word = side_word at.side in
    let ends = decimal at.range.q0 ++ 32 ∷ decimal at.range.q1 in
    let words = word ++ 32 ∷ ends in
    let all = decimal at.window ++ 32 ∷ words in
    let seen = decimal-visible at.window (omega (arith, fits.0)) in
    let after : after_field all ≡ words = after-is (decimal at.window) words seen in
    spot_same (window_at (first_field all)) (side_of (first_field (after_field all)))
    (range_at (after_field (after_field all))) at
    (ap window_at (first-is (decimal at.window) words seen) ∙ window-again at.window fits.0)
    (ap (λ (l : List ℕ). side_of (first_field l)) after ∙ ap side_of (first-is word ends (side-visible at.side))
    ∙ side-again at.side)
    (ap (λ (l : List ℕ). range_at (after_field l)) after ∙ ap range_at (after-is word ends (side-visible at.side))
    ∙ range-again at.range ordered fits.1 fits.2)

-- four fields, and what stands after them
abbrev then_words : Spot → List ℕ → List ℕ
then_words at rest = decimal at.window ++ 32 ∷ (side_word at.side ++ 32 ∷ (decimal at.range.q0
    ++ 32 ∷ (decimal at.range.q1 ++ 32 ∷ rest)))

words_then : (at : Spot) (rest : List ℕ) → spot_words at ++ 32 ∷ rest ≡ then_words at rest
unfolding spot_words
words_then at rest =
    let last = 32 ∷ decimal at.range.q1 in
    let ends = 32 ∷ (decimal at.range.q0 ++ last) in
    let words = 32 ∷ (side_word at.side ++ ends) in
    append_assoc (decimal at.window) words (32 ∷ rest)
    ∙ ap (λ (l : List ℕ). decimal at.window ++ 32 ∷ l) (append_assoc (side_word at.side) ends (32 ∷ rest))
    ∙ ap (λ (l : List ℕ). decimal at.window ++ 32 ∷ (side_word at.side ++ 32 ∷ l))
    (append_assoc (decimal at.range.q0) last (32 ∷ rest))

-- what is left of four fields after each of them
record Left (at : Spot) (rest : List ℕ) : Type 0 where
  one : after_field (then_words at rest) ≡ side_word at.side ++ 32 ∷ (decimal at.range.q0
      ++ 32 ∷ (decimal at.range.q1 ++ 32 ∷ rest))
  two : after_field (after_field (then_words at rest)) ≡ decimal at.range.q0 ++ 32 ∷ (decimal at.range.q1 ++ 32 ∷ rest)
  three : after_field (after_field (after_field (then_words at rest))) ≡ decimal at.range.q1 ++ 32 ∷ rest
  four : after_spot (then_words at rest) ≡ rest

left : (at : Spot) (rest : List ℕ) → IsSpotInRange at → Left at rest
left at rest fits =
    let last = decimal at.range.q1 ++ 32 ∷ rest in
    let ends = decimal at.range.q0 ++ 32 ∷ last in
    let words = side_word at.side ++ 32 ∷ ends in
    let all = then_words at rest in
    let one : after_field all ≡ words = after-is (decimal at.window) words
    (decimal-visible at.window (omega (arith, fits.0))) in
    let two : after_field (after_field all) ≡ ends = ap after_field one
    ∙ after-is (side_word at.side) ends (side-visible at.side) in
    let three : after_field (after_field (after_field all)) ≡ last = ap after_field two
    ∙ after-is (decimal at.range.q0) last (decimal-visible at.range.q0 fits.1) in
    record {
      one = one;
      two = two;
      three = three;
      four = ap after_field three
          ∙ after-is (decimal at.range.q1) rest (decimal-visible at.range.q1 fits.2);
    }

first-then : (at : Spot) (rest : List ℕ) → at.range.q0 ≤ at.range.q1 → IsSpotInRange at
    → first_spot (then_words at rest) ≡ Some at
first-then at rest ordered fits =
    let last = decimal at.range.q1 ++ 32 ∷ rest in
    let ends = decimal at.range.q0 ++ 32 ∷ last in
    let words = side_word at.side ++ 32 ∷ ends in
    let all = then_words at rest in
    let l = left at rest fits in
    let range = range_same (number_of (first_field (after_field (after_field all))))
    (number_of (first_field (after_field (after_field (after_field all))))) at.range
    (ap (λ (l : List ℕ). number_of (first_field l)) l.two ∙ ap number_of
    (first-is (decimal at.range.q0) last (decimal-visible at.range.q0 fits.1))
    ∙ number_of-decimal at.range.q0 fits.1)
    (ap (λ (l : List ℕ). number_of (first_field l)) l.three ∙ ap number_of
    (first-is (decimal at.range.q1) rest (decimal-visible at.range.q1 fits.2))
    ∙ number_of-decimal at.range.q1 fits.2)
    ordered in
    spot_same (window_at (first_field all)) (side_of (first_field (after_field all)))
    (range_from (number_of (first_field (after_field (after_field all))))
    (number_of (first_field (after_field (after_field (after_field all)))))) at
    (ap window_at (first-is (decimal at.window) words (decimal-visible at.window (omega (arith, fits.0))))
    ∙ window-again at.window fits.0)
    (ap (λ (l : List ℕ). side_of (first_field l)) l.one ∙ ap side_of
    (first-is (side_word at.side) ends (side-visible at.side)) ∙ side-again at.side)
    range

pub first_spot-again : (at : Spot) (rest : List ℕ) → at.range.q0 ≤ at.range.q1 → IsSpotInRange at
    → first_spot (spot_words at ++ 32 ∷ rest) ≡ Some at
first_spot-again at rest ordered fits = ap first_spot (words_then at rest) ∙ first-then at rest ordered fits

pub after_spot-again : (at : Spot) (rest : List ℕ) → IsSpotInRange at → after_spot (spot_words at ++ 32 ∷ rest) ≡ rest
after_spot-again at rest fits = ap after_spot (words_then at rest) ∙ (left at rest fits).four

-- ---- what is read is spelled so

record Spots (o : Option ℕ) (s : Option Side) (r : Option Range) (at : Spot) : Type 0 where
  window-is : o ≡ Some at.window
  side-is : s ≡ Some at.side
  range-is : r ≡ Some at.range

spot_is : (a b : Spot) → Some a ≡ Some b → a ≡ b
spot_is a b e = cc

spots_some : (o : Option ℕ) (s : Option Side) (r : Option Range) (at : Spot) → spot_from o s r ≡ Some at
    → Spots o s r at
spots_some None s r at h = absurd cc
spots_some (Some w) None r at h = absurd cc
spots_some (Some w) (Some on) None at h = absurd cc
spots_some (Some w) (Some on) (Some range) at h =
    let made : Spot = record { window = w; side = on; range = range } in
    subst (Spots (Some w) (Some on) (Some range)) (spot_is made at h)
    (record { window-is = refl; side-is = refl; range-is = refl })

-- the bytes spell a range of a window's text, and then come others
pub record Spelled (bs words : List ℕ) (at : Spot) : Type 0 where
  pub ordered : at.range.q0 ≤ at.range.q1
  pub in_range : IsSpotInRange at
  pub spelled : bs ≡ words

pub spot-is : (bs : List ℕ) (at : Spot) → spot_at bs ≡ Some at → Spelled bs (spot_words at) at
unfolding spot_words
spot-is bs at h =
    let words = after_field bs in
    let ends = after_field words in
    let k = spots_some (window_at (first_field bs)) (side_of (first_field words)) (range_at ends) at h in
    let window = window-is (first_field bs) at.window k.window-is in
    let word = side-is (first_field words) at.side k.side-is in
    let numbers = ends_some (number_of (first_field ends)) (number_of (after_field ends)) at.range k.range-is in
    let first = number_is (first_field ends) at.range.q0 numbers.from-is in
    let last = number_is (after_field ends) at.range.q1 numbers.to-is in
    let q0 = decimal at.range.q0 in
    let q1 = decimal at.range.q1 in
    let some : 0 < length q1 = subst (λ (l : List ℕ). 0 < length l) last.1
    (number_some (after_field ends) at.range.q1 numbers.to-is) in
    let ends-is : ends ≡ q0 ++ 32 ∷ q1 = split-is ends q0 q1 first.1 last.1 some in
    let words-is : words ≡ side_word at.side ++ 32 ∷ (q0 ++ 32 ∷ q1) = split-is words (side_word at.side)
    (q0 ++ 32 ∷ q1) word ends-is (some_after q0 q1) in
    record {
      ordered = numbers.ordered;
      in_range = (window.0, first.0, last.0);
      spelled = split-is bs (decimal at.window) (side_word at.side ++ 32 ∷ (q0 ++ 32 ∷ q1)) window.1 words-is
          (some_after (side_word at.side) (q0 ++ 32 ∷ q1));
    }

pub first_spot-is : (bs : List ℕ) (at : Spot) → first_spot bs ≡ Some at → 0 < length (after_spot bs)
    → Spelled bs (spot_words at ++ 32 ∷ after_spot bs) at
first_spot-is bs at h some =
    let words = after_field bs in
    let ends = after_field words in
    let seconds = after_field ends in
    let rest = after_field seconds in
    let k = spots_some (window_at (first_field bs)) (side_of (first_field words))
    (range_from (number_of (first_field ends)) (number_of (first_field seconds))) at h in
    let window = window-is (first_field bs) at.window k.window-is in
    let word = side-is (first_field words) at.side k.side-is in
    let numbers = ends_some (number_of (first_field ends)) (number_of (first_field seconds)) at.range k.range-is in
    let first = number_is (first_field ends) at.range.q0 numbers.from-is in
    let last = number_is (first_field seconds) at.range.q1 numbers.to-is in
    let q0 = decimal at.range.q0 in
    let tail = decimal at.range.q1 ++ 32 ∷ rest in
    let seconds-is : seconds ≡ tail = split-is seconds (decimal at.range.q1) rest last.1 refl some in
    let ends-is : ends ≡ q0 ++ 32 ∷ tail = split-is ends q0 tail first.1 seconds-is
    (some_after (decimal at.range.q1) rest) in
    let words-is : words ≡ side_word at.side ++ 32 ∷ (q0 ++ 32 ∷ tail) = split-is words (side_word at.side)
    (q0 ++ 32 ∷ tail) word ends-is (some_after q0 tail) in
    record {
      ordered = numbers.ordered;
      in_range = (window.0, first.0, last.0);
      spelled = split-is bs (decimal at.window) (side_word at.side ++ 32 ∷ (q0 ++ 32 ∷ tail)) window.1 words-is
          (some_after (side_word at.side) (q0 ++ 32 ∷ tail))
          ∙ sym (words_then at rest);
    }

-- something is spelled
pub words_some : (at : Spot) → 0 < length (spot_words at)
unfolding spot_words
words_some at = some_after (decimal at.window) (side_word at.side ++ 32 ∷ (decimal at.range.q0
    ++ 32 ∷ decimal at.range.q1))

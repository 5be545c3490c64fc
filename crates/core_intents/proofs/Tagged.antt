-- How long a tag is.
use Rattle.std.proofs.Common.{◌≡◌, ℕ, ◌+◌, Bool, true, false, List, ◌++◌, length, codes, refl, sym, ap, ◌∙◌, arith}
use Rattle.std.specs.Prelude.{nat_le}
use Rattle.std.proofs.lemmas.List.{length-append}
use Rattle.win_ctl.specs.declared.tags.Tag.{Tag}
use Rattle.win_ctl.specs.declared.tags.Shown.{Shown}
use Rattle.win_ctl.specs.Tags.{word_if, shows_put, tag_text}
use Rattle.core_intents.specs.Spots.{len_if, words_len}

word_len : (b : Bool) (word : List ℕ) (n : ℕ) → length word ≡ n → length (word_if b word) ≡ len_if b n
word_len true word n e = e
word_len false word n e = refl

pub tag_len : (name right : List ℕ) (s : Shown) → length (tag_text (record { name = name; right = right }) s)
    ≡ length name + words_len name s + length right
unfolding tag_text
tag_len name right s =
    let t : Tag = record { name = name; right = right } in
    let undo : List ℕ = word_if s.undo (codes " Undo") in
    let redo : List ℕ = word_if s.redo (codes " Redo") in
    let put : List ℕ = word_if (shows_put t s) (codes " Put") in
    let get : List ℕ = word_if s.dir (codes " Get") in
    let snarf : List ℕ = codes " Del Snarf" in
    let bar : List ℕ = codes " |" in
    let ten : length snarf ≡ 10 = refl in
    let two : length bar ≡ 2 = refl in
    omega (
      arith,
      length-append (name ++ snarf ++ undo ++ redo ++ put ++ get ++ bar) right,
      length-append (name ++ snarf ++ undo ++ redo ++ put ++ get) bar,
      length-append (name ++ snarf ++ undo ++ redo ++ put) get,
      length-append (name ++ snarf ++ undo ++ redo) put,
      length-append (name ++ snarf ++ undo) redo,
      length-append (name ++ snarf) undo,
      length-append name snarf,
      ten,
      two,
      word_len s.undo (codes " Undo") 5 refl,
      word_len s.redo (codes " Redo") 5 refl,
      word_len (shows_put t s) (codes " Put") 4 refl,
      word_len s.dir (codes " Get") 4 refl,
    )

-- a place in the tag, by its length
pub tag_place : (b : Bool) (place first words last : ℕ) (name right : List ℕ) (s : Shown)
    → b ≡ nat_le place (first + words + last) → first ≡ length name → words ≡ words_len name s → last ≡ length right
    → b ≡ nat_le place (length (tag_text (record { name = name; right = right }) s))
tag_place b place first words last name right s is f w l =
    is ∙ ap (λ (n : ℕ). nat_le place (n + words + last)) f ∙ ap (λ (n : ℕ). nat_le place (length name + n + last)) w
    ∙ ap (λ (n : ℕ). nat_le place (length name + words_len name s + n)) l
    ∙ ap (nat_le place) (sym (tag_len name right s))

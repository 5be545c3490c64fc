-- Arguments, one rune or one piece further.
use Rattle.std.proofs.Common.{◌≡◌, ℕ, suc, ◌+◌, ◌<◌, List, [], ◌∷◌, ◌++◌, length, get_or, take, drop, refl, ap, sym}
use Rattle.std.proofs.Common.{◌∙◌, append_assoc, drop-cons, add-one, arith}
use Rattle.std.specs.Prelude.{map}
use Rattle.std.proofs.lemmas.List.{append-nil, take_more}
use Rattle.rule_syntax.specs.Arguments.{rune_pieces, step, reads, onto, runes_of}
use Rattle.rule_syntax.specs.declared.rule.Piece.{Piece}
use Rattle.rule_syntax.specs.declared.rule.Piece.TheVariants as piece
use Rattle.rule_syntax.specs.declared.rule.Var.{Var}
use Rattle.rule_syntax.specs.declared.argument.Reader.{Reader}

map-append : (f : ℕ → Piece) (xs ys : List ℕ) → map f (xs ++ ys) ≡ map f xs ++ map f ys
map-append f [] ys = refl
map-append f (x ∷ xs) ys = ap (λ (l : List Piece). f x ∷ l) (map-append f xs ys)

pub runes_more : (text : List ℕ) (i : ℕ) → i < length text → rune_pieces (take (i + 1) text) ≡ rune_pieces (take i text)
    ++ piece.Rune (get_or text i 0) ∷ []
runes_more text i h = ap rune_pieces (take_more text i 0 h) ∙ map-append piece.Rune (take i text) (get_or text i 0 ∷ [])

pub ruleset pieces = (runes_more, append_assoc, append-nil)

pub reads_more : (vars : List Var) (r : Reader) (text : List ℕ) (i : ℕ) → i < length text
    → reads vars (step vars r (get_or text i 0)) (drop (i + 1) text) ≡ reads vars r (drop i text)
reads_more vars r text i h = rw add-one (sym (ap (reads vars r) (drop-cons text i 0 h)))

pub ruleset readings = (reads_more)

runes-append : (xs ys : List Piece) → runes_of (xs ++ ys) ≡ runes_of xs ++ runes_of ys
runes-append [] ys = refl
runes-append (piece.Rune c ∷ xs) ys = ap (λ (l : List ℕ). c ∷ l) (runes-append xs ys)
runes-append (piece.Late v ∷ xs) ys = runes-append xs ys

pub runes_of_more : (xs : List Piece) (i : ℕ) (p : Piece) → i < length xs
    → runes_of (take (i + 1) xs) ≡ runes_of (take i xs) ++ onto (get_or xs i p) []
runes_of_more xs i p h = ap runes_of (take_more xs i p h) ∙ runes-append (take i xs) (get_or xs i p ∷ [])

pub ruleset runes = (runes_of_more, append-nil)

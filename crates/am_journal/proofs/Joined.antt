-- Lists joined one after the other.
use Rattle.std.proofs.Common.{◌≡◌, ℕ, ◌+◌, ◌<◌, List, ◌++◌, length, take, get_or, ap, sym, ◌∙◌, append_assoc}
use Rattle.std.specs.List.{flat_map}
use Rattle.std.proofs.lemmas.List.{append-nil, take_more}
use Rattle.std.proofs.lemmas.Grind.{flat_map-append}

-- one more member of a list whose members are written one after the other
pub flat_map-more : {A : Type 0} (f : A → List ℕ) (xs : List A) (i : ℕ) (x : A) → i < length xs
    → flat_map f (take (i + 1) xs) ≡ flat_map f (take i xs) ++ f (get_or xs i x)
flat_map-more f xs i x h = rw (take_more xs i x h, flat_map-append)
    (ap (λ (l : List ℕ). flat_map f (take i xs) ++ l) (append-nil (f (get_or xs i x))))

pub three : (a b c d : List ℕ) → ((a ++ b) ++ c) ++ d ≡ a ++ ((b ++ c) ++ d)
three a b c d = append_assoc (a ++ b) c d ∙ append_assoc a b (c ++ d)
    ∙ ap (λ (l : List ℕ). a ++ l) (sym (append_assoc b c d))

pub ruleset joined = (append_assoc, append-nil)

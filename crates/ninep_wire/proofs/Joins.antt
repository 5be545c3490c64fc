-- Lists joined one after the other.
use Rattle.std.proofs.Common.{◌≡◌, ℕ, List, ◌++◌, append_assoc, ◌∙◌}
use Rattle.std.proofs.lemmas.List.{append-nil}

pub ruleset joins = (append_assoc, append-nil)

-- three parts put one after the other
pub three : (out a b c x y z : List ℕ) → x ≡ out ++ a → y ≡ x ++ b → z ≡ y ++ c → z ≡ out ++ (a ++ (b ++ c))
three out a b c x y z p q r = rw (r, q, p) (append_assoc (out ++ a) b c ∙ append_assoc out a (b ++ c))

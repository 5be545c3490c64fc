-- Lists joined one after the other.
use Rattle.std.proofs.Common.{◌≡◌, ℕ, List, ◌++◌, length, append_assoc, ◌∙◌}
use Rattle.std.specs.Int.{w16, to_le_bytes}
use Rattle.std.proofs.lemmas.List.{append-nil}

pub ruleset joins = (append_assoc, append-nil)

-- three parts put one after the other
pub three : (out a b c x y z : List ℕ) → x ≡ out ++ a → y ≡ x ++ b → z ≡ y ++ c → z ≡ out ++ (a ++ (b ++ c))
three out a b c x y z p q r = rw (r, q, p) (append_assoc (out ++ a) b c ∙ append_assoc out a (b ++ c))

-- the number of bytes, and the bytes
pub sized : (out x z fields : List ℕ) (n : ℕ) → n ≡ length fields → x ≡ out ++ to_le_bytes w16 n
    → z ≡ x ++ fields → z ≡ out ++ (to_le_bytes w16 (length fields) ++ fields)
sized out x z fields n same p q = rw (q, p, same) (append_assoc out (to_le_bytes w16 (length fields)) fields)

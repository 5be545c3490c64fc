-- Hexadecimal: reading, one pair further, and reading undoes writing.
use Rattle.std.proofs.Common.{◌≡◌, ℕ, ◌+◌, ◌-◌, ◌*◌, ◌/◌, ◌%◌, ◌<◌, ◌≤◌, Bool, true, false, cond, ◌&&◌, leb, ltb, List}
use Rattle.std.proofs.Common.{[], ◌∷◌, ◌++◌, length, take, get_or, drop, Option, Some, None, refl, ap, sym, ◌∙◌}
use Rattle.std.proofs.Common.{append_assoc, arith, inl, inr, suc, zero}
use Rattle.std.specs.List.{flat_map}
use Rattle.std.proofs.lemmas.List.{append-nil}
use Rattle.am_journal.specs.Hexadecimal.{hex_byte, byte_at, then_bytes, bytes_of_hex}
use Rattle.am_journal.proofs.Joined.{flat_map-more}

-- ---- one pair further

-- what was read before, and what is still read
abbrev pub with_front : List ℕ → Option (List ℕ) → Option (List ℕ)
with_front front None = None
with_front front (Some rest) = Some (front ++ rest)

pub hex-nil : (front rest : List ℕ) → length rest ≡ 0 → with_front front (bytes_of_hex rest) ≡ Some front
unfolding bytes_of_hex
hex-nil front [] h = ap (λ (x : List ℕ). Some x) (append-nil front)
hex-nil front (b ∷ bs) h = absurd (omega arith)

-- one byte alone is no pair
pub hex-odd : (front rest : List ℕ) → 0 < length rest → length rest < 2 → with_front front (bytes_of_hex rest) ≡ None
unfolding bytes_of_hex
hex-odd front [] h k = absurd (omega arith)
hex-odd front (a ∷ []) h k = refl
hex-odd front (a ∷ b ∷ bs) h k = absurd (omega arith)

start : (o : Option (List ℕ)) → with_front [] o ≡ o
start None = refl
start (Some x) = refl

pub hex-start : (rest : List ℕ) → with_front [] (bytes_of_hex rest) ≡ bytes_of_hex rest
hex-start rest = start (bytes_of_hex rest)

pub hex-none : (front rest : List ℕ) → 2 ≤ length rest → byte_at (get_or rest 0 0) (get_or rest 1 0) ≡ None →
    with_front front (bytes_of_hex rest) ≡ None
unfolding bytes_of_hex
hex-none front [] l h = absurd (omega arith)
hex-none front (a ∷ []) l h = absurd (omega arith)
hex-none front (a ∷ b ∷ rest) l h = ap (λ (o : Option ℕ). with_front front (then_bytes o (bytes_of_hex rest))) h

more : (front : List ℕ) (byte : ℕ) (o : Option (List ℕ)) → with_front front
    (then_bytes (Some byte) o) ≡ with_front (front ++ byte ∷ []) o
more front byte None = refl
more front byte (Some x) = ap (λ (l : List ℕ). Some l) (sym (append_assoc front (byte ∷ []) x))

pub hex-more : (front rest : List ℕ) (byte : ℕ) → 2 ≤ length rest → byte_at (get_or rest 0 0)
    (get_or rest 1 0) ≡ Some byte
    → with_front front (bytes_of_hex rest) ≡ with_front (front ++ byte ∷ []) (bytes_of_hex (drop 2 rest))
unfolding bytes_of_hex
hex-more front [] byte l h = absurd (omega arith)
hex-more front (a ∷ []) byte l h = absurd (omega arith)
hex-more front (a ∷ b ∷ rest) byte l h =
    ap (λ (o : Option ℕ). with_front front (then_bytes o (bytes_of_hex rest))) h ∙ more front byte (bytes_of_hex rest)

pub ruleset hexes = (hex-nil, hex-start, hex-none, hex-odd)

pub digits_more : (bs : List ℕ) (i : ℕ) → i < length bs → flat_map hex_byte (take (i + 1) bs) ≡ flat_map hex_byte
    (take i bs) ++ hex_byte (get_or bs i 0)
digits_more bs i h = flat_map-more hex_byte bs i 0 h

pub ruleset hex_more = (digits_more, append_assoc, append-nil)

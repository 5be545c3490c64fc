-- Decoding goes on from the front.
use Rattle.std.proofs.Common.{◌≡◌, ℕ, zero, suc, ◌+◌, ◌-◌, ◌<◌, ◌≤◌, List, [], ◌∷◌, ◌++◌, length, take, drop, get_or}
use Rattle.std.proofs.Common.{refl, sym, ap, ◌∙◌, append_assoc, arith}
use Rattle.std.proofs.lemmas.List.{append-nil, take_more}
use Rattle.std.proofs.lemmas.Grind.{flat_map-append}
use Rattle.am_text.specs.Utf8.{front_rune, front_width, decode_after, decode, rune_bytes, utf8}

decode_after-drop : (n : ℕ) (bs : List ℕ) → decode_after n bs ≡ decode (drop n bs)
unfolding decode_after
decode_after-drop zero bs = refl
decode_after-drop (suc n) [] = refl
decode_after-drop (suc n) (b ∷ bs) = decode_after-drop n bs

skip : (w b : ℕ) (bs : List ℕ) → 0 < w → decode_after (w - 1) bs ≡ decode (drop w (b ∷ bs))
skip zero b bs h = absurd (omega arith)
skip (suc n) b bs h = let e : suc n - 1 ≡ n = omega arith in rw e (decode_after-drop n bs)

-- one step of decoding
pub decode-front : (bs : List ℕ) → 0 < length bs → 0 < front_width bs
    → decode bs ≡ front_rune bs ∷ decode (drop (front_width bs) bs)
unfolding decode_after
decode-front [] h w = absurd (omega arith)
decode-front (b ∷ bs) h w = ap (λ (rs : List ℕ). front_rune (b ∷ bs) ∷ rs) (skip (front_width (b ∷ bs)) b bs w)

pub decode-nil : (bs : List ℕ) → length bs ≡ 0 → decode bs ≡ []
unfolding decode_after
decode-nil [] h = refl
decode-nil (b ∷ bs) h = absurd (omega arith)

pub encodes_more : (rs : List ℕ) (i : ℕ) → i < length rs → utf8 (take (i + 1) rs) ≡ utf8 (take i rs)
    ++ rune_bytes (get_or rs i 0)
encodes_more rs i h = rw (take_more rs i 0 h, flat_map-append) (ap (λ (x : List ℕ). utf8 (take i rs) ++ x)
    (append-nil (rune_bytes (get_or rs i 0))))

pub ruleset decoding = (decode-front, decode-nil, append_assoc, append-nil)

-- Scanning a line, one byte further.
use Rattle.std.proofs.Common.{◌≡◌, ℕ, ◌+◌, ◌<◌, ◌≤◌, length-drop, List, [], ◌∷◌, length, get_or, drop, Option, Some}
use Rattle.std.proofs.Common.{None, refl, ap, sym, ◌∙◌, drop-cons, add-one, suc, arith}
use Rattle.plumb_msg.specs.Attributes.{then_scan, step, scan}
use Rattle.plumb_msg.specs.declared.scanning.Scan.{Scan}

scan-cons : (s : Scan) (b : ℕ) (bs : List ℕ) → scan s (b ∷ bs) ≡ then_scan (step s b) (λ t. scan t bs)
unfolding scan
scan-cons s b bs = refl

scan-drop : (s : Scan) (bs : List ℕ) (i : ℕ) → i < length bs → scan s (drop i bs) ≡ then_scan (step s (get_or bs i 0))
    (λ t. scan t (drop (i + 1) bs))
scan-drop s bs i h = rw add-one (ap (scan s) (drop-cons bs i 0 h) ∙ scan-cons s (get_or bs i 0) (drop (suc i) bs))

pub scan_more : (s t : Scan) (bs : List ℕ) (i : ℕ) → i < length bs → Some t ≡ step s (get_or bs i 0)
    → scan t (drop (i + 1) bs) ≡ scan s (drop i bs)
scan_more s t bs i h e = ap (λ (o : Option Scan). then_scan o (λ t. scan t (drop (i + 1) bs))) e
    ∙ sym (scan-drop s bs i h)

pub scan_stuck : (s : Scan) (bs : List ℕ) (i : ℕ) → i < length bs → None ≡ step s (get_or bs i 0)
    → scan s (drop i bs) ≡ None
scan_stuck s bs i h e = scan-drop s bs i h ∙ sym (ap (λ (o : Option Scan). then_scan o (λ t. scan t (drop (i + 1) bs)))
    e)

scan-nil : (s : Scan) (bs : List ℕ) → length bs ≡ 0 → scan s bs ≡ Some s
unfolding scan
scan-nil s [] h = refl
scan-nil s (b ∷ bs) h = absurd (omega arith)

pub scan_end : (s : Scan) (bs : List ℕ) (i : ℕ) → length bs ≤ i → scan s (drop i bs) ≡ Some s
scan_end s bs i h = scan-nil s (drop i bs) (omega (arith, length-drop i bs))

pub ruleset scans = (scan_more, scan_stuck, scan_end)

-- Fronts of a line that was scanned.
use Rattle.std.proofs.Common.{◌≡◌, ℕ, List, [], ◌∷◌, ◌++◌, length, take, drop, Option, Some, None, true, refl, ap, sym}
use Rattle.std.proofs.Common.{◌∙◌}
use Rattle.std.specs.Prelude.{is_some, nat_eq}
use Rattle.std.specs.Cmp.Lexicographic.{bytes_decides}
use Rattle.std.specs.List.{starts_with}
use Rattle.std.proofs.lemmas.List.{take-append-drop}
use Rattle.plumb_msg.specs.Attributes.{then_scan, scan, start}
use Rattle.plumb_msg.specs.declared.scanning.Scan.{Scan}
use Rattle.plumb_msg.proofs.Attributes.{scan-append}

-- a line goes on from its front
pub scan_on : (line front more : List ℕ) (s : Scan) (o : Option Scan)
    → front ++ drop (length front) line ≡ line → scan start front ≡ Some s → more ≡ drop (length front) line
    → o ≡ scan s more → o ≡ scan start line
scan_on line front more s o parts is e so =
    so ∙ ap (scan s) e
    ∙ sym (ap (λ (k : Option Scan). then_scan k (λ t. scan t (drop (length front) line))) is)
    ∙ sym (scan-append start front (drop (length front) line))
    ∙ ap (scan start) parts

pub nothing_scanned : scan start [] ≡ Some start
unfolding scan
nothing_scanned = refl

pub nothing_known : (front : List ℕ) → front ≡ [] → scan start front ≡ Some start
nothing_known front e = ap (scan start) e ∙ nothing_scanned

pub scan_more_of : (line front more : List ℕ) (s t : Scan) → front ++ drop (length front) line ≡ line → scan start
    front ≡ Some s → more ≡ drop (length front) line → Some t ≡ scan s more → true ≡ is_some (scan start line)
scan_more_of line front more s t parts is e so = ap is_some (scan_on line front more s (Some t) parts is e so)

pub scan_grown : (front more : List ℕ) (s t : Scan) → scan start front ≡ Some s → Some t ≡ scan s more
    → scan start (front ++ more) ≡ Some t
scan_grown front more s t is so = scan-append start front more ∙ ap
    (λ (k : Option Scan). then_scan k (λ u. scan u more)) is ∙ sym so

pub ruleset memos = (scan_on, nothing_scanned, nothing_known, scan_more_of, scan_grown)

-- ---- fronts

pub no_front : (front line : List ℕ) → front ≡ [] → front ++ drop (length front) line ≡ line
no_front front line e = ap (λ (l : List ℕ). l ++ drop (length l) line) e

pub begins : (line front : List ℕ) → starts_with nat_eq line front ≡ true → front ++ drop (length front) line ≡ line
begins line front h =
    let e : front ≡ take (length front) line = (bytes_decides front (take (length front) line)).0 h in
    ap (λ (l : List ℕ). l ++ drop (length front) line) e ∙ take-append-drop (length front) line

pub ruleset fronts = (no_front, begins)

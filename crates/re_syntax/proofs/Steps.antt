-- One step of reading.
use Rattle.std.proofs.Common.{◌≡◌, ℕ, Option, Some, sym, ap, ◌∙◌}
use Rattle.re_syntax.specs.Scan.{Scanned, scan}
use Rattle.re_syntax.specs.Read.{Reading, after_scan, read}
use Rattle.re_syntax.specs.declared.scanner.Token.{Token}
use Rattle.re_syntax.specs.declared.scanner.Scanner.{Scanner}

pub read_is : (m : Reading) (s t : Scanner) (c : ℕ) (o : Scanned) (tok u : Option Token) → s ≡ m.scanner → o ≡ scan s c
    → o ≡ Some (t, tok) → tok ≡ u → read m c ≡ after_scan m (Some (t, u))
read_is m s t c o tok u e p r q =
    ap (after_scan m) (ap (λ (x : Scanner). scan x c) (sym e) ∙ sym p ∙ r ∙ ap (λ (x : Option Token). Some (t, x)) q)

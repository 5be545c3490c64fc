use Rattle.std.proofs.Common.{◌≡◌, true, false, ◌<◌, ◌+◌, List, ℕ, length, drop, ap, sym, subst, ◌∙◌, arith}
use Rattle.am_text.specs.Lines.{first_line, after_line as rest_behind}
use Rattle.rule_syntax.specs.Cutting.{has_newline, after_line, sets_end, IsScanOf}
use Rattle.rule_syntax.specs.declared.cutting.Scan.{Scan}
use Rattle.rule_syntax.proofs.Lines.{parted}
use Rattle.rule_syntax.proofs.Scans.{further_at, drop_further, scan_further, scan_all}
use Rattle.rule_syntax.proofs.cutting.Scan.go_on.Goals as goal

pub loop-rest-smaller : goal.loop-rest-smaller
loop-rest-smaller c =
    let h : has_newline c.loop-rest.rest.now ≡ true = grind arith in
    let e : length c.cut_line.result.1.now ≡ length (rest_behind c.loop-rest.rest.now) = ap (λ (l : List ℕ). length l)
    c.cut_line.ensures.rest in
    omega (arith, parted c.loop-rest.rest.now h, e)

pub loop-rest-preserved : goal.loop-rest-preserved
loop-rest-preserved c =
    let h : has_newline c.loop-rest.rest.now ≡ true = grind arith in
    let inv = c.loop-rest.invariant in
    let next : c.after_line-scan.result ≡ after_line c.loop-rest.scan (first_line c.loop-rest.rest.now) =
    c.after_line-scan.ensures ∙ ap (after_line c.loop-rest.scan) c.cut_line.ensures.line in
    let e : length c.cut_line.result.1.now ≡ length (rest_behind c.loop-rest.rest.now) = ap (λ (l : List ℕ). length l)
    c.cut_line.ensures.rest in
    record {
      scan = subst (λ (s : Scan). IsScanOf s c.args.text.now) (sym next)
          (scan_further c.loop-rest.scan c.args.text.now c.loop-rest.rest.now inv.rest h inv.scan);
      rest = c.cut_line.ensures.rest ∙ drop_further c.loop-rest.scan c.args.text.now c.loop-rest.rest.now inv.rest h
          ∙ ap (λ (s : Scan). drop s.at c.args.text.now) (sym next);
      here = omega (
        arith,
        e,
        parted c.loop-rest.rest.now h,
        inv.here,
        ap (λ (s : Scan). s.at) next,
        further_at c.loop-rest.scan c.loop-rest.rest.now,
      );
    }

pub returns-clause-exact : goal.returns-clause-exact
returns-clause-exact c =
    let h : has_newline c.loop-rest.rest.now ≡ false = grind arith in
    let inv = c.loop-rest.invariant in
    scan_all c.loop-rest.scan c.args.text.now c.loop-rest.rest.now inv.rest h inv.scan

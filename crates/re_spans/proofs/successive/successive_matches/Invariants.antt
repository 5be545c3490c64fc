use Rattle.std.proofs.Common.{◌≡◌, ◌≤◌, ◌+◌, ◌-◌, ◌++◌}
use Rattle.re_syntax.specs.Tree.{tree}
use Rattle.re_spans.specs.Successive.{successive_from, successive}
use Rattle.re_spans.proofs.successive.successive_matches.Given as goal

abbrev pub invariant-loop-turn : goal.invariant-loop-turn
invariant-loop-turn g l =
    let r = tree l.re in
    let t = g.T.Letters.letters l.text in
    record {
      above : l.from ≤ l.at;
      below : l.at ≤ l.end;
      told : l.all ++ successive_from r t l.end l.no_null l.at (l.end + 1 - l.from - l.turn) ≡ successive r t l.from
          l.end;
    }

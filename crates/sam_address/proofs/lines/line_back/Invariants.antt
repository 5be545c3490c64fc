use Rattle.std.proofs.Common.{◌≡◌, ◌≤◌, ◌<◌, length}
use Rattle.sam_address.specs.Lines.{starts_back, line_at}
use Rattle.sam_address.specs.Value.{back_along}
use Rattle.sam_address.proofs.lines.line_back.Given as goal

abbrev pub invariant-loop-at : goal.invariant-loop-at
invariant-loop-at g l = record {
  down : l.at ≤ l.place;
  order : l.at ≤ l.end;
  within : l.end ≤ length (g.T.Letters.letters l.text);
  fewer : l.left ≤ l.n;
  same : back_along (g.T.Letters.letters l.text) (starts_back (g.T.Letters.letters l.text) l.at)
      l.left ≡ back_along (g.T.Letters.letters l.text) (starts_back (g.T.Letters.letters l.text) l.place) l.n;
  ends : l.left < l.n → l.end ≡ (line_at (g.T.Letters.letters l.text) l.at).q1;
}

abbrev pub decreases-loop-at : goal.decreases-loop-at
decreases-loop-at g l = l.at

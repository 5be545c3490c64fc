use Rattle.std.proofs.Common.{◌≡◌, ◌<◌, drop}
use Rattle.sam_address.specs.Lines.{after_newlines, nth}
use Rattle.sam_address.proofs.lines.after_newline.Given as goal

abbrev pub invariant-loop-at : goal.invariant-loop-at
invariant-loop-at g l = record {
  counted : 0 < l.left;
  same : nth (after_newlines l.at (drop l.at (g.T.Letters.letters l.text)))
      l.left ≡ nth (after_newlines l.from (drop l.from (g.T.Letters.letters l.text))) l.n;
}

use Rattle.std.proofs.Common.{◌≡◌, ◌≤◌, max}
use Rattle.std.specs.Prelude.{slice_range}
use Rattle.edit_run.proofs.texts.text_at.Given as goal

abbrev pub invariant-loop-at : goal.invariant-loop-at
invariant-loop-at g l = record {
  bound : l.at ≤ max l.fn.range.q0 l.end;
  same : l.runes ≡ slice_range (g.T.Letters.letters l.text) l.fn.range.q0 l.at;
}

use Rattle.std.specs.Prelude.{◌≤◌, ◌<◌, ◌+◌, ◌-◌}
use Rattle.rune_gap.specs.Marks.{noted}
use Rattle.rune_gap.proofs.marks.strides_within.Given as goal

abbrev pub invariant-loop-low : goal.invariant-loop-low
invariant-loop-low l = record {
  order : l.low ≤ l.high;
  most : l.high ≤ l.strides;
  within : noted l.marks l.low ≤ l.bytes;
  last : l.high < l.strides → l.bytes < noted l.marks (l.high + 1);
}

abbrev pub decreases-loop-low : goal.decreases-loop-low
decreases-loop-low l = l.high - l.low

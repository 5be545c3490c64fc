use Rattle.std.proofs.Common.{◌≡◌, ◌≤◌, drop}
use Rattle.win_ctl.specs.Directory.{dir_width}
use Rattle.win_ctl.proofs.CtlLemmas.{width_after}
use Rattle.win_ctl.proofs.paths.dir_width.Given as goal

abbrev pub invariant-loop-rune : goal.invariant-loop-rune
invariant-loop-rune l = record {
  here : l.at ≡ l.rune-index;
  within : l.end ≤ l.at;
  told : width_after l.end l.at (dir_width (drop l.rune-index l.name)) ≡ dir_width l.name;
}

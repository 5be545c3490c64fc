use Rattle.std.proofs.Common.{◌≡◌, ◌++◌, take, drop}
use Rattle.am_text.specs.Lines.{first_line}
use Rattle.win_ctl.proofs.columns.first_line.Given as goal

abbrev pub invariant-loop-rune : goal.invariant-loop-rune
invariant-loop-rune l = record {
  here : l.at ≡ l.rune-index;
  line : take l.rune-index l.text ++ first_line (drop l.rune-index l.text) ≡ first_line l.text;
}

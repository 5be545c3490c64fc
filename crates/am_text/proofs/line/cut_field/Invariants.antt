use Rattle.std.proofs.Common.{◌≡◌, ◌++◌, take, drop}
use Rattle.am_text.specs.Lines.{first_field, after_field}
use Rattle.am_text.proofs.line.cut_field.Given as goal

abbrev pub invariant-loop-b : goal.invariant-loop-b
invariant-loop-b l = record {
  here : l.at ≡ l.b-index;
  field : take l.b-index l.bytes ++ first_field (drop l.b-index l.bytes) ≡ first_field l.bytes;
  rest : after_field (drop l.b-index l.bytes) ≡ after_field l.bytes;
}

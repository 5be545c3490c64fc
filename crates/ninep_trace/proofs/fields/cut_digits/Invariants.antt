use Rattle.std.proofs.Common.{◌≡◌, ◌++◌, take, drop}
use Rattle.ninep_trace.specs.Fields.{digits, after_digits}
use Rattle.ninep_trace.proofs.fields.cut_digits.Given as goal

abbrev pub invariant-loop-b : goal.invariant-loop-b
invariant-loop-b l = record {
  here : l.at ≡ l.b-index;
  digits : take l.b-index l.bytes ++ digits (drop l.b-index l.bytes) ≡ digits l.bytes;
  rest : after_digits (drop l.b-index l.bytes) ≡ after_digits l.bytes;
}

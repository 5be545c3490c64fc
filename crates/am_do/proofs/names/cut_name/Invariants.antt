use Rattle.std.proofs.Common.{◌≡◌, ◌++◌, take, drop}
use Rattle.am_do.specs.Fields.{first_name, after_name}
use Rattle.am_do.proofs.names.cut_name.Given as goal

abbrev pub invariant-loop-b : goal.invariant-loop-b
invariant-loop-b l = record {
  here : l.at ≡ l.b-index;
  name : take l.b-index l.bytes ++ first_name (drop l.b-index l.bytes) ≡ first_name l.bytes;
  rest : after_name (drop l.b-index l.bytes) ≡ after_name l.bytes;
}

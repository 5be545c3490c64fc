use Rattle.ninep_cut.proofs.Streams.{joins_bytes, are_messages, leaves_none, begins_with, is_longest}
use Rattle.ninep_cut.proofs.laws.cuts_are_longest.Goals as goal

pub returns : goal.returns
returns c = record {
  joined = joins_bytes;
  messages = are_messages;
  rest = leaves_none;
  begins = begins_with;
  longest =
      is_longest;
}

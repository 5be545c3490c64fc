use Rattle.am_text.proofs.Pieced.{text-append, rest-append, ends_whole, leaves_none, length-rest-few}
use Rattle.am_text.proofs.laws.pieces_are_joined.Goals as goal

pub returns : goal.returns
returns c = record {
  texts = text-append;
  rests = rest-append;
  end = ends_whole;
  none = leaves_none;
  few =
      length-rest-few;
}

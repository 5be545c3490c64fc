-- The tests of texts.
use Rattle.std.proofs.lemmas.Str.{is_utf8-from_IsUtf8}
use Rattle.am_text.proofs.Tested.{is_not_utf8}

pub ruleset fronts = (is_not_utf8, is_utf8-from_IsUtf8)

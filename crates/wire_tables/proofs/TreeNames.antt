-- The names of the two trees are strings.
use Rattle.std.proofs.Common.{◌≡◌, true, refl, arith}
use Rattle.std.specs.Prelude.{codes}
use Rattle.std.specs.Str.{is_utf8, chars}
use Rattle.std.specs.Char.{encode_utf8}
use Rattle.ninep_types.specs.Fields.{is_text}
use Rattle.ninep_types.specs.Spelling.{IsString}

acme_text : is_text (codes "acme") ≡ true
unfolding is_text is_utf8 chars encode_utf8
acme_text = refl

plumb_text : is_text (codes "plumb") ≡ true
unfolding is_text is_utf8 chars encode_utf8
plumb_text = refl

pub acme_is : IsString (codes "acme")
acme_is = record { text = acme_text; len = omega arith }

pub plumb_is : IsString (codes "plumb")
plumb_is = record { text = plumb_text; len = omega arith }

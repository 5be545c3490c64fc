-- A message while the rules of a set are done.
use Rattle.std.specs.Prelude.{◌≡◌, true, Option, Some, None}
use Rattle.plumb_msg.specs.declared.message.PlumbMsg.{PlumbMsg}
use Rattle.plumb_rules.specs.Fields.{field_text, is_same}
use Rattle.plumb_rules.specs.declared.fields.SameFields.{SameFields}
use Rattle.rule_syntax.specs.declared.rule.Field.{Field}

-- what the rules made of a message, or else the message as it was given
abbrev pub changed_or : Option PlumbMsg → PlumbMsg → PlumbMsg
changed_or None given = given
changed_or (Some m) given = m

-- these fields have the texts that were given
abbrev pub AreSame : SameFields → PlumbMsg → PlumbMsg → Type 0
AreSame same given m = (f : Field) → is_same same f ≡ true → field_text m f ≡ field_text given f

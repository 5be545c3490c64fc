-- Which rules leave the message as it is, so that it isn't asked again whether it can be spelled. No public contract
-- needs this.
use Rattle.std.specs.Prelude.{Bool, true, false}
use Rattle.plumb_msg.specs.declared.message.PlumbMsg.{PlumbMsg}
use Rattle.rule_syntax.specs.declared.rule.Field.TheVariants.{Src, Dst, Wdir, Sort, Data}
use Rattle.rule_syntax.specs.declared.rule.Verb.{Verb}
use Rattle.rule_syntax.specs.declared.rule.Verb.TheVariants as verb
use Rattle.plumb_rules.specs.Attributes.{click_of, is_absent}

-- whether a rule with this verb leaves the message as it is, where it holds
abbrev pub keeps_message : PlumbMsg → Verb → Bool
keeps_message m (verb.Is f) = true
keeps_message m (verb.Matches Src) = true
keeps_message m (verb.Matches Dst) = true
keeps_message m (verb.Matches Wdir) = true
keeps_message m (verb.Matches Sort) = true
keeps_message m (verb.Matches Data) = is_absent (click_of m.attrs)
keeps_message m (verb.Set f) = false
keeps_message m verb.ArgIsFile = true
keeps_message m verb.ArgIsDir = true
keeps_message m verb.DataIsFile = true
keeps_message m verb.DataIsDir = true
keeps_message m verb.Add = false
keeps_message m verb.Delete = false
keeps_message m verb.To = true
keeps_message m verb.Start = true
keeps_message m verb.Client = true

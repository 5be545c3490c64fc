-- The refusals of what is written to the plumber's files `rules` and `send`, after plumber(4).
use Rattle.std.specs.Prelude.{Option, option_map}
use Rattle.core_plumb.specs.declared.refusal.PlumbRefusal.{PlumbRefusal}
use Rattle.core_plumb.specs.declared.refusal.PlumbRefusal.TheVariants as plumb
use Rattle.core_rules.specs.declared.refusal.RulesRefusal.{RulesRefusal}
use Rattle.core_rules.specs.declared.refusal.RulesRefusal.TheVariants as rules
use Rattle.core_rules.specs.declared.send_refusal.SendRefusal.{SendRefusal}
use Rattle.core_rules.specs.declared.send_refusal.SendRefusal.TheVariants as send
use Rattle.core_fids.specs.declared.refusal.Refusal.{Refusal}
use Rattle.core_fids.specs.declared.refusal.Refusal.TheVariants as refusal

-- the refusal of a text of rules
abbrev pub of_rules : RulesRefusal → Refusal
of_rules rules.BadRule = refusal.BadRule
of_rules rules.BadExpressionSize = refusal.BadExpressionSize
of_rules rules.TooManyRules = refusal.TooManyRules

-- the refusal of a message that isn't delivered
abbrev pub of_plumb : PlumbRefusal → Refusal
of_plumb plumb.NoMatchingRule = refusal.NoMatchingRule
of_plumb plumb.PortNotOpen = refusal.PortNotOpen
of_plumb plumb.PortQueueFull = refusal.PortQueueFull

-- the refusal of what is written to `send`
abbrev pub of_send : SendRefusal → Refusal
of_send send.BadPlumbMessage = refusal.BadPlumbMessage
of_send (send.Plumb r) = of_plumb r

-- the refusal, if there is one
abbrev pub rules_if_any : Option RulesRefusal → Option Refusal
rules_if_any r = option_map of_rules r

-- the refusal, if there is one
abbrev pub send_if_any : Option SendRefusal → Option Refusal
send_if_any r = option_map of_send r

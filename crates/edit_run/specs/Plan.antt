-- What a command makes of a window's body.
use Rattle.std.specs.Prelude.{◌+◌, ℕ, Bool, true, false, List, [], ◌∷◌, length, nat_le, Result, Ok, Err, if◌then◌else◌}
use Rattle.am_text.specs.declared.range.Range.{Range}
use Rattle.edit_parts.specs.Tree.{Command}
use Rattle.edit_log.specs.declared.types.Edit.{Edit}
use Rattle.edit_log.specs.Splices.{shifted}
use Rattle.edit_run.specs.declared.fault.EditFault.{EditFault}
use Rattle.edit_run.specs.declared.fault.EditFault.TheVariants.{Sequence}
use Rattle.edit_run.specs.declared.effects.Effects.{Effects}
use Rattle.edit_run.specs.declared.types.Site.{Site}
use Rattle.edit_run.specs.declared.types.EditPlan.{EditPlan}
use Rattle.edit_run.specs.Faults.{and_then}
use Rattle.edit_run.specs.Effects.{nothing}
use Rattle.edit_run.specs.Meaning.{Outcome, meaning}

-- what a command wants, all of it over the text as it stands
abbrev pub wanted : Command → List ℕ → Site → Outcome
wanted c t site = meaning c t site site.dot (nothing site.dot)

-- each change begins not before the end of the one before it
abbrev pub are_in_sequence : ℕ → List Edit → Bool
are_in_sequence end [] = true
are_in_sequence end (c ∷ cs) = if nat_le end c.q0 then are_in_sequence c.q1 cs else false

-- the edits that make the changes, where they are in sequence
abbrev pub edits_of : List Edit → Result (List Edit) EditFault
edits_of changes = if are_in_sequence 0 changes then Ok (shifted changes) else Err Sequence

-- the range of the text that the last edit puts, or this one where there is no edit
abbrev pub dot_after : Range → List Edit → Range
dot_after dot [] = dot
dot_after dot (e ∷ es) = dot_after (record { q0 = e.q0; q1 = e.q0 + length e.text }) es

-- the edits, the dot behind them, and what else is wanted
abbrev pub plan_of : Effects → List Edit → EditPlan
plan_of e edits = record { edits = edits; dot = dot_after e.last edits; prints = e.prints; jobs = e.jobs }

-- what a command is to make of the body, or the first fault
abbrev pub planned : Command → List ℕ → Site → Result EditPlan EditFault
planned c t site = and_then (wanted c t site) (λ e. and_then (edits_of e.changes) (λ edits. Ok (plan_of e edits)))

use Rattle.std.proofs.Common.{rules, ◌≡◌, [], ◌∷◌, ◌++◌, refl}
use Rattle.edit_log.specs.declared.types.Edit.{Edit}
use Rattle.edit_run.specs.declared.effects.Effects.{Effects}
use Rattle.edit_run.proofs.Inside.{within_more}
use Rattle.edit_run.proofs.effects.Effects.change.Goals as goal

pub returns-clause-within : goal.returns-clause-within
returns-clause-within c = λ t a b h.
    let old = c.args.self.now in
    let edit : Edit = record { q0 = c.args.q0; q1 = c.args.q1; text = c.args.text } in
    let new : Effects = record { changes = c.push.new.self; prints = old.prints; jobs = old.jobs; last = old.last } in
    let pushed : c.push.new.self ≡ old.changes ++ edit ∷ [] = search rules in
    within_more t old new edit a b pushed refl h

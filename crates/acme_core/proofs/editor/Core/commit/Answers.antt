use Rattle.std.proofs.Common.{Option, sym, subst, ◌∙◌}
use Rattle.core_closing.specs.declared.prepared.Prepared.{Prepared}
use Rattle.acme_core.specs.Kept.{IsKept}
use Rattle.acme_core.proofs.Goes.{kept_on}
use Rattle.acme_core.proofs.editor.Core.commit.Goals as goal

pub invariant_of-self : goal.invariant_of-self
invariant_of-self c =
    let P : Option Prepared → Type 0 = λ x. IsKept c.self.inside.format c.self.inside.events c.self.inside.parts x in
    let was = subst P (sym c.take.ensures.value ∙ c.in-Some.is) c.self.invariant in
    kept_on c.deeds_show.ensures c.self.inside.format c.self.inside.events c.put.new.self c.self.inside.parts c.apply-event.new.parts
    c.in-Some.prepared c.apply-event.result c.take.new.self was c.apply-event.ensures.event c.put.ensures.items
    c.put.ensures.spare (c.apply-event.ensures.state _ was.ready.ready) c.apply-event.ensures.sound
    c.apply-event.ensures.ports c.apply-event.ensures.watch c.apply-event.ensures.steady c.take.ensures.after

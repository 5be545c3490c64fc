use Rattle.std.proofs.Common.{◌≡◌, List, sym, ap, subst, ◌∙◌}
use Rattle.am_text.specs.declared.range.Range.{Range}
use Rattle.edit_log.specs.declared.types.Edit.{Edit}
use Rattle.edit_log.specs.Edited.{text_after}
use Rattle.sam_address.specs.Value.{IsInside}
use Rattle.edit_run.specs.Plan.{dot_after}
use Rattle.edit_run.proofs.Lasts.{dot_inside}
use Rattle.edit_run.proofs.planning.changes.Goals as goal

pub returns-clause-dot : goal.returns-clause-dot
returns-clause-dot g c =
    let t = g.T.Letters.letters c.args.text.now in
    let last = c.run.new.doing.effects.last in
    let edits = c.in_ok-edits.edits in
    let ranged = c.in_ok-edits.ensures.in_range t (sym c.len.ensures) in
    let inside = dot_inside t last edits c.in_ok-run.ensures.within.last ranged in
    let same : c.in_ok-dot.dot ≡ dot_after last edits = c.in_ok-dot.ensures ∙ ap (λ (x : List Edit). dot_after last x)
    c.as_slice.ensures in
    subst (λ (x : Range). IsInside (text_after t edits) x) (sym same) inside

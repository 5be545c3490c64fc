use Rattle.std.proofs.Common.{◌≡◌, List, map, length, arith, sym, subst}
use Rattle.std.specs.Prelude.{slice_set}
use Rattle.std.proofs.lemmas.List.{with_items_is}
use Rattle.am_text.specs.Twice.{Twice, both}
use Rattle.core_outputs.specs.Unsent.{Unsent, nothing_unsent, present_of, kept_of}
use Rattle.core_outputs.proofs.Places.{emptied, emptied_alike, touched_nowhere}
use Rattle.core_outputs.proofs.outputs.Outputs.take.Goals as goal

pub returns : goal.returns
returns c =
    let same : length c.empty_at.new.all ≡ c.self.inside.all.len = omega arith in
    let each : c.empty_at.new.all ≡ slice_set c.self.inside.all.items c.args.conn (both nothing_unsent) = cc in
    let steady : map present_of c.self.inside.all.items ≡ map kept_of c.self.inside.all.items =
    subst (λ (t : Twice (List Unsent)). t.present ≡ t.kept) (sym c.self.view_is) c.requires in
    rw (← c.self.view_is, with_items_is c.self.inside.all c.empty_at.new.all same) (emptied _ _ _ steady each)

pub invariant_of-self : goal.invariant_of-self
invariant_of-self c =
    let same : length c.empty_at.new.all ≡ c.self.inside.all.len = omega arith in
    let each : c.empty_at.new.all ≡ slice_set c.self.inside.all.items c.args.conn (both nothing_unsent) = cc in
    let steady : map present_of c.self.inside.all.items ≡ map kept_of c.self.inside.all.items =
    subst (λ (t : Twice (List Unsent)). t.present ≡ t.kept) (sym c.self.view_is) c.requires in
    rw (with_items_is c.self.inside.all c.empty_at.new.all same) (touched_nowhere c.nowhere-self-inside.result
    c.empty_at.new.all c.nowhere-self-inside.ensures (emptied_alike _ _ c.args.conn steady each))

use Rattle.std.proofs.Common.{◌≡◌, ◌∙◌, map, length, sym, arith}
use Rattle.std.proofs.lemmas.List.{with_items_is}
use Rattle.core_outputs.specs.Unsent.{present_of, kept_of}
use Rattle.core_outputs.proofs.Places.{now_kept, touched_nowhere}
use Rattle.core_outputs.proofs.outputs.Outputs.keep.Goals as goal

pub returns : goal.returns
returns c =
    let same : length c.keep_touched.new.all ≡ c.self.inside.all.len = omega arith in
    let present : map present_of c.keep_touched.new.all ≡ map present_of c.self.inside.all.items = cc in
    let kept : map kept_of c.keep_touched.new.all ≡ map present_of c.self.inside.all.items = cc in
    rw (← c.self.view_is, with_items_is c.self.inside.all c.keep_touched.new.all same) (now_kept _ _ present kept)

pub invariant_of-self : goal.invariant_of-self
invariant_of-self c =
    let same : length c.keep_touched.new.all ≡ c.self.inside.all.len = omega arith in
    rw (with_items_is c.self.inside.all c.keep_touched.new.all same)
    (touched_nowhere c.nowhere-self-inside.result c.keep_touched.new.all c.nowhere-self-inside.ensures
    (c.keep_touched.ensures.present ∙ sym c.keep_touched.ensures.kept))

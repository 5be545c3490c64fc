use Rattle.std.proofs.Common.{◌≡◌, ◌∙◌, map, length, sym, arith}
use Rattle.std.proofs.lemmas.List.{with_items_is}
use Rattle.core_outputs.specs.Unsent.{present_of, kept_of}
use Rattle.core_outputs.proofs.Places.{now_back, touched_nowhere}
use Rattle.core_outputs.proofs.outputs.Outputs.back.Goals as goal

pub returns : goal.returns
returns c =
    let same : length c.back_touched.new.all ≡ c.self.inside.all.len = omega arith in
    let present : map present_of c.back_touched.new.all ≡ map kept_of c.self.inside.all.items = cc in
    let kept : map kept_of c.back_touched.new.all ≡ map kept_of c.self.inside.all.items = cc in
    rw (← c.self.view_is, with_items_is c.self.inside.all c.back_touched.new.all same) (now_back _ _ present kept)

pub invariant_of-self : goal.invariant_of-self
invariant_of-self c =
    let same : length c.back_touched.new.all ≡ c.self.inside.all.len = omega arith in
    rw (with_items_is c.self.inside.all c.back_touched.new.all same)
    (touched_nowhere c.nowhere-self-inside.result c.back_touched.new.all c.nowhere-self-inside.ensures
    (c.back_touched.ensures.present ∙ sym c.back_touched.ensures.kept))

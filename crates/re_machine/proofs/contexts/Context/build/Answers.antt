use Rattle.std.proofs.Common.{◌≡◌, ◌∙◌, List, length, map, refl, sym, subst}
use Rattle.std.specs.Vec.{with_items}
use Rattle.std.proofs.lemmas.List.{with_items_is}
use Rattle.re_machine.specs.Listed.{tree_of}
use Rattle.re_machine.specs.Filling.{AreFilled}
use Rattle.re_machine.proofs.Building.{context_is}
use Rattle.re_machine.proofs.contexts.Context.build.Goals as goal

pub returns : goal.returns
returns g c =
    let bits = g.S.LetterSet.bits in
    let part = c.in_ok-part.part in
    let r = tree_of c.args.nodes.now in
    let rows = c.fill.new.rows in
    let old = map bits c.as_mut_slice.result.now in
    let follow = c.in_ok-follow.follow in
    let count : length rows ≡ follow.len = c.in_ok-part.ensures.len ∙ (rw c.as_mut_slice.ensures.value refl)
    ∙ sym follow.ok.0 in
    let filled = subst (λ (z : List g.row.S.Denot). AreFilled r 0 c.args.here old (map bits z))
    (sym (with_items_is follow rows count)) c.in_ok-part.ensures.rows in
    context_is bits r c.args.here (record {
      null = part.null;
      first = part.first;
      last = part.last;
      follow =
          with_items follow rows;
    }) (bits part.first) (bits part.last) old c.in_ok-part.ensures.part refl refl
    (rw c.as_mut_slice.ensures.value c.in_ok-follow.ensures.none) filled

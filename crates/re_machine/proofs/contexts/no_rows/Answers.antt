use Rattle.std.proofs.Common.{arith, ◌∷◌, [], map}
use Rattle.std.proofs.lemmas.List.{map-append, length-append}
use Rattle.re_machine.proofs.Building.{nothing_more}
use Rattle.re_machine.proofs.contexts.no_rows.Goals as goal

pub loop-n-preserved : goal.loop-n-preserved
loop-n-preserved g c =
    let bits = g.S.LetterSet.bits in
    let e = c.in_ok-push.ensures.items in
    let one = c.none.result ∷ [] in
    record {
      count = rw e (omega (arith, length-append c.loop-n.rows.items one, c.loop-n.invariant.count));
      none = rw (e, map-append bits c.loop-n.rows.items one) (nothing_more (map bits c.loop-n.rows.items)
          (bits c.none.result) c.none.ensures c.loop-n.invariant.none);
    }

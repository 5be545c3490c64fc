use Rattle.std.proofs.Common.{arith}
use Rattle.event_book.proofs.TableLemmas.{place-within, place-above, place-below}
use Rattle.event_book.proofs.file_table.place_of.Goals as goal

pub halving-init : goal.halving-init
halving-init c = record { above = omega arith; below = place-within c.args.window c.args.all.now; within = omega arith }

pub halving-preserved-then-all-middle : goal.halving-preserved-then-all-middle
halving-preserved-then-all-middle c =
    let here = place-above 0 c.args.window _ c.args.all.now c.index-all-middle.result c.requires (omega arith)
    c.if-all-middle.true in
    record { above = omega (arith, here); below = c.halving.invariant.below; within = c.halving.invariant.within }

pub halving-preserved : goal.halving-preserved
halving-preserved c =
    record {
      above = c.halving.invariant.above;
      below = place-below c.args.window _ c.args.all.now c.index-all-middle.result (omega arith) c.if-all-middle.false;
      within = omega arith;
    }

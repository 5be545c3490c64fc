use Rattle.std.proofs.Common.{◌≡◌, ◌+◌, arith, ap, sym, length, add-one, ◌∙◌}
use Rattle.win_events.specs.declared.item.Life.TheVariants.{Dropped}
use Rattle.event_book.specs.Shown.{dropped_after, with_life_at}
use Rattle.event_book.proofs.ShownLemmas.{dropped-step, dropped-end, length-with_life_at}
use Rattle.event_book.proofs.lives.drop_after.Goals as goal

pub loop-i-preserved : goal.loop-i-preserved
loop-i-preserved c =
    let step : dropped_after c.args.at (c.loop-i.i + 1) (with_life_at (Dropped c.args.at) c.loop-i.i c.loop-i.all.items)
    ≡ dropped_after c.args.at c.loop-i.i c.loop-i.all.items =
    rw add-one (dropped-step c.args.at c.loop-i.i c.loop-i.all.items)
    in
    record {
      same = ap (dropped_after c.args.at (c.loop-i.i + 1)) c.set_life.ensures ∙ step ∙ c.loop-i.invariant.same;
      len = ap length c.set_life.ensures ∙ length-with_life_at (Dropped c.args.at) c.loop-i.i c.loop-i.all.items
          ∙ c.loop-i.invariant.len;
    }

pub returns : goal.returns
returns c = sym (dropped-end c.args.at c.loop-i.i c.loop-i.all.items
    (omega (arith, c.loop-i.invariant.len, c.loop-i-test.false))) ∙ c.loop-i.invariant.same

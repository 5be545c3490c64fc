use Rattle.core_across.proofs.Dropped.{named_next, live_next}
use Rattle.core_across.proofs.dropping.windows_named.Goals as goal

pub loop-rest-preserved : goal.loop-rest-preserved
loop-rest-preserved c = record {
  told = named_next c.args.windows.now.present c.args.dir.now c.name-item.result c.loop-rest.rest.now c.loop-rest.all
      c.push.new.self c.in_ok-window.field-0 c.in-Ok.window _ c.in-len1-up.len_at_least c.name-item.is
      c.in_ok-window.ensures.exact c.in-Ok.is c.in_ok-push-in-Ok.ensures.ok c.loop-rest.invariant.told;
  live = live_next c.args.windows.now.present c.loop-rest.all c.push.new.self c.in_ok-window.field-0 c.in-Ok.window
      c.in_ok-window.ensures.lives c.in-Ok.is c.in_ok-push-in-Ok.ensures.ok c.loop-rest.invariant.live;
}

use Rattle.core_watch.specs.Asking.{with_opening}
use Rattle.core_watch.proofs.Sounds.{sound_with}
use Rattle.core_watch.proofs.Idles.{idle_with}
use Rattle.core_watch.proofs.Steps.{sound_as, idle_as}
use Rattle.core_watch.proofs.asking.open_watch.Goals as goal

pub returns-in_ok-add_opening-in-Watches-clause-sound : goal.returns-in_ok-add_opening-in-Watches-clause-sound
returns-in_ok-add_opening-in-Watches-clause-sound c =
    sound_as (with_opening c.args.watch.now.present c.in-Watches.file) c.add_opening.new.watch.present
    c.in_ok-add_opening-in-Watches.ensures.ok (sound_with c.args.watch.now.present c.in-Watches.file c.requires)

pub returns-in_ok-add_opening-in-Watches-clause-idle : goal.returns-in_ok-add_opening-in-Watches-clause-idle
returns-in_ok-add_opening-in-Watches-clause-idle c =
    λ i. idle_as (with_opening c.args.watch.now.present c.in-Watches.file) c.add_opening.new.watch.present
    c.in_ok-add_opening-in-Watches.ensures.ok (idle_with c.args.watch.now.present c.in-Watches.file c.requires i)

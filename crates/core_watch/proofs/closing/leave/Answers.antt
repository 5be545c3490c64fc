use Rattle.acme_watch.specs.Watching.{log_left, jobs_file_left}
use Rattle.core_watch.proofs.Sounds.{sound_log_left, sound_jobs_left}
use Rattle.core_watch.proofs.Idles.{idle_log_left, idle_jobs_left}
use Rattle.core_watch.proofs.Steps.{sound_both, idle_both}
use Rattle.core_watch.proofs.closing.leave.Goals as goal

pub returns-in-Log-clause-sound : goal.returns-in-Log-clause-sound
returns-in-Log-clause-sound c =
    sound_both c.leave_log.new.self (log_left c.args.watch.now.present c.args.opening.opening) c.leave_log.ensures
    (sound_log_left c.args.watch.now.present c.args.opening.opening c.requires.sound)

pub returns-in-Log-clause-idle : goal.returns-in-Log-clause-idle
returns-in-Log-clause-idle c =
    λ i. idle_both c.leave_log.new.self (log_left c.args.watch.now.present c.args.opening.opening) c.leave_log.ensures
    (idle_log_left c.args.watch.now.present c.args.opening.opening c.requires.sound i)

pub returns-in-Jobs-clause-sound : goal.returns-in-Jobs-clause-sound
returns-in-Jobs-clause-sound c =
    sound_both c.leave_jobs.new.self (jobs_file_left c.args.watch.now.present c.args.opening.opening c.args.at)
    c.leave_jobs.ensures
    (sound_jobs_left c.args.watch.now.present c.args.opening.opening c.args.at c.requires.sound)

pub returns-in-Jobs-clause-idle : goal.returns-in-Jobs-clause-idle
returns-in-Jobs-clause-idle c =
    λ i. idle_both c.leave_jobs.new.self (jobs_file_left c.args.watch.now.present c.args.opening.opening c.args.at)
    c.leave_jobs.ensures (idle_jobs_left c.args.watch.now.present c.args.opening.opening c.args.at i)

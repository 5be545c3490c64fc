-- What commands want, one after another.
use Rattle.std.specs.Prelude.{ℕ, List, [], ◌∷◌, ◌++◌}
use Rattle.am_text.specs.declared.range.Range.{Range}
use Rattle.am_text.specs.declared.job.Job.{Job}
use Rattle.edit_log.specs.Splices.{made}
use Rattle.edit_run.specs.declared.effects.Effects.{Effects}

-- nothing yet; the range stands for that of a command
abbrev pub nothing : Range → Effects
nothing dot = record { changes = []; prints = []; jobs = []; last = dot }

-- a command with this range begins
abbrev pub begin_at : Range → Effects → Effects
begin_at r e = record { changes = e.changes; prints = e.prints; jobs = e.jobs; last = r }

-- one change more, which puts the text in the place of the runes from q0 to before q1; one that takes nothing and puts
-- nothing isn't made
abbrev pub with_change : ℕ → ℕ → List ℕ → Effects → Effects
with_change q0 q1 text e =
    record {
      changes = e.changes ++ made (record { q0 = q0; q1 = q1; text = text });
      prints = e.prints;
      jobs = e.jobs;
      last = e.last;
    }

-- more to be printed
abbrev pub with_print : List ℕ → Effects → Effects
with_print text e = record { changes = e.changes; prints = e.prints ++ text; jobs = e.jobs; last = e.last }

-- one request more
abbrev pub with_job : Job → Effects → Effects
with_job job e = record { changes = e.changes; prints = e.prints; jobs = e.jobs ++ job ∷ []; last = e.last }

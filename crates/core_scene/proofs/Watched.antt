-- The requests that deeds make are those of the file `jobs`.
use Rattle.std.proofs.Common.{ℕ, List, [], ◌∷◌, ◌++◌, Option, Some, None}
use Rattle.am_text.specs.declared.job.Job.{Job}
use Rattle.acme_watch.specs.Calls.{Put, after_calls, all_jobs}
use Rattle.acme_watch.specs.Laws.{AreJobs, StayInOrder}
use Rattle.acme_watch.specs.Watching.{WatchState, with_request}
use Rattle.core_windows.specs.Windows.{window_at}
use Rattle.core_scene.specs.declared.deed.Deed.{Deed}
use Rattle.core_scene.specs.declared.deed.Deed.TheVariants as deed
use Rattle.core_scene.specs.declared.deed.Entry.{Entry}
use Rattle.core_scene.specs.Noted.{line_of, line_of_change, with_line_if_any}
use Rattle.core_scene.specs.Scenes.{SceneState, done, done_all}
use Rattle.core_scene.specs.SceneLaws.{AreWatched, RequestsAreWatched}

-- a line changes no request
line_stays : (jobs : List Job) (w : WatchState) (line : Option (List ℕ)) → AreJobs jobs w.jobs
    → AreJobs jobs (with_line_if_any w line).jobs
line_stays jobs w None h = h
line_stays jobs w (Some line) h = h

one_more : StayInOrder → (jobs : List Job) (w : WatchState) (job : Job) → AreJobs jobs w.jobs
    → AreJobs (jobs ++ job ∷ []) (with_request w job).jobs
unfolding after_calls all_jobs
one_more order jobs w job h = order.stays jobs w (Put job ∷ []) h

module _ (order : StayInOrder) where
  deed_watched : (e : Entry) (s : SceneState) (d : Deed) → AreWatched s → AreWatched (done e s d)
  deed_watched e s (deed.Windows c) h = line_stays s.jobs s.watch (line_of_change s.windows c) h
  deed_watched e s (deed.Item w item) h = h
  deed_watched e s (deed.Snarfs text) h = h
  deed_watched e s (deed.Stores path bytes) h = h
  deed_watched e s (deed.MakesDir path) h = h
  deed_watched e s (deed.Requests job) h = one_more order s.jobs s.watch job h
  deed_watched e s (deed.Notes w op) h = line_stays s.jobs s.watch (line_of w op (window_at s.windows w)) h
  deed_watched e s (deed.AddsRules sets vars text) h = h
  deed_watched e s deed.ClearsRules h = h
  deed_watched e s (deed.AddsPort name) h = h
  deed_watched e s (deed.Delivers port message keep) h = h

  all_watched : (e : Entry) (s : SceneState) (ds : List Deed) → AreWatched s → AreWatched (done_all e s ds)
  all_watched e s [] h = h
  all_watched e s (d ∷ ds) h = all_watched e (done e s d) ds (deed_watched e s d h)

  pub are_watched : RequestsAreWatched
  are_watched = record { begins = λ watched. order.begins; stays = all_watched }

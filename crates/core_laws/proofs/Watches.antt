-- What each part of a step leaves of the reads that wait on `log` and `jobs`, and of how many openings there ever were;
-- and to whom what they serve is said.
use Rattle.std.proofs.Common.{◌≡◌, ℕ, zero, suc, ◌+◌, ◌≤◌, Bool, true, false, cond, nat_lt, List, [], ◌∷◌}
use Rattle.std.proofs.Common.{◌++◌, length, Option, Some, None, All, option_map, refl, sym, ap, subst, ◌∙◌, arith}
use Rattle.std.specs.List.{find}
use Rattle.std.proofs.lemmas.List.Elements.{All-nil, All-cons, All-head, All-tail, All-push}
use Rattle.acme_tree.specs.declared.node.World.{World}
use Rattle.acme_watch.specs.Laws.{count_of}
use Rattle.acme_watch.specs.Reads.{without_first}
use Rattle.acme_watch.specs.Watching.{WatchState, read_waits, can_answer, piece_for, asked_of, given_in, after_answer}
use Rattle.acme_watch.specs.Watching.{next_of, without_next, after_next, after_serve}
use Rattle.acme_watch.specs.declared.types.AnswerFault.{AnswerFault}
use Rattle.acme_watch.specs.declared.types.OpeningCounts.{OpeningCounts}
use Rattle.acme_watch.specs.declared.types.WatchFile.{WatchFile}
use Rattle.acme_watch.specs.declared.types.WatchFile.TheVariants.{Log, Jobs}
use Rattle.acme_watch.specs.declared.types.WatchRead.{WatchRead}
use Rattle.fid_table.specs.declared.types.Fid.{Fid}
use Rattle.fid_table.specs.Tables.{Tables}
use Rattle.ninep_types.specs.declared.message.RBody.{RBody}
use Rattle.ninep_types.specs.declared.message.RBody.TheVariants as r
use Rattle.wait_queue.specs.declared.types.Asked.TheVariants.{Now, Waits}
use Rattle.wait_queue.specs.declared.types.Asker.{Asker}
use Rattle.wait_queue.specs.declared.types.Piece.{Piece}
use Rattle.core_scene.specs.declared.deed.Deed.{Deed}
use Rattle.core_scene.specs.declared.deed.Deed.TheVariants as deed
use Rattle.core_scene.specs.declared.deed.Entry.{Entry}
use Rattle.core_scene.specs.Noted.{line_of, line_of_change, with_line_if_any}
use Rattle.core_scene.specs.Scenes.{SceneState, done, done_all}
use Rattle.core_windows.specs.Windows.{window_at}
use Rattle.core_fids.specs.Contents.{content_of}
use Rattle.core_fids.specs.Fids.{watch_opening}
use Rattle.core_fids.specs.Opening.{opening_refusal, content_refusal, opening_events, opening_of}
use Rattle.core_fids.specs.Plumbers.{Plumber}
use Rattle.core_fids.specs.declared.content.Content.TheVariants as content
use Rattle.core_fids.specs.declared.effect.EventChange.{EventChange}
use Rattle.core_fids.specs.declared.effect.EventChange.TheVariants as events
use Rattle.core_fids.specs.declared.refusal.Refusal.{Refusal}
use Rattle.core_fids.specs.declared.server.Opened.{Opened}
use Rattle.core_events.specs.PortAsking.{said_unless}
use Rattle.core_events.specs.declared.response.Response.{Response}
use Rattle.core_watch.specs.Answering.{fault_of, written_unless, answered_with}
use Rattle.core_watch.specs.Asking.{can_open, with_opening, opened, opened_with, read_refusal, read_unless, watch_said}
use Rattle.core_watch.specs.Asking.{watch_read}
use Rattle.core_watch.specs.Serving.{then_served, served_most, after_serving_most, watch_served}
use Rattle.core_watch.specs.Serving.{watch_after_serving}
use Rattle.core_watch.specs.declared.answering.RequestAnswer.{RequestAnswer}
use Rattle.core_steps.specs.WatchReads.{watch_response}
use Rattle.core_laws.proofs.Growths.{counted_true}
use Rattle.core_laws.proofs.FileKinds.{on, watch_content, of_watch}
use Rattle.core_laws.proofs.Reactions.{IsNew}

-- the same reads wait, and no opening came
pub record IsSameWatch (w x : WatchState) : Type 0 where
  pub reads : x.reads ≡ w.reads
  pub counts : x.opened ≡ w.opened

pub same_watch : (w : WatchState) → IsSameWatch w w
same_watch w = record { reads = refl; counts = refl }

watch_then : (w x y : WatchState) → IsSameWatch w x → IsSameWatch x y → IsSameWatch w y
watch_then w x y a b = record { reads = b.reads ∙ a.reads; counts = b.counts ∙ a.counts }

-- ---- deeds

line_same : (w : WatchState) (line : Option (List ℕ)) → IsSameWatch w (with_line_if_any w line)
line_same w None = same_watch w
line_same w (Some line) = record { reads = refl; counts = refl }

deed_same : (e : Entry) (s : SceneState) (d : Deed) → IsSameWatch s.watch (done e s d).watch
deed_same e s (deed.Windows c) = line_same s.watch (line_of_change s.windows c)
deed_same e s (deed.Item w item) = same_watch s.watch
deed_same e s (deed.Snarfs text) = same_watch s.watch
deed_same e s (deed.Stores path bytes) = same_watch s.watch
deed_same e s (deed.MakesDir path) = same_watch s.watch
deed_same e s (deed.Requests job) = record { reads = refl; counts = refl }
deed_same e s (deed.Notes w op) = line_same s.watch (line_of w op (window_at s.windows w))
deed_same e s (deed.AddsRules sets vars text) = same_watch s.watch
deed_same e s deed.ClearsRules = same_watch s.watch
deed_same e s (deed.AddsPort name) = same_watch s.watch
deed_same e s (deed.Delivers name message keep) = same_watch s.watch

pub acted_same : (e : Entry) (s : SceneState) (ds : List Deed) → IsSameWatch s.watch (done_all e s ds).watch
acted_same e s [] = same_watch s.watch
acted_same e s (d ∷ ds) = watch_then s.watch (done e s d).watch (done_all e (done e s d) ds).watch (deed_same e s d)
    (acted_same e (done e s d) ds)

-- ---- openings

with_reads : (w : WatchState) (f : WatchFile) → (with_opening w f).reads ≡ w.reads
with_reads w Log = refl
with_reads w Jobs = refl

with_counts : (w : WatchState) (f g : WatchFile) → count_of w.opened g ≤ count_of (with_opening w f).opened g
with_counts w Log Log = omega arith
with_counts w Log Jobs = omega arith
with_counts w Jobs Log = omega arith
with_counts w Jobs Jobs = omega arith

with_one : (w : WatchState) (f : WatchFile) → count_of (with_opening w f).opened f ≡ count_of w.opened f + 1
with_one w Log = refl
with_one w Jobs = refl

opened_more : (w : WatchState) (f : WatchFile) → ((opened w f).reads ≡ w.reads)
    × ((g : WatchFile) → count_of w.opened g ≤ count_of (opened w f).opened g)
opened_more w f =
    elim (can_open w f) as (λ b. ((cond b (with_opening w f) w).reads ≡ w.reads)
    × ((g : WatchFile) → count_of w.opened g ≤ count_of (cond b (with_opening w f) w).opened g)) [
      | true ↦ (with_reads w f, with_counts w f)
      | false ↦ (refl, λ g. omega arith)
    ]

-- the same reads, and no fewer openings
pub watches_more : (w : WatchState) (e : EventChange) → ((opened_with w e).reads ≡ w.reads)
    × ((g : WatchFile) → count_of w.opened g ≤ count_of (opened_with w e).opened g)
watches_more w events.Nothing = (refl, λ g. omega arith)
watches_more w (events.Opens v) = (refl, λ g. omega arith)
watches_more w (events.Joins port) = (refl, λ g. omega arith)
watches_more w (events.Watches f) = opened_more w f
watches_more w (events.Cancels tag) = (refl, λ g. omega arith)

-- one that is newly opened has the next number of its file
pub new_watch : (world : World) (plumber : Plumber) (counted : Opened) (w : WatchState) (e : EventChange) (v : Fid)
    (f : WatchFile) (n : ℕ) → w.opened ≡ counted.watch → IsNew world plumber counted e v
    → watch_opening v ≡ Some (on f n)
    → (n ≡ count_of counted.watch f + 1) × (n ≤ count_of (opened_with w e).opened f)
new_watch world plumber counted w e v f n same new opens =
    let its : content_of v.node ≡ content.WatchOf f = watch_content v.node v.opening (on f n) opens in
    let next : Some (count_of counted.watch f + 1) ≡ Some n = sym (ap (opening_of plumber counted) its)
    ∙ sym new.opening ∙ of_watch v.node v.opening (on f n) opens in
    let number : count_of counted.watch f + 1 ≡ n = cc in
    let adds : e ≡ events.Watches f = new.events ∙ ap opening_events its in
    let counts : opening_refusal (count_of counted.watch f) ≡ None = sym (ap (content_refusal plumber counted) its)
    ∙ new.counted in
    let count : count_of w.opened f ≡ count_of counted.watch f = ap (λ (c : OpeningCounts). count_of c f) same in
    let can : can_open w f ≡ true = ap (λ (x : ℕ). nat_lt x 4294967295) count
    ∙ counted_true (count_of counted.watch f) counts in
    let later : count_of (opened_with w e).opened f ≡ count_of w.opened f + 1 =
    ap (λ (x : EventChange). count_of (opened_with w x).opened f) adds
    ∙ ap (λ (b : Bool). count_of (cond b (with_opening w f) w).opened f) can ∙ with_one w f
    in
    (sym number, omega (arith, number, later, count))

-- ---- a read

-- the reads with this one behind, where nothing is said to it
abbrev pub with_follower : Option RBody → WatchRead → List WatchRead → List WatchRead
with_follower None x rs = rs ++ x ∷ []
with_follower (Some body) x rs = rs

given_same : (w : WatchState) (f : WatchFile) (a : Asker) (at : ℕ) → IsSameWatch w (given_in w f a at)
given_same w Log a at = record { reads = refl; counts = refl }
given_same w Jobs a at = record { reads = refl; counts = refl }

pub follow_reads : (t : Tables) (w : WatchState) (x : WatchRead) (at : ℕ)
    → ((watch_read t w x at).reads ≡ with_follower (watch_said t w x) x w.reads)
    × ((watch_read t w x at).opened ≡ w.opened)
follow_reads t w x at = by (read_refusal t w x)
  where
    asked : (b : Bool) → ((cond b (record w { reads = w.reads ++ x ∷ [] }) (after_answer w x at)).reads
        ≡ with_follower (said_unless None (cond b Waits (Now (piece_for w x)))) x w.reads)
        × ((cond b (record w { reads = w.reads ++ x ∷ [] }) (after_answer w x at)).opened ≡ w.opened)
    asked true = (refl, refl)
    asked false = let same = given_same w x.file x.asker at in (same.reads, same.counts)

    by : (o : Option Refusal) → ((read_unless o w x at).reads ≡ with_follower (said_unless o (asked_of w x)) x w.reads)
        × ((read_unless o w x at).opened ≡ w.opened)
    by (Some refusal) = (refl, refl)
    by None = asked (read_waits w.log w.jobs x)

-- ---- reads that are answered

pub next_counts : (o : Option WatchRead) (w : WatchState) (at : ℕ) → (after_next o w at).opened ≡ w.opened
next_counts None w at = refl
next_counts (Some x) w at = (given_same (without_next w) x.file x.asker at).counts

pub next_left : (w : WatchState) (x : WatchRead) (at : ℕ)
    → (after_next (Some x) w at).reads ≡ without_first (can_answer w.log w.jobs) w.reads
next_left w x at = (given_same (without_next w) x.file x.asker at).reads

pub served_counts : (n at : ℕ) (w : WatchState) → (after_serving_most n at w).opened ≡ w.opened
unfolding after_serving_most
served_counts zero at w = refl
served_counts (suc n) at w = served_counts n at (after_serve w at) ∙ next_counts (next_of w) w at

-- an answer to a request
pub answered_same : (at : ℕ) (w : WatchState) (o : Option RequestAnswer) → IsSameWatch w (answered_with at w o)
answered_same at w None = same_watch w
answered_same at w (Some answer) = by (fault_of w answer.opening answer.text)
  where
    by : (o : Option AnswerFault) → IsSameWatch w (written_unless o w answer.text at)
    by None = record { reads = refl; counts = refl }
    by (Some fault) = same_watch w

-- ---- what holds of each read

module _ (P : WatchRead → Type 0) where
  pub same_all : (w x : WatchState) → IsSameWatch w x → All P w.reads → All P x.reads
  same_all w x same h = subst (All P) (sym same.reads) h

  follower_all : (o : Option RBody) (x : WatchRead) (rs : List WatchRead) → P x → All P rs
      → All P (with_follower o x rs)
  follower_all None x rs own h = All-push P rs x h own
  follower_all (Some body) x rs own h = h

  pub follow_all : (t : Tables) (w : WatchState) (x : WatchRead) (at : ℕ) → P x → All P w.reads
      → All P (watch_read t w x at).reads
  follow_all t w x at own h = subst (All P) (sym (follow_reads t w x at).0) (follower_all (watch_said t w x) x w.reads
      own h)

  pub watches_all : (w : WatchState) (e : EventChange) → All P w.reads → All P (opened_with w e).reads
  watches_all w e h = subst (All P) (sym (watches_more w e).0) h

  first_all : (p : WatchRead → Bool) (rs : List WatchRead) → All P rs → All P (without_first p rs)
  first_all p [] h = h
  first_all p (x ∷ rs) h =
      elim (p x) as (λ b. All P (cond b rs (x ∷ without_first p rs))) [
        | true ↦ All-tail P x rs h
        | false ↦ All-cons P x (without_first p rs) (All-head P x rs h) (first_all p rs (All-tail P x rs h))
      ]

  next_all : (o : Option WatchRead) (w : WatchState) (at : ℕ) → All P w.reads → All P (after_next o w at).reads
  next_all None w at h = h
  next_all (Some x) w at h = subst (All P) (sym (next_left w x at)) (first_all (can_answer w.log w.jobs) w.reads h)

  most_all : (n at : ℕ) (w : WatchState) → All P w.reads → All P (after_serving_most n at w).reads
  unfolding after_serving_most
  most_all zero at w h = h
  most_all (suc n) at w h = most_all n at (after_serve w at) (next_all (next_of w) w at h)

  pub served_all_watch : (at : ℕ) (w : WatchState) → All P w.reads → All P (watch_after_serving at w).reads
  served_all_watch at w h = most_all (length w.reads) at w h

  found_all : (p : WatchRead → Bool) (rs : List WatchRead) (x : WatchRead) → find p rs ≡ Some x → All P rs → P x
  found_all p [] x f h = absurd cc
  found_all p (y ∷ rs) x f h =
      (elim (p y) as (λ b. cond b (Some y) (find p rs) ≡ Some x → P x) [
        | true ↦ λ k. let same : y ≡ x = cc in subst P same (All-head P y rs h)
        | false ↦ λ k. found_all p rs x k (All-tail P y rs h)
      ]) f

  -- ---- what is said to reads that waited

  module _ (Tells : Response → Type 0) (own : (x : WatchRead) (body : RBody) → P x → Tells (watch_response x body))
    where
      then_told : (w : WatchState) (o : Option WatchRead) (rest : List Response) → ((x : WatchRead) → o ≡ Some x → P x)
          → All Tells rest → All Tells (then_served (option_map {U = WatchRead × Piece} (λ x. (x, piece_for w x)) o) rest)
      then_told w None rest waits h = All-nil Tells
      then_told w (Some x) rest waits h = All-cons Tells _ rest (own x (r.Read (piece_for w x).bytes) (waits x refl)) h

      most_told : (n at : ℕ) (w : WatchState) → All P w.reads → All Tells (served_most n at w)
      unfolding served_most
      most_told zero at w h = All-nil Tells
      most_told (suc n) at w h =
          then_told w (next_of w) (served_most n at (after_serve w at))
          (λ x e. found_all (can_answer w.log w.jobs) w.reads x e h)
          (most_told n at (after_serve w at) (next_all (next_of w) w at h))

      pub watch_told_all : (at : ℕ) (w : WatchState) → All P w.reads → All Tells (watch_served at w)
      watch_told_all at w h = most_told (length w.reads) at w h

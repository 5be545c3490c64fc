-- Which reads of `log` and `jobs` wait on after each part of a step: all but those that it answers or ends.
use Rattle.std.proofs.Common.{◌≡◌, ℕ, zero, suc, Bool, true, false, cond, ◌&&◌, ◌||◌, List, [], ◌∷◌, fold, Option}
use Rattle.std.proofs.Common.{Some, None, option_map, refl, sym, ap, subst, ◌∙◌}
use Rattle.std.specs.List.{list_any}
use Rattle.acme_watch.specs.Reads.{same_file, is_of_opening, without_first}
use Rattle.acme_watch.specs.Watching.{WatchState, can_answer, piece_for, next_of, after_next, after_serve}
use Rattle.acme_watch.specs.declared.types.WatchFile.{WatchFile}
use Rattle.acme_watch.specs.declared.types.WatchFile.TheVariants.{Log, Jobs}
use Rattle.acme_watch.specs.declared.types.WatchRead.{WatchRead}
use Rattle.fid_table.specs.declared.types.Fid.{Fid}
use Rattle.fid_table.specs.Tables.{Tables, fid_of, fids_of}
use Rattle.wait_queue.specs.Reads.{is_on}
use Rattle.wait_queue.specs.declared.types.Piece.{Piece}
use Rattle.core_fids.specs.Fids.{watch_opening}
use Rattle.core_fids.specs.declared.effect.Effect.{Effect}
use Rattle.core_fids.specs.declared.effect.Effect.TheVariants as effect
use Rattle.core_fids.specs.declared.effect.EventChange.{EventChange}
use Rattle.core_fids.specs.declared.effect.EventChange.TheVariants as events
use Rattle.core_fids.specs.declared.effect.WatchOpening.{WatchOpening}
use Rattle.core_watch.specs.Closing.{left_in, without_opening, without_fid, opening_in, watch_freed}
use Rattle.core_watch.specs.Closing.{watch_cancelled}
use Rattle.core_watch.specs.Serving.{next_served, then_served, served_most, after_serving_most}
use Rattle.core_watch.proofs.Turns.{idle}
use Rattle.core_parts.specs.declared.kind.Kind.{Kind}
use Rattle.core_parts.specs.declared.kind.Kind.TheVariants as kind
use Rattle.core_parts.specs.Doing.{Doing}
use Rattle.core_closing.specs.Closing.{left_watch}
use Rattle.core_laws.specs.Waits.{watch_told, opening_by}
use Rattle.core_laws.proofs.FileKinds.{number_in, watch_number}
use Rattle.core_laws.proofs.Lists.{without, without_both, without_none, without_same, found}
use Rattle.core_laws.proofs.Zips.{by_follower, has_key, AsksApart, asks_without, first_without, none_first, not_that}
use Rattle.core_laws.proofs.Endings.{cancels_with, closes_with, leaves_read}
use Rattle.core_laws.proofs.Staying.{heard, is_there, is_of_one}
use Rattle.core_laws.proofs.Watches.{next_left}

-- ---- reads that are answered

watch_none : (w : WatchState) → next_of w ≡ None → next_served w ≡ None
watch_none w h = ap (λ (o : Option WatchRead). option_map {U = WatchRead × Piece} (λ r. (r, piece_for w r)) o) h

watch_stays : (n at : ℕ) (w : WatchState) → next_served w ≡ None → after_serving_most n at w ≡ w
unfolding after_serving_most
watch_stays zero at w h = refl
watch_stays (suc n) at w h = ap (λ (x : WatchState). after_serving_most n at x) (idle at w h) ∙ watch_stays n at w h

pub watch_without : (n at : ℕ) (w : WatchState) → AsksApart watch_told w.reads
    → (after_serving_most n at w).reads ≡ without (by_follower (heard (served_most n at w))) w.reads
unfolding after_serving_most served_most
watch_without zero at w apart = sym (without_none (λ (r : WatchRead). false) w.reads (λ k d l. refl))
watch_without (suc n) at w apart = by (next_of w) refl (watch_without n at (after_serve w at))
  where
    by : (o : Option WatchRead) → next_of w ≡ o → (AsksApart watch_told (after_next o w at).reads
        → (after_serving_most n at (after_next o w at)).reads ≡ without
        (by_follower (heard (served_most n at (after_next o w at)))) (after_next o w at).reads)
        → (after_serving_most n at (after_next o w at)).reads ≡ without
        (by_follower (heard (then_served (option_map {U = WatchRead × Piece} (λ r. (r, piece_for w r)) o)
        (served_most n at (after_next o w at))))) w.reads
    by None e later = ap (λ (x : WatchState). x.reads) (watch_stays n at w (watch_none w e))
        ∙ sym (without_none (λ (r : WatchRead). false) w.reads (λ k d l. refl))
    by (Some r) e later =
        let its : WatchRead → Bool = has_key watch_told r.asker.conn r.asker.tag in
        let one : (after_next (Some r) w at).reads ≡ without its w.reads =
        next_left w r at
        ∙ first_without watch_told without_first (λ p. refl) (λ p x xs. refl) (can_answer w.log w.jobs) w.reads r e
        apart
        in
        later (subst (AsksApart watch_told) (sym one) (asks_without watch_told its w.reads apart))
        ∙ ap (without (by_follower (heard (served_most n at (after_next (Some r) w at))))) one
        ∙ without_both (by_follower (heard (served_most n at (after_next (Some r) w at)))) its w.reads

-- nothing is said to a tag with which none waited
pub watch_silent : (n at : ℕ) (w : WatchState) (c g : ℕ) → list_any (has_key watch_told c g) w.reads ≡ false →
    heard (served_most n at w) c g ≡ false
unfolding served_most
watch_silent zero at w c g none = refl
watch_silent (suc n) at w c g none = by (next_of w) refl (watch_silent n at (after_serve w at) c g)
  where
    by : (o : Option WatchRead) → next_of w ≡ o → (list_any (has_key watch_told c g) (after_next o w at).reads ≡ false →
        heard (served_most n at (after_next o w at)) c g ≡ false)
        → heard (then_served (option_map {U = WatchRead × Piece} (λ r. (r, piece_for w r)) o)
        (served_most n at (after_next o w at))) c g ≡ false
    by None e later = refl
    by (Some r) e later =
        ap (λ (b : Bool). b || heard (served_most n at (after_next (Some r) w at)) c g)
        (not_that watch_told c g w.reads r none (found (can_answer w.log w.jobs) w.reads r e))
        ∙ later (ap (list_any (has_key watch_told c g)) (next_left w r at)
        ∙ none_first watch_told without_first (λ p. refl) (λ p x xs. refl) (has_key watch_told c g)
        (can_answer w.log w.jobs) w.reads none)

-- ---- openings that close

-- the read is on this opening
abbrev is_followed : Option WatchOpening → WatchRead → Bool
is_followed o r = is_there (number_in r.file o) r.asker

in_reads : (at : ℕ) (w : WatchState) (f : WatchFile) (n : ℕ) → (left_in at w f n).reads ≡ without (is_of_opening f n)
    w.reads
in_reads at w Log n = refl
in_reads at w Jobs n = refl

in_counts : (at : ℕ) (w : WatchState) (f : WatchFile) (n : ℕ) → (left_in at w f n).opened ≡ w.opened
in_counts at w Log n = refl
in_counts at w Jobs n = refl

of_it : (o : WatchOpening) (r : WatchRead) → is_of_opening o.file o.opening r ≡ is_followed (Some o) r
of_it o r =
    elim (same_file o.file r.file) as (λ b. (b && is_on o.opening r.asker)
    ≡ is_there (cond b (Some o.opening) None) r.asker) [
      | true ↦ refl
      | false ↦ refl
    ]

closed_reads : (at : ℕ) (w : WatchState) (o : Option WatchOpening) → (without_opening at w o).reads
    ≡ without (is_followed o) w.reads
closed_reads at w None = sym (without_none (is_followed None) w.reads (λ k d l. refl))
closed_reads at w (Some o) = in_reads at w o.file o.opening ∙ without_same (is_of_opening o.file o.opening)
    (is_followed (Some o)) w.reads (λ r i. of_it o r)

closed_counts : (at : ℕ) (w : WatchState) (o : Option WatchOpening) → (without_opening at w o).opened ≡ w.opened
closed_counts at w None = refl
closed_counts at w (Some o) = in_counts at w o.file o.opening

-- the read is on an opening of one of these fids
abbrev is_of_fids : List (ℕ × Fid) → WatchRead → Bool
is_of_fids fs r = is_of_one (watch_number r.file) fs r.asker

fids_reads : (at : ℕ) (w : WatchState) (fs : List (ℕ × Fid)) → (fold (without_fid at) w fs).reads
    ≡ without (is_of_fids fs) w.reads
fids_reads at w [] = sym (without_none (is_of_fids []) w.reads (λ k d l. refl))
fids_reads at w (f ∷ fs) =
    fids_reads at (without_fid at w f) fs
    ∙ ap (without (is_of_fids fs)) (closed_reads at w (watch_opening f.1))
    ∙ without_both (is_of_fids fs) (is_followed (watch_opening f.1)) w.reads

fids_counts : (at : ℕ) (w : WatchState) (fs : List (ℕ × Fid)) → (fold (without_fid at) w fs).opened ≡ w.opened
fids_counts at w [] = refl
fids_counts at w (f ∷ fs) = fids_counts at (without_fid at w f) fs ∙ closed_counts at w (watch_opening f.1)

-- ---- what a step ends

-- the opening of the read closes with its fid
abbrev closes_watch : Tables → ℕ → Effect → WatchRead → Bool
closes_watch t conn e r = closes_with (watch_number r.file) t conn e r.asker

-- those that are left when an event of this kind has ended what it does
abbrev pub leaves_watch : Tables → Kind → Doing → WatchRead → Bool
leaves_watch t k d r = leaves_read (watch_number r.file) t k d r.asker

none_ends : (rs : List WatchRead) → rs ≡ without (λ r. false) rs
none_ends rs = sym (without_none (λ (r : WatchRead). false) rs (λ k d l. refl))

number_found : (f : WatchFile) (o : Option Fid) → number_in f (opening_in o) ≡ opening_by (watch_number f) o
number_found f None = refl
number_found f (Some fid) = refl

freed_reads : (at : ℕ) (w : WatchState) (t : Tables) (conn : ℕ) (e : Effect)
    → (watch_freed at w t conn e).reads ≡ without (closes_watch t conn e) w.reads
freed_reads at w t conn effect.Nothing = none_ends w.reads
freed_reads at w t conn (effect.Begins msize) = fids_reads at w (fids_of t conn)
freed_reads at w t conn (effect.Puts number fid) = none_ends w.reads
freed_reads at w t conn (effect.Frees number) =
    closed_reads at w (opening_in (fid_of t conn number))
    ∙ without_same (is_followed (opening_in (fid_of t conn number))) (closes_watch t conn (effect.Frees number)) w.reads
    (λ r i. ap (λ (o : Option ℕ). is_there o r.asker) (number_found r.file (fid_of t conn number)))

freed_counts : (at : ℕ) (w : WatchState) (t : Tables) (conn : ℕ) (e : Effect)
    → (watch_freed at w t conn e).opened ≡ w.opened
freed_counts at w t conn effect.Nothing = refl
freed_counts at w t conn (effect.Begins msize) = fids_counts at w (fids_of t conn)
freed_counts at w t conn (effect.Puts number fid) = refl
freed_counts at w t conn (effect.Frees number) = closed_counts at w (opening_in (fid_of t conn number))

cancelled_reads : (w : WatchState) (conn : ℕ) (v : EventChange)
    → (watch_cancelled w conn v).reads ≡ without (by_follower (cancels_with conn v)) w.reads
cancelled_reads w conn events.Nothing = none_ends w.reads
cancelled_reads w conn (events.Opens v) = none_ends w.reads
cancelled_reads w conn (events.Joins port) = none_ends w.reads
cancelled_reads w conn (events.Watches file) = none_ends w.reads
cancelled_reads w conn (events.Cancels tag) = refl

cancelled_counts : (w : WatchState) (conn : ℕ) (v : EventChange) → (watch_cancelled w conn v).opened ≡ w.opened
cancelled_counts w conn events.Nothing = refl
cancelled_counts w conn (events.Opens v) = refl
cancelled_counts w conn (events.Joins port) = refl
cancelled_counts w conn (events.Watches file) = refl
cancelled_counts w conn (events.Cancels tag) = refl

pub left_watch_without : (at : ℕ) (t : Tables) (k : Kind) (d : Doing) (w : WatchState)
    → (left_watch at t k d w).reads ≡ without (leaves_watch t k d) w.reads
left_watch_without at t (kind.Dials conn) d w = none_ends w.reads
left_watch_without at t (kind.Asks conn tag) d w =
    cancelled_reads (watch_freed at w t conn d.effect) conn d.events
    ∙ ap (without (by_follower (cancels_with conn d.events))) (freed_reads at w t conn d.effect)
    ∙ without_both (by_follower (cancels_with conn d.events)) (closes_watch t conn d.effect) w.reads
left_watch_without at t (kind.Ends conn why) d w =
    fids_reads at w (fids_of t conn)
    ∙ none_ends (without (is_of_fids (fids_of t conn)) w.reads)
    ∙ without_both (λ (r : WatchRead). false) (is_of_fids (fids_of t conn)) w.reads
left_watch_without at t (kind.Takes conn) d w = none_ends w.reads
left_watch_without at t kind.Acts d w = none_ends w.reads

pub left_watch_counts : (at : ℕ) (t : Tables) (k : Kind) (d : Doing) (w : WatchState)
    → (left_watch at t k d w).opened ≡ w.opened
left_watch_counts at t (kind.Dials conn) d w = refl
left_watch_counts at t (kind.Asks conn tag) d w =
    cancelled_counts (watch_freed at w t conn d.effect) conn d.events ∙ freed_counts at w t conn d.effect
left_watch_counts at t (kind.Ends conn why) d w = fids_counts at w (fids_of t conn)
left_watch_counts at t (kind.Takes conn) d w = refl
left_watch_counts at t kind.Acts d w = refl

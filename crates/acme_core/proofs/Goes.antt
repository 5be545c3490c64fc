-- A run goes on, and what is kept goes on with it.
use Rattle.std.proofs.Common.{◌≡◌, ℕ, zero, suc, false, ◌+◌, ◌-◌, List, [], ◌∷◌, ◌++◌, length, Option, Some, None, refl}
use Rattle.std.proofs.Common.{sym, ap, subst, ◌∙◌, arith, append_assoc}
use Rattle.std.specs.Prelude.{replicate}
use Rattle.std.specs.List.{fold}
use Rattle.std.proofs.lemmas.Grind.{fold-append}
use Rattle.std.proofs.lemmas.List.{length-append, append-nil}
use Rattle.am_text.specs.Room.{Room}
use Rattle.am_journal.specs.declared.event.Event.{Event}
use Rattle.am_journal.specs.declared.event.Format.{Format}
use Rattle.am_journal.specs.declared.event.Journal.{Journal}
use Rattle.am_journal.specs.Journal.{journal_in, longer}
use Rattle.am_journal.specs.declared.event.Why.{Why}
use Rattle.am_journal.specs.Lawful.{IsLawful}
use Rattle.am_counter.specs.Played.{ArePlayed, IsPlayed}
use Rattle.core_windows.specs.Windows.{Window}
use Rattle.core_windows.specs.Stories.{AreLawful}
use Rattle.core_windows.specs.WindowLaws.{ChangesAreLawful, AreNumbered, NumbersStay}
use Rattle.am_text.specs.Twice.{both}
use Rattle.core_scene.specs.Scenes.{kept_of, scene_in}
use Rattle.core_scene.specs.SceneLaws.{changes_in, AreShown, DeedsShow}
use Rattle.core_scene.proofs.Settled.{settled_in}
use Rattle.core_events.specs.Sound.{IsSound, IsIdle}
use Rattle.core_events.specs.PortSound.{ArePortsSound, ArePortsIdle}
use Rattle.core_events.proofs.PortSounds.{sound_beginning}
use Rattle.core_watch.specs.Sound.{IsWatchSound, IsWatchIdle}
use Rattle.core_watch.proofs.Sounds.{sound_watching}
use Rattle.core_closing.specs.declared.prepared.Prepared.{Prepared}
use Rattle.core_parts.specs.declared.parts.Parts.{Parts}
use Rattle.core_parts.specs.declared.connection.Connection.TheVariants.{Undialed}
use Rattle.core_parts.specs.Connections.{connection_at, connections_after, live_count, was_dialed, AreJoined}
use Rattle.core_intents.specs.Doings.{doing_of, entry_of, CanBeDone}
use Rattle.core_parts.specs.Kinds.{kind_of}
use Rattle.acme_core.specs.Kept.{IsKept, IsReady, IsPrepared, AreSound, planned_of}
use Rattle.core_parts.specs.Parts.{present_of, AreSteady}
use Rattle.acme_core.specs.Run.{step, run, present_after, enabled_in, AreEnabled, ArePossible, IsPossible}
use Rattle.core_steps.specs.Stages.{after}
use Rattle.core_parts.specs.States.{Present, State, present, start_of}
use Rattle.acme_core.proofs.Few.{length-connections}
use Rattle.core_steps.proofs.Joins.{joins_on}
use Rattle.core_intents.proofs.Kinded.{numbered, found}
use Rattle.acme_core.proofs.Idling.{idle_after, ports_idle_after, watch_idle_after}

pub run-push : (journal : Journal) (e : Event) → run (longer journal e) ≡ step (run journal) e
unfolding run
run-push journal e = fold-append step (start_of journal.format) journal.events (e ∷ [])

-- ---- the events were enabled

played_more : (allows : List Event → Event → Option Why) (before events : List Event) (e : Event)
    → ArePlayed allows before events → IsLawful e → allows (before ++ events) e ≡ None
    → ArePlayed allows before (events ++ e ∷ [])
unfolding ArePlayed
played_more allows before [] e all lawful allowed = (
  lawful,
  subst (λ (l : List Event). allows l e ≡ None)
      (append-nil before) allowed,
  tt,
)
played_more allows before (x ∷ events) e all lawful allowed = (
  all.0,
  all.1,
  played_more allows (before ++ x ∷ []) events e all.2 lawful
      (subst (λ (l : List Event). allows l e ≡ None) (sym (append_assoc before (x ∷ []) events)) allowed),
)

none_played : (allows : List Event → Event → Option Why) → IsPlayed allows []
unfolding ArePlayed
none_played allows = tt

-- ---- and could be done

possible_more : (format : Format) (before events : List Event) (e : Event)
    → ArePossible (journal_in format before) events
    → CanBeDone (present_after (journal_in format (before ++ events)))
    (doing_of (present_after (journal_in format (before ++ events))) e)
    → ArePossible (journal_in format before) (events ++ e ∷ [])
unfolding ArePossible
possible_more format before [] e all can = (
  subst (λ (l : List Event). CanBeDone (present_after (journal_in format l))
      (doing_of (present_after (journal_in format l)) e)) (append-nil before) can,
  tt,
)
possible_more format before (x ∷ events) e all can = (
  all.0,
  possible_more format (before ++ x ∷ []) events e all.1 (subst
      (λ (l : List Event). CanBeDone (present_after (journal_in format l))
      (doing_of (present_after (journal_in format l)) e))
      (sym (append_assoc before (x ∷ []) events)) can),
)

pub none_possible : (format : Format) → IsPossible (journal_in format [])
unfolding ArePossible
none_possible format = tt

-- what the deeds of a step make of the windows is what their changes make of the story
shows : DeedsShow → (s : State) (e : Event) → AreLawful s.windows → CanBeDone (present s) (doing_of (present s) e)
    → AreShown (entry_of (present s) (doing_of (present s) e)) s.windows (present s).scene
    (doing_of (present s) e).deeds
shows show s e lawful possible = show (entry_of (present s) (doing_of (present s) e)) s.windows (present s).scene
    (doing_of (present s) e).deeds refl lawful possible

-- what a step makes of the editor as it stands is what it makes of the story
stands_on : DeedsShow → (s : State) (e : Event) → AreLawful s.windows → CanBeDone (present s) (doing_of (present s) e)
    → present (step s e) ≡ after (present s) e (doing_of (present s) e)
unfolding step
stands_on show s e lawful possible =
    ap (λ (ws : List (Option Window)). record (after (present s) e (doing_of (present s) e))
    { scene = record (after (present s) e (doing_of (present s) e)).scene { windows = ws } })
    (shows show s e lawful possible).shown

pub lawful_on : DeedsShow → (s : State) (e : Event) → AreLawful s.windows
    → CanBeDone (present s) (doing_of (present s) e) → AreLawful (step s e).windows
unfolding step
lawful_on show s e lawful possible = (shows show s e lawful possible).lawful

-- the tables stay sound
sound_on : (old new : Parts) (spare : ℕ) (p : Prepared) → AreSound old → IsPrepared (present_of old) spare old p
    → present_of new ≡ after (present_of old) p.event (doing_of (present_of old) p.event)
    → IsSound new.entries new.scene.book.kept → IsIdle new.scene.book.kept
    → ArePortsSound new.scene.ports.kept → ArePortsIdle new.scene.ports.kept
    → IsWatchSound new.scene.watch.kept → IsWatchIdle new.scene.watch.kept → AreSound new
sound_on old new spare p was ready changed book idle ports ports_idle watch watch_idle =
    let s : Present = present_of old in
    record {
      conns = ap (λ (x : Present). length x.connections) changed ∙ length-connections old.connections.items
          (kind_of p.event) ∙ was.conns;
      joined = subst (λ (x : Present). AreJoined x.connections x.tables) (sym changed)
          (joins_on s (kind_of p.event) (doing_of s p.event) was.conns (numbered p.event ready.lawful)
          (found s p.event ready.allowed) was.joined);
      book = book;
      idle = idle;
      ports = ports;
      ports_idle = ports_idle;
      watch = watch;
      watch_idle = watch_idle;
    }

-- what is kept goes on with a step
pub kept_on : DeedsShow → (format : Format) (entries next : Room Event) (old new : Parts) (p : Prepared) (e : Event)
    (left : Option Prepared)
    → IsKept format entries old (Some p) → e ≡ p.event → next.items ≡ entries.items ++ e ∷ [] → next.spare ≡ entries.spare - 1
    → present_of new ≡ after (present_of old) p.event (doing_of (present_after (journal_in format entries.items)) p.event)
    → IsSound new.entries new.scene.book.kept → ArePortsSound new.scene.ports.kept → IsWatchSound new.scene.watch.kept
    → AreSteady new → left ≡ None → IsKept format next new left
kept_on show format entries next old new p e left was is grown spare changed book ports watch steady none =
    let s : State = run (journal_in format entries.items) in
    let ready : IsPrepared (present s) entries.spare old p = was.ready in
    let pushed : next.items ≡ entries.items ++ p.event ∷ [] = grown ∙ ap (λ (x : Event). entries.items ++ x ∷ []) is in
    let stood : present_of new ≡ after (present s) p.event (doing_of (present s) p.event) =
    changed ∙ ap (λ (x : Present). after x p.event (doing_of (present s) p.event)) was.state
    in
    let stepped : present_of new ≡ present (step s p.event) = stood
    ∙ sym (stands_on show s p.event was.lawful ready.possible) in
    let ran : step s p.event ≡ run (journal_in format next.items) =
    sym (run-push (journal_in format entries.items) p.event)
    ∙ ap (λ (l : List Event). run (journal_in format l)) (sym pushed)
    in
    let readied : IsPrepared (present_of old) entries.spare old p =
    subst (λ (x : Present). IsPrepared x entries.spare old p) (sym was.state) ready in
    let same : present_of new ≡ after (present_of old) p.event (doing_of (present_of old) p.event) =
    changed ∙ ap (λ (x : Present). after (present_of old) p.event (doing_of x p.event)) (sym was.state)
    in
    let lives : new.connections.items ≡ connections_after old.connections.items (kind_of p.event) =
    ap (λ (x : Present). x.connections) changed in
    let count : live_count new.connections.items ≡ live_count (connections_after old.connections.items
    (kind_of p.event)) = ap live_count lives in
    let numbered : new.entries ≡ old.entries + 1 = ap (λ (x : Present). x.entries) changed in
    let had : (present s).entries ≡ old.entries = sym (ap (λ (x : Present). x.entries) was.state) in
    let longer : length next.items ≡ length entries.items + 1 = ap (λ (l : List Event). length l) pushed
    ∙ length-append entries.items (p.event ∷ []) in
    record {
      played = subst (λ (l : List Event). AreEnabled (journal_in format l)) (sym pushed)
          (played_more (enabled_in format) [] entries.items p.event was.played ready.lawful ready.allowed);
      possible = subst (λ (l : List Event). IsPossible (journal_in format l)) (sym pushed)
          (possible_more format [] entries.items p.event was.possible ready.possible);
      state = stepped ∙ ap present ran;
      lawful = subst (λ (x : State). AreLawful x.windows) ran (lawful_on show s p.event was.lawful ready.possible);
      counted = omega (arith, numbered, was.counted, longer);
      sound = sound_on old new entries.spare p was.sound readied same book
          (subst (λ (x : Present). IsIdle x.scene.book) (sym (stepped ∙ ap present ran)) (idle_after (journal_in format next.items)))
          ports (subst (λ (x : Present). ArePortsIdle x.scene.ports) (sym (stepped ∙ ap present ran))
          (ports_idle_after (journal_in format next.items)))
          watch (subst (λ (x : Present). IsWatchIdle x.scene.watch) (sym (stepped ∙ ap present ran))
          (watch_idle_after (journal_in format next.items)));
      hangs = record {
        room = omega (arith, count, spare, ready.entries.room);
        numbers =
            omega (arith, count, numbered, had, ready.entries.numbers);
      };
      ready = subst (λ (x : Option Prepared). IsReady (present_after (journal_in format next.items)) next.spare new x) (sym none) steady;
    }

-- a plan that waits is dropped
pub kept_back : (format : Format) (entries : Room Event) (parts new : Parts) (prepared left : Option Prepared)
    → IsKept format entries parts prepared → left ≡ None
    → new ≡ record parts {
      sessions = both parts.sessions.kept;
      scene = scene_in (kept_of parts.scene);
      outputs =
          both parts.outputs.kept;
    } → IsKept format entries new left
kept_back format entries parts new prepared left was none back =
    let gone : Parts = record parts {
      sessions = both parts.sessions.kept;
      scene = scene_in (kept_of parts.scene);
      outputs = both parts.outputs.kept;
    } in
    subst (λ (x : Parts). IsKept format entries x left) (sym back)
    (record {
      played = was.played;
      possible = was.possible;
      state = was.state;
      lawful = was.lawful;
      counted = was.counted;
      sound = record {
        conns = was.sound.conns;
        joined = was.sound.joined;
        book = was.sound.book;
        idle = was.sound.idle;
        ports = was.sound.ports;
        ports_idle = was.sound.ports_idle;
        watch = was.sound.watch;
        watch_idle = was.sound.watch_idle;
      };
      hangs = was.hangs;
      ready = subst (λ (x : Option Prepared). IsReady (present_after (journal_in format entries.items)) entries.spare gone x) (sym none)
          (record { sessions = refl; scene = settled_in (kept_of parts.scene); outputs = refl });
    })

-- ---- the empty editor

undialed_at : (n c : ℕ) → false ≡ was_dialed (connection_at (replicate n Undialed) c)
undialed_at zero c = refl
undialed_at (suc n) zero = refl
undialed_at (suc n) (suc c) = undialed_at n c

none_live : (n : ℕ) → live_count (replicate n Undialed) ≡ 0
none_live zero = refl
none_live (suc n) = none_live n

pub kept_start : ChangesAreLawful → (format : Format) (entries : Room Event) (parts : Parts) → entries.items ≡ []
    → present_of parts ≡ present (start_of format) → AreSteady parts → IsKept format entries parts None
unfolding run
kept_start laws format entries parts empty state steady =
    let none : live_count parts.connections.items ≡ 0 = ap (λ (x : Present). live_count x.connections) state
    ∙ none_live 64 in
    let first : parts.entries ≡ 0 = ap (λ (x : Present). x.entries) state in
    record {
      played = subst (λ (l : List Event). AreEnabled (journal_in format l)) (sym empty)
          (none_played (enabled_in format));
      possible = subst (λ (l : List Event). IsPossible (journal_in format l)) (sym empty) (none_possible format);
      state = state ∙ ap (λ (l : List Event). present_after (journal_in format l)) (sym empty);
      lawful = subst (λ (l : List Event). AreLawful (run (journal_in format l)).windows) (sym empty) laws.begins;
      counted = first ∙ ap (λ (l : List Event). length l) (sym empty);
      sound = record {
        conns = ap (λ (x : Present). length x.connections) state;
        joined = subst (λ (x : Present). AreJoined x.connections x.tables) (sym state) (undialed_at 64);
        book = subst (λ (x : Present). IsSound x.entries x.scene.book) (sym state)
            (record { latest = omega arith; small = refl });
        idle = subst (λ (x : Present). IsIdle x.scene.book) (sym state) refl;
        ports = subst (λ (x : Present). ArePortsSound x.scene.ports) (sym state) sound_beginning;
        ports_idle = subst (λ (x : Present). ArePortsIdle x.scene.ports) (sym state) refl;
        watch = subst (λ (x : Present). IsWatchSound x.scene.watch) (sym state) sound_watching;
        watch_idle = subst (λ (x : Present). IsWatchIdle x.scene.watch) (sym state) refl;
      };
      hangs = record { room = omega (arith, none); numbers = omega (arith, none, first) };
      ready = steady;
    }

-- ---- the number of an entry

counts : (s : State) (journal : List Event) → (fold step s journal).entries ≡ s.entries + length journal
unfolding step
counts s [] = omega arith
counts s (e ∷ journal) = omega (arith, counts (step s e) journal)

pub entries_counted : (journal : Journal) → (run journal).entries ≡ length journal.events
unfolding run
entries_counted journal = omega (arith, counts (start_of journal.format) journal.events)

-- ---- the numbers of groups

numbered_on : NumbersStay → (s : State) (e : Event) → AreNumbered s.entries s.windows
    → AreNumbered (step s e).entries (step s e).windows
unfolding step
numbered_on law s e h = law.stays s.entries (s.entries + 1) s.windows (changes_in (doing_of (present s) e).deeds)
    (omega arith) h

numbered_from : NumbersStay → (s : State) (journal : List Event) → AreNumbered s.entries s.windows
    → AreNumbered (fold step s journal).entries (fold step s journal).windows
numbered_from law s [] h = h
numbered_from law s (e ∷ journal) h = numbered_from law (step s e) journal (numbered_on law s e h)

pub groups_numbered : NumbersStay → (journal : Journal)
    → AreNumbered (length journal.events) (run journal).windows
unfolding run
groups_numbered law journal =
    subst (λ (n : ℕ). AreNumbered n (fold step (start_of journal.format) journal.events).windows)
    (entries_counted journal) (numbered_from law (start_of journal.format) journal.events law.begins)

-- ---- where no plan waits

pub steady_of : (s : Present) (spare : ℕ) (parts : Parts) (prepared : Option Prepared)
    → planned_of prepared ≡ None → IsReady s spare parts prepared → AreSteady parts
steady_of s spare parts None none ready = ready
steady_of s spare parts (Some p) none ready = absurd cc

pub ruleset asking = (steady_of)

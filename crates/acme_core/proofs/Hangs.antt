-- What is ready for a hang-up.
use Rattle.std.proofs.Common.{◌≡◌, ℕ, ◌+◌, true, List, [], ◌∷◌, length, None, refl, sym, ap, subst, ◌∙◌, arith}
use Rattle.std.specs.Prelude.{slice_set}
use Rattle.std.specs.Global.{Vec}
use Rattle.am_journal.specs.declared.event.Event.{Event}
use Rattle.am_journal.specs.declared.event.Event.TheVariants as event
use Rattle.am_journal.specs.Lawful.{IsLawful}
use Rattle.fid_table.specs.Tables.{Tables}
use Rattle.event_book.specs.BookState.{BookState, served_of}
use Rattle.core_scene.specs.Scenes.{kept_of}
use Rattle.core_scene.proofs.Settled.{settled_is}
use Rattle.core_fids.specs.declared.effect.Effect.TheVariants as effect
use Rattle.core_fids.specs.declared.effect.EventChange.TheVariants as events
use Rattle.core_events.specs.declared.response.Response.{Response}
use Rattle.core_events.specs.Serving.{served_all, book_served_all}
use Rattle.core_events.specs.Sound.{IsSound}
use Rattle.plumb_ports.specs.PortsState.{PortsState}
use Rattle.core_events.specs.PortServing.{ports_served, ports_after_serving}
use Rattle.core_events.specs.PortSound.{ArePortsSound}
use Rattle.core_events.proofs.PortIdles.{none_said, none_taken}
use Rattle.acme_watch.specs.Watching.{WatchState}
use Rattle.core_watch.specs.Serving.{watch_served, watch_after_serving}
use Rattle.core_watch.specs.Sound.{IsWatchSound}
use Rattle.core_events.proofs.Turns.{all_none, book_all_none}
use Rattle.acme_core.proofs.Few.{lives_less}
use Rattle.core_steps.proofs.Idling.{none_served}
use Rattle.core_steps.proofs.Orders.{none_asked}
use Rattle.acme_core.proofs.Watching.{none_said as none_followed, none_taken as none_given}
use Rattle.core_parts.specs.declared.parts.Parts.{Parts}
use Rattle.core_outputs.specs.declared.reply.Reply.{Reply}
use Rattle.core_parts.specs.declared.connection.Connection.{Connection}
use Rattle.core_parts.specs.declared.connection.Connection.TheVariants.{Ended}
use Rattle.core_closing.specs.declared.prepared.Prepared.{Prepared}
use Rattle.core_parts.specs.Connections.{connection_at, connections_after, live_count, IsOfJoined, IsJoinedFor}
use Rattle.core_intents.specs.Enabled.{live_refusal}
use Rattle.acme_core.specs.Kept.{HasEntries, IsPrepared, AreSound}
use Rattle.core_tasks.specs.Tasks.{task_deeds, task_held}
use Rattle.core_intents.specs.Doings.{enabled_at, doing_of, CanBeDone}
use Rattle.core_parts.specs.Kinds.{kind_of, is_hang}
use Rattle.core_parts.specs.Parts.{present_of, AreSteady}
use Rattle.core_steps.specs.Order.{as_asked}
use Rattle.core_steps.specs.Ready.{HasReady}
use Rattle.core_parts.specs.States.{Present}
use Rattle.core_steps.specs.Replies.{replies_of}
use Rattle.core_outputs.specs.Unsent.{put_replies}

pub hang_ready : (p : Parts) (e : Event) (at : ℕ) (replies : Vec Reply)
    → is_hang e ≡ true → IsJoinedFor p.sessions.kept (kind_of e) → AreSteady p → AreSound p → at ≡ p.entries + 1
    → replies.items ≡ []
    → HasReady p (record {
      event = e;
      at = at;
      effect = effect.Nothing;
      events = events.Nothing;
      deleted = [];
      back =
          None;
      answers = None;
      user = None;
      said = [];
      replies = replies;
    }) (doing_of (present_of p) e)
unfolding task_deeds task_held
hang_ready p (event.Hang conn why) at replies h joined steady sound numbered none =
    let b : BookState = p.scene.book.kept in
    let silent : served_of b ≡ None = none_served b sound.idle in
    let q : PortsState = p.scene.ports.kept in
    let w : WatchState = p.scene.watch.kept in
    let said : as_asked p.sessions.kept (
    served_all (p.entries + 1) b ∷ ports_served q ∷ watch_served (p.entries + 1) w ∷ []
    ) ≡ [] =
    none_asked p.sessions.kept (served_all (p.entries + 1) b) (ports_served q) (watch_served (p.entries + 1) w)
    (all_none (p.entries + 1) b silent) (none_said q sound.ports_idle)
    (none_followed (p.entries + 1) w sound.watch_idle)
    in
    record {
      at = numbered;
      effect = refl;
      events = refl;
      deleted = refl;
      back = refl;
      written = refl;
      user = refl;
      answers = sym said;
      replies = none ∙ ap replies_of (sym said);
      joined = subst (λ (t : Tables). IsOfJoined t (kind_of (event.Hang conn why))) (sym steady.sessions) joined;
      sessions = steady.sessions;
      scene = settled_is p.scene steady.scene ∙ ap (λ (x : BookState). record (kept_of p.scene) { book = x })
          (sym (book_all_none (p.entries + 1) b silent))
          ∙ ap (λ (x : PortsState). record (kept_of p.scene) { book = book_served_all (p.entries + 1) b; ports = x })
          (sym (none_taken q sound.ports_idle))
          ∙ ap (λ (x : WatchState). record (kept_of p.scene) {
            book = book_served_all (p.entries + 1) b;
            ports = ports_after_serving q;
            watch = x;
          }) (sym (none_given (p.entries + 1) w sound.watch_idle));
      ports = subst ArePortsSound (sym steady.scene.ports) sound.ports;
      watch = subst IsWatchSound (sym steady.scene.watch) sound.watch;
      sound = subst (λ (n : ℕ). IsSound n p.scene.book.present) (sym numbered)
          (subst (λ (x : BookState). IsSound (p.entries + 1) x) (sym steady.scene.book)
          (record { latest = omega (arith, sound.book.latest); small = sound.book.small }));
      outputs = steady.outputs ∙ ap (λ (xs : List Response). put_replies p.outputs.kept (replies_of xs)) (sym said);
    }
hang_ready p (event.Dial conn) at replies h joined steady sound numbered none = absurd cc
hang_ready p (event.Msg conn msg) at replies h joined steady sound numbered none = absurd cc
hang_ready p (event.Took conn) at replies h joined steady sound numbered none = absurd cc
hang_ready p event.New at replies h joined steady sound numbered none = absurd cc
hang_ready p (event.Key w side text) at replies h joined steady sound numbered none = absurd cc
hang_ready p (event.Sel w range) at replies h joined steady sound numbered none = absurd cc
hang_ready p (event.Exec spot) at replies h joined steady sound numbered none = absurd cc
hang_ready p (event.Arg spot chord) at replies h joined steady sound numbered none = absurd cc
hang_ready p (event.Look spot) at replies h joined steady sound numbered none = absurd cc
hang_ready p (event.File path text) at replies h joined steady sound numbered none = absurd cc
hang_ready p (event.Dir path) at replies h joined steady sound numbered none = absurd cc

-- a hang-up has no deeds
pub hang_can : (s : Present) (e : Event) → is_hang e ≡ true → CanBeDone s (doing_of s e)
unfolding task_deeds
hang_can s (event.Hang conn why) h = tt
hang_can s (event.Dial conn) h = absurd cc
hang_can s (event.Msg conn msg) h = absurd cc
hang_can s (event.Took conn) h = absurd cc
hang_can s event.New h = absurd cc
hang_can s (event.Key w side text) h = absurd cc
hang_can s (event.Sel w range) h = absurd cc
hang_can s (event.Exec spot) h = absurd cc
hang_can s (event.Arg spot chord) h = absurd cc
hang_can s (event.Look spot) h = absurd cc
hang_can s (event.File path text) h = absurd cc
hang_can s (event.Dir path) h = absurd cc

-- a hang-up that is enabled is prepared where it is ready
pub hang_prepared : (s : Present) (spare : ℕ) (parts : Parts) (p : Prepared) (e : Event) → is_hang e ≡ true → IsLawful e
    → enabled_at s e ≡ None → p.event ≡ e → HasReady parts p (doing_of s e)
    → s.connections ≡ parts.connections.items → length parts.connections.items ≡ 64 → HasEntries s.entries spare
    (live_count parts.connections.items) → IsPrepared s spare parts p
hang_prepared s spare parts p (event.Hang conn why) h lawful allowed is ready same few entries =
    let cs : List Connection = parts.connections.items in
    let here : live_refusal (connection_at cs conn) ≡ None = subst
    (λ (x : List Connection). live_refusal (connection_at x conn) ≡ None) same allowed in
    let less : live_count (slice_set cs conn (Ended why)) + 1 ≡ live_count cs = lives_less cs conn why few lawful
    here in
    record {
      lawful = subst IsLawful (sym is) lawful;
      allowed = subst (λ (x : Event). enabled_at s x ≡ None) (sym is) allowed;
      possible = subst (λ (x : Event). CanBeDone s (doing_of s x)) (sym is) (hang_can s (event.Hang conn why) h);
      ready = subst (λ (x : Event). HasReady parts p (doing_of s x)) (sym is) ready;
      entries = subst (λ (x : Event). HasEntries s.entries spare (live_count (connections_after cs (kind_of x)) + 1))
          (sym is)
          (subst (λ (n : ℕ). HasEntries s.entries spare n) (sym less) entries);
    }
hang_prepared s spare parts p (event.Dial conn) h lawful allowed is ready same few entries = absurd cc
hang_prepared s spare parts p (event.Msg conn msg) h lawful allowed is ready same few entries = absurd cc
hang_prepared s spare parts p (event.Took conn) h lawful allowed is ready same few entries = absurd cc
hang_prepared s spare parts p event.New h lawful allowed is ready same few entries = absurd cc
hang_prepared s spare parts p (event.Key w side text) h lawful allowed is ready same few entries = absurd cc
hang_prepared s spare parts p (event.Sel w range) h lawful allowed is ready same few entries = absurd cc
hang_prepared s spare parts p (event.Exec spot) h lawful allowed is ready same few entries = absurd cc
hang_prepared s spare parts p (event.Arg spot chord) h lawful allowed is ready same few entries = absurd cc
hang_prepared s spare parts p (event.Look spot) h lawful allowed is ready same few entries = absurd cc
hang_prepared s spare parts p (event.File path text) h lawful allowed is ready same few entries = absurd cc
hang_prepared s spare parts p (event.Dir path) h lawful allowed is ready same few entries = absurd cc

pub ruleset hung = (hang_prepared)

-- the same, where what is deleted and said is known to be nothing
pub hanging : (p : Parts) (e : Event) (at : ℕ) (replies : Vec Reply) (deleted : List ℕ) (heard : List Response)
    → deleted ≡ [] → heard ≡ [] → is_hang e ≡ true → IsJoinedFor p.sessions.kept (kind_of e) → AreSteady p
    → AreSound p → at ≡ p.entries + 1 → replies.items ≡ []
    → HasReady p (record {
      event = e;
      at = at;
      effect = effect.Nothing;
      events = events.Nothing;
      deleted = deleted;
      back = None;
      answers = None;
      user = None;
      said = heard;
      replies = replies;
    }) (doing_of (present_of p) e)
hanging p e at replies deleted heard none silent h joined steady sound numbered empty =
    rw (none, silent) (hang_ready p e at replies h joined steady sound numbered empty)

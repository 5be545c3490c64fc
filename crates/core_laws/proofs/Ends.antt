-- What is said goes to connections that live, so an ended one is replied nothing more.
use Rattle.std.proofs.Common.{◌≡◌, ◌≢◌, ℕ, zero, suc, ◌<◌, true, false, eqb, ◌||◌, List, [], ◌∷◌, ◌++◌, None, All}
use Rattle.std.proofs.Common.{refl, sym, ap, subst, ◌∙◌, append-nil}
use Rattle.std.proofs.lemmas.Bool.{ne_eqb, or_left}
use Rattle.std.proofs.lemmas.List.Elements.{All-head, All-tail, All-weaker}
use Rattle.std.proofs.lemmas.List.Folds.{list_any-append}
use Rattle.std.specs.Prelude.{slice_set}
use Rattle.fid_table.specs.declared.session.Waiting.{Waiting}
use Rattle.am_journal.specs.declared.event.Event.{Event}
use Rattle.am_journal.specs.declared.event.Event.TheVariants as event
use Rattle.am_counter.specs.Played.{ArePlayed, has_hang, is_hang_of}
use Rattle.am_counter.specs.Sent.{sent, sent_from}
use Rattle.core_events.specs.declared.response.Response.{Response}
use Rattle.core_parts.specs.declared.connection.Connection.{Connection}
use Rattle.core_parts.specs.declared.connection.Connection.TheVariants.{Undialed, Live, Ended}
use Rattle.core_closing.specs.Asks.{is_ended}
use Rattle.core_parts.specs.Connections.{connection_at, is_live}
use Rattle.core_parts.specs.declared.kind.Kind.{Kind}
use Rattle.core_parts.specs.declared.kind.Kind.TheVariants as kind
use Rattle.core_intents.specs.Doings.{enabled_at, doing_of}
use Rattle.core_parts.specs.Doing.{Doing}
use Rattle.core_intents.specs.Enabled.{dial_refusal}
use Rattle.core_parts.specs.Kinds.{kind_of}
use Rattle.acme_core.specs.Run.{step, run, enabled, output_at, AreEnabled, output_in}
use Rattle.core_steps.specs.Stages.{said}
use Rattle.core_parts.specs.States.{Present, State, present}
use Rattle.core_steps.specs.Replies.{replies_of}
use Rattle.acme_core.proofs.Connected.{tells_connections}
use Rattle.acme_core.proofs.Goes.{run-push}
use Rattle.core_laws.specs.Laws.{NothingAfterTheHangUp, EndedGetAllReplies}
use Rattle.core_laws.specs.Replies.{bytes_to}
use Rattle.core_laws.proofs.Playing.{played_more, played_parts, PlaysOn}
use Rattle.core_laws.proofs.Replying.{replied_by, replied_from, all_replied, replied_parts}
use Rattle.core_laws.proofs.Quiets.{quiet_by, quiet_says}
use Rattle.core_laws.proofs.Tells.{Tells, OfMessage}
use Rattle.core_laws.proofs.Tied.{IsTiedState, tied_after}
use Rattle.core_laws.proofs.Unsents.{ahead, sent_or_unsent}
use Rattle.core_laws.proofs.Wells.{Lives, WaitsOnLive, IsWell, IsOwn, begun, own, dial_lives, well_after}
use Rattle.am_journal.specs.declared.event.Journal.{Journal}
use Rattle.am_journal.specs.Journal.{longer, journal_in}
use Rattle.core_laws.specs.Fronts.{followed}

-- ---- what an entry says goes to connections that live

abbrev OnLive : List Connection → ℕ → ℕ → Type 0
OnLive cs conn tag = Lives cs conn

own_live : (cs : List Connection) (s : Present) (k : Kind) (d : Doing) → cs ≡ s.connections → IsOwn s k d
    → OfMessage (OnLive (begun cs k)) k
unfolding IsOwn begun
own_live cs s (kind.Dials conn) d e own = tt
own_live cs s (kind.Asks conn tag) d e own = subst (λ (x : List Connection). Lives x conn) (sym e) own.0
own_live cs s (kind.Ends conn why) d e own = tt
own_live cs s (kind.Takes conn) d e own = tt
own_live cs s kind.Acts d e own = tt

waits_live : (cs : List Connection) (k : Kind) (ws : List Waiting) → All (WaitsOnLive cs) ws
    → All (WaitsOnLive (begun cs k)) ws
unfolding begun
waits_live cs (kind.Dials conn) ws h = All-weaker (WaitsOnLive cs) (WaitsOnLive (slice_set cs conn Live))
    (λ w l. dial_lives cs conn w.conn l) ws h
waits_live cs (kind.Asks conn tag) ws h = h
waits_live cs (kind.Ends conn why) ws h = h
waits_live cs (kind.Takes conn) ws h = h
waits_live cs kind.Acts ws h = h

undialed_ended : (v : Connection) → dial_refusal v ≡ None → is_ended v ≡ true → ⊥
undialed_ended Undialed e h = absurd cc
undialed_ended Live e h = absurd cc
undialed_ended (Ended why) e h = absurd cc

dial_ended : (cs : List Connection) (c x : ℕ) → dial_refusal (connection_at cs c) ≡ None →
    is_ended (connection_at cs x) ≡ true → is_ended (connection_at (slice_set cs c Live) x) ≡ true
dial_ended [] c x e h = h
dial_ended (v ∷ cs) zero zero e h = absurd (undialed_ended v e h)
dial_ended (v ∷ cs) zero (suc x) e h = h
dial_ended (v ∷ cs) (suc c) zero e h = h
dial_ended (v ∷ cs) (suc c) (suc x) e h = dial_ended cs c x e h

says_live : (s : State) (e : Event) → enabled_at (present s) e ≡ None → IsWell s → IsTiedState s
    → All (Tells (OnLive (begun s.connections (kind_of e)))) (said (present s) (kind_of e) (doing_of (present s) e))
says_live s e allowed well tied =
    let live : ℕ → ℕ → Type 0 = OnLive (begun s.connections (kind_of e)) in
    quiet_says live s e
    (own_live s.connections (present s) (kind_of e) (doing_of (present s) e) refl (own s e allowed well)) well
    (quiet_by live s tied.0 (waits_live s.connections (kind_of e) s.tables.waiting well.waiting))

-- an ended connection isn't dialled again
still_ended : (s : State) (e : Event) (conn : ℕ) → enabled_at (present s) e ≡ None →
    is_ended (connection_at s.connections conn) ≡ true → is_ended (connection_at (begun s.connections (kind_of e)) conn)
    ≡ true
unfolding begun
still_ended s (event.Dial c) conn allowed ended = dial_ended s.connections c conn allowed ended
still_ended s (event.Msg c msg) conn allowed ended = ended
still_ended s (event.Hang c why) conn allowed ended = ended
still_ended s (event.Took c) conn allowed ended = ended
still_ended s event.New conn allowed ended = ended
still_ended s (event.Key w side text) conn allowed ended = ended
still_ended s (event.Sel w range) conn allowed ended = ended
still_ended s (event.Exec at) conn allowed ended = ended
still_ended s (event.Arg at chord) conn allowed ended = ended
still_ended s (event.Look at) conn allowed ended = ended
still_ended s (event.File path text) conn allowed ended = ended
still_ended s (event.Dir path) conn allowed ended = ended

-- ---- an ended connection

both : (v : Connection) → is_live v ≡ true → is_ended v ≡ true → ⊥
both Undialed live ended = absurd cc
both Live live ended = absurd cc
both (Ended why) live ended = absurd cc

joined_none : (conn : ℕ) (xs : List Response) → All (λ x. x.conn ≢ conn) xs → bytes_to conn (replies_of xs) ≡ []
joined_none conn [] h = refl
joined_none conn (x ∷ xs) h =
    let apart : eqb x.conn conn ≡ false = ne_eqb x.conn conn (All-head (λ (y : Response). y.conn ≢ conn) x xs h) in
    rw apart (joined_none conn xs (All-tail (λ (y : Response). y.conn ≢ conn) x xs h))

step_replies : (s : State) (e : Event) → (step s e).replies ≡ replies_of
    (said (present s) (kind_of e) (doing_of (present s) e))
unfolding step
step_replies s e = refl

replied_none : (before : Journal) (e : Event) (conn : ℕ) → enabled before e ≡ None → IsWell (run before)
    → IsTiedState (run before) → is_ended (connection_at (run before).connections conn) ≡ true
    → replied_by conn before e ≡ []
replied_none before e conn allowed well tied ended =
    let s : State = run before in
    let cs : List Connection = begun s.connections (kind_of e) in
    let xs : List Response = said (present s) (kind_of e) (doing_of (present s) e) in
    let over : is_ended (connection_at cs conn) ≡ true = still_ended s e conn allowed ended in
    let apart : All (λ x. x.conn ≢ conn) xs =
    All-weaker (Tells (OnLive cs)) (λ x. x.conn ≢ conn)
    (λ x live (same : x.conn ≡ conn). both (connection_at cs conn) (subst (Lives cs) same live) over) xs
    (says_live s e allowed well tied)
    in
    ap (λ (u : State). bytes_to conn u.replies) (run-push before e) ∙ ap (bytes_to conn) (step_replies s e)
    ∙ joined_none conn xs apart

-- ---- all entries behind a hang-up

hung_more : (before : Journal) (e : Event) (conn : ℕ) → has_hang before.events conn ≡ true
    → has_hang (longer before e).events
    conn ≡ true
hung_more before e conn hung = list_any-append (is_hang_of conn) before.events (e ∷ [])
    ∙ or_left (has_hang before.events conn) (is_hang_of conn e || false) hung

nothing_behind : (before : Journal) (events : List Event) (conn : ℕ) → conn < 64 → AreEnabled before
    → PlaysOn before events → has_hang before.events conn ≡ true
    → replied_from before events conn ≡ []
unfolding ArePlayed
nothing_behind before [] conn small was played hung = refl
nothing_behind before (e ∷ events) conn small was played hung =
    let ended : is_ended (connection_at (run before).connections conn) ≡ true =
    (tells_connections before.format).ended before.events conn was
    small ∙ hung in
    let first : replied_by conn before e ≡ [] = replied_none before e conn played.1 (well_after before was)
    (tied_after before was) ended in
    ap (λ (l : List ℕ). l ++ replied_from (longer before e) events conn) first
    ∙ nothing_behind (longer before e) events conn small (played_more before e was played.0 played.1) played.2
    (hung_more before e conn hung)

-- ---- the laws

behind : (before : Journal) (rest : List Event) (conn : ℕ) → conn < 64 → AreEnabled (followed before rest)
    → has_hang before.events conn ≡ true → replied_from before rest conn ≡ []
behind before rest conn small played hung =
    let parts : AreEnabled before × PlaysOn before rest = played_parts before rest played in
    nothing_behind before rest conn small parts.0 parts.1 hung

pub nothing_after : NothingAfterTheHangUp
nothing_after before journal conn small played front hung =
    let rest : List Event = front.0 in
    let is : followed before rest ≡ journal = front.1 in
    let all : AreEnabled (followed before rest) = subst AreEnabled (sym is) played in
    sym (all_replied journal conn)
    ∙ ap (λ (l : Journal). replied_from (journal_in l.format []) l.events conn) (sym is)
    ∙ replied_parts (journal_in before.format []) before.events rest conn
    ∙ ap (λ (l : List ℕ). replied_from (journal_in before.format []) before.events conn ++ l)
    (behind before rest conn small all hung)
    ∙ append-nil (replied_from (journal_in before.format []) before.events conn)
    ∙ all_replied before conn

second_nil : (a b : List ℕ) → a ++ b ≡ [] → b ≡ []
second_nil [] b e = e
second_nil (x ∷ a) b e = absurd cc

pub get_all : EndedGetAllReplies
get_all before journal conn small played front hung none =
    let rest : List Event = front.0 in
    let is : followed before rest ≡ journal = front.1 in
    let all : AreEnabled (followed before rest) = subst AreEnabled (sym is) played in
    let silent : replied_from before rest conn ≡ [] = behind before rest conn small all hung in
    let taken : sent_from (output_in before.format) before.events rest conn ++ output_at (followed before rest) conn ≡ []
    =
    sym (ahead before rest conn small) ∙ ap (λ (l : List ℕ). output_at before conn ++ l) silent
    ∙ append-nil (output_at before conn) ∙ none
    in
    let empty : output_at journal conn ≡ [] = ap (λ (l : Journal). output_at l conn) (sym is)
    ∙ second_nil (sent_from (output_in before.format) before.events rest conn) (output_at (followed before rest) conn)
    taken in
    sym (sent_or_unsent journal conn small ∙ ap (λ (l : List ℕ). sent (output_in journal.format) journal.events conn
    ++ l) empty
    ∙ append-nil (sent (output_in journal.format) journal.events conn))

pub ruleset ended = (nothing_after, get_all)

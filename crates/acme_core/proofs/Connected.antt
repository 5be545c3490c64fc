-- What a journal says of connections is what the editor has.
use Rattle.std.proofs.Common.{◌≡◌, ℕ, zero, suc, ◌<◌, Bool, true, false, cond, eqb, ◌||◌, List, [], ◌∷◌, ◌++◌, length}
use Rattle.std.proofs.Common.{Option, Some, None, refl, sym, ap, subst, ◌∙◌, arith, append_assoc}
use Rattle.std.specs.Prelude.{slice_set, replicate, nat_lt, nat_le}
use Rattle.std.proofs.lemmas.Bool.{eqb-true, eqb-false}
use Rattle.std.proofs.lemmas.List.{append-nil}
use Rattle.std.proofs.lemmas.List.Folds.{list_any-append}
use Rattle.ninep_types.specs.declared.message.TMsg.{TMsg}
use Rattle.ninep_types.specs.Spelling.{spelling_t}
use Rattle.fid_table.specs.Tables.{msize_of}
use Rattle.am_journal.specs.declared.ending.Ending.{Ending}
use Rattle.am_journal.specs.declared.event.Event.{Event}
use Rattle.am_journal.specs.declared.event.Format.{Format}
use Rattle.am_journal.specs.Journal.{journal_in}
use Rattle.am_journal.specs.declared.event.Event.TheVariants as event
use Rattle.am_journal.specs.declared.event.Why.{Why}
use Rattle.am_journal.specs.declared.event.Why.TheVariants as why
use Rattle.am_journal.specs.Lawful.{IsLawful}
use Rattle.am_counter.specs.declared.ask.Ask.TheVariants as ask
use Rattle.am_counter.specs.Laws.{TellsConnections}
use Rattle.am_counter.specs.Played.{ArePlayed, IsPlayed, has_dial, has_hang, is_dial_of, is_hang_of, dial_why, hang_why}
use Rattle.am_counter.specs.Played.{IsMessageWhy}
use Rattle.core_parts.specs.declared.connection.Connection.{Connection}
use Rattle.core_parts.specs.declared.connection.Connection.TheVariants.{Undialed, Live, Ended}
use Rattle.acme_core.specs.Asks.{answers_in}
use Rattle.core_closing.specs.Asks.{is_ended}
use Rattle.core_parts.specs.Connections.{connection_at, connections_after}
use Rattle.core_intents.specs.Doings.{enabled_at, is_tag_used}
use Rattle.core_intents.specs.Enabled.{dial_refusal, live_refusal, first_why, msg_refusal, size_refusal, most_bytes}
use Rattle.core_intents.specs.Enabled.{tag_refusal, replies_refusal}
use Rattle.core_parts.specs.Kinds.{kind_of}
use Rattle.acme_core.specs.Run.{step, run, enabled_in, present_after}
use Rattle.acme_core.proofs.Few.{length-connections}
use Rattle.acme_core.proofs.Goes.{run-push}
use Rattle.core_steps.proofs.Joins.{here, elsewhere}
use Rattle.core_parts.specs.States.{Present, State, unsent_count}

-- ---- one event

-- the connection is as its dialling and its hang-up tell
IsTold : Connection → Bool → Bool → Type 0
IsTold Undialed dialed hung = (dialed ≡ false) × (hung ≡ false)
IsTold Live dialed hung = (dialed ≡ true) × (hung ≡ false)
IsTold (Ended why) dialed hung = (dialed ≡ true) × (hung ≡ true)

or_false : (b : Bool) → (b || (false || false)) ≡ b
or_false true = refl
or_false false = refl

or_true : (b : Bool) → (b || (true || false)) ≡ true
or_true true = refl
or_true false = refl

same : (v : Connection) (d h d2 h2 : Bool) → d2 ≡ d → h2 ≡ h → IsTold v d h → IsTold v d2 h2
same v d h d2 h2 ed eh told = subst (λ (b : Bool). IsTold v b h2) (sym ed)
    (subst (λ (b : Bool). IsTold v d b) (sym eh) told)

idle : (v : Connection) (d h : Bool) → IsTold v d h → IsTold v (d || (false || false)) (h || (false || false))
idle v d h told = same v d h _ _ (or_false d) (or_false h) told

dialled : (v w : Connection) (d h : Bool) → dial_refusal v ≡ None → w ≡ Live → IsTold v d h
    → IsTold w (d || (true || false)) (h || (false || false))
unfolding IsTold
dialled Undialed w d h e is told = subst (λ (c : Connection). IsTold c (d || (true || false)) (h || (false || false)))
    (sym is) (or_true d, or_false h ∙ told.1)
dialled Live w d h e is told = absurd cc
dialled (Ended why) w d h e is told = absurd cc

hung_up : (v w : Connection) (d h : Bool) (reason : Ending) → live_refusal v ≡ None → w ≡ Ended reason → IsTold v d h
    → IsTold w (d || (false || false)) (h || (true || false))
unfolding IsTold
hung_up Undialed w d h reason e is told = absurd cc
hung_up Live w d h reason e is told = subst (λ (c : Connection). IsTold c (d || (false || false))
    (h || (true || false))) (sym is) (or_false d ∙ told.0, or_true h)
hung_up (Ended why) w d h reason e is told = absurd cc

one_dial : (cs : List Connection) (c x : ℕ) (d h : Bool) → c < length cs
    → dial_refusal (connection_at cs c) ≡ None → IsTold (connection_at cs x) d h
    → IsTold (connection_at (slice_set cs c Live) x) (d || (eqb c x || false)) (h || (false || false))
one_dial cs c x d h inside allowed told =
    elim (eqb c x) as (λ b. eqb c x ≡ b → IsTold (connection_at (slice_set cs c Live) x) (d || (b || false))
    (h || (false || false))) [
      | true ↦ λ e. let at : c ≡ x = eqb-true c x e in
          dialled (connection_at cs x) _ d h (subst (λ (y : ℕ). dial_refusal (connection_at cs y) ≡ None) at allowed)
          (subst (λ (y : ℕ). connection_at (slice_set cs c Live) y ≡ Live) at (here cs c Live inside)) told
      | false ↦ λ e. subst (λ (v : Connection). IsTold v (d || (false || false)) (h || (false || false)))
          (sym (elsewhere cs c x Live (λ (s : x ≡ c). eqb-false c x e (sym s)))) (idle (connection_at cs x) d h told)
    ] refl

one_hang : (cs : List Connection) (c x : ℕ) (reason : Ending) (d h : Bool) → c < length cs
    → live_refusal (connection_at cs c) ≡ None → IsTold (connection_at cs x) d h
    → IsTold (connection_at (slice_set cs c (Ended reason)) x) (d || (false || false)) (h || (eqb c x || false))
one_hang cs c x reason d h inside allowed told =
    elim (eqb c x) as (λ b. eqb c x ≡ b → IsTold (connection_at (slice_set cs c (Ended reason)) x)
    (d || (false || false)) (h || (b || false))) [
      | true ↦ λ e. let at : c ≡ x = eqb-true c x e in
          hung_up (connection_at cs x) _ d h reason (subst (λ (y : ℕ). live_refusal (connection_at cs y) ≡ None) at
          allowed)
          (subst (λ (y : ℕ). connection_at (slice_set cs c (Ended reason)) y ≡ Ended reason) at
          (here cs c (Ended reason) inside)) told
      | false ↦ λ e. subst (λ (v : Connection). IsTold v (d || (false || false)) (h || (false || false)))
          (sym (elsewhere cs c x (Ended reason) (λ (s : x ≡ c). eqb-false c x e (sym s))))
          (idle (connection_at cs x) d h told)
    ] refl

told_on : (s : Present) (e : Event) (x : ℕ) (d h : Bool) → length s.connections ≡ 64 → IsLawful e
    → enabled_at s e ≡ None → IsTold (connection_at s.connections x) d h
    → IsTold (connection_at (connections_after s.connections (kind_of e)) x) (d || (is_dial_of x e || false))
    (h || (is_hang_of x e || false))
told_on s (event.Dial c) x d h n lawful allowed told = one_dial s.connections c x d h (omega (arith, n, lawful)) allowed
    told
told_on s (event.Hang c reason) x d h n lawful allowed told = one_hang s.connections c x reason d h
    (omega (arith, n, lawful)) allowed told
told_on s (event.Msg c msg) x d h n lawful allowed told = idle (connection_at s.connections x) d h told
told_on s (event.Took c) x d h n lawful allowed told = idle (connection_at s.connections x) d h told
told_on s event.New x d h n lawful allowed told = idle (connection_at s.connections x) d h told
told_on s (event.Key w side text) x d h n lawful allowed told = idle (connection_at s.connections x) d h told
told_on s (event.Sel w range) x d h n lawful allowed told = idle (connection_at s.connections x) d h told
told_on s (event.Exec at) x d h n lawful allowed told = idle (connection_at s.connections x) d h told
told_on s (event.Arg at chord) x d h n lawful allowed told = idle (connection_at s.connections x) d h told
told_on s (event.Look at) x d h n lawful allowed told = idle (connection_at s.connections x) d h told
told_on s (event.File path text) x d h n lawful allowed told = idle (connection_at s.connections x) d h told
told_on s (event.Dir path) x d h n lawful allowed told = idle (connection_at s.connections x) d h told

-- ---- all events

-- the connections after a journal are as it tells
record AreTold (format : Format) (journal : List Event) : Type 0 where
  conns : length (run (journal_in format journal)).connections ≡ 64
  told : (conn : ℕ) → IsTold (connection_at (run (journal_in format journal)).connections conn) (has_dial journal conn)
      (has_hang journal conn)

undialed_at : (n c : ℕ) → connection_at (replicate n Undialed) c ≡ Undialed
undialed_at zero c = refl
undialed_at (suc n) zero = refl
undialed_at (suc n) (suc c) = undialed_at n c

none_told : (format : Format) → AreTold format []
unfolding run IsTold
none_told format = record {
  conns = refl;
  told = λ conn. subst (λ (v : Connection). IsTold v false false) (sym (undialed_at 64 conn)) (refl, refl);
}

step-connections : (s : State) (e : Event) → (step s e).connections ≡ connections_after s.connections (kind_of e)
unfolding step
step-connections s e = refl

pushed : (format : Format) (journal : List Event) (e : Event) → (run (journal_in format (journal ++ e ∷ []))).connections
    ≡ connections_after (run (journal_in format journal)).connections (kind_of e)
pushed format journal e = ap (λ (s : State). s.connections) (run-push (journal_in format journal) e) ∙ step-connections (run (journal_in format journal)) e

told_more : (format : Format) (journal : List Event) (e : Event) → IsLawful e → enabled_in format journal e ≡ None → AreTold format journal
    → AreTold format (journal ++ e ∷ [])
told_more format journal e lawful allowed was = record {
  conns = ap (λ (cs : List Connection). length cs) (pushed format journal e)
      ∙ length-connections (run (journal_in format journal)).connections (kind_of e) ∙ was.conns;
  told = λ conn.
      same (connection_at (run (journal_in format (journal ++ e ∷ []))).connections conn) _ _ _ _
      (list_any-append (is_dial_of conn) journal (e ∷ [])) (list_any-append (is_hang_of conn) journal (e ∷ []))
      (subst (λ (cs : List Connection). IsTold (connection_at cs conn)
      (has_dial journal conn || (is_dial_of conn e || false)) (has_hang journal conn
      || (is_hang_of conn e || false)))
      (sym (pushed format journal e)) (told_on (present_after (journal_in format journal)) e conn _ _ was.conns lawful allowed (was.told conn)));
}

told_all : (format : Format) (before events : List Event) → ArePlayed (enabled_in format) before events → AreTold format before
    → AreTold format (before ++ events)
unfolding ArePlayed
told_all format before [] played was = subst (AreTold format) (sym (append-nil before)) was
told_all format before (e ∷ events) played was =
    subst (AreTold format) (append_assoc before (e ∷ []) events) (told_all format (before ++ e ∷ []) events played.2
    (told_more format before e played.0 played.1 was))

told_by : (format : Format) (journal : List Event) → IsPlayed (enabled_in format) journal → AreTold format journal
told_by format journal played = told_all format [] journal played (none_told format)

-- ---- the law

dial_told : (v : Connection) (d h : Bool) → IsTold v d h → dial_refusal v ≡ cond d (Some why.Dialed) None
unfolding IsTold
dial_told Undialed d h told = sym (ap (λ (b : Bool). cond b (Some why.Dialed) None) told.0)
dial_told Live d h told = sym (ap (λ (b : Bool). cond b (Some why.Dialed) None) told.0)
dial_told (Ended reason) d h told = sym (ap (λ (b : Bool). cond b (Some why.Dialed) None) told.0)

hang_told : (v : Connection) (d h : Bool) → IsTold v d h → live_refusal v ≡ cond d (cond h (Some why.Ended) None)
    (Some why.Conn)
unfolding IsTold
hang_told Undialed d h told = sym (ap (λ (b : Bool). cond b (cond h (Some why.Ended) None) (Some why.Conn)) told.0)
hang_told Live d h told =
    sym (ap (λ (b : Bool). cond b (cond h (Some why.Ended) None) (Some why.Conn)) told.0
    ∙ ap (λ (b : Bool). cond b (Some why.Ended) None) told.1)
hang_told (Ended reason) d h told =
    sym (ap (λ (b : Bool). cond b (cond h (Some why.Ended) None) (Some why.Conn)) told.0
    ∙ ap (λ (b : Bool). cond b (Some why.Ended) None) told.1)

ended_told : (v : Connection) (d h : Bool) → IsTold v d h → is_ended v ≡ h
unfolding IsTold
ended_told Undialed d h told = sym told.1
ended_told Live d h told = sym told.1
ended_told (Ended reason) d h told = sym told.1

room_why : (journal : List Event) (conn : ℕ) (b : Bool) → IsMessageWhy journal conn (cond b (Some why.Replies) None)
room_why journal conn true = tt
room_why journal conn false = tt

tag_why : (journal : List Event) (conn : ℕ) (b : Bool) (later : Option Why) → IsMessageWhy journal conn later
    → IsMessageWhy journal conn (first_why (cond b (Some why.Tag) None) later)
tag_why journal conn true later h = tt
tag_why journal conn false later h = h

size_why : (journal : List Event) (conn : ℕ) (b : Bool) (later : Option Why) → IsMessageWhy journal conn later
    → IsMessageWhy journal conn (first_why (cond b (Some why.Size) None) later)
size_why journal conn true later h = tt
size_why journal conn false later h = h

message_told : (journal : List Event) (conn : ℕ) (v : Connection) (later : Option Why)
    → IsTold v (has_dial journal conn) (has_hang journal conn)
    → IsMessageWhy journal conn later → IsMessageWhy journal conn (first_why (live_refusal v) later)
unfolding IsTold
message_told journal conn Undialed later told h = told.0
message_told journal conn Live later told h = h
message_told journal conn (Ended reason) later told h = told.1

dial_law : (format : Format) (journal : List Event) (conn : ℕ) → IsPlayed (enabled_in format) journal
    → enabled_in format journal (event.Dial conn) ≡ dial_why journal conn
dial_law format journal conn played =
    dial_told (connection_at (run (journal_in format journal)).connections conn) (has_dial journal conn) (has_hang journal conn)
    ((told_by format journal played).told conn)

hang_law : (format : Format) (journal : List Event) (conn : ℕ) (reason : Ending) → IsPlayed (enabled_in format) journal
    → enabled_in format journal (event.Hang conn reason) ≡ hang_why journal conn
hang_law format journal conn reason played =
    hang_told (connection_at (run (journal_in format journal)).connections conn) (has_dial journal conn) (has_hang journal conn)
    ((told_by format journal played).told conn)

message_why : (journal : List Event) (conn : ℕ) (v : Connection) (msize : Option ℕ) (used : Bool) (count size : ℕ)
    → IsTold v (has_dial journal conn) (has_hang journal conn)
    → IsMessageWhy journal conn (msg_refusal v msize used count size)
message_why journal conn v msize used count size told =
    message_told journal conn v (first_why (size_refusal msize size)
    (first_why (tag_refusal used) (replies_refusal count))) told
    (size_why journal conn (nat_lt (most_bytes msize) size) (first_why (tag_refusal used) (replies_refusal count))
    (tag_why journal conn used (replies_refusal count) (room_why journal conn (nat_le 256 count))))

message_law : (format : Format) (journal : List Event) (conn : ℕ) (msg : TMsg) → IsPlayed (enabled_in format) journal
    → IsMessageWhy journal conn (enabled_in format journal (event.Msg conn msg))
message_law format journal conn msg played =
    let s : Present = present_after (journal_in format journal) in
    message_why journal conn (connection_at s.connections conn) (msize_of s.tables conn) (is_tag_used s.tables conn msg)
    (unsent_count s conn) (length (spelling_t msg)) ((told_by format journal played).told conn)

ended_law : (format : Format) (journal : List Event) (conn : ℕ) → IsPlayed (enabled_in format) journal
    → answers_in format journal (ask.Ended conn) ≡ has_hang journal conn
ended_law format journal conn played =
    ended_told (connection_at (run (journal_in format journal)).connections conn) (has_dial journal conn) (has_hang journal conn)
    ((told_by format journal played).told conn)

pub tells_connections : (format : Format) → TellsConnections (enabled_in format) (answers_in format)
tells_connections format = record {
  dial = λ journal conn played inside. dial_law format journal conn played;
  hang = λ journal conn reason played inside. hang_law format journal conn reason played;
  message = λ journal conn msg played inside. message_law format journal conn msg played;
  ended = λ journal conn played inside. ended_law format journal conn played;
}

pub ruleset connected = (tells_connections)

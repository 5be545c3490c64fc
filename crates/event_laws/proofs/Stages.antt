-- Stages of an entry: the calls that it makes of the ports, and what it says.
use Rattle.std.proofs.Common.{◌≡◌, ℕ, zero, suc, ◌&&◌, Bool, true, false, not, cond, nat_lt, List, [], ◌∷◌, ◌++◌}
use Rattle.std.proofs.Common.{length, filter, fold, replicate, Option, Some, None, refl, sym, ap, ◌∙◌, subst}
use Rattle.std.proofs.Common.{append_assoc, append-nil}
use Rattle.std.proofs.lemmas.Bool.{and_parts}
use Rattle.ninep_types.specs.declared.message.RBody.{RBody}
use Rattle.ninep_types.specs.declared.message.RBody.TheVariants as r
use Rattle.fid_table.specs.declared.types.Fid.{Fid}
use Rattle.fid_table.specs.declared.session.Waiting.{Waiting}
use Rattle.fid_table.specs.Tables.{Tables, fid_of, fids_of}
use Rattle.wait_queue.specs.declared.types.Asker.{Asker}
use Rattle.wait_queue.specs.declared.types.Asked.TheVariants.{Now, Waits}
use Rattle.wait_queue.specs.declared.types.Piece.{Piece}
use Rattle.event_book.specs.BookState.{BookState, served_of as book_next, after_serve as book_after}
use Rattle.plumb_ports.specs.PortsState.{PortsState, has_joined, read_waits, piece_for, asked_of, after_join, served_of}
use Rattle.plumb_ports.specs.PortsState.{after_serve}
use Rattle.plumb_ports.specs.Laws.{Call, Add, Join, Deliver, Ask, Serve, Cancel, Leave, after_call}
use Rattle.book_calls.specs.Calls.{if_answered, bytes_to}
use Rattle.book_calls.specs.PortCalls.{CanCall, CanCallAll, answers_of, after_calls, all_answers}
use Rattle.book_calls.proofs.Runs.{bytes_more}
use Rattle.book_calls.proofs.PortTrails.{can_more, after_more, answers_more}
use Rattle.core_scene.specs.declared.deed.Deed.{Deed}
use Rattle.core_scene.specs.declared.deed.Deed.TheVariants as deed
use Rattle.core_scene.specs.declared.deed.Entry.{Entry}
use Rattle.core_scene.specs.Scenes.{SceneState, done, done_all, deleted_by}
use Rattle.core_fids.specs.Fids.{port_opening}
use Rattle.core_fids.specs.declared.effect.Answer.{Answer}
use Rattle.core_fids.specs.declared.effect.Answer.TheVariants.{Says, Reads, ReadsPort, ReadsWatch}
use Rattle.core_fids.specs.declared.effect.Effect.{Effect}
use Rattle.core_fids.specs.declared.effect.Effect.TheVariants as effect
use Rattle.core_fids.specs.declared.effect.EventChange.{EventChange}
use Rattle.core_fids.specs.declared.effect.EventChange.TheVariants as events
use Rattle.core_fids.specs.declared.refusal.Refusal.{Refusal}
use Rattle.core_fids.specs.declared.refusal.Refusal.TheVariants as refusal
use Rattle.core_fids.specs.Refusals.{refusal_text}
use Rattle.core_events.specs.Asking.{reads_are_full, read_said}
use Rattle.core_events.specs.declared.response.Feed.{Feed}
use Rattle.core_events.specs.declared.response.FeedKind.{FeedKind}
use Rattle.core_events.specs.declared.response.FeedKind.TheVariants.{Events, Port, Log, Jobs}
use Rattle.core_events.specs.declared.response.Response.{Response}
use Rattle.core_events.specs.Responses.{feed_at, errors, watch_feed}
use Rattle.core_events.specs.Serving.{then_served as book_then, served_most as book_served, served_all}
use Rattle.core_events.specs.Waits.{is_of_fid, is_of_window, clunked, deletions}
use Rattle.core_events.specs.PortAsking.{next_opening, can_join, joined_with, read_refusal, said_unless, read_unless}
use Rattle.core_events.specs.PortClosing.{without_opening, without_fid, opening_in, ports_freed, ports_cancelled}
use Rattle.core_events.specs.PortServing.{response_to, then_served, served_most, after_serving_most}
use Rattle.core_events.proofs.PortTurns.{idle}
use Rattle.acme_watch.specs.Watching.{WatchState, after_serve as after_watch}
use Rattle.acme_watch.specs.declared.types.WatchFile.{WatchFile}
use Rattle.acme_watch.specs.declared.types.WatchFile.TheVariants as watch
use Rattle.acme_watch.specs.declared.types.WatchRead.{WatchRead}
use Rattle.core_watch.specs.Asking.{watch_said}
use Rattle.core_watch.specs.Serving.{next_served, then_served as watch_then, served_most as watch_served_most}
use Rattle.core_watch.specs.Serving.{watch_served}
use Rattle.core_watch.specs.declared.asking.ReadAt.{ReadAt}
use Rattle.core_parts.specs.declared.kind.Kind.{Kind}
use Rattle.core_parts.specs.declared.kind.Kind.TheVariants as kind
use Rattle.core_intents.specs.Doings.{entry_of}
use Rattle.core_parts.specs.Doing.{Doing}
use Rattle.core_parts.specs.Kinds.{conn_of}
use Rattle.core_parts.specs.States.{Present, next_entry}
use Rattle.core_steps.specs.declared.reading.PortRead.{PortRead}
use Rattle.core_steps.specs.PortReads.{port_read_of, if_port_said, asked_said, asked_ports}
use Rattle.core_steps.specs.WatchReads.{if_watch_said, followed_said}
use Rattle.core_steps.specs.Stages.{if_said, answer_said, message_said, acted, with_fid, read_tables, grown_tables}
use Rattle.core_steps.specs.Stages.{port_tables, put_book, open_ports, watch_read_at, open_watch, served, said}
use Rattle.core_steps.specs.Stages.{ports_after}
use Rattle.core_steps.proofs.Orders.{told_second}
use Rattle.core_closing.specs.Closing.{left_ports}
use Rattle.event_laws.specs.Calls.{deed_calls, ask_unless, read_calls, join_calls, leave_calls, fid_calls, freed_calls}
use Rattle.event_laws.specs.Calls.{cancel_calls, left_calls, calls_at, asked_of as asked_at}
use Rattle.event_laws.specs.PortLaws.{data_on, data_in, data_of}

-- ---- calls, and what is said meanwhile

pub record Stage (s : PortsState) (calls : List Call) (heard : List Response) (t : PortsState) : Type 0 where
  pub can : CanCallAll s calls
  pub ports : after_calls s calls ≡ t
  pub gives : (o : ℕ) → data_of o heard ≡ bytes_to o (all_answers s calls)

data_more : (o : ℕ) (xs ys : List Response) → data_of o (xs ++ ys) ≡ data_of o xs ++ data_of o ys
data_more o [] ys = refl
data_more o (x ∷ xs) ys =
    ap (λ (l : List ℕ). data_in o x.feed x.message.body ++ l) (data_more o xs ys)
    ∙ sym (append_assoc (data_in o x.feed x.message.body) (data_of o xs) (data_of o ys))

none : (s : PortsState) → Stage s [] [] s
unfolding CanCallAll after_calls all_answers
none s = record { can = tt; ports = refl; gives = λ o. refl }

one : (s : PortsState) (c : Call) (heard : List Response) → CanCall s c
    → ((o : ℕ) → data_of o heard ≡ bytes_to o (answers_of s c)) → Stage s (c ∷ []) heard (after_call s c)
unfolding CanCallAll after_calls all_answers
one s c heard can gives = record {
  can = (can, tt);
  ports = refl;
  gives = λ o. gives o
      ∙ ap (bytes_to o) (sym (append-nil (answers_of s c)));
}

both : (s t u : PortsState) (cs ds : List Call) (xs ys : List Response) → Stage s cs xs t → Stage t ds ys u
    → Stage s (cs ++ ds) (xs ++ ys) u
both s t u cs ds xs ys a b = record {
  can = can_more s cs ds a.can (subst (λ (v : PortsState). CanCallAll v ds) (sym a.ports) b.can);
  ports = after_more s cs ds ∙ ap (λ (v : PortsState). after_calls v ds) a.ports ∙ b.ports;
  gives = λ o.
      data_more o xs ys
      ∙ ap (λ (l : List ℕ). l ++ data_of o ys) (a.gives o)
      ∙ ap (λ (l : List ℕ). bytes_to o (all_answers s cs) ++ l) (b.gives o
      ∙ ap (λ (v : PortsState). bytes_to o (all_answers v ds)) (sym a.ports))
      ∙ sym (ap (bytes_to o) (answers_more s cs ds) ∙ bytes_more o (all_answers s cs)
      (all_answers (after_calls s cs) ds));
}

-- something is said that is no Rread of a port
heard_more : (s t : PortsState) (cs : List Call) (xs more : List Response) → Stage s cs xs t
    → ((o : ℕ) → data_of o more ≡ []) → Stage s cs (xs ++ more) t
heard_more s t cs xs more a silent = record {
  can = a.can;
  ports = a.ports;
  gives = λ o. data_more o xs more ∙ ap (λ (l : List ℕ). data_of o xs ++ l) (silent o) ∙ append-nil (data_of o xs)
      ∙ a.gives o;
}

-- other things are said, with the same data of each opening
heard_same : (s t : PortsState) (cs : List Call) (xs old new : List Response) → Stage s cs (xs ++ old) t
    → ((o : ℕ) → data_of o new ≡ data_of o old) → Stage s cs (xs ++ new) t
heard_same s t cs xs old new a same = record {
  can = a.can;
  ports = a.ports;
  gives = λ o. data_more o xs new ∙ ap (λ (l : List ℕ). data_of o xs ++ l) (same o) ∙ sym (data_more o xs old)
      ∙ a.gives o;
}

-- calls that answer nothing
calls_more : (s t u : PortsState) (cs ds : List Call) (xs : List Response) → Stage s cs xs t → Stage t ds [] u
    → Stage s (cs ++ ds) xs u
calls_more s t u cs ds xs a b = subst (λ (l : List Response). Stage s (cs ++ ds) l u) (append-nil xs)
    (both s t u cs ds xs [] a b)

-- ---- deeds

pub deeds_stage : (e : Entry) (s : SceneState) (ds : List Deed) → Stage s.ports (deed_calls ds) []
    (done_all e s ds).ports
deeds_stage e s [] = none s.ports
deeds_stage e s (deed.Windows c ∷ ds) = deeds_stage e (done e s (deed.Windows c)) ds
deeds_stage e s (deed.Item w item ∷ ds) = deeds_stage e (done e s (deed.Item w item)) ds
deeds_stage e s (deed.Snarfs text ∷ ds) = deeds_stage e (done e s (deed.Snarfs text)) ds
deeds_stage e s (deed.Stores path bytes ∷ ds) = deeds_stage e (done e s (deed.Stores path bytes)) ds
deeds_stage e s (deed.MakesDir path ∷ ds) = deeds_stage e (done e s (deed.MakesDir path)) ds
deeds_stage e s (deed.Requests job ∷ ds) = deeds_stage e (done e s (deed.Requests job)) ds
deeds_stage e s (deed.Notes w op ∷ ds) = deeds_stage e (done e s (deed.Notes w op)) ds
deeds_stage e s (deed.AddsRules sets vars text ∷ ds) = deeds_stage e (done e s (deed.AddsRules sets vars text)) ds
deeds_stage e s (deed.ClearsRules ∷ ds) = deeds_stage e (done e s deed.ClearsRules) ds
deeds_stage e s (deed.AddsPort name ∷ ds) =
    let after : SceneState = done e s (deed.AddsPort name) in
    both s.ports after.ports (done_all e after ds).ports (Add name ∷ []) (deed_calls ds) [] []
    (one s.ports (Add name) [] tt (λ o. refl)) (deeds_stage e after ds)
deeds_stage e s (deed.Delivers port message keep ∷ ds) =
    let after : SceneState = done e s (deed.Delivers port message keep) in
    both s.ports after.ports (done_all e after ds).ports (Deliver port message keep ∷ []) (deed_calls ds) [] []
    (one s.ports (Deliver port message keep) [] tt (λ o. refl)) (deeds_stage e after ds)

-- ---- a read, and an opening

not_refused : (t : Tables) (s : PortsState) (a : Asker) → read_refusal t s a ≡ None → has_joined s a.opening ≡ true
not_refused t s a h =
    (elim (has_joined s a.opening) as (λ b. cond (not b) (Some refusal.FidIsNotOpen)
    (cond (read_waits s a && reads_are_full t a.conn) (Some refusal.TooManyWaitingReads) None) ≡ None → b ≡ true) [
      | true ↦ λ k. refl
      | false ↦ λ k. absurd cc
    ]) h

read_stage : (t : Tables) (s : PortsState) (read : Option PortRead)
    → Stage s (read_calls t s read) (asked_said t s read) (asked_ports t s read)
read_stage t s None = none s
read_stage t s (Some read) = by (read_refusal t s read.asker) refl
  where
    a : Asker
    a = read.asker

    by : (o : Option Refusal) → read_refusal t s a ≡ o → Stage s (ask_unless o a)
        (if_port_said a (said_unless o (asked_of s a))) (read_unless o s a)
    by (Some x) e = heard_more s s [] [] (if_port_said a (Some (r.Error (refusal_text x)))) (none s) (λ o. refl)
    by None e =
        one s (Ask a) (if_port_said a (said_unless None (asked_of s a))) (not_refused t s a e)
        (λ o. elim (read_waits s a) as (λ b. data_of o (if_port_said a
        (said_unless None (cond b Waits (Now (piece_for s a))))) ≡ bytes_to o (cond b [] ((a, piece_for s a) ∷ []))) [
          | true ↦ refl
          | false ↦ refl
        ])

not_true : (b : Bool) → not b ≡ true → b ≡ false
not_true true h = absurd cc
not_true false h = refl

join_stage : (s : PortsState) (e : EventChange) → Stage s (join_calls s e) [] (joined_with s e)
join_stage s events.Nothing = none s
join_stage s (events.Opens w) = none s
join_stage s (events.Joins port) =
    (elim (can_join s port) as (λ b. can_join s port ≡ b → Stage s (cond b (Join port (next_opening s) ∷ []) []) []
    (cond b (after_join s port (next_opening s)) s)) [
      | true ↦ λ e.
          let fresh : not (has_joined s (next_opening s)) ≡ true =
          (and_parts (nat_lt port (length s.ports) && nat_lt s.joined 4294967295)
          (not (has_joined s (next_opening s))) e).1 in
          one s (Join port (next_opening s)) [] (refl, not_true (has_joined s (next_opening s)) fresh) (λ o. refl)
      | false ↦ λ e. none s
    ]) refl
join_stage s (events.Watches file) = none s
join_stage s (events.Cancels tag) = none s

-- ---- waiting reads

none_served : (n : ℕ) (s : PortsState) → served_of s ≡ None → served_most n s ≡ []
unfolding served_most
none_served zero s h = refl
none_served (suc n) s h = ap (λ (o : Option (Asker × Piece)). then_served o (served_most n (after_serve s))) h

serve_stage : (n : ℕ) (s : PortsState) → Stage s (replicate n Serve) (served_most n s) (after_serving_most n s)
unfolding served_most after_serving_most
serve_stage zero s = none s
serve_stage (suc n) s = by (served_of s) refl (serve_stage n (after_serve s))
  where
    by : (x : Option (Asker × Piece)) → served_of s ≡ x → Stage (after_serve s) (replicate n Serve)
        (served_most n (after_serve s)) (after_serving_most n (after_serve s))
        → Stage s (Serve ∷ replicate n Serve) (then_served x (served_most n (after_serve s)))
        (after_serving_most n (after_serve s))
    by (Some x) e rest =
        both s (after_serve s) (after_serving_most n (after_serve s)) (Serve ∷ []) (replicate n Serve)
        (response_to x ∷ []) (served_most n (after_serve s))
        (one s Serve (response_to x ∷ []) tt (λ o. ap (λ (y : Option (Asker × Piece)). bytes_to o (if_answered y))
        (sym e))) rest
    by None e rest =
        let empty : served_most n (after_serve s) ≡ [] = ap (λ (v : PortsState). served_most n v) (idle s e)
        ∙ none_served n s e in
        subst (λ (l : List Response). Stage s (Serve ∷ replicate n Serve) l (after_serving_most n (after_serve s)))
        empty
        (both s (after_serve s) (after_serving_most n (after_serve s)) (Serve ∷ []) (replicate n Serve) []
        (served_most n (after_serve s))
        (one s Serve [] tt (λ o. ap (λ (y : Option (Asker × Piece)). bytes_to o (if_answered y)) (sym e))) rest)

-- ---- what ends

leave_stage : (s : PortsState) (o : Option ℕ) → Stage s (leave_calls o) [] (without_opening s o)
leave_stage s None = none s
leave_stage s (Some opening) = one s (Leave opening) [] tt (λ o. refl)

fids_stage : (s : PortsState) (fs : List (ℕ × Fid)) → Stage s (fid_calls fs) [] (fold without_fid s fs)
fids_stage s [] = none s
fids_stage s (f ∷ fs) =
    both s (without_fid s f) (fold without_fid (without_fid s f) fs) (leave_calls (port_opening f.1)) (fid_calls fs) []
    []
    (leave_stage s (port_opening f.1)) (fids_stage (without_fid s f) fs)

freed_stage : (s : PortsState) (t : Tables) (conn : ℕ) (e : Effect)
    → Stage s (freed_calls t conn e) [] (ports_freed s t conn e)
freed_stage s t conn effect.Nothing = none s
freed_stage s t conn (effect.Begins msize) = fids_stage s (fids_of t conn)
freed_stage s t conn (effect.Puts fid value) = none s
freed_stage s t conn (effect.Frees fid) = leave_stage s (opening_in (fid_of t conn fid))

cancel_stage : (s : PortsState) (conn : ℕ) (e : EventChange) → Stage s (cancel_calls conn e) []
    (ports_cancelled s conn e)
cancel_stage s conn events.Nothing = none s
cancel_stage s conn (events.Opens w) = none s
cancel_stage s conn (events.Joins port) = none s
cancel_stage s conn (events.Watches file) = none s
cancel_stage s conn (events.Cancels tag) = one s (Cancel conn tag) [] tt (λ o. refl)

left_stage : (s : PortsState) (t : Tables) (k : Kind) (d : Doing) → Stage s (left_calls t k d) [] (left_ports t k d s)
left_stage s t (kind.Dials conn) d = none s
left_stage s t (kind.Asks conn tag) d =
    both s (ports_freed s t conn d.effect) (ports_cancelled (ports_freed s t conn d.effect) conn d.events)
    (freed_calls t conn d.effect) (cancel_calls conn d.events) [] []
    (freed_stage s t conn d.effect) (cancel_stage (ports_freed s t conn d.effect) conn d.events)
left_stage s t (kind.Ends conn why) d = fids_stage s (fids_of t conn)
left_stage s t (kind.Takes conn) d = none s
left_stage s t kind.Acts d = none s

-- ---- what is said that is no Rread of a port

refused_on : (o : ℕ) (k : FeedKind) (opening : ℕ) (text : List ℕ) → data_on o k opening (r.Error text) ≡ []
refused_on o Events opening text = refl
refused_on o Port opening text = refl
refused_on o Log opening text = refl
refused_on o Jobs opening text = refl

refused_in : (o : ℕ) (feed : Option Feed) (text : List ℕ) → data_in o feed (r.Error text) ≡ []
refused_in o None text = refl
refused_in o (Some feed) text = refused_on o feed.kind feed.opening text

no_errors : (x : Refusal) (t : Tables) (ws : List Waiting) (o : ℕ) → data_of o (errors x t ws) ≡ []
no_errors x t [] o = refl
no_errors x t (w ∷ ws) o = ap (λ (l : List ℕ). l ++ data_of o (errors x t ws))
    (refused_in o (feed_at t w) (refusal_text x)) ∙ no_errors x t ws o

no_clunked : (t : Tables) (conn : ℕ) (e : Effect) (o : ℕ) → data_of o (clunked t conn e) ≡ []
no_clunked t conn effect.Nothing o = refl
no_clunked t conn (effect.Begins msize) o = refl
no_clunked t conn (effect.Puts fid value) o = refl
no_clunked t conn (effect.Frees fid) o = no_errors refusal.FidClunked t (filter (is_of_fid conn fid) t.waiting) o

no_deletions : (t : Tables) (ws : List ℕ) (o : ℕ) → data_of o (deletions t ws) ≡ []
no_deletions t [] o = refl
no_deletions t (w ∷ ws) o =
    data_more o (errors refusal.WindowDeleted t (filter (is_of_window t w) t.waiting)) (deletions t ws)
    ∙ ap (λ (l : List ℕ). l ++ data_of o (deletions t ws)) (no_errors refusal.WindowDeleted t
    (filter (is_of_window t w) t.waiting) o)
    ∙ no_deletions t ws o

event_on : (o opening : ℕ) (body : RBody) → data_on o Events opening body ≡ []
event_on o opening body = refl

no_read : (conn tag opening : ℕ) (body : Option RBody) (o : ℕ) → data_of o (if_said conn tag opening body) ≡ []
no_read conn tag opening None o = refl
no_read conn tag opening (Some body) o = ap (λ (l : List ℕ). l ++ []) (event_on o opening body)

no_answer : (t : Tables) (s : BookState) (conn tag : ℕ) (a : Option Answer) (o : ℕ)
    → data_of o (answer_said t s conn tag a) ≡ []
no_answer t s conn tag None o = refl
no_answer t s conn tag (Some (Says body)) o = refl
no_answer t s conn tag (Some (Reads fid opening count)) o = no_read conn tag opening
    (read_said t s (record { conn = conn; tag = tag; opening = opening; count = count })) o
no_answer t s conn tag (Some (ReadsPort fid opening count)) o = refl
no_answer t s conn tag (Some (ReadsWatch fid opening count)) o = refl

no_message : (t : Tables) (s : BookState) (k : Kind) (a : Option Answer) (o : ℕ) → data_of o (message_said t s k a) ≡ []
no_message t s (kind.Dials conn) a o = refl
no_message t s (kind.Asks conn tag) a o = no_answer t s conn tag a o
no_message t s (kind.Ends conn why) a o = refl
no_message t s (kind.Takes conn) a o = refl
no_message t s kind.Acts a o = refl

no_served : (n at : ℕ) (s : BookState) (o : ℕ) → data_of o (book_served n at s) ≡ []
unfolding book_served
no_served zero at s o = refl
no_served (suc n) at s o = by (book_next s) (no_served n at (book_after s at) o)
  where
    by : (x : Option (Asker × Piece)) → data_of o (book_served n at (book_after s at)) ≡ []
        → data_of o (book_then x (book_served n at (book_after s at))) ≡ []
    by None rest = refl
    by (Some x) rest = ap (λ (l : List ℕ). l ++ data_of o (book_served n at (book_after s at)))
        (event_on o x.0.opening (r.Read x.1.bytes)) ∙ rest

-- nor is what reads of `log` and `jobs` are answered
watch_on : (o : ℕ) (file : WatchFile) (opening : ℕ) (body : RBody)
    → data_in o (Some (watch_feed (record { file = file; opening = opening }))) body ≡ []
watch_on o watch.Log opening body = refl
watch_on o watch.Jobs opening body = refl

no_watch : (read : WatchRead) (body : Option RBody) (o : ℕ) → data_of o (if_watch_said read body) ≡ []
no_watch read None o = refl
no_watch read (Some body) o = ap (λ (l : List ℕ). l ++ []) (watch_on o read.file read.asker.opening body)

no_followed : (t : Tables) (w : WatchState) (read : Option ReadAt) (o : ℕ) → data_of o (followed_said t w read) ≡ []
no_followed t w None o = refl
no_followed t w (Some read) o = no_watch read.read (watch_said t w read.read) o

no_watched : (n at : ℕ) (w : WatchState) (o : ℕ) → data_of o (watch_served_most n at w) ≡ []
unfolding watch_served_most
no_watched zero at w o = refl
no_watched (suc n) at w o = by (next_served w) (no_watched n at (after_watch w at) o)
  where
    by : (x : Option (WatchRead × Piece)) → data_of o (watch_served_most n at (after_watch w at)) ≡ []
        → data_of o (watch_then x (watch_served_most n at (after_watch w at))) ≡ []
    by None rest = refl
    by (Some x) rest = ap (λ (l : List ℕ). l ++ data_of o (watch_served_most n at (after_watch w at)))
        (watch_on o x.0.file x.0.asker.opening (r.Read x.1.bytes)) ∙ rest

-- ---- an entry

pub entry_stage : (p : Present) (k : Kind) (d : Doing) → Stage p.scene.ports (calls_at p k d) (said p k d)
    (ports_after p k d)
entry_stage p k d =
    let s : PortsState = p.scene.ports in
    let e : Entry = entry_of p d in
    let x : PortsState = (acted p d).ports in
    let read : Option PortRead = port_read_of k d.answer in
    let y : PortsState = asked_at p k d in
    let z : PortsState = open_ports p k d in
    let n : ℕ = length z.reads in
    let v : PortsState = after_serving_most n z in
    let a : List Response = clunked p.tables (conn_of k) d.effect in
    let b : List Response = message_said (with_fid p k d) p.scene.book k d.answer in
    let c : List Response = asked_said (read_tables p k d) x read in
    let l : List Response = followed_said (port_tables p k d) (acted p d).watch (watch_read_at p k d) in
    let f : List Response = deletions p.tables (deleted_by d.deeds) in
    let g : List Response = served_all (next_entry p) (put_book p k d) in
    let h : List Response = served_most n z in
    let w : List Response = watch_served (next_entry p) (open_watch p k d) in
    let ds : List Call = deed_calls d.deeds in
    let rs : List Call = read_calls (read_tables p k d) x read in
    let js : List Call = join_calls y d.events in
    let ss : List Call = replicate n Serve in
    let deeds : Stage s ds [] x = deeds_stage e p.scene d.deeds in
    let clunks : Stage s ds a x = heard_more s x ds [] a deeds (no_clunked p.tables (conn_of k) d.effect) in
    let message : Stage s ds (a ++ b) x = heard_more s x ds a b clunks
    (no_message (with_fid p k d) p.scene.book k d.answer) in
    let reads : Stage s (ds ++ rs) ((a ++ b) ++ c) y = both s x y ds rs (a ++ b) c message
    (read_stage (read_tables p k d) x read) in
    let joins : Stage s ((ds ++ rs) ++ js) ((a ++ b) ++ c) z = calls_more s y z (ds ++ rs) js ((a ++ b) ++ c) reads
    (join_stage y d.events) in
    let follows : Stage s ((ds ++ rs) ++ js) (((a ++ b) ++ c) ++ l) z = heard_more s z ((ds ++ rs) ++ js)
    ((a ++ b) ++ c) l joins (no_followed (port_tables p k d) (acted p d).watch (watch_read_at p k d)) in
    let deletes : Stage s ((ds ++ rs) ++ js) ((((a ++ b) ++ c) ++ l) ++ f) z = heard_more s z ((ds ++ rs) ++ js)
    (((a ++ b) ++ c) ++ l) f follows (no_deletions p.tables (deleted_by d.deeds)) in
    let before : List Response = (((a ++ b) ++ c) ++ l) ++ f in
    let calls : List Call = ((ds ++ rs) ++ js) ++ ss in
    let serves : Stage s calls (before ++ h) v = both s z v ((ds ++ rs) ++ js) ss before h deletes (serve_stage n z) in
    let all : Stage s calls (before ++ served p k d) v =
    heard_same s v calls before h (served p k d) serves
    (λ o. told_second (data_of o) (data_more o) refl (grown_tables p k d) g h w
    (no_served (length (put_book p k d).reads) (next_entry p) (put_book p k d) o)
    (no_watched (length (open_watch p k d).reads) (next_entry p) (open_watch p k d) o))
    in
    calls_more s v (ports_after p k d) calls (left_calls (grown_tables p k d) k d) (before ++ served p k d) all
    (left_stage v (grown_tables p k d) k d)

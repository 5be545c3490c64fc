-- What an entry makes of the event files is made by calls of the book, which give the Rreads that it says.
use Rattle.std.proofs.Common.{◌≡◌, ℕ, zero, suc, Bool, true, false, cond, nat_lt, List, [], ◌∷◌, ◌++◌, length, map}
use Rattle.std.proofs.Common.{filter, Option, Some, None, refl, sym, ap, ◌∙◌, subst, append_assoc, append-nil}
use Rattle.ninep_types.specs.declared.message.RBody.{RBody}
use Rattle.ninep_types.specs.declared.message.RBody.TheVariants as r
use Rattle.fid_table.specs.declared.session.Waiting.{Waiting}
use Rattle.fid_table.specs.Tables.{Tables}
use Rattle.wait_queue.specs.declared.types.Asker.{Asker}
use Rattle.wait_queue.specs.declared.types.Asked.{Asked}
use Rattle.wait_queue.specs.declared.types.Asked.TheVariants.{Now, Waits}
use Rattle.wait_queue.specs.declared.types.Piece.{Piece}
use Rattle.event_book.specs.BookState.{BookState, is_open_window, is_living, read_waits, piece_for, served_of}
use Rattle.event_book.specs.BookState.{after_add, after_put, after_serve}
use Rattle.event_book.proofs.TableLemmas.{lt_from_test}
use Rattle.book_calls.specs.Calls.{Making, Add, Put, Ask, Serve, CanMake, made, Answers, if_answered, given}
use Rattle.book_calls.proofs.Trails.{IsMade, none_made, one_made}
use Rattle.core_scene.specs.declared.deed.WindowItem.{WindowItem}
use Rattle.core_scene.specs.Scenes.{deleted_by}
use Rattle.core_fids.specs.declared.effect.Answer.{Answer}
use Rattle.core_fids.specs.declared.effect.Answer.TheVariants.{Says, Reads, ReadsPort, ReadsWatch}
use Rattle.core_fids.specs.declared.effect.Effect.{Effect}
use Rattle.core_fids.specs.declared.effect.Effect.TheVariants as effect
use Rattle.core_fids.specs.declared.effect.EventChange.{EventChange}
use Rattle.core_fids.specs.declared.effect.EventChange.TheVariants as events
use Rattle.core_fids.specs.declared.refusal.Refusal.{Refusal}
use Rattle.core_fids.specs.declared.refusal.Refusal.TheVariants as refusal
use Rattle.core_fids.specs.Refusals.{refusal_text}
use Rattle.core_events.specs.Asking.{opened, reads_are_full, said_to, book_asked, read_said, book_read}
use Rattle.core_events.specs.declared.response.Feed.{Feed}
use Rattle.core_events.specs.declared.response.FeedKind.{FeedKind}
use Rattle.core_events.specs.declared.response.FeedKind.TheVariants.{Events, Port, Log, Jobs}
use Rattle.core_events.specs.declared.response.Response.{Response}
use Rattle.core_events.specs.Putting.{put_one, put_all, is_ending, put_if_lives, put_living, ending}
use Rattle.core_events.specs.Responses.{feed_at, errors, watch_feed}
use Rattle.core_events.specs.Serving.{response_to, then_served, served_most, book_served_most, served_all}
use Rattle.core_events.specs.Serving.{book_served_all}
use Rattle.core_events.specs.Waits.{is_of_fid, is_of_window, clunked, deletions}
use Rattle.core_events.proofs.Turns.{idle, book_none_more}
use Rattle.core_parts.specs.declared.kind.Kind.{Kind}
use Rattle.core_parts.specs.declared.kind.Kind.TheVariants as kind
use Rattle.core_parts.specs.Doing.{Doing}
use Rattle.core_parts.specs.Kinds.{conn_of}
use Rattle.plumb_ports.specs.PortsState.{PortsState, served_of as port_served_of, after_serve as after_port_serve}
use Rattle.core_events.specs.PortAsking.{port_said}
use Rattle.core_events.specs.PortServing.{then_served as then_port_served, served_most as ports_served_most}
use Rattle.core_events.specs.PortServing.{ports_served}
use Rattle.acme_watch.specs.Watching.{WatchState, after_serve as after_watch}
use Rattle.acme_watch.specs.declared.types.WatchFile.{WatchFile}
use Rattle.acme_watch.specs.declared.types.WatchFile.TheVariants as watch
use Rattle.acme_watch.specs.declared.types.WatchRead.{WatchRead}
use Rattle.core_watch.specs.Asking.{watch_said}
use Rattle.core_watch.specs.Serving.{next_served, then_served as watch_then, served_most as watch_served_most}
use Rattle.core_watch.specs.Serving.{watch_served}
use Rattle.core_watch.specs.declared.asking.ReadAt.{ReadAt}
use Rattle.core_steps.specs.declared.reading.PortRead.{PortRead}
use Rattle.core_steps.specs.PortReads.{port_read_of, if_port_said, asked_said}
use Rattle.core_steps.specs.WatchReads.{if_watch_said, followed_said}
use Rattle.core_steps.specs.Stages.{asker_of, if_said, answer_said, answer_book, message_said, message_book, acted}
use Rattle.core_steps.specs.Stages.{with_fid, read_tables, port_tables, grown_tables, read_book, put_book, grown_book}
use Rattle.core_steps.specs.Stages.{open_ports, watch_read_at, open_watch, served, said}
use Rattle.core_steps.proofs.Orders.{told_first}
use Rattle.core_parts.specs.States.{Present, next_entry}
use Rattle.event_laws.specs.Rreads.{Rread, rread_on, rread_in, rreads_of}
use Rattle.event_laws.specs.Laws.{rread_to}

-- ---- what is said, and its Rreads

pub rreads_append : (at : ℕ) (xs ys : List Response) → rreads_of at (xs ++ ys) ≡ rreads_of at xs ++ rreads_of at ys
rreads_append at [] ys = refl
rreads_append at (x ∷ xs) ys =
    ap (λ (l : List Rread). rread_in at x.feed x.message.body ++ l) (rreads_append at xs ys)
    ∙ sym (append_assoc (rread_in at x.feed x.message.body) (rreads_of at xs) (rreads_of at ys))

map_append : (f : Asker × Piece → Rread) (xs ys : Answers) → map f (xs ++ ys) ≡ map f xs ++ map f ys
map_append f [] ys = refl
map_append f (x ∷ xs) ys = ap (λ (l : List Rread). f x ∷ l) (map_append f xs ys)

-- a refusal is no Rread
refused_on : (at : ℕ) (k : FeedKind) (opening : ℕ) (text : List ℕ) → rread_on at k opening (r.Error text) ≡ []
refused_on at Events opening text = refl
refused_on at Port opening text = refl
refused_on at Log opening text = refl
refused_on at Jobs opening text = refl

refused_in : (at : ℕ) (feed : Option Feed) (text : List ℕ) → rread_in at feed (r.Error text) ≡ []
refused_in at None text = refl
refused_in at (Some feed) text = refused_on at feed.kind feed.opening text

no_errors : (at : ℕ) (x : Refusal) (t : Tables) (ws : List Waiting) → rreads_of at (errors x t ws) ≡ []
no_errors at x t [] = refl
no_errors at x t (w ∷ ws) = ap (λ (l : List Rread). l ++ rreads_of at (errors x t ws))
    (refused_in at (feed_at t w) (refusal_text x)) ∙ no_errors at x t ws

no_clunked : (at : ℕ) (t : Tables) (conn : ℕ) (e : Effect) → rreads_of at (clunked t conn e) ≡ []
no_clunked at t conn effect.Nothing = refl
no_clunked at t conn (effect.Begins msize) = refl
no_clunked at t conn (effect.Puts fid value) = refl
no_clunked at t conn (effect.Frees fid) = no_errors at refusal.FidClunked t (filter (is_of_fid conn fid) t.waiting)

no_deletions : (at : ℕ) (t : Tables) (ws : List ℕ) → rreads_of at (deletions t ws) ≡ []
no_deletions at t [] = refl
no_deletions at t (w ∷ ws) =
    rreads_append at (errors refusal.WindowDeleted t (filter (is_of_window t w) t.waiting)) (deletions t ws)
    ∙ ap (λ (l : List Rread). l ++ rreads_of at (deletions t ws)) (no_errors at refusal.WindowDeleted t
    (filter (is_of_window t w) t.waiting))
    ∙ no_deletions at t ws

-- what reads of ports are answered is none of an event file
no_port : (at : ℕ) (x : Asker) (o : Option RBody) → rreads_of at (if_port_said x o) ≡ []
no_port at x None = refl
no_port at x (Some body) = refl

no_asked : (at : ℕ) (t : Tables) (p : PortsState) (o : Option PortRead) → rreads_of at (asked_said t p o) ≡ []
no_asked at t p None = refl
no_asked at t p (Some read) = no_port at read.asker (port_said t p read.asker)

no_then : (at : ℕ) (o : Option (Asker × Piece)) (rest : List Response) → rreads_of at rest ≡ []
    → rreads_of at (then_port_served o rest) ≡ []
no_then at None rest h = refl
no_then at (Some x) rest h = h

no_ports_most : (at n : ℕ) (p : PortsState) → rreads_of at (ports_served_most n p) ≡ []
unfolding ports_served_most
no_ports_most at zero p = refl
no_ports_most at (suc n) p = no_then at (port_served_of p) (ports_served_most n (after_port_serve p))
    (no_ports_most at n (after_port_serve p))

no_ports : (at : ℕ) (p : PortsState) → rreads_of at (ports_served p) ≡ []
no_ports at p = no_ports_most at (length p.reads) p

-- nor is what reads of `log` and `jobs` are answered
watch_on : (at : ℕ) (file : WatchFile) (opening : ℕ) (body : RBody)
    → rread_in at (Some (watch_feed (record { file = file; opening = opening }))) body ≡ []
watch_on at watch.Log opening body = refl
watch_on at watch.Jobs opening body = refl

no_watch : (at : ℕ) (read : WatchRead) (body : Option RBody) → rreads_of at (if_watch_said read body) ≡ []
no_watch at read None = refl
no_watch at read (Some body) = ap (λ (l : List Rread). l ++ []) (watch_on at read.file read.asker.opening body)

no_followed : (at : ℕ) (t : Tables) (w : WatchState) (o : Option ReadAt) → rreads_of at (followed_said t w o) ≡ []
no_followed at t w None = refl
no_followed at t w (Some read) = no_watch at read.read (watch_said t w read.read)

no_watch_then : (at : ℕ) (o : Option (WatchRead × Piece)) (rest : List Response) → rreads_of at rest ≡ []
    → rreads_of at (watch_then o rest) ≡ []
no_watch_then at None rest h = refl
no_watch_then at (Some x) rest h =
    ap (λ (l : List Rread). l ++ rreads_of at rest) (watch_on at x.0.file x.0.asker.opening (r.Read x.1.bytes)) ∙ h

no_watch_most : (at n : ℕ) (w : WatchState) → rreads_of at (watch_served_most n at w) ≡ []
unfolding watch_served_most
no_watch_most at zero w = refl
no_watch_most at (suc n) w = no_watch_then at (next_served w) (watch_served_most n at (after_watch w at))
    (no_watch_most at n (after_watch w at))

no_watched : (at : ℕ) (w : WatchState) → rreads_of at (watch_served at w) ≡ []
no_watched at w = no_watch_most at (length w.reads) w

-- ---- made by calls, up to what was said

pub record Walks (at : ℕ) (first : BookState) (heard : List Response) (s : BookState) : Type 0 where
  pub answers : Answers
  pub makes : IsMade at first answers s
  pub tells : map (rread_to at) answers ≡ rreads_of at heard

module _ (at : ℕ) (first : BookState) where
  abbrev W : List Response → BookState → Type 0
  W heard s = Walks at first heard s

  -- a call, and what it gives is said
  walk_more : (heard more : List Response) (s : BookState) (c : Making) → W heard s → CanMake s c
      → map (rread_to at) (given s c) ≡ rreads_of at more → W (heard ++ more) (made at s c)
  walk_more heard more s c w can tells = record {
    answers = w.answers ++ given s c;
    makes = one_made at first w.answers s c w.makes can;
    tells = map_append (rread_to at) w.answers (given s c)
        ∙ ap (λ (l : List Rread). l ++ map (rread_to at) (given s c)) w.tells
        ∙ ap (λ (l : List Rread). rreads_of at heard ++ l) tells
        ∙ sym (rreads_append at heard more);
  }

  -- something is said that is no Rread
  walk_silent : (heard more : List Response) (s : BookState) → W heard s → rreads_of at more ≡ [] → W (heard ++ more) s
  walk_silent heard more s w none = record {
    answers = w.answers;
    makes = w.makes;
    tells = w.tells
        ∙ sym (append-nil (rreads_of at heard))
        ∙ ap (λ (l : List Rread). rreads_of at heard ++ l) (sym none)
        ∙ sym (rreads_append at heard more);
  }

  -- other things are said, with the same Rreads
  walk_same : (heard old new : List Response) (s : BookState) → W (heard ++ old) s
      → rreads_of at new ≡ rreads_of at old → W (heard ++ new) s
  walk_same heard old new s w same = record {
    answers = w.answers;
    makes = w.makes;
    tells = w.tells
        ∙ rreads_append at heard old
        ∙ ap (λ (l : List Rread). rreads_of at heard ++ l) (sym same)
        ∙ sym (rreads_append at heard new);
  }

  -- a call that gives nothing
  walk_quiet : (heard : List Response) (s : BookState) (c : Making) → W heard s → CanMake s c → given s c ≡ []
      → W heard (made at s c)
  walk_quiet heard s c w can none =
      subst (λ (l : List Response). W l (made at s c)) (append-nil heard)
      (walk_more heard [] s c w can (ap (λ (g : Answers). map (rread_to at) g) none))

  -- ---- an opening, and items

  walk_opened : (heard : List Response) (s : BookState) (e : EventChange) → W heard s → W heard (opened s e)
  walk_opened heard s events.Nothing w = w
  walk_opened heard s (events.Opens v) w =
      (elim (nat_lt (length s.owners) 4294967295) as (λ t. nat_lt (length s.owners) 4294967295 ≡ t → W heard
      (cond t (after_add s v) s)) [
        | true ↦ λ e. walk_quiet heard s (Add v) w (lt_from_test (length s.owners) 4294967295 e) refl
        | false ↦ λ e. w
      ]) refl
  walk_opened heard s (events.Cancels tag) w = w
  walk_opened heard s (events.Joins port) w = w
  walk_opened heard s (events.Watches file) w = w

  walk_put : (heard : List Response) (s : BookState) (i : WindowItem) → W heard s → W heard (put_one s i)
  walk_put heard s i w =
      (elim (is_open_window s i.window) as (λ t. is_open_window s i.window ≡ t → W heard
      (cond t (after_put s i.window i.item) s)) [
        | true ↦ λ e. walk_quiet heard s (Put i.window i.item) w e refl
        | false ↦ λ e. w
      ]) refl

  walk_all : (heard : List Response) (s : BookState) (items : List WindowItem) → W heard s → W heard (put_all s items)
  walk_all heard s [] w = w
  walk_all heard s (i ∷ items) w = walk_all heard (put_one s i) items (walk_put heard s i w)

  walk_living : (deleted : List ℕ) (heard : List Response) (s : BookState) (items : List WindowItem) → W heard s
      → W heard (put_living deleted s items)
  walk_living deleted heard s [] w = w
  walk_living deleted heard s (i ∷ items) w =
      walk_living deleted heard (put_if_lives deleted s i) items
      (elim (is_ending deleted i) as (λ t. W heard (cond t s (put_one s i))) [
        | true ↦ w
        | false ↦ walk_put heard s i w
      ])

  -- ---- a read of a message

  walk_refused : (heard : List Response) (s : BookState) (conn tag opening : ℕ) (x : Refusal) → W heard s
      → W (heard ++ if_said conn tag opening (Some (r.Error (refusal_text x)))) s
  walk_refused heard s conn tag opening x w = walk_silent heard (if_said conn tag opening
      (Some (r.Error (refusal_text x)))) s w refl

  walk_waits : (full : Bool) (heard : List Response) (s : BookState) (conn tag opening count : ℕ)
      → is_living s opening ≡ true → read_waits s (asker_of conn tag opening count) ≡ true → W heard s
      → W (heard ++ if_said conn tag opening (said_to full Waits))
      (book_asked full Waits s (asker_of conn tag opening count) at)
  walk_waits true heard s conn tag opening count living waits w = walk_refused heard s conn tag opening
      refusal.TooManyWaitingReads w
  walk_waits false heard s conn tag opening count living waits w =
      let a : Asker = asker_of conn tag opening count in
      walk_more heard [] s (Ask a) w living (ap (λ (b : Bool). map (rread_to at) (cond b [] ((a, piece_for s a) ∷ [])))
      waits)

  walk_now : (full : Bool) (heard : List Response) (s : BookState) (conn tag opening count : ℕ)
      → is_living s opening ≡ true → read_waits s (asker_of conn tag opening count) ≡ false → W heard s
      → W (heard ++ if_said conn tag opening (said_to full (Now (piece_for s (asker_of conn tag opening count)))))
      (book_asked full (Now (piece_for s (asker_of conn tag opening count))) s (asker_of conn tag opening count) at)
  walk_now full heard s conn tag opening count living now w =
      let a : Asker = asker_of conn tag opening count in
      walk_more heard (if_said conn tag opening (Some (r.Read (piece_for s a).bytes))) s (Ask a) w living
      (ap (λ (b : Bool). map (rread_to at) (cond b [] ((a, piece_for s a) ∷ []))) now)

  walk_asked : (full : Bool) (heard : List Response) (s : BookState) (conn tag opening count : ℕ)
      → is_living s opening ≡ true → W heard s
      → W (heard ++ if_said conn tag opening (said_to full (cond (read_waits s (asker_of conn tag opening count)) Waits
      (Now (piece_for s (asker_of conn tag opening count))))))
      (book_asked full (cond (read_waits s (asker_of conn tag opening count)) Waits
      (Now (piece_for s (asker_of conn tag opening count)))) s (asker_of conn tag opening count) at)
  walk_asked full heard s conn tag opening count living w =
      let a : Asker = asker_of conn tag opening count in
      (elim (read_waits s a) as (λ b. read_waits s a ≡ b → W (heard ++ if_said conn tag opening
      (said_to full (cond b Waits (Now (piece_for s a))))) (book_asked full (cond b Waits (Now (piece_for s a))) s a
      at)) [
        | true ↦ λ e. walk_waits full heard s conn tag opening count living e w
        | false ↦ λ e. walk_now full heard s conn tag opening count living e w
      ]) refl

  walk_read : (t : Tables) (heard : List Response) (s : BookState) (conn tag opening count : ℕ) → W heard s
      → W (heard ++ if_said conn tag opening (read_said t s (asker_of conn tag opening count)))
      (book_read t s (asker_of conn tag opening count) at)
  walk_read t heard s conn tag opening count w =
      let a : Asker = asker_of conn tag opening count in
      let asked : Asked = cond (read_waits s a) Waits (Now (piece_for s a)) in
      (elim (is_living s opening) as (λ l. is_living s opening ≡ l →
      W (heard ++ if_said conn tag opening (cond l (said_to (reads_are_full t conn) asked)
      (Some (r.Error (refusal_text refusal.WindowDeleted))))) (cond l
      (book_asked (reads_are_full t conn) asked s a at) s)) [
        | true ↦ λ living. walk_asked (reads_are_full t conn) heard s conn tag opening count living w
        | false ↦ λ dead. walk_refused heard s conn tag opening refusal.WindowDeleted w
      ]) refl

  walk_answer : (t : Tables) (heard : List Response) (s : BookState) (conn tag : ℕ) (a : Option Answer) → W heard s
      → W (heard ++ answer_said t s conn tag a) (answer_book t s conn tag a at)
  walk_answer t heard s conn tag None w = walk_silent heard [] s w refl
  walk_answer t heard s conn tag (Some (Says body)) w = walk_silent heard (answer_said t s conn tag (Some (Says body)))
      s w refl
  walk_answer t heard s conn tag (Some (Reads fid opening count)) w = walk_read t heard s conn tag opening count w
  walk_answer t heard s conn tag (Some (ReadsPort fid opening count)) w = walk_silent heard [] s w refl
  walk_answer t heard s conn tag (Some (ReadsWatch fid opening count)) w = walk_silent heard [] s w refl

  walk_message : (t : Tables) (heard : List Response) (s : BookState) (k : Kind) (a : Option Answer) → W heard s
      → W (heard ++ message_said t s k a) (message_book t s k a at)
  walk_message t heard s (kind.Dials conn) a w = walk_silent heard [] s w refl
  walk_message t heard s (kind.Asks conn tag) a w = walk_answer t heard s conn tag a w
  walk_message t heard s (kind.Ends conn why) a w = walk_silent heard [] s w refl
  walk_message t heard s (kind.Takes conn) a w = walk_silent heard [] s w refl
  walk_message t heard s kind.Acts a w = walk_silent heard [] s w refl

  -- ---- reads that waited

  walk_next : (n : ℕ) (heard : List Response) (s : BookState) (x : Option (Asker × Piece)) → served_of s ≡ x → W heard s
      → ((more : List Response) → W more (after_serve s at) → W (more ++ served_most n at (after_serve s at))
      (book_served_most n at (after_serve s at)))
      → W (heard ++ then_served x (served_most n at (after_serve s at))) (book_served_most n at (after_serve s at))
  walk_next n heard s None e w rest =
      let stays : book_served_most n at (after_serve s at) ≡ s = ap (λ (t : BookState). book_served_most n at t)
      (idle at s e) ∙ book_none_more n at s e in
      subst (λ (t : BookState). W (heard ++ []) t) (sym stays) (walk_silent heard [] s w refl)
  walk_next n heard s (Some x) e w rest =
      subst (λ (l : List Response). W l (book_served_most n at (after_serve s at)))
      (append_assoc heard (response_to x ∷ []) (served_most n at (after_serve s at)))
      (rest (heard ++ response_to x ∷ []) (walk_more heard (response_to x ∷ []) s Serve w tt
      (ap (λ (o : Option (Asker × Piece)). map (rread_to at) (if_answered o)) e)))

  walk_most : (n : ℕ) (heard : List Response) (s : BookState) → W heard s
      → W (heard ++ served_most n at s) (book_served_most n at s)
  unfolding served_most book_served_most
  walk_most zero heard s w = walk_silent heard [] s w refl
  walk_most (suc n) heard s w = walk_next n heard s (served_of s) refl w
      (λ more h. walk_most n more (after_serve s at) h)

-- ---- all that an entry makes

pub grown : (p : Present) (k : Kind) (d : Doing) → Walks (next_entry p) p.scene.book (said p k d) (grown_book p k d)
grown p k d =
    let at : ℕ = next_entry p in
    let first : BookState = p.scene.book in
    let items : List WindowItem = (acted p d).items in
    let ends : List ℕ = deleted_by d.deeds in
    let a : List Response = clunked p.tables (conn_of k) d.effect in
    let b : List Response = message_said (with_fid p k d) first k d.answer in
    let c : List Response = deletions p.tables ends in
    let put : BookState = put_book p k d in
    let e : List Response = served_all at put in
    let none : Walks at first [] first = record { answers = []; makes = none_made at first; tells = refl } in
    let clunks : Walks at first a first = walk_silent at first [] a first none
    (no_clunked at p.tables (conn_of k) d.effect) in
    let read : Walks at first (a ++ b) (read_book p k d) = walk_message at first (with_fid p k d) a first k d.answer
    clunks in
    let puts : Walks at first (a ++ b) put =
    walk_living at first ends (a ++ b) (opened (read_book p k d) d.events) items
    (walk_opened at first (a ++ b) (read_book p k d) d.events read)
    in
    let q : List Response = asked_said (read_tables p k d) (acted p d).ports (port_read_of k d.answer) in
    let l : List Response = followed_said (port_tables p k d) (acted p d).watch (watch_read_at p k d) in
    let f : List Response = ports_served (open_ports p k d) in
    let w : List Response = watch_served at (open_watch p k d) in
    let asks : Walks at first ((a ++ b) ++ q) put = walk_silent at first (a ++ b) q put puts
    (no_asked at (read_tables p k d) (acted p d).ports (port_read_of k d.answer)) in
    let follows : Walks at first (((a ++ b) ++ q) ++ l) put = walk_silent at first ((a ++ b) ++ q) l put asks
    (no_followed at (port_tables p k d) (acted p d).watch (watch_read_at p k d)) in
    let deletes : Walks at first ((((a ++ b) ++ q) ++ l) ++ c) put = walk_silent at first (((a ++ b) ++ q) ++ l) c put
    follows (no_deletions at p.tables ends) in
    let before : List Response = (((a ++ b) ++ q) ++ l) ++ c in
    let taken : Walks at first (before ++ e) (book_served_all at put) = walk_most at first (length put.reads) before put
    deletes in
    let all : Walks at first (before ++ served p k d) (book_served_all at put) =
    walk_same at first before e (served p k d) (book_served_all at put) taken
    (told_first (rreads_of at) (rreads_append at) refl (grown_tables p k d) e f w (no_ports at (open_ports p k d))
    (no_watched at (open_watch p k d)))
    in
    walk_all at first (before ++ served p k d) (book_served_all at put) (ending ends items) all

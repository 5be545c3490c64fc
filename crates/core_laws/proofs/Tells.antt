-- To whom something is said: to the message of the entry, or to reads that wait.
use Rattle.std.proofs.Common.{◌≡◌, ℕ, zero, suc, Bool, List, [], ◌∷◌, ◌++◌, length, Option, Some, None, All, refl}
use Rattle.std.specs.List.{filter}
use Rattle.std.proofs.lemmas.List.Elements.{All-nil, All-cons, All-append, All-map, All-filter, All-contains}
use Rattle.ninep_types.specs.declared.message.RBody.{RBody}
use Rattle.fid_table.specs.declared.session.Waiting.{Waiting}
use Rattle.fid_table.specs.Tables.{Tables}
use Rattle.wait_queue.specs.declared.types.Asker.{Asker}
use Rattle.wait_queue.specs.declared.types.Piece.{Piece}
use Rattle.event_book.specs.BookState.{BookState, served_of, after_serve}
use Rattle.event_book.proofs.WaitingLemmas.{served_waited}
use Rattle.core_fids.specs.declared.effect.Answer.{Answer}
use Rattle.core_fids.specs.declared.effect.Answer.TheVariants.{Says, Reads, ReadsPort, ReadsWatch}
use Rattle.core_fids.specs.declared.effect.Effect.{Effect}
use Rattle.core_fids.specs.declared.effect.Effect.TheVariants as effect
use Rattle.core_fids.specs.declared.refusal.Refusal.{Refusal}
use Rattle.core_fids.specs.declared.refusal.Refusal.TheVariants as refusal
use Rattle.core_events.specs.declared.response.Response.{Response}
use Rattle.core_events.specs.Asking.{read_said}
use Rattle.core_events.specs.Responses.{feed_at, error, errors}
use Rattle.core_events.specs.Serving.{then_served, served_most, served_all}
use Rattle.core_events.specs.Waits.{is_of_fid, is_of_window, clunked, deletions}
use Rattle.core_scene.specs.Scenes.{deleted_by}
use Rattle.core_parts.specs.Doing.{Doing}
use Rattle.core_parts.specs.declared.kind.Kind.{Kind}
use Rattle.core_parts.specs.declared.kind.Kind.TheVariants as kind
use Rattle.core_parts.specs.Kinds.{conn_of}
use Rattle.core_steps.specs.Stages.{asker_of, if_said, answer_said, message_said, acted, with_fid, read_tables}
use Rattle.core_steps.specs.Stages.{port_tables, grown_tables, read_book, put_book, open_ports, open_watch, served}
use Rattle.core_steps.specs.Stages.{said}
use Rattle.core_steps.proofs.Orders.{all_asked}
use Rattle.core_parts.specs.States.{Present, next_entry}
use Rattle.plumb_ports.specs.PortsState.{PortsState}
use Rattle.core_events.specs.PortAsking.{port_said}
use Rattle.core_events.specs.PortServing.{ports_served}
use Rattle.core_steps.specs.PortReads.{port_read_in, port_read_of, if_port_said, asked_said}
use Rattle.core_steps.specs.WatchReads.{watch_asked, watch_read_in, watch_read_of, if_watch_said, followed_said}
use Rattle.acme_watch.specs.Watching.{WatchState}
use Rattle.acme_watch.specs.declared.types.WatchRead.{WatchRead}
use Rattle.core_watch.specs.Asking.{watch_said}
use Rattle.core_watch.specs.Serving.{watch_served}
use Rattle.core_laws.proofs.Books.{IsBook, book_opened, book_put_living, book_serve}
use Rattle.core_laws.proofs.Ports.{served_said}
use Rattle.core_laws.proofs.Watches.{watch_told_all}

-- L: what holds of the connection and the tag of the message and of each read that waits
module _ (L : ℕ → ℕ → Type 0) where
  abbrev pub Tells : Response → Type 0
  Tells x = L x.conn x.message.tag

  abbrev pub Reading : Asker → Type 0
  Reading r = L r.conn r.tag

  abbrev pub Following : WatchRead → Type 0
  Following r = L r.asker.conn r.asker.tag

  abbrev pub IsWaiting : Waiting → Type 0
  IsWaiting w = L w.conn w.tag

  tell_errors : (x : Refusal) (t : Tables) (test : Waiting → Bool) (ws : List Waiting) → All IsWaiting ws
      → All Tells (errors x t (filter test ws))
  tell_errors x t test ws h = All-map Tells (λ (w : Waiting). error x (feed_at t w) w.conn w.tag) (filter test ws)
      (All-filter test IsWaiting ws h)

  pub tell_clunked : (t : Tables) (conn : ℕ) (e : Effect) → All IsWaiting t.waiting → All Tells (clunked t conn e)
  tell_clunked t conn effect.Nothing h = All-nil Tells
  tell_clunked t conn (effect.Begins msize) h = All-nil Tells
  tell_clunked t conn (effect.Puts fid value) h = All-nil Tells
  tell_clunked t conn (effect.Frees fid) h = tell_errors refusal.FidClunked t (is_of_fid conn fid) t.waiting h

  pub tell_deletions : (t : Tables) (ws : List ℕ) → All IsWaiting t.waiting → All Tells (deletions t ws)
  tell_deletions t [] h = All-nil Tells
  tell_deletions t (w ∷ ws) h =
      All-append Tells (errors refusal.WindowDeleted t (filter (is_of_window t w) t.waiting)) (deletions t ws)
      (tell_errors refusal.WindowDeleted t (is_of_window t w) t.waiting h)
      (tell_deletions t ws h)

  tell_if : (conn tag opening : ℕ) (o : Option RBody) → L conn tag → All Tells (if_said conn tag opening o)
  tell_if conn tag opening None own = All-nil Tells
  tell_if conn tag opening (Some body) own = All-cons Tells _ [] own (All-nil Tells)

  tell_answer : (t : Tables) (b : BookState) (conn tag : ℕ) (a : Option Answer) → L conn tag
      → All Tells (answer_said t b conn tag a)
  tell_answer t b conn tag None own = All-nil Tells
  tell_answer t b conn tag (Some (Says body)) own = All-cons Tells _ [] own (All-nil Tells)
  tell_answer t b conn tag (Some (Reads fid opening count)) own = tell_if conn tag opening
      (read_said t b (asker_of conn tag opening count)) own
  tell_answer t b conn tag (Some (ReadsPort fid opening count)) own = All-nil Tells
  tell_answer t b conn tag (Some (ReadsWatch fid opening count)) own = All-nil Tells

  tell_port : (r : Asker) (o : Option RBody) → Reading r → All Tells (if_port_said r o)
  tell_port r None own = All-nil Tells
  tell_port r (Some body) own = All-cons Tells _ [] own (All-nil Tells)

  tell_port_in : (t : Tables) (p : PortsState) (conn tag : ℕ) (a : Option Answer) → L conn tag
      → All Tells (asked_said t p (port_read_in conn tag a))
  tell_port_in t p conn tag None own = All-nil Tells
  tell_port_in t p conn tag (Some (Says body)) own = All-nil Tells
  tell_port_in t p conn tag (Some (Reads fid opening count)) own = All-nil Tells
  tell_port_in t p conn tag (Some (ReadsPort fid opening count)) own = tell_port (asker_of conn tag opening count)
      (port_said t p (asker_of conn tag opening count)) own
  tell_port_in t p conn tag (Some (ReadsWatch fid opening count)) own = All-nil Tells

  tell_watch : (x : WatchRead) (o : Option RBody) → Following x → All Tells (if_watch_said x o)
  tell_watch x None own = All-nil Tells
  tell_watch x (Some body) own = All-cons Tells _ [] own (All-nil Tells)

  tell_watch_in : (t : Tables) (w : WatchState) (conn tag : ℕ) (a : Option Answer) (at : ℕ) → L conn tag
      → All Tells (followed_said t w (watch_read_in conn tag a at))
  tell_watch_in t w conn tag None at own = All-nil Tells
  tell_watch_in t w conn tag (Some (Says body)) at own = All-nil Tells
  tell_watch_in t w conn tag (Some (Reads fid opening count)) at own = All-nil Tells
  tell_watch_in t w conn tag (Some (ReadsPort fid opening count)) at own = All-nil Tells
  tell_watch_in t w conn tag (Some (ReadsWatch fid opening count)) at own =
      tell_watch (watch_asked conn tag opening count) (watch_said t w (watch_asked conn tag opening count)) own

  tell_then : (o : Option (Asker × Piece)) (rest : List Response) →
      ((r : Asker) (piece : Piece) → o ≡ Some (r, piece) → Reading r) → All Tells rest → All Tells (then_served o rest)
  tell_then None rest own h = All-nil Tells
  tell_then (Some x) rest own h = All-cons Tells _ rest (own x.0 x.1 refl) h

  tell_most : (at n : ℕ) (b : BookState) → IsBook Reading at b → All Tells (served_most n at b)
  unfolding served_most
  tell_most at zero b book = All-nil Tells
  tell_most at (suc n) b book =
      tell_then (served_of b) (served_most n at (after_serve b at))
      (λ r piece e. All-contains Reading b.reads r book.reads (served_waited b r piece e))
      (tell_most at n (after_serve b at) (book_serve Reading at b book))

  pub tell_served : (at : ℕ) (b : BookState) → IsBook Reading at b → All Tells (served_all at b)
  tell_served at b book = tell_most at (length b.reads) b book

  pub tell_ports : (p : PortsState) → All Reading p.reads → All Tells (ports_served p)
  tell_ports p h = served_said Tells Reading (λ r body own. own) p h

  pub tell_follows : (at : ℕ) (w : WatchState) → All Following w.reads → All Tells (watch_served at w)
  tell_follows at w h = watch_told_all Following Tells (λ x body own. own) at w h

  -- what is true of the message of an event of this kind
  abbrev pub OfMessage : Kind → Type 0
  OfMessage (kind.Dials conn) = Unit {0}
  OfMessage (kind.Asks conn tag) = L conn tag
  OfMessage (kind.Ends conn why) = Unit {0}
  OfMessage (kind.Takes conn) = Unit {0}
  OfMessage kind.Acts = Unit {0}

  tell_message : (t : Tables) (b : BookState) (k : Kind) (a : Option Answer) → OfMessage k
      → All Tells (message_said t b k a)
  tell_message t b (kind.Dials conn) a own = All-nil Tells
  tell_message t b (kind.Asks conn tag) a own = tell_answer t b conn tag a own
  tell_message t b (kind.Ends conn why) a own = All-nil Tells
  tell_message t b (kind.Takes conn) a own = All-nil Tells
  tell_message t b kind.Acts a own = All-nil Tells

  tell_asked : (t : Tables) (p : PortsState) (k : Kind) (a : Option Answer) → OfMessage k
      → All Tells (asked_said t p (port_read_of k a))
  tell_asked t p (kind.Dials conn) a own = All-nil Tells
  tell_asked t p (kind.Asks conn tag) a own = tell_port_in t p conn tag a own
  tell_asked t p (kind.Ends conn why) a own = All-nil Tells
  tell_asked t p (kind.Takes conn) a own = All-nil Tells
  tell_asked t p kind.Acts a own = All-nil Tells

  tell_followed : (t : Tables) (w : WatchState) (k : Kind) (a : Option Answer) (at : ℕ) → OfMessage k
      → All Tells (followed_said t w (watch_read_of k a at))
  tell_followed t w (kind.Dials conn) a at own = All-nil Tells
  tell_followed t w (kind.Asks conn tag) a at own = tell_watch_in t w conn tag a at own
  tell_followed t w (kind.Ends conn why) a at own = All-nil Tells
  tell_followed t w (kind.Takes conn) a at own = All-nil Tells
  tell_followed t w kind.Acts a at own = All-nil Tells

  -- all that an entry says
  pub tells : (s : Present) (k : Kind) (d : Doing) → OfMessage k → IsBook Reading (next_entry s) (read_book s k d)
      → All Reading (open_ports s k d).reads → All Following (open_watch s k d).reads → All IsWaiting s.tables.waiting
      → All Tells (said s k d)
  tells s k d own read ports watch waiting =
      let at : ℕ = next_entry s in
      let put : IsBook Reading at (put_book s k d) = book_put_living Reading at (deleted_by d.deeds) _ (acted s d).items
      (book_opened Reading at (read_book s k d) d.events read) in
      let one : List Response = clunked s.tables (conn_of k) d.effect in
      let two : List Response = message_said (with_fid s k d) s.scene.book k d.answer in
      let asked : List Response = asked_said (read_tables s k d) (acted s d).ports (port_read_of k d.answer) in
      let followed : List Response = followed_said (port_tables s k d) (acted s d).watch (watch_read_of k d.answer at)
      in
      let three : List Response = deletions s.tables (deleted_by d.deeds) in
      All-append Tells (one ++ two ++ asked ++ followed ++ three) (served s k d)
      (All-append Tells (one ++ two ++ asked ++ followed) three
      (All-append Tells (one ++ two ++ asked) followed
      (All-append Tells (one ++ two) asked
      (All-append Tells one two (tell_clunked s.tables (conn_of k) d.effect waiting)
      (tell_message (with_fid s k d) s.scene.book k d.answer own))
      (tell_asked (read_tables s k d) (acted s d).ports k d.answer own))
      (tell_followed (port_tables s k d) (acted s d).watch k d.answer at own))
      (tell_deletions s.tables (deleted_by d.deeds) waiting))
      (all_asked Tells (grown_tables s k d) (served_all at (put_book s k d)) (ports_served (open_ports s k d))
      (watch_served at (open_watch s k d)) (tell_served at (put_book s k d) put) (tell_ports (open_ports s k d) ports)
      (tell_follows at (open_watch s k d) watch))

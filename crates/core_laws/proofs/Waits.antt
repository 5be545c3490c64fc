-- What a step leaves of the reads that wait: the same in the sessions as in the event files, in the ports, and in `log`
-- and `jobs`.
use Rattle.std.proofs.Common.{◌≡◌, ◌⊎◌, inl, inr, ℕ, Bool, true, false, eqb, ◌&&◌, ◌||◌, List, ◌++◌, length, Option}
use Rattle.std.proofs.Common.{refl, sym, ap, subst, ◌∙◌}
use Rattle.std.specs.List.{list_any}
use Rattle.std.proofs.lemmas.Bool.{or_parts}
use Rattle.fid_table.specs.declared.types.Fid.{Fid}
use Rattle.fid_table.specs.declared.session.Waiting.{Waiting}
use Rattle.fid_table.specs.Tables.{Tables, fid_of}
use Rattle.acme_watch.specs.Laws.{count_of}
use Rattle.acme_watch.specs.Watching.{WatchState}
use Rattle.acme_watch.specs.declared.types.WatchRead.{WatchRead}
use Rattle.wait_queue.specs.declared.types.Asker.{Asker}
use Rattle.event_book.specs.BookState.{BookState, is_on_window}
use Rattle.core_scene.specs.Scenes.{deleted_by}
use Rattle.core_fids.specs.Fids.{event_opening, port_opening, watch_opening}
use Rattle.core_fids.specs.declared.effect.Effect.{Effect}
use Rattle.core_fids.specs.declared.effect.Effect.TheVariants as effect
use Rattle.core_events.specs.declared.response.Response.{Response}
use Rattle.core_events.specs.Asking.{opened}
use Rattle.core_events.specs.Closing.{written_back}
use Rattle.core_events.specs.Putting.{ending}
use Rattle.core_events.specs.Serving.{served_all, book_served_all}
use Rattle.core_events.specs.Waits.{clunked, deletions}
use Rattle.core_events.specs.PortServing.{ports_served}
use Rattle.core_watch.specs.Answering.{answered_with}
use Rattle.core_watch.specs.Serving.{watch_served}
use Rattle.core_parts.specs.declared.kind.Kind.{Kind}
use Rattle.core_parts.specs.declared.kind.Kind.TheVariants as kind
use Rattle.core_parts.specs.Doing.{Doing}
use Rattle.core_parts.specs.Kinds.{conn_of}
use Rattle.core_parts.specs.States.{Present, next_entry}
use Rattle.core_steps.specs.PortReads.{port_read_of, asked_said}
use Rattle.core_steps.specs.WatchReads.{followed_said}
use Rattle.core_steps.specs.Stages.{message_said, acted, with_fid, read_tables, port_tables, grown_tables, read_book}
use Rattle.core_steps.specs.Stages.{put_book, grown_book, open_ports, grown_ports, watch_read_at, open_watch}
use Rattle.core_steps.specs.Stages.{grown_watch, served, said, tables_after, book_after, ports_after, watch_after}
use Rattle.core_steps.proofs.Orders.{any_asked}
use Rattle.core_closing.specs.Closing.{left_book}
use Rattle.core_laws.specs.Waits.{told, watch_told}
use Rattle.core_laws.proofs.Books.{IsBook, book_written}
use Rattle.core_laws.proofs.FileKinds.{watch_number, event_or_port, event_or_watch, port_or_watch}
use Rattle.core_laws.proofs.Lists.{without, without_both, without_same, IsIn, in_without}
use Rattle.core_laws.proofs.Zips.{by_waiting, by_asker, by_follower, HasWaiting, asker_waits, has_key, AsksApart}
use Rattle.core_laws.proofs.Zips.{askers_apart}
use Rattle.core_laws.proofs.Holders.{AreOwn}
use Rattle.core_laws.proofs.Staying.{heard, heard_more, IsSame, same_then, opened_reads, put_living_same, put_all_same}
use Rattle.core_laws.proofs.Staying.{written_same, served_without, served_owners, served_silent, ports_without}
use Rattle.core_laws.proofs.Staying.{ports_joined, ports_silent, closed_without, closed_owners}
use Rattle.core_laws.proofs.Endings.{gone, cancels, clunks, closes, leaves_read, ends_key, left_book_without}
use Rattle.core_laws.proofs.Endings.{left_book_owners, left_ports_without, left_ports_joined, ended_tables_without}
use Rattle.core_laws.proofs.Endings.{fid_stays, fewer_fids}
use Rattle.core_laws.proofs.Followers.{watch_without, watch_silent, leaves_watch, left_watch_without}
use Rattle.core_laws.proofs.Followers.{left_watch_counts}
use Rattle.core_laws.proofs.Keys.{in_its_file, by_fid, by_conn, none_keyed, none_said}
use Rattle.core_laws.proofs.Ties.{FileReads, Openings, reads_of, openings_of, Ties, reads_left, as_ties, ties_without}
use Rattle.core_laws.proofs.Watches.{answered_same, served_counts}

-- ---- tests

or_false : (b : Bool) → (b || false) ≡ b
or_false true = refl
or_false false = refl

all_true : (t c x d : Bool) → ((t || ((c || true) || x)) || d) ≡ true
all_true true c x d = refl
all_true false true x d = refl
all_true false false x d = refl

each_once : (g c d t x : Bool) → ((g || (((((c || false) || false) || false) || d) || t)) || x)
    ≡ ((t || ((c || g) || x)) || d)
each_once true c d true x = refl
each_once true true d false x = refl
each_once true false d false x = refl
each_once false true d true x = refl
each_once false true d false x = refl
each_once false false true true x = refl
each_once false false true false true = refl
each_once false false true false false = refl
each_once false false false true x = refl
each_once false false false false true = refl
each_once false false false false false = refl

-- what is said to a read that waits, or ends it in the sessions, by what ends it in its file
read_ends : (g c o a f d t x closes : Bool) → (c || g) ≡ closes → a ≡ false → f ≡ false → (o ≡ false) ⊎ (g ≡ true)
    → ((g || (((((c || o) || a) || f) || d) || t)) || x) ≡ ((t || (closes || x)) || d)
read_ends g c o a f d t x closes e none later (inl silent) = rw (none, later, silent, sym e) (each_once g c d t x)
read_ends g c o a f d t x closes e none later (inr is) = rw (sym e, is) (sym (all_true t c x d))

-- what is said to one of a kind, where nothing is said by the others
first_told : (s l w : Bool) → l ≡ false → w ≡ false → (s || (l || w)) ≡ s
first_told s l w e h = rw (e, h) (or_false s)

second_told : (s l w : Bool) → s ≡ false → w ≡ false → (s || (l || w)) ≡ l
second_told s l w e h = rw (e, h) (or_false l)

third_told : (s l w : Bool) → s ≡ false → l ≡ false → (s || (l || w)) ≡ w
third_told s l w e h = rw (e, h) refl

-- ---- what a step says

abbrev own_said : Present → Kind → Doing → List Response
own_said s k d = message_said (with_fid s k d) s.scene.book k d.answer

abbrev port_answer : Present → Kind → Doing → List Response
port_answer s k d = asked_said (read_tables s k d) (acted s d).ports (port_read_of k d.answer)

abbrev watch_answer : Present → Kind → Doing → List Response
watch_answer s k d = followed_said (port_tables s k d) (acted s d).watch (watch_read_at s k d)

abbrev told_served : Present → Kind → Doing → List Response
told_served s k d = served_all (next_entry s) (put_book s k d)

abbrev told_ports : Present → Kind → Doing → List Response
told_ports s k d = ports_served (open_ports s k d)

abbrev told_watch : Present → Kind → Doing → List Response
told_watch s k d = watch_served (next_entry s) (open_watch s k d)

-- a read of whichever file that could be answered
abbrev heard_served : Present → Kind → Doing → ℕ → ℕ → Bool
heard_served s k d c g = heard (told_served s k d) c g || (heard (told_ports s k d) c g || heard (told_watch s k d) c g)

heard_said : (s : Present) (k : Kind) (d : Doing) (c g : ℕ)
    → heard (said s k d) c g
    ≡ (((((heard (clunked s.tables (conn_of k) d.effect) c g || heard (own_said s k d) c g)
    || heard (port_answer s k d) c g) || heard (watch_answer s k d) c g)
    || heard (deletions s.tables (deleted_by d.deeds)) c g) || heard_served s k d c g)
heard_said s k d c g =
    let one : List Response = clunked s.tables (conn_of k) d.effect in
    let two : List Response = own_said s k d in
    let three : List Response = port_answer s k d in
    let four : List Response = watch_answer s k d in
    let five : List Response = deletions s.tables (deleted_by d.deeds) in
    let before : List Response = one ++ two ++ three ++ four ++ five in
    heard_more before (served s k d) c g
    ∙ ap (λ (b : Bool). heard before c g || b) (any_asked (λ (x : Response). eqb c x.conn && eqb g x.message.tag)
    (grown_tables s k d) (told_served s k d) (told_ports s k d) (told_watch s k d))
    ∙ ap (λ (b : Bool). b || heard_served s k d c g)
    (heard_more (one ++ two ++ three ++ four) five c g
    ∙ ap (λ (b : Bool). b || heard five c g) (heard_more (one ++ two ++ three) four c g
    ∙ ap (λ (b : Bool). b || heard four c g) (heard_more (one ++ two) three c g
    ∙ ap (λ (b : Bool). b || heard three c g) (heard_more one two c g))))

-- where none of all is, the first isn't
first_of_all : (c o a f d t : Bool) → (((((c || o) || a) || f) || d) || t) ≡ false → c ≡ false
first_of_all true o a f d t h = h
first_of_all false o a f d t h = refl

-- ---- what a step ends

-- the reads that wait then, before any is answered or ends, and all openings then
abbrev pub owners_then : Present → Kind → Doing → List ℕ
owners_then s k d = (opened (read_book s k d) d.events).owners

abbrev pub reads_then : Present → Kind → Doing → FileReads
reads_then s k d = reads_of (read_book s k d) (open_ports s k d) (open_watch s k d)

abbrev pub openings_then : Present → Kind → Doing → Openings
openings_then s k d = openings_of (opened (read_book s k d) d.events) (open_ports s k d) (open_watch s k d)

abbrev pub TiedThen : Present → Kind → Doing → Type 0
TiedThen s k d = Ties (grown_tables s k d) (reads_then s k d) (openings_then s k d)

-- What is said to a read that waits: nothing but what the end of its fid, of its window or its answer says.
pub record IsToldRight (s : Present) (k : Kind) (d : Doing) : Type 0 where
  pub clunk : (w : Waiting) → IsIn (grown_tables s k d).waiting w → heard (clunked s.tables (conn_of k) d.effect) w.conn
      w.tag ≡ clunks k d.effect w
  pub own : (w : Waiting) → IsIn (grown_tables s k d).waiting w → (heard (own_said s k d) w.conn w.tag ≡ false)
      ⊎ (gone k d.effect w.conn w.tag ≡ true)
  pub port : (w : Waiting) → IsIn (grown_tables s k d).waiting w → heard (port_answer s k d) w.conn w.tag ≡ false
  pub watch : (w : Waiting) → IsIn (grown_tables s k d).waiting w → heard (watch_answer s k d) w.conn w.tag ≡ false
  pub deleted : (r : Asker) → IsIn (read_book s k d).reads r → heard (deletions s.tables (deleted_by d.deeds)) r.conn
      r.tag ≡ list_any (λ v. is_on_window (owners_then s k d) v r) (deleted_by d.deeds)
  pub port_deleted : (r : Asker) → IsIn (open_ports s k d).reads r
      → heard (deletions s.tables (deleted_by d.deeds)) r.conn r.tag ≡ false
  pub watch_deleted : (r : WatchRead) → IsIn (open_watch s k d).reads r
      → heard (deletions s.tables (deleted_by d.deeds)) r.asker.conn r.asker.tag ≡ false

-- a key as the read tells it
moved : (P : ℕ → ℕ → Type 0) (a b c d : ℕ) → a ≡ c → b ≡ d → P a b → P c d
moved P a b c d e f h = subst (λ (y : ℕ). P c y) f (subst (λ (x : ℕ). P x b) e h)

module _ (s : Present) (k : Kind) (d : Doing) (right : IsToldRight s k d) (ties : TiedThen s k d)
    (lawful : IsBook (λ r. Unit {0}) (next_entry s) (grown_book s k d)) where
  abbrev t : Tables
  t = grown_tables s k d

  abbrev es : List Asker
  es = (read_book s k d).reads

  abbrev ps : List Asker
  ps = (open_ports s k d).reads

  abbrev ws : List WatchRead
  ws = (open_watch s k d).reads

  -- ---- the event files

  put_same : IsSame (opened (read_book s k d) d.events) (put_book s k d)
  put_same = put_living_same (deleted_by d.deeds) (opened (read_book s k d) d.events) (acted s d).items

  put_reads : (put_book s k d).reads ≡ es
  put_reads = put_same.reads ∙ opened_reads (read_book s k d) d.events

  back : BookState
  back = written_back (next_entry s) (grown_book s k d) d.back

  after_same : IsSame (book_served_all (next_entry s) (put_book s k d)) back
  unfolding back
  after_same =
      same_then (book_served_all (next_entry s) (put_book s k d)) (grown_book s k d)
      (written_back (next_entry s) (grown_book s k d) d.back)
      (put_all_same (book_served_all (next_entry s) (put_book s k d)) (ending (deleted_by d.deeds) (acted s d).items))
      (written_same (next_entry s) (grown_book s k d) d.back)

  back_reads : back.reads ≡ without (by_asker (heard (told_served s k d))) es
  back_reads =
      after_same.reads
      ∙ served_without (length (put_book s k d).reads) (next_entry s) (put_book s k d)
      (subst (AsksApart told) (sym put_reads) (askers_apart told event_opening t t.waiting es ties.events ties.apart))
      ∙ ap (without (by_asker (heard (told_served s k d)))) put_reads

  back_owners : back.owners ≡ owners_then s k d
  back_owners = after_same.owners ∙ served_owners (length (put_book s k d).reads) (next_entry s) (put_book s k d)
      ∙ put_same.owners

  back_book : IsBook (λ r. Unit {0}) (next_entry s) back
  unfolding back
  back_book = book_written (λ r. Unit {0}) (next_entry s) (grown_book s k d) d.back lawful

  abbrev left : BookState
  left = left_book (next_entry s) t k d back

  left_owner : left.owners ≡ owners_then s k d
  left_owner = left_book_owners (next_entry s) t k d back ∙ back_owners

  abbrev event_drop : Asker → Bool
  event_drop r = (heard (told_served s k d) r.conn r.tag || leaves_read event_opening t k d r)
      || list_any (λ v. is_on_window (owners_then s k d) v r) (deleted_by d.deeds)

  event_reads_left : (book_after s k d).reads ≡ without event_drop es
  unfolding back
  event_reads_left =
      closed_without (next_entry s) left (deleted_by d.deeds)
      ∙ ap (λ (owners : List ℕ). without (λ r. list_any (λ v. is_on_window owners v r) (deleted_by d.deeds)) left.reads)
      left_owner
      ∙ ap (without (λ r. list_any (λ v. is_on_window (owners_then s k d) v r) (deleted_by d.deeds)))
      (left_book_without (next_entry s) t k d back back_book
      ∙ ap (without (leaves_read event_opening t k d)) back_reads
      ∙ without_both (leaves_read event_opening t k d) (by_asker (heard (told_served s k d))) es)
      ∙ without_both (λ (r : Asker). list_any (λ v. is_on_window (owners_then s k d) v r) (deleted_by d.deeds))
      (λ (r : Asker). heard (told_served s k d) r.conn r.tag || leaves_read event_opening t k d r) es

  owners_left : (book_after s k d).owners ≡ owners_then s k d
  unfolding back
  owners_left = closed_owners (next_entry s) left (deleted_by d.deeds) ∙ left_owner

  -- ---- the ports

  abbrev port_drop : Asker → Bool
  port_drop r = heard (told_ports s k d) r.conn r.tag || leaves_read port_opening t k d r

  port_reads_left : (ports_after s k d).reads ≡ without port_drop ps
  port_reads_left =
      left_ports_without t k d (grown_ports s k d)
      ∙ ap (without (leaves_read port_opening t k d)) (ports_without (length ps) (open_ports s k d)
      (askers_apart told port_opening t t.waiting ps ties.ports ties.apart))
      ∙ without_both (leaves_read port_opening t k d) (by_asker (heard (told_ports s k d))) ps

  joined_left : (ports_after s k d).joined ≡ (open_ports s k d).joined
  joined_left = left_ports_joined t k d (grown_ports s k d) ∙ ports_joined (length ps) (open_ports s k d)

  -- ---- `log` and `jobs`

  abbrev answered : WatchState
  answered = answered_with (next_entry s) (grown_watch s k d) d.answers

  abbrev watch_drop : WatchRead → Bool
  watch_drop r = heard (told_watch s k d) r.asker.conn r.asker.tag || leaves_watch t k d r

  watch_reads_left : (watch_after s k d).reads ≡ without watch_drop ws
  watch_reads_left =
      left_watch_without (next_entry s) t k d answered
      ∙ ap (without (leaves_watch t k d)) ((answered_same (next_entry s) (grown_watch s k d) d.answers).reads
      ∙ watch_without (length ws) (next_entry s) (open_watch s k d)
      (askers_apart watch_told watch_opening t t.waiting ws ties.watch ties.apart))
      ∙ without_both (leaves_watch t k d) (by_follower (heard (told_watch s k d))) ws

  counts_left : (watch_after s k d).opened ≡ (open_watch s k d).opened
  counts_left = left_watch_counts (next_entry s) t k d answered
      ∙ (answered_same (next_entry s) (grown_watch s k d) d.answers).counts
      ∙ served_counts (length ws) (next_entry s) (open_watch s k d)

  -- ---- the same keys

  abbrev K : ℕ → ℕ → Bool
  K = ends_key k d (said s k d)

  -- nothing is said by a kind of files to a key that none of its reads has
  silent_events : (c g : ℕ) → list_any (has_key told c g) es ≡ false → heard (told_served s k d) c g ≡ false
  silent_events c g none = served_silent (length (put_book s k d).reads) (next_entry s) (put_book s k d) c g
      (ap (list_any (has_key told c g)) put_reads ∙ none)

  silent_ports : (c g : ℕ) → list_any (has_key told c g) ps ≡ false → heard (told_ports s k d) c g ≡ false
  silent_ports c g none = ports_silent (length ps) (open_ports s k d) c g none

  silent_watch : (c g : ℕ) → list_any (has_key watch_told c g) ws ≡ false → heard (told_watch s k d) c g ≡ false
  silent_watch c g none = watch_silent (length ws) (next_entry s) (open_watch s k d) c g none

  -- a read of a file, by its entry in the sessions
  module _ (which : Fid → Option ℕ) (bound : ℕ) (mine : AreOwn which t bound) (r : Asker)
      (h : HasWaiting which t t.waiting (told r)) where
    -- the end of the fid is that of the opening
    closes_by : (j : Kind) (e : Effect) → (clunks j e h.waiting || gone j e r.conn r.tag) ≡ closes which t j e r
    closes_by (kind.Dials conn) e = refl
    closes_by (kind.Asks conn tag) effect.Nothing = refl
    closes_by (kind.Asks conn tag) (effect.Begins msize) = by_conn which t t.waiting bound mine r h conn
    closes_by (kind.Asks conn tag) (effect.Puts number fid) = refl
    closes_by (kind.Asks conn tag) (effect.Frees number) =
        or_false (clunks (kind.Asks conn tag) (effect.Frees number) h.waiting)
        ∙ by_fid which t t.waiting bound mine r h conn number
    closes_by (kind.Ends conn why) e = by_conn which t t.waiting bound mine r h conn
    closes_by (kind.Takes conn) e = refl
    closes_by kind.Acts e = refl

    -- what the entry tells
    of_entry : (P : ℕ → ℕ → Type 0) → P h.waiting.conn h.waiting.tag → P r.conn r.tag
    of_entry P x = moved P h.waiting.conn h.waiting.tag r.conn r.tag h.conn h.tag x

    key_is : K r.conn r.tag ≡ ((heard_served s k d r.conn r.tag || leaves_read which t k d r)
        || heard (deletions s.tables (deleted_by d.deeds)) r.conn r.tag)
    key_is =
        ap (λ (b : Bool). (gone k d.effect r.conn r.tag || b) || cancels k d.events r.conn r.tag)
        (heard_said s k d r.conn r.tag)
        ∙ read_ends (gone k d.effect r.conn r.tag) (heard (clunked s.tables (conn_of k) d.effect) r.conn r.tag)
        (heard (own_said s k d) r.conn r.tag) (heard (port_answer s k d) r.conn r.tag)
        (heard (watch_answer s k d) r.conn r.tag) (heard (deletions s.tables (deleted_by d.deeds)) r.conn r.tag)
        (heard_served s k d r.conn r.tag) (cancels k d.events r.conn r.tag) (closes which t k d.effect r)
        (ap (λ (b : Bool). b || gone k d.effect r.conn r.tag) (of_entry
        (λ c g. heard (clunked s.tables (conn_of k) d.effect) c g ≡ clunks k d.effect h.waiting)
        (right.clunk h.waiting h.there)) ∙ closes_by k d.effect)
        (of_entry (λ c g. heard (port_answer s k d) c g ≡ false) (right.port h.waiting h.there))
        (of_entry (λ c g. heard (watch_answer s k d) c g ≡ false) (right.watch h.waiting h.there))
        (of_entry (λ c g. (heard (own_said s k d) c g ≡ false) ⊎ (gone k d.effect c g ≡ true))
        (right.own h.waiting h.there))

  -- by what ends it in its file, where this alone is said to reads that waited, and this of its window
  as_told : (all told_it leaves deleted closed : Bool) → all ≡ told_it → deleted ≡ closed
      → ((all || leaves) || deleted) ≡ ((told_it || leaves) || closed)
  as_told all told_it leaves deleted closed e h = ap (λ (b : Bool). (b || leaves) || deleted) e
      ∙ ap (λ (b : Bool). (told_it || leaves) || b) h

  event_keys : (r : Asker) → IsIn es r → K r.conn r.tag ≡ event_drop r
  event_keys r i =
      let h : HasWaiting event_opening t t.waiting (told r) =
      asker_waits event_opening t told t.waiting es ties.events r i in
      key_is event_opening (length (owners_then s k d)) ties.own r h
      ∙ as_told (heard_served s k d r.conn r.tag) (heard (told_served s k d) r.conn r.tag)
      (leaves_read event_opening t k d r) (heard (deletions s.tables (deleted_by d.deeds)) r.conn r.tag)
      (list_any (λ v. is_on_window (owners_then s k d) v r) (deleted_by d.deeds))
      (first_told (heard (told_served s k d) r.conn r.tag) (heard (told_ports s k d) r.conn r.tag)
      (heard (told_watch s k d) r.conn r.tag)
      (silent_ports r.conn r.tag (none_keyed told told event_opening port_opening event_or_port t ties.apart es ps
      ties.events ties.ports r i))
      (silent_watch r.conn r.tag (none_keyed told watch_told event_opening watch_opening event_or_watch t ties.apart es
      ws ties.events ties.watch r i)))
      (right.deleted r i)

  port_keys : (r : Asker) → IsIn ps r → K r.conn r.tag ≡ port_drop r
  port_keys r i =
      let h : HasWaiting port_opening t t.waiting (told r) =
      asker_waits port_opening t told t.waiting ps ties.ports r i in
      key_is port_opening (open_ports s k d).joined ties.port_own r h
      ∙ as_told (heard_served s k d r.conn r.tag) (heard (told_ports s k d) r.conn r.tag)
      (leaves_read port_opening t k d r) (heard (deletions s.tables (deleted_by d.deeds)) r.conn r.tag) false
      (second_told (heard (told_served s k d) r.conn r.tag) (heard (told_ports s k d) r.conn r.tag)
      (heard (told_watch s k d) r.conn r.tag)
      (silent_events r.conn r.tag (none_said told told event_opening port_opening event_or_port t ties.apart es ps
      ties.events ties.ports r i))
      (silent_watch r.conn r.tag (none_keyed told watch_told port_opening watch_opening port_or_watch t ties.apart ps ws
      ties.ports ties.watch r i)))
      (right.port_deleted r i)
      ∙ or_false (port_drop r)

  watch_keys : (r : WatchRead) → IsIn ws r → K r.asker.conn r.asker.tag ≡ watch_drop r
  watch_keys r i =
      let a : Asker = r.asker in
      let h : HasWaiting watch_opening t t.waiting (watch_told r) =
      asker_waits watch_opening t watch_told t.waiting ws ties.watch r i in
      key_is (watch_number r.file) (count_of (open_watch s k d).opened r.file) (ties.watch_own r.file) a
      (in_its_file t t.waiting r h)
      ∙ as_told (heard_served s k d a.conn a.tag) (heard (told_watch s k d) a.conn a.tag)
      (leaves_watch t k d r) (heard (deletions s.tables (deleted_by d.deeds)) a.conn a.tag) false
      (third_told (heard (told_served s k d) a.conn a.tag) (heard (told_ports s k d) a.conn a.tag)
      (heard (told_watch s k d) a.conn a.tag)
      (silent_events a.conn a.tag (none_said told watch_told event_opening watch_opening event_or_watch t ties.apart es
      ws ties.events ties.watch r i))
      (silent_ports a.conn a.tag (none_said told watch_told port_opening watch_opening port_or_watch t ties.apart ps ws
      ties.ports ties.watch r i)))
      (right.watch_deleted r i)
      ∙ or_false (watch_drop r)

  -- the fid of a read that waits on
  stays_on : (w : Waiting) → IsIn (without (by_waiting K) t.waiting) w
      → fid_of (tables_after s k d) w.conn w.fid ≡ fid_of t w.conn w.fid
  stays_on w i =
      let left_in : IsIn t.waiting w × (K w.conn w.tag ≡ false) = in_without (by_waiting K) t.waiting w i in
      let first : ((gone k d.effect w.conn w.tag || heard (said s k d) w.conn w.tag) ≡ false)
      × (cancels k d.events w.conn w.tag ≡ false) =
      or_parts (gone k d.effect w.conn w.tag || heard (said s k d) w.conn w.tag) (cancels k d.events w.conn w.tag)
      left_in.1
      in
      let second : (gone k d.effect w.conn w.tag ≡ false) × (heard (said s k d) w.conn w.tag ≡ false) =
      or_parts (gone k d.effect w.conn w.tag) (heard (said s k d) w.conn w.tag) first.0 in
      let third : heard (clunked s.tables (conn_of k) d.effect) w.conn w.tag ≡ false =
      first_of_all (heard (clunked s.tables (conn_of k) d.effect) w.conn w.tag) (heard (own_said s k d) w.conn w.tag)
      (heard (port_answer s k d) w.conn w.tag) (heard (watch_answer s k d) w.conn w.tag)
      (heard (deletions s.tables (deleted_by d.deeds)) w.conn w.tag) (heard_served s k d w.conn w.tag)
      (sym (heard_said s k d w.conn w.tag) ∙ second.1)
      in
      fid_stays t k d (said s k d) w second.0 (sym (right.clunk w left_in.0) ∙ third)

  pub ties_after : Ties (tables_after s k d) (reads_of (book_after s k d) (ports_after s k d) (watch_after s k d))
      (openings_of (book_after s k d) (ports_after s k d) (watch_after s k d))
  ties_after =
      as_ties (tables_after s k d) (tables_after s k d) (reads_left K (reads_then s k d))
      (reads_of (book_after s k d) (ports_after s k d) (watch_after s k d)) (openings_then s k d)
      (openings_of (book_after s k d) (ports_after s k d) (watch_after s k d)) refl
      (record {
        events = event_reads_left ∙ sym (without_same (by_asker K) event_drop es event_keys);
        ports = port_reads_left ∙ sym (without_same (by_asker K) port_drop ps port_keys);
        watch = watch_reads_left ∙ sym (without_same (by_follower K) watch_drop ws watch_keys);
      })
      (record { owners = owners_left; joined = joined_left; counts = counts_left })
      (ties_without t (tables_after s k d) (reads_then s k d) (openings_then s k d) K
      (ended_tables_without t k d (said s k d)) stays_on (fewer_fids t k d (said s k d)) ties)

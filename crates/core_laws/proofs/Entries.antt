-- An item that was written back was so by one entry, and no other item by the same.
use Rattle.std.proofs.Common.{◌≡◌, ◌≢◌, ◌==◌, ◌⊎◌, inl, inr, ℕ, zero, suc, ◌+◌, ◌≤◌, Bool, true, false, cond, List, []}
use Rattle.std.proofs.Common.{◌∷◌, ◌++◌, length, fold, nat_lt, slice_get, Option, Some, None, refl, sym, ap, subst, ◌∙◌}
use Rattle.std.proofs.Common.{arith}
use Rattle.std.proofs.lemmas.Bool.{false≢true}
use Rattle.std.proofs.lemmas.Bool.Decides.{nat_tests}
use Rattle.fid_table.specs.declared.types.Fid.{Fid}
use Rattle.fid_table.specs.Tables.{Tables, fid_of, fids_of}
use Rattle.win_events.specs.declared.item.Item.{Item}
use Rattle.win_events.specs.declared.item.Life.{Life}
use Rattle.win_events.specs.declared.item.Life.TheVariants.{Pending, Taken, Back, Dropped}
use Rattle.wait_queue.specs.Carry.{OpenCarry, without_opening as without_carry}
use Rattle.wait_queue.specs.WaitState.{piece_of}
use Rattle.wait_queue.specs.declared.types.Asker.{Asker}
use Rattle.wait_queue.specs.declared.types.Asked.{Asked}
use Rattle.wait_queue.specs.declared.types.Asked.TheVariants.{Now, Waits}
use Rattle.event_book.specs.declared.lives.Recorded.{Recorded}
use Rattle.event_book.specs.Lives.{is_back, pends, fresh, take_first, drop_life, with_drop, all_dropped}
use Rattle.event_book.specs.Lives.{written_back as back_in, numbered as numbered_in}
use Rattle.event_book.specs.WindowFiles.{EventFile, queue_of, enlisted, with_item, items_after, given, with_written}
use Rattle.event_book.specs.WindowFiles.{left_with, left, deleted, file_of, with_file}
use Rattle.event_book.specs.BookState.{BookState, window_of, file_on, is_open_window, is_living, is_taken_of}
use Rattle.event_book.specs.BookState.{recorded_of, next_opening, read_waits, asked_of, next_of, after_next, after_add}
use Rattle.event_book.specs.BookState.{after_put, after_answer, after_ask, after_serve, after_written, after_cancel}
use Rattle.event_book.specs.BookState.{after_leave, after_delete}
use Rattle.event_book.specs.Laws.{IsLawful}
use Rattle.event_book.proofs.TableLemmas.{eq_from_test}
use Rattle.event_book.proofs.BookLemmas.{same_window, other_window}
use Rattle.event_book.proofs.LawfulLemmas.{lawful-add, lawful-put_in, lawful-waits, lawful-answer, lawful-serve}
use Rattle.event_book.proofs.LawfulLemmas.{lawful-written_back, lawful-cancel, lawful-leave, lawful-delete}
use Rattle.am_journal.specs.declared.event.Event.{Event}
use Rattle.core_fids.specs.declared.effect.Answer.{Answer}
use Rattle.core_fids.specs.declared.effect.Answer.TheVariants.{Says, Reads, ReadsPort, ReadsWatch}
use Rattle.core_fids.specs.declared.effect.Effect.{Effect}
use Rattle.core_fids.specs.declared.effect.Effect.TheVariants as effect
use Rattle.core_fids.specs.declared.effect.EventChange.{EventChange}
use Rattle.core_fids.specs.declared.effect.EventChange.TheVariants as events
use Rattle.core_scene.specs.declared.deed.WindowItem.{WindowItem}
use Rattle.core_scene.specs.Scenes.{deleted_by}
use Rattle.core_events.specs.Asking.{reads_are_full, opened, book_asked, book_read}
use Rattle.core_events.specs.declared.closing.BackItem.{BackItem}
use Rattle.core_fids.specs.Fids.{event_opening}
use Rattle.core_events.specs.Closing.{written_back, without_opening, without_fid, opening_in, freed, cancelled}
use Rattle.core_events.specs.Closing.{closed_with}
use Rattle.core_events.specs.Putting.{put_one, put_all, is_ending, put_if_lives, put_living, ending}
use Rattle.core_events.specs.Serving.{book_served_most, book_served_all}
use Rattle.core_events.proofs.Idles.{AreIdle}
use Rattle.core_parts.specs.declared.kind.Kind.{Kind}
use Rattle.core_parts.specs.declared.kind.Kind.TheVariants as kind
use Rattle.core_intents.specs.Doings.{doing_of}
use Rattle.core_parts.specs.Doing.{Doing}
use Rattle.core_parts.specs.Kinds.{kind_of}
use Rattle.acme_core.specs.Run.{step, run}
use Rattle.core_steps.specs.Stages.{asker_of, answer_book, message_book, acted, with_fid, grown_tables, read_book}
use Rattle.core_steps.specs.Stages.{put_book, grown_book, book_after}
use Rattle.core_closing.specs.Closing.{left_book}
use Rattle.core_parts.specs.States.{Present, State, present, next_entry}
use Rattle.acme_core.proofs.Goes.{run-push}
use Rattle.acme_core.proofs.Idling.{run_idle}
use Rattle.core_laws.specs.Laws.{IsBackAt, written_by}
use Rattle.core_laws.specs.WriteBacks.{numbered, HasItsEntry, BacksHaveEntries, OneItemAnEntry}
use Rattle.core_laws.proofs.Backs.{named}
use Rattle.am_journal.specs.declared.event.Journal.{Journal}
use Rattle.am_journal.specs.Journal.{longer, journal_in}
use Rattle.core_laws.specs.Fronts.{followed}
use Rattle.core_laws.proofs.Playing.{goes_on, none_more}
use Rattle.am_journal.specs.declared.event.Format.{Format}

-- ---- what is written back after a change was so before

abbrev as_recorded : Item → Life → Recorded
as_recorded item life = record { item = item; life = life }

abbrev WasBack : Option Recorded → Option Recorded → Type 0
WasBack before after = (r : Recorded) → after ≡ Some r → is_back r.life ≡ true → before ≡ Some r

some_is : {A : Type 0} (a b : A) → Some a ≡ Some b → a ≡ b
some_is a b h = cc

not_one : (x r : Recorded) → is_back x.life ≡ false → Some x ≡ Some r → is_back r.life ≡ true → ⊥
not_one x r fresh_one is back = false≢true (sym fresh_one ∙ ap (λ (y : Recorded). is_back y.life) (some_is x r is)
    ∙ back)

same : (o : Option Recorded) → WasBack o o
same o r is back = is

pushed : (new : Item) (es : List Recorded) (k : ℕ) → WasBack (slice_get es k) (slice_get (es ++ fresh new ∷ []) k)
pushed new [] zero r is back = absurd (not_one (fresh new) r refl is back)
pushed new [] (suc k) r is back = is
pushed new (x ∷ es) zero r is back = is
pushed new (x ∷ es) (suc k) r is back = pushed new es k r is back

taken : (o a : ℕ) (es : List Recorded) (k : ℕ) → WasBack (slice_get es k) (slice_get (take_first (Taken o a) es) k)
taken o a [] k = same (slice_get [] k)
taken o a (x ∷ es) zero =
    elim (pends x) as (λ b. WasBack (Some x) (slice_get (cond b (record { item = x.item; life = Taken o a } ∷ es)
    (x ∷ take_first (Taken o a) es)) zero)) [
      | true ↦ λ r is back. absurd (not_one (record { item = x.item; life = Taken o a }) r refl is back)
      | false ↦ same (Some x)
    ]
taken o a (x ∷ es) (suc k) =
    elim (pends x) as (λ b. WasBack (slice_get es k) (slice_get (cond b
    (record { item = x.item; life = Taken o a } ∷ es) (x ∷ take_first (Taken o a) es)) (suc k))) [
      | true ↦ same (slice_get es k)
      | false ↦ taken o a es k
    ]

drop_back : (at : ℕ) (life : Life) → is_back (drop_life at life) ≡ true → drop_life at life ≡ life
drop_back at Pending h = absurd (false≢true h)
drop_back at (Taken o a) h = refl
drop_back at (Back o a b) h = refl
drop_back at (Dropped a) h = refl

dropped_one : (at : ℕ) (x : Recorded) → WasBack (Some x) (Some (with_drop at x))
dropped_one at x r is back =
    let one : with_drop at x ≡ r = some_is (with_drop at x) r is in
    let life : drop_life at x.life ≡ x.life = drop_back at x.life (ap (λ (y : Recorded). is_back y.life) one ∙ back) in
    ap (λ (l : Life). Some (as_recorded x.item l)) (sym life) ∙ is

closed : (at : ℕ) (es : List Recorded) (k : ℕ) → WasBack (slice_get es k) (slice_get (all_dropped at es) k)
closed at [] k = same (slice_get [] k)
closed at (x ∷ es) zero = dropped_one at x
closed at (x ∷ es) (suc k) = closed at es k

by_number : (es es' : List Recorded) → ((k : ℕ) → WasBack (slice_get es k) (slice_get es' k)) → (n : ℕ)
    → WasBack (numbered_in es n) (numbered_in es' n)
by_number es es' h zero = same None
by_number es es' h (suc k) = h k

taken_items : (o a : ℕ) (t : Option ℕ) (es : List Recorded) (n : ℕ)
    → WasBack (numbered_in es n) (numbered_in (items_after t (Taken o a) es) n)
taken_items o a None es n = same (numbered_in es n)
taken_items o a (Some number) es n = by_number es (take_first (Taken o a) es) (taken o a es) n

left_items : (at : ℕ) (cs : List OpenCarry) (f : EventFile) (n : ℕ)
    → WasBack (numbered_in f.items n) (numbered_in (left_with cs at f).items n)
left_items at [] f n = by_number f.items (all_dropped at f.items) (closed at f.items) n
left_items at (c ∷ cs) f n = same (numbered_in f.items n)

-- one window's file changed
with_items : (s : BookState) (w : ℕ) (f : EventFile) → IsLawful s →
    ((n : ℕ) → WasBack (numbered_in (file_of s.files w).items n) (numbered_in f.items n)) → (v n : ℕ)
    → WasBack (numbered_in (file_of s.files v).items n) (numbered_in (file_of (with_file w f s.files) v).items n)
with_items s w f h own v n =
    (elim (v == w) as (λ b. (v == w) ≡ b → WasBack (numbered_in (file_of s.files v).items n)
    (numbered_in (file_of (with_file w f s.files) v).items n)) [
      | true ↦ λ t.
          let e : v ≡ w = eq_from_test v w t in
          subst (λ (x : ℕ). WasBack (numbered_in (file_of s.files x).items n)
          (numbered_in (file_of (with_file w f s.files) x).items n)) (sym e)
          (subst (λ (g : EventFile). WasBack (numbered_in (file_of s.files w).items n) (numbered_in g.items n))
          (sym (same_window 0 w f s.files h.rise)) (own n))
      | false ↦ λ t.
          let other : v ≢ w = grind (arith, nat_tests) in
          subst (λ (g : EventFile). WasBack (numbered_in (file_of s.files v).items n) (numbered_in g.items n))
          (sym (other_window w v f s.files other)) (same (numbered_in (file_of s.files v).items n))
    ]) refl

-- ---- the calls of a book but that which writes back

abbrev From : BookState → BookState → Type 0
From s t = (v n : ℕ) → WasBack (recorded_of s v n) (recorded_of t v n)

answer_from : (s : BookState) (x : Asker) (at : ℕ) → IsLawful s → From s (after_answer s x at)
answer_from s x at h =
    with_items s (window_of s.owners x.opening) (given (file_on s x.opening) x at) h
    (taken_items x.opening at (piece_of (queue_of (file_on s x.opening)) x).taken (file_on s x.opening).items)

ask_from : (s : BookState) (x : Asker) (at : ℕ) → IsLawful s → From s (after_ask s x at)
ask_from s x at h =
    elim (read_waits s x) as (λ b. From s (cond b (record s { reads = s.reads ++ x ∷ []; latest = at })
    (after_answer s x at))) [
      | true ↦ λ v n. same (recorded_of s v n)
      | false ↦ answer_from s x at h
    ]

next_from : (next : Option Asker) (s : BookState) (at : ℕ) → IsLawful s → From s (after_next next s at)
next_from None s at h = λ v n. same (recorded_of s v n)
next_from (Some x) s at h = answer_from s x at h

-- ---- a lawful book up to an entry, in which what is written back was so in the first one

record IsFrom (first : BookState) (at : ℕ) (s : BookState) : Type 0 where
  lawful : IsLawful s
  latest : s.latest ≤ at
  from : From first s

from_first : (at : ℕ) (s : BookState) → IsLawful s → s.latest ≤ at → IsFrom s at s
from_first at s h l = record { lawful = h; latest = l; from = λ v n. same (recorded_of s v n) }

module _ (first : BookState) (at : ℕ) where
  abbrev K : BookState → Type 0
  K s = IsFrom first at s

  on : (s t : BookState) → K s → IsLawful t → t.latest ≤ at → From s t → K t
  on s t k h l m = record { lawful = h; latest = l; from = λ v n r is back. k.from v n r (m v n r is back) back }

  from_opened : (s : BookState) (e : EventChange) → K s → K (opened s e)
  from_opened s events.Nothing k = k
  from_opened s (events.Opens w) k =
      elim (nat_lt (length s.owners) 4294967295) as (λ t. K (cond t (after_add s w) s)) [
        | true ↦ on s (after_add s w) k (lawful-add s w k.lawful) k.latest
            (with_items s w (enlisted (file_of s.files w) (next_opening s)) k.lawful
            (λ n. same (numbered_in (file_of s.files w).items n)))
        | false ↦ k
      ]
  from_opened s (events.Watches file) k = k
  from_opened s (events.Cancels tag) k = k
  from_opened s (events.Joins port) k = k

  from_put : (s : BookState) (i : WindowItem) → K s → K (put_one s i)
  from_put s i k =
      (elim (is_open_window s i.window) as (λ t. is_open_window s i.window ≡ t →
      K (cond t (after_put s i.window i.item) s)) [
        | true ↦ λ e. on s (after_put s i.window i.item) k (lawful-put_in s i.window i.item e k.lawful) k.latest
            (with_items s i.window (with_item (file_of s.files i.window) i.item) k.lawful
            (by_number (file_of s.files i.window).items ((file_of s.files i.window).items ++ fresh i.item ∷ [])
            (pushed i.item (file_of s.files i.window).items)))
        | false ↦ λ e. k
      ]) refl

  from_put_all : (s : BookState) (items : List WindowItem) → K s → K (put_all s items)
  from_put_all s [] k = k
  from_put_all s (i ∷ items) k = from_put_all (put_one s i) items (from_put s i k)

  from_living : (deleted : List ℕ) (s : BookState) (items : List WindowItem) → K s → K (put_living deleted s items)
  from_living deleted s [] k = k
  from_living deleted s (i ∷ items) k =
      from_living deleted (put_if_lives deleted s i) items
      (elim (is_ending deleted i) as (λ t. K (cond t s (put_one s i))) [
        | true ↦ k
        | false ↦ from_put s i k
      ])

  from_ask : (s : BookState) (x : Asker) → is_living s x.opening ≡ true → K s → K (after_ask s x at)
  from_ask s x living k = on s (after_ask s x at) k lawful latest (ask_from s x at k.lawful)
    where
      lawful : IsLawful (after_ask s x at)
      lawful =
          elim (read_waits s x) as (λ t. IsLawful (cond t (record s { reads = s.reads ++ x ∷ []; latest = at })
          (after_answer s x at))) [
            | true ↦ lawful-waits s x at k.latest living k.lawful
            | false ↦ lawful-answer s x at k.latest living k.lawful
          ]

      latest : (after_ask s x at).latest ≤ at
      latest =
          elim (read_waits s x) as (λ t. (cond t (record s { reads = s.reads ++ x ∷ []; latest = at })
          (after_answer s x at)).latest ≤ at) [
            | true ↦ omega arith
            | false ↦ omega arith
          ]

  from_asked : (full : Bool) (asked : Asked) (s : BookState) (x : Asker) → is_living s x.opening ≡ true → K s
      → K (book_asked full asked s x at)
  from_asked full (Now piece) s x living k = from_ask s x living k
  from_asked true Waits s x living k = k
  from_asked false Waits s x living k = from_ask s x living k

  from_read : (t : Tables) (s : BookState) (x : Asker) → K s → K (book_read t s x at)
  from_read t s x k =
      (elim (is_living s x.opening) as (λ l. is_living s x.opening ≡ l →
      K (cond l (book_asked (reads_are_full t x.conn) (asked_of s x) s x at) s)) [
        | true ↦ λ living. from_asked (reads_are_full t x.conn) (asked_of s x) s x living k
        | false ↦ λ dead. k
      ]) refl

  from_answer : (t : Tables) (s : BookState) (conn tag : ℕ) (a : Option Answer) → K s
      → K (answer_book t s conn tag a at)
  from_answer t s conn tag None k = k
  from_answer t s conn tag (Some (Says body)) k = k
  from_answer t s conn tag (Some (Reads fid opening count)) k = from_read t s (asker_of conn tag opening count) k
  from_answer t s conn tag (Some (ReadsPort fid opening count)) k = k
  from_answer t s conn tag (Some (ReadsWatch fid opening count)) k = k

  from_message : (t : Tables) (s : BookState) (m : Kind) (a : Option Answer) → K s → K (message_book t s m a at)
  from_message t s (kind.Dials conn) a k = k
  from_message t s (kind.Asks conn tag) a k = from_answer t s conn tag a k
  from_message t s (kind.Ends conn why) a k = k
  from_message t s (kind.Takes conn) a k = k
  from_message t s kind.Acts a k = k

  next_latest : (o : Option Asker) (s : BookState) → s.latest ≤ at → (after_next o s at).latest ≤ at
  next_latest None s h = h
  next_latest (Some x) s h = omega arith

  from_most : (n : ℕ) (s : BookState) → K s → K (book_served_most n at s)
  unfolding book_served_most
  from_most zero s k = k
  from_most (suc n) s k =
      from_most n (after_serve s at)
      (on s (after_serve s at) k (lawful-serve s at k.latest k.lawful) (next_latest (next_of s) s k.latest)
      (next_from (next_of s) s at k.lawful))

  -- all that a step makes
  from_grown : (p : Present) (m : Kind) (d : Doing) → at ≡ next_entry p → K p.scene.book → K (grown_book p m d)
  from_grown p m d e k =
      let items : List WindowItem = (acted p d).items in
      let read : K (read_book p m d) = subst (λ (n : ℕ). K (message_book (with_fid p m d) p.scene.book m d.answer n)) e
      (from_message (with_fid p m d) p.scene.book m d.answer k) in
      let put : K (put_book p m d) = from_living (deleted_by d.deeds) (opened (read_book p m d) d.events) items
      (from_opened (read_book p m d) d.events read) in
      let served : K (book_served_all (next_entry p) (put_book p m d)) =
      subst (λ (n : ℕ). K (book_served_all n (put_book p m d))) e (from_most (length (put_book p m d).reads)
      (put_book p m d) put)
      in
      from_put_all (book_served_all (next_entry p) (put_book p m d)) (ending (deleted_by d.deeds) items) served

  -- ---- what a step ends

  from_without : (s : BookState) (o : Option ℕ) → K s → K (without_opening at s o)
  from_without s None k = k
  from_without s (Some o) k =
      elim (is_living s o) as (λ t. K (cond t (after_leave s o at) s)) [
        | true ↦ on s (after_leave s o at) k (lawful-leave s o at k.latest k.lawful) (omega arith)
            (with_items s (window_of s.owners o) (left (file_on s o) o at) k.lawful
            (left_items at (without_carry (file_on s o).openings o) (file_on s o)))
        | false ↦ k
      ]

  from_fids : (s : BookState) (fs : List (ℕ × Fid)) → K s → K (fold (without_fid at) s fs)
  from_fids s [] k = k
  from_fids s (f ∷ fs) k = from_fids (without_fid at s f) fs (from_without s (event_opening f.1) k)

  from_freed : (s : BookState) (t : Tables) (conn : ℕ) (e : Effect) → K s → K (freed at s t conn e)
  from_freed s t conn effect.Nothing k = k
  from_freed s t conn (effect.Begins msize) k = from_fids s (fids_of t conn) k
  from_freed s t conn (effect.Puts fid value) k = k
  from_freed s t conn (effect.Frees fid) k = from_without s (opening_in (fid_of t conn fid)) k

  from_cancelled : (s : BookState) (conn : ℕ) (e : EventChange) → K s → K (cancelled s conn e)
  from_cancelled s conn events.Nothing k = k
  from_cancelled s conn (events.Opens w) k = k
  from_cancelled s conn (events.Joins port) k = k
  from_cancelled s conn (events.Watches file) k = k
  from_cancelled s conn (events.Cancels tag) k = on s (after_cancel s conn tag) k (lawful-cancel s conn tag k.lawful)
      k.latest (λ v n. same (recorded_of s v n))

  from_left : (t : Tables) (s : BookState) (m : Kind) (d : Doing) → K s → K (left_book at t m d s)
  from_left t s (kind.Dials conn) d k = k
  from_left t s (kind.Asks conn tag) d k = from_cancelled (freed at s t conn d.effect) conn d.events
      (from_freed s t conn d.effect k)
  from_left t s (kind.Ends conn why) d k = from_fids s (fids_of t conn) k
  from_left t s (kind.Takes conn) d k = k
  from_left t s kind.Acts d k = k

  from_closed : (s : BookState) (ws : List ℕ) → K s → K (closed_with at s ws)
  from_closed s [] k = k
  from_closed s (w ∷ ws) k =
      from_closed (after_delete s w at) ws
      (on s (after_delete s w at) k (lawful-delete s w at k.latest k.lawful) (omega arith)
      (with_items s w (deleted (file_of s.files w) at) k.lawful (by_number (file_of s.files w).items
      (all_dropped at (file_of s.files w).items) (closed at (file_of s.files w).items))))

  from_after : (p : Present) (m : Kind) (d : Doing) → at ≡ next_entry p → K (written_back at (grown_book p m d) d.back)
      → K (book_after p m d)
  from_after p m d e k =
      subst (λ (n : ℕ). K (closed_with n (left_book n (grown_tables p m d) m d
      (written_back n (grown_book p m d) d.back)) (deleted_by d.deeds))) e
      (from_closed (left_book at (grown_tables p m d) m d (written_back at (grown_book p m d) d.back))
      (deleted_by d.deeds)
      (from_left (grown_tables p m d) (written_back at (grown_book p m d) d.back) m d k))

-- ---- the call that writes back

write_at : (at m : ℕ) (es : List Recorded) (k : ℕ) (r : Recorded) → slice_get (back_in at m es) k ≡ Some r
    → (slice_get es k ≡ Some r) ⊎ (suc k ≡ m)
write_at at zero es k r h = inl h
write_at at (suc m) [] k r h = inl h
write_at at (suc zero) (x ∷ es) zero r h = inr refl
write_at at (suc zero) (x ∷ es) (suc k) r h = inl h
write_at at (suc (suc m)) (x ∷ es) zero r h = inl h
write_at at (suc (suc m)) (x ∷ es) (suc k) r h =
    elim (write_at at (suc m) es k r h) [
      | inl l ↦ inl l
      | inr e ↦ inr (ap suc e)
    ]

write_number : (at m : ℕ) (es : List Recorded) (n : ℕ) (r : Recorded) → numbered_in (back_in at m es) n ≡ Some r
    → (numbered_in es n ≡ Some r) ⊎ (n ≡ m)
write_number at m es zero r h = inl h
write_number at m es (suc k) r h = write_at at m es k r h

-- what is recorded after an item is written back was so before, or is that item
abbrev Or : BookState → BackItem → ℕ → ℕ → Recorded → Type 0
Or s b v n r = (recorded_of s v n ≡ Some r) ⊎ (b ≡ numbered v n)

write_window : (s : BookState) (b : BackItem) (at v n : ℕ) (r : Recorded) → IsLawful s
    → recorded_of (after_written s b.window b.number at) v n ≡ Some r → Or s b v n r
write_window s b at v n r h is =
    let f : EventFile = with_written (file_of s.files b.window) b.number at in
    (elim (v == b.window) as (λ t. (v == b.window) ≡ t → Or s b v n r) [
      | true ↦ λ t.
          let e : v ≡ b.window = eq_from_test v b.window t in
          let here : numbered_in (file_of (with_file b.window f s.files) b.window).items n ≡ Some r =
          subst (λ (x : ℕ). numbered_in (file_of (with_file b.window f s.files) x).items n ≡ Some r) e is
          in
          let items : numbered_in f.items n ≡ Some r = subst (λ (g : EventFile). numbered_in g.items n ≡ Some r)
          (same_window 0 b.window f s.files h.rise) here in
          elim (write_number at b.number (file_of s.files b.window).items n r items) [
            | inl l ↦ inl (subst (λ (x : ℕ). recorded_of s x n ≡ Some r) (sym e) l)
            | inr m ↦ inr (ap (λ (x : ℕ). numbered b.window x) (sym m) ∙ ap (λ (x : ℕ). numbered x n) (sym e))
          ]
      | false ↦ λ t.
          let other : v ≢ b.window = grind (arith, nat_tests) in
          inl (subst (λ (g : EventFile). numbered_in g.items n ≡ Some r) (other_window b.window v f s.files other) is)
    ]) refl

abbrev OrAny : BookState → Option BackItem → ℕ → ℕ → Recorded → Type 0
OrAny s o v n r = (recorded_of s v n ≡ Some r) ⊎ (o ≡ Some (numbered v n))

some_or : (s : BookState) (b : BackItem) (v n : ℕ) (r : Recorded) → Or s b v n r → OrAny s (Some b) v n r
some_or s b v n r (inl l) = inl l
some_or s b v n r (inr e) = inr (ap (λ (x : BackItem). Some x) e)

write_from : (s : BookState) (o : Option BackItem) (at v n : ℕ) (r : Recorded) → IsLawful s
    → recorded_of (written_back at s o) v n ≡ Some r → OrAny s o v n r
write_from s None at v n r h is = inl is
write_from s (Some b) at v n r h is =
    (elim (is_taken_of s b.window b.number) as (λ t. recorded_of (cond t (after_written s b.window b.number at) s) v
    n ≡ Some r → OrAny s (Some b) v n r) [
      | true ↦ λ k. some_or s b v n r (write_window s b at v n r h k)
      | false ↦ λ k. inl k
    ]) is

write_lawful : (s : BookState) (o : Option BackItem) (at : ℕ) → IsLawful s → s.latest ≤ at
    → IsFrom (written_back at s o) at (written_back at s o)
write_lawful s None at h l = from_first at s h l
write_lawful s (Some b) at h l =
    elim (is_taken_of s b.window b.number) as (λ t. IsFrom (cond t (after_written s b.window b.number at) s) at
    (cond t (after_written s b.window b.number at) s)) [
      | true ↦ from_first at (after_written s b.window b.number at) (lawful-written_back s b.window b.number at l h)
          (omega arith)
      | false ↦ from_first at s h l
    ]

-- ---- one entry

-- what is written back after an entry was so before it, or the entry wrote it back
grown_or : (s g : BookState) (o : Option BackItem) (v n : ℕ) (r : Recorded) → From s g
    → is_back r.life ≡ true → OrAny g o v n r → OrAny s o v n r
grown_or s g o v n r from back (inl l) = inl (from v n r l back)
grown_or s g o v n r from back (inr e) = inr e

step_or : (s : State) (e : Event) (v n : ℕ) (r : Recorded) → IsLawful s.scene.book → s.scene.book.latest ≤ s.entries
    → recorded_of (step s e).scene.book v n ≡ Some r
    → is_back r.life ≡ true → OrAny s.scene.book (doing_of (present s) e).back v n r
unfolding step
step_or s e v n r lawful latest is back =
    let p : Present = present s in
    let k : Kind = kind_of e in
    let d : Doing = doing_of p e in
    let at : ℕ = s.entries + 1 in
    let g : BookState = grown_book p k d in
    let grown : IsFrom s.scene.book at g = from_grown s.scene.book at p k d refl
    (from_first at s.scene.book lawful (omega (arith, latest))) in
    let written : BookState = written_back at g d.back in
    let last : IsFrom written at (book_after p k d) = from_after written at p k d refl
    (write_lawful g d.back at grown.lawful grown.latest) in
    grown_or s.scene.book g d.back v n r grown.from back (write_from g d.back at v n r grown.lawful
    (last.from v n r is back))

-- ---- every journal

-- one of these entries wrote it back
record IsWritten (before : Journal) (entries : List Event) (v n : ℕ) : Type 0 where
  front : List Event
  entry : Event
  rest : List Event
  is : front ++ entry ∷ rest ≡ entries
  writes : written_by (followed before front) entry ≡ Some (numbered v n)

later_written : (before : Journal) (entries : List Event) (e : Event) (v n : ℕ)
    → IsWritten (longer before e) entries v n
    → IsWritten before (e ∷ entries) v n
later_written before entries e v n w = record {
  front = e ∷ w.front;
  entry = w.entry;
  rest = w.rest;
  is = ap (λ (l : List Event). e ∷ l) w.is;
  writes = subst (λ (l : Journal). written_by l w.entry ≡ Some (numbered v n)) (goes_on before e w.front)
      w.writes;
}

first_written : (before : Journal) (entries : List Event) (e : Event) (v n : ℕ)
    → written_by before e ≡ Some (numbered v n)
    → IsWritten before (e ∷ entries) v n
first_written before entries e v n w = record {
  front = [];
  entry = e;
  rest = entries;
  is = refl;
  writes = subst (λ (l : Journal). written_by l e ≡ Some (numbered v n)) (sym (none_more before)) w;
}

abbrev Comes : Journal → List Event → ℕ → ℕ → Recorded → Type 0
Comes before entries v n r = (recorded_of (run before).scene.book v n ≡ Some r) ⊎ IsWritten before entries v n

one_comes : (before : Journal) (entries : List Event) (e : Event) (v n : ℕ) (r : Recorded)
    → is_back r.life ≡ true → Comes (longer before e) entries v n r → Comes before (e ∷ entries) v n r
one_comes before entries e v n r back (inl l) =
    let idle : AreIdle [] (run before).entries (run before).scene.book = run_idle before in
    elim (step_or (run before) e v n r idle.lawful idle.latest (subst
    (λ (s : State). recorded_of s.scene.book v n ≡ Some r) (run-push before e) l) back) [
      | inl was ↦ inl was
      | inr w ↦ inr (first_written before entries e v n w)
    ]
one_comes before entries e v n r back (inr w) = inr (later_written before entries e v n w)

comes : (before : Journal) (entries : List Event) (v n : ℕ) (r : Recorded)
    → recorded_of (run (followed before entries)).scene.book v
    n ≡ Some r → is_back r.life ≡ true → Comes before entries v n r
comes before [] v n r is back = inl (subst (λ (l : Journal). recorded_of (run l).scene.book v n ≡ Some r)
    (none_more before) is)
comes before (e ∷ entries) v n r is back =
    one_comes before entries e v n r back
    (comes (longer before e) entries v n r (subst (λ (l : Journal). recorded_of (run l).scene.book v n ≡ Some r)
    (sym (goes_on before e entries)) is) back)

none_there : (format : Format) (v n : ℕ) (r : Recorded)
    → recorded_of (run (journal_in format [])).scene.book v n ≡ Some r → ⊥
unfolding run
none_there format v zero r is = cc
none_there format v (suc n) r is = cc

same_back : (o t m p u n : ℕ) → Back o t m ≡ Back p u n → m ≡ n
same_back o t m p u n h = cc

same_entry : (a b : Item) (o t m p u n : ℕ) → Some (as_recorded a (Back o t m)) ≡ Some (as_recorded b (Back p u n))
    → m ≡ n
same_entry a b o t m p u n h = same_back o t m p u n (ap (λ (y : Recorded). y.life)
    (some_is (as_recorded a (Back o t m)) (as_recorded b (Back p u n)) h))

-- the entry is that which the life names
entry_is : (journal : Journal) (v n : ℕ) (item : Item) (opening taken_at at : ℕ)
    → recorded_of (run journal).scene.book v n ≡ Some (record { item = item; life = Back opening taken_at at })
    → IsWritten (journal_in journal.format []) journal.events v n → HasItsEntry journal v n at
entry_is journal v n item opening taken_at at is w =
    let before : Journal = journal_in journal.format w.front in
    let whole : followed before (w.entry ∷ w.rest) ≡ journal = ap (journal_in journal.format) w.is in
    let back : IsBackAt (run (followed before (w.entry ∷ w.rest))).scene.book (numbered v n) (length w.front + 1) =
    named before w.rest w.entry (numbered v n) w.writes in
    let here : IsBackAt (run journal).scene.book (numbered v n) (length w.front + 1) =
    subst (λ (l : Journal). IsBackAt (run l).scene.book (numbered v n) (length w.front + 1)) whole back
    in
    let number : length w.front + 1 ≡ at = same_entry here.item item here.opening here.taken (length w.front + 1)
    opening taken_at at (sym here.is ∙ is) in
    record { before = before; entry = w.entry; behind = w.rest; is = whole; number = number; writes = w.writes }

entry_of : (journal : Journal) (v n : ℕ) (item : Item) (opening taken_at at : ℕ)
    → recorded_of (run journal).scene.book v n ≡ Some (record { item = item; life = Back opening taken_at at })
    → Comes (journal_in journal.format []) journal.events v n (record { item = item; life = Back opening taken_at at })
    → HasItsEntry journal v n at
entry_of journal v n item opening taken_at at is (inl l) = absurd (none_there journal.format v n
    (record { item = item; life = Back opening taken_at at }) l)
entry_of journal v n item opening taken_at at is (inr w) = entry_is journal v n item opening taken_at at is w

pub have_entries : (journal : Journal) → BacksHaveEntries journal
have_entries journal v n item opening taken_at at is =
    entry_of journal v n item opening taken_at at is (comes (journal_in journal.format []) journal.events v n
    (record { item = item; life = Back opening taken_at at }) is refl)

-- ---- one item an entry

same_place : (xs ys : List Event) (a b : Event) (us vs : List Event) → length xs ≡ length ys
    → xs ++ a ∷ us ≡ ys ++ b ∷ vs → (xs ≡ ys) × (a ≡ b)
same_place [] [] a b us vs long is = let head : a ≡ b = cc in (refl, head)
same_place [] (y ∷ ys) a b us vs long is = absurd (omega (arith, long))
same_place (x ∷ xs) [] a b us vs long is = absurd (omega (arith, long))
same_place (x ∷ xs) (y ∷ ys) a b us vs long is =
    let head : x ≡ y = cc in
    let tail : xs ++ a ∷ us ≡ ys ++ b ∷ vs = cc in
    let rest : (xs ≡ ys) × (a ≡ b) = same_place xs ys a b us vs (omega (arith, long)) tail in
    (ap (λ (z : Event). z ∷ xs) head ∙ ap (λ (l : List Event). y ∷ l) rest.0, rest.1)

-- journals of one format with the same events
same_journal : (a b : Journal) → a.format ≡ b.format → a.events ≡ b.events → a ≡ b
same_journal a b format events = ap (λ (f : Format). journal_in f a.events) format ∙ ap (journal_in b.format) events

one_each : (journal : Journal) (v n w m at : ℕ) → HasItsEntry journal v n at → HasItsEntry journal w m at
    → numbered v n ≡ numbered w m
one_each journal v n w m at a b =
    let long : length a.before.events ≡ length b.before.events =
    (let x = a.number in let y = b.number in omega (arith, x, y)) in
    let whole : followed a.before (a.entry ∷ a.behind) ≡ followed b.before (b.entry ∷ b.behind) = a.is ∙ sym b.is in
    let place : (a.before.events ≡ b.before.events) × (a.entry ≡ b.entry) =
    same_place a.before.events b.before.events a.entry b.entry a.behind b.behind long
    (ap (λ (l : Journal). l.events) whole)
    in
    let front : a.before ≡ b.before = same_journal a.before b.before (ap (λ (l : Journal). l.format) whole) place.0 in
    let moved : written_by b.before b.entry ≡ Some (numbered v n) =
    subst (λ (e : Event). written_by b.before e ≡ Some (numbered v n)) place.1
    (subst (λ (l : Journal). written_by l a.entry ≡ Some (numbered v n)) front a.writes)
    in
    some_is (numbered v n) (numbered w m) (sym moved ∙ b.writes)

pub one_item : (journal : Journal) → OneItemAnEntry journal
one_item journal v n w m item other opening by taken_at took_at at first second =
    one_each journal v n w m at (have_entries journal v n item opening taken_at at first)
    (have_entries journal w m other by took_at at second)

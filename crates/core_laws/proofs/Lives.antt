-- Items that are settled stay so while a step makes what it makes, and items that ended through the whole step.
use Rattle.std.proofs.Common.{◌≡◌, ◌≢◌, ◌==◌, ℕ, zero, suc, ◌≤◌, Bool, true, false, not, cond, List, [], ◌∷◌, ◌++◌}
use Rattle.std.proofs.Common.{length, fold, nat_lt, slice_get, Option, Some, None, refl, sym, subst, arith}
use Rattle.std.proofs.lemmas.Bool.Decides.{nat_tests}
use Rattle.fid_table.specs.declared.types.Fid.{Fid}
use Rattle.fid_table.specs.Tables.{Tables, fid_of, fids_of}
use Rattle.win_events.specs.declared.item.Item.{Item}
use Rattle.win_events.specs.declared.item.Life.{Life}
use Rattle.win_events.specs.declared.item.Life.TheVariants.{Pending, Taken, Back, Dropped}
use Rattle.wait_queue.specs.WaitState.{piece_of}
use Rattle.wait_queue.specs.declared.types.Asker.{Asker}
use Rattle.wait_queue.specs.declared.types.Asked.{Asked}
use Rattle.wait_queue.specs.declared.types.Asked.TheVariants.{Now, Waits}
use Rattle.event_book.specs.declared.lives.Recorded.{Recorded}
use Rattle.event_book.specs.Lives.{is_pending, pends, fresh, take_first, numbered}
use Rattle.event_book.specs.WindowFiles.{EventFile, queue_of, enlisted, with_item, items_after, given, file_of}
use Rattle.event_book.specs.WindowFiles.{with_file}
use Rattle.event_book.specs.BookState.{BookState, window_of, file_on, is_open_window, is_living, is_taken_of}
use Rattle.event_book.specs.BookState.{recorded_of, next_opening, read_waits, asked_of, next_of, after_next, after_add}
use Rattle.event_book.specs.BookState.{after_put, after_answer, after_ask, after_serve, after_written, after_cancel}
use Rattle.event_book.specs.BookState.{after_leave, after_delete}
use Rattle.event_book.specs.Laws.{IsLawful, is_ended, KeepsEnded}
use Rattle.event_book.proofs.TableLemmas.{eq_from_test}
use Rattle.event_book.proofs.BookLemmas.{same_window, other_window}
use Rattle.event_book.proofs.LawfulLemmas.{lawful-add, lawful-put_in, lawful-waits, lawful-answer, lawful-serve}
use Rattle.event_book.proofs.LawfulLemmas.{lawful-written_back, lawful-cancel, lawful-leave, lawful-delete}
use Rattle.event_book.proofs.LifeLemmas.{ended_stays}
use Rattle.core_fids.specs.declared.effect.Answer.{Answer}
use Rattle.core_fids.specs.declared.effect.Answer.TheVariants.{Says, Reads, ReadsPort, ReadsWatch}
use Rattle.core_fids.specs.declared.effect.Effect.{Effect}
use Rattle.core_fids.specs.declared.effect.Effect.TheVariants as effect
use Rattle.core_fids.specs.declared.effect.EventChange.{EventChange}
use Rattle.core_fids.specs.declared.effect.EventChange.TheVariants as events
use Rattle.core_scene.specs.declared.deed.WindowItem.{WindowItem}
use Rattle.core_scene.specs.Scenes.{deleted_by}
use Rattle.core_events.specs.Asking.{reads_are_full, opened, book_asked, book_read}
use Rattle.core_events.specs.declared.closing.BackItem.{BackItem}
use Rattle.core_fids.specs.Fids.{event_opening}
use Rattle.core_events.specs.Closing.{written_back, without_opening, without_fid, opening_in, freed, cancelled}
use Rattle.core_events.specs.Closing.{closed_with}
use Rattle.core_events.specs.Putting.{put_one, put_all, is_ending, put_if_lives, put_living, ending}
use Rattle.core_events.specs.Serving.{book_served_most, book_served_all}
use Rattle.core_parts.specs.declared.kind.Kind.{Kind}
use Rattle.core_parts.specs.declared.kind.Kind.TheVariants as kind
use Rattle.core_parts.specs.Doing.{Doing}
use Rattle.core_steps.specs.Stages.{asker_of, answer_book, message_book, acted, with_fid, grown_tables, read_book}
use Rattle.core_steps.specs.Stages.{put_book, grown_book, book_after}
use Rattle.core_closing.specs.Closing.{left_book}
use Rattle.core_parts.specs.States.{Present, next_entry}

-- ---- items of such a life stay as they are

abbrev pub Stays : (Life → Bool) → Option Recorded → Option Recorded → Type 0
Stays Q before after = (e : Recorded) → before ≡ Some e → Q e.life ≡ true → after ≡ Some e

abbrev pub Keeps : (Life → Bool) → BookState → BookState → Type 0
Keeps Q s t = (v n : ℕ) → Stays Q (recorded_of s v n) (recorded_of t v n)

-- what a step makes of the event files
pub record GrowthKeeps (Q : Life → Bool) (s : BookState) : Type 0 where
  pub add : (w : ℕ) → Keeps Q s (after_add s w)
  pub put : (w : ℕ) (item : Item) → Keeps Q s (after_put s w item)
  pub ask : (r : Asker) (at : ℕ) → Keeps Q s (after_ask s r at)
  pub serve : (at : ℕ) → Keeps Q s (after_serve s at)

abbrev pub AllKeep : (Life → Bool) → Type 0
AllKeep Q = (s : BookState) → IsLawful s → GrowthKeeps Q s

pub ended_keep : AllKeep is_ended
ended_keep s h = let all = ended_stays s h in record { add = all.add; put = all.put; ask = all.ask; serve = all.serve }

-- ---- settled items: taken, written back or dropped

abbrev pub is_settled : Life → Bool
is_settled life = not (is_pending life)

abbrev Same : Option Recorded → Option Recorded → Type 0
Same before after = Stays is_settled before after

same : (o : Option Recorded) → Same o o
same o e is settled = is

not_pending : (life : Life) → is_pending life ≡ true → is_settled life ≡ true → ⊥
not_pending Pending p t = absurd cc
not_pending (Taken o a) p t = absurd cc
not_pending (Back o a b) p t = absurd cc
not_pending (Dropped a) p t = absurd cc

some_same : {A : Type 0} (a b : A) → Some a ≡ Some b → a ≡ b
some_same a b h = cc

pushed : (new : Item) (es : List Recorded) (k : ℕ) → Same (slice_get es k) (slice_get (es ++ fresh new ∷ []) k)
pushed new [] zero e is t = absurd cc
pushed new [] (suc k) e is t = is
pushed new (x ∷ es) zero e is t = is
pushed new (x ∷ es) (suc k) e is t = pushed new es k e is t

taken : (life : Life) (es : List Recorded) (k : ℕ) → Same (slice_get es k) (slice_get (take_first life es) k)
taken life [] k = same (slice_get [] k)
taken life (x ∷ es) zero =
    (elim (pends x) as (λ b. pends x ≡ b → Same (Some x) (slice_get
    (cond b (record { item = x.item; life = life } ∷ es) (x ∷ take_first life es)) zero)) [
      | true ↦ λ p e is t. absurd (not_pending e.life (subst (λ (r : Recorded). pends r ≡ true) (some_same x e is) p) t)
      | false ↦ λ p. same (Some x)
    ]) refl
taken life (x ∷ es) (suc k) =
    elim (pends x) as (λ b. Same (slice_get es k) (slice_get (cond b (record { item = x.item; life = life } ∷ es)
    (x ∷ take_first life es)) (suc k))) [
      | true ↦ same (slice_get es k)
      | false ↦ taken life es k
    ]

by_number : (es es' : List Recorded) → ((k : ℕ) → Same (slice_get es k) (slice_get es' k)) → (n : ℕ)
    → Same (numbered es n) (numbered es' n)
by_number es es' h zero = same None
by_number es es' h (suc k) = h k

taken_items : (life : Life) (o : Option ℕ) (es : List Recorded) (n : ℕ)
    → Same (numbered es n) (numbered (items_after o life es) n)
taken_items life None es n = same (numbered es n)
taken_items life (Some number) es n = by_number es (take_first life es) (taken life es) n

-- one window's file changed
with_items : (s : BookState) (w : ℕ) (f : EventFile) → IsLawful s →
    ((n : ℕ) → Same (numbered (file_of s.files w).items n) (numbered f.items n)) → (v n : ℕ)
    → Same (numbered (file_of s.files v).items n) (numbered (file_of (with_file w f s.files) v).items n)
with_items s w f h own v n =
    (elim (v == w) as (λ b. (v == w) ≡ b → Same (numbered (file_of s.files v).items n)
    (numbered (file_of (with_file w f s.files) v).items n)) [
      | true ↦ λ t.
          let e : v ≡ w = eq_from_test v w t in
          subst (λ (x : ℕ). Same (numbered (file_of s.files x).items n)
          (numbered (file_of (with_file w f s.files) x).items n)) (sym e)
          (subst (λ (g : EventFile). Same (numbered (file_of s.files w).items n) (numbered g.items n))
          (sym (same_window 0 w f s.files h.rise)) (own n))
      | false ↦ λ t.
          let other : v ≢ w = grind (arith, nat_tests) in
          subst (λ (g : EventFile). Same (numbered (file_of s.files v).items n) (numbered g.items n))
          (sym (other_window w v f s.files other)) (same (numbered (file_of s.files v).items n))
    ]) refl

answer_keeps : (s : BookState) (r : Asker) (at : ℕ) → IsLawful s → Keeps is_settled s (after_answer s r at)
answer_keeps s r at h =
    with_items s (window_of s.owners r.opening) (given (file_on s r.opening) r at) h
    (taken_items (Taken r.opening at) (piece_of (queue_of (file_on s r.opening)) r).taken (file_on s r.opening).items)

ask_keeps : (s : BookState) (r : Asker) (at : ℕ) → IsLawful s → Keeps is_settled s (after_ask s r at)
ask_keeps s r at h =
    elim (read_waits s r) as (λ b. Keeps is_settled s (cond b (record s { reads = s.reads ++ r ∷ []; latest = at })
    (after_answer s r at))) [
      | true ↦ λ v n. same (recorded_of s v n)
      | false ↦ answer_keeps s r at h
    ]

next_keeps : (next : Option Asker) (s : BookState) (at : ℕ) → IsLawful s → Keeps is_settled s (after_next next s at)
next_keeps None s at h = λ v n. same (recorded_of s v n)
next_keeps (Some r) s at h = answer_keeps s r at h

pub settled_keep : AllKeep is_settled
settled_keep s h = record {
  add = λ w. with_items s w (enlisted (file_of s.files w) (next_opening s)) h
      (λ n. same (numbered (file_of s.files w).items n));
  put = λ w item. with_items s w (with_item (file_of s.files w) item) h
      (by_number (file_of s.files w).items ((file_of s.files w).items ++ fresh item ∷ [])
      (pushed item (file_of s.files w).items));
  ask = λ r at. ask_keeps s r at h;
  serve = λ at. next_keeps (next_of s) s at h;
}

-- ---- a lawful book up to an entry, in which such items are as in the first one

pub record IsKeptTo (Q : Life → Bool) (first : BookState) (at : ℕ) (s : BookState) : Type 0 where
  pub lawful : IsLawful s
  pub latest : s.latest ≤ at
  pub keeps : Keeps Q first s

pub kept_first : (Q : Life → Bool) (at : ℕ) (s : BookState) → IsLawful s → s.latest ≤ at → IsKeptTo Q s at s
kept_first Q at s h l = record { lawful = h; latest = l; keeps = λ v n e is t. is }

module _ (Q : Life → Bool) (all : AllKeep Q) (first : BookState) (at : ℕ) where
  abbrev K : BookState → Type 0
  K s = IsKeptTo Q first at s

  on : (s t : BookState) → K s → IsLawful t → t.latest ≤ at → Keeps Q s t → K t
  on s t k h l m = record { lawful = h; latest = l; keeps = λ v n e is q. m v n e (k.keeps v n e is q) q }

  keep_add : (s : BookState) (w : ℕ) → K s → K (after_add s w)
  keep_add s w k = on s (after_add s w) k (lawful-add s w k.lawful) k.latest ((all s k.lawful).add w)

  keep_opened : (s : BookState) (e : EventChange) → K s → K (opened s e)
  keep_opened s events.Nothing k = k
  keep_opened s (events.Opens w) k =
      elim (nat_lt (length s.owners) 4294967295) as (λ t. K (cond t (after_add s w) s)) [
        | true ↦ keep_add s w k
        | false ↦ k
      ]
  keep_opened s (events.Watches file) k = k
  keep_opened s (events.Cancels tag) k = k
  keep_opened s (events.Joins port) k = k

  keep_put : (s : BookState) (i : WindowItem) → K s → K (put_one s i)
  keep_put s i k =
      (elim (is_open_window s i.window) as (λ t. is_open_window s i.window ≡ t →
      K (cond t (after_put s i.window i.item) s)) [
        | true ↦ λ e. on s (after_put s i.window i.item) k (lawful-put_in s i.window i.item e k.lawful) k.latest
            ((all s k.lawful).put i.window i.item)
        | false ↦ λ e. k
      ]) refl

  keep_put_all : (s : BookState) (items : List WindowItem) → K s → K (put_all s items)
  keep_put_all s [] k = k
  keep_put_all s (i ∷ items) k = keep_put_all (put_one s i) items (keep_put s i k)

  keep_living : (deleted : List ℕ) (s : BookState) (items : List WindowItem) → K s → K (put_living deleted s items)
  keep_living deleted s [] k = k
  keep_living deleted s (i ∷ items) k =
      keep_living deleted (put_if_lives deleted s i) items
      (elim (is_ending deleted i) as (λ t. K (cond t s (put_one s i))) [
        | true ↦ k
        | false ↦ keep_put s i k
      ])

  keep_ask : (s : BookState) (r : Asker) → is_living s r.opening ≡ true → K s → K (after_ask s r at)
  keep_ask s r living k = on s (after_ask s r at) k lawful latest ((all s k.lawful).ask r at)
    where
      lawful : IsLawful (after_ask s r at)
      lawful =
          elim (read_waits s r) as (λ t. IsLawful (cond t (record s { reads = s.reads ++ r ∷ []; latest = at })
          (after_answer s r at))) [
            | true ↦ lawful-waits s r at k.latest living k.lawful
            | false ↦ lawful-answer s r at k.latest living k.lawful
          ]

      latest : (after_ask s r at).latest ≤ at
      latest =
          elim (read_waits s r) as (λ t. (cond t (record s { reads = s.reads ++ r ∷ []; latest = at })
          (after_answer s r at)).latest ≤ at) [
            | true ↦ omega arith
            | false ↦ omega arith
          ]

  keep_asked : (full : Bool) (asked : Asked) (s : BookState) (r : Asker) → is_living s r.opening ≡ true → K s
      → K (book_asked full asked s r at)
  keep_asked full (Now piece) s r living k = keep_ask s r living k
  keep_asked true Waits s r living k = k
  keep_asked false Waits s r living k = keep_ask s r living k

  keep_read : (t : Tables) (s : BookState) (r : Asker) → K s → K (book_read t s r at)
  keep_read t s r k =
      (elim (is_living s r.opening) as (λ l. is_living s r.opening ≡ l →
      K (cond l (book_asked (reads_are_full t r.conn) (asked_of s r) s r at) s)) [
        | true ↦ λ living. keep_asked (reads_are_full t r.conn) (asked_of s r) s r living k
        | false ↦ λ dead. k
      ]) refl

  keep_answer : (t : Tables) (s : BookState) (conn tag : ℕ) (a : Option Answer) → K s
      → K (answer_book t s conn tag a at)
  keep_answer t s conn tag None k = k
  keep_answer t s conn tag (Some (Says body)) k = k
  keep_answer t s conn tag (Some (Reads fid opening count)) k = keep_read t s (asker_of conn tag opening count) k
  keep_answer t s conn tag (Some (ReadsPort fid opening count)) k = k
  keep_answer t s conn tag (Some (ReadsWatch fid opening count)) k = k

  keep_message : (t : Tables) (s : BookState) (m : Kind) (a : Option Answer) → K s → K (message_book t s m a at)
  keep_message t s (kind.Dials conn) a k = k
  keep_message t s (kind.Asks conn tag) a k = keep_answer t s conn tag a k
  keep_message t s (kind.Ends conn why) a k = k
  keep_message t s (kind.Takes conn) a k = k
  keep_message t s kind.Acts a k = k

  next_latest : (o : Option Asker) (s : BookState) → s.latest ≤ at → (after_next o s at).latest ≤ at
  next_latest None s h = h
  next_latest (Some r) s h = omega arith

  keep_serve : (s : BookState) → K s → K (after_serve s at)
  keep_serve s k = on s (after_serve s at) k (lawful-serve s at k.latest k.lawful) (next_latest (next_of s) s k.latest)
      ((all s k.lawful).serve at)

  keep_most : (n : ℕ) (s : BookState) → K s → K (book_served_most n at s)
  unfolding book_served_most
  keep_most zero s k = k
  keep_most (suc n) s k = keep_most n (after_serve s at) (keep_serve s k)

  -- all that a step makes
  pub keep_grown : (p : Present) (m : Kind) (d : Doing) → at ≡ next_entry p → K p.scene.book → K (grown_book p m d)
  keep_grown p m d e k =
      let items : List WindowItem = (acted p d).items in
      let read : K (read_book p m d) = subst (λ (n : ℕ). K (message_book (with_fid p m d) p.scene.book m d.answer n)) e
      (keep_message (with_fid p m d) p.scene.book m d.answer k) in
      let put : K (put_book p m d) = keep_living (deleted_by d.deeds) (opened (read_book p m d) d.events) items
      (keep_opened (read_book p m d) d.events read) in
      let served : K (book_served_all (next_entry p) (put_book p m d)) =
      subst (λ (n : ℕ). K (book_served_all n (put_book p m d))) e (keep_most (length (put_book p m d).reads)
      (put_book p m d) put)
      in
      keep_put_all (book_served_all (next_entry p) (put_book p m d)) (ending (deleted_by d.deeds) items) served

-- ---- what a step ends leaves what ended

module _ (first : BookState) (at : ℕ) where
  abbrev E : BookState → Type 0
  E s = IsKeptTo is_ended first at s

  end_on : (s t : BookState) → E s → IsLawful t → t.latest ≤ at → KeepsEnded s t → E t
  end_on s t k h l m = record { lawful = h; latest = l; keeps = λ v n e is q. m v n e (k.keeps v n e is q) q }

  pub end_written : (s : BookState) (o : Option BackItem) → E s → E (written_back at s o)
  end_written s None k = k
  end_written s (Some b) k =
      elim (is_taken_of s b.window b.number) as (λ t. E (cond t (after_written s b.window b.number at) s)) [
        | true ↦ end_on s (after_written s b.window b.number at) k
            (lawful-written_back s b.window b.number at k.latest k.lawful) (omega arith)
            ((ended_stays s k.lawful).written b.window b.number at)
        | false ↦ k
      ]

  end_without : (s : BookState) (o : Option ℕ) → E s → E (without_opening at s o)
  end_without s None k = k
  end_without s (Some o) k =
      elim (is_living s o) as (λ t. E (cond t (after_leave s o at) s)) [
        | true ↦ end_on s (after_leave s o at) k (lawful-leave s o at k.latest k.lawful) (omega arith)
            ((ended_stays s k.lawful).leave o at)
        | false ↦ k
      ]

  end_fids : (s : BookState) (fs : List (ℕ × Fid)) → E s → E (fold (without_fid at) s fs)
  end_fids s [] k = k
  end_fids s (f ∷ fs) k = end_fids (without_fid at s f) fs (end_without s (event_opening f.1) k)

  end_freed : (s : BookState) (t : Tables) (conn : ℕ) (e : Effect) → E s → E (freed at s t conn e)
  end_freed s t conn effect.Nothing k = k
  end_freed s t conn (effect.Begins msize) k = end_fids s (fids_of t conn) k
  end_freed s t conn (effect.Puts fid value) k = k
  end_freed s t conn (effect.Frees fid) k = end_without s (opening_in (fid_of t conn fid)) k

  end_cancelled : (s : BookState) (conn : ℕ) (e : EventChange) → E s → E (cancelled s conn e)
  end_cancelled s conn events.Nothing k = k
  end_cancelled s conn (events.Opens w) k = k
  end_cancelled s conn (events.Joins port) k = k
  end_cancelled s conn (events.Watches file) k = k
  end_cancelled s conn (events.Cancels tag) k = end_on s (after_cancel s conn tag) k (lawful-cancel s conn tag k.lawful)
      k.latest ((ended_stays s k.lawful).cancel conn tag)

  end_left : (t : Tables) (s : BookState) (m : Kind) (d : Doing) → E s → E (left_book at t m d s)
  end_left t s (kind.Dials conn) d k = k
  end_left t s (kind.Asks conn tag) d k = end_cancelled (freed at s t conn d.effect) conn d.events
      (end_freed s t conn d.effect k)
  end_left t s (kind.Ends conn why) d k = end_fids s (fids_of t conn) k
  end_left t s (kind.Takes conn) d k = k
  end_left t s kind.Acts d k = k

  end_closed : (s : BookState) (ws : List ℕ) → E s → E (closed_with at s ws)
  end_closed s [] k = k
  end_closed s (w ∷ ws) k =
      end_closed (after_delete s w at) ws (end_on s (after_delete s w at) k (lawful-delete s w at k.latest k.lawful)
      (omega arith) ((ended_stays s k.lawful).delete w at))

  -- all that a step ends
  pub end_after : (p : Present) (m : Kind) (d : Doing) → at ≡ next_entry p
      → E (written_back at (grown_book p m d) d.back) → E (book_after p m d)
  end_after p m d e k =
      subst (λ (n : ℕ). E (closed_with n (left_book n (grown_tables p m d) m d
      (written_back n (grown_book p m d) d.back)) (deleted_by d.deeds))) e
      (end_closed (left_book at (grown_tables p m d) m d (written_back at (grown_book p m d) d.back))
      (deleted_by d.deeds)
      (end_left (grown_tables p m d) (written_back at (grown_book p m d) d.back) m d k))

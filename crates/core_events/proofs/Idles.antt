-- Waiting reads that can't be answered, call by call.
use Rattle.std.proofs.Common.{◌≡◌, ◌≢◌, ℕ, zero, suc, ◌+◌, ◌≤◌, ◌<◌, ◌==◌, ◌&&◌, ◌||◌, Bool, true, false, not, cond}
use Rattle.std.proofs.Common.{List, [], ◌∷◌, ◌++◌, length, find, fold, nat_lt, Option, Some, None, option_map, refl}
use Rattle.std.proofs.Common.{sym, ap, subst, ◌∙◌, arith}
use Rattle.std.specs.List.{list_all, list_any, filter}
use Rattle.std.proofs.lemmas.Bool.Decides.{nat_tests}
use Rattle.fid_table.specs.declared.types.Fid.{Fid}
use Rattle.fid_table.specs.Tables.{Tables, fids_of, fid_of}
use Rattle.wait_queue.specs.Carry.{OpenCarry, carry_of, without_opening}
use Rattle.wait_queue.specs.Reads.{is_on, is_read, without_first}
use Rattle.wait_queue.specs.WaitState.{WaitState, must_wait, piece_from, piece_of, after_from, after_piece}
use Rattle.wait_queue.specs.declared.pending.Pending.{Pending}
use Rattle.wait_queue.specs.declared.types.Asker.{Asker}
use Rattle.wait_queue.specs.declared.types.Piece.{Piece}
use Rattle.wait_queue.specs.declared.types.Asked.{Asked}
use Rattle.wait_queue.specs.declared.types.Asked.TheVariants.{Now, Waits}
use Rattle.wait_queue.proofs.LawLemmas.{leaves}
use Rattle.win_events.specs.declared.item.Life.TheVariants.{Taken}
use Rattle.event_book.specs.declared.lives.Recorded.{Recorded}
use Rattle.event_book.specs.Lives.{all_dropped, pending_from}
use Rattle.event_book.specs.WindowFiles.{EventFile, WindowFile, queue_of, items_after, enlisted, given, with_written}
use Rattle.event_book.specs.WindowFiles.{left_with, left, deleted, with_item, file_of, with_file}
use Rattle.event_book.specs.BookState.{BookState, empty_book, window_of, file_on, is_living, is_open_window, is_ready}
use Rattle.event_book.specs.BookState.{next_of, served_of, after_next, after_add, after_put, read_waits, asked_of}
use Rattle.event_book.specs.BookState.{piece_for, after_answer, after_ask, after_serve, is_taken_of, after_written}
use Rattle.event_book.specs.BookState.{after_cancel, after_leave, after_delete, is_on_window}
use Rattle.event_book.specs.Laws.{WindowsRise, IsLawful}
use Rattle.event_book.proofs.TableLemmas.{eq_from_test}
use Rattle.event_book.proofs.FileLemmas.{pending-dropped, pending-written}
use Rattle.event_book.proofs.BookLemmas.{same_window, other_window, carry-enlisted, carry-without}
use Rattle.event_book.proofs.LawfulLemmas.{lawful-empty, window-more, lawful-add, lawful-put_in, lawful-waits}
use Rattle.event_book.proofs.LawfulLemmas.{lawful-answer, lawful-serve, lawful-written_back, lawful-cancel}
use Rattle.event_book.proofs.LawfulLemmas.{lawful-leave, lawful-delete}
use Rattle.core_fids.specs.Fids.{event_opening}
use Rattle.core_fids.specs.declared.effect.Effect.{Effect}
use Rattle.core_fids.specs.declared.effect.Effect.TheVariants as effect
use Rattle.core_fids.specs.declared.effect.EventChange.{EventChange}
use Rattle.core_fids.specs.declared.effect.EventChange.TheVariants as events
use Rattle.core_scene.specs.declared.deed.WindowItem.{WindowItem}
use Rattle.core_events.specs.Asking.{opened, reads_are_full, book_asked, book_read}
use Rattle.core_events.specs.declared.closing.BackItem.{BackItem}
use Rattle.core_events.specs.Closing.{written_back, without_opening as without_owned, without_fid, without_fids}
use Rattle.core_events.specs.Closing.{opening_in, freed, cancelled, closed_with}
use Rattle.core_events.specs.Putting.{put_one, put_all, is_among, is_ending, put_if_lives, put_living, ending}
use Rattle.core_events.specs.Serving.{book_served_most, book_served_all}
use Rattle.core_events.specs.Sound.{IsIdle}
use Rattle.core_events.proofs.Turns.{idle, book_none_more, next_less}

-- ---- reads, and files

-- the read can't be answered, unless its window is one of these
abbrev pub idles : List ℕ → List WindowFile → List ℕ → Asker → Bool
idles deleted files owners r = is_among (window_of owners r.opening) deleted
    || must_wait (queue_of (file_of files (window_of owners r.opening))) r

-- a lawful book up to an entry, none of whose waiting reads can be answered but those of these windows
pub record AreIdle (deleted : List ℕ) (at : ℕ) (s : BookState) : Type 0 where
  pub lawful : IsLawful s
  pub latest : s.latest ≤ at
  pub idle : list_all (idles deleted s.files s.owners) s.reads ≡ true

pub all_weaker : (p q u : Asker → Bool) (rs : List Asker) → ((r : Asker) → p r ≡ true → q r ≡ true → u r ≡ true)
    → list_all p rs ≡ true → list_all q rs ≡ true → list_all u rs ≡ true
all_weaker p q u [] h a b = refl
all_weaker p q u (r ∷ rs) h a b =
    (elim (p r) as (λ t. p r ≡ t → (t && list_all p rs) ≡ true → (u r && list_all u rs) ≡ true) [
      | true ↦ λ e k.
          (elim (q r) as (λ t. q r ≡ t → (t && list_all q rs) ≡ true → (u r && list_all u rs) ≡ true) [
            | true ↦ λ f l. rw (h r e f) (all_weaker p q u rs h k l)
            | false ↦ λ f l. cc
          ]) refl b
      | false ↦ λ e k. cc
    ]) refl a

pub all_filter : (p u t : Asker → Bool) (rs : List Asker) → ((r : Asker) → t r ≡ true → p r ≡ true → u r ≡ true)
    → list_all p rs ≡ true → list_all u (filter t rs) ≡ true
all_filter p u t [] h a = refl
all_filter p u t (r ∷ rs) h a =
    (elim (p r) as (λ b. p r ≡ b → (b && list_all p rs) ≡ true → list_all u (filter t (r ∷ rs)) ≡ true) [
      | true ↦ λ e k.
          (elim (t r) as (λ c. t r ≡ c → list_all u (cond c (r ∷ filter t rs) (filter t rs)) ≡ true) [
            | true ↦ λ w. rw (h r w e) (all_filter p u t rs h k)
            | false ↦ λ w. all_filter p u t rs h k
          ]) refl
      | false ↦ λ e k. cc
    ]) refl a

pub all_push : (p : Asker → Bool) (rs : List Asker) (r : Asker) → p r ≡ true → list_all p rs ≡ true → list_all p
    (rs ++ r ∷ []) ≡ true
all_push p [] r h a = rw h refl
all_push p (x ∷ rs) r h a =
    (elim (p x) as (λ b. (b && list_all p rs) ≡ true → (b && list_all p (rs ++ r ∷ [])) ≡ true) [
      | true ↦ λ k. all_push p rs r h k
      | false ↦ λ k. cc
    ]) a

-- where a search finds none, each fails; and the other way round
pub none_found : (t u : Asker → Bool) (rs : List Asker) → ((r : Asker) → t r ≡ false → u r ≡ true)
    → find t rs ≡ None → list_all u rs ≡ true
none_found t u [] h e = refl
none_found t u (r ∷ rs) h e =
    (elim (t r) as (λ b. t r ≡ b → cond b (Some r) (find t rs) ≡ None → (u r && list_all u rs) ≡ true) [
      | true ↦ λ f k. cc
      | false ↦ λ f k. rw (h r f) (none_found t u rs h k)
    ]) refl e

pub find_none : (t u : Asker → Bool) (rs : List Asker) → ((r : Asker) → u r ≡ true → t r ≡ false)
    → list_all u rs ≡ true → find t rs ≡ None
find_none t u [] h a = refl
find_none t u (r ∷ rs) h a =
    (elim (u r) as (λ b. u r ≡ b → (b && list_all u rs) ≡ true → cond (t r) (Some r) (find t rs) ≡ None) [
      | true ↦ λ e k. rw (h r e) (find_none t u rs h k)
      | false ↦ λ e k. cc
    ]) refl a

or_right : (a b c : Bool) → (b ≡ true → c ≡ true) → (a || b) ≡ true → (a || c) ≡ true
or_right true b c h k = refl
or_right false b c h k = h k

or_true : (a b : Bool) → b ≡ true → (a || b) ≡ true
or_true true b h = refl
or_true false b h = h

-- whichever windows the step deletes
pub idle_for : (deleted : List ℕ) (at next : ℕ) (s : BookState) → at ≤ next → AreIdle [] at s → AreIdle deleted next s
idle_for deleted at next s late b = record {
  lawful = b.lawful;
  latest = omega (arith, late, b.latest);
  idle = all_weaker (λ r. is_living s r.opening) (idles [] s.files s.owners) (idles deleted s.files s.owners) s.reads
      (λ r living h. or_true (is_among (window_of s.owners r.opening) deleted) _ h) b.lawful.living b.idle;
}

pub empty_idle : AreIdle [] 0 empty_book
empty_idle = record { lawful = lawful-empty; latest = omega arith; idle = refl }

-- ---- why a read has to wait

record Why (items : List Pending) (openings : List OpenCarry) (r : Asker) : Type 0 where
  asks : (r.count == 0) ≡ false
  none : items ≡ []
  carry : carry_of openings r.opening ≡ []

pub no_length : {A : Type 0} (xs : List A) → nat_lt 0 (length xs) ≡ false → xs ≡ []
no_length [] h = refl
no_length (x ∷ xs) h = let e : nat_lt 0 (length (x ∷ xs)) ≡ true = grind (arith, nat_tests) in absurd cc

pub parts : (c a b : Bool) → (not c && not (a || b)) ≡ true → (c ≡ false) × (a ≡ false) × (b ≡ false)
parts true a b h = absurd cc
parts false true b h = absurd cc
parts false false true h = absurd cc
parts false false false h = (refl, refl, refl)

why : (f : EventFile) (r : Asker) → must_wait (queue_of f) r ≡ true → Why (pending_from 1 f.items) f.openings r
why f r h =
    let p : ((r.count == 0) ≡ false) × (nat_lt 0 (length (pending_from 1 f.items)) ≡ false)
    × (nat_lt 0 (length (carry_of f.openings r.opening)) ≡ false) =
    parts (r.count == 0) (nat_lt 0 (length (pending_from 1 f.items)))
    (nat_lt 0 (length (carry_of f.openings r.opening))) h
    in
    record {
      asks = p.0;
      none = no_length (pending_from 1 f.items) p.1;
      carry =
          no_length (carry_of f.openings r.opening) p.2;
    }

waits : (f : EventFile) (r : Asker) → Why (pending_from 1 f.items) f.openings r → must_wait (queue_of f) r ≡ true
waits f r w = rw (w.asks, w.none, w.carry) refl

-- ---- what each call leaves of that

add_waits : (f : EventFile) (o : ℕ) (r : Asker) → must_wait (queue_of f) r ≡ true → must_wait (queue_of (enlisted f o))
    r ≡ true
add_waits f o r h =
    let w : Why (pending_from 1 f.items) f.openings r = why f r h in
    waits (enlisted f o) r (record {
      asks = w.asks;
      none = w.none;
      carry = carry-enlisted f.openings o r.opening
          ∙ w.carry;
    })

none_taken : (q : WaitState) (r : Asker) → q.items ≡ [] → (piece_of q r).taken ≡ None
none_taken q r h =
    elim (r.count == 0) as (λ b. (cond b (record { bytes = []; taken = None })
    (piece_from (carry_of q.openings r.opening) q.items r.count)).taken ≡ None) [
      | true ↦ refl
      | false ↦ from_none (carry_of q.openings r.opening) q.items h
    ]
  where
    from_none : (cs : List ℕ) (ps : List Pending) → ps ≡ [] → (piece_from cs ps r.count).taken ≡ None
    from_none (c ∷ cs) ps e = refl
    from_none [] [] e = refl
    from_none [] (p ∷ ps) e = absurd cc

nothing_left : (q : WaitState) (r : Asker) → q.items ≡ [] → carry_of q.openings r.opening ≡ [] → after_piece q r ≡ q
nothing_left q r i c =
    elim (r.count == 0) as (λ b. cond b q (after_from (carry_of q.openings r.opening) q.items q r) ≡ q) [
      | true ↦ refl
      | false ↦ ap (λ (cs : List ℕ). after_from cs q.items q r) c ∙ ap (λ (ps : List Pending). after_from [] ps q r) i
    ]

carry_waits : (q : WaitState) (r : Asker) (o : ℕ) → q.items ≡ [] → carry_of q.openings o ≡ []
    → carry_of (after_piece q r).openings o ≡ []
carry_waits q r o i c =
    (elim (o == r.opening) as (λ b. (o == r.opening) ≡ b → carry_of (after_piece q r).openings o ≡ []) [
      | true ↦ λ e.
          let same : o ≡ r.opening = eq_from_test o r.opening e in
          ap (λ (x : WaitState). carry_of x.openings o) (nothing_left q r i
          (subst (λ (x : ℕ). carry_of q.openings x ≡ []) same c)) ∙ c
      | false ↦ λ e. let other : o ≢ r.opening = grind (arith, nat_tests) in leaves q r o other ∙ c
    ]) refl

given_waits : (f : EventFile) (a : Asker) (at : ℕ) (r : Asker) → must_wait (queue_of f) r ≡ true →
    must_wait (queue_of (given f a at)) r ≡ true
given_waits f a at r h =
    let w : Why (pending_from 1 f.items) f.openings r = why f r h in
    waits (given f a at) r (record {
      asks = w.asks;
      none = ap (λ (t : Option ℕ). pending_from 1 (items_after t (Taken a.opening at) f.items))
          (none_taken (queue_of f) a w.none) ∙ w.none;
      carry = carry_waits (queue_of f) a r.opening w.none w.carry;
    })

left_waits_with : (cs : List OpenCarry) (at : ℕ) (f : EventFile) (r : Asker)
    → (r.count == 0) ≡ false → pending_from 1 f.items ≡ [] → carry_of cs r.opening ≡ []
    → must_wait (queue_of (left_with cs at f)) r ≡ true
left_waits_with [] at f r a n c = waits (left_with [] at f) r (record
    { asks = a; none = pending-dropped at 1 f.items; carry = refl })
left_waits_with (x ∷ cs) at f r a n c = waits (left_with (x ∷ cs) at f) r (record { asks = a; none = n; carry = c })

left_waits : (f : EventFile) (o at : ℕ) (r : Asker) → r.opening ≢ o
    → must_wait (queue_of f) r ≡ true → must_wait (queue_of (left f o at)) r ≡ true
left_waits f o at r n h =
    let w : Why (pending_from 1 f.items) f.openings r = why f r h in
    left_waits_with (without_opening f.openings o) at f r w.asks w.none
    (carry-without f.openings o r.opening n ∙ w.carry)

-- ---- one file changed

other_file : (w v : ℕ) (f : EventFile) (fs : List WindowFile) (r : Asker) → v ≢ w
    → must_wait (queue_of (file_of fs v)) r ≡ true → must_wait (queue_of (file_of (with_file w f fs) v)) r ≡ true
other_file w v f fs r n h = subst (λ (g : EventFile). must_wait (queue_of g) r ≡ true) (sym (other_window w v f fs n)) h

with_waits : (w v : ℕ) (f : EventFile) (fs : List WindowFile) (r : Asker) → WindowsRise 0 fs
    → (must_wait (queue_of (file_of fs w)) r ≡ true → must_wait (queue_of f) r ≡ true)
    → must_wait (queue_of (file_of fs v)) r ≡ true → must_wait (queue_of (file_of (with_file w f fs) v)) r ≡ true
with_waits w v f fs r rise own h =
    (elim (v == w) as (λ b. (v == w) ≡ b → must_wait (queue_of (file_of (with_file w f fs) v)) r ≡ true) [
      | true ↦ λ e.
          let same : v ≡ w = eq_from_test v w e in
          subst (λ (x : ℕ). must_wait (queue_of (file_of (with_file w f fs) x)) r ≡ true) (sym same)
          (subst (λ (g : EventFile). must_wait (queue_of g) r ≡ true) (sym (same_window 0 w f fs rise))
          (own (subst (λ (x : ℕ). must_wait (queue_of (file_of fs x)) r ≡ true) same h)))
      | false ↦ λ e. let other : v ≢ w = grind (arith, nat_tests) in other_file w v f fs r other h
    ]) refl

-- ---- what grows

module _ (deleted : List ℕ) (at : ℕ) where
  add_idle : (s : BookState) (w : ℕ) → AreIdle deleted at s → AreIdle deleted at (after_add s w)
  add_idle s w b =
      let o : ℕ = length s.owners + 1 in
      let f : EventFile = enlisted (file_of s.files w) o in
      record {
        lawful = lawful-add s w b.lawful;
        latest = b.latest;
        idle = all_weaker (λ r. is_living s r.opening) (idles deleted s.files s.owners)
            (idles deleted (with_file w f s.files) (s.owners ++ w ∷ [])) s.reads
            (λ r living h. subst (λ (v : ℕ). (is_among v deleted || must_wait
            (queue_of (file_of (with_file w f s.files) v)) r) ≡ true)
            (sym (window-more s (w ∷ []) r.opening b.lawful living))
            (or_right (is_among (window_of s.owners r.opening) deleted) _ _
            (with_waits w (window_of s.owners r.opening) f s.files r b.lawful.rise
            (add_waits (file_of s.files w) o r)) h))
            b.lawful.living b.idle;
      }

  pub open_idle : (s : BookState) (e : EventChange) → AreIdle deleted at s → AreIdle deleted at (opened s e)
  open_idle s events.Nothing b = b
  open_idle s (events.Opens w) b =
      elim (nat_lt (length s.owners) 4294967295) as (λ t. AreIdle deleted at (cond t (after_add s w) s)) [
        | true ↦ add_idle s w b
        | false ↦ b
      ]
  open_idle s (events.Joins port) b = b
  open_idle s (events.Watches file) b = b
  open_idle s (events.Cancels tag) b = b

  answer_idle : (s : BookState) (a : Asker) → is_living s a.opening ≡ true → AreIdle deleted at s
      → AreIdle deleted at (after_answer s a at)
  answer_idle s a living b =
      let w : ℕ = window_of s.owners a.opening in
      let f : EventFile = given (file_on s a.opening) a at in
      record {
        lawful = lawful-answer s a at b.latest living b.lawful;
        latest = omega arith;
        idle = all_weaker (λ r. is_living s r.opening) (idles deleted s.files s.owners)
            (idles deleted (with_file w f s.files) s.owners) s.reads
            (λ r own h. or_right (is_among (window_of s.owners r.opening) deleted) _ _
            (with_waits w (window_of s.owners r.opening) f s.files r b.lawful.rise
            (given_waits (file_on s a.opening) a at r)) h)
            b.lawful.living b.idle;
      }

  wait_idle : (s : BookState) (a : Asker) → is_living s a.opening ≡ true → read_waits s a ≡ true → AreIdle deleted at s
      → AreIdle deleted at (record s { reads = s.reads ++ a ∷ []; latest = at })
  wait_idle s a living waiting b = record {
    lawful = lawful-waits s a at b.latest living b.lawful;
    latest = omega arith;
    idle = all_push (idles deleted s.files s.owners) s.reads a (or_true
        (is_among (window_of s.owners a.opening) deleted) _ waiting) b.idle;
  }

  ask_idle : (s : BookState) (a : Asker) → is_living s a.opening ≡ true → AreIdle deleted at s
      → AreIdle deleted at (after_ask s a at)
  ask_idle s a living b =
      (elim (read_waits s a) as (λ t. read_waits s a ≡ t → AreIdle deleted at
      (cond t (record s { reads = s.reads ++ a ∷ []; latest = at }) (after_answer s a at))) [
        | true ↦ λ e. wait_idle s a living e b
        | false ↦ λ e. answer_idle s a living b
      ]) refl

  asked_idle : (full : Bool) (asked : Asked) (s : BookState) (a : Asker)
      → is_living s a.opening ≡ true → AreIdle deleted at s → AreIdle deleted at (book_asked full asked s a at)
  asked_idle full (Now piece) s a living b = ask_idle s a living b
  asked_idle true Waits s a living b = b
  asked_idle false Waits s a living b = ask_idle s a living b

  pub read_idle : (t : Tables) (s : BookState) (a : Asker) → AreIdle deleted at s
      → AreIdle deleted at (book_read t s a at)
  read_idle t s a b =
      (elim (is_living s a.opening) as (λ l. is_living s a.opening ≡ l → AreIdle deleted at
      (cond l (book_asked (reads_are_full t a.conn) (asked_of s a) s a at) s)) [
        | true ↦ λ living. asked_idle (reads_are_full t a.conn) (asked_of s a) s a living b
        | false ↦ λ dead. b
      ]) refl

  -- ---- what is written back

  written_waits : (f : EventFile) (number : ℕ) (r : Asker) → must_wait (queue_of f) r ≡ true →
      must_wait (queue_of (with_written f number at)) r ≡ true
  written_waits f number r h =
      let w : Why (pending_from 1 f.items) f.openings r = why f r h in
      waits (with_written f number at) r (record {
        asks = w.asks;
        none = pending-written at number 1 f.items
            ∙ w.none;
        carry = w.carry;
      })

  after_written_idle : (s : BookState) (w number : ℕ) → AreIdle deleted at s
      → AreIdle deleted at (after_written s w number at)
  after_written_idle s w number b =
      let f : EventFile = with_written (file_of s.files w) number at in
      record {
        lawful = lawful-written_back s w number at b.latest b.lawful;
        latest = omega arith;
        idle = all_weaker (λ r. is_living s r.opening) (idles deleted s.files s.owners)
            (idles deleted (with_file w f s.files) s.owners) s.reads
            (λ r living h. or_right (is_among (window_of s.owners r.opening) deleted) _ _
            (with_waits w (window_of s.owners r.opening) f s.files r b.lawful.rise
            (written_waits (file_of s.files w) number r)) h)
            b.lawful.living b.idle;
      }

  pub written_idle : (s : BookState) (o : Option BackItem) → AreIdle deleted at s
      → AreIdle deleted at (written_back at s o)
  written_idle s None b = b
  written_idle s (Some i) b =
      elim (is_taken_of s i.window i.number) as (λ t. AreIdle deleted at
      (cond t (after_written s i.window i.number at) s)) [
        | true ↦ after_written_idle s i.window i.number b
        | false ↦ b
      ]

  -- ---- what ends

  leave_idle : (s : BookState) (o : ℕ) → AreIdle deleted at s → AreIdle deleted at (after_leave s o at)
  leave_idle s o b =
      let w : ℕ = window_of s.owners o in
      let f : EventFile = left (file_on s o) o at in
      record {
        lawful = lawful-leave s o at b.latest b.lawful;
        latest = omega arith;
        idle = all_filter (idles deleted s.files s.owners) (idles deleted (with_file w f s.files) s.owners)
            (λ r. not (is_on o r)) s.reads
            (λ r apart h. let other : r.opening ≢ o = grind (arith, nat_tests) in
            or_right (is_among (window_of s.owners r.opening) deleted) _ _
            (with_waits w (window_of s.owners r.opening) f s.files r b.lawful.rise
            (left_waits (file_on s o) o at r other)) h)
            b.idle;
      }

  without_idle : (s : BookState) (o : Option ℕ) → AreIdle deleted at s → AreIdle deleted at (without_owned at s o)
  without_idle s None b = b
  without_idle s (Some o) b =
      elim (is_living s o) as (λ t. AreIdle deleted at (cond t (after_leave s o at) s)) [
        | true ↦ leave_idle s o b
        | false ↦ b
      ]

  fids_idle : (s : BookState) (fs : List (ℕ × Fid)) → AreIdle deleted at s
      → AreIdle deleted at (fold (without_fid at) s fs)
  fids_idle s [] b = b
  fids_idle s (f ∷ fs) b = fids_idle (without_fid at s f) fs (without_idle s (event_opening f.1) b)

  pub all_freed_idle : (s : BookState) (t : Tables) (conn : ℕ) → AreIdle deleted at s
      → AreIdle deleted at (without_fids at s t conn)
  all_freed_idle s t conn b = fids_idle s (fids_of t conn) b

  pub freed_idle : (s : BookState) (t : Tables) (conn : ℕ) (e : Effect) → AreIdle deleted at s
      → AreIdle deleted at (freed at s t conn e)
  freed_idle s t conn effect.Nothing b = b
  freed_idle s t conn (effect.Begins msize) b = all_freed_idle s t conn b
  freed_idle s t conn (effect.Puts fid value) b = b
  freed_idle s t conn (effect.Frees fid) b = without_idle s (opening_in (fid_of t conn fid)) b

  pub cancelled_idle : (s : BookState) (conn : ℕ) (e : EventChange) → AreIdle deleted at s
      → AreIdle deleted at (cancelled s conn e)
  cancelled_idle s conn events.Nothing b = b
  cancelled_idle s conn (events.Opens w) b = b
  cancelled_idle s conn (events.Joins port) b = b
  cancelled_idle s conn (events.Watches file) b = b
  cancelled_idle s conn (events.Cancels tag) b = record {
    lawful = lawful-cancel s conn tag b.lawful;
    latest = b.latest;
    idle = all_filter (idles deleted s.files s.owners) (idles deleted s.files s.owners) (λ r. not (is_read conn tag r))
        s.reads (λ r apart h. h) b.idle;
  }

  -- ---- items of windows that the step deletes

  among_or : (w v : ℕ) (f : EventFile) (fs : List WindowFile) (r : Asker)
      → is_among w deleted ≡ true → (is_among v deleted || must_wait (queue_of (file_of fs v)) r) ≡ true
      → (is_among v deleted || must_wait (queue_of (file_of (with_file w f fs) v)) r) ≡ true
  among_or w v f fs r among h =
      (elim (v == w) as (λ b. (v == w) ≡ b → (is_among v deleted || must_wait (queue_of (file_of (with_file w f fs) v))
      r) ≡ true) [
        | true ↦ λ e.
            let same : v ≡ w = eq_from_test v w e in
            let there : is_among v deleted ≡ true = subst (λ (x : ℕ). is_among x deleted ≡ true) (sym same) among in
            rw there refl
        | false ↦ λ e. let other : v ≢ w = grind (arith, nat_tests) in
            or_right (is_among v deleted) _ _ (other_file w v f fs r other) h
      ]) refl

  put_idle : (s : BookState) (i : WindowItem) → is_ending deleted i ≡ true → AreIdle deleted at s
      → AreIdle deleted at (put_one s i)
  put_idle s i among b =
      (elim (is_open_window s i.window) as (λ t. is_open_window s i.window ≡ t → AreIdle deleted at
      (cond t (after_put s i.window i.item) s)) [
        | true ↦ λ e. record {
          lawful = lawful-put_in s i.window i.item e b.lawful;
          latest = b.latest;
          idle = all_weaker (λ r. is_living s r.opening) (idles deleted s.files s.owners)
              (idles deleted (with_file i.window (with_item (file_of s.files i.window) i.item) s.files) s.owners)
              s.reads
              (λ r own h. among_or i.window (window_of s.owners r.opening) (with_item (file_of s.files i.window) i.item)
              s.files r among h) b.lawful.living b.idle;
        }
        | false ↦ λ e. b
      ]) refl

  pub ending_idle : (s : BookState) (items : List WindowItem) → AreIdle deleted at s
      → AreIdle deleted at (put_all s (ending deleted items))
  ending_idle s [] b = b
  ending_idle s (i ∷ items) b =
      (elim (is_ending deleted i) as (λ t. is_ending deleted i ≡ t → AreIdle deleted at
      (put_all s (cond t (i ∷ ending deleted items) (ending deleted items)))) [
        | true ↦ λ e. ending_idle (put_one s i) items (put_idle s i e b)
        | false ↦ λ e. ending_idle s items b
      ]) refl

-- ---- windows that are deleted

not_first : (v w : ℕ) (ws : List ℕ) → not (v == w) ≡ true → is_among v (w ∷ ws) ≡ is_among v ws
not_first v w ws h =
    (elim (v == w) as (λ b. not b ≡ true → (b || is_among v ws) ≡ is_among v ws) [
      | true ↦ λ k. absurd cc
      | false ↦ λ k. refl
    ]) h

delete_idle : (w : ℕ) (ws : List ℕ) (at : ℕ) (s : BookState) → AreIdle (w ∷ ws) at s
    → AreIdle ws at (after_delete s w at)
delete_idle w ws at s b =
    let f : EventFile = deleted (file_of s.files w) at in
    record {
      lawful = lawful-delete s w at b.latest b.lawful;
      latest = omega arith;
      idle = all_filter (idles (w ∷ ws) s.files s.owners) (idles ws (with_file w f s.files) s.owners)
          (λ r. not (is_on_window s.owners w r)) s.reads
          (λ r apart h.
          let v : ℕ = window_of s.owners r.opening in
          let other : v ≢ w = grind (arith, nat_tests) in
          or_right (is_among v ws) _ _ (other_file w v f s.files r other)
          (subst (λ (t : Bool). (t || must_wait (queue_of (file_of s.files v)) r) ≡ true) (not_first v w ws apart) h))
          b.idle;
    }

pub closed_idle : (ws : List ℕ) (at : ℕ) (s : BookState) → AreIdle ws at s → AreIdle [] at (closed_with at s ws)
closed_idle [] at s b = b
closed_idle (w ∷ ws) at s b = closed_idle ws at (after_delete s w at) (delete_idle w ws at s b)

-- ---- waiting reads are answered, until none can be

-- what is left of that where reads may be answered still
pub record IsKept (at : ℕ) (s : BookState) : Type 0 where
  pub lawful : IsLawful s
  pub latest : s.latest ≤ at

put_kept : (at : ℕ) (s : BookState) (i : WindowItem) → IsKept at s → IsKept at (put_one s i)
put_kept at s i b =
    (elim (is_open_window s i.window) as (λ t. is_open_window s i.window ≡ t → IsKept at
    (cond t (after_put s i.window i.item) s)) [
      | true ↦ λ e. record { lawful = lawful-put_in s i.window i.item e b.lawful; latest = b.latest }
      | false ↦ λ e. b
    ]) refl

pub living_kept : (deleted : List ℕ) (at : ℕ) (s : BookState) (items : List WindowItem) → IsKept at s
    → IsKept at (put_living deleted s items)
living_kept deleted at s [] b = b
living_kept deleted at s (i ∷ items) b =
    living_kept deleted at (put_if_lives deleted s i) items
    (elim (is_ending deleted i) as (λ t. IsKept at (cond t s (put_one s i))) [
      | true ↦ b
      | false ↦ put_kept at s i b
    ])

serve_kept : (at : ℕ) (s : BookState) → IsKept at s → IsKept at (after_serve s at)
serve_kept at s b = record { lawful = lawful-serve s at b.latest b.lawful; latest = next_latest (next_of s) }
  where
    next_latest : (o : Option Asker) → (after_next o s at).latest ≤ at
    next_latest None = b.latest
    next_latest (Some r) = omega arith

record IsServed (at : ℕ) (s : BookState) : Type 0 where
  kept : IsKept at s
  none : next_of s ≡ None

serve_more : (n at : ℕ) (s : BookState) (o : Option Asker) → next_of s ≡ o → length s.reads ≤ suc n → IsKept at s
    → (length (after_serve s at).reads ≤ n → IsServed at (book_served_most n at (after_serve s at)))
    → IsServed at (book_served_most n at (after_serve s at))
serve_more n at s None e h b rest =
    let none : served_of s ≡ None = ap (λ (o : Option Asker). option_map {U = Asker × Piece} (λ r. (r, piece_for s r))
    o) e in
    subst (IsServed at) (sym (ap (λ (t : BookState). book_served_most n at t) (idle at s none)
    ∙ book_none_more n at s none)) (record { kept = b; none = e })
serve_more n at s (Some r) e h b rest = rest (omega (arith, next_less at s r e, h))

pub no_reads : (t : Asker → Bool) (rs : List Asker) → length rs ≤ 0 → find t rs ≡ None
no_reads t [] l = refl
no_reads t (r ∷ rs) l = absurd (omega arith)

serve_most : (n at : ℕ) (s : BookState) → length s.reads ≤ n → IsKept at s → IsServed at (book_served_most n at s)
unfolding book_served_most
serve_most zero at s h b = record { kept = b; none = no_reads (is_ready s.files s.owners) s.reads h }
serve_most (suc n) at s h b = serve_more n at s (next_of s) refl h b
    (λ l. serve_most n at (after_serve s at) l (serve_kept at s b))

-- without waiting reads that can be answered, whichever windows the step deletes
none_ready : (deleted : List ℕ) (s : BookState) (r : Asker) → is_ready s.files s.owners r ≡ false → idles deleted
    s.files s.owners r ≡ true
none_ready deleted s r h = or_true (is_among (window_of s.owners r.opening) deleted) _ (waiting (read_waits s r) h)
  where
    waiting : (b : Bool) → not b ≡ false → b ≡ true
    waiting true e = refl
    waiting false e = absurd cc

pub idle_from : (deleted : List ℕ) (at : ℕ) (s : BookState) → IsLawful s → s.latest ≤ at → IsIdle s
    → AreIdle deleted at s
idle_from deleted at s lawful latest none = record {
  lawful = lawful;
  latest = latest;
  idle = none_found (is_ready s.files s.owners) (idles deleted s.files s.owners) s.reads (none_ready deleted s) none;
}

pub served_idle : (deleted : List ℕ) (at : ℕ) (s : BookState) → IsKept at s → AreIdle deleted at (book_served_all at s)
served_idle deleted at s b =
    let served : IsServed at (book_served_all at s) = serve_most (length s.reads) at s (omega arith) b in
    idle_from deleted at (book_served_all at s) served.kept.lawful served.kept.latest served.none

-- and so none is left at the end
pub idle_end : (at : ℕ) (s : BookState) → AreIdle [] at s → IsIdle s
idle_end at s b = find_none (is_ready s.files s.owners) (idles [] s.files s.owners) s.reads (λ r h. ap not h) b.idle

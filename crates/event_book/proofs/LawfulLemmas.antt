-- Each call keeps the invariant of a book.
use Rattle.std.proofs.Common.{◌≡◌, ◌≢◌, ◌==◌, ◌||◌, ◌&&◌, ℕ, ◌+◌, ◌≤◌, Bool, true, false, not, cond, List, [], ◌∷◌}
use Rattle.std.proofs.Common.{◌++◌, length, find, Option, Some, None, refl, sym, ap, ◌∙◌, subst, arith, add-one, Result}
use Rattle.std.proofs.Common.{Ok, Err, OnOk, OnErr}
use Rattle.std.specs.Option.{unwrap_or}
use Rattle.std.specs.List.{list_all, list_any, filter}
use Rattle.std.proofs.lemmas.Bool.Decides.{nat_tests}
use Rattle.am_text.specs.Twice.{Twice, both}
use Rattle.am_text.specs.declared.memory.NoMemory.{NoMemory}
use Rattle.win_events.specs.declared.item.Item.{Item}
use Rattle.wait_queue.specs.Carry.{OpenCarry, without_opening, is_of}
use Rattle.wait_queue.specs.Reads.{is_on, is_read, without_first}
use Rattle.wait_queue.specs.declared.types.Asker.{Asker}
use Rattle.event_book.specs.WindowFiles.{EventFile, WindowFile, is_enlisted, enlisted, with_item, given, with_written}
use Rattle.event_book.specs.WindowFiles.{left_with, left, deleted, file_of, with_file}
use Rattle.event_book.specs.BookState.{BookState, empty_book, window_of, file_on, is_open_window, is_living, after_add}
use Rattle.event_book.specs.BookState.{after_put, read_waits, after_answer, after_ask, is_ready, next_of, without_next}
use Rattle.event_book.specs.BookState.{after_next, after_serve, after_written, after_cancel, after_leave, is_on_window}
use Rattle.event_book.specs.BookState.{after_delete}
use Rattle.event_book.specs.Laws.{IsOwned, IsLawfulFile, AllLiving, WindowsRise, IsLawful}
use Rattle.event_book.proofs.TableLemmas.{eq_from_test, test_from_eq}
use Rattle.event_book.proofs.OrderLemmas.{owned-more, owned-last, owned-enlisted}
use Rattle.event_book.proofs.BookLemmas.{same_window, other_window, rise-with, lawful_unopened, lawful-later}
use Rattle.event_book.proofs.BookLemmas.{lawful-more, lawful-enlisted, lawful-put, lawful-written, lawful-deleted}
use Rattle.event_book.proofs.BookLemmas.{lawful-left, lawful-given, enlisted-given}

-- ---- lists of reads

all-weaker : (p q : Asker → Bool) (rs : List Asker) → ((r : Asker) → p r ≡ true → q r ≡ true)
    → list_all p rs ≡ true → list_all q rs ≡ true
all-weaker p q [] h a = refl
all-weaker p q (r ∷ rs) h a =
    (elim (p r) as (λ b. p r ≡ b → (b && list_all p rs) ≡ true → (q r && list_all q rs) ≡ true) [
      | true ↦ λ e k. rw (h r e) (all-weaker p q rs h k)
      | false ↦ λ e k. cc
    ]) refl a

all-filter : (p q t : Asker → Bool) (rs : List Asker) → ((r : Asker) → t r ≡ true → p r ≡ true → q r ≡ true)
    → list_all p rs ≡ true → list_all q (filter t rs) ≡ true
all-filter p q t [] h a = refl
all-filter p q t (r ∷ rs) h a =
    (elim (p r) as (λ b. p r ≡ b → (b && list_all p rs) ≡ true → list_all q (filter t (r ∷ rs)) ≡ true) [
      | true ↦ λ e k.
          (elim (t r) as (λ c. t r ≡ c → list_all q (cond c (r ∷ filter t rs) (filter t rs)) ≡ true) [
            | true ↦ λ u. rw (h r u e) (all-filter p q t rs h k)
            | false ↦ λ u. all-filter p q t rs h k
          ]) refl
      | false ↦ λ e k. cc
    ]) refl a

all-push : (p : Asker → Bool) (rs : List Asker) (r : Asker) → p r ≡ true → list_all p rs ≡ true → list_all p
    (rs ++ r ∷ []) ≡ true
all-push p [] r h a = rw h refl
all-push p (x ∷ rs) r h a =
    (elim (p x) as (λ b. (b && list_all p rs) ≡ true → (b && list_all p (rs ++ r ∷ [])) ≡ true) [
      | true ↦ λ k. all-push p rs r h k
      | false ↦ λ k. cc
    ]) a

all-without_first : (p t : Asker → Bool) (rs : List Asker) → list_all p rs ≡ true → list_all p
    (without_first t rs) ≡ true
all-without_first p t [] a = refl
all-without_first p t (r ∷ rs) a =
    (elim (p r) as (λ b. p r ≡ b → (b && list_all p rs) ≡ true → list_all p
    (cond (t r) rs (r ∷ without_first t rs)) ≡ true) [
      | true ↦ λ e k.
          elim (t r) as (λ c. list_all p (cond c rs (r ∷ without_first t rs)) ≡ true) [
            | true ↦ k
            | false ↦ rw e (all-without_first p t rs k)
          ]
      | false ↦ λ e k. cc
    ]) refl a

found-passes : (t : Asker → Bool) (rs : List Asker) (r : Asker) → find t rs ≡ Some r → t r ≡ true
found-passes t [] r h = cc
found-passes t (x ∷ rs) r h =
    (elim (t x) as (λ b. t x ≡ b → cond b (Some x) (find t rs) ≡ Some r → t r ≡ true) [
      | true ↦ λ e k. let same : x ≡ r = cc in sym (ap t same) ∙ e
      | false ↦ λ e k. found-passes t rs r k
    ]) refl h

found-all : (t p : Asker → Bool) (rs : List Asker) (r : Asker) → list_all p rs ≡ true → find t rs ≡ Some r → p r ≡ true
found-all t p [] r a h = cc
found-all t p (x ∷ rs) r a h =
    (elim (p x) as (λ b. p x ≡ b → (b && list_all p rs) ≡ true → p r ≡ true) [
      | true ↦ λ e k.
          (elim (t x) as (λ b. cond b (Some x) (find t rs) ≡ Some r → p r ≡ true) [
            | true ↦ λ f. let same : x ≡ r = cc in sym (ap p same) ∙ e
            | false ↦ λ f. found-all t p rs r k f
          ]) h
      | false ↦ λ e k. cc
    ]) refl a

not_waits : (b : Bool) → not b ≡ true → b ≡ false
not_waits true h = cc
not_waits false h = refl

-- the read that is answered next is on an open opening, and doesn't have to wait
pub next-living : (s : BookState) (r : Asker) → AllLiving s → next_of s ≡ Some r → is_living s r.opening ≡ true
next-living s r a h = found-all (is_ready s.files s.owners) (λ x. is_living s x.opening) s.reads r a h

pub next-ready : (s : BookState) (r : Asker) → next_of s ≡ Some r → read_waits s r ≡ false
next-ready s r h = not_waits (read_waits s r) (found-passes (is_ready s.files s.owners) s.reads r h)

-- ---- one window's file changed

files-with : (owners owners' : List ℕ) (latest latest' w : ℕ) (f : EventFile) (fs : List WindowFile) → WindowsRise 0 fs
    → ((x : ℕ) (g : EventFile) → IsLawfulFile owners latest x g → IsLawfulFile owners' latest' x g)
    → ((x : ℕ) → IsLawfulFile owners latest x (file_of fs x)) → IsLawfulFile owners' latest' w f → (x : ℕ)
    → IsLawfulFile owners' latest' x (file_of (with_file w f fs) x)
files-with owners owners' latest latest' w f fs rise more h own x =
    (elim (x == w) as (λ b. (x == w) ≡ b → IsLawfulFile owners' latest' x (file_of (with_file w f fs) x)) [
      | true ↦ λ e.
          let same = eq_from_test x w e in
          subst (λ y. IsLawfulFile owners' latest' y (file_of (with_file w f fs) y)) (sym same)
          (subst (IsLawfulFile owners' latest' w) (sym (same_window 0 w f fs rise)) own)
      | false ↦ λ e.
          let other : x ≢ w = grind (arith, nat_tests) in
          subst (IsLawfulFile owners' latest' x) (sym (other_window w x f fs other)) (more x (file_of fs x) (h x))
    ]) refl

-- an opening is open after a change of one file where it is in that file
living-with : (w : ℕ) (f : EventFile) (fs : List WindowFile) (v o : ℕ) → WindowsRise 0 fs
    → (v ≡ w → is_enlisted (file_of fs w) o ≡ true → is_enlisted f o ≡ true)
    → is_enlisted (file_of fs v) o ≡ true → is_enlisted (file_of (with_file w f fs) v) o ≡ true
living-with w f fs v o rise own h =
    (elim (v == w) as (λ b. (v == w) ≡ b → is_enlisted (file_of (with_file w f fs) v) o ≡ true) [
      | true ↦ λ e.
          let same = eq_from_test v w e in
          subst (λ y. is_enlisted (file_of (with_file w f fs) y) o ≡ true) (sym same)
          (rw (same_window 0 w f fs rise) (own same (subst (λ y. is_enlisted (file_of fs y) o ≡ true) same h)))
      | false ↦ λ e. let other : v ≢ w = grind (arith, nat_tests) in rw (other_window w v f fs other) h
    ]) refl

any-push : (cs : List OpenCarry) (c : OpenCarry) (o : ℕ) → list_any (is_of o) cs ≡ true → list_any (is_of o)
    (cs ++ c ∷ []) ≡ true
any-push [] c o h = cc
any-push (x ∷ cs) c o h =
    (elim (is_of o x) as (λ b. (b || list_any (is_of o) cs) ≡ true → (b || list_any (is_of o) (cs ++ c ∷ [])) ≡ true) [
      | true ↦ λ k. refl
      | false ↦ λ k. any-push cs c o k
    ]) h

pub owner-window : (owners : List ℕ) (w o : ℕ) → IsOwned owners w o → window_of owners o ≡ w
owner-window owners w o h = ap (λ t. unwrap_or t 0) h

pub lawful-empty : IsLawful empty_book
lawful-empty = record { rise = tt; files = λ w. lawful_unopened [] 0 w; living = refl }

-- the window of an open opening, also after others are added
pub window-more : (s : BookState) (more : List ℕ) (o : ℕ) → IsLawful s
    → is_living s o ≡ true → window_of (s.owners ++ more) o ≡ window_of s.owners o
window-more s more o h l =
    let own = owned-enlisted s.owners (window_of s.owners o) o (file_on s o).openings
    (h.files (window_of s.owners o)).openers l in
    owner-window (s.owners ++ more) (window_of s.owners o) o (owned-more s.owners more (window_of s.owners o) o own)

pub lawful-add : (s : BookState) (w : ℕ) → IsLawful s → IsLawful (after_add s w)
lawful-add s w h =
    let o = length s.owners + 1 in
    let f' = enlisted (file_of s.files w) o in
    let own : IsOwned (s.owners ++ w ∷ []) w o = rw add-one (owned-last s.owners w) in
    record {
      rise = rise-with 0 w f' s.files (omega arith) h.rise;
      files = files-with s.owners (s.owners ++ w ∷ []) s.latest s.latest w f' s.files h.rise
          (λ x g k. lawful-more s.owners (w ∷ []) s.latest x g k) h.files
          (lawful-enlisted (s.owners ++ w ∷ []) s.latest w o (file_of s.files w) own
          (lawful-more s.owners (w ∷ []) s.latest w (file_of s.files w) (h.files w)));
      living = all-weaker (λ r. is_living s r.opening) (λ r. is_living (after_add s w) r.opening) s.reads
          (λ r k. rw (window-more s (w ∷ []) r.opening h k) (living-with w f' s.files (window_of s.owners r.opening)
          r.opening h.rise (λ _ e. any-push (file_of s.files w).openings (record { opening = o; carry = [] }) r.opening
          e) k)) h.living;
    }

pub lawful-put_in : (s : BookState) (w : ℕ) (item : Item) → is_open_window s w ≡ true → IsLawful s
    → IsLawful (after_put s w item)
lawful-put_in s w item o h =
    let f' = with_item (file_of s.files w) item in
    record {
      rise = rise-with 0 w f' s.files (omega arith) h.rise;
      files = files-with s.owners s.owners s.latest s.latest w f' s.files h.rise (λ x g k. k) h.files
          (lawful-put s.owners s.latest w (file_of s.files w) item o (h.files w));
      living = all-weaker (λ r. is_living s r.opening) (λ r. is_living (after_put s w item) r.opening) s.reads
          (λ r k. living-with w f' s.files (window_of s.owners r.opening) r.opening h.rise (λ _ e. e) k) h.living;
    }

later : (s : BookState) (at : ℕ) → s.latest ≤ at → IsLawful s → IsLawful (record s { latest = at })
later s at l h = record {
  rise = h.rise;
  files = λ w. lawful-later s.owners s.latest at w (file_of s.files w) l
      (h.files w);
  living = h.living;
}

pub lawful-waits : (s : BookState) (r : Asker) (at : ℕ) → s.latest ≤ at → is_living s r.opening ≡ true → IsLawful s
    → IsLawful (record s { reads = s.reads ++ r ∷ []; latest = at })
lawful-waits s r at l o h = record {
  rise = h.rise;
  files = λ w. lawful-later s.owners s.latest at w (file_of s.files w) l (h.files w);
  living = all-push (λ x. is_living s x.opening) s.reads r o h.living;
}

pub lawful-answer : (s : BookState) (r : Asker) (at : ℕ) → s.latest ≤ at → is_living s r.opening ≡ true → IsLawful s
    → IsLawful (after_answer s r at)
lawful-answer s r at l o h =
    let w = window_of s.owners r.opening in
    let f = file_of s.files w in
    record {
      rise = rise-with 0 w (given f r at) s.files (omega arith) h.rise;
      files = files-with s.owners s.owners s.latest at w (given f r at) s.files h.rise
          (λ x g k. lawful-later s.owners s.latest at x g l k) h.files
          (lawful-given s.owners s.latest w at f r l o (h.files w));
      living = all-weaker (λ x. is_living s x.opening) (λ x. is_living (after_answer s r at) x.opening) s.reads
          (λ x k. living-with w (given f r at) s.files (window_of s.owners x.opening) x.opening h.rise
          (λ _ e. enlisted-given f r at x.opening ∙ e) k) h.living;
    }

pub lawful-ask : (s : BookState) (r : Asker) (at : ℕ) → s.latest ≤ at → is_living s r.opening ≡ true → IsLawful s
    → IsLawful (after_ask s r at)
lawful-ask s r at l o h =
    elim (read_waits s r) as (λ b. IsLawful (cond b (record s { reads = s.reads ++ r ∷ []; latest = at })
    (after_answer s r at))) [
      | true ↦ lawful-waits s r at l o h
      | false ↦ lawful-answer s r at l o h
    ]

lawful-without_next : (s : BookState) → IsLawful s → IsLawful (without_next s)
lawful-without_next s h = record {
  rise = h.rise;
  files = h.files;
  living = all-without_first (λ x. is_living s x.opening) (is_ready s.files s.owners) s.reads h.living;
}

lawful-next : (next : Option Asker) (s : BookState) (at : ℕ) → s.latest ≤ at
    → ((r : Asker) → next ≡ Some r → is_living s r.opening ≡ true) → IsLawful s → IsLawful (after_next next s at)
lawful-next None s at l n h = h
lawful-next (Some r) s at l n h = lawful-answer (without_next s) r at l (n r refl) (lawful-without_next s h)

pub lawful-serve : (s : BookState) (at : ℕ) → s.latest ≤ at → IsLawful s → IsLawful (after_serve s at)
lawful-serve s at l h = lawful-next (next_of s) s at l (λ r e. next-living s r h.living e) h

pub lawful-written_back : (s : BookState) (w number at : ℕ) → s.latest ≤ at → IsLawful s
    → IsLawful (after_written s w number at)
lawful-written_back s w number at l h =
    let f' = with_written (file_of s.files w) number at in
    record {
      rise = rise-with 0 w f' s.files (omega arith) h.rise;
      files = files-with s.owners s.owners s.latest at w f' s.files h.rise
          (λ x g k. lawful-later s.owners s.latest at x g l k) h.files
          (lawful-later s.owners s.latest at w f' l (lawful-written s.owners s.latest w number at (file_of s.files w)
          (h.files w)));
      living = all-weaker (λ r. is_living s r.opening) (λ r. is_living (after_written s w number at) r.opening) s.reads
          (λ r k. living-with w f' s.files (window_of s.owners r.opening) r.opening h.rise (λ _ e. e) k) h.living;
    }

pub lawful-cancel : (s : BookState) (conn tag : ℕ) → IsLawful s → IsLawful (after_cancel s conn tag)
lawful-cancel s conn tag h = record {
  rise = h.rise;
  files = h.files;
  living = all-filter (λ r. is_living s r.opening) (λ r. is_living s r.opening) (λ r. not (is_read conn tag r)) s.reads
      (λ r t k. k) h.living;
}

not_on : (r : Asker) (o : ℕ) → not (is_on o r) ≡ true → r.opening ≢ o
not_on r o t = let no : (r.opening == o) ≡ false = not_waits (r.opening == o) t in grind (arith, nat_tests)

not_on_window : (s : BookState) (r : Asker) (w : ℕ) → not (is_on_window s.owners w r) ≡ true → window_of s.owners
    r.opening ≡ w → ⊥
not_on_window s r w t e =
    let no : (window_of s.owners r.opening == w) ≡ false = not_waits (window_of s.owners r.opening == w) t in
    let yes : (window_of s.owners r.opening == w) ≡ true = test_from_eq (window_of s.owners r.opening) w e in
    cc

any-without : (cs : List OpenCarry) (o x : ℕ) → x ≢ o → list_any (is_of x) (without_opening cs o) ≡ list_any (is_of x)
    cs
any-without [] o x n = refl
any-without (c ∷ cs) o x n =
    (elim (is_of o c) as (λ b. is_of o c ≡ b → list_any (is_of x) (cond (not b) (c ∷ without_opening cs o)
    (without_opening cs o)) ≡ list_any (is_of x) (c ∷ cs)) [
      | true ↦ λ e. let no : is_of x c ≡ false = grind (arith, nat_tests) in rw no (any-without cs o x n)
      | false ↦ λ e. ap (λ b. is_of x c || b) (any-without cs o x n)
    ]) refl

left_with-openings : (cs : List OpenCarry) (at : ℕ) (f : EventFile) → (left_with cs at f).openings ≡ cs
left_with-openings [] at f = refl
left_with-openings (c ∷ cs) at f = refl

pub enlisted-left : (f : EventFile) (o at x : ℕ) → x ≢ o → is_enlisted (left f o at) x ≡ is_enlisted f x
enlisted-left f o at x n =
    ap (list_any (is_of x)) (left_with-openings (without_opening f.openings o) at f) ∙ any-without f.openings o x n

pub lawful-leave : (s : BookState) (o at : ℕ) → s.latest ≤ at → IsLawful s → IsLawful (after_leave s o at)
lawful-leave s o at l h =
    let w = window_of s.owners o in
    let f = file_of s.files w in
    record {
      rise = rise-with 0 w (left f o at) s.files (omega arith) h.rise;
      files = files-with s.owners s.owners s.latest at w (left f o at) s.files h.rise
          (λ x g k. lawful-later s.owners s.latest at x g l k) h.files
          (lawful-left s.owners s.latest w o at f l (h.files w));
      living = all-filter (λ r. is_living s r.opening) (λ r. is_living (after_leave s o at) r.opening)
          (λ r. not (is_on o r)) s.reads (λ r t k. living-with w (left f o at) s.files (window_of s.owners r.opening)
          r.opening h.rise (λ _ e. let other : r.opening ≢ o = not_on r o t in enlisted-left f o at r.opening other ∙ e)
          k) h.living;
    }

pub lawful-delete : (s : BookState) (w at : ℕ) → s.latest ≤ at → IsLawful s → IsLawful (after_delete s w at)
lawful-delete s w at l h =
    let f = file_of s.files w in
    record {
      rise = rise-with 0 w (deleted f at) s.files (omega arith) h.rise;
      files = files-with s.owners s.owners s.latest at w (deleted f at) s.files h.rise
          (λ x g k. lawful-later s.owners s.latest at x g l k) h.files
          (lawful-deleted s.owners s.latest w at f l (h.files w));
      living = all-filter (λ r. is_living s r.opening) (λ r. is_living (after_delete s w at) r.opening)
          (λ r. not (is_on_window s.owners w r)) s.reads (λ r t k. living-with w (deleted f at) s.files
          (window_of s.owners r.opening) r.opening h.rise (λ e _. absurd (not_on_window s r w t e)) k) h.living;
    }

-- ---- both states after a call

pub grown : {A : Type 0} (result : Result A NoMemory) (old new : Twice BookState) (after : BookState)
    → IsLawful old.present × IsLawful old.kept → (IsLawful old.present → IsLawful after)
    → OnOk result (new ≡ record old { present = after }) → OnErr result (new ≡ both old.kept) → IsLawful new.present
    × IsLawful new.kept
grown (Ok x) old new after h f ok err = subst (λ (t : Twice BookState). IsLawful t.present × IsLawful t.kept) (sym ok)
    (f h.0, h.1)
grown (Err x) old new after h f ok err = subst (λ (t : Twice BookState). IsLawful t.present × IsLawful t.kept) (sym err)
    (h.1, h.1)

pub steadily : (new : Twice BookState) (after : BookState) → new ≡ both after → IsLawful after → IsLawful new.present
    × IsLawful new.kept
steadily new after e h = subst (λ (t : Twice BookState). IsLawful t.present × IsLawful t.kept) (sym e) (h, h)

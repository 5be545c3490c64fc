-- An item is written back once, and its life names the entry.
use Rattle.std.proofs.Common.{◌≡◌, ℕ, zero, suc, ◌+◌, ◌≤◌, Bool, true, false, cond, List, [], ◌∷◌, length, Option}
use Rattle.std.proofs.Common.{Some, None, Result, Ok, Err, refl, sym, ap, subst, ◌∙◌, arith}
use Rattle.win_events.specs.Back.{back_of}
use Rattle.win_events.specs.declared.item.BackMsg.{BackMsg}
use Rattle.win_events.specs.declared.item.Item.{Item}
use Rattle.win_events.specs.declared.item.Life.{Life}
use Rattle.win_events.specs.declared.item.Life.TheVariants.{Pending, Taken, Back, Dropped}
use Rattle.event_book.specs.declared.finding.BackFault.{BackFault}
use Rattle.event_book.specs.declared.lives.Recorded.{Recorded}
use Rattle.event_book.specs.Lives.{has_taken, is_taken, with_back, written_back as back_in, numbered}
use Rattle.event_book.specs.WindowFiles.{EventFile, with_written, file_of}
use Rattle.event_book.specs.BookState.{BookState, IsTaken, is_taken_of, recorded_of, found_of, after_written}
use Rattle.event_book.specs.Laws.{IsLawful, is_ended, KeepsEnded}
use Rattle.event_book.proofs.BookLemmas.{same_window}
use Rattle.event_book.proofs.FidLemmas.{found_fits}
use Rattle.am_journal.specs.declared.event.Event.{Event}
use Rattle.am_journal.specs.declared.event.Event.TheVariants as event
use Rattle.core_fids.specs.declared.effect.Demand.{Demand}
use Rattle.core_fids.specs.declared.effect.Demand.TheVariants as demand
use Rattle.core_events.specs.declared.closing.BackItem.{BackItem}
use Rattle.core_events.specs.Closing.{written_back}
use Rattle.core_events.proofs.Idles.{AreIdle}
use Rattle.core_parts.specs.declared.kind.Kind.{Kind}
use Rattle.core_intents.specs.Doings.{doing_of}
use Rattle.core_parts.specs.Doing.{Doing}
use Rattle.core_intents.specs.Intents.{item_if_any, item_named, item_or_refusal, demanded_item, reaction_at}
use Rattle.core_parts.specs.Kinds.{kind_of}
use Rattle.acme_core.specs.Run.{step, run}
use Rattle.core_steps.specs.Stages.{grown_book, book_after}
use Rattle.core_parts.specs.States.{Present, State, present}
use Rattle.acme_core.proofs.Goes.{run-push, entries_counted}
use Rattle.acme_core.proofs.Idling.{run_idle}
use Rattle.core_laws.specs.Laws.{IsBackAt, LivesNameTheEntry, WrittenBackOnce, written_by}
use Rattle.core_laws.proofs.Lives.{ended_keep, is_settled, settled_keep, IsKeptTo, kept_first, keep_grown, end_written}
use Rattle.core_laws.proofs.Lives.{end_after}
use Rattle.am_journal.specs.declared.event.Journal.{Journal}
use Rattle.am_journal.specs.Journal.{longer}
use Rattle.core_laws.specs.Fronts.{followed}
use Rattle.core_laws.proofs.Playing.{goes_on, none_more}

-- ---- what ended stays so, whatever comes

step_ends : (s : State) (e : Event) → IsLawful s.scene.book → s.scene.book.latest ≤ s.entries
    → KeepsEnded s.scene.book (step s e).scene.book
unfolding step
step_ends s e lawful latest =
    let p : Present = present s in
    let d : Doing = doing_of p e in
    let at : ℕ = s.entries + 1 in
    let b : BookState = s.scene.book in
    let begins : IsKeptTo is_ended b at b = kept_first is_ended at b lawful (omega (arith, latest)) in
    let grown : IsKeptTo is_ended b at (grown_book p (kind_of e) d) = keep_grown is_ended ended_keep b at p (kind_of e)
    d refl begins in
    (end_after b at p (kind_of e) d refl (end_written b at (grown_book p (kind_of e) d) d.back grown)).keeps

all_end : (before : Journal) (events : List Event) → KeepsEnded (run before).scene.book
    (run (followed before events)).scene.book
all_end before [] = subst (λ (l : Journal). KeepsEnded (run before).scene.book (run l).scene.book)
    (sym (none_more before)) (λ v n r is t. is)
all_end before (e ∷ events) =
    let next : Journal = longer before e in
    let idle : AreIdle [] (run before).entries (run before).scene.book = run_idle before in
    let one : KeepsEnded (run before).scene.book (run next).scene.book =
    subst (λ (s : State). KeepsEnded (run before).scene.book s.scene.book) (sym (run-push before e))
    (step_ends (run before) e idle.lawful idle.latest)
    in
    subst (λ (l : Journal). KeepsEnded (run before).scene.book (run l).scene.book)
    (goes_on before e events)
    (λ v n r is t. all_end next events v n r (one v n r is t) t)

-- ---- an item that is written back was taken

found_item : (book : BookState) (w : ℕ) (m : BackMsg) (b : BackItem) (x : Result ℕ BackFault)
    → found_of book w m ≡ x → item_if_any (item_or_refusal w x) ≡ Some b → IsTaken book b.window b.number
found_item book w m b (Ok number) e is =
    let same : ◌≡◌ {A = BackItem} (record { window = w; number = number }) b = cc in
    subst (λ (i : BackItem). IsTaken book i.window i.number) same (found_fits book w number m e).taken
found_item book w m b (Err fault) e is = absurd cc

named_item : (book : BookState) (w : ℕ) (b : BackItem) (m : Option BackMsg) → item_if_any (item_named book w m) ≡ Some b
    → IsTaken book b.window b.number
named_item book w b None is = absurd cc
named_item book w b (Some m) is = found_item book w m b (found_of book w m) refl is

demanded : (book : BookState) (b : BackItem) (d : Demand) → demanded_item book d ≡ Some b
    → IsTaken book b.window b.number
demanded book b demand.Nothing is = absurd cc
demanded book b (demand.Controls w text) is = absurd cc
demanded book b (demand.WriteBack w text) is = named_item book w b (back_of text) is
demanded book b demand.ClearsRules is = absurd cc
demanded book b (demand.AddsRules text) is = absurd cc
demanded book b (demand.AddsRest text) is = absurd cc
demanded book b (demand.Sends text) is = absurd cc
demanded book b (demand.Answers opening text) is = absurd cc

was_taken : (s : State) (e : Event) (b : BackItem) → (doing_of (present s) e).back ≡ Some b
    → IsTaken s.scene.book b.window b.number
was_taken s (event.Dial conn) b is = absurd cc
was_taken s (event.Msg conn msg) b is = demanded s.scene.book b (reaction_at (present s) conn msg).demand is
was_taken s (event.Hang conn why) b is = absurd cc
was_taken s (event.Took conn) b is = absurd cc
was_taken s event.New b is = absurd cc
was_taken s (event.Key w side text) b is = absurd cc
was_taken s (event.Sel w range) b is = absurd cc
was_taken s (event.Exec at) b is = absurd cc
was_taken s (event.Arg at chord) b is = absurd cc
was_taken s (event.Look at) b is = absurd cc
was_taken s (event.File path text) b is = absurd cc
was_taken s (event.Dir path) b is = absurd cc

-- the item was taken before, and is written back after
pub record IsBackFrom (old new : BookState) (b : BackItem) (at : ℕ) : Type 0 where
  pub item : Item
  pub opening : ℕ
  pub taken : ℕ
  pub was : recorded_of old b.window b.number ≡ Some (record { item = item; life = Taken opening taken })
  pub is : recorded_of new b.window b.number ≡ Some (record { item = item; life = Back opening taken at })

-- a taken item, as it is recorded
record TakenItem (o : Option Recorded) : Type 0 where
  item : Item
  opening : ℕ
  taken : ℕ
  is : o ≡ Some (record { item = item; life = Taken opening taken })

taken_life : (item : Item) (life : Life) → is_taken life ≡ true → TakenItem (Some (record { item = item; life = life }))
taken_life item Pending t = absurd cc
taken_life item (Taken o a) t = record { item = item; opening = o; taken = a; is = refl }
taken_life item (Back o a b) t = absurd cc
taken_life item (Dropped a) t = absurd cc

taken_item : (o : Option Recorded) → has_taken o ≡ true → TakenItem o
taken_item None t = absurd cc
taken_item (Some r) t = taken_life r.item r.life t

-- ---- its life afterwards

back_there : (at n : ℕ) (es : List Recorded) (r : Recorded) → numbered es n ≡ Some r
    → numbered (back_in at n es) n ≡ Some (with_back at r)
back_there at zero es r is = absurd cc
back_there at (suc n) [] r is = absurd cc
back_there at (suc zero) (x ∷ es) r is = let same : x ≡ r = cc in ap (λ (y : Recorded). Some (with_back at y)) same
back_there at (suc (suc n)) (x ∷ es) r is = back_there at (suc n) es r is

written_there : (s : BookState) (w n at : ℕ) (r : Recorded) → IsLawful s → recorded_of s w n ≡ Some r
    → recorded_of (after_written s w n at) w n ≡ Some (with_back at r)
written_there s w n at r lawful is =
    ap (λ (f : EventFile). numbered f.items n) (same_window 0 w (with_written (file_of s.files w) n at) s.files
    lawful.rise) ∙ back_there at n (file_of s.files w).items r is

-- once a book has it as taken, and it is written back
now_back : (s : BookState) (b : BackItem) (at : ℕ) → IsLawful s → (t : TakenItem (recorded_of s b.window b.number))
    → recorded_of (written_back at s (Some b)) b.window b.number ≡
    Some (record { item = t.item; life = Back t.opening t.taken at })
now_back s b at lawful t =
    let yes : is_taken_of s b.window b.number ≡ true = ap has_taken t.is in
    subst (λ (x : Bool). recorded_of (cond x (after_written s b.window b.number at) s) b.window
    b.number ≡ Some (record { item = t.item; life = Back t.opening t.taken at })) (sym yes)
    (written_there s b.window b.number at (record { item = t.item; life = Taken t.opening t.taken }) lawful t.is)

step_back : (s : State) (e : Event) (b : BackItem) → IsLawful s.scene.book → s.scene.book.latest ≤ s.entries
    → (doing_of (present s) e).back ≡ Some b
    → IsBackFrom s.scene.book (step s e).scene.book b (s.entries + 1)
unfolding step
step_back s e b lawful latest is =
    let p : Present = present s in
    let k : Kind = kind_of e in
    let d : Doing = doing_of p e in
    let at : ℕ = s.entries + 1 in
    let g : BookState = grown_book p k d in
    let t : TakenItem (recorded_of s.scene.book b.window b.number) =
    taken_item (recorded_of s.scene.book b.window b.number) (was_taken s e b is) in
    let begins : IsKeptTo is_settled s.scene.book at s.scene.book = kept_first is_settled at s.scene.book lawful
    (omega (arith, latest)) in
    let grown : IsKeptTo is_settled s.scene.book at g = keep_grown is_settled settled_keep s.scene.book at p k d refl
    begins in
    let there : recorded_of g b.window b.number ≡ Some (record { item = t.item; life = Taken t.opening t.taken }) =
    grown.keeps b.window b.number _ t.is refl in
    let now : TakenItem (recorded_of g b.window b.number) = record
    { item = t.item; opening = t.opening; taken = t.taken; is = there } in
    let written : BookState = written_back at g d.back in
    let back : recorded_of written b.window b.number ≡ Some (record { item = t.item; life = Back t.opening t.taken at })
    =
    subst (λ (o : Option BackItem). recorded_of (written_back at g o) b.window
    b.number ≡ Some (record { item = t.item; life = Back t.opening t.taken at })) (sym is)
    (now_back g b at grown.lawful now)
    in
    let first : IsKeptTo is_ended g at g = kept_first is_ended at g grown.lawful grown.latest in
    let made : IsKeptTo is_ended g at written = end_written g at g d.back first in
    let last : IsKeptTo is_ended written at (book_after p k d) = end_after written at p k d refl
    (kept_first is_ended at written made.lawful made.latest) in
    record {
      item = t.item;
      opening = t.opening;
      taken = t.taken;
      was = t.is;
      is = last.keeps b.window b.number _ back
          refl;
    }

-- ---- every journal

pub back_from : (before : Journal) (behind : List Event) (e : Event) (b : BackItem) → written_by before e ≡ Some b
    → IsBackFrom (run before).scene.book (run (followed before (e ∷ behind))).scene.book b (length before.events + 1)
back_from before behind e b is =
    let s : State = run before in
    let old : BookState = s.scene.book in
    let idle : AreIdle [] s.entries s.scene.book = run_idle before in
    let back : IsBackFrom old (step s e).scene.book b (s.entries + 1) = step_back s e b idle.lawful idle.latest is in
    let next : IsBackFrom old (run (longer before e)).scene.book b (s.entries + 1) =
    subst (λ (t : State). IsBackFrom old t.scene.book b (s.entries + 1)) (sym (run-push before e)) back in
    let kept : KeepsEnded (run (longer before e)).scene.book (run (followed before (e ∷ behind))).scene.book =
    subst (λ (l : Journal). KeepsEnded (run (longer before e)).scene.book (run l).scene.book)
    (goes_on before e behind) (all_end (longer before e) behind)
    in
    subst (λ (n : ℕ). IsBackFrom old (run (followed before (e ∷ behind))).scene.book b (n + 1)) (entries_counted before)
    (record {
      item = next.item;
      opening = next.opening;
      taken = next.taken;
      was = next.was;
      is = kept b.window b.number
          _ next.is refl;
    })

pub named : LivesNameTheEntry
named before behind e b is =
    let x : IsBackFrom (run before).scene.book (run (followed before (e ∷ behind))).scene.book b
    (length before.events + 1) =
    back_from before behind e b is in
    record { item = x.item; opening = x.opening; taken = x.taken; is = x.is }

not_taken : (o : Option Recorded) (item : Item) (opening taken at : ℕ)
    → o ≡ Some (record { item = item; life = Back opening taken at }) → has_taken o ≡ true → ⊥
not_taken o item opening taken at is t = let no : has_taken o ≡ false = ap has_taken is in cc

pub once : WrittenBackOnce
once before between e f b first second =
    let back : IsBackAt (run (followed before (e ∷ between))).scene.book b (length before.events + 1) =
    named before between e b first in
    not_taken (recorded_of (run (followed before (e ∷ between))).scene.book b.window b.number) back.item back.opening
    back.taken
    (length before.events + 1) back.is (was_taken (run (followed before (e ∷ between))) f b second)

pub ruleset backing = (named)

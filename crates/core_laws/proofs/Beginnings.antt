-- Where the groups of edits begin, over journals.
use Rattle.std.proofs.Common.{◌≡◌, ℕ, zero, suc, ◌+◌, ◌-◌, eqb, Bool, true, false, cond, List, [], ◌∷◌, ◌++◌, length}
use Rattle.std.proofs.Common.{Option, Some, None, refl, sym, ap, subst, ◌∙◌, arith, append_assoc}
use Rattle.std.specs.List.{AllByRecursion}
use Rattle.am_journal.specs.declared.event.Event.{Event}
use Rattle.edit_log.specs.Groups.{DoneGroup}
use Rattle.edit_log.specs.declared.types.Done.{Done}
use Rattle.edit_log.specs.declared.types.Edit.{Edit}
use Rattle.core_windows.specs.Places.{live_at}
use Rattle.core_windows.specs.Stories.{WindowStory, all_changed_stories}
use Rattle.core_windows.specs.declared.change.Change.{Change}
use Rattle.core_scene.specs.SceneLaws.{changes_in}
use Rattle.core_intents.specs.Doings.{doing_of}
use Rattle.core_parts.specs.States.{State, present}
use Rattle.acme_core.specs.Run.{step, run}
use Rattle.acme_core.proofs.Goes.{run-push, entries_counted}
use Rattle.core_laws.specs.Groups.{edits_if, edits_of, IsMade, IsMadeAt, IsBegun, GroupsAreBegun}
use Rattle.core_laws.proofs.Begun.{IsKnown, KnownIfLive, AllKnown, AllStand, Makes, MakesAll, begins, changes_stand}
use Rattle.core_laws.proofs.Begun.{ends}
use Rattle.am_journal.specs.declared.event.Journal.{Journal}
use Rattle.am_journal.specs.Journal.{longer, journal_in}
use Rattle.core_laws.specs.Fronts.{followed}
use Rattle.core_laws.proofs.Playing.{goes_on, none_more}
use Rattle.am_journal.specs.declared.event.Format.{Format}

-- ---- windows by their places

abbrev edits_at : Journal → ℕ → List Edit
edits_at journal k = edits_if (live_at (run journal).windows k)

-- the same as `IsMadeAt`, by the place of the window
record IsPlaced (journal : Journal) (k number : ℕ) (done : Done) : Type 0 where
  before : Journal
  entry : Event
  behind : List Event
  is : followed before (entry ∷ behind) ≡ journal
  at : length before.events + 1 ≡ number
  makes : IsMade (edits_at before k) (edits_at (longer before entry) k) done

-- it stays so, whatever comes
still_placed : (journal : Journal) (e : Event) (k number : ℕ) (d : Done) → IsPlaced journal k number d
    → IsPlaced (longer journal e) k number d
still_placed journal e k number d h = record {
  before = h.before;
  entry = h.entry;
  behind = h.behind ++ e ∷ [];
  is = ap (journal_in h.before.format) (sym (append_assoc h.before.events (h.entry ∷ h.behind) (e ∷ [])))
      ∙ ap (λ (l : Journal). longer l e) h.is;
  at = h.at;
  makes = h.makes;
}

-- ---- one entry

module _ (journal : Journal) (e : Event) (at : ℕ) (is : length journal.events + 1 ≡ at) where
  -- what stands at a place before the entry, and behind it
  abbrev Was : ℕ → List (Option WindowStory) → Type 0
  Was k ss = (i : ℕ) → edits_if (live_at ss i) ≡ edits_at journal (k + i)

  abbrev Now : ℕ → List (Option WindowStory) → Type 0
  Now k ss = (i : ℕ) → edits_if (live_at ss i) ≡ edits_at (longer journal e) (k + i)

  moved_on : (other : Journal) (l : List Edit) (k i : ℕ) → l ≡ edits_at other (k + suc i)
      → l ≡ edits_at other ((k + 1) + i)
  moved_on other l k i h = let same : k + suc i ≡ (k + 1) + i = omega arith in
      subst (λ (n : ℕ). l ≡ edits_at other n) same h

  first_at : (other : Journal) (l : List Edit) (k : ℕ) → l ≡ edits_at other (k + 0) → l ≡ edits_at other k
  first_at other l k h = let same : k + 0 ≡ k = omega arith in subst (λ (n : ℕ). l ≡ edits_at other n) same h

  made_here : (k : ℕ) (old now : List Edit) → old ≡ edits_at journal k → now ≡ edits_at (longer journal e) k
      → Makes at (IsPlaced journal) (IsPlaced (longer journal e)) (still_placed journal e) k old now
  made_here k old now was become d m = record {
    before = journal;
    entry = e;
    behind = [];
    is = refl;
    at = is;
    makes = subst (λ (l : List Edit). IsMade l (edits_at (longer journal e) k) d) was
        (subst (λ (l : List Edit). IsMade old l d) become m);
  }

  made_all : (k : ℕ) (old ss : List (Option WindowStory)) → Was k old → Now k ss
      → MakesAll at (IsPlaced journal) (IsPlaced (longer journal e)) (still_placed journal e) k old ss
  made_all k old [] was become = tt
  made_all k [] (o ∷ ss) was become = (
    made_here k [] (edits_if o) (first_at journal [] k (was 0)) (first_at (longer journal e) (edits_if o) k
        (become 0)),
    made_all (k + 1) [] ss (λ i. moved_on journal [] k i (was (suc i)))
        (λ i. moved_on (longer journal e) (edits_if (live_at ss i)) k i (become (suc i))),
  )
  made_all k (x ∷ old) (o ∷ ss) was become = (
    made_here k (edits_if x) (edits_if o) (first_at journal (edits_if x) k (was 0))
        (first_at (longer journal e) (edits_if o) k (become 0)),
    made_all (k + 1) old ss (λ i. moved_on journal (edits_if (live_at old i)) k i (was (suc i)))
        (λ i. moved_on (longer journal e) (edits_if (live_at ss i)) k i (become (suc i))),
  )

-- from the front on
at_front : (journal : Journal) (i : ℕ) → edits_at journal i ≡ edits_at journal (0 + i)
at_front journal i = let same : i ≡ 0 + i = omega arith in ap (λ (n : ℕ). edits_at journal n) same

step_windows : (s : State) (e : Event) → (step s e).windows ≡ all_changed_stories (s.entries + 1) s.windows
    (changes_in (doing_of (present s) e).deeds)
unfolding step
step_windows s e = refl

step_known : (journal : Journal) (e : Event) → AllKnown (IsPlaced journal) 0 (run journal).windows
    → AllKnown (IsPlaced (longer journal e)) 0 (run (longer journal e)).windows
step_known journal e known =
    let s : State = run journal in
    let at : ℕ = s.entries + 1 in
    let cs : List Change = changes_in (doing_of (present s) e).deeds in
    let next : (run (longer journal e)).windows ≡ all_changed_stories at s.windows cs = ap (λ (x : State). x.windows)
    (run-push journal e) ∙ step_windows s e in
    let stand : AllStand at (IsPlaced journal) 0 s.windows (run (longer journal e)).windows =
    subst (AllStand at (IsPlaced journal) 0 s.windows) (sym next) (changes_stand at (IsPlaced journal) 0 s.windows
    s.windows cs (begins at (IsPlaced journal) 0 s.windows known))
    in
    ends at (IsPlaced journal) (IsPlaced (longer journal e)) (still_placed journal e) 0 s.windows
    (run (longer journal e)).windows
    (made_all journal e at (ap (λ (n : ℕ). n + 1) (sym (entries_counted journal))) 0 s.windows
    (run (longer journal e)).windows (at_front journal) (at_front (longer journal e)))
    stand

-- ---- every journal

known_more : (before : Journal) (events : List Event) → AllKnown (IsPlaced before) 0 (run before).windows
    → AllKnown (IsPlaced (followed before events)) 0 (run (followed before events)).windows
known_more before [] h = subst (λ (l : Journal). AllKnown (IsPlaced l) 0 (run l).windows) (sym (none_more before)) h
known_more before (e ∷ events) h =
    subst (λ (l : Journal). AllKnown (IsPlaced l) 0 (run l).windows) (goes_on before e events)
    (known_more (longer before e) events (step_known before e h))

none_known : (format : Format) → AllKnown (IsPlaced (journal_in format [])) 0 (run (journal_in format [])).windows
unfolding run
none_known format = tt

known : (journal : Journal) → AllKnown (IsPlaced journal) 0 (run journal).windows
known journal = known_more (journal_in journal.format []) journal.events (none_known journal.format)

-- ---- one window of them, by its number

known_at : (P : ℕ → ℕ → Done → Type 0) (k i n : ℕ) (ss : List (Option WindowStory)) → k + i ≡ n → AllKnown P k ss
    → KnownIfLive (P n) (live_at ss i)
known_at P k zero n [] e h = tt
known_at P k (suc i) n [] e h = tt
known_at P k zero n (o ∷ ss) e h = let same : k ≡ n = omega (arith, e) in
    subst (λ (m : ℕ). KnownIfLive (P m) o) same h.0
known_at P k (suc i) n (o ∷ ss) e h = known_at P (k + 1) i n ss (omega (arith, e)) h.1

by_number : (before : Journal) (w : ℕ) → eqb w 0 ≡ false → edits_at before (w - 1) ≡ edits_of before w
by_number before w e = sym (ap (λ (b : Bool). edits_if (cond b None (live_at (run before).windows (w - 1)))) e)

of_number : (journal : Journal) (w number : ℕ) (d : Done) → eqb w 0 ≡ false → IsPlaced journal (w - 1) number d
    → IsMadeAt journal w number d
of_number journal w number d e h = record {
  before = h.before;
  entry = h.entry;
  behind = h.behind;
  is = h.is;
  at = h.at;
  makes = subst (λ (l : List Edit). IsMade l (edits_of (longer h.before h.entry) w) d) (by_number h.before w e)
      (subst (λ (l : List Edit). IsMade (edits_at h.before (w - 1)) l d) (by_number (longer h.before h.entry) w e)
      h.makes);
}

all_begun : (journal : Journal) (w : ℕ) (gs : List DoneGroup) → eqb w 0 ≡ false →
    AllByRecursion (IsKnown (IsPlaced journal (w - 1))) gs → AllByRecursion (IsBegun journal w) gs
all_begun journal w [] e h = tt
all_begun journal w (g ∷ gs) e h = (
  record { first = h.0.first; there = h.0.there; begun = of_number journal w g.number h.0.first e h.0.known },
  all_begun journal w gs e h.1,
)

pub groups_begun : (journal : Journal) → GroupsAreBegun journal
groups_begun journal w s is =
    elim (eqb w 0) as (λ b. eqb w 0 ≡ b → cond b None (live_at (run journal).windows (w - 1)) ≡ Some s
    → AllByRecursion (IsBegun journal w) (s.body.history.past ++ s.body.history.future)) [
      | true ↦ λ e k. absurd cc
      | false ↦ λ e k. let same : 0 + (w - 1) ≡ w - 1 = omega arith in
          all_begun journal w (s.body.history.past ++ s.body.history.future) e
          (subst (KnownIfLive (IsPlaced journal (w - 1))) k (known_at (IsPlaced journal) 0 (w - 1) (w - 1)
          (run journal).windows same (known journal)))
    ] refl is

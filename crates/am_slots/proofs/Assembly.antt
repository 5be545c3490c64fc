-- From what the seats of all slots have to what the journal has.
use Rattle.std.proofs.Common.{◌≡◌, ℕ, ◌+◌, ◌<◌, ◌≤◌, Bool, true, false, cond, ◌==◌, List, [], ◌∷◌, ◌++◌, length, Option}
use Rattle.std.proofs.Common.{Some, None, refl, sym, ap, subst, ◌∙◌, append_assoc, arith}
use Rattle.std.specs.Prelude.{filter}
use Rattle.std.specs.List.{AllByRecursion}
use Rattle.std.proofs.lemmas.Bool.{eq-eqb, ne_eqb, eqb-true, or_from}
use Rattle.turn_lock.specs.Journal.{total, once, times, AllStand}
use Rattle.turn_lock.specs.Kinds.{AllFail, NoneHas, KeepsOrder}
use Rattle.am_journal.specs.declared.ending.Ending.{Ending}
use Rattle.am_journal.specs.declared.event.Event.{Event}
use Rattle.am_journal.specs.declared.event.Event.TheVariants as event
use Rattle.am_journal.specs.declared.event.Refused.{Refused}
use Rattle.am_journal.specs.declared.event.Refused.TheVariants as why
use Rattle.am_journal.specs.declared.event.Why.{Why}
use Rattle.am_journal.specs.declared.event.Why.TheVariants as reason
use Rattle.am_counter.specs.Laws.{TellsConnections}
use Rattle.am_counter.specs.Played.{IsPlayed, has_dial, is_dial_of, Refuses}
use Rattle.am_serve.specs.Gained.{Rule, Answers, plain}
use Rattle.am_serve.specs.Script.{is_scripted}
use Rattle.am_slots.specs.Connection.{is_of, IsSilent}
use Rattle.am_slots.specs.Serving.{EachIs}
use Rattle.am_slots.specs.Slots.{Outside, Has, EachHas, IsOf}
use Rattle.am_slots.specs.declared.slot.Slot.{Slot}
use Rattle.am_slots.specs.declared.slot.Slot.TheVariants as slot
use Rattle.am_slots.proofs.Gathered.{none-append, filter_fails}
use Rattle.am_serve.proofs.HangUps.{played_front}
use Rattle.am_slots.specs.Sides.{WasRefused}
use Rattle.am_slots.proofs.OneServed.{no_dial, served}
use Rattle.am_slots.proofs.Own.{reads_fail, writes_fail}

-- ---- one event

-- an event is of one connection
of_another : (c d : ℕ) (e : Event) → (c ≡ d → ⊥) → is_of c e ≡ true → is_of d e ≡ false
of_another c d (event.Dial n) other h = ne_eqb n d (λ q. other (sym (eqb-true n c h) ∙ q))
of_another c d (event.Msg n msg) other h = ne_eqb n d (λ q. other (sym (eqb-true n c h) ∙ q))
of_another c d (event.Hang n why) other h = ne_eqb n d (λ q. other (sym (eqb-true n c h) ∙ q))
of_another c d (event.Took n) other h = ne_eqb n d (λ q. other (sym (eqb-true n c h) ∙ q))
of_another c d e other h = refl

-- and then it stands in no script
unscripted : (c : ℕ) (e : Event) → is_of c e ≡ true → is_scripted e ≡ false
unscripted c (event.Dial n) h = refl
unscripted c (event.Msg n msg) h = refl
unscripted c (event.Hang n why) h = refl
unscripted c (event.Took n) h = refl
unscripted c e h = absurd cc

of_none : (c : ℕ) (e : Event) → is_scripted e ≡ true → is_of c e ≡ false
of_none c (event.Dial n) h = absurd cc
of_none c (event.Msg n msg) h = absurd cc
of_none c (event.Hang n why) h = absurd cc
of_none c (event.Took n) h = absurd cc
of_none c e h = refl

-- ---- the script's entries

scripted_fails : (c : ℕ) (xs : List (ℕ × Event)) → AllByRecursion (λ (x : ℕ × Event). is_scripted x.1 ≡ true) xs
    → AllFail (is_of c) xs
scripted_fails c [] a = tt
scripted_fails c (x ∷ xs) a = (of_none c x.1 a.0, scripted_fails c xs a.1)

all_scripted : (xs : List (ℕ × Event)) → AllByRecursion (λ (x : ℕ × Event). is_scripted x.1 ≡ true) xs
    → filter is_scripted (plain xs) ≡ plain xs
all_scripted [] a = refl
all_scripted (x ∷ xs) a = ap (λ b. cond b (x.1 ∷ filter is_scripted (plain xs)) (filter is_scripted (plain xs))) a.0
    ∙ ap (λ l. x.1 ∷ l) (all_scripted xs a.1)

-- ---- a connection that was not dialled

none_dialled : (conn : ℕ) (xs rest : List Event) → filter (is_of conn) (xs ++ rest) ≡ [] → has_dial xs conn ≡ false
none_dialled conn [] rest none = refl
none_dialled conn (x ∷ xs) rest none =
    elim (is_of conn x) as (λ b. is_of conn x ≡ b → has_dial (x ∷ xs) conn ≡ false) [
      | true ↦ λ e. absurd (let more : x ∷ filter (is_of conn) (xs ++ rest) ≡ [] =
          sym (ap (λ b. cond b (x ∷ filter (is_of conn) (xs ++ rest)) (filter (is_of conn) (xs ++ rest))) e) ∙ none in
          cc)
      | false ↦ λ e. let others : filter (is_of conn) (xs ++ rest) ≡ [] =
          sym (ap (λ b. cond b (x ∷ filter (is_of conn) (xs ++ rest)) (filter (is_of conn) (xs ++ rest))) e) ∙ none in
          or_from (is_dial_of conn x) (has_dial xs conn) (no_dial conn x e) (none_dialled conn xs rest others)
    ] refl

-- its dialling was enabled, so it was refused for memory alone
for_memory : (enabled : Rule) (journal : List Event) (answer : Answers) → TellsConnections enabled answer
    → IsPlayed enabled journal → (conn : ℕ) → conn < 64 → IsSilent journal conn
    → (refused : Refused) → WasRefused enabled conn journal refused → refused ≡ why.NoMemory
for_memory enabled journal answer laws played conn low silent refused was = by_cause refused
    (subst (λ (r : Option Why). Refuses refused r) allowed was.2)
  where
    now_played : IsPlayed enabled was.0
    now_played = played_front enabled [] was.0 was.1.0 (subst (IsPlayed enabled) (sym was.1.1) played)

    undialled : has_dial was.0 conn ≡ false
    undialled = none_dialled conn was.0 was.1.0 (ap (filter (is_of conn)) was.1.1 ∙ silent)

    allowed : enabled was.0 (event.Dial conn) ≡ None
    allowed = laws.dial was.0 conn now_played low ∙ ap (λ (b : Bool). cond b (Some reason.Dialed) None) undialled

    by_cause : (r : Refused) → Refuses r None → r ≡ why.NoMemory
    by_cause (why.NotEnabled x) h = absurd cc
    by_cause why.NoMemory h = refl

module _ {G L S K : Type 0} (o : Outside G L S K) (enabled : Rule) (unsent : List Event → ℕ → List ℕ) (answer : Answers)
    (journal : List Event) where
  -- ---- kinds that the lists of slots have none of

  none_of_empty : (p : Event → Bool) (own : List (List (ℕ × Event))) → own ≡ [] ∷ [] → NoneHas p own
  none_of_empty p own e = let P : List (List (ℕ × Event)) → Type 0 = λ l. NoneHas p l in subst P (sym e) (tt, tt)

  none_of_slot : (p : Event → Bool) (conn : ℕ) (s : Slot G L S K) (own : List (List (ℕ × Event)))
      → ((e : Event) → is_of conn e ≡ true → p e ≡ false)
      → Has o enabled unsent answer conn journal s own → NoneHas p own
  none_of_slot p conn slot.Unbound own h has = none_of_empty p own has
  none_of_slot p conn (slot.Bound gate) own h has = none_of_empty p own has
  none_of_slot p conn (slot.Unlinked gate) own h has = none_of_empty p own has
  none_of_slot p conn (slot.Unhalved gate link) own h has = none_of_empty p own has
  none_of_slot p conn (slot.Undialled x refused) own h has = none_of_empty p own has.0
  none_of_slot p conn (slot.Served x read wrote) own h has =
      let P : List (List (ℕ × Event)) → Type 0 = λ l. NoneHas p l in
      let here : (conn == conn) ≡ true = eq-eqb conn conn refl in
      let hang : (why : Ending) → p (event.Hang conn why) ≡ false = λ why. h (event.Hang conn why) here in
      let reads = reads_fail enabled answer conn journal (o.link x.link).begins (o.reader x.reader).bytes read has.reads
      has.reading p
      (h (event.Dial conn) here) (λ msg. h (event.Msg conn msg) here) (λ why e. hang why) in
      let writes = writes_fail unsent conn journal wrote (o.writer x.writer).bytes has.writes has.writing p
      (h (event.Took conn) here) hang in
      subst P (sym has.are) (reads, (writes, tt))

  none_of_slots : (p : Event → Bool) (conn : ℕ) (slots : List (Slot G L S K)) (lists : List (List (ℕ × Event)))
      → ((c : ℕ) (e : Event) → conn ≤ c → c < conn + length slots → is_of c e ≡ true → p e ≡ false)
      → EachHas o enabled unsent answer conn journal slots lists → NoneHas p lists
  none_of_slots p conn [] lists h has = let P : List (List (ℕ × Event)) → Type 0 = λ l. NoneHas p l in
      subst P (sym has) tt
  none_of_slots p conn (s ∷ slots) lists h has =
      let P : List (List (ℕ × Event)) → Type 0 = λ l. NoneHas p l in
      let here : NoneHas p has.0 = none_of_slot p conn s has.0 (λ e is. h conn e (omega arith) (omega arith) is)
      has.3 in
      let others : NoneHas p has.1 = none_of_slots p (conn + 1) slots has.1
      (λ c e low high is. h c e (omega (arith, low)) (omega (arith, high)) is) has.4 in
      subst P (sym has.2) (none-append p has.0 has.1 here others)

  -- ---- all slots

  module _ (laws : TellsConnections enabled answer) (played : IsPlayed enabled journal) (mine : List (ℕ × Event))
      (own : List (List (ℕ × Event)))
      (stand : AllStand journal (mine ∷ own)) (each_once : (k : ℕ)
      → total (times k) (mine ∷ own) ≡ once (length journal) k)
      (order : KeepsOrder journal (mine ∷ own)) (scripted : AllByRecursion (λ (x : ℕ × Event). is_scripted x.1 ≡ true)
      mine) where
    -- a connection that no list has an event of
    silent : (conn : ℕ) → NoneHas (is_of conn) own → IsSilent journal conn
    silent conn none = order (is_of conn) [] own mine refl tt none
        ∙ filter_fails (is_of conn) mine (scripted_fails conn mine scripted)

    -- one slot, with the lists before and after its own
    is_of_slot : (conn : ℕ) (s : Slot G L S K) (before lists after : List (List (ℕ × Event)))
        → own ≡ before ++ (lists ++ after) → conn < 64
        → NoneHas (is_of conn) before → NoneHas (is_of conn) after → Has o enabled unsent answer conn journal s lists
        → IsOf o enabled unsent answer journal conn s
    is_of_slot conn s before lists after are low nb na has = by_cases s has
      where
        empty : lists ≡ [] ∷ [] → IsSilent journal conn
        empty e =
            let P : List (List (ℕ × Event)) → Type 0 = λ l. NoneHas (is_of conn) l in
            let here : NoneHas (is_of conn) lists = none_of_empty (is_of conn) lists e in
            silent conn (subst P (sym are) (none-append (is_of conn) before (lists ++ after) nb
            (none-append (is_of conn) lists after here na)))

        by_cases : (s : Slot G L S K) → Has o enabled unsent answer conn journal s lists
            → IsOf o enabled unsent answer journal conn s
        by_cases slot.Unbound has = empty has
        by_cases (slot.Bound gate) has = empty has
        by_cases (slot.Unlinked gate) has = empty has
        by_cases (slot.Unhalved gate link) has = empty has
        by_cases (slot.Undialled x refused) has = let none = empty has.0 in
            (none, for_memory enabled journal answer laws played conn low none refused has.1)
        by_cases (slot.Served x read wrote) has =
            let all : mine ∷ own ≡ (mine ∷ before) ++ has.reads ∷ has.writes ∷ after = ap (λ l. mine ∷ l) are
            ∙ ap (λ l. (mine ∷ before) ++ (l ++ after)) has.are in
            served journal (mine ∷ own) order conn (mine ∷ before) after has.reads has.writes all
            (scripted_fails conn mine scripted, nb) na
            enabled unsent answer (o.link x.link).begins (o.reader x.reader).bytes wrote (o.writer x.writer).bytes
            has.writing laws played stand each_once low has.ended read has.reading

    -- slots from this connection on
    each_is : (conn : ℕ) (slots : List (Slot G L S K)) (before lists : List (List (ℕ × Event)))
        → own ≡ before ++ lists → conn + length slots ≤ 64
        → ((d : ℕ) → conn ≤ d → NoneHas (is_of d) before) → EachHas o enabled unsent answer conn journal slots lists
        → EachIs o enabled unsent answer journal conn slots
    each_is conn [] before lists are few nb has = tt
    each_is conn (s ∷ slots) before lists are few nb has =
        let here : own ≡ before ++ (has.0 ++ has.1) = are ∙ ap (λ l. before ++ l) has.2 in
        let after : NoneHas (is_of conn) has.1 =
        none_of_slots (is_of conn) (conn + 1) slots has.1 (λ c e low high is. of_another c conn e
        (λ q. omega (arith, low, q)) is) has.4 in
        let next : (d : ℕ) → conn + 1 ≤ d → NoneHas (is_of d) (before ++ has.0) =
        λ d le. none-append (is_of d) before has.0 (nb d (omega (arith, le)))
        (none_of_slot (is_of d) conn s has.0 (λ e is. of_another conn d e (λ q. omega (arith, le, q)) is) has.3) in (
          is_of_slot conn s before has.0 has.1 here (omega (arith, few)) (nb conn (omega arith)) after has.3,
          each_is (conn + 1) slots (before ++ has.0) has.1 (here ∙ sym (append_assoc before has.0 has.1))
              (omega (arith, few)) next has.4,
        )

-- ---- the journal of a server that has ended

-- what the journal has of each slot and of all other connections, and its events of windows
pub record Assembled {G L S K : Type 0} (o : Outside G L S K) (enabled : Rule) (unsent : List Event → ℕ → List ℕ)
    (answer : Answers) (journal : List Event) (mine : List (ℕ × Event))
    (slots : List (Slot G L S K)) : Type 0 where
  pub each : EachIs o enabled unsent answer journal 0 slots
  pub others : (conn : ℕ) → length slots ≤ conn → IsSilent journal conn
  pub events : filter is_scripted journal ≡ plain mine

pub assembled : {G L S K : Type 0} (o : Outside G L S K) (enabled : Rule) (unsent : List Event → ℕ → List ℕ)
    (answer : Answers) (laws : TellsConnections enabled answer)
    (journal : List Event) (played : IsPlayed enabled journal) (mine : List (ℕ × Event)) (slots : List (Slot G L S K))
    (own : List (List (ℕ × Event)))
    (stand : AllStand journal (mine ∷ own)) (each_once : (k : ℕ) → total (times k) (mine ∷ own) ≡ once (length journal)
    k) (order : KeepsOrder journal (mine ∷ own))
    (has : EachHas o enabled unsent answer 0 journal slots own) (scripted : AllByRecursion
    (λ (x : ℕ × Event). is_scripted x.1 ≡ true) mine) (few : length slots ≤ 64)
    → Assembled o enabled unsent answer journal mine slots
assembled o enabled unsent answer laws journal played mine slots own stand each_once order has scripted few =
    let none : (p : Event → Bool) → ((c : ℕ) (e : Event) → 0 ≤ c → c < 0 + length slots
    → is_of c e ≡ true → p e ≡ false) → NoneHas p own =
    λ p h. none_of_slots o enabled unsent answer journal p 0 slots own h has in
    let others : (conn : ℕ) → length slots ≤ conn → NoneHas (is_of conn) own =
    λ conn le. none (is_of conn) (λ c e low high is. of_another c conn e (λ q. omega (arith, le, high, q)) is) in
    record {
      each = each_is o enabled unsent answer journal laws played mine own stand each_once order scripted 0 slots [] own
          refl (omega (arith, few)) (λ d le. tt) has;
      others = λ conn le. silent o enabled unsent answer journal laws played mine own stand each_once order scripted
          conn (others conn le);
      events = order is_scripted [] own mine refl tt (none is_scripted (λ c e low high is. unscripted c e is))
          ∙ all_scripted mine scripted;
    }

-- Each sink that has not failed got all replies, where memory ran out for nothing that no hang-up tells of.
use Rattle.std.proofs.Common.{◌≡◌, ◌≢◌, inl, inr, ℕ, ◌+◌, ◌<◌, ◌≤◌, Bool, true, false, cond, List, [], ◌∷◌, ◌++◌, ◌∙◌}
use Rattle.std.proofs.Common.{length, Option, Some, None, refl, sym, ap, subst, arith}
use Rattle.std.specs.Prelude.{◌||◌}
use Rattle.std.specs.List.{list_any, AllByRecursion}
use Rattle.am_base.specs.Outside.{AreTold, HasRisen, told_then}
use Rattle.am_base.specs.Seen.{Seen}
use Rattle.am_journal.specs.declared.ending.Ending.{Ending}
use Rattle.am_journal.specs.declared.ending.Ending.TheVariants as ending
use Rattle.am_journal.specs.declared.event.Journal.{Journal}
use Rattle.am_journal.specs.Journal.{journal_in}
use Rattle.am_serve.specs.declared.scripting.ScriptEnd.{ScriptEnd}
use Rattle.am_serve.specs.declared.scripting.ScriptEnd.TheVariants as script
use Rattle.am_serve.specs.declared.writing.WriteEnd.{WriteEnd}
use Rattle.am_serve.specs.declared.writing.WriteEnd.TheVariants as write
use Rattle.acme_core.specs.Asks.{answers_in}
use Rattle.acme_core.specs.Run.{enabled_in, output_in, AreEnabled}
use Rattle.core_laws.specs.Replies.{replies}
use Rattle.core_laws.specs.Laws.{EndedGetAllReplies}
use Rattle.am_slots.specs.Connection.{endings_of}
use Rattle.am_slots.specs.Serving.{EachIs, EachTells}
use Rattle.am_slots.specs.Slots.{Outside, IsCause, IsOf, IsServed, Tells}
use Rattle.am_slots.specs.declared.slot.Objects.{Objects}
use Rattle.am_slots.specs.declared.slot.Slot.{Slot}
use Rattle.am_slots.specs.declared.slot.Slot.TheVariants as slot
use Rattle.am_server.specs.Ends.{AllDone, Writes, end_at, end_done, ended_otherwise, wants_untold}
use Rattle.am_server.specs.Replied.{GotAll}
use Rattle.am_server.specs.Served.{ended_with, first_of, served_from, served_of}
use Rattle.am_server.specs.Texts.{has_failed}
use Rattle.am_server.specs.declared.served.ServedEnd.{ServedEnd}
use Rattle.am_server.specs.declared.served.ServedEnd.TheVariants as served
use Rattle.am_server.specs.declared.writing.ServeEnd.{ServeEnd}
use Rattle.am_server.specs.declared.writing.ServeEnd.TheVariants as end

-- what a sink holds that began empty
told_whole : (held empty : Option (List ℕ)) (bytes : List ℕ) → AreTold empty [] → held ≡ told_then empty bytes
    → AreTold held bytes
told_whole held None bytes none is = subst (λ (h : Option (List ℕ)). AreTold h bytes) (sym is) tt
told_whole held (Some before) bytes none is = subst (λ (h : Option (List ℕ)). AreTold h bytes) (sym is)
    (ap (λ (l : List ℕ). l ++ bytes) none)

pub risen_above : (n : ℕ) → HasRisen 0 n → n ≡ 0 → ⊥
risen_above n (inl lt) z = absurd (omega (arith, lt, z))
risen_above n (inr le) z = absurd (omega (arith, le, z))

-- the one cause of a connection's hang-ups is the one that is told
pub cause_told : (causes : List Ending) (cause why : Ending) → causes ≡ cause ∷ []
    → ended_with (first_of causes) ≡ served.Ended why → cause ≡ why
cause_told causes cause why one is = let same : served.Ended cause ≡ served.Ended why =
    ap (λ (l : List Ending). ended_with (first_of l)) (sym one) ∙ is in cc

for_memory : (why : Ending) → ended_otherwise (Some why) ≡ false → why ≡ ending.NoMemory
for_memory ending.End h = absurd cc
for_memory ending.Torn h = absurd cc
for_memory ending.ReadFault h = absurd cc
for_memory (ending.Broken what) h = absurd cc
for_memory ending.Spent h = absurd cc
for_memory ending.Gone h = absurd cc
for_memory ending.NoMemory h = refl

neither : (a b : Bool) → (a || b) ≡ false → (a ≡ false) × (b ≡ false)
neither true b h = absurd cc
neither false b h = (refl, h)

-- ---- one slot

module _ {G L S K : Type 0} (m : Outside G L S K) (journal : Journal) (law : EndedGetAllReplies)
    (played : AreEnabled journal) where
  got_served : (n : ℕ) (x : Objects G L S K) (read : Option Ending) (wrote : WriteEnd) (why : Ending) → n < 64
      → IsServed (enabled_in journal.format) (output_in journal.format) (answers_in journal.format)
      journal.events n (m.link x.link).begins (m.reader x.reader).bytes read wrote
      (m.writer x.writer).bytes → Tells m (slot.Served x read wrote)
      → wants_untold (slot.Served x read wrote) ≡ false → IsCause read wrote why → why ≢ ending.NoMemory
      → (m.writer x.writer).faults ≡ 0
      → AreTold (m.writer x.writer).bytes (replies journal n)
  got_served n x read write.Ended why low is tells told caused other fine =
      let d = is.drained refl in
      told_whole (m.writer x.writer).bytes is.empty (replies journal n) is.begins_empty
      (is.gets ∙ ap (told_then is.empty) (law (journal_in journal.format d.0) journal n low played
      (d.1.0, ap (journal_in journal.format) d.1.1) d.2 d.3))
  got_served n x read write.Gone why low is tells told caused other fine =
      absurd (risen_above (m.writer x.writer).faults (tells.3 refl) fine)
  got_served n x None write.NoMemory why low is tells told caused other fine = absurd (other caused)
  got_served n x (Some read) write.NoMemory why low is tells told caused other fine =
      absurd (other (caused ∙ for_memory read told))

  got_one : (n : ℕ) (s : Slot G L S K) → n < 64
      → IsOf m (enabled_in journal.format) (output_in journal.format) (answers_in journal.format)
      journal.events n s → Tells m s
      → wants_untold s ≡ false → GotAll m journal (served_of journal.events n s)
  got_one n slot.Unbound low is tells told = λ why sink ended other there fine. absurd cc
  got_one n (slot.Bound gate) low is tells told = absurd tells
  got_one n (slot.Unlinked gate) low is tells told = λ why sink ended other there fine. absurd cc
  got_one n (slot.Unhalved gate link) low is tells told = λ why sink ended other there fine. absurd cc
  got_one n (slot.Undialled x refused) low is tells told = absurd cc
  got_one n (slot.Served x read wrote) low is tells told = λ why sink ended other there fine.
      let cause : is.cause ≡ why = cause_told (endings_of journal.events n) is.cause why is.ended ended in
      let same : x.writer ≡ sink = cc in
      let caused : IsCause read wrote why = subst (λ (c : Ending). IsCause read wrote c) cause is.caused in
      subst (λ (k : K). AreTold (m.writer k).bytes (replies journal n)) same
      (got_served n x read wrote why low is tells told caused other (ap (λ (x : K). (m.writer x).faults) same ∙ fine))

  -- ---- all slots

  pub got_all : (path : List ℕ) (n : ℕ) (slots : List (Slot G L S K)) → n + length slots ≤ 64
      → EachIs m (enabled_in journal.format) (output_in journal.format) (answers_in journal.format)
      journal.events n slots
      → EachTells m path n slots
      → list_any wants_untold slots ≡ false → AllByRecursion (GotAll m journal) (served_from journal.events n slots)
  got_all path n [] few is tells none = tt
  got_all path n (s ∷ slots) few is tells none =
      let both = neither (wants_untold s) (list_any wants_untold slots) none in (
        got_one n s (omega (arith, few)) is.0 tells.1 both.0,
        got_all path (n + 1) slots (omega (arith, few)) is.1
            tells.2 both.1,
      )

-- ---- how serving ended

done_well : (host untold failed : Bool) → AllDone (cond host end.HostFault (end_done untold failed)) → untold ≡ false
done_well true untold failed h = absurd h
done_well false true failed h = absurd h
done_well false false failed h = refl

module _ {G L S K : Type 0} (journal : Journal) (slots : List (Slot G L S K)) where
  well_at : (done : ScriptEnd) (failed : Bool) → AllDone (end_at slots done failed)
      → list_any wants_untold slots ≡ false
  well_at (script.Refused line why) failed h = absurd h
  well_at script.NoMemory failed h = let never : true ≡ false = done_well (list_any has_failed slots) true failed h in
      absurd cc
  well_at script.Done failed h = done_well (list_any has_failed slots) (list_any wants_untold slots) failed h

  pub wrote_well : (done : ScriptEnd) (o : Seen) (e : ServeEnd) → Writes journal slots done o e → AllDone e
      → list_any wants_untold slots ≡ false
  wrote_well done o e (inl w) h = well_at done false (subst AllDone w.0 h)
  wrote_well done o e (inr (inl w)) h = well_at done true (subst AllDone w.0 h)
  wrote_well done o e (inr (inr w)) h = absurd (subst AllDone w.0 h)

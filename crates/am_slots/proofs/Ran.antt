-- What the seat that has all entries at the end says of the journal.
use Rattle.std.proofs.Common.{◌≡◌, ℕ, ◌≤◌, List, true, ◌∙◌, length, sym, subst, ap, arith}
use Rattle.std.specs.List.{AllByRecursion}
use Rattle.turn_lock.specs.Journal.{total, once, times, AllStand}
use Rattle.turn_lock.specs.Kinds.{KeepsOrder}
use Rattle.am_journal.specs.declared.event.Event.{Event}
use Rattle.am_counter.specs.Known.{Known, lists_of}
use Rattle.am_counter.specs.Laws.{TellsConnections}
use Rattle.am_counter.specs.Played.{IsPlayed}
use Rattle.am_serve.specs.Gained.{Rule, Answers, plain}
use Rattle.am_serve.specs.Script.{is_scripted}
use Rattle.am_serve.specs.declared.scripting.ScriptEnd.{ScriptEnd}
use Rattle.am_slots.specs.Serving.{ServesAll, IsRun}
use Rattle.am_slots.specs.Slots.{Outside}
use Rattle.am_slots.specs.declared.slot.Slot.{Slot}
use Rattle.am_slots.proofs.Assembly.{assembled}
use Rattle.am_slots.proofs.Scripted.{script_scripted}

pub ran : {G L S K : Type 0} (o : Outside G L S K) (enabled : Rule) (unsent : List Event → ℕ → List ℕ)
    (answer : Answers) (laws : TellsConnections enabled answer)
    (clients : ℕ) (script : List ℕ) (slots : List (Slot G L S K)) (end : ScriptEnd) (w : Known)
    (played : IsPlayed enabled w.seen)
    (own : AllStand w.seen (lists_of w)) (each_once : (k : ℕ) → total (times k) (lists_of w) ≡ once (length w.seen) k)
    (order : KeepsOrder w.seen (lists_of w))
    (count : length slots ≡ clients) (few : clients ≤ 64) (serves : ServesAll o enabled unsent answer clients script
    slots end w)
    → IsRun o enabled unsent answer clients script w.seen slots end
ran o enabled unsent answer laws clients script slots end w played own each_once order count few serves =
    let scripted = subst (λ (l : List (ℕ × Event)). AllByRecursion (λ (x : ℕ × Event). is_scripted x.1 ≡ true) l)
    (sym serves.mine) (script_scripted enabled answer clients script end serves.known serves.did) in
    let all = assembled o enabled unsent answer laws w.seen played w.mine slots w.ended own each_once order serves.each
    scripted (omega (arith, count, few)) in record {
      each = all.each;
      others = λ conn le. all.others conn (omega (arith, count, le));
      did = record {
        known = serves.known;
        seen = serves.seen;
        did = serves.did;
        events = all.events ∙ ap plain
            serves.mine;
      };
    }

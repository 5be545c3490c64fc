-- What is ready for an event that isn't a hang-up.
use Rattle.std.proofs.Common.{◌≡◌, ℕ, ◌+◌, ◌<◌, ◌≤◌, ◌^◌, List, length, None, Result, Ok, Err, sym, ap, subst, arith}
use Rattle.std.specs.Prelude.{IfOk, OnOk}
use Rattle.am_text.specs.declared.memory.NoMemory.{NoMemory}
use Rattle.am_journal.specs.declared.event.Event.{Event}
use Rattle.am_journal.specs.Lawful.{IsLawful}
use Rattle.core_parts.specs.declared.connection.Connection.{Connection}
use Rattle.core_intents.specs.declared.intent.Intent.{Intent}
use Rattle.core_parts.specs.declared.parts.Parts.{Parts}
use Rattle.core_parts.specs.Connections.{connections_after, live_count}
use Rattle.core_intents.specs.Doings.{enabled_at, doing_of, resolved, CanBeDone}
use Rattle.core_intents.specs.Intents.{intent_of}
use Rattle.core_parts.specs.Kinds.{kind_of}
use Rattle.core_parts.specs.Parts.{present_of}
use Rattle.core_parts.specs.States.{Present}
use Rattle.core_intents.proofs.Kinded.{numbered}
use Rattle.core_closing.specs.declared.prepared.Prepared.{Prepared}
use Rattle.core_steps.specs.Ready.{HasReady}
use Rattle.acme_core.specs.Kept.{HasEntries, IsPrepared}
use Rattle.acme_core.proofs.Few.{lives_more, lives_few}

-- there is an entry for it, and for the hang-ups of the connections that then live
pub entry_room : (old new : Parts) (e : Event) (spare len : ℕ) → present_of new ≡ present_of old
    → length old.connections.items ≡ 64 → IsLawful e → old.entries ≡ len
    → 66 ≤ spare → len + 66 < 2 ^ 64
    → HasEntries (present_of old).entries spare (live_count (connections_after new.connections.items (kind_of e)) + 1)
entry_room old new e spare len state conns lawful counted room fits =
    let same : new.connections.items ≡ old.connections.items = ap (λ (x : Present). x.connections) state in
    let most : live_count (connections_after old.connections.items (kind_of e)) ≤ live_count old.connections.items + 1 =
    lives_more old.connections.items (kind_of e) conns (numbered e lawful) in
    let few : live_count old.connections.items ≤ 64 = omega (arith, conns, lives_few old.connections.items) in
    subst (λ (cs : List Connection). HasEntries old.entries spare (live_count (connections_after cs (kind_of e)) + 1))
    (sym same)
    (record { room = omega (arith, most, few, room); numbers = omega (arith, most, few, counted, fits) })

pub readied : (s : Present) (spare : ℕ) (parts : Parts) (e : Event) (i : Intent) (r : Result Prepared NoMemory)
    → IsLawful e → enabled_at s e ≡ None → i ≡ intent_of s e
    → HasEntries s.entries spare (live_count (connections_after parts.connections.items (kind_of e)) + 1)
    → IfOk r (λ p. p.event ≡ e) → OnOk r (CanBeDone s (resolved s i)) → IfOk r (λ p. HasReady parts p (resolved s i))
    → IfOk r (IsPrepared s spare parts)
readied s spare parts e i (Ok p) lawful allowed meant entries is can ready = record {
  lawful = subst IsLawful (sym is) lawful;
  allowed = subst (λ (x : Event). enabled_at s x ≡ None) (sym is) allowed;
  possible = subst (λ (x : Event). CanBeDone s (doing_of s x)) (sym is)
      (subst (λ (j : Intent). CanBeDone s (resolved s j)) meant can);
  ready = subst (λ (x : Event). HasReady parts p (doing_of s x)) (sym is)
      (subst (λ (j : Intent). HasReady parts p (resolved s j)) meant ready);
  entries = subst (λ (x : Event). HasEntries s.entries spare (live_count
      (connections_after parts.connections.items (kind_of x)) + 1)) (sym is) entries;
}
readied s spare parts e i (Err x) lawful allowed meant entries is can ready = tt

-- Each call keeps what holds of the ports between the steps.
use Rattle.std.proofs.Common.{◌≡◌, ℕ, ◌+◌, ◌<◌, ◌^◌, true, false, not, cond, List, [], ◌∷◌, ◌++◌, map, fold, Option}
use Rattle.std.proofs.Common.{Some, None, refl, arith}
use Rattle.std.proofs.lemmas.Bool.Decides.{nat_tests}
use Rattle.fid_table.specs.declared.types.Fid.{Fid}
use Rattle.fid_table.specs.Tables.{Tables, fids_of, fid_of}
use Rattle.wait_queue.specs.Reads.{is_on, is_read}
use Rattle.wait_queue.specs.declared.types.Asker.{Asker}
use Rattle.plumb_ports.specs.PortList.{number_of, kept_of, with_kept}
use Rattle.plumb_ports.specs.Inboxes.{is_of, delivered}
use Rattle.plumb_ports.specs.PortsState.{PortsState, beginning, is_open, is_ready, read_waits, next_of, without_next}
use Rattle.plumb_ports.specs.PortsState.{after_next, after_add, after_join, delivered_at, delivered_on, after_deliver}
use Rattle.plumb_ports.specs.PortsState.{after_answer, after_ask, after_serve, after_leave}
use Rattle.plumb_ports.specs.Laws.{Join}
use Rattle.plumb_ports.proofs.NumberLemmas.{left_numbers, on_numbers, answer_numbers, call_numbers}
use Rattle.core_fids.specs.Fids.{port_opening}
use Rattle.core_fids.specs.declared.effect.Effect.{Effect}
use Rattle.core_fids.specs.declared.effect.Effect.TheVariants as effect
use Rattle.core_fids.specs.declared.effect.EventChange.{EventChange}
use Rattle.core_fids.specs.declared.effect.EventChange.TheVariants as events
use Rattle.core_fids.specs.declared.refusal.Refusal.{Refusal}
use Rattle.core_events.specs.Sound.{is_small}
use Rattle.core_events.proofs.Sounds.{all-filter, all-without_first, found-all}
use Rattle.core_events.proofs.Idles.{all_push}
use Rattle.core_events.specs.PortAsking.{next_opening, can_join, joined_with, read_refusal, read_unless, ports_read}
use Rattle.core_events.specs.PortClosing.{without_opening, without_fid, ports_without_fids, opening_in, ports_freed}
use Rattle.core_events.specs.PortClosing.{ports_cancelled}
use Rattle.core_events.specs.PortSound.{ArePortsSound}

-- ---- calls of the ports

pub sound_beginning : ArePortsSound beginning
sound_beginning = record { small = refl; numbered = refl }

pub sound_add : (s : PortsState) (name : List ℕ) → ArePortsSound s → ArePortsSound (after_add s name)
sound_add s name h = record { small = h.small; numbered = h.numbered }

reads_at : (s : PortsState) (port : ℕ) (message : List ℕ) → (delivered_at s port message).reads ≡ s.reads
reads_at s port message =
    elim (is_open s port) as (λ b. (cond b copied kept).reads ≡ s.reads) [ true ↦ refl | false ↦ refl ]
  where
    copied : PortsState
    copied = record s { openings = map (delivered port message) s.openings }

    kept : PortsState
    kept = record s { ports = with_kept s.ports port (kept_of s.ports port ++ message ∷ []) }

reads_on : (number : Option ℕ) (s : PortsState) (message : List ℕ) → (delivered_on number s message).reads ≡ s.reads
reads_on None s message = refl
reads_on (Some port) s message = reads_at s port message

pub sound_deliver : (s : PortsState) (name message : List ℕ) → ArePortsSound s
    → ArePortsSound (after_deliver s name message)
sound_deliver s name message h = record {
  small = rw (reads_on (number_of s.ports name) s message) h.small;
  numbered =
      on_numbers (number_of s.ports name) s message h.numbered;
}

sound_answer : (s : PortsState) (r : Asker) → ArePortsSound s → ArePortsSound (after_answer s r)
sound_answer s r h = record { small = h.small; numbered = answer_numbers s r h.numbered }

pub sound_ask : (s : PortsState) (r : Asker) → r.count + 11 < 2 ^ 32 → ArePortsSound s → ArePortsSound (after_ask s r)
sound_ask s r l h =
    elim (read_waits s r) as (λ b. ArePortsSound (cond b waiting (after_answer s r))) [
      | true ↦ let small : is_small r ≡ true = grind (arith, nat_tests) in
          record { small = all_push is_small s.reads r small h.small; numbered = h.numbered }
      | false ↦ sound_answer s r h
    ]
  where
    waiting : PortsState
    waiting = record s { reads = s.reads ++ r ∷ [] }

pub sound_read : (t : Tables) (s : PortsState) (r : Asker) → r.count + 11 < 2 ^ 32 → ArePortsSound s
    → ArePortsSound (ports_read t s r)
sound_read t s r l h = unless (read_refusal t s r)
  where
    unless : (o : Option Refusal) → ArePortsSound (read_unless o s r)
    unless None = sound_ask s r l h
    unless (Some x) = h

-- the read that is answered next is a small one
pub next_small : (s : PortsState) (r : Asker) → ArePortsSound s → next_of s ≡ Some r → r.count + 11 < 2 ^ 32
next_small s r h e = let small : is_small r ≡ true = found-all (is_ready s.openings) is_small s.reads r h.small e in
    grind (arith, nat_tests)

pub sound_served : (s : PortsState) → ArePortsSound s → ArePortsSound (after_serve s)
sound_served s h = next (next_of s)
  where
    next : (o : Option Asker) → ArePortsSound (after_next o s)
    next None = h
    next (Some r) = sound_answer (without_next s) r (record {
      small = all-without_first is_small (is_ready s.openings)
          s.reads h.small;
      numbered = h.numbered;
    })

-- ---- openings of fids

pub sound_join : (s : PortsState) (port : ℕ) → ArePortsSound s → ArePortsSound (after_join s port (next_opening s))
sound_join s port h = record { small = h.small; numbered = call_numbers s (Join port (next_opening s)) refl h.numbered }

pub sound_joined : (s : PortsState) (e : EventChange) → ArePortsSound s → ArePortsSound (joined_with s e)
sound_joined s events.Nothing h = h
sound_joined s (events.Opens w) h = h
sound_joined s (events.Joins port) h =
    elim (can_join s port) as (λ b. ArePortsSound (cond b (after_join s port (next_opening s)) s)) [
      | true ↦ sound_join s port h
      | false ↦ h
    ]
sound_joined s (events.Watches file) h = h
sound_joined s (events.Cancels tag) h = h

pub sound_leave : (s : PortsState) (opening : ℕ) → ArePortsSound s → ArePortsSound (after_leave s opening)
sound_leave s opening h = record {
  small = all-filter is_small (λ r. not (is_on opening r)) s.reads h.small;
  numbered = left_numbers s.joined (λ o. not (is_of opening o)) s.openings h.numbered;
}

sound_without : (s : PortsState) (o : Option ℕ) → ArePortsSound s → ArePortsSound (without_opening s o)
sound_without s None h = h
sound_without s (Some opening) h = sound_leave s opening h

sound_fids : (s : PortsState) (fs : List (ℕ × Fid)) → ArePortsSound s → ArePortsSound (fold without_fid s fs)
sound_fids s [] h = h
sound_fids s (f ∷ fs) h = sound_fids (without_fid s f) fs (sound_without s (port_opening f.1) h)

pub sound_without_fids : (s : PortsState) (t : Tables) (conn : ℕ) → ArePortsSound s
    → ArePortsSound (ports_without_fids s t conn)
sound_without_fids s t conn h = sound_fids s (fids_of t conn) h

pub sound_freed : (s : PortsState) (t : Tables) (conn : ℕ) (e : Effect) → ArePortsSound s
    → ArePortsSound (ports_freed s t conn e)
sound_freed s t conn effect.Nothing h = h
sound_freed s t conn (effect.Begins msize) h = sound_without_fids s t conn h
sound_freed s t conn (effect.Puts fid value) h = h
sound_freed s t conn (effect.Frees fid) h = sound_without s (opening_in (fid_of t conn fid)) h

pub sound_cancelled : (s : PortsState) (conn : ℕ) (e : EventChange) → ArePortsSound s
    → ArePortsSound (ports_cancelled s conn e)
sound_cancelled s conn events.Nothing h = h
sound_cancelled s conn (events.Opens w) h = h
sound_cancelled s conn (events.Joins port) h = h
sound_cancelled s conn (events.Watches file) h = h
sound_cancelled s conn (events.Cancels tag) h = record {
  small = all-filter is_small (λ r. not (is_read conn tag r))
      s.reads h.small;
  numbered = h.numbered;
}

-- What is said of a journal that was seen holds of a longer one.
use Rattle.std.proofs.Common.{◌≡◌, ℕ, List, Option, sym, ap, subst, ◌∙◌}
use Rattle.turn_lock.specs.Journal.{Stands}
use Rattle.am_journal.specs.declared.ending.Ending.{Ending}
use Rattle.am_journal.specs.declared.event.Event.{Event}
use Rattle.am_counter.specs.Played.{IsPrefix}
use Rattle.am_serve.specs.Gained.{Rule, Answers}
use Rattle.am_serve.specs.Reading.{spellings}
use Rattle.am_serve.specs.Writing.{taken_bytes, Gets}
use Rattle.am_serve.specs.declared.writing.WriteEnd.{WriteEnd}
use Rattle.am_serve.proofs.Gaining.{stands_longer, grown}
use Rattle.am_serve.proofs.HangUps.{has_hang_kept}
use Rattle.am_serve.proofs.Streams.{gives_later}
use Rattle.am_serve.proofs.Written.{taken_longer}
use Rattle.am_slots.specs.Sides.{Reads, Writes, Serves}
use Rattle.am_slots.specs.Slots.{Outside, Has}
use Rattle.am_slots.specs.declared.slot.Slot.{Slot}
use Rattle.am_slots.specs.declared.slot.Slot.TheVariants as slot

-- ---- what was read and written

stands_later : (log now : List Event) (low : ℕ) (xs : List (ℕ × Event)) → IsPrefix log now → Stands log low xs
    → Stands now low xs
stands_later log now low xs p s = let P : List Event → Type 0 = λ l. Stands l low xs in
    subst P p.1 (stands_longer log p.0 low xs s)

taken_later : (unsent : List Event → ℕ → List ℕ) (log now : List Event) (entries : List (ℕ × Event)) → IsPrefix log now
    → Stands log 0 entries → taken_bytes unsent log entries ≡ taken_bytes unsent now entries
taken_later unsent log now entries p s = sym (taken_longer unsent log p.0 0 entries s)
    ∙ ap (λ (l : List Event). taken_bytes unsent l entries) p.1

-- ---- seats

pub reads_later : (enabled : Rule) (answer : Answers) (conn : ℕ) (xs ys : List Event) (first now : Option (List ℕ))
    (read : Option Ending) (entries : List (ℕ × Event)) → IsPrefix xs ys
    → Reads enabled answer conn xs first now read entries → Reads enabled answer conn ys first now read entries
reads_later enabled answer conn xs ys first now read entries p r = record {
  number = r.number;
  messages = r.messages;
  hang = r.hang;
  are = r.are;
  are_messages = r.are_messages;
  hangs = r.hangs;
  gives = gives_later enabled answer conn xs ys (spellings r.messages) first now read p r.gives;
}

pub writes_later : (unsent : List Event → ℕ → List ℕ) (conn : ℕ) (xs ys : List Event) (wrote : WriteEnd)
    (held : Option (List ℕ)) (entries : List (ℕ × Event)) → IsPrefix xs ys
    → Writes unsent conn xs wrote held entries → Writes unsent conn ys wrote held entries
writes_later unsent conn xs ys wrote held entries p w = record {
  takings = w.takings;
  hang = w.hang;
  first = w.first;
  are = w.are;
  are_takings = w.are_takings;
  hangs = w.hangs;
  stand = stands_later xs ys 0 entries p w.stand;
  begins_empty = w.begins_empty;
  gets = let P : List ℕ → Type 0 = λ l. Gets wrote w.first l held in
      subst P (taken_later unsent xs ys entries p w.stand) w.gets;
  drained = λ e. let d = w.drained e in (d.0, grown d.0 xs ys d.1 p, d.2, d.3);
}

module _ (enabled : Rule) (unsent : List Event → ℕ → List ℕ) (answer : Answers) (conn : ℕ) where
  serves_later : (xs ys : List Event) (first now : Option (List ℕ)) (read : Option Ending) (wrote : WriteEnd)
      (held : Option (List ℕ)) (lists : List (List (ℕ × Event))) → IsPrefix xs ys
      → Serves enabled unsent answer conn xs first now read wrote held lists
      → Serves enabled unsent answer conn ys first now read wrote held lists
  serves_later xs ys first now read wrote held lists p s = record {
    reads = s.reads;
    writes = s.writes;
    are = s.are;
    reading = reads_later enabled answer conn xs ys first now read s.reads p s.reading;
    writing = writes_later unsent conn xs ys wrote held s.writes p s.writing;
    ended = has_hang_kept xs ys conn p s.ended;
  }

  pub has_later : {G L S K : Type 0} (o : Outside G L S K) (xs ys : List Event) (s : Slot G L S K)
      (lists : List (List (ℕ × Event))) → IsPrefix xs ys
      → Has o enabled unsent answer conn xs s lists → Has o enabled unsent answer conn ys s lists
  has_later o xs ys slot.Unbound lists p h = h
  has_later o xs ys (slot.Bound gate) lists p h = h
  has_later o xs ys (slot.Unlinked gate) lists p h = h
  has_later o xs ys (slot.Unhalved gate link) lists p h = h
  has_later o xs ys (slot.Undialled x refused) lists p h = (h.0, (h.1.0, grown h.1.0 xs ys h.1.1 p, h.1.2))
  has_later o xs ys (slot.Served x read wrote) lists p h = serves_later xs ys (o.link x.link).begins
      (o.reader x.reader).bytes read wrote (o.writer x.writer).bytes lists p h

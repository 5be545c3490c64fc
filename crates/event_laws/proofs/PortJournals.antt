-- The laws of all journals: each entry keeps them.
use Rattle.std.proofs.Common.{ℕ, List, [], ◌∷◌, ◌++◌, refl, sym, subst, append_assoc, append-nil}
use Rattle.am_journal.specs.declared.event.Event.{Event}
use Rattle.plumb_ports.specs.PortsState.{PortsState}
use Rattle.plumb_ports.specs.Laws.{Call, AreNumbered}
use Rattle.book_calls.specs.Calls.{bytes_to}
use Rattle.book_calls.specs.PortCalls.{after_calls, all_answers, all_coming}
use Rattle.book_calls.specs.PortLaws.{GetsItsMessages, IsLawfulRun}
use Rattle.book_calls.proofs.Runs.{lawful as calls_lawful}
use Rattle.acme_core.specs.Run.{run}
use Rattle.core_laws.specs.Saying.{said_after}
use Rattle.event_laws.specs.PortLaws.{data_of, given_from, coming_from, ports_after, calls_of, IsByPorts}
use Rattle.event_laws.specs.PortLaws.{PortsAreLawful}
use Rattle.event_laws.proofs.Entries.{entry}
use Rattle.am_journal.specs.declared.event.Journal.{Journal}
use Rattle.am_journal.specs.Journal.{longer, journal_in}
use Rattle.core_laws.specs.Fronts.{followed}
use Rattle.core_laws.proofs.Playing.{goes_on, none_more}
use Rattle.am_journal.specs.declared.event.Format.{Format}

-- what an opening was given, with what came to it, and no opening is numbered beyond those that joined
record Holds (given : List ℕ) (coming : List (List ℕ)) (s : PortsState) (o : ℕ) : Type 0 where
  numbered : AreNumbered s
  gets : GetsItsMessages given coming s o

holds_entry : (before : Journal) (e : Event) (o : ℕ) (d : List ℕ) (m : List (List ℕ))
    → Holds d m (ports_after before) o
    → Holds (d ++ data_of o (said_after before e)) (m ++ all_coming o (ports_after before) (calls_of before e))
    (ports_after (longer before e)) o
holds_entry before e o d m h =
    let s : PortsState = ports_after before in
    let cs : List Call = calls_of before e in
    let more : List (List ℕ) = m ++ all_coming o s cs in
    let by : IsByPorts before e = entry before e in
    let run_of : IsLawfulRun s cs = calls_lawful s cs h.numbered by.can in
    let all : Holds (d ++ bytes_to o (all_answers s cs)) more (after_calls s cs) o =
    record { numbered = run_of.numbered; gets = run_of.gets o d m h.gets } in
    subst (λ (t : PortsState). Holds (d ++ data_of o (said_after before e)) more t o) by.ports
    (subst (λ (l : List ℕ). Holds (d ++ l) more (after_calls s cs) o) (sym (by.gives o)) all)

holds_from : (before : Journal) (events : List Event) (o : ℕ) (d : List ℕ) (m : List (List ℕ))
    → Holds d m (ports_after before) o
    → Holds (d ++ given_from o before events) (m ++ coming_from o before events) (ports_after (followed before events))
    o
unfolding given_from coming_from
holds_from before [] o d m h =
    subst (λ (l : Journal). Holds (d ++ []) (m ++ []) (ports_after l) o) (sym (none_more before))
    (subst (λ (x : List ℕ). Holds x (m ++ []) (ports_after before) o) (sym (append-nil d))
    (subst (λ (x : List (List ℕ)). Holds d x (ports_after before) o) (sym (append-nil m)) h))
holds_from before (e ∷ events) o d m h =
    let now : List ℕ = data_of o (said_after before e) in
    let come : List (List ℕ) = all_coming o (ports_after before) (calls_of before e) in
    let later : List ℕ = given_from o (longer before e) events in
    let coming : List (List ℕ) = coming_from o (longer before e) events in
    let rest : Holds ((d ++ now) ++ later) ((m ++ come) ++ coming) (ports_after (followed (longer before e) events)) o =
    holds_from (longer before e) events o (d ++ now) (m ++ come) (holds_entry before e o d m h)
    in
    subst (λ (l : Journal). Holds (d ++ (now ++ later)) (m ++ (come ++ coming)) (ports_after l) o)
    (goes_on before e events)
    (subst (λ (x : List ℕ). Holds x (m ++ (come ++ coming)) (ports_after (followed (longer before e) events)) o)
    (append_assoc d now later)
    (subst (λ (x : List (List ℕ)). Holds ((d ++ now) ++ later) x (ports_after (followed (longer before e) events)) o)
    (append_assoc m come coming) rest))

begins : (format : Format) (o : ℕ) → Holds [] [] (ports_after (journal_in format [])) o
unfolding run
begins format o = record {
  numbered = refl;
  gets = record {
    missing = [];
    joined = refl;
    there = λ t. refl;
    before =
        λ l. refl;
  };
}

pub lawful : PortsAreLawful
lawful journal = record {
  calls = λ before behind e is. entry before e;
  gets = λ o. (holds_from (journal_in journal.format []) journal.events o [] [] (begins journal.format o)).gets;
}

-- Completeness of serving: what comes where nothing outside fails and no line is refused.
use Rattle.std.specs.Prelude.{◌≡◌, ◌⊎◌, ℕ, ◌≤◌, List, ◌∷◌, ◌++◌, length, filter, IfSome}
use Rattle.std.specs.List.{AllByRecursion}
use Rattle.am_base.specs.Outside.{HasRisen}
use Rattle.am_base.specs.Stops.{input_limit}
use Rattle.am_base.specs.Seen.{Given, Seen}
use Rattle.am_base.specs.Written.{IsWhole}
use Rattle.am_journal.specs.declared.event.Event.{Event}
use Rattle.am_journal.specs.declared.event.Journal.{Journal}
use Rattle.am_journal.specs.Journal.{journal_text}
use Rattle.am_journal.specs.Report.{report_text}
use Rattle.am_counter.specs.Played.{IsPrefix}
use Rattle.acme_core.specs.Asks.{answers_in}
use Rattle.acme_core.specs.Run.{enabled_in}
use Rattle.acme_core.specs.Views.{view_of}
use Rattle.am_serve.specs.Script.{IsRefused, asked_by_script, asked_events, is_scripted}
use Rattle.am_serve.specs.declared.asked.Asked.{Asked}
use Rattle.am_serve.specs.declared.fault.LineFault.{LineFault}
use Rattle.am_slots.specs.Slots.{Outside}
use Rattle.am_server.specs.declared.served.Served.{Served}
use Rattle.am_server.specs.declared.writing.ServeEnd.{ServeEnd}
use Rattle.am_server.specs.declared.writing.ServeEnd.TheVariants as end

-- No line of the script is refused: not after any beginning of the journal that has the events of the lines before it,
-- and none from it on.
abbrev pub NoneRefused : ℕ → List ℕ → Journal → Type 0
NoneRefused clients script journal =
    (before after : List Asked) (line : Asked) (fault : LineFault) (seen : List Event)
    → asked_by_script script ≡ before ++ line ∷ after → IsPrefix seen journal.events
    → filter is_scripted seen ≡ asked_events before
    → ¬ IsRefused (enabled_in journal.format) (answers_in journal.format) clients seen line fault

-- the journal's lines, and then the report of its run
abbrev pub whole_text : Journal → List ℕ
whole_text journal = journal_text journal ++ report_text (view_of journal)

module _ {G L S K : Type 0} where
  -- neither the slot's gate nor its link has failed
  abbrev pub IsCalm : Outside G L S K → Served G L S K → Type 0
  IsCalm m s = IfSome s.gate (λ g. (m.gate g).faults ≡ 0) × IfSome s.link (λ l. (m.link l).faults ≡ 0)

  -- The script is within its limit, no line of it is refused, and no count of faults rises.
  pub record NothingFails (m : Outside G L S K) (clients : ℕ) (script : List ℕ) (i : Given) (o : Seen)
      (journal : Journal) (served : List (Served G L S K)) : Type 0 where
    pub fits : length script ≤ input_limit
    pub none_refused : NoneRefused clients script journal
    pub input : ¬ HasRisen i.input.before.faults i.input.now.faults
    pub output : ¬ HasRisen o.before.faults o.now.faults
    pub host : ¬ HasRisen i.host.before.faults i.host.now.faults
    pub slots : AllByRecursion (IsCalm m) served

  -- then all is done, and the whole text written, or memory runs out
  abbrev pub IsComplete : Outside G L S K → ℕ → List ℕ → Given → Seen → Journal → List (Served G L S K)
      → ServeEnd → Type 0
  IsComplete m clients script i o journal served e =
      NothingFails m clients script i o journal served → ((e ≡ end.Done) × IsWhole o (whole_text journal))
      ⊎ (e ≡ end.NoMemory)

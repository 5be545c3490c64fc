-- A journal's lines, and then its report, give that journal again.
use Rattle.std.proofs.Common.{◌≡◌, inl, inr, ℕ, ◌+◌, Bool, true, false, cond, ltb, List, [], ◌∷◌, ◌++◌, map, length}
use Rattle.std.proofs.Common.{codes, Option, Some, None, refl, sym, ap, subst, ◌∙◌, append_assoc}
use Rattle.am_base.specs.Outside.{BytesTold}
use Rattle.std.proofs.lemmas.Slice.Eq.{bytes_eq-Decides}
use Rattle.am_text.specs.Lines.{lines_of}
use Rattle.am_journal.specs.declared.event.Event.{Event}
use Rattle.am_journal.specs.declared.event.Format.{Format}
use Rattle.am_journal.specs.declared.event.Format.TheVariants.{One, Two}
use Rattle.am_journal.specs.declared.event.Journal.{Journal}
use Rattle.am_journal.specs.declared.event.Why.{Why}
use Rattle.am_journal.specs.declared.view.View.{View}
use Rattle.am_journal.specs.Journal.{journal_in, longer, is_heading, format_of, behind_heading, first_line, is_report}
use Rattle.am_journal.specs.Journal.{events_text, journal_text}
use Rattle.am_journal.specs.Lawful.{IsLawful, IsInRange}
use Rattle.am_journal.specs.Line.{line_text, event_of, action_of}
use Rattle.am_journal.specs.Report.{report_text}
use Rattle.am_journal.proofs.LineLaws.{line-is, line-again}
use Rattle.am_journal.proofs.JournalLaws.{line-no_report, lines_of-journal, lines_of-report}
use Rattle.am_counter.specs.Played.{ArePlayed}
use Rattle.acme_core.specs.Run.{enabled, enabled_in, AreEnabled}
use Rattle.core_laws.specs.Fronts.{followed, IsFront}
use Rattle.core_laws.proofs.Playing.{none_more}
use Rattle.acme_core.specs.Views.{view_of}
use Rattle.am_replay.specs.declared.replaying.End.{End}
use Rattle.am_replay.specs.declared.replaying.End.TheVariants as ends
use Rattle.am_replay.specs.Scripts.{Script, ended, none_read, refused_at, play, play_line, play_event, script_behind}
use Rattle.am_replay.specs.Scripts.{script_in, script_of, text_of}
use Rattle.am_replay.specs.Written.{IsPart}
use Rattle.am_base.specs.Stops.{input_limit}
use Rattle.am_base.specs.Seen.{Seen}
use Rattle.am_replay.specs.Ends.{Ran, Says}
use Rattle.am_replay.specs.Own.{transcript_of, RoundTrips}
use Rattle.am_replay.proofs.Ran.{short_script}
use Rattle.std.specs.List.{AllByRecursion}

-- ---- events that were done

-- each has a line, and is enabled after this journal and those before it
abbrev pub AreDone : Journal → List Event → Type 0
AreDone before [] = Unit {0}
AreDone before (e ∷ es) = IsLawful e × IsInRange e × (enabled before e ≡ None) × AreDone (longer before e) es

-- each event of a journal has a line, and is enabled at its place
abbrev pub IsDone : Journal → Type 0
IsDone journal = AreDone (journal_in journal.format []) journal.events

-- played events whose numbers fit their fields are done, and those that are done were played
done-from : (format : Format) (before es : List Event) → ArePlayed (enabled_in format) before es
    → AllByRecursion IsInRange es → AreDone (journal_in format before) es
unfolding ArePlayed
done-from format before [] played ranged = tt
done-from format before (e ∷ es) played ranged = (
  played.0,
  ranged.0,
  played.1,
  done-from format (before ++ e ∷ []) es played.2 ranged.1,
)

pub enabled-done : (journal : Journal) → AreEnabled journal → AllByRecursion IsInRange journal.events → IsDone journal
enabled-done journal played ranged = done-from journal.format [] journal.events played ranged

played-from : (format : Format) (before es : List Event) → AreDone (journal_in format before) es
    → ArePlayed (enabled_in format) before es
unfolding ArePlayed
played-from format before [] d = tt
played-from format before (e ∷ es) d = (d.0, d.2, played-from format (before ++ e ∷ []) es d.3)

pub played-done : (journal : Journal) → IsDone journal → AreEnabled journal
played-done journal d = played-from journal.format [] journal.events d

front-from : (a b : List Event) (before : Journal) → AreDone before (a ++ b) → AreDone before a
front-from [] b before h = tt
front-from (e ∷ a) b before h = (h.0, h.1, h.2, front-from a b (longer before e) h.3)

pub front-done : (a b : Journal) → IsFront a b → IsDone b → IsDone a
front-done a b f d = front-from a.events f.0 (journal_in a.format []) (subst IsDone (sym f.1) d)

pub none-done : (format : Format) (journal : Journal) → journal ≡ journal_in format [] → IsDone journal
none-done format journal e = subst IsDone (sym e) tt

pub part-done : (a b : Journal) → IsPart a b → IsDone b → IsDone a
part-done a b (inl e) d = none-done One a e
part-done a b (inr f) d = front-done a b f d

-- the events of a script, of which these were done before
record Goes (before : Journal) (script : Script) : Type 0 where
  more : List Event
  are : script.journal ≡ followed before more
  done : AreDone before more

goes_nowhere : (before : Journal) (script : Script) → script.journal ≡ before → Goes before script
goes_nowhere before script e = record { more = []; are = e ∙ sym (none_more before); done = tt }

event-goes : (before : Journal) (k : ℕ) (e : Event) (o : Option Why) (go : Journal → Script) → IsLawful e
    → IsInRange e → enabled before e ≡ o
    → Goes (longer before e) (go (longer before e)) → Goes before (play_event before k e o go)
event-goes before k e (Some why) go lawful in_range is g = goes_nowhere before _ refl
event-goes before k e None go lawful in_range is g = record {
  more = e ∷ g.more;
  are = g.are ∙ ap (journal_in before.format) (append_assoc before.events (e ∷ []) g.more);
  done = (lawful, in_range, is, g.done);
}

line-goes : (before : Journal) (k : ℕ) (line : List ℕ) (o : Option Event) (go : Journal → Script)
    → event_of line ≡ o
    → ((e : Event) → Goes (longer before e) (go (longer before e))) → Goes before (play_line before k o go)
line-goes before k line None go is g = goes_nowhere before _ refl
line-goes before k line (Some e) go is g =
    let f = line-is line e is in
    event-goes before k e (enabled before e) go f.lawful f.in_range refl (g e)

play-goes : (ls : List (List ℕ)) (before : Journal) (k : ℕ) → Goes before (play before k ls)
unfolding play
play-goes [] before k = goes_nowhere before _ refl
play-goes (l ∷ ls) before k =
    elim (is_report l) as (λ (b : Bool). Goes before (cond b (ended before)
    (play_line before k (event_of l) (λ next. play next (k + 1) ls)))) [
      | true ↦ goes_nowhere before _ refl
      | false ↦ line-goes before k l (event_of l) (λ next. play next (k + 1) ls) refl
          (λ e. play-goes ls (longer before e) (k + 1))
    ]

lines-done : (format : Format) (lines : List (List ℕ)) → IsDone (script_behind format lines).journal
lines-done format lines =
    let g = play-goes lines (journal_in format []) (first_line format) in
    subst IsDone (sym g.are) g.done

pub script-done : (bytes : List ℕ) → IsDone (script_of bytes).journal
unfolding script_of
script-done bytes =
    elim (ltb input_limit (length bytes)) as (λ (b : Bool). IsDone
    (cond b (refused_at none_read 0 (codes "input")) (script_in (lines_of bytes))).journal) [
      | true ↦ tt
      | false ↦ lines-done (format_of (lines_of bytes)) (behind_heading (lines_of bytes))
    ]

ran-done : (end : End) (script : Script) (o : Seen) (journal : Journal) → IsDone script.journal
    → Ran end script o journal → IsDone journal
ran-done ends.Done script o journal d h = subst IsDone (sym h.0) d
ran-done ends.Usage script o journal d h = absurd h
ran-done ends.Script script o journal d h = subst IsDone (sym h.0) d
ran-done ends.ReadFault script o journal d h = absurd h
ran-done ends.WriteFault script o journal d h = subst IsDone (sym h.0) d
ran-done ends.NoMemory script o journal d h = part-done journal script.journal h.events d

says-done : (end : End) (before now : BytesTold) (o : Seen) (journal : Journal) → Says end before now o journal
    → IsDone journal
says-done ends.Done before now o journal h = ran-done ends.Done (script_of h.0) o journal (script-done h.0) h.2
says-done ends.Usage before now o journal h = absurd h
says-done ends.Script before now o journal h = ran-done ends.Script (script_of h.0) o journal (script-done h.0) h.2
says-done ends.ReadFault before now o journal h = none-done One journal h.0.empty
says-done ends.WriteFault before now o journal h = ran-done ends.WriteFault (script_of h.0) o journal (script-done h.0)
    h.2
says-done ends.NoMemory before now o journal h = ran-done ends.NoMemory (script_of h.0) o journal (script-done h.0) h.2

-- ---- their lines

-- what a line does, by whether it ends the script and by its event
abbrev played_line : Journal → ℕ → Bool → Option Event → (Journal → Script) → Script
played_line before k b o go = cond b (ended before) (play_line before k o go)

play-line-again : (before : Journal) (k : ℕ) (e : Event) (ls : List (List ℕ)) → IsLawful e → IsInRange e
    → enabled before e ≡ None
    → play before k (line_text e ∷ ls) ≡ play (longer before e) (k + 1) ls
unfolding play
play-line-again before k e ls lawful in_range is =
    ap (λ (b : Bool). played_line before k b (event_of (line_text e)) (λ next. play next (k + 1) ls)) (line-no_report e)
    ∙ ap (λ (o : Option Event). play_line before k o (λ next. play next (k + 1) ls)) (line-again e lawful in_range)
    ∙ ap (λ (o : Option Why). play_event before k e o (λ next. play next (k + 1) ls)) is

play-report : (journal : Journal) (k : ℕ) (rest : List (List ℕ))
    → play journal k (codes "report" ∷ rest) ≡ ended journal
unfolding play
play-report journal k rest = refl

play-again : (es : List Event) (before : Journal) (k : ℕ) (rest : List (List ℕ)) → AreDone before es
    → play before k (map line_text es ++ codes "report" ∷ rest) ≡ ended (followed before es)
play-again [] before k rest h = play-report before k rest ∙ ap ended (sym (none_more before))
play-again (e ∷ es) before k rest h =
    play-line-again before k e (map line_text es ++ codes "report" ∷ rest) h.0 h.1 h.2
    ∙ play-again es (longer before e) (k + 1) rest h.3
    ∙ ap (λ (l : List Event). ended (journal_in before.format l)) (append_assoc before.events (e ∷ []) es)

in_range-done : (es : List Event) (before : Journal) → AreDone before es → AllByRecursion IsInRange es
in_range-done [] before h = tt
in_range-done (e ∷ es) before h = (h.1, in_range-done es (longer before e) h.3)

lawful-done : (es : List Event) (before : Journal) → AreDone before es → AllByRecursion IsLawful es
lawful-done [] before h = tt
lawful-done (e ∷ es) before h = (h.0, lawful-done es (longer before e) h.3)

-- the heading spells no event
pub no_event : event_of (codes "acmefs 2") ≡ None
unfolding event_of action_of
no_event = refl

-- no event has the heading's line
no_heading : (e : Event) → IsLawful e → IsInRange e → is_heading (line_text e) ≡ false
no_heading e lawful in_range = by_cases (is_heading (line_text e)) refl
  where
    by_cases : (b : Bool) → is_heading (line_text e) ≡ b → is_heading (line_text e) ≡ false
    by_cases false h = h
    by_cases true h =
        let same : line_text e ≡ codes "acmefs 2" = (bytes_eq-Decides (line_text e) (codes "acmefs 2")).0 h in
        let spells : None ≡ Some e = sym no_event ∙ ap event_of (sym same) ∙ line-again e lawful in_range in
        absurd (cc spells)

-- lines of events and a line `report` have no heading
plain_lines : (es : List Event) (rest : List (List ℕ)) (before : Journal) → AreDone before es
    → script_in (map line_text es ++ codes "report" ∷ rest)
    ≡ script_behind One (map line_text es ++ codes "report" ∷ rest)
plain_lines [] rest before d = refl
plain_lines (e ∷ es) rest before d = rw (no_heading e d.0 d.1) refl

-- the lines of a journal's text and of its report
event_lines : (journal : Journal) (report : View) → IsDone journal → (rest : List (List ℕ))
    × (lines_of (events_text journal.events ++ report_text report)
    ≡ map line_text journal.events ++ codes "report" ∷ rest)
event_lines journal report d =
    let begins = lines_of-report report in
    let before = journal_in journal.format [] in (
      begins.0,
      lines_of-journal journal.events (report_text report) (lawful-done journal.events before d)
          (in_range-done journal.events before d)
          ∙ ap (λ (l : List (List ℕ)). map line_text journal.events ++ l) begins.1,
    )

script-again : (format : Format) (events : List Event) (report : View) → IsDone (journal_in format events)
    → script_in (lines_of (journal_text (journal_in format events) ++ report_text report))
    ≡ ended (journal_in format events)
script-again One events report d =
    let lines = event_lines (journal_in One events) report d in
    ap script_in lines.1 ∙ plain_lines events lines.0 (journal_in One []) d
    ∙ play-again events (journal_in One []) 1 lines.0 d
script-again Two events report d =
    let lines = event_lines (journal_in Two events) report d in
    ap (script_behind Two) lines.1 ∙ play-again events (journal_in Two []) 2 lines.0 d

pub trips : (journal : Journal) → IsDone journal → RoundTrips journal
trips journal d =
    let read = script-again journal.format journal.events (view_of journal) d in
    record {
      lines = read;
      again = λ short. let again = sym (short_script (transcript_of journal) short) ∙ read in
          record { events = again; text = ap text_of again };
    }

pub says_trips : (end : End) (before now : BytesTold) (o : Seen) (journal : Journal) → Says end before now o journal
    → RoundTrips journal
says_trips end before now o journal h = trips journal (says-done end before now o journal h)

pub says_played : (end : End) (before now : BytesTold) (o : Seen) (journal : Journal) → Says end before now o journal
    → AreEnabled journal
says_played end before now o journal h = played-done journal (says-done end before now o journal h)

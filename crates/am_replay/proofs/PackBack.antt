-- The text of a trace is packed into the journal that it shows.
use Rattle.std.proofs.Common.{◌≡◌, ℕ, ◌+◌, Bool, true, false, cond, suc, List, [], ◌∷◌, ◌++◌, length, codes}
use Rattle.std.proofs.Common.{Option, Some, None, refl, sym, ap, ◌∙◌, append_assoc, arith}
use Rattle.std.specs.List.{AllByRecursion}
use Rattle.std.proofs.lemmas.List.{append-nil}
use Rattle.std.proofs.lemmas.Slice.Eq.{bytes_eq-Decides}
use Rattle.am_text.specs.Lines.{lines_of}
use Rattle.ninep_types.specs.Reading.{r_of}
use Rattle.ninep_wire.proofs.RLaws.{r_again}
use Rattle.am_journal.specs.declared.event.Event.{Event}
use Rattle.am_journal.specs.declared.event.Format.{Format}
use Rattle.am_journal.specs.declared.event.Format.TheVariants.{One, Two}
use Rattle.am_journal.specs.declared.event.Journal.{Journal}
use Rattle.am_journal.specs.declared.view.View.{View}
use Rattle.am_journal.specs.Journal.{journal_in, longer, is_heading, journal_text}
use Rattle.am_journal.specs.Lawful.{IsLawful, IsInRange}
use Rattle.am_journal.specs.Report.{report_text}
use Rattle.am_journal.proofs.JournalLaws.{lines_of-report}
use Rattle.ninep_trace.specs.declared.line.Line.{Line}
use Rattle.ninep_trace.specs.declared.line.Line.TheVariants as line
use Rattle.ninep_trace.specs.Reading as reading
use Rattle.ninep_trace.specs.Reading.{line_of}
use Rattle.ninep_trace.specs.Words.{event_words, line_words, words_r, IsWorded}
use Rattle.ninep_trace.proofs.LineLaws.{words-again}
use Rattle.ninep_trace.proofs.OneLine.{words_in_lines, words_no_report}
use Rattle.am_replay.specs.Packing.{all_of, pack, pack_line, packing_behind, packing_in}
use Rattle.core_laws.specs.Fronts.{followed}
use Rattle.core_laws.proofs.Playing.{none_more}
use Rattle.am_replay.proofs.Packings.{short_text}
use Rattle.core_outputs.specs.declared.reply.Reply.{Reply}
use Rattle.acme_core.specs.Run.{step}
use Rattle.core_parts.specs.States.{State, start_of}
use Rattle.acme_core.specs.Views.{view_of}
use Rattle.am_replay.specs.Traces.{event_line, message_line, reply_words, replies_words, entry_words, traced_from}
use Rattle.am_replay.specs.Traces.{trace_text, HasWords, AllHaveWords, AreAllWorded, PacksBack}
use Rattle.am_replay.proofs.RoundTrip.{AreDone, IsDone, no_event}

-- ---- one line

pack_words : (l : Line) (journal : Journal) (k : ℕ) (ls : List (List ℕ)) → IsWorded l
    → pack journal k (line_words l ∷ ls) ≡ pack_line journal k (Some l) (λ next. pack next (k + 1) ls)
unfolding pack
pack_words l journal k ls h =
    ap (λ (b : Bool). cond b (all_of journal) (pack_line journal k (line_of (line_words l))
    (λ next. pack next (k + 1) ls))) (words_no_report l)
    ∙ ap (λ (o : Option Line). pack_line journal k o (λ next. pack next (k + 1) ls)) (words-again l h)

pack_here : (l : Line) (journal : Journal) (k : ℕ) (more : List ℕ) → IsWorded l
    → pack journal k (lines_of ((line_words l ++ 10 ∷ []) ++ more)) ≡ pack_line journal k (Some l)
    (λ next. pack next (k + 1) (lines_of more))
pack_here l journal k more h =
    ap (λ (x : List ℕ). pack journal k (lines_of x)) (append_assoc (line_words l) (10 ∷ []) more)
    ∙ ap (pack journal k) (words_in_lines l more h)
    ∙ pack_words l journal k (lines_of more) h

pack_event : (e : Event) (journal : Journal) (k : ℕ) (more : List ℕ) → IsLawful e → IsInRange e
    → pack journal k (lines_of (event_line e ++ more)) ≡ pack (longer journal e) (k + 1) (lines_of more)
pack_event e journal k more h i = pack_here (line.Event e) journal k more (h, i)

reply_is : (r : Reply) (w : HasWords r) → reply_words r ≡ words_r r.conn w.message ++ 10 ∷ []
reply_is r w = ap (λ (b : List ℕ). message_line r.conn (r_of b)) w.bytes
    ∙ ap (message_line r.conn) (r_again w.message w.lawful.fits w.in_range.numbers)

pack_reply : (r : Reply) (journal : Journal) (k : ℕ) (more : List ℕ) → HasWords r
    → pack journal k (lines_of (reply_words r ++ more)) ≡ pack journal (k + 1) (lines_of more)
pack_reply r journal k more w =
    ap (λ (x : List ℕ). pack journal k (lines_of (x ++ more))) (reply_is r w)
    ∙ pack_here (line.Reply r.conn w.message) journal k more (w.lawful, w.in_range)

pack_replies : (rs : List Reply) (journal : Journal) (k : ℕ) (more : List ℕ) → AllByRecursion HasWords rs
    → pack journal k (lines_of (replies_words rs ++ more)) ≡ pack journal (k + length rs) (lines_of more)
unfolding replies_words
pack_replies [] journal k more h = let same : k ≡ k + 0 = omega arith in
    ap (λ (n : ℕ). pack journal n (lines_of more)) same
pack_replies (r ∷ rs) journal k more h =
    let same : k + 1 + length rs ≡ k + suc (length rs) = omega arith in
    ap (λ (x : List ℕ). pack journal k (lines_of x)) (append_assoc (reply_words r) (replies_words rs) more)
    ∙ pack_reply r journal k (replies_words rs ++ more) h.0
    ∙ pack_replies rs journal (k + 1) more h.1
    ∙ ap (λ (n : ℕ). pack journal n (lines_of more)) same

-- ---- all lines

-- some lines further
abbrev Further : Journal → ℕ → List ℕ → Journal → List ℕ → Type 0
Further journal k bytes now more = (n : ℕ) × (pack journal k (lines_of bytes) ≡ pack now n (lines_of more))

pack_traced : (es : List Event) (s : State) (before journal : Journal) (k : ℕ) (more : List ℕ) → AreDone before es
    → AllHaveWords s es → Further journal k (traced_from s es ++ more) (followed journal es) more
unfolding traced_from AllHaveWords
pack_traced [] s before journal k more d w = (
  k,
  ap (λ (x : Journal). pack x k (lines_of more))
      (sym (none_more journal)),
)
pack_traced (e ∷ es) s before journal k more d w =
    let rs = (step s e).replies in
    let rest : List ℕ = traced_from (step s e) es ++ more in
    let third = pack_traced es (step s e) (longer before e) (longer journal e) (k + 1 + length rs) more d.3 w.1 in
    let whole : (entry_words s e ++ traced_from (step s e) es) ++ more ≡ event_line e ++ (replies_words rs ++ rest) =
    append_assoc (entry_words s e) (traced_from (step s e) es) more
    ∙ append_assoc (event_line e) (replies_words rs) rest
    in (
      third.0,
      ap (λ (x : List ℕ). pack journal k (lines_of x)) whole
          ∙ pack_event e journal k (replies_words rs ++ rest) d.0 d.1
          ∙ pack_replies rs (longer journal e) (k + 1) rest w.0
          ∙ third.1
          ∙ ap (λ (l : List Event). pack (journal_in journal.format l) third.0 (lines_of more))
          (append_assoc journal.events (e ∷ []) es),
    )

pack_report : (journal : Journal) (k : ℕ) (rest : List (List ℕ))
    → pack journal k (codes "report" ∷ rest) ≡ all_of journal
unfolding pack
pack_report journal k rest = refl

-- ---- the heading

-- the heading says nothing in words
no_words : line_of (codes "acmefs 2") ≡ None
unfolding line_of
no_words = ap reading.event_line no_event

-- no line in words is the heading
no_heading : (l : Line) → IsWorded l → is_heading (line_words l) ≡ false
no_heading l h = by_cases (is_heading (line_words l)) refl
  where
    by_cases : (b : Bool) → is_heading (line_words l) ≡ b → is_heading (line_words l) ≡ false
    by_cases false e = e
    by_cases true e =
        let same : line_words l ≡ codes "acmefs 2" = (bytes_eq-Decides (line_words l) (codes "acmefs 2")).0 e in
        let says : None ≡ Some l = sym no_words ∙ ap line_of (sym same) ∙ words-again l h in
        absurd (cc says)

-- lines of events in words and a report have no heading
plain_trace : (es : List Event) (s : State) (before : Journal) (report : View) → AreDone before es
    → packing_in (lines_of (traced_from s es ++ report_text report))
    ≡ packing_behind One (lines_of (traced_from s es ++ report_text report))
unfolding traced_from
plain_trace [] s before report d =
    let begins = lines_of-report report in
    ap packing_in begins.1 ∙ sym (ap (packing_behind One) begins.1)
plain_trace (e ∷ es) s before report d =
    let replies = replies_words (step s e).replies in
    let rest : List ℕ = replies ++ (traced_from (step s e) es ++ report_text report) in
    let fits : IsWorded (line.Event e) = (d.0, d.1) in
    let whole : (entry_words s e ++ traced_from (step s e) es) ++ report_text report ≡ event_words e ++ 10 ∷ rest =
    append_assoc (entry_words s e) (traced_from (step s e) es) (report_text report)
    ∙ append_assoc (event_line e) replies (traced_from (step s e) es ++ report_text report)
    ∙ append_assoc (event_words e) (10 ∷ []) rest
    in
    let first : lines_of ((entry_words s e ++ traced_from (step s e) es) ++ report_text report)
    ≡ event_words e ∷ lines_of rest = ap lines_of whole ∙ words_in_lines (line.Event e) rest fits in
    ap packing_in first ∙ plain (lines_of rest) (no_heading (line.Event e) fits)
    ∙ sym (ap (packing_behind One) first)
  where
    plain : (lines : List (List ℕ)) → is_heading (event_words e) ≡ false
        → packing_in (event_words e ∷ lines) ≡ packing_behind One (event_words e ∷ lines)
    plain lines h = rw h refl

-- the lines of all entries and of a report give the journal
pack_whole : (journal : Journal) (k : ℕ) (report : View) → IsDone journal → AreAllWorded journal
    → pack (journal_in journal.format []) k
    (lines_of (traced_from (start_of journal.format) journal.events ++ report_text report)) ≡ all_of journal
pack_whole journal k report d w =
    let begins = lines_of-report report in
    let none = journal_in journal.format [] in
    let t = pack_traced journal.events (start_of journal.format) none none k (report_text report) d w in
    t.1 ∙ ap (pack journal t.0) begins.1 ∙ pack_report journal t.0 begins.0

pack_trace : (format : Format) (events : List Event) → IsDone (journal_in format events)
    → AreAllWorded (journal_in format events)
    → packing_in (lines_of (trace_text (journal_in format events))) ≡ all_of (journal_in format events)
pack_trace One events d w =
    let journal = journal_in One events in
    plain_trace events (start_of One) (journal_in One []) (view_of journal) d
    ∙ pack_whole journal 1 (view_of journal) d w
pack_trace Two events d w =
    let journal = journal_in Two events in
    pack_whole journal 2 (view_of journal) d w

pub packs_back : (journal : Journal) → IsDone journal → AreAllWorded journal → PacksBack journal
packs_back journal d w = record {
  events = λ short. sym (short_text (trace_text journal) short) ∙ pack_trace journal.format journal.events d w;
  lines = append-nil (journal_text journal);
}

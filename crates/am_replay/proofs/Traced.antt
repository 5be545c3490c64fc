-- A trace, one entry further, and how its parts make the whole.
use Rattle.std.proofs.Common.{◌≡◌, inl, inr, ℕ, ◌+◌, ◌<◌, ◌≤◌, Bool, true, false, suc, zero, List, [], ◌∷◌, ◌++◌}
use Rattle.std.proofs.Common.{length, get_or, take, codes, Option, Some, None, refl, sym, ap, subst, ◌∙◌, append_assoc}
use Rattle.std.proofs.Common.{arith, length-append}
use Rattle.std.specs.Prelude.{IfSome, slice_get}
use Rattle.std.specs.List.{AllByRecursion, flat_map, fold}
use Rattle.std.proofs.lemmas.List.{append-nil, take_more}
use Rattle.std.proofs.lemmas.Grind.{flat_map-append, fold-append}
use Rattle.std.proofs.lemmas.Option.{slice_get_within, get_or_from_slice_get}
use Rattle.am_text.specs.Lines.{lines_of}
use Rattle.am_base.specs.Outside.{BytesTold, AreTold}
use Rattle.am_base.specs.Stops.{input_limit}
use Rattle.am_base.specs.Seen.{Seen, seen}
use Rattle.am_counter.specs.Played.{ArePlayed}
use Rattle.am_journal.specs.declared.event.Event.{Event}
use Rattle.am_journal.specs.declared.event.Format.{Format}
use Rattle.am_journal.specs.declared.event.Journal.{Journal}
use Rattle.am_journal.specs.Journal.{journal_in, longer, first_line, heading_text}
use Rattle.am_journal.specs.Lawful.{IsLawful}
use Rattle.am_journal.specs.declared.event.Why.{Why}
use Rattle.am_journal.specs.Texts.{refused_text}
use Rattle.core_outputs.specs.declared.reply.Reply.{Reply}
use Rattle.acme_core.specs.Run.{step, run}
use Rattle.core_parts.specs.States.{State, start_of}
use Rattle.am_replay.specs.declared.replaying.End.{End}
use Rattle.am_replay.specs.declared.replaying.End.TheVariants as ends
use Rattle.am_replay.specs.declared.script.Stop.{Stop}
use Rattle.am_replay.specs.declared.script.Stop.TheVariants as stop
use Rattle.am_serve.specs.Faults.{fault_word}
use Rattle.am_replay.specs.Playing.{Put, Stops, EndText, Finishes, end_at}
use Rattle.am_replay.specs.Scripts.{Script, ended, none_read, refused_at, script_behind, script_in, script_of, end_of}
use Rattle.am_replay.specs.Traces.{event_line, reply_words, replies_words, entry_words, traced_from, traced, trace_of}
use Rattle.am_replay.specs.Traces.{HasWords, AllHaveWords, AreAllWorded, Shown, Traces, TraceSays}
use Rattle.am_replay.specs.Written.{Wrote, IsFront}
use Rattle.core_laws.specs.Fronts as fronts
use Rattle.core_laws.specs.Fronts.{followed}
use Rattle.am_replay.proofs.Fronts.{front_whole, play_front}
use Rattle.am_replay.proofs.OwnText.{front_more, put_front}
use Rattle.am_replay.proofs.Ran.{whole_or_cut, short_script, long_script, long_bytes, some_bytes}
use Rattle.am_replay.proofs.Wrote.{wrote_on, wrote_none}

-- ---- replies

-- one reply more
pub words_more : (rs : List Reply) (k : ℕ) (r : Reply) → slice_get rs k ≡ Some r
    → flat_map reply_words (take (k + 1) rs) ≡ flat_map reply_words (take k rs) ++ reply_words r
words_more rs k r h =
    let within : k < length rs = slice_get_within rs k r h in
    let here : get_or rs k r ≡ r = get_or_from_slice_get rs k r r h in
    ap (flat_map reply_words) (take_more rs k r within) ∙ flat_map-append reply_words (take k rs) (get_or rs k r ∷ [])
    ∙ ap (λ (x : List ℕ). flat_map reply_words (take k rs) ++ x) (append-nil (reply_words (get_or rs k r))
    ∙ ap reply_words here)

pub all_more : (P : Reply → Type 0) (rs : List Reply) (k : ℕ) (r : Reply) → slice_get rs k ≡ Some r
    → AllByRecursion P (take k rs) → P r → AllByRecursion P (take (k + 1) rs)
all_more P rs k r h all one =
    let within : k < length rs = slice_get_within rs k r h in
    let here : get_or rs k r ≡ r = get_or_from_slice_get rs k r r h in
    subst (AllByRecursion P) (sym (take_more rs k r within)) (pushed (take k rs) (get_or rs k r) all
    (subst P (sym here) one))
  where
    pushed : (xs : List Reply) (x : Reply) → AllByRecursion P xs → P x → AllByRecursion P (xs ++ x ∷ [])
    pushed [] x h k = (k, tt)
    pushed (y ∷ xs) x h k = (h.0, pushed xs x h.1 k)

pub none_more : (rs : List Reply) (k : ℕ) → slice_get rs k ≡ None → take k rs ≡ rs
none_more [] zero h = refl
none_more [] (suc k) h = refl
none_more (r ∷ rs) zero h = absurd cc
none_more (r ∷ rs) (suc k) h = ap (λ (x : List Reply). r ∷ x) (none_more rs k h)

pub words_done : (rs : List Reply) (k : ℕ) → slice_get rs k ≡ None → flat_map reply_words
    (take k rs) ≡ flat_map reply_words rs
words_done rs k h = ap (flat_map reply_words) (none_more rs k h)

pub worded_done : (rs : List Reply) (k : ℕ) → slice_get rs k ≡ None → AllByRecursion HasWords (take k rs)
    → AllByRecursion HasWords rs
worded_done rs k h all = subst (AllByRecursion HasWords) (none_more rs k h) all

pub ruleset trace_more = (words_done, worded_done)

-- a reply's line was put behind those of the replies before
pub text_more : (old front line now : List ℕ) (rs : List Reply) (k : ℕ) (r : Reply) → slice_get rs k ≡ Some r
    → old ≡ front ++ flat_map reply_words (take k rs) → now ≡ old ++ line → line ≡ reply_words r
    → now ≡ front ++ flat_map reply_words (take (k + 1) rs)
text_more old front line now rs k r h o n e =
    n ∙ ap (λ (x : List ℕ). old ++ x) e ∙ ap (λ (x : List ℕ). x ++ reply_words r) o
    ∙ append_assoc front (flat_map reply_words (take k rs)) (reply_words r)
    ∙ ap (λ (x : List ℕ). front ++ x) (sym (words_more rs k r h))

-- ---- the last event

pub has_last : (before journal : Journal) → (e : Event) × (journal ≡ longer before e) → 0 < length journal.events
has_last before journal did =
    omega (arith, ap (λ (x : Journal). length x.events) did.1, length-append before.events (did.0 ∷ []))

last_is : (before : List Event) (e d : Event) (n : ℕ) → n ≡ length before → get_or (before ++ e ∷ []) n d ≡ e
last_is [] e d n is = rw is refl
last_is (b ∷ before) e d zero is = absurd (omega (arith, is))
last_is (b ∷ before) e d (suc n) is = last_is before e d n (omega (arith, is))

-- the member at the end is the last event
pub last_event : (before journal : Journal) (e d : Event) (n : ℕ) → journal ≡ longer before e
    → n + 1 ≡ length journal.events → get_or journal.events n d ≡ e
last_event before journal e d n is end =
    ap (λ (x : Journal). get_or x.events n d) is ∙ last_is before.events e d n
    (omega (arith, end, ap (λ (x : Journal). length x.events) is, length-append before.events (e ∷ [])))

pub played_lawful : (allows : List Event → Event → Option Why) (before events : List Event) (n : ℕ) (d : Event)
    → ArePlayed allows before events → n < length events → IsLawful (get_or events n d)
unfolding ArePlayed
played_lawful allows before [] n d p h = absurd (omega arith)
played_lawful allows before (e ∷ events) zero d p h = p.0
played_lawful allows before (e ∷ events) (suc n) d p h = played_lawful allows (before ++ e ∷ []) events n d p.2
    (omega (arith, h))

-- ---- one entry more

traced-append : (s : State) (a b : List Event) → traced_from s (a ++ b) ≡ traced_from s a
    ++ traced_from (fold step s a) b
unfolding traced_from
traced-append s [] b = refl
traced-append s (e ∷ a) b = ap (λ (x : List ℕ). entry_words s e ++ x) (traced-append (step s e) a b)
    ∙ sym (append_assoc (entry_words s e) (traced_from (step s e) a) (traced_from (fold step (step s e) a) b))

traced-more : (journal : Journal) (more : List Event)
    → traced (followed journal more) ≡ traced journal
    ++ traced_from (fold step (start_of journal.format) journal.events) more
traced-more journal more =
    let start = start_of journal.format in
    ap (λ (x : List ℕ). heading_text journal.format ++ x) (traced-append start journal.events more)
    ∙ sym (append_assoc (heading_text journal.format) (traced_from start journal.events)
    (traced_from (fold step start journal.events) more))

traced-push : (journal : Journal) (e : Event) → traced (longer journal e) ≡ traced journal
    ++ (event_line e ++ replies_words (run (longer journal e)).replies)
unfolding traced_from run
traced-push journal e =
    let start = start_of journal.format in
    traced-more journal (e ∷ [])
    ∙ ap (λ (x : List ℕ). traced journal ++ x) (append-nil (entry_words (fold step start journal.events) e)
    ∙ ap (λ (s : State). event_line e ++ replies_words s.replies)
    (sym (fold-append step start journal.events (e ∷ []))))

words-append : (s : State) (a b : List Event) → AllHaveWords s a → AllHaveWords (fold step s a) b
    → AllHaveWords s (a ++ b)
unfolding AllHaveWords
words-append s [] b h k = k
words-append s (e ∷ a) b h k = (h.0, words-append (step s e) a b h.1 k)

words-push : (journal : Journal) (e : Event) → AreAllWorded journal
    → AllByRecursion HasWords (run (longer journal e)).replies → AreAllWorded (longer journal e)
unfolding AllHaveWords run
words-push journal e h k =
    let start = start_of journal.format in
    words-append start journal.events (e ∷ []) h (
      subst (λ (s : State). AllByRecursion HasWords s.replies)
          (fold-append step start journal.events (e ∷ [])) k,
      tt,
    )

-- the replies of the last event have words
pub words_entry : (before now : Journal) → (e : Event) × (now ≡ longer before e) → AreAllWorded before
    → AllByRecursion HasWords (run now).replies → AreAllWorded now
words_entry before now did h k =
    subst AreAllWorded (sym did.1) (words-push before did.0 h
    (subst (λ (x : Journal). AllByRecursion HasWords (run x).replies) did.1 k))

pub words_start : (format : Format) (journal : Journal) → journal ≡ journal_in format [] → AreAllWorded journal
unfolding AllHaveWords
words_start format journal e = subst AreAllWorded (sym e) tt

-- the lines of one entry were put behind those of the entries before
pub wrote_entry : (failed failed' : Bool) (first mid last : BytesTold) (before now : Journal) (text : List ℕ)
    → (e : Event) × (now ≡ longer before e) → ((before : Journal) (e : Event) → now ≡ longer before e
    → text ≡ event_line e ++ replies_words (run now).replies)
    → Wrote failed (seen first mid) (traced before)
    → Put failed failed' (seen mid last) text
    → Wrote failed' (seen first last) (traced now)
wrote_entry failed failed' first mid last before now text did is w put =
    let o : Seen = seen first last in
    let both : Wrote failed' o (traced before ++ text) = wrote_on failed failed' first mid last (traced before) text w
    put in
    let one : event_line did.0 ++ replies_words (run (longer before did.0)).replies ≡ text =
    ap (λ (x : Journal). event_line did.0 ++ replies_words (run x).replies) (sym did.1) ∙ sym (is before did.0 did.1)
    in
    let all : traced now ≡ traced before ++ text = ap traced did.1 ∙ traced-push before did.0
    ∙ ap (λ (x : List ℕ). traced before ++ x) one in
    subst (λ (x : List ℕ). Wrote failed' o x) (sym all) both

-- the heading was put
pub traced_start : (failed : Bool) (first last : BytesTold) (format : Format) (journal : Journal)
    → journal ≡ journal_in format [] → Wrote failed (seen first last) (heading_text format)
    → Wrote failed (seen first last) (traced journal)
unfolding traced_from
traced_start failed first last format journal e w =
    subst (λ (x : List ℕ). Wrote failed (seen first last) x)
    (sym (append-nil (heading_text format)) ∙ ap traced (sym e)) w

front_traced : (a b : Journal) → fronts.IsFront a b → IsFront (traced a) (traced b)
front_traced a b f =
    (traced_from (fold step (start_of a.format) a.events) f.0, sym (traced-more a f.0) ∙ ap traced f.1)

-- what was put where the lines of the last entry were not
pub short_of : (before now : Journal) (failed : Bool) (o : Seen) → (e : Event) × (now ≡ longer before e)
    → Wrote failed o (traced before) → Shown stop.NoMemory failed o now
short_of before now failed o did w =
    let f : fronts.IsFront before now = (did.0 ∷ [], sym did.1) in
    (traced before, front_traced before now f, w)

all_of_them : (journal : Journal) (failed : Bool) (o : Seen) → Wrote failed o (traced journal)
    → Shown stop.NoMemory failed o journal
all_of_them journal failed o w = (traced journal, ([], append-nil (traced journal)), w)

-- memory ran out before the next event
pub none_done : (before now : Journal) (failed : Bool) (o : Seen) → now ≡ before → Wrote failed o (traced before)
    → Shown stop.NoMemory failed o now
none_done before now failed o same w = subst (λ (x : Journal). Shown stop.NoMemory failed o x) (sym same)
    (all_of_them before failed o w)

-- ---- the whole

at_report : (failed : Bool) (journal : Journal) (o : Seen) → Wrote failed o (trace_of (ended journal))
    → AreAllWorded journal → Traces (end_at stop.Report failed) (ended journal) o journal
at_report false journal o w words = (refl, refl, w.holds, words)
at_report true journal o w words = (refl, refl, w.holds)

-- the text of the end was put behind the entries
pub traces_ok : (s : Stop) (failed failed' : Bool) (script : Script) (journal : Journal) (first mid last : BytesTold)
    (text : List ℕ)
    → Stops s script journal → Shown s failed (seen first mid) journal → EndText s journal text
    → Put failed failed' (seen mid last) text
    → Traces (end_at s failed') script (seen first last) journal
traces_ok stop.Report failed failed' script journal first mid last text stops shown e put =
    let o : Seen = seen first last in
    let w : Wrote failed' o (traced journal ++ text) = wrote_on failed failed' first mid last (traced journal) text
    shown.0 put in
    let w' : Wrote failed' o (trace_of (ended journal)) = subst (λ (x : List ℕ). Wrote failed' o (traced journal ++ x))
    e w in
    subst (λ (x : Script). Traces (end_at stop.Report failed') x o journal) (sym stops)
    (at_report failed' journal o w' shown.1)
traces_ok (stop.Refused line fault) failed failed' script journal first mid last text stops shown e put =
    let o : Seen = seen first last in
    let w : Wrote failed' o (traced journal ++ text) = wrote_on failed failed' first mid last (traced journal) text
    shown put in
    let w' : Wrote failed' o (trace_of (refused_at journal line (fault_word fault))) =
    subst (λ (x : List ℕ). Wrote failed' o (traced journal ++ x)) e w in
    subst (λ (x : Script). Traces ends.Script x o journal) (sym stops)
    (refl, (record { line = line; word = fault_word fault }, refl), whole_or_cut failed' o _ w')
traces_ok stop.NoMemory failed failed' script journal first mid last text stops shown e put = absurd e

-- a front of the text, where a front of the events was done
traces_out : (failed : Bool) (script : Script) (journal : Journal) (o : Seen) (text : List ℕ)
    → fronts.IsFront journal script.journal → IsFront text (traced journal) → Wrote failed o text
    → Traces ends.NoMemory script o journal
traces_out failed script journal o text front part w =
    let r = front_traced journal script.journal front in
    let end : List ℕ = end_of script.journal script.refused in
    let whole : IsFront text (trace_of script) = (
      part.0 ++ (r.0 ++ end),
      sym (append_assoc text part.0 (r.0 ++ end)) ∙ ap (λ (x : List ℕ). x ++ (r.0 ++ end)) part.1
          ∙ sym (append_assoc (traced journal) r.0 end) ∙ ap (λ (x : List ℕ). x ++ end) r.1,
    )
    in (
      inr front,
      front_more o.before.bytes o.now.bytes text (trace_of script) whole
          (put_front o text (whole_or_cut failed o text w)),
    )

-- memory ran out by then
pub traces_err : (s : Stop) (failed : Bool) (script : Script) (journal : Journal) (o : Seen) → Stops s script journal
    → Shown s failed o journal → Traces ends.NoMemory script o journal
traces_err stop.Report failed script journal o stops shown =
    traces_out failed script journal o (traced journal)
    (subst (λ (x : Script). fronts.IsFront journal x.journal) (sym stops) (front_whole journal))
    ([], append-nil (traced journal)) shown.0
traces_err (stop.Refused line fault) failed script journal o stops shown =
    traces_out failed script journal o (traced journal)
    (subst (λ (x : Script). fronts.IsFront journal x.journal) (sym stops) (front_whole journal))
    ([], append-nil (traced journal)) shown
traces_err stop.NoMemory failed script journal o stops (text, part, w) = traces_out failed script journal o text stops
    part w

-- by what stands at the end
pub traces_end : (s : Stop) (failed : Bool) (script : Script) (journal : Journal) (first mid last : BytesTold)
    (end : End)
    → Stops s script journal → Shown s failed (seen first mid) journal → Finishes s failed (seen mid last) journal end
    → Traces end script (seen first last) journal
traces_end s failed script journal first mid last end stops shown (inl x) =
    subst (λ (e : End). Traces e script (seen first last) journal) (sym x.is)
    (traces_ok s failed x.failed_now script journal first mid last x.text stops shown x.told x.put)
traces_end s failed script journal first mid last end stops shown (inr (none, same)) =
    subst (λ (e : End). Traces e script (seen first last) journal) (sym none)
    (subst (λ (b : BytesTold). Traces ends.NoMemory script (seen first b) journal) (sym same)
    (traces_err s failed script journal (seen first mid) stops shown))

-- memory ran out before the first line behind the heading
pub traces_none : (format : Format) (lines : List (List ℕ)) (first : BytesTold)
    → Traces ends.NoMemory (script_behind format lines) (seen first first) (journal_in format [])
traces_none format lines first =
    traces_out false _ _ _ [] (play_front lines (journal_in format []) (first_line format))
    (traced (journal_in format []), refl) (wrote_none first)

-- memory ran out before a line was read
pub traces_unread : (script : Script) (first : BytesTold) → Traces ends.NoMemory script (seen first first) none_read
traces_unread script first = (
  inl refl,
  front_more first.bytes first.bytes [] (trace_of script) (trace_of script, refl)
      (put_front (seen first first) [] (whole_or_cut false (seen first first) [] (wrote_none first))),
)

-- the whole input is refused
pub traces_refused : (failed : Bool) (o : Seen) (text : List ℕ) → text ≡ refused_text 0 (codes "input")
    → Put false failed o text → Traces ends.Script (refused_at none_read 0 (codes "input")) o none_read
unfolding traced_from
traces_refused failed o text e put = (
  refl,
  (record { line = 0; word = codes "input" }, refl),
  whole_or_cut failed o _ (subst (λ (x : List ℕ). Wrote failed o x) e put),
)

-- a script that was traced is that of some bytes
trace_says : (end : End) (script : Script) (bytes : List ℕ) (before now : BytesTold) (o : Seen) (journal : Journal)
    → script ≡ script_of bytes → AreTold before.bytes bytes → Traces end script o journal
    → TraceSays end before now o journal
trace_says ends.Done script bytes before now o journal e t r = (
  bytes,
  t,
  subst (λ (x : Script). Traces ends.Done x o journal) e r,
)
trace_says ends.Usage script bytes before now o journal e t r = r
trace_says ends.Script script bytes before now o journal e t r = (
  bytes,
  t,
  subst (λ (x : Script). Traces ends.Script x o journal) e r,
)
trace_says ends.ReadFault script bytes before now o journal e t r = absurd r
trace_says ends.WriteFault script bytes before now o journal e t r =
    (bytes, t, subst (λ (x : Script). Traces ends.WriteFault x o journal) e r)
trace_says ends.NoMemory script bytes before now o journal e t r =
    (bytes, t, subst (λ (x : Script). Traces ends.NoMemory x o journal) e r)

pub says_short : (end : End) (bytes : List ℕ) (before now : BytesTold) (o : Seen) (journal : Journal)
    → length bytes ≤ input_limit → AreTold before.bytes bytes → Traces end (script_in (lines_of bytes)) o journal
    → TraceSays end before now o journal
says_short end bytes before now o journal h t r = trace_says end (script_in (lines_of bytes)) bytes before now o journal
    (short_script bytes h) t r

pub says_long : (end : End) (before now : BytesTold) (o : Seen) (journal : Journal)
    → IfSome before.bytes (λ bytes. input_limit < length bytes)
    → Traces end (refused_at none_read 0 (codes "input")) o journal
    → TraceSays end before now o journal
says_long end before now o journal h r =
    let b = long_bytes before.bytes h in
    trace_says end (refused_at none_read 0 (codes "input")) b.0 before now o journal (long_script b.0 b.1) b.2 r

-- memory ran out before all was read
pub says_none : (before now first : BytesTold) → TraceSays ends.NoMemory before now (seen first first) none_read
says_none before now first = let b = some_bytes before.bytes in (b.0, b.1, traces_unread (script_of b.0) first)

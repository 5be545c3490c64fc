-- How the parts of a replay make the whole.
use Rattle.std.proofs.Common.{◌≡◌, ◌⊎◌, inl, inr, ℕ, ◌+◌, ◌<◌, ◌≤◌, Bool, true, false, zero, suc, List, [], ◌∷◌, ◌++◌}
use Rattle.std.proofs.Common.{length, codes, Option, Some, None, refl, sym, ap, subst, ◌∙◌, arith}
use Rattle.std.specs.Prelude.{IfSome}
use Rattle.std.proofs.lemmas.Bool.{lt-ltb, le-ltb}
use Rattle.am_text.specs.Lines.{lines_of}
use Rattle.am_base.specs.Outside.{BytesTold, AreTold}
use Rattle.am_journal.specs.declared.event.Event.{Event}
use Rattle.am_journal.specs.declared.event.Format.{Format}
use Rattle.am_journal.specs.declared.event.Journal.{Journal}
use Rattle.am_journal.specs.Journal.{journal_in, longer, format_of, behind_heading, first_line}
use Rattle.am_journal.specs.Texts.{refused_text}
use Rattle.am_replay.specs.declared.replaying.End.{End}
use Rattle.am_replay.specs.declared.replaying.End.TheVariants as ends
use Rattle.am_replay.specs.declared.script.Stop.{Stop}
use Rattle.am_replay.specs.declared.script.Stop.TheVariants as stop
use Rattle.am_replay.specs.declared.script.Did.TheVariants as did
use Rattle.am_replay.specs.Scripts.{Script, ended, none_read, refused_at, play, script_behind, script_in, script_of}
use Rattle.am_replay.specs.Scripts.{replied, replied_from, end_of, text_of, reply_lines}
use Rattle.am_base.specs.Stops.{input_limit}
use Rattle.am_base.specs.Seen.{Seen, seen}
use Rattle.am_base.specs.Written.{IsWhole, IsCut}
use Rattle.am_replay.specs.Written.{Wrote, IsPart, IsCaughtUp}
use Rattle.core_laws.specs.Fronts as fronts
use Rattle.am_serve.specs.Faults.{fault_word}
use Rattle.am_replay.specs.Playing.{Put, Stops, Shows, EndText, Finishes, end_at, line_script, DidLine}
use Rattle.am_replay.specs.Ends.{Ran, RanOut, Says}
use Rattle.am_replay.proofs.Wrote.{wrote_on, wrote_none}
use Rattle.acme_core.specs.Run.{run}
use Rattle.am_replay.proofs.Replied.{replied-push}
use Rattle.am_replay.proofs.Fronts.{part_whole, front_caught_up, play_front}

-- a text was put, whole or cut
pub whole_or_cut : (failed : Bool) (o : Seen) (text : List ℕ) → Wrote failed o text → IsWhole o text ⊎ IsCut o text
whole_or_cut false o text w = inl w.holds
whole_or_cut true o text w = inr w.holds

at_report : (failed : Bool) (journal : Journal) (o : Seen) → Wrote failed o (replied journal ++ end_of journal None)
    → Ran (end_at stop.Report failed) (ended journal) o journal
at_report false journal o w = (refl, refl, w.holds)
at_report true journal o w = (refl, refl, w.holds)

-- the text of the end was put behind the replies
pub ran_ok : (s : Stop) (failed failed' : Bool) (script : Script) (journal : Journal) (first mid last : BytesTold)
    (text : List ℕ)
    → Stops s script journal → Shows s failed (seen first mid) journal (replied journal) → EndText s journal text
    → Put failed failed' (seen mid last) text
    → Ran (end_at s failed') script (seen first last) journal
ran_ok stop.Report failed failed' script journal first mid last text stops shows e put =
    let o : Seen = seen first last in
    let w : Wrote failed' o (replied journal ++ text) = wrote_on failed failed' first mid last (replied journal) text
    shows put in
    let w' : Wrote failed' o (replied journal ++ end_of journal None) =
    subst (λ (x : List ℕ). Wrote failed' o (replied journal ++ x)) e w in
    subst (λ (x : Script). Ran (end_at stop.Report failed') x o journal) (sym stops) (at_report failed' journal o w')
ran_ok (stop.Refused line fault) failed failed' script journal first mid last text stops shows e put =
    let o : Seen = seen first last in
    let w : Wrote failed' o (replied journal ++ text) = wrote_on failed failed' first mid last (replied journal) text
    shows put in
    let w' : Wrote failed' o (text_of (refused_at journal line (fault_word fault))) =
    subst (λ (x : List ℕ). Wrote failed' o (replied journal ++ x)) e w in
    subst (λ (x : Script). Ran ends.Script x o journal) (sym stops)
    (refl, (record { line = line; word = fault_word fault }, refl), whole_or_cut failed' o _ w')
ran_ok stop.NoMemory failed failed' script journal first mid last text stops shows e put = absurd e

out_at : (failed : Bool) (script : Script) (journal : Journal) (o : Seen) (text : List ℕ)
    → IsPart journal script.journal → IsCaughtUp journal text → Wrote failed o text → RanOut script o journal
out_at failed script journal o text front caught w = record {
  events = front;
  put = (text, caught, front_caught_up journal text script front caught, whole_or_cut failed o text w);
}

-- memory ran out by then
pub ran_err : (s : Stop) (failed : Bool) (script : Script) (journal : Journal) (o : Seen)
    → Stops s script journal → Shows s failed o journal (replied journal) → Ran ends.NoMemory script o journal
ran_err stop.Report failed script journal o stops shows =
    out_at failed script journal o (replied journal) (subst (λ (x : Script). IsPart journal x.journal) (sym stops)
    (part_whole journal)) (inl refl) shows
ran_err (stop.Refused line fault) failed script journal o stops shows =
    out_at failed script journal o (replied journal) (subst (λ (x : Script). IsPart journal x.journal) (sym stops)
    (part_whole journal)) (inl refl) shows
ran_err stop.NoMemory failed script journal o stops (text, caught, w) = out_at failed script journal o text (inr stops)
    caught w

-- by what stands at the end
pub ran_end : (s : Stop) (failed : Bool) (script : Script) (journal : Journal) (first mid last : BytesTold)
    (end : End)
    → Stops s script journal → Shows s failed (seen first mid) journal (replied journal)
    → Finishes s failed (seen mid last) journal end
    → Ran end script (seen first last) journal
ran_end s failed script journal first mid last end stops shows (inl x) =
    subst (λ (e : End). Ran e script (seen first last) journal) (sym x.is)
    (ran_ok s failed x.failed_now script journal first mid last x.text stops shows x.told x.put)
ran_end s failed script journal first mid last end stops shows (inr (none, same)) =
    subst (λ (e : End). Ran e script (seen first last) journal) (sym none)
    (subst (λ (b : BytesTold). Ran ends.NoMemory script (seen first b) journal) (sym same)
    (ran_err s failed script journal (seen first mid) stops shows))

-- memory ran out before the first line behind the heading
pub ran_none : (format : Format) (lines : List (List ℕ)) (first : BytesTold)
    → Ran ends.NoMemory (script_behind format lines) (seen first first) (journal_in format [])
unfolding replied_from
ran_none format lines first =
    out_at false _ _ _ [] (inr (play_front lines (journal_in format []) (first_line format))) (inl refl)
    (wrote_none first)

-- memory ran out before a line was read
pub ran_unread : (script : Script) (first : BytesTold) → Ran ends.NoMemory script (seen first first) none_read
unfolding replied_from
ran_unread script first = out_at false script _ _ [] (inl refl) (inl refl) (wrote_none first)

-- the whole input is refused
pub ran_refused : (failed : Bool) (o : Seen) (text : List ℕ) → text ≡ refused_text 0 (codes "input")
    → Put false failed o text → Ran ends.Script (refused_at none_read 0 (codes "input")) o none_read
unfolding replied_from
ran_refused failed o text e put = (
  refl,
  (record { line = 0; word = codes "input" }, refl),
  whole_or_cut failed o _ (subst (λ (x : List ℕ). Wrote failed o x) e put),
)

-- the lines behind the heading
pub behind_it : (bytes rest : List ℕ) (format : Format) → format ≡ format_of (lines_of bytes)
    → lines_of rest ≡ behind_heading (lines_of bytes)
    → script_behind format (lines_of rest) ≡ script_in (lines_of bytes)
behind_it bytes rest format e r =
    ap (λ (f : Format). script_behind f (lines_of rest)) e ∙ ap (script_behind (format_of (lines_of bytes))) r

pub short_script : (bytes : List ℕ) → length bytes ≤ input_limit → script_in (lines_of bytes) ≡ script_of bytes
unfolding script_of
short_script bytes h = rw (le-ltb input_limit (length bytes) h) refl

pub long_script : (bytes : List ℕ) → input_limit < length bytes
    → refused_at none_read 0 (codes "input") ≡ script_of bytes
unfolding script_of
long_script bytes h = rw (lt-ltb input_limit (length bytes) h) refl

-- a script that ran is that of some bytes
replays : (end : End) (script : Script) (bytes : List ℕ) (before now : BytesTold) (o : Seen) (journal : Journal)
    → script ≡ script_of bytes → AreTold before.bytes bytes → Ran end script o journal → Says end before now o journal
replays ends.Done script bytes before now o journal e t r = (
  bytes,
  t,
  subst (λ (x : Script). Ran ends.Done x o journal) e r,
)
replays ends.Usage script bytes before now o journal e t r = r
replays ends.Script script bytes before now o journal e t r = (
  bytes,
  t,
  subst (λ (x : Script). Ran ends.Script x o journal) e r,
)
replays ends.ReadFault script bytes before now o journal e t r = absurd r
replays ends.WriteFault script bytes before now o journal e t r = (
  bytes,
  t,
  subst (λ (x : Script). Ran ends.WriteFault x o journal) e r,
)
replays ends.NoMemory script bytes before now o journal e t r = (
  bytes,
  t,
  subst (λ (x : Script). Ran ends.NoMemory x o journal) e r,
)

pub says_short : (end : End) (bytes : List ℕ) (before now : BytesTold) (o : Seen) (journal : Journal)
    → length bytes ≤ input_limit → AreTold before.bytes bytes → Ran end (script_in (lines_of bytes)) o journal
    → Says end before now o journal
says_short end bytes before now o journal h t r = replays end (script_in (lines_of bytes)) bytes before now o journal
    (short_script bytes h) t r

-- some bytes that are longer than a number
above : (n : ℕ) → (bytes : List ℕ) × (n < length bytes)
above zero = (0 ∷ [], omega arith)
above (suc n) = let r = above n in (0 ∷ r.0, omega (arith, r.1))

-- some bytes above the limit, those that are told
pub long_bytes : (told : Option (List ℕ)) → IfSome told (λ bytes. input_limit < length bytes) → (bytes : List ℕ)
    × (input_limit < length bytes) × AreTold told bytes
long_bytes None h = let r = above input_limit in (r.0, r.1, tt)
long_bytes (Some bytes) h = (bytes, h, refl)

pub says_long : (end : End) (before now : BytesTold) (o : Seen) (journal : Journal)
    → IfSome before.bytes (λ bytes. input_limit < length bytes)
    → Ran end (refused_at none_read 0 (codes "input")) o journal
    → Says end before now o journal
says_long end before now o journal h r =
    let b = long_bytes before.bytes h in
    replays end (refused_at none_read 0 (codes "input")) b.0 before now o journal (long_script b.0 b.1) b.2 r

pub some_bytes : (told : Option (List ℕ)) → (bytes : List ℕ) × AreTold told bytes
some_bytes None = ([], tt)
some_bytes (Some bytes) = (bytes, refl)

-- memory ran out before all was read
pub says_none : (before now first : BytesTold) → Says ends.NoMemory before now (seen first first) none_read
says_none before now first = let b = some_bytes before.bytes in (b.0, b.1, ran_unread (script_of b.0) first)

-- ---- one line

-- the first line behind the heading
pub begins : (journal : Journal) (k : ℕ) (bs : List ℕ) → journal ≡ journal_in journal.format []
    → k ≡ first_line journal.format → play journal k (lines_of bs) ≡ script_behind journal.format (lines_of bs)
begins journal k bs e n =
    ap (λ (x : Journal). play x k (lines_of bs)) e
    ∙ ap (λ (i : ℕ). play (journal_in journal.format []) i (lines_of bs)) n

play-line : (journal : Journal) (k : ℕ) (line : List ℕ) (ls : List (List ℕ))
    → play journal k (line ∷ ls) ≡ line_script journal k line (λ next. play next (k + 1) ls)
unfolding play
play-line journal k line ls = refl

-- after a line that did an event the script goes on
pub goes_on : (before now : Journal) (k : ℕ) (line bs rest : List ℕ) (total : Script)
    → lines_of bs ≡ line ∷ lines_of rest → DidLine did.Event before k line now
    → play before k (lines_of bs) ≡ total → play now (k + 1) (lines_of rest) ≡ total
goes_on before now k line bs rest total e did told =
    sym (did.0 (λ next. play next (k + 1) (lines_of rest))) ∙ sym (play-line before k line (lines_of rest))
    ∙ ap (play before k) (sym e) ∙ told

pub stops_at : (before now : Journal) (k : ℕ) (line bs rest : List ℕ) (total end : Script)
    → lines_of bs ≡ line ∷ lines_of rest
    → ((go : Journal → Script) → line_script before k line go ≡ end)
    → play before k (lines_of bs) ≡ total → total ≡ end
stops_at before now k line bs rest total end e did told =
    sym told ∙ ap (play before k) e ∙ play-line before k line (lines_of rest)
    ∙ did (λ next. play next (k + 1) (lines_of rest))

pub ends_at : (journal : Journal) (k : ℕ) (bs : List ℕ) (total : Script)
    → length bs ≡ 0 → play journal k (lines_of bs) ≡ total → total ≡ ended journal
unfolding play
ends_at journal k [] total h told = sym told
ends_at journal k (b ∷ bs) total h told = absurd (omega arith)

-- what was done before is a front of all
pub front_of : (journal : Journal) (k : ℕ) (bs : List ℕ) (total : Script)
    → play journal k (lines_of bs) ≡ total → fronts.IsFront journal total.journal
front_of journal k bs total told = subst (λ (x : Script). fronts.IsFront journal x.journal) told
    (play_front (lines_of bs) journal k)

-- nothing was put for no event
pub wrote_start : (first : BytesTold) (format : Format) (journal : Journal) → journal ≡ journal_in format []
    → Wrote false (seen first first) (replied journal)
unfolding replied_from
wrote_start first format journal e = subst (λ (x : Journal). Wrote false (seen first first) (replied x)) (sym e)
    (wrote_none first)

-- the replies of one event were put behind those of the events before
pub wrote_event : (failed failed' : Bool) (first mid last : BytesTold) (before now : Journal) (text : List ℕ)
    → (e : Event) × (now ≡ longer before e) → text ≡ reply_lines (run now).replies
    → Wrote failed (seen first mid) (replied before)
    → Put failed failed' (seen mid last) text
    → Wrote failed' (seen first last) (replied now)
wrote_event failed failed' first mid last before now text did e w put =
    let o : Seen = seen first last in
    let both : Wrote failed' o (replied before ++ text) = wrote_on failed failed' first mid last (replied before) text w
    put in
    let one : reply_lines (run (longer before did.0)).replies ≡ text =
    ap (λ (x : Journal). reply_lines (run x).replies) (sym did.1) ∙ sym e in
    let all : replied now ≡ replied before ++ text = ap replied did.1 ∙ replied-push before did.0
    ∙ ap (λ (x : List ℕ). replied before ++ x) one in
    subst (λ (x : List ℕ). Wrote failed' o x) (sym all) both

-- memory ran out before the next event
pub none_done : (before now : Journal) (failed : Bool) (o : Seen) → now ≡ before → Wrote failed o (replied before)
    → Shows stop.NoMemory failed o now (replied now)
none_done before now failed o same w =
    subst (λ (x : Journal). Shows stop.NoMemory failed o x (replied x)) (sym same) (replied before, inl refl, w)

-- A journal's lines, and a report after them, are read as that journal.
use Rattle.std.proofs.Common.{◌≡◌, ℕ, ◌+◌, ◌/◌, ◌%◌, ◌^◌, ◌<◌, true, false, cond, eqb, ltb, List, [], ◌∷◌, ◌++◌, map}
use Rattle.std.proofs.Common.{Some, refl, ap, ◌∙◌, append_assoc, arith, inl, inr}
use Rattle.std.specs.Prelude.{codes, option_map}
use Rattle.std.specs.Char.{encode_utf8}
use Rattle.std.specs.Fmt.{decimal}
use Rattle.std.specs.List.{AllByRecursion, flat_map, onto_first}
use Rattle.std.proofs.lemmas.Bool.{cases_lt, lt-ltb, le-ltb, eqb-true}
use lib.Utf8.{scalar}
use Rattle.ninep_types.specs.Spelling.{spelling_t}
use Rattle.am_text.specs.Lines.{escaped, lines_of}
use Rattle.am_text.specs.Utf8.{rune_bytes}
use Rattle.am_journal.specs.declared.ending.Ending.{Ending}
use Rattle.am_journal.specs.declared.ending.Ending.TheVariants as ending
use Rattle.am_journal.specs.declared.ending.Bad.TheVariants as bad
use Rattle.ninep_types.specs.declared.fault.WireFault.TheVariants as fault
use Rattle.am_journal.specs.declared.event.Event.{Event}
use Rattle.am_journal.specs.declared.event.Event.TheVariants as event
use Rattle.am_journal.specs.declared.event.Side.{Side}
use Rattle.am_journal.specs.declared.event.Side.TheVariants as side
use Rattle.am_journal.specs.declared.view.View.{View}
use Rattle.am_journal.specs.Causes.{cause}
use Rattle.am_journal.specs.Hexadecimal.{hex_digit, hex_of}
use Rattle.am_journal.specs.declared.event.Spot.{Spot}
use Rattle.am_journal.specs.Lawful.{IsLawful, IsInRange, IsSpotInRange}
use Rattle.am_journal.specs.Paths.{is_path_text}
use Rattle.am_journal.specs.Line.{side_word, dial_line, msg_line, hang_line, took_line, new_line, key_line, sel_line}
use Rattle.am_journal.specs.Line.{spot_words, exec_line, arg_line, look_line, file_line, dir_line, line_text}
use Rattle.am_text.specs.Fields.{around}
use Rattle.am_journal.specs.Report.{title, report_text}
use Rattle.am_journal.specs.declared.event.Format.{Format}
use Rattle.am_journal.specs.declared.event.Format.TheVariants.{One, Two}
use Rattle.am_journal.specs.declared.event.Journal.{Journal}
use Rattle.am_journal.specs.Journal.{journal_in, is_heading, format_of, behind_heading, is_report, events_of, events_text}
use Rattle.am_journal.specs.Journal.{journal_of, journal_text, AreSpelled}
use Rattle.am_journal.proofs.FieldWords.{AreVisible, decimal-visible}
use Rattle.am_journal.proofs.PathLaws.{path_text-visible}
use Rattle.am_journal.proofs.LineLaws.{line-again}

-- ---- texts without newlines

-- none is a newline
abbrev pub AreOneLine : List ℕ → Type 0
AreOneLine [] = Unit {0}
AreOneLine (b ∷ bs) = (eqb b 10 ≡ false) × AreOneLine bs

not_newline : (b : ℕ) → 10 < b → eqb b 10 ≡ false
not_newline b h = elim (eqb b 10) as (λ t. eqb b 10 ≡ t → t ≡ false)
    [ true ↦ λ e. absurd (omega (arith, eqb-true b 10 e)) | false ↦ λ e. refl ] refl

joined-one_line : (xs ys : List ℕ) → AreOneLine xs → AreOneLine ys → AreOneLine (xs ++ ys)
joined-one_line [] ys h k = k
joined-one_line (x ∷ xs) ys h k = (h.0, joined-one_line xs ys h.1 k)

visible-one_line : (bs : List ℕ) → AreVisible bs → AreOneLine bs
visible-one_line [] h = tt
visible-one_line (b ∷ bs) h = (not_newline b (omega (arith, h.0)), visible-one_line bs h.1)

decimal-one_line : (n : ℕ) → n < 2 ^ 64 → AreOneLine (decimal n)
decimal-one_line n h = visible-one_line (decimal n) (decimal-visible n h)

digit_above : (n : ℕ) → 10 < hex_digit n
digit_above n = elim (ltb n 10) as (λ t. 10 < cond t (48 + n) (87 + n)) [ true ↦ omega arith | false ↦ omega arith ]

hex-one_line : (bytes : List ℕ) → AreOneLine (hex_of bytes)
unfolding hex_of
hex-one_line [] = tt
hex-one_line (b ∷ bs) = (
  not_newline (hex_digit (b / 16)) (digit_above (b / 16)),
  (not_newline (hex_digit (b % 16)) (digit_above (b % 16)), hex-one_line bs),
)

cause-one_line : (why : Ending) → AreOneLine (cause why)
cause-one_line ending.End = (refl, (refl, (refl, tt)))
cause-one_line ending.Torn = (refl, (refl, (refl, (refl, tt))))
cause-one_line ending.ReadFault = (refl, (refl, (refl, (refl, (refl, tt)))))
cause-one_line (ending.Broken (bad.Wire fault.Size)) = (
  refl,
  (
    refl,
    (refl, (refl, (refl, (refl, (refl, (refl, (refl, (refl, (refl, tt))))))))),
  ),
)
cause-one_line (ending.Broken (bad.Wire fault.Kind)) = (
  refl,
  (
    refl,
    (refl, (refl, (refl, (refl, (refl, (refl, (refl, (refl, (refl, tt))))))))),
  ),
)
cause-one_line (ending.Broken (bad.Wire fault.Short)) = (
  refl,
  (
    refl,
    (refl, (refl, (refl, (refl, (refl, (refl, (refl, (refl, (refl, (refl, tt)))))))))),
  ),
)
cause-one_line (ending.Broken (bad.Wire fault.Long)) = (
  refl,
  (
    refl,
    (refl, (refl, (refl, (refl, (refl, (refl, (refl, (refl, (refl, tt))))))))),
  ),
)
cause-one_line (ending.Broken (bad.Wire fault.Text)) = (
  refl,
  (
    refl,
    (refl, (refl, (refl, (refl, (refl, (refl, (refl, (refl, (refl, tt))))))))),
  ),
)
cause-one_line (ending.Broken (bad.Wire fault.Names)) = (
  refl,
  (
    refl,
    (refl, (refl, (refl, (refl, (refl, (refl, (refl, (refl, (refl, (refl, tt)))))))))),
  ),
)
cause-one_line (ending.Broken bad.Size) = (
  refl,
  (
    refl,
    (
      refl,
      (
        refl,
        (refl, (refl, (refl, (refl, (refl, (refl, (refl, (refl, tt)))))))),
      ),
    ),
  ),
)
cause-one_line (ending.Broken bad.Tag) = (
  refl,
  (
    refl,
    (
      refl,
      (
        refl,
        (refl, (refl, (refl, (refl, (refl, (refl, tt)))))),
      ),
    ),
  ),
)
cause-one_line ending.Spent = (refl, (refl, (refl, (refl, (refl, tt)))))
cause-one_line ending.Gone = (refl, (refl, (refl, (refl, tt))))
cause-one_line ending.NoMemory = (refl, (refl, (refl, (refl, (refl, (refl, tt))))))

encoded-one_line : (c : ℕ) → eqb c 10 ≡ false → AreOneLine (encode_utf8 c)
unfolding encode_utf8
encoded-one_line c other =
    elim (cases_lt c 128) [
      | inl h ↦ rw (lt-ltb c 128 h) (other, tt)
      | inr h ↦ elim (cases_lt c 2048) [
        | inl k ↦ rw (le-ltb c 128 h, lt-ltb c 2048 k) (
          not_newline (192 + c / 64) (omega arith),
          (not_newline (128 + c % 64) (omega arith), tt),
        )
        | inr k ↦ elim (cases_lt c 65536) [
          | inl m ↦ rw (le-ltb c 128 h, le-ltb c 2048 k, lt-ltb c 65536 m) (
            not_newline (224 + c / 4096) (omega arith),
            (
              not_newline (128 + c / 64 % 64) (omega arith),
              (not_newline (128 + c % 64) (omega arith), tt),
            ),
          )
          | inr m ↦ rw (le-ltb c 128 h, le-ltb c 2048 k, le-ltb c 65536 m) (
            not_newline (240 + c / 262144) (omega arith),
            (
              not_newline (128 + c / 4096 % 64) (omega arith),
              (not_newline (128 + c / 64 % 64) (omega arith), (not_newline (128 + c % 64) (omega arith), tt)),
            ),
          )
        ]
      ]
    ]

rune-one_line : (c : ℕ) → eqb c 10 ≡ false → AreOneLine (rune_bytes c)
rune-one_line c other = elim (scalar c) as (λ t. AreOneLine (cond t (encode_utf8 c) (encode_utf8 0xFFFD)))
    [ true ↦ encoded-one_line c other | false ↦ encoded-one_line 0xFFFD refl ]

mark-one_line : (c : ℕ) → AreOneLine (escaped c)
mark-one_line c =
    elim (eqb c 10) as (λ t. eqb c 10 ≡ t → AreOneLine (cond t (92 ∷ 110 ∷ [])
    (cond (eqb c 92) (92 ∷ 92 ∷ []) (rune_bytes c)))) [
      | true ↦ λ e. (refl, (refl, tt))
      | false ↦ λ e. elim (eqb c 92) as (λ t. AreOneLine (cond t (92 ∷ 92 ∷ []) (rune_bytes c)))
          [ true ↦ (refl, (refl, tt)) | false ↦ rune-one_line c e ]
    ] refl

escaped-one_line : (text : List ℕ) → AreOneLine (flat_map escaped text)
escaped-one_line [] = tt
escaped-one_line (c ∷ cs) = joined-one_line (escaped c) (flat_map escaped cs) (mark-one_line c) (escaped-one_line cs)

side-one_line : (on : Side) → AreOneLine (side_word on)
side-one_line side.Tag = (refl, (refl, (refl, tt)))
side-one_line side.Body = (refl, (refl, (refl, (refl, tt))))

-- ---- the line of an event

field-one_line : (n : ℕ) (end : List ℕ) → n < 2 ^ 64 → AreOneLine end → AreOneLine ((decimal n ++ 32 ∷ []) ++ end)
field-one_line n end h k = joined-one_line (decimal n ++ 32 ∷ []) end
    (joined-one_line (decimal n) (32 ∷ []) (decimal-one_line n h) (refl, tt)) k

spot-one_line : (at : Spot) → IsSpotInRange at → AreOneLine (spot_words at)
unfolding spot_words
spot-one_line at k =
    let q1 = decimal at.range.q1 in
    let ends = decimal at.range.q0 ++ 32 ∷ q1 in
    let words = side_word at.side ++ 32 ∷ ends in
    let ends-one = joined-one_line (decimal at.range.q0) (32 ∷ q1) (decimal-one_line at.range.q0 k.1)
    (refl, decimal-one_line at.range.q1 k.2) in
    let words-one = joined-one_line (side_word at.side) (32 ∷ ends) (side-one_line at.side) (refl, ends-one) in
    joined-one_line (decimal at.window) (32 ∷ words) (decimal-one_line at.window (omega (arith, k.0))) (refl, words-one)

spots-one_line : (at chord : Spot) → IsSpotInRange at → IsSpotInRange chord
    → AreOneLine (spot_words at ++ 32 ∷ spot_words chord)
spots-one_line at chord k m = joined-one_line (spot_words at) (32 ∷ spot_words chord) (spot-one_line at k)
    (refl, spot-one_line chord m)

path-one_line : (path : List ℕ) → is_path_text path ≡ true → AreOneLine path
path-one_line path h = visible-one_line path (path_text-visible path h)

file-one_line : (path text : List ℕ) → is_path_text path ≡ true → AreOneLine (path ++ 32 ∷ 58 ∷ flat_map escaped text)
file-one_line path text h = joined-one_line path (32 ∷ 58 ∷ flat_map escaped text) (path-one_line path h)
    (refl, (refl, escaped-one_line text))

line-one_line : (e : Event) → IsLawful e → IsInRange e → AreOneLine (line_text e)
unfolding dial_line msg_line hang_line took_line new_line key_line sel_line exec_line arg_line look_line file_line
    dir_line around
line-one_line (event.Dial c) h k = (refl, (refl, (refl, (refl, (refl, decimal-one_line c (omega (arith, k)))))))
line-one_line (event.Msg c m) h k = (
  refl,
  (
    refl,
    (
      refl,
      (
        refl,
        field-one_line c (hex_of (spelling_t m))
            (omega (arith, k.0)) (hex-one_line (spelling_t m)),
      ),
    ),
  ),
)
line-one_line (event.Hang c why) h k = (
  refl,
  (
    refl,
    (
      refl,
      (
        refl,
        (refl, field-one_line c (cause why) (omega (arith, k)) (cause-one_line why)),
      ),
    ),
  ),
)
line-one_line (event.Took c) h k = (refl, (refl, (refl, (refl, (refl, decimal-one_line c (omega (arith, k)))))))
line-one_line event.New h k = (refl, (refl, (refl, tt)))
line-one_line (event.Key w on text) h k = (
  refl,
  (
    refl,
    (
      refl,
      (
        refl,
        field-one_line w (side_word on ++ 32 ∷ 58 ∷ flat_map escaped text) (omega (arith, k))
            (joined-one_line (side_word on) (32 ∷ 58 ∷ flat_map escaped text) (side-one_line on)
            (refl, (refl, escaped-one_line text))),
      ),
    ),
  ),
)
line-one_line (event.Sel w range) h k = (
  refl,
  (
    refl,
    (
      refl,
      (
        refl,
        field-one_line w ((decimal range.q0 ++ 32 ∷ []) ++ decimal range.q1) (omega (arith, k.0))
            (field-one_line range.q0 (decimal range.q1) k.1 (decimal-one_line range.q1 k.2)),
      ),
    ),
  ),
)
line-one_line (event.Exec at) h k = (refl, (refl, (refl, (refl, (refl, spot-one_line at k)))))
line-one_line (event.Arg at chord) h k = (refl, (refl, (refl, (refl, spots-one_line at chord k.0 k.1))))
line-one_line (event.Look at) h k = (refl, (refl, (refl, (refl, (refl, spot-one_line at k)))))
line-one_line (event.File path text) h k = (refl, (refl, (refl, (refl, (refl, file-one_line path text h.0)))))
line-one_line (event.Dir path) h k = (refl, (refl, (refl, (refl, path-one_line path h))))

-- the line of an event is no line `report`
pub line-no_report : (e : Event) → is_report (line_text e) ≡ false
unfolding dial_line msg_line hang_line took_line new_line key_line sel_line exec_line arg_line look_line file_line
    dir_line around
line-no_report (event.Dial c) = refl
line-no_report (event.Msg c m) = refl
line-no_report (event.Hang c why) = refl
line-no_report (event.Took c) = refl
line-no_report event.New = refl
line-no_report (event.Key w on text) = refl
line-no_report (event.Sel w range) = refl
line-no_report (event.Exec at) = refl
line-no_report (event.Arg at chord) = refl
line-no_report (event.Look at) = refl
line-no_report (event.File path text) = refl
line-no_report (event.Dir path) = refl

-- ---- lines

lines_of-line : (line rest : List ℕ) → AreOneLine line → lines_of (line ++ 10 ∷ rest) ≡ line ∷ lines_of rest
lines_of-line [] rest h = refl
lines_of-line (b ∷ bs) rest h = rw (h.0) (ap (onto_first b) (lines_of-line bs rest h.1))

-- the lines of events' text are those of the events
pub lines_of-journal : (journal : List Event) (rest : List ℕ) → AllByRecursion IsLawful journal
    → AllByRecursion IsInRange journal → lines_of (events_text journal ++ rest) ≡ map line_text journal
    ++ lines_of rest
lines_of-journal [] rest h k = refl
lines_of-journal (e ∷ es) rest h k =
    ap lines_of (append_assoc (line_text e ++ 10 ∷ []) (events_text es) rest
    ∙ append_assoc (line_text e) (10 ∷ []) (events_text es ++ rest))
    ∙ lines_of-line (line_text e) (events_text es ++ rest) (line-one_line e h.0 k.0)
    ∙ ap (λ (l : List (List ℕ)). line_text e ∷ l) (lines_of-journal es rest h.1 k.1)

-- a report begins with a line `report`
pub lines_of-report : (v : View) → (rest : List (List ℕ)) × (lines_of (report_text v) ≡ codes "report" ∷ rest)
unfolding title
lines_of-report v = (_, refl)

-- ---- the law

events-line : (e : Event) (lines : List (List ℕ)) (journal : List Event) → IsLawful e → IsInRange e
    → events_of lines ≡ Some journal → events_of (line_text e ∷ lines) ≡ Some (e ∷ journal)
events-line e lines journal h k rest = rw (line-no_report e, line-again e h k, rest) refl

events-journal : (journal : List Event) (lines : List (List ℕ)) → AllByRecursion IsLawful journal
    → AllByRecursion IsInRange journal → events_of lines ≡ Some []
    → events_of (map line_text journal ++ lines) ≡ Some journal
events-journal [] lines h k end = end
events-journal (e ∷ es) lines h k end = events-line e (map line_text es ++ lines) es h.0 k.0
    (events-journal es lines h.1 k.1 end)

-- the line of an event is no heading
line-no_heading : (e : Event) → is_heading (line_text e) ≡ false
unfolding dial_line msg_line hang_line took_line new_line key_line sel_line exec_line arg_line look_line file_line
    dir_line around
line-no_heading (event.Dial c) = refl
line-no_heading (event.Msg c m) = refl
line-no_heading (event.Hang c why) = refl
line-no_heading (event.Took c) = refl
line-no_heading event.New = refl
line-no_heading (event.Key w on text) = refl
line-no_heading (event.Sel w range) = refl
line-no_heading (event.Exec at) = refl
line-no_heading (event.Arg at chord) = refl
line-no_heading (event.Look at) = refl
line-no_heading (event.File path text) = refl
line-no_heading (event.Dir path) = refl

-- lines of events and a line `report` have no heading
plain-journal : (events : List Event) (rest : List (List ℕ))
    → journal_of (map line_text events ++ codes "report" ∷ rest)
    ≡ option_map (journal_in One) (events_of (map line_text events ++ codes "report" ∷ rest))
plain-journal [] rest = refl
plain-journal (e ∷ es) rest = rw (line-no_heading e) refl

reads_events : (events : List Event) (v : View) → AreSpelled events → (rest : List (List ℕ))
    × ((lines_of (events_text events ++ report_text v) ≡ map line_text events ++ codes "report" ∷ rest)
    × (events_of (map line_text events ++ codes "report" ∷ rest) ≡ Some events))
reads_events events v fits =
    let report = lines_of-report v in (
      report.0,
      (
        lines_of-journal events (report_text v) fits.0 fits.1
            ∙ ap (λ (l : List (List ℕ)). map line_text events ++ l) report.1,
        events-journal events (codes "report" ∷ report.0) fits.0 fits.1 refl,
      ),
    )

reads : (format : Format) (events : List Event) (v : View) → AreSpelled events
    → journal_of (lines_of (journal_text (journal_in format events) ++ report_text v))
    ≡ Some (journal_in format events)
reads One events v fits =
    let read = reads_events events v fits in
    ap journal_of read.1.0 ∙ plain-journal events read.0 ∙ ap (option_map (journal_in One)) read.1.1
reads Two events v fits =
    let read = reads_events events v fits in
    ap (option_map (journal_in Two)) (ap events_of read.1.0 ∙ read.1.1)

pub reads_journal : (journal : Journal) (v : View) → AreSpelled journal.events
    → journal_of (lines_of (journal_text journal ++ report_text v)) ≡ Some journal
reads_journal journal v fits = reads journal.format journal.events v fits

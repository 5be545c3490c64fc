-- The words of a line have no newline, and are no line `report`.
use Rattle.std.proofs.Common.{◌≡◌, ℕ, ◌+◌, ◌/◌, ◌%◌, ◌^◌, ◌<◌, Bool, true, false, cond, ◌&&◌, eqb, ltb, not, List, []}
use Rattle.std.proofs.Common.{◌∷◌, ◌++◌, length, codes, refl, sym, ap, ◌∙◌, append_assoc, arith}
use Rattle.std.specs.Fmt.{decimal}
use Rattle.std.specs.List.{AllByRecursion, flat_map, onto_first}
use Rattle.std.proofs.lemmas.Bool.{eqb-true}
use Rattle.std.proofs.lemmas.List.{append-nil}
use Rattle.std.proofs.lemmas.List.Elements.{recursion_from_All}
use Rattle.am_text.specs.Lines.{lines_of}
use Rattle.ninep_types.specs.declared.message.Qid.{Qid}
use Rattle.ninep_types.specs.declared.message.TMsg.{TMsg}
use Rattle.ninep_types.specs.declared.message.TBody.{TBody}
use Rattle.ninep_types.specs.declared.message.TBody.TheVariants as t
use Rattle.ninep_types.specs.declared.message.RMsg.{RMsg}
use Rattle.ninep_types.specs.declared.message.RBody.{RBody}
use Rattle.ninep_types.specs.declared.message.RBody.TheVariants as r
use Rattle.ninep_types.specs.Spelling.{BodyFits_t, BodyFits_r, BodyInRange_t, BodyInRange_r, IsQid, Fits_t, Fits_r}
use Rattle.ninep_types.specs.Spelling.{InRange_t, InRange_r}
use Rattle.am_journal.specs.declared.event.Event.{Event}
use Rattle.am_journal.specs.declared.event.Event.TheVariants as event
use Rattle.am_journal.specs.Hexadecimal.{hex_digit, hex_of}
use Rattle.am_journal.specs.Journal.{is_report}
use Rattle.am_journal.specs.Lawful.{IsLawful, IsInRange}
use Rattle.am_journal.specs.Line.{line_text}
use Rattle.am_text.specs.Fields.{around}
use Rattle.am_journal.proofs.FieldWords.{AreVisible, decimal-visible}
use Rattle.am_journal.proofs.JournalLaws.{AreOneLine, line-no_report, lines_of-journal}
use Rattle.ninep_trace.specs.declared.line.Line.{Line}
use Rattle.ninep_trace.specs.declared.line.Line.TheVariants as line
use Rattle.ninep_trace.specs.Fields.{number, marked, quoted, text, bytes_in_hex, qid_text, qid_field, blank_and, listed}
use Rattle.ninep_trace.specs.Words.{name_t, fields_t, words_t, name_r, fields_r, words_r, line_words, IsWorded}

-- ---- texts without newlines

-- as a test, which computes where the text is known
abbrev is_one_line : List ℕ → Bool
is_one_line [] = true
is_one_line (b ∷ bs) = not (eqb b 10) && is_one_line bs

no_newline : (b : ℕ) (rest : Bool) → (not (eqb b 10) && rest) ≡ true → (eqb b 10 ≡ false) × (rest ≡ true)
no_newline b rest =
    elim (eqb b 10) as (λ t. eqb b 10 ≡ t → (not t && rest) ≡ true → (t ≡ false) × (rest ≡ true))
    [ true ↦ λ i e. absurd cc | false ↦ λ i e. (refl, e) ] refl

name_line : (bs : List ℕ) → is_one_line bs ≡ true → AreOneLine bs
name_line [] e = tt
name_line (b ∷ bs) e = let p = no_newline b (is_one_line bs) e in (p.0, name_line bs p.1)

not_newline : (b : ℕ) → 10 < b → eqb b 10 ≡ false
not_newline b h = elim (eqb b 10) as (λ t. eqb b 10 ≡ t → t ≡ false)
    [ true ↦ λ e. absurd (omega (arith, eqb-true b 10 e)) | false ↦ λ e. refl ] refl

joined_line : (xs ys : List ℕ) → AreOneLine xs → AreOneLine ys → AreOneLine (xs ++ ys)
joined_line [] ys h k = k
joined_line (x ∷ xs) ys h k = (h.0, joined_line xs ys h.1 k)

visible_line : (bs : List ℕ) → AreVisible bs → AreOneLine bs
visible_line [] h = tt
visible_line (b ∷ bs) h = (not_newline b (omega (arith, h.0)), visible_line bs h.1)

decimal_line : (n : ℕ) → n < 2 ^ 64 → AreOneLine (decimal n)
decimal_line n h = visible_line (decimal n) (decimal-visible n h)

number_line : (front : List ℕ) (n : ℕ) → AreOneLine front → n < 2 ^ 64 → AreOneLine (number front n)
unfolding number
number_line front n h k = joined_line front (decimal n) h (decimal_line n k)

marked_line : (b : ℕ) → AreOneLine (marked b)
marked_line b =
    elim (eqb b 10) as (λ t. eqb b 10 ≡ t → AreOneLine (cond t (92 ∷ 110 ∷ [])
    (cond (eqb b 92) (92 ∷ 92 ∷ []) (cond (eqb b 39) (92 ∷ 113 ∷ []) (b ∷ []))))) [
      | true ↦ λ e. (refl, (refl, tt))
      | false ↦ λ e. elim (eqb b 92) as (λ t. AreOneLine (cond t (92 ∷ 92 ∷ [])
          (cond (eqb b 39) (92 ∷ 113 ∷ []) (b ∷ [])))) [
            | true ↦ (refl, (refl, tt))
            | false ↦ elim (eqb b 39) as (λ t. AreOneLine (cond t (92 ∷ 113 ∷ []) (b ∷ [])))
                [ true ↦ (refl, (refl, tt)) | false ↦ (e, tt) ]
          ]
    ] refl

all_marked_line : (bytes : List ℕ) → AreOneLine (flat_map marked bytes)
all_marked_line [] = tt
all_marked_line (b ∷ bytes) = joined_line (marked b) (flat_map marked bytes) (marked_line b) (all_marked_line bytes)

quoted_line : (bytes : List ℕ) → AreOneLine (quoted bytes)
unfolding quoted
quoted_line bytes = (refl, joined_line (flat_map marked bytes) (39 ∷ []) (all_marked_line bytes) (refl, tt))

text_line : (front bytes : List ℕ) → AreOneLine front → AreOneLine (text front bytes)
unfolding text
text_line front bytes h = joined_line front (quoted bytes) h (quoted_line bytes)

digit_above : (n : ℕ) → 10 < hex_digit n
digit_above n = elim (ltb n 10) as (λ t. 10 < cond t (48 + n) (87 + n)) [ true ↦ omega arith | false ↦ omega arith ]

digits_line : (bytes : List ℕ) → AreOneLine (hex_of bytes)
unfolding hex_of
digits_line [] = tt
digits_line (b ∷ bytes) = (
  not_newline (hex_digit (b / 16)) (digit_above (b / 16)),
  (not_newline (hex_digit (b % 16)) (digit_above (b % 16)), digits_line bytes),
)

hex_line : (front bytes : List ℕ) → AreOneLine front → AreOneLine (bytes_in_hex front bytes)
unfolding bytes_in_hex
hex_line front bytes h = joined_line front (hex_of bytes) h (digits_line bytes)

qid_line : (q : Qid) → IsQid q → AreOneLine (qid_text q)
unfolding qid_text
qid_line q k =
    joined_line (decimal q.kind) (46 ∷ (decimal q.vers ++ 46 ∷ decimal q.path))
    (decimal_line q.kind (omega (arith, k.kind))) (
      refl,
      joined_line (decimal q.vers) (46 ∷ decimal q.path) (decimal_line q.vers (omega (arith, k.vers)))
          (refl, decimal_line q.path k.path),
    )

qid_field_line : (front : List ℕ) (q : Qid) → AreOneLine front → IsQid q → AreOneLine (qid_field front q)
unfolding qid_field
qid_field_line front q h k = joined_line front (qid_text q) h (qid_line q k)

all_quoted_line : (names : List (List ℕ)) → AreOneLine (flat_map (blank_and quoted) names)
all_quoted_line [] = tt
all_quoted_line (name ∷ names) = (
  refl,
  joined_line (quoted name) (flat_map (blank_and quoted) names) (quoted_line name)
      (all_quoted_line names),
)

names_line : (front : List ℕ) (names : List (List ℕ)) → AreOneLine front → length names < 2 ^ 64
    → AreOneLine (listed front quoted names)
unfolding listed
names_line front names h k = joined_line (number front (length names)) (flat_map (blank_and quoted) names)
    (number_line front (length names) h k) (all_quoted_line names)

all_qids_line : (qids : List Qid) → AllByRecursion IsQid qids → AreOneLine (flat_map (blank_and qid_text) qids)
all_qids_line [] k = tt
all_qids_line (q ∷ qids) k = (
  refl,
  joined_line (qid_text q) (flat_map (blank_and qid_text) qids) (qid_line q k.0)
      (all_qids_line qids k.1),
)

qids_line : (front : List ℕ) (qids : List Qid) → AreOneLine front → length qids < 2 ^ 64 → AllByRecursion IsQid qids
    → AreOneLine (listed front qid_text qids)
unfolding listed
qids_line front qids h k all = joined_line (number front (length qids)) (flat_map (blank_and qid_text) qids)
    (number_line front (length qids) h k) (all_qids_line qids all)

-- ---- messages

fields_t-line : (body : TBody) → BodyFits_t body → BodyInRange_t body → AreOneLine (fields_t body)
fields_t-line (t.Version msize version) h k = joined_line (number (codes " msize=") msize)
    (text (codes " version=") version) (number_line (codes " msize=") msize (name_line (codes " msize=") refl)
    (omega (arith, k))) (text_line (codes " version=") version (name_line (codes " version=") refl))
fields_t-line (t.Auth afid uname aname) h k = joined_line (number (codes " afid=") afid)
    (text (codes " uname=") uname ++ text (codes " aname=") aname)
    (number_line (codes " afid=") afid (name_line (codes " afid=") refl) (omega (arith, k)))
    (joined_line (text (codes " uname=") uname) (text (codes " aname=") aname)
    (text_line (codes " uname=") uname (name_line (codes " uname=") refl))
    (text_line (codes " aname=") aname (name_line (codes " aname=") refl)))
fields_t-line (t.Flush oldtag) h k = number_line (codes " oldtag=") oldtag (name_line (codes " oldtag=") refl)
    (omega (arith, k))
fields_t-line (t.Attach fid afid uname aname) h k = joined_line (number (codes " fid=") fid)
    (number (codes " afid=") afid ++ (text (codes " uname=") uname ++ text (codes " aname=") aname))
    (number_line (codes " fid=") fid (name_line (codes " fid=") refl) (omega (arith, k.0)))
    (joined_line (number (codes " afid=") afid) (text (codes " uname=") uname ++ text (codes " aname=") aname)
    (number_line (codes " afid=") afid (name_line (codes " afid=") refl) (omega (arith, k.1)))
    (joined_line (text (codes " uname=") uname) (text (codes " aname=") aname)
    (text_line (codes " uname=") uname (name_line (codes " uname=") refl))
    (text_line (codes " aname=") aname (name_line (codes " aname=") refl))))
fields_t-line (t.Walk fid newfid names) h k = joined_line (number (codes " fid=") fid)
    (number (codes " newfid=") newfid ++ listed (codes " names=") quoted names)
    (number_line (codes " fid=") fid (name_line (codes " fid=") refl) (omega (arith, k.0)))
    (joined_line (number (codes " newfid=") newfid) (listed (codes " names=") quoted names)
    (number_line (codes " newfid=") newfid (name_line (codes " newfid=") refl) (omega (arith, k.1)))
    (names_line (codes " names=") names (name_line (codes " names=") refl) (omega (arith, h.0))))
fields_t-line (t.Open fid mode) h k = joined_line (number (codes " fid=") fid) (number (codes " mode=") mode)
    (number_line (codes " fid=") fid (name_line (codes " fid=") refl) (omega (arith, k.0)))
    (number_line (codes " mode=") mode (name_line (codes " mode=") refl) (omega (arith, k.1)))
fields_t-line (t.Create fid name perm mode) h k = joined_line (number (codes " fid=") fid)
    (text (codes " name=") name ++ (number (codes " perm=") perm ++ number (codes " mode=") mode))
    (number_line (codes " fid=") fid (name_line (codes " fid=") refl) (omega (arith, k.0)))
    (joined_line (text (codes " name=") name) (number (codes " perm=") perm ++ number (codes " mode=") mode)
    (text_line (codes " name=") name (name_line (codes " name=") refl))
    (joined_line (number (codes " perm=") perm) (number (codes " mode=") mode)
    (number_line (codes " perm=") perm (name_line (codes " perm=") refl) (omega (arith, k.1)))
    (number_line (codes " mode=") mode (name_line (codes " mode=") refl) (omega (arith, k.2)))))
fields_t-line (t.Read fid offset count) h k = joined_line (number (codes " fid=") fid)
    (number (codes " offset=") offset ++ number (codes " count=") count)
    (number_line (codes " fid=") fid (name_line (codes " fid=") refl) (omega (arith, k.0)))
    (joined_line (number (codes " offset=") offset) (number (codes " count=") count)
    (number_line (codes " offset=") offset (name_line (codes " offset=") refl) k.1)
    (number_line (codes " count=") count (name_line (codes " count=") refl) (omega (arith, k.2))))
fields_t-line (t.Write fid offset bytes) h k = joined_line (number (codes " fid=") fid)
    (number (codes " offset=") offset ++ bytes_in_hex (codes " data=") bytes)
    (number_line (codes " fid=") fid (name_line (codes " fid=") refl) (omega (arith, k.0)))
    (joined_line (number (codes " offset=") offset) (bytes_in_hex (codes " data=") bytes)
    (number_line (codes " offset=") offset (name_line (codes " offset=") refl) k.1)
    (hex_line (codes " data=") bytes (name_line (codes " data=") refl)))
fields_t-line (t.Clunk fid) h k = number_line (codes " fid=") fid (name_line (codes " fid=") refl) (omega (arith, k))
fields_t-line (t.Remove fid) h k = number_line (codes " fid=") fid (name_line (codes " fid=") refl) (omega (arith, k))
fields_t-line (t.Stat fid) h k = number_line (codes " fid=") fid (name_line (codes " fid=") refl) (omega (arith, k))
fields_t-line (t.Wstat fid stat) h k = joined_line (number (codes " fid=") fid) (bytes_in_hex (codes " stat=") stat)
    (number_line (codes " fid=") fid (name_line (codes " fid=") refl) (omega (arith, k)))
    (hex_line (codes " stat=") stat (name_line (codes " stat=") refl))

name_t-line : (body : TBody) → AreOneLine (name_t body)
name_t-line (t.Version msize version) = name_line (codes "Tversion") refl
name_t-line (t.Auth afid uname aname) = name_line (codes "Tauth") refl
name_t-line (t.Flush oldtag) = name_line (codes "Tflush") refl
name_t-line (t.Attach fid afid uname aname) = name_line (codes "Tattach") refl
name_t-line (t.Walk fid newfid names) = name_line (codes "Twalk") refl
name_t-line (t.Open fid mode) = name_line (codes "Topen") refl
name_t-line (t.Create fid name perm mode) = name_line (codes "Tcreate") refl
name_t-line (t.Read fid offset count) = name_line (codes "Tread") refl
name_t-line (t.Write fid offset bytes) = name_line (codes "Twrite") refl
name_t-line (t.Clunk fid) = name_line (codes "Tclunk") refl
name_t-line (t.Remove fid) = name_line (codes "Tremove") refl
name_t-line (t.Stat fid) = name_line (codes "Tstat") refl
name_t-line (t.Wstat fid stat) = name_line (codes "Twstat") refl

fields_r-line : (body : RBody) → BodyFits_r body → BodyInRange_r body → AreOneLine (fields_r body)
fields_r-line (r.Version msize version) h k = joined_line (number (codes " msize=") msize)
    (text (codes " version=") version) (number_line (codes " msize=") msize (name_line (codes " msize=") refl)
    (omega (arith, k))) (text_line (codes " version=") version (name_line (codes " version=") refl))
fields_r-line (r.Auth aqid) h k = qid_field_line (codes " aqid=") aqid (name_line (codes " aqid=") refl) k
fields_r-line (r.Error ename) h k = text_line (codes " ename=") ename (name_line (codes " ename=") refl)
fields_r-line r.Flush h k = tt
fields_r-line (r.Attach qid) h k = qid_field_line (codes " qid=") qid (name_line (codes " qid=") refl) k
fields_r-line (r.Walk qids) h k = qids_line (codes " qids=") qids (name_line (codes " qids=") refl) (omega (arith, h))
    (recursion_from_All IsQid qids k)
fields_r-line (r.Open qid iounit) h k = joined_line (qid_field (codes " qid=") qid) (number (codes " iounit=") iounit)
    (qid_field_line (codes " qid=") qid (name_line (codes " qid=") refl) k.0)
    (number_line (codes " iounit=") iounit (name_line (codes " iounit=") refl) (omega (arith, k.1)))
fields_r-line (r.Create qid iounit) h k = joined_line (qid_field (codes " qid=") qid) (number (codes " iounit=") iounit)
    (qid_field_line (codes " qid=") qid (name_line (codes " qid=") refl) k.0)
    (number_line (codes " iounit=") iounit (name_line (codes " iounit=") refl) (omega (arith, k.1)))
fields_r-line (r.Read bytes) h k = hex_line (codes " data=") bytes (name_line (codes " data=") refl)
fields_r-line (r.Write count) h k = number_line (codes " count=") count (name_line (codes " count=") refl)
    (omega (arith, k))
fields_r-line r.Clunk h k = tt
fields_r-line r.Remove h k = tt
fields_r-line (r.Stat stat) h k = hex_line (codes " stat=") stat (name_line (codes " stat=") refl)
fields_r-line r.Wstat h k = tt

name_r-line : (body : RBody) → AreOneLine (name_r body)
name_r-line (r.Version msize version) = name_line (codes "Rversion") refl
name_r-line (r.Auth aqid) = name_line (codes "Rauth") refl
name_r-line (r.Error ename) = name_line (codes "Rerror") refl
name_r-line r.Flush = name_line (codes "Rflush") refl
name_r-line (r.Attach qid) = name_line (codes "Rattach") refl
name_r-line (r.Walk qids) = name_line (codes "Rwalk") refl
name_r-line (r.Open qid iounit) = name_line (codes "Ropen") refl
name_r-line (r.Create qid iounit) = name_line (codes "Rcreate") refl
name_r-line (r.Read bytes) = name_line (codes "Rread") refl
name_r-line (r.Write count) = name_line (codes "Rwrite") refl
name_r-line r.Clunk = name_line (codes "Rclunk") refl
name_r-line r.Remove = name_line (codes "Rremove") refl
name_r-line (r.Stat stat) = name_line (codes "Rstat") refl
name_r-line r.Wstat = name_line (codes "Rwstat") refl

line_of_words : (front name fields : List ℕ) (c tag : ℕ) → AreOneLine front → c < 2 ^ 64 → tag < 2 ^ 64
    → AreOneLine name → AreOneLine fields
    → AreOneLine (around front c (32 ∷ []) ++ (name ++ 32 ∷ (number (codes "tag=") tag ++ fields)))
unfolding around
line_of_words front name fields c tag f k i n h =
    joined_line ((front ++ decimal c) ++ 32 ∷ []) (name ++ 32 ∷ (number (codes "tag=") tag ++ fields))
    (joined_line (front ++ decimal c) (32 ∷ []) (joined_line front (decimal c) f (decimal_line c k)) (refl, tt))
    (joined_line name (32 ∷ (number (codes "tag=") tag ++ fields)) n (
      refl,
      joined_line (number (codes "tag=") tag) fields (number_line (codes "tag=") tag
          (name_line (codes "tag=") refl) i) h,
    ))

words_t-line : (c : ℕ) (m : TMsg) → c < 64 → Fits_t m → InRange_t m → AreOneLine (words_t c m)
unfolding words_t
words_t-line c m h fits k =
    line_of_words (codes "msg ") (name_t m.body) (fields_t m.body) c m.tag (name_line (codes "msg ") refl)
    (omega (arith, h)) (omega (arith, k.tag)) (name_t-line m.body) (fields_t-line m.body fits.body k.body)

words_r-line : (c : ℕ) (m : RMsg) → c < 64 → Fits_r m → InRange_r m → AreOneLine (words_r c m)
unfolding words_r
words_r-line c m h fits k =
    line_of_words (codes "reply ") (name_r m.body) (fields_r m.body) c m.tag (name_line (codes "reply ") refl)
    (omega (arith, h)) (omega (arith, k.tag)) (name_r-line m.body) (fields_r-line m.body fits.body k.body)

-- ---- lines

lines_of-line : (l rest : List ℕ) → AreOneLine l → lines_of (l ++ 10 ∷ rest) ≡ l ∷ lines_of rest
lines_of-line [] rest h = refl
lines_of-line (b ∷ bs) rest h = rw (h.0) (ap (onto_first b) (lines_of-line bs rest h.1))

-- the line of an event stands alone in a transcript
event_line : (e : Event) (rest : List ℕ) → IsLawful e → IsInRange e
    → lines_of (line_text e ++ 10 ∷ rest) ≡ line_text e ∷ lines_of rest
event_line e rest h k =
    let one = lines_of-journal (e ∷ []) rest (h, tt) (k, tt) in
    ap lines_of (sym (append_assoc (line_text e) (10 ∷ []) rest)) ∙ ap (λ (l : List ℕ). lines_of (l ++ rest))
    (sym (append_nil_line e)) ∙ one
  where
    append_nil_line : (e : Event) → (line_text e ++ 10 ∷ []) ++ [] ≡ line_text e ++ 10 ∷ []
    append_nil_line e = append-nil (line_text e ++ 10 ∷ [])

pub words_in_lines : (l : Line) (rest : List ℕ) → IsWorded l → lines_of (line_words l ++ 10 ∷ rest) ≡ line_words l
    ∷ lines_of rest
words_in_lines (line.Event (event.Dial c)) rest h = event_line (event.Dial c) rest h.0 h.1
words_in_lines (line.Event (event.Msg c m)) rest h = lines_of-line (words_t c m) rest
    (words_t-line c m h.0.0 h.0.1 h.1.1)
words_in_lines (line.Event (event.Hang c why)) rest h = event_line (event.Hang c why) rest h.0 h.1
words_in_lines (line.Event (event.Took c)) rest h = event_line (event.Took c) rest h.0 h.1
words_in_lines (line.Event event.New) rest h = event_line event.New rest h.0 h.1
words_in_lines (line.Event (event.Key w on text)) rest h = event_line (event.Key w on text) rest h.0 h.1
words_in_lines (line.Event (event.Sel w range)) rest h = event_line (event.Sel w range) rest h.0 h.1
words_in_lines (line.Event (event.Exec at)) rest h = event_line (event.Exec at) rest h.0 h.1
words_in_lines (line.Event (event.Arg at chord)) rest h = event_line (event.Arg at chord) rest h.0 h.1
words_in_lines (line.Event (event.Look at)) rest h = event_line (event.Look at) rest h.0 h.1
words_in_lines (line.Event (event.File path text)) rest h = event_line (event.File path text) rest h.0 h.1
words_in_lines (line.Event (event.Dir path)) rest h = event_line (event.Dir path) rest h.0 h.1
words_in_lines (line.Reply c m) rest h = lines_of-line (words_r c m) rest
    (words_r-line c m h.0.conn h.0.fits h.1.numbers)

pub words_no_report : (l : Line) → is_report (line_words l) ≡ false
unfolding words_t words_r around
words_no_report (line.Event (event.Dial c)) = line-no_report (event.Dial c)
words_no_report (line.Event (event.Msg c m)) = refl
words_no_report (line.Event (event.Hang c why)) = line-no_report (event.Hang c why)
words_no_report (line.Event (event.Took c)) = line-no_report (event.Took c)
words_no_report (line.Event event.New) = line-no_report event.New
words_no_report (line.Event (event.Key w on text)) = line-no_report (event.Key w on text)
words_no_report (line.Event (event.Sel w range)) = line-no_report (event.Sel w range)
words_no_report (line.Event (event.Exec at)) = line-no_report (event.Exec at)
words_no_report (line.Event (event.Arg at chord)) = line-no_report (event.Arg at chord)
words_no_report (line.Event (event.Look at)) = line-no_report (event.Look at)
words_no_report (line.Event (event.File path text)) = line-no_report (event.File path text)
words_no_report (line.Event (event.Dir path)) = line-no_report (event.Dir path)
words_no_report (line.Reply c m) = refl

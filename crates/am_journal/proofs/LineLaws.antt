-- Reading a line and spelling an event undo each other.
use Rattle.std.proofs.Common.{◌≡◌, ℕ, ◌<◌, ◌≤◌, true, false, cond, ltb, List, [], ◌∷◌, ◌++◌, length, Option, Some, None}
use Rattle.std.proofs.Common.{Result, Ok, Err, refl, ap, sym, subst, ◌∙◌, append_assoc, arith}
use Rattle.std.specs.Prelude.{codes, IfOk, IfSome}
use Rattle.std.specs.Fmt.{decimal}
use Rattle.std.proofs.lemmas.Bool.{le-ltb, ltb-false}
use Rattle.ninep_types.specs.declared.fault.WireFault.{WireFault}
use Rattle.ninep_types.specs.declared.message.TMsg.{TMsg}
use Rattle.ninep_types.specs.Reading.{t_of}
use Rattle.ninep_types.specs.Spelling.{spelling_t}
use Rattle.ninep_wire.proofs.TLaws.{Spells, t_takes, t_again}
use Rattle.am_journal.specs.declared.event.Event.{Event}
use Rattle.am_journal.specs.declared.event.Event.TheVariants as event
use Rattle.am_journal.specs.declared.event.Side.{Side}
use Rattle.am_text.specs.declared.range.Range.{Range}
use Rattle.am_text.specs.Lines.{escaped, first_field, after_field}
use Rattle.std.specs.List.{flat_map}
use Rattle.am_journal.specs.Hexadecimal.{hex_of, bytes_of_hex}
use Rattle.am_journal.specs.Lawful.{IsLawful, IsInRange, AreBytes}
use Rattle.am_journal.specs.declared.ending.Ending.{Ending}
use Rattle.am_journal.specs.declared.ending.Ending.TheVariants as ending
use Rattle.am_journal.specs.Causes.{cause, ending_of}
use Rattle.am_text.specs.Front.{after_front}
use Rattle.am_journal.specs.Line.{side_word, dial_line, msg_line, hang_line, took_line, new_line, line_text, conn_at}
use Rattle.am_journal.specs.Line.{dial_from, dial_at, msg_read, msg_from, msg_at, hang_from, hang_at, took_from}
use Rattle.am_journal.specs.Line.{took_at, new_at, key_line, key_at, sel_line, sel_at, exec_from, exec_line, arg_line}
use Rattle.am_journal.specs.Line.{look_from, look_line, file_line, dir_line, with_front, action_of, event_of}
use Rattle.am_text.specs.Fields.{around}
use Rattle.am_journal.proofs.HexLaws.{hex-again, hex-is}
use Rattle.am_journal.proofs.CauseLaws.{ending-again, ending-is}
use Rattle.am_journal.proofs.FieldWords.{decimal-visible, first-is, after-is, split-is, conn-again, conn-is, front-is}
use Rattle.am_journal.proofs.WindowLaws.{key-again, sel-again, typed, selected}
use Rattle.am_journal.proofs.SpotLaws.{spot-again}
use Rattle.am_journal.proofs.Found.{Found, event_is}
use Rattle.am_journal.proofs.ActionLaws.{arg-again, file-again, dir-again, action-is}

-- ---- what is spelled is read

msg_from-again : (c : ℕ) (m : TMsg) → IsLawful (event.Msg c m) → IsInRange (event.Msg c m)
    → msg_from (Some c) (Some (spelling_t m)) ≡ Some (event.Msg c m)
msg_from-again c m h k = rw (le-ltb 65560 (length (spelling_t m)) h.2) (ap (msg_read c) (t_again m h.1 k.1))

msg-again : (c : ℕ) (m : TMsg) → IsLawful (event.Msg c m) → IsInRange (event.Msg c m)
    → msg_at (decimal c ++ 32 ∷ hex_of (spelling_t m)) ≡ Some (event.Msg c m)
msg-again c m h k =
    let seen = decimal-visible c (omega (arith, h.0)) in
    let hex = hex_of (spelling_t m) in
    ap (λ (l : List ℕ). msg_from (conn_at l) (bytes_of_hex (after_field (decimal c ++ 32 ∷ hex))))
    (first-is (decimal c) hex seen)
    ∙ ap (λ (l : List ℕ). msg_from (conn_at (decimal c)) (bytes_of_hex l)) (after-is (decimal c) hex seen)
    ∙ ap (λ (o : Option ℕ). msg_from o (bytes_of_hex hex)) (conn-again c h.0)
    ∙ ap (msg_from (Some c)) (hex-again (spelling_t m) k.2)
    ∙ msg_from-again c m h k

hang-again : (c : ℕ) (why : Ending) → c < 64 → hang_at (decimal c ++ 32 ∷ cause why) ≡ Some (event.Hang c why)
hang-again c why h =
    let seen = decimal-visible c (omega (arith, h)) in
    ap (λ (l : List ℕ). hang_from (conn_at l) (ending_of (after_field (decimal c ++ 32 ∷ cause why))))
    (first-is (decimal c) (cause why) seen)
    ∙ ap (λ (l : List ℕ). hang_from (conn_at (decimal c)) (ending_of l)) (after-is (decimal c) (cause why) seen)
    ∙ ap (λ (o : Option ℕ). hang_from o (ending_of (cause why))) (conn-again c h)
    ∙ ap (hang_from (Some c)) (ending-again why)

pub line-again : (e : Event) → IsLawful e → IsInRange e → event_of (line_text e) ≡ Some e
unfolding event_of action_of dial_line msg_line hang_line took_line new_line key_line sel_line exec_line arg_line
    look_line file_line dir_line around
line-again (event.Dial c) h k = ap dial_from (conn-again c h)
line-again (event.Msg c m) h k = ap msg_at (append_assoc (decimal c) (32 ∷ []) (hex_of (spelling_t m)))
    ∙ msg-again c m h k
line-again (event.Hang c why) h k = ap hang_at (append_assoc (decimal c) (32 ∷ []) (cause why)) ∙ hang-again c why h
line-again (event.Took c) h k = ap took_from (conn-again c h)
line-again event.New h k = refl
line-again (event.Key w on text) h k =
    ap key_at (append_assoc (decimal w) (32 ∷ []) (side_word on ++ 32 ∷ 58 ∷ flat_map escaped text))
    ∙ key-again w on text h k
line-again (event.Sel w range) h k =
    ap sel_at (append_assoc (decimal w) (32 ∷ []) ((decimal range.q0 ++ 32 ∷ []) ++ decimal range.q1))
    ∙ sel-again w range h k
line-again (event.Exec at) h k = ap exec_from (spot-again at h k)
line-again (event.Arg at chord) h k = arg-again at chord h k
line-again (event.Look at) h k = ap look_from (spot-again at h k)
line-again (event.File path text) h k = file-again path text h.0 h.1
line-again (event.Dir path) h k = dir-again path h

-- ---- what is read is spelled so

-- ---- messages

record Read (c : ℕ) (bytes : List ℕ) (e : Event) : Type 0 where
  msg : TMsg
  spells : Spells bytes msg
  is : event.Msg c msg ≡ e

read_some : (c : ℕ) (bytes : List ℕ) (e : Event) (r : Result TMsg WireFault) → AreBytes bytes
    → t_of bytes ≡ r → msg_read c r ≡ Some e → Read c bytes e
read_some c bytes e (Ok m) fits given h = record {
  msg = m;
  spells = t_takes bytes m fits given;
  is =
      event_is (event.Msg c m) e h;
}
read_some c bytes e (Err f) fits given h = absurd cc

record Parts (o : Option ℕ) (b : Option (List ℕ)) (e : Event) : Type 0 where
  conn : ℕ
  bytes : List ℕ
  conn-is : o ≡ Some conn
  bytes-is : b ≡ Some bytes
  short : length bytes ≤ 65560
  read : msg_read conn (t_of bytes) ≡ Some e

parts_some : (o : Option ℕ) (b : Option (List ℕ)) (e : Event) → msg_from o b ≡ Some e → Parts o b e
parts_some None b e = λ h. absurd cc
parts_some (Some c) None e = λ h. absurd cc
parts_some (Some c) (Some bytes) e =
    elim (ltb 65560 (length bytes)) as (λ t. ltb 65560 (length bytes) ≡ t → cond t None
    (msg_read c (t_of bytes)) ≡ Some e → Parts (Some c) (Some bytes) e) [
      | true ↦ λ t h. absurd cc
      | false ↦ λ t h. record {
        conn = c;
        bytes = bytes;
        conn-is = refl;
        bytes-is = refl;
        short = ltb-false 65560
            (length bytes) t;
        read = h;
      }
    ] refl

hex_some : (bs : List ℕ) → 0 < length bs → 0 < length (hex_of bs)
unfolding hex_of
hex_some [] h = absurd (omega arith)
hex_some (b ∷ bs) h = omega arith

spelling_some : (m : TMsg) → 0 < length (spelling_t m)
spelling_some m = omega arith

msg_line-is : (c : ℕ) (message : List ℕ) → codes "msg " ++ (decimal c ++ 32 ∷ hex_of message) ≡ msg_line c message
unfolding msg_line around
msg_line-is c message = ap (λ (l : List ℕ). codes "msg " ++ l) (sym
    (append_assoc (decimal c) (32 ∷ []) (hex_of message)))

msg-is : (bs rest : List ℕ) (e : Event) → bs ≡ codes "msg " ++ rest → msg_at rest ≡ Some e → Found bs e
msg-is bs rest e front h =
    let p = parts_some (conn_at (first_field rest)) (bytes_of_hex (after_field rest)) e h in
    let conn = conn-is (first_field rest) p.conn p.conn-is in
    let hex = hex-is (after_field rest) p.bytes p.bytes-is in
    let read = read_some p.conn p.bytes e (t_of p.bytes) hex.1 refl p.read in
    let m = read.msg in
    let spelled = read.spells.2 in
    let hex-is-it : after_field rest ≡ hex_of (spelling_t m) = hex.0 ∙ ap hex_of spelled in
    let text = split-is rest (decimal p.conn) (hex_of (spelling_t m)) conn.1 hex-is-it
    (hex_some (spelling_t m) (spelling_some m)) in
    let short : length (spelling_t m) ≤ 65560 = subst (λ (l : List ℕ). length l ≤ 65560) spelled p.short in
    let bytes : AreBytes (spelling_t m) = subst AreBytes spelled hex.1 in
    subst (Found bs) read.is
    (record {
      lawful = (conn.0, read.spells.0, short);
      in_range = (omega (arith, conn.0), read.spells.1, bytes);
      spelled = front ∙ ap (λ (l : List ℕ). codes "msg " ++ l) text ∙ msg_line-is p.conn (spelling_t m);
    })

-- ---- connections

record Dials (o : Option ℕ) (e : Event) : Type 0 where
  conn : ℕ
  conn-is : o ≡ Some conn
  is : event.Dial conn ≡ e

dials_some : (o : Option ℕ) (e : Event) → dial_from o ≡ Some e → Dials o e
dials_some None e h = absurd cc
dials_some (Some c) e h = record { conn = c; conn-is = refl; is = event_is (event.Dial c) e h }

dial_line-is : (c : ℕ) → codes "dial " ++ decimal c ≡ dial_line c
unfolding dial_line
dial_line-is c = refl

dial-is : (bs rest : List ℕ) (e : Event) → bs ≡ codes "dial " ++ rest → dial_at rest ≡ Some e → Found bs e
dial-is bs rest e front h =
    let d = dials_some (conn_at rest) e h in
    let conn = conn-is rest d.conn d.conn-is in
    subst (Found bs) d.is
    (record {
      lawful = conn.0;
      in_range = omega (arith, conn.0);
      spelled =
          front ∙ ap (λ (l : List ℕ). codes "dial " ++ l) conn.1 ∙ dial_line-is d.conn;
    })

-- ---- hang-ups, what is taken, new windows

record Hangs (o : Option ℕ) (w : Option Ending) (e : Event) : Type 0 where
  conn : ℕ
  why : Ending
  conn-is : o ≡ Some conn
  why-is : w ≡ Some why
  is : event.Hang conn why ≡ e

hangs_some : (o : Option ℕ) (w : Option Ending) (e : Event) → hang_from o w ≡ Some e → Hangs o w e
hangs_some None w e h = absurd cc
hangs_some (Some c) None e h = absurd cc
hangs_some (Some c) (Some why) e h = record {
  conn = c;
  why = why;
  conn-is = refl;
  why-is = refl;
  is =
      event_is (event.Hang c why) e h;
}

cause_some : (why : Ending) → 0 < length (cause why)
cause_some ending.End = omega arith
cause_some ending.Torn = omega arith
cause_some ending.ReadFault = omega arith
cause_some (ending.Broken b) = omega arith
cause_some ending.Spent = omega arith
cause_some ending.Gone = omega arith
cause_some ending.NoMemory = omega arith

hang_line-is : (c : ℕ) (why : Ending) → codes "hang " ++ (decimal c ++ 32 ∷ cause why) ≡ hang_line c why
unfolding hang_line around
hang_line-is c why = ap (λ (l : List ℕ). codes "hang " ++ l) (sym (append_assoc (decimal c) (32 ∷ []) (cause why)))

hang-is : (bs rest : List ℕ) (e : Event) → bs ≡ codes "hang " ++ rest → hang_at rest ≡ Some e → Found bs e
hang-is bs rest e front h =
    let p = hangs_some (conn_at (first_field rest)) (ending_of (after_field rest)) e h in
    let conn = conn-is (first_field rest) p.conn p.conn-is in
    let words : after_field rest ≡ cause p.why = ending-is (after_field rest) p.why p.why-is in
    let text = split-is rest (decimal p.conn) (cause p.why) conn.1 words (cause_some p.why) in
    subst (Found bs) p.is
    (record {
      lawful = conn.0;
      in_range = omega (arith, conn.0);
      spelled = front ∙ ap (λ (l : List ℕ). codes "hang " ++ l) text ∙ hang_line-is p.conn p.why;
    })

record Takes (o : Option ℕ) (e : Event) : Type 0 where
  conn : ℕ
  conn-is : o ≡ Some conn
  is : event.Took conn ≡ e

takes_some : (o : Option ℕ) (e : Event) → took_from o ≡ Some e → Takes o e
takes_some None e h = absurd cc
takes_some (Some c) e h = record { conn = c; conn-is = refl; is = event_is (event.Took c) e h }

took_line-is : (c : ℕ) → codes "took " ++ decimal c ≡ took_line c
unfolding took_line
took_line-is c = refl

took-is : (bs rest : List ℕ) (e : Event) → bs ≡ codes "took " ++ rest → took_at rest ≡ Some e → Found bs e
took-is bs rest e front h =
    let d = takes_some (conn_at rest) e h in
    let conn = conn-is rest d.conn d.conn-is in
    subst (Found bs) d.is
    (record {
      lawful = conn.0;
      in_range = omega (arith, conn.0);
      spelled =
          front ∙ ap (λ (l : List ℕ). codes "took " ++ l) conn.1 ∙ took_line-is d.conn;
    })

new_text-is : codes "new" ++ [] ≡ new_line
unfolding new_line
new_text-is = refl

new-is : (bs rest : List ℕ) (e : Event) → bs ≡ codes "new" ++ rest → new_at rest ≡ Some e → Found bs e
new-is bs [] e front h =
    subst (Found bs) (event_is event.New e h) (record { lawful = tt; in_range = tt; spelled = front ∙ new_text-is })
new-is bs (b ∷ rest) e front h = absurd cc

-- ---- keys and selections

key_line-is : (w : ℕ) (on : Side) (text : List ℕ) → codes "key " ++ (decimal w
    ++ 32 ∷ (side_word on ++ 32 ∷ 58 ∷ flat_map escaped text)) ≡ key_line w on text
unfolding key_line around
key_line-is w on text = ap (λ (l : List ℕ). codes "key " ++ l) (sym
    (append_assoc (decimal w) (32 ∷ []) (side_word on ++ 32 ∷ 58 ∷ flat_map escaped text)))

key-is : (bs rest : List ℕ) (e : Event) → bs ≡ codes "key " ++ rest → key_at rest ≡ Some e → Found bs e
key-is bs rest e front h =
    let k = typed rest e h in
    subst (Found bs) k.is
    (record {
      lawful = k.scalars;
      in_range = k.small;
      spelled = front ∙ ap (λ (l : List ℕ). codes "key " ++ l) k.spelled ∙ key_line-is k.window k.on k.text;
    })

sel_line-is : (w : ℕ) (range : Range) → codes "sel " ++ (decimal w
    ++ 32 ∷ ((decimal range.q0 ++ 32 ∷ []) ++ decimal range.q1)) ≡ sel_line w range
unfolding sel_line around
sel_line-is w range = ap (λ (l : List ℕ). codes "sel " ++ l) (sym (append_assoc (decimal w) (32 ∷ [])
    ((decimal range.q0 ++ 32 ∷ []) ++ decimal range.q1)))

sel-is : (bs rest : List ℕ) (e : Event) → bs ≡ codes "sel " ++ rest → sel_at rest ≡ Some e → Found bs e
sel-is bs rest e front h =
    let s = selected rest e h in
    subst (Found bs) s.is
    (record {
      lawful = s.ordered;
      in_range = (s.small, s.from, s.to);
      spelled = front ∙ ap (λ (l : List ℕ). codes "sel " ++ l) s.spelled ∙ sel_line-is s.window s.range;
    })

-- ---- lines

-- what the other fronts give of a line
abbrev after_key : List ℕ → Option Event
after_key bs = with_front (after_front (codes "sel ") bs) sel_at (action_of bs)

abbrev after_new : List ℕ → Option Event
after_new bs = with_front (after_front (codes "key ") bs) key_at (after_key bs)

abbrev after_took : List ℕ → Option Event
after_took bs = with_front (after_front (codes "new") bs) new_at (after_new bs)

abbrev after_hang : List ℕ → Option Event
after_hang bs = with_front (after_front (codes "took ") bs) took_at (after_took bs)

abbrev after_msg : List ℕ → Option Event
after_msg bs = with_front (after_front (codes "hang ") bs) hang_at (after_hang bs)

abbrev after_dial : List ℕ → Option Event
after_dial bs = with_front (after_front (codes "msg ") bs) msg_at (after_msg bs)

sel_case : (bs : List ℕ) (e : Event) (o : Option (List ℕ)) → after_front (codes "sel ") bs ≡ o → with_front o sel_at
    (action_of bs) ≡ Some e → Found bs e
sel_case bs e None given h = action-is bs e h
sel_case bs e (Some rest) given h = sel-is bs rest e (front-is (codes "sel ") bs rest given) h

key_case : (bs : List ℕ) (e : Event) (o : Option (List ℕ)) → after_front (codes "key ") bs ≡ o → with_front o key_at
    (after_key bs) ≡ Some e → Found bs e
key_case bs e None given h = sel_case bs e (after_front (codes "sel ") bs) refl h
key_case bs e (Some rest) given h = key-is bs rest e (front-is (codes "key ") bs rest given) h

new_case : (bs : List ℕ) (e : Event) (o : Option (List ℕ)) → after_front (codes "new") bs ≡ o → with_front o new_at
    (after_new bs) ≡ Some e → Found bs e
new_case bs e None given h = key_case bs e (after_front (codes "key ") bs) refl h
new_case bs e (Some rest) given h = new-is bs rest e (front-is (codes "new") bs rest given) h

took_case : (bs : List ℕ) (e : Event) (o : Option (List ℕ)) → after_front (codes "took ") bs ≡ o → with_front o took_at
    (after_took bs) ≡ Some e → Found bs e
took_case bs e None given h = new_case bs e (after_front (codes "new") bs) refl h
took_case bs e (Some rest) given h = took-is bs rest e (front-is (codes "took ") bs rest given) h

hang_case : (bs : List ℕ) (e : Event) (o : Option (List ℕ)) → after_front (codes "hang ") bs ≡ o → with_front o hang_at
    (after_hang bs) ≡ Some e → Found bs e
hang_case bs e None given h = took_case bs e (after_front (codes "took ") bs) refl h
hang_case bs e (Some rest) given h = hang-is bs rest e (front-is (codes "hang ") bs rest given) h

msg_case : (bs : List ℕ) (e : Event) (o : Option (List ℕ)) → after_front (codes "msg ") bs ≡ o → with_front o msg_at
    (after_msg bs) ≡ Some e → Found bs e
msg_case bs e None given h = hang_case bs e (after_front (codes "hang ") bs) refl h
msg_case bs e (Some rest) given h = msg-is bs rest e (front-is (codes "msg ") bs rest given) h

dial_case : (bs : List ℕ) (e : Event) (o : Option (List ℕ)) → after_front (codes "dial ") bs ≡ o → with_front o dial_at
    (after_dial bs) ≡ Some e → Found bs e
dial_case bs e None given h = msg_case bs e (after_front (codes "msg ") bs) refl h
dial_case bs e (Some rest) given h = dial-is bs rest e (front-is (codes "dial ") bs rest given) h

pub line-is : (bs : List ℕ) (e : Event) → event_of bs ≡ Some e → Found bs e
unfolding event_of
line-is bs e h = dial_case bs e (after_front (codes "dial ") bs) refl h

-- ---- as the clauses have it

module _ {E : Type 0} where
  pub all_found : (bs : List ℕ) (r : Result (Option Event) E) → IfOk r (λ found. found ≡ event_of bs)
      → IfOk r (λ found. IfSome found (Found bs))
  all_found bs (Ok None) h = tt
  all_found bs (Ok (Some e)) h = line-is bs e (sym h)
  all_found bs (Err e) h = tt

  pub all_lawful : (bs : List ℕ) (r : Result (Option Event) E) → IfOk r (λ found. IfSome found (Found bs))
      → IfOk r (λ found. IfSome found IsLawful)
  all_lawful bs (Ok None) h = tt
  all_lawful bs (Ok (Some e)) h = h.lawful
  all_lawful bs (Err e) h = tt

  pub all_in_range : (bs : List ℕ) (r : Result (Option Event) E) → IfOk r (λ found. IfSome found (Found bs))
      → IfOk r (λ found. IfSome found IsInRange)
  all_in_range bs (Ok None) h = tt
  all_in_range bs (Ok (Some e)) h = h.in_range
  all_in_range bs (Err e) h = tt

  pub all_spelled : (bs : List ℕ) (r : Result (Option Event) E) → IfOk r (λ found. IfSome found (Found bs))
      → IfOk r (λ found. IfSome found (λ e. bs ≡ line_text e))
  all_spelled bs (Ok None) h = tt
  all_spelled bs (Ok (Some e)) h = h.spelled
  all_spelled bs (Err e) h = tt

  pub all_read : (bs : List ℕ) (r : Result (Option Event) E) → IfOk r (λ found. found ≡ event_of bs) → (e : Event)
      → IsLawful e → IsInRange e → bs ≡ line_text e → IfOk r (λ found. found ≡ Some e)
  all_read bs (Ok o) h e lawful in_range text = h ∙ ap event_of text ∙ line-again e lawful in_range
  all_read bs (Err x) h e lawful in_range text = tt

  pub all_again : (e : Event) (r : Result (List ℕ) E) → IfOk r (λ line. line ≡ line_text e) → IsLawful e → IsInRange e
      → IfOk r (λ line. event_of line ≡ Some e)
  all_again e (Ok line) h lawful in_range = ap event_of h ∙ line-again e lawful in_range
  all_again e (Err x) h lawful in_range = tt

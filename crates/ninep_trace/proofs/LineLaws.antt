-- Reading a line in words and spelling it undo each other.
use Rattle.std.proofs.Common.{◌≡◌, ℕ, List, [], ◌∷◌, ◌++◌, codes, Option, Some, None, refl, sym, ap, subst, ◌∙◌}
use Rattle.std.proofs.Common.{append_assoc, arith}
use Rattle.std.specs.Fmt.{decimal}
use Rattle.ninep_types.specs.declared.message.TMsg.{TMsg}
use Rattle.ninep_types.specs.declared.message.RMsg.{RMsg}
use Rattle.am_journal.specs.declared.event.Event.{Event}
use Rattle.am_journal.specs.declared.event.Event.TheVariants as event
use Rattle.am_journal.specs.Lawful.{IsLawful, IsInRange}
use Rattle.am_text.specs.Front.{after_front}
use Rattle.am_journal.specs.Line.{dial_line, msg_line, hang_line, took_line, new_line, key_line, sel_line, exec_line}
use Rattle.am_journal.specs.Line.{arg_line, look_line, file_line, dir_line, line_text, event_of}
use Rattle.am_text.specs.Fields.{around}
use Rattle.am_journal.proofs.FieldWords.{front-is}
use Rattle.am_journal.proofs.LineLaws.{line-again, line-is}
use Rattle.ninep_trace.specs.declared.line.Line.{Line}
use Rattle.ninep_trace.specs.declared.line.Line.TheVariants as line
use Rattle.ninep_trace.specs.Fields.{◌>>=◌, small_at}
use Rattle.ninep_trace.specs.Reading.{t_message_at, t_line_at, r_message_at, r_line_at, event_line, with_front, line_of}
use Rattle.ninep_trace.specs.Words.{words_t, words_r, event_words, line_words, IsReply, IsReplyInRange, IsWorded}
use Rattle.ninep_trace.proofs.FieldLaws.{some_is, bind_some, small_takes, small_again}
use Rattle.ninep_trace.proofs.TLaws.{message_words_t, t_message_takes, t_message_again}
use Rattle.ninep_trace.proofs.RLaws.{message_words_r, r_message_takes, r_message_again}

-- ---- what is spelled is read

t_line_again : (c : ℕ) (m : TMsg) → IsLawful (event.Msg c m) → IsInRange (event.Msg c m)
    → t_line_at (decimal c ++ 32 ∷ message_words_t m) ≡ Some (line.Event (event.Msg c m))
unfolding t_line_at
t_line_again c m h k =
    rw (small_again 64 c (32 ∷ message_words_t m) h.0 (omega (arith, h.0)) refl, t_message_again m h.1 k.1 h.2 k.2) refl

r_line_again : (c : ℕ) (m : RMsg) → IsReply c m → IsReplyInRange m
    → r_line_at (decimal c ++ 32 ∷ message_words_r m) ≡ Some (line.Reply c m)
unfolding r_line_at
r_line_again c m h k =
    rw (
      small_again 64 c (32 ∷ message_words_r m) h.conn (omega (arith, h.conn)) refl,
      r_message_again m h.fits k.numbers h.short k.bytes,
    ) refl

pub words-again : (l : Line) → IsWorded l → line_of (line_words l) ≡ Some l
unfolding line_of words_t words_r around dial_line hang_line took_line new_line key_line sel_line exec_line arg_line
    look_line file_line dir_line
words-again (line.Event (event.Dial c)) h = ap event_line (line-again (event.Dial c) h.0 h.1)
words-again (line.Event (event.Msg c m)) h = ap t_line_at (append_assoc (decimal c) (32 ∷ []) (message_words_t m))
    ∙ t_line_again c m h.0 h.1
words-again (line.Event (event.Hang c why)) h = ap event_line (line-again (event.Hang c why) h.0 h.1)
words-again (line.Event (event.Took c)) h = ap event_line (line-again (event.Took c) h.0 h.1)
words-again (line.Event event.New) h = ap event_line (line-again event.New h.0 h.1)
words-again (line.Event (event.Key w on text)) h = ap event_line (line-again (event.Key w on text) h.0 h.1)
words-again (line.Event (event.Sel w range)) h = ap event_line (line-again (event.Sel w range) h.0 h.1)
words-again (line.Event (event.Exec at)) h = ap event_line (line-again (event.Exec at) h.0 h.1)
words-again (line.Event (event.Arg at chord)) h = ap event_line (line-again (event.Arg at chord) h.0 h.1)
words-again (line.Event (event.Look at)) h = ap event_line (line-again (event.Look at) h.0 h.1)
words-again (line.Event (event.File path text)) h = ap event_line (line-again (event.File path text) h.0 h.1)
words-again (line.Event (event.Dir path)) h = ap event_line (line-again (event.Dir path) h.0 h.1)
words-again (line.Reply c m) h = ap r_line_at (append_assoc (decimal c) (32 ∷ []) (message_words_r m))
    ∙ r_line_again c m h.0 h.1

-- ---- what is read is spelled so

abbrev pub Found : List ℕ → Line → Type 0
Found bs l = IsWorded l × (bs ≡ line_words l)

words_t-is : (c : ℕ) (m : TMsg) → codes "msg " ++ (decimal c ++ 32 ∷ message_words_t m) ≡ words_t c m
unfolding words_t around
words_t-is c m = ap (λ (l : List ℕ). codes "msg " ++ l) (sym (append_assoc (decimal c) (32 ∷ []) (message_words_t m)))

words_r-is : (c : ℕ) (m : RMsg) → codes "reply " ++ (decimal c ++ 32 ∷ message_words_r m) ≡ words_r c m
unfolding words_r around
words_r-is c m = ap (λ (l : List ℕ). codes "reply " ++ l) (sym (append_assoc (decimal c) (32 ∷ []) (message_words_r m)))

msg-is : (bs rest : List ℕ) (l : Line) → bs ≡ codes "msg " ++ rest → t_line_at rest ≡ Some l → Found bs l
unfolding t_line_at
msg-is bs rest l front e =
    let a = bind_some (small_at 64 rest) (λ conn. after_front (32 ∷ []) conn.1 >>= λ behind. t_message_at behind >>=
    λ m. Some (line.Event (event.Msg conn.0 m))) l e in
    let b = bind_some (after_front (32 ∷ []) a.0.1) (λ behind. t_message_at behind >>=
    λ m. Some (line.Event (event.Msg a.0.0 m))) l a.2 in
    let m = bind_some (t_message_at b.0) (λ m. Some (line.Event (event.Msg a.0.0 m))) l b.2 in
    let conn = small_takes 64 rest a.0.0 a.0.1 a.1 in
    let s = t_message_takes b.0 m.0 m.1 in
    let behind : a.0.1 ≡ 32 ∷ message_words_t m.0 = front-is (32 ∷ []) a.0.1 b.0 b.1
    ∙ ap (λ (x : List ℕ). 32 ∷ x) s.spelled in
    let whole : bs ≡ words_t a.0.0 m.0 = front ∙ ap (λ (x : List ℕ). codes "msg " ++ x)
    (conn.0 ∙ ap (λ (x : List ℕ). decimal a.0.0 ++ x) behind) ∙ words_t-is a.0.0 m.0 in
    subst (Found bs) (some_is (line.Event (event.Msg a.0.0 m.0)) l m.2)
    (((conn.1, s.fits, s.short), (omega (arith, conn.1), s.in_range, s.bytes_are)), whole)

reply-is : (bs rest : List ℕ) (l : Line) → bs ≡ codes "reply " ++ rest → r_line_at rest ≡ Some l → Found bs l
unfolding r_line_at
reply-is bs rest l front e =
    let a = bind_some (small_at 64 rest) (λ conn. after_front (32 ∷ []) conn.1 >>= λ behind. r_message_at behind >>=
    λ m. Some (line.Reply conn.0 m)) l e in
    let b = bind_some (after_front (32 ∷ []) a.0.1) (λ behind. r_message_at behind >>= λ m. Some (line.Reply a.0.0 m)) l
    a.2 in
    let m = bind_some (r_message_at b.0) (λ m. Some (line.Reply a.0.0 m)) l b.2 in
    let conn = small_takes 64 rest a.0.0 a.0.1 a.1 in
    let s = r_message_takes b.0 m.0 m.1 in
    let behind : a.0.1 ≡ 32 ∷ message_words_r m.0 = front-is (32 ∷ []) a.0.1 b.0 b.1
    ∙ ap (λ (x : List ℕ). 32 ∷ x) s.spelled in
    let whole : bs ≡ words_r a.0.0 m.0 = front ∙ ap (λ (x : List ℕ). codes "reply " ++ x)
    (conn.0 ∙ ap (λ (x : List ℕ). decimal a.0.0 ++ x) behind) ∙ words_r-is a.0.0 m.0 in
    subst (Found bs) (some_is (line.Reply a.0.0 m.0) l m.2) (
      (record { conn = conn.1; fits = s.fits; short = s.short }, record { numbers = s.in_range; bytes = s.bytes_are }),
      whole,
    )

-- the line of an event that doesn't begin as a message does is that of a transcript
same_line : (bs : List ℕ) (e : Event) → after_front (codes "msg ") bs ≡ None → bs ≡ line_text e
    → line_text e ≡ event_words e
unfolding msg_line around
same_line bs (event.Dial c) none is = refl
same_line bs (event.Msg c m) none is = absurd (let found = sym none ∙ ap (after_front (codes "msg ")) is in cc)
same_line bs (event.Hang c why) none is = refl
same_line bs (event.Took c) none is = refl
same_line bs event.New none is = refl
same_line bs (event.Key w on text) none is = refl
same_line bs (event.Sel w range) none is = refl
same_line bs (event.Exec at) none is = refl
same_line bs (event.Arg at chord) none is = refl
same_line bs (event.Look at) none is = refl
same_line bs (event.File path text) none is = refl
same_line bs (event.Dir path) none is = refl

event-is : (bs : List ℕ) (l : Line) (o : Option Event) → after_front (codes "msg ") bs ≡ None → event_of bs ≡ o →
    event_line o ≡ Some l → Found bs l
event-is bs l None none given e = absurd cc
event-is bs l (Some x) none given e =
    let f = line-is bs x given in
    subst (Found bs) (some_is (line.Event x) l e) ((f.lawful, f.in_range), f.spelled ∙ same_line bs x none f.spelled)

reply_case : (bs : List ℕ) (l : Line) (o : Option (List ℕ)) → after_front (codes "msg ") bs ≡ None →
    after_front (codes "reply ") bs ≡ o → with_front o r_line_at (event_line (event_of bs)) ≡ Some l → Found bs l
reply_case bs l None none given e = event-is bs l (event_of bs) none refl e
reply_case bs l (Some rest) none given e = reply-is bs rest l (front-is (codes "reply ") bs rest given) e

msg_case : (bs : List ℕ) (l : Line) (o : Option (List ℕ)) → after_front (codes "msg ") bs ≡ o → with_front o t_line_at
    (with_front (after_front (codes "reply ") bs) r_line_at (event_line (event_of bs))) ≡ Some l → Found bs l
msg_case bs l None given e = reply_case bs l (after_front (codes "reply ") bs) given refl e
msg_case bs l (Some rest) given e = msg-is bs rest l (front-is (codes "msg ") bs rest given) e

pub words-is : (bs : List ℕ) (l : Line) → line_of bs ≡ Some l → Found bs l
unfolding line_of
words-is bs l e = msg_case bs l (after_front (codes "msg ") bs) refl e

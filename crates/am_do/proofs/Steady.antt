-- What a talk comes to stays so, whatever comes behind the bytes.
use Rattle.std.proofs.Common.{◌≡◌, ℕ, Bool, true, false, cond, List, [], ◌∷◌, ◌++◌, length, Option, Some, None, refl}
use Rattle.std.proofs.Common.{sym, ap, ◌∙◌, subst, append_assoc}
use Rattle.std.specs.Prelude.{Result, Ok, Err, nat_lt, codes}
use Rattle.ninep_types.specs.declared.fault.WireFault.TheVariants.{Size}
use Rattle.ninep_types.specs.declared.message.TBody.{TBody}
use Rattle.ninep_types.specs.declared.message.TBody.TheVariants as t
use Rattle.ninep_types.specs.declared.message.RBody.{RBody}
use Rattle.ninep_types.specs.Spelling.{size_t}
use Rattle.ninep_cut.specs.declared.cut.Cut.{Cut}
use Rattle.ninep_cut.specs.declared.cut.Cut.TheVariants.{Whole, More, Broken}
use Rattle.ninep_cut.specs.Cuts.{cut_of, first_of, behind_first}
use Rattle.ninep_cut.proofs.Fronts.{first_is_message, first_and_behind, front_is, stays_broken}
use Rattle.ninep_client.specs.declared.fault.CallFault.{CallFault}
use Rattle.ninep_client.specs.declared.fault.CallFault.TheVariants as fault
use Rattle.ninep_client.specs.Alone.{spelled, reply_to}
use Rattle.am_do.specs.declared.line.DoLine.{DoLine}
use Rattle.am_do.specs.declared.line.DoLine.TheVariants as line
use Rattle.am_do.specs.Talks.{Got, Value, Lacks, Faulty, Refused, Told, Reply, and_then, then_got, gives, says, refuses}
use Rattle.am_do.specs.Talks.{reply_got, front_got, asks}
use Rattle.am_do.specs.Talks.{ok_line, error_line, read_answer, write_answer, ok_or_error, walked, agreed, attached}
use Rattle.am_do.specs.Talks.{after_open, after_walk, after_attach, after_version}
use Rattle.am_do.specs.Talks.{back_told, open_told, walk_told, read_told, write_told, close_told, line_told, attach_of}
use Rattle.am_do.specs.Talks.{attach_told, begins, lines_told, told_of}
use Rattle.am_do.proofs.Steps.{behind, got_first}

module _ {A : Type 0} where
  -- what one comes to, the other does that has more bytes
  abbrev pub StaysAt : Told A → Told A → List ℕ → Got A → Type 0
  StaysAt one two more (Value a rest) = two ≡ record { sent = one.sent; text = one.text; got = Value a (rest ++ more) }
  StaysAt one two more Lacks = Unit {0}
  StaysAt one two more (Faulty e) = two.got ≡ Faulty e
  StaysAt one two more Refused = two.got ≡ Refused

  abbrev pub Stays : (List ℕ → Told A) → Type 0
  Stays part = (bytes more : List ℕ) → StaysAt (part bytes) (part (bytes ++ more)) more (part bytes).got

stays_gives : {A : Type 0} (a : A) → Stays (gives a)
stays_gives a = λ bytes more. refl

stays_says : (text : List ℕ) → Stays (says text)
stays_says text = λ bytes more. refl

stays_refused : {A : Type 0} → Stays (λ (bytes : List ℕ). let told : Told A = refuses in told)
stays_refused = λ bytes more. refl

stays_if : {A : Type 0} (b : Bool) (one two : List ℕ → Told A) → Stays one → Stays two
    → Stays (λ bytes. cond b (one bytes) (two bytes))
stays_if true one two s t = s
stays_if false one two s t = t

-- ---- parts one after another

module _ {B : Type 0} where
  behind_at : (sent text : List ℕ) (x y : Told B) (more : List ℕ) (g : Got B) → StaysAt x y more g
      → StaysAt (behind sent text x) (behind sent text y) more g
  behind_at sent text x y more (Value b rest) s = ap (behind sent text) s
  behind_at sent text x y more Lacks s = tt
  behind_at sent text x y more (Faulty e) s = s
  behind_at sent text x y more Refused s = s

module _ {A B : Type 0} where
  then_at : (o p : Told A) (two : A → List ℕ → Told B) (more : List ℕ) (g : Got A) → o.got ≡ g → StaysAt o p more g
      → ((a : A) → Stays (two a))
      → StaysAt (and_then o two) (and_then p two) more (and_then o two).got
  then_at o p two more (Value a rest) is s f =
      let first : and_then o two ≡ behind o.sent o.text (two a rest) = got_first o two (Value a rest) is in
      let second : and_then p two ≡ behind o.sent o.text (two a (rest ++ more)) = ap (λ (q : Told A). and_then q two)
      s in
      subst (λ (x : Told B). StaysAt x (and_then p two) more x.got) (sym first)
      (subst (λ (y : Told B). StaysAt (behind o.sent o.text (two a rest)) y more (two a rest).got) (sym second)
      (behind_at o.sent o.text (two a rest) (two a (rest ++ more)) more (two a rest).got (f a rest more)))
  then_at o p two more Lacks is s f = subst (λ (x : Told B). StaysAt x (and_then p two) more x.got)
      (sym (got_first o two Lacks is)) tt
  then_at o p two more (Faulty e) is s f =
      subst (λ (x : Told B). StaysAt x (and_then p two) more x.got) (sym (got_first o two (Faulty e) is))
      (ap (λ (x : Told B). x.got) (got_first p two (Faulty e) s))
  then_at o p two more Refused is s f =
      subst (λ (x : Told B). StaysAt x (and_then p two) more x.got) (sym (got_first o two Refused is))
      (ap (λ (x : Told B). x.got) (got_first p two Refused s))

  stays_then : (one : List ℕ → Told A) (two : A → List ℕ → Told B) → Stays one → ((a : A) → Stays (two a))
      → Stays (λ bytes. and_then (one bytes) two)
  stays_then one two s f = λ bytes more. then_at (one bytes) (one (bytes ++ more)) two more (one bytes).got refl
      (s bytes more) f

-- ---- one message

reply_stays : (sent text more rest : List ℕ) (x : Result RBody CallFault)
    → StaysAt {A = Reply} (record { sent = sent; text = text; got = reply_got x rest })
    (record { sent = sent; text = text; got = reply_got x (rest ++ more) }) more (reply_got x rest)
reply_stays sent text more rest (Ok reply) = refl
reply_stays sent text more rest (Err (fault.Remote told)) = refl
reply_stays sent text more rest (Err fault.Large) = refl
reply_stays sent text more rest (Err fault.Tags) = refl
reply_stays sent text more rest (Err fault.Closed) = refl
reply_stays sent text more rest (Err fault.WriteFault) = refl
reply_stays sent text more rest (Err fault.ReadFault) = refl
reply_stays sent text more rest (Err fault.Ended) = refl
reply_stays sent text more rest (Err fault.Torn) = refl
reply_stays sent text more rest (Err (fault.Wire f)) = refl
reply_stays sent text more rest (Err (fault.Unasked n)) = refl
reply_stays sent text more rest (Err (fault.Kind kind)) = refl
reply_stays sent text more rest (Err fault.NoMemory) = refl

-- a message at the front is the reply, whatever stands behind it
whole_got : (body : TBody) (bytes more : List ℕ) → cut_of bytes ≡ Whole → front_got (cut_of (bytes ++ more)) body
    (bytes ++ more) ≡ reply_got (reply_to body (first_of bytes)) (behind_first bytes ++ more)
whole_got body bytes more e =
    let same : bytes ++ more ≡ first_of bytes ++ (behind_first bytes ++ more) = ap (λ (x : List ℕ). x ++ more)
    (first_and_behind bytes) ∙ append_assoc (first_of bytes) (behind_first bytes) more in
    let f = front_is (first_of bytes) (behind_first bytes ++ more) (first_is_message bytes e) in
    ap (λ (x : List ℕ). front_got (cut_of x) body x) same
    ∙ ap (λ (c : Cut). front_got c body (first_of bytes ++ (behind_first bytes ++ more))) f.0
    ∙ ap (λ (x : List ℕ). reply_got (reply_to body x) (behind_first (first_of bytes ++ (behind_first bytes ++ more))))
    f.1
    ∙ ap (λ (x : List ℕ). reply_got (reply_to body (first_of bytes)) x) f.2

front_stays : (sent text : List ℕ) (body : TBody) (bytes more : List ℕ) (c : Cut) → cut_of bytes ≡ c
    → StaysAt {A = Reply} (record { sent = sent; text = text; got = front_got c body bytes })
    (record { sent = sent; text = text; got = front_got (cut_of (bytes ++ more)) body (bytes ++ more) }) more
    (front_got c body bytes)
front_stays sent text body bytes more Whole e =
    subst (λ (g : Got Reply). StaysAt {A = Reply} (record {
      sent = sent;
      text = text;
      got =
          reply_got (reply_to body (first_of bytes)) (behind_first bytes);
    })
    (record { sent = sent; text = text; got = g }) more (reply_got (reply_to body (first_of bytes))
    (behind_first bytes)))
    (sym (whole_got body bytes more e))
    (reply_stays sent text more (behind_first bytes) (reply_to body (first_of bytes)))
front_stays sent text body bytes more More e = tt
front_stays sent text body bytes more (Broken size) e = ap (λ (c : Cut). front_got c body (bytes ++ more))
    (stays_broken bytes more size e)

asks_at : (b : Bool) (most : ℕ) (body : TBody) (bytes : List ℕ) → nat_lt most (size_t body) ≡ b
    → asks most body bytes ≡ cond b (gives (Err (codes "message too large")) bytes)
    (record { sent = spelled body; text = []; got = front_got (cut_of bytes) body bytes })
unfolding asks
asks_at b most body bytes e = rw e refl

stays_asks_at : (b : Bool) (most : ℕ) (body : TBody) → nat_lt most (size_t body) ≡ b → Stays (asks most body)
stays_asks_at true most body e = λ bytes more.
    subst (λ (x : Told Reply). StaysAt x (asks most body (bytes ++ more)) more x.got)
    (sym (asks_at true most body bytes e)) (asks_at true most body (bytes ++ more) e)
stays_asks_at false most body e = λ bytes more.
    subst (λ (x : Told Reply). StaysAt x (asks most body (bytes ++ more)) more x.got)
    (sym (asks_at false most body bytes e))
    (subst (λ (y : Told Reply). StaysAt {A = Reply} (record {
      sent = spelled body;
      text = [];
      got =
          front_got (cut_of bytes) body bytes;
    }) y more (front_got (cut_of bytes) body bytes))
    (sym (asks_at false most body (bytes ++ more) e))
    (front_stays (spelled body) [] body bytes more (cut_of bytes) refl))

stays_asks : (most : ℕ) (body : TBody) → Stays (asks most body)
stays_asks most body = stays_asks_at (nat_lt most (size_t body)) most body refl

-- ---- one line

stays_back : (most fid : ℕ) (text : List ℕ) → Stays (back_told most fid text)
unfolding back_told
stays_back most fid text = stays_then (asks most (t.Clunk fid)) (λ _ rest. says (error_line text) rest)
    (stays_asks most (t.Clunk fid)) (λ _. stays_says (error_line text))

stays_opened : (most fid : ℕ) (reply : Reply) → Stays (after_open most fid reply)
stays_opened most fid (Ok reply) = stays_says ok_line
stays_opened most fid (Err text) = stays_back most fid text

stays_open : (most fid mode : ℕ) → Stays (open_told most fid mode)
unfolding open_told
stays_open most fid mode = stays_then (asks most (t.Open fid mode)) (after_open most fid)
    (stays_asks most (t.Open fid mode)) (stays_opened most fid)

stays_walked : (most fid : ℕ) (names : List (List ℕ)) (mode : ℕ) (reply : Reply)
    → Stays (after_walk most fid names mode reply)
stays_walked most fid names mode (Ok reply) =
    stays_if (nat_lt (walked reply) (length names)) (says (error_line (codes "walk stopped"))) (open_told most fid mode)
    (stays_says (error_line (codes "walk stopped"))) (stays_open most fid mode)
stays_walked most fid names mode (Err text) = stays_says (error_line text)

stays_walk : (most fid : ℕ) (names : List (List ℕ)) (mode : ℕ) → Stays (walk_told most fid names mode)
unfolding walk_told
stays_walk most fid names mode = stays_then (asks most (t.Walk 0 fid names)) (after_walk most fid names mode)
    (stays_asks most (t.Walk 0 fid names)) (stays_walked most fid names mode)

stays_read : (most fid offset count : ℕ) → Stays (read_told most fid offset count)
unfolding read_told
stays_read most fid offset count =
    stays_then (asks most (t.Read fid offset count)) (λ reply rest. says (read_answer reply) rest)
    (stays_asks most (t.Read fid offset count)) (λ reply. stays_says (read_answer reply))

stays_write : (most fid offset : ℕ) (text : List ℕ) → Stays (write_told most fid offset text)
unfolding write_told
stays_write most fid offset text =
    stays_then (asks most (t.Write fid offset text)) (λ reply rest. says (write_answer reply) rest)
    (stays_asks most (t.Write fid offset text)) (λ reply. stays_says (write_answer reply))

stays_close : (most fid : ℕ) → Stays (close_told most fid)
unfolding close_told
stays_close most fid = stays_then (asks most (t.Clunk fid)) (λ reply rest. says (ok_or_error reply) rest)
    (stays_asks most (t.Clunk fid)) (λ reply. stays_says (ok_or_error reply))

stays_line : (most : ℕ) (l : DoLine) → Stays (line_told most l)
stays_line most (line.Open fid names mode) = stays_walk most fid names mode
stays_line most (line.Read fid offset count) = stays_read most fid offset count
stays_line most (line.Write fid offset text) = stays_write most fid offset text
stays_line most (line.Close fid) = stays_close most fid

-- ---- all lines

stays_lines : (most : ℕ) (lines : List DoLine) → Stays (lines_told most lines)
unfolding lines_told
stays_lines most [] = stays_gives tt
stays_lines most (l ∷ lines) = stays_then (line_told most l) (λ _ rest. lines_told most lines rest) (stays_line most l)
    (λ _. stays_lines most lines)

stays_attached_by : (most : ℕ) (reply : Reply) → Stays (after_attach most reply)
stays_attached_by most (Ok reply) = stays_gives most
stays_attached_by most (Err text) = stays_refused

stays_attach : (most : ℕ) (tree : List ℕ) → Stays (attach_told most tree)
unfolding attach_told
stays_attach most tree = stays_then (asks most (attach_of tree)) (after_attach most) (stays_asks most (attach_of tree))
    (stays_attached_by most)

stays_agreed : (tree : List ℕ) (most : Option ℕ) → Stays (attached tree most)
stays_agreed tree None = stays_refused
stays_agreed tree (Some most) = stays_attach most tree

stays_begins : (tree : List ℕ) → Stays (begins tree)
unfolding begins
stays_begins tree = stays_then (asks 65560 (t.Version 8192 (codes "9P2000"))) (after_version tree)
    (stays_asks 65560 (t.Version 8192 (codes "9P2000"))) (λ reply. stays_agreed tree (agreed reply))

pub stays_told : (tree : List ℕ) (lines : List DoLine) → Stays (told_of tree lines)
unfolding told_of
stays_told tree lines = stays_then (begins tree) (λ most rest. lines_told most lines rest) (stays_begins tree)
    (λ most. stays_lines most lines)

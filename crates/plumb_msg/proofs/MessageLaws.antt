-- Whole messages: reading against the grammar.
use Rattle.std.proofs.Common.{◌≡◌, ℕ, ◌-◌, ◌<◌, ◌≤◌, Bool, true, false, cond, leb, List, [], ◌∷◌, ◌++◌, length, take}
use Rattle.std.proofs.Common.{drop, Option, Some, None, Result, Ok, Err, refl, ap, sym, subst, ◌∙◌, append_assoc, arith}
use Rattle.std.proofs.Common.{length-append, length-drop}
use Rattle.std.specs.Prelude.{IfOk, nat_lt}
use Rattle.std.specs.Fmt.{decimal}
use Rattle.std.specs.Str.{is_utf8}
use Rattle.std.proofs.lemmas.Bool.{false≢true, and_parts, leb-true, ltb-false, le-ltb}
use Rattle.std.proofs.lemmas.List.{append-nil, take-append-drop, take_at, drop_at, length-take}
use Rattle.std.proofs.Math.Seq.{take-append_seam}
use Rattle.am_text.specs.declared.memory.NoMemory.{NoMemory}
use Rattle.plumb_msg.specs.Texts.{has_newline, is_line, is_text_front}
use Rattle.plumb_msg.specs.Attributes.{attrs_of, is_attrs_front}
use Rattle.plumb_msg.specs.Fields.{◌>>=◌}
use Rattle.plumb_msg.specs.Reading.{text_of, text_at, attrs_at, count_of, is_count_front, count_at, bytes_at, body_at}
use Rattle.plumb_msg.specs.Reading.{msg_at, read_told, read_of}
use Rattle.plumb_msg.specs.Spelling.{attrs_text, msg_bytes, msg_text, are_named, can_spell}
use Rattle.plumb_msg.specs.Grammar.{IsMessage, Begins, IsProperFront}
use Rattle.plumb_msg.specs.Laws.{ReadAgain, WholeStays, BadStays, WholeIsExact, MoreIsExact, BadIsExact}
use Rattle.plumb_msg.specs.declared.message.Attr.{Attr}
use Rattle.plumb_msg.specs.declared.message.PlumbMsg.{PlumbMsg}
use Rattle.plumb_msg.specs.declared.message.PlumbRead.TheVariants as told
use Rattle.plumb_msg.specs.declared.unread.Unread.{Unread}
use Rattle.plumb_msg.specs.declared.unread.Unread.TheVariants.{More, Bad}
use Rattle.plumb_msg.proofs.Attributes.{written_line}
use Rattle.plumb_msg.proofs.AttrsLines.{attrs_are_exact}
use Rattle.plumb_msg.proofs.Counts.{count_kind, count_is, count_again, decimal-clean}
use Rattle.plumb_msg.proofs.LineKinds.{text_kind, attrs_kind}
use Rattle.plumb_msg.proofs.Readers.{Read, read_as, refused, read_is, IsReader, reader-done, both, reader-both}
use Rattle.plumb_msg.proofs.Readers.{reader-bytes, reader-line, line_again, line_is}

-- ---- a message is read by readers, one after another

reader-text : IsReader text_at
reader-text = reader-line text_of is_text_front text_kind

reader-attrs : IsReader attrs_at
reader-attrs = reader-line attrs_of is_attrs_front attrs_kind

reader-body : IsReader body_at
reader-body = reader-both count_at bytes_at (reader-line count_of is_count_front count_kind) reader-bytes

-- the message of all its parts
abbrev message : List ℕ → List ℕ → List ℕ → List ℕ → List Attr → List ℕ → PlumbMsg
message src dst wdir sort attrs body = record {
  src = src;
  dst = dst;
  wdir = wdir;
  sort = sort;
  attrs = attrs;
  body =
      body;
}

abbrev after_attrs : List ℕ → List ℕ → List ℕ → List ℕ → List Attr → List ℕ → Read PlumbMsg
after_attrs src dst wdir sort attrs = both body_at (λ body rest. read_as (message src dst wdir sort attrs body) rest)

abbrev after_sort : List ℕ → List ℕ → List ℕ → List ℕ → List ℕ → Read PlumbMsg
after_sort src dst wdir sort = both attrs_at (after_attrs src dst wdir sort)

abbrev after_wdir : List ℕ → List ℕ → List ℕ → List ℕ → Read PlumbMsg
after_wdir src dst wdir = both text_at (after_sort src dst wdir)

abbrev after_dst : List ℕ → List ℕ → List ℕ → Read PlumbMsg
after_dst src dst = both text_at (after_wdir src dst)

abbrev after_src : List ℕ → List ℕ → Read PlumbMsg
after_src src = both text_at (after_dst src)

pub reader-msg : IsReader msg_at
unfolding msg_at
reader-msg =
    reader-both text_at after_src reader-text (λ src.
    reader-both text_at (after_dst src) reader-text (λ dst.
    reader-both text_at (after_wdir src dst) reader-text (λ wdir.
    reader-both text_at (after_sort src dst wdir) reader-text (λ sort.
    reader-both attrs_at (after_attrs src dst wdir sort) reader-attrs (λ attrs.
    reader-both body_at (λ body rest. read_as (message src dst wdir sort attrs body) rest) reader-body
    (λ body. reader-done (message src dst wdir sort attrs body)))))))

-- ---- what is read is a message

bind_ok : {A B : Type 0} (r : Read A) (f : A × List ℕ → Read B) (y : B × List ℕ) → (r >>= f) ≡ Ok y → (x : A × List ℕ)
    × (r ≡ Ok x) × (f x ≡ Ok y)
bind_ok (Ok x) f y e = (x, refl, e)
bind_ok (Err d) f y e = absurd cc

guard_some : (t : Bool) (r : Option (List ℕ)) (x : List ℕ) → cond t r None ≡ Some x → (t ≡ true) × (r ≡ Some x)
guard_some true r x e = (refl, e)
guard_some false r x e = absurd cc

some_is : (a b : List ℕ) → Some a ≡ Some b → a ≡ b
some_is a b e = cc

-- a text in one line
record IsText (bs text rest : List ℕ) : Type 0 where
  one_line : is_line text ≡ true
  parts : bs ≡ text ++ 10 ∷ rest

text_is : (bs : List ℕ) (x : List ℕ × List ℕ) → text_at bs ≡ Ok x → IsText bs x.0 x.1
text_is bs x e =
    let l = line_is text_of is_text_front text_kind bs x.0 x.1 e in
    let g = guard_some (is_utf8 l.text) (Some l.text) x.0 l.value in
    subst (λ (t : List ℕ). IsText bs t x.1) (some_is l.text x.0 g.1)
    (record { one_line = ap (λ (t : Bool). cond t false (is_utf8 l.text)) l.clean ∙ g.0; parts = l.parts })

record IsBody (bs body rest : List ℕ) : Type 0 where
  small : length body ≤ 1048576
  parts : bs ≡ decimal (length body) ++ 10 ∷ (body ++ rest)

bytes_is : (n : ℕ) (bs : List ℕ) (x : List ℕ × List ℕ) → bytes_at n bs ≡ Ok x → (length x.0 ≡ n) × (bs ≡ x.0 ++ x.1)
bytes_is n bs x =
    elim (nat_lt (length bs) n) as (λ t. nat_lt (length bs) n ≡ t → cond t (refused More)
    (read_as (take n bs) (drop n bs)) ≡ Ok x → (length x.0 ≡ n) × (bs ≡ x.0 ++ x.1)) [
      | true ↦ λ t e. absurd cc
      | false ↦ λ t e.
          let long : n ≤ length bs = ltb-false (length bs) n t in
          subst (λ (y : List ℕ × List ℕ). (length y.0 ≡ n) × (bs ≡ y.0 ++ y.1)) (read_is (take n bs, drop n bs) x e)
          (omega (arith, long, length-take n bs), sym (take-append-drop n bs))
    ] refl

body_is : (bs : List ℕ) (x : List ℕ × List ℕ) → body_at bs ≡ Ok x → IsBody bs x.0 x.1
body_is bs x e =
    let b = bind_ok (count_at bs) (λ count. bytes_at count.0 count.1) x e in
    let l = line_is count_of is_count_front count_kind bs b.0.0 b.0.1 b.1 in
    let c = count_is l.text b.0.0 l.value in
    let d = bytes_is b.0.0 b.0.1 x b.2 in
    record {
      small = omega (arith, d.0, c.1);
      parts = l.parts ∙ ap (λ (t : List ℕ). t ++ 10 ∷ b.0.1) (c.0 ∙ ap decimal (sym d.0))
          ∙ ap (λ (r : List ℕ). decimal (length x.0) ++ 10 ∷ r) d.1;
    }

-- the bytes are a message and a rest
pub record Spells (bs : List ℕ) (m : PlumbMsg) (rest : List ℕ) : Type 0 where
  pub front : List ℕ
  pub parts : bs ≡ front ++ rest
  pub message : IsMessage front m

abbrev then_line : List ℕ → List ℕ → List ℕ
then_line text rest = text ++ 10 ∷ rest

-- the bytes of a message and what follows, line after line
bytes-lines : (m : PlumbMsg) (attributes rest : List ℕ) → msg_bytes m attributes
    ++ rest ≡ then_line m.src (then_line m.dst (then_line m.wdir (then_line m.sort
    (then_line attributes (then_line (decimal (length m.body)) (m.body ++ rest))))))
unfolding msg_bytes
bytes-lines m attributes rest = simp append_assoc refl

message_is : (x y : PlumbMsg × List ℕ) → read_as x.0 x.1 ≡ Ok y → x ≡ y
message_is x y e = read_is x y e

pub msg_spells : (bs : List ℕ) (m : PlumbMsg) (rest : List ℕ) → msg_at bs ≡ Ok (m, rest) → Spells bs m rest
unfolding msg_at
msg_spells bs m rest e =
    let a = bind_ok (text_at bs) (λ x. after_src x.0 x.1) (m, rest) e in
    let b = bind_ok (text_at a.0.1) (λ x. after_dst a.0.0 x.0 x.1) (m, rest) a.2 in
    let c = bind_ok (text_at b.0.1) (λ x. after_wdir a.0.0 b.0.0 x.0 x.1) (m, rest) b.2 in
    let d = bind_ok (text_at c.0.1) (λ x. after_sort a.0.0 b.0.0 c.0.0 x.0 x.1) (m, rest) c.2 in
    let f = bind_ok (attrs_at d.0.1) (λ x. after_attrs a.0.0 b.0.0 c.0.0 d.0.0 x.0 x.1) (m, rest) d.2 in
    let g = bind_ok (body_at f.0.1) (λ x. read_as (message a.0.0 b.0.0 c.0.0 d.0.0 f.0.0 x.0) x.1) (m, rest) f.2 in
    let src = text_is bs a.0 a.1 in
    let dst = text_is a.0.1 b.0 b.1 in
    let wdir = text_is b.0.1 c.0 c.1 in
    let sort = text_is c.0.1 d.0 d.1 in
    let attrs = line_is attrs_of is_attrs_front attrs_kind d.0.1 f.0.0 f.0.1 f.1 in
    let attrs_line = (attrs_are_exact attrs.text f.0.0).0 attrs.value in
    let body = body_is f.0.1 g.0 g.1 in
    let made = message a.0.0 b.0.0 c.0.0 d.0.0 f.0.0 g.0.0 in
    let lines : bs ≡ then_line made.src (then_line made.dst (then_line made.wdir
    (then_line made.sort (then_line attrs.text (then_line (decimal (length made.body)) (made.body ++ g.0.1)))))) =
    src.parts
    ∙ ap (λ (l : List ℕ). then_line made.src l) (dst.parts
    ∙ ap (λ (l : List ℕ). then_line made.dst l) (wdir.parts
    ∙ ap (λ (l : List ℕ). then_line made.wdir l) (sort.parts
    ∙ ap (λ (l : List ℕ). then_line made.sort l) (attrs.parts
    ∙ ap (λ (l : List ℕ). then_line attrs.text l) body.parts)))) in
    subst (λ (y : PlumbMsg × List ℕ). Spells bs y.0 y.1) (message_is (made, g.0.1) (m, rest) g.2) (record {
      front = msg_bytes made attrs.text;
      parts = lines ∙ sym (bytes-lines made attrs.text g.0.1);
      message = record {
        src = src.one_line;
        dst = dst.one_line;
        wdir = wdir.one_line;
        sort = sort.one_line;
        attributes = attrs.text;
        one_line = ap (λ (t : Bool). cond t false (is_utf8 attrs.text)) attrs.clean ∙ attrs_line.0;
        attrs = attrs_line.1;
        small = body.small;
        spelled = refl;
      };
    })

-- ---- a message is read

line_parts : (text : List ℕ) → is_line text ≡ true → (has_newline text ≡ false) × (is_utf8 text ≡ true)
line_parts text h = of (has_newline text) (is_utf8 text) h
  where
    of : (t u : Bool) → cond t false u ≡ true → (t ≡ false) × (u ≡ true)
    of true u e = absurd (false≢true e)
    of false u e = (refl, e)

text_again : (text rest : List ℕ) → is_line text ≡ true → text_at (then_line text rest) ≡ Ok (text, rest)
text_again text rest h =
    let p = line_parts text h in
    line_again text_of is_text_front text_kind text rest text p.0 (ap (λ (t : Bool). cond t (Some text) None) p.1)

bytes_again : (body rest : List ℕ) → bytes_at (length body) (body ++ rest) ≡ Ok (body, rest)
bytes_again body rest = rw (
  le-ltb (length (body ++ rest)) (length body) (omega (arith, length-append body rest)),
  take_at body rest (length body) refl,
  drop_at body rest (length body) refl,
) refl

body_again : (body rest : List ℕ) → length body ≤ 1048576 → body_at (then_line (decimal (length body)) (body ++ rest))
    ≡ Ok (body, rest)
body_again body rest h =
    ap (λ (r : Read ℕ). r >>= λ count. bytes_at count.0 count.1) (line_again count_of is_count_front count_kind
    (decimal (length body)) (body ++ rest) (length body) (decimal-clean (length body) (omega (arith, h)))
    (count_again (length body) h))
    ∙ bytes_again body rest

pub msg_again : (front : List ℕ) (m : PlumbMsg) (rest : List ℕ) → IsMessage front m
    → msg_at (front ++ rest) ≡ Ok (m, rest)
unfolding msg_at
msg_again front m rest is =
    let l6 = then_line (decimal (length m.body)) (m.body ++ rest) in
    let l5 = then_line is.attributes l6 in
    let l4 = then_line m.sort l5 in
    let l3 = then_line m.wdir l4 in
    let l2 = then_line m.dst l3 in
    let attributes = line_parts is.attributes is.one_line in
    let attrs = line_again attrs_of is_attrs_front attrs_kind is.attributes l6 m.attrs attributes.0
    ((attrs_are_exact is.attributes m.attrs).1 (attributes.1, is.attrs)) in
    ap msg_at (ap (λ (l : List ℕ). l ++ rest) is.spelled ∙ bytes-lines m is.attributes rest)
    ∙ ap (λ (r : Read (List ℕ)). r >>= λ x. after_src x.0 x.1) (text_again m.src l2 is.src)
    ∙ ap (λ (r : Read (List ℕ)). r >>= λ x. after_dst m.src x.0 x.1) (text_again m.dst l3 is.dst)
    ∙ ap (λ (r : Read (List ℕ)). r >>= λ x. after_wdir m.src m.dst x.0 x.1) (text_again m.wdir l4 is.wdir)
    ∙ ap (λ (r : Read (List ℕ)). r >>= λ x. after_sort m.src m.dst m.wdir x.0 x.1) (text_again m.sort l5 is.sort)
    ∙ ap (λ (r : Read (List Attr)). r >>= λ x. after_attrs m.src m.dst m.wdir m.sort x.0 x.1) attrs
    ∙ ap (λ (r : Read (List ℕ)). r >>= λ x. read_as (message m.src m.dst m.wdir m.sort m.attrs x.0) x.1)
    (body_again m.body rest is.small)

-- ---- the three answers

whole_is : (m n : PlumbMsg) (k l : ℕ) → told.Whole m k ≡ told.Whole n l → (m ≡ n) × (k ≡ l)
whole_is m n k l e = (cc, cc)

told_whole : (bs : List ℕ) (m : PlumbMsg) (used : ℕ) (r : Read PlumbMsg) → read_told bs r ≡ told.Whole m used
    → (rest : List ℕ) × (r ≡ Ok (m, rest)) × (used ≡ length bs - length rest)
told_whole bs m used (Ok x) e =
    let w = whole_is x.0 m (length bs - length x.1) used e in
    (x.1, ap (λ (n : PlumbMsg). read_as n x.1) w.0, sym w.1)
told_whole bs m used (Err More) e = absurd cc
told_whole bs m used (Err Bad) e = absurd cc

told_more : (bs : List ℕ) (r : Read PlumbMsg) → read_told bs r ≡ told.More → r ≡ Err More
told_more bs (Ok x) e = absurd cc
told_more bs (Err More) e = refl
told_more bs (Err Bad) e = absurd cc

told_bad : (bs : List ℕ) (r : Read PlumbMsg) → read_told bs r ≡ told.Bad → r ≡ Err Bad
told_bad bs (Ok x) e = absurd cc
told_bad bs (Err More) e = absurd cc
told_bad bs (Err Bad) e = refl

not_both : (r : Read PlumbMsg) (m : PlumbMsg) (rest : List ℕ) (u : Unread) → r ≡ Ok (m, rest) → r ≡ Err u → ⊥
not_both r m rest u e f = absurd cc

-- at the end of a message that is read nothing is left
pub message_whole : (front : List ℕ) (m : PlumbMsg) → IsMessage front m → msg_at front ≡ Ok (m, [])
message_whole front m is = ap msg_at (sym (append-nil front)) ∙ msg_again front m [] is

pub read_again : ReadAgain
unfolding can_spell
read_again m rest h =
    let p = and_parts _ (leb (length m.body) 1048576) h in
    let n = and_parts _ (are_named [] m.attrs) p.0 in
    let a = and_parts _ (is_line (attrs_text m.attrs)) n.0 in
    let s = and_parts _ (is_line m.sort) a.0 in
    let w = and_parts _ (is_line m.wdir) s.0 in
    let d = and_parts (is_line m.src) (is_line m.dst) w.0 in
    let is : IsMessage (msg_text m) m = record {
      src = d.0;
      dst = d.1;
      wdir = w.1;
      sort = s.1;
      attributes = attrs_text m.attrs;
      one_line = a.1;
      attrs = written_line m.attrs n.1;
      small = leb-true (length m.body) 1048576 p.1;
      spelled = refl;
    } in
    let used : length (msg_text m ++ rest) - length rest ≡ length (msg_text m) =
    omega (arith, length-append (msg_text m) rest) in
    ap (read_told (msg_text m ++ rest)) (msg_again (msg_text m) m rest is) ∙ ap (told.Whole m) used

pub whole_stays : WholeStays
whole_stays bs more m used e =
    let r = told_whole bs m used (msg_at bs) e in
    let inside = reader-msg.inside bs m r.0 r.1 in
    let same : length (bs ++ more) - length (r.0 ++ more) ≡ used =
    omega (arith, inside, r.2, length-append bs more, length-append r.0 more) in
    ap (read_told (bs ++ more)) (reader-msg.whole bs more m r.0 r.1) ∙ ap (told.Whole m) same

pub bad_stays : BadStays
bad_stays bs more e = ap (read_told (bs ++ more)) (reader-msg.bad bs more (told_bad bs (msg_at bs) e))

begins_from : (bs : List ℕ) (m : PlumbMsg) (used : ℕ) → read_of bs ≡ told.Whole m used → Begins bs m used
begins_from bs m used e =
    let r = told_whole bs m used (msg_at bs) e in
    let s = msg_spells bs m r.0 r.1 in
    let len = ap (λ (l : List ℕ). length l) s.parts in
    let is : used ≡ length s.front = omega (arith, len, r.2, length-append s.front r.0) in
    let taken : take used bs ≡ s.front = ap (λ (k : ℕ). take k bs) is
    ∙ ap (λ (l : List ℕ). take (length s.front) l) s.parts ∙ take-append_seam s.front r.0 in
    record {
      inside = omega (arith, is, len, length-append s.front r.0);
      message = subst (λ (l : List ℕ). IsMessage l m)
          (sym taken) s.message;
    }

begins_to : (bs : List ℕ) (m : PlumbMsg) (used : ℕ) → Begins bs m used → msg_at bs ≡ Ok (m, drop used bs)
begins_to bs m used b = ap msg_at (sym (take-append-drop used bs)) ∙ msg_again (take used bs) m (drop used bs) b.message

whole_to : (bs : List ℕ) (m : PlumbMsg) (used : ℕ) → Begins bs m used → read_of bs ≡ told.Whole m used
whole_to bs m used b =
    let inside = b.inside in
    let same : length bs - length (drop used bs) ≡ used = omega (arith, inside, length-drop used bs) in
    ap (read_told bs) (begins_to bs m used b) ∙ ap (told.Whole m) same

pub whole_is_exact : WholeIsExact
whole_is_exact bs m used = (begins_from bs m used, whole_to bs m used)

front_from : (bs : List ℕ) → msg_at bs ≡ Err More → IsProperFront bs
front_from bs e =
    let g = reader-msg.goes_on bs e in
    let s = msg_spells (bs ++ g.more) g.value [] g.reads in
    record {
      more = g.more;
      some = some_more g.more g.value g.reads;
      m = g.value;
      message = subst (λ (l : List ℕ). IsMessage l g.value) (sym (s.parts ∙ append-nil s.front)) s.message;
    }
  where
    some_more : (more : List ℕ) (m : PlumbMsg) → msg_at (bs ++ more) ≡ Ok (m, []) → 0 < length more
    some_more [] m h = absurd (not_both (msg_at bs) m [] More (ap msg_at (sym (append-nil bs)) ∙ h) e)
    some_more (b ∷ more) m h = omega arith

-- bytes that go on to a message aren't bad, and no message ends before it
not_bad : (bs more : List ℕ) (m : PlumbMsg) → IsMessage (bs ++ more) m → msg_at bs ≡ Err Bad → ⊥
not_bad bs more m is e = not_both (msg_at (bs ++ more)) m [] Bad (message_whole (bs ++ more) m is)
    (reader-msg.bad bs more e)

not_whole : (bs more : List ℕ) (m n : PlumbMsg) (rest : List ℕ) → 0 < length more → IsMessage (bs ++ more) m
    → msg_at bs ≡ Ok (n, rest) → ⊥
not_whole bs more m n rest some is e =
    let same : ◌≡◌ {A = PlumbMsg × List ℕ} (m, []) (n, rest ++ more) = read_is (m, []) (n, rest ++ more)
    (sym (message_whole (bs ++ more) m is) ∙ reader-msg.whole bs more n rest e) in
    omega (arith, some, length-append rest more, ap (λ (y : PlumbMsg × List ℕ). length y.1) same)

more_to : (bs : List ℕ) → IsProperFront bs → msg_at bs ≡ Err More
more_to bs f = of (msg_at bs) refl
  where
    of : (r : Read PlumbMsg) → msg_at bs ≡ r → r ≡ Err More
    of (Ok x) e = absurd (not_whole bs f.more f.m x.0 x.1 f.some f.message e)
    of (Err More) e = refl
    of (Err Bad) e = absurd (not_bad bs f.more f.m f.message e)

pub more_is_exact : MoreIsExact
more_is_exact bs = (λ e. front_from bs (told_more bs (msg_at bs) e), λ f. ap (read_told bs) (more_to bs f))

bad_to : (bs : List ℕ) → ((m : PlumbMsg) (used : ℕ) → Begins bs m used → ⊥)
    → ((more : List ℕ) (m : PlumbMsg) → IsMessage (bs ++ more) m → ⊥) → msg_at bs ≡ Err Bad
bad_to bs none never = of (msg_at bs) refl
  where
    of : (r : Read PlumbMsg) → msg_at bs ≡ r → r ≡ Err Bad
    of (Ok x) e = absurd (none x.0 (length bs - length x.1) (begins_from bs x.0 (length bs - length x.1)
        (ap (read_told bs) e)))
    of (Err More) e = let f = front_from bs e in absurd (never f.more f.m f.message)
    of (Err Bad) e = refl

pub bad_is_exact : BadIsExact
bad_is_exact bs = (
  λ e.
      let bad = told_bad bs (msg_at bs) e in (
        λ m used b. not_both (msg_at bs) m (drop used bs) Bad (begins_to bs m used b) bad,
        λ more m is. not_bad bs more m is bad,
      ),
  λ h. ap (read_told bs) (bad_to bs h.0 h.1),
)

-- ---- the code

pub msg_inside : (bs : List ℕ) (m : PlumbMsg) (rest : List ℕ) → msg_at bs ≡ Ok (m, rest) → length rest ≤ length bs
msg_inside bs m rest e = reader-msg.inside bs m rest e

pub written_again : (m : PlumbMsg) (r : Result (List ℕ) NoMemory) → can_spell m ≡ true → IfOk r
    (λ bytes. bytes ≡ msg_text m) → IfOk r (λ bytes. (rest : List ℕ)
    → read_of (bytes ++ rest) ≡ told.Whole m (length bytes))
written_again m (Ok bytes) h e = λ rest. ap (λ (l : List ℕ). read_of (l ++ rest)) e ∙ read_again m rest h
    ∙ ap (λ (l : List ℕ). told.Whole m (length l)) (sym e)
written_again m (Err n) h e = tt

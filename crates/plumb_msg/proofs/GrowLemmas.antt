-- Messages that are begun, and that grow.
use Rattle.std.proofs.Common.{◌≡◌, ℕ, ◌+◌, ◌-◌, ◌<◌, ◌≤◌, Bool, true, false, cond, ◌||◌, ◌&&◌, List, [], ◌∷◌, ◌++◌}
use Rattle.std.proofs.Common.{length, take, drop, Option, Some, None, Result, Ok, Err, refl, ap, sym, subst, ◌∙◌}
use Rattle.std.proofs.Common.{append_assoc, arith, length-append, length-drop}
use Rattle.std.specs.Prelude.{nat_lt, is_some}
use Rattle.std.specs.Str.{IsUtf8, is_utf8}
use Rattle.std.specs.Str.Lossy.{utf8_valid_len}
use Rattle.std.proofs.lemmas.Bool.{false≢true, and_parts, lt-ltb}
use Rattle.std.proofs.lemmas.List.{append-nil, take-append-drop, take_all, drop-append-le, drop-drop}
use Rattle.std.proofs.lemmas.Str.{IsUtf8-append, IsUtf8-from_is_utf8, is_utf8-from_IsUtf8}
use Rattle.std.proofs.Math.Seq.{drop-append_seam}
use Rattle.am_text.specs.Lines.{first_line, after_line}
use Rattle.plumb_msg.specs.Texts.{has_newline, is_text_front}
use Rattle.plumb_msg.specs.Attributes.{scan, start, attrs_of, is_attrs_front}
use Rattle.plumb_msg.specs.Fields.{◌>>=◌, unfinished, line_told, line_at}
use Rattle.plumb_msg.specs.Growing.{behind_line, is_in_line, shows_more, AreWithin, IsBegun}
use Rattle.plumb_msg.specs.Reading.{text_of, text_at, attrs_at, count_of, is_count_front, count_at, bytes_at, body_at}
use Rattle.plumb_msg.specs.Reading.{msg_at, read_told, read_of}
use Rattle.plumb_msg.specs.declared.begun.Begun.{Begun}
use Rattle.plumb_msg.specs.declared.begun.Begun.TheVariants as begun
use Rattle.plumb_msg.specs.declared.message.Attr.{Attr}
use Rattle.plumb_msg.specs.declared.message.PlumbMsg.{PlumbMsg}
use Rattle.plumb_msg.specs.declared.message.PlumbRead.TheVariants as told
use Rattle.plumb_msg.specs.declared.scanning.Scan.{Scan}
use Rattle.plumb_msg.specs.declared.unread.Unread.{Unread}
use Rattle.plumb_msg.specs.declared.unread.Unread.TheVariants.{More, Bad}
use Rattle.plumb_msg.proofs.Counts.{count_kind}
use Rattle.plumb_msg.proofs.LineKinds.{text_kind, attrs_kind}
use Rattle.plumb_msg.proofs.Lines.{newline-split, first-clean, has-append}
use Rattle.plumb_msg.proofs.Readers.{Read, refused, IsLineKind, both, line_again}
use Rattle.plumb_msg.proofs.TextEnds.{front_ends, valid}
use Rattle.plumb_msg.proofs.TextFronts.{front-down}

-- ---- whole characters at the front

pub whole_all : (bs : List ℕ) → is_utf8 bs ≡ true → is_utf8 (take (length bs) bs) ≡ true
whole_all bs h = ap is_utf8 (take_all (length bs) bs (omega arith)) ∙ h

pub whole_valid : (bs : List ℕ) → is_utf8 (take (utf8_valid_len bs) bs) ≡ true
whole_valid bs = is_utf8-from_IsUtf8 (take (utf8_valid_len bs) bs) (valid bs)

pub ruleset wholes = (whole_all, whole_valid)

-- ---- a text in a line, behind whole characters

guard : (t b : Bool) → cond t false b ≡ true → (t ≡ false) × (b ≡ true)
guard true b e = absurd (false≢true e)
guard false b e = (refl, e)

in_line : (bs : List ℕ) → is_in_line bs ≡ true → (has_newline bs ≡ false) × (is_text_front bs ≡ true)
in_line bs = guard (has_newline bs) (is_text_front bs)

or_none : (a b : Bool) → (a || b) ≡ false → a ≡ false
or_none true b e = absurd (false≢true (sym e))
or_none false b e = refl

-- whole characters in front change nothing
behind_whole : (whole rest : List ℕ) → has_newline whole ≡ false → is_utf8 whole ≡ true → is_in_line rest ≡ true →
    is_in_line (whole ++ rest) ≡ true
behind_whole whole rest clean w h =
    let k = in_line rest h in
    let e = front_ends rest k.1 in
    let all : is_utf8 ((whole ++ rest) ++ e.more) ≡ true =
    ap is_utf8 (append_assoc whole rest e.more)
    ∙ is_utf8-from_IsUtf8 (whole ++ (rest ++ e.more)) (IsUtf8-append whole (rest ++ e.more)
    (IsUtf8-from_is_utf8 whole w) (IsUtf8-from_is_utf8 (rest ++ e.more) e.whole)) in
    ap (λ (t : Bool). cond t false (is_text_front (whole ++ rest)))
    (has-append whole rest ∙ ap (λ (t : Bool). t || has_newline rest) clean ∙ k.0)
    ∙ front-down (whole ++ rest) e.more all

-- what is in a line behind a place is so behind an earlier one, with whole characters between
earlier : (text more : List ℕ) (at n : ℕ) → at ≤ length text → n ≤ length (drop at text)
    → is_in_line (drop at text) ≡ true → is_utf8 (take n (drop at text)) ≡ true →
    is_in_line (drop (at + n) (text ++ more)) ≡ true → is_in_line (drop at (text ++ more)) ≡ true
earlier text more at n a b here w h =
    let r = drop at text in
    let parts : take n r ++ drop n r ≡ r = take-append-drop n r in
    let clean : has_newline (take n r) ≡ false = or_none (has_newline (take n r)) (has_newline (drop n r))
    (sym (has-append (take n r) (drop n r)) ∙ ap has_newline parts ∙ (in_line r here).0) in
    let there : drop at (text ++ more) ≡ r ++ more = drop-append-le at text more a in
    let later : drop (at + n) (text ++ more) ≡ drop n r ++ more = sym (drop-drop n at (text ++ more))
    ∙ ap (drop n) there ∙ drop-append-le n r more b in
    ap is_in_line (there ∙ ap (λ (l : List ℕ). l ++ more) (sym parts) ∙ append_assoc (take n r) (drop n r) more)
    ∙ behind_whole (take n r) (drop n r ++ more) clean w (ap is_in_line (sym later) ∙ h)

-- ---- further on

-- what shows itself to be begun is
now : (b : Begun) (text : List ℕ) → IsBegun b text → shows_more b text ≡ true → read_of text ≡ told.More
now b text k h = ap read_of (sym (append-nil text)) ∙ k.more [] (ap (shows_more b) (append-nil text) ∙ h)

pub text_now : (text rest : List ℕ) (at : ℕ) → IsBegun (begun.Text at) text → rest ≡ drop at text
    → is_in_line rest ≡ true → read_of text ≡ told.More
text_now text rest at k e h = now (begun.Text at) text k (ap is_in_line (sym e) ∙ h)

pub text_within : (text : List ℕ) (at : ℕ) → IsBegun (begun.Text at) text → at ≤ length text
text_within text at k = k.within

pub text_further : (text rest : List ℕ) (at n : ℕ) → IsBegun (begun.Text at) text → rest ≡ drop at text
    → is_in_line rest ≡ true → n ≤ length rest → is_utf8 (take n rest) ≡ true → IsBegun (begun.Text (at + n)) text
text_further text rest at n k e h b w =
    let here : is_in_line (drop at text) ≡ true = ap is_in_line (sym e) ∙ h in
    let long : n ≤ length (drop at text) = omega (arith, b, ap (λ (l : List ℕ). length l) e) in
    record {
      within = omega (arith, k.within, long, length-drop at text);
      more = λ more s. k.more more (earlier text more at n k.within long here
          (ap (λ (l : List ℕ). is_utf8 (take n l)) (sym e) ∙ w) s);
    }

pub ruleset texts = (text_now, text_within, text_further)

pub attrs_within : (text : List ℕ) (at from : ℕ) (m : Unit {0}) → IsBegun (begun.Attrs at from m) text
    → (at ≤ length text) × (from ≤ length text)
attrs_within text at from m k = k.within

both_true : (a b : Bool) → a ≡ true → b ≡ true → (a && b) ≡ true
both_true a b e f = ap (λ (t : Bool). t && b) e ∙ f

pub attrs_now : (text rest line : List ℕ) (at from : ℕ) (m : Unit {0}) → IsBegun (begun.Attrs at from m) text
    → rest ≡ drop at text → is_in_line rest ≡ true → line ≡ drop from text
    → is_some (scan start line) ≡ true → read_of text ≡ told.More
attrs_now text rest line at from m k e h f g =
    now (begun.Attrs at from m) text k
    (both_true (is_in_line (drop at text)) (is_some (scan start (drop from text))) (ap is_in_line (sym e) ∙ h)
    (ap (λ (l : List ℕ). is_some (scan start l)) (sym f) ∙ g))

pub attrs_further : (text rest : List ℕ) (at from n : ℕ) (m : Unit {0}) → IsBegun (begun.Attrs at from m) text
    → rest ≡ drop at text → is_in_line rest ≡ true → n ≤ length rest
    → is_utf8 (take n rest) ≡ true → IsBegun (begun.Attrs (at + n) from m) text
attrs_further text rest at from n m k e h b w =
    let here : is_in_line (drop at text) ≡ true = ap is_in_line (sym e) ∙ h in
    let long : n ≤ length (drop at text) = omega (arith, b, ap (λ (l : List ℕ). length l) e) in
    record {
      within = (omega (arith, k.within.0, long, length-drop at text), k.within.1);
      more = λ more s.
          let p = and_parts (is_in_line (drop (at + n) (text ++ more)))
          (is_some (scan start (drop from (text ++ more)))) s in
          k.more more
          (both_true (is_in_line (drop at (text ++ more))) (is_some (scan start (drop from (text ++ more))))
          (earlier text more at n k.within.0 long here (ap (λ (l : List ℕ). is_utf8 (take n l)) (sym e) ∙ w) p.0) p.1);
    }

pub ruleset attrs = (attrs_within, attrs_now, attrs_further)

pub data_within : (text : List ℕ) (at size : ℕ) → IsBegun (begun.Data at size) text → at ≤ length text
data_within text at size k = k.within

pub data_now : (text : List ℕ) (at size : ℕ) → IsBegun (begun.Data at size) text → length text - at < size
    → read_of text ≡ told.More
data_now text at size k h = now (begun.Data at size) text k (lt-ltb (length (drop at text)) size
    (omega (arith, h, length-drop at text)))

pub ruleset datas = (data_within, data_now)

-- ---- texts that grow

within_more : (b : Begun) (text more : List ℕ) → AreWithin b text → AreWithin b (text ++ more)
within_more begun.Unknown text more h = tt
within_more (begun.Text at) text more h = omega (arith, h, length-append text more)
within_more (begun.Attrs at from m) text more h = (
  omega (arith, h.0, length-append text more),
  omega (arith, h.1, length-append text more),
)
within_more (begun.Data at size) text more h = omega (arith, h, length-append text more)

pub begun_more : (b : Begun) (text more : List ℕ) → IsBegun b text → IsBegun b (text ++ more)
begun_more b text more k = record {
  within = within_more b text more k.within;
  more = λ others h. ap read_of (append_assoc text more others) ∙ k.more (more ++ others)
      (ap (shows_more b) (sym (append_assoc text more others)) ∙ h);
}

-- ---- where a message is begun

-- from here on the rest of the text is read by this reader
record Stage (read : List ℕ → Read PlumbMsg) (text rest : List ℕ) : Type 0 where
  front : List ℕ
  parts : text ≡ front ++ rest
  same : (x : List ℕ) → msg_at (front ++ x) ≡ read x

abbrev message : List ℕ → List ℕ → List ℕ → List ℕ → List Attr → List ℕ → PlumbMsg
message src dst wdir sort attrs body = record {
  src = src;
  dst = dst;
  wdir = wdir;
  sort = sort;
  attrs = attrs;
  body =
      body;
}

abbrev after_attrs : List ℕ → List ℕ → List ℕ → List ℕ → List Attr → List ℕ → Read PlumbMsg
after_attrs src dst wdir sort attrs = both body_at (λ body rest. Ok (message src dst wdir sort attrs body, rest))

abbrev after_sort : List ℕ → List ℕ → List ℕ → List ℕ → List ℕ → Read PlumbMsg
after_sort src dst wdir sort = both attrs_at (after_attrs src dst wdir sort)

abbrev after_wdir : List ℕ → List ℕ → List ℕ → List ℕ → Read PlumbMsg
after_wdir src dst wdir = both text_at (after_sort src dst wdir)

abbrev after_dst : List ℕ → List ℕ → List ℕ → Read PlumbMsg
after_dst src dst = both text_at (after_wdir src dst)

abbrev after_src : List ℕ → List ℕ → Read PlumbMsg
after_src src = both text_at (after_dst src)

at_src : (text : List ℕ) → Stage (both text_at after_src) text text
unfolding msg_at
at_src text = record { front = []; parts = refl; same = λ x. refl }

read_more : (bs : List ℕ) (r : Read PlumbMsg) → read_told bs r ≡ told.More → r ≡ Err More
read_more bs (Ok found) e = absurd cc
read_more bs (Err More) e = refl
read_more bs (Err Bad) e = absurd cc

more_of : (bs : List ℕ) → read_of bs ≡ told.More → msg_at bs ≡ Err More
more_of bs = read_more bs (msg_at bs)

is_behind : (bs rest : List ℕ) → Some rest ≡ behind_line bs → (has_newline bs ≡ true) × (after_line bs ≡ rest)
is_behind bs rest = of (has_newline bs)
  where
    of : (t : Bool) → Some rest ≡ cond t (Some (after_line bs)) None → (t ≡ true) × (after_line bs ≡ rest)
    of true e = (refl, some_is (after_line bs) rest (sym e))
      where
        some_is : (a b : List ℕ) → Some a ≡ Some b → a ≡ b
        some_is a b e = cc
    of false e = absurd cc

module _ {A : Type 0} (value_of : List ℕ → Option A) (begun : List ℕ → Bool) (kind : IsLineKind value_of begun)
    (then : A → List ℕ → Read PlumbMsg) where
  abbrev reads : List ℕ → Read A
  reads = line_at value_of begun

  record Next (text rest : List ℕ) : Type 0 where
    value : A
    stage : Stage (then value) text rest

  next : (text rest : List ℕ) (o : Option A) → o ≡ value_of (first_line rest)
      → has_newline rest ≡ true → Stage (both reads then) text rest → msg_at text ≡ Err More
      → Next text (after_line rest)
  next text rest None is h s m =
      let bad : both reads then rest ≡ Err Bad =
      ap (λ (t : Bool). (cond t (line_told (value_of (first_line rest)) (after_line rest))
      (Err (unfinished (begun rest)))) >>= (λ x. then x.0 x.1)) h
      ∙ ap (λ (o : Option A). line_told o (after_line rest) >>= (λ x. then x.0 x.1)) (sym is) in
      absurd (apart (sym bad ∙ sym (s.same rest) ∙ ap msg_at (sym s.parts) ∙ m))
    where
      apart : refused {A = PlumbMsg} Bad ≡ Err More → ⊥
      apart e = cc
  next text rest (Some a) is h s m = record {
    value = a;
    stage = record {
      front = s.front ++ (first_line rest ++ 10 ∷ []);
      parts = s.parts ∙ ap (λ (l : List ℕ). s.front ++ l) (newline-split rest h
          ∙ sym (append_assoc (first_line rest) (10 ∷ []) (after_line rest)))
          ∙ sym (append_assoc s.front (first_line rest ++ 10 ∷ []) (after_line rest));
      same = λ x.
          ap msg_at (append_assoc s.front (first_line rest ++ 10 ∷ []) x
          ∙ ap (λ (l : List ℕ). s.front ++ l) (append_assoc (first_line rest) (10 ∷ []) x))
          ∙ s.same (first_line rest ++ 10 ∷ x)
          ∙ ap (λ (r : Read A). r >>= (λ x. then x.0 x.1)) (line_again value_of begun kind (first_line rest) x a
          (first-clean rest) (sym is));
    };
  }

  -- behind a whole line
  behind : (text rest after : List ℕ) → Some after ≡ behind_line rest → Stage (both reads then) text rest
      → msg_at text ≡ Err More → Next text after
  behind text rest after e s m =
      let k = is_behind rest after e in
      subst (λ (l : List ℕ). Next text l) k.1 (next text rest (value_of (first_line rest)) refl k.0 s m)

-- a text that goes on behind a place
grown : (read : List ℕ → Read PlumbMsg) (text rest more : List ℕ) (s : Stage read text rest)
    → (text ++ more ≡ s.front ++ (rest ++ more)) × (drop (length text - length rest) (text ++ more) ≡ rest ++ more)
grown read text rest more s =
    let same : text ++ more ≡ s.front ++ (rest ++ more) = ap (λ (l : List ℕ). l ++ more) s.parts
    ∙ append_assoc s.front rest more in
    let at : length text - length rest ≡ length s.front = omega (
      arith,
      ap (λ (l : List ℕ). length l) s.parts,
      length-append s.front rest,
    ) in (
      same,
      ap (drop (length text - length rest)) same ∙ ap (λ (n : ℕ). drop n (s.front ++ (rest ++ more))) at
          ∙ drop-append_seam s.front (rest ++ more),
    )

-- where the reader asks for more, a message does
asks : (read : List ℕ → Read PlumbMsg) (text rest more : List ℕ) → Stage read text rest → read (rest ++ more) ≡ Err More
    → read_of (text ++ more) ≡ told.More
asks read text rest more s e = ap (read_told (text ++ more)) (ap msg_at (grown read text rest more s).0
    ∙ s.same (rest ++ more) ∙ e)

-- a line of text that isn't whole
unfinished_line : {A : Type 0} (value_of : List ℕ → Option A) (begun : List ℕ → Bool) (bs : List ℕ)
    → has_newline bs ≡ false → begun bs ≡ true → line_at value_of begun bs ≡ Err More
unfinished_line value_of begun bs clean b =
    ap (λ (t : Bool). cond t (line_told (value_of (first_line bs)) (after_line bs)) (Err (unfinished (begun bs)))) clean
    ∙ ap (λ (t : Bool). Err (unfinished t)) b

in_text : (then : List ℕ → List ℕ → Read PlumbMsg) (text rest : List ℕ) → Stage (both text_at then) text rest
    → IsBegun (begun.Text (length text - length rest)) text
in_text then text rest s = record {
  within = omega arith;
  more = λ more h.
      let k = in_line (rest ++ more) (ap is_in_line (sym (grown (both text_at then) text rest more s).1) ∙ h) in
      asks (both text_at then) text rest more s (ap (λ (r : Read (List ℕ)). r >>= (λ x. then x.0 x.1))
      (unfinished_line text_of is_text_front (rest ++ more) k.0 k.1));
}

in_attrs : (then : List Attr → List ℕ → Read PlumbMsg) (text rest : List ℕ) → Stage (both attrs_at then) text rest
    → IsBegun (begun.Attrs (length text - length rest) (length text - length rest) tt) text
in_attrs then text rest s = record {
  within = (omega arith, omega arith);
  more = λ more h.
      let g = (grown (both attrs_at then) text rest more s).1 in
      let p = and_parts (is_in_line (drop (length text - length rest) (text ++ more)))
      (is_some (scan start (drop (length text - length rest) (text ++ more)))) h in
      let k = in_line (rest ++ more) (ap is_in_line (sym g) ∙ p.0) in
      let begun : is_attrs_front (rest ++ more) ≡ true = ap (λ (t : Bool). cond t (is_some (scan start (rest ++ more)))
      false) k.1 ∙ ap (λ (l : List ℕ). is_some (scan start l)) (sym g) ∙ p.1 in
      asks (both attrs_at then) text rest more s (ap (λ (r : Read (List Attr)). r >>= (λ x. then x.0 x.1))
      (unfinished_line attrs_of is_attrs_front (rest ++ more) k.0 begun));
}

in_data : (then : List ℕ → List ℕ → Read PlumbMsg) (text rest bytes : List ℕ) (n : ℕ) → Some bytes ≡ behind_line rest
    → Some n ≡ count_of (first_line rest) → Stage (both body_at then) text rest
    → IsBegun (begun.Data (length text - length bytes) n) text
in_data then text rest bytes n e c s =
    let b = is_behind rest bytes e in
    let split : rest ≡ first_line rest ++ 10 ∷ bytes = newline-split rest b.0
    ∙ ap (λ (l : List ℕ). first_line rest ++ 10 ∷ l) b.1 in
    let fewer : length bytes ≤ length rest = omega (
      arith,
      ap (λ (l : List ℕ). length l) split,
      length-append (first_line rest) (10 ∷ bytes),
    ) in
    let inside : length rest ≤ length text = omega (
      arith,
      ap (λ (l : List ℕ). length l) s.parts,
      length-append s.front rest,
    ) in
    record {
      within = omega arith;
      more = λ more h.
          let whole : rest ++ more ≡ first_line rest ++ 10 ∷ (bytes ++ more) = ap (λ (l : List ℕ). l ++ more) split
          ∙ append_assoc (first_line rest) (10 ∷ bytes) more in
          let counted : count_at (rest ++ more) ≡ Ok (n, bytes ++ more) = ap count_at whole
          ∙ line_again count_of is_count_front count_kind (first_line rest) (bytes ++ more) n (first-clean rest)
          (sym c) in
          let at : length (drop (length text - length bytes) (text ++ more)) ≡ length (bytes ++ more) =
          omega (
            arith,
            fewer,
            inside,
            length-drop (length text - length bytes) (text ++ more),
            length-append text more,
            length-append bytes more,
          ) in
          let short : nat_lt (length (bytes ++ more)) n ≡ true = ap (λ (k : ℕ). nat_lt k n) (sym at) ∙ h in
          let asked : body_at (rest ++ more) ≡ Err More =
          ap (λ (r : Result (ℕ × List ℕ) Unread). r >>= (λ x. bytes_at x.0 x.1)) counted
          ∙ ap (λ (t : Bool). cond t (Err More) (Ok (take n (bytes ++ more), drop n (bytes ++ more)))) short in
          asks (both body_at then) text rest more s (ap (λ (r : Read (List ℕ)). r >>= (λ x. then x.0 x.1)) asked);
    }

-- ---- a message that was read, and asks for more

pub start_unknown : (text : List ℕ) → IsBegun begun.Unknown text
start_unknown text = record { within = tt; more = λ more h. absurd (false≢true h) }

pub start_src : (text : List ℕ) → IsBegun (begun.Text 0) text
start_src text = subst (λ (n : ℕ). IsBegun (begun.Text n) text) (omega arith)
    (in_text after_src text text (at_src text))

record AtDst (text rest : List ℕ) : Type 0 where
  src : List ℕ
  stage : Stage (after_src src) text rest

record AtWdir (text rest : List ℕ) : Type 0 where
  src : List ℕ
  dst : List ℕ
  stage : Stage (after_dst src dst) text rest

record AtSort (text rest : List ℕ) : Type 0 where
  src : List ℕ
  dst : List ℕ
  wdir : List ℕ
  stage : Stage (after_wdir src dst wdir) text rest

record AtAttrs (text rest : List ℕ) : Type 0 where
  src : List ℕ
  dst : List ℕ
  wdir : List ℕ
  sort : List ℕ
  stage : Stage (after_sort src dst wdir sort) text rest

record AtBody (text rest : List ℕ) : Type 0 where
  src : List ℕ
  dst : List ℕ
  wdir : List ℕ
  sort : List ℕ
  attrs : List Attr
  stage : Stage (after_attrs src dst wdir sort attrs) text rest

module _ (text : List ℕ) (asked : read_of text ≡ told.More) where
  m : msg_at text ≡ Err More
  m = more_of text asked

  at_dst : (dst : List ℕ) → Some dst ≡ behind_line text → AtDst text dst
  at_dst dst e = let n = behind text_of is_text_front text_kind after_src text text dst e (at_src text) m in
      record { src = n.value; stage = n.stage }

  at_wdir : (dst wdir : List ℕ) → Some dst ≡ behind_line text → Some wdir ≡ behind_line dst → AtWdir text wdir
  at_wdir dst wdir e f =
      let a = at_dst dst e in
      let n = behind text_of is_text_front text_kind (after_dst a.src) text dst wdir f a.stage m in
      record { src = a.src; dst = n.value; stage = n.stage }

  at_sort : (dst wdir sort : List ℕ) → Some dst ≡ behind_line text → Some wdir ≡ behind_line dst
      → Some sort ≡ behind_line wdir → AtSort text sort
  at_sort dst wdir sort e f g =
      let a = at_wdir dst wdir e f in
      let n = behind text_of is_text_front text_kind (after_wdir a.src a.dst) text wdir sort g a.stage m in
      record { src = a.src; dst = a.dst; wdir = n.value; stage = n.stage }

  at_attrs : (dst wdir sort attrs : List ℕ) → Some dst ≡ behind_line text → Some wdir ≡ behind_line dst
      → Some sort ≡ behind_line wdir → Some attrs ≡ behind_line sort → AtAttrs text attrs
  at_attrs dst wdir sort attrs e f g h =
      let a = at_sort dst wdir sort e f g in
      let n = behind text_of is_text_front text_kind (after_sort a.src a.dst a.wdir) text sort attrs h a.stage m in
      record { src = a.src; dst = a.dst; wdir = a.wdir; sort = n.value; stage = n.stage }

  at_body : (dst wdir sort attrs body : List ℕ) → Some dst ≡ behind_line text → Some wdir ≡ behind_line dst
      → Some sort ≡ behind_line wdir → Some attrs ≡ behind_line sort → Some body ≡ behind_line attrs → AtBody text body
  at_body dst wdir sort attrs body e f g h i =
      let a = at_attrs dst wdir sort attrs e f g h in
      let n = behind attrs_of is_attrs_front attrs_kind (after_attrs a.src a.dst a.wdir a.sort) text attrs body i
      a.stage m in
      record { src = a.src; dst = a.dst; wdir = a.wdir; sort = a.sort; attrs = n.value; stage = n.stage }

  pub start_dst : (dst : List ℕ) → Some dst ≡ behind_line text → IsBegun (begun.Text (length text - length dst)) text
  start_dst dst e = let a = at_dst dst e in in_text (after_dst a.src) text dst a.stage

  pub start_wdir : (dst wdir : List ℕ) → Some dst ≡ behind_line text → Some wdir ≡ behind_line dst
      → IsBegun (begun.Text (length text - length wdir)) text
  start_wdir dst wdir e f = let a = at_wdir dst wdir e f in in_text (after_wdir a.src a.dst) text wdir a.stage

  pub start_sort : (dst wdir sort : List ℕ) → Some dst ≡ behind_line text → Some wdir ≡ behind_line dst
      → Some sort ≡ behind_line wdir → IsBegun (begun.Text (length text - length sort)) text
  start_sort dst wdir sort e f g = let a = at_sort dst wdir sort e f g in
      in_text (after_sort a.src a.dst a.wdir) text sort a.stage

  pub start_attrs : (dst wdir sort attrs : List ℕ) → Some dst ≡ behind_line text → Some wdir ≡ behind_line dst
      → Some sort ≡ behind_line wdir → Some attrs ≡ behind_line sort
      → IsBegun (begun.Attrs (length text - length attrs) (length text - length attrs) tt) text
  start_attrs dst wdir sort attrs e f g h = let a = at_attrs dst wdir sort attrs e f g h in
      in_attrs (after_attrs a.src a.dst a.wdir a.sort) text attrs a.stage

  pub start_data : (dst wdir sort attrs body bytes : List ℕ) (n : ℕ) → Some dst ≡ behind_line text
      → Some wdir ≡ behind_line dst → Some sort ≡ behind_line wdir → Some attrs ≡ behind_line sort
      → Some body ≡ behind_line attrs → Some bytes ≡ behind_line body → Some n ≡ count_of (first_line body)
      → IsBegun (begun.Data (length text - length bytes) n) text
  start_data dst wdir sort attrs body bytes n e f g h i j c =
      let a = at_body dst wdir sort attrs body e f g h i in
      in_data (λ text rest. Ok (message a.src a.dst a.wdir a.sort a.attrs text, rest)) text body bytes n j c a.stage

pub ruleset starts = (start_unknown, start_src, start_dst, start_wdir, start_sort, start_attrs, start_data)

-- Readers whose answers stay as bytes are added, and that can always go on.
use Rattle.std.proofs.Common.{◌≡◌, ℕ, ◌-◌, ◌<◌, ◌≤◌, Bool, true, false, cond, ◌||◌, List, [], ◌∷◌, ◌++◌, length, take}
use Rattle.std.proofs.Common.{drop, Option, Some, None, Result, Ok, Err, refl, ap, sym, subst, ◌∙◌, append_assoc, arith}
use Rattle.std.proofs.Common.{length-append, length-drop}
use Rattle.std.specs.Prelude.{nat_lt, replicate}
use Rattle.std.proofs.lemmas.Bool.{false≢true, ltb-false, ltb-true, le-ltb}
use Rattle.std.proofs.lemmas.List.{nil_from_length, take-append-le, drop-append-le, take_all, drop_all}
use Rattle.std.proofs.lemmas.List.{length-replicate}
use Rattle.am_text.specs.Lines.{first_line, after_line}
use Rattle.plumb_msg.specs.Texts.{has_newline}
use Rattle.plumb_msg.specs.Fields.{◌>>=◌, unfinished, line_told, line_at}
use Rattle.plumb_msg.specs.Reading.{bytes_at}
use Rattle.plumb_msg.specs.declared.unread.Unread.{Unread}
use Rattle.plumb_msg.specs.declared.unread.Unread.TheVariants.{More, Bad}
use Rattle.plumb_msg.proofs.Lines.{newline-split, first-clean, first-append, after-append, after-le, has-append}
use Rattle.plumb_msg.proofs.Lines.{first-joined, has-is, first-is, after-is}

abbrev pub Read : Type 0 → Type 0
Read A = Result (A × List ℕ) Unread

abbrev pub read_as : {A : Type 0} → A → List ℕ → Read A
read_as a rest = Ok (a, rest)

abbrev pub refused : {A : Type 0} → Unread → Read A
refused e = Err e

-- how a reader goes on to a value, with no bytes left
pub record GoesOn {A : Type 0} (read : List ℕ → Read A) (bs : List ℕ) : Type 0 where
  pub more : List ℕ
  pub value : A
  pub reads : read (bs ++ more) ≡ Ok (value, [])

pub record IsReader {A : Type 0} (read : List ℕ → Read A) : Type 0 where
  pub whole : (bs more : List ℕ) (a : A) (rest : List ℕ) → read bs ≡ Ok (a, rest)
      → read (bs ++ more) ≡ Ok (a, rest ++ more)
  pub bad : (bs more : List ℕ) → read bs ≡ Err Bad → read (bs ++ more) ≡ Err Bad
  pub inside : (bs : List ℕ) (a : A) (rest : List ℕ) → read bs ≡ Ok (a, rest) → length rest ≤ length bs
  pub not_bad : read [] ≡ Err Bad → ⊥
  pub goes_on : (bs : List ℕ) → read bs ≡ Err More → GoesOn read bs

pub read_is : {A : Type 0} (x y : A × List ℕ) → read_as x.0 x.1 ≡ read_as y.0 y.1 → x ≡ y
read_is x y e = ok_is x y e
  where
    done : {X : Type 0} → X → Result X Unread
    done x = Ok x

    ok_is : {X : Type 0} (x y : X) → done x ≡ done y → x ≡ y
    ok_is x y e = cc

-- ---- no bytes are read

pub reader-done : {A : Type 0} (a : A) → IsReader (λ bs. read_as a bs)
reader-done {A} a = record {
  whole = λ bs more b rest e. let same = read_is (a, bs) (b, rest) e in
      ap (λ (x : A × List ℕ). read_as x.0 (x.1 ++ more)) same;
  bad = λ bs more e. absurd cc;
  inside = λ bs b rest e. let same = read_is (a, bs) (b, rest) e in
      let len : length bs ≡ length rest = ap (λ (x : A × List ℕ). length x.1) same in omega (arith, len);
  not_bad = λ e. absurd cc;
  goes_on = λ bs e. absurd cc;
}

-- ---- one reader after another

module _ {A B : Type 0} (first : List ℕ → Read A) (then : A → List ℕ → Read B) where
  abbrev pub both : List ℕ → Read B
  both bs = first bs >>= λ x. then x.0 x.1

  after : Read A → Read B
  after r = r >>= λ x. then x.0 x.1

  module _ (p : IsReader first) (q : (a : A) → IsReader (then a)) where
    both-whole : (bs more : List ℕ) (b : B) (rest : List ℕ) → both bs ≡ Ok (b, rest)
        → both (bs ++ more) ≡ Ok (b, rest ++ more)
    both-whole bs more b rest =
        elim (first bs) as (λ r. first bs ≡ r → (r >>= λ x. then x.0 x.1) ≡ Ok (b, rest)
        → both (bs ++ more) ≡ Ok (b, rest ++ more)) [
          | Ok x ↦ λ is e. ap (λ (r : Read A). r >>= λ x. then x.0 x.1) (p.whole bs more x.0 x.1 is)
              ∙ (q x.0).whole x.1 more b rest e
          | Err u ↦ λ is e. absurd cc
        ] refl

    both-bad : (bs more : List ℕ) → both bs ≡ Err Bad → both (bs ++ more) ≡ Err Bad
    both-bad bs more =
        elim (first bs) as (λ r. first bs ≡ r → (r >>= λ x. then x.0 x.1) ≡ Err Bad → both (bs ++ more) ≡ Err Bad) [
          | Ok x ↦ λ is e. ap (λ (r : Read A). r >>= λ x. then x.0 x.1) (p.whole bs more x.0 x.1 is)
              ∙ (q x.0).bad x.1 more e
          | Err u ↦ λ is e. let u-is : refused {A = A} u ≡ Err Bad = ap refused (unread_is u e) in
              ap (λ (r : Read A). r >>= λ x. then x.0 x.1) (p.bad bs more (is ∙ u-is))
        ] refl
      where
        unread_is : (u : Unread) → refused {A = B} u ≡ Err Bad → u ≡ Bad
        unread_is u e = cc

    both-inside : (bs : List ℕ) (b : B) (rest : List ℕ) → both bs ≡ Ok (b, rest) → length rest ≤ length bs
    both-inside bs b rest =
        elim (first bs) as (λ r. first bs ≡ r → (r >>= λ x. then x.0 x.1) ≡ Ok (b, rest) → length rest ≤ length bs) [
          | Ok x ↦ λ is e. omega (arith, p.inside bs x.0 x.1 is, (q x.0).inside x.1 b rest e)
          | Err u ↦ λ is e. absurd cc
        ] refl

    both-not_bad : both [] ≡ Err Bad → ⊥
    both-not_bad =
        elim (first []) as (λ r. first [] ≡ r → (r >>= λ x. then x.0 x.1) ≡ Err Bad → ⊥) [
          | Ok x ↦ λ is e. (q x.0).not_bad (subst (λ (l : List ℕ). then x.0 l ≡ Err Bad)
              (nil_from_length x.1 (omega (arith, p.inside [] x.0 x.1 is))) e)
          | Err u ↦ λ is e. p.not_bad (is ∙ ap refused (unread_is u e))
        ] refl
      where
        unread_is : (u : Unread) → refused {A = B} u ≡ Err Bad → u ≡ Bad
        unread_is u e = cc

    -- after a first part that is whole, with no bytes left
    from_first : (bs more : List ℕ) (a : A) → first (bs ++ more) ≡ Ok (a, []) → GoesOn both bs
    from_first bs more a is =
        elim (then a []) as (λ r. then a [] ≡ r → GoesOn both bs) [
          | Ok y ↦ λ e.
              let nothing : y.1 ≡ [] = nil_from_length y.1 (omega (arith, (q a).inside [] y.0 y.1 e)) in
              record {
                more = more;
                value = y.0;
                reads = ap (λ (r : Read A). r >>= λ x. then x.0 x.1) is
                    ∙ e ∙ ap (read_as y.0) nothing;
              }
          | Err u ↦ λ e. later u e
        ] refl
      where
        later : (u : Unread) → then a [] ≡ Err u → GoesOn both bs
        later More e =
            let g = (q a).goes_on [] e in
            record {
              more = more ++ g.more;
              value = g.value;
              reads =
                  ap both (sym (append_assoc bs more g.more))
                  ∙ ap (λ (r : Read A). r >>= λ x. then x.0 x.1) (p.whole (bs ++ more) g.more a [] is)
                  ∙ g.reads;
            }
        later Bad e = absurd ((q a).not_bad e)

    both-goes_on : (bs : List ℕ) → both bs ≡ Err More → GoesOn both bs
    both-goes_on bs =
        elim (first bs) as (λ r. first bs ≡ r → (r >>= λ x. then x.0 x.1) ≡ Err More → GoesOn both bs) [
          | Ok x ↦ λ is e.
              let g = (q x.0).goes_on x.1 e in
              record {
                more = g.more;
                value = g.value;
                reads = ap (λ (r : Read A). r >>= λ x. then x.0 x.1)
                    (p.whole bs g.more x.0 x.1 is) ∙ g.reads;
              }
          | Err u ↦ λ is e.
              let g = p.goes_on bs (is ∙ ap refused (unread_is u e)) in
              from_first bs g.more g.value g.reads
        ] refl
      where
        unread_is : (u : Unread) → refused {A = B} u ≡ Err More → u ≡ More
        unread_is u e = cc

    pub reader-both : IsReader both
    reader-both = record {
      whole = both-whole;
      bad = both-bad;
      inside = both-inside;
      not_bad = both-not_bad;
      goes_on =
          both-goes_on;
    }

-- ---- so many bytes

module _ (n : ℕ) where
  bytes-whole : (bs more : List ℕ) (a rest : List ℕ) → bytes_at n bs ≡ Ok (a, rest)
      → bytes_at n (bs ++ more) ≡ Ok (a, rest ++ more)
  bytes-whole bs more a rest =
      elim (nat_lt (length bs) n) as (λ t. nat_lt (length bs) n ≡ t → cond t (refused More)
      (read_as (take n bs) (drop n bs)) ≡ Ok (a, rest) → bytes_at n (bs ++ more) ≡ Ok (a, rest ++ more)) [
        | true ↦ λ t e. absurd cc
        | false ↦ λ t e.
            let long : n ≤ length bs = ltb-false (length bs) n t in
            let same = read_is (take n bs, drop n bs) (a, rest) e in
            rw (
              le-ltb (length (bs ++ more)) n (omega (arith, length-append bs more)),
              take-append-le n bs more long,
              drop-append-le n bs more long,
            )
            (ap (λ (x : List ℕ × List ℕ). read_as x.0 (x.1 ++ more)) same)
      ] refl

  bytes-bad : (bs : List ℕ) → bytes_at n bs ≡ Err Bad → ⊥
  bytes-bad bs =
      elim (nat_lt (length bs) n) as (λ t. cond t (refused More) (read_as (take n bs) (drop n bs)) ≡ Err Bad → ⊥) [
        | true ↦ λ e. apart e
        | false ↦ λ e. absurd cc
      ]
    where
      apart : refused {A = List ℕ} More ≡ Err Bad → ⊥
      apart e = cc

  bytes-inside : (bs a rest : List ℕ) → bytes_at n bs ≡ Ok (a, rest) → length rest ≤ length bs
  bytes-inside bs a rest =
      elim (nat_lt (length bs) n) as (λ t. cond t (refused More) (read_as (take n bs) (drop n bs)) ≡ Ok (a, rest)
      → length rest ≤ length bs) [
        | true ↦ λ e. absurd cc
        | false ↦ λ e.
            let same = read_is (take n bs, drop n bs) (a, rest) e in
            let len : length (drop n bs) ≡ length rest = ap (λ (x : List ℕ × List ℕ). length x.1) same in
            omega (arith, len, length-drop n bs)
      ]

  bytes-goes_on : (bs : List ℕ) → bytes_at n bs ≡ Err More → GoesOn (bytes_at n) bs
  bytes-goes_on bs =
      elim (nat_lt (length bs) n) as (λ t. nat_lt (length bs) n ≡ t → cond t (refused More)
      (read_as (take n bs) (drop n bs)) ≡ Err More → GoesOn (bytes_at n) bs) [
        | true ↦ λ t e.
            let short : length bs < n = ltb-true (length bs) n t in
            let more = replicate (n - length bs) 0 in
            let len : length (bs ++ more) ≡ n = omega (
              arith,
              length-append bs more,
              length-replicate {A = ℕ} (n - length bs) 0,
            ) in
            record {
              more = more;
              value = bs ++ more;
              reads = rw (
                le-ltb (length (bs ++ more)) n (omega (arith, len)),
                take_all n (bs ++ more) (omega (arith, len)),
                drop_all n (bs ++ more) (omega (arith, len)),
              ) refl;
            }
        | false ↦ λ t e. absurd cc
      ] refl

  pub reader-bytes : IsReader (bytes_at n)
  reader-bytes = record {
    whole = bytes-whole;
    bad = λ bs more e. absurd (bytes-bad bs e);
    inside = bytes-inside;
    not_bad = bytes-bad [];
    goes_on = bytes-goes_on;
  }

-- ---- a line

-- more bytes without a newline that make the bytes a whole line
pub record Completes {A : Type 0} (value_of : List ℕ → Option A) (bs : List ℕ) : Type 0 where
  pub more : List ℕ
  pub clean : has_newline more ≡ false
  pub value : A
  pub reads : value_of (bs ++ more) ≡ Some value

pub record IsLineKind {A : Type 0} (value_of : List ℕ → Option A) (begun : List ℕ → Bool) : Type 0 where
  pub down : (bs more : List ℕ) (a : A) → value_of (bs ++ more) ≡ Some a → begun bs ≡ true
  pub up : (bs : List ℕ) → has_newline bs ≡ false → begun bs ≡ true → Completes value_of bs
  pub empty : begun [] ≡ true

module _ {A : Type 0} (value_of : List ℕ → Option A) (begun : List ℕ → Bool) (kind : IsLineKind value_of begun) where
  abbrev pub reads : List ℕ → Read A
  reads = line_at value_of begun

  abbrev pub told_by : Bool → List ℕ → Read A
  told_by t bs = cond t (line_told (value_of (first_line bs)) (after_line bs)) (Err (unfinished (begun bs)))

  -- a line that is told stays so
  told_more : (o : Option A) (rest more : List ℕ) (a : A) (left : List ℕ) → line_told o rest ≡ Ok (a, left)
      → line_told o (rest ++ more) ≡ Ok (a, left ++ more)
  told_more None rest more a left = λ e. absurd cc
  told_more (Some b) rest more a left = λ e. ap (λ (x : A × List ℕ). read_as x.0 (x.1 ++ more))
      (read_is (b, rest) (a, left) e)

  told_bad : (o : Option A) (rest more : List ℕ) → line_told o rest ≡ Err Bad → line_told o (rest ++ more) ≡ Err Bad
  told_bad None rest more = λ e. refl
  told_bad (Some b) rest more = λ e. absurd cc

  told_none : (o : Option A) (rest : List ℕ) → ((a : A) → o ≡ Some a → ⊥) → line_told o rest ≡ Err Bad
  told_none None rest h = refl
  told_none (Some b) rest h = absurd (h b refl)

  told_rest : (o : Option A) (rest : List ℕ) (a : A) (left : List ℕ) → line_told o rest ≡ Ok (a, left) → rest ≡ left
  told_rest None rest a left = λ e. absurd cc
  told_rest (Some b) rest a left = λ e. ap (λ (x : A × List ℕ). x.1) (read_is (b, rest) (a, left) e)

  told_not_more : (o : Option A) (rest : List ℕ) → line_told o rest ≡ Err More → ⊥
  told_not_more None rest = λ e. apart e
    where
      apart : refused {A = A} Bad ≡ Err More → ⊥
      apart e = cc
  told_not_more (Some b) rest = λ e. absurd cc

  unfinished_bad : (b : Bool) → refused {A = A} (unfinished b) ≡ Err Bad → b ≡ false
  unfinished_bad true e = absurd (apart e)
    where
      apart : refused {A = A} More ≡ Err Bad → ⊥
      apart e = cc
  unfinished_bad false e = refl

  unfinished_more : (b : Bool) → refused {A = A} (unfinished b) ≡ Err More → b ≡ true
  unfinished_more true e = refl
  unfinished_more false e = absurd (apart e)
    where
      apart : refused {A = A} Bad ≡ Err More → ⊥
      apart e = cc

  -- the answer at a newline, and without one
  at_newline : (bs : List ℕ) → has_newline bs ≡ true → reads bs ≡ line_told (value_of (first_line bs)) (after_line bs)
  at_newline bs h = ap (λ (t : Bool). told_by t bs) h

  without : (bs : List ℕ) → has_newline bs ≡ false → reads bs ≡ Err (unfinished (begun bs))
  without bs h = ap (λ (t : Bool). told_by t bs) h

  more_newline : (bs more : List ℕ) → has_newline bs ≡ true → reads (bs ++ more) ≡ line_told (value_of (first_line bs))
      (after_line bs ++ more)
  more_newline bs more h =
      at_newline (bs ++ more) (has-append bs more ∙ ap (λ (t : Bool). t || has_newline more) h)
      ∙ ap (λ (l : List ℕ). line_told (value_of l) (after_line (bs ++ more))) (first-append bs more h)
      ∙ ap (line_told (value_of (first_line bs))) (after-append bs more h)

  line-whole : (bs more : List ℕ) (a : A) (rest : List ℕ) → reads bs ≡ Ok (a, rest)
      → reads (bs ++ more) ≡ Ok (a, rest ++ more)
  line-whole bs more a rest =
      elim (has_newline bs) as (λ t. has_newline bs ≡ t → told_by t bs ≡ Ok (a, rest)
      → reads (bs ++ more) ≡ Ok (a, rest ++ more)) [
        | true ↦ λ t e. more_newline bs more t ∙ told_more (value_of (first_line bs)) (after_line bs) more a rest e
        | false ↦ λ t e. absurd cc
      ] refl

  -- a front that begins no line begins none with more bytes
  stays_bad : (bs more : List ℕ) → has_newline bs ≡ false → begun bs ≡ false → reads (bs ++ more) ≡ Err Bad
  stays_bad bs more clean none =
      elim (has_newline more) as (λ t. has_newline more ≡ t → reads (bs ++ more) ≡ Err Bad) [
        | true ↦ λ t.
            at_newline (bs ++ more) (has-append bs more ∙ ap (λ (u : Bool). u || has_newline more) clean ∙ t)
            ∙ ap (λ (l : List ℕ). line_told (value_of l) (after_line (bs ++ more))) (first-joined bs more clean)
            ∙ told_none (value_of (bs ++ first_line more)) (after_line (bs ++ more))
            (λ a e. false≢true (sym none ∙ kind.down bs (first_line more) a e))
        | false ↦ λ t.
            let whole_clean : has_newline (bs ++ more) ≡ false = has-append bs more
            ∙ ap (λ (u : Bool). u || has_newline more) clean ∙ t in
            without (bs ++ more) whole_clean ∙ ap (λ (b : Bool). refused (unfinished b)) (not_begun whole_clean)
      ] refl
    where
      not_begun : has_newline (bs ++ more) ≡ false → begun (bs ++ more) ≡ false
      not_begun clean_all =
          elim (begun (bs ++ more)) as (λ t. begun (bs ++ more) ≡ t → t ≡ false) [
            | true ↦ λ t.
                let c = kind.up (bs ++ more) clean_all t in
                absurd (false≢true (sym none ∙ kind.down bs (more ++ c.more) c.value
                (ap value_of (sym (append_assoc bs more c.more)) ∙ c.reads)))
            | false ↦ λ t. refl
          ] refl

  line-bad : (bs more : List ℕ) → reads bs ≡ Err Bad → reads (bs ++ more) ≡ Err Bad
  line-bad bs more =
      elim (has_newline bs) as (λ t. has_newline bs ≡ t → told_by t bs ≡ Err Bad → reads (bs ++ more) ≡ Err Bad) [
        | true ↦ λ t e. more_newline bs more t ∙ told_bad (value_of (first_line bs)) (after_line bs) more e
        | false ↦ λ t e. stays_bad bs more t (unfinished_bad (begun bs) e)
      ] refl

  line-inside : (bs : List ℕ) (a : A) (rest : List ℕ) → reads bs ≡ Ok (a, rest) → length rest ≤ length bs
  line-inside bs a rest =
      elim (has_newline bs) as (λ t. told_by t bs ≡ Ok (a, rest) → length rest ≤ length bs) [
        | true ↦ λ e. omega (
          arith,
          after-le bs,
          ap (λ (l : List ℕ). length l)
              (told_rest (value_of (first_line bs)) (after_line bs) a rest e),
        )
        | false ↦ λ e. absurd cc
      ]

  line-not_bad : reads [] ≡ Err Bad → ⊥
  line-not_bad e = false≢true (sym (unfinished_bad (begun []) e) ∙ kind.empty)

  -- a whole line
  pub line_again : (text rest : List ℕ) (a : A) → has_newline text ≡ false → value_of text ≡ Some a
      → reads (text ++ 10 ∷ rest) ≡ Ok (a, rest)
  line_again text rest a clean is =
      at_newline (text ++ 10 ∷ rest) (has-is text rest)
      ∙ ap (λ (l : List ℕ). line_told (value_of l) (after_line (text ++ 10 ∷ rest))) (first-is text rest clean)
      ∙ ap (line_told (value_of text)) (after-is text rest clean)
      ∙ ap (λ (o : Option A). line_told o rest) is

  line-goes_on : (bs : List ℕ) → reads bs ≡ Err More → GoesOn reads bs
  line-goes_on bs =
      elim (has_newline bs) as (λ t. has_newline bs ≡ t → told_by t bs ≡ Err More → GoesOn reads bs) [
        | true ↦ λ t e. absurd (told_not_more (value_of (first_line bs)) (after_line bs) e)
        | false ↦ λ t e.
            let c = kind.up bs t (unfinished_more (begun bs) e) in
            let clean : has_newline (bs ++ c.more) ≡ false = has-append bs c.more
            ∙ ap (λ (u : Bool). u || has_newline c.more) t ∙ c.clean in
            record {
              more = c.more ++ 10 ∷ [];
              value = c.value;
              reads = ap reads (sym (append_assoc bs c.more (10 ∷ [])))
                  ∙ line_again (bs ++ c.more) [] c.value clean c.reads;
            }
      ] refl

  pub reader-line : IsReader reads
  reader-line = record {
    whole = line-whole;
    bad = line-bad;
    inside = line-inside;
    not_bad = line-not_bad;
    goes_on =
        line-goes_on;
  }

  -- what is told of a whole line
  pub record IsLine (bs : List ℕ) (a : A) (rest : List ℕ) : Type 0 where
    pub text : List ℕ
    pub clean : has_newline text ≡ false
    pub value : value_of text ≡ Some a
    pub parts : bs ≡ text ++ 10 ∷ rest

  line_told_is : (o : Option A) (left : List ℕ) (a : A) (rest : List ℕ) → line_told o left ≡ Ok (a, rest) → (o ≡ Some a)
      × (left ≡ rest)
  line_told_is None left a rest = λ e. absurd cc
  line_told_is (Some b) left a rest = λ e. let same = read_is (b, left) (a, rest) e in
      (ap (λ (x : A × List ℕ). Some x.0) same, ap (λ (x : A × List ℕ). x.1) same)

  pub line_is : (bs : List ℕ) (a : A) (rest : List ℕ) → reads bs ≡ Ok (a, rest) → IsLine bs a rest
  line_is bs a rest =
      elim (has_newline bs) as (λ t. has_newline bs ≡ t → told_by t bs ≡ Ok (a, rest) → IsLine bs a rest) [
        | true ↦ λ t e.
            let told = line_told_is (value_of (first_line bs)) (after_line bs) a rest e in
            record {
              text = first_line bs;
              clean = first-clean bs;
              value = told.0;
              parts = newline-split bs t
                  ∙ ap (λ (l : List ℕ). first_line bs ++ 10 ∷ l) told.1;
            }
        | false ↦ λ t e. absurd cc
      ] refl

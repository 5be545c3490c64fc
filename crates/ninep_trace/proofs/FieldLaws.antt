-- The laws of the kinds of fields: what is read is spelled so, and what is spelled so is read.
use Rattle.std.proofs.Common.{◌≡◌, ℕ, ◌+◌, ◌%◌, ◌^◌, ◌<◌, Bool, true, false, cond, ◌&&◌, eqb, ltb, eq-eqb, List, []}
use Rattle.std.proofs.Common.{◌∷◌, ◌++◌, length, Option, Some, None, refl, sym, ap, subst, ◌∙◌, append_assoc, arith}
use Rattle.std.specs.Char.{is_ascii_digit}
use Rattle.std.specs.Fmt.{decimal}
use Rattle.std.specs.List.{flat_map}
use Rattle.std.proofs.lemmas.Fmt.{decimal_by_steps}
use Rattle.std.proofs.lemmas.Bool.{eqb-true, ltb-true, lt-ltb, le-leb}
use Rattle.std.proofs.lemmas.List.{append-nil}
use Rattle.am_text.specs.Number.{number_of}
use Rattle.am_text.proofs.Decimals.{number_is, number_of-decimal}
use Rattle.ninep_types.specs.Fields.{is_text}
use Rattle.ninep_types.specs.Spelling.{IsString}
use Rattle.am_journal.specs.Hexadecimal.{hex_of, bytes_of_hex}
use Rattle.am_journal.specs.Lawful.{AreBytes}
use Rattle.am_text.specs.Front.{after_front}
use Rattle.am_journal.proofs.FieldWords.{front-is}
use Rattle.am_journal.proofs.HexLaws.{hex-again, hex-is}
use Rattle.ninep_trace.specs.Fields.{◌>>=◌, digits, after_digits, value_at, below, small_at, number, number_at, marked}
use Rattle.ninep_trace.specs.Fields.{quoted, unquoted_after, is_string, if_string, quoted_at, text, text_at}
use Rattle.ninep_trace.specs.Fields.{bytes_in_hex, fewer, bytes_in_hex_at}

-- ---- steps of reading

pub some_is : {A : Type 0} (x y : A) → Some x ≡ Some y → x ≡ y
some_is x y e = cc

pub bind_some : {A B : Type 0} (r : Option A) (f : A → Option B) (y : B) → r >>= f ≡ Some y → (x : A) × (r ≡ Some x)
    × (f x ≡ Some y)
bind_some None f y e = absurd cc
bind_some (Some x) f y e = (x, refl, e)

pub guard_some : {A : Type 0} (b : Bool) (r : Option A) (x : A) → cond b r None ≡ Some x → (b ≡ true) × (r ≡ Some x)
guard_some true r x e = (refl, e)
guard_some false r x e = absurd cc

pub both : (a b : Bool) → (a && b) ≡ true → (a ≡ true) × (b ≡ true)
both true b e = (refl, e)
both false b e = absurd cc

-- what a reader took from the front
abbrev pub Takes : List ℕ → List ℕ → List ℕ → Type 0
Takes bytes words rest = bytes ≡ words ++ rest

pub takes_then : (bytes a middle b rest : List ℕ) → Takes bytes a middle → Takes middle b rest
    → Takes bytes (a ++ b) rest
takes_then bytes a middle b rest t u = t ∙ ap (λ (l : List ℕ). a ++ l) u ∙ sym (append_assoc a b rest)

pub front_again : (front rest : List ℕ) → after_front front (front ++ rest) ≡ Some rest
front_again [] rest = refl
front_again (f ∷ fs) rest = rw (eq-eqb f f refl) (front_again fs rest)

-- ---- what stands behind a number

-- no digit comes next
abbrev pub IsEnd : List ℕ → Type 0
IsEnd [] = Unit {0}
IsEnd (b ∷ bs) = is_ascii_digit b ≡ false

-- a byte comes next, and it is no digit
abbrev pub Stops : List ℕ → Type 0
Stops [] = ⊥
Stops (b ∷ bs) = is_ascii_digit b ≡ false

pub stops_then : (a b : List ℕ) → Stops a → Stops (a ++ b)
stops_then [] b h = absurd h
stops_then (x ∷ a) b h = h

pub stops_end : (a : List ℕ) → Stops a → IsEnd a
stops_end [] h = absurd h
stops_end (x ∷ a) h = h

-- ---- numbers

digits_split : (bs : List ℕ) → bs ≡ digits bs ++ after_digits bs
digits_split [] = refl
digits_split (b ∷ bs) =
    elim (is_ascii_digit b) as (λ t. b ∷ bs ≡ cond t (b ∷ digits bs) [] ++ cond t (after_digits bs) (b ∷ bs)) [
      | true ↦ ap (λ (l : List ℕ). b ∷ l) (digits_split bs)
      | false ↦ refl
    ]

abbrev AreDigits : List ℕ → Type 0
AreDigits [] = Unit {0}
AreDigits (b ∷ bs) = (is_ascii_digit b ≡ true) × AreDigits bs

digits_more : (bs : List ℕ) (b : ℕ) → AreDigits bs → is_ascii_digit b ≡ true → AreDigits (bs ++ b ∷ [])
digits_more [] b h k = (k, tt)
digits_more (a ∷ bs) b h k = (h.0, digits_more bs b h.1 k)

digit_test : (d : ℕ) → d < 10 → is_ascii_digit (48 + d) ≡ true
digit_test d lt = rw (le-leb 48 (48 + d) (omega arith), le-leb (48 + d) 57 (omega arith)) refl

decimal_digits : (n : ℕ) → n < 2 ^ 64 → AreDigits (decimal n)
decimal_digits n fits =
    decimal_by_steps (λ n ds. AreDigits ds) (λ n lt. (digit_test n (omega arith), tt))
    (λ n ds ge before. digits_more ds (48 + n % 10) before (digit_test (n % 10) (omega arith))) n fits

digits_of : (ds rest : List ℕ) → AreDigits ds → IsEnd rest → digits (ds ++ rest) ≡ ds
digits_of [] [] h e = refl
digits_of [] (b ∷ bs) h e = rw e refl
digits_of (d ∷ ds) rest h e = rw (h.0, digits_of ds rest h.1 e) refl

after_of : (ds rest : List ℕ) → AreDigits ds → IsEnd rest → after_digits (ds ++ rest) ≡ rest
after_of [] [] h e = refl
after_of [] (b ∷ bs) h e = rw e refl
after_of (d ∷ ds) rest h e = rw h.0 (after_of ds rest h.1 e)

value_takes : (bytes : List ℕ) (n : ℕ) (rest : List ℕ) → value_at bytes ≡ Some (n, rest) → Takes bytes (decimal n) rest
    × (n < 2 ^ 64)
unfolding value_at
value_takes bytes n rest = go (number_of (digits bytes)) refl
  where
    go : (o : Option ℕ) → number_of (digits bytes) ≡ o → Rattle.ninep_trace.specs.Fields.value_with o
        (after_digits bytes) ≡ Some (n, rest) → Takes bytes (decimal n) rest × (n < 2 ^ 64)
    go None given e = absurd cc
    go (Some m) given e =
        let is = number_is (digits bytes) m given in
        let made : ℕ × List ℕ = (m, after_digits bytes) in
        subst (λ (p : ℕ × List ℕ). Takes bytes (decimal p.0) p.1 × (p.0 < 2 ^ 64)) (some_is made (n, rest) e)
        (digits_split bytes ∙ ap (λ (l : List ℕ). l ++ after_digits bytes) is.1, is.0)

value_again : (n : ℕ) (rest : List ℕ) → n < 2 ^ 64 → IsEnd rest → value_at (decimal n ++ rest) ≡ Some (n, rest)
unfolding value_at
value_again n rest lt end =
    let ds = decimal_digits n lt in
    rw (digits_of (decimal n) rest ds end, after_of (decimal n) rest ds end, number_of-decimal n lt) refl

pub small_takes : (limit : ℕ) (bytes : List ℕ) (n : ℕ) (rest : List ℕ) → small_at limit bytes ≡ Some (n, rest)
    → Takes bytes (decimal n) rest × (n < limit)
unfolding small_at
small_takes limit bytes n rest e =
    let b = bind_some (value_at bytes) (below limit) (n, rest) e in
    let g = guard_some (ltb b.0.0 limit) (Some b.0) (n, rest) b.2 in
    let t = value_takes bytes b.0.0 b.0.1 b.1 in
    subst (λ (p : ℕ × List ℕ). Takes bytes (decimal p.0) p.1 × (p.0 < limit)) (some_is b.0 (n, rest) g.1)
    (t.0, ltb-true _ _ g.0)

pub small_again : (limit n : ℕ) (rest : List ℕ) → n < limit → n < 2 ^ 64 → IsEnd rest
    → small_at limit (decimal n ++ rest) ≡ Some (n, rest)
unfolding small_at
small_again limit n rest lt fits end = rw (value_again n rest fits end, lt-ltb n limit lt) refl

pub number_takes : (front : List ℕ) (limit : ℕ) (bytes : List ℕ) (n : ℕ) (rest : List ℕ)
    → number_at front limit bytes ≡ Some (n, rest) → Takes bytes (number front n) rest × (n < limit)
unfolding number_at number
number_takes front limit bytes n rest e =
    let b = bind_some (after_front front bytes) (small_at limit) (n, rest) e in
    let s = small_takes limit b.0 n rest b.2 in
    (takes_then bytes front b.0 (decimal n) rest (front-is front bytes b.0 b.1) s.0, s.1)

pub number_again : (front : List ℕ) (limit n : ℕ) (rest : List ℕ) → n < limit → n < 2 ^ 64 → IsEnd rest
    → number_at front limit (number front n ++ rest) ≡ Some (n, rest)
unfolding number_at number
number_again front limit n rest lt fits end =
    ap (λ (l : List ℕ). after_front front l >>= small_at limit) (append_assoc front (decimal n) rest)
    ∙ rw (front_again front (decimal n ++ rest)) (small_again limit n rest lt fits end)

pub number_last : (front : List ℕ) (limit n : ℕ) → n < limit → n < 2 ^ 64
    → number_at front limit (number front n) ≡ Some (n, [])
number_last front limit n lt fits = ap (number_at front limit) (sym (append-nil (number front n)))
    ∙ number_again front limit n [] lt fits tt

pub number_stops : (front : List ℕ) (n : ℕ) → Stops front → Stops (number front n)
unfolding number
number_stops front n h = stops_then front (decimal n) h

-- ---- strings

-- the bytes, with the backslash before them
abbrev pending : Bool → List ℕ → List ℕ
pending false bytes = bytes
pending true bytes = 92 ∷ bytes

-- what was read on from a text, and the bytes that say it
record Read (text answer bytes rest : List ℕ) : Type 0 where
  more : List ℕ
  whole : answer ≡ text ++ more
  spelled : bytes ≡ flat_map marked more ++ 39 ∷ rest

-- one byte more
one_more : (text answer bytes rest : List ℕ) (c : ℕ) → Read (text ++ c ∷ []) answer bytes rest
    → Read text answer (marked c ++ bytes) rest
one_more text answer bytes rest c r = record {
  more = c ∷ r.more;
  whole = r.whole ∙ append_assoc text (c ∷ []) r.more;
  spelled = ap (λ (l : List ℕ). marked c ++ l) r.spelled ∙ sym (append_assoc (marked c) (flat_map marked r.more)
      (39 ∷ rest));
}

closes : (text : List ℕ) (c : ℕ) (bytes : List ℕ) (x : List ℕ × List ℕ)
    → c ≡ 39 → (text, bytes) ≡ x → Read text x.0 (c ∷ bytes) x.1
closes text c bytes x e s =
    subst (λ (y : List ℕ × List ℕ). Read text y.0 (c ∷ bytes) y.1) s
    (record { more = []; whole = sym (append-nil text); spelled = ap (λ (n : ℕ). n ∷ bytes) e })

unquoted_takes : (bytes text : List ℕ) (b : Bool) (x : List ℕ × List ℕ) → unquoted_after text b bytes ≡ Some x
    → Read text x.0 (pending b bytes) x.1
unfolding unquoted_after
unquoted_takes [] text b x e = absurd cc
unquoted_takes (c ∷ cs) text false x e =
    elim (eqb c 39) as (λ t. eqb c 39 ≡ t → cond t (Some (text, cs))
    (cond (eqb c 10) None (cond (eqb c 92) (unquoted_after text true cs)
    (unquoted_after (text ++ c ∷ []) false cs))) ≡ Some x → Read text x.0 (c ∷ cs) x.1) [
      | true ↦ λ i k. closes text c cs x (eqb-true c 39 i) (some_is (text, cs) x k)
      | false ↦ λ i. elim (eqb c 10) as (λ t. eqb c 10 ≡ t → cond t None
          (cond (eqb c 92) (unquoted_after text true cs) (unquoted_after (text ++ c ∷ []) false cs)) ≡ Some x
          → Read text x.0 (c ∷ cs) x.1) [
            | true ↦ λ j k. absurd cc
            | false ↦ λ j. elim (eqb c 92) as (λ t. eqb c 92 ≡ t → cond t (unquoted_after text true cs)
                (unquoted_after (text ++ c ∷ []) false cs) ≡ Some x → Read text x.0 (c ∷ cs) x.1) [
                  | true ↦ λ m k. subst (λ (y : ℕ). Read text x.0 (y ∷ cs) x.1) (sym (eqb-true c 92 m))
                      (unquoted_takes cs text true x k)
                  | false ↦ λ m k.
                      let plain : marked c ≡ c ∷ [] = rw (j, m, i) refl in
                      subst (λ (l : List ℕ). Read text x.0 (l ++ cs) x.1) plain
                      (one_more text x.0 cs x.1 c (unquoted_takes cs (text ++ c ∷ []) false x k))
                ] refl
          ] refl
    ] refl e
unquoted_takes (c ∷ cs) text true x e =
    elim (eqb c 110) as (λ t. eqb c 110 ≡ t → cond t (unquoted_after (text ++ 10 ∷ []) false cs)
    (cond (eqb c 92) (unquoted_after (text ++ 92 ∷ []) false cs)
    (cond (eqb c 113) (unquoted_after (text ++ 39 ∷ []) false cs) None)) ≡ Some x → Read text x.0 (92 ∷ c ∷ cs) x.1) [
      | true ↦ λ i k. subst (λ (y : ℕ). Read text x.0 (92 ∷ y ∷ cs) x.1) (sym (eqb-true c 110 i))
          (one_more text x.0 cs x.1 10 (unquoted_takes cs (text ++ 10 ∷ []) false x k))
      | false ↦ λ i. elim (eqb c 92) as (λ t. eqb c 92 ≡ t → cond t (unquoted_after (text ++ 92 ∷ []) false cs)
          (cond (eqb c 113) (unquoted_after (text ++ 39 ∷ []) false cs) None) ≡ Some x
          → Read text x.0 (92 ∷ c ∷ cs) x.1) [
            | true ↦ λ j k. subst (λ (y : ℕ). Read text x.0 (92 ∷ y ∷ cs) x.1) (sym (eqb-true c 92 j))
                (one_more text x.0 cs x.1 92 (unquoted_takes cs (text ++ 92 ∷ []) false x k))
            | false ↦ λ j. elim (eqb c 113) as (λ t. eqb c 113 ≡ t → cond t (unquoted_after (text ++ 39 ∷ []) false cs)
                None ≡ Some x → Read text x.0 (92 ∷ c ∷ cs) x.1) [
                  | true ↦ λ m k. subst (λ (y : ℕ). Read text x.0 (92 ∷ y ∷ cs) x.1) (sym (eqb-true c 113 m))
                      (one_more text x.0 cs x.1 39 (unquoted_takes cs (text ++ 39 ∷ []) false x k))
                  | false ↦ λ m k. absurd cc
                ] refl
          ] refl
    ] refl e

unquoted_again : (t text rest : List ℕ) → unquoted_after text false
    (flat_map marked t ++ 39 ∷ rest) ≡ Some (text ++ t, rest)
unfolding unquoted_after
unquoted_again [] text rest = ap (λ (l : List ℕ). Some (l, rest)) (sym (append-nil text))
unquoted_again (c ∷ t) text rest =
    let put : (d : ℕ) → c ≡ d → unquoted_after (text ++ d ∷ []) false
    (flat_map marked t ++ 39 ∷ rest) ≡ Some (text ++ c ∷ t, rest) =
    λ d e. unquoted_again t (text ++ d ∷ []) rest ∙ ap (λ (l : List ℕ). Some (l, rest)) (append_assoc text (d ∷ []) t)
    ∙ ap (λ (x : ℕ). Some (text ++ x ∷ t, rest)) (sym e)
    in
    ap (λ (l : List ℕ). unquoted_after text false l) (append_assoc (marked c) (flat_map marked t) (39 ∷ rest))
    ∙ elim (eqb c 10) as (λ b. eqb c 10 ≡ b → unquoted_after text false
    (cond b (92 ∷ 110 ∷ []) (cond (eqb c 92) (92 ∷ 92 ∷ []) (cond (eqb c 39) (92 ∷ 113 ∷ []) (c ∷ [])))
    ++ (flat_map marked t ++ 39 ∷ rest)) ≡ Some (text ++ c ∷ t, rest)) [
      | true ↦ λ e. put 10 (eqb-true c 10 e)
      | false ↦ λ e. elim (eqb c 92) as (λ b. eqb c 92 ≡ b → unquoted_after text false
          (cond b (92 ∷ 92 ∷ []) (cond (eqb c 39) (92 ∷ 113 ∷ []) (c ∷ [])) ++ (flat_map marked t ++ 39 ∷ rest))
          ≡ Some (text ++ c ∷ t, rest)) [
            | true ↦ λ f. put 92 (eqb-true c 92 f)
            | false ↦ λ f. elim (eqb c 39) as (λ b. eqb c 39 ≡ b → unquoted_after text false
                (cond b (92 ∷ 113 ∷ []) (c ∷ []) ++ (flat_map marked t ++ 39 ∷ rest)) ≡ Some (text ++ c ∷ t, rest)) [
                  | true ↦ λ g. put 39 (eqb-true c 39 g)
                  | false ↦ λ g. rw (g, e, f) (put c refl)
                ] refl
          ] refl
    ] refl

string_is : (bytes : List ℕ) → is_string bytes ≡ true → IsString bytes
string_is bytes e = let b = both (is_text bytes) (ltb (length bytes) (2 ^ 16)) e in
    record { text = b.0; len = ltb-true _ _ b.1 }

pub quoted_takes : (bytes read rest : List ℕ) → quoted_at bytes ≡ Some (read, rest) → Takes bytes (quoted read) rest
    × IsString read
unfolding quoted_at quoted
quoted_takes bytes read rest e =
    let b = bind_some (after_front (39 ∷ []) bytes) (λ inside. unquoted_after [] false inside >>= if_string)
    (read, rest) e in
    let c = bind_some (unquoted_after [] false b.0) if_string (read, rest) b.2 in
    let g = guard_some (is_string c.0.0) (Some c.0) (read, rest) c.2 in
    let r = unquoted_takes b.0 [] false c.0 c.1 in
    let text : c.0.0 ≡ r.more = r.whole in
    let front : bytes ≡ 39 ∷ b.0 = front-is (39 ∷ []) bytes b.0 b.1 in
    let inside : b.0 ≡ flat_map marked c.0.0 ++ 39 ∷ c.0.1 = r.spelled
    ∙ ap (λ (l : List ℕ). flat_map marked l ++ 39 ∷ c.0.1) (sym text) in
    let whole : bytes ≡ 39 ∷ ((flat_map marked c.0.0 ++ 39 ∷ []) ++ c.0.1) = front ∙ ap (λ (l : List ℕ). 39 ∷ l)
    (inside ∙ sym (append_assoc (flat_map marked c.0.0) (39 ∷ []) c.0.1)) in
    subst (λ (p : List ℕ × List ℕ). Takes bytes (39 ∷ (flat_map marked p.0 ++ 39 ∷ [])) p.1 × IsString p.0)
    (some_is c.0 (read, rest) g.1) (whole, string_is c.0.0 g.0)

pub quoted_again : (read rest : List ℕ) → IsString read → quoted_at (quoted read ++ rest) ≡ Some (read, rest)
unfolding quoted_at quoted
quoted_again read rest fits =
    let inside : unquoted_after [] false ((flat_map marked read ++ 39 ∷ []) ++ rest) ≡ Some (read, rest) =
    ap (unquoted_after [] false) (append_assoc (flat_map marked read) (39 ∷ []) rest)
    ∙ unquoted_again read [] rest in
    rw (inside, fits.text, lt-ltb (length read) (2 ^ 16) fits.len) refl

pub text_takes : (front bytes read rest : List ℕ) → text_at front bytes ≡ Some (read, rest)
    → Takes bytes (text front read) rest × IsString read
unfolding text_at text
text_takes front bytes read rest e =
    let b = bind_some (after_front front bytes) quoted_at (read, rest) e in
    let q = quoted_takes b.0 read rest b.2 in
    (takes_then bytes front b.0 (quoted read) rest (front-is front bytes b.0 b.1) q.0, q.1)

pub text_again : (front read rest : List ℕ) → IsString read → text_at front
    (text front read ++ rest) ≡ Some (read, rest)
unfolding text_at text
text_again front read rest fits =
    ap (λ (l : List ℕ). after_front front l >>= quoted_at) (append_assoc front (quoted read) rest)
    ∙ rw (front_again front (quoted read ++ rest)) (quoted_again read rest fits)

pub text_last : (front read : List ℕ) → IsString read → text_at front (text front read) ≡ Some (read, [])
text_last front read fits = ap (text_at front) (sym (append-nil (text front read))) ∙ text_again front read [] fits

pub text_stops : (front read : List ℕ) → Stops front → Stops (text front read)
unfolding text
text_stops front read h = stops_then front (quoted read) h

-- ---- data

-- what was read of data: few bytes, and nothing after them
pub record Data (front : List ℕ) (limit : ℕ) (bytes read rest : List ℕ) : Type 0 where
  pub takes : Takes bytes (bytes_in_hex front read) rest
  pub few : length read < limit
  pub bytes_are : AreBytes read

pub bytes_in_hex_takes : (front : List ℕ) (limit : ℕ) (bytes read rest : List ℕ)
    → bytes_in_hex_at front limit bytes ≡ Some (read, rest) → Data front limit bytes read rest
unfolding bytes_in_hex_at bytes_in_hex
bytes_in_hex_takes front limit bytes read rest e =
    let b = bind_some (after_front front bytes) (λ digits. bytes_of_hex digits >>= fewer limit) (read, rest) e in
    let c = bind_some (bytes_of_hex b.0) (fewer limit) (read, rest) b.2 in
    let g = guard_some (ltb (length c.0) limit) (Some (c.0, [])) (read, rest) c.2 in
    let h = hex-is b.0 c.0 c.1 in
    let made : List ℕ × List ℕ = (c.0, []) in
    let whole : bytes ≡ (front ++ hex_of c.0) ++ [] = front-is front bytes b.0 b.1 ∙ ap (λ (l : List ℕ). front ++ l) h.0
    ∙ sym (append-nil (front ++ hex_of c.0)) in
    subst (λ (p : List ℕ × List ℕ). Data front limit bytes p.0 p.1) (some_is made (read, rest) g.1)
    (record { takes = whole; few = ltb-true _ _ g.0; bytes_are = h.1 })

pub bytes_in_hex_last : (front : List ℕ) (limit : ℕ) (read : List ℕ) → length read < limit → AreBytes read
    → bytes_in_hex_at front limit (bytes_in_hex front read) ≡ Some (read, [])
unfolding bytes_in_hex_at bytes_in_hex
bytes_in_hex_last front limit read few fits = rw (
  front_again front (hex_of read),
  hex-again read fits,
  lt-ltb (length read) limit few,
) refl

pub bytes_in_hex_stops : (front read : List ℕ) → Stops front → Stops (bytes_in_hex front read)
unfolding bytes_in_hex
bytes_in_hex_stops front read h = stops_then front (hex_of read) h

-- A message written back is read, and nothing else is.
use Rattle.std.proofs.Common.{◌≡◌, ◌⊎◌, inl, inr, ℕ, zero, suc, ◌+◌, ◌-◌, ◌*◌, ◌<◌, ◌≤◌, ◌^◌, ◌&&◌, ◌==◌, Bool, true}
use Rattle.std.proofs.Common.{false, cond, List, [], ◌∷◌, ◌++◌, length, Option, Some, None, refl, sym, ap, subst, ◌∙◌}
use Rattle.std.proofs.Common.{arith, leb, nat_lt}
use Rattle.std.specs.Prelude.{replicate, IfNone}
use Rattle.std.specs.Char.{is_ascii_digit}
use Rattle.std.specs.Fmt.{decimal}
use Rattle.std.proofs.lemmas.Bool.{eqb-true, le-leb, leb-true}
use Rattle.am_text.specs.Number.{number_after, number_of}
use Rattle.am_text.specs.declared.range.Range.{Range}
use Rattle.am_text.proofs.Decimals.{number_is, number_of-decimal}
use Rattle.win_events.specs.Spelling.{origin_letter, sort_letter}
use Rattle.win_events.specs.Back.{is_action, back_text, IsBack, origin_of, action_of, digits, after_digits, is_end}
use Rattle.win_events.specs.Back.{last_number, in_order, range_of, message_of, back_of}
use Rattle.win_events.specs.declared.item.BackMsg.{BackMsg}
use Rattle.win_events.specs.declared.item.Origin.{Origin}
use Rattle.win_events.specs.declared.item.Origin.TheVariants.{E, F, K, M}
use Rattle.win_events.specs.declared.item.Sort.{Sort}
use Rattle.win_events.specs.declared.item.Sort.TheVariants.{BodyDel, TagDel, BodyIns, TagIns, BodyLook, TagLook}
use Rattle.win_events.specs.declared.item.Sort.TheVariants.{BodyExec, TagExec}

both : (a b : Bool) → (a && b) ≡ true → (a ≡ true) × (b ≡ true)
both true b e = (refl, e)
both false b e = absurd cc

guard_some : {A : Type 0} (t : Bool) (r : Option A) (x : A) → cond t r None ≡ Some x → (t ≡ true) × (r ≡ Some x)
guard_some true r x e = (refl, e)
guard_some false r x e = absurd cc

-- ---- the digits in front

digits_split : (bs : List ℕ) → digits bs ++ after_digits bs ≡ bs
digits_split [] = refl
digits_split (b ∷ bs) =
    elim (is_ascii_digit b) as (λ t. cond t (b ∷ digits bs) [] ++ cond t (after_digits bs) (b ∷ bs) ≡ b ∷ bs)
    [ true ↦ ap (λ xs. b ∷ xs) (digits_split bs) | false ↦ refl ]

record Cuts (ds rest bs : List ℕ) : Type 0 where
  front : digits bs ≡ ds
  after : after_digits bs ≡ rest

cut_after : (ds : List ℕ) (m n c : ℕ) (r : List ℕ) → is_ascii_digit c ≡ false → number_after m ds ≡ Some n
    → Cuts ds (c ∷ r) (ds ++ c ∷ r)
unfolding number_after
cut_after [] m n c r other e = record { front = rw other; after = rw other }
cut_after (d ∷ ds) m n c r other e =
    let g = guard_some (is_ascii_digit d && nat_lt (m * 10 + (d - 48)) (2 ^ 64)) (number_after (m * 10 + (d - 48)) ds) n
    e in
    let digit = (both (is_ascii_digit d) (nat_lt (m * 10 + (d - 48)) (2 ^ 64)) g.0).0 in
    let rest = cut_after ds (m * 10 + (d - 48)) n c r other g.1 in
    record { front = rw digit (ap (λ xs. d ∷ xs) rest.front); after = rw digit rest.after }

guard_else : (t : Bool) (r : Option ℕ) (n : ℕ) → cond t None r ≡ Some n → r ≡ Some n
guard_else true r n e = absurd cc
guard_else false r n e = e

cut_number : (ds : List ℕ) (n c : ℕ) (r : List ℕ) → is_ascii_digit c ≡ false → number_of ds ≡ Some n
    → Cuts ds (c ∷ r) (ds ++ c ∷ r)
cut_number [] n c r other e = absurd cc
cut_number (d ∷ []) n c r other e = cut_after (d ∷ []) 0 n c r other e
cut_number (d ∷ f ∷ ds) n c r other e = cut_after (d ∷ f ∷ ds) 0 n c r other (guard_else (d == 48) _ n e)

cut_decimal : (n c : ℕ) (r : List ℕ) → n < 2 ^ 64 → is_ascii_digit c ≡ false → Cuts (decimal n) (c ∷ r)
    (decimal n ++ c ∷ r)
cut_decimal n c r fits other = cut_number (decimal n) n c r other (number_of-decimal n fits)

-- ---- the end

end_is : (bs : List ℕ) → is_end bs ≡ true → (k : ℕ) × (bs ≡ replicate k 32 ++ 10 ∷ [])
end_is [] h = absurd cc
end_is (b ∷ bs) h =
    (elim (b == 32) as (λ t. (b == 32) ≡ t → cond t (is_end bs) ((b == 10) && (length bs == 0)) ≡ true → (k : ℕ)
    × (b ∷ bs ≡ replicate k 32 ++ 10 ∷ [])) [
      | true ↦ λ e g.
          let later = end_is bs g in
          let blank : b ≡ 32 = eqb-true b 32 e in
          (suc later.0, ap (λ (c : ℕ). c ∷ bs) blank ∙ ap (λ (cs : List ℕ). 32 ∷ cs) later.1)
      | false ↦ λ e g.
          let two = both (b == 10) (length bs == 0) g in
          (0, newline b bs (eqb-true b 10 two.0) two.1)
    ]) refl h
  where
    newline : (b : ℕ) (bs : List ℕ) → b ≡ 10 → (length bs == 0) ≡ true → b ∷ bs ≡ 10 ∷ []
    newline b [] e l = ap (λ (c : ℕ). c ∷ []) e
    newline b (c ∷ cs) e l = absurd (let z : length (c ∷ cs) ≡ 0 = eqb-true (length (c ∷ cs)) 0 l in omega (arith, z))

ends : (k : ℕ) → is_end (replicate k 32 ++ 10 ∷ []) ≡ true
ends zero = refl
ends (suc k) = ends k

cut_end : (k n : ℕ) → n < 2 ^ 64 → Cuts (decimal n) (replicate k 32 ++ 10 ∷ [])
    (decimal n ++ (replicate k 32 ++ 10 ∷ []))
cut_end zero n fits = cut_decimal n 10 [] fits refl
cut_end (suc k) n fits = cut_decimal n 32 (replicate k 32 ++ 10 ∷ []) fits refl

-- ---- what is read is the message

record Last (bs : List ℕ) (n : ℕ) : Type 0 where
  below : n < 2 ^ 64
  blanks : ℕ
  spelled : bs ≡ 32 ∷ (decimal n ++ (replicate blanks 32 ++ 10 ∷ []))

last_is : (bs : List ℕ) (n : ℕ) → last_number bs ≡ Some n → Last bs n
last_is [] n e = absurd cc
last_is (b ∷ bs) n e =
    let g = guard_some ((b == 32) && is_end (after_digits bs)) (number_of (digits bs)) n e in
    let two = both (b == 32) (is_end (after_digits bs)) g.0 in
    let blank : b ≡ 32 = eqb-true b 32 two.0 in
    let num = number_is (digits bs) n g.1 in
    let end = end_is (after_digits bs) two.1 in
    record {
      below = num.0;
      blanks = end.0;
      spelled =
          ap (λ (c : ℕ). c ∷ bs) blank
          ∙ ap (λ (cs : List ℕ). 32 ∷ cs) (sym (digits_split bs) ∙ ap (λ (ds : List ℕ). ds ++ after_digits bs) num.1
          ∙ ap (λ (cs : List ℕ). decimal n ++ cs) end.1);
    }

record InOrder (a b : Option ℕ) (r : Range) : Type 0 where
  first : a ≡ Some r.q0
  last : b ≡ Some r.q1
  ordered : r.q0 ≤ r.q1

in_order_is : (a b : Option ℕ) (r : Range) → in_order a b ≡ Some r → InOrder a b r
in_order_is None b r e = absurd cc
in_order_is (Some a) None r e = absurd cc
in_order_is (Some a) (Some b) r e =
    let g = guard_some (leb a b) (Some (record { q0 = a; q1 = b })) r e in
    let le : a ≤ b = leb-true a b g.0 in
    let same : ◌≡◌ {A = Range} (record { q0 = a; q1 = b }) r = cc in
    record {
      first = ap (λ (x : Range). Some x.q0) same;
      last = ap (λ (x : Range). Some x.q1) same;
      ordered =
          subst (λ (x : Range). x.q0 ≤ x.q1) same le;
    }

record Parts (o : Option Origin) (s : Option Sort) (r : Option Range) (m : BackMsg) : Type 0 where
  origin : o ≡ Some m.origin
  sort : s ≡ Some m.sort
  range : r ≡ Some m.range

parts_are : (o : Option Origin) (s : Option Sort) (r : Option Range) (m : BackMsg) → message_of o s r ≡ Some m
    → Parts o s r m
parts_are None s r m e = absurd cc
parts_are (Some o) None r m e = absurd cc
parts_are (Some o) (Some s) None m e = absurd cc
parts_are (Some o) (Some s) (Some r) m e =
    let same : ◌≡◌ {A = BackMsg} (record { origin = o; sort = s; range = r }) m = cc in
    record {
      origin = ap (λ (x : BackMsg). Some x.origin) same;
      sort = ap (λ (x : BackMsg). Some x.sort) same;
      range =
          ap (λ (x : BackMsg). Some x.range) same;
    }

module _ {A : Type 0} where
  -- the first choice, or the others
  pick : (b n : ℕ) (x y : A) (others : Option A) → cond (b == n) (Some x) others ≡ Some y → ((b ≡ n) × (x ≡ y))
      ⊎ (others ≡ Some y)
  pick b n x y others e =
      (elim (b == n) as (λ t. (b == n) ≡ t → cond t (Some x) others ≡ Some y → ((b ≡ n) × (x ≡ y)) ⊎ (others ≡ Some y)) [
        | true ↦ λ t h. inl (eqb-true b n t, cc)
        | false ↦ λ t h. inr h
      ]) refl e

origin_is : (b : ℕ) (o : Origin) → origin_of b ≡ Some o → b ≡ origin_letter o
origin_is b o e =
    elim (pick b 69 E o _ e) [
      | inl h ↦ h.0 ∙ ap origin_letter h.1
      | inr e ↦
          elim (pick b 70 F o _ e) [
            | inl h ↦ h.0 ∙ ap origin_letter h.1
            | inr e ↦
                elim (pick b 75 K o _ e) [
                  | inl h ↦ h.0 ∙ ap origin_letter h.1
                  | inr e ↦
                      elim (pick b 77 M o None e) [ inl h ↦ h.0 ∙ ap origin_letter h.1 | inr e ↦ absurd cc ]
                ]
          ]
    ]

record Action (b : ℕ) (s : Sort) : Type 0 where
  letter : b ≡ sort_letter s
  action : is_action s ≡ true

action_is : (b : ℕ) (s : Sort) → action_of b ≡ Some s → Action b s
action_is b s e =
    elim (pick b 88 BodyExec s _ e) [
      | inl h ↦ record { letter = h.0 ∙ ap sort_letter h.1; action = sym (ap is_action h.1) }
      | inr e ↦
          elim (pick b 120 TagExec s _ e) [
            | inl h ↦ record { letter = h.0 ∙ ap sort_letter h.1; action = sym (ap is_action h.1) }
            | inr e ↦
                elim (pick b 76 BodyLook s _ e) [
                  | inl h ↦ record { letter = h.0 ∙ ap sort_letter h.1; action = sym (ap is_action h.1) }
                  | inr e ↦
                      elim (pick b 108 TagLook s None e) [
                        | inl h ↦ record { letter = h.0 ∙ ap sort_letter h.1; action = sym (ap is_action h.1) }
                        | inr e ↦ absurd cc
                      ]
                ]
          ]
    ]

range_is : (bs : List ℕ) (r : Range) → range_of bs ≡ Some r → (r.q0 ≤ r.q1) × (r.q1 < 2 ^ 64)
    × ((k : ℕ) × (bs ≡ decimal r.q0 ++ 32 ∷ (decimal r.q1 ++ (replicate k 32 ++ 10 ∷ []))))
range_is bs r e =
    let two = in_order_is (number_of (digits bs)) (last_number (after_digits bs)) r e in
    let first = number_is (digits bs) r.q0 two.first in
    let last = last_is (after_digits bs) r.q1 two.last in (
      two.ordered,
      last.below,
      (
        last.blanks,
        sym (digits_split bs) ∙ ap (λ (ds : List ℕ). ds ++ after_digits bs) first.1
            ∙ ap (λ (cs : List ℕ). decimal r.q0 ++ cs) last.spelled,
      ),
    )

pub back_is : (bs : List ℕ) (m : BackMsg) → back_of bs ≡ Some m → IsBack bs m
back_is [] m e = absurd cc
back_is (o ∷ []) m e = absurd cc
back_is (o ∷ s ∷ bs) m e =
    let parts = parts_are (origin_of o) (action_of s) (range_of bs) m e in
    let origin = origin_is o m.origin parts.origin in
    let sort = action_is s m.sort parts.sort in
    let range = range_is bs m.range parts.range in
    record {
      action = sort.action;
      ordered = range.0;
      below = range.1;
      blanks = range.2.0;
      spelled = ap (λ (b : ℕ). b ∷ s ∷ bs) origin ∙ ap (λ (b : ℕ). origin_letter m.origin ∷ b ∷ bs) sort.letter
          ∙ ap (λ (cs : List ℕ). origin_letter m.origin ∷ sort_letter m.sort ∷ cs) range.2.1;
    }

-- ---- the message is read

origin_again : (o : Origin) → origin_of (origin_letter o) ≡ Some o
origin_again E = refl
origin_again F = refl
origin_again K = refl
origin_again M = refl

action_again : (s : Sort) → is_action s ≡ true → action_of (sort_letter s) ≡ Some s
action_again BodyDel e = absurd cc
action_again TagDel e = absurd cc
action_again BodyIns e = absurd cc
action_again TagIns e = absurd cc
action_again BodyLook e = refl
action_again TagLook e = refl
action_again BodyExec e = refl
action_again TagExec e = refl

last_again : (n k : ℕ) → n < 2 ^ 64 → last_number (32 ∷ (decimal n ++ (replicate k 32 ++ 10 ∷ []))) ≡ Some n
last_again n k fits =
    let c = cut_end k n fits in
    rw (c.after, c.front, ends k) (number_of-decimal n fits)

range_again : (r : Range) (k : ℕ) → r.q0 ≤ r.q1 → r.q1 < 2 ^ 64 → range_of (decimal r.q0
    ++ 32 ∷ (decimal r.q1 ++ (replicate k 32 ++ 10 ∷ []))) ≡ Some r
range_again r k le fits =
    let c = cut_decimal r.q0 32 (decimal r.q1 ++ (replicate k 32 ++ 10 ∷ [])) (omega arith) refl in
    rw (c.front, c.after, number_of-decimal r.q0 (omega arith), last_again r.q1 k fits, le-leb r.q0 r.q1 le) refl

back_again : (m : BackMsg) (k : ℕ) → is_action m.sort ≡ true → m.range.q0 ≤ m.range.q1 → m.range.q1 < 2 ^ 64
    → back_of (back_text m k) ≡ Some m
back_again m k action le fits =
    rw (origin_again m.origin, action_again m.sort action, range_again m.range k le fits) refl

none_is : (bs : List ℕ) (m : BackMsg) → back_of bs ≡ None → IsBack bs m → ⊥
none_is bs m e b =
    let read = back_again m b.blanks b.action b.ordered b.below in
    let none : back_of (back_text m b.blanks) ≡ None = subst (λ (l : List ℕ). back_of l ≡ None) b.spelled e in
    cc

pub none_reads : (bs : List ℕ) (r : Option BackMsg) → r ≡ back_of bs → IfNone r ((m : BackMsg) → IsBack bs m → ⊥)
none_reads bs None e = λ m b. none_is bs m (sym e) b
none_reads bs (Some x) e = tt

pub ruleset backs = (back_is)

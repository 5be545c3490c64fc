-- Expressions and their delimiters: no expression has the delimiter behind no backslash, or ends with a backslash.
use Rattle.std.proofs.Common.{◌≡◌, ℕ, suc, ◌+◌, ◌-◌, ◌<◌, ◌≤◌, ◌==◌, ◌⊎◌, Bool, true, false, not, List, [], ◌∷◌, ◌++◌}
use Rattle.std.proofs.Common.{length, get_or, drop, Option, Some, refl, sym, ap, subst, ◌∙◌, inl, inr, arith}
use Rattle.std.proofs.Common.{append_assoc, append-nil}
use Rattle.std.specs.Prelude.{slice_range, nat_lt, IsTrue, if◌then◌else◌}
use Rattle.std.proofs.lemmas.Bool.{eqb-true, ltb-true, ltb-false}
use Rattle.std.proofs.lemmas.List.{take-append-drop, drop-drop, drop_more}
use Rattle.re_syntax.specs.Tree.{Tree, Letter, AnyLetter, OneOf, LineStart, LineEnd, Then, Either, Many, Several, Maybe}
use Rattle.re_syntax.specs.Tree.{Group}
use Rattle.re_syntax.specs.Signs.{sign_of, class_sign_of}
use Rattle.re_syntax.specs.Grammar.{Has, ClassHas, WritesLetter, WritesMember, WritesRange, WritesRanges, OpensClass}
use Rattle.re_syntax.specs.Grammar.{WritesClass, Writes, is_member, IsExpression, MayEnd}
use Rattle.re_syntax.specs.Answer.{IsRead, IsBad}
use Rattle.re_syntax.specs.declared.sign.Repeat.TheVariants.{Star, Plus, Opt}
use Rattle.re_syntax.specs.declared.sign.Sign.{Sign}
use Rattle.re_syntax.specs.declared.sign.Sign.TheVariants as sign
use Rattle.re_syntax.specs.declared.sign.ClassSign.{ClassSign}
use Rattle.re_syntax.specs.declared.sign.ClassSign.TheVariants as class
use Rattle.addr_syntax.specs.Marks.{next_of}
use Rattle.addr_syntax.specs.Pieces.{IsSearch}
use Rattle.addr_syntax.specs.Scan.{body_length, is_whole, behind_at, Continues}
use Rattle.addr_syntax.proofs.Slices.{slice_length, slice_more, drop_end, cut_twice}

pub whole_append : (d : ℕ) (e : Bool) (v w : List ℕ) → is_whole d e v ≡ true → is_whole d false w ≡ true → is_whole d e
    (v ++ w) ≡ true
whole_append d true [] w f g = absurd cc
whole_append d false [] w f g = g
whole_append d true (c ∷ cs) w f g = whole_append d false cs w f g
whole_append d false (c ∷ cs) w f g = go (d == c) refl (λ b h. whole_append d b cs w h g)
  where
    go : (b : Bool) → (d == c) ≡ b → ((x : Bool) → is_whole d x cs ≡ true → is_whole d x (cs ++ w) ≡ true)
        → is_whole d false (c ∷ cs ++ w) ≡ true
    go true t k = absurd (let h = rw t at f in cc)
    go false t k = rw t (k (c == 92) (rw t at f))

-- a text begins with something whole, and this is the rest
abbrev pub Skips : ℕ → List ℕ → List ℕ → Type 0
Skips d text rest = (w : List ℕ) × (text ≡ w ++ rest) × (is_whole d false w ≡ true)

skips_none : (d : ℕ) (text rest : List ℕ) → text ≡ rest → Skips d text rest
skips_none d text rest e = ([], e, refl)

skips_both : (d : ℕ) (text m rest : List ℕ) → Skips d text m → Skips d m rest → Skips d text rest
skips_both d text m rest p q = (
  p.0 ++ q.0,
  p.1 ∙ ap (λ (l : List ℕ). p.0 ++ l) q.1 ∙ sym (append_assoc p.0 q.0 rest),
  whole_append d false p.0 q.0 p.2 q.2,
)

skips_one : (d c : ℕ) (text rest : List ℕ) → text ≡ c ∷ rest → (d == c) ≡ false → (c == 92) ≡ false → Skips d text rest
skips_one d c text rest e f g = (c ∷ [], e, rw (f, g) refl)

skips_two : (d c x : ℕ) (text rest : List ℕ) → text ≡ c ∷ x ∷ rest
    → (d == c) ≡ false → (c == 92) ≡ true → Skips d text rest
skips_two d c x text rest e f g = (c ∷ x ∷ [], e, rw (f, g) refl)

-- ---- what signs say of their runes

abbrev is_other : Sign → Bool
is_other sign.Stop = false
is_other sign.Escape = false
is_other _ = true

abbrev is_other_class : ClassSign → Bool
is_other_class class.Ends = false
is_other_class class.Escapes = false
is_other_class _ = true

stop_sign : (d c : ℕ) → (d == c) ≡ true → sign_of (Some d) c ≡ sign.Stop
unfolding sign_of
stop_sign d c e = rw e refl

escape_sign : (d c : ℕ) → (d == c) ≡ false → (c == 92) ≡ true → sign_of (Some d) c ≡ sign.Escape
unfolding sign_of
escape_sign d c e f = rw (e, f) refl

stop_class : (d c : ℕ) → (d == c) ≡ true → class_sign_of (Some d) c ≡ class.Ends
unfolding class_sign_of
stop_class d c e = rw e refl

escape_class : (d c : ℕ) → (d == c) ≡ false → (c == 92) ≡ true → class_sign_of (Some d) c ≡ class.Escapes
unfolding class_sign_of
escape_class d c e f = rw (e, f) refl

other_facts : (d c : ℕ) (s : Sign) → sign_of (Some d) c ≡ s → is_other s ≡ true → ((d == c) ≡ false)
    × ((c == 92) ≡ false)
other_facts d c s e o = go (d == c) refl (c == 92) refl
  where
    go : (a : Bool) → (d == c) ≡ a → (b : Bool) → (c == 92) ≡ b → ((d == c) ≡ false) × ((c == 92) ≡ false)
    go true f b g = let h : is_other s ≡ false = ap is_other (sym e ∙ stop_sign d c f) in absurd cc
    go false f true g = let h : is_other s ≡ false = ap is_other (sym e ∙ escape_sign d c f g) in absurd cc
    go false f false g = (f, g)

class_facts : (d c : ℕ) (s : ClassSign) → class_sign_of (Some d) c ≡ s → is_other_class s ≡ true → ((d == c) ≡ false)
    × ((c == 92) ≡ false)
class_facts d c s e o = go (d == c) refl (c == 92) refl
  where
    go : (a : Bool) → (d == c) ≡ a → (b : Bool) → (c == 92) ≡ b → ((d == c) ≡ false) × ((c == 92) ≡ false)
    go true f b g = let h : is_other_class s ≡ false = ap is_other_class (sym e ∙ stop_class d c f) in absurd cc
    go false f true g = let h : is_other_class s ≡ false = ap is_other_class (sym e ∙ escape_class d c f g) in absurd cc
    go false f false g = (f, g)

abbrev is_escape : Sign → Bool
is_escape sign.Escape = true
is_escape _ = false

abbrev is_class_escape : ClassSign → Bool
is_class_escape class.Escapes = true
is_class_escape _ = false

pick : (b : Bool) (s t : Sign) → is_escape s ≡ false → is_escape t ≡ false → is_escape (if b then s else t) ≡ false
pick true s t e f = e
pick false s t e f = f

pick_class : (b : Bool) (s t : ClassSign) → is_class_escape s ≡ false → is_class_escape t ≡ false →
    is_class_escape (if b then s else t) ≡ false
pick_class true s t e f = e
pick_class false s t e f = f

no_escape : (d c : ℕ) → (d == c) ≡ false → (c == 92) ≡ false → is_escape (sign_of (Some d) c) ≡ false
unfolding sign_of
no_escape d c e f =
    rw (e, f) (pick (c == 124) _ _ refl (pick (c == 42) _ _ refl (pick (c == 43) _ _ refl (pick (c == 63) _ _ refl
    (pick (c == 40) _ _ (pick (d == 41) _ _ refl refl) (pick (c == 41) _ _ refl
    (pick (c == 46) _ _ refl (pick (c == 94) _ _ refl (pick (c == 36) _ _ refl
    (pick (c == 91) _ _ (pick (d == 93) _ _ refl refl) refl))))))))))

no_class_escape : (d c : ℕ) → (d == c) ≡ false → (c == 92) ≡ false → is_class_escape (class_sign_of (Some d) c) ≡ false
unfolding class_sign_of
no_class_escape d c e f =
    rw (e, f) (pick_class (c == 45) _ _ refl (pick_class (c == 93) _ _ refl (pick_class (c == 94) _ _ refl refl)))

escape_facts : (d c : ℕ) → sign_of (Some d) c ≡ sign.Escape → ((d == c) ≡ false) × ((c == 92) ≡ true)
escape_facts d c e = go (d == c) refl (c == 92) refl
  where
    go : (a : Bool) → (d == c) ≡ a → (b : Bool) → (c == 92) ≡ b → ((d == c) ≡ false) × ((c == 92) ≡ true)
    go true f b g = let h = stop_sign d c f in absurd cc
    go false f true g = (f, g)
    go false f false g = let h : is_escape sign.Escape ≡ false = ap is_escape (sym e) ∙ no_escape d c f g in absurd cc

class_escape_facts : (d c : ℕ) → class_sign_of (Some d) c ≡ class.Escapes → ((d == c) ≡ false) × ((c == 92) ≡ true)
class_escape_facts d c e = go (d == c) refl (c == 92) refl
  where
    go : (a : Bool) → (d == c) ≡ a → (b : Bool) → (c == 92) ≡ b → ((d == c) ≡ false) × ((c == 92) ≡ true)
    go true f b g = let h = stop_class d c f in absurd cc
    go false f true g = (f, g)
    go false f false g = let h : is_class_escape class.Escapes ≡ false = ap is_class_escape (sym e)
        ∙ no_class_escape d c f g in absurd cc

-- ---- what expressions skip

has_skips : (d : ℕ) (s : Sign) (text rest : List ℕ) → is_other s ≡ true → Has (Some d) s text rest → Skips d text rest
has_skips d s text rest o h = let f = other_facts d h.0 s h.2 o in skips_one d h.0 text rest h.1 f.0 f.1

class_has_skips : (d : ℕ) (s : ClassSign) (text rest : List ℕ) → is_other_class s ≡ true → ClassHas (Some d) s text rest
    → Skips d text rest
class_has_skips d s text rest o h = let f = class_facts d h.0 s h.2 o in skips_one d h.0 text rest h.1 f.0 f.1

letter_skips : (d c : ℕ) (text rest : List ℕ) → WritesLetter (Some d) c text rest → Skips d text rest
letter_skips d c text rest (inl p) = let f = other_facts d c sign.Plain p.1 refl in skips_one d c text rest p.0 f.0 f.1
letter_skips d c text rest (inr p) = let h = p.1 in let f = escape_facts d h.0 h.2 in
    skips_two d h.0 p.0 text rest h.1 f.0 f.1

member_other : (first : Bool) (s : ClassSign) → IsTrue (is_member first s) → is_other_class s ≡ true
member_other first class.Ends e = absurd cc
member_other first class.Escapes e = absurd cc
member_other first _ e = refl

member_skips : (d : ℕ) (first : Bool) (c : ℕ) (text rest : List ℕ) → WritesMember (Some d) first c text rest
    → Skips d text rest
member_skips d first c text rest (inl p) =
    let f = class_facts d c (class_sign_of (Some d) c) refl (member_other first (class_sign_of (Some d) c) p.1) in
    skips_one d c text rest p.0 f.0 f.1
member_skips d first c text rest (inr p) = let h = p.1 in let f = class_escape_facts d h.0 h.2 in
    skips_two d h.0 p.0 text rest h.1 f.0 f.1

range_skips : (d : ℕ) (first : Bool) (r : ℕ × ℕ) (text rest : List ℕ) → WritesRange (Some d) first r text rest
    → Skips d text rest
range_skips d first r text rest (inl p) = member_skips d first r.0 text rest p.0
range_skips d first r text rest (inr p) =
    skips_both d text p.0 rest (member_skips d first r.0 text p.0 p.2)
    (skips_both d p.0 p.1 rest (class_has_skips d class.Dash p.0 p.1 refl p.3) (member_skips d false r.1 p.1 rest p.4))

ranges_skip : (d : ℕ) (first : Bool) (rs : List (ℕ × ℕ)) (text rest : List ℕ) → WritesRanges (Some d) first rs text rest
    → Skips d text rest
ranges_skip d first [] text rest p = skips_none d text rest p
ranges_skip d first (r ∷ rs) text rest p = skips_both d text p.0 rest (range_skips d first r text p.0 p.1)
    (ranges_skip d false rs p.0 rest p.2)

opens_skips : (d : ℕ) (negated : Bool) (text rest : List ℕ) → OpensClass (Some d) negated text rest → Skips d text rest
opens_skips d false text rest p = has_skips d sign.OpenClass text rest refl p
opens_skips d true text rest p = skips_both d text p.0 rest (has_skips d sign.OpenClass text p.0 refl p.1)
    (class_has_skips d class.Hat p.0 rest refl p.2)

class_skips : (d : ℕ) (negated : Bool) (rs : List (ℕ × ℕ)) (text rest : List ℕ)
    → WritesClass (Some d) negated rs text rest → Skips d text rest
class_skips d negated [] text rest p = absurd p
class_skips d negated (r ∷ rs) text rest p =
    skips_both d text p.0 rest (opens_skips d negated text p.0 p.2)
    (skips_both d p.0 p.1 rest (ranges_skip d (not negated) (r ∷ rs) p.0 p.1 p.3)
    (class_has_skips d class.Closes p.1 rest refl p.4))

writes_skips : (d : ℕ) (r : Tree) (g : ℕ) (text : List ℕ) (h : ℕ) (rest : List ℕ) → Writes (Some d) r g text h rest
    → Skips d text rest
writes_skips d (Letter c) g text h rest p = letter_skips d c text rest p.1
writes_skips d AnyLetter g text h rest p = has_skips d sign.Dot text rest refl p.1
writes_skips d (OneOf negated spans) g text h rest p = class_skips d negated spans text rest p.1
writes_skips d LineStart g text h rest p = has_skips d sign.Caret text rest refl p.1
writes_skips d LineEnd g text h rest p = has_skips d sign.Dollar text rest refl p.1
writes_skips d (Then a b) g text h rest p = skips_both d text p.3 rest (writes_skips d a g text p.2 p.3 p.4)
    (writes_skips d b p.2 p.3 h rest p.5)
writes_skips d (Either a b) g text h rest p =
    skips_both d text p.2 rest (writes_skips d a g text p.1 p.2 p.4)
    (skips_both d p.2 p.3 rest (has_skips d sign.Bar p.2 p.3 refl p.5) (writes_skips d b p.1 p.3 h rest p.6))
writes_skips d (Many a) g text h rest p = skips_both d text p.1 rest (writes_skips d a g text h p.1 p.2)
    (has_skips d (sign.Repeats Star) p.1 rest refl p.3)
writes_skips d (Several a) g text h rest p = skips_both d text p.1 rest (writes_skips d a g text h p.1 p.2)
    (has_skips d (sign.Repeats Plus) p.1 rest refl p.3)
writes_skips d (Maybe a) g text h rest p = skips_both d text p.1 rest (writes_skips d a g text h p.1 p.2)
    (has_skips d (sign.Repeats Opt) p.1 rest refl p.3)
writes_skips d (Group n a) g text h rest p =
    skips_both d text p.1 rest (has_skips d sign.Open text p.1 refl p.3)
    (skips_both d p.1 p.2 rest (writes_skips d a n p.1 h p.2 p.4) (has_skips d sign.Close p.2 rest refl p.5))

pub whole_expression : (d : ℕ) (text : List ℕ) (r : Tree) → IsExpression (Some d) text r → is_whole d false text ≡ true
whole_expression d text r x =
    let s = writes_skips d r 0 text x.0 [] x.1 in
    ap (is_whole d false) (s.1 ∙ append-nil s.0) ∙ s.2

-- ---- where an expression ends

ends_within : (stop : Option ℕ) (text : List ℕ) (end : ℕ) → MayEnd stop text end → end ≤ length text
ends_within stop text end (inl e) = omega arith
ends_within stop text end (inr p) = omega (arith, p.0)

-- the text ends, or a delimiter comes
abbrev pub Stopped : ℕ → List ℕ → Type 0
Stopped d [] = Unit {0}
Stopped d (c ∷ cs) = (d == c) ≡ true

pub whole_length : (d : ℕ) (e : Bool) (b t : List ℕ) → is_whole d e b ≡ true → Stopped d t
    → body_length d e (b ++ t) ≡ length b
whole_length d true [] t w s = absurd cc
whole_length d false [] [] w s = refl
whole_length d false [] (c ∷ cs) w s = rw s refl
whole_length d true (c ∷ cs) t w s = omega (arith, whole_length d false cs t w s)
whole_length d false (c ∷ cs) t w s = go (d == c) refl (λ x h. whole_length d x cs t h s)
  where
    go : (b : Bool) → (d == c) ≡ b → ((x : Bool) → is_whole d x cs ≡ true → body_length d x (cs ++ t) ≡ length cs)
        → body_length d false (c ∷ cs ++ t) ≡ suc (length cs)
    go true f k = absurd (let h = rw f at w in cc)
    go false f k = rw f (omega (arith, k (c == 92) (rw f at w)))

pub whole_cut : (d : ℕ) (e : Bool) (b : List ℕ) (c : ℕ) (more : List ℕ)
    → (d == c) ≡ true → is_whole d e b ≡ true → is_whole d e (b ++ c ∷ more) ≡ false
whole_cut d true [] c more f w = absurd cc
whole_cut d false [] c more f w = rw f refl
whole_cut d true (x ∷ xs) c more f w = whole_cut d false xs c more f w
whole_cut d false (x ∷ xs) c more f w = go (d == x) refl (λ y h. whole_cut d y xs c more f h)
  where
    go : (b : Bool) → (d == x) ≡ b → ((y : Bool) → is_whole d y xs ≡ true → is_whole d y (xs ++ c ∷ more) ≡ false)
        → is_whole d false (x ∷ xs ++ c ∷ more) ≡ false
    go true g k = absurd (let h = rw g at w in cc)
    go false g k = rw g (k (x == 92) (rw g at w))

pub stopped_at : (d : ℕ) (text : List ℕ) (end : ℕ) → MayEnd (Some d) text end → Stopped d (drop end text)
stopped_at d text end (inl e) = rw (e, drop_end text) tt
stopped_at d text end (inr p) = rw (drop_more text end 0 p.0) p.1

pub read_ends : (d : ℕ) (text : List ℕ) (from end : ℕ) (r : Tree) → IsRead (Some d) text from end r → (found : ℕ)
    → from + body_length d false (drop from text) ≡ found → end ≡ found
read_ends d text from end r read found is =
    let body = slice_range text from end in
    let front : body ++ drop (end - from) (drop from text) ≡ drop from text = take-append-drop (end - from)
    (drop from text) in
    let place : from + (end - from) ≡ end = omega (arith, read.order) in
    let tail : drop (end - from) (drop from text) ≡ drop end text = drop-drop (end - from) from text
    ∙ ap (λ k. drop k text) place in
    let stops : Stopped d (drop (end - from) (drop from text)) = rw tail (stopped_at d text end read.ends) in
    let long : body_length d false (body ++ drop (end - from) (drop from text)) ≡ length body = whole_length d false
    body (drop (end - from) (drop from text)) (whole_expression d body r read.written) stops in
    let same : body_length d false (drop from text) ≡ length body = ap (body_length d false) (sym front) ∙ long in
    omega (arith, same, is, read.order, slice_length text from end read.order (ends_within (Some d) text end read.ends))

-- ---- searches

pub search_dead : (d : ℕ) (text : List ℕ) (from place : ℕ) → IsBad (Some d) text from place → (more : List ℕ)
    → Continues text place more → (body tail : List ℕ) (r : Tree) → slice_range text from place
    ++ more ≡ body ++ tail → IsExpression (Some d) body r → Stopped d tail → ⊥
search_dead d text from place bad more next body tail r e x stops =
    go (cut_twice (slice_range text from place) more body tail e) next
  where
    here : body ≡ slice_range text from place → MayEnd (Some d) text place → ⊥
    here same may = bad.short may r (subst (λ (l : List ℕ). IsExpression (Some d) l r) same x)

    go : (((x : List ℕ) × (body ≡ slice_range text from place ++ x) × (more ≡ x ++ tail))
        ⊎ ((y : ℕ) × (ys : List ℕ) × (slice_range text from place ≡ body ++ y ∷ ys) × (tail ≡ y ∷ ys ++ more)))
        → Continues text place more → ⊥
    go (inl ([], f, g)) (inl p) = here (f ∙ append-nil (slice_range text from place)) (inl p.0)
    go (inl ([], f, g)) (inr p) =
        let stop : Stopped d (get_or text place 0 ∷ p.1) = subst (λ (l : List ℕ). Stopped d l) (sym g ∙ p.2) stops in
        here (f ∙ append-nil (slice_range text from place)) (inr (p.0, stop))
    go (inl (y ∷ ys, f, g)) (inl p) = let h = p.1 in absurd cc
    go (inl (y ∷ ys, f, g)) (inr p) =
        let h = p.2 in
        let first : y ≡ get_or text place 0 = cc in
        let long : body ≡ slice_range text from (place + 1) ++ ys =
        f ∙ ap (λ z. slice_range text from place ++ z ∷ ys) first ∙
        sym (append_assoc (slice_range text from place) (get_or text place 0 ∷ []) ys)
        ∙ ap (λ (l : List ℕ). l ++ ys) (sym (slice_more text from place bad.order p.0)) in
        bad.after p.0 (ys, r, subst (λ (l : List ℕ). IsExpression (Some d) l r) long x)
    go (inr (y, ys, f, g)) k =
        let stop : (d == y) ≡ true = subst (λ (l : List ℕ). Stopped d l) g stops in
        let on = bad.before in
        let long : slice_range text from place ++ on.0 ≡ body ++ y ∷ (ys ++ on.0) = ap (λ (l : List ℕ). l ++ on.0) f
        ∙ append_assoc body (y ∷ ys) on.0 in
        let cut : is_whole d false (body ++ y ∷ (ys ++ on.0)) ≡ false = whole_cut d false body y (ys ++ on.0) stop
        (whole_expression d body r x) in
        let full : is_whole d false (slice_range text from place ++ on.0) ≡ true = whole_expression d
        (slice_range text from place ++ on.0) on.1 on.2 in
        let same = ap (is_whole d false) long in
        absurd cc

-- a search that is written so can't go on at a bad place
pub search_stuck : (d : ℕ) (text : List ℕ) (from place : ℕ) → IsBad (Some d) text from place → (more : List ℕ)
    → Continues text place more → (r : Tree) (cs behind : List ℕ) → slice_range text from place
    ++ more ≡ cs ++ behind → (d == d) ≡ true → IsSearch d r cs (next_of behind) → ⊥
search_stuck d text from place bad more next r cs behind e same (body, x, inl f) =
    search_dead d text from place bad more next body (d ∷ behind) r
    (e ∙ ap (λ (l : List ℕ). l ++ behind) f ∙ append_assoc body (d ∷ []) behind) x same
search_stuck d text from place bad more next r cs [] e same (body, x, inr p) =
    search_dead d text from place bad more next body [] r (e ∙ ap (λ (l : List ℕ). l ++ []) p.0) x tt
search_stuck d text from place bad more next r cs (b ∷ bs) e same (body, x, inr p) = let h = p.1 in absurd cc

pub search_written : (d : ℕ) (text : List ℕ) (from end : ℕ) (r : Tree) → IsRead (Some d) text from end r → (b : Bool)
    → nat_lt end (length text) ≡ b → (from ≤ behind_at text end) × (behind_at text end ≤ length text)
    × IsSearch d r (slice_range text from (behind_at text end)) (next_of (drop (behind_at text end) text))
search_written d text from end r read true t =
    let l : end < length text = ltb-true end (length text) t in
    let stop : (d == get_or text end 0) ≡ true = elim read.ends [
      | inl e ↦ absurd (omega (arith, e, l))
      | inr p ↦ p.1
    ] in
    let same : get_or text end 0 ≡ d = sym (eqb-true d (get_or text end 0) stop) in
    rw t (
      omega (arith, read.order),
      omega (arith, l),
      (
        slice_range text from end,
        read.written,
        inl (slice_more text from end read.order l ∙ ap (λ z. slice_range text from end ++ z ∷ []) same),
      ),
    )
search_written d text from end r read false t =
    let within : end ≤ length text = ends_within (Some d) text end read.ends in
    let e : end ≡ length text = omega (arith, ltb-false end (length text) t, within) in
    rw t (
      read.order,
      within,
      (
        slice_range text from end,
        read.written,
        inr (refl, ap next_of (ap (λ k. drop k text) e ∙ drop_end text)),
      ),
    )

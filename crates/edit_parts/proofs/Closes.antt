-- A piece may end a line, with some runes more where it ends the text.
use Rattle.std.proofs.Common.{◌≡◌, ℕ, ◌==◌, ◌⊎◌, Bool, true, false, List, [], ◌∷◌, ◌++◌, Option, Some, None, refl, sym}
use Rattle.std.proofs.Common.{ap, subst, ◌∙◌, inl, inr, append-nil, append_assoc}
use Rattle.std.proofs.lemmas.Bool.{eqb-true}
use Rattle.std.proofs.lemmas.List.{append_cancel_right}
use Rattle.re_syntax.specs.Tree as expression
use Rattle.addr_syntax.specs.Tree as address
use Rattle.addr_syntax.specs.Marks.{next_of, begins_piece}
use Rattle.addr_syntax.specs.Scan.{is_whole}
use Rattle.addr_syntax.specs.Pieces as part
use Rattle.addr_syntax.specs.Grammar.{Begins}
use Rattle.addr_syntax.proofs.Rows.{begins_loose, Loose}
use Rattle.addr_syntax.proofs.Fronts.{piece_closable, row_first, rows_close, not_both}
use Rattle.edit_parts.specs.Tree.{Action}
use Rattle.edit_parts.specs.Kinds.{kind_of, ends_line, is_next}
use Rattle.edit_parts.specs.Texts.{after_blanks, unescaped, are_lines, Quoted, Text, RestOfLine, Nth, All}
use Rattle.edit_parts.specs.Pieces.{Piece, LoopsOver, SubstitutesAs, ActsAs, GoesOnAs, IsPiece}
use Rattle.edit_parts.specs.Laws.{MayEndLine}
use Rattle.edit_parts.specs.declared.kind.Letter.{Letter}
use Rattle.edit_parts.specs.declared.kind.Letter.TheVariants as letter
use Rattle.edit_parts.specs.declared.kind.Loop.{Loop}
use Rattle.edit_parts.specs.declared.kind.Loop.TheVariants.{ForEach, ForBetween, Where, WhereNot}
use Rattle.edit_parts.specs.declared.kind.Kind.{Kind}
use Rattle.edit_parts.specs.declared.kind.Kind.TheVariants as kind
use Rattle.edit_parts.proofs.Parts.{Skipped, skipped, solid_behind}
use Rattle.edit_parts.proofs.Substitutions.{slash_behind, quoted_behind}
use Rattle.edit_parts.proofs.Acts.{ends_no_piece}

-- the runes of something and some more may stand at the end of a line; none is needed where a rune comes next
abbrev pub Closing : (List ℕ → List ℕ → Type 0) → List ℕ → List ℕ → Type 0
Closing R u y =
    (more : List ℕ) × ((n : ℕ) → next_of y ≡ Some n → more ≡ []) × (u ≡ [] → more ≡ [])
    × ((z : List ℕ) → ends_line (next_of z) ≡ true → R ((u ++ more) ++ z) z)

still : (R : List ℕ → List ℕ → Type 0) (u y : List ℕ) → ((z : List ℕ) → ends_line (next_of z) ≡ true → R (u ++ z) z)
    → Closing R u y
still R u y f = ([], λ n e. refl, λ e. refl, λ z e. subst (λ (l : List ℕ). R (l ++ z) z) (sym (append-nil u)) (f z e))

ends_not : (c : ℕ) (z : List ℕ) → (10 == c) ≡ false → ends_line (next_of z) ≡ true → is_next c (next_of z) ≡ false
ends_not c [] f e = refl
ends_not c (d ∷ ds) f e = ap (λ v. v == c) (eqb-true d 10 e) ∙ f

-- ---- behind blanks

abbrev Suffix : (List ℕ → List ℕ → Type 0) → Type 0
Suffix R = (t r : List ℕ) → R t r → (w : List ℕ) × (t ≡ w ++ r)

first_solid : (w more y z : List ℕ) → is_next 32 (next_of (w ++ y)) ≡ false → (w ≡ [] → more ≡ [])
    → ends_line (next_of z) ≡ true → is_next 32 (next_of ((w ++ more) ++ z)) ≡ false
first_solid [] more y z h b e = ap (λ (l : List ℕ). is_next 32 (next_of (l ++ z))) (b refl) ∙ ends_not 32 z refl e
first_solid (c ∷ cs) more y z h b e = h

blank_closing : (R : List ℕ → List ℕ → Type 0) (u y : List ℕ) → Suffix R → ((w : List ℕ) → R (w ++ y) y → Closing R w y)
    → R (after_blanks (u ++ y)) y → Closing (λ t r. R (after_blanks t) r) u y
blank_closing R u y suffix closing x = (c.0, c.1, bare, closed)
  where
    s : Skipped (u ++ y)
    s = skipped (u ++ y)

    w : (w : List ℕ) × (after_blanks (u ++ y) ≡ w ++ y)
    w = suffix (after_blanks (u ++ y)) y x

    cut : u ≡ s.0 ++ w.0
    cut = append_cancel_right u (s.0 ++ w.0) y (s.1 ∙ ap (λ (l : List ℕ). s.0 ++ l) w.1 ∙ sym (append_assoc s.0 w.0 y))

    c : Closing R w.0 y
    c = closing w.0 (subst (λ (t : List ℕ). R t y) w.1 x)

    no_front : (a b : List ℕ) → a ++ b ≡ [] → b ≡ []
    no_front [] b e = e
    no_front (d ∷ ds) b e = absurd cc

    bare : u ≡ [] → c.0 ≡ []
    bare e = c.2 (no_front s.0 w.0 (sym cut ∙ e))

    closed : (z : List ℕ) → ends_line (next_of z) ≡ true → R (after_blanks ((u ++ c.0) ++ z)) z
    closed z e =
        let solid : is_next 32 (next_of ((w.0 ++ c.0) ++ z)) ≡ false = first_solid w.0 c.0 y z
        (ap (λ (t : List ℕ). is_next 32 (next_of t)) (sym w.1) ∙ solid_behind (u ++ y)) c.2 e in
        let group : (u ++ c.0) ++ z ≡ s.0 ++ ((w.0 ++ c.0) ++ z) =
        ap (λ (l : List ℕ). (l ++ c.0) ++ z) cut ∙ ap (λ (l : List ℕ). l ++ z) (append_assoc s.0 w.0 c.0)
        ∙ append_assoc s.0 (w.0 ++ c.0) z in
        let gone : after_blanks ((u ++ c.0) ++ z) ≡ (w.0 ++ c.0) ++ z = ap after_blanks group
        ∙ s.2 ((w.0 ++ c.0) ++ z) solid in
        subst (λ (t : List ℕ). R t z) (sym gone) (c.3 z e)

-- ---- addresses

row_ends : (p : part.Piece) (ps : List part.Piece) (text : List ℕ) → part.BeginsWith (p ∷ ps) text [] → (more : List ℕ)
    × ((z : List ℕ) → begins_piece (next_of z) ≡ false → part.BeginsWith (p ∷ ps) ((text ++ more) ++ z) z)
row_ends p [] text x =
    let c = piece_closable p x.0 (next_of x.1) x.3 in
    let whole : text ≡ x.0 = x.2 ∙ ap (λ (l : List ℕ). x.0 ++ l) x.4 ∙ append-nil x.0 in
    (c.0, λ z e. (x.0 ++ c.0, z, ap (λ (l : List ℕ). (l ++ c.0) ++ z) whole, c.1 (next_of z) e, refl))
row_ends p (q ∷ qs) text x =
    let on = row_ends q qs x.1 x.4 in (
      on.0,
      λ z e. (
        x.0,
        (x.1 ++ on.0) ++ z,
        ap (λ (l : List ℕ). (l ++ on.0) ++ z) x.2
            ∙ ap (λ (l : List ℕ). l ++ z) (append_assoc x.0 x.1 on.0) ∙ append_assoc x.0 (x.1 ++ on.0) z,
        subst (λ (n : Option ℕ). part.IsPiece p x.0 n) (same x.1 on.0 z (row_first q qs x.1 [] x.4)) x.3,
        on.1 z e,
      ),
    )
  where
    same : (t more z : List ℕ) → begins_piece (next_of t) ≡ true → next_of t ≡ next_of ((t ++ more) ++ z)
    same [] more z e = absurd cc
    same (c ∷ cs) more z e = refl

address_suffix : (a : address.Tree) → Suffix (Begins a)
address_suffix a t r x =
    let l : Loose (x.0 ∷ x.1) t r = begins_loose (x.0 ∷ x.1) t r x.3 in
    (l.0, l.1)

address_closing : (a : address.Tree) (w y : List ℕ) → Begins a (w ++ y) y → Closing (Begins a) w y
address_closing a w y x = go y refl
  where
    bare : w ≡ [] → ⊥
    bare e = not_both (begins_piece (next_of y)) (ap (λ (l : List ℕ). begins_piece (next_of (l ++ y))) (sym e)
        ∙ row_first x.0 x.1 (w ++ y) y x.3) x.6

    go : (k : List ℕ) → y ≡ k → Closing (Begins a) w y
    go [] e =
        let row : part.BeginsWith (x.0 ∷ x.1) w [] = subst (λ (l : List ℕ). part.BeginsWith (x.0 ∷ x.1) l [])
        (append-nil w) (subst (λ (l : List ℕ). part.BeginsWith (x.0 ∷ x.1) (w ++ l) l) e x.3) in
        let on = row_ends x.0 x.1 w row in (
          on.0,
          λ n f. absurd (let g : None ≡ Some n = ap next_of (sym e) ∙ f in cc),
          λ f. absurd (bare f),
          λ z f.
              (x.0, x.1, x.2, on.1 z (ends_no_piece (next_of z) f), x.4, x.5, ends_no_piece (next_of z) f),
        )
    go (c ∷ cs) e =
        let on = rows_close (x.0 ∷ x.1) (w ++ y) y c (ap next_of e) x.3 in
        let same : on.0 ≡ w = append_cancel_right on.0 w y (sym on.1) in
        still (Begins a) w y (λ z f. (
          x.0,
          x.1,
          x.2,
          subst (λ (l : List ℕ). part.BeginsWith (x.0 ∷ x.1) (l ++ z) z) same
              (on.2 z (ends_no_piece (next_of z) f)),
          x.4,
          x.5,
          ends_no_piece (next_of z) f,
        ))

-- ---- expressions

quoted_suffix : (re : expression.Tree) → Suffix (Quoted re)
quoted_suffix re t r (body, e, x) = (
  47 ∷ body ++ 47 ∷ [],
  e ∙ ap (λ (l : List ℕ). 47 ∷ l)
      (sym (append_assoc body (47 ∷ []) r)),
)

quoted_closing : (re : expression.Tree) (w y : List ℕ) → Quoted re (w ++ y) y → Closing (Quoted re) w y
quoted_closing re w y x = still (Quoted re) w y (λ z e. quoted_behind re w y z x)

loop_suffix : (k : Loop) (re : expression.Tree) → Suffix (LoopsOver k re)
loop_suffix ForEach re t r (inl x) = quoted_suffix re t r x
loop_suffix ForEach re t r (inr x) = ([], x.1)
loop_suffix ForBetween re t r x = quoted_suffix re t r x
loop_suffix Where re t r x = quoted_suffix re t r x
loop_suffix WhereNot re t r x = quoted_suffix re t r x

loop_closing : (k : Loop) (re : expression.Tree) (w y : List ℕ) → LoopsOver k re (w ++ y) y
    → Closing (LoopsOver k re) w y
loop_closing ForEach re w y (inl x) = still (LoopsOver ForEach re) w y (λ z e. inl (quoted_behind re w y z x))
loop_closing ForEach re w y (inr x) =
    let none : w ≡ [] = append_cancel_right w [] y x.1 in
    still (LoopsOver ForEach re) w y (λ z e. inr (x.0, ap (λ (l : List ℕ). l ++ z) none, ends_not 47 z refl e))
loop_closing ForBetween re w y x = quoted_closing re w y x
loop_closing Where re w y x = quoted_closing re w y x
loop_closing WhereNot re w y x = quoted_closing re w y x

-- ---- texts

abbrev TextParts : List ℕ → List ℕ → List ℕ → Type 0
TextParts t text rest =
    ((body : List ℕ) × (text ≡ (47 ∷ body ++ 47 ∷ []) ++ rest) × (t ≡ unescaped false body)
    × (is_whole 47 false body ≡ true)) ⊎ ((text ≡ (10 ∷ t ++ 46 ∷ []) ++ rest) × (are_lines true t ≡ true))

text_parts : (t text rest : List ℕ) → Text t text rest → TextParts t text rest
text_parts t [] rest x = absurd x
text_parts t (c ∷ cs) rest (inl x) =
    inl (
      x.1,
      ap (λ z. z ∷ cs) x.0 ∙ ap (λ (l : List ℕ). 47 ∷ l) (x.3.0 ∙ sym (append_assoc x.1 (47 ∷ []) rest)),
      x.2,
      x.3.1,
    )
text_parts t (c ∷ cs) rest (inr x) =
    inr (ap (λ z. z ∷ cs) x.0 ∙ ap (λ (l : List ℕ). 10 ∷ l) (x.1.0 ∙ sym (append_assoc t (46 ∷ []) rest)), x.1.1)

text_suffix : (t : List ℕ) → Suffix (Text t)
text_suffix t text rest x = elim (text_parts t text rest x) [
  | inl p ↦ (47 ∷ p.0 ++ 47 ∷ [], p.1)
  | inr p ↦ (10 ∷ t ++ 46 ∷ [], p.0)
]

text_closing : (t w y : List ℕ) → Text t (w ++ y) y → Closing (Text t) w y
text_closing t w y x = still (Text t) w y (λ z e. go z e (text_parts t (w ++ y) y x))
  where
    go : (z : List ℕ) → ends_line (next_of z) ≡ true → TextParts t (w ++ y) y → Text t (w ++ z) z
    go z e (inl p) =
        let cut : w ≡ 47 ∷ p.0 ++ 47 ∷ [] = append_cancel_right w (47 ∷ p.0 ++ 47 ∷ []) y p.1 in
        subst (λ (l : List ℕ). Text t (l ++ z) z) (sym cut) (inl (refl, p.0, p.2, (append_assoc p.0 (47 ∷ []) z, p.3)))
    go z e (inr p) =
        let cut : w ≡ 10 ∷ t ++ 46 ∷ [] = append_cancel_right w (10 ∷ t ++ 46 ∷ []) y p.0 in
        subst (λ (l : List ℕ). Text t (l ++ z) z) (sym cut) (inr (refl, (append_assoc t (46 ∷ []) z, p.1, e)))

rest_suffix : (t : List ℕ) → Suffix (RestOfLine t)
rest_suffix t text rest x = (t, x.0)

rest_closing : (t w y : List ℕ) → RestOfLine t (w ++ y) y → Closing (RestOfLine t) w y
rest_closing t w y x =
    let cut : w ≡ t = append_cancel_right w t y x.0 in
    still (RestOfLine t) w y (λ z e. (ap (λ (l : List ℕ). l ++ z) cut, x.1, e))

-- ---- substitutions

nth_suffix : (n : ℕ) → Suffix (Nth n)
nth_suffix n t r (inl x) = ([], sym x.2)
nth_suffix n t r (inr (digits, m, e, number, i)) =
    let s : Skipped m = skipped m in (
      digits ++ s.0,
      e ∙ ap (λ (l : List ℕ). digits ++ l) (s.1 ∙ ap (λ (l : List ℕ). s.0 ++ l) (sym i))
          ∙ sym (append_assoc digits s.0 r),
    )

-- a `g` with the blanks before it, where there is one
abbrev AllParts : Bool → List ℕ → List ℕ → Type 0
AllParts all k y = (w : List ℕ) × (k ≡ w ++ y) × ((z : List ℕ) → ends_line (next_of z) ≡ true → All all
    (after_blanks (w ++ z)) z)

all_parts : (all : Bool) (k y : List ℕ) → All all (after_blanks k) y → AllParts all k y
all_parts true k y x =
    let s : Skipped k = skipped k in (
      s.0 ++ 103 ∷ [],
      s.1 ∙ ap (λ (l : List ℕ). s.0 ++ l) x ∙ sym (append_assoc s.0 (103 ∷ []) y),
      λ z e. ap after_blanks (append_assoc s.0 (103 ∷ []) z) ∙ s.2 (103 ∷ z) refl,
    )
all_parts false k y x =
    let s : Skipped k = skipped k in
    (s.0, s.1 ∙ ap (λ (l : List ℕ). s.0 ++ l) x.0, λ z e. (s.2 z (ends_not 32 z refl e), ends_not 103 z refl e))

-- what stands before the rest of a substitution: its number, and all behind it
abbrev SubstituteParts : Action → List ℕ → List ℕ → Type 0
SubstituteParts act text y =
    (d w : List ℕ) × (text ≡ (d ++ w) ++ y) × ((z : List ℕ) → ends_line (next_of z) ≡ true → SubstitutesAs act
    ((d ++ w) ++ z) z)

substitute_parts : (act : Action) (text y : List ℕ) → SubstitutesAs act text y → SubstituteParts act text y
substitute_parts act text y (n, re, with, all, e, (l, m, k, a, (body, f, x), c, g)) = (d.0, slashes, cut, closed)
  where
    ends : AllParts all k y
    ends = all_parts all k y g

    d : (d : List ℕ) × (text ≡ d ++ l)
    d = nth_suffix n text l a

    -- the runes behind the number, where these stand behind them
    from_slash : List ℕ → List ℕ
    from_slash z = 47 ∷ body ++ 47 ∷ (with ++ 47 ∷ (ends.0 ++ z))

    slashes : List ℕ
    slashes = from_slash []

    l_is : l ≡ from_slash y
    l_is = f ∙ ap (λ (t : List ℕ). 47 ∷ body ++ 47 ∷ t) (c.0 ∙ ap (λ (t : List ℕ). with ++ 47 ∷ t) ends.1)

    slashes_on : (z : List ℕ) → slashes ++ z ≡ from_slash z
    slashes_on z =
        ap (λ (t : List ℕ). 47 ∷ t) (append_assoc body (47 ∷ (with ++ 47 ∷ (ends.0 ++ []))) z
        ∙ ap (λ (t : List ℕ). body ++ 47 ∷ t) (append_assoc with (47 ∷ (ends.0 ++ [])) z
        ∙ ap (λ (t : List ℕ). with ++ 47 ∷ (t ++ z)) (append-nil ends.0)))

    cut : text ≡ (d.0 ++ slashes) ++ y
    cut = d.1 ∙ ap (λ (t : List ℕ). d.0 ++ t) (l_is ∙ sym (slashes_on y)) ∙ sym (append_assoc d.0 slashes y)

    closed : (z : List ℕ) → ends_line (next_of z) ≡ true → SubstitutesAs act ((d.0 ++ slashes) ++ z) z
    closed z h =
        let nth : Nth n (d.0 ++ from_slash z) (from_slash z) = slash_behind n d.0 l (from_slash z)
        (subst (λ (t : List ℕ). Nth n t l) d.1 a) refl refl in
        let group : (d.0 ++ slashes) ++ z ≡ d.0 ++ from_slash z = append_assoc d.0 slashes z
        ∙ ap (λ (t : List ℕ). d.0 ++ t) (slashes_on z) in
        let whole : SubstitutesAs act (d.0 ++ from_slash z) z = (
          n,
          re,
          with,
          all,
          e,
          (from_slash z, with ++ 47 ∷ (ends.0 ++ z), ends.0 ++ z, nth, (body, refl, x), (refl, c.1), ends.2 z h),
        ) in
        subst (λ (t : List ℕ). SubstitutesAs act t z) (sym group) whole

substitute_suffix : (act : Action) → Suffix (SubstitutesAs act)
substitute_suffix act t r x = let p = substitute_parts act t r x in (p.0 ++ p.1, p.2)

substitute_closing : (act : Action) (w y : List ℕ) → SubstitutesAs act (w ++ y) y → Closing (SubstitutesAs act) w y
substitute_closing act w y x =
    let p = substitute_parts act (w ++ y) y x in
    let cut : w ≡ p.0 ++ p.1 = append_cancel_right w (p.0 ++ p.1) y p.2 in
    still (SubstitutesAs act) w y (λ z e. subst (λ (l : List ℕ). SubstitutesAs act (l ++ z) z) (sym cut) (p.3 z e))

-- ---- letters and pieces

none_between : (u y : List ℕ) → u ++ y ≡ y → u ≡ []
none_between u y e = append_cancel_right u [] y e

act_closing : (l : Letter) (act : Action) (u y : List ℕ) → ActsAs l act (u ++ y) y → Closing (ActsAs l act) u y
act_closing (letter.Puts place) act u y x =
    let c = blank_closing (Text x.0) u y (text_suffix x.0) (λ w z. text_closing x.0 w y z) x.2 in
    (c.0, c.1, c.2, λ z e. (x.0, x.1, c.3 z e))
act_closing letter.Delete act u y x = still (ActsAs letter.Delete act) u y
    (λ z e. (x.0, ap (λ (l : List ℕ). l ++ z) (none_between u y x.1)))
act_closing letter.Substitute act u y x = blank_closing (SubstitutesAs act) u y (substitute_suffix act)
    (λ w z. substitute_closing act w y z) x
act_closing (letter.Sends way) act u y x =
    let c = blank_closing (Begins x.0) u y (address_suffix x.0) (λ w z. address_closing x.0 w y z) x.2 in
    (c.0, c.1, c.2, λ z e. (x.0, x.1, c.3 z e))
act_closing letter.Print act u y x = still (ActsAs letter.Print act) u y
    (λ z e. (x.0, ap (λ (l : List ℕ). l ++ z) (none_between u y x.1)))
act_closing letter.Equals act u y (inl x) =
    let cut : u ≡ 35 ∷ [] = append_cancel_right u (35 ∷ []) y x.1 in
    still (ActsAs letter.Equals act) u y (λ z e. inl (x.0, ap (λ (l : List ℕ). l ++ z) cut))
act_closing letter.Equals act u y (inr x) =
    still (ActsAs letter.Equals act) u y (λ z e. inr (
      x.0,
      ap (λ (l : List ℕ). l ++ z) (none_between u y x.1),
      ends_not 35 z refl e,
    ))
act_closing (letter.Asks request) act u y x =
    let c = blank_closing (RestOfLine x.0) u y (rest_suffix x.0) (λ w z. rest_closing x.0 w y z) x.2 in
    (c.0, c.1, c.2, λ z e. (x.0, x.1, c.3 z e))

-- the same of a piece behind its first rune, which may be all of it
abbrev Ending : (List ℕ → List ℕ → Type 0) → List ℕ → List ℕ → Type 0
Ending R u y = (more : List ℕ) × ((n : ℕ) → next_of y ≡ Some n → more ≡ [])
    × ((z : List ℕ) → ends_line (next_of z) ≡ true → R ((u ++ more) ++ z) z)

alone : (R : List ℕ → List ℕ → Type 0) (u y : List ℕ) → ((t r : List ℕ) → t ≡ r → R t r) → u ++ y ≡ y → Ending R u y
alone R u y f x = (
  [],
  λ n e. refl,
  λ z e. f ((u ++ []) ++ z) z (ap (λ (l : List ℕ). l ++ z)
      (append-nil u ∙ none_between u y x)),
)

piece_ending : (k : Kind) (p : Piece) (c : ℕ) (u y : List ℕ) → GoesOnAs k p c (u ++ y) y → Ending (GoesOnAs k p c) u y
piece_ending kind.Blank p c u y x = alone (GoesOnAs kind.Blank p c) u y (λ t r e. (x.0, e)) x.1
piece_ending kind.EndsLine p c u y x = alone (GoesOnAs kind.EndsLine p c) u y (λ t r e. (x.0, e)) x.1
piece_ending kind.Address p c u y x =
    let d = address_closing x.0 (c ∷ u) y x.2 in
    (d.0, d.1, λ z e. (x.0, x.1, d.3 z e))
piece_ending (kind.Loops k) p c u y x =
    let d = blank_closing (LoopsOver k x.0) u y (loop_suffix k x.0) (λ w z. loop_closing k x.0 w y z) x.2 in
    (d.0, d.1, λ z e. (x.0, x.1, d.3 z e))
piece_ending kind.Opens p c u y x = alone (GoesOnAs kind.Opens p c) u y (λ t r e. (x.0, e)) x.1
piece_ending kind.Closes p c u y x = alone (GoesOnAs kind.Closes p c) u y (λ t r e. (x.0, e)) x.1
piece_ending (kind.Acts l) p c u y x =
    let d = act_closing l x.0 u y x.2 in
    (d.0, d.1, λ z e. (x.0, x.1, d.3 z e))
piece_ending kind.Other p c u y x = absurd x

pub piece_ends_line : (p : Piece) (v : List ℕ) (next : Option ℕ) → IsPiece p v next → MayEndLine p v next
piece_ends_line p [] next x = absurd x
piece_ends_line p (c ∷ cs) None x =
    let d = piece_ending (kind_of c) p c cs [] (x [] refl) in
    (d.0, λ n e. absurd cc, λ m e rest same. d.2 rest (ap ends_line same ∙ e))
piece_ends_line p (c ∷ cs) (Some n) x =
    let d = piece_ending (kind_of c) p c cs (n ∷ []) (x (n ∷ []) refl) in
    (d.0, λ k e. d.1 n refl, λ m e rest same. d.2 rest (ap ends_line same ∙ e))

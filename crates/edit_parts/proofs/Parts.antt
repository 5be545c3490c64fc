-- Parts of pieces, one behind another.
use Rattle.std.proofs.Common.{◌≡◌, ℕ, ◌+◌, ◌-◌, ◌<◌, ◌≤◌, ◌==◌, Bool, true, false, not, List, [], ◌∷◌, ◌++◌, length}
use Rattle.std.proofs.Common.{take, drop, Option, None, refl, sym, ap, subst, ◌∙◌, arith, append-nil, append_assoc}
use Rattle.std.specs.Prelude.{slice_range, nat_lt, if◌then◌else◌}
use Rattle.std.proofs.lemmas.Bool.{ltb-true, ltb-false}
use Rattle.std.proofs.lemmas.List.{take_at, drop_at, drop-drop}
use Rattle.addr_syntax.specs.Marks.{next_of}
use Rattle.addr_syntax.proofs.Slices.{slice_none, slice_front, next_at, drop_end}
use Rattle.addr_syntax.proofs.Places.{slice_behind}
use Rattle.addr_syntax.proofs.Fronts.{next_joined, cut_more, same_front}
use Rattle.edit_parts.specs.Kinds.{is_next}
use Rattle.edit_parts.specs.Texts.{after_blanks}
use Rattle.edit_parts.specs.Read.{IsReadBy, IsBadBy, is_solid}

-- the next rune behind a part
pub next_behind : (text : List ℕ) (mid end : ℕ) (rest : List ℕ) → mid ≤ end → next_of rest ≡ next_of (drop end text)
    → next_of (slice_range text mid end ++ rest) ≡ next_of (drop mid text)
next_behind text mid end rest l e = next_joined (slice_range text mid end) rest (drop end text) e
    ∙ ap next_of (sym (slice_behind text mid end l))

-- a part stays where what stands behind it is changed behind its next rune
pub behind : (R : List ℕ → List ℕ → Type 0) (text : List ℕ) (from mid place : ℕ) → IsReadBy R text from mid
    → mid ≤ place → place ≤ length text → (more : List ℕ) → next_of more ≡ next_of (drop place text)
    → R (slice_range text from place ++ more) (slice_range text mid place ++ more)
behind R text from mid place x l m more e =
    subst (λ (t : List ℕ). R t (slice_range text mid place ++ more))
    (sym (cut_more text from mid place more x.order l m)) (x.written (slice_range text mid place ++ more)
    (next_behind text mid place more l e))

pub both : (R S T : List ℕ → List ℕ → Type 0) (text : List ℕ) (from mid end : ℕ) → IsReadBy R text from mid
    → IsReadBy S text mid end → ((t m r : List ℕ) → R t m → S m r → T t r) → IsReadBy T text from end
both R S T text from mid end x y f = record {
  order = omega (arith, x.order, y.order);
  within = y.within;
  written = λ rest e. f (slice_range text from end ++ rest) (slice_range text mid end ++ rest) rest
      (behind R text from mid end x y.order y.within rest e) (y.written rest e);
}

pub as_read : (R S : List ℕ → List ℕ → Type 0) (text : List ℕ) (from end : ℕ) → ((t r : List ℕ) → R t r → S t r)
    → IsReadBy R text from end → IsReadBy S text from end
as_read R S text from end f x = record {
  order = x.order;
  within = x.within;
  written = λ rest e. f (slice_range text from end ++ rest) rest (x.written rest e);
}

pub as_bad : (X Y : Type 0) (R : X → List ℕ → List ℕ → Type 0) (S : Y → List ℕ → List ℕ → Type 0)
    (ends fewer : Option ℕ → Bool) (text : List ℕ) (from place : ℕ) → ((n : Option ℕ) → fewer n ≡ true → ends n ≡ true)
    → (f : X → Y) → ((x : X) (t r : List ℕ) → R x t r → S (f x) t r)
    → ((y : Y) (t r : List ℕ) → S y t r → (x : X) × R x t r) → IsBadBy X R ends text from place
    → IsBadBy Y S fewer text from place
as_bad X Y R S ends fewer text from place k f g h bad = record {
  order = bad.order;
  within = bad.within;
  before =
      let b = bad.before in (
        b.0,
        f b.1,
        b.2,
        λ rest e. g b.1 ((slice_range text from place ++ b.0) ++ rest) rest
            (b.3 rest (k (next_of rest) e)),
      );
  dead = λ more e y rest s. let r = h y (slice_range text from place ++ more) rest s in bad.dead more e r.0 rest r.1;
}

-- ---- blanks

pub stands : (y : List ℕ) → is_next 32 (next_of y) ≡ false → after_blanks y ≡ y
stands [] h = refl
stands (c ∷ cs) h = ap (λ (v : Bool). if v then after_blanks cs else c ∷ cs) h

-- the blanks before a text, before which any text may stand that begins with none
abbrev pub Skipped : List ℕ → Type 0
Skipped t = (b : List ℕ) × (t ≡ b ++ after_blanks t) × ((y : List ℕ)
    → is_next 32 (next_of y) ≡ false → after_blanks (b ++ y) ≡ y)

skipped_at : (c : ℕ) (cs : List ℕ) → Skipped cs → (v : Bool) → (c == 32) ≡ v → Skipped (c ∷ cs)
skipped_at c cs s true e =
    let gone : (y : List ℕ) → after_blanks (c ∷ y) ≡ after_blanks y =
    λ y. ap (λ (v : Bool). if v then after_blanks y else c ∷ y) e in (
      c ∷ s.0,
      ap (λ (l : List ℕ). c ∷ l) (s.1 ∙ ap (λ (l : List ℕ). s.0 ++ l) (sym (gone cs))),
      λ y h. gone (s.0 ++ y)
          ∙ s.2 y h,
    )
skipped_at c cs s false e = ([], sym (ap (λ (v : Bool). if v then after_blanks cs else c ∷ cs) e), stands)

pub skipped : (t : List ℕ) → Skipped t
skipped [] = ([], refl, stands)
skipped (c ∷ cs) = skipped_at c cs (skipped cs) (c == 32) refl

solid_at : (c : ℕ) (cs : List ℕ) → is_next 32 (next_of (after_blanks cs)) ≡ false → (v : Bool)
    → (c == 32) ≡ v → is_next 32 (next_of (after_blanks (c ∷ cs))) ≡ false
solid_at c cs s true e = ap (λ (v : Bool). is_next 32 (next_of (if v then after_blanks cs else c ∷ cs))) e ∙ s
solid_at c cs s false e = ap (λ (v : Bool). is_next 32 (next_of (if v then after_blanks cs else c ∷ cs))) e ∙ e

pub solid_behind : (t : List ℕ) → is_next 32 (next_of (after_blanks t)) ≡ false
solid_behind [] = refl
solid_behind (c ∷ cs) = solid_at c cs (solid_behind cs) (c == 32) refl

pub blanks_cut : (text : List ℕ) (from mid : ℕ) → from ≤ mid → drop mid text ≡ after_blanks (drop from text)
    → (y : List ℕ) → is_next 32 (next_of y) ≡ false → after_blanks (slice_range text from mid ++ y) ≡ y
blanks_cut text from mid l e y h =
    let s = skipped (drop from text) in
    let same : s.0 ≡ slice_range text from mid = same_front text s.0 from mid l
    (s.1 ∙ ap (λ (t : List ℕ). s.0 ++ t) (sym e)) in
    subst (λ (w : List ℕ). after_blanks (w ++ y) ≡ y) same (s.2 y h)

-- what stands behind the blanks of a text that is changed behind a place
pub blanks_gone : (text : List ℕ) (from mid place : ℕ) → from ≤ mid → mid ≤ place → place ≤ length text
    → drop mid text ≡ after_blanks (drop from text) → (more : List ℕ)
    → is_next 32 (next_of (slice_range text mid place ++ more)) ≡ false →
    after_blanks (slice_range text from place ++ more) ≡ slice_range text mid place ++ more
blanks_gone text from mid place l m n e more h =
    ap after_blanks (cut_more text from mid place more l m n) ∙ blanks_cut text from mid l e
    (slice_range text mid place ++ more) h

solid_more : (text : List ℕ) (from mid place : ℕ) → mid ≤ place → drop mid text ≡ after_blanks (drop from text)
    → (more : List ℕ) → next_of more ≡ next_of (drop place text) → is_next 32
    (next_of (slice_range text mid place ++ more)) ≡ false
solid_more text from mid place l e more n =
    ap (is_next 32) (next_behind text mid place more l n) ∙ ap (λ (t : List ℕ). is_next 32 (next_of t)) e
    ∙ solid_behind (drop from text)

pub blank_read : (R : List ℕ → List ℕ → Type 0) (text : List ℕ) (from mid end : ℕ) → from ≤ mid
    → drop mid text ≡ after_blanks (drop from text) → IsReadBy R text mid end
    → IsReadBy (λ t r. R (after_blanks t) r) text from end
blank_read R text from mid end l e x = record {
  order = omega (arith, l, x.order);
  within = x.within;
  written = λ rest h.
      subst (λ (t : List ℕ). R t rest) (sym (blanks_gone text from mid end l x.order x.within e rest
      (solid_more text from mid end x.order e rest h))) (x.written rest h);
}

solid_next : (more rest : List ℕ) → is_solid (next_of more) ≡ true → is_next 32 (next_of (more ++ rest)) ≡ false
solid_next [] rest h = absurd cc
solid_next (c ∷ cs) rest h = go (c == 32) h
  where
    go : (v : Bool) → not v ≡ true → v ≡ false
    go true e = absurd cc
    go false e = refl

pub blank_bad : (X : Type 0) (R : X → List ℕ → List ℕ → Type 0) (ends : Option ℕ → Bool) (text : List ℕ)
    (from mid place : ℕ) → from ≤ mid → drop mid text ≡ after_blanks (drop from text) → IsBadBy X R ends text mid place
    → IsBadBy X (λ x t r. R x (after_blanks t) r) ends text from place
blank_bad X R ends text from mid place l e bad = record {
  order = omega (arith, l, bad.order);
  within = bad.within;
  before =
      let b = bad.before in (
        b.0,
        b.1,
        λ f. b.2 (omega (arith, f, l, bad.order)),
        λ rest h.
            let cut : (slice_range text from place ++ b.0) ++ rest ≡ slice_range text from place
            ++ (b.0 ++ rest) = append_assoc (slice_range text from place) b.0 rest in
            let back : slice_range text mid place ++ (b.0 ++ rest) ≡ (slice_range text mid place ++ b.0)
            ++ rest = sym (append_assoc (slice_range text mid place) b.0 rest) in
            let gone : after_blanks ((slice_range text from place ++ b.0) ++ rest) ≡ (slice_range text mid place ++ b.0)
            ++ rest = ap after_blanks cut ∙ blanks_gone text from mid place l bad.order bad.within e (b.0 ++ rest)
            (first b.0 rest b.2) ∙ back in
            subst (λ (t : List ℕ). R b.1 t rest) (sym gone) (b.3 rest h),
      );
  dead = λ more n x rest y.
      bad.dead more n x rest (subst (λ (t : List ℕ). R x t rest) (blanks_gone text from mid place l bad.order bad.within
      e more (solid_more text from mid place bad.order e more n)) y);
}
  where
    first : (more rest : List ℕ) → (mid ≡ place → is_solid (next_of more) ≡ true)
        → is_next 32 (next_of (slice_range text mid place ++ (more ++ rest))) ≡ false
    first more rest h = go (nat_lt mid place) refl
      where
        go : (b : Bool) → nat_lt mid place ≡ b → is_next 32 (next_of (slice_range text mid place ++ (more ++ rest)))
            ≡ false
        go true f =
            let some : mid < place = ltb-true mid place f in
            ap (λ (t : List ℕ). is_next 32 (next_of (t ++ (more ++ rest)))) (slice_front text mid place some bad.within)
            ∙ ap (is_next 32) (sym (next_at text mid (omega (arith, some, bad.within))))
            ∙ ap (λ (t : List ℕ). is_next 32 (next_of t)) e ∙ solid_behind (drop from text)
        go false f =
            let same : mid ≡ place = omega (arith, bad.order, ltb-false mid place f) in
            let none : slice_range text mid place ≡ [] = ap (λ k. slice_range text mid k) (sym same)
            ∙ slice_none text mid in
            ap (λ (t : List ℕ). is_next 32 (next_of (t ++ (more ++ rest)))) none ∙ solid_next more rest (h same)

-- ---- a text cut at a place

pub cut_found : (text : List ℕ) (from end : ℕ) (b rest : List ℕ) → from ≤ end
    → drop from text ≡ b ++ rest → length b ≡ end - from → (slice_range text from end ≡ b) × (drop end text ≡ rest)
cut_found text from end b rest l e n =
    let there : from + (end - from) ≡ end = omega (arith, l) in (
      ap (λ (t : List ℕ). take (end - from) t) e ∙ take_at b rest (end - from) n,
      ap (λ k. drop k text) (sym there)
          ∙ sym (drop-drop (end - from) from text) ∙ ap (λ (t : List ℕ). drop (end - from) t) e
          ∙ drop_at b rest (end - from) n,
    )

pub cuts_same : (b t c u : List ℕ) → b ++ t ≡ c ++ u → length b ≡ length c → (b ≡ c) × (t ≡ u)
cuts_same b t c u e same = (
  sym (take_at b t (length c) same) ∙ ap (λ (l : List ℕ). take (length c) l) e
      ∙ take_at c u (length c) refl,
  sym (drop_at b t (length c) same) ∙ ap (λ (l : List ℕ). drop (length c) l) e
      ∙ drop_at c u (length c) refl,
)

pub regroup : (s m rest : List ℕ) (c : ℕ) → (s ++ (m ++ c ∷ [])) ++ rest ≡ (s ++ m) ++ c ∷ rest
regroup s m rest c = ap (λ (l : List ℕ). l ++ rest) (sym (append_assoc s m (c ∷ [])))
    ∙ append_assoc (s ++ m) (c ∷ []) rest

pub none_left : (m : List ℕ) → next_of m ≡ None → m ≡ []
none_left [] e = refl
none_left (c ∷ cs) e = absurd cc

-- the whole rest of a text
pub all_behind : (text : List ℕ) (from end : ℕ) → from ≤ end → end ≡ length text
    → slice_range text from end ≡ drop from text
all_behind text from end l e = sym (slice_behind text from end l ∙ ap (λ (t : List ℕ). slice_range text from end ++ t)
    (ap (λ k. drop k text) e ∙ drop_end text) ∙ append-nil (slice_range text from end))

pub nothing_behind : (text : List ℕ) (end : ℕ) (more : List ℕ) → end ≡ length text
    → next_of more ≡ next_of (drop end text) → more ≡ []
nothing_behind text end more e n = none_left more (n ∙ ap (λ k. next_of (drop k text)) e ∙ ap next_of (drop_end text))

pub solid_ends : (more : List ℕ) (c : ℕ) → (c == 32) ≡ false → is_next 32 (next_of more) ≡ false →
    is_solid (next_of (more ++ c ∷ [])) ≡ true
solid_ends [] c e f = ap not e
solid_ends (x ∷ xs) c e f = ap not f

-- What is known of something that was cut off the front of a text.
use Rattle.std.proofs.Common.{◌≡◌, ℕ, Bool, true, false, ◌&&◌, ◌||◌, not, List, Option, Some, None, refl, ap}
use Rattle.sam_syntax.specs.Cuts.{Cut, cut_as, cut_on, before}

pub some_same : {X : Type 0} (x y : X) → Some x ≡ Some y → x ≡ y
some_same x y e = cc

pub cut_same : {X : Type 0} (x y : X) (a b : List ℕ) → ◌≡◌ {A = Cut X} (Some (x, a)) (Some (y, b)) → (x ≡ y) × (a ≡ b)
cut_same {X} x y a b e =
    let p : X × List ℕ = (x, a) in
    let q : X × List ℕ = (y, b) in
    let f : p ≡ q = some_same p q e in
    (ap (λ (z : X × List ℕ). z.0) f, ap (λ (z : X × List ℕ). z.1) f)

pub none_cut : {X : Type 0} (x : X) (a : List ℕ) → ◌≡◌ {A = Cut X} None (Some (x, a)) → ⊥
none_cut x a e = cc

-- what was cut, before it was seen as something else
abbrev pub CutAs : {X Y : Type 0} → (X → Y) → Cut X → Y → List ℕ → Type 0
CutAs {X} {Y} f o y r = (x : X) × ◌≡◌ {A = Cut X} o (Some (x, r)) × (f x ≡ y)

pub as_only : {X Y : Type 0} (f : X → Y) (o : Cut X) (y : Y) (r : List ℕ) → ◌≡◌ {A = Cut Y} (cut_as f o) (Some (y, r))
    → CutAs f o y r
as_only f None y r e = absurd (none_cut y r e)
as_only f (Some (x, m)) y r e =
    let s = cut_same (f x) y m r e in
    (x, ap (λ (l : List ℕ). Some (x, l)) s.1, s.0)

-- what was cut first, and what then
abbrev pub CutOn : {X Y : Type 0} → Cut X → (X → List ℕ → Cut Y) → Y → List ℕ → Type 0
CutOn {X} {Y} o f y r = (x : X) × (m : List ℕ) × ◌≡◌ {A = Cut X} o (Some (x, m)) × ◌≡◌ {A = Cut Y} (f x m) (Some (y, r))

pub on_only : {X Y : Type 0} (o : Cut X) (f : X → List ℕ → Cut Y) (y : Y) (r : List ℕ)
    → ◌≡◌ {A = Cut Y} (cut_on o f) (Some (y, r)) → CutOn o f y r
on_only None f y r e = absurd (none_cut y r e)
on_only (Some (x, m)) f y r e = (x, m, refl, e)

pub before_only : {X : Type 0} (o : Option X) (m : List ℕ) (x : X) (r : List ℕ)
    → ◌≡◌ {A = Cut X} (before o m) (Some (x, r)) → (o ≡ Some x) × (m ≡ r)
before_only None m x r e = absurd (none_cut x r e)
before_only (Some y) m x r e =
    let s = cut_same y x m r e in
    (ap Some s.0, s.1)

-- ---- tests

pub and_three : (a b c : Bool) → a && b && c ≡ true → (a ≡ true) × (b ≡ true) × (c ≡ true)
and_three true true c e = (refl, refl, e)
and_three true false c e = absurd cc
and_three false b c e = absurd cc

pub and_last : (a b : Bool) → a && b && false ≡ false
and_last true true = refl
and_last true false = refl
and_last false b = refl

pub and_middle : (a c : Bool) → a && false && c ≡ false
and_middle true c = refl
and_middle false c = refl

pub and_both : (a b : Bool) → a && b ≡ true → (a ≡ true) × (b ≡ true)
and_both true b e = (refl, e)
and_both false b e = absurd cc

pub not_and : (a b : Bool) → not a && b ≡ true → (a ≡ false) × (b ≡ true)
not_and true b e = absurd cc
not_and false b e = (refl, e)

pub or_neither : (a b : Bool) → a || b ≡ false → (a ≡ false) × (b ≡ false)
or_neither true b e = absurd cc
or_neither false b e = (refl, e)

pub not_false : (b : Bool) → true ≡ b → b ≡ false → ⊥
not_false b e f = cc

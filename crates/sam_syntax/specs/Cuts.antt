-- What a text begins with, as a function of the text.
use Rattle.std.specs.Prelude.{ℕ, List, ◌∷◌, Option, Some, None}

-- something that a text begins with, and what stands behind it
abbrev pub Cut : Type 0 → Type 0
Cut X = Option (X × List ℕ)

-- the same, seen as something else
abbrev pub cut_as : {X Y : Type 0} → (X → Y) → Cut X → Cut Y
cut_as f None = None
cut_as f (Some (x, behind)) = Some (f x, behind)

-- and what the text behind it begins with
abbrev pub cut_on : {X Y : Type 0} → Cut X → (X → List ℕ → Cut Y) → Cut Y
cut_on None f = None
cut_on (Some (x, behind)) f = f x behind

-- what is there, where something is, and this behind it
abbrev pub before : {X : Type 0} → Option X → List ℕ → Cut X
before None behind = None
before (Some x) behind = Some (x, behind)

-- one rune more before a text
abbrev pub with_rune : ℕ → Cut (List ℕ) → Cut (List ℕ)
with_rune c o = cut_as (λ t. c ∷ t) o

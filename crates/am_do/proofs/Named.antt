-- Names between slashes.
use Rattle.std.proofs.Common.{◌≡◌, ◌≢◌, ℕ, zero, suc, ◌+◌, ◌-◌, ◌<◌, ◌≤◌, ◌&&◌, ◌||◌, not, Bool, true, false, cond}
use Rattle.std.proofs.Common.{List, [], ◌∷◌, ◌++◌, length, Option, Some, None, refl, sym, ap, ◌∙◌, subst, arith}
use Rattle.std.proofs.Common.{append_assoc}
use Rattle.std.specs.Prelude.{All, ◌==◌, nat_lt, nat_le}
use Rattle.std.specs.List.{list_all, list_any}
use Rattle.std.specs.Str.{is_utf8}
use Rattle.std.proofs.lemmas.Bool.{eqb-true, ltb-true, leb-true}
use Rattle.ninep_types.specs.Fields.{is_text}
use Rattle.ninep_types.specs.Spelling.{IsString, AreNames}
use Rattle.am_do.specs.Fields.{is_visible, is_name, first_name, after_name, onto_names, names_behind, names_within}

-- ---- names one after another

-- these names, and then those that are there
abbrev pub behind : List (List ℕ) → Option (List (List ℕ)) → Option (List (List ℕ))
behind made None = None
behind made (Some names) = Some (made ++ names)

pub behind_none : (o : Option (List (List ℕ))) → behind [] o ≡ o
behind_none None = refl
behind_none (Some names) = refl

behind_onto : (made : List (List ℕ)) (name : List ℕ) (o : Option (List (List ℕ)))
    → behind made (onto_names name o) ≡ behind (made ++ name ∷ []) o
behind_onto made name None = refl
behind_onto made name (Some names) = ap (λ (x : List (List ℕ)). Some x) (sym (append_assoc made (name ∷ []) names))

pub names_more : (made : List (List ℕ)) (left next : ℕ) (bytes rest : List ℕ) → left ≡ suc next
    → is_name (first_name bytes) ≡ true → after_name bytes ≡ Some rest
    → behind made (names_within left bytes) ≡ behind (made ++ first_name bytes ∷ []) (names_within next rest)
unfolding names_within
names_more made left next bytes rest e is after = rw (e, is, after)
    (behind_onto made (first_name bytes) (names_within next rest))

pub names_end : (made : List (List ℕ)) (left : ℕ) (bytes : List ℕ) → 0 < left
    → is_name (first_name bytes) ≡ true → after_name bytes ≡ None → behind made
    (names_within left bytes) ≡ Some (made ++ first_name bytes ∷ [])
unfolding names_within
names_end made zero bytes lt is after = absurd (omega arith)
names_end made (suc n) bytes lt is after = rw (is, after) refl

pub names_none : (made : List (List ℕ)) (left : ℕ) (bytes : List ℕ)
    → is_name (first_name bytes) ≡ false → behind made (names_within left bytes) ≡ None
unfolding names_within
names_none made zero bytes is = refl
names_none made (suc n) bytes is = rw is refl

pub names_few : (made : List (List ℕ)) (bytes : List ℕ) → behind made (names_within 0 bytes) ≡ None
unfolding names_within
names_few made bytes = refl

-- ---- strings

both : (a b : Bool) → (a && b) ≡ true → (a ≡ true) × (b ≡ true)
both true b e = (refl, e)
both false b e = absurd cc

no_nul : (name : List ℕ) → list_all is_visible name ≡ true → list_any (λ b. b == 0) name ≡ false
no_nul [] e = refl
no_nul (b ∷ name) e =
    let each = both (is_visible b) (list_all is_visible name) e in
    let visible : 32 < b = ltb-true 32 b each.0 in
    elim (b == 0) as (λ t. (b == 0) ≡ t → (t || list_any (λ b. b == 0) name) ≡ false) [
      | true ↦ λ w. let zero_is = eqb-true b 0 w in absurd (omega arith)
      | false ↦ λ w. no_nul name each.1
    ] refl

name_is_string : (name : List ℕ) → is_name name ≡ true → IsString name
unfolding is_text
name_is_string name e =
    let a = both (nat_lt 0 (length name)) (nat_le (length name) 65535 && (is_utf8 name && list_all is_visible name))
    e in
    let b = both (nat_le (length name) 65535) (is_utf8 name && list_all is_visible name) a.1 in
    let c = both (is_utf8 name) (list_all is_visible name) b.1 in
    let len = leb-true (length name) 65535 b.0 in
    record { text = rw (c.0, no_nul name c.1) refl; len = omega arith }

all_more : (x : List ℕ) (xs : List (List ℕ)) → IsString x → All IsString xs → All IsString (x ∷ xs)
all_more x xs one others zero d lt = one
all_more x xs one others (suc k) d lt = others k d (omega arith)

abbrev AreFew : ℕ → List (List ℕ) → Type 0
AreFew n names = (length names ≤ n) × All IsString names

few_more : (n : ℕ) (name : List ℕ) (o : Option (List (List ℕ))) (names : List (List ℕ))
    → is_name name ≡ true → ((others : List (List ℕ)) → o ≡ Some others → AreFew n others)
    → onto_names name o ≡ Some names → AreFew (suc n) names
few_more n name None names is few e = absurd cc
few_more n name (Some others) names is few e =
    let f : AreFew n others = few others refl in
    let same : name ∷ others ≡ names = cc in
    subst (AreFew (suc n)) same (omega (arith, f.0), all_more name others (name_is_string name is) f.1)

few_behind : (n : ℕ) (name : List ℕ) (rest : Option (List ℕ)) (names : List (List ℕ))
    → is_name name ≡ true → ((bytes : List ℕ) (others : List (List ℕ)) → names_within n bytes ≡ Some others
    → AreFew n others) → names_behind (names_within n) name rest ≡ Some names → AreFew (suc n) names
few_behind n name None names is few e =
    let same : name ∷ [] ≡ names = cc in
    subst (AreFew (suc n)) same (
      omega arith,
      all_more name [] (name_is_string name is)
          (λ k d lt. absurd (omega arith)),
    )
few_behind n name (Some bytes) names is few e = few_more n name (names_within n bytes) names is (few bytes) e

few_names : (n : ℕ) (bytes : List ℕ) (names : List (List ℕ)) → names_within n bytes ≡ Some names → AreFew n names
unfolding names_within
few_names zero bytes names e = absurd cc
few_names (suc n) bytes names e =
    elim (is_name (first_name bytes)) as (λ t. is_name (first_name bytes) ≡ t → cond t
    (names_behind (names_within n) (first_name bytes) (after_name bytes)) None ≡ Some names → AreFew (suc n) names) [
      | true ↦ λ is w. few_behind n (first_name bytes) (after_name bytes) names is (few_names n) w
      | false ↦ λ is w. absurd cc
    ] refl e

pub names_are_lawful : (bytes : List ℕ) (names : List (List ℕ)) → names_within 16 bytes ≡ Some names → AreNames names
names_are_lawful bytes names e = few_names 16 bytes names e

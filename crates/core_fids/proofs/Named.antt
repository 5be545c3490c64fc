-- The names of the ports have records.
use Rattle.std.proofs.Common.{◌≡◌, ℕ, zero, suc, ◌<◌, ◌≤◌, Bool, true, false, cond, eqb, leb, ◌&&◌, ◌||◌, not, List, []}
use Rattle.std.proofs.Common.{◌∷◌, length, refl, arith, inl, inr, ◌⊎◌}
use Rattle.std.specs.Prelude.{All, IsAscii}
use Rattle.std.specs.List.{list_all, list_any}
use Rattle.std.specs.Int.{is_in_range}
use Rattle.std.specs.Str.{is_utf8}
use Rattle.std.proofs.lemmas.Bool.{leb-true, eqb-true, false_from_ne_true}
use Rattle.std.proofs.lemmas.List.Elements.{All-nil, All-cons}
use Rattle.std.proofs.lemmas.Str.{IsUtf8-from_ascii, is_utf8-from_IsUtf8}
use Rattle.ninep_types.specs.Fields.{is_text}
use Rattle.ninep_frame.specs.Records.{IsName}
use Rattle.rule_syntax.specs.Words.{is_digit, is_name_rune}
use Rattle.rule_syntax.specs.Verbs.{is_port_rune, is_taken, is_port_name}

-- ---- tests that hold

both_hold : (a b : Bool) → (a && b) ≡ true → (a ≡ true) × (b ≡ true)
both_hold true b e = (refl, e)
both_hold false b e = absurd cc

one_holds : (a b : Bool) → (a || b) ≡ true → (a ≡ true) ⊎ (b ≡ true)
one_holds true b e = inl refl
one_holds false b e = inr e

-- ---- the letters of a port's name

record IsLetter (c : ℕ) : Type 0 where
  pub some : 0 < c
  pub small : c < 128

in_range : (lo hi c : ℕ) → 0 < lo → hi < 128 → is_in_range lo hi c ≡ true → IsLetter c
in_range lo hi c some small e =
    let h = both_hold (leb lo c) (leb c hi) e in
    record { some = omega (arith, some, leb-true lo c h.0); small = omega (arith, small, leb-true c hi h.1) }

same : (n c : ℕ) → 0 < n → n < 128 → eqb c n ≡ true → IsLetter c
same n c some small e = record {
  some = omega (arith, some, eqb-true c n e);
  small =
      omega (arith, small, eqb-true c n e);
}

name_letter : (c : ℕ) → is_name_rune c ≡ true → IsLetter c
name_letter c e =
    elim (one_holds (is_digit c || is_in_range 65 90 c || is_in_range 97 122 c) (eqb c 95) e) [
      | inl e ↦ elim (one_holds (is_digit c || is_in_range 65 90 c) (is_in_range 97 122 c) e) [
        | inl e ↦ elim (one_holds (is_digit c) (is_in_range 65 90 c) e) [
          | inl h ↦ in_range 48 57 c (omega arith) (omega arith) h
          | inr h ↦ in_range 65 90 c (omega arith) (omega arith) h
        ]
        | inr h ↦ in_range 97 122 c (omega arith) (omega arith) h
      ]
      | inr h ↦ same 95 c (omega arith) (omega arith) h
    ]

port_letter : (c : ℕ) → is_port_rune c ≡ true → IsLetter c
port_letter c e =
    elim (one_holds (is_name_rune c || eqb c 46) (eqb c 45) e) [
      | inl e ↦ elim (one_holds (is_name_rune c) (eqb c 46) e) [
        | inl h ↦ name_letter c h
        | inr h ↦ same 46 c (omega arith) (omega arith) h
      ]
      | inr h ↦ same 45 c (omega arith) (omega arith) h
    ]

-- ---- texts of such letters

ascii : (name : List ℕ) → list_all is_port_rune name ≡ true → IsAscii name
ascii [] e i = omega arith
ascii (c ∷ cs) e zero = omega (arith, (port_letter c (both_hold (is_port_rune c) _ e).0).small)
ascii (c ∷ cs) e (suc i) = ascii cs (both_hold (is_port_rune c) (list_all is_port_rune cs) e).1 i

not_zero : (c : ℕ) → 0 < c → eqb c 0 ≡ false
not_zero c some = false_from_ne_true (eqb c 0) (λ e. let none : c ≡ 0 = eqb-true c 0 e in
    absurd (omega (arith, none, some)))

no_nul : (name : List ℕ) → list_all is_port_rune name ≡ true → list_any (λ b. eqb b 0) name ≡ false
no_nul [] e = refl
no_nul (c ∷ cs) e =
    let h = both_hold (is_port_rune c) (list_all is_port_rune cs) e in
    rw (not_zero c (port_letter c h.0).some) (no_nul cs h.1)

letters_named : (name : List ℕ) → length name ≤ 64 → list_all is_port_rune name ≡ true → IsName name
unfolding is_text
letters_named name few e =
    let utf8 : is_utf8 name ≡ true = is_utf8-from_IsUtf8 name (IsUtf8-from_ascii name (ascii name e)) in
    record { text = rw (utf8, no_nul name e) refl; len = omega (arith, few) }

-- ---- names of ports

first_of_both : (a b : Bool) → cond a b false ≡ true → (a ≡ true) × (b ≡ true)
first_of_both true b e = (refl, e)
first_of_both false b e = absurd cc

pub port_named : (name : List ℕ) → is_port_name name ≡ true → IsName name
unfolding is_port_name
port_named name e =
    let h = first_of_both (leb 1 (length name) && leb (length name) 64)
    (list_all is_port_rune name && not (is_taken name)) e in
    let few = both_hold (leb 1 (length name)) (leb (length name) 64) h.0 in
    letters_named name (leb-true (length name) 64 few.1) (both_hold (list_all is_port_rune name) (not (is_taken name))
    h.1).0

pub ports_named : (names : List (List ℕ)) → list_all is_port_name names ≡ true → All IsName names
ports_named [] e = All-nil IsName
ports_named (name ∷ names) e =
    let h = both_hold (is_port_name name) (list_all is_port_name names) e in
    All-cons IsName name names (port_named name h.0) (ports_named names h.1)

-- Names, rune by rune.
use Rattle.std.proofs.Common.{◌≡◌, ℕ, suc, ◌+◌, ◌≤◌, ◌<◌, ◌==◌, ◌||◌, Bool, true, false, ◌++◌, List, [], ◌∷◌}
use Rattle.std.proofs.Common.{length}
use Rattle.std.proofs.Common.{get_or, drop, Option, Some, None, refl, sym, ap, subst, ◌∙◌, append_assoc, arith}
use Rattle.std.proofs.lemmas.List.{append-nil, drop_more}
use Rattle.std.proofs.lemmas.Bool.{eqb-true}
use Rattle.std.specs.Prelude.{nat_lt}
use Rattle.std.specs.Option.{option_map}
use Rattle.addr_syntax.proofs.Slices.{drop_end}
use Rattle.addr_syntax.specs.declared.address.SynFault.{SynFault}
use Rattle.addr_syntax.specs.declared.address.SynFault.TheVariants as fault
use Rattle.edit_files.specs.Names.{ended, names_from, names_in, names_then, few, lone, is_refused}
use Rattle.edit_files.specs.Files.{name_of, with_name}
use Rattle.edit_files.specs.Command.{Open}
use Rattle.edit_files.specs.Answer.{IsBadFrom, PartFails}
use Rattle.edit_files.proofs.BadLemmas.{passed_from, moved_from}

abbrev Names : Type 0
Names = List (List ℕ)

-- what a text comes to behind these names and the one that is begun
abbrev pub state : Bool → Names → List ℕ → List ℕ → Option Names
state one all name rest = few one (names_then all (names_from name rest))

ended-then : (name : List ℕ) (names : Names) → ended name names ≡ ended name [] ++ names
ended-then [] names = refl
ended-then (c ∷ cs) names = refl

-- a name that ended stands before the others
then-ended : (all : Names) (name : List ℕ) (others : Option Names) → names_then
    (all ++ ended name []) others ≡ names_then all (option_map (ended name) others)
then-ended all name None = refl
then-ended all name (Some more) =
    ap Some (append_assoc all (ended name []) more ∙ ap (λ t. all ++ t) (sym (ended-then name more)))

nothing-then : (others : Option Names) → names_then [] others ≡ others
nothing-then None = refl
nothing-then (Some more) = refl

-- ---- one rune more

from_blank : (name w : List ℕ) → names_from name (32 ∷ w) ≡ option_map (ended name) (names_from [] w)
unfolding names_from
from_blank name w = refl

from_end : (name : List ℕ) → names_from name [] ≡ Some (ended name [])
unfolding names_from
from_end name = refl

from_rune : (name : List ℕ) (c : ℕ) (w : List ℕ) → (c == 32) ≡ false → nat_lt c 32 ≡ false →
    names_from name (c ∷ w) ≡ names_from (name ++ c ∷ []) w
unfolding names_from
from_rune name c w e f = rw (e, f) refl

from_control : (name : List ℕ) (c : ℕ) (w : List ℕ) → (c == 32) ≡ false → nat_lt c 32 ≡ true →
    names_from name (c ∷ w) ≡ None
unfolding names_from
from_control name c w e f = rw (e, f) refl

pub begins : (one : Bool) (text : List ℕ) → state one [] [] text ≡ few one (names_in text)
begins one text = ap (few one) (nothing-then (names_from [] text))

pub ends : (one : Bool) (all : Names) (name : List ℕ) → state one all name [] ≡ few one (Some (all ++ ended name []))
ends one all name = ap (λ (o : Option Names). few one (names_then all o)) (from_end name)

pub blank_more : (one : Bool) (all : Names) (name : List ℕ) (c : ℕ) (w : List ℕ) → c ≡ 32 →
    state one all name (c ∷ w) ≡ state one (all ++ ended name []) [] w
blank_more one all name c w e =
    ap (λ z. state one all name (z ∷ w)) e
    ∙ ap (λ (o : Option Names). few one (names_then all o)) (from_blank name w)
    ∙ ap (few one) (sym (then-ended all name (names_from [] w)))

pub rune_more : (one : Bool) (all : Names) (name : List ℕ) (c : ℕ) (w : List ℕ) → (c == 32) ≡ false →
    nat_lt c 32 ≡ false → state one all name (c ∷ w) ≡ state one all (name ++ c ∷ []) w
rune_more one all name c w e f = ap (λ (o : Option Names). few one (names_then all o)) (from_rune name c w e f)

-- ---- how many names

two : (a : List ℕ) (all : Names) (n : List ℕ) (ns : Names) → few true (Some ((a ∷ all) ++ n ∷ ns)) ≡ None
two a [] n ns = refl
two a (b ∷ bs) n ns = refl

none_two : (one : Bool) → few one None ≡ None
none_two true = refl
none_two false = refl

-- a second name
two_names : (a : List ℕ) (all : Names) (d : ℕ) (ds w : List ℕ) → state true (a ∷ all) (d ∷ ds) w ≡ None
two_names a all d ds [] = ends true (a ∷ all) (d ∷ ds) ∙ two a all (d ∷ ds) []
two_names a all d ds (c ∷ cs) = go (c == 32) refl (nat_lt c 32) refl (two_names a all d (ds ++ c ∷ []) cs)
  where
    mapped : (o : Option Names) → few true (names_then (a ∷ all) (option_map (ended (d ∷ ds)) o)) ≡ None
    mapped None = refl
    mapped (Some ns) = two a all (d ∷ ds) ns

    go : (b : Bool) → (c == 32) ≡ b → (l : Bool) → nat_lt c 32 ≡ l → state true (a ∷ all) (d ∷ ds ++ c ∷ []) cs ≡ None
        → state true (a ∷ all) (d ∷ ds) (c ∷ cs) ≡ None
    go true e l f on =
        ap (λ z. state true (a ∷ all) (d ∷ ds) (z ∷ cs)) (eqb-true c 32 e)
        ∙ ap (λ (o : Option Names). few true (names_then (a ∷ all) o)) (from_blank (d ∷ ds) cs)
        ∙ mapped (names_from [] cs)
    go false e true f on = ap (λ (o : Option Names). few true (names_then (a ∷ all) o)) (from_control (d ∷ ds) c cs e f)
    go false e false f on = rune_more true (a ∷ all) (d ∷ ds) c cs e f ∙ on

-- names with the one that is begun are as many as there may be
abbrev pub Fits : Bool → Names → List ℕ → Type 0
Fits one all name = few one (Some (all ++ ended name [])) ≡ Some (all ++ ended name [])

pub nothing_fits : (one : Bool) → Fits one [] []
nothing_fits true = refl
nothing_fits false = refl

pub ended_fits : (one : Bool) (all : Names) (name : List ℕ) → Fits one all name → Fits one (all ++ ended name []) []
ended_fits one all name f = rw (append-nil (all ++ ended name [])) f

more_ended : (name : List ℕ) (c : ℕ) → ended (name ++ c ∷ []) [] ≡ (name ++ c ∷ []) ∷ []
more_ended [] c = refl
more_ended (d ∷ ds) c = refl

no_zero : (n : ℕ) → (suc n == 0) ≡ false
no_zero n = go (suc n == 0) refl
  where
    go : (b : Bool) → (suc n == 0) ≡ b → (suc n == 0) ≡ false
    go false e = e
    go true e = let f : suc n ≡ 0 = eqb-true (suc n) 0 e in absurd cc

pub more_fits : (one : Bool) (all : Names) (name : List ℕ) (c : ℕ) → is_refused all name one c ≡ false →
    Fits one all name → Fits one all (name ++ c ∷ [])
more_fits false all name c r f = refl
more_fits true [] name c r f = rw (more_ended name c) refl
more_fits true (a ∷ all) [] c r f = absurd (no (nat_lt c 32) (rw (no_zero (length all)) at r))
  where
    no : (b : Bool) → b || true ≡ false → ⊥
    no true e = absurd cc
    no false e = absurd cc
more_fits true (a ∷ all) (d ∷ ds) c r f = let g : None ≡ Some ((a ∷ all) ++ (d ∷ ds) ∷ []) =
    sym (two a all (d ∷ ds) []) ∙ f in absurd cc

-- ---- a rune that can't stand here

refused_more : (one : Bool) (all : Names) (name : List ℕ) (c : ℕ) → (c == 32) ≡ false →
    is_refused all name one c ≡ true → (rest : List ℕ) → state one all name (c ∷ rest) ≡ None
refused_more one all name c e r rest = go (nat_lt c 32) refl one all name r
  where
    go : (b : Bool) → nat_lt c 32 ≡ b → (one : Bool) (all : Names) (name : List ℕ) → is_refused all name one c ≡ true →
        state one all name (c ∷ rest) ≡ None
    go true f one all name r =
        ap (λ (o : Option Names). few one (names_then all o)) (from_control name c rest e f) ∙ none_two one
    go false f false all name r = let g : false ≡ true = rw f at r in absurd cc
    go false f true [] name r = let g : false ≡ true = rw f at r in absurd cc
    go false f true (a ∷ all) [] r = rune_more true (a ∷ all) [] c rest e f ∙ two_names a all c [] rest
    go false f true (a ∷ all) (d ∷ ds) r = let g : false ≡ true =
        rw (f, no_zero (length all), no_zero (length ds)) at r in absurd cc

pub refused_here : (one : Bool) (all : Names) (name text : List ℕ) (at : ℕ) → at < length text → Fits one all name →
    (get_or text at 0 == 32) ≡ false → is_refused all name one (get_or text at 0) ≡ true →
    IsBadFrom (state one all name) text at at
refused_here one all name text at l f e r = (
  0,
  omega arith,
  record {
    front = [];
    behind = get_or text at 0 ∷ drop (at + 1) text;
    cut = drop_more text at 0 l;
    there = refl;
    before = ([], all ++ ended name [], ends one all name ∙ f);
    after = refused_more one all name (get_or text at 0) e r;
  },
)

differ : (a b : ℕ) → (a ≡ b → ⊥) → (a == b) ≡ false
differ a b other = go (a == b) refl
  where
    go : (v : Bool) → (a == b) ≡ v → (a == b) ≡ false
    go false e = e
    go true e = absurd (other (eqb-true a b e))

-- ---- the loop

-- how the whole is read when this is left
pub record Reads (one : Bool) (text : List ℕ) (from at : ℕ) (all : Names) (name : List ℕ) : Type 0 where
  pub order : from ≤ at
  pub within : at ≤ length text
  pub fits : Fits one all name
  pub same : few one (names_in (drop from text)) ≡ state one all name (drop at text)
  pub bad : (place : ℕ) → IsBadFrom (state one all name) text at place →
      IsBadFrom (λ t. few one (names_in t)) text from place

pub reads_begin : (one : Bool) (text : List ℕ) (from : ℕ) → from ≤ length text → Reads one text from from [] []
reads_begin one text from l = record {
  order = omega arith;
  within = l;
  fits = nothing_fits one;
  same = sym (begins one (drop from text));
  bad =
      λ place x. passed_from (state one [] []) (λ t. few one (names_in t)) text [] from from place (omega arith) l refl
      (λ w. sym (begins one w)) x;
}

reads_more : (one : Bool) (text : List ℕ) (from at : ℕ) (all more : Names) (name next : List ℕ) →
    Reads one text from at all name → at < length text → Fits one more next →
    ((w : List ℕ) → state one all name (get_or text at 0 ∷ w) ≡ state one more next w) →
    Reads one text from (at + 1) more next
reads_more one text from at all more name next x l f g = record {
  order = omega (arith, x.order);
  within = omega (arith, l);
  fits = f;
  same = x.same ∙ ap (state one all name) (drop_more text at 0 l) ∙ g (drop (at + 1) text);
  bad =
      λ place y. x.bad place (passed_from (state one more next) (state one all name) text (get_or text at 0 ∷ []) at
      (at + 1) place (omega arith) (omega (arith, l)) (drop_more text at 0 l) g y);
}

pub reads_blank : (one : Bool) (text : List ℕ) (from at : ℕ) (all more : Names) (name next : List ℕ) →
    Reads one text from at all name → at < length text → get_or text at 0 ≡ 32 → more ≡ all ++ ended name [] →
    next ≡ [] → Reads one text from (at + 1) more next
reads_blank one text from at all more name next x l e m n =
    subst (λ (k : List ℕ). Reads one text from (at + 1) more k) (sym n)
    (subst (λ (k : Names). Reads one text from (at + 1) k []) (sym m)
    (reads_more one text from at all (all ++ ended name []) name [] x l (ended_fits one all name x.fits)
    (λ w. blank_more one all name (get_or text at 0) w e)))

control_false : (all : Names) (name : List ℕ) (one : Bool) (c : ℕ) → is_refused all name one c ≡ false →
    nat_lt c 32 ≡ false
control_false all name one c r = go (nat_lt c 32) refl
  where
    go : (b : Bool) → nat_lt c 32 ≡ b → nat_lt c 32 ≡ false
    go true e = let f : true ≡ false = rw e at r in absurd cc
    go false e = e

pub reads_rune : (one : Bool) (text : List ℕ) (from at : ℕ) (all : Names) (name next : List ℕ) →
    Reads one text from at all name → at < length text → (get_or text at 0 ≡ 32 → ⊥) →
    is_refused all name one (get_or text at 0) ≡ false → next ≡ name ++ get_or text at 0 ∷ [] →
    Reads one text from (at + 1) all next
reads_rune one text from at all name next x l e r n =
    subst (λ (k : List ℕ). Reads one text from (at + 1) all k) (sym n)
    (reads_more one text from at all all name (name ++ get_or text at 0 ∷ []) x l
    (more_fits one all name (get_or text at 0) r x.fits)
    (λ w. rune_more one all name (get_or text at 0) w (differ (get_or text at 0) 32 e)
    (control_false all name one (get_or text at 0) r)))

pub reads_refused : (one : Bool) (text : List ℕ) (from at : ℕ) (all : Names) (name : List ℕ) →
    Reads one text from at all name → at < length text → (get_or text at 0 ≡ 32 → ⊥) →
    is_refused all name one (get_or text at 0) ≡ true → IsBadFrom (λ t. few one (names_in t)) text from at
reads_refused one text from at all name x l e r =
    x.bad at (refused_here one all name text at l x.fits (differ (get_or text at 0) 32 e) r)

pub reads_end : (one : Bool) (text : List ℕ) (from at : ℕ) (all more : Names) (name : List ℕ) →
    Reads one text from at all name → length text ≤ at → more ≡ all ++ ended name [] →
    few one (names_in (drop from text)) ≡ Some more
reads_end one text from at all more name x l m =
    let e : at ≡ length text = omega (arith, l, x.within) in
    x.same ∙ ap (state one all name) (ap (λ k. drop k text) e ∙ drop_end text) ∙ ends one all name ∙ x.fits
    ∙ ap (λ (k : Names). Some k) (sym m)

-- ---- one name

abbrev pub only : Names → Option (List ℕ)
only [] = None
only (n ∷ ns) = Some n

lone_few : (o : Option Names) → lone o ≡ option_map only (few true o)
lone_few None = refl
lone_few (Some []) = refl
lone_few (Some (n ∷ [])) = refl
lone_few (Some (n ∷ m ∷ ns)) = refl

pub lone_read : (o : Option Names) (ns : Names) → few true o ≡ Some ns → lone o ≡ Some (only ns)
lone_read o ns e = lone_few o ∙ ap (option_map only) e

pub few_one : (o : Option Names) (ns : Names) → few true o ≡ Some ns → length ns ≤ 1
few_one None ns e = absurd cc
few_one (Some []) ns e = let f : [] ≡ ns = cc in rw (sym f) (omega arith)
few_one (Some (n ∷ [])) ns e = let f : n ∷ [] ≡ ns = cc in rw (sym f) (omega arith)
few_one (Some (n ∷ m ∷ ms)) ns e = absurd cc

pub lone_bad : (text : List ℕ) (from place : ℕ) → from ≤ length text → IsBadFrom
    (λ t. few true (names_in t)) text from place → IsBadFrom (λ t. lone (names_in t)) text from place
lone_bad text from place l x =
    moved_from (λ t. few true (names_in t)) (λ t. lone (names_in t)) only text [] from from place (omega arith) l refl
    (λ w. lone_few (names_in w)) x

pub lone_fails : (text : List ℕ) (from : ℕ) (e : SynFault) → from ≤ length text →
    PartFails (λ t. few true (names_in t)) text from e → PartFails (λ t. lone (names_in t)) text from e
lone_fails text from (fault.Bad place) l x = lone_bad text from place l x
lone_fails text from fault.Nodes l x = x
lone_fails text from fault.Deep l x = x
lone_fails text from fault.NoMemory l x = x

-- ---- a name must be there

one_name : names_from [] (97 ∷ []) ≡ Some ((97 ∷ []) ∷ [])
unfolding names_from
one_name = refl

map_nothing : (o : Option Names) → option_map (ended []) o ≡ o
map_nothing None = refl
map_nothing (Some ns) = refl

-- a name that is begun is no missing one
begun : (d : ℕ) (ds w : List ℕ) → lone (names_from (d ∷ ds) w) ≡ Some None → ⊥
begun d ds [] h = let e = from_end (d ∷ ds) in let f : Some (Some (d ∷ ds)) ≡ Some None = rw e at h in absurd cc
begun d ds (c ∷ cs) h = go (c == 32) refl (nat_lt c 32) refl (λ e. begun d (ds ++ c ∷ []) cs e)
  where
    mapped : (o : Option Names) → lone (option_map (ended (d ∷ ds)) o) ≡ Some None → ⊥
    mapped None e = absurd cc
    mapped (Some []) e = absurd cc
    mapped (Some (n ∷ ns)) e = absurd cc

    go : (b : Bool) → (c == 32) ≡ b → (l : Bool) → nat_lt c 32 ≡ l → (lone
        (names_from (d ∷ ds ++ c ∷ []) cs) ≡ Some None → ⊥) → ⊥
    go true e l f on =
        mapped (names_from [] cs) (ap lone (sym (from_blank (d ∷ ds) cs))
        ∙ ap (λ z. lone (names_from (d ∷ ds) (z ∷ cs))) (sym (eqb-true c 32 e)) ∙ h)
    go false e true f on = let g : ◌≡◌ {A = Option (Option (List ℕ))} None (Some None) =
        ap lone (sym (from_control (d ∷ ds) c cs e f)) ∙ h in absurd cc
    go false e false f on = on (ap lone (sym (from_rune (d ∷ ds) c cs e f)) ∙ h)

blank_names : (t : List ℕ) → lone (names_from [] t) ≡ Some None → names_from [] (t ++ 97 ∷ []) ≡ Some ((97 ∷ []) ∷ [])
blank_names [] h = one_name
blank_names (c ∷ cs) h = go (c == 32) refl (nat_lt c 32) refl (λ e. blank_names cs e)
  where
    go : (b : Bool) → (c == 32) ≡ b → (l : Bool) → nat_lt c 32 ≡ l → (lone (names_from [] cs) ≡ Some None →
        names_from [] (cs ++ 97 ∷ []) ≡ Some ((97 ∷ []) ∷ [])) → names_from [] (c ∷ cs ++ 97 ∷ []) ≡ Some
        ((97 ∷ []) ∷ [])
    go true e l f on =
        let first : c ≡ 32 = eqb-true c 32 e in
        let same : names_from [] (c ∷ cs) ≡ names_from [] cs =
        ap (λ z. names_from [] (z ∷ cs)) first ∙ from_blank [] cs ∙ map_nothing (names_from [] cs) in
        ap (λ z. names_from [] (z ∷ cs ++ 97 ∷ [])) first ∙ from_blank [] (cs ++ 97 ∷ [])
        ∙ map_nothing (names_from [] (cs ++ 97 ∷ [])) ∙ on (ap lone (sym same) ∙ h)
    go false e true f on = let g : ◌≡◌ {A = Option (Option (List ℕ))} None (Some None) =
        ap lone (sym (from_control [] c cs e f)) ∙ h in absurd cc
    go false e false f on = absurd (begun c [] cs (ap lone (sym (from_rune [] c cs e f)) ∙ h))

-- behind blanks a name may stand
pub named : (t : List ℕ) → name_of t ≡ Some None → with_name (name_of (t ++ 97 ∷ [])) ≡ Some (Open (97 ∷ []))
named t h = ap (λ (o : Option Names). with_name (lone o)) (blank_names t h)

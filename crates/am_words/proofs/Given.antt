-- What the commands read in words that they take.
use Rattle.std.proofs.Common.{◌≡◌, ℕ, Bool, cond, true, false, List, Option, Some, None, refl, sym, ap, ◌∙◌, codes}
use Rattle.std.proofs.Common.{is_some}
use Rattle.std.specs.Prelude.{option_and_then}
use Rattle.clap.specs.Walk.{Row, first_of}
use Rattle.clap.specs.Simple.{App, matches_of}
use Rattle.clap.specs.Takes.{takes}
use Rattle.am_words.specs.Words.{is_path, path_and_clients, rounds_of, with_clients}
use Rattle.am_words.specs.Commands.{drill, serve, served_by, value_in, drill_reads, serve_reads}

-- what `drill_reads` says
pub record DrillGiven (words : List (List ℕ)) : Type 0 where
  pub taken : takes drill words ≡ true
  pub number : List ℕ
  pub value : value_in drill (codes "rounds") words ≡ Some number
  pub reads : drill_reads words ≡ rounds_of number

pub drill_given : (words : List (List ℕ)) → is_some (drill_reads words) ≡ true → DrillGiven words
unfolding drill_reads
drill_given words e = by_test (takes drill words) refl e
  where
    by_value : (o : Option (List ℕ)) → takes drill words ≡ true → value_in drill (codes "rounds") words ≡ o
        → is_some (option_and_then rounds_of o) ≡ true → DrillGiven words
    by_value None t v e = absurd cc
    by_value (Some number) t v e = record { taken = t; number = number; value = v; reads = rw (t, v) refl }

    by_test : (b : Bool) → takes drill words ≡ b
        → is_some (cond b (option_and_then rounds_of (value_in drill (codes "rounds") words)) None) ≡ true →
        DrillGiven words
    by_test false t e = absurd cc
    by_test true t e = by_value (value_in drill (codes "rounds") words) t refl e

-- what `serve_reads` says
pub record ServeGiven (words : List (List ℕ)) : Type 0 where
  pub taken : takes serve words ≡ true
  pub path : List ℕ
  pub number : List ℕ
  pub path_value : value_in serve (codes "path") words ≡ Some path
  pub number_value : value_in serve (codes "clients") words ≡ Some number
  pub reads : serve_reads words ≡ path_and_clients path number

pub serve_given : (words : List (List ℕ)) → is_some (serve_reads words) ≡ true → ServeGiven words
unfolding serve_reads
serve_given words e = by_test (takes serve words) refl e
  where
    by_values : (p c : Option (List ℕ)) → takes serve words ≡ true → value_in serve (codes "path") words ≡ p
        → value_in serve (codes "clients") words ≡ c
        → is_some (served_by p c) ≡ true → ServeGiven words
    by_values None c t v w e = absurd cc
    by_values (Some path) None t v w e = absurd cc
    by_values (Some path) (Some number) t v w e =
        record { taken = t; path = path; number = number; path_value = v; number_value = w; reads = rw (t, v, w) refl }

    by_test : (b : Bool) → takes serve words ≡ b
        → is_some (cond b (served_by (value_in serve (codes "path") words) (value_in serve (codes "clients") words))
        None) ≡ true → ServeGiven words
    by_test false t e = absurd cc
    by_test true t e = by_values (value_in serve (codes "path") words) (value_in serve (codes "clients") words) t refl
        refl e

-- ---- what the functions read of the matches

some_is : (o : Option (List ℕ)) (v w : List ℕ) → o ≡ Some v → o ≡ Some w → v ≡ w
some_is o v w e f = let both : Some v ≡ Some w = sym e ∙ f in cc

pub value_there : (a : App) (id : List ℕ) (words : List (List ℕ)) (rows : List Row) (v : List ℕ)
    → rows ≡ matches_of a words
    → value_in a id words ≡ Some v
    → is_some (first_of id rows) ≡ true
value_there a id words rows v is e = ap (λ (r : List Row). is_some (first_of id r)) is ∙ ap is_some e

pub drill_number : (words : List (List ℕ)) (rows : List Row) (v bytes : List ℕ)
    → is_some (drill_reads words) ≡ true → rows ≡ matches_of drill words
    → first_of (codes "rounds") rows ≡ Some v → bytes ≡ v → drill_reads words ≡ rounds_of bytes
drill_number words rows v bytes h is e same =
    let given = drill_given words h in
    let here : value_in drill (codes "rounds") words ≡ Some v = ap (first_of (codes "rounds")) (sym is) ∙ e in
    given.reads ∙ ap rounds_of (some_is _ given.number v given.value here ∙ sym same)

pub serve_parts : (words : List (List ℕ)) (rows : List Row) (path v bytes : List ℕ) → is_some (serve_reads words) ≡ true
    → rows ≡ matches_of serve words
    → first_of (codes "path") rows ≡ Some path → first_of (codes "clients") rows ≡ Some v → bytes ≡ v
    → serve_reads words ≡ path_and_clients path bytes
serve_parts words rows path v bytes h is e f same =
    let given = serve_given words h in
    let path_here : value_in serve (codes "path") words ≡ Some path = ap (first_of (codes "path")) (sym is) ∙ e in
    let number_here : value_in serve (codes "clients") words ≡ Some v = ap (first_of (codes "clients")) (sym is) ∙ f in
    let path_is = some_is _ given.path path given.path_value path_here in
    let number_is = some_is _ given.number v given.number_value number_here ∙ sym same in
    given.reads ∙ λ i. path_and_clients (path_is i) (number_is i)

pub path_with : (path : List ℕ) (n : ℕ) → is_some (with_clients path (Some n)) ≡ true → with_clients path
    (Some n) ≡ Some (path, n)
path_with path n e = go (is_path path) e
  where
    go : (b : Bool) → is_some (cond {A = Option (List ℕ × ℕ)} b (Some (path, n)) None) ≡ true
        → cond {A = Option (List ℕ × ℕ)} b (Some (path, n)) None ≡ Some (path, n)
    go true e = refl
    go false e = absurd cc

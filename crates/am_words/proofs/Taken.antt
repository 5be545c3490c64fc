-- What the commands make of the words of the table.
use Rattle.std.proofs.Common.{◌≡◌, ℕ, ◌==◌, Bool, true, false, not, List, [], ◌∷◌, ◌++◌, Some, refl, codes}
use Rattle.clap.specs.Takes.{takes}
use Rattle.clap.proofs.OnLiterals.{clap_on_literals}
use Rattle.am_words.specs.Words.{is_path, path_and_clients, rounds_of}
use Rattle.am_words.specs.Commands.{drill, serve, value_in, drill_reads, serve_reads}

no_hyphen : (b : ℕ) → not (b == 45) ≡ true → (b == 45) ≡ false
no_hyphen b e = go (b == 45) e
  where
    go : (t : Bool) → not t ≡ true → t ≡ false
    go true e = absurd cc
    go false e = refl

-- ---- `drill N`

drill_taken : (number : List ℕ) → is_path number ≡ true → takes drill (number ∷ []) ≡ true
unfolding clap_on_literals
drill_taken [] h = absurd cc
drill_taken (b ∷ bs) h = let e = no_hyphen b h in rw (e, e) (refl {a = true})

drill_value : (number : List ℕ) → is_path number ≡ true → value_in drill (codes "rounds") (number ∷ []) ≡ Some number
unfolding clap_on_literals
drill_value [] h = absurd cc
drill_value (b ∷ bs) h = let e = no_hyphen b h in rw (e, e) (refl {a = Some (b ∷ bs)})

pub drill_read : (number : List ℕ) → is_path number ≡ true → drill_reads (number ∷ []) ≡ rounds_of number
unfolding drill_reads
drill_read number h = rw (drill_taken number h, drill_value number h) refl

-- ---- `serve`

by_values : (words : List (List ℕ)) (path number : List ℕ) → takes serve words ≡ true → value_in serve (codes "path")
    words ≡ Some path
    → value_in serve (codes "clients") words ≡ Some number → serve_reads words ≡ path_and_clients path number
unfolding serve_reads
by_values words path number t p c = rw (t, p, c) refl

-- `--clients N PATH`
pub apart_before : (path number : List ℕ) → is_path path ≡ true → is_path number ≡ true
    → serve_reads (codes "--clients" ∷ number ∷ path ∷ []) ≡ path_and_clients path number
unfolding clap_on_literals
apart_before [] number h k = absurd cc
apart_before (b ∷ bs) [] h k = absurd cc
apart_before (b ∷ bs) (n ∷ ns) h k =
    let d = no_hyphen n k in
    let e = no_hyphen b h in
    by_values (codes "--clients" ∷ (n ∷ ns) ∷ (b ∷ bs) ∷ []) (b ∷ bs) (n ∷ ns)
    (rw (d, d, e, e) (refl {a = true})) (rw (d, d, e, e) (refl {a = Some (b ∷ bs)}))
    (rw (d, d, e, e) (refl {a = Some (n ∷ ns)}))

-- `PATH --clients N`
pub apart_behind : (path number : List ℕ) → is_path path ≡ true → is_path number ≡ true
    → serve_reads (path ∷ codes "--clients" ∷ number ∷ []) ≡ path_and_clients path number
unfolding clap_on_literals
apart_behind [] number h k = absurd cc
apart_behind (b ∷ bs) [] h k = absurd cc
apart_behind (b ∷ bs) (n ∷ ns) h k =
    let d = no_hyphen n k in
    let e = no_hyphen b h in
    by_values ((b ∷ bs) ∷ codes "--clients" ∷ (n ∷ ns) ∷ []) (b ∷ bs) (n ∷ ns)
    (rw (e, e, d, d) (refl {a = true})) (rw (e, e, d, d) (refl {a = Some (b ∷ bs)}))
    (rw (e, e, d, d) (refl {a = Some (n ∷ ns)}))

-- `--clients=N PATH`
pub joined_before : (path number : List ℕ) → is_path path ≡ true
    → serve_reads ((codes "--clients=" ++ number) ∷ path ∷ []) ≡ path_and_clients path number
unfolding clap_on_literals
joined_before [] number h = absurd cc
joined_before (b ∷ bs) number h =
    let e = no_hyphen b h in
    by_values ((codes "--clients=" ++ number) ∷ (b ∷ bs) ∷ []) (b ∷ bs) number
    (rw (e, e) (refl {a = true})) (rw (e, e) (refl {a = Some (b ∷ bs)})) (rw (e, e) (refl {a = Some number}))

-- `PATH --clients=N`
pub joined_behind : (path number : List ℕ) → is_path path ≡ true
    → serve_reads (path ∷ (codes "--clients=" ++ number) ∷ []) ≡ path_and_clients path number
unfolding clap_on_literals
joined_behind [] number h = absurd cc
joined_behind (b ∷ bs) number h =
    let e = no_hyphen b h in
    by_values ((b ∷ bs) ∷ (codes "--clients=" ++ number) ∷ []) (b ∷ bs) number
    (rw (e, e) (refl {a = true})) (rw (e, e) (refl {a = Some (b ∷ bs)})) (rw (e, e) (refl {a = Some number}))

-- What the table of openings shows after each change.
use Rattle.std.proofs.Common.{◌≡◌, ◌==◌, ℕ, zero, suc, ◌<◌, ◌≤◌, Bool, true, false, cond, not, List, [], ◌∷◌, length, get_or}
use Rattle.std.proofs.Common.{set, take, map, filter, Some, None, refl, sym, ap, ◌∙◌, arith, length-take, take_all}
use Rattle.std.proofs.lemmas.List.{length-map}
use Rattle.std.proofs.lemmas.Bool.Decides.{nat_tests}
use Rattle.std.proofs.lemmas.List.Quantifiers.{position-Some}
use Rattle.std.proofs.lemmas.List.Sums.{fails_before_first}
use Rattle.std.specs.List.{position}
use Rattle.am_text.specs.Twice.{Twice, both}
use Rattle.wait_queue.specs.WaitState.{WaitState, nothing, after_piece}
use Rattle.wait_queue.specs.declared.types.Asker.{Asker}
use Rattle.acme_watch.specs.Log.{is_reader, reader_of, noted, after_log_read, present_of, kept_of}
use Rattle.acme_watch.specs.Log.{with_present, with_kept, with_noted}
use Rattle.acme_watch.specs.Watching.{WatchState, with_line}
use Rattle.acme_watch.proofs.EachLemmas.{map-set, map-take}

abbrev pub has : ℕ → Twice WaitState → Bool
has opening q = is_reader opening (present_of q)

none_has : (qs : List (Twice WaitState)) (opening : ℕ) → position (has opening) qs ≡ None
    → (k : ℕ) (d : Twice WaitState) → k < length qs → has opening (get_or qs k d) ≡ false
none_has qs opening h k d l = fails_before_first (has opening) qs k d (grind (arith, nat_tests))

reader_missing : (qs : List (Twice WaitState)) (opening : ℕ)
    → ((k : ℕ) (d : Twice WaitState) → k < length qs → has opening (get_or qs k d) ≡ false)
    → reader_of (map present_of qs) opening ≡ nothing
reader_missing [] opening h = refl
reader_missing (q ∷ qs) opening h = rw (h 0 q (omega arith))
    (reader_missing qs opening (λ k d l. h (suc k) d (omega arith)))

-- an opening that isn't there has nothing
pub reader-none : (qs : List (Twice WaitState)) (opening : ℕ) → position (has opening) qs ≡ None
    → reader_of (map present_of qs) opening ≡ nothing
reader-none qs opening h = reader_missing qs opening (none_has qs opening h)

read_missing : (qs : List (Twice WaitState)) (r0 : Asker)
    → ((k : ℕ) (d : Twice WaitState) → k < length qs → has r0.opening (get_or qs k d) ≡ false)
    → after_log_read (map present_of qs) r0 ≡ map present_of qs
read_missing [] r0 h = refl
read_missing (q ∷ qs) r0 h = rw (h 0 q (omega arith))
    (ap (λ os. present_of q ∷ os) (read_missing qs r0 (λ k d l. h (suc k) d (omega arith))))

reader_found : (qs : List (Twice WaitState)) (opening k : ℕ) (d : Twice WaitState) → k < length qs
    → has opening (get_or qs k d) ≡ true → ((j : ℕ) → j < k → has opening (get_or qs j d) ≡ false)
    → reader_of (map present_of qs) opening ≡ present_of (get_or qs k d)
reader_found [] opening k d l t f = absurd (omega arith)
reader_found (q ∷ qs) opening zero d l t f = rw t
reader_found (q ∷ qs) opening (suc k) d l t f = rw (f 0 (omega arith))
    (reader_found qs opening k d (omega arith) t (λ j h. f (suc j) (omega arith)))

-- the first one with the number is the opening's
pub reader-some : (qs : List (Twice WaitState)) (opening k : ℕ) (d : Twice WaitState) → position (has opening) qs
    ≡ Some k → d ≡ get_or qs k d → reader_of (map present_of qs) opening ≡ d.present
reader-some qs opening k d h r =
    let p = position-Some (has opening) qs k d h in
    reader_found qs opening k d p.0 p.1 p.2 ∙ sym (ap present_of r)

-- it has that opening
pub reader-there : (qs : List (Twice WaitState)) (opening k : ℕ) (d : Twice WaitState) → position (has opening) qs
    ≡ Some k → d ≡ get_or qs k d → is_reader opening d.present ≡ true
reader-there qs opening k d h r =
    let p = position-Some (has opening) qs k d h in ap (has opening) r ∙ p.1

read_found : (qs : List (Twice WaitState)) (r0 : Asker) (k : ℕ) (d q' : Twice WaitState) → k < length qs
    → has r0.opening (get_or qs k d) ≡ true → ((j : ℕ) → j < k → has r0.opening (get_or qs j d) ≡ false) → q'.present
    ≡ after_piece (get_or qs k d).present r0 → map present_of (set qs k q') ≡ after_log_read (map present_of qs) r0
read_found [] r0 k d q' l t f e = absurd (omega arith)
read_found (q ∷ qs) r0 zero d q' l t f e = rw t (ap (λ o. o ∷ map present_of qs) e)
read_found (q ∷ qs) r0 (suc k) d q' l t f e =
    rw (f 0 (omega arith))
    (ap (λ os. present_of q ∷ os) (read_found qs r0 k d q' (omega arith) t (λ j h. f (suc j) (omega arith)) e))

kept_stays : (qs : List (Twice WaitState)) (n k : ℕ) (d q' : Twice WaitState) → q'.kept ≡ (get_or qs k d).kept
    → map kept_of (take n (set qs k q')) ≡ map kept_of (take n qs)
kept_stays qs n k d q' e =
    map-take kept_of n (set qs k q') ∙ ap (take n) (map-set kept_of qs k d q' e) ∙ sym (map-take kept_of n qs)

-- the table's view after a read on an opening
pub read-some : (qs : List (Twice WaitState)) (n : ℕ) (r0 : Asker) (k : ℕ) (d q' : Twice WaitState)
    → position (has r0.opening) qs ≡ Some k → d ≡ get_or qs k d → q' ≡ record d { present = after_piece d.present r0 }
    → ◌≡◌ {A = Twice (List WaitState)}
    (record { present = map present_of (set qs k q'); kept = map kept_of (take n (set qs k q')) })
    (record { present = after_log_read (map present_of qs) r0; kept = map kept_of (take n qs) })
read-some qs n r0 k d q' h r e =
    let p = position-Some (has r0.opening) qs k d h in
    let new : q'.present ≡ after_piece (get_or qs k d).present r0 = ap present_of e
    ∙ ap (λ (t : Twice WaitState). after_piece t.present r0) r in
    let same : q'.kept ≡ (get_or qs k d).kept = ap kept_of e ∙ ap kept_of r in
    rw (read_found qs r0 k d q' p.0 p.1 p.2 new, kept_stays qs n k d q' same)

pub read-none : (qs : List (Twice WaitState)) (n : ℕ) (r0 : Asker) → position (has r0.opening) qs ≡ None
    → ◌≡◌ {A = Twice (List WaitState)} (record { present = map present_of qs; kept = map kept_of (take n qs) })
    (record { present = after_log_read (map present_of qs) r0; kept = map kept_of (take n qs) })
read-none qs n r0 h = rw (read_missing qs r0 (none_has qs r0.opening h))

-- what is kept stays where one failed
pub read-kept : (qs : List (Twice WaitState)) (n k : ℕ) (d q' : Twice WaitState) → d ≡ get_or qs k d → q'.kept ≡ d.kept
    → map kept_of (take n (set qs k q')) ≡ map kept_of (take n qs)
read-kept qs n k d q' r e = kept_stays qs n k d q' (e ∙ ap kept_of r)

-- ---- all of them

present-with_present : (qs : List (Twice WaitState)) → map present_of (map with_present qs) ≡ map present_of qs
present-with_present [] = refl
present-with_present (q ∷ qs) = ap (λ os. present_of q ∷ os) (present-with_present qs)

kept-with_present : (qs : List (Twice WaitState)) → map kept_of (map with_present qs) ≡ map present_of qs
kept-with_present [] = refl
kept-with_present (q ∷ qs) = ap (λ os. present_of q ∷ os) (kept-with_present qs)

present-with_kept : (qs : List (Twice WaitState)) → map present_of (map with_kept qs) ≡ map kept_of qs
present-with_kept [] = refl
present-with_kept (q ∷ qs) = ap (λ os. kept_of q ∷ os) (present-with_kept qs)

kept-with_kept : (qs : List (Twice WaitState)) → map kept_of (map with_kept qs) ≡ map kept_of qs
kept-with_kept [] = refl
kept-with_kept (q ∷ qs) = ap (λ os. kept_of q ∷ os) (kept-with_kept qs)

-- the table's view where each was kept, or went back
pub all_kept : (qs ws : List (Twice WaitState)) (n : ℕ) → ws ≡ map with_present qs → length ws ≤ n
    → ◌≡◌ {A = Twice (List WaitState)} (record { present = map present_of ws; kept = map kept_of (take n ws) })
    (both (map present_of qs))
all_kept qs ws n e l = rw (take_all n ws l, e, present-with_present qs, kept-with_present qs)

pub all_back : (qs ws : List (Twice WaitState)) (n : ℕ) → ws ≡ map with_kept qs → length ws ≤ n
    → ◌≡◌ {A = Twice (List WaitState)} (record { present = map present_of ws; kept = map kept_of (take n ws) })
    (both (map kept_of qs))
all_back qs ws n e l = rw (take_all n ws l, e, present-with_kept qs, kept-with_kept qs)

present-filter : (qs : List (Twice WaitState)) (opening : ℕ) → map present_of (filter (λ q. not (has opening q)) qs)
    ≡ filter (λ o. not (is_reader opening o)) (map present_of qs)
present-filter [] opening = refl
present-filter (q ∷ qs) opening =
    elim (has opening q) as (λ b. map present_of
    (cond (not b) (q ∷ filter (λ p. not (has opening p)) qs) (filter (λ p. not (has opening p)) qs))
    ≡ cond (not b) (present_of q ∷ filter (λ o. not (is_reader opening o)) (map present_of qs))
    (filter (λ o. not (is_reader opening o)) (map present_of qs)))
    [ true ↦ present-filter qs opening | false ↦ ap (λ os. present_of q ∷ os) (present-filter qs opening) ]

-- where both states of each are equal, the ones that stay show the same in both
kept-filter : (qs : List (Twice WaitState)) (opening : ℕ) → map kept_of qs ≡ map present_of qs
    → map kept_of (filter (λ q. not (has opening q)) qs) ≡ map present_of (filter (λ q. not (has opening q)) qs)
kept-filter [] opening e = refl
kept-filter (q ∷ qs) opening e =
    let here : kept_of q ≡ present_of q = cc in
    let later : map kept_of qs ≡ map present_of qs = cc in
    elim (has opening q) as (λ b. map kept_of
    (cond (not b) (q ∷ filter (λ p. not (has opening p)) qs) (filter (λ p. not (has opening p)) qs))
    ≡ map present_of
    (cond (not b) (q ∷ filter (λ p. not (has opening p)) qs) (filter (λ p. not (has opening p)) qs)))
    [ true ↦ kept-filter qs opening later | false ↦ rw (here, kept-filter qs opening later) ]

-- where both states are equal, all openings are kept
steady_kept : (qs : List (Twice WaitState)) (n : ℕ) → map present_of qs ≡ map kept_of (take n qs) → map kept_of qs
    ≡ map present_of qs
steady_kept qs n e =
    let long : length qs ≤ n = omega
    (arith, ap length e, length-map qs present_of, length-map (take n qs) kept_of, length-take n qs) in
    ap (map kept_of) (sym (take_all n qs long)) ∙ sym e

pub all_without : (qs ws : List (Twice WaitState)) (opening n m : ℕ) → map present_of qs ≡ map kept_of (take n qs) → ws
    ≡ filter (λ q. not (has opening q)) qs → length ws ≤ m
    → ◌≡◌ {A = Twice (List WaitState)} (record { present = map present_of ws; kept = map kept_of (take m ws) })
    (both (filter (λ o. not (is_reader opening o)) (map present_of qs)))
all_without qs ws opening n m s e l =
    rw (take_all m ws l, e, kept-filter qs opening (steady_kept qs n s), present-filter qs opening)

-- ---- a line

present-noted : (message : List ℕ) (qs : List (Twice WaitState)) → map present_of (map (with_noted message) qs)
    ≡ map (noted message) (map present_of qs)
present-noted message [] = refl
present-noted message (q ∷ qs) = ap (λ os. noted message (present_of q) ∷ os) (present-noted message qs)

pub kept_of-taken : (qs ws : List (Twice WaitState)) (n : ℕ) → map kept_of ws ≡ map kept_of qs → map kept_of (take n ws)
    ≡ map kept_of (take n qs)
kept_of-taken qs ws n e = map-take kept_of n ws ∙ ap (take n) e ∙ sym (map-take kept_of n qs)

pub all_noted : (message : List ℕ) (qs ws : List (Twice WaitState)) (n : ℕ) → ws ≡ map (with_noted message) qs
    → map kept_of ws ≡ map kept_of qs
    → ◌≡◌ {A = Twice (List WaitState)} (record { present = map present_of ws; kept = map kept_of (take n ws) })
    (record { present = map (noted message) (map present_of qs); kept = map kept_of (take n qs) })
all_noted message qs ws n e k = rw (kept_of-taken qs ws n k, e, present-noted message qs)

-- ---- no openings

none_noted : (ws : List WaitState) (line : List ℕ) → (length ws == 0) ≡ true → map (noted line) ws ≡ ws
none_noted [] line h = refl
none_noted (w ∷ ws) line h = let e : length (w ∷ ws) ≡ 0 = grind (arith, nat_tests) in absurd (omega (arith, e))

pub none_has_line : (s : WatchState) (line : List ℕ) → (length s.log == 0) ≡ true → with_line s line ≡ s
none_has_line s line h = ap (λ (log : List WaitState). record s { log = log }) (none_noted s.log line h)

pub ruleset idle = (none_has_line)

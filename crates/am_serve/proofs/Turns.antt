-- The messages of entries stand in a journal that has the entries.
use Rattle.std.proofs.Common.{◌≡◌, ℕ, zero, suc, ◌-◌, ◌≤◌, Bool, List, [], ◌∷◌, ◌++◌, length, take, drop, Some, refl}
use Rattle.std.proofs.Common.{sym, ap, subst, ◌∙◌, append_assoc, arith, if◌then◌else◌}
use Rattle.std.specs.Prelude.{slice_get}
use Rattle.std.proofs.lemmas.Bool.{eq-eqb}
use Rattle.std.proofs.lemmas.List.{take-append-drop}
use Rattle.std.proofs.lemmas.List.Concat.{flat_map-append}
use Rattle.turn_lock.specs.Journal.{Stands}
use Rattle.ninep_types.specs.Spelling.{spelling_t}
use Rattle.am_journal.specs.declared.event.Event.{Event}
use Rattle.am_journal.specs.declared.event.Event.TheVariants.{Msg}
use Rattle.am_counter.specs.Known.{Known}
use Rattle.am_serve.specs.Gained.{Gains}
use Rattle.am_serve.specs.Reading.{AreMessages, spelling_of, spellings, spelled_on, messages_of, StandAmong}

-- an entry of a journal, what stands before it from a place on, and what stands behind it
split : (log : List Event) (low k : ℕ) (e : Event) → low ≤ k → slice_get log k ≡ Some e → (before : List Event)
    × (drop low log ≡ before ++ e ∷ drop (suc k) log)
split [] low k e le s = absurd cc
split (y ∷ ys) zero zero e le s = ([], first s)
  where
    first : Some y ≡ Some e → y ∷ ys ≡ e ∷ ys
    first q = let same : y ≡ e = cc in ap (λ (x : Event). x ∷ ys) same
split (y ∷ ys) zero (suc k) e le s = let r = split ys zero k e (omega arith) s in
    (y ∷ r.0, ap (λ (l : List Event). y ∷ l) r.1)
split (y ∷ ys) (suc low) zero e le s = absurd (omega (arith, le))
split (y ∷ ys) (suc low) (suc k) e le s = split ys low k e (omega (arith, le)) s

more_before : (messages front all : List (List ℕ)) → StandAmong messages all → StandAmong messages (front ++ all)
more_before [] front all s = tt
more_before (m ∷ messages) front all s =
    (front ++ s.0, s.1, ap (λ (l : List (List ℕ)). front ++ l) s.2 ∙ sym (append_assoc front s.0 (m ∷ s.1)), s.3)

joined : (conn : ℕ) (xs ys : List Event) → messages_of (xs ++ ys) conn ≡ messages_of xs conn ++ messages_of ys conn
joined conn xs ys = flat_map-append (spelled_on conn) xs ys

stand_behind : (conn : ℕ) (log : List Event) (low : ℕ) (entries : List (ℕ × Event)) → Stands log low entries
    → AreMessages conn entries → StandAmong (spellings entries) (messages_of (drop low log) conn)
stand_behind conn log low [] s m = tt
stand_behind conn log low ((n, e) ∷ entries) s m =
    let msg = m.0.0 in
    let at = split log low (n - 1) e (omega (arith, s.0)) s.1 in
    let after : drop (suc (n - 1)) log ≡ drop n log = ap (λ k. drop k log)
    (let same : suc (n - 1) ≡ n = omega (arith, s.0) in same) in
    let is : e ≡ Msg conn msg = m.0.1 in
    let own : spelled_on conn e ≡ spelling_t msg ∷ [] = ap (spelled_on conn) is
    ∙ ap (λ (b : Bool). if b then spelling_t msg ∷ [] else []) (eq-eqb conn conn refl) in
    let all : messages_of (drop low log) conn ≡ messages_of at.0 conn
    ++ spelling_t msg ∷ messages_of (drop n log) conn =
    ap (λ (l : List Event). messages_of l conn) (at.1 ∙ ap (λ (l : List Event). at.0 ++ e ∷ l) after)
    ∙ joined conn at.0 (e ∷ drop n log)
    ∙ ap (λ (l : List (List ℕ)). messages_of at.0 conn ++ (l ++ messages_of (drop n log) conn)) own in
    let P : List (List ℕ) → Type 0 = λ l. StandAmong (l ++ spellings entries) (messages_of (drop low log) conn) in
    subst P (sym (ap spelling_of is)) (
      messages_of at.0 conn,
      messages_of (drop n log) conn,
      all,
      stand_behind conn log n entries s.2 m.1,
    )

-- what a seat has gained stands in what it has seen
pub stand_seen : (conn : ℕ) (v w : Known) (entries : List (ℕ × Event)) → Gains v entries w → AreMessages conn entries
    → StandAmong (spellings entries) (messages_of w.seen conn)
stand_seen conn v w entries g m =
    let low = length v.seen in
    let P : List (List ℕ) → Type 0 = λ l. StandAmong (spellings entries) l in
    subst P (sym (joined conn (take low w.seen) (drop low w.seen))
    ∙ ap (λ (l : List Event). messages_of l conn) (take-append-drop low w.seen))
    (more_before (spellings entries) (messages_of (take low w.seen) conn) (messages_of (drop low w.seen) conn)
    (stand_behind conn w.seen low entries g.stand m))

-- Ending a connection.
use Rattle.std.proofs.Common.{◌≡◌, ℕ, ◌+◌, Bool, true, false, not, ◌==◌, List, [], ◌∷◌, ◌++◌, length, Some, None, refl}
use Rattle.std.proofs.Common.{sym, ap, subst, ◌∙◌}
use Rattle.std.specs.Prelude.{if◌then◌else◌}
use Rattle.std.specs.List.{list_any}
use Rattle.std.proofs.lemmas.Bool.{or_left, or_right, eq-eqb}
use Rattle.std.proofs.lemmas.List.{append-nil}
use Rattle.std.proofs.lemmas.List.Folds.{list_any-append}
use Rattle.am_journal.specs.declared.ending.Ending.{Ending}
use Rattle.am_journal.specs.declared.event.Event.{Event}
use Rattle.am_journal.specs.declared.event.Event.TheVariants.{Hang}
use Rattle.am_journal.specs.declared.event.Refused.{Refused}
use Rattle.am_journal.specs.declared.event.Refused.TheVariants.{NotEnabled, NoMemory}
use Rattle.am_journal.specs.declared.event.Why.{Why}
use Rattle.am_journal.specs.declared.event.Why.TheVariants as why
use Rattle.am_counter.specs.Known.{Known, Looks, Submits}
use Rattle.am_counter.specs.Played.{IsPrefix, ArePlayed, IsPlayed, has_dial, has_hang, hang_why, Refuses, IsWhy}
use Rattle.am_counter.specs.Played.{is_dial_of, is_hang_of}
use Rattle.am_serve.specs.Gained.{Rule, Gains, hang_up, hung_up, plain, HangsUp}
use Rattle.am_serve.proofs.Gaining.{gains_look, gains_entry}

-- ---- what a journal has stays in a longer one

kept : (test : Event → Bool) (xs ys : List Event) → IsPrefix xs ys → list_any test xs ≡ true → list_any test ys ≡ true
kept test xs ys p e = sym (ap (list_any test) p.1) ∙ list_any-append test xs p.0
    ∙ or_left (list_any test xs) (list_any test p.0) e

pub has_dial_kept : (xs ys : List Event) (conn : ℕ) → IsPrefix xs ys → has_dial xs conn ≡ true → has_dial ys conn ≡ true
has_dial_kept xs ys conn p e = kept (is_dial_of conn) xs ys p e

pub has_hang_kept : (xs ys : List Event) (conn : ℕ) → IsPrefix xs ys → has_hang xs conn ≡ true → has_hang ys conn ≡ true
has_hang_kept xs ys conn p e = kept (is_hang_of conn) xs ys p e

-- a journal has the hang-up that is added to it
pub has_hang_added : (now : List Event) (conn : ℕ) (cause : Ending) → has_hang (now ++ Hang conn cause ∷ []) conn ≡ true
has_hang_added now conn cause =
    list_any-append (is_hang_of conn) now (Hang conn cause ∷ [])
    ∙ or_right (list_any (is_hang_of conn) now) (list_any (is_hang_of conn) (Hang conn cause ∷ []))
    (or_left (conn == conn) false (eq-eqb conn conn refl))

-- ---- whether it is made

pub played_front : (enabled : Rule) (before xs ys : List Event) → ArePlayed enabled before (xs ++ ys)
    → ArePlayed enabled before xs
unfolding ArePlayed
played_front enabled before [] ys p = tt
played_front enabled before (x ∷ xs) ys p = (p.0, p.1, played_front enabled (before ++ x ∷ []) xs ys p.2)

-- a hang-up is enabled where the connection has none
not_ended : (journal : List Event) (conn : ℕ) → hang_why journal conn ≡ None → has_hang journal conn ≡ false
not_ended journal conn e = by_cases (has_dial journal conn) (has_hang journal conn) e
  where
    by_cases : (dialled ended : Bool) → (if dialled then (if ended then Some why.Ended else None) else Some why.Conn)
        ≡ None → ended ≡ false
    by_cases true true e = absurd cc
    by_cases true false e = refl
    by_cases false ended e = absurd cc

pub hang_made : (enabled : Rule) (v w : Known) (conn n : ℕ) (cause : Ending)
    → ((journal : List Event) → IsPlayed enabled journal → enabled journal (Hang conn cause) ≡ hang_why journal conn)
    → IsPlayed enabled w.seen → Submits enabled v (Hang conn cause) n w → HangsUp v conn cause true w
hang_made enabled v w conn n cause law played s =
    let now = s.0 in
    let P : List Event → Type 0 = λ l. IsPlayed enabled l in
    let whole : IsPlayed enabled (now ++ Hang conn cause ∷ []) = subst P (ap (λ (x : Known). x.seen) s.4) played in
    let none : has_hang now conn ≡ false = not_ended now conn (sym
    (law now (played_front enabled [] now (Hang conn cause ∷ []) whole)) ∙ s.2) in
    let F : Bool → Known = λ b. record v {
      seen = now ++ plain (if b then [] else
          (length now + 1, Hang conn cause) ∷ []);
      mine = v.mine ++ (if b then [] else
          (length now + 1, Hang conn cause) ∷ []);
    } in
    (now, s.1, sym (ap not none), s.4 ∙ sym (ap F none))

pub hang_not_made : (v w : Known) (conn : ℕ) (cause : Ending) → Looks v w
    → has_hang w.seen conn ≡ true → HangsUp v conn cause false w
hang_not_made v w conn cause l e =
    let now = l.0 in
    let some : has_hang now conn ≡ true = ap (λ (x : List Event). has_hang x conn)
    (sym (ap (λ (x : Known). x.seen) l.2)) ∙ e in
    let F : Bool → Known = λ b. record v {
      seen = now ++ plain (if b then [] else
          (length now + 1, Hang conn cause) ∷ []);
      mine = v.mine ++ (if b then [] else
          (length now + 1, Hang conn cause) ∷ []);
    } in
    let G : List Event → List (ℕ × Event) → Known = λ a b. record v { seen = a; mine = b } in (
      now,
      l.1,
      sym (ap not some),
      l.2 ∙ sym (ap (λ (a : List Event). G a v.mine) (append-nil now))
          ∙ sym (ap (G (now ++ [])) (append-nil v.mine)) ∙ sym (ap F some),
    )

-- a hang-up isn't enabled where the connection has ended
pub ended_since : (journal : List Event) (conn : ℕ) (reason : Why)
    → has_dial journal conn ≡ true → hang_why journal conn ≡ Some reason → has_hang journal conn ≡ true
ended_since journal conn reason d e = by_cases (has_dial journal conn) (has_hang journal conn) reason d e
  where
    by_cases : (dialled ended : Bool) (reason : Why) → dialled ≡ true →
        (if dialled then (if ended then Some why.Ended else None) else Some why.Conn) ≡ Some reason → ended ≡ true
    by_cases true true reason d e = refl
    by_cases true false reason d e = absurd cc
    by_cases false ended reason d e = absurd cc

pub hang_refused : (enabled : Rule) (v w : Known) (conn : ℕ) (cause : Ending) (e : Refused)
    → ((journal : List Event) → IsPlayed enabled journal → enabled journal (Hang conn cause) ≡ hang_why journal conn)
    → IsPlayed enabled w.seen → has_dial w.seen conn ≡ true → Looks v w → Refuses e (enabled w.seen (Hang conn cause))
    → IsWhy e → HangsUp v conn cause false w
hang_refused enabled v w conn cause (NotEnabled reason) law played dialled l r h = hang_not_made v w conn cause l
    (ended_since w.seen conn reason dialled (sym (law w.seen played) ∙ r))
hang_refused enabled v w conn cause NoMemory law played dialled l r h = absurd h

-- ---- what it adds

pub gains_hang_up : (v w : Known) (conn : ℕ) (cause : Ending) (now : List Event) → IsPrefix v.seen now
    → w ≡ hung_up v now conn cause → Gains v (hang_up now conn cause) w
gains_hang_up v w conn cause now p e = by_cases (has_hang now conn) e
  where
    added : Bool → List (ℕ × Event)
    added b = if b then [] else (length now + 1, Hang conn cause) ∷ []

    by_cases : (b : Bool) → w ≡ record v {
      seen = now ++ plain (if b then [] else
          (length now + 1, Hang conn cause) ∷ []);
      mine = v.mine ++ (if b then [] else
          (length now + 1, Hang conn cause) ∷ []);
    } → Gains v (if b then [] else (length now + 1, Hang conn cause) ∷ []) w
    by_cases true e =
        let G : List Event → List (ℕ × Event) → Known = λ a b. record v { seen = a; mine = b } in
        gains_look v w (
          now,
          p,
          e ∙ ap (λ (a : List Event). G a (v.mine ++ [])) (append-nil now)
              ∙ ap (G now) (append-nil v.mine),
        )
    by_cases false e = let P : Known → Type 0 = λ x. Gains v ((length now + 1, Hang conn cause) ∷ []) x in
        subst P (sym e) (gains_entry v now (Hang conn cause) p)

-- Lines of a script that are passed.
use Rattle.std.proofs.Common.{◌≡◌, ◌⊎◌, inl, inr, ℕ, ◌+◌, ◌<◌, ◌≤◌, true, List, [], ◌∷◌, ◌++◌, length, refl, sym, ap}
use Rattle.std.proofs.Common.{subst, ◌∙◌, append_assoc, arith}
use Rattle.std.proofs.lemmas.List.{append-nil, map-append, length-append}
use Rattle.am_text.specs.Lines.{lines_of}
use Rattle.am_journal.specs.declared.event.Event.{Event}
use Rattle.am_journal.specs.declared.event.Format.{Format}
use Rattle.am_journal.specs.declared.event.Format.TheVariants.{One, Two}
use Rattle.am_journal.specs.Journal.{first_line}
use Rattle.am_counter.specs.Known.{Known, with_seen, with_entry, Looks, Submits}
use Rattle.am_counter.specs.Played.{IsPrefix, has_hang}
use Rattle.am_serve.specs.Gained.{Rule, Answers, Gains, gained, plain}
use Rattle.am_serve.specs.Script.{Passes, PassesLine, Passed, RefusedAt, IsRefused, HaveEnded, asked_by, asked_by_lines}
use Rattle.am_serve.specs.Script.{asked_by_script, asked_events, first_asked, then_asked}
use Rattle.am_serve.specs.declared.asked.Asked.{Asked}
use Rattle.am_serve.specs.declared.asked.Asked.TheVariants.{Does, Awaits, Ends, Faulty}
use Rattle.am_serve.specs.declared.fault.LineFault.{LineFault}
use Rattle.am_serve.specs.declared.fault.LineFault.TheVariants as fault
use Rattle.am_journal.specs.declared.event.Event.TheVariants.{Msg}
use Rattle.am_serve.specs.Sending.{Sends}
use Rattle.am_serve.proofs.Gaining.{grown, gains_more, gains_look, gains_entry, gained_is, gains_gained}
use Rattle.am_serve.proofs.HangUps.{has_hang_kept}
use Rattle.std.proofs.lemmas.Bool.{cases_eq}

-- what lines behind a heading ask
abbrev pub lines_asked : List ℕ → List Asked
lines_asked bytes = asked_by_lines (lines_of bytes)

-- at most one line stands before the first that asks
pub first_small : (format : Format) → first_line format ≤ 2
first_small One = omega arith
first_small Two = omega arith

-- ---- looking

pub looks_on : (v w x : Known) → Looks v w → Looks w x → Looks v x
looks_on v w x l m =
    let at : w.seen ≡ l.0 = ap (λ (k : Known). k.seen) l.2 in
    let P : List Event → Type 0 = λ s. IsPrefix s m.0 in
    (m.0, grown v.seen l.0 m.0 l.1 (subst P at m.1), m.2 ∙ ap (λ (k : Known). with_seen k m.0) l.2)

pub looks_same : (v : Known) → Looks v v
looks_same v = (v.seen, ([], append-nil v.seen), refl)

pub looks_equal : (v w : Known) → w ≡ v → Looks v w
looks_equal v w e = let P : Known → Type 0 = λ x. Looks v x in subst P (sym e) (looks_same v)

-- a look before a turn makes no difference to it
looks_then_submits : (enabled : Rule) (v w x : Known) (e : Event) (n : ℕ) → Looks v w → Submits enabled w e n x
    → Submits enabled v e n x
looks_then_submits enabled v w x e n l s =
    let at : w.seen ≡ l.0 = ap (λ (k : Known). k.seen) l.2 in
    let P : List Event → Type 0 = λ t. IsPrefix t s.0 in
    (s.0, grown v.seen l.0 s.0 l.1 (subst P at s.1), s.2, s.3, s.4 ∙ ap (λ (k : Known). with_entry k s.0 e) l.2)

-- the same of a message
pub looks_then_sends : (enabled : Rule) (conn : ℕ) (v w x : Known) (m : List ℕ) → Looks v w → Sends enabled conn w m x
    → Sends enabled conn v m x
looks_then_sends enabled conn v w x m l s = (s.0, s.1, s.2, looks_then_submits enabled v w x (Msg conn s.0) s.1 l s.3)

-- ---- lines that are passed

module _ (enabled : Rule) (answer : Answers) where
  looks_then_passes : (v u w : Known) (lines : List Asked) → Looks v u → Passes enabled answer u lines w
      → Passes enabled answer v lines w
  unfolding Passes
  looks_then_passes v u w [] l p = looks_on v u w l p
  looks_then_passes v u w (Does e ∷ lines) l p = (p.0, (p.1.0, looks_then_submits enabled v u p.0 e p.1.0 l p.1.1), p.2)
  looks_then_passes v u w (Awaits x ∷ lines) l p = (p.0, (looks_on v u p.0 l p.1.0, p.1.1), p.2)
  looks_then_passes v u w (Ends ∷ lines) l p = absurd p.1
  looks_then_passes v u w (Faulty ∷ lines) l p = absurd p.1

  passes_on : (v u w : Known) (before after : List Asked) → Passes enabled answer v before u
      → Passes enabled answer u after w → Passes enabled answer v (before ++ after) w
  unfolding Passes
  passes_on v u w [] after p q = looks_then_passes v u w after p q
  passes_on v u w (a ∷ before) after p q = (p.0, p.1, passes_on p.0 u w before after p.2 q)

  pub passes_one : (v w : Known) (a : Asked) → PassesLine enabled answer v a w → Passes enabled answer v (a ∷ []) w
  unfolding Passes
  passes_one v w a p = (w, p, looks_same w)

  pub passes_nothing : (v : Known) → Passes enabled answer v [] v
  unfolding Passes
  passes_nothing v = looks_same v

  pub passes_look : (v u w : Known) (lines : List Asked) → Passes enabled answer v lines u → Looks u w
      → Passes enabled answer v lines w
  unfolding Passes
  passes_look v u w lines p l =
      let P : List Asked → Type 0 = λ x. Passes enabled answer v x w in
      subst P (append-nil lines) (passes_on v u w lines [] p l)

  pub passes_more : (v u w : Known) (lines : List Asked) (a : Asked) → Passes enabled answer v lines u
      → PassesLine enabled answer u a w → Passes enabled answer v (lines ++ a ∷ []) w
  passes_more v u w lines a p q = passes_on v u w lines (a ∷ []) p (passes_one u w a q)

  -- ---- what they add

  abbrev Adds : Known → List Event → Known → Type 0
  Adds v events w = (entries : List (ℕ × Event)) × Gains v entries w × (plain entries ≡ events)

  adds_more : (v u w : Known) (xs ys : List Event) → Adds v xs u → Adds u ys w → Adds v (xs ++ ys) w
  adds_more v u w xs ys p q = (
    p.0 ++ q.0,
    gains_more v u w p.0 q.0 p.1 q.1,
    map-append (λ (x : ℕ × Event). x.1) p.0 q.0 ∙ ap (λ (l : List Event). l ++ plain q.0) p.2
        ∙ ap (λ (l : List Event). xs ++ l) q.2,
  )

  adds_entry : (v w : Known) (e : Event) (n : ℕ) → Submits enabled v e n w → Adds v (e ∷ []) w
  adds_entry v w e n s =
      let P : Known → Type 0 = λ x. Gains v ((length s.0 + 1, e) ∷ []) x in
      ((length s.0 + 1, e) ∷ [], subst P (sym s.4) (gains_entry v s.0 e s.1), refl)

  passes_add : (v w : Known) (lines : List Asked) → Passes enabled answer v lines w → Adds v (asked_events lines) w
  unfolding Passes
  passes_add v w [] p = ([], gains_look v w p, refl)
  passes_add v w (Does e ∷ lines) p = adds_more v p.0 w (e ∷ []) (asked_events lines) (adds_entry v p.0 e p.1.0 p.1.1)
      (passes_add p.0 w lines p.2)
  passes_add v w (Awaits x ∷ lines) p = adds_more v p.0 w [] (asked_events lines) ([], gains_look v p.0 p.1.0, refl)
      (passes_add p.0 w lines p.2)
  passes_add v w (Ends ∷ lines) p = absurd p.1
  passes_add v w (Faulty ∷ lines) p = absurd p.1

  pub passed_gains : (v w : Known) (lines : List Asked) → Passes enabled answer v lines w → Gains v (gained v w) w
  passed_gains v w lines p = let a = passes_add v w lines p in gains_gained v w a.0 a.1

  pub passed_is : (v w : Known) (lines : List Asked) → Passes enabled answer v lines w → Passed enabled answer v lines w
  passed_is v w lines p =
      let a = passes_add v w lines p in
      record {
        passes = p;
        events = ap plain (gained_is v w a.0 a.1) ∙ a.2;
      }

  -- ---- the lines so far, and those that are left

  pub record PassedSoFar (v w : Known) (script : List ℕ) (rest : List Asked) (line : ℕ) : Type 0 where
    pub before : List Asked
    pub split : asked_by_script script ≡ before ++ rest
    pub number : line ≡ length before + first_asked script
    pub passes : Passes enabled answer v before w

  pub none_so_far : (v : Known) (script : List ℕ) (rest : List Asked) (line : ℕ) → asked_by_script script ≡ rest
      → line ≡ first_asked script → PassedSoFar v v script rest line
  none_so_far v script rest line e n =
      record { before = []; split = e; number = omega (arith, n); passes = passes_nothing v }

  -- the first of the lines that are left, and what it asks
  next_asked : (rest after : List ℕ) (first : List ℕ) → lines_of rest ≡ first ∷ lines_of after
      → lines_asked rest ≡ then_asked (asked_by first) (lines_asked after)
  unfolding asked_by_lines
  next_asked rest after first e = ap asked_by_lines e

  push : (all before others : List Asked) (a : Asked) → all ≡ before ++ (a ∷ others) → all ≡ (before ++ a ∷ [])
      ++ others
  push all before others a e = e ∙ sym (append_assoc before (a ∷ []) others)

  -- one line more was passed
  pub passes_next : (v u w : Known) (script : List ℕ) (rest after first : List ℕ) (line : ℕ)
      → lines_of rest ≡ first ∷ lines_of after
      → PassedSoFar v u script (lines_asked rest) line → PassesLine enabled answer u (asked_by first) w
      → PassedSoFar v w script (lines_asked after) (line + 1)
  passes_next v u w script rest after first line e h p = by_cases (asked_by first)
      (h.split ∙ ap (λ (l : List Asked). h.before ++ l) (next_asked rest after first e)) p
    where
      more : (a : Asked) → asked_by_script script ≡ h.before ++ (a ∷ lines_asked after)
          → PassesLine enabled answer u a w → PassedSoFar v w script (lines_asked after) (line + 1)
      more a s p = record {
        before = h.before ++ a ∷ [];
        split = push (asked_by_script script) h.before (lines_asked after) a s;
        number = omega (arith, h.number, length-append h.before (a ∷ []));
        passes = passes_more v u w h.before a h.passes p;
      }

      by_cases : (a : Asked) → asked_by_script script ≡ h.before ++ then_asked a (lines_asked after)
          → PassesLine enabled answer u a w → PassedSoFar v w script (lines_asked after) (line + 1)
      by_cases (Does x) s p = more (Does x) s p
      by_cases (Awaits x) s p = more (Awaits x) s p
      by_cases Ends s p = absurd p
      by_cases Faulty s p = absurd p

  all_passed : (v w : Known) (script : List ℕ) (rest : List Asked) (line : ℕ) → PassedSoFar v w script rest line
      → rest ≡ [] → Passed enabled answer v (asked_by_script script) w
  all_passed v w script rest line h e =
      let P : List Asked → Type 0 = λ l. Passed enabled answer v l w in
      let whole : h.before ≡ asked_by_script script = sym (append-nil h.before)
      ∙ sym (ap (λ (l : List Asked). h.before ++ l) e) ∙ sym h.split in
      subst P whole (passed_is v w h.before h.passes)

  pub so_far_gains : (v u w : Known) (script : List ℕ) (rest : List Asked) (line : ℕ)
      → PassedSoFar v u script rest line → Looks u w → Gains v (gained v w) w
  so_far_gains v u w script rest line h l = passed_gains v w h.before (passes_look v u w h.before h.passes l)

  -- a line `report`
  pub reported : (v w : Known) (script : List ℕ) (rest after first : List ℕ) (line : ℕ)
      → lines_of rest ≡ first ∷ lines_of after
      → PassedSoFar v w script (lines_asked rest) line → asked_by first ≡ Ends
      → Passed enabled answer v (asked_by_script script) w
  reported v w script rest after first line e h r =
      all_passed v w script (lines_asked rest) line h (next_asked rest after first e
      ∙ ap (λ (a : Asked). then_asked a (lines_asked after)) r)

  -- the end
  pub ended : (v w : Known) (script : List ℕ) (rest : List ℕ) (line : ℕ)
      → length rest ≡ 0 → PassedSoFar v w script (lines_asked rest) line
      → Passed enabled answer v (asked_by_script script) w
  unfolding asked_by_lines
  ended v w script [] line e h = all_passed v w script [] line h refl
  ended v w script (b ∷ bs) line e h = absurd (omega (arith, e))

  -- no memory
  pub out : (v u w : Known) (script : List ℕ) (rest : List Asked) (line : ℕ)
      → PassedSoFar v u script rest line → Looks u w
      → (before : List Asked) × (after : List Asked) × (asked_by_script script ≡ before ++ after)
      × Passed enabled answer v before w
  out v u w script rest line h l = (
    h.before,
    rest,
    h.split,
    passed_is v w h.before
        (passes_look v u w h.before h.passes l),
  )

  -- a line is refused
  pub refused : (clients : ℕ) (v u w : Known) (script : List ℕ) (rest after first : List ℕ) (line : ℕ)
      (why : LineFault) → lines_of rest ≡ first ∷ lines_of after
      → PassedSoFar v u script (lines_asked rest) line → Looks u w
      → IsRefused enabled answer clients w.seen (asked_by first) why
      → RefusedAt enabled answer clients v script line why w
  refused clients v u w script rest after first line why e h l r = by_cases (asked_by first) why
      (h.split ∙ ap (λ (t : List Asked). h.before ++ t) (next_asked rest after first e)) r
    where
      at : (a : Asked) (others : List Asked) (why : LineFault) → asked_by_script script ≡ h.before ++ (a ∷ others)
          → IsRefused enabled answer clients w.seen a why → RefusedAt enabled answer clients v script line why w
      at a others why s r = record {
        before = h.before;
        refused = a;
        after = others;
        split = s;
        number = h.number;
        passed = passed_is v w h.before (passes_look v u w h.before h.passes l);
        cause = r;
      }

      -- the end of a script is never refused
      ends : (why : LineFault) → IsRefused enabled answer clients w.seen Ends why → ⊥
      ends fault.Line r = cc
      ends fault.Alone r = let e : Ends ≡ Awaits r.0 = r.1 in cc
      ends (fault.NotEnabled x) r = let e : Ends ≡ Does r.0 = r.1 in cc

      by_cases : (a : Asked) (why : LineFault) → asked_by_script script ≡ h.before ++ then_asked a (lines_asked after)
          → IsRefused enabled answer clients w.seen a why → RefusedAt enabled answer clients v script line why w
      by_cases (Does x) why s r = at (Does x) (lines_asked after) why s r
      by_cases (Awaits x) why s r = at (Awaits x) (lines_asked after) why s r
      by_cases Ends why s r = absurd (ends why r)
      by_cases Faulty why s r = at Faulty [] why s r

-- ---- connections that have ended

pub have_ended_kept : (clients : ℕ) (xs ys : List Event) → IsPrefix xs ys → HaveEnded clients xs → HaveEnded clients ys
have_ended_kept clients xs ys p h = λ c lt. has_hang_kept xs ys c p (h c lt)

pub have_ended_more : (n : ℕ) (xs ys : List Event) → IsPrefix xs ys → HaveEnded n xs
    → has_hang ys n ≡ true → HaveEnded (n + 1) ys
have_ended_more n xs ys p h last = λ c lt. by_cases c lt (cases_eq c n)
  where
    by_cases : (c : ℕ) → c < n + 1 → (c ≡ n) ⊎ (c ≡ n → ⊥) → has_hang ys c ≡ true
    by_cases c lt (inl e) = ap (has_hang ys) e ∙ last
    by_cases c lt (inr ne) = has_hang_kept xs ys c p (h c (omega (arith, lt, ne)))

-- looking finds a longer journal
pub looks_further : (v w : Known) → Looks v w → IsPrefix v.seen w.seen
looks_further v w l = let P : List Event → Type 0 = λ s. IsPrefix v.seen s in
    subst P (sym (ap (λ (k : Known). k.seen) l.2)) l.1

-- What holds of the editor before each round, and that a round leaves it so.
use Rattle.std.proofs.Common.{◌≡◌, ℕ, ◌+◌, ◌*◌, ◌%◌, ◌<◌, ◌≤◌, ◌≢◌, Bool, true, false, List, [], ◌∷◌, ◌++◌, length}
use Rattle.std.proofs.Common.{take, drop, refl, sym, ap, subst, ◌∙◌, arith}
use Rattle.std.specs.Prelude.{◌==◌, if◌then◌else◌}
use Rattle.std.specs.List.{fold}
use Rattle.std.proofs.lemmas.Bool.Decides.{nat_tests}
use Rattle.std.proofs.lemmas.List.{length-append, length-take, length-drop}
use Rattle.am_text.specs.Utf8.{utf8}
use Rattle.ninep_types.specs.declared.message.RBody.TheVariants as r
use Rattle.am_journal.specs.declared.event.Event.{Event}
use Rattle.am_journal.specs.declared.event.Event.TheVariants as event
use Rattle.edit_log.specs.declared.types.Edit.{Edit}
use Rattle.edit_log.specs.Edited.{after, text_after, images}
use Rattle.event_book.specs.Lives.{pending_from}
use Rattle.event_book.specs.BookState.{BookState, piece_for}
use Rattle.acme_core.specs.Run.{step}
use Rattle.core_parts.specs.States.{State}
use Rattle.am_drill.specs.declared.numbers.Turn.{Turn}
use Rattle.am_drill.specs.declared.numbers.Turn.TheVariants as turn
use Rattle.am_drill.specs.Brief.{IsBrief}
use Rattle.am_drill.specs.Drill.{write, key, poll, flush, read, letter, turn_of, played_turn, round}
use Rattle.am_drill.proofs.Calm.{CanDo, CanDoAll, write_allowed, poll_allowed, flush_allowed, flush_waiting_allowed}
use Rattle.am_drill.proofs.Calm.{read_allowed, took_allowed, key_allowed, write_lawful, poll_lawful, flush_lawful}
use Rattle.am_drill.proofs.Calm.{read_lawful, took_lawful, key_lawful, none_brief, wrote_brief, flushed_brief}
use Rattle.am_drill.proofs.Calm.{read_brief, front_short, piece_short}
use Rattle.am_drill.proofs.Editing.{text_of, dot_of, write_step, key_step}
use Rattle.am_drill.proofs.Shapes.{items_left, carry_left, answered_book}
use Rattle.am_drill.proofs.Standing.{Facts, book_with, standing}
use Rattle.am_drill.proofs.Steps.{answered, reader, reading, waits, with_book, read_step, flush_step, took_step}
use Rattle.am_drill.proofs.Steps.{flush_waiting_step, poll_waits_step, poll_now_step}

-- The body has a rune for each round at most, dot is null, and few replies are unsent.
pub record IsCalm (runes unsent : ℕ) (f : Facts) : Type 0 where
  pub text : length (text_of f) ≤ runes
  pub dot : f.story.body.dot.range.q0 ≡ f.story.body.dot.range.q1
  pub few : f.unsent.count ≤ unsent

pub record Stands (runes unsent : ℕ) (s : State) : Type 0 where
  pub facts : Facts
  pub is : s ≡ standing [] [] facts
  pub calm : IsCalm runes unsent facts

-- the events can be done, and the editor stands so after them
pub record Goes (runes unsent : ℕ) (s : State) (es : List Event) : Type 0 where
  pub all : CanDoAll s es
  pub stands : Stands runes unsent (fold step s es)

-- ---- one event

pub on_step : (s t : State) (e : Event) → step s e ≡ t → IsBrief t.replies → IsBrief (step s e).replies
on_step s t e is brief = subst (λ (x : State). IsBrief x.replies) (sym is) brief

one : (f g : Facts) (e : Event) (runes unsent : ℕ) → CanDo (standing [] [] f) e
    → step (standing [] [] f) e ≡ standing [] [] g → IsCalm runes unsent g
    → Goes runes unsent (standing [] [] f) (e ∷ [])
one f g e runes unsent can is calm = record { all = (can, tt); stands = record { facts = g; is = is; calm = calm } }

-- ---- the body

text_more : (t : List ℕ) (es : List Edit) (e : Edit) → text_after t (es ++ e ∷ []) ≡ after (text_after t es) e
text_more t [] e = refl
text_more t (x ∷ es) e = text_more (after t x) es e

longer : (t : List ℕ) (q0 q1 l : ℕ) → q0 ≡ q1 → length (after t (record { q0 = q0; q1 = q1; text = l ∷ [] })) ≡ length t
    + 1
longer t q0 q1 l null =
    omega (
      arith,
      null,
      length-append (take q0 t ++ l ∷ []) (drop q1 t),
      length-append (take q0 t) (l ∷ []),
      length-append (l ∷ []) (drop q1 t),
      length-append (take q0 t) ((l ∷ []) ++ drop q1 t),
      length-take q0 t,
      length-drop q1 t,
    )

one_rune : (f : Facts) (q0 q1 l n : ℕ) → q0 ≡ q1 → length (text_of f) ≤ n
    → length (text_after [] (f.story.body.edits ++ record { q0 = q0; q1 = q1; text = l ∷ [] } ∷ [])) ≤ n + 1
one_rune f q0 q1 l n null h =
    let e : length (text_after [] (f.story.body.edits ++ record { q0 = q0; q1 = q1; text = l ∷ [] } ∷ []))
    ≡ length (after (text_of f) (record { q0 = q0; q1 = q1; text = l ∷ [] })) =
    ap (λ (t : List ℕ). length t) (text_more [] f.story.body.edits (record { q0 = q0; q1 = q1; text = l ∷ [] }))
    in
    omega (arith, e, h, longer (text_of f) q0 q1 l null)

null_dot : (f : Facts) → f.story.body.dot.range.q0 ≡ f.story.body.dot.range.q1 → (dot_of f).q0 ≡ (dot_of f).q1
null_dot f h = ap (λ (p : ℕ). images p (drop f.story.body.dot.at f.story.body.edits)) h

-- ---- the turns

pub writes : (f : Facts) (l runes unsent : ℕ) → l < 128 → runes < 16777216 → unsent < 256 → IsCalm runes unsent f
    → Goes (runes + 1) (unsent + 1) (standing [] [] f) (write l ∷ [])
writes f l runes unsent ascii short few calm =
    let is = write_step f l ascii (omega (arith, calm.text)) in
    one f _ (write l) (runes + 1) (unsent + 1)
    (record {
      lawful = write_lawful l;
      allowed = write_allowed f l (omega (arith, calm.few));
      brief = on_step _ _
          (write l) is wrote_brief;
    })
    is
    (record {
      text = one_rune f (length (text_of f)) (length (text_of f)) l runes refl calm.text;
      dot = calm.dot;
      few =
          omega (arith, calm.few);
    })

pub keys : (f : Facts) (l runes unsent : ℕ) → l < 128 → runes < 16777216 → IsCalm runes unsent f
    → Goes (runes + 1) unsent (standing [] [] f) (key l ∷ [])
keys f l runes unsent ascii short calm =
    let null = null_dot f calm.dot in
    let is = key_step f l null in
    one f _ (key l) (runes + 1) unsent
    (record {
      lawful = key_lawful l ascii;
      allowed = key_allowed f l (omega (arith, calm.text));
      brief = on_step _ _
          (key l) is none_brief;
    })
    is
    (record { text = one_rune f (dot_of f).q0 (dot_of f).q1 l runes null calm.text; dot = refl; few = calm.few })

pub reads : (f : Facts) (runes unsent : ℕ) → unsent < 256 → IsCalm runes unsent f
    → Goes runes (unsent + 1) (standing [] [] f) (read ∷ [])
reads f runes unsent few calm =
    let is = read_step f in
    let short : length (take 32 (drop 0 (utf8 (text_of f)))) ≤ 64 =
    omega (arith, front_short 32 (drop 0 (utf8 (text_of f)))) in
    one f _ read runes (unsent + 1)
    (record {
      lawful = read_lawful;
      allowed = read_allowed f (omega (arith, calm.few));
      brief = on_step _ _ read is
          (read_brief 5 (take 32 (drop 0 (utf8 (text_of f)))) short);
    })
    is
    (record { text = calm.text; dot = calm.dot; few = omega (arith, calm.few) })

-- ---- two events

two : (s t u : State) (a b : Event) (runes unsent : ℕ) → CanDo s a → step s a ≡ t → CanDo t b
    → step t b ≡ u → Stands runes unsent u → Goes runes unsent s (a ∷ b ∷ [])
two s t u a b runes unsent first is second next stands = record {
  all = (first, (subst (λ (x : State). CanDo x b) (sym is) second, tt));
  stands = subst (λ (x : State). Stands runes unsent x) (sym (ap (λ (x : State). step x b) is ∙ next)) stands;
}

pub takes : (f : Facts) (runes unsent : ℕ) → unsent < 256 → IsCalm runes unsent f
    → Goes runes 0 (standing [] [] f) (read ∷ event.Took 0 ∷ [])
takes f runes unsent few calm =
    let is = read_step f in
    let short : length (take 32 (drop 0 (utf8 (text_of f)))) ≤ 64 =
    omega (arith, front_short 32 (drop 0 (utf8 (text_of f)))) in
    let g : Facts = answered f 5 (r.Read (take 32 (drop 0 (utf8 (text_of f))))) in
    two (standing [] [] f) (standing [] [] g) _ read (event.Took 0) runes 0
    (record {
      lawful = read_lawful;
      allowed = read_allowed f (omega (arith, calm.few));
      brief = on_step _ _ read is
          (read_brief 5 (take 32 (drop 0 (utf8 (text_of f)))) short);
    })
    is
    (record {
      lawful = took_lawful;
      allowed = took_allowed g (omega arith);
      brief = on_step _ _ (event.Took 0)
          (took_step g) none_brief;
    })
    (took_step g)
    (record { facts = _; is = refl; calm = record { text = calm.text; dot = calm.dot; few = omega arith } })

polls_waiting : (f : Facts) (runes unsent : ℕ) → unsent < 255 → IsCalm runes unsent f
    → waits f ≡ true → Goes runes (unsent + 2) (standing [] [] f) (poll ∷ flush ∷ [])
polls_waiting f runes unsent few calm w =
    let is = poll_waits_step f w in
    let g : Facts = record f { entries = f.entries + 1; latest = f.entries + 1; replies = [] } in
    two (standing [] [] f) (standing (reading ∷ []) (reader ∷ []) g) _ poll flush runes (unsent + 2)
    (record {
      lawful = poll_lawful;
      allowed = poll_allowed f (omega (arith, calm.few));
      brief = on_step _ _ poll is
          none_brief;
    })
    is
    (record {
      lawful = flush_lawful;
      allowed = flush_waiting_allowed g (omega (arith, calm.few));
      brief = on_step _ _
          flush (flush_waiting_step g w) flushed_brief;
    })
    (flush_waiting_step g w)
    (record { facts = _; is = refl; calm = record { text = calm.text; dot = calm.dot; few = omega (arith, calm.few) } })

-- the facts after a read of the event file that is answered
polled_facts : Facts → Facts
polled_facts f = record (answered f 10 (r.Read (piece_for (book_with [] f) reader).bytes)) {
  items = items_left f (f.entries + 1);
  carry = carry_left f;
  latest = f.entries + 1;
}

poll_answered : (f : Facts) → waits f ≡ false → step (standing [] [] f) poll ≡ standing [] [] (polled_facts f)
unfolding polled_facts
poll_answered f w =
    poll_now_step f w
    ∙ ap (λ (b : BookState). with_book (standing [] [] (answered f 10
    (r.Read (piece_for (book_with [] f) reader).bytes))) b) (answered_book f (f.entries + 1))

polls_now : (f : Facts) (runes unsent : ℕ) → unsent < 255 → IsCalm runes unsent f
    → waits f ≡ false → Goes runes (unsent + 2) (standing [] [] f) (poll ∷ flush ∷ [])
unfolding polled_facts
polls_now f runes unsent few calm w =
    let is = poll_answered f w in
    let g : Facts = polled_facts f in
    two (standing [] [] f) (standing [] [] g) _ poll flush runes (unsent + 2)
    (record {
      lawful = poll_lawful;
      allowed = poll_allowed f (omega (arith, calm.few));
      brief = on_step _ _ poll is
          (read_brief 10 (piece_for (book_with [] f) reader).bytes (piece_short f.carry (pending_from 1 f.items)));
    })
    is
    (record {
      lawful = flush_lawful;
      allowed = flush_allowed g (omega (arith, calm.few));
      brief = on_step _ _ flush
          (flush_step g) flushed_brief;
    })
    (flush_step g)
    (record { facts = _; is = refl; calm = record { text = calm.text; dot = calm.dot; few = omega (arith, calm.few) } })

polls_as : (w : Bool) (f : Facts) (runes unsent : ℕ) → unsent < 255 → IsCalm runes unsent f
    → waits f ≡ w → Goes runes (unsent + 2) (standing [] [] f) (poll ∷ flush ∷ [])
polls_as true f runes unsent few calm w = polls_waiting f runes unsent few calm w
polls_as false f runes unsent few calm w = polls_now f runes unsent few calm w

-- ---- rounds

wider : (runes unsent more many : ℕ) (s : State) (es : List Event) → Goes runes unsent s es → runes ≤ more
    → unsent ≤ many → Goes more many s es
wider runes unsent more many s es g more_runes more_unsent = record {
  all = g.all;
  stands = record {
    facts = g.stands.facts;
    is = g.stands.is;
    calm = record {
      text = omega (arith, g.stands.calm.text);
      dot = g.stands.calm.dot;
      few =
          omega (arith, g.stands.calm.few);
    };
  };
}

turns : (f : Facts) (turn : Turn) (l runes unsent : ℕ) → l < 128 → runes < 16777216 → unsent < 255
    → IsCalm runes unsent f → Goes (runes + 1) (unsent + 2) (standing [] [] f) (played_turn turn l)
turns f turn.Write l runes unsent ascii short few calm = wider _ _ (runes + 1) (unsent + 2) _ _
    (writes f l runes unsent ascii short (omega arith) calm) (omega arith) (omega arith)
turns f turn.Events l runes unsent ascii short few calm = wider _ _ (runes + 1) (unsent + 2) _ _
    (polls_as (waits f) f runes unsent few calm refl) (omega arith) (omega arith)
turns f turn.Key l runes unsent ascii short few calm = wider _ _ (runes + 1) (unsent + 2) _ _
    (keys f l runes unsent ascii short calm) (omega arith) (omega arith)
turns f turn.Read l runes unsent ascii short few calm = wider _ _ (runes + 1) (unsent + 2) _ _
    (reads f runes unsent (omega arith) calm) (omega arith) (omega arith)

-- how many replies can be unsent after so many rounds
abbrev pub most_unsent : ℕ → ℕ
most_unsent k = 6 + 2 * (k % 50)

round_as : (b : Bool) (f : Facts) (k r : ℕ) → ((k + 1) % 50 == 0) ≡ b → k < 100000 → IsCalm k (most_unsent k) f
    → Goes (k + 1) (most_unsent (k + 1)) (standing [] [] f) (if b then read ∷ event.Took 0 ∷ [] else played_turn
    (turn_of r) (letter r))
round_as true f k r e h calm = wider _ _ (k + 1) (most_unsent (k + 1)) _ _
    (takes f k (most_unsent k) (omega arith) calm) (omega arith) (omega arith)
round_as false f k r e h calm =
    let apart : (k + 1) % 50 ≢ 0 = grind (arith, nat_tests) in
    wider _ _ (k + 1) (most_unsent (k + 1)) _ _ (turns f (turn_of r) (letter r) k (most_unsent k) (omega arith)
    (omega arith) (omega arith) calm) (omega arith) (omega arith)

round_of : (f : Facts) (k r : ℕ) → k < 100000 → IsCalm k (most_unsent k) f
    → Goes (k + 1) (most_unsent (k + 1)) (standing [] [] f) (round (k + 1) r)
round_of f k r h calm = round_as ((k + 1) % 50 == 0) f k r refl h calm

-- a round goes on where the last one stood
pub round_goes : (s : State) (k r : ℕ) → k < 100000 → Stands k (most_unsent k) s
    → Goes (k + 1) (most_unsent (k + 1)) s (round (k + 1) r)
round_goes s k r h stands = subst (λ (x : State). Goes (k + 1) (most_unsent (k + 1)) x (round (k + 1) r))
    (sym stands.is) (round_of stands.facts k r h stands.calm)

-- The changes of one step are one.
use Rattle.std.proofs.Common.{◌≡◌, ◌<◌, ◌||◌, ◌&&◌, ◌==◌, ℕ, Bool, true, false, not, List, [], ◌∷◌, ◌++◌, length, refl}
use Rattle.std.proofs.Common.{sym, ap, ◌∙◌, arith, Option, Some, None}
use Rattle.std.proofs.lemmas.Bool.Decides.{nat_tests}
use Rattle.std.proofs.lemmas.List.{append-nil, append_assoc}
use Rattle.am_text.specs.declared.range.Range.{Range}
use Rattle.edit_log.specs.declared.types.Done.{Done}
use Rattle.edit_log.specs.declared.types.Edit.{Edit}
use Rattle.edit_log.specs.Edited.{text_after}
use Rattle.edit_log.specs.Groups.{DoneGroup, at_last, with_more, grown, marking_after}
use Rattle.win_text.specs.Bodies.{History, goes_to_last, after_group, moved, moved_limit, done_group, BodyState}
use Rattle.win_text.specs.Bodies.{applied}
use Rattle.win_text.specs.BodyStories.{BodyStory, story_text, story_changed, kept_or_set, moved_or_set, plan_of}
use Rattle.win_text.specs.Numbers.{changed_twice, story_changed_twice, AreOneChange}
use Rattle.win_text.proofs.Edits.{text_append}
use Rattle.win_text.proofs.Histories.{group_append, some_last}
use Rattle.win_text.proofs.Stories.{moved_append}
use Rattle.win_text.proofs.Traces.{some_grown}

-- ---- the groups

more_twice : (gs : List DoneGroup) (a b : List Done) → at_last (with_more b)
    (at_last (with_more a) gs) ≡ at_last (with_more (a ++ b)) gs
more_twice [] a b = refl
more_twice (g ∷ []) a b = ap (λ (x : List Done). record g { edits = x } ∷ []) (append_assoc g.edits a b)
more_twice (g ∷ h ∷ []) a b = ap (λ (x : List DoneGroup). g ∷ x) (more_twice (h ∷ []) a b)
more_twice (g ∷ h ∷ i ∷ gs) a b = ap (λ (x : List DoneGroup). g ∷ x) (more_twice (h ∷ i ∷ gs) a b)

more_behind : (gs : List DoneGroup) (a b : List Done) (number : ℕ)
    → at_last (with_more b) (gs ++ record { number = number; edits = a } ∷ [])
    ≡ gs ++ record { number = number; edits = a ++ b } ∷ []
more_behind [] a b number = refl
more_behind (g ∷ []) a b number = refl
more_behind (g ∷ h ∷ gs) a b number = ap (λ (x : List DoneGroup). g ∷ x) (more_behind (h ∷ gs) a b number)

grown_twice : (on : Bool) (gs : List DoneGroup) (a b : List Done) (number : ℕ)
    → at_last (with_more b) (grown on gs a number) ≡ grown on gs (a ++ b) number
grown_twice true gs a b number = more_twice gs a b
grown_twice false gs a b number = more_behind gs a b number

same_step : (joins : Bool) (number groups : ℕ) → 0 < groups → ((joins || (number == number)) && not (groups == 0))
    ≡ true
same_step true number groups some = grind (arith, nat_tests)
same_step false number groups some = grind (arith, nat_tests)

one_group : (h : History) (a b : List Done) (number : ℕ) → after_group (after_group h a number) b number ≡ after_group h
    (a ++ b) number
one_group h [] b number = refl
one_group h (d ∷ a) [] number = ap (λ (x : List Done). after_group h x number) (sym (append-nil (d ∷ a)))
one_group h (d ∷ a) (e ∷ b) number =
    let on = goes_to_last h number in
    let row = grown on h.past (d ∷ a) number in
    let goes : goes_to_last (after_group h (d ∷ a) number) number ≡ true =
    same_step (marking_after on h.marking number).joins number (length row)
    (some_grown on h.past (d ∷ a) number (some_last h number)) in
    ap (λ (x : Bool). record {
      past = grown x row (e ∷ b) number;
      future = [];
      marking = marking_after x
          (marking_after on h.marking number) number;
    }) goes
    ∙ ap (λ (x : List DoneGroup). record { past = x; future = []; marking = marking_after on h.marking number })
    (grown_twice on h.past (d ∷ a) (e ∷ b) number)

one_history : (h : History) (t u : List ℕ) (es fs : List Edit) (number : ℕ) → u ≡ text_after t es
    → after_group (after_group h (done_group t es) number) (done_group u fs) number ≡ after_group h
    (done_group t (es ++ fs)) number
one_history h t u es fs number e =
    ap (λ (x : List ℕ). after_group (after_group h (done_group t es) number) (done_group x fs) number) e
    ∙ one_group h (done_group t es) (done_group (text_after t es) fs) number
    ∙ ap (λ (x : List Done). after_group h x number) (sym (group_append t es fs))

-- ---- by all edits

one_story : (s : BodyStory) (es fs : List Edit) (dot : Option Range) (number : ℕ)
    → story_changed_twice s es fs dot number ≡ story_changed s (record { edits = es ++ fs; dot = dot }) number
one_story s es fs dot number =
    ap (λ (x : History). record (story_changed_twice s es fs dot number) { history = x })
    (one_history s.history (story_text s) (text_after [] (s.edits ++ es)) es fs number (text_append [] s.edits es))
    ∙ ap (λ (x : List Edit). record (story_changed s (record { edits = es ++ fs; dot = dot }) number)
    { edits = x; dot = kept_or_set s.dot (length x) dot }) (append_assoc s.edits es fs)

-- ---- as it is kept

abbrev body_of : List ℕ → Range → Range → Option Range → History → BodyState
body_of text dot addr limit history = record { text = text; dot = dot; addr = addr; limit = limit; history = history }

same_body : (t u : List ℕ) (d e a b : Range) (l m : Option Range) (h k : History)
    → t ≡ u → d ≡ e → a ≡ b → l ≡ m → h ≡ k → body_of t d a l h ≡ body_of u e b m k
same_body t u d e a b l m h k p q r s w = rw (p, q, r, s, w) refl

dot_twice : (d : Range) (es fs : List Edit) (dot : Option Range) → moved_or_set (moved d es) fs dot ≡ moved_or_set d
    (es ++ fs) dot
dot_twice d es fs None = sym (moved_append d es fs)
dot_twice d es fs (Some r) = refl

limit_twice : (l : Option Range) (es fs : List Edit) → moved_limit (moved_limit l es) fs ≡ moved_limit l (es ++ fs)
limit_twice None es fs = refl
limit_twice (Some r) es fs = ap Some (sym (moved_append r es fs))

one_state : (s : BodyState) (es fs : List Edit) (dot : Option Range) (number : ℕ)
    → changed_twice s es fs dot number ≡ applied s (plan_of s (record { edits = es ++ fs; dot = dot }) number)
one_state s es fs dot number =
    same_body (text_after (text_after s.text es) fs) (text_after s.text (es ++ fs))
    (moved_or_set (moved s.dot es) fs dot) (moved_or_set s.dot (es ++ fs) dot) (moved (moved s.addr es) fs)
    (moved s.addr (es ++ fs)) (moved_limit (moved_limit s.limit es) fs) (moved_limit s.limit (es ++ fs))
    (after_group (after_group s.history (done_group s.text es) number) (done_group (text_after s.text es) fs)
    number) (after_group s.history (done_group s.text (es ++ fs)) number) (sym (text_append s.text es fs))
    (dot_twice s.dot es fs dot) (sym (moved_append s.addr es fs)) (limit_twice s.limit es fs)
    (one_history s.history s.text (text_after s.text es) es fs number refl)

pub one_change : (es fs : List Edit) (dot : Option Range) (number : ℕ) → AreOneChange es fs dot number
one_change es fs dot number = record {
  stories = λ s. one_story s es fs dot number;
  states = λ s. one_state s es fs dot
      number;
}

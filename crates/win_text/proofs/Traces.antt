-- A plan that was done is taken back.
use Rattle.std.proofs.Common.{◌≡◌, ◌+◌, ◌-◌, ◌<◌, ◌≤◌, ℕ, suc, Bool, true, false, List, [], ◌∷◌, ◌++◌, length, take}
use Rattle.std.proofs.Common.{drop, slice_get, get_or, refl, sym, ap, subst, ◌∙◌, arith, Option, Some, None}
use Rattle.std.specs.Prelude.{not}
use Rattle.std.specs.Option.{option_map}
use Rattle.std.proofs.lemmas.List.{length-append, drop_more, take_at, drop_at}
use Rattle.std.proofs.lemmas.Option.{same_Some}
use Rattle.edit_log.specs.declared.types.Edit.{Edit}
use Rattle.edit_log.specs.declared.types.Done.{Done}
use Rattle.edit_log.specs.declared.types.Marking.{Marking}
use Rattle.edit_log.specs.Edited.{after, text_after}
use Rattle.edit_log.specs.Groups.{DoneGroup, at_last, with_more, grown, ungrown, inverse, again, undoing, redoing}
use Rattle.edit_log.specs.Groups.{undoing_group, redoing_group, last_of, first_of, before_last, with_last_of, edits_in}
use Rattle.edit_log.specs.Groups.{last_edits, all_last, all_first}
use Rattle.edit_log.proofs.Lasts.{past_again, back_again}
use Rattle.win_text.specs.Bodies.{History, goes_to_last, history_after, IsEditOf, AreInRange, done_group, put_length}
use Rattle.win_text.specs.Bodies.{IsDoneTo, text_of_groups, IsHistoryOf, BodyState, IsSound, IsOfKind, IsPlanFor}
use Rattle.win_text.specs.Bodies.{IsLogReady, plan_with}
use Rattle.win_text.specs.Traces.{Shape, made, kind_of, trace_of, back_edits, back_past, back_future, back_forgotten}
use Rattle.win_text.specs.Traces.{unmade, HasGroups, Fits, CanUnmake, forgotten_after, noted_trace, IsNoted}
use Rattle.win_text.specs.declared.types.TextPlan.{TextPlan}
use Rattle.win_text.specs.declared.types.Trace.{Trace}
use Rattle.win_text.specs.declared.types.PlanKind.{PlanKind}
use Rattle.win_text.specs.declared.types.PlanKind.TheVariants.{Change, Undo, Redo}
use Rattle.win_text.proofs.Edits.{length_after, group_length}
use Rattle.win_text.proofs.Histories.{taken_back, first_done, rest_done, undone_text, undone_range, done_again}
use Rattle.win_text.proofs.Histories.{group_done, some_last, with_last, by_last, again_text, undo_text, last_group}
use Rattle.win_text.proofs.Histories.{first_group, text_of_last}

pub log_ready : (kind : PlanKind) (room : ℕ) (ready : Option ℕ) (n m number : ℕ) → m ≤ n
    → IsLogReady kind room ready n number → IsLogReady kind room ready m number
log_ready Change room ready n m number h k = (omega (arith, h, k.0), k.1)
log_ready Undo room ready n m number h k = tt
log_ready Redo room ready n m number h k = tt

-- ---- texts on the way

pub fits_here : (n : ℕ) (t : List ℕ) (es : List Edit) → Fits n t es → length t ≤ n
fits_here n t [] h = h
fits_here n t (e ∷ es) h = h.0

pub fits_more : (m n : ℕ) (t : List ℕ) (es : List Edit) → m ≤ n → Fits m t es → Fits n t es
fits_more m n t [] l h = omega (arith, l, h)
fits_more m n t (e ∷ es) l h = (omega (arith, l, h.0), fits_more m n (after t e) es l h.1)

fits_append : (n : ℕ) (t : List ℕ) (es fs : List Edit) → Fits n t es → Fits n (text_after t es) fs → Fits n t (es ++ fs)
fits_append n t [] fs h k = k
fits_append n t (e ∷ es) fs h k = (h.0, fits_append n (after t e) es fs h.1 k)

fits_front : (n : ℕ) (t : List ℕ) (es fs : List Edit) → Fits n t (es ++ fs) → Fits n t es
fits_front n t [] fs h = fits_here n t fs h
fits_front n t (e ∷ es) fs h = (h.0, fits_front n (after t e) es fs h.1)

fits_rest : (n : ℕ) (t : List ℕ) (es fs : List Edit) → Fits n t (es ++ fs) → Fits n (text_after t es) fs
fits_rest n t [] fs h = h
fits_rest n t (e ∷ es) fs h = fits_rest n (after t e) es fs h.1

pub fits_room : (n : ℕ) (t : List ℕ) (es : List Edit) → length t + put_length es ≤ n → AreInRange t es → Fits n t es
fits_room n t [] l h = omega (arith, l)
fits_room n t (e ∷ es) l h = (
  omega (arith, l),
  fits_room n (after t e) es
      (omega (arith, l, length_after t e h.0, h.0.order, h.0.bounds)) h.1,
)

fits_undoing : (n : ℕ) (t : List ℕ) (g : List Done) → AreInRange t (redoing g)
    → done_group t (redoing g) ≡ g → Fits n t (redoing g) → Fits n (text_after t (redoing g)) (undoing g)
fits_undoing n t [] h e f = f
fits_undoing n t (d ∷ ds) h e f =
    let u = after t (again d) in
    let rest = rest_done t d ds e in
    let back : text_after (text_after u (redoing ds)) (undoing ds) ≡ u = undone_text u ds h.1 rest in
    let two : Fits n u (inverse d ∷ []) = (
      fits_here n u (redoing ds) f.1,
      subst (λ (x : List ℕ). length x ≤ n) (sym (taken_back t d (first_done t d ds h e))) f.0,
    ) in
    fits_append n (text_after u (redoing ds)) (undoing ds) (inverse d ∷ []) (fits_undoing n u ds h.1 rest f.1)
    (subst (λ (x : List ℕ). Fits n x (inverse d ∷ [])) (sym back) two)

fits_redoing : (n : ℕ) (t : List ℕ) (g : List Done) → AreInRange t (redoing g)
    → done_group t (redoing g) ≡ g → Fits n (text_after t (redoing g)) (undoing g) → Fits n t (redoing g)
fits_redoing n t [] h e f = f
fits_redoing n t (d ∷ ds) h e f =
    let u = after t (again d) in
    let rest = rest_done t d ds e in
    let back : text_after (text_after u (redoing ds)) (undoing ds) ≡ u = undone_text u ds h.1 rest in
    let last : Fits n u (inverse d ∷ []) = subst (λ (x : List ℕ). Fits n x (inverse d ∷ [])) back
    (fits_rest n (text_after u (redoing ds)) (undoing ds) (inverse d ∷ []) f) in (
      subst (λ (x : List ℕ). length x ≤ n) (taken_back t d (first_done t d ds h e)) last.1,
      fits_redoing n u ds h.1 rest (fits_front n (text_after u (redoing ds)) (undoing ds) (inverse d ∷ []) f),
    )

pub more_room : (m n : ℕ) (t : Trace) (s : Shape) → CanUnmake m t s → m ≤ n → CanUnmake n t s
more_room m n t s h l = record {
  groups = h.groups;
  range = h.range;
  fits = fits_more m n s.state.text
      (back_edits t.kind s.state.history) l h.fits;
  sound = h.sound;
}

-- ---- undoing in a loop

undoing_last : (before : List Done) (d : Done) → undoing (before ++ d ∷ []) ≡ inverse d ∷ undoing before
undoing_last [] d = refl
undoing_last (b ∷ before) d = rw (undoing_last before d) refl

pub undoing_rest : (rest before : List Done) (d : Done) → rest ≡ before ++ d ∷ []
    → undoing rest ≡ inverse d ∷ undoing before
undoing_rest rest before d e = ap undoing e ∙ undoing_last before d

pub record UndoStep (t : List ℕ) (rest before : List Done) (d : Done) (n : ℕ) : Type 0 where
  pub edit : IsEditOf t (inverse d)
  pub here : length (after t (inverse d)) ≤ n
  pub same : text_after (after t (inverse d)) (undoing before) ≡ text_after t (undoing rest)
  pub range : AreInRange (after t (inverse d)) (undoing before)
  pub fits : Fits n (after t (inverse d)) (undoing before)

pub undo_step : (t : List ℕ) (rest before : List Done) (d : Done) (n : ℕ) → rest ≡ before ++ d ∷ []
    → AreInRange t (undoing rest) → Fits n t (undoing rest) → UndoStep t rest before d n
undo_step t rest before d n e r f =
    let split = undoing_rest rest before d e in
    let r' : AreInRange t (inverse d ∷ undoing before) = subst (AreInRange t) split r in
    let f' : Fits n t (inverse d ∷ undoing before) = subst (λ (x : List Edit). Fits n t x) split f in
    record {
      edit = r'.0;
      here = fits_here n (after t (inverse d)) (undoing before) f'.1;
      same = ap (text_after t) (sym split);
      range = r'.1;
      fits = f'.1;
    }

pub redo_here : (n : ℕ) (t : List ℕ) (group : List Done) (i : ℕ) (d : Done) → i < length group → d ≡ get_or group i d
    → Fits n t (redoing (drop i group)) → length (after t (again d)) ≤ n
redo_here n t group i d l e f =
    let split : drop i group ≡ d ∷ drop (i + 1) group = drop_more group i d l
    ∙ ap (λ (x : Done). x ∷ drop (i + 1) group) (sym e) in
    let f' : Fits n t (again d ∷ redoing (drop (i + 1) group)) = subst (λ (x : List Done). Fits n t (redoing x)) split
    f in
    fits_here n (after t (again d)) (redoing (drop (i + 1) group)) f'.1

-- ---- the last of a list

module _ {A : Type 0} where
  last_pushed : (xs : List A) (x : A) → last_of (xs ++ x ∷ []) ≡ Some x
  last_pushed [] x = refl
  last_pushed (y ∷ xs) x =
      let n : length (y ∷ xs ++ x ∷ []) - 1 ≡ suc (length (xs ++ x ∷ []) - 1) =
      omega (arith, length-append xs (x ∷ [])) in
      rw n (last_pushed xs x)

  all_but_pushed : (xs : List A) (x : A) → before_last (xs ++ x ∷ []) ≡ xs
  all_but_pushed xs x =
      let n : length (xs ++ x ∷ []) - 1 ≡ length xs = omega (arith, length-append xs (x ∷ [])) in
      rw n (take_at xs (x ∷ []) (length xs) refl)

  only_pushed : (xs : List A) (x : A) → drop (length (xs ++ x ∷ []) - 1) (xs ++ x ∷ []) ≡ x ∷ []
  only_pushed xs x =
      let n : length (xs ++ x ∷ []) - 1 ≡ length xs = omega (arith, length-append xs (x ∷ [])) in
      rw n (drop_at xs (x ∷ []) (length xs) refl)

  length-at_last : (f : A → A) (xs : List A) → length (at_last f xs) ≡ length xs
  length-at_last f [] = refl
  length-at_last f (x ∷ []) = refl
  length-at_last f (x ∷ y ∷ rest) = ap suc (length-at_last f (y ∷ rest))

  last_changed : (f : A → A) (xs : List A) → last_of (at_last f xs) ≡ option_map f (last_of xs)
  last_changed f [] = refl
  last_changed f (x ∷ []) = refl
  last_changed f (x ∷ y ∷ rest) =
      let n : length (x ∷ at_last f (y ∷ rest)) - 1 ≡ suc (length (at_last f (y ∷ rest)) - 1) =
      omega (arith, length-at_last f (y ∷ rest)) in
      let m : length (x ∷ y ∷ rest) - 1 ≡ suc (length (y ∷ rest) - 1) = omega arith in
      rw (n, m) (last_changed f (y ∷ rest))

-- the last edits are those that were put
with_put : (o : Option DoneGroup) (edits : List Done) → (o ≡ None → ⊥)
    → (let all = edits_in (option_map (with_more edits) o) in drop (length all - length edits) all) ≡ edits
with_put None edits h = absurd (h refl)
with_put (Some g) edits h = back_again g.edits edits

last_is_some : {A : Type 0} (xs : List A) → 0 < length xs → last_of xs ≡ None → ⊥
last_is_some [] h e = omega (arith, h)
last_is_some (x ∷ []) h e = cc
last_is_some (x ∷ y ∷ rest) h e =
    let n : length (x ∷ y ∷ rest) - 1 ≡ suc (length (y ∷ rest) - 1) = omega arith in
    last_is_some (y ∷ rest) (omega arith) (subst (λ (k : ℕ). slice_get (x ∷ y ∷ rest) k ≡ None) n e)

last_grown : (on : Bool) (past : List DoneGroup) (edits : List Done) (number : ℕ) → (on ≡ true → 0 < length past)
    → last_edits (grown on past edits number) (length edits) ≡ edits
last_grown true past edits number some =
    rw (last_changed (with_more edits) past) (with_put (last_of past) edits (last_is_some past (some refl)))
last_grown false past edits number some =
    let none : length edits - length edits ≡ 0 = omega arith in
    rw (last_pushed past (record { number = number; edits = edits }), none) refl

pub some_grown : (on : Bool) (past : List DoneGroup) (edits : List Done) (number : ℕ) → (on ≡ true → 0 < length past)
    → 0 < length (grown on past edits number)
some_grown true past edits number some = omega (arith, length-at_last (with_more edits) past, some refl)
some_grown false past edits number some = omega (
  arith,
  length-append past
      (record { number = number; edits = edits } ∷ []),
)

-- ---- what was done leads back

record IsBack (m : ℕ) (kind : PlanKind) (t : List ℕ) (h : History) (f : List DoneGroup) (es : List Edit) (n : ℕ) : Type
    0 where
  pub text : text_after (text_after t es) (back_edits (kind_of kind h (length es) n)
      (history_after kind h (done_group t es) n)) ≡ t
  pub past : back_past (kind_of kind h (length es) n) (history_after kind h (done_group t es) n) ≡ h.past
  pub future : back_future (kind_of kind h (length es) n) (history_after kind h (done_group t es) n)
      (forgotten_after kind h f es) ≡ h.future
  pub forgotten : back_forgotten (kind_of kind h (length es) n) (history_after kind h (done_group t es) n)
      (forgotten_after kind h f es) ≡ f
  pub groups : HasGroups (kind_of kind h (length es) n) (history_after kind h (done_group t es) n)
      (forgotten_after kind h f es)
  pub range : AreInRange (text_after t es) (back_edits (kind_of kind h (length es) n)
      (history_after kind h (done_group t es) n))
  pub fits : Fits m (text_after t es) (back_edits (kind_of kind h (length es) n)
      (history_after kind h (done_group t es) n))

change_back : (m : ℕ) (t : List ℕ) (h : History) (f : List DoneGroup) (es : List Edit) (n : ℕ) → AreInRange t es
    → length t + put_length es ≤ m → IsBack m Change t h f es n
change_back m t h f [] n r l = record {
  text = refl;
  past = refl;
  future = refl;
  forgotten = refl;
  groups = tt;
  range =
      tt;
  fits = omega (arith, l);
}
change_back m t h f (e ∷ es) n r l =
    let g = done_group t (e ∷ es) in
    let on = goes_to_last h n in
    let done : IsDoneTo t g = group_done t (e ∷ es) (omega arith) r in
    let same : redoing g ≡ e ∷ es = done_again t (e ∷ es) r in
    let size : length g ≡ suc (length es) = group_length t (e ∷ es) in
    let last : last_edits (grown on h.past g n) (suc (length es)) ≡ g =
    subst (λ (k : ℕ). last_edits (grown on h.past g n) k ≡ g) size (last_grown on h.past g n (some_last h n)) in
    record {
      text = ap (λ (x : List Done). text_after (text_after t (e ∷ es)) (undoing x)) last
          ∙ ap (λ (x : List Edit). text_after (text_after t x) (undoing g)) (sym same)
          ∙ undone_text t g done.edits done.same;
      past = subst (λ (k : ℕ). ungrown (not on) (grown on h.past g n) k ≡ h.past) size (past_again on h.past g n);
      future = take_at h.future f (length h.future) refl;
      forgotten = drop_at h.future f (length h.future) refl;
      groups = (some_grown on h.past g n (some_last h n), omega (arith, length-append h.future f));
      range = subst (λ (x : List Done). AreInRange (text_after t (e ∷ es)) (undoing x)) (sym last)
          (subst (λ (x : List Edit). AreInRange (text_after t x) (undoing g)) same
          (undone_range t g done.edits done.same));
      fits = subst (λ (x : List Done). Fits m (text_after t (e ∷ es)) (undoing x)) (sym last)
          (subst (λ (x : List Edit). Fits m (text_after t x) (undoing g)) same
          (fits_undoing m t g done.edits done.same (subst (λ (x : List Edit). Fits m t x) (sym same)
          (fits_room m t (e ∷ es) l r))));
    }

undo_back : (m : ℕ) (t : List ℕ) (h : History) (f : List DoneGroup) (g : DoneGroup) (n : ℕ)
    → IsHistoryOf t h.past h.future → last_of h.past ≡ Some g → AreInRange t (undoing g.edits)
    → length t + put_length (undoing g.edits) ≤ m → IsBack m Undo t h f (undoing g.edits) n
undo_back m t h f g n k e r l =
    let row : with_last_of h.past h.future ≡ g ∷ h.future = with_last h.past h.future g e in
    let start = text_of_groups [] (before_last h.past) in
    let done : IsDoneTo start g.edits = last_group t h.past h.future g k e in
    let before : text_after t (undoing g.edits) ≡ start = undo_text t h.past h.future g k e in
    let now : t ≡ text_after start (redoing g.edits) = text_of_last t h.past h.future g k e in
    record {
      text = ap (λ (x : List DoneGroup). text_after (text_after t (undoing g.edits)) (redoing (all_first x))) row
          ∙ again_text t h.past h.future g k e;
      past = ap (λ (x : List DoneGroup). before_last h.past ++ take 1 x) row ∙ sym (by_last h.past g e);
      future = ap (λ (x : List DoneGroup). drop 1 x) row;
      forgotten = refl;
      groups = subst (λ (x : List DoneGroup). 0 < length x) (sym row) (omega arith);
      range = subst (λ (x : List DoneGroup). AreInRange (text_after t (undoing g.edits)) (redoing (all_first x)))
          (sym row) (subst (λ (x : List ℕ). AreInRange x (redoing g.edits)) (sym before) done.edits);
      fits = subst (λ (x : List DoneGroup). Fits m (text_after t (undoing g.edits)) (redoing (all_first x))) (sym row)
          (subst (λ (x : List ℕ). Fits m x (redoing g.edits)) (sym before)
          (fits_redoing m start g.edits done.edits done.same (subst (λ (x : List ℕ). Fits m x (undoing g.edits)) now
          (fits_room m t (undoing g.edits) l r))));
    }

redo_back : (m : ℕ) (t : List ℕ) (past rest : List DoneGroup) (marking : Marking) (f : List DoneGroup) (g : DoneGroup)
    (n : ℕ) → IsHistoryOf t past (g ∷ rest) → AreInRange t (redoing g.edits)
    → length t + put_length (redoing g.edits) ≤ m → IsBack m Redo t
    (record { past = past; future = g ∷ rest; marking = marking }) f (redoing g.edits) n
redo_back m t past rest marking f g n k r l =
    let done : IsDoneTo t g.edits = first_group t past rest g k in
    let last : all_last (past ++ g ∷ []) ≡ g.edits = ap edits_in (last_pushed past g) in
    record {
      text = ap (λ (x : List Done). text_after (text_after t (redoing g.edits)) (undoing x)) last
          ∙ undone_text t g.edits done.edits done.same;
      past = all_but_pushed past g;
      future = ap (λ (x : List DoneGroup). x ++ rest) (only_pushed past g);
      forgotten = refl;
      groups = omega (arith, length-append past (g ∷ []));
      range = subst (λ (x : List Done). AreInRange (text_after t (redoing g.edits)) (undoing x)) (sym last)
          (undone_range t g.edits done.edits done.same);
      fits = subst (λ (x : List Done). Fits m (text_after t (redoing g.edits)) (undoing x)) (sym last)
          (fits_undoing m t g.edits done.edits done.same (fits_room m t (redoing g.edits) l r));
    }

undo_back_by : (m : ℕ) (s : BodyState) (f : List DoneGroup) (plan : TextPlan) (o : Option DoneGroup)
    → last_of s.history.past ≡ o → option_map (plan_with Undo) (option_map undoing_group o) ≡ Some plan
    → IsHistoryOf s.text s.history.past s.history.future → AreInRange s.text plan.edits
    → length s.text + put_length plan.edits ≤ m → IsBack m Undo s.text s.history f plan.edits plan.number
undo_back_by m s f plan None e p k r l = absurd (cc)
undo_back_by m s f plan (Some g) e p k r l =
    let same : undoing g.edits ≡ plan.edits = ap (λ (x : TextPlan). x.edits)
    (same_Some (plan_with Undo (undoing g.edits)) plan p) in
    subst (λ (es : List Edit). IsBack m Undo s.text s.history f es plan.number) same
    (undo_back m s.text s.history f g plan.number k e (subst (AreInRange s.text) (sym same) r)
    (subst (λ (es : List Edit). length s.text + put_length es ≤ m) (sym same) l))

redo_back_by : (m : ℕ) (t : List ℕ) (past future : List DoneGroup) (marking : Marking) (f : List DoneGroup)
    (plan : TextPlan) → option_map (plan_with Redo) (option_map redoing_group (first_of future)) ≡ Some plan
    → IsHistoryOf t past future → AreInRange t plan.edits → length t + put_length plan.edits ≤ m
    → IsBack m Redo t (record { past = past; future = future; marking = marking }) f plan.edits plan.number
redo_back_by m t past [] marking f plan p k r l = absurd (cc)
redo_back_by m t past (g ∷ rest) marking f plan p k r l =
    let same : redoing g.edits ≡ plan.edits = ap (λ (x : TextPlan). x.edits)
    (same_Some (plan_with Redo (redoing g.edits)) plan p) in
    subst (λ (es : List Edit). IsBack m Redo t (record { past = past; future = g ∷ rest; marking = marking }) f es
    plan.number) same (redo_back m t past rest marking f g plan.number k (subst (AreInRange t) (sym same) r)
    (subst (λ (es : List Edit). length t + put_length es ≤ m) (sym same) l))

all_back : (m : ℕ) (kind : PlanKind) (s : BodyState) (f : List DoneGroup) (plan : TextPlan) → IsOfKind kind s plan
    → IsSound s → AreInRange s.text plan.edits → length s.text + put_length plan.edits ≤ m
    → IsBack m kind s.text s.history f plan.edits plan.number
all_back m Change s f plan k h r l = change_back m s.text s.history f plan.edits plan.number r l
all_back m Undo s f plan k h r l = undo_back_by m s f plan (last_of s.history.past) refl k h.history r l
all_back m Redo s f plan k h r l = redo_back_by m s.text s.history.past s.history.future s.history.marking f plan k
    h.history r l

pub back_again_shape : (m : ℕ) (s : Shape) (plan : TextPlan) → IsSound s.state → IsPlanFor s.state plan
    → length s.state.text + put_length plan.edits ≤ m → unmade (trace_of s.state plan) (made s plan) ≡ s
back_again_shape m s plan h i l =
    let b = all_back m plan.kind s.state s.forgotten plan i.kind h i.edits l in
    rw (b.text, b.past, b.future, b.forgotten) refl

pub can_unmake : (m : ℕ) (s : Shape) (plan : TextPlan) → IsSound s.state → IsPlanFor s.state plan
    → length s.state.text + put_length plan.edits ≤ m → CanUnmake m (trace_of s.state plan) (made s plan)
can_unmake m s plan h i l =
    let b = all_back m plan.kind s.state s.forgotten plan i.kind h i.edits l in
    record {
      groups = b.groups;
      range = b.range;
      fits = b.fits;
      sound = subst (λ (x : Shape). IsSound x.state) (sym (back_again_shape m s plan h i l)) h;
    }

pub settings_back : (n : ℕ) (s t : BodyState) (forgotten : List DoneGroup) → IsSound s
    → t.text ≡ s.text → t.history.past ≡ s.history.past → t.history.future ≡ s.history.future → length s.text ≤ n
    → IsNoted n s t forgotten
settings_back n s t forgotten h e p f l =
    let back : unmade (noted_trace s) (record { state = t; forgotten = forgotten })
    ≡ record { state = s; forgotten = forgotten } = rw (e, p, f) refl in
    record {
      back = back;
      can = record {
        groups = tt;
        range = tt;
        fits = omega (arith, ap length e, l);
        sound =
            subst (λ (x : Shape). IsSound x.state) (sym back) h;
      };
    }

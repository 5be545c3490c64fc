-- Where the groups of edits begin, change by change of one step.
use Rattle.std.proofs.Common.{◌≡◌, ◌⊎◌, inl, inr, ℕ, zero, suc, ◌+◌, ◌-◌, Bool, true, false, List, [], ◌∷◌, ◌++◌}
use Rattle.std.proofs.Common.{length, take, drop, Option, Some, None, refl, sym, ap, subst, ◌∙◌}
use Rattle.std.proofs.lemmas.List.{append-nil, append_assoc, take-append-drop}
use Rattle.std.specs.List.{AllByRecursion}
use Rattle.std.specs.Option.{option_map}
use Rattle.edit_log.specs.Edited.{text_after}
use Rattle.edit_log.specs.Groups.{DoneGroup, first_of, grown, with_more, before_last, with_last_of, with_first_of}
use Rattle.edit_log.specs.declared.types.Done.{Done}
use Rattle.edit_log.specs.declared.types.Edit.{Edit}
use Rattle.win_text.specs.Bodies.{History, done_edit, goes_to_last, undone_history, redone_history, edits_to_undo}
use Rattle.win_text.specs.Bodies.{edits_to_redo}
use Rattle.win_text.specs.BodyStories.{BodyStory, story_text, story_changed, story_moved}
use Rattle.core_windows.specs.Places.{at_place, gone}
use Rattle.core_windows.specs.declared.change.Change.{Change}
use Rattle.core_windows.specs.declared.change.Change.TheVariants as change
use Rattle.core_windows.specs.declared.change.Setting.{Setting}
use Rattle.core_windows.specs.declared.change.Setting.TheVariants as setting
use Rattle.core_windows.specs.Stories.{WindowStory, named_story, edited_story, undone_window_story, redone_window_story}
use Rattle.core_windows.specs.Stories.{added_story, set_story, changed_stories, all_changed_stories}
use Rattle.core_laws.specs.Groups.{edits_if, IsMade}

-- ---- lists

module _ {A : Type 0} (P : A → Type 0) where
  pub all_front : (xs ys : List A) → AllByRecursion P (xs ++ ys) → AllByRecursion P xs
  all_front [] ys h = tt
  all_front (x ∷ xs) ys h = (h.0, all_front xs ys h.1)

  all_push : (xs : List A) (y : A) → AllByRecursion P xs → P y → AllByRecursion P (xs ++ y ∷ [])
  all_push [] y h k = (k, tt)
  all_push (x ∷ xs) y h k = (h.0, all_push xs y h.1 k)

first_stays : (xs ys : List Done) (d : Done) → first_of xs ≡ Some d → first_of (xs ++ ys) ≡ Some d
first_stays [] ys d h = absurd cc
first_stays (x ∷ xs) ys d h = h

undone_row : (past future : List DoneGroup) → past ++ future ≡ before_last past ++ with_last_of past future
undone_row past future = ap (λ (x : List DoneGroup). x ++ future) (sym (take-append-drop (length past - 1) past))
    ∙ append_assoc (before_last past) (drop (length past - 1) past) future

redone_row : (past future : List DoneGroup) → past ++ future ≡ with_first_of future past ++ drop 1 future
redone_row past future = ap (λ (x : List DoneGroup). past ++ x) (sym (take-append-drop 1 future))
    ∙ sym (append_assoc past (take 1 future) (drop 1 future))

-- what was made is, whatever is made behind it
more_made : (old now more : List Edit) (d : Done) → IsMade old now d → IsMade old (now ++ more) d
more_made old now more d h = record {
  earlier = h.earlier;
  edit = h.edit;
  later = h.later ++ more;
  made = ap (λ (l : List Edit). l ++ more) h.made
      ∙ append_assoc old (h.earlier ++ h.edit ∷ h.later) more
      ∙ ap (λ (l : List Edit). old ++ l) (append_assoc h.earlier (h.edit ∷ h.later) more);
  did = h.did;
}

-- P: what is known, before the step of this number, of a group that a window at this place has, by its number and its
-- first edit
module _ (at : ℕ) (P : ℕ → ℕ → Done → Type 0) where
  abbrev pub Comes : ℕ → List Edit → List Edit → ℕ → Done → Type 0
  Comes k old now number d = P k number d ⊎ ((number ≡ at) × IsMade old now d)

  -- the group was there, or the step has begun it
  pub record IsFrom (k : ℕ) (old now : List Edit) (g : DoneGroup) : Type 0 where
    pub first : Done
    pub there : first_of g.edits ≡ Some first
    pub comes : Comes k old now g.number first

  -- a body whose edits were these before the step
  pub record Stands (k : ℕ) (old : List Edit) (s : BodyStory) : Type 0 where
    pub rest : List Edit
    pub is : s.edits ≡ old ++ rest
    pub groups : AllByRecursion (IsFrom k old s.edits) (s.history.past ++ s.history.future)

  -- ---- groups

  more_comes : (k number : ℕ) (old now more : List Edit) (d : Done) → Comes k old now number d
      → Comes k old (now ++ more) number d
  more_comes k number old now more d (inl p) = inl p
  more_comes k number old now more d (inr x) = inr (x.0, more_made old now more d x.1)

  more_all : (k : ℕ) (old now more : List Edit) (gs : List DoneGroup) → AllByRecursion (IsFrom k old now) gs
      → AllByRecursion (IsFrom k old (now ++ more)) gs
  more_all k old now more [] h = tt
  more_all k old now more (g ∷ gs) h = (
    record { first = h.0.first; there = h.0.there; comes = more_comes k g.number old now more h.0.first h.0.comes },
    more_all k old now more gs h.1,
  )

  -- a group stays so with more edits at its end
  more_edits : (k : ℕ) (old now : List Edit) (edits : List Done) (g : DoneGroup) → IsFrom k old now g
      → IsFrom k old now (with_more edits g)
  more_edits k old now edits g h = record {
    first = h.first;
    there = first_stays g.edits edits h.first h.there;
    comes =
        h.comes;
  }

  grown_all : (on : Bool) (k : ℕ) (old now : List Edit) (gs : List DoneGroup) (d : Done) (ds : List Done)
      → AllByRecursion (IsFrom k old now) gs → IsMade old now d
      → AllByRecursion (IsFrom k old now) (grown on gs (d ∷ ds) at)
  grown_all true k old now [] d ds h m = tt
  grown_all true k old now (g ∷ []) d ds h m = (more_edits k old now (d ∷ ds) g h.0, tt)
  grown_all true k old now (g ∷ f ∷ gs) d ds h m = (h.0, grown_all true k old now (f ∷ gs) d ds h.1 m)
  grown_all false k old now gs d ds h m = all_push (IsFrom k old now) gs (record { number = at; edits = d ∷ ds }) h
      (record { first = d; there = refl; comes = inr (refl, m) })

  -- ---- one body

  changed_stands : (k : ℕ) (old : List Edit) (s : BodyStory) (es : List Edit) → Stands k old s
      → Stands k old (story_changed s (record { edits = es; dot = None }) at)
  changed_stands k old s [] h = record {
    rest = h.rest;
    is = append-nil s.edits ∙ h.is;
    groups = more_all k old s.edits [] (s.history.past ++ s.history.future) h.groups;
  }
  changed_stands k old s (e ∷ es) h =
      let now : List Edit = s.edits ++ e ∷ es in
      let on : Bool = goes_to_last s.history at in
      let d : Done = done_edit (story_text s) e in
      let made : IsMade old now d = record {
        earlier = h.rest;
        edit = e;
        later = es;
        made = ap (λ (l : List Edit). l ++ e ∷ es) h.is ∙ append_assoc old h.rest (e ∷ es);
        did = ap (λ (l : List Edit). done_edit (text_after [] l) e) h.is;
      } in
      record {
        rest = h.rest ++ e ∷ es;
        is = ap (λ (l : List Edit). l ++ e ∷ es) h.is ∙ append_assoc old h.rest (e ∷ es);
        groups = subst (AllByRecursion (IsFrom k old now)) (sym (append-nil _))
            (grown_all on k old now s.history.past d _ (more_all k old s.edits (e ∷ es) s.history.past
            (all_front (IsFrom k old s.edits) s.history.past s.history.future h.groups)) made);
      }

  moved_stands : (k : ℕ) (old : List Edit) (s : BodyStory) (o : Option (List Edit)) (h : History)
      → s.history.past ++ s.history.future ≡ h.past ++ h.future → Stands k old s
      → Stands k old (story_moved s o h)
  moved_stands k old s None h row x = x
  moved_stands k old s (Some es) h row x = record {
    rest = x.rest ++ es;
    is = ap (λ (l : List Edit). l ++ es) x.is ∙ append_assoc old x.rest es;
    groups = subst (AllByRecursion (IsFrom k old (s.edits ++ es))) row
        (more_all k old s.edits es (s.history.past ++ s.history.future) x.groups);
  }

  set_stands : (k : ℕ) (old : List Edit) (x : Setting) (s : WindowStory) → Stands k old s.body
      → Stands k old (set_story x s).body
  set_stands k old setting.AddrToDot s h = record { rest = h.rest; is = h.is; groups = h.groups }
  set_stands k old setting.DotToAddr s h = record { rest = h.rest; is = h.is; groups = h.groups }
  set_stands k old setting.LimitToAddr s h = record { rest = h.rest; is = h.is; groups = h.groups }
  set_stands k old setting.NoLimit s h = record { rest = h.rest; is = h.is; groups = h.groups }
  set_stands k old (setting.Dot range) s h = record { rest = h.rest; is = h.is; groups = h.groups }
  set_stands k old (setting.Addr range) s h = record { rest = h.rest; is = h.is; groups = h.groups }
  set_stands k old setting.Clean s h = h
  set_stands k old setting.Dirty s h = h
  set_stands k old setting.ClearTag s h = h
  set_stands k old (setting.Mark automatic) s h = record { rest = h.rest; is = h.is; groups = h.groups }
  set_stands k old (setting.Name name) s h = h

  -- ---- all windows

  abbrev pub StandsIfLive : ℕ → List Edit → Option WindowStory → Type 0
  StandsIfLive k old None = Unit {0}
  StandsIfLive k old (Some s) = Stands k old s.body

  -- each window that was there before the step, and those that the step has made behind them; the first stands at this
  -- place
  abbrev pub AllStand : ℕ → List (Option WindowStory) → List (Option WindowStory) → Type 0
  AllStand k [] [] = Unit {0}
  AllStand k (x ∷ old) [] = ⊥
  AllStand k [] (o ∷ ss) = StandsIfLive k [] o × AllStand (k + 1) [] ss
  AllStand k (x ∷ old) (o ∷ ss) = StandsIfLive k (edits_if x) o × AllStand (k + 1) old ss

  one_if : (k : ℕ) (old : List Edit) (f : WindowStory → WindowStory)
      → ((s : WindowStory) → Stands k old s.body → Stands k old (f s).body) → (o : Option WindowStory)
      → StandsIfLive k old o
      → StandsIfLive k old (option_map f o)
  one_if k old f each None h = tt
  one_if k old f each (Some s) h = each s h

  at_one : (f : WindowStory → WindowStory) → ((k : ℕ) (old : List Edit) (s : WindowStory) → Stands k old s.body
      → Stands k old (f s).body)
      → (n k : ℕ) (old ss : List (Option WindowStory)) → AllStand k old ss
      → AllStand k old (at_place (option_map f) n ss)
  at_one f each n k [] [] h = tt
  at_one f each n k (x ∷ old) [] h = absurd h
  at_one f each zero k [] (o ∷ ss) h = (one_if k [] f (each k []) o h.0, h.1)
  at_one f each zero k (x ∷ old) (o ∷ ss) h = (one_if k (edits_if x) f (each k (edits_if x)) o h.0, h.1)
  at_one f each (suc n) k [] (o ∷ ss) h = (h.0, at_one f each n (k + 1) [] ss h.1)
  at_one f each (suc n) k (x ∷ old) (o ∷ ss) h = (h.0, at_one f each n (k + 1) old ss h.1)

  without_one : (n k : ℕ) (old ss : List (Option WindowStory)) → AllStand k old ss → AllStand k old (at_place gone n ss)
  without_one n k [] [] h = tt
  without_one n k (x ∷ old) [] h = absurd h
  without_one zero k [] (o ∷ ss) h = (tt, h.1)
  without_one zero k (x ∷ old) (o ∷ ss) h = (tt, h.1)
  without_one (suc n) k [] (o ∷ ss) h = (h.0, without_one n (k + 1) [] ss h.1)
  without_one (suc n) k (x ∷ old) (o ∷ ss) h = (h.0, without_one n (k + 1) old ss h.1)

  with_new : (name : List ℕ) (k : ℕ) (old ss : List (Option WindowStory)) → AllStand k old ss
      → AllStand k old (ss ++ Some (named_story name) ∷ [])
  with_new name k [] [] h = (record { rest = []; is = refl; groups = tt }, tt)
  with_new name k (x ∷ old) [] h = absurd h
  with_new name k [] (o ∷ ss) h = (h.0, with_new name (k + 1) [] ss h.1)
  with_new name k (x ∷ old) (o ∷ ss) h = (h.0, with_new name (k + 1) old ss h.1)

  change_stands : (k : ℕ) (old ss : List (Option WindowStory)) (c : Change) → AllStand k old ss
      → AllStand k old (changed_stories at ss c)
  change_stands k old ss (change.Makes name) h = with_new name k old ss h
  change_stands k old ss (change.Deletes w) h = without_one (w - 1) k old ss h
  change_stands k old ss (change.Edits w edits) h = at_one (edited_story edits at)
      (λ j e s x. changed_stands j e s.body edits x) (w - 1) k old ss h
  change_stands k old ss (change.Adds w text) h = at_one (added_story text) (λ j e s x. x) (w - 1) k old ss h
  change_stands k old ss (change.Sets w x) h = at_one (set_story x) (λ j e s y. set_stands j e x s y) (w - 1) k old ss h
  change_stands k old ss (change.Undoes w) h =
      at_one undone_window_story
      (λ j e s x. moved_stands j e s.body (edits_to_undo s.body.history) (undone_history s.body.history)
      (undone_row s.body.history.past s.body.history.future) x) (w - 1) k old ss h
  change_stands k old ss (change.Redoes w) h =
      at_one redone_window_story
      (λ j e s x. moved_stands j e s.body (edits_to_redo s.body.history) (redone_history s.body.history)
      (redone_row s.body.history.past s.body.history.future) x) (w - 1) k old ss h

  pub changes_stand : (k : ℕ) (old ss : List (Option WindowStory)) (cs : List Change) → AllStand k old ss
      → AllStand k old (all_changed_stories at ss cs)
  changes_stand k old ss [] h = h
  changes_stand k old ss (c ∷ cs) h = changes_stand k old (changed_stories at ss c) cs (change_stands k old ss c h)

-- ---- before and behind a step

-- each group of each window is known so, the first window standing at this place
pub record IsKnown (P : ℕ → Done → Type 0) (g : DoneGroup) : Type 0 where
  pub first : Done
  pub there : first_of g.edits ≡ Some first
  pub known : P g.number first

abbrev pub KnownIfLive : (ℕ → Done → Type 0) → Option WindowStory → Type 0
KnownIfLive P None = Unit {0}
KnownIfLive P (Some s) = AllByRecursion (IsKnown P) (s.body.history.past ++ s.body.history.future)

abbrev pub AllKnown : (ℕ → ℕ → Done → Type 0) → ℕ → List (Option WindowStory) → Type 0
AllKnown P k [] = Unit {0}
AllKnown P k (o ∷ ss) = KnownIfLive (P k) o × AllKnown P (k + 1) ss

module _ (at : ℕ) (P : ℕ → ℕ → Done → Type 0) where
  begin_groups : (k : ℕ) (edits : List Edit) (gs : List DoneGroup) → AllByRecursion (IsKnown (P k)) gs
      → AllByRecursion (IsFrom at P k edits edits) gs
  begin_groups k edits [] h = tt
  begin_groups k edits (g ∷ gs) h = (
    record { first = h.0.first; there = h.0.there; comes = inl h.0.known },
    begin_groups k edits gs h.1,
  )

  begin_one : (k : ℕ) (o : Option WindowStory) → KnownIfLive (P k) o → StandsIfLive at P k (edits_if o) o
  begin_one k None h = tt
  begin_one k (Some s) h = record {
    rest = [];
    is = sym (append-nil s.body.edits);
    groups = begin_groups k s.body.edits
        (s.body.history.past ++ s.body.history.future) h;
  }

  pub begins : (k : ℕ) (ss : List (Option WindowStory)) → AllKnown P k ss → AllStand at P k ss ss
  begins k [] h = tt
  begins k (o ∷ ss) h = (begin_one k o h.0, begins (k + 1) ss h.1)

  -- Q: what is known behind the step
  module _ (Q : ℕ → ℕ → Done → Type 0) (kept : (k number : ℕ) (d : Done) → P k number d → Q k number d) where
    -- what the step makes at this place is known behind it
    abbrev pub Makes : ℕ → List Edit → List Edit → Type 0
    Makes k old now = (d : Done) → IsMade old now d → Q k at d

    end_comes : (k number : ℕ) (old now : List Edit) (d : Done) → Makes k old now → Comes at P k old now number d
        → Q k number d
    end_comes k number old now d m (inl p) = kept k number d p
    end_comes k number old now d m (inr x) = subst (λ (n : ℕ). Q k n d) (sym x.0) (m d x.1)

    end_groups : (k : ℕ) (old now : List Edit) (gs : List DoneGroup) → Makes k old now
        → AllByRecursion (IsFrom at P k old now) gs → AllByRecursion (IsKnown (Q k)) gs
    end_groups k old now [] m h = tt
    end_groups k old now (g ∷ gs) m h = (
      record { first = h.0.first; there = h.0.there; known = end_comes k g.number old now h.0.first m h.0.comes },
      end_groups k old now gs m h.1,
    )

    end_one : (k : ℕ) (old : List Edit) (o : Option WindowStory) → Makes k old (edits_if o) → StandsIfLive at P k old o
        → KnownIfLive (Q k) o
    end_one k old None m h = tt
    end_one k old (Some s) m h = end_groups k old s.body.edits (s.body.history.past ++ s.body.history.future) m h.groups

    -- at each place
    abbrev pub MakesAll : ℕ → List (Option WindowStory) → List (Option WindowStory) → Type 0
    MakesAll k old [] = Unit {0}
    MakesAll k [] (o ∷ ss) = Makes k [] (edits_if o) × MakesAll (k + 1) [] ss
    MakesAll k (x ∷ old) (o ∷ ss) = Makes k (edits_if x) (edits_if o) × MakesAll (k + 1) old ss

    pub ends : (k : ℕ) (old ss : List (Option WindowStory)) → MakesAll k old ss → AllStand at P k old ss
        → AllKnown Q k ss
    ends k old [] m h = tt
    ends k [] (o ∷ ss) m h = (end_one k [] o m.0 h.0, ends (k + 1) [] ss m.1 h.1)
    ends k (x ∷ old) (o ∷ ss) m h = (end_one k (edits_if x) o m.0 h.0, ends (k + 1) old ss m.1 h.1)

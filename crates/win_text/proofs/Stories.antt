-- A body by all its edits, and as it is kept.
use Rattle.std.proofs.Common.{◌≡◌, ◌≤◌, ℕ, List, [], ◌++◌, length, take, drop, refl, sym, ap, subst, ◌∙◌, arith, Option}
use Rattle.std.proofs.Common.{Some, None, length-append}
use Rattle.std.specs.Option.{option_map}
use Rattle.std.proofs.Math.Seq.{take-length, drop-length}
use Rattle.std.proofs.lemmas.List.{take-append-drop, take-append-le, drop-append-le}
use Rattle.am_text.specs.declared.range.Range.{Range}
use Rattle.edit_log.specs.declared.types.Edit.{Edit}
use Rattle.edit_log.specs.declared.types.Done.{Done}
use Rattle.edit_log.specs.Edited.{text_after}
use Rattle.edit_log.specs.Groups.{DoneGroup, undoing, redoing, undoing_group, redoing_group, last_of, first_of}
use Rattle.win_text.specs.Bodies.{IsInside, IsLimitInside, AreInRange, done_group, moved, moved_limit, BodyState}
use Rattle.win_text.specs.Bodies.{IsSound, IsPlanFor, applied, History, undone_history, redone_history, history_after}
use Rattle.win_text.specs.Bodies.{edits_to_undo, edits_to_redo, IsHistoryOf, put_range, plan_with, applied_if_any}
use Rattle.win_text.specs.BodyStories.{KeptRange, BodyStory, BodyChange, IsChangeOf, story_text, shown, range_now}
use Rattle.win_text.specs.BodyStories.{limit_now, set_at, limit_at, kept_or_set, moved_or_set, story_changed}
use Rattle.win_text.specs.BodyStories.{story_moved, plan_of}
use Rattle.win_text.specs.Laws.{IsKept, IsLimitKept, IsLawful, CallsKeepLawful, EachIsShown}
use Rattle.win_text.specs.declared.types.TextPlan.{TextPlan}
use Rattle.win_text.specs.declared.types.PlanKind.{PlanKind}
use Rattle.win_text.specs.declared.types.PlanKind.TheVariants.{Undo, Redo}
use Rattle.win_text.proofs.Histories.{changed_history, undo_range, undo_history, redo_range, redo_history, put_inside}
use Rattle.win_text.proofs.Histories.{history_kept}
use Rattle.win_text.proofs.Edits.{images_append, text_append, range_append, range_rest, moved_inside}

-- ---- what is shown

pub moved_append : (r : Range) (es fs : List Edit) → moved r (es ++ fs) ≡ moved (moved r es) fs
moved_append r es fs = rw (images_append r.q0 es fs, images_append r.q1 es fs) refl

range_later : (es fs : List Edit) (k : KeptRange) → k.at ≤ length es
    → range_now (es ++ fs) k ≡ moved (range_now es k) fs
range_later es fs k h = rw (drop-append-le k.at es fs h) (moved_append k.range (drop k.at es) fs)

range_set : (es : List Edit) (r : Range) → range_now es (set_at (length es) r) ≡ r
range_set es r = rw (drop-length es) refl

limit_later : (es fs : List Edit) (k : Option KeptRange) → IsLimitKept es k
    → limit_now (es ++ fs) k ≡ moved_limit (limit_now es k) fs
limit_later es fs None h = refl
limit_later es fs (Some k) h = ap Some (range_later es fs k h.at)

limit_set : (es : List Edit) (r : Option Range) → limit_now es (limit_at (length es) r) ≡ r
limit_set es None = refl
limit_set es (Some r) = ap Some (range_set es r)

dot_later : (es fs : List Edit) (k : KeptRange) (dot : Option Range) → k.at ≤ length es
    → range_now (es ++ fs) (kept_or_set k (length (es ++ fs)) dot) ≡ moved_or_set (range_now es k) fs dot
dot_later es fs k None h = range_later es fs k h
dot_later es fs k (Some r) h = range_set (es ++ fs) r

changed_shown : (s : BodyStory) (c : BodyChange) (number : ℕ) → IsLawful s
    → shown (story_changed s c number) ≡ applied (shown s) (plan_of (shown s) c number)
changed_shown s c number h =
    rw (
      text_append [] s.edits c.edits,
      dot_later s.edits c.edits s.dot c.dot h.dot.at,
      range_later s.edits c.edits s.addr h.addr.at,
      limit_later s.edits c.edits s.limit h.limit,
    ) refl

moved_shown : (s : BodyStory) (kind : PlanKind) (o : Option (List Edit)) (history : History) → IsLawful s
    → ((group : List Done) → history ≡ history_after kind s.history group 0)
    → shown (story_moved s o history) ≡ applied_if_any (shown s) (option_map (plan_with kind) o)
moved_shown s kind None history h e = refl
moved_shown s kind (Some es) history h e =
    rw (
      text_append [] s.edits es,
      range_set (s.edits ++ es) (put_range es),
      range_later s.edits es s.addr h.addr.at,
      limit_later s.edits es s.limit h.limit,
      e (done_group (story_text s) es),
    ) refl

pub each_shown : (s : BodyStory) → IsLawful s → EachIsShown s
each_shown s h = record {
  changed = λ c number. changed_shown s c number h;
  dot = λ r. rw (range_set s.edits r) refl;
  addr = λ r. rw (range_set s.edits r) refl;
  limit = λ r. rw (limit_set s.edits r) refl;
  marked = λ automatic. refl;
  undone = moved_shown s Undo (edits_to_undo s.history) (undone_history s.history) h (λ group. refl);
  redone = moved_shown s Redo (edits_to_redo s.history) (redone_history s.history) h (λ group. refl);
}

-- ---- what stays lawful

range_inside : (es : List Edit) (k : KeptRange) → AreInRange [] es → IsKept es k
    → IsInside (text_after [] es) (range_now es k)
range_inside es k h kept =
    let e : take k.at es ++ drop k.at es ≡ es = take-append-drop k.at es in
    let t : text_after [] es ≡ text_after (text_after [] (take k.at es)) (drop k.at es) = ap (text_after []) (sym e)
    ∙ text_append [] (take k.at es) (drop k.at es) in
    rw t (moved_inside (text_after [] (take k.at es)) (drop k.at es) k.range
    (range_rest [] (take k.at es) (drop k.at es) (subst (AreInRange []) (sym e) h)) kept.inside)

limit_inside : (es : List Edit) (k : Option KeptRange) → AreInRange [] es → IsLimitKept es k
    → IsLimitInside (text_after [] es) (limit_now es k)
limit_inside es None h kept = tt
limit_inside es (Some k) h kept = range_inside es k h kept

pub all_inside : (s : BodyStory) → IsLawful s → IsSound (shown s)
all_inside s h = record {
  dot = range_inside s.edits s.dot h.edits h.dot;
  addr = range_inside s.edits s.addr h.edits h.addr;
  limit = limit_inside s.edits s.limit h.edits h.limit;
  history = record { groups = h.groups; leads = h.history };
}

kept_later : (es fs : List Edit) (k : KeptRange) → IsKept es k → IsKept (es ++ fs) k
kept_later es fs k h = record {
  at = omega (arith, length-append es fs, h.at);
  inside = rw (take-append-le k.at es fs h.at) h.inside;
}

limit_kept_later : (es fs : List Edit) (k : Option KeptRange) → IsLimitKept es k → IsLimitKept (es ++ fs) k
limit_kept_later es fs None h = tt
limit_kept_later es fs (Some k) h = kept_later es fs k h

kept_set : (es : List Edit) (r : Range) → IsInside (text_after [] es) r → IsKept es (set_at (length es) r)
kept_set es r h = record {
  at = omega arith;
  inside = rw (take-length es) h;
}

limit_kept_set : (es : List Edit) (r : Option Range) → IsLimitInside (text_after [] es) r
    → IsLimitKept es (limit_at (length es) r)
limit_kept_set es None h = tt
limit_kept_set es (Some r) h = kept_set es r h

dot_kept : (es fs : List Edit) (k : KeptRange) (dot : Option Range) → IsKept es k
    → IsLimitInside (text_after (text_after [] es) fs) dot → IsKept (es ++ fs) (kept_or_set k (length (es ++ fs)) dot)
dot_kept es fs k None h i = kept_later es fs k h
dot_kept es fs k (Some r) h i = kept_set (es ++ fs) r (rw (text_append [] es fs) i)

-- ---- the groups

lawful_history : (s : BodyStory) → IsLawful s → IsHistoryOf (story_text s) s.history.past s.history.future
lawful_history s h = record { groups = h.groups; leads = h.history }

moved_lawful : (s : BodyStory) (es : List Edit) (history : History) → IsLawful s → AreInRange (story_text s) es
    → IsHistoryOf (text_after (story_text s) es) history.past history.future
    → IsLawful (story_moved s (Some es) history)
moved_lawful s es history h r k = record {
  edits = range_append [] s.edits es h.edits r;
  dot = kept_set (s.edits ++ es) (put_range es) (rw (text_append [] s.edits es) (put_inside (story_text s) es r));
  addr = kept_later s.edits es s.addr h.addr;
  limit = limit_kept_later s.edits es s.limit h.limit;
  history = k.leads ∙ sym (text_append [] s.edits es);
  groups = k.groups;
}

undone_lawful : (s : BodyStory) (o : Option DoneGroup) → last_of s.history.past ≡ o → IsLawful s
    → IsLawful (story_moved s (option_map undoing_group o) (undone_history s.history))
undone_lawful s None e h = h
undone_lawful s (Some g) e h =
    let k = lawful_history s h in
    moved_lawful s (undoing g.edits) (undone_history s.history) h (undo_range (story_text s) s.history.past
    s.history.future g k e) (undo_history (story_text s) s.history.past s.history.future g k e)

redone_lawful : (s : BodyStory) (o : Option DoneGroup) → first_of s.history.future ≡ o → IsLawful s
    → IsLawful (story_moved s (option_map redoing_group o) (redone_history s.history))
redone_lawful s None e h = h
redone_lawful s (Some g) e h =
    let k = lawful_history s h in
    moved_lawful s (redoing g.edits) (redone_history s.history) h (redo_range (story_text s) s.history.past
    s.history.future g k e) (redo_history (story_text s) s.history.past s.history.future g k e)

changed_lawful : (s : BodyStory) (c : BodyChange) (number : ℕ) → IsLawful s → IsChangeOf (story_text s) c
    → IsLawful (story_changed s c number)
changed_lawful s c number h i =
    let k = changed_history (story_text s) s.history c.edits number (lawful_history s h) i.edits in
    record {
      edits = range_append [] s.edits c.edits h.edits i.edits;
      dot = dot_kept s.edits c.edits s.dot c.dot h.dot i.dot;
      addr = kept_later s.edits c.edits s.addr h.addr;
      limit = limit_kept_later s.edits c.edits s.limit h.limit;
      history = k.leads ∙ sym (text_append [] s.edits c.edits);
      groups = k.groups;
    }

pub calls_keep_lawful : (s : BodyStory) → IsLawful s → CallsKeepLawful s
calls_keep_lawful s h = record {
  changed = λ c number i. changed_lawful s c number h i;
  dot = λ r i. record {
    edits = h.edits;
    dot = kept_set s.edits r i;
    addr = h.addr;
    limit = h.limit;
    history =
        h.history;
    groups = h.groups;
  };
  addr = λ r i. record {
    edits = h.edits;
    dot = h.dot;
    addr = kept_set s.edits r i;
    limit = h.limit;
    history =
        h.history;
    groups = h.groups;
  };
  limit = λ r i. record {
    edits = h.edits;
    dot = h.dot;
    addr = h.addr;
    limit = limit_kept_set s.edits r i;
    history =
        h.history;
    groups = h.groups;
  };
  marked = λ automatic. record {
    edits = h.edits;
    dot = h.dot;
    addr = h.addr;
    limit = h.limit;
    history = h.history;
    groups = h.groups;
  };
  undone = undone_lawful s (last_of s.history.past) refl h;
  redone = redone_lawful s (first_of s.history.future) refl h;
}

-- ---- plans

pub planned_dot : (t : List ℕ) (es : List Edit) (dot : Range) (set : Option Range) → AreInRange t es → IsInside t dot
    → IsLimitInside (text_after t es) set → IsInside (text_after t es) (moved_or_set dot es set)
planned_dot t es dot None h i k = moved_inside t es dot h i
planned_dot t es dot (Some r) h i k = k

pub plan_sound : (s : BodyState) (c : BodyChange) (number : ℕ) → IsSound s → IsChangeOf s.text c
    → IsPlanFor s (plan_of s c number)
plan_sound s c number h i = record {
  edits = i.edits;
  dot = planned_dot s.text c.edits s.dot c.dot i.edits h.dot i.dot;
  kind = tt;
}

limit_moved : (t : List ℕ) (es : List Edit) (limit : Option Range) → AreInRange t es → IsLimitInside t limit
    → IsLimitInside (text_after t es) (moved_limit limit es)
limit_moved t es None h i = tt
limit_moved t es (Some r) h i = moved_inside t es r h i

pub applied_sound : (s : BodyState) (plan : TextPlan) → IsSound s → IsPlanFor s plan → IsSound (applied s plan)
applied_sound s plan h i = record {
  dot = i.dot;
  addr = moved_inside s.text plan.edits s.addr i.edits h.addr;
  limit = limit_moved s.text plan.edits s.limit i.edits h.limit;
  history = history_kept s plan plan.kind i.kind h i.edits;
}

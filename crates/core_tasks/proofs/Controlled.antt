-- Control messages, one line further.
use Rattle.std.proofs.Common.{◌≡◌, ℕ, Bool, true, false, cond, List, [], ◌∷◌, ◌++◌, length, Some, None, Result, Ok}
use Rattle.std.proofs.Common.{Err, IsSome, refl, sym, ap, subst, ◌∙◌, arith}
use Rattle.am_text.specs.Lines.{lines_of}
use Rattle.am_text.specs.Utf8.{utf8}
use Rattle.name_tree.specs.Kinds.{file_clashes}
use Rattle.win_ctl.specs.declared.message.CtlMsg.{CtlMsg}
use Rattle.win_ctl.specs.declared.message.CtlMsg.TheVariants as msg
use Rattle.win_ctl.specs.declared.message.CtlFault.{CtlFault}
use Rattle.win_ctl.specs.declared.message.CtlFault.TheVariants as ctl
use Rattle.win_ctl.specs.Messages.{ctl_of}
use Rattle.core_windows.specs.declared.change.Change.TheVariants as change
use Rattle.core_windows.specs.declared.change.Setting.{Setting}
use Rattle.core_windows.specs.declared.change.Setting.TheVariants as setting
use Rattle.core_windows.specs.Possible.{text_in}
use Rattle.core_windows.specs.Windows.{window_at, set}
use Rattle.core_windows.proofs.Steps.{lives_then}
use Rattle.core_scene.specs.declared.deed.Entry.{Entry}
use Rattle.core_scene.specs.declared.deed.Deed.{Deed}
use Rattle.core_scene.specs.declared.deed.Deed.TheVariants as deed
use Rattle.core_scene.specs.Scenes.{SceneState, done_all, Did}
use Rattle.core_scene.proofs.Dids.{did_next}
use Rattle.core_fids.specs.declared.refusal.Refusal.{Refusal}
use Rattle.core_fids.specs.declared.refusal.Refusal.TheVariants as refusal
use Rattle.core_actions.specs.declared.fault.ActionFault.{ActionFault}
use Rattle.core_actions.specs.declared.fault.ActionFault.TheVariants as fault
use Rattle.core_actions.specs.Outcomes.{does as does_all, fails}
use Rattle.core_actions.specs.Seen.{asks, fits}
use Rattle.core_actions.specs.Files.{get_deeds, fill_outcome, file_text, store_deeds, put_deeds, put_at}
use Rattle.core_actions.specs.Files.{is_own, clean_if, put_noted}
use Rattle.core_actions.specs.declared.files.Saved.{Saved}
use Rattle.core_actions.specs.Paths.{path_of}
use Rattle.core_tasks.specs.declared.control.Next.{Next}
use Rattle.core_tasks.specs.declared.control.Next.TheVariants as next
use Rattle.core_tasks.specs.Controls.{Told, Controlled, refusal_told, deletes, msg_told, line_told, no_controls}
use Rattle.core_tasks.specs.Controls.{then_rest, controls}

-- ---- behind a message the window lives on, but for one that deletes it

abbrev LivesAfter : Entry → ℕ → SceneState → List Deed → Type 0
LivesAfter e w s deeds = IsSome (window_at (done_all e s deeds).windows w)

set_lives : (e : Entry) (w : ℕ) (x : Setting) (s : SceneState) → IsSome (window_at s.windows w)
    → LivesAfter e w s (deed.Windows (change.Sets w x) ∷ [])
set_lives e w x s h = lives_then (set x) w s.windows h

del_lives : (e : Entry) (w : ℕ) (s : SceneState) (b : Bool) → IsSome (window_at s.windows w)
    → (cond b (refusal_told refusal.WindowModified) (deletes w s)).next ≡ next.GoesOn
    → LivesAfter e w s (cond b (refusal_told refusal.WindowModified) (deletes w s)).deeds
del_lives e w s true h n = h
del_lives e w s false h n = absurd cc

fill_lives : (e : Entry) (w : ℕ) (text : List ℕ) (s : SceneState) → IsSome (window_at s.windows w)
    → LivesAfter e w s (get_deeds w text s)
fill_lives e w text s h = lives_then (set setting.Clean) w _ (lives_then _ w s.windows h)

fill_if_lives : (e : Entry) (w : ℕ) (text : List ℕ) (s : SceneState) (b : Bool) → IsSome (window_at s.windows w)
    → LivesAfter e w s (cond b (does_all (get_deeds w text s)) (fails fault.TextTooLong)).deeds
fill_if_lives e w text s true h = fill_lives e w text s h
fill_if_lives e w text s false h = h

get_lives : (e : Entry) (w : ℕ) (r : Result (List ℕ) ActionFault) (s : SceneState) → IsSome (window_at s.windows w)
    → LivesAfter e w s (fill_outcome w r s).deeds
get_lives e w (Err f) s h = h
get_lives e w (Ok text) s h = fill_if_lives e w text s (fits 0 (length text)) h

clean_lives : (e : Entry) (w : ℕ) (b : Bool) (s : SceneState) → IsSome (window_at s.windows w)
    → LivesAfter e w s (clean_if b w ++ put_noted w)
clean_lives e w true s h = set_lives e w setting.Clean s h
clean_lives e w false s h = h

save_lives : (e : Entry) (w : ℕ) (saved : Saved) (s : SceneState) → IsSome (window_at s.windows w)
    → LivesAfter e w s (put_deeds w saved s ++ put_noted w)
save_lives e w saved s h = clean_lives e w (is_own (window_at s.windows w) saved.path)
    (done_all e s (store_deeds w saved s)) h

save_if_lives : (e : Entry) (w : ℕ) (path text : List ℕ) (s : SceneState) (b : Bool) → IsSome (window_at s.windows w)
    → LivesAfter e w s (cond b (fails fault.FileNotFound) (does_all
    (put_deeds w (record { path = path; text = text }) s ++ put_noted w))).deeds
save_if_lives e w path text s true h = h
save_if_lives e w path text s false h = save_lives e w (record { path = path; text = text }) s h

put_lives : (e : Entry) (w : ℕ) (r : Result (List ℕ) ActionFault) (s : SceneState) → IsSome (window_at s.windows w)
    → LivesAfter e w s (put_at w r s).deeds
put_lives e w (Err f) s h = h
put_lives e w (Ok path) s h = save_if_lives e w path (text_in (window_at s.windows w)) s
    (file_clashes s.files (utf8 path)) h

msg_lives : (e : Entry) (w : ℕ) (m : CtlMsg) (s : SceneState) → IsSome (window_at s.windows w)
    → (msg_told w m s).next ≡ next.GoesOn → LivesAfter e w s (msg_told w m s).deeds
msg_lives e w msg.AddrDot s h n = set_lives e w setting.AddrToDot s h
msg_lives e w msg.DotAddr s h n = set_lives e w setting.DotToAddr s h
msg_lives e w msg.Clean s h n = set_lives e w setting.Clean s h
msg_lives e w msg.Dirty s h n = set_lives e w setting.Dirty s h
msg_lives e w msg.ClearTag s h n = set_lives e w setting.ClearTag s h
msg_lives e w msg.Del s h n = del_lives e w s (asks (window_at s.windows w)) h n
msg_lives e w msg.Delete s h n = absurd cc
msg_lives e w msg.Get s h n = get_lives e w (file_text w [] s) s h
msg_lives e w msg.Put s h n = put_lives e w (path_of (window_at s.windows w) []) s h
msg_lives e w msg.LimitAddr s h n = set_lives e w setting.LimitToAddr s h
msg_lives e w msg.Mark s h n = set_lives e w (setting.Mark true) s h
msg_lives e w msg.NoMark s h n = set_lives e w (setting.Mark false) s h
msg_lives e w (msg.Name name) s h n = set_lives e w (setting.Name name) s h
msg_lives e w msg.Idle s h n = h

line_lives : (e : Entry) (w : ℕ) (r : Result CtlMsg CtlFault) (s : SceneState) → IsSome (window_at s.windows w)
    → (line_told w r s).next ≡ next.GoesOn → LivesAfter e w s (line_told w r s).deeds
line_lives e w (Ok m) s h n = msg_lives e w m s h n
line_lives e w (Err ctl.Unknown) s h n = h
line_lives e w (Err ctl.BadName) s h n = h
line_lives e w (Err ctl.NoMemory) s h n = h

pub lives_behind : (e : Entry) (w : ℕ) (line : List ℕ) (a b : SceneState) → IsSome (window_at a.windows w)
    → Did e a b (line_told w (ctl_of line) a).deeds
    → (line_told w (ctl_of line) a).next ≡ next.GoesOn → IsSome (window_at b.windows w)
lives_behind e w line a b h did n = subst (λ (s : SceneState). IsSome (window_at s.windows w)) (sym did.made)
    (line_lives e w (ctl_of line) a h n)

-- ---- what is left of a write

-- The lines that are left do over the scene as it is now what is left of all.
pub record AreLeft (e : Entry) (w : ℕ) (all lines : List (List ℕ)) (before now : SceneState) : Type 0 where
  pub did : (after : SceneState) → Did e now after (controls e w lines now).deeds
      → Did e before after (controls e w all before).deeds
  pub refusal : (controls e w lines now).refusal ≡ (controls e w all before).refusal

pub left_all : (e : Entry) (w : ℕ) (all : List (List ℕ)) (s : SceneState) → AreLeft e w all all s s
left_all e w all s = record { did = λ after d. d; refusal = refl }

module _ (e : Entry) (w : ℕ) (all rest lines : List (List ℕ)) (line : List ℕ) (before now now' : SceneState)
    (split : rest ≡ line ∷ lines) (left : AreLeft e w all rest before now)
    (did : Did e now now' (line_told w (ctl_of line) now).deeds) where
  abbrev told : Told
  told = line_told w (ctl_of line) now

  -- what the first line and those behind it do, where the write goes on like this
  first : (n : Next) → told.next ≡ n → controls e w (line ∷ lines) now ≡ then_rest told.deeds n
      (controls e w lines (done_all e now told.deeds))
  unfolding controls
  first n h = ap (λ (x : Next). then_rest told.deeds x (controls e w lines (done_all e now told.deeds))) h

  behind : (n : Next) → told.next ≡ n → controls e w rest now ≡ then_rest told.deeds n
      (controls e w lines (done_all e now told.deeds))
  behind n h = ap (λ (ls : List (List ℕ)). controls e w ls now) split ∙ first n h

  pub left_behind : told.next ≡ next.GoesOn → AreLeft e w all lines before now'
  left_behind h = record {
    did = λ after d. left.did after (subst (λ (c : Controlled). Did e now after c.deeds) (sym (behind next.GoesOn h))
        (did_next (λ (s : SceneState). (controls e w lines s).deeds) did d));
    refusal = ap (λ (s : SceneState). (controls e w lines s).refusal) did.made
        ∙ sym (ap (λ (c : Controlled). c.refusal) (behind next.GoesOn h)) ∙ left.refusal;
  }

  pub deleted_did : told.next ≡ next.Deleted → Did e before now' (controls e w all before).deeds
  deleted_did h = left.did now' (subst (λ (c : Controlled). Did e now now' c.deeds) (sym (behind next.Deleted h)) did)

  pub deleted_unrefused : told.next ≡ next.Deleted → None ≡ (controls e w all before).refusal
  deleted_unrefused h = sym (ap (λ (c : Controlled). c.refusal) (behind next.Deleted h)) ∙ left.refusal

  pub refused_did : (r : Refusal) → told.next ≡ next.Refused r → Did e before now' (controls e w all before).deeds
  refused_did r h = left.did now' (subst (λ (c : Controlled). Did e now now' c.deeds) (sym (behind (next.Refused r) h))
      did)

  pub refused_so : (r : Refusal) → told.next ≡ next.Refused r → Some r ≡ (controls e w all before).refusal
  refused_so r h = sym (ap (λ (c : Controlled). c.refusal) (behind (next.Refused r) h)) ∙ left.refusal

-- ---- nothing is left

pub no_lines : (bytes : List ℕ) → length bytes ≡ 0 → lines_of bytes ≡ []
no_lines [] h = refl
no_lines (b ∷ bytes) h = absurd (omega arith)

module _ (e : Entry) (w : ℕ) (all rest : List (List ℕ)) (before now : SceneState) (none : rest ≡ [])
    (left : AreLeft e w all rest before now) where
  empty : controls e w rest now ≡ no_controls
  unfolding controls
  empty = ap (λ (ls : List (List ℕ)). controls e w ls now) none

  pub none_left : Did e before now (controls e w all before).deeds
  none_left = left.did now (subst (λ (c : Controlled). Did e now now c.deeds) (sym empty)
      (record { made = refl; can = tt }))

  pub none_refused : None ≡ (controls e w all before).refusal
  none_refused = sym (ap (λ (c : Controlled). c.refusal) empty) ∙ left.refusal

-- Control messages: what is written to a window's `ctl`, after acme(4).
use Rattle.std.specs.Prelude.{ℕ, true, false, List, [], ◌∷◌, ◌++◌, Option, Some, None, Result, Ok, Err, if◌then◌else◌}
use Rattle.win_ctl.specs.declared.message.CtlMsg.{CtlMsg}
use Rattle.win_ctl.specs.declared.message.CtlMsg.TheVariants as msg
use Rattle.win_ctl.specs.declared.message.CtlFault.{CtlFault}
use Rattle.win_ctl.specs.declared.message.CtlFault.TheVariants as ctl
use Rattle.win_ctl.specs.Messages.{ctl_of}
use Rattle.core_windows.specs.Windows.{window_at}
use Rattle.core_windows.specs.declared.change.Change.TheVariants as change
use Rattle.core_windows.specs.declared.change.Setting.{Setting}
use Rattle.core_windows.specs.declared.change.Setting.TheVariants as setting
use Rattle.core_scene.specs.declared.deed.Entry.{Entry}
use Rattle.core_scene.specs.declared.deed.Deed.{Deed}
use Rattle.core_scene.specs.declared.deed.Deed.TheVariants as deed
use Rattle.core_scene.specs.Scenes.{SceneState, done_all}
use Rattle.core_fids.specs.declared.refusal.Refusal.{Refusal}
use Rattle.core_fids.specs.declared.refusal.Refusal.TheVariants as refusal
use Rattle.core_actions.specs.declared.fault.ActionFault.{ActionFault}
use Rattle.core_actions.specs.declared.fault.ActionFault.TheVariants as fault
use Rattle.core_actions.specs.Outcomes.{Outcome}
use Rattle.core_actions.specs.Seen.{asks}
use Rattle.core_actions.specs.Deleting.{delete_deeds}
use Rattle.core_actions.specs.Files.{get_outcome, put_outcome}
use Rattle.core_tasks.specs.declared.control.Next.{Next}
use Rattle.core_tasks.specs.declared.control.Next.TheVariants as next

-- ---- one message

-- what a message does, and how the write goes on behind it
pub record Told : Type 0 where
  pub deeds : List Deed
  pub next : Next

-- these deeds are done, and the next message is looked at
abbrev pub does : List Deed → Told
does deeds = record { deeds = deeds; next = next.GoesOn }

-- the message is refused
abbrev pub refusal_told : Refusal → Told
refusal_told r = record { deeds = []; next = next.Refused r }

-- a setting of the window
abbrev pub sets : ℕ → Setting → Told
sets w s = does (deed.Windows (change.Sets w s) ∷ [])

-- the window is deleted
abbrev pub deletes : ℕ → SceneState → Told
deletes w s = record { deeds = delete_deeds w s; next = next.Deleted }

-- the refusal that names a fault of Get or Put
abbrev pub refusal_of : ActionFault → Refusal
refusal_of fault.NoFileName = refusal.NoFileName
refusal_of fault.FileNotFound = refusal.FileNotFound
refusal_of fault.TextTooLong = refusal.TextTooLong

-- what comes after an action, by its fault
abbrev pub next_of : Option ActionFault → Next
next_of None = next.GoesOn
next_of (Some f) = next.Refused (refusal_of f)

-- what an action does, whose fault is a refusal
abbrev pub acts : Outcome → Told
acts o = record { deeds = o.deeds; next = next_of o.fault }

-- what a message does in a window that lives
abbrev pub msg_told : ℕ → CtlMsg → SceneState → Told
msg_told w msg.AddrDot s = sets w setting.AddrToDot
msg_told w msg.DotAddr s = sets w setting.DotToAddr
msg_told w msg.Clean s = sets w setting.Clean
msg_told w msg.Dirty s = sets w setting.Dirty
msg_told w msg.ClearTag s = sets w setting.ClearTag
msg_told w msg.Del s = if asks (window_at s.windows w) then refusal_told refusal.WindowModified else deletes w s
msg_told w msg.Delete s = deletes w s
msg_told w msg.Get s = acts (get_outcome w [] s)
msg_told w msg.Put s = acts (put_outcome w [] s)
msg_told w msg.LimitAddr s = sets w setting.LimitToAddr
msg_told w msg.Mark s = sets w (setting.Mark true)
msg_told w msg.NoMark s = sets w (setting.Mark false)
msg_told w (msg.Name name) s = sets w (setting.Name name)
msg_told w msg.Idle s = does []

-- what the message of a line does
abbrev pub line_told : ℕ → Result CtlMsg CtlFault → SceneState → Told
line_told w (Ok m) s = msg_told w m s
line_told w (Err ctl.Unknown) s = refusal_told refusal.BadControlMessage
line_told w (Err ctl.BadName) s = refusal_told refusal.BadFileName
line_told w (Err ctl.NoMemory) s = does []

-- ---- a whole write

-- what a write does, and why its last message is refused, if it is
pub record Controlled : Type 0 where
  pub deeds : List Deed
  pub refusal : Option Refusal

-- no message does nothing
abbrev pub no_controls : Controlled
no_controls = record { deeds = []; refusal = None }

-- these deeds, and then those of the rest, which isn't looked at behind a deletion or a refusal
abbrev pub then_rest : List Deed → Next → Controlled → Controlled
then_rest deeds next.GoesOn rest = record rest { deeds = deeds ++ rest.deeds }
then_rest deeds next.Deleted rest = record { deeds = deeds; refusal = None }
then_rest deeds (next.Refused r) rest = record { deeds = deeds; refusal = Some r }

-- What the messages of these lines do to a window: one after another, each over the scene that those before it leave,
-- up to the first that deletes the window or is refused. Those before it stay done.
unfoldable pub controls : Entry → ℕ → List (List ℕ) → SceneState → Controlled
controls e w [] s = no_controls
controls e w (line ∷ lines) s =
    let told = line_told w (ctl_of line) s in then_rest told.deeds told.next
    (controls e w lines (done_all e s told.deeds))

-- Control messages, one line each without its newline.
use Rattle.std.specs.Prelude.{◌≡◌, ◌≢◌, ℕ, Bool, ◌==◌, ◌||◌, nat_eq, nat_le, List, [], ◌∷◌, length, codes, Option, Some}
use Rattle.std.specs.Prelude.{None, Result, Ok, Err, if◌then◌else◌}
use Rattle.std.specs.Str.{bytes_eq}
use Rattle.std.specs.List.{starts_with, list_any}
use Rattle.am_text.specs.Ascii.{space}
use Rattle.am_text.specs.Utf8.{decode}
use Rattle.am_text.specs.Front.{after_front}
use Rattle.win_ctl.specs.declared.message.CtlMsg.{CtlMsg}
use Rattle.win_ctl.specs.declared.message.CtlMsg.TheVariants as msg
use Rattle.win_ctl.specs.declared.message.CtlFault.{CtlFault}
use Rattle.win_ctl.specs.declared.message.CtlFault.TheVariants as fault

-- ---- whole words

-- the message beside these bytes in a table
abbrev pub message_beside : List (List ℕ × CtlMsg) → List ℕ → Option CtlMsg
message_beside [] line = None
message_beside (r ∷ rs) line = if bytes_eq line r.0 then Some r.1 else message_beside rs line

-- those that change a range or the mark
abbrev pub range_messages : List (List ℕ × CtlMsg)
range_messages =
    (codes "addr=dot", msg.AddrDot) ∷ (codes "dot=addr", msg.DotAddr) ∷ (codes "limit=addr", msg.LimitAddr)
    ∷ (codes "mark", msg.Mark) ∷ (codes "nomark", msg.NoMark) ∷ []

-- those that change a window, its tag or its file
abbrev pub window_messages : List (List ℕ × CtlMsg)
window_messages =
    (codes "clean", msg.Clean) ∷ (codes "dirty", msg.Dirty) ∷ (codes "cleartag", msg.ClearTag) ∷ (codes "del", msg.Del)
    ∷ (codes "delete", msg.Delete) ∷ (codes "get", msg.Get) ∷ (codes "put", msg.Put) ∷ []

-- those that change nothing
abbrev pub idle_messages : List (List ℕ × CtlMsg)
idle_messages =
    (codes "dump", msg.Idle) ∷ (codes "dumpdir", msg.Idle) ∷ (codes "scroll", msg.Idle) ∷ (codes "noscroll", msg.Idle)
    ∷ (codes "show", msg.Idle) ∷ []

-- the first message, or the other where there is none
abbrev pub or_else : Option CtlMsg → Option CtlMsg → Option CtlMsg
or_else None other = other
or_else (Some m) other = Some m

-- ---- words with a text after a blank

-- `dump` or `dumpdir` with a blank and any text
abbrev pub is_dump : List ℕ → Bool
is_dump line = starts_with nat_eq line (codes "dump ") || starts_with nat_eq line (codes "dumpdir ")

-- the message of a line that gives no name
unfoldable pub plain_msg : List ℕ → Option CtlMsg
plain_msg line = if is_dump line
    then Some msg.Idle
    else or_else (message_beside range_messages line)
    (or_else (message_beside window_messages line) (message_beside idle_messages line))

-- a rune is at most U+0020
abbrev pub has_blank : List ℕ → Bool
has_blank name = list_any (λ c. nat_le c space) name

-- no name for a window: an empty text, or one with such a rune
abbrev pub is_bad_name : List ℕ → Bool
is_bad_name name = (length name == 0) || has_blank name

-- the message that gives this name
abbrev pub name_msg : List ℕ → Result CtlMsg CtlFault
name_msg name = if is_bad_name name then Err fault.BadName else Ok (msg.Name name)

-- ---- all lines

-- the message, or that there is none
abbrev pub or_unknown : Option CtlMsg → Result CtlMsg CtlFault
or_unknown None = Err fault.Unknown
or_unknown (Some m) = Ok m

-- where the line begins with `name` and a blank, what follows gives the name
abbrev pub ctl_at : Option (List ℕ) → List ℕ → Result CtlMsg CtlFault
ctl_at None line = or_unknown (plain_msg line)
ctl_at (Some name) line = name_msg (decode name)

-- the message of a line, or why it is none
unfoldable pub ctl_of : List ℕ → Result CtlMsg CtlFault
ctl_of line = ctl_at (after_front (codes "name ") line) line

-- The fault is the one that the definition tells, or memory ran out at a line that isn't unknown.
abbrev pub Refuses : CtlFault → Result CtlMsg CtlFault → Type 0
Refuses fault.Unknown told = told ≡ Err fault.Unknown
Refuses fault.BadName told = told ≡ Err fault.BadName
Refuses fault.NoMemory told = told ≢ Err fault.Unknown

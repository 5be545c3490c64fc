-- What a text that is executed asks for.
use Rattle.std.specs.Prelude.{ℕ, Bool, true, false, ◌&&◌, ◌==◌, List, [], ◌∷◌, length, drop, Option, Some, None}
use Rattle.std.specs.Prelude.{if◌then◌else◌, codes, ⊤}
use Rattle.am_text.specs.Ascii.{less, greater, bar}
use Rattle.am_text.specs.declared.job.JobKind.{JobKind}
use Rattle.am_text.specs.declared.job.JobKind.TheVariants as kind
use Rattle.acme_cmd.specs.declared.command.Builtin.{Builtin}
use Rattle.acme_cmd.specs.declared.command.Builtin.TheVariants as builtin
use Rattle.acme_cmd.specs.declared.command.Command.{Command}
use Rattle.acme_cmd.specs.declared.command.Command.TheVariants as command
use Rattle.acme_cmd.specs.Blanks.{after_blanks, word, after_word, IsIn, trimmed}

-- the text is this name
unfoldable pub is_name : List ℕ → List ℕ → Bool
is_name text [] = length text == 0
is_name [] (d ∷ ds) = false
is_name (c ∷ cs) (d ∷ ds) = c == d && is_name cs ds

-- what the first of these names that is the text stands for
abbrev pub named : List (List ℕ × Builtin) → List ℕ → Option Builtin
named [] text = None
named (n ∷ ns) text = if is_name text n.0 then Some n.1 else named ns text

-- the built-in commands that do something
unfoldable pub done_of : List ℕ → Option Builtin
done_of text = named (
    (codes "Cut", builtin.Cut) ∷ (codes "Del", builtin.Del) ∷ (codes "Delete", builtin.Delete)
    ∷ (codes "Edit", builtin.Edit)
    ∷ (codes "Get", builtin.Get) ∷ (codes "Look", builtin.Look) ∷ (codes "New", builtin.New)
    ∷ (codes "Paste", builtin.Paste)
    ∷ (codes "Put", builtin.Put) ∷ (codes "Redo", builtin.Redo) ∷ (codes "Snarf", builtin.Snarf)
    ∷ (codes "Undo", builtin.Undo)
    ∷ []) text

-- the text is one of these names
abbrev pub is_one_of : List (List ℕ) → List ℕ → Bool
is_one_of [] text = false
is_one_of (n ∷ ns) text = if is_name text n then true else is_one_of ns text

-- the built-in commands that do nothing
unfoldable pub is_idle : List ℕ → Bool
is_idle text = is_one_of (
    codes "Delcol" ∷ codes "Dump" ∷ codes "Exit" ∷ codes "Font" ∷ codes "ID" ∷ codes "Incl"
    ∷ codes "Indent" ∷ codes "Kill"
    ∷ codes "Load" ∷ codes "Local" ∷ codes "Newcol" ∷ codes "Putall" ∷ codes "Send" ∷ codes "Sort" ∷ codes "Tab"
    ∷ codes "Zerox"
    ∷ []) text

-- the command that does something, or the one that does nothing
abbrev pub or_idle : Option Builtin → List ℕ → Option Builtin
or_idle (Some b) text = Some b
or_idle None text = if is_idle text then Some builtin.Idle else None

-- the built-in command of a word
abbrev pub builtin_of : List ℕ → Option Builtin
builtin_of text = or_idle (done_of text) text

-- the kind of request of a text that begins with this sign: `|`, `<` or `>`
abbrev pub sign_of : List ℕ → Option JobKind
sign_of [] = None
sign_of (c ∷ cs) =
    if c == bar then Some kind.Pipe else (if c == less then Some kind.From
    else (if c == greater then Some kind.To else None))

-- the command, by the sign in front and by the built-in command
abbrev pub command_of : List ℕ → Option JobKind → Option Builtin → Command
command_of text (Some k) b = command.Pipe k (trimmed text (drop 1 text))
command_of text None (Some b) = command.Builtin b (trimmed text (after_word (after_blanks text)))
command_of text None None = command.External

-- the argument lies in a text of this length
abbrev pub HasItsArgumentIn : ℕ → Command → Type 0
HasItsArgumentIn n (command.Builtin b r) = IsIn n r
HasItsArgumentIn n (command.Pipe k r) = IsIn n r
HasItsArgumentIn n command.External = ⊤

-- what a text asks for, with the range of the argument
abbrev pub classified : List ℕ → Command
classified text = command_of text (sign_of text) (builtin_of (word (after_blanks text)))

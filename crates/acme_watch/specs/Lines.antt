-- The lines of the file `log`, and what is written to `jobs`.
use Rattle.std.specs.Prelude.{ℕ, ◌==◌, Bool, true, false, List, [], ◌∷◌, ◌++◌, take, drop, position, Option, Some, None}
use Rattle.std.specs.Prelude.{codes, if◌then◌else◌}
use Rattle.std.specs.List.{flat_map}
use Rattle.std.specs.Str.{bytes_eq}
use Rattle.am_text.specs.Ascii.{newline, space}
use Rattle.am_text.specs.Fields.{around}
use Rattle.am_text.specs.Lines.{escaped}
use Rattle.am_text.specs.Number.{number_of}
use Rattle.acme_watch.specs.declared.types.Op.{Op}
use Rattle.acme_watch.specs.declared.types.Op.TheVariants as op
use Rattle.acme_watch.specs.declared.lines.Told.{Told}

-- the word of what happened
unfoldable pub op_word : Op → List ℕ
op_word op.New = codes "new "
op_word op.Del = codes "del "
op_word op.Name = codes "name "
op_word op.Get = codes "get "
op_word op.Put = codes "put "

-- `W OP NAME`
unfoldable pub log_line : ℕ → Op → List ℕ → List ℕ
log_line window op name = around [] window (space ∷ []) ++ op_word op ++ flat_map escaped name ++ newline ∷ []

-- ---- answers

-- how it went, if it is one of the two words
unfoldable pub outcome_of : List ℕ → Option Bool
outcome_of word =
    if bytes_eq word (codes " ok\n") then Some true
    else (if bytes_eq word (codes " fail\n") then Some false else None)

-- the answer, where both parts are there
abbrev pub said_as : Option ℕ → Option Bool → Option Told
said_as None good = None
said_as (Some number) None = None
said_as (Some number) (Some good) = Some (record { number = number; good = good })

-- the answer whose number ends at a place
abbrev pub said_at : Option ℕ → List ℕ → Option Told
said_at None bytes = None
said_at (Some place) bytes = said_as (number_of (take place bytes)) (outcome_of (drop place bytes))

-- the answer that the bytes are: `K ok` or `K fail`, with its newline
abbrev pub said_of : List ℕ → Option Told
said_of bytes = said_at (position (λ b. b == space) bytes) bytes

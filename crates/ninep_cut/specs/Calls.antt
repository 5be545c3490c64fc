-- What a cutter has given and has left after any calls.
use Rattle.std.specs.Prelude.{ℕ, List, [], ◌∷◌, ◌++◌, fold, if◌then◌else◌}
use Rattle.ninep_cut.specs.Cuts.{cut_of, is_whole, first_of, behind_first}

-- a piece is fed, or the next message is asked for; a call that is refused changes nothing, and doesn't count
pub data Call : Type 0 where
  Feed : List ℕ → Call
  Next : Call

-- the messages that were given, and the bytes that are left
pub record Cutting : Type 0 where
  pub given : List (List ℕ)
  pub left : List ℕ

-- nothing was fed
abbrev pub start : Cutting
start = record { given = []; left = [] }

-- after one call more
abbrev pub after_call : Cutting → Call → Cutting
after_call c (Feed piece) = record c { left = c.left ++ piece }
after_call c Next =
    if is_whole (cut_of c.left) then record { given = c.given ++ first_of c.left ∷ []; left = behind_first c.left }
    else c

-- after all calls
abbrev pub after_calls : List Call → Cutting
after_calls calls = fold after_call start calls

-- all bytes that were fed
abbrev pub fed : List Call → List ℕ
fed [] = []
fed (Feed piece ∷ calls) = piece ++ fed calls
fed (Next ∷ calls) = fed calls

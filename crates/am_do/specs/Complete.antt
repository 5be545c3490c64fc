-- Completeness of `do`: what comes where nothing outside fails and all is answered.
use Rattle.std.specs.Prelude.{◌≡◌, ℕ, ◌≤◌, List, length, Some, IfSome, Ok}
use Rattle.am_base.specs.Outside.{HasRisen}
use Rattle.am_base.specs.Stops.{input_limit}
use Rattle.am_base.specs.Seen.{Given, Seen}
use Rattle.am_text.specs.Lines.{lines_of}
use Rattle.am_do.specs.declared.line.DoLine.{DoLine}
use Rattle.am_do.specs.Lines.{lines_from}
use Rattle.am_do.specs.declared.running.Doing.{Doing}
use Rattle.am_do.specs.Ends.{Peer}
use Rattle.am_do.specs.Talks.{Got, Value, Lacks, Faulty, Refused, told_of}

-- a value came: no reply is missing, none is at fault, and the server takes the talk
abbrev pub IsValue : {A : Type 0} → Got A → Type 0
IsValue {A} (Value a rest) = Unit {0}
IsValue {A} Lacks = ⊥
IsValue {A} (Faulty e) = ⊥
IsValue {A} Refused = ⊥

module _ {L S K : Type 0} where
  -- The link has not failed, and begins with bytes that answer all that is asked for the tree and the lines.
  pub record Answers (m : Peer L S K) (tree : List ℕ) (lines : List DoLine) (link : L) : Type 0 where
    pub calm : (m.link link).faults ≡ 0
    pub bytes : List ℕ
    pub told : (m.link link).begins ≡ Some bytes
    pub all : IsValue (told_of tree lines bytes).got

  -- The input is within its limit, its lines are in the grammar, no count of faults rises, and all is answered.
  pub record NothingFails (m : Peer L S K) (tree bytes : List ℕ) (i : Given) (o : Seen) (d : Doing L S K) : Type 0 where
    pub fits : length bytes ≤ input_limit
    pub lines : List DoLine
    pub read : lines_from 1 (lines_of bytes) ≡ Ok lines
    pub input : ¬ HasRisen i.input.before.faults i.input.now.faults
    pub host : ¬ HasRisen i.host.before.faults i.host.now.faults
    pub output : ¬ HasRisen o.before.faults o.now.faults
    pub link : IfSome d.link (λ link. Answers m tree lines link)
    pub reader : IfSome d.reader (λ reader. (m.source reader).faults ≡ 0)
    pub writer : IfSome d.writer (λ writer. (m.sink writer).faults ≡ 0)

-- The two lines of a request.
use Rattle.std.specs.Prelude.{ℕ, List, [], ◌∷◌, ◌++◌, codes}
use Rattle.std.specs.List.{flat_map}
use Rattle.am_text.specs.Ascii.{space}
use Rattle.am_text.specs.Lines.{escaped}
use Rattle.am_text.specs.Fields.{around, text_end}
use Rattle.am_text.specs.declared.job.Job.{Job}
use Rattle.am_text.specs.declared.job.JobKind.{JobKind}
use Rattle.am_text.specs.declared.job.JobKind.TheVariants as kind

-- the word of a request's kind
abbrev pub kind_word : JobKind → List ℕ
kind_word kind.Run = codes "run"
kind_word kind.Pipe = codes "pipe"
kind_word kind.From = codes "from"
kind_word kind.To = codes "to"
kind_word kind.Save = codes "save"
kind_word kind.Start = codes "start"

-- `request K KIND W DIR :COMMAND`
unfoldable pub request_line : ℕ → Job → List ℕ
request_line k job =
    around (codes "request ") k (space ∷ []) ++ (kind_word job.kind ++ (around (space ∷ []) job.window (space ∷ [])
    ++ (flat_map escaped job.dir ++ space ∷ text_end job.command)))

-- `input :TEXT`
unfoldable pub input_line : Job → List ℕ
input_line job = codes "input " ++ text_end job.input

-- the two lines of a request
abbrev pub request_lines : ℕ → Job → List ℕ
request_lines k job = request_line k job ++ input_line job

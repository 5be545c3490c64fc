-- The meaning of a command over a text: what is wanted after it, where this was wanted before it.
use Rattle.std.specs.Prelude.{◌&&◌, ℕ, Bool, List, [], ◌∷◌, length, slice_range, nat_lt, nat_le, is_some, None, Result}
use Rattle.std.specs.Prelude.{Ok, Err, if◌then◌else◌}
use Rattle.am_text.specs.declared.range.Range.{Range}
use Rattle.am_text.specs.declared.job.Job.{Job}
use Rattle.am_text.specs.declared.job.JobKind.{JobKind}
use Rattle.am_text.specs.declared.job.JobKind.TheVariants as job
use Rattle.re_syntax.specs.Tree as expression
use Rattle.re_spans.specs.Search.{first_span}
use Rattle.addr_syntax.specs.Tree as address
use Rattle.edit_parts.specs.declared.command.Cmd.{Cmd}
use Rattle.edit_parts.specs.Tree.{command, Loop, ForEach, ForBetween, Where, WhereNot, Request, Through, FromIt, ToIt}
use Rattle.edit_parts.specs.Tree.{Action, Nothing, Append, Change, Insert, Delete, Substitute, Move, Copy, Print}
use Rattle.edit_parts.specs.Tree.{LineNumber, RuneNumber, Loops, Block, Asks, Commands, Done, Then, Command}
use Rattle.sam_address.specs.Value as sam
use Rattle.win_ctl.specs.Directory.{directory}
use Rattle.edit_run.specs.declared.fault.EditFault.{EditFault}
use Rattle.edit_run.specs.declared.fault.EditFault.TheVariants.{Overlap}
use Rattle.edit_run.specs.declared.effects.Effects.{Effects}
use Rattle.edit_run.specs.declared.types.Site.{Site}
use Rattle.edit_run.specs.Faults.{of_address, and_then}
use Rattle.edit_run.specs.Effects.{begin_at, with_change, with_print, with_job}
use Rattle.edit_run.specs.Ranges.{matches_in, between, choose}
use Rattle.edit_run.specs.Replacing.{substitute}
use Rattle.edit_run.specs.Told.{line_with_name, lines_text, places_text}

-- what is wanted, or the first fault
abbrev pub Outcome : Type 0
Outcome = Result Effects EditFault

-- ---- addresses, over the whole text

-- the range, or the fault of its address
abbrev pub range_or_fault : sam.Outcome → Result Range EditFault
range_or_fault (Ok r) = Ok r
range_or_fault (Err e) = Err (of_address e)

-- the range of an address, where dot is this range
abbrev pub range_of : address.Tree → List ℕ → Range → Result Range EditFault
range_of addr t dot = range_or_fault (sam.value addr t (record { q0 = 0; q1 = length t }) dot)

-- ---- the rows: what a command does with its range

-- the text of a range
abbrev pub text_at : List ℕ → Range → List ℕ
text_at t r = slice_range t r.q0 r.q1

-- a text in the place of each of these matches
abbrev pub replace_each : (Range → List ℕ) → List Range → Effects → Effects
replace_each text [] e = e
replace_each text (m ∷ ms) e = replace_each text ms (with_change m.q0 m.q1 (text m) e)

-- the place is inside the range, neither at its beginning nor at its end
abbrev pub is_within : Range → ℕ → Bool
is_within r place = nat_lt r.q0 place && nat_lt place r.q1

-- the range's text is put at a place and deleted where it stands, the earlier of the two first
abbrev pub move_to : List ℕ → Range → ℕ → Effects → Outcome
move_to t r place e =
    if is_within r place then Err Overlap else
    (if nat_le place r.q0
    then Ok (with_change r.q0 r.q1 [] (with_change place place (text_at t r) e))
    else Ok (with_change place place (text_at t r) (with_change r.q0 r.q1 [] e)))

-- the range's text is put at a place
abbrev pub copy_to : List ℕ → Range → ℕ → Effects → Outcome
copy_to t r place e = Ok (with_change place place (text_at t r) e)

-- what a request is
abbrev pub kind_of : Request → JobKind
kind_of Through = job.Pipe
kind_of FromIt = job.From
kind_of ToIt = job.To

-- the text that a request has
abbrev pub input_of : Request → List ℕ → Range → List ℕ
input_of Through t r = text_at t r
input_of FromIt t r = []
input_of ToIt t r = text_at t r

-- a request of a window, to be done in the directory of its name
abbrev pub job_for : JobKind → List ℕ → Site → List ℕ → Job
job_for kind command site input = record {
  kind = kind;
  window = site.window;
  dir = directory site.name;
  command = command;
  input = input;
}

-- the request of a command over a range
abbrev pub job_of : Request → List ℕ → List ℕ → Site → Range → Job
job_of request command t site r = job_for (kind_of request) command site (input_of request t r)

-- ---- loops

-- a match is in the range
abbrev pub has_match : expression.Tree → List ℕ → Range → Bool
has_match re t r = is_some (first_span re t r.q0 r.q1 None)

-- a command for each of these ranges, each time as its dot
abbrev pub for_each : (Range → Effects → Outcome) → List Range → Effects → Outcome
for_each body [] e = Ok e
for_each body (r ∷ rs) e = and_then (body r e) (for_each body rs)

-- the ranges for which a loop does its command
abbrev pub ranges_of : Loop → expression.Tree → List ℕ → Range → List Range
ranges_of ForEach re t r = matches_in re t r
ranges_of ForBetween re t r = between r.q0 r.q1 (matches_in re t r)
ranges_of Where re t r = if has_match re t r then r ∷ [] else []
ranges_of WhereNot re t r = if has_match re t r then [] else r ∷ []

-- ---- the meaning

-- a command begins with the range of its address, and does its action
abbrev pub at_address : address.Tree → (Range → Range → Effects → Outcome) → List ℕ → Range → Effects → Outcome
at_address addr act t dot e = and_then (range_of addr t dot) (λ r. act dot r (begin_at r e))

abbrev mutual
  -- what an action makes of a command's dot and range
  pub do_action : Action → List ℕ → Site → Range → Range → Effects → Outcome
  do_action Nothing t site dot r e = Ok e
  do_action (Append text) t site dot r e = Ok (with_change r.q1 r.q1 text e)
  do_action (Insert text) t site dot r e = Ok (with_change r.q0 r.q0 text e)
  do_action (Change text) t site dot r e = Ok (with_change r.q0 r.q1 text e)
  do_action Delete t site dot r e = Ok (with_change r.q0 r.q1 [] e)
  do_action (Substitute n re with all) t site dot r e = Ok
      (replace_each (substitute re t with) (choose n all (matches_in re t r)) e)
  do_action (Move to) t site dot r e = and_then (range_of to t dot) (λ place. move_to t r place.q1 e)
  do_action (Copy to) t site dot r e = and_then (range_of to t dot) (λ place. copy_to t r place.q1 e)
  do_action Print t site dot r e = Ok (with_print (text_at t r) e)
  do_action LineNumber t site dot r e = Ok (with_print (line_with_name site.name (lines_text t r)) e)
  do_action RuneNumber t site dot r e = Ok (with_print (line_with_name site.name (places_text r)) e)
  do_action (Loops kind re addr act) t site dot r e = for_each (at_address addr (do_action act t site) t)
      (ranges_of kind re t r) e
  do_action (Block all) t site dot r e = do_all all t site r e
  do_action (Asks request command) t site dot r e = Ok (with_job (job_of request command t site r) e)

  -- commands one after another, each over the same dot
  pub do_all : Commands → List ℕ → Site → Range → Effects → Outcome
  do_all Done t site dot e = Ok e
  do_all (Then addr act rest) t site dot e = and_then (at_address addr (do_action act t site) t dot e)
      (do_all rest t site dot)

-- what a command makes of its dot
abbrev pub meaning : Command → List ℕ → Site → Range → Effects → Outcome
meaning c t site dot e = at_address c.0 (do_action c.1 t site) t dot e

-- the commands of a list one after another
abbrev pub do_list : List Cmd → List ℕ → Site → Range → Effects → Outcome
do_list [] t site dot e = Ok e
do_list (c ∷ cs) t site dot e = and_then (meaning (command c) t site dot e) (do_list cs t site dot)

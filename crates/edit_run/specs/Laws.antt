-- What holds of all commands.
use Rattle.std.specs.Prelude.{◌≡◌, ◌≤◌, ℕ, Bool, List, [], ◌∷◌, ◌++◌, Ok}
use Rattle.am_text.specs.declared.range.Range.{Range}
use Rattle.re_syntax.specs.Tree as expression
use Rattle.addr_syntax.specs.Tree as address
use Rattle.edit_parts.specs.Tree.{ForEach, Where, WhereNot, Action, Substitute, Loops}
use Rattle.edit_run.specs.declared.effects.Effects.{Effects}
use Rattle.edit_run.specs.declared.types.Site.{Site}
use Rattle.edit_run.specs.Ranges.{matches_in, between}
use Rattle.edit_run.specs.Meaning.{do_action, ranges_of, text_at}

-- Where the range has no match, `s` and `x` want nothing.
abbrev pub NoMatchWantsNothing : Type 0
NoMatchWantsNothing =
    (re : expression.Tree) (t : List ℕ) (site : Site) (dot r : Range) (e : Effects) → matches_in re t r ≡ []
    → ((n : ℕ) (with : List ℕ) (all : Bool) → do_action (Substitute n re with all) t site dot r e ≡ Ok e)
    × ((addr : address.Tree) (act : Action) → do_action (Loops ForEach re addr act) t site dot r e ≡ Ok e)

-- `s0` wants nothing.
abbrev pub NumberZeroWantsNothing : Type 0
NumberZeroWantsNothing =
    (re : expression.Tree) (t : List ℕ) (site : Site) (dot r : Range) (e : Effects) (with : List ℕ) (all : Bool)
    → do_action (Substitute 0 re with all) t site dot r e ≡ Ok e

-- Of `g` and `v` one does its command, and the other doesn't.
abbrev pub OneOfTheTwo : Type 0
OneOfTheTwo =
    (re : expression.Tree) (t : List ℕ) (r : Range) → ranges_of Where re t r ++ ranges_of WhereNot re t r ≡ r ∷ []

-- the texts of the one list and of the other, by turns
abbrev pub weave : List ℕ → List Range → List Range → List ℕ
weave t [] ms = []
weave t (g ∷ gs) [] = text_at t g ++ weave t gs []
weave t (g ∷ gs) (m ∷ ms) = text_at t g ++ text_at t m ++ weave t gs ms

-- The texts of `y` and those of `x`, by turns, are the text of the range.
abbrev pub TextsAreWoven : Type 0
TextsAreWoven =
    (re : expression.Tree) (t : List ℕ) (r : Range) → r.q0 ≤ r.q1 → weave t (between r.q0 r.q1 (matches_in re t r))
    (matches_in re t r) ≡ text_at t r

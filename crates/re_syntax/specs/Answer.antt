-- What reading an expression answers.
use Rattle.std.specs.Prelude.{◌≤◌, ◌<◌, ◌+◌, ℕ, List, length, slice_range, Option}
use Rattle.re_syntax.specs.Tree.{Tree, nodes, most_nodes}
use Rattle.re_syntax.specs.Grammar.{IsExpression, GoesOn, MayEnd}
use Rattle.re_syntax.specs.declared.re.ReFault.{ReFault}
use Rattle.re_syntax.specs.declared.re.ReFault.TheVariants.{Bad, Nodes, NoMemory}

-- the runes from one place up to another are an expression with this tree, and end where one may
pub record IsRead (stop : Option ℕ) (text : List ℕ) (from end : ℕ) (r : Tree) : Type 0 where
  pub order : from ≤ end
  pub written : IsExpression stop (slice_range text from end) r
  pub ends : MayEnd stop text end

-- the place is the first at which no expression goes on, or where a text that only stops short ends
pub record IsBad (stop : Option ℕ) (text : List ℕ) (from place : ℕ) : Type 0 where
  pub order : from ≤ place
  pub within : place ≤ length text
  pub before : GoesOn stop (slice_range text from place)
  pub after : place < length text → GoesOn stop (slice_range text from (place + 1)) → ⊥
  pub short : MayEnd stop text place → (r : Tree) → IsExpression stop (slice_range text from place) r → ⊥

-- why a text is refused; want of memory explains nothing
abbrev pub Refuses : Option ℕ → List ℕ → ℕ → ReFault → Type 0
Refuses stop text from (Bad place) = IsBad stop text from place
Refuses stop text from Nodes = (end : ℕ) × (r : Tree) × IsRead stop text from end r × (most_nodes < nodes r)
Refuses stop text from NoMemory = Unit {0}

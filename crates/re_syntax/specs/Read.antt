-- An expression read from left to right, with no limit on its nodes.
use Rattle.std.specs.Prelude.{◌≡◌, ◌≤◌, ◌<◌, ◌+◌, ◌==◌, ◌&&◌, ◌⊎◌, not, ℕ, Bool, true, false, List, [], ◌∷◌, Option}
use Rattle.std.specs.Prelude.{Some, None}
use Rattle.re_syntax.specs.Scan.{Scanned, scan, start}
use Rattle.re_syntax.specs.Build.{Stack, stack_of, level_tree, after_token, nothing, weight}
use Rattle.re_syntax.specs.declared.scanner.Mode.{Mode}
use Rattle.re_syntax.specs.declared.scanner.Mode.TheVariants.{Outside, Escaped, NextEscaped, UptoEscaped}
use Rattle.re_syntax.specs.declared.scanner.Scanner.{Scanner}
use Rattle.re_syntax.specs.declared.parser.Parser.{Parser}
use Rattle.re_syntax.specs.declared.re.Re.{Re}
use Rattle.re_syntax.specs.declared.re.ReFault.{ReFault}
use Rattle.re_syntax.specs.declared.re.ReFault.TheVariants.{Bad, Nodes, NoMemory}
use Rattle.re_syntax.specs.Tree.{tree, most_nodes}

-- the scanner, what is built, and one more than the nodes of it
pub record Reading : Type 0 where
  pub scanner : Scanner
  pub stack : Stack
  pub size : ℕ

-- before the first rune
abbrev pub begin : Option ℕ → Reading
begin stop = record { scanner = start stop; stack = nothing; size = 0 }

-- what a rune leaves, by what the scanner makes of it; None where no expression goes on so
abbrev pub after_scan : Reading → Scanned → Option Reading
after_scan m None = None
after_scan m (Some (s, None)) = Some (record m { scanner = s })
after_scan m (Some (s, Some t)) = Some (record { scanner = s; stack = after_token m.stack t; size = m.size + weight t })

-- one rune more
abbrev pub read : Reading → ℕ → Option Reading
read m c = after_scan m (scan m.scanner c)

-- a rune more, where no rune before was refused
abbrev pub read_on : Option Reading → ℕ → Option Reading
read_on None c = None
read_on (Some m) c = read m c

-- all runes of a text
abbrev pub reads : Option Reading → List ℕ → Option Reading
reads m [] = m
reads m (c ∷ cs) = reads (read_on m c) cs

-- neither in a class nor behind a backslash
abbrev pub is_outside : Mode → Bool
is_outside Outside = true
is_outside _ = false

-- whether the delimiter means itself here
abbrev pub is_escaped : Mode → Bool
is_escaped Escaped = true
is_escaped NextEscaped = true
is_escaped (UptoEscaped a) = true
is_escaped _ = false

-- an expression may end here: no group is open, and no part has to come
abbrev pub is_complete : Scanner → Bool
is_complete s = is_outside s.mode && not s.expects && (s.depth == 0)

-- The program keeps what is built while it has at most 2,048 nodes.
pub record Follows (p : Parser) (m : Reading) : Type 0 where
  pub scanner : p.scanner ≡ m.scanner
  pub few : p.builder.groups ≤ p.size
  pub small : p.size ≤ most_nodes + 1 → (p.size ≡ m.size) × (stack_of p.builder ≡ m.stack)
  pub large : most_nodes + 1 < p.size → most_nodes + 1 < m.size

-- how reading ends
pub record Finishes (p : Parser) (at : ℕ) (re : Re) (end : ℕ) : Type 0 where
  pub here : end ≡ at
  pub complete : is_complete p.scanner ≡ true
  pub small : p.size ≤ most_nodes + 1
  pub tree_is : level_tree (stack_of p.builder).top ≡ Some (tree re)

-- why reading fails where the text ends
abbrev pub FinishFails : Parser → ℕ → ReFault → Type 0
FinishFails p at (Bad place) = (place ≡ at) × ((is_complete p.scanner ≡ false)
    ⊎ ((p.size ≤ most_nodes + 1) × (level_tree (stack_of p.builder).top ≡ None)))
FinishFails p at Nodes = (is_complete p.scanner ≡ true) × (most_nodes + 1 < p.size)
FinishFails p at NoMemory = Unit {0}

-- Which texts are expressions, and how large they are.
use Rattle.std.specs.Prelude.{◌≡◌, ◌+◌, ℕ, nat_lt, List, Option, Some, None, Result, Ok, Err, if◌then◌else◌}
use Rattle.am_text.specs.declared.memory.NoMemory.{NoMemory}
use Rattle.re_edges.specs.Edges.{edges_of}
use Rattle.re_edges.specs.declared.edges.Edges.{Edges}
use Rattle.re_syntax.specs.declared.re.Re.{Re}
use Rattle.re_syntax.specs.declared.re.ReFault.{ReFault}
use Rattle.re_syntax.specs.declared.re.ReFault.TheVariants as fault
use Rattle.re_syntax.specs.Tree.{Tree, tree, nodes}
use Rattle.re_syntax.specs.Grammar.{IsExpression}
use Rattle.re_syntax.specs.Read.{Reading, begin, reads, is_complete}
use Rattle.rule_syntax.specs.declared.fit.Fit.{Fit}
use Rattle.rule_syntax.specs.declared.fit.Fit.TheVariants.{Unfit, Fits, TooLarge}

abbrev pub size_read : Option Reading → Option ℕ
size_read None = None
size_read (Some m) = if is_complete m.scanner then Some m.size else None

-- one more than the nodes of the expression that the text is, if it is one
unfoldable pub size_of : List ℕ → Option ℕ
size_of text = size_read (reads (Some (begin None)) text)

-- how a text of this size fits as an expression: its tree has at most 2,048 nodes
abbrev pub size_fit : Option ℕ → Fit
size_fit None = Unfit
size_fit (Some n) = if nat_lt 2049 n then TooLarge else Fits

-- how a text fits by what parsing answers
abbrev pub parsed_fit : Result (Re × ℕ) ReFault → Result Fit NoMemory
parsed_fit (Ok found) = Ok Fits
parsed_fit (Err fault.Nodes) = Ok TooLarge
parsed_fit (Err (fault.Bad place)) = Ok Unfit
parsed_fit (Err fault.NoMemory) = Err (record {})

-- the edges of the expression that was parsed
abbrev pub parsed_edges : Result (Re × ℕ) ReFault → Option Edges
parsed_edges (Ok found) = Some (edges_of (tree found.0))
parsed_edges (Err fault) = None

-- A text has a size exactly where it is an expression, and it is one more than the nodes of its tree.
pub record HasSize : Type 0 where
  pub some : (text : List ℕ) (r : Tree) → IsExpression None text r → size_of text ≡ Some (nodes r + 1)
  pub only : (text : List ℕ) (n : ℕ) → size_of text ≡ Some n → (r : Tree) × IsExpression None text r × (n ≡ nodes r + 1)

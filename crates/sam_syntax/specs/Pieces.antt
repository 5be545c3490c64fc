-- The piece of a command that a text begins with.
use Rattle.std.specs.Prelude.{ℕ, ◌==◌, false, List, [], ◌∷◌, Some, None, if◌then◌else◌}
use Rattle.am_text.specs.Ascii.{hash, slash}
use Rattle.re_syntax.specs.Tree as expression
use Rattle.addr_syntax.specs.Marks.{next_of}
use Rattle.edit_parts.specs.Tree as tree
use Rattle.edit_parts.specs.Tree.{Action}
use Rattle.edit_parts.specs.Kinds.{kind_of, loop_of, puts, sends, request_of, is_next}
use Rattle.edit_parts.specs.Texts.{after_blanks}
use Rattle.edit_parts.specs.Pieces.{Piece, Blank, EndsLine, At, Loops, Opens, Closes, Does, whole_lines}
use Rattle.edit_parts.specs.declared.kind.Letter.{Letter}
use Rattle.edit_parts.specs.declared.kind.Letter.TheVariants as letter
use Rattle.edit_parts.specs.declared.kind.Loop.{Loop}
use Rattle.edit_parts.specs.declared.kind.Loop.TheVariants.{ForEach, ForBetween, Where, WhereNot}
use Rattle.edit_parts.specs.declared.kind.Kind.{Kind}
use Rattle.edit_parts.specs.declared.kind.Kind.TheVariants as kind
use Rattle.sam_syntax.specs.Cuts.{Cut, cut_as, cut_on}
use Rattle.sam_syntax.specs.Texts.{up_to_slash, rest_of_line, text, quoted_expression, nth, all, first_address}

-- the expression of a loop; `x` may be written without one
abbrev pub loop_expression : Loop → List ℕ → Cut expression.Tree
loop_expression ForEach behind =
    if is_next slash (next_of behind) then quoted_expression behind else Some (whole_lines, behind)
loop_expression ForBetween behind = quoted_expression behind
loop_expression Where behind = quoted_expression behind
loop_expression WhereNot behind = quoted_expression behind

-- the parts of `s`: its number, `/re/`, `t/`, and maybe a `g`
abbrev pub substitution : List ℕ → Cut Action
substitution behind =
    cut_on (nth behind) (λ n re_from. cut_on (quoted_expression re_from)
    (λ re with_from. cut_on (up_to_slash false with_from)
    (λ with end. cut_as (tree.Substitute n re with) (all (after_blanks end)))))

-- the lines of `=`, or the runes of `=#`
abbrev pub place : List ℕ → Cut Action
place [] = Some (tree.LineNumber, [])
place (c ∷ cs) = if c == hash then Some (tree.RuneNumber, cs) else Some (tree.LineNumber, c ∷ cs)

-- what stands behind a letter
abbrev pub action : Letter → List ℕ → Cut Action
action (letter.Puts place) behind = cut_as (puts place) (text (after_blanks behind))
action letter.Delete behind = Some (tree.Delete, behind)
action letter.Substitute behind = substitution (after_blanks behind)
action (letter.Sends way) behind = cut_as (sends way) (first_address (after_blanks behind))
action letter.Print behind = Some (tree.Print, behind)
action letter.Equals behind = place behind
action (letter.Asks request) behind = cut_as (tree.Asks (request_of request)) (rest_of_line (after_blanks behind))

-- a piece by the kind of its first rune, and what follows that
abbrev pub piece_by : Kind → ℕ → List ℕ → Cut Piece
piece_by kind.Blank c behind = Some (Blank, behind)
piece_by kind.EndsLine c behind = Some (EndsLine, behind)
piece_by kind.Address c behind = cut_as At (first_address (c ∷ behind))
piece_by (kind.Loops k) c behind = cut_as (Loops (loop_of k)) (loop_expression k (after_blanks behind))
piece_by kind.Opens c behind = Some (Opens, behind)
piece_by kind.Closes c behind = Some (Closes, behind)
piece_by (kind.Acts l) c behind = cut_as Does (action l behind)
piece_by kind.Other c behind = None

-- the piece that a text begins with
abbrev pub first_piece : List ℕ → Cut Piece
first_piece [] = None
first_piece (c ∷ cs) = piece_by (kind_of c) c cs

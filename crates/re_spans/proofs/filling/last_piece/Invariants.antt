use Rattle.std.proofs.Common.{◌≡◌, ◌≤◌, ◌-◌, ◌⊎◌, ℕ, Option}
use Rattle.std.specs.Prelude.{IfSome}
use Rattle.re_syntax.specs.Tree.{tree}
use Rattle.re_syntax.specs.Match.{Matches, Repeats}
use Rattle.re_syntax.specs.Groups.{Walk}
use Rattle.am_text.specs.declared.range.Range.{Range}
use Rattle.re_spans.specs.Pieces.{IsPiece}
use Rattle.re_spans.proofs.filling.last_piece.Given as goal

-- a walk on from here completes a walk from the start
abbrev pub invariant-loop-at : goal.invariant-loop-at
invariant-loop-at g l =
    let R = Matches (tree l.a) (g.T.Letters.letters l.text) in
    record {
      above : l.fn.i ≤ l.at;
      inside : l.at ≤ l.j;
      repeats : Repeats R l.at l.j;
      walk : (n : ℕ) (out : Option Range) → Walk R n l.at l.j l.last out → (m : ℕ)
          × Walk R m l.fn.i l.j l.fn.before out;
      piece : (l.last ≡ l.fn.before) ⊎ IfSome l.last (IsPiece R l.j);
    }

abbrev pub decreases-loop-at : goal.decreases-loop-at
decreases-loop-at g l = l.j - l.at

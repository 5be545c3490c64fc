use Rattle.std.proofs.Common.{◌∙◌, ap, ◌+◌, take, arith}
use Rattle.std.proofs.lemmas.Grind.{common_steps}
use Rattle.am_base.specs.Outside.{then_told}
use Rattle.am_base.proofs.Told.{takes_piece, takes_piece_at_most, more_told}
use Rattle.am_base.proofs.reading.read_to_end.Goals as goal

-- one byte more than the limit was read
pub returns-then-room-n-clause-stops : goal.returns-then-room-n-clause-stops
returns-then-room-n-clause-stops g c =
    takes_piece_at_most (c.args.limit + 1) _ (g.S.Source.told c.pieces.source).bytes _ c.pieces.bytes
    (take c.in_ok-n.n c.read.new.buf) c.pieces.invariant.told c.in_ok-n.ensures.moved (grind (arith, common_steps))

pub returns-then-room-n-clause-err : goal.returns-then-room-n-clause-err
returns-then-room-n-clause-err g c = (
  more_told _ (g.S.Source.told c.read.new.self).bytes c.pieces.bytes (take c.in_ok-n.n c.read.new.buf) c.args.limit
      (c.pieces.invariant.told ∙ ap (then_told c.pieces.bytes) c.in_ok-n.ensures.moved) (grind (arith, common_steps)),
  takes_piece (c.args.limit + 1) _ (g.S.Source.told c.pieces.source).bytes _ c.pieces.bytes
      (take c.in_ok-n.n c.read.new.buf) c.pieces.invariant.told c.in_ok-n.ensures.moved (grind (arith, common_steps)),
)

pub returns-in_err-append-clause-stops : goal.returns-in_err-append-clause-stops
returns-in_err-append-clause-stops g c =
    takes_piece_at_most (c.args.limit + 1) _ (g.S.Source.told c.pieces.source).bytes _ c.pieces.bytes
    (take c.in_ok-n.n c.read.new.buf) c.pieces.invariant.told c.in_ok-n.ensures.moved (grind (arith, common_steps))

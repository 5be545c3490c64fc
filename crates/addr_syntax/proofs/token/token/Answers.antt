use Rattle.std.proofs.Common.{refl, sym}
use Rattle.addr_syntax.specs.Tree.{Dot, End}
use Rattle.addr_syntax.specs.Pieces.{Part}
use Rattle.addr_syntax.proofs.Tokens.{dot_at, dollar_at}
use Rattle.addr_syntax.proofs.token.token.Goals as goal

pub returns-in-Dot-clause-ok : goal.returns-in-Dot-clause-ok
returns-in-Dot-clause-ok c = (
  Part Dot,
  (Dot, refl, (refl, refl, refl), refl),
  dot_at c.args.text.now c.args.at c.requires
      (sym c.in-Dot.ensures),
)

pub returns-in-Dollar-clause-ok : goal.returns-in-Dollar-clause-ok
returns-in-Dollar-clause-ok c = (
  Part End,
  (End, refl, (refl, refl, refl), refl),
  dollar_at c.args.text.now c.args.at c.requires
      (sym c.in-Dollar.ensures),
)

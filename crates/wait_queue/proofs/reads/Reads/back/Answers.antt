use Rattle.std.proofs.Common.{arith, ap, sym, subst, length, length-take}
use Rattle.std.proofs.lemmas.List.{length-map}
use Rattle.wait_queue.specs.Waiting.{here_again, AreHere}
use Rattle.wait_queue.proofs.ReadLemmas.{all_back_here, here_taken, here_again_here}
use Rattle.wait_queue.proofs.reads.Reads.back.Goals as goal

pub returns : goal.returns
returns c =
    rw (← c.self.view_is)
    (all_back_here _ _ _ (cc) (omega (
      arith,
      ap length c.set_gone_here.ensures,
      ap length c.truncate.ensures,
      length-map c.truncate.new.self here_again,
      length-take c.self.inside.kept c.self.inside.all,
    )))

pub set_gone_here-requires : goal.set_gone_here-requires
set_gone_here-requires c = λ e. subst AreHere (sym c.truncate.ensures)
    (here_taken c.self.inside.kept c.self.inside.all (c.self.invariant.1 e))

pub invariant_of-self : goal.invariant_of-self
invariant_of-self c = (
  omega (
    arith,
    ap length c.set_gone_here.ensures,
    ap length c.truncate.ensures,
    length-map c.truncate.new.self here_again,
    length-take c.self.inside.kept c.self.inside.all,
    c.self.invariant.0,
  ),
  λ e. subst AreHere (sym c.set_gone_here.ensures) (here_again_here c.truncate.new.self),
)

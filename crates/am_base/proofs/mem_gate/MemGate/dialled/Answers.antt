use Rattle.std.proofs.Common.{rules, ◌≡◌, Some, ap, sym, ◌∙◌}
use Rattle.am_base.specs.Memory.{dialled_at}
use Rattle.am_base.proofs.Gates.{dialled-some, dialled-none}
use Rattle.am_base.proofs.mem_gate.MemGate.dialled.Goals as goal

pub returns-in-Ok-clause-gives : goal.returns-in-Ok-clause-gives
returns-in-Ok-clause-gives c =
    let same : c.gate.inside.path ≡ c.args.self.path = search rules in
    dialled-some c.args.self c.in-Ok.link c.in-Ok.ensures.gives ∙ ap (λ path. Some (dialled_at path c.in-Ok.link))
    (sym same) ∙ ap Some (sym c.dialled_at.ensures)

pub returns-in-Err-clause-fails : goal.returns-in-Err-clause-fails
returns-in-Err-clause-fails c = dialled-none c.args.self c.in-Err.ensures.fails

use Rattle.std.proofs.Common.{◌≡◌, ℕ, List, false, None, sym, subst, ◌∙◌}
use Rattle.plumb_ports.specs.PortsState.{refusal}
use Rattle.core_plumb.proofs.Taking.{open_takes}
use Rattle.core_plumb.proofs.delivering.copy.Goals as goal

pub act-requires : goal.act-requires
act-requires c =
    subst (λ (x : List ℕ). refusal c.args.scene.now.ports.present x false ≡ None)
    (sym (c.in_ok-port.ensures ∙ c.as_slice.ensures)) (open_takes c.args.scene.now.ports.present c.args.name.now
    c.requires.opened)

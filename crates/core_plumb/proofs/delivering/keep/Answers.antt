use Rattle.std.proofs.Common.{◌≡◌, ℕ, List, true, None, sym, subst, ◌∙◌}
use Rattle.plumb_ports.specs.PortsState.{refusal}
use Rattle.core_plumb.proofs.delivering.keep.Goals as goal

pub act-requires : goal.act-requires
act-requires c = subst (λ (x : List ℕ). refusal c.args.scene.now.ports.present x true ≡ None)
    (sym (c.in_ok-port.ensures ∙ c.as_slice.ensures)) c.requires.takes

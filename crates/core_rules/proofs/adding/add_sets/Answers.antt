use Rattle.std.proofs.Common.{◌∙◌}
use Rattle.core_rules.proofs.Added.{named_too}
use Rattle.core_rules.proofs.adding.add_sets.Goals as goal

pub add_names-requires-clause-named : goal.add_names-requires-clause-named
add_names-requires-clause-named c =
    named_too c.args.scene.now.ports.present.ports c.in_ok-names.names c.as_slice-2.result.now c.args.read.0
    c.as_slice.result.now c.as_slice.ensures (c.as_slice-2.ensures ∙ c.in_ok-named.ensures) c.in_ok-names.ensures
    c.requires.named

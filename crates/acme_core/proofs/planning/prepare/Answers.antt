use Rattle.std.proofs.Common.{rules, ◌≡◌, ◌∙◌, None, sym, refl}
use Rattle.core_parts.specs.Parts.{present_of}
use Rattle.core_parts.specs.States.{Present}
use Rattle.acme_core.proofs.Hangs.{hang_prepared}
use Rattle.acme_core.proofs.planning.prepare.Goals as goal

pub returns-then-is_hang-clause-prepared : goal.returns-then-is_hang-clause-prepared
returns-then-is_hang-clause-prepared c =
    let s : Present = present_of c.args.parts.now in
    let none : c.why_not.result ≡ None = search rules in
    hang_prepared s c.args.events.now.spare c.args.parts.now c.hanging.result c.args.event
    (sym c.is_hang.ensures ∙ c.if-is_hang.true) c.requires.lawful
    (sym c.why_not.ensures ∙ none) c.hanging.ensures.event c.hanging.ensures.ready refl c.requires.sound.conns
    c.requires.hangs

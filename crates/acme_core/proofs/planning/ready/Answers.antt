use Rattle.std.proofs.Common.{◌≡◌, List, length, ap, arith}
use Rattle.am_journal.specs.declared.event.Event.{Event}
use Rattle.core_parts.specs.Parts.{present_of}
use Rattle.acme_core.proofs.Readied.{entry_room, readied}
use Rattle.acme_core.proofs.planning.ready.Goals as goal

pub returns-clause-prepared : goal.returns-clause-prepared
returns-clause-prepared c =
    let lens : length c.reserve.new.self.items ≡ length c.args.events.now.items = ap (λ (l : List Event). length l)
    c.in_ok-reserve.ensures.items in
    readied (present_of c.args.parts.now) c.reserve.new.self.spare c.grow.new.parts c.args.event c.in_ok-intent.intent
    c.grow.result c.requires.lawful c.requires.allowed c.in_ok-intent.ensures.exact
    (entry_room c.args.parts.now c.grow.new.parts c.args.event c.reserve.new.self.spare
    (length c.args.events.now.items) c.grow.ensures.state c.requires.sound.conns c.requires.lawful
    c.requires.counted (omega (arith, c.in_ok-reserve.ensures.ok)) (omega (arith, c.in_ok-reserve.ensures.fits, lens)))
    c.grow.ensures.event c.grow.ensures.possible c.grow.ensures.ready

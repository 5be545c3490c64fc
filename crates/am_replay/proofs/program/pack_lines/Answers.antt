use Rattle.std.proofs.Common.{◌∙◌, subst}
use Rattle.am_base.specs.Seen.{seen}
use Rattle.am_replay.specs.declared.packing.Packing.{Packing}
use Rattle.am_replay.specs.PackEnds.{Packs}
use Rattle.am_replay.proofs.Packings.{short_text}
use Rattle.am_replay.proofs.program.pack_lines.Goals as goal

pub returns-in-Ok-clause-packs : goal.returns-in-Ok-clause-packs
returns-in-Ok-clause-packs g c =
    let P : Packing → Type 0 = λ p. Packs c.write_packing.result.end p
    (seen (g.O.Sink.told c.args.output.now) (g.O.Sink.told c.write_packing.new.output))
    c.write_packing.result.journal in
    subst P (c.in-Ok.ensures.exact ∙ short_text c.args.bytes.now c.requires) c.write_packing.ensures.packs

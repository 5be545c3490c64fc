use Rattle.std.proofs.Common.{subst}
use Rattle.am_base.specs.Stops.{StopsFor}
use Rattle.am_base.specs.declared.reading.ReadStop.{ReadStop}
use Rattle.am_replay.specs.Packing.{pack_limit}
use Rattle.am_replay.proofs.PackEnded.{says_long}
use Rattle.am_replay.proofs.program.pack.Goals as goal

pub returns-in-Err-TooLong-clause-says : goal.returns-in-Err-TooLong-clause-says
returns-in-Err-TooLong-clause-says g c =
    let P : ReadStop → Type 0 = λ x. StopsFor x (g.I.Source.told c.args.input.now)
    (g.I.Source.told c.read_to_end.new.source) pack_limit in
    let stopped = subst P c.in-Err-TooLong.field-0-is c.in-Err-TooLong.ensures.err in
    says_long c.refuse_input.result.end (g.I.Source.told c.args.input.now) _ _ _ stopped.0 c.refuse_input.ensures.packs

use Rattle.std.proofs.Common.{◌≤◌, inl, length, List, ℕ, refl, sym, subst}
use Rattle.std.specs.Prelude.{IfSome}
use Rattle.am_base.specs.Seen.{given}
use Rattle.am_base.specs.Outside.{AreTold}
use Rattle.am_base.specs.Stops.{StopsFor, input_limit}
use Rattle.am_base.specs.declared.reading.ReadStop.{ReadStop}
use Rattle.am_slots.specs.Slots.{outside}
use Rattle.am_server.proofs.Closing.{says_lines, says_long}
use Rattle.am_server.proofs.serving.serve.Goals as goal

pub returns-in-Ok-clause-says : goal.returns-in-Ok-clause-says
returns-in-Ok-clause-says g c =
    let T : List ℕ → Type 0 = λ x. AreTold (g.I.Source.told c.args.input.now).bytes x in
    let F : List ℕ → Type 0 = λ x. length x ≤ input_limit in
    says_lines {G = g.row.H-G.Denot} {L = g.row.H-G-L.Denot} {S = g.row.H-G-L-R.Denot} {K = g.row.H-G-L-W.Denot}
    (outside g.H.G.Gate.told g.H.G.L.Link.told g.H.G.L.R.Source.told g.H.G.L.W.Sink.told)
    c.args.site.now.path.now c.args.site.now.clients
    (given (g.I.Source.told c.args.input.now) (g.I.Source.told c.read_to_end.new.source) (g.H.Host.told c.args.host.now)
    (g.H.Host.told c.serve_lines.new.host))
    _ _ _ _ c.as_slice.result.now (subst T (sym c.as_slice.ensures) c.in-Ok.ensures.told)
    (subst F (sym c.as_slice.ensures) c.in-Ok.ensures.fits) c.serve_lines.ensures.serves

pub returns-in-Err-TooLong-clause-says : goal.returns-in-Err-TooLong-clause-says
returns-in-Err-TooLong-clause-says g c =
    let P : ReadStop → Type 0 = λ x. StopsFor x (g.I.Source.told c.args.input.now)
    (g.I.Source.told c.read_to_end.new.source) input_limit in
    let stopped = subst P c.in-Err-TooLong.field-0-is c.in-Err-TooLong.ensures.err in
    says_long {G = g.row.H-G.Denot} {L = g.row.H-G-L.Denot} {S = g.row.H-G-L-R.Denot} {K = g.row.H-G-L-W.Denot}
    (outside g.H.G.Gate.told g.H.G.L.Link.told g.H.G.L.R.Source.told g.H.G.L.W.Sink.told)
    c.args.site.now.path.now c.args.site.now.clients
    (given (g.I.Source.told c.args.input.now) (g.I.Source.told c.read_to_end.new.source) (g.H.Host.told c.args.host.now)
    (g.H.Host.told c.args.host.now))
    _ _ _ _ stopped.0 c.refuse_input.ensures.long

pub returns-in-Err-ReadFault-clause-says : goal.returns-in-Err-ReadFault-clause-says
returns-in-Err-ReadFault-clause-says g c =
    let P : ReadStop → Type 0 = λ x. StopsFor x (g.I.Source.told c.args.input.now)
    (g.I.Source.told c.read_to_end.new.source) input_limit in
    let stopped = subst P c.in-Err-ReadFault.field-0-is c.in-Err-ReadFault.ensures.err in
    inl (
      c.idle.ensures.end,
      stopped,
      record {
        silent = refl;
        empty = c.idle.ensures.empty;
        none =
            c.idle.ensures.served;
      },
      c.idle.ensures.format,
    )

use Rattle.std.proofs.Common.{sym, subst}
use Rattle.fid_table.specs.Tables.{Tables}
use Rattle.core_parts.specs.Connections.{IsOfJoined}
use Rattle.core_steps.proofs.Joins.{readable, followable, asked_joined}
use Rattle.core_steps.proofs.growing.hear.Goals as goal

pub ask_port-requires-clause-readable : goal.ask_port-requires-clause-readable
ask_port-requires-clause-readable c =
    readable c.grow_files.new.sessions.present c.args.asks.kind _ c.port_read_of-port_read.result c.port_read_of-port_read.ensures
    c.requires.answerable c.in_ok-answered.ensures.there

pub follow-requires-clause-followable : goal.follow-requires-clause-followable
follow-requires-clause-followable c =
    followable c.ask_port.new.sessions.present c.args.asks.kind _ c.args.asks.at c.watch_read_of-watch_read.result
    c.watch_read_of-watch_read.ensures c.requires.answerable
    (subst (λ (t : Tables). IsOfJoined t c.args.asks.kind) (sym c.in_ok-asked.ensures.tables)
    (asked_joined c.grow_files.new.sessions.present c.args.parts.now.scene.ports.present c.port_read_of-port_read.result
    c.args.asks.kind c.in_ok-answered.ensures.there))

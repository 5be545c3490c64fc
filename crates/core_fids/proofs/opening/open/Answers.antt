use Rattle.std.proofs.Common.{rules}
use Rattle.core_fids.specs.Servers.{server_in, windows_in}
use Rattle.core_fids.proofs.Openings.{opens_possible, opening_asks}
use Rattle.core_fids.proofs.opening.open.Goals as goal

pub returns-clause-done : goal.returns-clause-done
returns-clause-done c = record {
  sent = search rules;
  possible = opens_possible (server_in c.args.server.now) c.args.mode c.in-Some.fid.now c.in_ok-opening_changes.field-0
      (search rules) (search rules);
  demand = opening_asks (windows_in c.args.server.now) c.truncates.result c.content_of-content.result
      c.opening_demand.result c.opening_demand.ensures;
}

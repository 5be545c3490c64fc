use Rattle.plumb_ports.specs.Inboxes.{is_of}
use Rattle.plumb_ports.specs.Shown.{present_of}
use Rattle.plumb_ports.proofs.EachLemmas.{any-map}
use Rattle.plumb_ports.proofs.opening_table.OpeningTable.has.Goals as goal

pub returns : goal.returns
returns c =
    rw (← c.self.view_is) (let any = any-map present_of (is_of c.args.opening) c.self.inside.all.items in cc)

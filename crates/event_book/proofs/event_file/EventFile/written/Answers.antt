use Rattle.std.proofs.Common.{subst, sym}
use Rattle.am_text.specs.Twice.{IsSteady}
use Rattle.event_book.proofs.FileLemmas.{agree-written, steady_queue}
use Rattle.event_book.proofs.event_file.EventFile.written.Goals as goal

pub invariant_of-self : goal.invariant_of-self
invariant_of-self c =
    let steady = subst IsSteady (sym c.self.view_is) c.requires in
    agree-written c.self.inside.items c.set_back.new.self c.self.inside.queue c.args.number c.args.at c.self.invariant
    (steady_queue c.self.inside.items c.self.inside.queue c.self.invariant steady) c.set_back.ensures

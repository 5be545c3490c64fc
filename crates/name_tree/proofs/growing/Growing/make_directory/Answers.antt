use Rattle.std.proofs.Common.{sym, ◌∙◌}
use Rattle.am_text.specs.Ascii.{slash}
use Rattle.name_tree.specs.Shape.{entries_of}
use Rattle.name_tree.proofs.BelowLemmas.{directory_made}
use Rattle.name_tree.proofs.growing.Growing.make_directory.Goals as goal

pub returns-in_ok-store-clause-ok : goal.returns-in_ok-store-clause-ok
returns-in_ok-store-clause-ok c =
    c.in_ok-store.ensures.ok slash c.args.path.now c.requires.place
    ∙ directory_made (entries_of c.args.self.now.places) c.args.path.now
    (sym c.stands.ensures ∙ c.if-not-stands.true)

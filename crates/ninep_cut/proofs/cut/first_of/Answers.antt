use Rattle.std.proofs.Common.{◌≡◌, rules, sym, subst}
use Rattle.ninep_cut.specs.Cuts.{first_of, IsMessage}
use Rattle.ninep_cut.proofs.Fronts.{first_is_message}
use Rattle.ninep_cut.proofs.cut.first_of.Goals as goal

pub returns-clause-whole : goal.returns-clause-whole
returns-clause-whole c =
    let same : c.split_at.result.0.now ≡ first_of c.args.bytes.now = search rules in
    subst IsMessage (sym same) (first_is_message c.args.bytes.now c.requires)

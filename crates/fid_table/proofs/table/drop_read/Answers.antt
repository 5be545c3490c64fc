use Rattle.std.proofs.Common.{rules, not}
use Rattle.std.proofs.lemmas.Fn.{filter_same}
use Rattle.fid_table.specs.Tables.{is_waiting}
use Rattle.fid_table.proofs.table.drop_read.Goals as goal

pub returns : goal.returns
returns c = filter_same _ (λ w. not (is_waiting c.args.conn c.args.tag w)) _ (λ x b q k. search rules) _ _
    c.retain.ensures.filtered

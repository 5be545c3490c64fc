use Rattle.std.proofs.Common.{◌≡◌, true, arith}
use Rattle.std.specs.Prelude.{is_some}
use Rattle.plumb_msg.specs.Attributes.{scan, start}
use Rattle.plumb_msg.specs.Growing.{is_in_line}
use Rattle.plumb_msg.proofs.GrowLemmas.{attrs_now, attrs_further}
use Rattle.plumb_msg.proofs.begun.in_attrs.Goals as goal

pub returns-clause-begun : goal.returns-clause-begun
returns-clause-begun c =
    let h : is_in_line c.split_at.result.1.now ≡ true = grind arith in
    attrs_further c.args.text.now c.split_at.result.1.now c.args.at c.args.from c.whole_len.result c.args.memo
    c.requires
    c.split_at.ensures.back h c.whole_len.ensures.inside c.whole_len.ensures.whole

pub returns-clause-more : goal.returns-clause-more
returns-clause-more c =
    let h : is_in_line c.split_at.result.1.now ≡ true = grind arith in
    let g : is_some (scan start c.split_at-2.result.1.now) ≡ true = grind arith in
    attrs_now c.args.text.now c.split_at.result.1.now c.split_at-2.result.1.now c.args.at c.args.from c.args.memo
    c.requires
    c.split_at.ensures.back h c.split_at-2.ensures.back g

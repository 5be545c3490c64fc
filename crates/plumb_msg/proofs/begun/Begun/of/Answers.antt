use Rattle.std.proofs.Common.{◌≡◌, ap, ◌∙◌}
use Rattle.plumb_msg.specs.Reading.{count_of}
use Rattle.plumb_msg.proofs.GrowLemmas.{start_data}
use Rattle.plumb_msg.proofs.begun.Begun.of.Goals as goal

pub returns-in-Some-count_of : goal.returns-in-Some-count_of
returns-in-Some-count_of c =
    start_data c.args.text.now c.requires c.in-Some.dst.now c.in-Some-behind_line.wdir.now
    c.in-Some-behind_line-2.sort.now
    c.in-Some-behind_line-3.attrs.now c.in-Some-behind_line-4.body.now c.in-Some-behind_line-5.bytes.now
    c.in-Some-count_of.size
    c.in-Some.ensures.behind c.in-Some-behind_line.ensures.behind c.in-Some-behind_line-2.ensures.behind
    c.in-Some-behind_line-3.ensures.behind c.in-Some-behind_line-4.ensures.behind c.in-Some-behind_line-5.ensures.behind
    (c.in-Some-count_of.ensures ∙ ap count_of c.cut_line.ensures.line)

use Rattle.std.proofs.Common.{◌≡◌, length, inl, arith}
use Rattle.re_machine.specs.Ways.{reading}
use Rattle.re_machine.specs.Whole.{table_of}
use Rattle.re_machine.proofs.Stepping.{lead_known}
use Rattle.re_machine.proofs.alone.lead.Goals as goal

pub returns-clause-reached : goal.returns-clause-reached
returns-clause-reached g c = λ r is known.
    let bits = g.S.LetterSet.bits in
    let w = reading c.args.cursor.way (g.T.Letters.letters c.args.text.now) in
    let best = c.args.threads.now.best in
    let ends = rw c.in-Some.is at c.follow_alone-at.ensures.ends in
    let goes = rw c.in-Some.is at c.follow_alone-at.ensures.known in
    lead_known bits r (table_of bits g.S.LetterSet.SIZE c.args.tables.now) w c.args.bounds.no_null c.args.bounds.low is
    c.args.cursor.at c.follow_alone-at.result.0 c.args.threads.now.rows.items c.index.result.now
    c.index_mut-row.result.now c.in-Some.set best best (c.may_lead.ensures.one c.if-not-may_lead.false)
    (c.may_lead.ensures.none c.if-not-may_lead.false) c.index.ensures c.index_mut-row.ensures.value
    (λ start. goes r c.args.bounds.no_null c.args.bounds.low start is) ends known

use Rattle.std.proofs.Common.{◌≡◌, ◌∙◌, ap, sym, true, is_some}
use Rattle.am_words.specs.Words.{rounds_of}
use Rattle.am_words.proofs.Forms.{rounds_are_text, rounds_read}
use Rattle.am_words.proofs.reading.read_number.Goals as goal

pub parse_drill-requires : goal.parse_drill-requires
parse_drill-requires c =
    let some : is_some (rounds_of c.args.number.now) ≡ true = ap is_some (sym c.rounds_of.ensures)
    ∙ c.if-is_none.ensures in
    ap is_some (rounds_read c.args.number.now c.in-Ok.text.now c.in-Ok.ensures.cases.0 some) ∙ some

pub unreachable-requires : goal.unreachable-requires
unreachable-requires c =
    let some : is_some (rounds_of c.args.number.now) ≡ true = ap is_some (sym c.rounds_of.ensures)
    ∙ c.if-is_none.ensures in
    c.in-Err.ensures.cases.0 (rounds_are_text c.args.number.now some)

pub returns-clause-exact : goal.returns-clause-exact
returns-clause-exact c =
    let some : is_some (rounds_of c.args.number.now) ≡ true = ap is_some (sym c.rounds_of.ensures)
    ∙ c.if-is_none.ensures in
    sym c.in_ok-parse_drill-in-Ok.ensures ∙ rounds_read c.args.number.now c.in-Ok.text.now c.in-Ok.ensures.cases.0 some

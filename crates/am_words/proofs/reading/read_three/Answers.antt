use Rattle.std.proofs.Common.{◌≡◌, ◌∙◌, ap, sym, true, is_some, [], ◌∷◌}
use Rattle.am_words.specs.Words.{in_three}
use Rattle.am_words.specs.Commands.{serve_reads}
use Rattle.am_words.proofs.Forms.{three_read}
use Rattle.am_words.proofs.reading.read_three.Goals as goal

pub parse_serve-requires : goal.parse_serve-requires
parse_serve-requires c =
    let asks : is_some (in_three c.args.first.now c.args.second.now c.args.third.now) ≡ true =
    sym c.if-not-asks_in_three.ensures in
    let texts = c.in-Some.ensures.some in
    (λ i. is_some (serve_reads (texts.0 i ∷ texts.1 i ∷ texts.2 i ∷ [])))
    ∙ (ap is_some (three_read _ _ _ asks).read ∙ asks)

pub returns-in_ok-parse_serve-in-Some-clause-some : goal.returns-in_ok-parse_serve-in-Some-clause-some
returns-in_ok-parse_serve-in-Some-clause-some c =
    let asks : is_some (in_three c.args.first.now c.args.second.now c.args.third.now) ≡ true =
    sym c.if-not-asks_in_three.ensures in
    let texts = c.in-Some.ensures.some in
    sym (three_read _ _ _ asks).read ∙ ((λ i. serve_reads (sym texts.0 i ∷ sym texts.1 i ∷ sym texts.2 i ∷ []))
    ∙ c.in_ok-parse_serve-in-Some.ensures)

pub returns-in-None-clause-none : goal.returns-in-None-clause-none
returns-in-None-clause-none c =
    let asks : is_some (in_three c.args.first.now c.args.second.now c.args.third.now) ≡ true =
    sym c.if-not-asks_in_three.ensures in
    (three_read _ _ _ asks).others c.in-None.ensures.none

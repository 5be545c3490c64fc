use Rattle.std.proofs.Common.{◌≡◌, ◌∙◌, ap, sym, true, is_some, rules, [], ◌∷◌}
use Rattle.am_words.specs.Words.{in_two, IsText}
use Rattle.am_words.specs.Commands.{serve_reads}
use Rattle.am_words.proofs.Forms.{not_some, two_read}
use Rattle.am_words.proofs.reading.read_two.Goals as goal

pub returns-then-not-asks_in_two-clause-none : goal.returns-then-not-asks_in_two-clause-none
returns-then-not-asks_in_two-clause-none c = not_some _ (sym c.if-not-asks_in_two.ensures)

pub parse_serve-requires : goal.parse_serve-requires
parse_serve-requires c =
    let asks : is_some (in_two c.args.first.now c.args.second.now) ≡ true = sym c.if-not-asks_in_two.ensures in
    let texts = c.in-Some.ensures.some in
    (λ i. is_some (serve_reads (texts.0 i ∷ texts.1 i ∷ []))) ∙ (ap is_some (two_read _ _ asks).read ∙ asks)

pub returns-in_err-parse_serve-in-Some-clause-known : goal.returns-in_err-parse_serve-in-Some-clause-known
returns-in_err-parse_serve-in-Some-clause-known c =
    let asks : is_some (in_two c.args.first.now c.args.second.now) ≡ true = sym c.if-not-asks_in_two.ensures in
    let text : IsText (in_two c.args.first.now c.args.second.now) = (two_read _ _ asks).texts c.in-Some.ensures.each in
    search rules

pub returns-in_ok-parse_serve-in-Some-clause-some : goal.returns-in_ok-parse_serve-in-Some-clause-some
returns-in_ok-parse_serve-in-Some-clause-some c =
    let asks : is_some (in_two c.args.first.now c.args.second.now) ≡ true = sym c.if-not-asks_in_two.ensures in
    let texts = c.in-Some.ensures.some in
    sym (two_read _ _ asks).read ∙ ((λ i. serve_reads (sym texts.0 i ∷ sym texts.1 i ∷ []))
    ∙ c.in_ok-parse_serve-in-Some.ensures)

pub returns-in-None-clause-none : goal.returns-in-None-clause-none
returns-in-None-clause-none c =
    let asks : is_some (in_two c.args.first.now c.args.second.now) ≡ true = sym c.if-not-asks_in_two.ensures in
    (two_read _ _ asks).others c.in-None.ensures.none

use Rattle.std.proofs.Common.{◌≡◌, ◌<◌, ◌^◌, length, None, sym, ap, ◌∙◌, rules}
use Rattle.sam_syntax.specs.Position.{position_if}
use Rattle.sam_syntax.proofs.Places.{passes_on, unjoined_here, token_refuses, piece_leads, step_reaches}
use Rattle.sam_syntax.proofs.parser.step.Goals as goal

pub returns-in_default-clause-err : goal.returns-in_default-clause-err
returns-in_default-clause-err c = λ r x f.
    let none : c.after_kind.result ≡ None = search rules in
    let bound : length c.args.text.now < 2 ^ 64 = search rules in
    unjoined_here c.args.text.now c.args.at r x c.requires
    (passes_on c.args.text.now c.args.at r c.position_of.result c.kind_of.result c.after_kind.result x c.requires bound
    (c.position_of.ensures r f) c.kind_of.ensures c.after_kind.ensures ∙ none)

pub returns-in-Err-clause-err : goal.returns-in-Err-clause-err
returns-in-Err-clause-err c = λ r x f.
    let bound : length c.args.text.now < 2 ^ 64 = search rules in
    token_refuses c.args.text.now c.args.at r c.in-Some.next x c.requires
    (passes_on c.args.text.now c.args.at r c.position_of.result c.kind_of.result c.after_kind.result x c.requires bound
    (c.position_of.ensures r f) c.kind_of.ensures c.after_kind.ensures ∙ c.in-Some.is)
    c.in-Err.fault c.in-Err.ensures.refused

pub returns-in-Some-2-clause-ok : goal.returns-in-Some-2-clause-ok
returns-in-Some-2-clause-ok c = λ r x f.
    let bound : length c.args.text.now < 2 ^ 64 = search rules in
    let token = c.in-Ok.ensures.read in
    let lead = piece_leads c.args.text.now c.args.at c.in-Ok.read.1 r token.0 token.2 in
    let pass = passes_on c.args.text.now c.args.at r c.position_of.result c.kind_of.result c.after_kind.result x
    c.requires bound (c.position_of.ensures r f) c.kind_of.ensures c.after_kind.ensures ∙ c.in-Some.is in
    let joins = rw c.in-Some-2.is at c.in_ok-more.ensures in
    let on = joins token.0 token.1 lead.0 r f (lead.1 ∙ pass) in
    (on.0, step_reaches c.args.text.now c.args.at c.in-Ok.read.1 r on.0 token.0 x token.2 on.1, on.2)

pub returns-in-None-clause-err : goal.returns-in-None-clause-err
returns-in-None-clause-err c = λ r x f.
    let token = c.in-Ok.ensures.read in
    let lead = piece_leads c.args.text.now c.args.at c.in-Ok.read.1 r token.0 token.2 in
    let joins = rw c.in-None.is at c.in_ok-more.ensures in
    unjoined_here c.args.text.now c.args.at r x c.requires (sym lead.1
    ∙ ap position_if (joins token.0 token.1 lead.0 r f))

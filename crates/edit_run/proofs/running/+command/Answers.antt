use Rattle.std.proofs.Common.{◌≡◌, List, Ok, OnOk, sym, ap, subst, ◌∙◌}
use Rattle.std.specs.Prelude.{IfErr}
use Rattle.re_syntax.specs.Tree.{tree}
use Rattle.edit_parts.specs.declared.command.Cmd.{Cmd}
use Rattle.edit_parts.specs.declared.command.Act.{Act}
use Rattle.edit_parts.specs.Tree.{ForEach, ForBetween, action, command}
use Rattle.edit_run.specs.Faults.{IsFault}
use Rattle.edit_run.specs.Meaning.{Outcome, do_action, meaning, for_each, do_list, ranges_of}
use Rattle.edit_run.proofs.Blocks.{block_done}
use Rattle.edit_run.proofs.running.+command.Goals as goal

pub act-returns-in-Each-clause-fault : goal.act-returns-in-Each-clause-fault
act-returns-in-Each-clause-fault g t c =
    let text = g.T.Letters.letters c.args.over.now.text.now in
    let site = c.args.over.now.site.now in
    let e = c.args.doing.now.effects in
    let all = ranges_of ForEach (tree c.in-Each.re) text e.last in
    let same =
    ap (λ (x : Cmd). for_each (meaning (command x) text site) all e) c.deref.ensures
    ∙ ap (λ (x : Act). do_action (action x) text site c.args.dot e.last e) (sym c.in-Each.is)
    in
    subst (λ (o : Outcome). IfErr c.repeat.result (λ f. IsFault f o)) same c.repeat.ensures.fault

pub act-returns-in-Between-clause-fault : goal.act-returns-in-Between-clause-fault
act-returns-in-Between-clause-fault g t c =
    let text = g.T.Letters.letters c.args.over.now.text.now in
    let site = c.args.over.now.site.now in
    let e = c.args.doing.now.effects in
    let all = ranges_of ForBetween (tree c.in-Between.re) text e.last in
    let same =
    ap (λ (x : Cmd). for_each (meaning (command x) text site) all e) c.deref-in-Between.ensures
    ∙ ap (λ (x : Act). do_action (action x) text site c.args.dot e.last e) (sym c.in-Between.is)
    in
    subst (λ (o : Outcome). IfErr c.repeat-in-Between.result (λ f. IsFault f o)) same c.repeat-in-Between.ensures.fault

pub act-returns-in-Block-clause-value : goal.act-returns-in-Block-clause-value
act-returns-in-Block-clause-value g t c =
    let text = g.T.Letters.letters c.args.over.now.text.now in
    let site = c.args.over.now.site.now in
    let e = c.args.doing.now.effects in
    let same =
    ap (λ (x : List Cmd). do_list x text site c.args.doing.now.effects.last e) c.as_slice-in-Block.ensures.value
    ∙ (block_done c.in-Block.all text site c.args.dot c.args.doing.now.effects.last e
    ∙ ap (λ (x : Act). do_action (action x) text site c.args.dot c.args.doing.now.effects.last e)
    (sym c.in-Block.is))
    in
    subst (λ (o : Outcome). OnOk c.run_all.result (o ≡ Ok c.run_all.new.doing.effects)) same c.run_all.ensures.value

pub act-returns-in-Block-clause-fault : goal.act-returns-in-Block-clause-fault
act-returns-in-Block-clause-fault g t c =
    let text = g.T.Letters.letters c.args.over.now.text.now in
    let site = c.args.over.now.site.now in
    let e = c.args.doing.now.effects in
    let same =
    ap (λ (x : List Cmd). do_list x text site c.args.doing.now.effects.last e) c.as_slice-in-Block.ensures.value
    ∙ (block_done c.in-Block.all text site c.args.dot c.args.doing.now.effects.last e
    ∙ ap (λ (x : Act). do_action (action x) text site c.args.dot c.args.doing.now.effects.last e)
    (sym c.in-Block.is))
    in
    subst (λ (o : Outcome). IfErr c.run_all.result (λ f. IsFault f o)) same c.run_all.ensures.fault

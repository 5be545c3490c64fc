use Rattle.std.proofs.Common.{sym, ap, ◌∙◌, map, List, ℕ, ◌∷◌, [], ◌++◌}
use Rattle.std.proofs.lemmas.Result.{on_ok_weaker, on_err_weaker}
use Rattle.plumb_ports.specs.PortList.{with_kept}
use Rattle.plumb_ports.specs.Shown.{port_of}
use Rattle.plumb_ports.proofs.PortLemmas.{still-named, kept-written, written-none, kept-value}
use Rattle.plumb_ports.proofs.UndoLemmas.{with_kept-same}
use Rattle.plumb_ports.proofs.port_map.PortMap.keep_message.Goals as goal

pub returns-in_default-clause-ok : goal.returns-in_default-clause-ok
returns-in_default-clause-ok c =
    rw (← c.self.view_is) (written-none c.self.inside.by_name.entries c.args.port _ (sym c.in_default.ensures.value))

pub invariant_of-self-2 : goal.invariant_of-self-2
invariant_of-self-2 c = still-named c.self.inside.names.items c.self.inside.by_name.entries c.args.port c.push.new.self
    c.self.invariant

pub returns-clause-ok : goal.returns-clause-ok
returns-clause-ok c =
    let there = kept-value c.self.inside.by_name.entries c.args.port c.in-Some.kept.now (sym c.in-Some.ensures.value) in
    rw (← c.self.view_is)
    (on_ok_weaker c.push.result (λ e. kept-written c.self.inside.by_name.entries c.args.port c.push.new.self
    ∙ ap (with_kept (map port_of c.self.inside.by_name.entries) c.args.port)
    (e ∙ ap (λ (ks : List (List ℕ)). ks ++ c.args.message ∷ []) (sym there))) c.push.ensures.ok)

pub returns-clause-err : goal.returns-clause-err
returns-clause-err c =
    let there = kept-value c.self.inside.by_name.entries c.args.port c.in-Some.kept.now (sym c.in-Some.ensures.value) in
    rw (← c.self.view_is)
    (on_err_weaker c.push.result (λ e. kept-written c.self.inside.by_name.entries c.args.port c.push.new.self
    ∙ ap (with_kept (map port_of c.self.inside.by_name.entries) c.args.port) (e ∙ sym there)
    ∙ with_kept-same (map port_of c.self.inside.by_name.entries) c.args.port) c.push.ensures.err)

use Rattle.std.proofs.Common.{◌<◌, List, length, sym, subst, ap, ◌∙◌, arith}
use Rattle.std.specs.Prelude.{Option}
use Rattle.std.specs.Option.{option_map}
use Rattle.std.proofs.lemmas.List.{nil_from_length, length-map}
use Rattle.core_windows.specs.Shapes.{PaneShape, shapes_of, shape_if_live}
use Rattle.core_windows.specs.Trail.{addr_of, all_undone, CanGoBack, kept_addr}
use Rattle.core_windows.specs.declared.undo.Undo.{Undo}
use Rattle.core_windows.proofs.KeptLemmas.{addr_found, addr_past}
use Rattle.core_windows.proofs.Rooms.{live_shape}
use Rattle.core_windows.proofs.looks.old_addr.Goals as goal

pub loop-step-preserved : goal.loop-step-preserved
loop-step-preserved c =
    let e = c.in-Some.ensures.cases.0 in
    let can = subst (λ (us : List Undo). CanGoBack us (shapes_of c.args.panes.now)) e c.loop-step.invariant.can in
    let within = subst (λ (us : List Undo). c.args.at < length (all_undone us (shapes_of c.args.panes.now))) e
    c.loop-step.invariant.within in
    let past = addr_past c.in-Some.step.now c.in-Some.after.now (shapes_of c.args.panes.now) c.args.at can within
    (sym c.addr_in.ensures ∙ c.in_default-addr_in.is) in
    record {
      can = can.0;
      within = past.1;
      same = past.0 ∙ ap (λ (us : List Undo). kept_addr us (shapes_of c.args.panes.now) c.args.at) (sym e)
          ∙ c.loop-step.invariant.same;
    }

pub returns : goal.returns
returns c =
    let none = nil_from_length c.loop-step.rest.now c.in_default.ensures.cases in
    let within = subst (λ (us : List Undo). c.args.at < length (all_undone us (shapes_of c.args.panes.now))) none
    c.loop-step.invariant.within in
    let there = live_shape c.args.panes.now c.args.at c.index-panes-at.result
    (omega (arith, within, length-map c.args.panes.now shape_if_live)) c.index-panes-at.is in
    c.addr_of.ensures ∙ ap (λ (o : Option PaneShape). option_map addr_of o) (sym there)
    ∙ ap (λ (us : List Undo). kept_addr us (shapes_of c.args.panes.now) c.args.at) (sym none)
    ∙ c.loop-step.invariant.same

pub returns-in-Some-addr_in : goal.returns-in-Some-addr_in
returns-in-Some-addr_in c =
    let e = c.in-Some.ensures.cases.0 in
    let can = subst (λ (us : List Undo). CanGoBack us (shapes_of c.args.panes.now)) e c.loop-step.invariant.can in
    let within = subst (λ (us : List Undo). c.args.at < length (all_undone us (shapes_of c.args.panes.now))) e
    c.loop-step.invariant.within in
    sym (addr_found c.in-Some.step.now c.in-Some.after.now (shapes_of c.args.panes.now) c.args.at
    c.in-Some-addr_in.range can within (sym c.addr_in.ensures ∙ c.in-Some-addr_in.is))
    ∙ ap (λ (us : List Undo). kept_addr us (shapes_of c.args.panes.now) c.args.at) (sym e)
    ∙ c.loop-step.invariant.same

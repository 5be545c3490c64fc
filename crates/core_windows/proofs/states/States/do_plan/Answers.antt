use Rattle.std.proofs.Common.{◌≡◌, ◌++◌, ◌∷◌, [], List, sym, subst, ap, ◌∙◌, arith}
use Rattle.std.specs.Prelude.{Option}
use Rattle.std.specs.Option.{option_map}
use Rattle.std.proofs.lemmas.List.{length-map}
use Rattle.am_text.specs.Twice.{Twice}
use Rattle.core_windows.specs.Places.{at_place, live_at}
use Rattle.core_windows.specs.Windows.{Window, planned}
use Rattle.core_windows.specs.Shapes.{Lives, IsPlannable}
use Rattle.core_windows.specs.Shapes.{shapes_of, shape_if_live}
use Rattle.core_windows.specs.Trail.{CanGoBack}
use Rattle.core_windows.specs.declared.undo.Undo.{Undo}
use Rattle.core_windows.proofs.Rooms.{go_back_roomier, grown_can, seen, seen_same, seen_grown, seen_changed}
use Rattle.core_windows.proofs.Rooms.{seen_within, same_size, on_err}
use Rattle.core_windows.proofs.states.States.do_plan.Goals as goal

pub reserve_at-requires-clause-within : goal.reserve_at-requires-clause-within
reserve_at-requires-clause-within c =
    let lives = subst (λ (t : Twice (List (Option Window))). Lives (IsPlannable c.args.plan)
    (live_at t.present c.args.at)) (sym c.self.view_is) c.requires in
    seen_within (IsPlannable c.args.plan) c.self.inside.panes.items c.args.at lives

pub invariant_of-self-in_err-ready : goal.invariant_of-self-in_err-ready
invariant_of-self-in_err-ready c =
    subst (λ us. CanGoBack us (shapes_of c.reserve_at.new.panes.items)) (sym c.reserve.ensures.items)
    (go_back_roomier c.self.inside.trail.items (shapes_of c.self.inside.panes.items)
    (shapes_of c.reserve_at.new.panes.items) c.reserve_at.ensures.roomier c.self.invariant)

pub returns-in_err-ready-clause-err : goal.returns-in_err-ready-clause-err
returns-in_err-ready-clause-err c =
    let same = ap (λ (us : List Undo). seen us (shapes_of c.reserve_at.new.panes.items)) c.reserve.ensures.items
    ∙ seen_same c.self.inside.trail.items (shapes_of c.self.inside.panes.items)
    (shapes_of c.reserve_at.new.panes.items) c.reserve_at.ensures.roomier ∙ c.self.view_is in
    on_err _ _ same

pub make_at-undo-requires-clause-within : goal.make_at-undo-requires-clause-within
make_at-undo-requires-clause-within c =
    let lives = subst (λ (t : Twice (List (Option Window))). Lives (IsPlannable c.args.plan)
    (live_at t.present c.args.at)) (sym c.self.view_is) c.requires in
    let within = seen_within (IsPlannable c.args.plan) c.self.inside.panes.items c.args.at lives in
    omega (
      arith,
      within,
      same_size (shapes_of c.self.inside.panes.items) (shapes_of c.reserve_at.new.panes.items)
          c.reserve_at.ensures.roomier,
      length-map c.self.inside.panes.items shape_if_live,
      length-map c.reserve_at.new.panes.items shape_if_live,
    )

pub invariant_of-self-2 : goal.invariant_of-self-2
invariant_of-self-2 c =
    let before = go_back_roomier c.self.inside.trail.items (shapes_of c.self.inside.panes.items)
    (shapes_of c.reserve_at.new.panes.items) c.reserve_at.ensures.roomier c.self.invariant in
    let steps : c.push_reserved.new.self.items ≡ c.self.inside.trail.items ++ c.make_at-undo.result ∷ [] =
    c.push_reserved.ensures.items ∙ ap (λ (us : List Undo). us ++ c.make_at-undo.result ∷ [])
    c.reserve.ensures.items in
    subst (λ us. CanGoBack us (shapes_of c.make_at-undo.new.panes.items)) (sym steps)
    (grown_can c.self.inside.trail.items c.make_at-undo.result (shapes_of c.reserve_at.new.panes.items)
    (shapes_of c.make_at-undo.new.panes.items) c.make_at-undo.ensures.back c.make_at-undo.ensures.can before)

pub returns-clause-ok : goal.returns-clause-ok
returns-clause-ok c =
    let steps : c.push_reserved.new.self.items ≡ c.self.inside.trail.items ++ c.make_at-undo.result ∷ [] =
    c.push_reserved.ensures.items ∙ ap (λ (us : List Undo). us ++ c.make_at-undo.result ∷ [])
    c.reserve.ensures.items in
    rw (← c.self.view_is)
    (ap (λ (us : List Undo). seen us (shapes_of c.make_at-undo.new.panes.items)) steps
    ∙ seen_grown c.self.inside.trail.items c.make_at-undo.result (shapes_of c.reserve_at.new.panes.items)
    (shapes_of c.make_at-undo.new.panes.items) (at_place (option_map (planned c.args.plan)) c.args.at)
    c.make_at-undo.ensures.back c.make_at-undo.ensures.windows
    ∙ seen_changed c.self.inside.trail.items (shapes_of c.self.inside.panes.items)
    (shapes_of c.reserve_at.new.panes.items) (at_place (option_map (planned c.args.plan)) c.args.at)
    c.reserve_at.ensures.roomier)

use Rattle.std.proofs.Common.{Bool, ap, ◌∙◌}
use Rattle.core_scene.specs.Scenes.{no_scene, scene_in}
use Rattle.core_parts.proofs.Users.{begins}
use Rattle.core_parts.proofs.parts.Parts.new.Goals as goal

pub returns-clause-state : goal.returns-clause-state
returns-clause-state c =
    begins c.args.format c.in_ok-vec.field-0.items c.in_ok-no_users.field-0.items c.in_ok-new.field-0
    c.in_ok-new-2.field-0 c.in_ok-new-3.field-0 c.new-4.result.items
    (c.in_ok-vec.ensures.items_if_clones_equal (λ y h. h)) c.in_ok-no_users.ensures c.in_ok-new.ensures
    (c.in_ok-new-2.ensures ∙ ap (λ (b : Bool). scene_in (no_scene b)) c.is_watched.ensures) c.in_ok-new-3.ensures
    c.new-4.ensures.items

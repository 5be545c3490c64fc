-- What is written to the plumber's file `send` (plumber(4)).
use Rattle.std.specs.Prelude.{ℕ, Bool, List, [], ◌∷◌, ◌++◌, Option, Some, None, if◌then◌else◌}
use Rattle.plumb_msg.specs.declared.message.PlumbMsg.{PlumbMsg}
use Rattle.core_scene.specs.declared.deed.Entry.{Entry}
use Rattle.core_scene.specs.declared.deed.Deed.{Deed}
use Rattle.core_scene.specs.Scenes.{SceneState, done_all}
use Rattle.core_plumb.specs.declared.refusal.PlumbRefusal.{PlumbRefusal}
use Rattle.core_plumb.specs.Routing.{plumb_refusal}
use Rattle.core_plumb.specs.Plumbing.{plumb_deeds}
use Rattle.core_rules.specs.declared.send_refusal.SendRefusal.{SendRefusal}
use Rattle.core_rules.specs.declared.send_refusal.SendRefusal.TheVariants as refusal
use Rattle.core_rules.specs.Messages.{Cut, cut_of}

-- ---- messages

-- what messages do, and why the last of them is refused, if it is
pub record Plumbed : Type 0 where
  pub deeds : List Deed
  pub refusal : Option PlumbRefusal

-- these deeds, and then those of the messages behind, which aren't looked at behind a refusal
abbrev pub then_rest : List Deed → Option PlumbRefusal → Plumbed → Plumbed
then_rest deeds None rest = record rest { deeds = deeds ++ rest.deeds }
then_rest deeds (Some r) rest = record { deeds = deeds; refusal = Some r }

-- one after another, each over the scene that those before it leave, up to the first that is refused
unfoldable pub plumbed : Entry → List PlumbMsg → SceneState → Plumbed
plumbed e [] s = record { deeds = []; refusal = None }
plumbed e (m ∷ ms) s = then_rest (plumb_deeds e m s) (plumb_refusal m s)
    (plumbed e ms (done_all e s (plumb_deeds e m s)))

-- ---- a write

-- the deeds, why it is refused, if it is, and the bytes that are held behind it
pub record Outcome : Type 0 where
  pub deeds : List Deed
  pub refusal : Option SendRefusal
  pub held : List ℕ

-- a message that is begun is held; bytes that begin none are refused
abbrev pub ended : List Deed → Bool → List ℕ → Outcome
ended deeds is_bad rest = if is_bad then record {
  deeds = deeds;
  refusal = Some refusal.BadPlumbMessage;
  held =
      [];
} else record { deeds = deeds; refusal = None; held = rest }

-- what came of whole messages, and what is held of the rest
abbrev pub outcome_of : List Deed → Option PlumbRefusal → Cut → Outcome
outcome_of deeds (Some r) cut = record { deeds = deeds; refusal = Some (refusal.Plumb r); held = [] }
outcome_of deeds None cut = ended deeds cut.is_bad cut.rest

-- what a write to `send` does
abbrev pub cut_outcome : Entry → Cut → SceneState → Outcome
cut_outcome e cut s = outcome_of (plumbed e cut.messages s).deeds (plumbed e cut.messages s).refusal cut

-- A write, where the text is what was held with what is written: its whole messages are plumbed. What stands behind
-- them is held, where it begins a message and none is refused; else nothing is.
abbrev pub send_outcome : Entry → List ℕ → SceneState → Outcome
send_outcome e text s = cut_outcome e (cut_of text) s

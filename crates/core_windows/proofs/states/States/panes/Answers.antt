use Rattle.std.proofs.Common.{List, ap, ◌∙◌}
use Rattle.std.specs.Prelude.{Option}
use Rattle.am_text.specs.Twice.{Twice}
use Rattle.core_windows.specs.Panes.{windows_of}
use Rattle.core_windows.specs.Windows.{Window}
use Rattle.core_windows.proofs.PlaceLemmas.{panes_seen}
use Rattle.core_windows.proofs.states.States.panes.Goals as goal

pub returns : goal.returns
returns c = ap windows_of c.as_slice.ensures.value ∙ panes_seen c.self.inside.panes.items
    ∙ ap (λ (t : Twice (List (Option Window))). t.present) c.self.view_is

use Rattle.std.proofs.Common.{ap, ◌∙◌, arith}
use Rattle.am_text.specs.declared.range.Range.{Range}
use Rattle.core_addresses.specs.Data.{replacement}
use Rattle.core_windows.specs.Panes.{window_of}
use Rattle.core_intents.proofs.Typed.{key_possible}
use Rattle.core_intents.proofs.typing.typed.Goals as goal

pub returns-in_ok-changes-in-Body-clause-possible : goal.returns-in_ok-changes-in-Body-clause-possible
returns-in_ok-changes-in-Body-clause-possible c =
    let start = ap (λ (r : Range). r.q0) c.dot-dot.ensures in
    key_possible c.args.windows.now.present c.args.window (window_of c.args.pane.now) c.in_ok-text.text
    c.in_ok-edits-in-Body.edits _ c.in_ok-changes-in-Body.changes
    c.in_ok-changes-in-Body.ensures c.requires.there c.is_sound.ensures
    (c.in_ok-edits-in-Body.ensures ∙ ap (λ (r : Range). replacement r c.in_ok-text.text) c.dot-dot.ensures)
    (omega (arith, start, c.len.ensures))

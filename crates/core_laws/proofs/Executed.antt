-- Executing Undo or Redo is a move.
use Rattle.std.proofs.Common.{◌≡◌, ℕ, true, Option, Some, None, refl, ap, ◌∙◌}
use Rattle.acme_cmd.specs.Commands.{classified}
use Rattle.acme_cmd.specs.declared.command.Command.TheVariants as command
use Rattle.acme_cmd.specs.declared.expansion.Click.TheVariants as click
use Rattle.am_text.specs.declared.range.Range.{Range}
use Rattle.am_journal.specs.declared.event.Event.{Event}
use Rattle.event_book.specs.BookState.{item_of}
use Rattle.win_events.specs.declared.item.Item.{Item}
use Rattle.win_events.specs.declared.item.Origin.TheVariants.{M}
use Rattle.win_events.specs.declared.item.Sort.{Sort}
use Rattle.win_events.specs.declared.item.Sort.TheVariants as sort
use Rattle.core_scene.specs.declared.deed.Entry.{Entry}
use Rattle.core_scene.specs.Scenes.{SceneState}
use Rattle.core_actions.specs.declared.undoing.Move.{Move}
use Rattle.core_actions.specs.Undoing.{move_deeds}
use Rattle.core_exec.specs.Acting.{action_of, act_on_deeds, back_deeds, executed_of}
use Rattle.core_exec.specs.Clicks.{argument_if_any, clicked_at, own_text}
use Rattle.core_exec.specs.Executing.{Executed, exec_deeds}
use Rattle.core_tasks.specs.Tasks.{task_deeds}
use Rattle.core_intents.specs.Doings.{entry_by}
use Rattle.acme_core.specs.Run.{present_after}
use Rattle.core_laws.specs.Laws.{written_by}
use Rattle.core_laws.specs.Moving.{IsMove, builtin_of, is_exec, ExecutedMovesAreMoves}
use Rattle.core_laws.specs.WriteBacks.{numbered}
use Rattle.core_laws.proofs.Moves.{clicked_moves, command_moves}
use Rattle.core_laws.proofs.WriteBacks.{IsBackBy, back_by}
use Rattle.am_journal.specs.declared.event.Journal.{Journal}

exec_action : (e : Entry) (w : ℕ) (kind : Sort) (x : Executed) (s : SceneState) → is_exec kind ≡ true
    → action_of e w kind x s ≡ exec_deeds e w x s
exec_action e w sort.BodyExec x s is = refl
exec_action e w sort.TagExec x s is = refl
exec_action e w sort.BodyDel x s is = absurd cc
exec_action e w sort.TagDel x s is = absurd cc
exec_action e w sort.BodyIns x s is = absurd cc
exec_action e w sort.TagIns x s is = absurd cc
exec_action e w sort.BodyLook x s is = absurd cc
exec_action e w sort.TagLook x s is = absurd cc

text_moves : (e : Entry) (w : ℕ) (x : Executed) (m : Move) (r : Range) (s : SceneState)
    → classified x.text ≡ command.Builtin (builtin_of m) r → exec_deeds e w x s ≡ move_deeds m w s
unfolding exec_deeds
text_moves e w x m r s is = command_moves e w x (classified x.text) m r s is

-- an item that is acted on
item_moves : (e : Entry) (w n : ℕ) (item : Item) (m : Move) (r : Range) (s : SceneState)
    → item_of s.book w n ≡ Some item → is_exec item.sort ≡ true
    → classified (own_text item.text item.expanded) ≡ command.Builtin (builtin_of m) r
    → act_on_deeds e w n s ≡ move_deeds m w s
item_moves e w n item m r s found exec is =
    ap (λ (o : Option Item). back_deeds e w o s) found
    ∙ exec_action e w item.sort (executed_of item) s exec
    ∙ text_moves e w (executed_of item) m r s is

back_moves : (before : Journal) (e : Event) (w n : ℕ) (item : Item) (m : Move) (r : Range)
    → written_by before e ≡ Some (numbered w n) → item_of (present_after before).scene.book w n ≡ Some item
    → is_exec item.sort ≡ true → classified (own_text item.text item.expanded) ≡ command.Builtin (builtin_of m) r
    → IsMove before e m w
back_moves before e w n item m r writes found exec is =
    let x : IsBackBy before e (numbered w n) = back_by before e (numbered w n) writes in
    x.deeds ∙ item_moves (entry_by (present_after before) x.origin) w n item m r (present_after before).scene found exec
    is

pub executed_moves : ExecutedMovesAreMoves
unfolding task_deeds
executed_moves journal = record {
  exec = λ before behind at c m r at_it closed clicked is.
      let x : SceneState = (present_after before).scene in
      clicked_moves (entry_by (present_after before) M) at (argument_if_any x.windows None)
      (clicked_at x.windows at click.Exec) c m r x closed clicked is;
  arg = λ before behind at chord c m r at_it closed clicked is.
      let x : SceneState = (present_after before).scene in
      clicked_moves (entry_by (present_after before) M) at (argument_if_any x.windows (Some chord))
      (clicked_at x.windows at click.Exec) c m r x closed clicked is;
  back = λ before behind e w n item m r at_it writes found exec is. back_moves before e w n item m r writes found exec
      is;
}

pub ruleset executing = (executed_moves)

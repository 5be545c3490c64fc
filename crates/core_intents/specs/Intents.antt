-- What an event is to do, as the editor stands: its task isn't yet told by the deeds that it comes to.
use Rattle.std.specs.Prelude.{ℕ, Bool, true, false, List, [], ◌∷◌, length, Option, Some, None, Result, Ok, Err}
use Rattle.std.specs.Prelude.{if◌then◌else◌}
use Rattle.am_text.specs.Utf8.{utf8}
use Rattle.ninep_types.specs.declared.message.TMsg.{TMsg}
use Rattle.ninep_types.specs.declared.message.RBody.TheVariants as r
use Rattle.win_events.specs.Back.{back_of}
use Rattle.win_events.specs.declared.item.BackMsg.{BackMsg}
use Rattle.win_events.specs.declared.item.Origin.{Origin}
use Rattle.win_events.specs.declared.item.Origin.TheVariants.{F, K, M}
use Rattle.event_book.specs.BookState.{BookState, found_of}
use Rattle.event_book.specs.declared.finding.BackFault.{BackFault}
use Rattle.event_book.specs.declared.finding.BackFault.TheVariants.{Already, NoSuch}
use Rattle.am_journal.specs.declared.event.Event.{Event}
use Rattle.am_journal.specs.declared.event.Event.TheVariants as event
use Rattle.core_windows.specs.declared.change.Change.{Change}
use Rattle.core_windows.specs.declared.change.Change.TheVariants as change
use Rattle.core_windows.specs.Windows.{window_at}
use Rattle.core_fids.specs.declared.effect.Effect.{Effect}
use Rattle.core_fids.specs.declared.effect.Effect.TheVariants as effect
use Rattle.core_fids.specs.declared.effect.EventChange.TheVariants as events
use Rattle.core_fids.specs.declared.effect.Demand.{Demand}
use Rattle.core_fids.specs.declared.effect.Demand.TheVariants as demand
use Rattle.core_fids.specs.declared.effect.Answer.{Answer}
use Rattle.core_fids.specs.declared.effect.Answer.TheVariants.{Says}
use Rattle.core_fids.specs.declared.effect.Reaction.{Reaction}
use Rattle.core_fids.specs.declared.refusal.Refusal.{Refusal}
use Rattle.core_fids.specs.declared.refusal.Refusal.TheVariants as refusal
use Rattle.core_fids.specs.declared.server.Opened.{Opened}
use Rattle.core_fids.specs.Plumbers.{plumber_of}
use Rattle.core_fids.specs.Refusals.{refusal_text}
use Rattle.core_fids.specs.Servers.{ServerState}
use Rattle.core_answers.specs.Reactions.{reaction}
use Rattle.core_events.specs.declared.closing.BackItem.{BackItem}
use Rattle.core_scene.specs.Scenes.{SceneState}
use Rattle.core_watch.specs.declared.answering.RequestAnswer.{RequestAnswer}
use Rattle.core_watch.specs.Answering.{answer_refusal}
use Rattle.core_tasks.specs.declared.task.Task.{Task}
use Rattle.core_tasks.specs.declared.task.Task.TheVariants as task
use Rattle.core_intents.specs.declared.intent.Intent.{Intent}
use Rattle.core_intents.specs.Origins.{message_origin}
use Rattle.core_parts.specs.States.{Present}
use Rattle.core_intents.specs.Typing.{key_changes, sel_changes}

-- ---- answers

-- whether an answer is a refusal
abbrev pub is_refusal : Answer → Bool
is_refusal (Says (r.Error text)) = true
is_refusal answer = false

-- a refusal is answered by its text, unless another one is answered already
abbrev pub or_refused : Option Refusal → Answer → Answer
or_refused None answer = answer
or_refused (Some refusal) answer = if is_refusal answer then answer else Says (r.Error (refusal_text refusal))

-- where there is a message to answer
abbrev pub answer_or : Option Refusal → Option Answer → Option Answer
answer_or refusal None = None
answer_or refusal (Some answer) = Some (or_refused refusal answer)

-- ---- what a fid holds

-- what is held anew, or what was held
abbrev pub held_or : List ℕ → Option (List ℕ) → List ℕ
held_or text None = text
held_or text (Some new) = new

-- the fid that a message puts holds this text, where there is one
abbrev pub with_held : Effect → Option (List ℕ) → Effect
with_held effect.Nothing held = effect.Nothing
with_held (effect.Begins msize) held = effect.Begins msize
with_held (effect.Puts number fid) held = effect.Puts number (record fid { held = held_or fid.held held })
with_held (effect.Frees number) held = effect.Frees number

-- ---- an item that is written back

-- the refusal where no item was found
abbrev pub not_found : BackFault → Refusal
not_found Already = refusal.EventAlreadyWrittenBack
not_found NoSuch = refusal.NoSuchEvent

-- the item that was found, or the refusal
abbrev pub item_or_refusal : ℕ → Result ℕ BackFault → Result BackItem Refusal
item_or_refusal w (Ok number) = Ok (record { window = w; number = number })
item_or_refusal w (Err fault) = Err (not_found fault)

-- the item that an event message names, or the refusal
abbrev pub item_named : BookState → ℕ → Option BackMsg → Result BackItem Refusal
item_named book w None = Err refusal.BadEvent
item_named book w (Some message) = item_or_refusal w (found_of book w message)

-- the item of the window that the text names, or why it names none
abbrev pub item_of_text : BookState → ℕ → List ℕ → Result BackItem Refusal
item_of_text book w text = item_named book w (back_of text)

-- ---- an answer to a request

-- the answer, unless it is refused
abbrev pub answer_unless : Option Refusal → RequestAnswer → Option RequestAnswer
answer_unless None answer = Some answer
answer_unless (Some refusal) answer = None

-- ---- messages

-- an item is done with its own text; where none is named nothing is
abbrev pub back_task : Result BackItem Refusal → Task
back_task (Ok item) = task.Back item.window item.number
back_task (Err refusal) = task.Changes []

-- the item, if there is one
abbrev pub item_if_any : Result BackItem Refusal → Option BackItem
item_if_any (Ok item) = Some item
item_if_any (Err refusal) = None

-- the refusal, if there is one
abbrev pub refusal_if_any : Result BackItem Refusal → Option Refusal
refusal_if_any (Ok item) = None
refusal_if_any (Err refusal) = Some refusal

-- what a reaction does to the scene
abbrev pub demanded_task : BookState → List Change → Demand → Task
demanded_task book changes demand.Nothing = task.Changes changes
demanded_task book changes (demand.Controls w text) = task.Controls w text
demanded_task book changes (demand.WriteBack w text) = back_task (item_of_text book w text)
demanded_task book changes demand.ClearsRules = task.ClearsRules
demanded_task book changes (demand.AddsRules text) = task.AddsRules text
demanded_task book changes (demand.AddsRest text) = task.AddsRest text
demanded_task book changes (demand.Sends text) = task.Sends text
demanded_task book changes (demand.Answers opening text) = task.Changes changes

-- the item that it writes back
abbrev pub demanded_item : BookState → Demand → Option BackItem
demanded_item book demand.Nothing = None
demanded_item book (demand.Controls w text) = None
demanded_item book (demand.WriteBack w text) = item_if_any (item_of_text book w text)
demanded_item book demand.ClearsRules = None
demanded_item book (demand.AddsRules text) = None
demanded_item book (demand.AddsRest text) = None
demanded_item book (demand.Sends text) = None
demanded_item book (demand.Answers opening text) = None

-- the answer to a request that it writes
abbrev pub demanded_answer : SceneState → Demand → Option RequestAnswer
demanded_answer s demand.Nothing = None
demanded_answer s (demand.Controls w text) = None
demanded_answer s (demand.WriteBack w text) = None
demanded_answer s demand.ClearsRules = None
demanded_answer s (demand.AddsRules text) = None
demanded_answer s (demand.AddsRest text) = None
demanded_answer s (demand.Sends text) = None
demanded_answer s (demand.Answers opening text) =
    answer_unless (answer_refusal s.watch opening text) (record { opening = opening; text = text })

-- why what is asked of the scene is refused beforehand
abbrev pub demand_refusal : SceneState → Demand → Option Refusal
demand_refusal s demand.Nothing = None
demand_refusal s (demand.Controls w text) = None
demand_refusal s (demand.WriteBack w text) = refusal_if_any (item_of_text s.book w text)
demand_refusal s demand.ClearsRules = None
demand_refusal s (demand.AddsRules text) = None
demand_refusal s (demand.AddsRest text) = None
demand_refusal s (demand.Sends text) = None
demand_refusal s (demand.Answers opening text) = answer_refusal s.watch opening text

-- how many openings were ever made, of event files, and of `log` and `jobs`
abbrev pub opened_at : Present → Opened
opened_at s = record { events = length s.scene.book.owners; watch = s.scene.watch.opened }

-- what the messages of a connection are served from here
abbrev pub server_at : Present → ℕ → ServerState
server_at s conn = record {
  tables = s.tables;
  windows = s.scene.windows;
  watched = s.scene.watched;
  plumber = plumber_of s.scene.rules s.scene.ports;
  opened = opened_at s;
  conn = conn;
}

-- what a message does here
abbrev pub reaction_at : Present → ℕ → TMsg → Reaction
reaction_at s conn msg = reaction (server_at s conn) msg.body

-- what a message is to do
abbrev pub message_intent : SceneState → Reaction → Origin → Intent
message_intent s d origin = record {
  effect = d.effect;
  events = d.events;
  task = demanded_task s.book d.changes d.demand;
  origin = origin;
  answer = Some (or_refused (demand_refusal s d.demand) d.answer);
  back = demanded_item s.book d.demand;
  answers = demanded_answer s d.demand;
}

-- ---- all events

-- what does a task alone
abbrev pub acting : Task → Origin → Intent
acting task origin = record {
  effect = effect.Nothing;
  events = events.Nothing;
  task = task;
  origin = origin;
  answer = None;
  back = None;
  answers = None;
}

-- nothing is to be done
abbrev pub nothing : Intent
nothing = acting (task.Changes []) F

-- what an event is to do
abbrev pub intent_of : Present → Event → Intent
intent_of s (event.Dial conn) = nothing
intent_of s (event.Msg conn msg) =
    message_intent s.scene (reaction_at s conn msg) (message_origin s.tables conn msg.body)
intent_of s (event.Hang conn why) = nothing
intent_of s (event.Took conn) = nothing
intent_of s event.New = acting (task.Changes (change.Makes [] ∷ [])) F
intent_of s (event.Key w side text) = acting (task.Changes (key_changes w (window_at s.scene.windows w) side text)) K
intent_of s (event.Sel w range) = acting (task.Changes (sel_changes w range)) M
intent_of s (event.Exec at) = acting (task.Exec at None) M
intent_of s (event.Arg at chord) = acting (task.Exec at (Some chord)) M
intent_of s (event.Look at) = acting (task.Look at) M
intent_of s (event.File path text) = acting (task.Stores path (utf8 text)) F
intent_of s (event.Dir path) = acting (task.MakesDir path) F

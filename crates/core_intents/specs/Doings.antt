-- What may come, and what it does, as the editor stands.
use Rattle.std.specs.Prelude.{ℕ, ◌&&◌, not, Bool, true, false, List, length, Option, Some, None}
use Rattle.std.specs.List.{list_any}
use Rattle.ninep_types.specs.declared.message.TMsg.{TMsg}
use Rattle.ninep_types.specs.declared.message.TBody.{TBody}
use Rattle.ninep_types.specs.declared.message.TBody.TheVariants as t
use Rattle.ninep_types.specs.Spelling.{spelling_t}
use Rattle.acme_tree.specs.Trees.{world_is_full}
use Rattle.fid_table.specs.Tables.{Tables, msize_of, is_waiting}
use Rattle.name_tree.specs.Kinds.{file_clashes, directory_clashes}
use Rattle.win_events.specs.declared.item.Origin.{Origin}
use Rattle.am_journal.specs.declared.event.Event.{Event}
use Rattle.am_journal.specs.declared.event.Event.TheVariants as event
use Rattle.am_journal.specs.declared.event.Why.{Why}
use Rattle.core_windows.specs.Windows.{window_at, world_of}
use Rattle.core_fids.specs.declared.effect.Answer.{Answer}
use Rattle.core_fids.specs.declared.effect.Reaction.{Reaction}
use Rattle.core_fids.specs.Done.{HasSpelling}
use Rattle.core_scene.specs.declared.deed.Entry.{Entry}
use Rattle.core_scene.specs.Scenes.{CanDoAll}
use Rattle.core_tasks.specs.Tasks.{task_deeds, task_refusal, task_held, CanDoTask}
use Rattle.core_intents.specs.declared.intent.Intent.{Intent}
use Rattle.core_parts.specs.Connections.{connection_at}
use Rattle.core_parts.specs.Doing.{Doing}
use Rattle.core_intents.specs.Enabled.{dial_refusal, live_refusal, msg_refusal, took_refusal, new_refusal, tree_refusal}
use Rattle.core_intents.specs.Intents.{answer_or, with_held, message_intent, intent_of}
use Rattle.core_intents.specs.Spots.{spot_refusal, arg_refusal}
use Rattle.core_parts.specs.States.{Present, unsent_count, next_entry}
use Rattle.core_intents.specs.Typing.{key_refusal, sel_refusal}

-- ---- what may come

-- whether a message is a Tversion
abbrev pub is_version : TBody → Bool
is_version (t.Version msize version) = true
is_version body = false

-- a message can't come with the tag of a read that waits; a Tversion drops them all
abbrev pub is_tag_used : Tables → ℕ → TMsg → Bool
is_tag_used tables conn msg = not (is_version msg.body) && list_any (is_waiting conn msg.tag) tables.waiting

-- the first reason for which an event isn't enabled
abbrev pub enabled_at : Present → Event → Option Why
enabled_at s (event.Dial conn) = dial_refusal (connection_at s.connections conn)
enabled_at s (event.Msg conn msg) =
    msg_refusal (connection_at s.connections conn) (msize_of s.tables conn) (is_tag_used s.tables conn msg)
    (unsent_count s conn) (length (spelling_t msg))
enabled_at s (event.Hang conn why) = live_refusal (connection_at s.connections conn)
enabled_at s (event.Took conn) = took_refusal (connection_at s.connections conn) (unsent_count s conn)
enabled_at s event.New = new_refusal (world_is_full (world_of s.scene.windows))
enabled_at s (event.Key w side text) = key_refusal (window_at s.scene.windows w) side text
enabled_at s (event.Sel w range) = sel_refusal (window_at s.scene.windows w) range
enabled_at s (event.Exec at) = spot_refusal s.scene.windows at
enabled_at s (event.Arg at chord) = arg_refusal s.scene.windows at chord
enabled_at s (event.Look at) = spot_refusal s.scene.windows at
enabled_at s (event.File path text) = tree_refusal (file_clashes s.scene.files path)
enabled_at s (event.Dir path) = tree_refusal (directory_clashes s.scene.files path)

-- ---- what it does

-- the number of the step, and what the items come from that it makes
abbrev pub entry_by : Present → Origin → Entry
entry_by s origin = record { at = next_entry s; origin = origin }

-- what is to be done, over the scene as it stands: where its task is refused, that is answered, and
-- what it leaves to be held is
abbrev pub resolved : Present → Intent → Doing
resolved s i = record {
  effect = with_held i.effect (task_held (entry_by s i.origin) i.task s.scene);
  events = i.events;
  deeds = task_deeds (entry_by s i.origin) i.task s.scene;
  origin = i.origin;
  answer = answer_or (task_refusal (entry_by s i.origin) i.task s.scene) i.answer;
  back = i.back;
  answers = i.answers;
}

-- a message, by its reaction
abbrev pub message_doing : Present → Reaction → Origin → Doing
message_doing s d origin = resolved s (message_intent s.scene d origin)

-- what an event comes to
abbrev pub doing_of : Present → Event → Doing
doing_of s e = resolved s (intent_of s e)

-- what a message is answered has a spelling
abbrev pub IsAnswerable : Option Answer → Type 0
IsAnswerable None = Unit {0}
IsAnswerable (Some answer) = HasSpelling answer

-- ---- the step that does it

-- the entry that an event is, with the origin of what it does
abbrev pub entry_of : Present → Doing → Entry
entry_of s d = entry_by s d.origin

-- its deeds can be done
abbrev pub CanBeDone : Present → Doing → Type 0
CanBeDone s d = CanDoAll (entry_of s d) s.scene d.deeds

-- the task of what is to be done can be
abbrev pub CanBeMeant : Present → Intent → Type 0
CanBeMeant s i = CanDoTask (entry_by s i.origin) s.scene i.task

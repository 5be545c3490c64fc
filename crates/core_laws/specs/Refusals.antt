-- Which refusal a message gets: the first whose condition holds, as the editor stands.
use Rattle.std.specs.Prelude.{◌≡◌, ℕ, ◌+◌, ◌&&◌, nat_lt, List, ◌∷◌, Option, Some, None, Result, Ok, Err}
use Rattle.std.specs.Prelude.{if◌then◌else◌}
use Rattle.ninep_types.specs.declared.message.RBody.{RBody}
use Rattle.ninep_types.specs.declared.message.RBody.TheVariants as r
use Rattle.ninep_types.specs.declared.message.TBody.{TBody}
use Rattle.ninep_types.specs.declared.message.TBody.TheVariants as t
use Rattle.ninep_types.specs.declared.message.TMsg.{TMsg}
use Rattle.ninep_types.specs.Kinds.{tread}
use Rattle.ninep_types.specs.Spelling.{kind_t, kind_r}
use Rattle.fid_table.specs.declared.types.Fid.{Fid}
use Rattle.fid_table.specs.Tables.{Tables}
use Rattle.wait_queue.specs.declared.types.Asker.{Asker}
use Rattle.event_book.specs.BookState.{BookState, is_living, read_waits}
use Rattle.am_journal.specs.declared.event.Event.{Event}
use Rattle.am_journal.specs.declared.event.Event.TheVariants as event
use Rattle.core_fids.specs.Servers.{ServerState, fid_by}
use Rattle.core_fids.specs.Refusals.{refusal_text}
use Rattle.core_fids.specs.declared.effect.Answer.{Answer}
use Rattle.core_fids.specs.declared.effect.Answer.TheVariants.{Says, Reads, ReadsPort, ReadsWatch}
use Rattle.core_fids.specs.declared.effect.Reaction.{Reaction}
use Rattle.core_fids.specs.declared.refusal.Refusal.{Refusal}
use Rattle.core_fids.specs.declared.refusal.Refusal.TheVariants as refusal
use Rattle.core_answers.specs.Reactions.{comes_first, session_reaction}
use Rattle.core_events.specs.Asking.{read_said, reads_are_full}
use Rattle.core_events.specs.PortAsking.{port_said, read_refusal}
use Rattle.core_watch.specs.Asking.{watch_said, read_refusal as watch_refusal}
use Rattle.core_tasks.specs.Tasks.{task_refusal}
use Rattle.core_intents.specs.Doings.{doing_of, entry_by}
use Rattle.core_intents.specs.Intents.{demand_refusal, demanded_task, reaction_at, server_at}
use Rattle.core_intents.specs.Origins.{message_origin}
use Rattle.core_steps.specs.Stages.{asker_of}
use Rattle.core_steps.specs.WatchReads.{watch_asked}
use Rattle.core_parts.specs.States.{Present}
use Rattle.acme_core.specs.Run.{present_after}
use Rattle.am_journal.specs.declared.event.Journal.{Journal}
use Rattle.core_laws.specs.Fronts.{followed}

-- this refusal, or else a later one
abbrev pub or_later : Option Refusal → Option Refusal → Option Refusal
or_later None later = later
or_later (Some x) later = Some x

-- ---- by its reaction

-- the refusal in whose place nothing is done
abbrev pub refused : Result Reaction Refusal → Option Refusal
refused (Ok d) = None
refused (Err x) = Some x

-- nothing is ever removed
abbrev pub remove_refusal : Option Fid → Option Refusal
remove_refusal None = Some refusal.UnknownFid
remove_refusal (Some fid) = Some refusal.PermissionDenied

-- in a session: a Tversion that is refused ends it, and a Tremove that is refused frees its fid
abbrev pub session_refusal : ServerState → TBody → Option Refusal
session_refusal server (t.Version msize version) = if nat_lt msize 256 then Some refusal.MsizeTooSmall else None
session_refusal server (t.Remove fid) = remove_refusal (fid_by server fid)
session_refusal server body = refused (session_reaction server body)

-- where there is none yet
abbrev pub reaction_refusal : Present → ℕ → TBody → Option Refusal
reaction_refusal s conn body = if comes_first (server_at s conn) body
    then Some refusal.VersionFirst
    else session_refusal (server_at s conn) body

-- ---- by what it asks of the scene

-- the item that it names, or the request that it answers
abbrev pub item_refusal : Present → ℕ → TMsg → Option Refusal
item_refusal s conn msg = demand_refusal s.scene (reaction_at s conn msg).demand

-- control messages, rules, and plumb messages
abbrev pub scene_refusal : Present → ℕ → TMsg → Option Refusal
scene_refusal s conn msg =
    task_refusal (entry_by s (message_origin s.tables conn msg.body))
    (demanded_task s.scene.book (reaction_at s conn msg).changes (reaction_at s conn msg).demand) s.scene

-- ---- by the opening that it reads

-- of an event file
abbrev pub event_refusal : Tables → BookState → Asker → Option Refusal
event_refusal tables book asker = if is_living book asker.opening
    then (if read_waits book asker && reads_are_full tables asker.conn then Some refusal.TooManyWaitingReads else None)
    else Some refusal.WindowDeleted

-- of an event file, a port, `log` or `jobs`
abbrev pub opening_refusal : Present → ℕ → ℕ → Answer → Option Refusal
opening_refusal s conn tag (Says body) = None
opening_refusal s conn tag (Reads fid opening count) =
    event_refusal s.tables s.scene.book (asker_of conn tag opening count)
opening_refusal s conn tag (ReadsPort fid opening count) =
    read_refusal s.tables s.scene.ports (asker_of conn tag opening count)
opening_refusal s conn tag (ReadsWatch fid opening count) =
    watch_refusal s.tables s.scene.watch (watch_asked conn tag opening count)

-- ---- all of them

-- the refusal that a message gets, if it gets one
abbrev pub refusal_for : Present → ℕ → TMsg → Option Refusal
refusal_for s conn msg =
    or_later (reaction_refusal s conn msg.body)
    (or_later (item_refusal s conn msg) (or_later (scene_refusal s conn msg)
    (opening_refusal s conn msg.tag (reaction_at s conn msg).answer)))

-- what is said to it in its step; none where it waits
abbrev pub reply_of : Present → ℕ → ℕ → Answer → Option RBody
reply_of s conn tag (Says body) = Some body
reply_of s conn tag (Reads fid opening count) = read_said s.tables s.scene.book (asker_of conn tag opening count)
reply_of s conn tag (ReadsPort fid opening count) = port_said s.tables s.scene.ports (asker_of conn tag opening count)
reply_of s conn tag (ReadsWatch fid opening count) =
    watch_said s.tables s.scene.watch (watch_asked conn tag opening count)

-- The refusal's text is said, exactly where there is one; else its own R message, whose type byte is one more, unless
-- it is a read that waits.
abbrev pub IsSaidFor : TBody → Option Refusal → Option RBody → Type 0
IsSaidFor asked (Some x) said = said ≡ Some (r.Error (refusal_text x))
IsSaidFor asked None (Some body) = kind_r body ≡ kind_t asked + 1
IsSaidFor asked None None = kind_t asked ≡ tread

-- a message has an answer, and this is said for it
abbrev pub IsRefusedRight : Present → ℕ → TMsg → Option Answer → Type 0
IsRefusedRight s conn msg None = ⊥
IsRefusedRight s conn msg (Some answer) = IsSaidFor msg.body (refusal_for s conn msg) (reply_of s conn msg.tag answer)

-- So it is with each message of a journal.
abbrev pub RefusalsAreExact : Journal → Type 0
RefusalsAreExact journal =
    (before : Journal) (behind : List Event) (conn : ℕ) (msg : TMsg)
    → followed before (event.Msg conn msg ∷ behind) ≡ journal
    → IsRefusedRight (present_after before) conn msg (doing_of (present_after before) (event.Msg conn msg)).answer

-- So it is with each journal.
abbrev pub RefusalsFollow : Type 0
RefusalsFollow = (journal : Journal) → RefusalsAreExact journal

-- The events before the rounds, one after another.
use Rattle.std.proofs.Common.{◌≡◌, ℕ, zero, suc, ◌+◌, ◌^◌, ◌<◌, true, false, List, [], ◌∷◌, length, refl, ap, ◌∙◌}
use Rattle.std.proofs.Common.{arith, Option, Some, None}
use Rattle.std.specs.Prelude.{codes, replicate, bytes_eq, if◌then◌else◌, All}
use Rattle.std.specs.Str.{is_utf8, chars}
use Rattle.std.specs.Char.{encode_utf8}
use Rattle.std.proofs.lemmas.Fmt.{decimal_digit}
use Rattle.ninep_types.specs.Fields.{is_text}
use Rattle.ninep_types.specs.declared.message.TBody.TheVariants as t
use Rattle.ninep_types.specs.declared.message.RBody.{RBody}
use Rattle.ninep_types.specs.declared.message.RBody.TheVariants as r
use Rattle.ninep_types.specs.Spelling.{spelling_r, spelling_t, IsString, AreNames}
use Rattle.am_journal.specs.declared.event.Event.{Event}
use Rattle.am_journal.specs.declared.event.Event.TheVariants as event
use Rattle.am_journal.specs.Lawful.{IsLawful}
use Rattle.acme_tree.specs.declared.node.Node.{Node}
use Rattle.acme_tree.specs.declared.node.Node.TheVariants.{Root, NewDir, Window, File}
use Rattle.acme_tree.specs.declared.node.WinFile.TheVariants as file
use Rattle.acme_tree.specs.declared.node.World.{World}
use Rattle.acme_tree.specs.Access.{may_open}
use Rattle.acme_tree.specs.Trees.{qid_of, entries}
use Rattle.acme_tree.specs.Walks.{walk_one, entry_named, file_named, to_entry}
use Rattle.fid_table.specs.declared.types.Fid.{Fid}
use Rattle.event_book.specs.BookState.{BookState, empty_book}
use Rattle.core_scene.specs.Scenes.{no_scene}
use Rattle.plumb_ports.specs.PortList.{names_of}
use Rattle.plumb_ports.specs.PortsState.{beginning}
use Rattle.core_events.specs.PortServing.{served_most as port_served_most, after_serving_most}
use Rattle.core_watch.specs.Serving.{served_most as watch_served_most, after_serving_most as after_watch_serving}
use Rattle.core_events.specs.Serving.{served_most, book_served_most}
use Rattle.core_windows.specs.Stories.{WindowStory, named_story, shown_windows}
use Rattle.core_windows.specs.Windows.{world_of}
use Rattle.core_fids.specs.Fids.{fresh}
use Rattle.core_fids.specs.declared.walking.Course.{Course}
use Rattle.core_fids.specs.declared.walking.WalkEnd.TheVariants as end
use Rattle.core_fids.specs.Refusals.{reaction_or_refusal}
use Rattle.core_fids.specs.Walking.{course, onwards, then_qid, arrives}
use Rattle.win_events.specs.declared.item.Origin.TheVariants.{F}
use Rattle.core_tasks.specs.Tasks.{task_deeds, task_refusal, task_held}
use Rattle.core_intents.specs.Doings.{message_doing}
use Rattle.core_steps.specs.Stages.{after_story}
use Rattle.core_parts.specs.declared.connection.Connection.TheVariants.{Undialed, Live}
use Rattle.core_outputs.specs.declared.reply.Reply.{Reply}
use Rattle.acme_core.specs.Run.{step}
use Rattle.am_journal.specs.declared.event.Format.TheVariants.{One}
use Rattle.core_parts.specs.States.{State, present, start_of}
use Rattle.core_outputs.specs.Unsent.{Unsent, nothing_unsent, with_reply}
use Rattle.ninep_types.specs.Limits.{no_tag, no_fid}
use Rattle.am_drill.specs.Drill.{message}
use Rattle.am_drill.proofs.Standing.{Facts, body_fid, standing}
use Rattle.am_drill.proofs.Steps.{said_of}

-- ---- what changes, and all of it

pub record Begun : Type 0 where
  pub entries : ℕ
  pub unsent : Unsent
  pub replies : List Reply

abbrev pub told : Begun → ℕ → RBody → Begun
told b tag body = record {
  entries = b.entries + 1;
  unsent = with_reply b.unsent (spelling_r (record { tag = tag; body = body }));
  replies = said_of tag body ∷ [];
}

-- who has fids has attached
abbrev pub user_with : List (ℕ × Fid) → List ℕ
user_with [] = []
user_with (f ∷ fs) = codes "u"

abbrev pub begun : Option ℕ → List (ℕ × Fid) → List (Option WindowStory) → BookState → Begun → State
begun msize held windows book b = record {
  entries = b.entries;
  connections = Live ∷ replicate 63 Undialed;
  users = user_with held ∷ replicate 63 [];
  tables = record { format = One; sessions = record { conn = 0; msize = msize; fids = held } ∷ []; waiting = [] };
  windows = windows;
  scene = record (no_scene false) { book = book };
  unsent = b.unsent ∷ replicate 63 nothing_unsent;
  replies = b.replies;
}

-- ---- the events

abbrev pub version : Event
version = message no_tag (t.Version 8192 (codes "9P2000"))

abbrev pub attach : Event
attach = message 1 (t.Attach 0 no_fid (codes "u") [])

abbrev pub walk_body : Event
walk_body = message 2 (t.Walk 0 1 (codes "new" ∷ codes "body" ∷ []))

abbrev pub open_body : Event
open_body = message 3 (t.Open 1 2)

abbrev pub walk_event : Event
walk_event = message 2 (t.Walk 0 2 (codes "1" ∷ codes "event" ∷ []))

abbrev pub open_event : Event
open_event = message 3 (t.Open 2 0)

-- ---- what they make

abbrev pub dialed : Begun
dialed = record { entries = 1; unsent = nothing_unsent; replies = [] }

pub dial_step : step (start_of One) (event.Dial 0) ≡ begun None [] [] empty_book dialed
unfolding step served_most book_served_most port_served_most after_serving_most watch_served_most after_watch_serving
    task_deeds task_refusal task_held
dial_step = refl

pub version_step : (b : Begun) → step (begun None [] [] empty_book b) version ≡ begun (Some 8192) [] [] empty_book
    (told b no_tag (r.Version 8192 (codes "9P2000")))
unfolding step served_most book_served_most port_served_most after_serving_most watch_served_most after_watch_serving
    task_deeds task_refusal task_held
version_step b = refl

abbrev pub root_fids : List (ℕ × Fid)
root_fids = (0, fresh Root) ∷ []

pub attach_step : (b : Begun) → step (begun (Some 8192) [] [] empty_book b) attach ≡ begun (Some 8192) root_fids []
    empty_book (told b 1 (r.Attach (qid_of Root)))
unfolding step served_most book_served_most port_served_most after_serving_most watch_served_most after_watch_serving
    task_deeds task_refusal task_held
attach_step b = refl

abbrev pub new_story : WindowStory
new_story = named_story []

abbrev pub walked_fids : List (ℕ × Fid)
walked_fids = (0, fresh Root) ∷ (1, fresh (File 1 file.Body)) ∷ []

pub walk_body_step : (b : Begun) → step (begun (Some 8192) root_fids [] empty_book b) walk_body
    ≡ begun (Some 8192) walked_fids (Some new_story ∷ []) empty_book
    (told b 2 (r.Walk (qid_of NewDir ∷ qid_of (File 1 file.Body) ∷ [])))
unfolding step served_most book_served_most port_served_most after_serving_most watch_served_most after_watch_serving
    course walk_one entry_named file_named entries task_deeds task_refusal task_held
walk_body_step b = refl

abbrev pub opened_fids : List (ℕ × Fid)
opened_fids = (0, fresh Root) ∷ (1, body_fid) ∷ []

pub open_body_step : (b : Begun) → step (begun (Some 8192) walked_fids (Some new_story ∷ []) empty_book b) open_body
    ≡ begun (Some 8192) opened_fids (Some new_story ∷ []) empty_book (told b 3 (r.Open (qid_of (File 1 file.Body)) 0))
unfolding step served_most book_served_most port_served_most after_serving_most watch_served_most after_watch_serving
    may_open task_deeds task_refusal task_held
open_body_step b = refl

-- ---- the walk to window 1, whose name is a decimal

abbrev pub world_one : World
world_one = world_of (shown_windows (Some new_story ∷ []))

-- the names of the ports, of which there is one from the start
abbrev pub ports_one : List (List ℕ)
ports_one = names_of beginning.ports

named_one : entry_named world_one ports_one Root (codes "1") ≡ Some (Window 1)
unfolding entry_named entries
named_one = ap (λ (name : List ℕ). if bytes_eq (codes "1") name then Some (Window 1) else None)
    (decimal_digit 1 (omega arith))

event_course : course world_one ports_one (Window 1) (codes "event" ∷ [])
    ≡ record { qids = qid_of (File 1 file.Event) ∷ []; end = end.At (File 1 file.Event) }
unfolding course walk_one entry_named entries
event_course = refl

course_one : course world_one ports_one Root (codes "1" ∷ codes "event" ∷ [])
    ≡ record { qids = qid_of (Window 1) ∷ qid_of (File 1 file.Event) ∷ []; end = end.At (File 1 file.Event) }
unfolding course walk_one
course_one =
    ap (λ (found : Option Node). onwards world_one (to_entry found)
    (λ m. course world_one ports_one m (codes "event" ∷ []))) named_one
    ∙ ap (λ (rest : Course). then_qid (qid_of (Window 1)) rest) event_course

pub walk_event_step : (b : Begun) → step (begun (Some 8192) opened_fids (Some new_story ∷ []) empty_book b) walk_event
    ≡ begun (Some 8192) ((0, fresh Root) ∷ (1, body_fid) ∷ (2, fresh (File 1 file.Event)) ∷ []) (Some new_story ∷ [])
    empty_book
    (told b 2 (r.Walk (qid_of (Window 1) ∷ qid_of (File 1 file.Event) ∷ [])))
unfolding step served_most book_served_most port_served_most after_serving_most watch_served_most after_watch_serving
    task_deeds task_refusal task_held
walk_event_step b =
    let s : State = begun (Some 8192) opened_fids (Some new_story ∷ []) empty_book b in
    ap (λ (rest : Course). after_story s (present s) walk_event (message_doing (present s)
    (reaction_or_refusal (arrives 2 world_one rest)) F)) course_one

-- ---- and so the rounds begin

abbrev pub facts_of : Begun → Facts
facts_of b = record {
  entries = b.entries;
  story = new_story;
  items = [];
  carry = [];
  latest = 0;
  unsent = b.unsent;
  replies = b.replies;
}

pub open_event_step : (b : Begun) → step (begun (Some 8192) ((0, fresh Root) ∷ (1, body_fid)
    ∷ (2, fresh (File 1 file.Event)) ∷ []) (Some new_story ∷ []) empty_book b) open_event
    ≡ standing [] [] (facts_of (told b 3 (r.Open (qid_of (File 1 file.Event)) 0)))
unfolding step served_most book_served_most port_served_most after_serving_most watch_served_most after_watch_serving
    may_open task_deeds task_refusal task_held
open_event_step b = refl

-- ---- lawful

string_of : (text : List ℕ) → is_text text ≡ true → length text < 2 ^ 16 → IsString text
string_of text utf8 short = record { text = utf8; len = short }

two_names : (a b : List ℕ) → IsString a → IsString b → AreNames (a ∷ b ∷ [])
two_names a b first second = (omega arith, each)
  where
    each : All IsString (a ∷ b ∷ [])
    each zero d h = first
    each (suc zero) d h = second
    each (suc (suc k)) d h = absurd (omega arith)

pub version_lawful : IsLawful version
unfolding is_text is_utf8 chars encode_utf8
version_lawful =
    let e : length (spelling_t (record { tag = no_tag; body = t.Version 8192 (codes "9P2000") })) ≡ 19 = refl in
    (omega arith, record { body = string_of (codes "9P2000") refl (omega arith); size = omega arith }, omega (arith, e))

pub attach_lawful : IsLawful attach
unfolding is_text is_utf8 chars encode_utf8
attach_lawful =
    let e : length (spelling_t (record { tag = 1; body = t.Attach 0 no_fid (codes "u") [] })) ≡ 20 = refl in (
      omega arith,
      record {
        body = (string_of (codes "u") refl (omega arith), string_of [] refl (omega arith));
        size =
            omega arith;
      },
      omega (arith, e),
    )

pub walk_body_lawful : IsLawful walk_body
unfolding is_text is_utf8 chars encode_utf8
walk_body_lawful =
    let e : length (spelling_t (record { tag = 2; body = t.Walk 0 1 (codes "new" ∷ codes "body" ∷ []) })) ≡ 28 = refl in
    let names : AreNames (codes "new" ∷ codes "body" ∷ []) =
    two_names (codes "new") (codes "body") (string_of (codes "new") refl (omega arith))
    (string_of (codes "body") refl (omega arith))
    in
    (omega arith, record { body = names; size = omega arith }, omega (arith, e))

pub walk_event_lawful : IsLawful walk_event
unfolding is_text is_utf8 chars encode_utf8
walk_event_lawful =
    let e : length (spelling_t (record { tag = 2; body = t.Walk 0 2 (codes "1" ∷ codes "event" ∷ []) })) ≡ 27 = refl in
    let names : AreNames (codes "1" ∷ codes "event" ∷ []) =
    two_names (codes "1") (codes "event") (string_of (codes "1") refl (omega arith))
    (string_of (codes "event") refl (omega arith))
    in
    (omega arith, record { body = names; size = omega arith }, omega (arith, e))

pub open_lawful : (fid mode : ℕ) → IsLawful (message 3 (t.Open fid mode))
open_lawful fid mode =
    let e : length (spelling_t (record { tag = 3; body = t.Open fid mode })) ≡ 12 = refl in
    (omega arith, record { body = tt; size = omega arith }, omega (arith, e))

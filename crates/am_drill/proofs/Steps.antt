-- What each event of a drill makes of the editor.
use Rattle.std.proofs.Common.{◌≡◌, ℕ, ◌+◌, Bool, true, false, not, List, [], ◌∷◌, ◌++◌, take, drop, Some, None}
use Rattle.std.proofs.Common.{option_map, refl, ap, ◌∙◌}
use Rattle.std.specs.Prelude.{replicate, if◌then◌else◌}
use Rattle.ninep_types.specs.declared.message.RBody.{RBody}
use Rattle.ninep_types.specs.declared.message.RBody.TheVariants as r
use Rattle.ninep_types.specs.Spelling.{spelling_r}
use Rattle.am_journal.specs.declared.event.Event.TheVariants as event
use Rattle.am_text.specs.Utf8.{utf8}
use Rattle.win_text.specs.BodyStories.{story_text}
use Rattle.core_outputs.specs.declared.reply.Reply.{Reply}
use Rattle.core_tasks.specs.Tasks.{task_deeds, task_refusal, task_held}
use Rattle.acme_core.specs.Run.{step}
use Rattle.core_outputs.specs.Unsent.{nothing_unsent, with_reply, put_replies}
use Rattle.am_drill.specs.Drill.{read, flush, poll}
use Rattle.fid_table.specs.declared.session.Waiting.{Waiting}
use Rattle.fid_table.specs.Tables.{after_done}
use Rattle.wait_queue.specs.declared.types.Asker.{Asker}
use Rattle.wait_queue.specs.declared.types.Asked.{Asked}
use Rattle.wait_queue.specs.declared.types.Asked.TheVariants.{Now, Waits}
use Rattle.wait_queue.specs.declared.types.Piece.{Piece}
use Rattle.core_scene.specs.Scenes.{no_scene}
use Rattle.core_events.specs.declared.response.Response.{Response}
use Rattle.core_events.specs.PortServing.{served_most as port_served_most, after_serving_most}
use Rattle.core_watch.specs.Serving.{served_most as watch_served_most, after_serving_most as after_watch_serving}
use Rattle.core_events.specs.Serving.{served_most, book_served_most, served_all, book_served_all}
use Rattle.core_events.proofs.Turns.{all_none, book_all_none}
use Rattle.core_events.specs.Asking.{said_to, waits_unless, book_asked}
use Rattle.core_events.specs.Waits.{ended}
use Rattle.core_steps.specs.Stages.{response, if_said}
use Rattle.core_parts.specs.States.{State}
use Rattle.core_steps.specs.Replies.{replies_of}
use Rattle.event_book.specs.BookState.{BookState, read_waits, after_answer, after_cancel, served_of, piece_for}
use Rattle.am_drill.proofs.Standing.{Facts, tables_with, book_with, standing}

-- the reply to the message of a tag
abbrev pub said_of : ℕ → RBody → Reply
said_of tag body = record { conn = 0; bytes = spelling_r (record { tag = tag; body = body }) }

-- after a message that is answered so
abbrev pub answered : Facts → ℕ → RBody → Facts
answered f tag body = record f {
  entries = f.entries + 1;
  unsent = with_reply f.unsent (spelling_r (record { tag = tag; body = body }));
  replies = said_of tag body ∷ [];
}

-- what the body shows to a read
abbrev pub shown : Facts → RBody
shown f = r.Read (take 32 (drop 0 (utf8 (story_text f.story.body))))

pub read_step : (f : Facts) → step (standing [] [] f) read ≡ standing [] [] (answered f 5 (shown f))
unfolding step served_most book_served_most port_served_most after_serving_most watch_served_most after_watch_serving
    task_deeds task_refusal task_held
read_step f = refl

pub flush_step : (f : Facts) → step (standing [] [] f) flush ≡ standing [] [] (answered f 11 r.Flush)
unfolding step served_most book_served_most port_served_most after_serving_most watch_served_most after_watch_serving
    task_deeds task_refusal task_held
flush_step f = refl

pub took_step : (f : Facts) → step (standing [] [] f) (event.Took 0) ≡ standing [] []
    (record f { entries = f.entries + 1; unsent = nothing_unsent; replies = [] })
unfolding step served_most book_served_most port_served_most after_serving_most watch_served_most after_watch_serving
    task_deeds task_refusal task_held
took_step f = refl

-- ---- the event file

-- the read of the event file, where it waits
abbrev pub reader : Asker
reader = record { conn = 0; tag = 10; opening = 1; count = 64 }

abbrev pub reading : Waiting
reading = record { conn = 0; tag = 10; fid = 2 }

-- whether it has to wait
abbrev pub waits : Facts → Bool
waits f = read_waits (book_with [] f) reader

-- what the read comes to, by whether it waits
abbrev pub asked_as : Bool → Facts → Asked
asked_as w f = if w then Waits else Now (piece_for (book_with [] f) reader)

-- the event file once it was asked, and what comes of that
abbrev pub book_asked_as : Bool → Facts → BookState
book_asked_as w f = book_asked false (asked_as w f) (book_with [] f) reader (f.entries + 1)

abbrev pub polled_with : Bool → Facts → List Response → BookState → State
polled_with w f served book =
    let said = (((if_said 0 10 1 (said_to false (asked_as w f)) ++ []) ++ []) ++ []) ++ served in
    record (standing [] [] f) {
      entries = f.entries + 1;
      tables = ended (waits_unless (said_to false (asked_as w f)) (tables_with []) 0 10 2) said;
      scene = record (no_scene false) { book = book };
      unsent = put_replies (f.unsent ∷ replicate 63 nothing_unsent) (replies_of said);
      replies = replies_of said;
    }

abbrev pub polled_as : Bool → Facts → State
polled_as w f = polled_with w f (served_all (f.entries + 1) (book_asked_as w f))
    (book_served_all (f.entries + 1) (book_asked_as w f))

polled : (f : Facts) → step (standing [] [] f) poll ≡ polled_as (waits f) f
unfolding step port_served_most after_serving_most watch_served_most after_watch_serving task_deeds task_refusal
    task_held
polled f = refl

-- the event file after the read, by whether it waits
abbrev pub book_as : Bool → Facts → BookState
book_as w f = if w then record (book_with [] f) { reads = reader ∷ []; latest = f.entries + 1 } else after_answer
    (book_with [] f) reader (f.entries + 1)

abbrev pub with_book : State → BookState → State
with_book s book = record s { scene = record (no_scene false) { book = book } }

-- a Tflush, by what is served before it
abbrev pub flushed_with : Facts → List Response → BookState → State
flushed_with f served book =
    let said = response 0 11 r.Flush ∷ served in
    record (standing [] [] f) {
      entries = f.entries + 1;
      tables = after_done (ended (tables_with (reading ∷ [])) said) 0 10;
      scene = record (no_scene false) { book = after_cancel book 0 10 };
      unsent = put_replies (f.unsent ∷ replicate 63 nothing_unsent) (replies_of said);
      replies = replies_of said;
    }

flushed : (f : Facts) → step (standing (reading ∷ []) (reader ∷ []) f) flush
    ≡ flushed_with f (served_all (f.entries + 1) (book_with (reader ∷ []) f))
    (book_served_all (f.entries + 1) (book_with (reader ∷ []) f))
unfolding step port_served_most after_serving_most watch_served_most after_watch_serving task_deeds task_refusal
    task_held
flushed f = refl

-- a read that has to wait isn't served
none_next : (f : Facts) (latest : ℕ) → waits f ≡ true → served_of (record (book_with [] f)
    { reads = reader ∷ []; latest = latest }) ≡ None
none_next f latest e =
    ap (λ (w : Bool). option_map {U = Asker × Piece} (λ r. (
      r,
      piece_for
          (record (book_with [] f) { reads = reader ∷ []; latest = latest }) r,
    )) (if not w then Some reader else None)) e

pub poll_waits_step : (f : Facts) → waits f ≡ true
    → step (standing [] [] f) poll ≡ standing (reading ∷ []) (reader ∷ [])
    (record f { entries = f.entries + 1; latest = f.entries + 1; replies = [] })
poll_waits_step f e =
    let at : ℕ = f.entries + 1 in
    let book : BookState = record (book_with [] f) { reads = reader ∷ []; latest = at } in
    let none : served_of book ≡ None = none_next f at e in
    let asked : book_asked_as true f ≡ book = ap (λ (w : Bool). book_as w f) e in
    polled f ∙ ap (λ (w : Bool). polled_as w f) e
    ∙ ap (λ (b : BookState). polled_with true f (served_all at b) (book_served_all at b)) asked
    ∙ ap (λ (xs : List Response). polled_with true f xs (book_served_all at book)) (all_none at book none)
    ∙ ap (λ (b : BookState). polled_with true f [] b) (book_all_none at book none)

-- a Tflush while it waits
pub flush_waiting_step : (f : Facts) → waits f ≡ true → step (standing (reading ∷ []) (reader ∷ []) f)
    flush ≡ standing [] [] (answered f 11 r.Flush)
flush_waiting_step f e =
    let at : ℕ = f.entries + 1 in
    let book : BookState = book_with (reader ∷ []) f in
    let none : served_of book ≡ None = none_next f f.latest e in
    flushed f ∙ ap (λ (xs : List Response). flushed_with f xs (book_served_all at book)) (all_none at book none)
    ∙ ap (λ (b : BookState). flushed_with f [] b) (book_all_none at book none)

-- where it is answered, with what is left then
pub poll_now_step : (f : Facts) → waits f ≡ false
    → step (standing [] [] f) poll
    ≡ with_book (standing [] [] (answered f 10 (r.Read (piece_for (book_with [] f) reader).bytes)))
    (after_answer (book_with [] f) reader (f.entries + 1))
unfolding served_most book_served_most port_served_most after_serving_most watch_served_most after_watch_serving
poll_now_step f e =
    let asked : book_asked_as false f ≡ after_answer (book_with [] f) reader (f.entries + 1) =
    ap (λ (w : Bool). book_as w f) e in
    polled f ∙ ap (λ (w : Bool). polled_as w f) e
    ∙ ap (λ (b : BookState). polled_with false f (served_all (f.entries + 1) b) (book_served_all (f.entries + 1) b))
    asked

-- What a letter that is written or typed makes of the editor.
use Rattle.std.proofs.Common.{◌≡◌, ℕ, ◌+◌, ◌<◌, Bool, true, false, List, [], ◌∷◌, ◌++◌, length, map, refl, ap, ◌∙◌}
use Rattle.std.proofs.Common.{arith, Option, Some, None, Ok, Err}
use Rattle.std.specs.Prelude.{nat_lt, ◌==◌, replicate, if◌then◌else◌}
use Rattle.std.specs.Option.{option_to_list}
use Rattle.std.proofs.lemmas.Bool.Decides.{nat_tests}
use Rattle.am_text.specs.Part.{part_of}
use Rattle.am_text.specs.Pieces.{Decoded}
use Rattle.am_text.specs.declared.range.Range.{Range}
use Rattle.ninep_types.specs.declared.message.RBody.TheVariants as r
use Rattle.edit_log.specs.declared.types.Edit.{Edit}
use Rattle.win_events.specs.declared.item.Item.{Item}
use Rattle.win_events.specs.declared.item.Origin.{Origin}
use Rattle.win_events.specs.declared.item.Origin.TheVariants.{E, K}
use Rattle.win_events.specs.declared.item.Sort.TheVariants.{BodyIns, BodyDel}
use Rattle.win_text.specs.BodyStories.{story_text, range_now}
use Rattle.core_windows.specs.declared.change.Change.{Change}
use Rattle.core_windows.specs.declared.change.Change.TheVariants as change
use Rattle.core_windows.specs.Windows.{Window}
use Rattle.core_windows.specs.declared.change.Setting.TheVariants as setting
use Rattle.core_windows.specs.Stories.{WindowStory, shown_windows, edited_story, set_story}
use Rattle.core_scene.specs.NewItems.{plain_item, put_item, items_of_edits}
use Rattle.core_fids.specs.declared.refusal.Refusal.TheVariants as refusal
use Rattle.core_answers.specs.Erring.{appends, fits_in}
use Rattle.core_fids.specs.Fids.{fid_with_part}
use Rattle.core_fids.specs.Refusals.{reaction_or_refusal}
use Rattle.core_answers.specs.Writing.{Twrite, append_reaction, change_reaction}
use Rattle.core_events.specs.declared.response.Response.{Response}
use Rattle.core_scene.specs.declared.deed.WindowItem.{WindowItem}
use Rattle.core_scene.specs.Scenes.{no_scene}
use Rattle.core_scene.specs.Told.{of_window}
use Rattle.core_events.specs.Putting.{put_all, put_living, ending}
use Rattle.core_events.specs.PortServing.{served_most as port_served_most, after_serving_most}
use Rattle.core_watch.specs.Serving.{served_most as watch_served_most, after_serving_most as after_watch_serving}
use Rattle.core_events.specs.Serving.{served_most, book_served_most, served_all, book_served_all}
use Rattle.core_events.specs.Waits.{ended}
use Rattle.event_book.specs.Lives.{fresh}
use Rattle.event_book.specs.WindowFiles.{WindowFile}
use Rattle.core_tasks.specs.declared.task.Task.TheVariants as task
use Rattle.core_tasks.specs.Tasks.{task_deeds, task_refusal, task_held}
use Rattle.core_intents.specs.Doings.{resolved, doing_of, message_doing}
use Rattle.core_parts.specs.Doing.{Doing}
use Rattle.core_intents.specs.Intents.{acting}
use Rattle.acme_core.specs.Run.{step}
use Rattle.core_steps.specs.Stages.{after_story, response}
use Rattle.core_parts.specs.States.{State, present}
use Rattle.core_intents.specs.Typing.{edits_with_dot}
use Rattle.core_steps.specs.Replies.{replies_of}
use Rattle.core_outputs.specs.Unsent.{nothing_unsent, put_replies}
use Rattle.am_drill.specs.Drill.{write, key}
use Rattle.am_drill.proofs.Letters.{letter_decoded}
use Rattle.am_drill.proofs.Shapes.{and_false, stays_listed}
use Rattle.am_drill.proofs.Standing.{Facts, tables_with, book_with, file_with, body_fid, standing}
use Rattle.am_drill.proofs.Steps.{answered}

-- ---- an event that edits the body, as far as it goes without knowing its items

abbrev pub finished : Facts → WindowStory → List Response → List WindowItem → State
finished f story first items =
    let at = f.entries + 1 in
    let put = put_living [] (book_with [] f) items in
    let said = first ++ served_all at put in
    record (standing [] [] f) {
      entries = at;
      tables = ended (tables_with []) said;
      windows = Some story ∷ [];
      scene = record (no_scene false) { book = put_all (book_served_all at put) (ending [] items) };
      unsent = put_replies (f.unsent ∷ replicate 63 nothing_unsent) (replies_of said);
      replies = replies_of said;
    }

-- the items of an edit of window 1
abbrev pub told : Origin → Edit → List WindowItem
told origin e = map (of_window 1) (items_of_edits origin (e ∷ []))

-- what the body is, and where dot is in it
abbrev pub text_of : Facts → List ℕ
text_of f = story_text f.story.body

abbrev pub dot_of : Facts → Range
dot_of f = range_now f.story.body.edits f.story.body.dot

-- an entry more
abbrev pub gone_on : Facts → Facts
gone_on f = record f { entries = f.entries + 1; replies = [] }

-- an item more
abbrev pub with_item : Facts → WindowStory → Item → Facts
with_item f story item = record f { story = story; items = f.items ++ fresh item ∷ [] }

-- ---- a letter that is written

abbrev pub end_edit : Facts → ℕ → Edit
end_edit f l = record { q0 = length (text_of f); q1 = length (text_of f); text = l ∷ [] }

abbrev pub story_written : Facts → ℕ → WindowStory
story_written f l = edited_story (end_edit f l ∷ []) (f.entries + 1) f.story

-- what a write of a letter asks of the fid 1
abbrev asked_for : ℕ → Twrite
asked_for l = record { number = 1; bytes = l ∷ [] }

abbrev pub written_doing : Facts → ℕ → Doing
written_doing f l = message_doing (present (standing [] [] f)) (change_reaction (asked_for l)
    (change.Edits 1 (end_edit f l ∷ []) ∷ []) body_fid) E

write_doing : (f : Facts) (l : ℕ) → l < 128 → length (text_of f) < 16777216
    → doing_of (present (standing [] [] f)) (write l) ≡ written_doing f l
write_doing f l ascii room =
    let windows : List (Option Window) = shown_windows (Some f.story ∷ []) in
    let fits : fits_in (text_of f) (l ∷ []) ≡ true = grind (arith, nat_tests) in
    ap (λ (d : Decoded). message_doing (present (standing [] [] f))
    (reaction_or_refusal (append_reaction windows (asked_for l) body_fid 1 d)) E) (letter_decoded l ascii)
    ∙ ap (λ (b : Bool). message_doing (present (standing [] [] f))
    (reaction_or_refusal (if b then Ok (change_reaction (asked_for l) (appends windows 1 (l ∷ []))
    (fid_with_part body_fid (part_of []))) else Err refusal.TextTooLong)) E) fits

written_so : (f : Facts) (l : ℕ) → after_story (standing [] [] f) (present (standing [] [] f)) (write l)
    (written_doing f l)
    ≡ finished f (story_written f l) (response 0 4 (r.Write 1) ∷ []) (told E (end_edit f l))
unfolding port_served_most after_serving_most watch_served_most after_watch_serving task_deeds task_refusal task_held
written_so f l = refl

abbrev pub letter_item : Origin → ℕ → ℕ → Item
letter_item origin at l = plain_item origin BodyIns (record { q0 = at; q1 = at + 1 }) (l ∷ [])

-- an edit that cuts nothing makes one item
one_item : (origin : Origin) (q0 q1 l : ℕ) → nat_lt q0 q1 ≡ false → told origin
    (record { q0 = q0; q1 = q1; text = l ∷ [] }) ≡ of_window 1 (letter_item origin q0 l) ∷ []
one_item origin q0 q1 l none =
    ap (λ (b : Bool). map (of_window 1) ((option_to_list (if b then Some
    (plain_item origin BodyDel (record { q0 = q0; q1 = q1 }) []) else None)
    ++ option_to_list (put_item origin BodyIns q0 (l ∷ []))) ++ [])) none

-- and the event file then has it
finished_with : (f : Facts) (story : WindowStory) (first : List Response) (item : Item)
    → finished f story first (of_window 1 item ∷ [])
    ≡ record (standing [] [] (with_item (gone_on f) story item)) {
      tables = ended (tables_with []) (first ++ []);
      unsent = put_replies (f.unsent ∷ replicate 63 nothing_unsent) (replies_of (first ++ []));
      replies = replies_of (first ++ []);
    }
unfolding served_most book_served_most port_served_most after_serving_most watch_served_most after_watch_serving
finished_with f story first item =
    ap (λ (files : List WindowFile). record (standing [] [] (with_item (gone_on f) story item)) {
      tables = ended (tables_with []) (first ++ []);
      scene = record (no_scene false)
          { book = record { files = files; owners = 1 ∷ []; reads = []; latest = f.latest } };
      unsent = put_replies (f.unsent ∷ replicate 63 nothing_unsent) (replies_of (first ++ []));
      replies = replies_of (first ++ []);
    }) (stays_listed (file_with f.items f.carry) (f.items ++ fresh item ∷ []) f.carry)

pub write_step : (f : Facts) (l : ℕ) → l < 128 → length (text_of f) < 16777216
    → step (standing [] [] f) (write l) ≡ standing [] [] (with_item (answered f 4 (r.Write 1)) (story_written f l)
    (letter_item E (length (text_of f)) l))
unfolding step task_deeds task_refusal task_held
write_step f l ascii room =
    let cut : nat_lt (length (text_of f)) (length (text_of f)) ≡ false = grind (arith, nat_tests) in
    ap (λ (d : Doing). after_story (standing [] [] f) (present (standing [] [] f)) (write l) d)
    (write_doing f l ascii room)
    ∙ written_so f l
    ∙ ap (λ (items : List WindowItem). finished f (story_written f l) (response 0 4 (r.Write 1) ∷ []) items)
    (one_item E (length (text_of f)) (length (text_of f)) l cut)
    ∙ finished_with f (story_written f l) (response 0 4 (r.Write 1) ∷ []) (letter_item E (length (text_of f)) l)

-- ---- a letter that is typed

abbrev pub dot_edit : Facts → ℕ → Edit
dot_edit f l = record { q0 = (dot_of f).q0; q1 = (dot_of f).q1; text = l ∷ [] }

abbrev pub dot_after : Facts → Range
dot_after f = record { q0 = (dot_of f).q0 + 1; q1 = (dot_of f).q0 + 1 }

abbrev pub story_typed : Facts → ℕ → WindowStory
story_typed f l = set_story (setting.Dot (dot_after f)) (edited_story (dot_edit f l ∷ []) (f.entries + 1) f.story)

-- what changes the window alone
abbrev pub changing : Facts → List Change → Doing
changing f cs = resolved (present (standing [] [] f)) (acting (task.Changes cs) K)

abbrev pub typed_doing : Facts → ℕ → Doing
typed_doing f l = changing f (edits_with_dot 1 (dot_edit f l ∷ []) (dot_after f))

key_doing : (f : Facts) (l : ℕ) → doing_of (present (standing [] [] f)) (key l) ≡ typed_doing f l
key_doing f l =
    ap (λ (b : Bool). changing f (edits_with_dot 1 (if b then [] else dot_edit f l ∷ []) (dot_after f)))
    (and_false ((dot_of f).q0 == (dot_of f).q1))

typed_so : (f : Facts) (l : ℕ) → after_story (standing [] [] f) (present (standing [] [] f)) (key l) (typed_doing f l)
    ≡ finished f (story_typed f l) [] (told K (dot_edit f l) ++ [])
unfolding port_served_most after_serving_most watch_served_most after_watch_serving task_deeds task_refusal task_held
typed_so f l = refl

pub key_step : (f : Facts) (l : ℕ) → (dot_of f).q0 ≡ (dot_of f).q1
    → step (standing [] [] f) (key l) ≡ standing [] [] (with_item (gone_on f) (story_typed f l)
    (letter_item K (dot_of f).q0 l))
unfolding step task_deeds task_refusal task_held
key_step f l null =
    let cut : nat_lt (dot_of f).q0 (dot_of f).q1 ≡ false = grind (arith, nat_tests) in
    ap (λ (d : Doing). after_story (standing [] [] f) (present (standing [] [] f)) (key l) d) (key_doing f l)
    ∙ typed_so f l
    ∙ ap (λ (items : List WindowItem). finished f (story_typed f l) [] (items ++ []))
    (one_item K (dot_of f).q0 (dot_of f).q1 l cut)
    ∙ finished_with f (story_typed f l) [] (letter_item K (dot_of f).q0 l)

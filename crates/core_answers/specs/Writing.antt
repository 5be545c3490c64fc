-- Twrite.
use Rattle.std.specs.Prelude.{is_some, ℕ, List, [], ◌∷◌, ◌++◌, length, Option, Some, None, Result, Ok, Err}
use Rattle.std.specs.Prelude.{if◌then◌else◌}
use Rattle.am_text.specs.Part.{part_bytes, part_of}
use Rattle.am_text.specs.Pieces.{Decoded, decode_part}
use Rattle.ninep_types.specs.declared.message.RBody.TheVariants as r
use Rattle.acme_watch.specs.declared.types.WatchFile.{WatchFile}
use Rattle.acme_watch.specs.declared.types.WatchFile.TheVariants.{Log, Jobs}
use Rattle.fid_table.specs.declared.types.Fid.{Fid}
use Rattle.core_windows.specs.declared.change.Change.{Change}
use Rattle.core_windows.specs.declared.change.Change.TheVariants as change
use Rattle.core_windows.specs.Windows.{Window, window_at, named}
use Rattle.core_fids.specs.declared.effect.Effect.TheVariants as effect
use Rattle.core_fids.specs.declared.effect.EventChange.TheVariants as events
use Rattle.core_fids.specs.declared.effect.Answer.TheVariants.{Says}
use Rattle.core_fids.specs.declared.effect.WatchOpening.{WatchOpening}
use Rattle.core_fids.specs.declared.effect.Demand.{Demand}
use Rattle.core_fids.specs.declared.effect.Demand.TheVariants as demand
use Rattle.core_fids.specs.declared.effect.Reaction.{Reaction}
use Rattle.core_fids.specs.Plainly.{does, demands}
use Rattle.core_fids.specs.declared.refusal.Refusal.{Refusal}
use Rattle.core_fids.specs.declared.refusal.Refusal.TheVariants as refusal
use Rattle.core_fids.specs.declared.content.Content.{Content}
use Rattle.core_fids.specs.declared.content.Content.TheVariants as content
use Rattle.core_answers.specs.Addressing.{addr_reaction, taking_reaction}
use Rattle.core_fids.specs.Contents.{content_of}
use Rattle.core_answers.specs.Erring.{fits_in, fits_tag, appends, errors_of, root_errors, errors_changes}
use Rattle.core_answers.specs.Erring.{errors_refusal}
use Rattle.core_fids.specs.Fids.{is_for_writing, fid_with_part, held_with, emptied_fid, watch_opening}
use Rattle.core_fids.specs.Servers.{ServerState, world_by, fid_by}
use Rattle.core_answers.specs.Reading.{use_refusal, or_reads}
use Rattle.core_answers.specs.declared.write.Writing.{Writing}
use Rattle.core_answers.specs.Texts.{text_at, right_of}

-- what a Twrite asks: the number of its fid, and the bytes; its offset counts for nothing
pub record Twrite : Type 0 where
  pub number : ℕ
  pub bytes : List ℕ

-- what is asked by a write to a fid
abbrev pub asked_in : Writing → Twrite
asked_in writing = record { number = writing.number; bytes = writing.bytes.now }

-- the whole count is answered
abbrev pub change_reaction : Twrite → List Change → Fid → Reaction
change_reaction asked changes fid = does (effect.Puts asked.number fid) changes (r.Write (length asked.bytes))

-- what is done where the window lives
abbrev pub if_lives : Option Window → Result Reaction Refusal → Result Reaction Refusal
if_lives window done = if is_some window then done else Err refusal.WindowDeleted

-- ---- texts: whole runes are put at the end, and the bytes of an unfinished one are held for the fid

-- the whole runes of what the fid holds and of these bytes, and the bytes of an unfinished one
abbrev pub whole_runes : Fid → List ℕ → Decoded
whole_runes fid bytes = decode_part (part_bytes fid.part ++ bytes)

-- what a write to `body` does
abbrev pub append_reaction : List (Option Window) → Twrite → Fid → ℕ → Decoded → Result Reaction Refusal
append_reaction windows asked fid w decoded = if_lives (window_at windows w)
    (if fits_in (text_at windows w) decoded.text
    then Ok (change_reaction asked (appends windows w decoded.text) (fid_with_part fid (part_of decoded.rest)))
    else Err refusal.TextTooLong)

-- the right part of the tag alone can be written
abbrev pub add_reaction : List (Option Window) → Twrite → Fid → ℕ → Decoded → Result Reaction Refusal
add_reaction windows asked fid w decoded = if_lives (window_at windows w)
    (if fits_tag (right_of (window_at windows w)) decoded.text
    then Ok (change_reaction asked (change.Adds w decoded.text ∷ []) (fid_with_part fid (part_of decoded.rest)))
    else Err refusal.TextTooLong)

-- the reaction, where nothing refuses it
abbrev pub or_errors : Option Refusal → Reaction → Result Reaction Refusal
or_errors None reaction = Ok reaction
or_errors (Some refusal) reaction = Err refusal

-- what is written to `errors` or `cons` goes to the errors window of that name
abbrev pub errors_reaction : List (Option Window) → Twrite → Fid → List ℕ → Decoded → Result Reaction Refusal
errors_reaction windows asked fid name decoded = or_errors (errors_refusal windows (named windows name) decoded.text)
    (change_reaction asked (errors_changes windows name (named windows name) decoded.text)
    (fid_with_part fid (part_of decoded.rest)))

-- ---- control messages, and event messages that are written back: the scene does them, or refuses

-- a write that asks this of the scene
abbrev pub asking_reaction : List (Option Window) → Twrite → ℕ → Demand → Result Reaction Refusal
asking_reaction windows asked w d = if_lives (window_at windows w) (Ok (demands d (length asked.bytes)))

-- ---- rules and plumb messages: the scene takes what is whole, and the fid holds the rest

-- the fid is emptied here; what the scene leaves of the text is put into it where the scene is known
abbrev pub demand_reaction : Twrite → Fid → Demand → Reaction
demand_reaction asked fid d = record {
  effect = effect.Puts asked.number (emptied_fid fid);
  events = events.Nothing;
  changes = [];
  demand = d;
  answer = Says (r.Write (length asked.bytes));
}

-- ---- answers to requests: the scene takes them, or refuses

-- an answer to a request is one by an opening of `jobs`
abbrev pub answer_reaction : Twrite → Option WatchOpening → Result Reaction Refusal
answer_reaction asked None = Err refusal.FidIsNotOpen
answer_reaction asked (Some o) = Ok (demands (demand.Answers o.opening asked.bytes) (length asked.bytes))

-- a write to `jobs` is an answer; `log` isn't written
abbrev pub watch_reaction : Twrite → Fid → WatchFile → Result Reaction Refusal
watch_reaction asked fid Log = Err refusal.PermissionDenied
watch_reaction asked fid Jobs = answer_reaction asked (watch_opening fid)

-- ---- all files

-- what is written to a file that holds nothing is dropped
abbrev pub write_content : List (Option Window) → Twrite → Fid → Content → Result Reaction Refusal
write_content windows asked fid content.Directory = Err refusal.PermissionDenied
write_content windows asked fid (content.BodyText w) = append_reaction windows asked fid w (whole_runes fid asked.bytes)
write_content windows asked fid (content.TagText w) = add_reaction windows asked fid w (whole_runes fid asked.bytes)
write_content windows asked fid (content.CtlText w) = asking_reaction windows asked w (demand.Controls w asked.bytes)
write_content windows asked fid (content.AddrText w) = addr_reaction w asked.bytes (window_at windows w)
write_content windows asked fid (content.DataOf w) = taking_reaction w asked.bytes (window_at windows w)
write_content windows asked fid (content.XdataOf w) = taking_reaction w asked.bytes (window_at windows w)
write_content windows asked fid content.IndexText = Err refusal.PermissionDenied
write_content windows asked fid (content.ErrorsOf w) =
    errors_reaction windows asked fid (errors_of (window_at windows w)) (whole_runes fid asked.bytes)
write_content windows asked fid content.ConsErrors =
    errors_reaction windows asked fid root_errors (whole_runes fid asked.bytes)
write_content windows asked fid content.Empty = Ok (does effect.Nothing [] (r.Write (length asked.bytes)))
write_content windows asked fid (content.EventsOf w) = asking_reaction windows asked w (demand.WriteBack w asked.bytes)
write_content windows asked fid content.SendText =
    Ok (demand_reaction asked fid (demand.Sends (held_with fid asked.bytes)))
write_content windows asked fid content.RulesText =
    Ok (demand_reaction asked fid (demand.AddsRules (held_with fid asked.bytes)))
write_content windows asked fid (content.PortOf k) = Err refusal.PermissionDenied
write_content windows asked fid (content.WatchOf file) = watch_reaction asked fid file

-- what a Twrite of this fid does
abbrev pub write_fid : ServerState → Twrite → Option Fid → Result Reaction Refusal
write_fid server asked None = Err refusal.UnknownFid
write_fid server asked (Some fid) = or_reads (use_refusal (world_by server) server.plumber.names fid is_for_writing)
    (write_content server.windows asked fid (content_of fid.node))

-- what a Twrite does
abbrev pub write_reaction : ServerState → Twrite → Result Reaction Refusal
write_reaction server asked = write_fid server asked (fid_by server asked.number)

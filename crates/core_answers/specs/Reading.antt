-- Tread.
use Rattle.std.specs.Prelude.{ℕ, ◌-◌, Bool, min, List, [], Option, Some, None, Result, Ok, Err, if◌then◌else◌}
use Rattle.ninep_types.specs.declared.message.RBody.TheVariants as r
use Rattle.acme_tree.specs.Trees.{is_live}
use Rattle.acme_tree.specs.declared.node.World.{World}
use Rattle.fid_table.specs.declared.types.Fid.{Fid}
use Rattle.fid_table.specs.Tables.{msize_of}
use Rattle.core_fids.specs.declared.effect.Effect.TheVariants as effect
use Rattle.core_fids.specs.declared.effect.EventChange.TheVariants as events
use Rattle.core_fids.specs.declared.effect.Demand.TheVariants as demand
use Rattle.core_fids.specs.declared.effect.Answer.{Answer}
use Rattle.core_fids.specs.declared.effect.WatchOpening.{WatchOpening}
use Rattle.core_fids.specs.declared.effect.Answer.TheVariants.{Reads, ReadsPort, ReadsWatch}
use Rattle.core_fids.specs.declared.effect.Reaction.{Reaction}
use Rattle.core_fids.specs.Plainly.{does}
use Rattle.core_fids.specs.declared.refusal.Refusal.{Refusal}
use Rattle.core_fids.specs.declared.refusal.Refusal.TheVariants as refusal
use Rattle.core_fids.specs.declared.content.Content.{Content}
use Rattle.core_fids.specs.declared.content.Content.TheVariants as content
use Rattle.ninep_types.specs.Limits.{rread_head}
use Rattle.core_answers.specs.Addressing.{addr_text, data_reaction, xdata_reaction}
use Rattle.core_fids.specs.Contents.{content_of}
use Rattle.core_fids.specs.Directories.{Tread, place_at, read_dir}
use Rattle.core_fids.specs.Fids.{is_for_reading, event_opening, port_opening, watch_opening}
use Rattle.core_fids.specs.Servers.{ServerState, world_by, fid_by}
use Rattle.core_windows.specs.Windows.{window_at}
use Rattle.core_answers.specs.Texts.{part_at, read_of, text_at, tag_if_live, ctl_if_live, index_from}

-- what is answered where nothing changes
abbrev pub bytes_reaction : List ℕ → Reaction
bytes_reaction bytes = does effect.Nothing [] (r.Read bytes)

-- ---- event files, ports, `log` and `jobs`

-- what is answered so, once something is there, where nothing changes
abbrev pub waiting_reaction : Answer → Reaction
waiting_reaction answer = record {
  effect = effect.Nothing;
  events = events.Nothing;
  changes = [];
  demand = demand.Nothing;
  answer = answer;
}

-- A read of an event file gets what is there for its opening, or it waits.
abbrev pub read_opening : Tread → Option ℕ → Result Reaction Refusal
read_opening asked None = Err refusal.FidIsNotOpen
read_opening asked (Some opening) = Ok (waiting_reaction (Reads asked.number opening asked.count))

-- A read of a port likewise.
abbrev pub read_port : Tread → Option ℕ → Result Reaction Refusal
read_port asked None = Err refusal.FidIsNotOpen
read_port asked (Some opening) = Ok (waiting_reaction (ReadsPort asked.number opening asked.count))

-- A read of `log` or of `jobs` likewise.
abbrev pub read_watch : Tread → Option WatchOpening → Result Reaction Refusal
read_watch asked None = Err refusal.FidIsNotOpen
read_watch asked (Some opening) = Ok (waiting_reaction (ReadsWatch asked.number opening asked.count))

-- ---- Tread

-- a read, by what the fid's node holds
abbrev pub read_content : ServerState → Tread → Fid → Content → Result Reaction Refusal
read_content server asked fid content.Directory = read_dir server asked fid (place_at fid asked.offset)
read_content server asked fid (content.BodyText w) =
    Ok (bytes_reaction (read_of (text_at server.windows w) asked.offset asked.count))
read_content server asked fid (content.TagText w) =
    Ok (bytes_reaction (read_of (tag_if_live (window_at server.windows w)) asked.offset asked.count))
read_content server asked fid (content.CtlText w) =
    Ok (bytes_reaction (part_at (ctl_if_live w (window_at server.windows w)) asked.offset asked.count))
read_content server asked fid (content.AddrText w) =
    Ok (bytes_reaction (part_at (addr_text (window_at server.windows w)) asked.offset asked.count))
read_content server asked fid (content.DataOf w) = Ok (data_reaction w asked.count (window_at server.windows w))
read_content server asked fid (content.XdataOf w) = Ok (xdata_reaction w asked.count (window_at server.windows w))
read_content server asked fid content.IndexText =
    Ok (bytes_reaction (part_at (index_from 1 server.windows) asked.offset asked.count))
read_content server asked fid (content.ErrorsOf w) = Err refusal.PermissionDenied
read_content server asked fid content.ConsErrors = Ok (bytes_reaction [])
read_content server asked fid content.Empty = Ok (bytes_reaction [])
read_content server asked fid (content.EventsOf w) = read_opening asked (event_opening fid)
read_content server asked fid content.SendText = Err refusal.PermissionDenied
read_content server asked fid content.RulesText =
    Ok (bytes_reaction (part_at server.plumber.text asked.offset asked.count))
read_content server asked fid (content.PortOf k) = read_port asked (port_opening fid)
read_content server asked fid (content.WatchOf file) = read_watch asked (watch_opening fid)

-- a fid is used where it was opened for that
abbrev pub mode_refusal : Option ℕ → (ℕ → Bool) → Option Refusal
mode_refusal None is_for = Some refusal.FidIsNotOpen
mode_refusal (Some mode) is_for = if is_for mode then None else Some refusal.PermissionDenied

-- why a fid isn't read or written
abbrev pub use_refusal : World → List (List ℕ) → Fid → (ℕ → Bool) → Option Refusal
use_refusal world ports fid is_for =
    if is_live world ports fid.node then mode_refusal fid.mode is_for else Some refusal.WindowDeleted

-- the count is lowered to the msize less 11, the bytes of an Rread before its data
abbrev pub most : ℕ → Option ℕ → ℕ
most count None = 0
most count (Some msize) = min count (msize - rread_head)

-- the reaction, where nothing refuses it
abbrev pub or_reads : Option Refusal → Result Reaction Refusal → Result Reaction Refusal
or_reads None done = done
or_reads (Some refusal) done = Err refusal

-- what a Tread of this fid does
abbrev pub read_fid : ServerState → Tread → Option Fid → Result Reaction Refusal
read_fid server asked None = Err refusal.UnknownFid
read_fid server asked (Some fid) = or_reads (use_refusal (world_by server) server.plumber.names fid is_for_reading)
    (read_content server asked fid (content_of fid.node))

-- what is asked, with the count that an Rread has room for
abbrev pub lowered : ServerState → Tread → Tread
lowered server asked = record asked { count = most asked.count (msize_of server.tables server.conn) }

-- what a Tread does
abbrev pub read_reaction : ServerState → Tread → Result Reaction Refusal
read_reaction server asked = read_fid server (lowered server asked) (fid_by server asked.number)

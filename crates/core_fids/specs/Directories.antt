-- Directory reads, and Tstat.
use Rattle.std.specs.Prelude.{ℕ, ◌+◌, ◌==◌, List, [], ◌∷◌, length, map, drop, Option, Some, None, Result, Ok, Err}
use Rattle.std.specs.Prelude.{if◌then◌else◌}
use Rattle.ninep_types.specs.declared.message.RBody.TheVariants as r
use Rattle.ninep_frame.specs.declared.stat.Stat.{Stat}
use Rattle.ninep_frame.specs.Records.{record_of}
use Rattle.ninep_frame.specs.Directories.{records, fitting}
use Rattle.acme_tree.specs.Trees.{is_live, stat_of, entries}
use Rattle.acme_tree.specs.declared.node.Node.{Node}
use Rattle.acme_tree.specs.declared.node.Node.TheVariants.{Send, Rules}
use Rattle.acme_tree.specs.declared.node.World.{World}
use Rattle.fid_table.specs.declared.types.Fid.{Fid}
use Rattle.core_fids.specs.declared.effect.Effect.TheVariants as effect
use Rattle.core_fids.specs.declared.effect.Reaction.{Reaction}
use Rattle.core_fids.specs.Plainly.{does}
use Rattle.core_fids.specs.declared.refusal.Refusal.{Refusal}
use Rattle.core_fids.specs.declared.refusal.Refusal.TheVariants as refusal
use Rattle.core_fids.specs.Fids.{placed_fid}
use Rattle.core_fids.specs.Servers.{ServerState, world_by}
use Rattle.core_fids.specs.declared.listing.Reading.{Reading}

-- what a Tread asks: the number of its fid, the place from which it reads, and the most bytes that it gets
pub record Tread : Type 0 where
  pub number : ℕ
  pub offset : ℕ
  pub count : ℕ

-- what is asked by a read of a fid
abbrev pub asked_in : Reading → Tread
asked_in reading = record { number = reading.number; offset = reading.offset; count = reading.count }

-- how many records a read goes on after: none at the front, those that were given at the offset
-- where the last read ended
abbrev pub place_at : Fid → ℕ → Option ℕ
place_at fid offset = if offset == 0 then Some 0 else (if offset == fid.given then Some fid.skip else None)

-- what the plumber's root lists before its ports
abbrev pub plumber_front : List Node
plumber_front = Send ∷ Rules ∷ []

-- the records after those, as many whole ones as fit
abbrev pub dir_part : World → List (List ℕ) → Node → ℕ → ℕ → List Stat
dir_part world ports node skip count = fitting count (drop skip (map (stat_of ports) (entries world ports node)))

-- the record of the first, if there is one
abbrev pub first_record : List Stat → Option (List ℕ)
first_record [] = None
first_record (s ∷ stats) = Some (record_of s)

-- a read that gives these, and goes on behind them
abbrev pub goes_on : Tread → Fid → ℕ → List Stat → Reaction
goes_on asked fid skip part =
    does (effect.Puts asked.number (placed_fid fid (asked.offset + length (records part)) (skip + length part))) []
    (r.Read (records part))

-- a read of a directory, from the entry at which its offset stands
abbrev pub read_dir : ServerState → Tread → Fid → Option ℕ → Result Reaction Refusal
read_dir server asked fid None = Err refusal.BadDirectoryOffset
read_dir server asked fid (Some skip) =
    Ok (goes_on asked fid skip (dir_part (world_by server) server.plumber.names fid.node skip asked.count))

-- ---- Tstat

-- what a Tstat of this fid does
abbrev pub stat_fid : ServerState → Option Fid → Result Reaction Refusal
stat_fid server None = Err refusal.UnknownFid
stat_fid server (Some fid) = if is_live (world_by server) server.plumber.names fid.node
    then Ok (does effect.Nothing [] (r.Stat (record_of (stat_of server.plumber.names fid.node))))
    else Err refusal.WindowDeleted

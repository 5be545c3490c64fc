-- Walks: where the names lead, and what a Twalk does.
use Rattle.std.specs.Prelude.{ℕ, ◌==◌, List, [], ◌∷◌, length, Option, Some, None, Result, Ok, Err, if◌then◌else◌}
use Rattle.ninep_types.specs.declared.message.Qid.{Qid}
use Rattle.ninep_types.specs.declared.message.RBody.TheVariants as r
use Rattle.acme_tree.specs.declared.node.Node.{Node}
use Rattle.acme_tree.specs.declared.node.Node.TheVariants.{File}
use Rattle.acme_tree.specs.declared.node.World.{World}
use Rattle.acme_tree.specs.declared.walk.Step.{Step}
use Rattle.acme_tree.specs.declared.walk.Step.TheVariants.{Found, Make, NotFound, NotDir, Deleted, Windows}
use Rattle.acme_tree.specs.Trees.{qid_of}
use Rattle.acme_tree.specs.Walks.{walk_one}
use Rattle.fid_table.specs.declared.types.Fid.{Fid}
use Rattle.core_windows.specs.declared.change.Change.TheVariants as change
use Rattle.ninep_types.specs.Limits.{no_fid}
use Rattle.core_fids.specs.declared.effect.Effect.TheVariants as effect
use Rattle.core_fids.specs.declared.effect.Reaction.{Reaction}
use Rattle.core_fids.specs.Plainly.{does}
use Rattle.core_fids.specs.declared.refusal.Refusal.{Refusal}
use Rattle.core_fids.specs.declared.refusal.Refusal.TheVariants as refusal
use Rattle.core_fids.specs.declared.walking.Course.{Course}
use Rattle.core_fids.specs.declared.walking.WalkEnd.{WalkEnd}
use Rattle.core_fids.specs.declared.walking.WalkEnd.TheVariants as end
use Rattle.core_fids.specs.Servers.{ServerState, world_by, fid_by}
use Rattle.core_fids.specs.Fids.{is_used, fids_full, is_open, fresh}

-- ---- names

-- a qid in front
abbrev pub then_qid : Qid → Course → Course
then_qid qid course = record { qids = qid ∷ course.qids; end = course.end }

-- the walk stops here
abbrev pub stops : Refusal → Course
stops refusal = record { qids = []; end = end.Stops refusal }

-- a step, and the course from where it leads
abbrev pub onwards : World → Step → (Node → Course) → Course
onwards world (Found node) rest = then_qid (qid_of node) (rest node)
onwards world (Make file) rest = record { qids = qid_of (File world.next file) ∷ []; end = end.Makes file }
onwards world NotFound rest = stops refusal.FileNotFound
onwards world NotDir rest = stops refusal.NotADirectory
onwards world Deleted rest = stops refusal.WindowDeleted
onwards world Windows rest = stops refusal.TooManyWindows

-- where the names lead from a node, with the qid of each that is found; the ports have these names
unfoldable pub course : World → List (List ℕ) → Node → List (List ℕ) → Course
course world ports node [] = record { qids = []; end = end.At node }
course world ports node (n ∷ ns) =
    onwards world (walk_one world ports node n (length ns == 0)) (λ m. course world ports m ns)

-- ---- Twalk

-- the number that the walk's end gets: that of the fid itself, or a new one
abbrev pub new_refusal : ServerState → ℕ → Fid → Option Refusal
new_refusal server newfid fid =
    if newfid == no_fid then Some refusal.BadFid else
    (if is_used server.tables server.conn newfid then Some refusal.FidInUse else
    (if is_open fid then Some refusal.FidIsOpen else
    (if fids_full server.tables server.conn then Some refusal.TooManyFids else None)))

-- why a walk from this fid is refused, whatever its names
abbrev pub walk_refusal : ServerState → ℕ → ℕ → Fid → Option Refusal
walk_refusal server number newfid fid =
    if newfid == number then (if is_open fid then Some refusal.FidIsOpen else None) else new_refusal server newfid fid

-- Where all names are found, the number names the last node. Where the first isn't, the walk is refused; where a later
-- one isn't, the qids before it are answered, and the number is as it was.
abbrev pub arrives_at : ℕ → World → List Qid → WalkEnd → Result Reaction Refusal
arrives_at newfid world qids (end.At node) = Ok (does (effect.Puts newfid (fresh node)) [] (r.Walk qids))
arrives_at newfid world qids (end.Makes file) =
    Ok (does (effect.Puts newfid (fresh (File world.next file))) (change.Makes [] ∷ []) (r.Walk qids))
arrives_at newfid world qids (end.Stops refusal) =
    if length qids == 0 then Err refusal else Ok (does effect.Nothing [] (r.Walk qids))

-- what a walk does that took this course
abbrev pub arrives : ℕ → World → Course → Result Reaction Refusal
arrives newfid world course = arrives_at newfid world course.qids course.end

-- the walk, where nothing refuses it
abbrev pub or_walks : Option Refusal → Result Reaction Refusal → Result Reaction Refusal
or_walks None walked = walked
or_walks (Some refusal) walked = Err refusal

-- what a Twalk from this fid does
abbrev pub walk_from : ServerState → ℕ → ℕ → List (List ℕ) → Option Fid → Result Reaction Refusal
walk_from server number newfid names None = Err refusal.UnknownFid
walk_from server number newfid names (Some fid) = or_walks (walk_refusal server number newfid fid)
    (arrives newfid (world_by server) (course (world_by server) server.plumber.names fid.node names))

-- what a Twalk does
abbrev pub walk_reaction : ServerState → ℕ → ℕ → List (List ℕ) → Result Reaction Refusal
walk_reaction server number newfid names = walk_from server number newfid names (fid_by server number)

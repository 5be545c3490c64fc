-- Tversion and Tattach.
use Rattle.std.specs.Prelude.{[], ℕ, Bool, ◌==◌, ◌||◌, not, nat_eq, nat_lt, min, List, length, codes, Option, Some}
use Rattle.std.specs.Prelude.{None, Result, Ok, Err, if◌then◌else◌}
use Rattle.std.specs.Str.{bytes_eq}
use Rattle.std.specs.List.{starts_with}
use Rattle.ninep_types.specs.Limits.{max_msize, min_msize, no_fid, version_name}
use Rattle.ninep_types.specs.declared.message.RBody.TheVariants as r
use Rattle.acme_tree.specs.declared.node.Node.{Node}
use Rattle.acme_tree.specs.declared.node.Node.TheVariants.{Root, PlumbRoot}
use Rattle.acme_tree.specs.Trees.{qid_of}
use Rattle.core_fids.specs.declared.effect.Effect.TheVariants as effect
use Rattle.core_fids.specs.declared.effect.Reaction.{Reaction}
use Rattle.core_fids.specs.Plainly.{does}
use Rattle.core_fids.specs.declared.refusal.Refusal.{Refusal}
use Rattle.core_fids.specs.declared.refusal.Refusal.TheVariants as refusal
use Rattle.core_fids.specs.Fids.{is_used, fids_full, fresh}
use Rattle.core_fids.specs.Servers.{ServerState}
use Rattle.core_fids.specs.Refusals.{refusal_with_effect}

-- ---- Tversion

-- `9P2000`, or that and more after a full stop
abbrev pub is_version : List ℕ → Bool
is_version version = bytes_eq version version_name || starts_with nat_eq version (codes "9P2000.")

-- Fids are freed in each case. The msize is at least 256, and at most 65,560 is answered; a version that
-- isn't known opens no session.
abbrev pub agreement : ℕ → List ℕ → Reaction
agreement msize version = if is_version version
    then does (effect.Begins (Some msize)) [] (r.Version msize version_name)
    else does (effect.Begins None) [] (r.Version msize (codes "unknown"))

-- what a Tversion does
abbrev pub version_reaction : ℕ → List ℕ → Reaction
version_reaction msize version = if nat_lt msize min_msize
    then refusal_with_effect (effect.Begins None) refusal.MsizeTooSmall
    else agreement (min msize max_msize) version

-- ---- Tattach

-- the editor's tree, of which `acme` is the name, or none
abbrev pub is_editor : List ℕ → Bool
is_editor aname = (length aname == 0) || bytes_eq aname (codes "acme")

-- the root of the tree of that name
abbrev pub root_of : List ℕ → Option Node
root_of aname = if is_editor aname then Some Root else (if bytes_eq aname (codes "plumb") then Some PlumbRoot else None)

-- why a Tattach is refused, whatever its tree
abbrev pub attach_refusal : ServerState → ℕ → ℕ → Option Refusal
attach_refusal server fid afid =
    if fid == no_fid then Some refusal.BadFid else
    (if is_used server.tables server.conn fid then Some refusal.FidInUse else
    (if not (afid == no_fid) then Some refusal.AuthenticationNotRequired else
    (if fids_full server.tables server.conn then Some refusal.TooManyFids else None)))

-- the fid of a root, if there is such a tree
abbrev pub attach_to : ℕ → Option Node → Result Reaction Refusal
attach_to fid None = Err refusal.NoSuchTree
attach_to fid (Some root) = Ok (does (effect.Puts fid (fresh root)) [] (r.Attach (qid_of root)))

-- the fid of the tree's root, where nothing refuses it
abbrev pub or_attaches : Option Refusal → ℕ → List ℕ → Result Reaction Refusal
or_attaches None fid aname = attach_to fid (root_of aname)
or_attaches (Some refusal) fid aname = Err refusal

-- what a Tattach does
abbrev pub attach_reaction : ServerState → ℕ → ℕ → List ℕ → Result Reaction Refusal
attach_reaction server fid afid aname = or_attaches (attach_refusal server fid afid) fid aname

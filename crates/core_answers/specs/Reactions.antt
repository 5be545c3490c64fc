-- What each message does, and its answer.
use Rattle.std.specs.Prelude.{[], ℕ, Bool, true, false, not, ◌&&◌, Result, Ok, Err, if◌then◌else◌}
use Rattle.ninep_types.specs.declared.message.TBody.{TBody}
use Rattle.ninep_types.specs.declared.message.TBody.TheVariants as t
use Rattle.ninep_types.specs.declared.message.RBody.TheVariants as r
use Rattle.fid_table.specs.Tables.{msize_of}
use Rattle.core_fids.specs.declared.effect.Effect.TheVariants as effect
use Rattle.core_fids.specs.declared.effect.EventChange.TheVariants as events
use Rattle.core_fids.specs.declared.effect.Demand.TheVariants as demand
use Rattle.core_fids.specs.declared.effect.Answer.TheVariants.{Says}
use Rattle.core_fids.specs.declared.effect.Reaction.{Reaction}
use Rattle.core_fids.specs.declared.refusal.Refusal.{Refusal}
use Rattle.core_fids.specs.declared.refusal.Refusal.TheVariants as refusal
use Rattle.core_fids.specs.Refusals.{refusal_reaction, reaction_or_refusal}
use Rattle.core_fids.specs.Fids.{is_there}
use Rattle.core_fids.specs.Servers.{ServerState, fid_by}
use Rattle.core_fids.specs.Attaching.{version_reaction, attach_reaction}
use Rattle.core_fids.specs.Walking.{walk_reaction}
use Rattle.core_fids.specs.Opening.{open_fid, denial, clunk_fid, remove_fid}
use Rattle.core_fids.specs.Directories.{stat_fid}
use Rattle.core_answers.specs.Reading.{read_reaction}
use Rattle.core_answers.specs.Writing.{write_reaction}

-- Tflush is never refused: the read of that tag waits no more, if it did
abbrev pub flush_reaction : ℕ → Reaction
flush_reaction oldtag = record {
  effect = effect.Nothing;
  events = events.Cancels oldtag;
  changes = [];
  demand = demand.Nothing;
  answer = Says r.Flush;
}

-- what a message does in a session
abbrev pub session_reaction : ServerState → TBody → Result Reaction Refusal
session_reaction server (t.Version msize version) = Ok (version_reaction msize version)
session_reaction server (t.Auth afid uname aname) = Err refusal.AuthenticationNotRequired
session_reaction server (t.Flush oldtag) = Ok (flush_reaction oldtag)
session_reaction server (t.Attach fid afid uname aname) = attach_reaction server fid afid aname
session_reaction server (t.Walk fid newfid names) = walk_reaction server fid newfid names
session_reaction server (t.Open fid mode) = open_fid server fid (fid_by server fid) mode
session_reaction server (t.Create fid name perm mode) = denial (fid_by server fid)
session_reaction server (t.Read fid offset count) =
    read_reaction server (record { number = fid; offset = offset; count = count })
session_reaction server (t.Write fid offset bytes) = write_reaction server (record { number = fid; bytes = bytes })
session_reaction server (t.Clunk fid) = clunk_fid fid (fid_by server fid)
session_reaction server (t.Remove fid) = remove_fid fid (fid_by server fid)
session_reaction server (t.Stat fid) = stat_fid server (fid_by server fid)
session_reaction server (t.Wstat fid stat) = denial (fid_by server fid)

-- a Tversion alone needs no session
abbrev pub needs_session : TBody → Bool
needs_session (t.Version msize version) = false
needs_session (t.Auth afid uname aname) = true
needs_session (t.Flush oldtag) = true
needs_session (t.Attach fid afid uname aname) = true
needs_session (t.Walk fid newfid names) = true
needs_session (t.Open fid mode) = true
needs_session (t.Create fid name perm mode) = true
needs_session (t.Read fid offset count) = true
needs_session (t.Write fid offset bytes) = true
needs_session (t.Clunk fid) = true
needs_session (t.Remove fid) = true
needs_session (t.Stat fid) = true
needs_session (t.Wstat fid stat) = true

-- whether a message needs a session, and there is none
abbrev pub comes_first : ServerState → TBody → Bool
comes_first server body = needs_session body && not (is_there (msize_of server.tables server.conn))

-- what a message of a connection does, and its answer
abbrev pub reaction : ServerState → TBody → Reaction
reaction server body = if comes_first server body
    then refusal_reaction refusal.VersionFirst
    else reaction_or_refusal (session_reaction server body)

-- The users of connections.
use Rattle.std.specs.Prelude.{ℕ, Bool, true, false, List, Option, Some, None, if◌then◌else◌}
use Rattle.ninep_types.specs.declared.message.TBody.{TBody}
use Rattle.ninep_types.specs.declared.message.TBody.TheVariants as t
use Rattle.ninep_types.specs.declared.message.RBody.TheVariants as r
use Rattle.am_journal.specs.declared.event.Event.{Event}
use Rattle.am_journal.specs.declared.event.Event.TheVariants as event
use Rattle.core_fids.specs.declared.effect.Answer.{Answer}
use Rattle.core_fids.specs.declared.effect.Answer.TheVariants.{Says}

-- whether an answer is Rattach
abbrev pub is_attached : Answer → Bool
is_attached (Says (r.Attach qid)) = true
is_attached answer = false

-- the name that a Tattach gives its user
abbrev pub uname_of : TBody → Option (List ℕ)
uname_of (t.Attach fid afid uname aname) = Some uname
uname_of body = None

-- the user whom a message attaches, where it is answered so
abbrev pub attached : TBody → Option Answer → Option (List ℕ)
attached body None = None
attached body (Some answer) = if is_attached answer then uname_of body else None

-- the user whom an event attaches to its connection
abbrev pub user_of : Event → Option Answer → Option (List ℕ)
user_of (event.Dial conn) answer = None
user_of (event.Msg conn msg) answer = attached msg.body answer
user_of (event.Hang conn why) answer = None
user_of (event.Took conn) answer = None
user_of event.New answer = None
user_of (event.Key w side text) answer = None
user_of (event.Sel w range) answer = None
user_of (event.Exec at) answer = None
user_of (event.Arg at chord) answer = None
user_of (event.Look at) answer = None
user_of (event.File path text) answer = None
user_of (event.Dir path) answer = None

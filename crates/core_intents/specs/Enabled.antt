-- The reasons for which an event isn't enabled.
use Rattle.std.specs.Prelude.{ℕ, Bool, ◌==◌, nat_le, nat_lt, Option, Some, None, if◌then◌else◌}
use Rattle.ninep_types.specs.Limits.{max_msize}
use Rattle.am_journal.specs.declared.event.Why.{Why}
use Rattle.am_journal.specs.declared.event.Why.TheVariants as why
use Rattle.core_parts.specs.Limits.{max_replies}
use Rattle.core_parts.specs.declared.connection.Connection.{Connection}
use Rattle.core_parts.specs.declared.connection.Connection.TheVariants.{Undialed, Live, Ended}

-- the first of two
abbrev pub first_why : Option Why → Option Why → Option Why
first_why None later = later
first_why (Some why) later = Some why

-- a connection is dialled once
abbrev pub dial_refusal : Connection → Option Why
dial_refusal Undialed = None
dial_refusal Live = Some why.Dialed
dial_refusal (Ended cause) = Some why.Dialed

-- what a connection that lives alone can do
abbrev pub live_refusal : Connection → Option Why
live_refusal Undialed = Some why.Conn
live_refusal Live = None
live_refusal (Ended cause) = Some why.Ended

-- the most bytes of a message: the msize of the session, and the largest where none is open
abbrev pub most_bytes : Option ℕ → ℕ
most_bytes None = max_msize
most_bytes (Some msize) = msize

-- none comes that is larger than the session allows
abbrev pub size_refusal : Option ℕ → ℕ → Option Why
size_refusal msize size = if nat_lt (most_bytes msize) size then Some why.Size else None

-- no message comes while 256 replies are unsent
abbrev pub replies_refusal : ℕ → Option Why
replies_refusal count = if nat_le max_replies count then Some why.Replies else None

-- none comes with the tag of a read that waits
abbrev pub tag_refusal : Bool → Option Why
tag_refusal used = if used then Some why.Tag else None

-- why a message can't come
abbrev pub msg_refusal : Connection → Option ℕ → Bool → ℕ → ℕ → Option Why
msg_refusal connection msize used count size =
    first_why (live_refusal connection) (first_why (size_refusal msize size)
    (first_why (tag_refusal used) (replies_refusal count)))

-- replies are taken of a connection that ended, too
abbrev pub took_refusal : Connection → ℕ → Option Why
took_refusal Undialed count = Some why.Conn
took_refusal Live count = if count == 0 then Some why.Nothing else None
took_refusal (Ended cause) count = if count == 0 then Some why.Nothing else None

-- no window is made where no more can be
abbrev pub new_refusal : Bool → Option Why
new_refusal full = if full then Some why.Windows else None

-- nothing in the tree of files stands where a file or a directory is to come
abbrev pub tree_refusal : Bool → Option Why
tree_refusal clashes = if clashes then Some why.Tree else None

-- Replies, and those of each connection that aren't taken yet.
use Rattle.std.specs.Prelude.{◌≡◌, ℕ, ◌<◌, ◌≤◌, ◌+◌, List, [], ◌++◌, length, map, take, drop, slice_set, slice_index_or}
use Rattle.std.specs.Prelude.{All}
use Rattle.std.specs.List.{fold}
use Rattle.am_text.specs.Twice.{Twice}
use Rattle.am_text.specs.declared.range.Range.{Range}
use Rattle.core_outputs.specs.declared.reply.Reply.{Reply}

-- the unsent replies of a connection: how many there are, and their bytes, one after another
pub record Unsent : Type 0 where
  pub count : ℕ
  pub bytes : List ℕ

-- a connection without unsent replies
abbrev pub nothing_unsent : Unsent
nothing_unsent = record { count = 0; bytes = [] }

-- what is unsent to a connection
abbrev pub unsent_at : List Unsent → ℕ → Unsent
unsent_at unsent conn = slice_index_or unsent conn nothing_unsent

-- a reply more
abbrev pub with_reply : Unsent → List ℕ → Unsent
with_reply u reply = record { count = u.count + 1; bytes = u.bytes ++ reply }

-- a reply is put behind those of its connection
abbrev pub put_reply : List Unsent → Reply → List Unsent
put_reply unsent reply = slice_set unsent reply.conn (with_reply (unsent_at unsent reply.conn) reply.bytes)

-- with these replies
abbrev pub put_replies : List Unsent → List Reply → List Unsent
put_replies unsent replies = fold put_reply unsent replies

-- without those of a connection, which are taken
abbrev pub taken : List Unsent → ℕ → List Unsent
taken unsent conn = slice_set unsent conn nothing_unsent

-- ---- as the editor keeps them, in two states

-- what is unsent
abbrev pub present_of : Twice Unsent → Unsent
present_of t = t.present

-- what was unsent at the last keep
abbrev pub kept_of : Twice Unsent → Unsent
kept_of t = t.kept

-- with what is present as what was kept
abbrev pub with_present : Twice Unsent → Twice Unsent
with_present t = record { present = t.present; kept = t.present }

-- with what was kept as what is present
abbrev pub with_kept : Twice Unsent → Twice Unsent
with_kept t = record { present = t.kept; kept = t.kept }

-- what is kept of these is as it is now
abbrev pub AreAlike : List (Twice Unsent) → Type 0
AreAlike us = map present_of us ≡ map kept_of us

-- only what lies in a range may have replies that aren't kept
pub record IsTouched (touched : Range) (us : List (Twice Unsent)) : Type 0 where
  pub within : touched.q1 ≤ length us
  pub before : AreAlike (take touched.q0 us)
  pub behind : AreAlike (drop touched.q1 us)

-- each reply has bytes
abbrev pub HasBytes : Reply → Type 0
HasBytes reply = 0 < length reply.bytes

-- each reply has bytes
abbrev pub HaveBytes : List Reply → Type 0
HaveBytes replies = All HasBytes replies

-- The ports, their openings and the reads that wait, and what each call does to them.
use Rattle.std.specs.Prelude.{◌≡◌, ◌+◌, ℕ, Bool, List, [], ◌∷◌, ◌++◌, not, nat_le, length, filter, find, map, Option}
use Rattle.std.specs.Prelude.{Some, None, option_map, IsTrue, if◌then◌else◌}
use Rattle.std.specs.List.{list_any}
use Rattle.am_text.specs.Twice.{Twice, both}
use Rattle.wait_queue.specs.Reads.{without_first, without_read, without_reads_on}
use Rattle.wait_queue.specs.declared.types.Asker.{Asker}
use Rattle.wait_queue.specs.declared.types.Piece.{Piece}
use Rattle.wait_queue.specs.declared.types.Asked.{Asked}
use Rattle.wait_queue.specs.declared.types.Asked.TheVariants.{Now, Waits}
use Rattle.plumb_ports.specs.Limits.{kept_messages}
use Rattle.plumb_ports.specs.PortList.{Port, named, edit_name, number_of, number_or_next, with_name, kept_of, with_kept}
use Rattle.plumb_ports.specs.Inboxes.{Inbox, is_of, is_on, inbox_with, inbox_of, delivered, must_wait, piece_of}
use Rattle.plumb_ports.specs.Inboxes.{after_read}
use Rattle.plumb_ports.specs.declared.fault.PortFault.{PortFault}
use Rattle.plumb_ports.specs.declared.fault.PortFault.TheVariants.{NoPort, Closed, Full, NoMemory}

-- The ports in first-seen order, the openings in the order of joining, how many ever joined, and the
-- waiting reads of all ports in the order of asking.
pub record PortsState : Type 0 where
  pub ports : List Port
  pub openings : List Inbox
  pub joined : ℕ
  pub reads : List Asker

-- the one port `edit`
abbrev pub beginning : PortsState
beginning = record { ports = named edit_name ∷ []; openings = []; joined = 0; reads = [] }

-- whether the port has an opening
abbrev pub is_open : PortsState → ℕ → Bool
is_open s port = list_any (is_on port) s.openings

-- whether an opening has joined a port
abbrev pub has_joined : PortsState → ℕ → Bool
has_joined s opening = list_any (is_of opening) s.openings

-- an opening has joined a port
abbrev pub HasJoined : PortsState → ℕ → Type 0
HasJoined s opening = IsTrue (has_joined s opening)

-- ---- the calls

-- the number of a port, once it was added
abbrev pub added_number : PortsState → List ℕ → ℕ
added_number s name = number_or_next (number_of s.ports name) s.ports

-- with a port of this name
abbrev pub after_add : PortsState → List ℕ → PortsState
after_add s name = record s { ports = with_name (number_of s.ports name) s.ports name }

-- the opening takes all that its port keeps
abbrev pub after_join : PortsState → ℕ → ℕ → PortsState
after_join s port opening = record s {
  ports = with_kept s.ports port [];
  openings = s.openings ++ inbox_with opening port (kept_of s.ports port) ∷ [];
  joined = s.joined + 1;
}

-- a port keeps at most 64 messages
abbrev pub is_full : PortsState → ℕ → Bool
is_full s port = nat_le kept_messages (length (kept_of s.ports port))

-- why a message for a port that is there isn't delivered
abbrev pub refusal_at : PortsState → ℕ → Bool → Option PortFault
refusal_at s port keep =
    if is_open s port then None else (if not keep then Some Closed else (if is_full s port then Some Full else None))

-- the same, by the number of the port, if there is one
abbrev pub refusal_on : Option ℕ → PortsState → Bool → Option PortFault
refusal_on None s keep = Some NoPort
refusal_on (Some port) s keep = refusal_at s port keep

-- why a message for a name isn't delivered, if it isn't
abbrev pub refusal : PortsState → List ℕ → Bool → Option PortFault
refusal s name keep = refusal_on (number_of s.ports name) s keep

-- the answer has the reason that there is; only where there is none may memory be wanting
abbrev pub Refuses : PortFault → Option PortFault → Type 0
Refuses NoPort reason = reason ≡ Some NoPort
Refuses Closed reason = reason ≡ Some Closed
Refuses Full reason = reason ≡ Some Full
Refuses NoMemory reason = reason ≡ None

-- a refusal changes nothing, and want of memory leaves the kept state
abbrev pub after_fault : PortFault → Twice PortsState → Twice PortsState
after_fault NoPort t = t
after_fault Closed t = t
after_fault Full t = t
after_fault NoMemory t = both t.kept

-- a copy for each opening of the port, and where it has none, one that it keeps
abbrev pub delivered_at : PortsState → ℕ → List ℕ → PortsState
delivered_at s port message =
    if is_open s port then record s { openings = map (delivered port message) s.openings }
    else record s { ports = with_kept s.ports port (kept_of s.ports port ++ message ∷ []) }

-- with a message delivered to the port of this number, if there is one
abbrev pub delivered_on : Option ℕ → PortsState → List ℕ → PortsState
delivered_on None s message = s
delivered_on (Some port) s message = delivered_at s port message

-- with a message delivered to the port of this name
abbrev pub after_deliver : PortsState → List ℕ → List ℕ → PortsState
after_deliver s name message = delivered_on (number_of s.ports name) s message

-- whether a read can be answered: it asks for no bytes, or its opening has something for it
abbrev pub is_ready : List Inbox → Asker → Bool
is_ready openings r = not (must_wait (inbox_of openings r.opening) r.count)

-- none of the reads can be answered
abbrev pub AreIdle : List Inbox → List Asker → Type 0
AreIdle openings reads = find (is_ready openings) reads ≡ None

-- whether a read has to wait
abbrev pub read_waits : PortsState → Asker → Bool
read_waits s r = must_wait (inbox_of s.openings r.opening) r.count

-- what the read is given now, and what that leaves
abbrev pub piece_for : PortsState → Asker → Piece
piece_for s r = piece_of (inbox_of s.openings r.opening) r.count

-- what the piece of a read leaves
abbrev pub after_answer : PortsState → Asker → PortsState
after_answer s r = record s { openings = after_read s.openings r.opening r.count }

-- the answer to a read
abbrev pub asked_of : PortsState → Asker → Asked
asked_of s r = if read_waits s r then Waits else Now (piece_for s r)

-- the read waits, or took its piece
abbrev pub after_ask : PortsState → Asker → PortsState
after_ask s r = if read_waits s r then record s { reads = s.reads ++ r ∷ [] } else after_answer s r

-- the oldest waiting read over all ports that can be answered
abbrev pub next_of : PortsState → Option Asker
next_of s = find (is_ready s.openings) s.reads

-- the oldest read that can be answered, and what it gets
abbrev pub served_of : PortsState → Option (Asker × Piece)
served_of s = option_map (λ r. (r, piece_for s r)) (next_of s)

-- that read waits no more
abbrev pub without_next : PortsState → PortsState
without_next s = record s { reads = without_first (is_ready s.openings) s.reads }

-- a read waits no more, and took its piece
abbrev pub after_next : Option Asker → PortsState → PortsState
after_next None s = s
after_next (Some r) s = after_answer (without_next s) r

-- the oldest read that can be answered was
abbrev pub after_serve : PortsState → PortsState
after_serve s = after_next (next_of s) s

-- the read of a tag on a connection waits no more
abbrev pub after_cancel : PortsState → ℕ → ℕ → PortsState
after_cancel s conn tag = record s { reads = without_read s.reads conn tag }

-- the opening goes with its messages, what it has left and its waiting reads
abbrev pub after_leave : PortsState → ℕ → PortsState
after_leave s opening = record s {
  openings = filter (λ o. not (is_of opening o)) s.openings;
  reads = without_reads_on s.reads opening;
}

-- The objects in memory, as their callers see them.
use Rattle.std.specs.Prelude.{ℕ, ◌+◌, ◌-◌, ◌^◌, ◌&&◌, ◌||◌, min, Bool, true, false, List, [], ◌++◌, length, take, drop}
use Rattle.std.specs.Prelude.{remove, slice_get, Option, Some, None, is_none, nat_lt, nat_le, ◌==◌, if◌then◌else◌}
use Rattle.std.specs.Prelude.{bytes_eq, position, option_map, option_and_then}
use Rattle.std.specs.List.{list_any}
use Rattle.am_base.specs.Outside.{one_more}

-- The calls that were made, the numbers, from 1, of those that fail, and whether the object was ended, so that all
-- later calls fail.
pub record CallLog : Type 0 where
  pub fail_at : List ℕ
  pub made : ℕ
  pub faults : ℕ
  pub is_ended : Bool

-- no call was made, and those of these numbers will fail
abbrev pub no_calls : List ℕ → CallLog
no_calls numbers = record { fail_at = numbers; made = 0; faults = 0; is_ended = false }

-- whether the number of the next call is among those that fail
abbrev pub is_next_numbered : CallLog → Bool
is_next_numbered c = list_any (λ number. number == c.made + 1) c.fail_at

-- whether the next call fails: the object was ended, or it is the number of the call
abbrev pub fails_next : CallLog → Bool
fails_next c = c.is_ended || is_next_numbered c

-- one call more, which failed or didn't
abbrev pub after_call : CallLog → Bool → CallLog
after_call c failed = record c { made = one_more c.made; faults = if failed then one_more c.faults else c.faults }

-- as handed out: its count of faults begins, and it isn't ended
abbrev pub begun_calls : CallLog → CallLog
begun_calls c = record c { faults = 0; is_ended = false }

-- the object was ended
abbrev pub ended_calls : CallLog → CallLog
ended_calls c = record c { is_ended = true }

-- A source: the bytes left, the most that one read gives, the calls of read, all of which fail once it was ended.
pub record SourceState : Type 0 where
  pub left : List ℕ
  pub piece : ℕ
  pub calls : CallLog

-- how many bytes a read into so much room gives, or None where it fails
abbrev pub read_count : SourceState → ℕ → Option ℕ
read_count s room = if fails_next s.calls then None else Some (min (min (length s.left) room) s.piece)

-- a source after a read, which gave so many bytes or failed
abbrev pub after_read : SourceState → Option ℕ → SourceState
after_read s None = record s { calls = after_call s.calls true }
after_read s (Some n) = record s { left = drop n s.left; calls = after_call s.calls false }

-- a source that was ended
abbrev pub ended_source : SourceState → SourceState
ended_source s = record s { calls = ended_calls s.calls }

-- a source whose faults weren't counted yet, and that isn't ended
abbrev pub begun_source : SourceState → SourceState
begun_source s = record s { calls = begun_calls s.calls }

-- A sink: the bytes got, how many it has room for in all, the most that one write takes, the calls of write, all of
-- which fail once it was ended.
pub record SinkState : Type 0 where
  pub held : List ℕ
  pub room : ℕ
  pub piece : ℕ
  pub calls : CallLog

-- whether a sink has no room
abbrev pub is_full : SinkState → Bool
is_full s = nat_le s.room (length s.held)

-- how many bytes a write of so many takes, or None where it fails
abbrev pub write_count : SinkState → ℕ → Option ℕ
write_count s len = if fails_next s.calls || is_full s then None else Some
    (min (min len s.piece) (s.room - length s.held))

-- a sink after a write, which took so many bytes or failed
abbrev pub after_write : SinkState → List ℕ → Option ℕ → SinkState
after_write s bytes None = record s { calls = after_call s.calls true }
after_write s bytes (Some n) = record s { held = s.held ++ take n bytes; calls = after_call s.calls false }

-- a sink that was ended
abbrev pub ended_sink : SinkState → SinkState
ended_sink s = record s { calls = ended_calls s.calls }

-- a sink whose faults weren't counted yet, and that isn't ended
abbrev pub begun_sink : SinkState → SinkState
begun_sink s = record s { held = []; calls = begun_calls s.calls }

-- A link: what it still hands out, what its source begins with, whether it is to fail, whether it has given its halves,
-- the path that it was dialled at.
pub record LinkState : Type 0 where
  pub halves : Option (SourceState × SinkState)
  pub begins : List ℕ
  pub fails : Bool
  pub is_halved : Bool
  pub dialled : Option (List ℕ)
  pub faults : ℕ

-- what a link hands out at the next call, or None where that fails
abbrev pub halves_of : LinkState → Option (SourceState × SinkState)
halves_of l = if l.fails then None else option_map (λ h. (begun_source h.0, begun_sink h.1)) l.halves

-- a link after it gave its halves, or failed to
abbrev pub after_halves : LinkState → Option (SourceState × SinkState) → LinkState
after_halves l None = record l { faults = one_more l.faults }
after_halves l (Some h) = record l { halves = None; is_halved = true }

-- a link whose halves and faults weren't counted yet
abbrev pub begun_link : LinkState → LinkState
begun_link l = record l { is_halved = false; faults = 0 }

-- A gate: its name, the link that it still hands out, whether it is to fail, how many links it has given.
pub record GateState : Type 0 where
  pub path : List ℕ
  pub slot : ℕ
  pub link : Option LinkState
  pub fails : Bool
  pub given : ℕ
  pub faults : ℕ

-- what a gate is called
abbrev pub name_of : GateState → List ℕ × ℕ
name_of g = (g.path, g.slot)

-- what a gate hands out at the next call, or None where that fails
abbrev pub link_of : GateState → Option LinkState
link_of g = if g.fails then None else option_map begun_link g.link

-- a gate after a link was taken, or none
abbrev pub after_accept : GateState → Option LinkState → GateState
after_accept g None = record g { faults = one_more g.faults }
after_accept g (Some l) = record g { link = None; given = one_more g.given }

-- a gate whose links and faults weren't counted yet
abbrev pub begun_gate : GateState → GateState
begun_gate g = record g { given = 0; faults = 0 }

-- A host: the gates that it still hands out or dials, the calls of bind and dial, how many gates and links it has
-- given.
pub record HostState : Type 0 where
  pub gates : List GateState
  pub calls : CallLog
  pub given : ℕ

-- whether a gate is of this path and slot
abbrev pub is_gate_of : List ℕ → ℕ → GateState → Bool
is_gate_of path slot g = bytes_eq g.path path && g.slot == slot

-- the place of the gate that a host hands out at the next call, or None where that fails
abbrev pub place_of : HostState → List ℕ → ℕ → Option ℕ
place_of h path slot = if fails_next h.calls then None else position (is_gate_of path slot) h.gates

-- that gate
abbrev pub gate_of : HostState → List ℕ → ℕ → Option GateState
gate_of h path slot = option_map begun_gate (option_and_then (slice_get h.gates) (place_of h path slot))

-- a host after a gate was made, or none
abbrev pub after_bind : HostState → Option ℕ → HostState
after_bind h None = record h { calls = after_call h.calls true }
after_bind h (Some at) = record h {
  gates = remove h.gates at;
  calls = after_call h.calls false;
  given =
      one_more h.given;
}

-- whether a gate is of this path, whatever its slot
abbrev pub is_gate_at : List ℕ → GateState → Bool
is_gate_at path g = bytes_eq g.path path

-- the place of the gate that the next call of dial takes, the first of the path, or None where that fails
abbrev pub dialled_place : HostState → List ℕ → Option ℕ
dialled_place h path = if fails_next h.calls then None else position (is_gate_at path) h.gates

-- a link that was dialled at a path
abbrev pub dialled_at : List ℕ → LinkState → LinkState
dialled_at path l = record l { dialled = Some path }

-- the link that a gate hands out to one who dials it, or None where it hands out none
abbrev pub dialled_link : GateState → Option LinkState
dialled_link g = option_map (dialled_at g.path) (link_of g)

-- the link that this gate hands out, or None where it hands out none
abbrev pub dialled : HostState → List ℕ → Option LinkState
dialled h path = option_and_then dialled_link (option_and_then (slice_get h.gates) (dialled_place h path))

-- the gate is taken, whether it hands out a link or not; a call without one failed
abbrev pub gates_without : List GateState → Option ℕ → List GateState
gates_without gates None = gates
gates_without gates (Some at) = remove gates at

-- a host after a dialling
abbrev pub after_dial : HostState → List ℕ → HostState
after_dial h path = record h {
  gates = gates_without h.gates (dialled_place h path);
  calls = after_call h.calls (is_none (dialled h path));
  given = if is_none (dialled h path) then h.given else one_more h.given;
}

-- The calls that an entry makes of the ports.
use Rattle.std.specs.Prelude.{ℕ, List, [], ◌∷◌, ◌++◌, length, replicate, Option, Some, None, if◌then◌else◌}
use Rattle.fid_table.specs.declared.types.Fid.{Fid}
use Rattle.fid_table.specs.Tables.{Tables, fid_of, fids_of}
use Rattle.wait_queue.specs.declared.types.Asker.{Asker}
use Rattle.plumb_ports.specs.PortsState.{PortsState}
use Rattle.plumb_ports.specs.Laws.{Call, Add, Join, Deliver, Ask, Serve, Cancel, Leave}
use Rattle.core_scene.specs.declared.deed.Deed.{Deed}
use Rattle.core_scene.specs.declared.deed.Deed.TheVariants as deed
use Rattle.core_fids.specs.Fids.{port_opening}
use Rattle.core_fids.specs.declared.effect.Effect.{Effect}
use Rattle.core_fids.specs.declared.effect.Effect.TheVariants as effect
use Rattle.core_fids.specs.declared.effect.EventChange.{EventChange}
use Rattle.core_fids.specs.declared.effect.EventChange.TheVariants as events
use Rattle.core_fids.specs.declared.refusal.Refusal.{Refusal}
use Rattle.core_events.specs.PortAsking.{next_opening, can_join, read_refusal}
use Rattle.core_events.specs.PortClosing.{opening_in}
use Rattle.core_parts.specs.declared.kind.Kind.{Kind}
use Rattle.core_parts.specs.declared.kind.Kind.TheVariants as kind
use Rattle.core_parts.specs.Doing.{Doing}
use Rattle.core_parts.specs.States.{Present}
use Rattle.core_steps.specs.declared.reading.PortRead.{PortRead}
use Rattle.core_steps.specs.PortReads.{port_read_of, asked_ports}
use Rattle.core_steps.specs.Stages.{acted, read_tables, grown_tables, open_ports}

-- ---- what it makes

-- names are added, and messages delivered
abbrev pub deed_calls : List Deed → List Call
deed_calls [] = []
deed_calls (deed.Windows c ∷ ds) = deed_calls ds
deed_calls (deed.Item w item ∷ ds) = deed_calls ds
deed_calls (deed.Snarfs text ∷ ds) = deed_calls ds
deed_calls (deed.Stores path bytes ∷ ds) = deed_calls ds
deed_calls (deed.MakesDir path ∷ ds) = deed_calls ds
deed_calls (deed.Requests job ∷ ds) = deed_calls ds
deed_calls (deed.Notes w op ∷ ds) = deed_calls ds
deed_calls (deed.AddsRules sets vars text ∷ ds) = deed_calls ds
deed_calls (deed.ClearsRules ∷ ds) = deed_calls ds
deed_calls (deed.AddsPort name ∷ ds) = Add name ∷ deed_calls ds
deed_calls (deed.Delivers port message keep ∷ ds) = Deliver port message keep ∷ deed_calls ds

-- a read that isn't refused is asked
abbrev pub ask_unless : Option Refusal → Asker → List Call
ask_unless (Some refusal) asker = []
ask_unless None asker = Ask asker ∷ []

abbrev pub read_calls : Tables → PortsState → Option PortRead → List Call
read_calls tables ports None = []
read_calls tables ports (Some read) = ask_unless (read_refusal tables ports read.asker) read.asker

-- an opening joins
abbrev pub join_calls : PortsState → EventChange → List Call
join_calls ports events.Nothing = []
join_calls ports (events.Opens w) = []
join_calls ports (events.Joins port) = if can_join ports port then Join port (next_opening ports) ∷ [] else []
join_calls ports (events.Watches file) = []
join_calls ports (events.Cancels tag) = []

-- ---- what it ends

abbrev pub leave_calls : Option ℕ → List Call
leave_calls None = []
leave_calls (Some opening) = Leave opening ∷ []

abbrev pub fid_calls : List (ℕ × Fid) → List Call
fid_calls [] = []
fid_calls (f ∷ fs) = leave_calls (port_opening f.1) ++ fid_calls fs

-- the openings of the fids that a message frees
abbrev pub freed_calls : Tables → ℕ → Effect → List Call
freed_calls tables conn effect.Nothing = []
freed_calls tables conn (effect.Begins msize) = fid_calls (fids_of tables conn)
freed_calls tables conn (effect.Puts fid value) = []
freed_calls tables conn (effect.Frees fid) = leave_calls (opening_in (fid_of tables conn fid))

-- the read that a message cancels
abbrev pub cancel_calls : ℕ → EventChange → List Call
cancel_calls conn events.Nothing = []
cancel_calls conn (events.Opens w) = []
cancel_calls conn (events.Joins port) = []
cancel_calls conn (events.Watches file) = []
cancel_calls conn (events.Cancels tag) = Cancel conn tag ∷ []

abbrev pub left_calls : Tables → Kind → Doing → List Call
left_calls tables (kind.Dials conn) d = []
left_calls tables (kind.Asks conn tag) d = freed_calls tables conn d.effect ++ cancel_calls conn d.events
left_calls tables (kind.Ends conn why) d = fid_calls (fids_of tables conn)
left_calls tables (kind.Takes conn) d = []
left_calls tables kind.Acts d = []

-- ---- all of them

-- the ports once the deeds are done, and once the message has read
abbrev pub acted_ports : Present → Doing → PortsState
acted_ports s d = (acted s d).ports

abbrev pub asked_of : Present → Kind → Doing → PortsState
asked_of s k d = asked_ports (read_tables s k d) (acted_ports s d) (port_read_of k d.answer)

-- Deeds are done, a message reads or makes an opening join, waiting reads are served, and openings leave.
abbrev pub calls_at : Present → Kind → Doing → List Call
calls_at s k d =
    deed_calls d.deeds
    ++ read_calls (read_tables s k d) (acted_ports s d) (port_read_of k d.answer)
    ++ join_calls (asked_of s k d) d.events
    ++ replicate (length (open_ports s k d).reads) Serve
    ++ left_calls (grown_tables s k d) k d

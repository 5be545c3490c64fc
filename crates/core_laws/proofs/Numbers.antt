-- Openings of ports keep numbers below the next one, through a step.
use Rattle.std.proofs.Common.{ℕ, zero, suc, not, fold, List, [], ◌∷◌, length, Option, Some, None}
use Rattle.fid_table.specs.declared.types.Fid.{Fid}
use Rattle.fid_table.specs.Tables.{Tables, fid_of, fids_of}
use Rattle.plumb_ports.specs.Inboxes.{is_of}
use Rattle.plumb_ports.specs.PortsState.{PortsState, next_of, after_serve}
use Rattle.plumb_ports.specs.Laws.{AreNumbered}
use Rattle.plumb_ports.proofs.NumberLemmas.{next_numbers, left_numbers}
use Rattle.core_fids.specs.Fids.{port_opening}
use Rattle.core_fids.specs.declared.effect.Effect.{Effect}
use Rattle.core_fids.specs.declared.effect.Effect.TheVariants as effect
use Rattle.core_fids.specs.declared.effect.EventChange.{EventChange}
use Rattle.core_fids.specs.declared.effect.EventChange.TheVariants as events
use Rattle.core_events.specs.PortClosing.{without_opening, without_fid, ports_freed, ports_cancelled, opening_in}
use Rattle.core_events.specs.PortServing.{after_serving_most}
use Rattle.core_parts.specs.declared.kind.Kind.{Kind}
use Rattle.core_parts.specs.declared.kind.Kind.TheVariants as kind
use Rattle.core_parts.specs.Doing.{Doing}
use Rattle.core_parts.specs.States.{Present}
use Rattle.core_closing.specs.Closing.{left_ports}
use Rattle.core_steps.specs.declared.reading.PortRead.{PortRead}
use Rattle.core_steps.specs.PortReads.{port_read_of, asked_ports}
use Rattle.core_steps.specs.Stages.{acted, read_tables, grown_tables, open_ports, grown_ports, ports_after}
use Rattle.core_laws.proofs.Growths.{joined_numbers, read_numbers}
use Rattle.core_laws.proofs.Grown.{deeds_more}

asked_numbers : (t : Tables) (p : PortsState) (o : Option PortRead) → AreNumbered p → AreNumbered (asked_ports t p o)
asked_numbers t p None h = h
asked_numbers t p (Some read) h = read_numbers t p read.asker h

most_numbers : (n : ℕ) (p : PortsState) → AreNumbered p → AreNumbered (after_serving_most n p)
unfolding after_serving_most
most_numbers zero p h = h
most_numbers (suc n) p h = most_numbers n (after_serve p) (next_numbers (next_of p) p h)

leave_numbers : (p : PortsState) (o : Option ℕ) → AreNumbered p → AreNumbered (without_opening p o)
leave_numbers p None h = h
leave_numbers p (Some o) h = left_numbers p.joined (λ x. not (is_of o x)) p.openings h

fids_numbers : (p : PortsState) (fs : List (ℕ × Fid)) → AreNumbered p → AreNumbered (fold without_fid p fs)
fids_numbers p [] h = h
fids_numbers p (f ∷ fs) h = fids_numbers (without_fid p f) fs (leave_numbers p (port_opening f.1) h)

freed_numbers : (p : PortsState) (t : Tables) (conn : ℕ) (e : Effect) → AreNumbered p
    → AreNumbered (ports_freed p t conn e)
freed_numbers p t conn effect.Nothing h = h
freed_numbers p t conn (effect.Begins msize) h = fids_numbers p (fids_of t conn) h
freed_numbers p t conn (effect.Puts number fid) h = h
freed_numbers p t conn (effect.Frees number) h = leave_numbers p (opening_in (fid_of t conn number)) h

cancelled_numbers : (p : PortsState) (conn : ℕ) (v : EventChange) → AreNumbered p
    → AreNumbered (ports_cancelled p conn v)
cancelled_numbers p conn events.Nothing h = h
cancelled_numbers p conn (events.Opens w) h = h
cancelled_numbers p conn (events.Joins port) h = h
cancelled_numbers p conn (events.Watches file) h = h
cancelled_numbers p conn (events.Cancels tag) h = h

left_in_numbers : (t : Tables) (k : Kind) (d : Doing) (p : PortsState) → AreNumbered p
    → AreNumbered (left_ports t k d p)
left_in_numbers t (kind.Dials conn) d p h = h
left_in_numbers t (kind.Asks conn tag) d p h = cancelled_numbers (ports_freed p t conn d.effect) conn d.events
    (freed_numbers p t conn d.effect h)
left_in_numbers t (kind.Ends conn why) d p h = fids_numbers p (fids_of t conn) h
left_in_numbers t (kind.Takes conn) d p h = h
left_in_numbers t kind.Acts d p h = h

pub numbers_after : (s : Present) (k : Kind) (d : Doing) → AreNumbered s.scene.ports → AreNumbered (ports_after s k d)
numbers_after s k d h =
    let asked : PortsState = asked_ports (read_tables s k d) (acted s d).ports (port_read_of k d.answer) in
    left_in_numbers (grown_tables s k d) k d (grown_ports s k d)
    (most_numbers (length (open_ports s k d).reads) (open_ports s k d)
    (joined_numbers asked d.events (asked_numbers (read_tables s k d) (acted s d).ports (port_read_of k d.answer)
    ((deeds_more s d).numbers h))))

-- What the parts of the code show.
use Rattle.std.specs.Prelude.{◌≡◌, ◌≤◌, ℕ, true, List, [], ◌∷◌, length, map}
use Rattle.std.specs.List.{list_all}
use Rattle.std.specs.Global.{Vec}
use Rattle.am_text.specs.Twice.{Twice, both}
use Rattle.wait_queue.specs.Carry.{carry_of}
use Rattle.wait_queue.specs.WaitState.{WaitState}
use Rattle.wait_queue.specs.declared.pending.Pending.{Pending}
use Rattle.rule_syntax.specs.Verbs.{is_port_name}
use Rattle.plumb_ports.specs.Limits.{max_ports}
use Rattle.plumb_ports.specs.PortList.{Port, names_of}
use Rattle.plumb_ports.specs.Inboxes.{Inbox, delivered}

-- a port as the map holds it: its name and what it keeps
abbrev pub port_of : Vec ℕ × List (List ℕ) → Port
port_of e = record { name = e.0.items; kept = e.1 }

-- these are the names in the map, which are names of ports; there are at most 65,536
pub record IsNamedBy (names : List (List ℕ)) (entries : List (Vec ℕ × List (List ℕ))) : Type 0 where
  pub few : length entries ≤ max_ports
  pub same : names ≡ names_of (map port_of entries)
  pub named_well : list_all is_port_name names ≡ true

-- a message as the queue of an opening holds it: messages have no numbers of their own
abbrev pub as_item : List ℕ → Pending
as_item message = record { number = 0; bytes = message }

-- the bytes of an item
abbrev pub message_of : Pending → List ℕ
message_of item = item.bytes

-- the queue of an opening, with no other opening in it and no waiting read
abbrev pub queue_of : Inbox → WaitState
queue_of o = record {
  items = map as_item o.messages;
  openings = record { opening = o.opening; carry = o.carry } ∷ [];
  reads = [];
}

-- what a queue shows as the inbox of an opening
abbrev pub inbox_in : ℕ → ℕ → WaitState → Inbox
inbox_in opening port w =
    record { opening = opening; port = port; messages = map message_of w.items; carry = carry_of w.openings opening }

-- in both states the queue is that of what it shows
pub record IsQueueOf (opening port : ℕ) (queue : Twice WaitState) : Type 0 where
  pub present : queue.present ≡ queue_of (inbox_in opening port queue.present)
  pub kept : queue.kept ≡ queue_of (inbox_in opening port queue.kept)

-- the inboxes of the openings in one of their states
abbrev pub present_of : Twice Inbox → Inbox
present_of t = t.present

-- an inbox at the last keep
abbrev pub kept_of : Twice Inbox → Inbox
kept_of t = t.kept

-- with its present state as the kept one, and the other way round
abbrev pub with_present : Twice Inbox → Twice Inbox
with_present t = both t.present

-- with what was kept as what is present
abbrev pub with_kept : Twice Inbox → Twice Inbox
with_kept t = both t.kept

-- the message was delivered to the port
abbrev pub with_delivered : ℕ → List ℕ → Twice Inbox → Twice Inbox
with_delivered port message t = record t { present = delivered port message t.present }

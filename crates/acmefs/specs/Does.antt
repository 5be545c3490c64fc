-- What doing lines over a connection comes to.
use Rattle.std.specs.Prelude.{◌≡◌, ◌⊎◌, ℕ, Bool, true, false, List, [], ◌∷◌, Option, Some, None, is_some, IfSome}
use Rattle.std.specs.Prelude.{if◌then◌else◌}
use Rattle.am_base.specs.Seen.{Given, HostSeen, Seen}
use Rattle.ninep_client.specs.declared.fault.CallFault.{CallFault}
use Rattle.ninep_client.specs.declared.fault.CallFault.TheVariants as fault
use Rattle.am_do.specs.declared.running.DoEnd.{DoEnd}
use Rattle.am_do.specs.declared.running.DoEnd.TheVariants as doing
use Rattle.am_do.specs.declared.running.Doing.{Doing}
use Rattle.am_do.specs.declared.stop.Stop.{Stop}
use Rattle.am_do.specs.declared.stop.Stop.TheVariants as stop
use Rattle.am_do.specs.Complete.{NothingFails}
use Rattle.am_do.specs.Ends.{IsGivenAt, Peer, Says, peer}
use Rattle.am_slots.specs.Slots.{Outside}
use Rattle.am_server.specs.declared.served.Served.{Served}
use Rattle.am_server.specs.declared.served.ServedEnd.{ServedEnd}
use Rattle.am_server.specs.declared.served.ServedEnd.TheVariants as end
use Rattle.acmefs.specs.declared.status.Status.{Status}
use Rattle.acmefs.specs.declared.status.Status.TheVariants as exit

-- the exit status
abbrev pub do_status : DoEnd → Status
do_status doing.Done = exit.Done
do_status doing.Script = exit.Refused
do_status doing.ReadFault = exit.ReadFault
do_status doing.HostFault = exit.HostFault
do_status doing.Talk = exit.Talk
do_status doing.NoMemory = exit.NoMemory
do_status doing.WriteFault = exit.WriteFault

-- ---- the entry of a client

-- how a call's fault ends a client: want of memory, or a fault that has closed it
abbrev pub closed_by : CallFault → ServedEnd
closed_by (fault.Remote text) = end.Did (Some (fault.Remote text))
closed_by fault.Large = end.Did (Some fault.Large)
closed_by fault.Tags = end.Did (Some fault.Tags)
closed_by fault.Closed = end.Did (Some fault.Closed)
closed_by fault.WriteFault = end.Did (Some fault.WriteFault)
closed_by fault.ReadFault = end.Did (Some fault.ReadFault)
closed_by fault.Ended = end.Did (Some fault.Ended)
closed_by fault.Torn = end.Did (Some fault.Torn)
closed_by (fault.Wire f) = end.Did (Some (fault.Wire f))
closed_by (fault.Unasked n) = end.Did (Some (fault.Unasked n))
closed_by (fault.Kind kind) = end.Did (Some (fault.Kind kind))
closed_by fault.NoMemory = end.NoMemory

-- how a talk ends a client: a server that refuses the talk closes nothing
abbrev pub ended_by : Option Stop → ServedEnd
ended_by None = end.Did None
ended_by (Some stop.Refused) = end.Did None
ended_by (Some (stop.Fault f)) = closed_by f

-- nothing was dialled: the host has failed, or it was not asked
abbrev pub undialled : DoEnd → Option ServedEnd
undialled doing.Done = None
undialled doing.Script = None
undialled doing.ReadFault = None
undialled doing.HostFault = Some end.Bind
undialled doing.Talk = None
undialled doing.NoMemory = None
undialled doing.WriteFault = None

-- how a client ended, by whether there was a link, and whether that gave its halves
abbrev pub how_ended : DoEnd → Bool → Bool → Option Stop → Option ServedEnd
how_ended e is_linked is_halved why = if is_halved then Some (ended_by why) else
    (if is_linked then Some end.Halve else undialled e)

module _ {G L S K : Type 0} where
  abbrev pub entry_at : Doing L S K → Option ServedEnd → Option (Served G L S K)
  entry_at d None = None
  entry_at d (Some e) = Some (record {
    slot = 0;
    gate = None;
    link = d.link;
    reader = d.reader;
    writer = d.writer;
    end =
        e;
  })

  -- a client as it is told: its slot is 0, it has no gate, and its objects are those that it talked over
  abbrev pub entry_of : Doing L S K → Option (Served G L S K)
  entry_of d = entry_at d (how_ended d.end (is_some d.link) (is_some d.reader) d.stop)

  abbrev pub listed : Option (Served G L S K) → List (Served G L S K)
  listed None = []
  listed (Some s) = s ∷ []

  -- ---- what it comes to

  abbrev pub peer_of : Outside G L S K → Peer L S K
  peer_of m = peer m.link m.reader m.writer

  -- What the host was asked for: nothing, where no client is told of; else it gave one link, which was dialled at this
  -- path, or none.
  abbrev pub AsksAt : Outside G L S K → List ℕ → HostSeen → List (Served G L S K) → Type 0
  AsksAt m path h [] = h.now ≡ h.before
  AsksAt m path h (s ∷ others) = IsGivenAt (peer_of m) path h s.link

  -- What doing lines over a tree comes to: the exit status and the entry of the client are those of one doing, which is
  -- as the lines and the replies to them say. Where nothing outside fails and all is answered, all is done and written,
  -- or memory runs out.
  pub record Does (status : Status) (m : Outside G L S K) (tree : List ℕ) (i : Given) (o : Seen)
      (served : List (Served G L S K)) : Type 0 where
    pub doing : Doing L S K
    pub coded : status ≡ do_status doing.end
    pub told : served ≡ listed (entry_of doing)
    pub says : Says (peer_of m) tree i o doing
    pub complete : IfSome i.input.before.bytes (λ bytes. NothingFails (peer_of m) tree bytes i o doing
        → (status ≡ exit.Done) ⊎ (status ≡ exit.NoMemory))

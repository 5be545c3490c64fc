-- How `do` ends.
use Rattle.std.specs.Prelude.{◌≡◌, ◌⊎◌, ℕ, ◌<◌, ◌≤◌, Bool, true, false, List, [], length, Option, Some, None, IfSome}
use Rattle.std.specs.Prelude.{Result, Ok, Err, codes}
use Rattle.am_base.specs.Outside.{BytesTold, LinkTold, AreTold, HasRisen, one_more}
use Rattle.am_base.specs.Stops.{input_limit}
use Rattle.am_base.specs.Seen.{Given, HostSeen, Seen}
use Rattle.am_base.specs.Written.{IsPut}
use Rattle.am_text.specs.Lines.{lines_of}
use Rattle.am_journal.specs.Texts.{refused_text}
use Rattle.ninep_client.specs.declared.fault.CallFault.TheVariants as fault
use Rattle.ninep_client.specs.Asking.{begun}
use Rattle.am_do.specs.declared.line.DoLine.{DoLine}
use Rattle.am_do.specs.Lines.{lines_from}
use Rattle.am_do.specs.declared.stop.Stop.{Stop}
use Rattle.am_do.specs.declared.stop.Stop.TheVariants as stop
use Rattle.am_do.specs.declared.running.DoEnd.{DoEnd}
use Rattle.am_do.specs.declared.running.DoEnd.TheVariants as end
use Rattle.am_do.specs.declared.running.Doing.{Doing}
use Rattle.am_do.specs.Talks.{told_of}
use Rattle.am_do.specs.Went.{ends}
use Rattle.am_do.specs.Written.{Comes}

-- what links, sources and sinks tell
pub record Peer (L S K : Type 0) : Type 0 where
  pub link : L → LinkTold
  pub source : S → BytesTold
  pub sink : K → BytesTold

-- the peer that tells so
abbrev pub peer : {L S K : Type 0} → (L → LinkTold) → (S → BytesTold) → (K → BytesTold) → Peer L S K
peer link source sink = record { link = link; source = source; sink = sink }

-- how a talk ends the command: want of memory, another stop, an output that has failed, or all done
abbrev pub end_at : Option Stop → Bool → DoEnd
end_at None false = end.Done
end_at None true = end.WriteFault
end_at (Some stop.Refused) failed = end.Talk
end_at (Some (stop.Fault fault.NoMemory)) failed = end.NoMemory
end_at (Some (stop.Fault fault.Ended)) failed = end.Talk
end_at (Some (stop.Fault fault.Torn)) failed = end.Talk
end_at (Some (stop.Fault fault.ReadFault)) failed = end.Talk
end_at (Some (stop.Fault fault.WriteFault)) failed = end.Talk
end_at (Some (stop.Fault (fault.Wire f))) failed = end.Talk
end_at (Some (stop.Fault (fault.Unasked n))) failed = end.Talk
end_at (Some (stop.Fault (fault.Kind kind))) failed = end.Talk
end_at (Some (stop.Fault fault.Closed)) failed = end.Talk
end_at (Some (stop.Fault fault.Tags)) failed = end.Talk
end_at (Some (stop.Fault fault.Large)) failed = end.Talk
end_at (Some (stop.Fault (fault.Remote text))) failed = end.Talk

module _ {L S K : Type 0} where
  -- nothing was dialled
  abbrev pub unlinked : DoEnd → Doing L S K
  unlinked e = record { end = e; link = None; reader = None; writer = None; stop = None }

  -- nothing was dialled, and nothing was written
  pub record IsIdle (e : DoEnd) (o : Seen) (d : Doing L S K) : Type 0 where
    pub nothing : d ≡ unlinked e
    pub silent : o.now.bytes ≡ o.before.bytes

  -- a line, or the whole input, is refused, and nothing was dialled; or there was no memory to say so
  pub record IsRefused (line : ℕ) (word : List ℕ) (o : Seen) (d : Doing L S K) : Type 0 where
    pub nothing : d ≡ unlinked end.Script
    pub put : IsPut o (refused_text line word)

  -- a line is refused with this word, or there was no memory to say so
  abbrev pub Refuses : ℕ → List ℕ → Seen → Doing L S K → Type 0
  Refuses line word o d = IsRefused line word o d ⊎ IsIdle end.NoMemory o d

  -- the link gave no halves, which it still has, and has counted it
  pub record IsUnhalved (m : Peer L S K) (o : Seen) (d : Doing L S K) : Type 0 where
    pub link : L
    pub none : d ≡ record { end = end.HostFault; link = Some link; reader = None; writer = None; stop = None }
    pub risen : HasRisen 0 (m.link link).faults
    pub whole : (m.link link).is_halved ≡ false
    pub silent : o.now.bytes ≡ o.before.bytes

  -- The lines were done over a link, whose source and sink were as the link gives them: with what it begins with, and
  -- empty, and without a fault.
  pub record Talked (m : Peer L S K) (tree : List ℕ) (lines : List DoLine) (o : Seen) (d : Doing L S K) : Type 0 where
    pub link : L
    pub reader : S
    pub writer : K
    pub objects : d ≡ record {
      end = d.end;
      link = Some link;
      reader = Some reader;
      writer = Some writer;
      stop =
          d.stop;
    }
    pub source : BytesTold
    pub begins : source.bytes ≡ (m.link link).begins
    pub sink : BytesTold
    pub empty : AreTold sink.bytes []
    pub fresh : (source.faults ≡ 0) × (sink.faults ≡ 0)
    pub failed : Bool
    pub comes : Comes d.stop (told_of tree lines) begun (ends sink (m.sink writer) source (m.source reader)) failed o
    pub ended : d.end ≡ end_at d.stop failed

  -- what a host gave: one link, which was dialled at this path, or none
  abbrev pub IsGivenAt : Peer L S K → List ℕ → HostSeen → Option L → Type 0
  IsGivenAt m path h None = h.now.given ≡ h.before.given
  IsGivenAt m path h (Some link) = (h.now.given ≡ one_more h.before.given) × AreTold (m.link link).dialled path

  -- over a link: it gave no halves, or the lines were done
  abbrev pub TalksOver : Peer L S K → List ℕ → List DoLine → Seen → Doing L S K → Type 0
  TalksOver m tree lines o d = IsUnhalved m o d ⊎ Talked m tree lines o d

  -- lines in the grammar: the host has failed, or there was a link
  abbrev pub Dials : Peer L S K → List ℕ → List DoLine → Given → Seen → Doing L S K → Type 0
  Dials m tree lines i o d = (IsIdle end.HostFault o d × HasRisen i.host.before.faults i.host.now.faults)
      ⊎ TalksOver m tree lines o d

  -- what came of lines that were read: the first outside the grammar is refused
  abbrev pub Lined : Peer L S K → List ℕ → Result (List DoLine) ℕ → Given → Seen → Doing L S K → Type 0
  Lined m tree (Err k) i o d = Refuses k (codes "line") o d
  Lined m tree (Ok lines) i o d = Dials m tree lines i o d

  -- lines of lawful length: they were read, or there was no memory for it
  abbrev pub Reads : Peer L S K → List ℕ → Result (List DoLine) ℕ → Given → Seen → Doing L S K → Type 0
  Reads m tree read i o d = IsIdle end.NoMemory o d ⊎ Lined m tree read i o d

  -- How `do` ends: the input could not be read, or was too long, or there was no memory for it, or its lines were read.
  abbrev pub Says : Peer L S K → List ℕ → Given → Seen → Doing L S K → Type 0
  Says m tree i o d =
      (IsIdle end.ReadFault o d × HasRisen i.input.before.faults i.input.now.faults)
      ⊎ (IfSome i.input.before.bytes (λ bytes. input_limit < length bytes) × Refuses 0 (codes "input") o d)
      ⊎ IsIdle end.NoMemory o d
      ⊎ ((bytes : List ℕ) × AreTold i.input.before.bytes bytes × (length bytes ≤ input_limit)
      × Lined m tree (lines_from 1 (lines_of bytes)) i o d)

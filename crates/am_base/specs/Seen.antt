-- What is seen of outside objects over a call.
use Rattle.am_base.specs.Outside.{BytesTold, HostTold}

-- what a source or a sink tells, before and now
pub record Seen : Type 0 where
  pub before : BytesTold
  pub now : BytesTold

-- what was told before a call, and what is told now
abbrev pub seen : BytesTold → BytesTold → Seen
seen before now = record { before = before; now = now }

-- what a host tells, before and now
pub record HostSeen : Type 0 where
  pub before : HostTold
  pub now : HostTold

-- what a host told before a call, and tells now
abbrev pub host_seen : HostTold → HostTold → HostSeen
host_seen before now = record { before = before; now = now }

-- what a program's input and its host tell, before and now
pub record Given : Type 0 where
  pub input : Seen
  pub host : HostSeen

-- what an input told before and tells now, and a host
abbrev pub given : BytesTold → BytesTold → HostTold → HostTold → Given
given before now host_before host_now = record { input = seen before now; host = host_seen host_before host_now }

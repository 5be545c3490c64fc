-- An event finds its connection as it wants it, where nothing is ready.
use Rattle.core_parts.specs.declared.parts.Parts.{Parts}
use Rattle.core_parts.specs.Parts.{present_of}
use Rattle.acme_core.specs.Kept.{AreSound}
use Rattle.std.proofs.Common.{◌≡◌, None}
use Rattle.am_journal.specs.declared.event.Event.{Event}
use Rattle.core_parts.specs.Kinds.{kind_of}
use Rattle.core_intents.proofs.Kinded.{found}
use Rattle.core_parts.specs.Connections.{IsJoinedFor}
use Rattle.core_intents.specs.Doings.{enabled_at}
use Rattle.core_steps.proofs.Joins.{joined_for}

-- what the tables have, where nothing is ready
pub tables_joined : (p : Parts) (e : Event) → enabled_at (present_of p) e ≡ None → AreSound p
    → IsJoinedFor p.sessions.kept (kind_of e)
tables_joined p e allowed sound = joined_for (present_of p).connections (present_of p).tables (kind_of e)
    (found (present_of p) e allowed) sound.joined

pub ruleset joined = (tables_joined)

-- What openings of ports get, over every journal.
use Rattle.std.specs.Prelude.{◌≡◌, ◌==◌, ℕ, List, [], ◌∷◌, ◌++◌, Option, Some, None, if◌then◌else◌}
use Rattle.ninep_types.specs.declared.message.RBody.{RBody}
use Rattle.ninep_types.specs.declared.message.RBody.TheVariants as r
use Rattle.plumb_ports.specs.PortsState.{PortsState}
use Rattle.plumb_ports.specs.Laws.{Call}
use Rattle.book_calls.specs.Calls.{bytes_to}
use Rattle.book_calls.specs.PortCalls.{CanCallAll, after_calls, all_answers, all_coming}
use Rattle.book_calls.specs.PortLaws.{GetsItsMessages}
use Rattle.am_journal.specs.declared.event.Event.{Event}
use Rattle.core_events.specs.declared.response.Feed.{Feed}
use Rattle.core_events.specs.declared.response.FeedKind.{FeedKind}
use Rattle.core_events.specs.declared.response.FeedKind.TheVariants.{Events, Port, Log, Jobs}
use Rattle.core_events.specs.declared.response.Response.{Response}
use Rattle.core_intents.specs.Doings.{doing_of}
use Rattle.core_parts.specs.Kinds.{kind_of}
use Rattle.acme_core.specs.Run.{run, present_after}
use Rattle.core_laws.specs.Saying.{said_after}
use Rattle.event_laws.specs.Calls.{calls_at}
use Rattle.am_journal.specs.declared.event.Journal.{Journal}
use Rattle.am_journal.specs.Journal.{longer, journal_in}
use Rattle.core_laws.specs.Fronts.{followed}

-- ---- what an opening is given

-- the data of an Rread on this opening of a port
abbrev pub data_on : ℕ → FeedKind → ℕ → RBody → List ℕ
data_on opening Port o (r.Read bytes) = if o == opening then bytes else []
data_on opening Port o body = []
data_on opening Events o body = []
data_on opening Log o body = []
data_on opening Jobs o body = []

abbrev pub data_in : ℕ → Option Feed → RBody → List ℕ
data_in opening None body = []
data_in opening (Some feed) body = data_on opening feed.kind feed.opening body

-- the joined data of those among what is said
abbrev pub data_of : ℕ → List Response → List ℕ
data_of opening [] = []
data_of opening (x ∷ xs) = data_in opening x.feed x.message.body ++ data_of opening xs

unfoldable pub given_from : ℕ → Journal → List Event → List ℕ
given_from opening before [] = []
given_from opening before (e ∷ events) =
    data_of opening (said_after before e) ++ given_from opening (longer before e) events

-- of all Rreads that a journal makes, in order
abbrev pub given : Journal → ℕ → List ℕ
given journal opening = given_from opening (journal_in journal.format []) journal.events

-- ---- what comes to it

-- the ports after a journal
abbrev pub ports_after : Journal → PortsState
ports_after journal = (run journal).scene.ports

-- the calls that an entry makes of them
abbrev pub calls_of : Journal → Event → List Call
calls_of before e = calls_at (present_after before) (kind_of e) (doing_of (present_after before) e)

unfoldable pub coming_from : ℕ → Journal → List Event → List (List ℕ)
coming_from opening before [] = []
coming_from opening before (e ∷ events) =
    all_coming opening (ports_after before) (calls_of before e) ++ coming_from opening (longer before e) events

-- what its port kept when it joined, and each message that was delivered to its port while it was there
abbrev pub coming : Journal → ℕ → List (List ℕ)
coming journal opening = coming_from opening (journal_in journal.format []) journal.events

-- ---- the laws

-- What an entry does to ports it does by these calls, and its Rreads on an opening have the data that they give.
pub record IsByPorts (before : Journal) (e : Event) : Type 0 where
  pub can : CanCallAll (ports_after before) (calls_of before e)
  pub ports : after_calls (ports_after before) (calls_of before e) ≡ ports_after (longer before e)
  pub gives : (opening : ℕ) → data_of opening (said_after before e)
      ≡ bytes_to opening (all_answers (ports_after before) (calls_of before e))

pub record PortLaws (journal : Journal) : Type 0 where
  pub calls : (before : Journal) (behind : List Event) (e : Event) → followed before (e ∷ behind) ≡ journal
      → IsByPorts before e
  pub gets : (opening : ℕ) → GetsItsMessages (given journal opening) (coming journal opening)
      (ports_after journal) opening

abbrev pub PortsAreLawful : Type 0
PortsAreLawful = (journal : Journal) → PortLaws journal

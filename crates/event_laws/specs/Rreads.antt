-- The Rreads that answer reads of event files.
use Rattle.std.specs.Prelude.{ℕ, ◌+◌, ◌==◌, List, [], ◌∷◌, ◌++◌, length, Option, Some, None, if◌then◌else◌}
use Rattle.ninep_types.specs.declared.message.RBody.{RBody}
use Rattle.ninep_types.specs.declared.message.RBody.TheVariants as r
use Rattle.am_journal.specs.declared.event.Event.{Event}
use Rattle.core_events.specs.declared.response.Feed.{Feed}
use Rattle.core_events.specs.declared.response.FeedKind.{FeedKind}
use Rattle.core_events.specs.declared.response.FeedKind.TheVariants.{Events, Port, Log, Jobs}
use Rattle.core_events.specs.declared.response.Response.{Response}
use Rattle.core_laws.specs.Saying.{said_after}
use Rattle.am_journal.specs.declared.event.Journal.{Journal}
use Rattle.am_journal.specs.Journal.{longer, journal_in}

-- one: the number of the entry that made it, the opening that was read, and its data
pub record Rread : Type 0 where
  pub at : ℕ
  pub opening : ℕ
  pub bytes : List ℕ

abbrev pub rread_on : ℕ → FeedKind → ℕ → RBody → List Rread
rread_on at Events opening (r.Read bytes) = record { at = at; opening = opening; bytes = bytes } ∷ []
rread_on at Events opening body = []
rread_on at Port opening body = []
rread_on at Log opening body = []
rread_on at Jobs opening body = []

abbrev pub rread_in : ℕ → Option Feed → RBody → List Rread
rread_in at None body = []
rread_in at (Some feed) body = rread_on at feed.kind feed.opening body

-- those among what an entry says
abbrev pub rreads_of : ℕ → List Response → List Rread
rreads_of at [] = []
rreads_of at (x ∷ xs) = rread_in at x.feed x.message.body ++ rreads_of at xs

-- those that entries make, each after those before it
unfoldable pub rreads_from : Journal → List Event → List Rread
rreads_from before [] = []
rreads_from before (e ∷ events) =
    rreads_of (length before.events + 1) (said_after before e) ++ rreads_from (longer before e) events

-- all that a journal makes, in order
abbrev pub rreads : Journal → List Rread
rreads journal = rreads_from (journal_in journal.format []) journal.events

-- the joined data of those on an opening
abbrev pub data_on : ℕ → List Rread → List ℕ
data_on opening [] = []
data_on opening (x ∷ xs) = (if x.opening == opening then x.bytes else []) ++ data_on opening xs

-- what an opening was given
abbrev pub delivered : Journal → ℕ → List ℕ
delivered journal opening = data_on opening (rreads journal)

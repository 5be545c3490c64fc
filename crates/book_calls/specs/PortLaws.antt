-- What an opening of a port gets over calls.
use Rattle.std.specs.Prelude.{◌≡◌, ◌<◌, ◌++◌, ℕ, List, []}
use Rattle.std.specs.List.{concat}
use Rattle.plumb_ports.specs.PortsState.{PortsState, HasJoined}
use Rattle.plumb_ports.specs.Laws.{Call, owed, AreNumbered}
use Rattle.book_calls.specs.Calls.{bytes_to}
use Rattle.book_calls.specs.PortCalls.{CanCallAll, after_calls, all_answers, all_coming}

-- What an opening was given is a front of the messages that came to it, in order, each once. While it is there, what is
-- missing is what it has left with the messages that wait for it. Before it joins nothing is.
pub record GetsItsMessages (given : List ℕ) (coming : List (List ℕ)) (s : PortsState) (opening : ℕ) : Type 0 where
  pub missing : List ℕ
  pub joined : given ++ missing ≡ concat coming
  pub there : HasJoined s opening → missing ≡ owed s opening
  pub before : s.joined < opening → missing ≡ []

-- what calls leave of that
pub record IsLawfulRun (s : PortsState) (cs : List Call) : Type 0 where
  pub numbered : AreNumbered (after_calls s cs)
  pub gets : (opening : ℕ) (given : List ℕ) (coming : List (List ℕ)) → GetsItsMessages given coming s opening
      → GetsItsMessages (given ++ bytes_to opening (all_answers s cs)) (coming ++ all_coming opening s cs)
      (after_calls s cs) opening

-- so it is with any calls of an entry
abbrev pub CallsAreLawful : Type 0
CallsAreLawful = (s : PortsState) (cs : List Call) → AreNumbered s → CanCallAll s cs → IsLawfulRun s cs

-- Calls of the ports, one after another: what they answer, and which messages they bring to an opening.
use Rattle.std.specs.Prelude.{◌≡◌, ◌==◌, ◌+◌, ℕ, false, List, [], ◌∷◌, ◌++◌, Option, Some, None, if◌then◌else◌}
use Rattle.plumb_ports.specs.PortList.{number_of, kept_of}
use Rattle.plumb_ports.specs.Inboxes.{is_on, inbox_of}
use Rattle.plumb_ports.specs.PortsState.{PortsState, HasJoined, has_joined, read_waits, piece_for, served_of}
use Rattle.plumb_ports.specs.Laws.{Call, Add, Join, Deliver, Ask, Serve, Cancel, Leave, after_call}
use Rattle.book_calls.specs.Calls.{Answers, if_answered}

-- An opening joins with the next number, which no opening has, and a read is asked on an opening that is there.
abbrev pub CanCall : PortsState → Call → Type 0
CanCall s (Add name) = Unit {0}
CanCall s (Join port opening) = (opening ≡ s.joined + 1) × (has_joined s opening ≡ false)
CanCall s (Deliver name message keep) = Unit {0}
CanCall s (Ask r) = HasJoined s r.opening
CanCall s Serve = Unit {0}
CanCall s (Cancel conn tag) = Unit {0}
CanCall s (Leave opening) = Unit {0}

-- the reads that the call answers, each with what it is given
abbrev pub answers_of : PortsState → Call → Answers
answers_of s (Add name) = []
answers_of s (Join port opening) = []
answers_of s (Deliver name message keep) = []
answers_of s (Ask r) = if read_waits s r then [] else (r, piece_for s r) ∷ []
answers_of s Serve = if_answered (served_of s)
answers_of s (Cancel conn tag) = []
answers_of s (Leave opening) = []

-- a message to a port comes to each of its openings
abbrev pub coming_on : Option ℕ → PortsState → List ℕ → ℕ → List (List ℕ)
coming_on None s message opening = []
coming_on (Some port) s message opening = if is_on port (inbox_of s.openings opening) then message ∷ [] else []

-- The messages that the call brings to an opening: what its port keeps, where it joins; and while it is there,
-- each message to its port.
abbrev pub comes_to : ℕ → PortsState → Call → List (List ℕ)
comes_to opening s (Add name) = []
comes_to opening s (Join port o) = if o == opening then kept_of s.ports port else []
comes_to opening s (Deliver name message keep) =
    if has_joined s opening then coming_on (number_of s.ports name) s message opening else []
comes_to opening s (Ask r) = []
comes_to opening s Serve = []
comes_to opening s (Cancel conn tag) = []
comes_to opening s (Leave o) = []

-- ---- one after another

-- each call may be made where it comes
unfoldable pub CanCallAll : PortsState → List Call → Type 0
CanCallAll s [] = Unit {0}
CanCallAll s (c ∷ cs) = CanCall s c × CanCallAll (after_call s c) cs

-- the ports after calls
unfoldable pub after_calls : PortsState → List Call → PortsState
after_calls s [] = s
after_calls s (c ∷ cs) = after_calls (after_call s c) cs

-- the answers that calls give
unfoldable pub all_answers : PortsState → List Call → Answers
all_answers s [] = []
all_answers s (c ∷ cs) = answers_of s c ++ all_answers (after_call s c) cs

-- the messages that calls deliver for an opening
unfoldable pub all_coming : ℕ → PortsState → List Call → List (List ℕ)
all_coming opening s [] = []
all_coming opening s (c ∷ cs) = comes_to opening s c ++ all_coming opening (after_call s c) cs

-- Replies, entry by entry, each after the entries before it.
use Rattle.std.proofs.Common.{◌≡◌, ℕ, List, [], ◌∷◌, ◌++◌, refl, sym, ap, ◌∙◌, append_assoc}
use Rattle.core_laws.specs.Replies.{bytes_to, replies_from, replies}
use Rattle.am_journal.specs.declared.event.Event.{Event}
use Rattle.acme_core.specs.Run.{run}
use Rattle.core_parts.specs.States.{State}
use Rattle.acme_core.proofs.Goes.{run-push}
use Rattle.am_journal.specs.declared.event.Journal.{Journal}
use Rattle.am_journal.specs.Journal.{longer, journal_in}
use Rattle.core_laws.specs.Fronts.{followed}
use Rattle.core_laws.proofs.Playing.{none_more, goes_on}

-- what an entry replies to the connection, after the entries before it
abbrev pub replied_by : ℕ → Journal → Event → List ℕ
replied_by conn before e = bytes_to conn (run (longer before e)).replies

-- what entries reply to it, each after those before it
abbrev pub replied_from : Journal → List Event → ℕ → List ℕ
replied_from before [] conn = []
replied_from before (e ∷ events) conn = replied_by conn before e ++ replied_from (longer before e) events conn

from_state : (before : Journal) (events : List Event) (conn : ℕ)
    → replied_from before events conn ≡ replies_from (run before)
    events conn
from_state before [] conn = refl
from_state before (e ∷ events) conn =
    ap (λ (l : List ℕ). replied_by conn before e ++ l) (from_state (longer before e) events conn)
    ∙ ap (λ (s : State). bytes_to conn s.replies ++ replies_from s events conn) (run-push before e)

pub all_replied : (journal : Journal) (conn : ℕ)
    → replied_from (journal_in journal.format []) journal.events conn ≡ replies journal conn
unfolding run
all_replied journal conn = from_state (journal_in journal.format []) journal.events conn

pub replied_parts : (before : Journal) (xs ys : List Event) (conn : ℕ)
    → replied_from before (xs ++ ys) conn ≡ replied_from before
    xs conn ++ replied_from (followed before xs) ys conn
replied_parts before [] ys conn = ap (λ (l : Journal). replied_from l ys conn) (sym (none_more before))
replied_parts before (x ∷ xs) ys conn =
    ap (λ (l : List ℕ). replied_by conn before x ++ l)
    (replied_parts (longer before x) xs ys conn ∙ ap (λ (l : Journal). replied_from (longer before x) xs conn
    ++ replied_from l ys conn) (goes_on before x xs))
    ∙ sym (append_assoc (replied_by conn before x) (replied_from (longer before x) xs conn)
    (replied_from (followed before (x ∷ xs)) ys conn))

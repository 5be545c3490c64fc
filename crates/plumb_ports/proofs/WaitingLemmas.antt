-- Which reads wait after each call.
use Rattle.std.proofs.Common.{◌≡◌, inl, ℕ, true, false, cond, not, List, [], ◌∷◌, ◌++◌, map, ap, Option, Some, None}
use Rattle.std.proofs.Common.{option_map, refl}
use Rattle.std.proofs.lemmas.List.Elements.{Contains-push_cases}
use Rattle.wait_queue.specs.Reads.{is_read, is_on}
use Rattle.wait_queue.specs.Laws.{AddsNone, AddsOnly}
use Rattle.wait_queue.specs.declared.types.Asker.{Asker}
use Rattle.wait_queue.specs.declared.types.Piece.{Piece}
use Rattle.wait_queue.proofs.WaitingLemmas.{filter-adds, without_first-adds, found-there, none_left}
use Rattle.plumb_ports.specs.PortList.{number_of, kept_of, with_kept}
use Rattle.plumb_ports.specs.Inboxes.{delivered}
use Rattle.plumb_ports.specs.PortsState.{PortsState, is_open, is_ready, read_waits, piece_for, next_of, delivered_at}
use Rattle.plumb_ports.specs.PortsState.{delivered_on, after_add, after_join, after_ask, after_next, after_answer}
use Rattle.plumb_ports.specs.Laws.{Add, Join, Deliver, Ask, Serve, Cancel, Leave, CancelledIsGone, OnlyAskWaits}
use Rattle.plumb_ports.specs.Laws.{ServedWaited}

pub cancelled_gone : CancelledIsGone
cancelled_gone s conn tag = none_left s.reads conn tag

add-adds : (s : PortsState) (name : List ℕ) → AddsNone s.reads (after_add s name).reads
add-adds s name = λ x c. c

join-adds : (s : PortsState) (port opening : ℕ) → AddsNone s.reads (after_join s port opening).reads
join-adds s port opening = λ x c. c

reads_stay : (s : PortsState) (port : ℕ) (message : List ℕ) → (delivered_at s port message).reads ≡ s.reads
reads_stay s port message =
    elim (is_open s port) as (λ b. (cond b (record s { openings = map (delivered port message) s.openings })
    (record s { ports = with_kept s.ports port (kept_of s.ports port ++ message ∷ []) })).reads ≡ s.reads)
    [ true ↦ refl | false ↦ refl ]

at-adds : (s : PortsState) (port : ℕ) (message : List ℕ) → AddsNone s.reads (delivered_at s port message).reads
at-adds s port message = λ x c. let same = reads_stay s port message in (rw same at c)

deliver-adds : (port : Option ℕ) (s : PortsState) (message : List ℕ)
    → AddsNone s.reads (delivered_on port s message).reads
deliver-adds None s message = λ x c. c
deliver-adds (Some port) s message = at-adds s port message

ask-adds : (s : PortsState) (r : Asker) → AddsOnly r s.reads (after_ask s r).reads
ask-adds s r =
    elim (read_waits s r) as (λ b. AddsOnly r s.reads (cond b (record s { reads = s.reads ++ r ∷ [] })
    (after_answer s r)).reads) [
      | true ↦ λ x c. Contains-push_cases s.reads r x c
      | false ↦ λ x c. inl c
    ]

next-adds : (next : Option Asker) (s : PortsState) → AddsNone s.reads (after_next next s).reads
next-adds None s = λ x c. c
next-adds (Some r) s = without_first-adds (is_ready s.openings) s.reads

pub only_ask_adds : OnlyAskWaits
only_ask_adds s (Add name) = add-adds s name
only_ask_adds s (Join port opening) = join-adds s port opening
only_ask_adds s (Deliver name message keep) = deliver-adds (number_of s.ports name) s message
only_ask_adds s (Ask r) = ask-adds s r
only_ask_adds s Serve = next-adds (next_of s) s
only_ask_adds s (Cancel conn tag) = filter-adds (λ r. not (is_read conn tag r)) s.reads
only_ask_adds s (Leave opening) = filter-adds (λ r. not (is_on opening r)) s.reads

served_is : (next : Option Asker) (piece : Asker → Piece) (r : Asker) (p : Piece)
    → option_map {U = Asker × Piece} (λ r. (r, piece r)) next ≡ Some (r, p) → next ≡ Some r
served_is None piece r p h = cc
served_is (Some x) piece r p h = let same : ◌≡◌ {A = Asker × Piece} (x, piece x) (r, p) = cc in
    ap (λ (t : Asker × Piece). Some t.0) same

pub served_waited : ServedWaited
served_waited s r piece h = found-there (is_ready s.openings) s.reads r (served_is (next_of s) (piece_for s) r piece h)

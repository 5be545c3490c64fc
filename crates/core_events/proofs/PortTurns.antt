-- Reads of ports that are answered: how many bytes they get, and how many are left.
use Rattle.std.proofs.Common.{◌≡◌, ◌==◌, ℕ, zero, suc, ◌+◌, ◌<◌, ◌≤◌, ◌^◌, true, false, cond, List, [], ◌∷◌, ◌++◌}
use Rattle.std.proofs.Common.{length, Option, Some, None, option_map, refl, sym, ap, append_assoc, ◌∙◌, subst, arith}
use Rattle.std.proofs.lemmas.Option.{some_pair_parts}
use Rattle.std.proofs.lemmas.List.Elements.{All-push}
use Rattle.ninep_types.specs.declared.message.RBody.TheVariants as r
use Rattle.wait_queue.specs.declared.types.Asker.{Asker}
use Rattle.wait_queue.specs.declared.types.Piece.{Piece}
use Rattle.plumb_ports.specs.Inboxes.{Inbox, inbox_of, piece_from, piece_of}
use Rattle.plumb_ports.specs.PortsState.{PortsState, is_ready, piece_for, next_of, after_next, served_of, after_serve}
use Rattle.core_fids.specs.Done.{IsSent}
use Rattle.core_events.specs.declared.response.Response.{Response}
use Rattle.core_events.specs.Responses.{IsSaid, AreSaid}
use Rattle.core_events.proofs.Turns.{cut, read_sent, found_less}
use Rattle.core_events.specs.PortSound.{ArePortsSound}
use Rattle.core_events.specs.PortServing.{response_to, then_served, served_most, after_serving_most, ports_served}
use Rattle.core_events.specs.PortServing.{ports_after_serving}
use Rattle.core_events.proofs.PortSounds.{next_small, sound_served}

-- ---- at most as many bytes as a read asks for

from_small : (carry : List ℕ) (messages : List (List ℕ)) (count : ℕ)
    → length (piece_from carry messages count).bytes ≤ count
from_small (b ∷ bs) messages count = cut count (b ∷ bs)
from_small [] (m ∷ messages) count = cut count m
from_small [] [] count = omega arith

piece_small : (o : Inbox) (count : ℕ) → length (piece_of o count).bytes ≤ count
piece_small o count =
    elim (count == 0) as (λ b. length (cond b (record { bytes = []; taken = None })
    (piece_from o.carry o.messages count)).bytes ≤ count) [
      | true ↦ omega arith
      | false ↦ from_small o.carry o.messages count
    ]

pub piece_sent : (s : PortsState) (a : Asker) → a.count + 11 < 2 ^ 32 → IsSent (r.Read (piece_for s a).bytes)
piece_sent s a small = read_sent (piece_for s a).bytes a.count (piece_small (inbox_of s.openings a.opening) a.count)
    small

abbrev with_piece : PortsState → Option Asker → Option (Asker × Piece)
with_piece s o = option_map (λ b. (b, piece_for s b)) o

served_next : (s : PortsState) (o : Option Asker) (a : Asker) (p : Piece) → with_piece s o ≡ Some (a, p) → (o ≡ Some a)
    × (piece_for s a ≡ p)
served_next s None a p h = cc
served_next s (Some b) a p h =
    let parts = some_pair_parts b a (piece_for s b) p h in
    (ap (λ (x : Asker). Some x) parts.0, ap (piece_for s) (sym parts.0) ∙ parts.1)

none_served : (s : PortsState) (o : Option Asker) → with_piece s o ≡ None → o ≡ None
none_served s None h = refl
none_served s (Some b) h = absurd cc

pub none_next : (s : PortsState) → served_of s ≡ None → next_of s ≡ None
none_next s h = none_served s (next_of s) h

-- the answer to a waiting read has a spelling
served_sent : (s : PortsState) (a : Asker) (p : Piece) → ArePortsSound s → served_of s ≡ Some (a, p)
    → IsSent (r.Read p.bytes)
served_sent s a p sound h =
    let k = served_next s (next_of s) a p h in
    subst (λ (q : Piece). IsSent (r.Read q.bytes)) k.1 (piece_sent s a (next_small s a sound k.0))

-- ---- each answer leaves a read less

pub next_less : (s : PortsState) (a : Asker) → next_of s ≡ Some a → length s.reads ≡ suc (length (after_serve s).reads)
next_less s a h = found_less (is_ready s.openings) s.reads a h ∙ ap
    (λ (o : Option Asker). suc (length (after_next o s).reads)) (sym h)

served_less : (s : PortsState) (a : Asker) (p : Piece) → served_of s ≡ Some (a, p)
    → length s.reads ≡ suc (length (after_serve s).reads)
served_less s a p h = next_less s a (served_next s (next_of s) a p h).0

-- ---- one answer more

one_more : (n : ℕ) (s : PortsState) (x : Asker × Piece) (k : ℕ) → n ≡ suc k → served_of s ≡ Some x
    → served_most n s ≡ response_to x ∷ served_most k (after_serve s)
unfolding served_most
one_more n s x k e h =
    ap (λ (m : ℕ). served_most m s) e ∙ ap (λ (o : Option (Asker × Piece)). then_served o
    (served_most k (after_serve s))) h

after_one_more : (n : ℕ) (s : PortsState) (k : ℕ) → n ≡ suc k → after_serving_most n s ≡ after_serving_most k
    (after_serve s)
unfolding after_serving_most
after_one_more n s k e = ap (λ (m : ℕ). after_serving_most m s) e

none_more : (n : ℕ) (s : PortsState) → served_of s ≡ None → served_most n s ≡ []
unfolding served_most
none_more zero s h = refl
none_more (suc n) s h = ap (λ (o : Option (Asker × Piece)). then_served o (served_most n (after_serve s))) h

-- where none can be answered, all stays
pub idle : (s : PortsState) → served_of s ≡ None → after_serve s ≡ s
idle s h = ap (λ (o : Option Asker). after_next o s) (none_next s h)

pub after_none_more : (n : ℕ) (s : PortsState) → served_of s ≡ None → after_serving_most n s ≡ s
unfolding after_serving_most
after_none_more zero s h = refl
after_none_more (suc n) s h = ap (λ (t : PortsState). after_serving_most n t) (idle s h) ∙ after_none_more n s h

all_more : (s : PortsState) (a : Asker) (p : Piece) → served_of s ≡ Some (a, p)
    → ports_served s ≡ response_to (a, p) ∷ ports_served (after_serve s)
all_more s a p h = one_more (length s.reads) s (a, p) (length (after_serve s).reads) (served_less s a p h) h

pub after_all_more : (s : PortsState) (a : Asker) (p : Piece) → served_of s ≡ Some (a, p)
    → ports_after_serving s ≡ ports_after_serving (after_serve s)
after_all_more s a p h = after_one_more (length s.reads) s (length (after_serve s).reads) (served_less s a p h)

pub all_none : (s : PortsState) → served_of s ≡ None → ports_served s ≡ []
all_none s h = none_more (length s.reads) s h

pub after_all_none : (s : PortsState) → served_of s ≡ None → ports_after_serving s ≡ s
after_all_none s h = after_none_more (length s.reads) s h

-- ---- an answer more to what was said so far

pub said_more : (start s after : PortsState) (a : Asker) (p : Piece) (said more : List Response)
    → served_of s ≡ Some (a, p) → after ≡ after_serve s → said ++ ports_served s ≡ ports_served start
    → more ≡ said ++ response_to (a, p) ∷ []
    → more ++ ports_served after ≡ ports_served start
said_more start s after a p said more h e exact push =
    ap (λ (l : List Response). l ++ ports_served after) push
    ∙ append_assoc said (response_to (a, p) ∷ []) (ports_served after)
    ∙ ap (λ (t : PortsState). said ++ (response_to (a, p) ∷ ports_served t)) e
    ∙ ap (λ (l : List Response). said ++ l) (sym (all_more s a p h))
    ∙ exact

pub more_said : (s : PortsState) (a : Asker) (p : Piece) (said more : List Response)
    → ArePortsSound s → served_of s ≡ Some (a, p) → AreSaid said → more ≡ said ++ response_to (a, p) ∷ [] → AreSaid more
more_said s a p said more sound h all push =
    subst AreSaid (sym push) (All-push IsSaid said (response_to (a, p)) all (served_sent s a p sound h))

pub fewer : (s after : PortsState) (a : Asker) (p : Piece) → served_of s ≡ Some (a, p) → after ≡ after_serve s
    → length after.reads < length s.reads
fewer s after a p h e =
    let less : length s.reads ≡ suc (length (after_serve s).reads) = served_less s a p h in
    let same : length after.reads ≡ length (after_serve s).reads = ap (λ (t : PortsState). length t.reads) e in
    omega arith

pub sound_after : (s after : PortsState) → ArePortsSound s → after ≡ after_serve s → ArePortsSound after
sound_after s after sound e = subst (λ (t : PortsState). ArePortsSound t) (sym e) (sound_served s sound)

-- Reads that are answered: how many bytes they get, and how many are left.
use Rattle.std.proofs.Common.{◌≡◌, ◌==◌, ℕ, zero, suc, ◌+◌, ◌<◌, ◌≤◌, ◌^◌, Bool, true, false, cond, List, [], ◌∷◌, ◌++◌}
use Rattle.std.proofs.Common.{length, take, find, Option, Some, None, option_map, refl, sym, ap, append_assoc, ◌∙◌}
use Rattle.std.proofs.Common.{subst, arith}
use Rattle.std.proofs.lemmas.List.{length-take}
use Rattle.std.proofs.lemmas.Option.{some_pair_parts}
use Rattle.std.proofs.lemmas.List.Elements.{All-push}
use Rattle.ninep_types.specs.declared.message.RBody.TheVariants as r
use Rattle.wait_queue.specs.Reads.{without_first}
use Rattle.wait_queue.specs.WaitState.{WaitState, piece_from, piece_of}
use Rattle.wait_queue.specs.Carry.{carry_of}
use Rattle.wait_queue.specs.declared.pending.Pending.{Pending}
use Rattle.wait_queue.specs.declared.types.Asker.{Asker}
use Rattle.wait_queue.specs.declared.types.Piece.{Piece}
use Rattle.event_book.specs.BookState.{BookState, file_on, piece_for, is_ready, next_of, after_next, served_of}
use Rattle.event_book.specs.BookState.{after_serve}
use Rattle.event_book.specs.WindowFiles.{queue_of}
use Rattle.core_fids.specs.Done.{IsSent}
use Rattle.core_events.specs.declared.response.Response.{Response}
use Rattle.core_events.specs.Responses.{IsSaid, AreSaid}
use Rattle.core_events.specs.Sound.{IsSound}
use Rattle.core_events.specs.Serving.{response_to, then_served, served_most, book_served_most, served_all}
use Rattle.core_events.specs.Serving.{book_served_all}
use Rattle.core_events.proofs.Sounds.{next_small, sound_served}

-- ---- at most as many bytes as a read asks for

pub cut : (n : ℕ) (bytes : List ℕ) → length (take n bytes) ≤ n
cut n bytes = omega (arith, length-take n bytes)

from_small : (carry : List ℕ) (items : List Pending) (count : ℕ) → length (piece_from carry items count).bytes ≤ count
from_small (b ∷ bs) items count = cut count (b ∷ bs)
from_small [] (item ∷ items) count = cut count item.bytes
from_small [] [] count = omega arith

piece_small : (q : WaitState) (a : Asker) → length (piece_of q a).bytes ≤ a.count
piece_small q a =
    elim (a.count == 0) as (λ b. length (cond b (record { bytes = []; taken = None })
    (piece_from (carry_of q.openings a.opening) q.items a.count)).bytes ≤ a.count) [
      | true ↦ omega arith
      | false ↦ from_small (carry_of q.openings a.opening) q.items a.count
    ]

pub read_sent : (bytes : List ℕ) (count : ℕ) → length bytes ≤ count → count + 11 < 2 ^ 32 → IsSent (r.Read bytes)
read_sent bytes count h small = record { body = omega arith; size = omega arith }

abbrev with_piece : BookState → Option Asker → Option (Asker × Piece)
with_piece s o = option_map (λ b. (b, piece_for s b)) o

served_small : (s : BookState) (o : Option Asker) (a : Asker) (p : Piece) → with_piece s o ≡ Some (a, p) → (o ≡ Some a)
    × (piece_for s a ≡ p)
served_small s None a p h = cc
served_small s (Some b) a p h =
    let parts = some_pair_parts b a (piece_for s b) p h in
    (ap (λ (x : Asker). Some x) parts.0, ap (piece_for s) (sym parts.0) ∙ parts.1)

none_served : (s : BookState) (o : Option Asker) → with_piece s o ≡ None → o ≡ None
none_served s None h = refl
none_served s (Some b) h = absurd cc

-- the answer to a waiting read has a spelling
pub served_sent : (at : ℕ) (s : BookState) (a : Asker) (p : Piece) → IsSound at s → served_of s ≡ Some (a, p)
    → IsSent (r.Read p.bytes)
served_sent at s a p sound h =
    let k = served_small s (next_of s) a p h in
    subst (λ (q : Piece). IsSent (r.Read q.bytes)) k.1 (read_sent (piece_for s a).bytes a.count
    (piece_small (queue_of (file_on s a.opening)) a) (next_small at s a sound k.0))

-- ---- each answer leaves a read less

pub found_less : (t : Asker → Bool) (rs : List Asker) (a : Asker) → find t rs ≡ Some a
    → length rs ≡ suc (length (without_first t rs))
found_less t [] a h = cc
found_less t (x ∷ rs) a h =
    (elim (t x) as (λ b. cond b (Some x) (find t rs) ≡ Some a → suc (length rs)
    ≡ suc (length (cond b rs (x ∷ without_first t rs)))) [
      | true ↦ λ k. refl
      | false ↦ λ k. ap suc (found_less t rs a k)
    ]) h

pub next_less : (at : ℕ) (s : BookState) (a : Asker) → next_of s ≡ Some a
    → length s.reads ≡ suc (length (after_serve s at).reads)
next_less at s a h = found_less (is_ready s.files s.owners) s.reads a h
    ∙ ap (λ (o : Option Asker). suc (length (after_next o s at).reads)) (sym h)

pub served_less : (at : ℕ) (s : BookState) (a : Asker) (p : Piece) → served_of s ≡ Some (a, p)
    → length s.reads ≡ suc (length (after_serve s at).reads)
served_less at s a p h = next_less at s a (served_small s (next_of s) a p h).0

-- ---- one answer more

one_more : (n at : ℕ) (s : BookState) (x : Asker × Piece) (k : ℕ) → n ≡ suc k → served_of s ≡ Some x
    → served_most n at s ≡ response_to x ∷ served_most k at (after_serve s at)
unfolding served_most
one_more n at s x k e h =
    ap (λ (m : ℕ). served_most m at s) e ∙ ap (λ (o : Option (Asker × Piece)). then_served o
    (served_most k at (after_serve s at))) h

book_one_more : (n at : ℕ) (s : BookState) (k : ℕ) → n ≡ suc k → book_served_most n at s ≡ book_served_most k at
    (after_serve s at)
unfolding book_served_most
book_one_more n at s k e = ap (λ (m : ℕ). book_served_most m at s) e

none_more : (n at : ℕ) (s : BookState) → served_of s ≡ None → served_most n at s ≡ []
unfolding served_most
none_more zero at s h = refl
none_more (suc n) at s h = ap (λ (o : Option (Asker × Piece)). then_served o (served_most n at (after_serve s at))) h

-- where none can be answered, all stays
pub idle : (at : ℕ) (s : BookState) → served_of s ≡ None → after_serve s at ≡ s
idle at s h = ap (λ (o : Option Asker). after_next o s at) (none_served s (next_of s) h)

pub book_none_more : (n at : ℕ) (s : BookState) → served_of s ≡ None → book_served_most n at s ≡ s
unfolding book_served_most
book_none_more zero at s h = refl
book_none_more (suc n) at s h = ap (λ (t : BookState). book_served_most n at t) (idle at s h) ∙ book_none_more n at s h

pub all_more : (at : ℕ) (s : BookState) (a : Asker) (p : Piece) → served_of s ≡ Some (a, p)
    → served_all at s ≡ response_to (a, p) ∷ served_all at (after_serve s at)
all_more at s a p h = one_more (length s.reads) at s (a, p) (length (after_serve s at).reads) (served_less at s a p h) h

pub book_all_more : (at : ℕ) (s : BookState) (a : Asker) (p : Piece) → served_of s ≡ Some (a, p)
    → book_served_all at s ≡ book_served_all at (after_serve s at)
book_all_more at s a p h = book_one_more (length s.reads) at s (length (after_serve s at).reads)
    (served_less at s a p h)

pub all_none : (at : ℕ) (s : BookState) → served_of s ≡ None → served_all at s ≡ []
all_none at s h = none_more (length s.reads) at s h

pub book_all_none : (at : ℕ) (s : BookState) → served_of s ≡ None → book_served_all at s ≡ s
book_all_none at s h = book_none_more (length s.reads) at s h

-- ---- an answer more to what was said so far

pub said_more : (at : ℕ) (start s after : BookState) (a : Asker) (p : Piece) (said more : List Response)
    → served_of s ≡ Some (a, p) → after ≡ after_serve s at → said ++ served_all at s ≡ served_all at start
    → more ≡ said ++ response_to (a, p) ∷ []
    → more ++ served_all at after ≡ served_all at start
said_more at start s after a p said more h e exact push =
    ap (λ (l : List Response). l ++ served_all at after) push
    ∙ append_assoc said (response_to (a, p) ∷ []) (served_all at after)
    ∙ ap (λ (t : BookState). said ++ (response_to (a, p) ∷ served_all at t)) e
    ∙ ap (λ (l : List Response). said ++ l) (sym (all_more at s a p h))
    ∙ exact

pub more_said : (at : ℕ) (s : BookState) (a : Asker) (p : Piece) (said more : List Response)
    → IsSound at s → served_of s ≡ Some (a, p) → AreSaid said → more ≡ said ++ response_to (a, p) ∷ [] → AreSaid more
more_said at s a p said more sound h all push =
    subst AreSaid (sym push) (All-push IsSaid said (response_to (a, p)) all (served_sent at s a p sound h))

pub fewer : (at : ℕ) (s after : BookState) (a : Asker) (p : Piece) → served_of s ≡ Some (a, p)
    → after ≡ after_serve s at → length after.reads < length s.reads
fewer at s after a p h e =
    let less : length s.reads ≡ suc (length (after_serve s at).reads) = served_less at s a p h in
    let same : length after.reads ≡ length (after_serve s at).reads = ap (λ (t : BookState). length t.reads) e in
    omega arith

pub sound_after : (at : ℕ) (s after : BookState) → IsSound at s → after ≡ after_serve s at → IsSound at after
sound_after at s after sound e = subst (λ (t : BookState). IsSound at t) (sym e) (sound_served at s sound)

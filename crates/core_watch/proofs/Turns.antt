-- Reads that are answered: how many bytes they get, and how many are left.
use Rattle.std.proofs.Common.{◌≡◌, ℕ, zero, suc, ◌+◌, ◌<◌, ◌≤◌, ◌^◌, Bool, true, false, cond, List, [], ◌∷◌}
use Rattle.std.proofs.Common.{◌++◌, length, find, Option, Some, None, option_map, refl, sym, ap, append_assoc, ◌∙◌, subst}
use Rattle.std.proofs.Common.{arith}
use Rattle.std.proofs.lemmas.Option.{some_pair_parts}
use Rattle.std.proofs.lemmas.List.Elements.{All-push}
use Rattle.ninep_types.specs.declared.message.RBody.TheVariants as r
use Rattle.wait_queue.specs.declared.types.Asker.{Asker}
use Rattle.wait_queue.specs.declared.types.Piece.{Piece}
use Rattle.wait_queue.specs.declared.types.Asked.TheVariants.{Now, Waits}
use Rattle.wait_queue.specs.WaitState.{piece_of}
use Rattle.acme_watch.specs.Log.{reader_of}
use Rattle.acme_watch.specs.Watching.{WatchState, read_waits, can_answer, piece_in, piece_for, asked_of, given_in}
use Rattle.acme_watch.specs.Watching.{next_of, without_next}
use Rattle.acme_watch.specs.Watching.{after_next, after_serve}
use Rattle.acme_watch.specs.declared.types.WatchFile.{WatchFile}
use Rattle.acme_watch.specs.declared.types.WatchFile.TheVariants.{Log, Jobs}
use Rattle.acme_watch.specs.declared.types.WatchRead.{WatchRead}
use Rattle.core_fids.specs.Done.{IsSent}
use Rattle.core_events.specs.Responses.{IsSaid, AreSaid}
use Rattle.core_events.specs.declared.response.Response.{Response}
use Rattle.core_events.proofs.Turns.{read_sent}
use Rattle.core_watch.specs.Sound.{IsWatchSound, IsWatchIdle}
use Rattle.core_watch.specs.Serving.{next_served, response_to, then_served, served_most, after_serving_most}
use Rattle.core_watch.specs.Serving.{watch_served, watch_after_serving}
use Rattle.core_watch.proofs.Lists.{found_less}
use Rattle.core_watch.proofs.Pieces.{piece_small}
use Rattle.core_watch.proofs.Sounds.{next_small, sound_served}

-- ---- the read that is answered next

abbrev with_piece : WatchState → Option WatchRead → Option (WatchRead × Piece)
with_piece s o = option_map (λ b. (b, piece_for s b)) o

served_next : (s : WatchState) (o : Option WatchRead) (x : WatchRead) (p : Piece) → with_piece s o ≡ Some (x, p)
    → (o ≡ Some x) × (piece_for s x ≡ p)
served_next s None x p h = cc
served_next s (Some b) x p h =
    let parts = some_pair_parts b x (piece_for s b) p h in
    (ap (λ (y : WatchRead). Some y) parts.0, ap (piece_for s) (sym parts.0) ∙ parts.1)

none_served : (s : WatchState) (o : Option WatchRead) → with_piece s o ≡ None → o ≡ None
none_served s None h = refl
none_served s (Some b) h = absurd cc

pub none_next : (s : WatchState) → next_served s ≡ None → next_of s ≡ None
none_next s h = none_served s (next_of s) h

in_small : (s : WatchState) (file : WatchFile) (a : Asker) → length (piece_in s file a).bytes ≤ a.count
in_small s Log a = piece_small (reader_of s.log a.opening) a
in_small s Jobs a = piece_small s.jobs.queue a

-- the answer to a read that doesn't wait has a spelling
pub now_sent : (s : WatchState) (x : WatchRead) (p : Piece) → asked_of s x ≡ Now p → x.asker.count + 11 < 2 ^ 32
    → IsSent (r.Read p.bytes)
now_sent s x p h small =
    (elim (read_waits s.log s.jobs x) as (λ b. cond b Waits (Now (piece_for s x)) ≡ Now p → IsSent (r.Read p.bytes)) [
      | true ↦ λ k. absurd cc
      | false ↦ λ k.
          let same : piece_for s x ≡ p = cc in
          subst (λ (q : Piece). IsSent (r.Read q.bytes)) same
          (read_sent (piece_for s x).bytes x.asker.count (in_small s x.file x.asker) small)
    ]) h

-- the answer to a waiting read has a spelling
served_sent : (s : WatchState) (x : WatchRead) (p : Piece) → IsWatchSound s → next_served s ≡ Some (x, p)
    → IsSaid (response_to (x, p))
served_sent s x p sound h =
    let k = served_next s (next_of s) x p h in
    subst (λ (q : Piece). IsSaid (response_to (x, q))) k.1
    (read_sent (piece_for s x).bytes x.asker.count (in_small s x.file x.asker) (next_small s x sound k.0))

-- ---- each answer leaves a read less

reads_given : (s : WatchState) (file : WatchFile) (a : Asker) (at : ℕ) → (given_in s file a at).reads ≡ s.reads
reads_given s Log a at = refl
reads_given s Jobs a at = refl

served_less : (at : ℕ) (s : WatchState) (x : WatchRead) (p : Piece) → next_served s ≡ Some (x, p)
    → length s.reads ≡ suc (length (after_serve s at).reads)
served_less at s x p h =
    let next : next_of s ≡ Some x = (served_next s (next_of s) x p h).0 in
    let left : (after_serve s at).reads ≡ (without_next s).reads =
    ap (λ (o : Option WatchRead). (after_next o s at).reads) next
    ∙ reads_given (without_next s) x.file x.asker at in
    found_less (can_answer s.log s.jobs) s.reads x next ∙ ap (λ (rs : List WatchRead). suc (length rs)) (sym left)

-- ---- one answer more

one_more : (n at : ℕ) (s : WatchState) (x : WatchRead × Piece) (k : ℕ) → n ≡ suc k → next_served s ≡ Some x
    → served_most n at s ≡ response_to x ∷ served_most k at (after_serve s at)
unfolding served_most
one_more n at s x k e h =
    ap (λ (m : ℕ). served_most m at s) e ∙ ap (λ (o : Option (WatchRead × Piece)). then_served o
    (served_most k at (after_serve s at))) h

after_one_more : (n at : ℕ) (s : WatchState) (k : ℕ) → n ≡ suc k → after_serving_most n at s ≡ after_serving_most k at
    (after_serve s at)
unfolding after_serving_most
after_one_more n at s k e = ap (λ (m : ℕ). after_serving_most m at s) e

none_more : (n at : ℕ) (s : WatchState) → next_served s ≡ None → served_most n at s ≡ []
unfolding served_most
none_more zero at s h = refl
none_more (suc n) at s h =
    ap (λ (o : Option (WatchRead × Piece)). then_served o (served_most n at (after_serve s at))) h

-- where none can be answered, all stays
pub idle : (at : ℕ) (s : WatchState) → next_served s ≡ None → after_serve s at ≡ s
idle at s h = ap (λ (o : Option WatchRead). after_next o s at) (none_next s h)

after_none_more : (n at : ℕ) (s : WatchState) → next_served s ≡ None → after_serving_most n at s ≡ s
unfolding after_serving_most
after_none_more zero at s h = refl
after_none_more (suc n) at s h = ap (λ (t : WatchState). after_serving_most n at t) (idle at s h)
    ∙ after_none_more n at s h

all_more : (at : ℕ) (s : WatchState) (x : WatchRead) (p : Piece) → next_served s ≡ Some (x, p)
    → watch_served at s ≡ response_to (x, p) ∷ watch_served at (after_serve s at)
all_more at s x p h =
    one_more (length s.reads) at s (x, p) (length (after_serve s at).reads) (served_less at s x p h) h

pub after_all_more : (at : ℕ) (s : WatchState) (x : WatchRead) (p : Piece) → next_served s ≡ Some (x, p)
    → watch_after_serving at s ≡ watch_after_serving at (after_serve s at)
after_all_more at s x p h =
    after_one_more (length s.reads) at s (length (after_serve s at).reads) (served_less at s x p h)

pub all_none : (at : ℕ) (s : WatchState) → next_served s ≡ None → watch_served at s ≡ []
all_none at s h = none_more (length s.reads) at s h

pub after_all_none : (at : ℕ) (s : WatchState) → next_served s ≡ None → watch_after_serving at s ≡ s
after_all_none at s h = after_none_more (length s.reads) at s h

-- ---- an answer more to what was said so far

pub said_more : (at : ℕ) (start s after : WatchState) (x : WatchRead) (p : Piece) (said more : List Response)
    → next_served s ≡ Some (x, p) → after ≡ after_serve s at → said ++ watch_served at s ≡ watch_served at start
    → more ≡ said ++ response_to (x, p) ∷ []
    → more ++ watch_served at after ≡ watch_served at start
said_more at start s after x p said more h e exact push =
    ap (λ (l : List Response). l ++ watch_served at after) push
    ∙ append_assoc said (response_to (x, p) ∷ []) (watch_served at after)
    ∙ ap (λ (t : WatchState). said ++ (response_to (x, p) ∷ watch_served at t)) e
    ∙ ap (λ (l : List Response). said ++ l) (sym (all_more at s x p h))
    ∙ exact

pub more_said : (s : WatchState) (x : WatchRead) (p : Piece) (said more : List Response)
    → IsWatchSound s → next_served s ≡ Some (x, p) → AreSaid said → more ≡ said ++ response_to (x, p) ∷ []
    → AreSaid more
more_said s x p said more sound h all push =
    subst AreSaid (sym push) (All-push IsSaid said (response_to (x, p)) all (served_sent s x p sound h))

pub fewer : (at : ℕ) (s after : WatchState) (x : WatchRead) (p : Piece) → next_served s ≡ Some (x, p)
    → after ≡ after_serve s at → length after.reads < length s.reads
fewer at s after x p h e =
    let less : length s.reads ≡ suc (length (after_serve s at).reads) = served_less at s x p h in
    let same : length after.reads ≡ length (after_serve s at).reads = ap (λ (t : WatchState). length t.reads) e in
    omega arith

pub sound_after : (at : ℕ) (s after : WatchState) → IsWatchSound s → after ≡ after_serve s at → IsWatchSound after
sound_after at s after sound e = subst (λ (t : WatchState). IsWatchSound t) (sym e) (sound_served s at sound)

-- ---- until none can be

no_reads : (t : WatchRead → Bool) (rs : List WatchRead) → length rs ≤ 0 → find t rs ≡ None
no_reads t [] l = refl
no_reads t (r ∷ rs) l = absurd (omega arith)

serve_more : (n at : ℕ) (s : WatchState) (o : Option WatchRead) → next_of s ≡ o → length s.reads ≤ suc n
    → (length (after_serve s at).reads ≤ n → IsWatchIdle (after_serving_most n at (after_serve s at)))
    → IsWatchIdle (after_serving_most n at (after_serve s at))
serve_more n at s None e h rest =
    let none : next_served s ≡ None = ap (with_piece s) e in
    subst (λ (t : WatchState). IsWatchIdle t)
    (sym (ap (λ (t : WatchState). after_serving_most n at t) (idle at s none) ∙ after_none_more n at s none)) e
serve_more n at s (Some x) e h rest =
    let found : next_served s ≡ Some (x, piece_for s x) = ap (with_piece s) e in
    rest (omega (arith, served_less at s x (piece_for s x) found, h))

serve_most : (n at : ℕ) (s : WatchState) → length s.reads ≤ n → IsWatchIdle (after_serving_most n at s)
unfolding after_serving_most
serve_most zero at s h = no_reads (can_answer s.log s.jobs) s.reads h
serve_most (suc n) at s h =
    serve_more n at s (next_of s) refl h (λ l. serve_most n at (after_serve s at) l)

pub idle_served : (at : ℕ) (s : WatchState) → IsWatchIdle (watch_after_serving at s)
idle_served at s = serve_most (length s.reads) at s (omega arith)

-- where none can be, nothing is said and all stays
pub none_said : (at : ℕ) (s : WatchState) → IsWatchIdle s → watch_served at s ≡ []
none_said at s i = all_none at s (ap (with_piece s) i)

pub none_taken : (at : ℕ) (s : WatchState) → IsWatchIdle s → watch_after_serving at s ≡ s
none_taken at s i = after_all_none at s (ap (with_piece s) i)

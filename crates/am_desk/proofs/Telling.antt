-- The connections that replies go to, one reply on.
use Rattle.std.proofs.Common.{◌≡◌, ℕ, zero, suc, ◌+◌, ◌<◌, Bool, true, List, [], ◌∷◌, ◌∙◌, length, map, drop, Some}
use Rattle.std.proofs.Common.{None, refl, sym, ap, arith}
use Rattle.std.specs.Prelude.{slice_get, slice_set}
use Rattle.am_counter.specs.Telling.{with_told}
use Rattle.core_outputs.specs.declared.reply.Reply.{Reply}

pub reply_below : (replies : List Reply) (k : ℕ) (reply : Reply) → slice_get replies k ≡ Some reply → k < length replies
reply_below [] k reply e = absurd cc
reply_below (x ∷ replies) zero reply e = omega arith
reply_below (x ∷ replies) (suc k) reply e = omega (arith, reply_below replies k reply e)

next_conn : (replies : List Reply) (k : ℕ) (reply : Reply) → slice_get replies k ≡ Some reply
    → drop k (map (λ (x : Reply). x.conn) replies) ≡ reply.conn ∷ drop (suc k) (map (λ (x : Reply). x.conn) replies)
next_conn [] k reply e = absurd cc
next_conn (x ∷ replies) zero reply e = let same : x ≡ reply = cc in
    ap (λ (y : Reply). y.conn ∷ map (λ (z : Reply). z.conn) replies) same
next_conn (x ∷ replies) (suc k) reply e = next_conn replies k reply e

no_conn : (replies : List Reply) (k : ℕ) → slice_get replies k ≡ None → drop k
    (map (λ (x : Reply). x.conn) replies) ≡ []
no_conn [] zero e = refl
no_conn [] (suc k) e = refl
no_conn (x ∷ replies) zero e = absurd cc
no_conn (x ∷ replies) (suc k) e = no_conn replies k e

-- one connection was added
pub told_more : (replies : List Reply) (k next : ℕ) (reply : Reply) (are now whole : List Bool)
    → slice_get replies k ≡ Some reply → next ≡ k + 1 → now ≡ slice_set are reply.conn true
    → with_told are (drop k (map (λ (x : Reply). x.conn) replies)) ≡ whole → with_told now
    (drop next (map (λ (x : Reply). x.conn) replies)) ≡ whole
told_more replies k next reply are now whole e step added is =
    let rest : List ℕ = drop (suc k) (map (λ (x : Reply). x.conn) replies) in
    let at : next ≡ suc k = omega (arith, step) in
    ap (λ (n : ℕ). with_told now (drop n (map (λ (x : Reply). x.conn) replies))) at
    ∙ ap (λ (l : List Bool). with_told l rest) added
    ∙ sym (ap (with_told are) (next_conn replies k reply e))
    ∙ is

-- all were added
pub told_all : (replies : List Reply) (k : ℕ) (are whole : List Bool)
    → slice_get replies k ≡ None → with_told are (drop k (map (λ (x : Reply). x.conn) replies)) ≡ whole → are ≡ whole
told_all replies k are whole e is = sym (ap (with_told are) (no_conn replies k e)) ∙ is

-- A journal whose entries tell their numbers.
use Rattle.std.proofs.Common.{◌≡◌, ℕ, zero, suc, ◌+◌, ◌-◌, Bool, false, List, [], ◌∷◌, ◌++◌, length, map, take, Some}
use Rattle.std.proofs.Common.{refl, sym, ap, ◌∙◌, append_assoc, length-append, take_at, arith}
use Rattle.std.specs.Prelude.{slice_get, nat_eq, if◌then◌else◌}
use Rattle.std.specs.List.{flat_map}
use Rattle.turn_lock.specs.Journal.{total, once, times, Stands, AllStand}
use Rattle.turn_lock.specs.Kinds.{plain, AllFail, NoneHas, KeepsOrder}
use Rattle.turn_lock.proofs.Interleaved.{keeps_order}
use Rattle.am_journal.specs.declared.event.Event.{Event}
use Rattle.am_counter.specs.Sent.{sent, sent_by, sent_from}

module _ {E : Type 0} where
  -- entries, the first of which has this number
  pub numbered : ℕ → List E → List (ℕ × E)
  numbered n [] = []
  numbered n (e ∷ es) = (n, e) ∷ numbered (n + 1) es

  -- the same entries, each of which tells its number
  abbrev pub tagged : List (ℕ × E) → List (ℕ × (ℕ × E))
  tagged xs = map (λ (x : ℕ × E). (x.0, x)) xs

  length-numbered : (n : ℕ) (es : List E) → length (numbered n es) ≡ length es
  unfolding numbered
  length-numbered n [] = refl
  length-numbered n (e ∷ es) = ap suc (length-numbered (n + 1) es)

  numbered_at : (n : ℕ) (es : List E) (k : ℕ) (e : E) → slice_get es k ≡ Some e
      → slice_get (numbered n es) k ≡ Some (n + k, e)
  unfolding numbered
  numbered_at n [] k e at = absurd cc
  numbered_at n (x ∷ es) zero e at = ap (λ m. Some (m, x)) (let s : n ≡ n + 0 = omega arith in s)
      ∙ ap (λ y. Some (n + 0, y)) (let s : x ≡ e = cc at in s)
  numbered_at n (x ∷ es) (suc k) e at = numbered_at (n + 1) es k e at
      ∙ ap (λ m. Some (m, e)) (let s : n + 1 + k ≡ n + suc k = omega arith in s)

  pub plain_tagged : (xs : List (ℕ × E)) → plain (tagged xs) ≡ xs
  plain_tagged [] = refl
  plain_tagged (x ∷ xs) = ap (λ l. x ∷ l) (plain_tagged xs)

  -- a kind of entries that is part of a kind of events
  pub fails_tagged : (p : E → Bool) (q : ℕ × E → Bool) → ((x : ℕ × E) → p x.1 ≡ false → q x ≡ false)
      → (xs : List (ℕ × E)) → AllFail p xs → AllFail q (tagged xs)
  fails_tagged p q h [] f = tt
  fails_tagged p q h (x ∷ xs) f = (h x f.0, fails_tagged p q h xs f.1)

  pub none_tagged : (p : E → Bool) (q : ℕ × E → Bool) → ((x : ℕ × E) → p x.1 ≡ false → q x ≡ false)
      → (ls : List (List (ℕ × E))) → NoneHas p ls → NoneHas q (map tagged ls)
  none_tagged p q h [] f = tt
  none_tagged p q h (l ∷ ls) f = (fails_tagged p q h l f.0, none_tagged p q h ls f.1)

  times_tagged : (k : ℕ) (xs : List (ℕ × E)) → times k (tagged xs) ≡ times k xs
  times_tagged k [] = refl
  times_tagged k (x ∷ xs) = ap (λ n. (if nat_eq x.0 k then 1 else 0) + n) (times_tagged k xs)

  total_tagged : (k : ℕ) (ls : List (List (ℕ × E))) → total (times k) (map tagged ls) ≡ total (times k) ls
  total_tagged k [] = refl
  total_tagged k (l ∷ ls) = ap (λ n. n + total (times k) (map tagged ls)) (times_tagged k l)
      ∙ ap (λ n. times k l + n) (total_tagged k ls)

  stands_tagged : (log : List E) (low : ℕ) (xs : List (ℕ × E)) → Stands log low xs
      → Stands (numbered 1 log) low (tagged xs)
  stands_tagged log low [] s = tt
  stands_tagged log low (x ∷ xs) s = (
    s.0,
    numbered_at 1 log (x.0 - 1) x.1 s.1 ∙ ap (λ n. Some (n, x.1)) (let e : 1 + (x.0 - 1) ≡ x.0 = omega (arith, s.0) in
        e),
    stands_tagged log x.0 xs s.2,
  )

  all_stand_tagged : (log : List E) (ls : List (List (ℕ × E))) → AllStand log ls
      → AllStand (numbered 1 log) (map tagged ls)
  all_stand_tagged log [] s = tt
  all_stand_tagged log (l ∷ ls) s = (stands_tagged log 0 l s.0, all_stand_tagged log ls s.1)

  -- the order of entries, with their numbers
  pub keeps_numbers : (log : List E) (lists : List (List (ℕ × E))) → AllStand log lists
      → ((k : ℕ) → total (times k) lists ≡ once (length log) k)
      → KeepsOrder (numbered 1 log) (map tagged lists)
  keeps_numbers log lists stand once_each =
      keeps_order (numbered 1 log) (map tagged lists) (all_stand_tagged log lists stand)
      (λ k. total_tagged k lists ∙ once_each k ∙ ap (λ n. once n k) (sym (length-numbered 1 log)))

-- ---- takings

-- the bytes that a numbered event of a journal takes of a connection's replies
abbrev pub sent_at : (List Event → ℕ → List ℕ) → List Event → ℕ → ℕ × Event → List ℕ
sent_at unsent journal conn x = sent_by unsent conn (take (x.0 - 1) journal) x.1

sent_numbered : (unsent : List Event → ℕ → List ℕ) (conn : ℕ) (journal before events : List Event) (n : ℕ)
    → journal ≡ before ++ events → n ≡ length before + 1
    → flat_map (sent_at unsent journal conn) (numbered n events) ≡ sent_from unsent before events conn
unfolding numbered sent_from
sent_numbered unsent conn journal before [] n is at = refl
sent_numbered unsent conn journal before (e ∷ events) n is at =
    let front : take (n - 1) journal ≡ before = ap (take (n - 1)) is
    ∙ take_at before (e ∷ events) (n - 1) (omega (arith, at)) in
    let rest : flat_map (sent_at unsent journal conn) (numbered (n + 1) events) ≡ sent_from unsent (before ++ e ∷ [])
    events conn =
    sent_numbered unsent conn journal (before ++ e ∷ []) events (n + 1) (is ∙ sym (append_assoc before (e ∷ []) events))
    (omega (arith, at, length-append before (e ∷ []))) in
    ap (λ l. sent_by unsent conn l e ++ flat_map (sent_at unsent journal conn) (numbered (n + 1) events)) front
    ∙ ap (λ l. sent_by unsent conn before e ++ l) rest

-- what was sent is what the numbered events take
pub sent_is : (unsent : List Event → ℕ → List ℕ) (conn : ℕ) (journal : List Event)
    → flat_map (sent_at unsent journal conn) (numbered 1 journal) ≡ sent unsent journal conn
sent_is unsent conn journal = sent_numbered unsent conn journal [] journal 1 refl (omega arith)

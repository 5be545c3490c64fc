-- The connections stay 64, and one more of them lives at most.
use Rattle.std.proofs.Common.{◌≡◌, ℕ, ◌+◌, ◌<◌, ◌≤◌, Bool, true, false, cond, List, [], ◌∷◌, length, None, refl, arith}
use Rattle.std.specs.Prelude.{slice_set}
use Rattle.std.proofs.lemmas.List.{length-set}
use Rattle.std.proofs.lemmas.List.Sums.{sum_by-set, sum_by-cons}
use Rattle.core_parts.specs.declared.kind.Kind.{Kind}
use Rattle.core_parts.specs.declared.kind.Kind.TheVariants as kind
use Rattle.core_parts.specs.declared.connection.Connection.{Connection}
use Rattle.core_parts.specs.declared.connection.Connection.TheVariants.{Undialed, Live, Ended}
use Rattle.core_parts.specs.Connections.{connection_at, connections_after, live_count, is_live}
use Rattle.core_intents.specs.Enabled.{live_refusal}
use Rattle.core_intents.proofs.Kinded.{IsNumbered}

-- ---- connections

pub length-connections : (cs : List Connection) (k : Kind) → length (connections_after cs k) ≡ length cs
length-connections cs (kind.Dials conn) = length-set cs conn Live
length-connections cs (kind.Asks conn tag) = refl
length-connections cs (kind.Ends conn why) = length-set cs conn (Ended why)
length-connections cs (kind.Takes conn) = refl
length-connections cs kind.Acts = refl

-- 1 where it lives
weight : Connection → ℕ
weight c = cond (is_live c) 1 0

weight_below : (b : Bool) → cond b 1 0 ≤ 1
weight_below true = omega arith
weight_below false = omega arith

count_set : (cs : List Connection) (k : ℕ) (v : Connection) → k < length cs
    → live_count (slice_set cs k v) + weight (connection_at cs k) ≡ live_count cs + weight v
unfolding weight
count_set cs k v h = sum_by-set (λ c. cond (is_live c) 1 0) cs k v Undialed h

weight_live : (v : Connection) → live_refusal v ≡ None → weight v ≡ 1
unfolding weight
weight_live Undialed e = absurd cc
weight_live Live e = refl
weight_live (Ended why) e = absurd cc

weight_most : (v : Connection) → weight v ≤ 1
unfolding weight
weight_most v = weight_below (is_live v)

-- one more lives at most
pub lives_more : (cs : List Connection) (k : Kind) → length cs ≡ 64 → IsNumbered k
    → live_count (connections_after cs k) ≤ live_count cs + 1
lives_more cs (kind.Dials conn) n h = omega (arith, count_set cs conn Live (omega (arith, n, h)), weight_most Live)
lives_more cs (kind.Asks conn tag) n h = omega arith
lives_more cs (kind.Ends conn why) n h = omega (
  arith,
  count_set cs conn (Ended why) (omega (arith, n, h)),
  weight_most (Ended why),
)
lives_more cs (kind.Takes conn) n h = omega arith
lives_more cs kind.Acts n h = omega arith

-- all live at most
pub lives_few : (cs : List Connection) → live_count cs ≤ length cs
lives_few [] = omega arith
lives_few (c ∷ cs) = omega (arith, sum_by-cons (λ x. cond (is_live x) 1 0) c cs, weight_below (is_live c), lives_few cs)

ended_weight : (why : _) → weight (Ended why) ≡ 0
unfolding weight
ended_weight why = refl

-- a hang-up ends one
pub lives_less : (cs : List Connection) (conn : ℕ) (why : _) → length cs ≡ 64 → conn < 64
    → live_refusal (connection_at cs conn) ≡ None
    → live_count (slice_set cs conn (Ended why)) + 1 ≡ live_count cs
lives_less cs conn why n h e =
    omega (
      arith,
      count_set cs conn (Ended why) (omega (arith, n, h)),
      weight_live (connection_at cs conn) e,
      ended_weight why,
    )

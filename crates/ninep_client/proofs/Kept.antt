-- Replies that are kept.
use Rattle.std.proofs.Common.{◌≡◌, ℕ, zero, suc, ◌+◌, ◌≤◌, ◌<◌, ◌&&◌, Bool, true, false, List, [], ◌∷◌, length, get_or}
use Rattle.std.proofs.Common.{set, Option, Some, None, refl, sym, ap, ◌∙◌, subst, arith}
use Rattle.std.specs.Prelude.{◌==◌, is_some, is_none, slice_get, slice_set, position}
use Rattle.std.proofs.lemmas.List.Quantifiers.{position-Some}
use Rattle.std.proofs.lemmas.Option.{get_or_from_slice_get}
use Rattle.ninep_types.specs.declared.message.RBody.{RBody}
use Rattle.ninep_client.specs.declared.asked.Asked.{Asked}
use Rattle.ninep_client.specs.Asking.{waits_for, has_reply_of, waiting_place, reply_place}
use Rattle.ninep_client.specs.Hearing.{waiting, waiting_one}

-- the second of two tests that pass
second_passes : (a b : Bool) → (a && b) ≡ true → b ≡ true
second_passes true b e = e
second_passes false b e = (cc)

-- at the place of a reply there is one
pub reply_there : (tag : ℕ) (asked : List Asked) (at : ℕ) (a : Asked) → reply_place tag asked ≡ Some at
    → slice_get asked at ≡ Some a → is_some a.reply ≡ true
reply_there tag asked at a place got =
    let passes = (position-Some (has_reply_of tag) asked at a place).1 in
    let here : get_or asked at a ≡ a = get_or_from_slice_get asked at a a got in
    second_passes (a.tag == tag) (is_some a.reply) (subst (λ (x : Asked). has_reply_of tag x ≡ true) here passes)

none_waits : (o : Option RBody) → is_none o ≡ true → waiting_one o ≡ 1
none_waits None e = refl
none_waits (Some body) e = (cc)

waiting_set : (asked : List Asked) (at : ℕ) (d b : Asked) → at < length asked
    → is_none (get_or asked at d).reply ≡ true → waiting_one b.reply ≡ 0 → waiting (set asked at b) < waiting asked
waiting_set [] at d b lt e z = absurd (omega arith)
waiting_set (a ∷ asked) zero d b lt e z = let one = none_waits a.reply e in omega arith
waiting_set (a ∷ asked) (suc at) d b lt e z = let ih = waiting_set asked at d b (omega arith) e z in omega arith

-- a reply that is kept is one fewer to wait for
pub fewer_wait : (tag : ℕ) (asked : List Asked) (at : ℕ) (b : Asked) → waiting_place tag asked ≡ Some at
    → waiting_one b.reply ≡ 0 → waiting (slice_set asked at b) < waiting asked
fewer_wait tag asked at b place z =
    let found = position-Some (waits_for tag) asked at b place in
    waiting_set asked at b b found.0 (second_passes _ _ found.1) z

-- The life of one request changes.
use Rattle.std.proofs.Common.{◌≡◌, ℕ, zero, suc, ◌-◌, ◌<◌, ◌≤◌, List, [], ◌∷◌, length, get_or, set, refl, ap, ◌∙◌}
use Rattle.std.proofs.Common.{arith}
use Rattle.acme_watch.specs.Jobs.{with_life}
use Rattle.am_text.specs.declared.job.JobLife.{JobLife}

-- no request has that number
pub with_life-past : (f : JobLife → JobLife) (n : ℕ) (ls : List JobLife) → length ls < n → ls ≡ with_life f n ls
with_life-past f zero ls l = refl
with_life-past f (suc n) [] l = refl
with_life-past f (suc zero) (x ∷ ls) l = absurd (omega (arith, l))
with_life-past f (suc (suc n)) (x ∷ ls) l = ap (λ t. x ∷ t) (with_life-past f (suc n) ls (omega (arith, l)))

life_set : (f : JobLife → JobLife) (n : ℕ) (ls : List JobLife) (d y : JobLife) → n < length ls → y ≡ f (get_or ls n d)
    → set ls n y ≡ with_life f (suc n) ls
life_set f n [] d y l e = absurd (omega (arith, l))
life_set f zero (x ∷ ls) d y l e = ap (λ z. z ∷ ls) e
life_set f (suc n) (x ∷ ls) d y l e = ap (λ t. x ∷ t) (life_set f n ls d y (omega (arith, l)) e)

-- the one with that number
pub with_life-at : (f : JobLife → JobLife) (n : ℕ) (ls : List JobLife) (d y : JobLife) → 0 < n → n ≤ length ls → y
    ≡ f (get_or ls (n - 1) d) → set ls (n - 1) y ≡ with_life f n ls
with_life-at f zero ls d y p l e = absurd (omega (arith, p))
with_life-at f (suc n) ls d y p l e =
    let same : suc n - 1 ≡ n = omega arith in
    rw same (life_set f n ls d y (omega (arith, l)) (e ∙ ap (λ k. f (get_or ls k d)) same))

-- What the list of items in the code shows.
use Rattle.std.specs.Prelude.{◌≡◌, ◌≤◌, ℕ, length, zero, suc, false, List, [], ◌∷◌}
use Rattle.win_events.specs.declared.item.Life.{Life}
use Rattle.win_events.specs.declared.item.Life.TheVariants.{Pending, Dropped}
use Rattle.event_book.specs.Lives.{pends, fresh}
use Rattle.event_book.specs.declared.lives.Recorded.{Recorded}

-- the first n with their lives, all others pending
abbrev pub shown : ℕ → List Recorded → List Recorded
shown n [] = []
shown zero (e ∷ es) = fresh e.item ∷ shown zero es
shown (suc n) (e ∷ es) = e ∷ shown n es

-- the first n aren't pending
abbrev pub AreSettled : ℕ → List Recorded → Type 0
AreSettled n [] = Unit {0}
AreSettled zero (e ∷ es) = Unit {0}
AreSettled (suc n) (e ∷ es) = (pends e ≡ false) × AreSettled n es

-- with this life at a place
abbrev pub with_life_at : Life → ℕ → List Recorded → List Recorded
with_life_at life n [] = []
with_life_at life zero (e ∷ es) = record { item = e.item; life = life } ∷ es
with_life_at life (suc n) (e ∷ es) = e ∷ with_life_at life n es

-- all from place n on are dropped
abbrev pub dropped_after : ℕ → ℕ → List Recorded → List Recorded
dropped_after at n [] = []
dropped_after at zero (e ∷ es) = record { item = e.item; life = Dropped at } ∷ dropped_after at zero es
dropped_after at (suc n) (e ∷ es) = e ∷ dropped_after at n es

-- the life of the item at place i, where the first n are settled
abbrev pub shown_life : List Recorded → ℕ → ℕ → Life
shown_life [] n i = Pending
shown_life (e ∷ es) zero i = Pending
shown_life (e ∷ es) (suc n) zero = e.life
shown_life (e ∷ es) (suc n) (suc i) = shown_life es n i

-- the invariant of the list: how many are settled, how many there were at the last keep, and how many of these were
-- settled
pub record IsSplit (settled kept kept_settled : ℕ) (es : List Recorded) : Type 0 where
  pub within : settled ≤ length es
  pub kept_within : kept ≤ length es
  pub earlier : kept_settled ≤ settled
  pub kept_earlier : kept_settled ≤ kept
  pub ones : AreSettled settled es

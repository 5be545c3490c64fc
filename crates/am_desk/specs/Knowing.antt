-- What a seat knows, and what the calls of a desk do to it.
use Rattle.std.specs.Prelude.{◌≡◌, ℕ, ◌+◌, [], ◌∷◌, ◌++◌, length, Bool, true, false}
use Rattle.am_counter.specs.declared.ask.Taken.{Taken}
use Rattle.am_counter.specs.declared.ask.Taken.TheVariants.{NothingYet, Ended}
use Rattle.am_counter.specs.Known.{Known, lists_of}
use Rattle.turn_lock.specs.Journal.{total, once, longer, times}

-- what is known of the empty editor, with all parts
abbrev pub first_known : ℕ → Known
first_known parts = record { parts = parts; seen = []; mine = []; ended = [] }

-- the first took in the second
abbrev pub joined : Known → Known → Known
joined v w = record {
  parts = v.parts + w.parts;
  seen = longer v.seen w.seen;
  mine = v.mine;
  ended =
      v.ended ++ w.mine ∷ w.ended;
}

-- each number of what was seen stands in just one of these lists, once, and no other number does
abbrev pub EachOnce : Known → Type 0
EachOnce v = (k : ℕ) → total (times k) (lists_of v) ≡ once (length v.seen) k

-- what comes of taking where there is nothing to take
abbrev pub nothing_taken : Bool → Taken
nothing_taken true = Ended
nothing_taken false = NothingYet

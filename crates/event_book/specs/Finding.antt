-- The item that a message written back names.
use Rattle.std.specs.Prelude.{◌==◌, ◌&&◌, ◌||◌, ℕ, suc, Bool, false, List, [], ◌∷◌, Option, Some, None, Result, Ok, Err}
use Rattle.std.specs.Prelude.{if◌then◌else◌}
use Rattle.std.specs.List.{list_any}
use Rattle.am_text.specs.declared.range.Range.{Range}
use Rattle.win_events.specs.Spelling.{sort_letter}
use Rattle.win_events.specs.declared.item.Item.{Item}
use Rattle.win_events.specs.declared.item.BackMsg.{BackMsg}
use Rattle.event_book.specs.Lives.{is_taken, is_back}
use Rattle.event_book.specs.declared.lives.Recorded.{Recorded}
use Rattle.event_book.specs.declared.finding.BackFault.{BackFault}
use Rattle.event_book.specs.declared.finding.BackFault.TheVariants.{Already, NoSuch}

-- whether two ranges are the same
abbrev pub same_range : Range → Range → Bool
same_range a b = (a.q0 == b.q0) && (a.q1 == b.q1)

-- whether an expansion has this range
abbrev pub expands_to : Option (Range × List ℕ) → Range → Bool
expands_to None range = false
expands_to (Some e) range = same_range e.0 range

-- the type of the message, and its range or that range as the expansion
abbrev pub fits : BackMsg → Item → Bool
fits m item =
    (sort_letter m.sort == sort_letter item.sort) && (same_range item.range m.range || expands_to item.expanded m.range)

-- a taken item that fits, and isn't written back
abbrev pub is_open_fit : BackMsg → Recorded → Bool
is_open_fit m e = is_taken e.life && fits m e.item

-- an item that fits, and is written back
abbrev pub is_back_fit : BackMsg → Recorded → Bool
is_back_fit m e = is_back e.life && fits m e.item

-- the number of the last one that passes, with numbers from this one on
abbrev pub or_else : Option ℕ → Bool → ℕ → Option ℕ
or_else (Some later) passes n = Some later
or_else None passes n = if passes then Some n else None

module _ {A : Type 0} where
  -- the number of the last that passes, the first having this number
  abbrev pub last_from : (A → Bool) → ℕ → List A → Option ℕ
  last_from p n [] = None
  last_from p n (x ∷ xs) = or_else (last_from p (suc n) xs) (p x) n

-- the item that was found, or why there is none
abbrev pub found_or : Option ℕ → Bool → Result ℕ BackFault
found_or (Some number) written = Ok number
found_or None written = if written then Err Already else Err NoSuch

-- The item that was taken last, isn't written back, and fits. Items are taken in order, so it is the
-- last one of them. Where there is none, whether one that was written back fits.
abbrev pub found_in : BackMsg → List Recorded → Result ℕ BackFault
found_in m es = found_or (last_from (is_open_fit m) 1 es) (list_any (is_back_fit m) es)

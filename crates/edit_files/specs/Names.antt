-- Names in a command.
use Rattle.std.specs.Prelude.{ℕ, ◌==◌, ◌&&◌, ◌||◌, not, nat_lt, Bool, true, false, List, [], ◌∷◌, ◌++◌, length}
use Rattle.std.specs.Prelude.{Option, Some, None, if◌then◌else◌}
use Rattle.std.specs.Option.{option_map}
use Rattle.am_text.specs.Ascii.{space}

-- a name that is begun, if it is, before others
abbrev pub ended : List ℕ → List (List ℕ) → List (List ℕ)
ended [] names = names
ended (c ∷ cs) names = (c ∷ cs) ∷ names

-- The names of a text, where one is begun: runs of runes above U+0020, with blanks between them. A text with another
-- rune has none.
unfoldable pub names_from : List ℕ → List ℕ → Option (List (List ℕ))
names_from name [] = Some (ended name [])
names_from name (c ∷ cs) =
    if c == space then option_map (ended name) (names_from [] cs)
    else (if nat_lt c space then None else names_from (name ++ c ∷ []) cs)

-- the names of a text
abbrev pub names_in : List ℕ → Option (List (List ℕ))
names_in text = names_from [] text

-- names before others, where there are these
abbrev pub names_then : List (List ℕ) → Option (List (List ℕ)) → Option (List (List ℕ))
names_then names others = option_map (λ more. names ++ more) others

-- at most one name
abbrev pub at_most_one : Option (List (List ℕ)) → Option (List (List ℕ))
at_most_one None = None
at_most_one (Some []) = Some []
at_most_one (Some (name ∷ [])) = Some (name ∷ [])
at_most_one (Some (name ∷ other ∷ names)) = None

-- at most one, where that is said
abbrev pub few : Bool → Option (List (List ℕ)) → Option (List (List ℕ))
few false names = names
few true names = at_most_one names

-- one name or none
abbrev pub lone : Option (List (List ℕ)) → Option (Option (List ℕ))
lone None = None
lone (Some []) = Some None
lone (Some (name ∷ [])) = Some (Some name)
lone (Some (name ∷ other ∷ names)) = None

-- a rune that isn't a blank can't stand behind these names and the one that is begun
abbrev pub is_refused : List (List ℕ) → List ℕ → Bool → ℕ → Bool
is_refused names name one c = nat_lt c space || one && not (length names == 0) && (length name == 0)

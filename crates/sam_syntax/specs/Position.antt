-- Where in a command a reader is, which decides what may come next.
use Rattle.std.specs.Prelude.{ℕ, Bool, true, false, zero, suc, ◌+◌, [], ◌∷◌, length, Option, Some, None}
use Rattle.sam_syntax.specs.Joined as join
use Rattle.sam_syntax.specs.Joined.{Reading, Line}
use Rattle.edit_parts.specs.declared.kind.Kind.{Kind}
use Rattle.edit_parts.specs.declared.kind.Kind.TheVariants as kind
use Rattle.sam_syntax.specs.declared.position.Place.{Place}
use Rattle.sam_syntax.specs.declared.position.Place.TheVariants as place
use Rattle.sam_syntax.specs.declared.position.Position.{Position}

-- what kind of line is read
abbrev pub place_of : Line → Place
place_of join.Opened = place.Opened
place_of (join.Looping []) = place.Begins
place_of (join.Looping (h ∷ hs)) = place.Looping
place_of (join.Addressed heads a) = place.Addressed
place_of (join.Ended c) = place.Ended

-- where the reader is
abbrev pub position_of : Reading → Position
position_of r = record { blocks = length r.blocks; place = place_of r.line }

-- behind something that begins or is a command
abbrev pub behind_start : Place → ℕ → Place → Option Position
behind_start place.Begins n next = Some (record { blocks = n; place = next })
behind_start place.Looping n next = Some (record { blocks = n; place = next })
behind_start place.Addressed n next = Some (record { blocks = n; place = next })
behind_start place.Opened n next = None
behind_start place.Ended n next = None

-- behind an address
abbrev pub behind_address : Place → ℕ → Option Position
behind_address place.Begins n = Some (record { blocks = n; place = place.Addressed })
behind_address place.Looping n = Some (record { blocks = n; place = place.Addressed })
behind_address place.Addressed n = None
behind_address place.Opened n = None
behind_address place.Ended n = None

-- behind the end of a block
abbrev pub behind_block : Place → ℕ → Option Position
behind_block p zero = None
behind_block place.Begins (suc n) = Some (record { blocks = n; place = place.Ended })
behind_block place.Looping (suc n) = None
behind_block place.Addressed (suc n) = None
behind_block place.Opened (suc n) = None
behind_block place.Ended (suc n) = None

-- behind the end of a line
abbrev pub behind_line : ℕ → Option Position
behind_line zero = None
behind_line (suc n) = Some (record { blocks = suc n; place = place.Begins })

-- where the reader is behind a piece of this kind; None where none can stand
abbrev pub after_kind : Position → Kind → Option Position
after_kind p kind.Blank = Some p
after_kind p kind.EndsLine = behind_line p.blocks
after_kind p kind.Address = behind_address p.place p.blocks
after_kind p (kind.Loops k) = behind_start p.place p.blocks place.Looping
after_kind p kind.Opens = behind_start p.place (p.blocks + 1) place.Opened
after_kind p kind.Closes = behind_block p.place p.blocks
after_kind p (kind.Acts l) = behind_start p.place p.blocks place.Ended
after_kind p kind.Other = None

-- where the reader is, where a command goes on so
abbrev pub position_if : Option Reading → Option Position
position_if None = None
position_if (Some r) = Some (position_of r)

-- no block is open, and the line isn't one behind `{`
abbrev pub is_end : Position → Bool
is_end p = ends p.blocks p.place
  where
    ends : ℕ → Place → Bool
    ends zero place.Opened = false
    ends zero place.Begins = true
    ends zero place.Looping = true
    ends zero place.Addressed = true
    ends zero place.Ended = true
    ends (suc n) at = false

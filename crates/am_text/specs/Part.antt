-- Bytes that are left over of a piece, as a part.
use Rattle.std.specs.Prelude.{ℕ, List, [], ◌∷◌, take, length, slice_index}
use Rattle.am_text.specs.declared.part.Part.{Part}

-- the bytes that a part holds
abbrev pub part_bytes : Part → List ℕ
part_bytes p = take p.count (p.b0 ∷ p.b1 ∷ p.b2 ∷ [])

-- the part that holds these bytes, at most three, with 0 in the places past them
abbrev pub part_of : List ℕ → Part
part_of bs = record { count = length bs; b0 = slice_index bs 0; b1 = slice_index bs 1; b2 = slice_index bs 2 }

-- The fids of one connection: each number in use with its fid, in the order in which the numbers came into use.
use Rattle.std.specs.Prelude.{◌==◌, ℕ, List, [], ◌∷◌, not, filter, nat_eq, if◌then◌else◌}
use Rattle.std.specs.Borrow.{Bor}
use Rattle.std.specs.List.{IsDistinct}
use Rattle.std.specs.Map.{keys_of}
use Rattle.fid_table.specs.declared.types.Fid.{Fid}

-- with this fid in the place of the one with its number, else at the end
abbrev pub with_fid : List (ℕ × Fid) → ℕ → Fid → List (ℕ × Fid)
with_fid [] fid value = (fid, value) ∷ []
with_fid (f ∷ fs) fid value = if fid == f.0 then (f.0, value) ∷ fs else f ∷ with_fid fs fid value

-- without the fid of this number
abbrev pub without_fid : List (ℕ × Fid) → ℕ → List (ℕ × Fid)
without_fid fs fid = filter (λ f. not (fid == f.0)) fs

-- no number is in use twice
abbrev pub AreDistinct : List (ℕ × Fid) → Type 0
AreDistinct fs = IsDistinct nat_eq (keys_of fs)

-- a number and a fid that is lent
abbrev pub seen : ℕ × Bor Fid → ℕ × Fid
seen p = (p.0, p.1.now)

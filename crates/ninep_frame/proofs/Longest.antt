-- The part of a directory read is the longest that fits.
use Rattle.std.proofs.Common.{◌≡◌, ℕ, ◌+◌, ◌-◌, ◌<◌, ◌≤◌, zero, suc, Bool, true, false, cond, leb, List, [], ◌∷◌}
use Rattle.std.proofs.Common.{length, take, drop, refl, ap, arith, length-append, length-take, length-drop}
use Rattle.std.proofs.lemmas.Bool.{leb-true, leb-false}
use Rattle.ninep_frame.specs.declared.stat.Stat.{Stat}
use Rattle.ninep_frame.specs.Records.{record_of}
use Rattle.ninep_frame.specs.Directories.{records, fitting, IsLongest}
use Rattle.ninep_frame.specs.Laws.{Longest}

-- a front that begins with a record has the bytes of the record, and those of the rest
front_len : (s : Stat) (stats : List Stat) (n : ℕ) → length (records (take (suc n) (s ∷ stats))) ≡ length (record_of s)
    + length (records (take n stats))
front_len s stats n = length-append (record_of s) (records (take n stats))

-- one record is passed by a longer front
passes_more : (s : Stat) (stats part : List Stat) (room n : ℕ) → length (record_of s) ≤ room
    → IsLongest (room - length (record_of s)) stats part → suc (length part) < n → n ≤ suc (length stats)
    → room < length (records (take n (s ∷ stats)))
passes_more s stats part room zero le ih lt within = absurd (omega arith)
passes_more s stats part room (suc n) le ih lt within = omega (
  arith,
  front_len s stats n,
  ih.longest n (omega arith) (omega arith),
)

passes_one : (s : Stat) (stats : List Stat) (room n : ℕ) → room < length (record_of s) → 0 < n
    → room < length (records (take n (s ∷ stats)))
passes_one s stats room zero gt lt = absurd (omega arith)
passes_one s stats room (suc n) gt lt = omega (arith, front_len s stats n)

longest_one : (s : Stat) (stats : List Stat) (room : ℕ) (b : Bool)
    → leb (length (record_of s)) room ≡ b → IsLongest (room - length (record_of s)) stats
    (fitting (room - length (record_of s)) stats)
    → IsLongest room (s ∷ stats) (cond b (s ∷ fitting (room - length (record_of s)) stats) [])
longest_one s stats room true e ih =
    let le : length (record_of s) ≤ room = leb-true _ _ e in
    let part : List Stat = fitting (room - length (record_of s)) stats in
    record {
      front = ap (λ (l : List Stat). s ∷ l) ih.front;
      fits = omega (arith, ih.fits, length-append (record_of s) (records part));
      longest = λ n lt within. passes_more s stats part room n le ih lt within;
    }
longest_one s stats room false e ih = record {
  front = refl;
  fits = omega arith;
  longest = λ n lt within. passes_one s stats room n (leb-false _ _ e) lt;
}

pub longest : Longest
unfolding fitting
longest room [] = record { front = refl; fits = omega arith; longest = λ n lt within. absurd (omega arith) }
longest room (s ∷ stats) = longest_one s stats room (leb (length (record_of s)) room) refl
    (longest (room - length (record_of s)) stats)

-- at most so many bytes, and at most as many records as there are
pub fits_count : (room : ℕ) (stats : List Stat) → length (records (fitting room stats)) ≤ room
fits_count room stats = (longest room stats).fits

pub fits_few : (room skip : ℕ) (all : List Stat) → length (fitting room (drop skip all)) ≤ length all - skip
fits_few room skip all =
    let front = (longest room (drop skip all)).front in
    omega (
      arith,
      ap (λ (l : List Stat). length l) front,
      length-take (length (fitting room (drop skip all)))
          (drop skip all),
      length-drop skip all,
    )

pub ruleset bounds = (fits_count, fits_few)

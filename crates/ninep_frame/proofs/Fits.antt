-- The part of a directory that fits, record by record.
use Rattle.std.proofs.Common.{◌≡◌, ℕ, ◌+◌, ◌-◌, ◌<◌, ◌≤◌, suc, Bool, true, false, cond, leb, List, [], ◌∷◌, ◌++◌}
use Rattle.std.proofs.Common.{length, take, drop, get_or, refl, sym, ap, ◌∙◌, arith, append_assoc, length-append}
use Rattle.std.proofs.lemmas.Bool.{le-leb, lt-leb}
use Rattle.std.proofs.lemmas.List.{drop_more, drop_all, append-nil}
use Rattle.ninep_frame.specs.declared.stat.Stat.{Stat}
use Rattle.ninep_frame.specs.Records.{record_of}
use Rattle.ninep_frame.specs.Directories.{records, fitting}
use Rattle.ninep_frame.proofs.Sizes.{record_len}

-- the first record fits, or it doesn't
one_fits : (s : Stat) (stats : List Stat) (room size : ℕ) → size ≡ 61 + length s.name → size ≤ room
    → fitting room (s ∷ stats) ≡ s ∷ fitting (room - size) stats
unfolding fitting
one_fits s stats room size is le =
    let len : length (record_of s) ≡ size = omega (arith, record_len s) in
    rw (len, le-leb size room le) refl

none_fits : (s : Stat) (stats : List Stat) (room : ℕ) → room < 61 + length s.name → fitting room (s ∷ stats) ≡ []
unfolding fitting
none_fits s stats room gt =
    let more : room < length (record_of s) = omega (arith, record_len s) in
    rw (lt-leb (length (record_of s)) room more) refl

fitting-nil : (room : ℕ) → fitting room [] ≡ []
unfolding fitting
fitting-nil room = refl

-- at a place of a directory: a record that fits, one that doesn't, and the end
pub fitting-more : (stats : List Stat) (i room size : ℕ) (s : Stat) → i < length stats → s ≡ get_or stats i s
    → size ≡ 61 + length s.name → size ≤ room → fitting room (drop i stats) ≡ s ∷ fitting (room - size)
    (drop (i + 1) stats)
fitting-more stats i room size s lt is size-is le = rw (drop_more stats i s lt, ← is)
    (one_fits s (drop (i + 1) stats) room size size-is le)

pub fitting-full : (stats : List Stat) (i room : ℕ) (s : Stat) → i < length stats → s ≡ get_or stats i s
    → room < 61 + length s.name → fitting room (drop i stats) ≡ []
fitting-full stats i room s lt is gt = rw (drop_more stats i s lt, ← is) (none_fits s (drop (i + 1) stats) room gt)

pub fitting-end : (stats : List Stat) (i room : ℕ) → length stats ≤ i → fitting room (drop i stats) ≡ []
fitting-end stats i room le = rw (drop_all i stats le) (fitting-nil room)

-- what was put, and what fits of the rest, stays the same by a record that fits
pub goes_on : (stats : List Stat) (i room size : ℕ) (s : Stat) (total : List Stat) (bytes new : List ℕ)
    → i < length stats → s ≡ get_or stats i s → size ≡ 61 + length s.name → size ≤ room → new ≡ bytes ++ record_of s
    → bytes ++ records (fitting room (drop i stats)) ≡ records total
    → new ++ records (fitting (room - size) (drop (i + 1) stats)) ≡ records total
goes_on stats i room size s total bytes new lt is size-is le new-is so_far =
    let e = fitting-more stats i room size s lt is size-is le in
    rw (new-is, append_assoc) (ap (λ (l : List Stat). bytes ++ records l) (sym e) ∙ so_far)

pub counts_on : (stats : List Stat) (i room size : ℕ) (s : Stat) (total : List Stat) → i < length stats
    → s ≡ get_or stats i s → size ≡ 61 + length s.name → size ≤ room
    → i + length (fitting room (drop i stats)) ≡ length total → i + 1 + length
    (fitting (room - size) (drop (i + 1) stats)) ≡ length total
counts_on stats i room size s total lt is size-is le so_far =
    omega (arith, ap (λ (l : List Stat). length l) (fitting-more stats i room size s lt is size-is le))

pub ruleset fits = (fitting-more, fitting-full, fitting-end, append_assoc, append-nil)

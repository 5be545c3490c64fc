-- The part of a directory, one record further.
use Rattle.std.proofs.Common.{◌≡◌, ℕ, zero, suc, true, false, leb, ◌+◌, ◌-◌, ◌<◌, ◌≤◌, List, [], ◌∷◌, ◌++◌, length, map}
use Rattle.std.proofs.Common.{drop, get_or, Option, Some, None, refl, sym, ap, subst, ◌∙◌, arith}
use Rattle.std.specs.Prelude.{slice_get}
use Rattle.std.specs.Option.{option_map}
use Rattle.std.proofs.lemmas.List.{append-nil, length-append, length-map}
use Rattle.std.proofs.lemmas.Option.{slice_get_within, get_or_from_slice_get, slice_get-map}
use Rattle.std.proofs.lemmas.Bool.{leb-true, leb-false}
use Rattle.acme_tree.specs.declared.node.Node.{Node}
use Rattle.acme_tree.specs.declared.node.World.{World}
use Rattle.acme_tree.specs.Trees.{IsNamed, entries}
use Rattle.acme_tree.proofs.Live.{entries_named}
use Rattle.core_fids.specs.Directories.{first_record}
use Rattle.ninep_frame.specs.declared.stat.Stat.{Stat}
use Rattle.ninep_frame.specs.Records.{record_of}
use Rattle.ninep_frame.specs.Directories.{records, fitting}
use Rattle.ninep_frame.proofs.Fits.{goes_on, fitting-more, fitting-full, fitting-end}
use Rattle.ninep_frame.proofs.Sizes.{record_len}

-- these bytes are the records from `skip` up to `at`, and what fits of the rest is what fits of all
pub record IsPart (all : List Stat) (skip count at : ℕ) (bytes : List ℕ) : Type 0 where
  pub from : skip ≤ at
  pub fits : length bytes ≤ count
  pub told : bytes ++ records (fitting (count - length bytes) (drop at all)) ≡ records (fitting count (drop skip all))
  pub counted : at + length (fitting (count - length bytes) (drop at all)) ≡ skip + length
      (fitting count (drop skip all))

pub nothing_yet : (all : List Stat) (skip count : ℕ) → IsPart all skip count skip []
nothing_yet all skip count =
    let e : count - length {A = ℕ} [] ≡ count = omega arith in
    record {
      from = omega arith;
      fits = omega arith;
      told = ap (λ (n : ℕ). records (fitting n (drop skip all))) e;
      counted = ap (λ (n : ℕ). skip + length (fitting n (drop skip all))) e;
    }

-- ---- one record further

more_fits : (all : List Stat) (at room : ℕ) (s : Stat) → slice_get all at ≡ Some s → length (record_of s) ≤ room
    → fitting room (drop at all) ≡ s ∷ fitting (room - length (record_of s)) (drop (at + 1) all)
more_fits all at room s e le =
    fitting-more all at room (length (record_of s)) s (slice_get_within all at s e)
    (sym (get_or_from_slice_get all at s s e)) (record_len s) le

part_on : (all : List Stat) (skip count at : ℕ) (s : Stat) (bytes new : List ℕ) → slice_get all at ≡ Some s
    → new ≡ bytes ++ record_of s
    → length (record_of s) ≤ count - length bytes → IsPart all skip count at bytes → IsPart all skip count (at + 1) new
part_on all skip count at s bytes new e new-is le was =
    let size : ℕ = length (record_of s) in
    let total : List Stat = fitting count (drop skip all) in
    let len : length new ≡ length bytes + size = ap (λ (l : List ℕ). length l) new-is
    ∙ length-append bytes (record_of s) in
    let room : count - length bytes - size ≡ count - length new = omega (arith, len) in
    let is : s ≡ get_or all at s = sym (get_or_from_slice_get all at s s e) in
    let more = more_fits all at (count - length bytes) s e le in
    let told = goes_on all at (count - length bytes) size s total bytes new (slice_get_within all at s e) is
    (record_len s) le new-is was.told in
    let counted : at + 1 + length (fitting (count - length bytes - size) (drop (at + 1) all)) ≡ skip + length total =
    omega (arith, was.counted, ap (λ (l : List Stat). length l) more) in
    record {
      from = omega (arith, was.from);
      fits = omega (arith, len, le, was.fits);
      told = subst (λ (n : ℕ). new ++ records (fitting n (drop (at + 1) all)) ≡ records total) room told;
      counted = subst (λ (n : ℕ). at + 1 + length (fitting n (drop (at + 1) all)) ≡ skip + length total) room counted;
    }

-- ---- the next record

stat_at : (f : Node → Stat) (nodes : List Node) (at : ℕ) (node : Node) → Some node ≡ slice_get nodes at
    → slice_get (map f nodes) at ≡ Some (f node)
stat_at f nodes at node e = slice_get-map f nodes at ∙ ap (option_map f) (sym e)

past_end : {X : Type 0} (xs : List X) (k : ℕ) → slice_get xs k ≡ None → length xs ≤ k
past_end [] k e = omega arith
past_end (x ∷ xs) zero e = absurd cc
past_end (x ∷ xs) (suc k) e = omega (arith, past_end xs k e)

pub next_none : (f : Node → Stat) (nodes : List Node) (at room : ℕ) → None ≡ slice_get nodes at
    → None ≡ first_record (fitting room (drop at (map f nodes)))
next_none f nodes at room e =
    sym (ap first_record (fitting-end (map f nodes) at room (omega (
      arith,
      length-map nodes f,
      past_end nodes at (sym e),
    ))))

pub next_some : (f : Node → Stat) (nodes : List Node) (at room : ℕ) (node : Node) (s : Stat) (bytes : List ℕ)
    → Some node ≡ slice_get nodes at → s ≡ f node → bytes ≡ record_of s → length bytes ≤ room
    → Some bytes ≡ first_record (fitting room (drop at (map f nodes)))
next_some f nodes at room node s bytes e s-is bytes-is le =
    let there : slice_get (map f nodes) at ≡ Some s = stat_at f nodes at node e
    ∙ ap (λ (x : Stat). Some x) (sym s-is) in
    let fits : length (record_of s) ≤ room = subst (λ (l : List ℕ). length l ≤ room) bytes-is le in
    ap (λ (l : List ℕ). Some l) bytes-is ∙ sym (ap first_record (more_fits (map f nodes) at room s there fits))

pub next_full : (f : Node → Stat) (nodes : List Node) (at room : ℕ) (node : Node) (s : Stat) (bytes : List ℕ)
    → Some node ≡ slice_get nodes at → s ≡ f node → bytes ≡ record_of s → room < length bytes
    → None ≡ first_record (fitting room (drop at (map f nodes)))
next_full f nodes at room node s bytes e s-is bytes-is gt =
    let all : List Stat = map f nodes in
    let there : slice_get all at ≡ Some s = stat_at f nodes at node e ∙ ap (λ (x : Stat). Some x) (sym s-is) in
    let more : room < length (record_of s) = subst (λ (l : List ℕ). room < length l) bytes-is gt in
    sym (ap first_record (fitting-full all at room s (slice_get_within all at s there)
    (sym (get_or_from_slice_get all at s s there)) (omega (arith, more, record_len s))))

pub node_named : (world : World) (ports : List (List ℕ)) (dir : Node) (at : ℕ) (node : Node)
    → Some node ≡ slice_get (entries world ports dir) at → IsNamed ports node
node_named world ports dir at node e =
    let there : slice_get (entries world ports dir) at ≡ Some node = sym e in
    subst (IsNamed ports) (get_or_from_slice_get (entries world ports dir) at node node there)
    (entries_named world ports dir at node (slice_get_within (entries world ports dir) at node there))

pub ruleset next = (next_none, next_some, next_full, node_named)

-- ---- one record further, and the end

some_same : (a b : List ℕ) → Some a ≡ Some b → a ≡ b
some_same a b e = cc

none_first : (room : ℕ) (all : List Stat) (at : ℕ) (bytes : List ℕ)
    → slice_get all at ≡ None → Some bytes ≡ first_record (fitting room (drop at all)) → ⊥
none_first room all at bytes e h =
    let none : first_record (fitting room (drop at all)) ≡ None = ap first_record
    (fitting-end all at room (past_end all at e)) in
    let clash : Some bytes ≡ None = h ∙ none in cc

full_first : (room : ℕ) (all : List Stat) (at : ℕ) (s : Stat) (bytes : List ℕ) → slice_get all at ≡ Some s
    → room < length (record_of s) → Some bytes ≡ first_record (fitting room (drop at all)) → ⊥
full_first room all at s bytes e gt h =
    let none : first_record (fitting room (drop at all)) ≡ None =
    ap first_record (fitting-full all at room s (slice_get_within all at s e) (sym (get_or_from_slice_get all at s s e))
    (omega (arith, gt, record_len s))) in
    let clash : Some bytes ≡ None = h ∙ none in cc

step_in : (all : List Stat) (skip count at : ℕ) (bytes piece new : List ℕ) (o : Option Stat)
    → slice_get all at ≡ o → Some piece ≡ first_record (fitting (count - length bytes) (drop at all))
    → new ≡ bytes ++ piece → IsPart all skip count at bytes → IsPart all skip count (at + 1) new × at < length all
step_in all skip count at bytes piece new None e h new-is was = absurd
    (none_first (count - length bytes) all at piece e h)
step_in all skip count at bytes piece new (Some s) e h new-is was =
    elim (leb (length (record_of s)) (count - length bytes)) as (λ t. leb (length (record_of s))
    (count - length bytes) ≡ t → IsPart all skip count (at + 1) new × at < length all) [
      | true ↦ λ t.
          let le : length (record_of s) ≤ count - length bytes = leb-true (length (record_of s)) (count - length bytes)
          t in
          let is : piece ≡ record_of s = some_same piece (record_of s)
          (h ∙ ap first_record (more_fits all at (count - length bytes) s e le)) in (
            part_on all skip count at s bytes new e (new-is ∙ ap (λ (l : List ℕ). bytes ++ l) is) le was,
            slice_get_within all at s e,
          )
      | false ↦ λ t. absurd (full_first (count - length bytes) all at s piece e
          (leb-false (length (record_of s)) (count - length bytes) t) h)
    ] refl

pub goes_further : (all : List Stat) (skip count at : ℕ) (bytes piece new : List ℕ)
    → Some piece ≡ first_record (fitting (count - length bytes) (drop at all)) → new ≡ bytes ++ piece
    → IsPart all skip count at bytes → IsPart all skip count (at + 1) new
goes_further all skip count at bytes piece new h new-is was = (step_in all skip count at bytes piece new
    (slice_get all at) refl h new-is was).0

pub is_within : (all : List Stat) (skip count at : ℕ) (bytes piece : List ℕ)
    → Some piece ≡ first_record (fitting (count - length bytes) (drop at all)) → IsPart all skip count at bytes
    → at < length all
is_within all skip count at bytes piece h was = (step_in all skip count at bytes piece (bytes ++ piece)
    (slice_get all at) refl h refl was).1

-- the same, with the room that is left

pub goes_further_at : (all : List Stat) (skip count at room : ℕ) (bytes piece new : List ℕ)
    → room ≡ count - length bytes → Some piece ≡ first_record (fitting room (drop at all)) → new ≡ bytes ++ piece
    → IsPart all skip count at bytes → IsPart all skip count (at + 1) new
goes_further_at all skip count at room bytes piece new e h new-is was =
    goes_further all skip count at bytes piece new (h ∙ ap (λ (n : ℕ). first_record (fitting n (drop at all))) e) new-is
    was

pub is_within_at : (all : List Stat) (skip count at room : ℕ) (bytes piece : List ℕ) → room ≡ count - length bytes
    → Some piece ≡ first_record (fitting room (drop at all))
    → IsPart all skip count at bytes → at < length all
is_within_at all skip count at room bytes piece e h was =
    is_within all skip count at bytes piece (h ∙ ap (λ (n : ℕ). first_record (fitting n (drop at all))) e) was

empty_where_none : (stats : List Stat) → None ≡ first_record stats → stats ≡ []
empty_where_none [] e = refl
empty_where_none (s ∷ stats) e = absurd cc

pub told_whole : (all : List Stat) (skip count at : ℕ) (bytes : List ℕ)
    → None ≡ first_record (fitting (count - length bytes) (drop at all)) → IsPart all skip count at bytes
    → bytes ≡ records (fitting count (drop skip all))
told_whole all skip count at bytes e was =
    sym (append-nil bytes) ∙ ap (λ (l : List Stat). bytes ++ records l) (sym (empty_where_none _ e)) ∙ was.told

pub counted_whole : (all : List Stat) (skip count at : ℕ) (bytes : List ℕ)
    → None ≡ first_record (fitting (count - length bytes) (drop at all)) → IsPart all skip count at bytes
    → at - skip ≡ length (fitting count (drop skip all))
counted_whole all skip count at bytes e was =
    omega (arith, was.from, was.counted, ap (λ (l : List Stat). length l) (empty_where_none _ e))

pub ruleset parts = (nothing_yet, goes_further, told_whole, counted_whole)

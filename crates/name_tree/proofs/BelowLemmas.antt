-- The directories above a path, at the places that it leads through.
use Rattle.std.proofs.Common.{◌≡◌, ◌==◌, ◌&&◌, ◌+◌, ◌<◌, ℕ, Bool, true, false, cond, not, List, [], ◌∷◌, length, take}
use Rattle.std.proofs.Common.{get_or, Option, Some, is_some, refl, sym, ap, ◌∙◌}
use Rattle.std.specs.Prelude.{slice_range}
use Rattle.std.proofs.lemmas.Bool.{false≢true, eqb-true}
use Rattle.am_text.specs.Ascii.{slash}
use Rattle.name_tree.specs.Entries.{entry_at, inserted, replaced, with_node}
use Rattle.name_tree.specs.Kinds.{node_at, is_file, is_file_node, is_file_before, with_directory, with_directory_before}
use Rattle.name_tree.specs.Kinds.{with_directories}
use Rattle.name_tree.specs.Listing.{prefix_of}
use Rattle.name_tree.specs.Paths.{is_empty, is_root}
use Rattle.name_tree.specs.Shape.{Shape, entries_of, child_of, node_in}
use Rattle.name_tree.specs.Trie.{IsTrie}
use Rattle.name_tree.specs.declared.types.Node.{Node}
use Rattle.name_tree.specs.declared.types.Node.TheVariants.{Directory}
use Rattle.name_tree.proofs.PartLemmas.{IsSoFar, so_far_place}
use Rattle.name_tree.proofs.PathLemmas.{above_at, directories_next}
use Rattle.name_tree.proofs.TrieLemmas.{found}

shifted : (e r : Bool) (o : Option Node) → ((true && e) && is_file_node (cond r (Some Directory) o))
    ≡ ((e && not r) && is_file_node o)
shifted true true o = refl
shifted true false o = refl
shifted false r o = refl

-- a file where a directory above the path ends is one at its place
pub file_before : (s : Shape) → IsTrie s → (place : Option ℕ) (path : List ℕ) (start k : ℕ)
    → IsSoFar s.names place path start k → (get_or path k 0 == slash) ≡ true → is_file_before (entries_of s)
    (take k path) (get_or path k 0) ≡ ((not (is_empty (take k path)) && not (is_root (take k path)))
    && is_file_node (node_in s.nodes (child_of s.names place (slice_range path start k))))
file_before s t place path start k f h =
    ap (λ u. (u && not (is_empty (take k path))) && is_file (entries_of s) (take k path)) h
    ∙ shifted (not (is_empty (take k path))) (is_root (take k path)) (entry_at (entries_of s) (take k path))
    ∙ ap (λ o. (not (is_empty (take k path)) && not (is_root (take k path))) && is_file_node o)
    (found s t (take k path) ∙ ap (node_in s.nodes) (so_far_place s.names place path start k f))

-- and none ends before any other byte
pub no_file_before : (s : Shape) (path : List ℕ) (k : ℕ) → (get_or path k 0 == slash) ≡ false →
    is_file_before (entries_of s) (take k path) (get_or path k 0) ≡ false
no_file_before s path k h = ap (λ u. (u && not (is_empty (take k path))) && is_file (entries_of s) (take k path)) h

-- a directory where nothing stood
pub directory_made : (es : List (List ℕ × Node)) (path : List ℕ) → is_some (node_at es path) ≡ false → with_node es path
    Directory ≡ with_directory es path
directory_made es path h = by (is_root path) h ∙ ap (λ t. cond t es (inserted es path Directory)) (sym h)
  where
    by : (r : Bool) → is_some (cond r (Some Directory) (entry_at es path)) ≡ false → with_node es path
        Directory ≡ inserted es path Directory
    by true u = absurd (false≢true (sym u))
    by false u = ap (λ t. cond t (replaced es path Directory) (inserted es path Directory)) u

-- the directories that are still to be made, after one that ends here
pub next_slash : (es made : List (List ℕ × Node)) (path : List ℕ) (k : ℕ) → k < length path
    → (get_or path k 0 == slash) ≡ true → made ≡ with_directory_before es (take k path) slash
    → with_directories made (above_at path (k + 1)) ≡ with_directories es (above_at path k)
next_slash es made path k l h e =
    ap (λ m. with_directories m (above_at path (k + 1))) e
    ∙ ap (λ b. with_directories (with_directory_before es (take k path) b) (above_at path (k + 1)))
    (sym (eqb-true (get_or path k 0) slash h))
    ∙ directories_next es path k 0 l

-- or where none ends
pub next_byte : (es : List (List ℕ × Node)) (path : List ℕ) (k : ℕ) → k < length path
    → (get_or path k 0 == slash) ≡ false → with_directories es (above_at path (k + 1)) ≡ with_directories es
    (above_at path k)
next_byte es path k l h =
    ap (λ m. with_directories m (above_at path (k + 1))) (sym (ap (λ u. cond (u && not (is_empty (take k path)))
    (with_directory es (take k path)) es) h))
    ∙ directories_next es path k 0 l

pub root_is : (path : List ℕ) → is_root path ≡ true → path ≡ slash ∷ []
root_is [] h = absurd (false≢true h)
root_is (b ∷ []) h = ap (λ c. c ∷ []) (eqb-true b slash h)
root_is (b ∷ c ∷ bs) h = absurd (false≢true h)

-- what the paths in the root begin with
pub root_prefix : (path : List ℕ) → is_root path ≡ true → prefix_of path ≡ slash ∷ []
root_prefix path h = ap prefix_of (root_is path h)

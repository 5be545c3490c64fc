-- Fids and connections that were looked at, and one more.
use Rattle.std.proofs.Common.{◌≡◌, ℕ, zero, suc, ◌+◌, ◌<◌, ◌≤◌, Bool, true, false, ◌||◌, List, [], ◌∷◌, length, take}
use Rattle.std.proofs.Common.{refl, sym, ap, ◌∙◌, arith}
use Rattle.std.specs.Prelude.{slice_get}
use Rattle.std.specs.List.{list_any}
use Rattle.std.specs.Option.{option_map}
use Rattle.acme_tree.specs.declared.node.WinFile.{WinFile}
use Rattle.fid_table.specs.declared.types.Fid.{Fid}
use Rattle.fid_table.specs.Tables.{Tables, fids_of}
use Rattle.core_fids.specs.Opening.{has_open, or_false, open_below}

or_none : (b : Bool) → b ≡ (b || false)
or_none true = refl
or_none false = refl

or_first : (a b c : Bool) → (a || (b || c)) ≡ ((a || b) || c)
or_first true b c = refl
or_first false b c = refl

-- one more at the k-th place
module _ {X : Type 0} (p : X → Bool) where
  one_more : (xs : List X) (k : ℕ) → k < length xs → list_any p (take (suc k) xs)
      ≡ (list_any p (take k xs) || or_false (option_map p (slice_get xs k)))
  one_more [] k h = absurd (omega (arith, h))
  one_more (x ∷ xs) zero h = sym (or_none (p x))
  one_more (x ∷ xs) (suc k) h = ap (λ (t : Bool). p x || t) (one_more xs k (omega (arith, h)))
      ∙ or_first (p x) (list_any p (take k xs)) (or_false (option_map p (slice_get xs k)))

  no_more : (xs : List X) (k : ℕ) → length xs ≤ k → list_any p (take k xs) ≡ list_any p xs
  no_more [] zero h = refl
  no_more [] (suc k) h = refl
  no_more (x ∷ xs) zero h = absurd (omega (arith, h))
  no_more (x ∷ xs) (suc k) h = ap (λ (t : Bool). p x || t) (no_more xs k (omega (arith, h)))

pub fid_more : (w : ℕ) (file : WinFile) (fids : List (ℕ × Fid)) (k : ℕ) → k < length fids
    → list_any (has_open w file) (take (k + 1) fids) ≡ (list_any (has_open w file) (take k fids)
    || or_false (option_map (has_open w file) (slice_get fids k)))
fid_more w file fids k h = let e : k + 1 ≡ suc k = omega arith in ap
    (λ (n : ℕ). list_any (has_open w file) (take n fids)) e ∙ one_more (has_open w file) fids k h

pub no_fid_more : (w : ℕ) (file : WinFile) (fids : List (ℕ × Fid)) (k : ℕ) → length fids ≤ k
    → list_any (has_open w file) (take k fids) ≡ list_any (has_open w file) fids
no_fid_more w file fids k h = no_more (has_open w file) fids k h

pub ruleset scanning = (fid_more, no_fid_more)

pub conn_more : (tables : Tables) (w : ℕ) (file : WinFile) (conn : ℕ)
    → open_below tables w file (conn + 1) ≡ (open_below tables w file conn
    || list_any (has_open w file) (fids_of tables conn))
unfolding open_below
conn_more tables w file conn = let e : conn + 1 ≡ suc conn = omega arith in ap (open_below tables w file) e

pub none_below : (tables : Tables) (w : ℕ) (file : WinFile) → open_below tables w file 0 ≡ false
unfolding open_below
none_below tables w file = refl

pub ruleset connections = (conn_more, none_below)

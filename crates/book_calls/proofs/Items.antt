-- A relation of each item before a change of one window's file and after it.
use Rattle.std.proofs.Common.{◌≡◌, ◌≢◌, ◌==◌, ℕ, zero, suc, true, false, List, [], ◌∷◌, ◌++◌, slice_get, Option, Some}
use Rattle.std.proofs.Common.{None, refl, sym, subst, arith}
use Rattle.std.proofs.lemmas.Bool.Decides.{nat_tests}
use Rattle.win_events.specs.declared.item.Item.{Item}
use Rattle.wait_queue.specs.Carry.{OpenCarry}
use Rattle.event_book.specs.Lives.{fresh, with_drop, all_dropped, with_back, written_back, numbered}
use Rattle.event_book.specs.Laws.{WindowsRise}
use Rattle.event_book.specs.WindowFiles.{EventFile, WindowFile, left_with, file_of, with_file}
use Rattle.event_book.specs.declared.lives.Recorded.{Recorded}
use Rattle.event_book.proofs.TableLemmas.{eq_from_test}
use Rattle.event_book.proofs.BookLemmas.{same_window, other_window}

-- what holds of the changed file and of each unchanged one holds of each
module _ (P : EventFile → EventFile → Type 0) (same : (f : EventFile) → P f f) where
  pub with_files : (w v : ℕ) (f : EventFile) (fs : List WindowFile) → WindowsRise 0 fs → P (file_of fs w) f
      → P (file_of fs v) (file_of (with_file w f fs) v)
  with_files w v f fs rise own =
      (elim (v == w) as (λ b. (v == w) ≡ b → P (file_of fs v) (file_of (with_file w f fs) v)) [
        | true ↦ λ t.
            let e : v ≡ w = eq_from_test v w t in
            subst (λ (x : ℕ). P (file_of fs x) (file_of (with_file w f fs) x)) (sym e)
            (subst (λ (g : EventFile). P (file_of fs w) g) (sym (same_window 0 w f fs rise)) own)
        | false ↦ λ t.
            let other : v ≢ w = grind (arith, nat_tests) in
            subst (λ (g : EventFile). P (file_of fs v) g) (sym (other_window w v f fs other)) (same (file_of fs v))
      ]) refl

module _ (P : Option Recorded → Option Recorded → Type 0) (same : (o : Option Recorded) → P o o) where
  pushed_at : (new : Item) → P None (Some (fresh new)) → (es : List Recorded) (k : ℕ)
      → P (slice_get es k) (slice_get (es ++ fresh new ∷ []) k)
  pushed_at new h [] zero = h
  pushed_at new h [] (suc k) = same None
  pushed_at new h (x ∷ es) zero = same (Some x)
  pushed_at new h (x ∷ es) (suc k) = pushed_at new h es k

  written_at : (at : ℕ) → ((x : Recorded) → P (Some x) (Some (with_back at x))) → (m : ℕ) (es : List Recorded) (k : ℕ)
      → P (slice_get es k) (slice_get (written_back at m es) k)
  written_at at h zero es k = same (slice_get es k)
  written_at at h (suc m) [] k = same (slice_get [] k)
  written_at at h (suc zero) (x ∷ es) zero = h x
  written_at at h (suc zero) (x ∷ es) (suc k) = same (slice_get es k)
  written_at at h (suc (suc m)) (x ∷ es) zero = same (Some x)
  written_at at h (suc (suc m)) (x ∷ es) (suc k) = written_at at h (suc m) es k

  closed_at : (at : ℕ) → ((x : Recorded) → P (Some x) (Some (with_drop at x))) → (es : List Recorded) (k : ℕ)
      → P (slice_get es k) (slice_get (all_dropped at es) k)
  closed_at at h [] k = same (slice_get [] k)
  closed_at at h (x ∷ es) zero = h x
  closed_at at h (x ∷ es) (suc k) = closed_at at h es k

  by_number : (es es' : List Recorded) → ((k : ℕ) → P (slice_get es k) (slice_get es' k)) → (n : ℕ)
      → P (numbered es n) (numbered es' n)
  by_number es es' h zero = same None
  by_number es es' h (suc k) = h k

  pub pushed : (new : Item) → P None (Some (fresh new)) → (es : List Recorded) (n : ℕ)
      → P (numbered es n) (numbered (es ++ fresh new ∷ []) n)
  pushed new h es n = by_number es (es ++ fresh new ∷ []) (pushed_at new h es) n

  pub written : (at : ℕ) → ((x : Recorded) → P (Some x) (Some (with_back at x))) → (m : ℕ) (es : List Recorded) (n : ℕ)
      → P (numbered es n) (numbered (written_back at m es) n)
  written at h m es n = by_number es (written_back at m es) (written_at at h m es) n

  pub closed : (at : ℕ) → ((x : Recorded) → P (Some x) (Some (with_drop at x))) → (es : List Recorded) (n : ℕ)
      → P (numbered es n) (numbered (all_dropped at es) n)
  closed at h es n = by_number es (all_dropped at es) (closed_at at h es) n

  pub left_items : (at : ℕ) → ((x : Recorded) → P (Some x) (Some (with_drop at x)))
      → (cs : List OpenCarry) (f : EventFile) (n : ℕ) → P (numbered f.items n) (numbered (left_with cs at f).items n)
  left_items at h [] f n = closed at h f.items n
  left_items at h (c ∷ cs) f n = same (numbered f.items n)

  pub with_items : (w : ℕ) (f : EventFile) (fs : List WindowFile) → WindowsRise 0 fs
      → ((n : ℕ) → P (numbered (file_of fs w).items n) (numbered f.items n)) → (v n : ℕ)
      → P (numbered (file_of fs v).items n) (numbered (file_of (with_file w f fs) v).items n)
  with_items w f fs rise own v = with_files (λ a b. (n : ℕ) → P (numbered a.items n) (numbered b.items n))
      (λ a n. same (numbered a.items n)) w v f fs rise own

-- Each call keeps what holds of the book between the steps.
use Rattle.std.proofs.Common.{◌≡◌, ℕ, ◌+◌, ◌<◌, ◌^◌, ◌&&◌, Bool, true, false, not, cond, List, [], ◌∷◌, find, fold}
use Rattle.std.proofs.Common.{Option, Some, None, refl, sym, ap, ◌∙◌, subst, arith}
use Rattle.std.specs.List.{list_all, filter}
use Rattle.std.proofs.lemmas.Bool.Decides.{nat_tests}
use Rattle.am_text.specs.Twice.{Twice, both, IsSteady}
use Rattle.core_scene.specs.declared.deed.WindowItem.{WindowItem}
use Rattle.wait_queue.specs.Reads.{is_on, is_read, without_first}
use Rattle.wait_queue.specs.declared.types.Asker.{Asker}
use Rattle.event_book.specs.BookState.{BookState, is_open_window, after_put, is_ready, next_of, after_next, after_serve}
use Rattle.event_book.specs.BookState.{after_written, after_leave, after_delete, is_on_window}
use Rattle.core_fids.specs.declared.effect.EventChange.{EventChange}
use Rattle.core_fids.specs.declared.effect.EventChange.TheVariants as events
use Rattle.core_events.specs.Sound.{is_small, IsSound}
use Rattle.core_events.specs.Closing.{cancelled, closed_with}
use Rattle.core_events.specs.Putting.{put_one, is_ending, put_if_lives}

-- ---- lists of reads

pub all-filter : (p t : Asker → Bool) (rs : List Asker) → list_all p rs ≡ true → list_all p (filter t rs) ≡ true
all-filter p t [] a = refl
all-filter p t (r ∷ rs) a =
    (elim (p r) as (λ b. p r ≡ b → (b && list_all p rs) ≡ true → list_all p (filter t (r ∷ rs)) ≡ true) [
      | true ↦ λ e k.
          elim (t r) as (λ c. list_all p (cond c (r ∷ filter t rs) (filter t rs)) ≡ true) [
            | true ↦ rw e (all-filter p t rs k)
            | false ↦ all-filter p t rs k
          ]
      | false ↦ λ e k. cc
    ]) refl a

pub all-without_first : (p t : Asker → Bool) (rs : List Asker) → list_all p rs ≡ true → list_all p
    (without_first t rs) ≡ true
all-without_first p t [] a = refl
all-without_first p t (r ∷ rs) a =
    (elim (p r) as (λ b. p r ≡ b → (b && list_all p rs) ≡ true → list_all p
    (cond (t r) rs (r ∷ without_first t rs)) ≡ true) [
      | true ↦ λ e k.
          elim (t r) as (λ c. list_all p (cond c rs (r ∷ without_first t rs)) ≡ true) [
            | true ↦ k
            | false ↦ rw e (all-without_first p t rs k)
          ]
      | false ↦ λ e k. cc
    ]) refl a

pub found-all : (t p : Asker → Bool) (rs : List Asker) (r : Asker) → list_all p rs ≡ true → find t rs ≡ Some r
    → p r ≡ true
found-all t p [] r a h = cc
found-all t p (x ∷ rs) r a h =
    (elim (p x) as (λ b. p x ≡ b → (b && list_all p rs) ≡ true → p r ≡ true) [
      | true ↦ λ e k.
          (elim (t x) as (λ b. cond b (Some x) (find t rs) ≡ Some r → p r ≡ true) [
            | true ↦ λ f. let same : x ≡ r = cc in sym (ap p same) ∙ e
            | false ↦ λ f. found-all t p rs r k f
          ]) h
      | false ↦ λ e k. cc
    ]) refl a

-- ---- calls

-- the read that is answered next is a small one
pub next_small : (at : ℕ) (s : BookState) (r : Asker) → IsSound at s → next_of s ≡ Some r → r.count + 11 < 2 ^ 32
next_small at s r sound h = let small : is_small r ≡ true = found-all (is_ready s.files s.owners) is_small s.reads r
    sound.small h in grind (arith, nat_tests)

pub sound_served : (at : ℕ) (s : BookState) → IsSound at s → IsSound at (after_serve s at)
sound_served at s sound =
    elim (next_of s) as (λ o. IsSound at (after_next o s at)) [
      | None ↦ record { latest = omega arith; small = sound.small }
      | Some r ↦ record {
        latest = omega arith;
        small = all-without_first is_small (is_ready s.files s.owners) s.reads
            sound.small;
      }
    ]

pub sound_written : (at : ℕ) (s : BookState) (window number : ℕ) → IsSound at s
    → IsSound at (after_written s window number at)
sound_written at s window number sound = record { latest = omega arith; small = sound.small }

pub sound_left : (at : ℕ) (s : BookState) (opening : ℕ) → IsSound at s → IsSound at (after_leave s opening at)
sound_left at s opening sound = record {
  latest = omega arith;
  small = all-filter is_small (λ r. not (is_on opening r))
      s.reads sound.small;
}

pub sound_cancelled : (at : ℕ) (s : BookState) (conn : ℕ) (e : EventChange) → IsSound at s
    → IsSound at (cancelled s conn e)
sound_cancelled at s conn events.Nothing sound = sound
sound_cancelled at s conn (events.Opens w) sound = sound
sound_cancelled at s conn (events.Joins port) sound = sound
sound_cancelled at s conn (events.Watches file) sound = sound
sound_cancelled at s conn (events.Cancels tag) sound =
    record { latest = sound.latest; small = all-filter is_small (λ r. not (is_read conn tag r)) s.reads sound.small }

pub sound_deleted : (at : ℕ) (s : BookState) (w : ℕ) → IsSound at s → IsSound at (after_delete s w at)
sound_deleted at s w sound =
    record {
      latest = omega arith;
      small = all-filter is_small (λ r. not (is_on_window s.owners w r)) s.reads
          sound.small;
    }

sound_put : (at : ℕ) (s : BookState) (i : WindowItem) → IsSound at s → IsSound at (put_one s i)
sound_put at s i sound =
    elim (is_open_window s i.window) as (λ b. IsSound at (cond b (after_put s i.window i.item) s)) [
      | true ↦ record { latest = sound.latest; small = sound.small }
      | false ↦ sound
    ]

pub sound_all : (at : ℕ) (s : BookState) (items : List WindowItem) → IsSound at s → IsSound at (fold put_one s items)
sound_all at s [] sound = sound
sound_all at s (i ∷ items) sound = sound_all at (put_one s i) items (sound_put at s i sound)

sound_if_lives : (at : ℕ) (deleted : List ℕ) (s : BookState) (i : WindowItem) → IsSound at s
    → IsSound at (put_if_lives deleted s i)
sound_if_lives at deleted s i sound =
    elim (is_ending deleted i) as (λ b. IsSound at (cond b s (put_one s i))) [
      | true ↦ sound
      | false ↦ sound_put at s i sound
    ]

pub sound_living : (at : ℕ) (deleted : List ℕ) (s : BookState) (items : List WindowItem) → IsSound at s
    → IsSound at (fold (put_if_lives deleted) s items)
sound_living at deleted s [] sound = sound
sound_living at deleted s (i ∷ items) sound = sound_living at deleted (put_if_lives deleted s i) items
    (sound_if_lives at deleted s i sound)

-- both states of a steady book are its present one
pub steady_both : (t : Twice BookState) → IsSteady t → t ≡ both t.present
steady_both t steady = ap (λ (k : BookState). record { present = t.present; kept = k }) (sym steady)

-- a book whose states are both a sound one
pub sound_both : (at : ℕ) (t : Twice BookState) (s : BookState) → t ≡ both s → IsSound at s → IsSound at t.present
sound_both at t s e sound = subst (λ (u : Twice BookState). IsSound at u.present) (sym e) sound

-- a window's event file closes, and the others are left
pub still_steady : (at : ℕ) (t u : Twice BookState) (w : ℕ) → u ≡ both (after_delete t.present w at)
    → u ≡ both u.present
still_steady at t u w e = e ∙ ap (λ (s : Twice BookState). both s.present) (sym e)

pub sound_gone : (at : ℕ) (t u : Twice BookState) (w : ℕ) → u ≡ both (after_delete t.present w at)
    → IsSound at t.present → IsSound at u.present
sound_gone at t u w e sound = sound_both at u (after_delete t.present w at) e (sound_deleted at t.present w sound)

pub closed_gone : (at : ℕ) (t u : Twice BookState) (w : ℕ) (rest after : List ℕ) (end : BookState)
    → u ≡ both (after_delete t.present w at) → rest ≡ w ∷ after
    → closed_with at t.present rest ≡ end → closed_with at u.present after ≡ end
closed_gone at t u w rest after end e is closed =
    ap (λ (s : Twice BookState). closed_with at s.present after) e
    ∙ ap (λ (ws : List ℕ). closed_with at t.present ws) (sym is) ∙ closed

pub ruleset deleting = (steady_both, still_steady, sound_gone, closed_gone)

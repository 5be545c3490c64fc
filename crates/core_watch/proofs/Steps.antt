-- What each function leaves.
use Rattle.std.proofs.Common.{◌≡◌, ℕ, zero, suc, ◌+◌, ◌<◌, ◌^◌, List, [], ◌∷◌, take, slice_get, fold, Option, Some, refl}
use Rattle.std.proofs.Common.{sym, ap, ap₂, subst, ◌∙◌, arith}
use Rattle.std.specs.Prelude.{IsTrue}
use Rattle.am_text.specs.Twice.{Twice, both, IsSteady}
use Rattle.fid_table.specs.declared.types.Fid.{Fid}
use Rattle.acme_watch.specs.Watching.{WatchState, has_opening, after_ask}
use Rattle.acme_watch.specs.declared.types.WatchRead.{WatchRead}
use Rattle.core_fids.specs.declared.effect.EventChange.{EventChange}
use Rattle.core_fids.specs.declared.effect.WatchOpening.{WatchOpening}
use Rattle.core_watch.specs.Closing.{without_opening, without_fid, opening_at, watch_cancelled}
use Rattle.core_watch.specs.Answering.{answer_written}
use Rattle.core_watch.specs.Sound.{IsWatchSound, IsWatchIdle}
use Rattle.core_watch.proofs.Sounds.{sound_watching, sound_line, sound_request, sound_ask, sound_cancelled}
use Rattle.core_watch.proofs.Sounds.{sound_written}
use Rattle.core_watch.proofs.Idles.{idle_watching, idle_ask, idle_cancelled, idle_written}

pub ruleset beginning = (sound_watching, idle_watching)

pub ruleset growing = (sound_line, sound_request)

-- ---- the present state, by what it is

pub sound_as : (s t : WatchState) → t ≡ s → IsWatchSound s → IsWatchSound t
sound_as s t e h = subst IsWatchSound (sym e) h

pub idle_as : (s t : WatchState) → t ≡ s → IsWatchIdle s → IsWatchIdle t
idle_as s t e h = subst (λ (u : WatchState). IsWatchIdle u) (sym e) h

-- both states of steady files are their present one
pub steady_both : (t : Twice WatchState) → IsSteady t → t ≡ both t.present
steady_both t steady = ap (λ (k : WatchState). record { present = t.present; kept = k }) (sym steady)

pub sound_both : (t : Twice WatchState) (s : WatchState) → t ≡ both s → IsWatchSound s → IsWatchSound t.present
sound_both t s e h = subst (λ (u : Twice WatchState). IsWatchSound u.present) (sym e) h

pub idle_both : (t : Twice WatchState) (s : WatchState) → t ≡ both s → IsWatchIdle s → IsWatchIdle t.present
idle_both t s e h = subst (λ (u : Twice WatchState). IsWatchIdle u.present) (sym e) h

-- ---- a read

pub asked_sound : (s t : WatchState) (r : WatchRead) (at : ℕ) → t ≡ after_ask s r at
    → IsTrue (has_opening s r.file r.asker.opening) → r.asker.count + 11 < 2 ^ 32 → IsWatchSound s → IsWatchSound t
asked_sound s t r at e there small h = sound_as (after_ask s r at) t e (sound_ask s r at there small h)

pub asked_idle : (s t : WatchState) (r : WatchRead) (at : ℕ) → t ≡ after_ask s r at → IsWatchSound s → IsWatchIdle s
    → IsWatchIdle t
asked_idle s t r at e h i = idle_as (after_ask s r at) t e (idle_ask s r at h i)

pub ruleset reading = (asked_sound, asked_idle)

-- ---- what ends

pub ruleset closing = (steady_both)

more_fids : (at : ℕ) (s : WatchState) (fids : List (ℕ × Fid)) (k : ℕ)
    → fold (without_fid at) s (take (suc k) fids) ≡ without_opening at (fold (without_fid at) s (take k fids))
    (opening_at (slice_get fids k))
more_fids at s [] zero = refl
more_fids at s [] (suc k) = refl
more_fids at s (f ∷ fids) zero = refl
more_fids at s (f ∷ fids) (suc k) = more_fids at (without_fid at s f) fids k

-- the files so far, and without the opening of the next fid
pub closed_more : (at : ℕ) (s : WatchState) (fids : List (ℕ × Fid)) (k : ℕ) (watch after : Twice WatchState)
    (opening : Option WatchOpening) → watch ≡ both (fold (without_fid at) s (take k fids))
    → opening ≡ opening_at (slice_get fids k) → after ≡ both (without_opening at watch.present opening)
    → after ≡ both (fold (without_fid at) s (take (k + 1) fids))
closed_more at s fids k watch after opening e o h =
    let present : watch.present ≡ fold (without_fid at) s (take k fids) = ap (λ (t : Twice WatchState). t.present) e in
    let next : k + 1 ≡ suc k = omega arith in
    h ∙ ap both (ap₂ (without_opening at) present o
    ∙ sym (ap (λ (n : ℕ). fold (without_fid at) s (take n fids)) next ∙ more_fids at s fids k))

pub cancelled_sound : (t : Twice WatchState) (s : WatchState) (conn : ℕ) (e : EventChange)
    → t ≡ both (watch_cancelled s conn e) → IsWatchSound s → IsWatchSound t.present
cancelled_sound t s conn e is h = sound_both t (watch_cancelled s conn e) is (sound_cancelled s conn e h)

pub cancelled_idle : (t : Twice WatchState) (s : WatchState) (conn : ℕ) (e : EventChange)
    → t ≡ both (watch_cancelled s conn e) → IsWatchIdle s → IsWatchIdle t.present
cancelled_idle t s conn e is i = idle_both t (watch_cancelled s conn e) is (idle_cancelled s conn e i)

pub ruleset cancelling = (steady_both, cancelled_sound, cancelled_idle)

-- ---- an answer

pub written_sound : (t : Twice WatchState) (s : WatchState) (opening : ℕ) (text : List ℕ) (at : ℕ)
    → t ≡ both (answer_written s opening text at) → IsWatchSound s → IsWatchSound t.present
written_sound t s opening text at e h = sound_both t (answer_written s opening text at) e
    (sound_written s opening text at h)

pub written_idle : (t : Twice WatchState) (s : WatchState) (opening : ℕ) (text : List ℕ) (at : ℕ)
    → t ≡ both (answer_written s opening text at) → IsWatchSound s → IsWatchIdle s → IsWatchIdle t.present
written_idle t s opening text at e h i = idle_both t (answer_written s opening text at) e
    (idle_written s opening text at h i)

pub ruleset answering = (steady_both, written_sound, written_idle)

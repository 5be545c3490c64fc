-- Openings of fids that were closed, and one more.
use Rattle.std.proofs.Common.{◌≡◌, ℕ, zero, suc, ◌+◌, List, [], ◌∷◌, take, slice_get, fold, Option, refl, sym, ap, ap₂}
use Rattle.std.proofs.Common.{◌∙◌, subst, arith}
use Rattle.am_text.specs.Twice.{Twice, both, IsSteady}
use Rattle.fid_table.specs.declared.types.Fid.{Fid}
use Rattle.plumb_ports.specs.PortsState.{PortsState}
use Rattle.core_events.specs.PortClosing.{without_opening, without_fid, opening_at}
use Rattle.core_events.specs.PortSound.{ArePortsSound, ArePortsIdle}

-- both states of steady ports are their present one
pub steady_both : (t : Twice PortsState) → IsSteady t → t ≡ both t.present
steady_both t steady = ap (λ (k : PortsState). record { present = t.present; kept = k }) (sym steady)

-- ports whose states are both sound ones, or idle ones
pub sound_both : (t : Twice PortsState) (s : PortsState) → t ≡ both s → ArePortsSound s → ArePortsSound t.present
sound_both t s e sound = subst (λ (u : Twice PortsState). ArePortsSound u.present) (sym e) sound

pub idle_both : (t : Twice PortsState) (s : PortsState) → t ≡ both s → ArePortsIdle s → ArePortsIdle t.present
idle_both t s e idle = subst (λ (u : Twice PortsState). ArePortsIdle u.present) (sym e) idle

more_fids : (s : PortsState) (fids : List (ℕ × Fid)) (k : ℕ)
    → fold without_fid s (take (suc k) fids) ≡ without_opening (fold without_fid s (take k fids))
    (opening_at (slice_get fids k))
more_fids s [] zero = refl
more_fids s [] (suc k) = refl
more_fids s (f ∷ fids) zero = refl
more_fids s (f ∷ fids) (suc k) = more_fids (without_fid s f) fids k

-- the ports so far, and without the opening of the next one
pub closed_more : (s : PortsState) (fids : List (ℕ × Fid)) (k : ℕ) (ports after : Twice PortsState) (opening : Option ℕ)
    → ports ≡ both (fold without_fid s (take k fids)) → opening ≡ opening_at (slice_get fids k)
    → after ≡ both (without_opening ports.present opening)
    → after ≡ both (fold without_fid s (take (k + 1) fids))
closed_more s fids k ports after opening e o h =
    let present : ports.present ≡ fold without_fid s (take k fids) = ap (λ (t : Twice PortsState). t.present) e in
    let next : k + 1 ≡ suc k = omega arith in
    h ∙ ap both (ap₂ without_opening present o ∙ sym (ap (λ (n : ℕ). fold without_fid s (take n fids)) next
    ∙ more_fids s fids k))

pub ruleset ending = (steady_both)

-- Waiting reads and fids that were looked at, and one more.
use Rattle.std.proofs.Common.{◌≡◌, ℕ, zero, suc, ◌+◌, ◌≤◌, Bool, true, false, cond, List, [], ◌∷◌, ◌++◌, length, take}
use Rattle.std.proofs.Common.{slice_get, fold, Option, refl, sym, ap, ap₂, ◌∙◌, take_all, arith}
use Rattle.std.specs.List.{filter}
use Rattle.fid_table.specs.declared.types.Fid.{Fid}
use Rattle.fid_table.specs.declared.session.Waiting.{Waiting}
use Rattle.fid_table.specs.Tables.{Tables}
use Rattle.am_text.specs.Twice.{Twice, both}
use Rattle.event_book.specs.BookState.{BookState}
use Rattle.core_fids.specs.declared.refusal.Refusal.{Refusal}
use Rattle.core_events.specs.declared.response.Response.{Response}
use Rattle.core_events.specs.Responses.{feed_at, error, errors}
use Rattle.core_events.specs.Waits.{answer_where}
use Rattle.core_events.specs.Closing.{without_fid, without_opening, opening_at}

-- ---- waiting reads

first_read : (x : Refusal) (t : Tables) (w : Waiting) (b : Bool) → errors x t (cond b (w ∷ []) []) ≡ cond b
    (error x (feed_at t w) w.conn w.tag ∷ []) []
first_read x t w true = refl
first_read x t w false = refl

later_read : (x : Refusal) (t : Tables) (w : Waiting) (b : Bool) (vs ys : List Waiting) (zs : List Response)
    → errors x t vs ≡ errors x t ys ++ zs
    → errors x t (cond b (w ∷ vs) vs) ≡ errors x t (cond b (w ∷ ys) ys) ++ zs
later_read x t w true vs ys zs e = ap (λ (l : List Response). error x (feed_at t w) w.conn w.tag ∷ l) e
later_read x t w false vs ys zs e = e

more : (x : Refusal) (t : Tables) (ends : Waiting → Bool) (ws : List Waiting) (k : ℕ)
    → errors x t (filter ends (take (suc k) ws)) ≡ errors x t (filter ends (take k ws))
    ++ answer_where x t ends (slice_get ws k)
more x t ends [] zero = refl
more x t ends [] (suc k) = refl
more x t ends (w ∷ ws) zero = first_read x t w (ends w)
more x t ends (w ∷ ws) (suc k) = later_read x t w (ends w) (filter ends (take (suc k) ws)) (filter ends (take k ws))
    (answer_where x t ends (slice_get ws k)) (more x t ends ws k)

pub read_more : (x : Refusal) (t : Tables) (ends : Waiting → Bool) (ws : List Waiting) (k : ℕ)
    → errors x t (filter ends (take (k + 1) ws)) ≡ errors x t (filter ends (take k ws))
    ++ answer_where x t ends (slice_get ws k)
read_more x t ends ws k = let e : k + 1 ≡ suc k = omega arith in ap (λ (n : ℕ). errors x t (filter ends (take n ws))) e
    ∙ more x t ends ws k

-- what was said so far, and the answer to the next one
pub said_more : (x : Refusal) (t : Tables) (ends : Waiting → Bool) (ws : List Waiting) (k : ℕ)
    (said after : List Response)
    → said ≡ errors x t (filter ends (take k ws)) → after ≡ said ++ answer_where x t ends (slice_get ws k)
    → after ≡ errors x t (filter ends (take (k + 1) ws))
said_more x t ends ws k said after e h = h ∙ ap (λ (l : List Response). l ++ answer_where x t ends (slice_get ws k)) e
    ∙ sym (read_more x t ends ws k)

-- once all were looked at
pub said_all : (x : Refusal) (t : Tables) (ends : Waiting → Bool) (ws : List Waiting) (k : ℕ) (said : List Response)
    → length ws ≤ k → said ≡ errors x t (filter ends (take k ws)) → said ≡ errors x t (filter ends ws)
said_all x t ends ws k said h e = e ∙ ap (λ (l : List Waiting). errors x t (filter ends l)) (take_all k ws h)

-- ---- fids

more_fids : (at : ℕ) (s : BookState) (fids : List (ℕ × Fid)) (k : ℕ)
    → fold (without_fid at) s (take (suc k) fids) ≡ without_opening at (fold (without_fid at) s (take k fids))
    (opening_at (slice_get fids k))
more_fids at s [] zero = refl
more_fids at s [] (suc k) = refl
more_fids at s (f ∷ fids) zero = refl
more_fids at s (f ∷ fids) (suc k) = more_fids at (without_fid at s f) fids k

pub fid_more : (at : ℕ) (s : BookState) (fids : List (ℕ × Fid)) (k : ℕ)
    → fold (without_fid at) s (take (k + 1) fids) ≡ without_opening at (fold (without_fid at) s (take k fids))
    (opening_at (slice_get fids k))
fid_more at s fids k = let e : k + 1 ≡ suc k = omega arith in ap (λ (n : ℕ). fold (without_fid at) s (take n fids)) e
    ∙ more_fids at s fids k

-- the book so far, and without the opening of the next one
pub closed_more : (at : ℕ) (s : BookState) (fids : List (ℕ × Fid)) (k : ℕ) (book after : Twice BookState)
    (opening : Option ℕ)
    → book ≡ both (fold (without_fid at) s (take k fids)) → opening ≡ opening_at (slice_get fids k)
    → after ≡ both (without_opening at book.present opening)
    → after ≡ both (fold (without_fid at) s (take (k + 1) fids))
closed_more at s fids k book after opening e o h =
    let present : book.present ≡ fold (without_fid at) s (take k fids) = ap (λ (t : Twice BookState). t.present) e in
    h ∙ ap both (ap₂ (without_opening at) present o ∙ sym (fid_more at s fids k))

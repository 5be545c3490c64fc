-- Reading a text, one line further.
use Rattle.std.proofs.Common.{◌≡◌, ℕ, ◌+◌, ◌<◌, ◌≤◌, List, [], ◌∷◌, ◌++◌, length, refl}
use Rattle.std.proofs.Common.{sym, ap, ◌∙◌, arith}
use Rattle.std.specs.List.{AllByRecursion}
use Rattle.std.proofs.lemmas.Bool.{le-ltb, lt-ltb}
use Rattle.am_text.specs.Lines.{lines_of}
use Rattle.am_journal.specs.declared.event.Event.{Event}
use Rattle.am_journal.specs.declared.event.Format.{Format}
use Rattle.am_journal.specs.declared.event.Journal.{Journal}
use Rattle.am_journal.specs.Journal.{journal_in, first_line, format_of, behind_heading}
use Rattle.am_replay.specs.declared.packing.Packing.{Packing}
use Rattle.am_replay.specs.declared.packing.Did.TheVariants as did
use Rattle.am_replay.specs.Packing.{all_of, pack, packing_behind, packing_in, pack_limit}
use Rattle.am_replay.specs.Packing.{too_long, packing_of, line_packing, DidLine}

pub all_more : (P : Event → Type 0) (events : List Event) (e : Event) → AllByRecursion P events → P e
    → AllByRecursion P (events ++ e ∷ [])
all_more P [] e h k = (k, tt)
all_more P (x ∷ xs) e h k = (h.0, all_more P xs e h.1 k)

pack-line : (journal : Journal) (k : ℕ) (l : List ℕ) (ls : List (List ℕ))
    → pack journal k (l ∷ ls) ≡ line_packing journal k l (λ next. pack next (k + 1) ls)
unfolding pack
pack-line journal k l ls = refl

-- the first line behind the heading
pub begins : (journal : Journal) (k : ℕ) (bs whole : List ℕ) (format : Format) → journal ≡ journal_in format []
    → k ≡ first_line format → format ≡ format_of (lines_of whole) → lines_of bs ≡ behind_heading (lines_of whole)
    → pack journal k (lines_of bs) ≡ packing_in (lines_of whole)
begins journal k bs whole format e n f r =
    ap (λ (x : Journal). pack x k (lines_of bs)) e
    ∙ ap (λ (i : ℕ). pack (journal_in format []) i (lines_of bs)) n
    ∙ ap (λ (x : Format). packing_behind x (lines_of bs)) f
    ∙ ap (packing_behind (format_of (lines_of whole))) r

-- after a line that was read the text goes on
pub goes_on : (before now : Journal) (k : ℕ) (l bs rest : List ℕ) (total : Packing) → lines_of bs ≡ l ∷ lines_of rest
    → DidLine did.Read before l now
    → pack before k (lines_of bs) ≡ total → pack now (k + 1) (lines_of rest) ≡ total
goes_on before now k l bs rest total e read so_far =
    sym (read k (λ next. pack next (k + 1) (lines_of rest))) ∙ sym (pack-line before k l (lines_of rest))
    ∙ ap (pack before k) (sym e) ∙ so_far

pub stops_at : (before : Journal) (k : ℕ) (l bs rest : List ℕ) (total end : Packing)
    → lines_of bs ≡ l ∷ lines_of rest
    → ((go : Journal → Packing) → line_packing before k l go ≡ end)
    → pack before k (lines_of bs) ≡ total → end ≡ total
stops_at before k l bs rest total end e read so_far =
    sym (read (λ next. pack next (k + 1) (lines_of rest))) ∙ sym (pack-line before k l (lines_of rest))
    ∙ ap (pack before k) (sym e) ∙ so_far

pub ends_at : (journal : Journal) (k : ℕ) (bs : List ℕ) (total : Packing)
    → length bs ≡ 0 → pack journal k (lines_of bs) ≡ total → all_of journal ≡ total
unfolding pack
ends_at journal k [] total h so_far = so_far
ends_at journal k (b ∷ bs) total h so_far = absurd (omega arith)

pub short_text : (bytes : List ℕ) → length bytes ≤ pack_limit → packing_in (lines_of bytes) ≡ packing_of bytes
unfolding packing_of
short_text bytes h = rw (le-ltb pack_limit (length bytes) h) refl

pub long_text : (bytes : List ℕ) → pack_limit < length bytes → too_long ≡ packing_of bytes
unfolding packing_of
long_text bytes h = rw (lt-ltb pack_limit (length bytes) h) refl

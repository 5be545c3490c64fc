use Rattle.std.proofs.Common.{◌≡◌, ◌≤◌, ◌∙◌, List, ℕ, length, take, ap, arith}
use Rattle.am_text.specs.Room.{Room}
use Rattle.rune_gap.specs.Gap.{around}
use Rattle.rune_gap.specs.Marks.{size}
use Rattle.rune_gap.proofs.Fronts.{part_from}
use Rattle.rune_gap.proofs.text.RuneText.part.Goals as goal

pub returns : goal.returns
returns c =
    let items = c.args.self.now.items in
    let place = c.place_at-place.result in
    let view = ap (around c.self.inside.gap) c.as_slice.ensures.value ∙ ap (λ (r : Room ℕ). r.items) c.self.view_is in
    let exact : place.bytes ≡ size (take place.runes items) = c.place_at-place.ensures.exact
    ∙ ap (λ (x : List ℕ). size (take place.runes x)) view in
    let inside : place.runes ≤ length items = omega (
      arith,
      c.place_at-place.ensures.inside,
      ap (λ (x : List ℕ). length x) view,
    ) in
    c.in_ok-bytes.ensures
    ∙ part_from items c.as_slice-2.result.now place.runes c.min.result place.bytes c.args.offset c.args.count
    (omega (arith, inside, c.min.ensures, c.len.ensures, c.saturating_add-most.ensures))
    (omega (arith, c.min.ensures, c.len.ensures)) exact c.place_at-place.ensures.before
    (c.as_slice-2.ensures ∙ c.in_ok-runes.ensures)
    (λ h. omega (arith, h, c.min.ensures, c.len.ensures, c.saturating_add.ensures, c.saturating_add-most.ensures))

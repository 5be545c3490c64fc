use Rattle.std.proofs.Common.{◌≡◌, ◌∙◌, ◌-◌, length, take, drop, sym, ap, subst, arith, List, ℕ}
use Rattle.rune_gap.specs.Marks.{size}
use Rattle.rune_gap.proofs.Marked.{plain_part}
use Rattle.rune_gap.proofs.Narrow.{cut_short, plain_cut}
use Rattle.rune_gap.proofs.text.RuneText.plain_part.Goals as goal

pub plain_bytes-requires : goal.plain_bytes-requires
plain_bytes-requires c =
    let items = c.args.self.now.items in
    let q0 = c.min-q0.result in
    let runes = c.as_slice.ensures ∙ c.in_ok-runes.ensures in
    subst (λ (l : List ℕ). size l ≡ length l) (sym runes) (plain_part items q0 (c.min-q1.result - q0) c.requires)

pub returns : goal.returns
returns c =
    let items = c.args.self.now.items in
    let q0 = c.min-q0.result in
    let q1 = c.min-q1.result in
    let runes = c.as_slice.ensures ∙ c.in_ok-runes.ensures in
    plain_cut items c.as_slice.result.now _ c.args.offset c.args.count q0 q1 c.requires runes c.in_ok-bytes.ensures
    (cut_short items c.args.offset c.args.count q0 q1 (omega (arith, c.min-q0.ensures, c.len.ensures))
    (omega (arith, c.min-q0.ensures)) (λ h. omega (arith, h, c.min-q0.ensures, c.len.ensures))
    (omega (arith, c.min-q1.ensures, c.len-2.ensures)) (omega (arith, c.min-q1.ensures, c.saturating_add.ensures))
    (λ h. omega (arith, h, c.min-q1.ensures, c.len-2.ensures, c.saturating_add.ensures)))

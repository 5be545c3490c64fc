use Rattle.std.proofs.Common.{◌*◌, ◌-◌, ◌∙◌, ℕ, length, length-take, drop, refl, rules, arith}
use Rattle.rune_gap.specs.Marks.{stride, size}
use Rattle.rune_gap.proofs.Marked.{one_more, back_more, size_drop, plain_part}
use Rattle.rune_gap.proofs.marks.mark_back.Goals as goal

pub stride_size-more-requires-clause-plain : goal.stride_size-more-requires-clause-plain
stride_size-more-requires-clause-plain c p = plain_part c.args.text.now
    (length c.args.text.now - c.loop-k.k * 256 - 256) _ (c.requires.plain p)

pub overflow_add-marks : goal.overflow_add-marks
overflow_add-marks c =
    let text = c.args.text.now in
    let k = c.loop-k.k in
    let end = length text - k * 256 in
    let so_far = c.noted.ensures ∙ c.loop-k.invariant.marked k (omega arith) (omega (arith, c.loop-k-test.true)) in
    omega (
      arith,
      so_far,
      size_drop end text,
      c.stride_size-more.ensures.small,
      length-take (end - (end - 256)) (drop (end - 256) text),
      c.requires.small,
    )

pub loop-k-preserved : goal.loop-k-preserved
loop-k-preserved c =
    let text = c.args.text.now in
    let k = c.loop-k.k in
    let end = length text - k * 256 in
    let so_far = c.noted.ensures ∙ c.loop-k.invariant.marked k (omega arith) (omega (arith, c.loop-k-test.true)) in
    record {
      len = search rules;
      marked = one_more (λ (m : ℕ). size (drop (length text - m * stride) text)) c.loop-k.marks k _ _
          (omega (arith, c.loop-k-test.true, c.requires.room, c.loop-k.invariant.len))
          (omega (
            arith,
            so_far,
            c.stride_size-more.ensures.exact,
            back_more text k end refl (omega (arith, c.loop-k-test.true)),
          )) c.loop-k.invariant.marked;
    }

use Rattle.std.proofs.Common.{◌*◌, ◌+◌, ◌-◌, ◌∙◌, ℕ, length-take, take, drop, refl, rules, arith}
use Rattle.rune_gap.specs.Marks.{stride, size}
use Rattle.rune_gap.proofs.Marked.{one_more, front_more, size_take, plain_part}
use Rattle.rune_gap.proofs.marks.mark_front.Goals as goal

pub stride_size-more-requires-clause-plain : goal.stride_size-more-requires-clause-plain
stride_size-more-requires-clause-plain c p = plain_part c.args.text.now (c.loop-k.k * 256) _ (c.requires.plain p)

pub overflow_add-marks : goal.overflow_add-marks
overflow_add-marks c =
    let text = c.args.text.now in
    let k = c.loop-k.k in
    let so_far = c.noted.ensures ∙ c.loop-k.invariant.marked k (omega arith) (omega (arith, c.loop-k-test.true)) in
    omega (
      arith,
      so_far,
      size_take (k * 256) text,
      c.stride_size-more.ensures.small,
      length-take (k * 256 + 256 - k * 256) (drop (k * 256) text),
      c.requires.small,
    )

pub loop-k-preserved : goal.loop-k-preserved
loop-k-preserved c =
    let text = c.args.text.now in
    let k = c.loop-k.k in
    let so_far = c.noted.ensures ∙ c.loop-k.invariant.marked k (omega arith) (omega (arith, c.loop-k-test.true)) in
    record {
      len = search rules;
      marked = one_more (λ (m : ℕ). size (take (m * stride) text)) c.loop-k.marks k _ _
          (omega (arith, c.loop-k-test.true, c.requires.room, c.loop-k.invariant.len))
          (omega (arith, so_far, c.stride_size-more.ensures.exact, front_more text k (k * 256) refl))
          c.loop-k.invariant.marked;
    }

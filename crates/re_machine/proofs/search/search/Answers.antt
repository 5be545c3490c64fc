use Rattle.std.proofs.Common.{◌<◌, ◌≤◌, ◌+◌, ◌∙◌, ℕ, ap, subst, arith}
use Rattle.std.specs.Prelude.{◌&&◌, not}
use Rattle.re_spans.specs.Choice.{is_at}
use Rattle.re_sets.specs.Searches.{FindsIn}
use Rattle.re_sets.proofs.Searching.{known_start}
use Rattle.re_machine.specs.Ways.{reading}
use Rattle.re_machine.specs.Whole.{table_of}
use Rattle.re_machine.specs.Threads.{rows_of, seen_of}
use Rattle.re_machine.proofs.Stepping.{seen_text, onward_text, step_known, end_known, over_known, count_read}
use Rattle.re_machine.proofs.search.search.Goals as goal

pub places-init : goal.places-init
places-init g c = record {
  low = omega arith;
  high = c.requires.order;
  known = λ r is. rw (c.new-threads.ensures.rows, c.new-threads.ensures.best)
      (known_start r (table_of g.S.LetterSet.bits g.S.LetterSet.SIZE c.args.tables.now)
      (reading c.args.way (g.T.Letters.letters c.args.text.now)) c.args.bounds.no_null c.args.bounds.low is);
}

pub returns-then-k-bounds : goal.returns-then-k-bounds
returns-then-k-bounds g c = λ r is.
    let bits = g.S.LetterSet.bits in
    let t = table_of bits g.S.LetterSet.SIZE c.args.tables.now in
    let w = reading c.args.way (g.T.Letters.letters c.args.text.now) in
    let k : ℕ = c.lead-k.result in
    let rows = rows_of bits c.lead-k.new.threads.rows.items in
    let context = c.context-context.ensures in
    let null = c.counts-null.ensures ∙ ap (λ b. b && not (is_at c.args.bounds.no_null k)) context.null_is in
    let s = seen_text t w c.args.bounds.no_null k rows c.lead-k.new.threads.best c.counts-null.result
    (bits c.context-context.result.now.last) (seen_of bits c.see-enters.new.self c.see-enters.result) null
    context.last_is c.see-enters.ensures in
    let known = c.lead-k.ensures.reached r is (c.glide-at.ensures.known r is
    (c.skip-begun.ensures.known r is (c.places.invariant.known r is))) in
    subst (λ (z : ℕ). FindsIn r w c.args.bounds.no_null c.args.bounds.low z c.see-enters.new.self.best)
    c.if-k-bounds.true (end_known r t w c.args.bounds.no_null c.args.bounds.low is k rows c.lead-k.new.threads.best
    (seen_of bits c.see-enters.new.self c.see-enters.result) (omega (
      arith,
      c.places.invariant.low,
      c.skip-begun.ensures.above,
      c.glide-at.ensures.above,
      c.lead-k.ensures.above,
    )) s known)

pub returns-then-is_over : goal.returns-then-is_over
returns-then-is_over g c = λ r is.
    let bits = g.S.LetterSet.bits in
    let t = table_of bits g.S.LetterSet.SIZE c.args.tables.now in
    let text = g.T.Letters.letters c.args.text.now in
    let w = reading c.args.way text in
    let k : ℕ = c.lead-k.result in
    let rows = rows_of bits c.lead-k.new.threads.rows.items in
    let next = rows_of bits c.step.new.self.rows.items in
    let out = c.args.bounds.no_null in
    let low : ℕ = c.args.bounds.low in
    let context = c.context-context.ensures in
    let null = c.counts-null.ensures ∙ ap (λ b. b && not (is_at out k)) context.null_is in
    let s = seen_of bits c.see-enters.new.self c.see-enters.result in
    let is_seen = seen_text t w out k rows c.lead-k.new.threads.best c.counts-null.result
    (bits c.context-context.result.now.last) s null context.last_is c.see-enters.ensures in
    let inside : k < w.count = omega (
      arith,
      count_read c.args.way text,
      c.requires.within,
      c.lead-k.ensures.below,
      c.if-k-bounds.false,
    ) in
    let is_next = onward_text bits t w out k c.context-context.result.now (bits c.takes-takes.result) s next context
    (rw c.rune_at.ensures at c.takes-takes.ensures) inside c.in_ok-step.ensures.rows in
    let known = c.lead-k.ensures.reached r is (c.glide-at.ensures.known r is
    (c.skip-begun.ensures.known r is (c.places.invariant.known r is))) in
    let above : low ≤ k = omega (
      arith,
      c.places.invariant.low,
      c.skip-begun.ensures.above,
      c.glide-at.ensures.above,
      c.lead-k.ensures.above,
    ) in
    let after = step_known r t w out low is k rows c.lead-k.new.threads.best s next c.step.new.self.best above is_seen
    is_next c.in_ok-step.ensures.best known in
    over_known r t w out low is (k + 1) c.args.bounds.high next c.step.new.self.best
    (omega (arith, c.lead-k.ensures.below)) (c.is_over.ensures.over c.if-is_over.true)
    (c.is_over.ensures.found c.if-is_over.true) after

pub places-preserved : goal.places-preserved
places-preserved g c = record {
  low = omega (
    arith,
    c.places.invariant.low,
    c.skip-begun.ensures.above,
    c.glide-at.ensures.above,
    c.lead-k.ensures.above,
  );
  high = omega (arith, c.lead-k.ensures.below, c.if-k-bounds.false);
  known = λ r is.
      let bits = g.S.LetterSet.bits in
      let t = table_of bits g.S.LetterSet.SIZE c.args.tables.now in
      let text = g.T.Letters.letters c.args.text.now in
      let w = reading c.args.way text in
      let k : ℕ = c.lead-k.result in
      let rows = rows_of bits c.lead-k.new.threads.rows.items in
      let next = rows_of bits c.step.new.self.rows.items in
      let out = c.args.bounds.no_null in
      let low : ℕ = c.args.bounds.low in
      let context = c.context-context.ensures in
      let null = c.counts-null.ensures ∙ ap (λ b. b && not (is_at out k)) context.null_is in
      let s = seen_of bits c.see-enters.new.self c.see-enters.result in
      let is_seen = seen_text t w out k rows c.lead-k.new.threads.best c.counts-null.result
      (bits c.context-context.result.now.last) s null context.last_is c.see-enters.ensures in
      let inside : k < w.count = omega (
        arith,
        count_read c.args.way text,
        c.requires.within,
        c.lead-k.ensures.below,
        c.if-k-bounds.false,
      ) in
      let is_next = onward_text bits t w out k c.context-context.result.now (bits c.takes-takes.result) s next context
      (rw c.rune_at.ensures at c.takes-takes.ensures) inside c.in_ok-step.ensures.rows in
      let known = c.lead-k.ensures.reached r is (c.glide-at.ensures.known r is
      (c.skip-begun.ensures.known r is (c.places.invariant.known r is))) in
      let above : low ≤ k = omega (
        arith,
        c.places.invariant.low,
        c.skip-begun.ensures.above,
        c.glide-at.ensures.above,
        c.lead-k.ensures.above,
      ) in
      let after = step_known r t w out low is k rows c.lead-k.new.threads.best s next c.step.new.self.best above is_seen
      is_next c.in_ok-step.ensures.best known in
      after;
}

use Rattle.std.proofs.Common.{◌≡◌, ℕ, false, List, [], ◌∷◌, refl, sym, subst, ◌∙◌, arith}
use Rattle.am_base.specs.Seen.{seen}
use Rattle.am_do.specs.declared.line.DoLine.{DoLine}
use Rattle.am_do.specs.Lawful.{AreLawful}
use Rattle.am_do.specs.Talks.{line_told}
use Rattle.am_do.specs.Went.{ends, Went, Halted}
use Rattle.am_do.proofs.Lines.{SoFar, far_none, far_more, far_halted, lawful_rest, put_of}
use Rattle.am_do.proofs.doing.do_all.Goals as goal

pub loop-line-init : goal.loop-line-init
loop-line-init g c =
    let items : c.into_iter-line-iterator.result.rest.items ≡ c.args.lines =
    c.into_iter-line-iterator.ensures.into_iter_gives.0 ∙ c.into_vec-line-items.ensures in
    record {
      ready = c.requires.ready;
      most = refl;
      lawful = subst (λ (x : List DoLine). AreLawful x) (sym items) c.requires.lawful;
      sink = omega arith;
      source = omega arith;
      far = subst (λ (x : List DoLine). SoFar c.args.client.now.talk.msize c.args.lines x c.args.client.now.talk
          c.args.client.now.talk (g.W.Sink.told c.args.client.now.sink).bytes
          (g.W.Sink.told c.args.client.now.sink).bytes (g.R.Source.told c.args.client.now.source).bytes
          (g.R.Source.told c.args.client.now.source).bytes false (seen (g.O.Sink.told c.args.output.now)
          (g.O.Sink.told c.args.output.now))) (sym items)
          (far_none c.args.client.now.talk.msize c.args.lines c.args.client.now.talk
          (g.W.Sink.told c.args.client.now.sink).bytes (g.R.Source.told c.args.client.now.source).bytes
          (g.O.Sink.told c.args.output.now));
    }

pub loop-line-preserved : goal.loop-line-preserved
loop-line-preserved g c =
    let before = c.loop-line.invariant in
    let split : c.loop-line.line-iterator.rest.items ≡ c.in-Some.line ∷ c.next.new.self.rest.items =
    c.in-Some.ensures.steps.0 in
    let far : SoFar c.args.client.now.talk.msize c.args.lines (c.in-Some.line ∷ c.next.new.self.rest.items)
    c.args.client.now.talk c.loop-line.client.talk (g.W.Sink.told c.args.client.now.sink).bytes
    (g.W.Sink.told c.loop-line.client.sink).bytes (g.R.Source.told c.args.client.now.source).bytes
    (g.R.Source.told c.loop-line.client.source).bytes c.loop-line.failed
    (seen (g.O.Sink.told c.args.output.now) (g.O.Sink.told c.loop-line.output)) =
    subst (λ (x : List DoLine). SoFar c.args.client.now.talk.msize c.args.lines x c.args.client.now.talk
    c.loop-line.client.talk (g.W.Sink.told c.args.client.now.sink).bytes
    (g.W.Sink.told c.loop-line.client.sink).bytes (g.R.Source.told c.args.client.now.source).bytes
    (g.R.Source.told c.loop-line.client.source).bytes c.loop-line.failed
    (seen (g.O.Sink.told c.args.output.now) (g.O.Sink.told c.loop-line.output))) split before.far in
    let went : Went (line_told c.args.client.now.talk.msize c.in-Some.line) c.loop-line.client.talk
    c.do_line.new.client.talk (g.W.Sink.told c.loop-line.client.sink).bytes
    (g.W.Sink.told c.do_line.new.client.sink).bytes (g.R.Source.told c.loop-line.client.source).bytes
    (g.R.Source.told c.do_line.new.client.source).bytes c.in-Ok.text tt =
    subst (λ (x : ℕ). Went (line_told x c.in-Some.line) c.loop-line.client.talk c.do_line.new.client.talk
    (g.W.Sink.told c.loop-line.client.sink).bytes (g.W.Sink.told c.do_line.new.client.sink).bytes
    (g.R.Source.told c.loop-line.client.source).bytes (g.R.Source.told c.do_line.new.client.source).bytes
    c.in-Ok.text tt) before.most c.in-Ok.ensures.ok in
    let most : c.do_line.new.client.talk.msize ≡ c.loop-line.client.talk.msize = c.in-Ok.ensures.most in
    record {
      ready = c.in-Ok.ensures.ready;
      most = most ∙ before.most;
      lawful = lawful_rest c.in-Some.line c.next.new.self.rest.items
          (subst (λ (x : List DoLine). AreLawful x) split before.lawful);
      sink = omega (arith, before.sink, c.do_line.ensures.later_sink);
      source = omega (arith, before.source, c.do_line.ensures.later_source);
      far = far_more c.in-Some.line far went (put_of c.loop-line.failed c.put-failed.result
          (seen (g.O.Sink.told c.loop-line.output) (g.O.Sink.told c.put-failed.new.output)) c.as_slice.ensures
          c.put-failed.ensures);
    }

pub returns-in-Err-clause-comes : goal.returns-in-Err-clause-comes
returns-in-Err-clause-comes g c =
    let before = c.loop-line.invariant in
    let split : c.loop-line.line-iterator.rest.items ≡ c.in-Some.line ∷ c.next.new.self.rest.items =
    c.in-Some.ensures.steps.0 in
    let far : SoFar c.args.client.now.talk.msize c.args.lines (c.in-Some.line ∷ c.next.new.self.rest.items)
    c.args.client.now.talk c.loop-line.client.talk (g.W.Sink.told c.args.client.now.sink).bytes
    (g.W.Sink.told c.loop-line.client.sink).bytes (g.R.Source.told c.args.client.now.source).bytes
    (g.R.Source.told c.loop-line.client.source).bytes c.loop-line.failed
    (seen (g.O.Sink.told c.args.output.now) (g.O.Sink.told c.loop-line.output)) =
    subst (λ (x : List DoLine). SoFar c.args.client.now.talk.msize c.args.lines x c.args.client.now.talk
    c.loop-line.client.talk (g.W.Sink.told c.args.client.now.sink).bytes
    (g.W.Sink.told c.loop-line.client.sink).bytes (g.R.Source.told c.args.client.now.source).bytes
    (g.R.Source.told c.loop-line.client.source).bytes c.loop-line.failed
    (seen (g.O.Sink.told c.args.output.now) (g.O.Sink.told c.loop-line.output))) split before.far in
    far_halted c.in-Some.line (g.W.Sink.told c.args.client.now.sink).faults
    (g.R.Source.told c.args.client.now.source).faults far refl refl before.sink before.source
    (subst (λ (x : ℕ). Halted c.in-Err.stop (line_told x c.in-Some.line) c.loop-line.client.talk
    (ends (g.W.Sink.told c.loop-line.client.sink) (g.W.Sink.told c.do_line.new.client.sink)
    (g.R.Source.told c.loop-line.client.source) (g.R.Source.told c.do_line.new.client.source)) []) before.most
    c.in-Err.ensures.err)

use Rattle.std.proofs.Common.{List, [], ℕ, refl, sym, subst}
use Rattle.std.specs.Prelude.{Result, IfOk, IfErr}
use Rattle.am_do.specs.declared.stop.Stop.{Stop}
use Rattle.am_do.specs.Talks.{Reply, says, error_line, back_told}
use Rattle.am_do.specs.Went.{ends, Went, Halted}
use Rattle.am_do.proofs.Parts.{said_ok, said_err, went_saying, halted_saying, halted_asking, back_is}
use Rattle.am_do.proofs.opening.give_back.Goals as goal

pub returns-in-Ok-clause-ok : goal.returns-in-Ok-clause-ok
returns-in-Ok-clause-ok g c =
    subst (λ (r : Result (List ℕ) Stop). IfOk r (λ (line : List ℕ).
    Went (back_told c.args.client.now.talk.msize c.args.fid c.args.text.now) c.args.client.now.talk
    c.ask.new.client.talk (g.W.Sink.told c.args.client.now.sink).bytes (g.W.Sink.told c.ask.new.client.sink).bytes
    (g.R.Source.told c.args.client.now.source).bytes (g.R.Source.told c.ask.new.client.source).bytes line tt))
    (sym c.said.ensures)
    (said_ok c.error_line.result (error_line c.args.text.now) (λ (line : List ℕ).
    Went (back_told c.args.client.now.talk.msize c.args.fid c.args.text.now) c.args.client.now.talk
    c.ask.new.client.talk (g.W.Sink.told c.args.client.now.sink).bytes (g.W.Sink.told c.ask.new.client.sink).bytes
    (g.R.Source.told c.args.client.now.source).bytes (g.R.Source.told c.ask.new.client.source).bytes line tt)
    c.error_line.ensures (went_saying (λ (reply : Reply) (rest : List ℕ). says (error_line c.args.text.now) rest)
    (error_line c.args.text.now) (back_is c.args.client.now.talk.msize c.args.fid c.args.text.now) (λ bytes. refl)
    c.in-Ok.ensures.ok))

pub returns-in-Ok-clause-err : goal.returns-in-Ok-clause-err
returns-in-Ok-clause-err g c =
    subst (λ (r : Result (List ℕ) Stop). IfErr r (λ (end : Stop). Halted end
    (back_told c.args.client.now.talk.msize c.args.fid c.args.text.now) c.args.client.now.talk
    (ends (g.W.Sink.told c.args.client.now.sink) (g.W.Sink.told c.ask.new.client.sink)
    (g.R.Source.told c.args.client.now.source) (g.R.Source.told c.ask.new.client.source)) [])) (sym c.said.ensures)
    (said_err c.error_line.result (λ (end : Stop). Halted end (back_told c.args.client.now.talk.msize c.args.fid
    c.args.text.now) c.args.client.now.talk (ends (g.W.Sink.told c.args.client.now.sink)
    (g.W.Sink.told c.ask.new.client.sink) (g.R.Source.told c.args.client.now.source)
    (g.R.Source.told c.ask.new.client.source)) []) (halted_saying
    (λ (reply : Reply) (rest : List ℕ). says (error_line c.args.text.now) rest)
    (g.W.Sink.told c.args.client.now.sink).faults (g.W.Sink.told c.ask.new.client.sink).faults
    (g.R.Source.told c.args.client.now.source).faults (g.R.Source.told c.ask.new.client.source).faults
    (back_is c.args.client.now.talk.msize c.args.fid c.args.text.now) c.ask.ensures.later_sink
    c.ask.ensures.later_source c.in-Ok.ensures.ok))

pub returns-clause-err : goal.returns-clause-err
returns-clause-err g c = halted_asking (λ (reply : Reply) (rest : List ℕ). says (error_line c.args.text.now) rest)
    (back_is c.args.client.now.talk.msize c.args.fid c.args.text.now) c.in-Err.ensures.err

use Rattle.std.proofs.Common.{List, [], ℕ, refl, sym, subst}
use Rattle.std.specs.Prelude.{Result, IfOk, IfErr}
use Rattle.am_do.specs.declared.stop.Stop.{Stop}
use Rattle.am_do.specs.Talks.{Reply, says, read_answer, read_told}
use Rattle.am_do.specs.Went.{ends, Went, Halted}
use Rattle.am_do.proofs.Parts.{said_ok, said_err, went_saying, halted_saying, halted_asking, read_is}
use Rattle.am_do.proofs.opening.read.Goals as goal

pub returns-in-Ok-clause-ok : goal.returns-in-Ok-clause-ok
returns-in-Ok-clause-ok g c =
    subst (λ (r : Result (List ℕ) Stop). IfOk r (λ (line : List ℕ).
    Went (read_told c.args.client.now.talk.msize c.args.fid c.args.offset c.args.count) c.args.client.now.talk
    c.ask.new.client.talk (g.W.Sink.told c.args.client.now.sink).bytes (g.W.Sink.told c.ask.new.client.sink).bytes
    (g.R.Source.told c.args.client.now.source).bytes (g.R.Source.told c.ask.new.client.source).bytes line tt))
    (sym c.said.ensures)
    (said_ok c.read_answer.result (read_answer c.in-Ok.reply) (λ (line : List ℕ).
    Went (read_told c.args.client.now.talk.msize c.args.fid c.args.offset c.args.count) c.args.client.now.talk
    c.ask.new.client.talk (g.W.Sink.told c.args.client.now.sink).bytes (g.W.Sink.told c.ask.new.client.sink).bytes
    (g.R.Source.told c.args.client.now.source).bytes (g.R.Source.told c.ask.new.client.source).bytes line tt)
    c.read_answer.ensures (went_saying (λ (reply : Reply) (rest : List ℕ). says (read_answer reply) rest)
    (read_answer c.in-Ok.reply) (read_is c.args.client.now.talk.msize c.args.fid c.args.offset c.args.count)
    (λ bytes. refl) c.in-Ok.ensures.ok))

pub returns-in-Ok-clause-err : goal.returns-in-Ok-clause-err
returns-in-Ok-clause-err g c =
    subst (λ (r : Result (List ℕ) Stop). IfErr r (λ (end : Stop). Halted end
    (read_told c.args.client.now.talk.msize c.args.fid c.args.offset c.args.count) c.args.client.now.talk
    (ends (g.W.Sink.told c.args.client.now.sink) (g.W.Sink.told c.ask.new.client.sink)
    (g.R.Source.told c.args.client.now.source) (g.R.Source.told c.ask.new.client.source)) [])) (sym c.said.ensures)
    (said_err c.read_answer.result (λ (end : Stop). Halted end (read_told c.args.client.now.talk.msize c.args.fid
    c.args.offset c.args.count) c.args.client.now.talk (ends (g.W.Sink.told c.args.client.now.sink)
    (g.W.Sink.told c.ask.new.client.sink) (g.R.Source.told c.args.client.now.source)
    (g.R.Source.told c.ask.new.client.source)) []) (halted_saying
    (λ (reply : Reply) (rest : List ℕ). says (read_answer reply) rest) (g.W.Sink.told c.args.client.now.sink).faults
    (g.W.Sink.told c.ask.new.client.sink).faults (g.R.Source.told c.args.client.now.source).faults
    (g.R.Source.told c.ask.new.client.source).faults (read_is c.args.client.now.talk.msize c.args.fid c.args.offset
    c.args.count) c.ask.ensures.later_sink c.ask.ensures.later_source c.in-Ok.ensures.ok))

pub returns-in-Err-clause-err : goal.returns-in-Err-clause-err
returns-in-Err-clause-err g c = halted_asking (λ (reply : Reply) (rest : List ℕ). says (read_answer reply) rest)
    (read_is c.args.client.now.talk.msize c.args.fid c.args.offset c.args.count) c.in-Err.ensures.err

use Rattle.std.proofs.Common.{◌≡◌, List, [], ℕ, refl, sym, subst, rules}
use Rattle.std.specs.Prelude.{Result, IfOk, IfErr}
use Rattle.am_do.specs.declared.stop.Stop.{Stop}
use Rattle.am_do.specs.Talks.{Reply, asks, ok_line, after_open, back_told, open_told}
use Rattle.am_do.specs.Went.{ends, Went, Halted}
use Rattle.ninep_types.specs.declared.message.TBody.TheVariants as t
use Rattle.am_do.proofs.Begun.{ifok_of, iferr_of}
use Rattle.am_do.proofs.Parts.{said_ok, said_err, went_saying, halted_saying, halted_asking, went_going, halted_going}
use Rattle.am_do.proofs.Parts.{open_is}
use Rattle.am_do.proofs.opening.open_walked.Goals as goal

pub returns-clause-err : goal.returns-clause-err
returns-clause-err g c = halted_asking (after_open c.args.client.now.talk.msize c.args.fid)
    (open_is c.args.client.now.talk.msize c.args.fid c.args.mode) c.in-Err.ensures.err

pub returns-in-Ok-Ok-clause-ok : goal.returns-in-Ok-Ok-clause-ok
returns-in-Ok-Ok-clause-ok g c =
    subst (λ (r : Result (List ℕ) Stop). IfOk r (λ (line : List ℕ).
    Went (open_told c.args.client.now.talk.msize c.args.fid c.args.mode) c.args.client.now.talk
    c.ask.new.client.talk (g.W.Sink.told c.args.client.now.sink).bytes (g.W.Sink.told c.ask.new.client.sink).bytes
    (g.R.Source.told c.args.client.now.source).bytes (g.R.Source.told c.ask.new.client.source).bytes line tt))
    (sym c.said.ensures)
    (said_ok c.ok_line.result ok_line (λ (line : List ℕ). Went (open_told c.args.client.now.talk.msize c.args.fid
    c.args.mode) c.args.client.now.talk c.ask.new.client.talk (g.W.Sink.told c.args.client.now.sink).bytes
    (g.W.Sink.told c.ask.new.client.sink).bytes (g.R.Source.told c.args.client.now.source).bytes
    (g.R.Source.told c.ask.new.client.source).bytes line tt) c.ok_line.ensures
    (went_saying (after_open c.args.client.now.talk.msize c.args.fid) ok_line
    (open_is c.args.client.now.talk.msize c.args.fid c.args.mode) (λ bytes. refl)
    (subst (λ (x : Reply). Went (asks c.args.client.now.talk.msize (t.Open c.args.fid c.args.mode))
    c.args.client.now.talk c.ask.new.client.talk (g.W.Sink.told c.args.client.now.sink).bytes
    (g.W.Sink.told c.ask.new.client.sink).bytes (g.R.Source.told c.args.client.now.source).bytes
    (g.R.Source.told c.ask.new.client.source).bytes [] x) c.in-Ok-Ok.field-0-is c.in-Ok-Ok.ensures.ok)))

pub returns-in-Ok-Ok-clause-err : goal.returns-in-Ok-Ok-clause-err
returns-in-Ok-Ok-clause-err g c =
    subst (λ (r : Result (List ℕ) Stop). IfErr r (λ (end : Stop). Halted end
    (open_told c.args.client.now.talk.msize c.args.fid c.args.mode) c.args.client.now.talk
    (ends (g.W.Sink.told c.args.client.now.sink) (g.W.Sink.told c.ask.new.client.sink)
    (g.R.Source.told c.args.client.now.source) (g.R.Source.told c.ask.new.client.source)) [])) (sym c.said.ensures)
    (said_err c.ok_line.result (λ (end : Stop). Halted end (open_told c.args.client.now.talk.msize c.args.fid
    c.args.mode) c.args.client.now.talk (ends (g.W.Sink.told c.args.client.now.sink)
    (g.W.Sink.told c.ask.new.client.sink) (g.R.Source.told c.args.client.now.source)
    (g.R.Source.told c.ask.new.client.source)) []) (halted_saying
    (after_open c.args.client.now.talk.msize c.args.fid) (g.W.Sink.told c.args.client.now.sink).faults
    (g.W.Sink.told c.ask.new.client.sink).faults (g.R.Source.told c.args.client.now.source).faults
    (g.R.Source.told c.ask.new.client.source).faults (open_is c.args.client.now.talk.msize c.args.fid c.args.mode)
    c.ask.ensures.later_sink c.ask.ensures.later_source (subst
    (λ (x : Reply). Went (asks c.args.client.now.talk.msize (t.Open c.args.fid c.args.mode)) c.args.client.now.talk
    c.ask.new.client.talk (g.W.Sink.told c.args.client.now.sink).bytes (g.W.Sink.told c.ask.new.client.sink).bytes
    (g.R.Source.told c.args.client.now.source).bytes (g.R.Source.told c.ask.new.client.source).bytes [] x)
    c.in-Ok-Ok.field-0-is c.in-Ok-Ok.ensures.ok)))

pub returns-in-Ok-Err-clause-ok : goal.returns-in-Ok-Err-clause-ok
returns-in-Ok-Err-clause-ok g c =
    let size : c.ask.new.client.talk.msize ≡ c.args.client.now.talk.msize = c.in-Ok-Err.ensures.same refl in
    let text : c.as_slice.result.now ≡ c.in-Ok-Err.text = search rules in
    ifok_of c.give_back.result (λ line v. went_going (after_open c.args.client.now.talk.msize c.args.fid)
    (open_is c.args.client.now.talk.msize c.args.fid c.args.mode)
    (λ bytes. (λ i. back_told (size i) c.args.fid (text i) bytes))
    (subst (λ (x : Reply). Went (asks c.args.client.now.talk.msize (t.Open c.args.fid c.args.mode))
    c.args.client.now.talk c.ask.new.client.talk (g.W.Sink.told c.args.client.now.sink).bytes
    (g.W.Sink.told c.ask.new.client.sink).bytes (g.R.Source.told c.args.client.now.source).bytes
    (g.R.Source.told c.ask.new.client.source).bytes [] x) c.in-Ok-Err.field-0-is c.in-Ok-Err.ensures.ok) v)
    c.give_back.ensures.ok

pub returns-in-Ok-Err-clause-err : goal.returns-in-Ok-Err-clause-err
returns-in-Ok-Err-clause-err g c =
    let size : c.ask.new.client.talk.msize ≡ c.args.client.now.talk.msize = c.in-Ok-Err.ensures.same refl in
    let text : c.as_slice.result.now ≡ c.in-Ok-Err.text = search rules in
    iferr_of c.give_back.result (λ e h. halted_going (after_open c.args.client.now.talk.msize c.args.fid)
    (g.W.Sink.told c.args.client.now.sink).faults (g.R.Source.told c.args.client.now.source).faults
    (open_is c.args.client.now.talk.msize c.args.fid c.args.mode)
    (λ bytes. (λ i. back_told (size i) c.args.fid (text i) bytes))
    (subst (λ (x : Reply). Went (asks c.args.client.now.talk.msize (t.Open c.args.fid c.args.mode))
    c.args.client.now.talk c.ask.new.client.talk (g.W.Sink.told c.args.client.now.sink).bytes
    (g.W.Sink.told c.ask.new.client.sink).bytes (g.R.Source.told c.args.client.now.source).bytes
    (g.R.Source.told c.ask.new.client.source).bytes [] x) c.in-Ok-Err.field-0-is c.in-Ok-Err.ensures.ok) refl refl
    c.ask.ensures.later_sink c.ask.ensures.later_source h) c.give_back.ensures.err

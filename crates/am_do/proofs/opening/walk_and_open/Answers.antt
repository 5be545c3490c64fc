use Rattle.std.proofs.Common.{◌≡◌, List, [], ℕ, ◌<◌, ◌≤◌, length, refl, sym, subst, ap, ◌∙◌, arith, rules}
use Rattle.std.specs.Prelude.{Result, IfOk, IfErr, codes}
use Rattle.am_do.specs.declared.stop.Stop.{Stop}
use Rattle.am_do.specs.Talks.{Reply, walked, says, asks, error_line, after_walk, open_told, walk_told}
use Rattle.am_do.specs.Went.{ends, Went, Halted}
use Rattle.ninep_types.specs.declared.message.TBody.TheVariants as t
use Rattle.am_do.proofs.Begun.{ifok_of, iferr_of}
use Rattle.am_do.proofs.Parts.{said_ok, said_err, went_saying, halted_saying, halted_asking, went_going, halted_going}
use Rattle.am_do.proofs.Parts.{walk_may, walk_stops, walk_goes, walk_is}
use Rattle.am_do.proofs.opening.walk_and_open.Goals as goal

pub ask-requires-clause-may : goal.ask-requires-clause-may
ask-requires-clause-may g c = walk_may c.args.fid c.args.names c.requires.names

pub returns-then-walked-wanted-clause-ok : goal.returns-then-walked-wanted-clause-ok
returns-then-walked-wanted-clause-ok g c =
    let stops : walked c.in-Ok-Ok.reply < length c.args.names = omega (
      arith,
      c.if-walked-wanted.true,
      c.walked.ensures,
      c.len-wanted.ensures,
    ) in
    subst (λ (r : Result (List ℕ) Stop). IfOk r (λ (line : List ℕ).
    Went (walk_told c.args.client.now.talk.msize c.args.fid c.args.names c.args.mode) c.args.client.now.talk
    c.ask.new.client.talk (g.W.Sink.told c.args.client.now.sink).bytes (g.W.Sink.told c.ask.new.client.sink).bytes
    (g.R.Source.told c.args.client.now.source).bytes (g.R.Source.told c.ask.new.client.source).bytes line tt))
    (sym c.said.ensures)
    (said_ok c.error_line.result (error_line (codes "walk stopped"))
    (λ (line : List ℕ). Went (walk_told c.args.client.now.talk.msize c.args.fid c.args.names c.args.mode)
    c.args.client.now.talk c.ask.new.client.talk (g.W.Sink.told c.args.client.now.sink).bytes
    (g.W.Sink.told c.ask.new.client.sink).bytes (g.R.Source.told c.args.client.now.source).bytes
    (g.R.Source.told c.ask.new.client.source).bytes line tt) c.error_line.ensures
    (went_saying (after_walk c.args.client.now.talk.msize c.args.fid c.args.names c.args.mode)
    (error_line (codes "walk stopped")) (walk_is c.args.client.now.talk.msize c.args.fid c.args.names c.args.mode)
    (λ bytes. walk_stops c.args.client.now.talk.msize c.args.fid c.args.names c.args.mode c.in-Ok-Ok.reply bytes
    stops) (subst (λ (x : Reply). Went (asks c.args.client.now.talk.msize (t.Walk 0 c.args.fid c.args.names))
    c.args.client.now.talk c.ask.new.client.talk (g.W.Sink.told c.args.client.now.sink).bytes
    (g.W.Sink.told c.ask.new.client.sink).bytes (g.R.Source.told c.args.client.now.source).bytes
    (g.R.Source.told c.ask.new.client.source).bytes [] x) c.in-Ok-Ok.field-0-is c.in-Ok-Ok.ensures.ok)))

pub returns-then-walked-wanted-clause-err : goal.returns-then-walked-wanted-clause-err
returns-then-walked-wanted-clause-err g c =
    subst (λ (r : Result (List ℕ) Stop). IfErr r (λ (end : Stop). Halted end
    (walk_told c.args.client.now.talk.msize c.args.fid c.args.names c.args.mode) c.args.client.now.talk
    (ends (g.W.Sink.told c.args.client.now.sink) (g.W.Sink.told c.ask.new.client.sink)
    (g.R.Source.told c.args.client.now.source) (g.R.Source.told c.ask.new.client.source)) [])) (sym c.said.ensures)
    (said_err c.error_line.result (λ (end : Stop). Halted end (walk_told c.args.client.now.talk.msize c.args.fid
    c.args.names c.args.mode) c.args.client.now.talk (ends (g.W.Sink.told c.args.client.now.sink)
    (g.W.Sink.told c.ask.new.client.sink) (g.R.Source.told c.args.client.now.source)
    (g.R.Source.told c.ask.new.client.source)) []) (halted_saying
    (after_walk c.args.client.now.talk.msize c.args.fid c.args.names c.args.mode)
    (g.W.Sink.told c.args.client.now.sink).faults (g.W.Sink.told c.ask.new.client.sink).faults
    (g.R.Source.told c.args.client.now.source).faults (g.R.Source.told c.ask.new.client.source).faults
    (walk_is c.args.client.now.talk.msize c.args.fid c.args.names c.args.mode) c.ask.ensures.later_sink
    c.ask.ensures.later_source (subst (λ (x : Reply). Went (asks c.args.client.now.talk.msize
    (t.Walk 0 c.args.fid c.args.names)) c.args.client.now.talk c.ask.new.client.talk
    (g.W.Sink.told c.args.client.now.sink).bytes (g.W.Sink.told c.ask.new.client.sink).bytes
    (g.R.Source.told c.args.client.now.source).bytes (g.R.Source.told c.ask.new.client.source).bytes [] x)
    c.in-Ok-Ok.field-0-is c.in-Ok-Ok.ensures.ok)))

pub returns-else-walked-wanted-clause-ok : goal.returns-else-walked-wanted-clause-ok
returns-else-walked-wanted-clause-ok g c =
    let goes : length c.args.names ≤ walked c.in-Ok-Ok.reply = omega (
      arith,
      c.if-walked-wanted.false,
      c.walked.ensures,
      c.len-wanted.ensures,
    ) in
    let size : c.ask.new.client.talk.msize ≡ c.args.client.now.talk.msize = c.in-Ok-Ok.ensures.same refl in
    ifok_of c.open_walked.result (λ line v. went_going (after_walk c.args.client.now.talk.msize c.args.fid c.args.names
    c.args.mode) (walk_is c.args.client.now.talk.msize c.args.fid c.args.names c.args.mode)
    (λ bytes. ap (λ (x : ℕ). open_told x c.args.fid c.args.mode bytes) size
    ∙ walk_goes c.args.client.now.talk.msize c.args.fid c.args.names c.args.mode c.in-Ok-Ok.reply bytes goes)
    (subst (λ (x : Reply). Went (asks c.args.client.now.talk.msize (t.Walk 0 c.args.fid c.args.names))
    c.args.client.now.talk c.ask.new.client.talk (g.W.Sink.told c.args.client.now.sink).bytes
    (g.W.Sink.told c.ask.new.client.sink).bytes (g.R.Source.told c.args.client.now.source).bytes
    (g.R.Source.told c.ask.new.client.source).bytes [] x) c.in-Ok-Ok.field-0-is c.in-Ok-Ok.ensures.ok) v)
    c.open_walked.ensures.ok

pub returns-else-walked-wanted-clause-err : goal.returns-else-walked-wanted-clause-err
returns-else-walked-wanted-clause-err g c =
    let goes : length c.args.names ≤ walked c.in-Ok-Ok.reply = omega (
      arith,
      c.if-walked-wanted.false,
      c.walked.ensures,
      c.len-wanted.ensures,
    ) in
    let size : c.ask.new.client.talk.msize ≡ c.args.client.now.talk.msize = c.in-Ok-Ok.ensures.same refl in
    iferr_of c.open_walked.result (λ e h. halted_going (after_walk c.args.client.now.talk.msize c.args.fid c.args.names
    c.args.mode) (g.W.Sink.told c.args.client.now.sink).faults (g.R.Source.told c.args.client.now.source).faults
    (walk_is c.args.client.now.talk.msize c.args.fid c.args.names c.args.mode)
    (λ bytes. ap (λ (x : ℕ). open_told x c.args.fid c.args.mode bytes) size
    ∙ walk_goes c.args.client.now.talk.msize c.args.fid c.args.names c.args.mode c.in-Ok-Ok.reply bytes goes)
    (subst (λ (x : Reply). Went (asks c.args.client.now.talk.msize (t.Walk 0 c.args.fid c.args.names))
    c.args.client.now.talk c.ask.new.client.talk (g.W.Sink.told c.args.client.now.sink).bytes
    (g.W.Sink.told c.ask.new.client.sink).bytes (g.R.Source.told c.args.client.now.source).bytes
    (g.R.Source.told c.ask.new.client.source).bytes [] x) c.in-Ok-Ok.field-0-is c.in-Ok-Ok.ensures.ok) refl refl
    c.ask.ensures.later_sink c.ask.ensures.later_source h) c.open_walked.ensures.err

pub returns-in-Ok-Err-clause-ok : goal.returns-in-Ok-Err-clause-ok
returns-in-Ok-Err-clause-ok g c =
    let text : c.as_slice.result.now ≡ c.in-Ok-Err.text = search rules in
    subst (λ (r : Result (List ℕ) Stop). IfOk r (λ (line : List ℕ).
    Went (walk_told c.args.client.now.talk.msize c.args.fid c.args.names c.args.mode) c.args.client.now.talk
    c.ask.new.client.talk (g.W.Sink.told c.args.client.now.sink).bytes (g.W.Sink.told c.ask.new.client.sink).bytes
    (g.R.Source.told c.args.client.now.source).bytes (g.R.Source.told c.ask.new.client.source).bytes line tt))
    (sym c.said-in-Ok-Err.ensures)
    (said_ok c.error_line-in-Ok-Err.result (error_line c.as_slice.result.now)
    (λ (line : List ℕ). Went (walk_told c.args.client.now.talk.msize c.args.fid c.args.names c.args.mode)
    c.args.client.now.talk c.ask.new.client.talk (g.W.Sink.told c.args.client.now.sink).bytes
    (g.W.Sink.told c.ask.new.client.sink).bytes (g.R.Source.told c.args.client.now.source).bytes
    (g.R.Source.told c.ask.new.client.source).bytes line tt) c.error_line-in-Ok-Err.ensures
    (went_saying (after_walk c.args.client.now.talk.msize c.args.fid c.args.names c.args.mode)
    (error_line c.as_slice.result.now) (walk_is c.args.client.now.talk.msize c.args.fid c.args.names c.args.mode)
    (λ bytes. ap (λ (x : List ℕ). says (error_line x) bytes) text)
    (subst (λ (x : Reply). Went (asks c.args.client.now.talk.msize (t.Walk 0 c.args.fid c.args.names))
    c.args.client.now.talk c.ask.new.client.talk (g.W.Sink.told c.args.client.now.sink).bytes
    (g.W.Sink.told c.ask.new.client.sink).bytes (g.R.Source.told c.args.client.now.source).bytes
    (g.R.Source.told c.ask.new.client.source).bytes [] x) c.in-Ok-Err.field-0-is c.in-Ok-Err.ensures.ok)))

pub returns-in-Ok-Err-clause-err : goal.returns-in-Ok-Err-clause-err
returns-in-Ok-Err-clause-err g c =
    subst (λ (r : Result (List ℕ) Stop). IfErr r (λ (end : Stop). Halted end
    (walk_told c.args.client.now.talk.msize c.args.fid c.args.names c.args.mode) c.args.client.now.talk
    (ends (g.W.Sink.told c.args.client.now.sink) (g.W.Sink.told c.ask.new.client.sink)
    (g.R.Source.told c.args.client.now.source) (g.R.Source.told c.ask.new.client.source)) []))
    (sym c.said-in-Ok-Err.ensures)
    (said_err c.error_line-in-Ok-Err.result (λ (end : Stop). Halted end
    (walk_told c.args.client.now.talk.msize c.args.fid c.args.names c.args.mode) c.args.client.now.talk
    (ends (g.W.Sink.told c.args.client.now.sink) (g.W.Sink.told c.ask.new.client.sink)
    (g.R.Source.told c.args.client.now.source) (g.R.Source.told c.ask.new.client.source)) [])
    (halted_saying (after_walk c.args.client.now.talk.msize c.args.fid c.args.names c.args.mode)
    (g.W.Sink.told c.args.client.now.sink).faults (g.W.Sink.told c.ask.new.client.sink).faults
    (g.R.Source.told c.args.client.now.source).faults (g.R.Source.told c.ask.new.client.source).faults
    (walk_is c.args.client.now.talk.msize c.args.fid c.args.names c.args.mode) c.ask.ensures.later_sink
    c.ask.ensures.later_source (subst (λ (x : Reply). Went (asks c.args.client.now.talk.msize
    (t.Walk 0 c.args.fid c.args.names)) c.args.client.now.talk c.ask.new.client.talk
    (g.W.Sink.told c.args.client.now.sink).bytes (g.W.Sink.told c.ask.new.client.sink).bytes
    (g.R.Source.told c.args.client.now.source).bytes (g.R.Source.told c.ask.new.client.source).bytes [] x)
    c.in-Ok-Err.field-0-is c.in-Ok-Err.ensures.ok)))

pub returns-in-Err-clause-err : goal.returns-in-Err-clause-err
returns-in-Err-clause-err g c = halted_asking (after_walk c.args.client.now.talk.msize c.args.fid c.args.names
    c.args.mode) (walk_is c.args.client.now.talk.msize c.args.fid c.args.names c.args.mode) c.in-Err.ensures.err

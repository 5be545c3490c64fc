use Rattle.std.proofs.Common.{◌≡◌, List, [], ℕ, sym, ◌∙◌, subst, rules}
use Rattle.std.specs.Prelude.{Err, codes}
use Rattle.am_base.specs.Seen.{Seen, seen}
use Rattle.ninep_client.specs.declared.fault.CallFault.{CallFault}
use Rattle.ninep_client.specs.declared.fault.CallFault.TheVariants as fault
use Rattle.ninep_client.specs.Alone.{AloneFails}
use Rattle.am_do.specs.Talks.{Reply, asks}
use Rattle.am_do.specs.Went.{Went}
use Rattle.am_do.proofs.Asked.{went_reply, went_error, went_large, halted_large, halted_fault, was_remote, was_large}
use Rattle.am_do.proofs.asking.ask.Goals as goal

pub returns-in-Ok-clause-ok : goal.returns-in-Ok-clause-ok
returns-in-Ok-clause-ok g c =
    let o : Seen = seen (g.W.Sink.told c.args.client.now.sink) (g.W.Sink.told c.call.new.self.sink) in
    let i : Seen = seen (g.R.Source.told c.args.client.now.source) (g.R.Source.told c.call.new.self.source) in
    went_reply c.args.client.now.talk c.call.new.self.talk c.args.body o i c.in-Ok.reply
    c.answers_are_exact.ensures.front c.requires.ready (c.in-Ok.ensures.alone c.requires.ready.none)

pub returns-in-Text-clause-ok : goal.returns-in-Text-clause-ok
returns-in-Text-clause-ok g c =
    let o : Seen = seen (g.W.Sink.told c.args.client.now.sink) (g.W.Sink.told c.call.new.self.sink) in
    let i : Seen = seen (g.R.Source.told c.args.client.now.source) (g.R.Source.told c.call.new.self.source) in
    let was : c.in-Err.fault ≡ fault.Remote c.in-Text.text = was_remote c.in-Err.fault c.in-Text.text
    (sym c.sorted_as.ensures ∙ c.in-Text.is) in
    went_error c.args.client.now.talk c.call.new.self.talk c.args.body o i c.in-Text.text
    c.answers_are_exact.ensures.front c.requires.ready
    (subst (λ (e : CallFault). AloneFails e c.args.client.now.talk c.args.body o i c.call.new.self.talk) was
    (c.in-Err.ensures.alone_err c.requires.ready.none))

pub returns-in-Ok-copied-clause-ok : goal.returns-in-Ok-copied-clause-ok
returns-in-Ok-copied-clause-ok g c =
    let o : Seen = seen (g.W.Sink.told c.args.client.now.sink) (g.W.Sink.told c.call.new.self.sink) in
    let i : Seen = seen (g.R.Source.told c.args.client.now.source) (g.R.Source.told c.call.new.self.source) in
    let was : c.in-Err.fault ≡ fault.Large = was_large c.in-Err.fault (sym c.sorted_as.ensures ∙ c.in-TooLarge.is) in
    let text : c.in-Ok-copied.text ≡ codes "message too large" = search rules in
    subst (λ (x : List ℕ). Went {A = Reply} (asks c.args.client.now.talk.msize c.args.body) c.args.client.now.talk
    c.call.new.self.talk o.before.bytes o.now.bytes i.before.bytes i.now.bytes [] (Err x)) (sym text)
    (went_large c.args.client.now.talk c.call.new.self.talk c.args.body o i c.requires.ready
    (subst (λ (e : CallFault). AloneFails e c.args.client.now.talk c.args.body o i c.call.new.self.talk) was
    (c.in-Err.ensures.alone_err c.requires.ready.none)))

pub returns-in-Err-copied-clause-err : goal.returns-in-Err-copied-clause-err
returns-in-Err-copied-clause-err g c =
    let o : Seen = seen (g.W.Sink.told c.args.client.now.sink) (g.W.Sink.told c.call.new.self.sink) in
    let i : Seen = seen (g.R.Source.told c.args.client.now.source) (g.R.Source.told c.call.new.self.source) in
    let was : c.in-Err.fault ≡ fault.Large = was_large c.in-Err.fault (sym c.sorted_as.ensures ∙ c.in-TooLarge.is) in
    halted_large c.args.client.now.talk c.call.new.self.talk c.args.body o i
    (subst (λ (e : CallFault). AloneFails e c.args.client.now.talk c.args.body o i c.call.new.self.talk) was
    (c.in-Err.ensures.alone_err c.requires.ready.none))

pub returns-in-Stops-clause-err : goal.returns-in-Stops-clause-err
returns-in-Stops-clause-err g c =
    let o : Seen = seen (g.W.Sink.told c.args.client.now.sink) (g.W.Sink.told c.call.new.self.sink) in
    let i : Seen = seen (g.R.Source.told c.args.client.now.source) (g.R.Source.told c.call.new.self.source) in
    halted_fault c.in-Err.fault c.in-Stops.fault c.args.client.now.talk c.call.new.self.talk c.args.body o i
    c.requires.ready (sym c.sorted_as.ensures ∙ c.in-Stops.is) (c.in-Err.ensures.alone_err c.requires.ready.none)

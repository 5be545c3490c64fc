use Rattle.ninep_client.proofs.Alone.{alone_oks, alone_kinds, alone_errs}
use Rattle.ninep_client.proofs.client.Client.call.Goals as goal

pub returns-clause-alone : goal.returns-clause-alone
returns-clause-alone g c = λ none. alone_oks c.args.self.now.talk c.send_and_wait.new.self.talk c.args.body _ _
    c.send_and_wait.result c.send_and_wait.ensures.no_error c.send_and_wait.ensures.ok none

pub returns-clause-alone_err : goal.returns-clause-alone_err
returns-clause-alone_err g c = λ none. alone_errs c.args.self.now.talk c.send_and_wait.new.self.talk c.args.body _ _
    c.send_and_wait.result c.send_and_wait.ensures.err none

pub returns-clause-kind : goal.returns-clause-kind
returns-clause-kind g c = λ none. alone_kinds c.args.self.now.talk c.send_and_wait.new.self.talk c.args.body _ _
    c.send_and_wait.result c.send_and_wait.ensures.no_error c.send_and_wait.ensures.ok none

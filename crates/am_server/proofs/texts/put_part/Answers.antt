use Rattle.std.proofs.Common.{ℕ, List, [], subst, ◌∙◌}
use Rattle.std.specs.Prelude.{OnOk, IfErr}
use Rattle.am_base.specs.Seen.{seen}
use Rattle.am_base.specs.Written.{IsWhole}
use Rattle.am_base.proofs.Puts.{whole_none}
use Rattle.am_server.specs.Putting.{StopsIn}
use Rattle.am_server.proofs.texts.put_part.Goals as goal

pub returns-in-Ok-clause-ok : goal.returns-in-Ok-clause-ok
returns-in-Ok-clause-ok g c =
    subst (λ (l : List ℕ). OnOk c.put.result (IsWhole (seen (g.O.Sink.told c.args.output.now)
    (g.O.Sink.told c.put.new.output)) l)) (c.as_slice.ensures ∙ c.in-Ok.ensures) c.put.ensures.ok

pub returns-in-Ok-clause-err : goal.returns-in-Ok-clause-err
returns-in-Ok-clause-err g c =
    subst (λ (l : List ℕ). IfErr c.put.result (λ e. StopsIn e (seen (g.O.Sink.told c.args.output.now)
    (g.O.Sink.told c.put.new.output)) l (λ _. []))) (c.as_slice.ensures ∙ c.in-Ok.ensures) c.put.ensures.err

pub returns-in-Err-clause-err : goal.returns-in-Err-clause-err
returns-in-Err-clause-err g c = (0, whole_none (g.O.Sink.told c.args.output.now))

use Rattle.std.proofs.Common.{◌≡◌, sym, ap, ◌∙◌, subst, rules}
use Rattle.am_base.specs.Seen.{Seen, seen}
use Rattle.ninep_cut.specs.declared.cut.Cut.TheVariants.{More}
use Rattle.ninep_cut.specs.Cuts.{cut_of}
use Rattle.ninep_client.specs.declared.fault.CallFault.{CallFault}
use Rattle.ninep_client.specs.Hearing.{StopsAt}
use Rattle.ninep_client.proofs.Streams.{stops_end}
use Rattle.ninep_client.proofs.hearing.fill.Goals as goal

pub returns-then-branch-eq0-clause-err : goal.returns-then-branch-eq0-clause-err
returns-then-branch-eq0-clause-err g c = λ asked.
    let none = c.in_ok-read.ensures.ok.none c.if-branch-eq0.true in
    let more : cut_of c.read.new.self ≡ More = ap cut_of none ∙ search rules in
    let i : Seen = seen (g.R.Source.told c.args.source.now) (g.R.Source.told c.read.new.source) in
    subst (λ (e : CallFault). StopsAt e asked c.read.new.self i) (sym c.end_at.ensures)
    (stops_end asked c.read.new.self i more (c.in_ok-read.ensures.ok.end c.if-branch-eq0.true))

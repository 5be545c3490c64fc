use Rattle.std.proofs.Common.{refl, ap}
use Rattle.am_base.specs.Seen.{host_seen}
use Rattle.am_slots.specs.Slots.{outside}
use Rattle.am_words.specs.Words.{tree_name}
use Rattle.acmefs.proofs.Does.{asked_at, done, idle, none_asked, none_linked}
use Rattle.acmefs.proofs.Kept.{of_none}
use Rattle.acmefs.proofs.doing.do_main.Goals as goal

pub returns-in_default-clause-does : goal.returns-in_default-clause-does
returns-in_default-clause-does g c = record {
  does = idle {G = g.row.H-G.Denot} {L = g.row.H-G-L.Denot} {S = g.row.H-G-L-R.Denot} {K = g.row.H-G-L-W.Denot}
      _ (outside g.H.G.Gate.told g.H.G.L.Link.told g.H.G.L.R.Source.told g.H.G.L.W.Sink.told)
      (tree_name c.args.tree) _ _ _ refl c.idle.ensures.status c.idle.ensures.unserved;
  dialled = none_asked {G = g.row.H-G.Denot} {L = g.row.H-G-L.Denot} {S = g.row.H-G-L-R.Denot} {K = g.row.H-G-L-W.Denot}
      (outside g.H.G.Gate.told g.H.G.L.Link.told g.H.G.L.R.Source.told g.H.G.L.W.Sink.told) c.args.path.now
      (host_seen (g.H.Host.told c.args.host.now) (g.H.Host.told c.args.host.now)) _ c.idle.ensures.unserved refl;
  empty = c.idle.ensures.empty;
  journal = c.idle.ensures.journal;
}

pub returns-clause-does : goal.returns-clause-does
returns-clause-does g c = record {
  does = done {G = g.row.H-G.Denot} {L = g.row.H-G-L.Denot} {S = g.row.H-G-L-R.Denot} {K = g.row.H-G-L-W.Denot}
      _ (outside g.H.G.Gate.told g.H.G.L.Link.told g.H.G.L.R.Source.told g.H.G.L.W.Sink.told)
      c.name_of.result.now (tree_name c.args.tree) _ _ _ c.do_path-doing.result c.entry_of.result c.do_status.ensures
      c.listed.ensures c.entry_of.ensures c.name_of.ensures.name c.do_path-doing.ensures.says;
  dialled = asked_at {G = g.row.H-G.Denot} {L = g.row.H-G-L.Denot} {S = g.row.H-G-L-R.Denot} {K = g.row.H-G-L-W.Denot}
      (outside g.H.G.Gate.told g.H.G.L.Link.told g.H.G.L.R.Source.told g.H.G.L.W.Sink.told) c.args.path.now
      (host_seen (g.H.Host.told c.args.host.now) (g.H.Host.told c.do_path-doing.new.host)) c.do_path-doing.result
      c.entry_of.result c.listed.result c.entry_of.ensures c.listed.ensures
      (λ none. let un = none_linked {G = g.row.H-G.Denot} {L = g.row.H-G-L.Denot} {S = g.row.H-G-L-R.Denot}
      {K = g.row.H-G-L-W.Denot} c.do_path-doing.result c.entry_of.result c.listed.result c.entry_of.ensures
      c.listed.ensures none in
      ap (λ (h : g.row.H.Denot). g.H.Host.told h) (c.do_path-doing.ensures.untouched un.0 un.1))
      c.do_path-doing.ensures.given;
  empty = c.empty_journal.ensures;
  journal = of_none c.journals_are_lawful.ensures _ c.empty_journal.ensures;
}

pub returns-clause-unasked : goal.returns-clause-unasked
returns-clause-unasked g c = λ none.
    let un = none_linked {G = g.row.H-G.Denot} {L = g.row.H-G-L.Denot} {S = g.row.H-G-L-R.Denot}
    {K = g.row.H-G-L-W.Denot} c.do_path-doing.result c.entry_of.result c.listed.result c.entry_of.ensures
    c.listed.ensures none in
    c.do_path-doing.ensures.untouched un.0 un.1

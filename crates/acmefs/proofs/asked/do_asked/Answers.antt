use Rattle.std.proofs.Common.{ℕ, List, ◌∙◌, refl, sym, subst}
use Rattle.am_base.specs.Seen.{given}
use Rattle.am_slots.specs.Slots.{outside}
use Rattle.am_words.specs.declared.asked.Asked.TheVariants as asked
use Rattle.am_words.specs.Words.{AreKnown}
use Rattle.acmefs.proofs.Drills.{of_drill}
use Rattle.acmefs.proofs.Idle.{of_want}
use Rattle.acmefs.proofs.PackEnds as packs
use Rattle.acmefs.proofs.Promised.{of_replay}
use Rattle.acmefs.proofs.Promises.{at_path, did_path, of_asked, of_other}
use Rattle.acmefs.proofs.TraceEnds as traces
use Rattle.acmefs.proofs.Words.{asked_at, none_at}
use Rattle.acmefs.proofs.asked.do_asked.Goals as goal

pub returns-in-Ok-Some-Replay-clause-words : goal.returns-in-Ok-Some-Replay-clause-words
returns-in-Ok-Some-Replay-clause-words g c =
    of_asked {G = g.row.H-G.Denot} {L = g.row.H-G-L.Denot} {S = g.row.H-G-L-R.Denot} {K = g.row.H-G-L-W.Denot}
    c.args.words.now asked.Replay _
    (asked_at c.args.words.now _ c.in-Ok-Some-Replay.field-0 c.in-Ok-Some-Replay.field-0-0 asked.Replay
    c.in-Ok-Some-Replay.field-0-is c.in-Ok-Some-Replay.field-0-0-is c.as_slice.ensures
    c.in-Ok-Some-Replay.ensures.asked)
    (let e = c.replayed.ensures in of_replay {G = g.row.H-G.Denot} {L = g.row.H-G-L.Denot} {S = g.row.H-G-L-R.Denot}
    {K = g.row.H-G-L-W.Denot} _ e.says.0 e.says.1 e.says.2 e.unserved e.journal)

pub returns-in-Ok-Some-Trace-clause-words : goal.returns-in-Ok-Some-Trace-clause-words
returns-in-Ok-Some-Trace-clause-words g c =
    of_asked {G = g.row.H-G.Denot} {L = g.row.H-G-L.Denot} {S = g.row.H-G-L-R.Denot} {K = g.row.H-G-L-W.Denot}
    c.args.words.now asked.Trace _
    (asked_at c.args.words.now _ c.in-Ok-Some-Trace.field-0 c.in-Ok-Some-Trace.field-0-0 asked.Trace
    c.in-Ok-Some-Trace.field-0-is c.in-Ok-Some-Trace.field-0-0-is c.as_slice.ensures
    c.in-Ok-Some-Trace.ensures.asked)
    (let e = c.traced.ensures in record {
      traces = traces.ends e.says.0 _ _ _ _ _ e.says.1 e.says.2;
      unserved =
          e.unserved;
      journal = e.journal;
    })

pub returns-in-Ok-Some-Pack-clause-words : goal.returns-in-Ok-Some-Pack-clause-words
returns-in-Ok-Some-Pack-clause-words g c =
    of_asked {G = g.row.H-G.Denot} {L = g.row.H-G-L.Denot} {S = g.row.H-G-L-R.Denot} {K = g.row.H-G-L-W.Denot}
    c.args.words.now asked.Pack _
    (asked_at c.args.words.now _ c.in-Ok-Some-Pack.field-0 c.in-Ok-Some-Pack.field-0-0 asked.Pack
    c.in-Ok-Some-Pack.field-0-is c.in-Ok-Some-Pack.field-0-0-is c.as_slice.ensures c.in-Ok-Some-Pack.ensures.asked)
    (let e = c.packed.ensures in record {
      packs = packs.ends e.says.0 _ _ _ _ _ e.says.1 e.says.2 e.spelled;
      unserved =
          e.unserved;
    })

pub returns-in-Ok-Some-Drill-clause-words : goal.returns-in-Ok-Some-Drill-clause-words
returns-in-Ok-Some-Drill-clause-words g c =
    of_asked {G = g.row.H-G.Denot} {L = g.row.H-G-L.Denot} {S = g.row.H-G-L-R.Denot} {K = g.row.H-G-L-W.Denot}
    c.args.words.now (asked.Drill c.in-Ok-Some-Drill.rounds) _
    (asked_at c.args.words.now _ c.in-Ok-Some-Drill.field-0 c.in-Ok-Some-Drill.field-0-0
    (asked.Drill c.in-Ok-Some-Drill.rounds) c.in-Ok-Some-Drill.field-0-is c.in-Ok-Some-Drill.field-0-0-is
    c.as_slice.ensures c.in-Ok-Some-Drill.ensures.asked)
    (let e = c.drilled.ensures in of_drill {G = g.row.H-G.Denot} {L = g.row.H-G-L.Denot} {S = g.row.H-G-L-R.Denot}
    {K = g.row.H-G-L-W.Denot} c.in-Ok-Some-Drill.rounds _ e.drills refl e.unserved e.journal)

pub returns-in-Ok-Some-Serve-clause-words : goal.returns-in-Ok-Some-Serve-clause-words
returns-in-Ok-Some-Serve-clause-words g c =
    of_asked {G = g.row.H-G.Denot} {L = g.row.H-G-L.Denot} {S = g.row.H-G-L-R.Denot} {K = g.row.H-G-L-W.Denot}
    c.args.words.now (asked.Serve c.in-Ok-Some-Serve.path c.in-Ok-Some-Serve.clients) _
    (asked_at c.args.words.now _ c.in-Ok-Some-Serve.field-0 c.in-Ok-Some-Serve.field-0-0
    (asked.Serve c.in-Ok-Some-Serve.path c.in-Ok-Some-Serve.clients) c.in-Ok-Some-Serve.field-0-is
    c.in-Ok-Some-Serve.field-0-0-is c.as_slice.ensures c.in-Ok-Some-Serve.ensures.asked)
    (at_path {G = g.row.H-G.Denot} {L = g.row.H-G-L.Denot} {S = g.row.H-G-L-R.Denot} {K = g.row.H-G-L-W.Denot} _ _
    c.in-Ok-Some-Serve.clients _ c.deref.ensures c.serve_main.ensures.serves)

pub returns-in-Ok-Some-Do-clause-words : goal.returns-in-Ok-Some-Do-clause-words
returns-in-Ok-Some-Do-clause-words g c =
    of_asked {G = g.row.H-G.Denot} {L = g.row.H-G-L.Denot} {S = g.row.H-G-L-R.Denot} {K = g.row.H-G-L-W.Denot}
    c.args.words.now (asked.Do c.in-Ok-Some-Do.path c.in-Ok-Some-Do.tree) _
    (asked_at c.args.words.now _ c.in-Ok-Some-Do.field-0 c.in-Ok-Some-Do.field-0-0
    (asked.Do c.in-Ok-Some-Do.path c.in-Ok-Some-Do.tree) c.in-Ok-Some-Do.field-0-is c.in-Ok-Some-Do.field-0-0-is
    c.as_slice.ensures c.in-Ok-Some-Do.ensures.asked)
    (did_path {G = g.row.H-G.Denot} {L = g.row.H-G-L.Denot} {S = g.row.H-G-L-R.Denot} {K = g.row.H-G-L-W.Denot} _ _
    c.in-Ok-Some-Do.tree _ c.deref-in-Ok-Some-Do.ensures c.do_main.ensures.does)

pub returns-in-Ok-Some-Serve-clause-untouched : goal.returns-in-Ok-Some-Serve-clause-untouched
returns-in-Ok-Some-Serve-clause-untouched g c = λ n d. absurd (let a = sym n
    ∙ (asked_at c.args.words.now _ c.in-Ok-Some-Serve.field-0 c.in-Ok-Some-Serve.field-0-0
    (asked.Serve c.in-Ok-Some-Serve.path c.in-Ok-Some-Serve.clients) c.in-Ok-Some-Serve.field-0-is
    c.in-Ok-Some-Serve.field-0-0-is c.as_slice.ensures c.in-Ok-Some-Serve.ensures.asked).0 in cc)

pub returns-in-Ok-Some-Do-clause-untouched : goal.returns-in-Ok-Some-Do-clause-untouched
returns-in-Ok-Some-Do-clause-untouched g c = λ n d. absurd (let a = sym d
    ∙ (asked_at c.args.words.now _ c.in-Ok-Some-Do.field-0 c.in-Ok-Some-Do.field-0-0
    (asked.Do c.in-Ok-Some-Do.path c.in-Ok-Some-Do.tree) c.in-Ok-Some-Do.field-0-is c.in-Ok-Some-Do.field-0-0-is
    c.as_slice.ensures c.in-Ok-Some-Do.ensures.asked).0 in cc)

pub returns-in-Ok-None-clause-words : goal.returns-in-Ok-None-clause-words
returns-in-Ok-None-clause-words g c =
    of_other {G = g.row.H-G.Denot} {L = g.row.H-G-L.Denot} {S = g.row.H-G-L-R.Denot} {K = g.row.H-G-L-W.Denot}
    c.args.words.now _ (none_at c.args.words.now _ c.in-Ok-None.field-0 c.in-Ok-None.field-0-is c.as_slice.ensures
    c.in-Ok-None.ensures.other)
    (record {
      usage = c.idle.ensures.status;
      unread = refl;
      idle = record { silent = refl; empty = c.idle.ensures.empty };
      unserved = c.idle.ensures.unserved;
      journal = c.idle.ensures.journal;
    })

pub returns-in-Err-clause-words : goal.returns-in-Err-clause-words
returns-in-Err-clause-words g c =
    let e = c.idle-in-Err.ensures in
    of_want {G = g.row.H-G.Denot} {L = g.row.H-G-L.Denot} {S = g.row.H-G-L-R.Denot} {K = g.row.H-G-L-W.Denot}
    c.args.words.now _ (outside g.H.G.Gate.told g.H.G.L.Link.told g.H.G.L.R.Source.told g.H.G.L.W.Sink.told)
    (given (g.I.Source.told c.args.input.now) (g.I.Source.told c.args.input.now) (g.H.Host.told c.args.host.now)
    (g.H.Host.told c.args.host.now))
    _ _ _ (subst (λ (x : List (List ℕ)). AreKnown x) c.as_slice.ensures c.in-Err.ensures.known) e.status refl refl
    e.empty e.unserved e.journal

-- What words ask for is done, so all is promised that is promised of words.
use Rattle.std.proofs.Common.{◌≡◌, ℕ, List, ◌∙◌, refl, sym, ap, subst, arith}
use Rattle.std.specs.Prelude.{string_bytes}
use Rattle.am_base.specs.Outside.{HasRisen}
use Rattle.am_base.specs.Seen.{Seen}
use Rattle.am_journal.specs.declared.event.Format.{Format}
use Rattle.am_words.specs.declared.asked.Asked.{Asked}
use Rattle.am_words.specs.declared.asked.Asked.TheVariants as asked
use Rattle.am_words.specs.declared.asked.Tree.{Tree}
use Rattle.am_words.specs.Words.{tree_name, AreKnown, AsksFor}
use Rattle.am_replay.specs.Ends.{IsIdle}
use Rattle.acmefs.specs.Statuses.{number_of}
use Rattle.acmefs.specs.Top.{OfAsked, OfDo, OfDrill, OfOther, OfServe, OfWords, Run}
use Rattle.acmefs.specs.declared.status.Status.{Status}
use Rattle.acmefs.specs.declared.status.Status.TheVariants as exit
use Rattle.acmefs.proofs.Does as does
use Rattle.acmefs.proofs.Drills.{drill_read_fault, drill_usage, drill_write_fault}
use Rattle.acmefs.proofs.PackEnds as packs
use Rattle.acmefs.proofs.Promised as replays
use Rattle.acmefs.proofs.ServeEnds.{never_usage, serve_read_fault, serve_write_fault}
use Rattle.acmefs.proofs.TraceEnds as traces
use Rattle.acmefs.proofs.Words.{asked_format, asked_once, done_once, idle_as, known, number, one_number, rounds_once}

module _ {G L S K : Type 0} where
  -- ---- one thing is asked for

  served_at : (p q : List ℕ) (a b : ℕ) (r : Run G L S K) → (p ≡ q) × (a ≡ b) → OfServe p a r → OfServe q b r
  served_at p q a b r e of = subst (λ (x : List ℕ). OfServe x b r) e.0 (subst (λ (n : ℕ). OfServe p n r) e.1 of)

  -- serving one path under two names
  pub at_path : (p q : List ℕ) (clients : ℕ) (r : Run G L S K) → p ≡ q → OfServe p clients r → OfServe q clients r
  at_path p q clients r e of = subst (λ (x : List ℕ). OfServe x clients r) e of

  did_at : (p q : List ℕ) (s t : Tree) (r : Run G L S K) → (p ≡ q) × (s ≡ t) → OfDo p s r → OfDo q t r
  did_at p q s t r e of = subst (λ (x : List ℕ). OfDo x t r) e.0 (subst (λ (k : Tree). OfDo p k r) e.1 of)

  -- doing lines at one path under two names
  pub did_path : (p q : List ℕ) (tree : Tree) (r : Run G L S K) → p ≡ q → OfDo p tree r → OfDo q tree r
  did_path p q tree r e of = subst (λ (x : List ℕ). OfDo x tree r) e of

  by_number : (words : List (List ℕ)) (a b : Asked) (r : Run G L S K) → number a ≡ number b → AsksFor words a
      → AsksFor words b → OfAsked a r → OfAsked b r
  by_number words asked.Replay asked.Replay r e x y of = of
  by_number words asked.Trace asked.Trace r e x y of = of
  by_number words asked.Pack asked.Pack r e x y of = of
  by_number words (asked.Drill m) (asked.Drill n) r e x y of = subst (λ (k : ℕ). OfDrill k r)
      (rounds_once words m n x y) of
  by_number words (asked.Serve p m) (asked.Serve q n) r e x y of =
      served_at (string_bytes p) (string_bytes q) m n r (asked_once words (string_bytes p) (string_bytes q) m n x.0 y.0)
      of
  by_number words (asked.Do p s) (asked.Do q t) r e x y of = did_at (string_bytes p) (string_bytes q) s t r
      (done_once words (string_bytes p) (string_bytes q) s t x.0 y.0) of
  by_number words a b r e x y of = absurd (omega (arith, e))

  -- ---- what the statuses say

  no_usage : (a : Asked) (r : Run G L S K) → OfAsked a r → r.status ≡ exit.Usage → ⊥
  no_usage asked.Replay r of h = replays.usage of.headline.0 _ _ _ _ _ of.headline.1 of.headline.2 h
  no_usage asked.Trace r of h = let s = of.traces.says in traces.usage s.0 _ _ _ _ _ s.1 s.2 h
  no_usage asked.Pack r of h = let s = of.packs.says in packs.usage s.0 _ s.1 h
  no_usage (asked.Drill rounds) r of h = drill_usage r.status rounds r.output r.journal of.drills h
  no_usage (asked.Serve path clients) r of h = never_usage of.serves.0 (sym of.serves.1 ∙ h)
  no_usage (asked.Do path tree) r of h = does.usage r.status r.objects (tree_name tree) r.given r.output r.served
      of.does h

  read_fault : (a : Asked) (r : Run G L S K) → OfAsked a r → r.status ≡ exit.ReadFault
      → IsIdle (asked_format a) r.output r.journal × HasRisen r.given.input.before.faults r.given.input.now.faults
  read_fault asked.Replay r of h =
      let s = of.headline in (
        replays.idle_fault s.0 r.status r.given.input.before r.given.input.now r.output r.journal s.1 s.2 h,
        replays.read_fault s.0 r.status r.given.input.before r.given.input.now r.output r.journal s.1 s.2 h,
      )
  read_fault asked.Trace r of h = let s = of.traces.says in traces.read_fault s.0 r.status r.given.input.before
      r.given.input.now r.output r.journal s.1 s.2 h
  read_fault asked.Pack r of h = let s = of.packs.says in packs.read_fault s.0 r.status r.given.input.before
      r.given.input.now r.output r.journal s.1 s.2 h
  read_fault (asked.Drill rounds) r of h = absurd (drill_read_fault r.status rounds r.output r.journal of.drills h)
  read_fault (asked.Serve path clients) r of h =
      let f = serve_read_fault r.objects (string_bytes path) clients r.given r.output r.journal r.served r.status
      of.serves.0 of.serves.1 of.serves.2 h in
      (record { silent = f.1; empty = f.2 }, f.0)
  read_fault (asked.Do path tree) r of h =
      let f = does.read_fault r.status r.objects (tree_name tree) r.given r.output r.served of.does h in
      (record { silent = f.1; empty = of.empty }, f.0)

  write_cause : (a : Asked) (r : Run G L S K) → OfAsked a r → r.status ≡ exit.WriteFault →
      HasRisen r.output.before.faults r.output.now.faults
  write_cause asked.Replay r of h = let s = of.headline in replays.write_cause s.0 r.status r.given.input.before
      r.given.input.now r.output r.journal s.1 s.2 h
  write_cause asked.Trace r of h = let s = of.traces.says in traces.write_cause s.0 r.status r.given.input.before
      r.given.input.now r.output r.journal s.1 s.2 h
  write_cause asked.Pack r of h = let s = of.packs.says in packs.write_cause s.0 r.status r.given.input.before
      r.given.input.now r.output r.journal s.1 s.2 h
  write_cause (asked.Drill rounds) r of h = drill_write_fault r.status rounds r.output r.journal of.drills h
  write_cause (asked.Serve path clients) r of h =
      serve_write_fault r.objects (string_bytes path) clients r.given r.output r.journal r.served r.status of.serves.0
      of.serves.1 of.serves.2 h
  write_cause (asked.Do path tree) r of h = does.write_cause r.status r.objects (tree_name tree) r.given r.output
      r.served of.does h

  -- ---- all of it

  pub of_asked : (words : List (List ℕ)) (a : Asked) (r : Run G L S K) → AsksFor words a → OfAsked a r → OfWords words r
  of_asked words a r x of = record {
    asked = λ b y. by_number words a b r (one_number words a b x y) x y of;
    other = λ unknown. absurd (unknown (known words a x));
    usage = λ h. absurd (no_usage a r of h);
    read_fault = λ h. (read_fault a r of h).1;
    idle_fault = λ h. subst (λ (f : Format). IsIdle f r.output r.journal) (sym (idle_as words a x))
        (read_fault a r of h).0;
    write_cause = write_cause a r of;
  }

  -- nothing was asked for
  pub of_other : (words : List (List ℕ)) (r : Run G L S K) → ¬ AreKnown words → OfOther r → OfWords words r
  of_other words r unknown of = record {
    asked = λ b y. absurd (unknown (known words b y));
    other = λ u. of;
    usage = λ h. unknown;
    read_fault = λ h. absurd (omega (arith, ap number_of of.usage, ap number_of h));
    idle_fault = λ h. absurd (omega (arith, ap number_of of.usage, ap number_of h));
    write_cause = λ h. absurd (omega (arith, ap number_of of.usage, ap number_of h));
  }

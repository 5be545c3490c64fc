-- What an output got of a talk.
use Rattle.std.specs.Prelude.{◌≡◌, ℕ, ◌≤◌, Bool, true, false, List, Option, Some, None}
use Rattle.am_base.specs.Seen.{Seen}
use Rattle.am_base.specs.Written.{IsWhole, IsCut}
use Rattle.ninep_client.specs.Asking.{Talk}
use Rattle.am_do.specs.declared.stop.Stop.{Stop}
use Rattle.am_do.specs.Talks.{Told}
use Rattle.am_do.specs.Went.{Ends, Went, Halted}

-- the text was put, or a front of it where the count of faults has risen
abbrev pub Holds : Bool → Seen → List ℕ → Type 0
Holds false o text = IsWhole o text
Holds true o text = IsCut o text

-- a text was put, whole or cut, and the count of faults never fell
pub record Wrote (failed : Bool) (o : Seen) (text : List ℕ) : Type 0 where
  pub holds : Holds failed o text
  pub later : o.before.faults ≤ o.now.faults

-- nothing was put, and no fault was counted
pub record IsSame (o : Seen) : Type 0 where
  pub held : o.now.bytes ≡ o.before.bytes
  pub faults : o.now.faults ≡ o.before.faults

-- what putting a text does, by whether the output failed before and fails now
abbrev pub Put : Bool → Bool → Seen → List ℕ → Type 0
Put true true o text = IsSame o
Put true false o text = ⊥
Put false failed o text = Wrote failed o text

-- ---- what came of a talk

-- All was done, and the text was put, whole or cut where the output has failed.
pub record WentWell (talk : List ℕ → Told (Unit {0})) (t : Talk) (e : Ends) (failed : Bool) (o : Seen) : Type 0 where
  pub after : Talk
  pub text : List ℕ
  pub went : Went talk t after e.sink.before.bytes e.sink.now.bytes e.source.before.bytes e.source.now.bytes text tt
  pub wrote : Wrote failed o text

-- The talk has stopped, and what was said before was put, whole or cut where the output has failed.
pub record HasHalted (end : Stop) (talk : List ℕ → Told (Unit {0})) (t : Talk) (e : Ends) (failed : Bool)
    (o : Seen) : Type 0 where
  pub text : List ℕ
  pub halted : Halted end talk t e text
  pub wrote : Wrote failed o text

-- what came of it, by whether it has stopped
abbrev pub Comes : Option Stop → (List ℕ → Told (Unit {0})) → Talk → Ends → Bool → Seen → Type 0
Comes None talk t e failed o = WentWell talk t e failed o
Comes (Some end) talk t e failed o = HasHalted end talk t e failed o

-- Where nothing outside fails and all is answered, all is done, or memory runs out.
use Rattle.std.proofs.Common.{◌≡◌, ◌⊎◌, inl, inr, ℕ, ◌<◌, ◌≤◌, Bool, true, false, List, [], ◌++◌, length, Option, Some}
use Rattle.std.proofs.Common.{None, refl, sym, ap, ◌∙◌, subst, arith, append_assoc}
use Rattle.std.specs.Prelude.{Result, Ok, Err, IfSome}
use Rattle.std.proofs.lemmas.List.{append-nil}
use Rattle.am_base.specs.Outside.{AreTold, HasRisen, then_told}
use Rattle.am_base.specs.Stops.{input_limit}
use Rattle.am_base.specs.Seen.{Given, Seen}
use Rattle.am_text.specs.Lines.{lines_of}
use Rattle.ninep_client.specs.Asking.{begun}
use Rattle.ninep_client.specs.Hearing.{Came}
use Rattle.ninep_client.specs.declared.fault.CallFault.{CallFault}
use Rattle.ninep_client.specs.declared.fault.CallFault.TheVariants as fault
use Rattle.am_do.specs.declared.line.DoLine.{DoLine}
use Rattle.am_do.specs.Lines.{lines_from}
use Rattle.am_do.specs.declared.running.DoEnd.{DoEnd}
use Rattle.am_do.specs.declared.running.DoEnd.TheVariants as end
use Rattle.am_do.specs.declared.running.Doing.{Doing}
use Rattle.am_do.specs.declared.stop.Stop.{Stop}
use Rattle.am_do.specs.declared.stop.Stop.TheVariants as stop
use Rattle.am_do.specs.Complete.{Answers, IsValue, NothingFails}
use Rattle.am_do.specs.Ends.{Peer, IsUnhalved, Lined, Says, Talked, end_at}
use Rattle.am_do.specs.Talks.{Got, Value, Lacks, Faulty, Refused, Told, told_of}
use Rattle.am_do.specs.Went.{Ends, ends, Halted}
use Rattle.am_do.specs.Written.{Comes}
use Rattle.am_do.proofs.Steady.{StaysAt, Stays, stays_told}

-- done, or without memory
abbrev IsGood : DoEnd → Type 0
IsGood e = (e ≡ end.Done) ⊎ (e ≡ end.NoMemory)

never_risen : (n : ℕ) → n ≡ 0 → HasRisen 0 n → ⊥
never_risen n z (inl lt) = absurd (omega (arith, lt, z))
never_risen n z (inr le) = absurd (omega (arith, le, z))

-- ---- a talk whose bytes are told

-- what the source begins with is what came, and what is left
record Split (bytes came : List ℕ) (left : Option (List ℕ)) : Type 0 where
  rest : List ℕ
  still : left ≡ Some rest
  joined : bytes ≡ came ++ rest

split_at : (first left : Option (List ℕ)) (bytes came : List ℕ) → first ≡ Some bytes → first ≡ then_told came left
    → Split bytes came left
split_at first None bytes came told is = absurd (let same : Some bytes ≡ None = sym told ∙ is in cc)
split_at first (Some rest) bytes came told is = let same : Some bytes ≡ Some (came ++ rest) = sym told ∙ is in
    record { rest = rest; still = refl; joined = cc }

split : (first left : Option (List ℕ)) (bytes all : List ℕ) → first ≡ Some bytes → Came first left [] all
    → Split bytes all left
split first left bytes all told came = split_at first left bytes all told
    (came.told ∙ ap (λ (x : List ℕ). then_told x left) came.joined)

none_left : (left : Option (List ℕ)) (rest : List ℕ) → left ≡ Some rest → AreTold left [] → rest ≡ []
none_left left rest is told = subst (λ (o : Option (List ℕ)). AreTold o []) is told

no_value : {A : Type 0} (g h : Got A) → g ≡ h → (IsValue h → ⊥) → IsValue g → ⊥
no_value {A} g h is never value = never (subst (λ (x : Got A). IsValue x) is value)

module _ {A : Type 0} where
  refused_stays : (one two : Told A) (more : List ℕ) → StaysAt one two more one.got
      → one.got ≡ Refused → two.got ≡ Refused
  refused_stays one two more s e = subst (λ (g : Got A). StaysAt one two more g) e s

  faulty_stays : (one two : Told A) (more : List ℕ) (f : CallFault) → StaysAt one two more one.got → one.got ≡ Faulty f
      → two.got ≡ Faulty f
  faulty_stays one two more f s e = subst (λ (g : Got A). StaysAt one two more g) e s

module _ (talk : List ℕ → Told (Unit {0})) (stays : Stays talk) (bytes : List ℕ) (all : IsValue (talk bytes).got) where
  -- a talk that was answered was not refused
  not_refused : (used more : List ℕ) → bytes ≡ used ++ more → (talk used).got ≡ Refused → ⊥
  not_refused used more is e =
      no_value (talk bytes).got Refused (ap (λ (x : List ℕ). (talk x).got) is
      ∙ refused_stays (talk used) (talk (used ++ more)) more (stays used more) e) (λ v. v) all

  not_faulty : (f : CallFault) (used more : List ℕ) → bytes ≡ used ++ more → (talk used).got ≡ Faulty f → ⊥
  not_faulty f used more is e =
      no_value (talk bytes).got (Faulty f) (ap (λ (x : List ℕ). (talk x).got) is
      ∙ faulty_stays (talk used) (talk (used ++ more)) more f (stays used more) e) (λ v. v) all

  not_lacking : (used : List ℕ) → bytes ≡ used → (talk used).got ≡ Lacks → ⊥
  not_lacking used is e = no_value (talk bytes).got Lacks (ap (λ (x : List ℕ). (talk x).got) is ∙ e) (λ v. v) all

  module _ (e : Ends) (told : e.source.before.bytes ≡ Some bytes) (calm_source : HasRisen e.source.before.faults
      e.source.now.faults → ⊥) (calm_sink : HasRisen e.sink.before.faults e.sink.now.faults → ⊥) where
    parts : (f : Stop) (text : List ℕ) (h : Halted f talk begun e text)
        → Split bytes (h.used ++ h.unread) e.source.now.bytes
    parts f text h = split e.source.before.bytes e.source.now.bytes bytes (h.used ++ h.unread) told h.came

    -- nothing is left where a told source has nothing left
    whole : (f : Stop) (text : List ℕ) (h : Halted f talk begun e text) → AreTold e.source.now.bytes []
        → bytes ≡ h.used ++ h.unread
    whole f text h none =
        let p = parts f text h in
        p.joined ∙ ap (λ (x : List ℕ). (h.used ++ h.unread) ++ x) (none_left e.source.now.bytes p.rest p.still none)
        ∙ append-nil (h.used ++ h.unread)

    memory_alone : (f : Stop) (failed : Bool) (text : List ℕ) → Halted f talk begun e text
        → IsGood (end_at (Some f) failed)
    memory_alone stop.Refused failed text h =
        let p = parts stop.Refused text h in
        absurd (not_refused h.used (h.unread ++ p.rest) (p.joined ∙ append_assoc h.used h.unread p.rest)
        h.cause.refused)
    memory_alone (stop.Fault fault.Ended) failed text h =
        let is : bytes ≡ h.used = whole (stop.Fault fault.Ended) text h h.cause.2
        ∙ ap (λ (x : List ℕ). h.used ++ x) h.cause.1 ∙ append-nil h.used in
        absurd (not_lacking h.used is h.cause.0.lacks)
    memory_alone (stop.Fault fault.Torn) failed text h =
        absurd (not_lacking (h.used ++ h.unread) (whole (stop.Fault fault.Torn) text h h.cause.4) h.cause.1.lacks)
    memory_alone (stop.Fault fault.ReadFault) failed text h = absurd (calm_source h.cause.2)
    memory_alone (stop.Fault fault.WriteFault) failed text h = absurd (calm_sink h.cause.risen)
    memory_alone (stop.Fault (fault.Wire f)) failed text h =
        let p = parts (stop.Fault (fault.Wire f)) text h in absurd
        (not_faulty (fault.Wire f) (h.used ++ h.unread) p.rest p.joined h.cause.faulty)
    memory_alone (stop.Fault (fault.Unasked n)) failed text h =
        let p = parts (stop.Fault (fault.Unasked n)) text h in absurd
        (not_faulty (fault.Unasked n) (h.used ++ h.unread) p.rest p.joined h.cause.faulty)
    memory_alone (stop.Fault (fault.Kind kind)) failed text h =
        let p = parts (stop.Fault (fault.Kind kind)) text h in absurd
        (not_faulty (fault.Kind kind) (h.used ++ h.unread) p.rest p.joined h.cause.faulty)
    memory_alone (stop.Fault fault.NoMemory) failed text h = inr refl
    memory_alone (stop.Fault fault.Closed) failed text h = absurd h.cause
    memory_alone (stop.Fault fault.Tags) failed text h = absurd h.cause
    memory_alone (stop.Fault fault.Large) failed text h = absurd h.cause
    memory_alone (stop.Fault (fault.Remote t)) failed text h = absurd h.cause

    good_at : (why : Option Stop) (failed : Bool) (o : Seen) → (HasRisen o.before.faults o.now.faults → ⊥)
        → Comes why talk begun e failed o → IsGood (end_at why failed)
    good_at None false o calm comes = inl refl
    good_at None true o calm comes = absurd (calm comes.wrote.holds.risen)
    good_at (Some f) failed o calm comes = memory_alone f failed comes.text comes.halted

-- ---- from the input to the end

module _ {L S K : Type 0} (m : Peer L S K) (tree bytes : List ℕ) (i : Given) (o : Seen) (d : Doing L S K) where
  there : {A : Type 0} (P : A → Type 0) (x : Option A) (a : A) → x ≡ Some a → IfSome x P → P a
  there {A} P x a is h = subst (λ (y : Option A). IfSome y P) is h

  talked_well : (lines : List DoLine) → (HasRisen o.before.faults o.now.faults → ⊥)
      → IfSome d.link (λ link. Answers m tree lines link) → IfSome d.reader (λ reader. (m.source reader).faults ≡ 0)
      → IfSome d.writer (λ writer. (m.sink writer).faults ≡ 0) → Talked m tree lines o d → IsGood d.end
  talked_well lines calm link reader writer x =
      let answers = there (λ (l : L). Answers m tree lines l) d.link x.link (ap (λ (y : Doing L S K). y.link) x.objects)
      link in
      let reads = there (λ (s : S). (m.source s).faults ≡ 0) d.reader x.reader
      (ap (λ (y : Doing L S K). y.reader) x.objects) reader in
      let writes = there (λ (k : K). (m.sink k).faults ≡ 0) d.writer x.writer
      (ap (λ (y : Doing L S K). y.writer) x.objects) writer in
      subst IsGood (sym x.ended)
      (good_at (told_of tree lines) (stays_told tree lines) answers.bytes answers.all
      (ends x.sink (m.sink x.writer) x.source (m.source x.reader)) (x.begins ∙ answers.told)
      (subst (λ (n : ℕ). HasRisen n (m.source x.reader).faults → ⊥) (sym x.fresh.0)
      (never_risen (m.source x.reader).faults reads))
      (subst (λ (n : ℕ). HasRisen n (m.sink x.writer).faults → ⊥) (sym x.fresh.1)
      (never_risen (m.sink x.writer).faults writes))
      d.stop x.failed o calm x.comes)

  unhalved_never : (lines : List DoLine) → IfSome d.link (λ link. Answers m tree lines link) → IsUnhalved m o d → ⊥
  unhalved_never lines link u =
      let answers = there (λ (l : L). Answers m tree lines l) d.link u.link (ap (λ (y : Doing L S K). y.link) u.none)
      link in
      never_risen (m.link u.link).faults answers.calm u.risen

  lined_well : (read : Result (List DoLine) ℕ) → NothingFails m tree bytes i o d → read ≡ lines_from 1 (lines_of bytes)
      → Lined m tree read i o d → IsGood d.end
  lined_well (Err k) n is l = absurd (let e = is ∙ n.read in cc)
  lined_well (Ok lines) n is (inl x) = absurd (n.host x.1)
  lined_well (Ok lines) n is (inr (inl u)) =
      let same : lines ≡ n.lines = (let e = is ∙ n.read in cc) in
      absurd (unhalved_never lines (subst (λ (l : List DoLine). IfSome d.link (λ link. Answers m tree l link))
      (sym same) n.link) u)
  lined_well (Ok lines) n is (inr (inr x)) =
      let same : lines ≡ n.lines = (let e = is ∙ n.read in cc) in
      talked_well lines n.output (subst (λ (l : List DoLine). IfSome d.link (λ link. Answers m tree l link)) (sym same)
      n.link) n.reader n.writer x

  too_long_never : i.input.before.bytes ≡ Some bytes → length bytes ≤ input_limit
      → IfSome i.input.before.bytes (λ bytes. input_limit < length bytes) → ⊥
  too_long_never told fits long =
      let above = there (λ (b : List ℕ). input_limit < length b) i.input.before.bytes bytes told long in
      absurd (omega (arith, fits, above))

  pub says_complete : i.input.before.bytes ≡ Some bytes → Says m tree i o d → NothingFails m tree bytes i o d
      → (d.end ≡ end.Done) ⊎ (d.end ≡ end.NoMemory)
  says_complete told (inl s) n = absurd (n.input s.1)
  says_complete told (inr (inl (long, r))) n = absurd (too_long_never told n.fits long)
  says_complete told (inr (inr (inl w))) n = inr (ap (λ (y : Doing L S K). y.end) w.nothing)
  says_complete told (inr (inr (inr (lines, are, fits, lined)))) n =
      let same : bytes ≡ lines = subst (λ (x : Option (List ℕ)). AreTold x lines) told are in
      lined_well (lines_from 1 (lines_of lines)) n (ap (λ (x : List ℕ). lines_from 1 (lines_of x)) (sym same)) lined

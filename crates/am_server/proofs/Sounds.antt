-- A connection with sound objects ends with the end of its source, or for want of memory.
use Rattle.std.proofs.Common.{◌≡◌, ◌≢◌, ◌⊎◌, inl, inr, ℕ, ◌+◌, ◌<◌, ◌≤◌, Bool, true, false, ◌&&◌, List, [], ◌∷◌, ◌++◌}
use Rattle.std.proofs.Common.{◌∙◌, length, Option, Some, None, Result, Ok, Err, refl, sym, ap, subst, ⊎_elim, arith}
use Rattle.std.proofs.Common.{append_assoc}
use Rattle.std.specs.Prelude.{nat_le}
use Rattle.std.specs.List.{AllByRecursion, concat}
use Rattle.std.proofs.lemmas.Bool.{le-leb, leb-true}
use Rattle.std.proofs.lemmas.List.{append-nil, length-append}
use Rattle.std.proofs.lemmas.List.Concat.{flat_map-append}
use Rattle.std.proofs.lemmas.List.Folds.{concat-append}
use Rattle.am_base.specs.Outside.{AreTold, then_told}
use Rattle.ninep_types.specs.declared.fault.WireFault.{WireFault}
use Rattle.ninep_types.specs.declared.fault.WireFault.TheVariants as wire
use Rattle.ninep_types.specs.declared.message.TMsg.{TMsg}
use Rattle.ninep_types.specs.Reading.{t_of}
use Rattle.ninep_cut.specs.declared.cut.Cut.{Cut}
use Rattle.ninep_cut.specs.declared.cut.Cut.TheVariants.{More, Broken}
use Rattle.ninep_cut.specs.Cuts.{Stream, cut_of, cut_stream}
use Rattle.ninep_cut.specs.Laws.{JoinsPieces, CutsNoMore}
use Rattle.ninep_cut.proofs.Fronts.{at_few}
use Rattle.am_journal.specs.declared.ending.Bad.{Bad}
use Rattle.am_journal.specs.declared.ending.Bad.TheVariants as bad
use Rattle.am_journal.specs.declared.ending.Ending.{Ending}
use Rattle.am_journal.specs.declared.ending.Ending.TheVariants as ending
use Rattle.am_journal.specs.declared.event.Event.{Event}
use Rattle.am_journal.specs.declared.event.Journal.{Journal}
use Rattle.am_journal.specs.declared.event.Event.TheVariants.{Msg}
use Rattle.am_journal.specs.declared.event.Why.{Why}
use Rattle.am_journal.specs.declared.event.Why.TheVariants as why
use Rattle.am_journal.specs.Journal.{journal_in}
use Rattle.am_counter.specs.Played.{IsPrefix, has_hang}
use Rattle.acme_core.specs.Asks.{answers_in}
use Rattle.acme_core.specs.Run.{enabled_in, output_in}
use Rattle.am_serve.specs.Budget.{message_limit, byte_limit, fits_budget}
use Rattle.am_serve.specs.Reading.{messages_of, spelled_on, StandAmong, IsNext, NextFaulty, NextRefused, SizeFaulty}
use Rattle.am_serve.specs.Reading.{IsBroken, EndsAfter}
use Rattle.am_serve.specs.declared.writing.WriteEnd.{WriteEnd}
use Rattle.am_serve.specs.declared.writing.WriteEnd.TheVariants as write
use Rattle.am_slots.specs.Connection.{endings_of}
use Rattle.am_slots.specs.Serving.{EachIs, EachTells}
use Rattle.am_slots.specs.Slots.{Outside, IsCause, IsOf, IsServed, Tells}
use Rattle.am_slots.specs.declared.slot.Objects.{Objects}
use Rattle.am_slots.specs.declared.slot.Slot.{Slot}
use Rattle.am_slots.specs.declared.slot.Slot.TheVariants as slot
use Rattle.am_server.proofs.Replying.{cause_told, risen_above}
use Rattle.am_server.specs.Served.{served_from, served_of}
use Rattle.am_server.specs.Sound.{IsInTurn, MayCome, IsSound, EndsWell}

-- ---- messages

nothing_in : (xs : List (List ℕ)) → length xs ≡ 0 → xs ≡ []
nothing_in [] e = refl
nothing_in (x ∷ xs) e = absurd (omega (arith, e))

stand_among_more : (xs ys : List (List ℕ)) → StandAmong xs ys → length xs ≤ length ys
stand_among_more [] ys h = omega arith
stand_among_more (x ∷ xs) ys h = omega (arith, ap length h.2, length-append h.0 (x ∷ h.1), stand_among_more xs h.1 h.3)

-- a beginning of the journal that has all messages of a connection has no others of it
just_these : (journal before : List Event) (conn : ℕ) → IsPrefix before journal
    → StandAmong (messages_of journal conn) (messages_of before conn)
    → messages_of before conn ≡ messages_of journal conn
just_these journal before conn p stand =
    let front = messages_of before conn in
    let rest = messages_of p.0 conn in
    let whole : messages_of journal conn ≡ front ++ rest = ap (λ (l : List Event). messages_of l conn) (sym p.1)
    ∙ flat_map-append (spelled_on conn) before p.0 in
    let none : rest ≡ [] = nothing_in rest (omega (
      arith,
      ap length whole,
      length-append front rest,
      stand_among_more (messages_of journal conn) front stand,
    )) in
    sym (whole ∙ ap (λ (l : List (List ℕ)). front ++ l) none ∙ append-nil front)

both : (a b : Bool) → a ≡ true → b ≡ true → (a && b) ≡ true
both true true p q = refl
both true false p q = absurd cc
both false b p q = absurd cc

both_pass : (a b : Bool) → (a && b) ≡ true → (a ≡ true) × (b ≡ true)
both_pass true b e = (refl, e)
both_pass false b e = absurd cc

-- some of the messages are within the limits where all are
front_fits : (xs ys : List (List ℕ)) → fits_budget (xs ++ ys) ≡ true → fits_budget xs ≡ true
front_fits xs ys fits =
    let h = both_pass (nat_le (length (xs ++ ys)) message_limit) (nat_le (length (concat (xs ++ ys))) byte_limit)
    fits in
    let few : length (xs ++ ys) ≤ message_limit = leb-true (length (xs ++ ys)) message_limit h.0 in
    let small : length (concat (xs ++ ys)) ≤ byte_limit = leb-true (length (concat (xs ++ ys))) byte_limit h.1 in
    both _ _
    (le-leb (length xs) message_limit (omega (arith, few, length-append xs ys)))
    (le-leb (length (concat xs)) byte_limit (omega (
      arith,
      small,
      ap length (concat-append xs ys),
      length-append (concat xs) (concat ys),
    )))

-- ---- what bytes spell

no_fault : (r : Result TMsg WireFault) (msg : TMsg) (f : WireFault) → r ≡ Ok msg → r ≡ Err f → ⊥
no_fault (Ok x) msg f a b = cc
no_fault (Err x) msg f a b = cc

one_message : (r : Result TMsg WireFault) (a b : TMsg) → r ≡ Ok a → r ≡ Ok b → a ≡ b
one_message (Ok x) a b p q = cc
one_message (Err x) a b p q = absurd cc

-- ---- a piece of a stream of whole messages

module _ (joins : JoinsPieces) (breaks : CutsNoMore) (journal : Journal) (conn : ℕ) (piece more : List ℕ)
    (whole : (cut_stream (piece ++ more)).rest ≡ [])
    (fits : fits_budget (cut_stream (piece ++ more)).messages ≡ true)
    (may : MayCome journal conn (cut_stream (piece ++ more)).messages) where
  others : List (List ℕ)
  others = (cut_stream ((cut_stream piece).rest ++ more)).messages

  next_of_all : (given : List (List ℕ)) (m : List ℕ) → IsNext given (cut_stream piece).messages m
      → IsNext given (cut_stream (piece ++ more)).messages m
  unfolding others
  next_of_all given m n = (
    n.0 ++ others,
    ap (λ (s : Stream). s.messages) (joins piece more) ∙ ap (λ (l : List (List ℕ)). l ++ others) n.1
        ∙ append_assoc given (m ∷ n.0) others,
  )

  not_faulty : (given : List (List ℕ)) (f : WireFault) → NextFaulty given (cut_stream piece) f → ⊥
  not_faulty given f n =
      let next = next_of_all given n.0 n.1.0 in
      let read = may given next.0 n.0 next.1 in
      no_fault (t_of n.0) read.0 f read.1 n.2

  not_size : (given : List (List ℕ)) → SizeFaulty given (cut_stream piece) → ⊥
  not_size given n =
      let stays : (cut_stream piece).rest ++ more ≡ [] = sym (ap (λ (s : Stream). s.rest) (breaks piece more n.0 n.2))
      ∙ whole in
      let none : (cut_stream piece).rest ≡ [] = front_of_none (cut_stream piece).rest more stays in
      let same : More ≡ Broken n.0 = sym (at_few [] (omega arith)) ∙ ap cut_of (sym none) ∙ n.2 in
      cc
    where
      front_of_none : (xs ys : List ℕ) → xs ++ ys ≡ [] → xs ≡ []
      front_of_none [] ys e = refl
      front_of_none (x ∷ xs) ys e = absurd cc

  module _ (before : List Event) (front : IsPrefix before journal.events) (goes_on : has_hang before conn ≡ false) where
    in_turn : (given : List (List ℕ)) (reason : Why) → messages_of before conn ≡ given
        → NextRefused (enabled_in journal.format) conn before given (cut_stream piece) reason
        → (msg : TMsg) × IsInTurn (journal_in journal.format before) conn msg
        × (enabled_in journal.format before (Msg conn msg) ≡ Some reason)
    in_turn given reason exact n =
        let next = next_of_all given n.0 n.2.0 in
        let read = may given next.0 n.0 next.1 in (
          n.1,
          subst (λ (x : TMsg). IsInTurn (journal_in journal.format before) conn x)
              (one_message (t_of n.0) read.0 n.1 read.1 n.3)
              (read.2 before front exact goes_on),
          n.4,
        )

    not_spent : (given : List (List ℕ)) (m : List ℕ) → IsNext given (cut_stream piece).messages m
        → fits_budget (given ++ m ∷ []) ≡ false → ⊥
    not_spent given m n out =
        let next = next_of_all given m n in
        let split : (cut_stream (piece ++ more)).messages ≡ (given ++ m ∷ [])
        ++ next.0 = next.1 ∙ sym (append_assoc given (m ∷ []) next.0) in
        let inside : fits_budget (given ++ m ∷ []) ≡ true = front_fits (given ++ m ∷ []) next.0
        (sym (ap fits_budget split) ∙ fits) in
        let same : true ≡ false = sym inside ∙ out in
        cc

    not_broken : (given : List (List ℕ)) (b : Bad) → messages_of before conn ≡ given
        → IsBroken (enabled_in journal.format) conn before given (cut_stream piece) b → ⊥
    not_broken given (bad.Wire f) exact (inl n) = not_faulty given f n
    not_broken given (bad.Wire f) exact (inr n) = not_size given n.1
    not_broken given bad.Size exact n = let t = in_turn given why.Size exact n in t.1.0 t.2
    not_broken given bad.Tag exact n = let t = in_turn given why.Tag exact n in t.1.1 t.2

    ends_soundly : (given : List (List ℕ)) (cause : Ending) → messages_of before conn ≡ given →
        (cause ≡ ending.Torn → more ≡ []) → (cause ≡ ending.ReadFault → ⊥)
        → EndsAfter (enabled_in journal.format) conn before given (cut_stream piece) cause → (cause ≡ ending.End)
        ⊎ (cause ≡ ending.NoMemory)
    ends_soundly given ending.End exact torn fault e = inl refl
    ends_soundly given ending.Torn exact torn fault e =
        let all : piece ++ more ≡ piece = ap (λ (l : List ℕ). piece ++ l) (torn refl) ∙ append-nil piece in
        absurd (e.2 (sym (ap (λ (l : List ℕ). (cut_stream l).rest) all) ∙ whole))
    ends_soundly given ending.ReadFault exact torn fault e = absurd (fault refl)
    ends_soundly given (ending.Broken b) exact torn fault e = absurd (not_broken given b exact e)
    ends_soundly given ending.Spent exact torn fault e = absurd (not_spent given e.0 e.1 e.2)
    ends_soundly given ending.Gone exact torn fault e = absurd e
    ends_soundly given ending.NoMemory exact torn fault e = inr refl

-- ---- one slot

-- what a source told that was read, and what it tells still
told_parts : (first now : Option (List ℕ)) (piece bytes : List ℕ) → first ≡ Some bytes → first ≡ then_told piece now
    → (more : List ℕ) × (now ≡ Some more) × (bytes ≡ piece ++ more)
told_parts first None piece bytes told read = absurd (let same : Some bytes ≡ None = sym told ∙ read in cc)
told_parts first (Some more) piece bytes told read = let same : Some bytes ≡ Some (piece ++ more) = sym told ∙ read in
    (more, refl, cc)

module _ {G L S K : Type 0} (joins : JoinsPieces) (breaks : CutsNoMore) (m : Outside G L S K) (journal : Journal)
  where
    served_soundly : (n : ℕ) (x : Objects G L S K) (read : Option Ending) (wrote : WriteEnd) (cause : Ending)
        (bytes : List ℕ)
        → IsServed (enabled_in journal.format) (output_in journal.format) (answers_in journal.format)
        journal.events n (m.link x.link).begins (m.reader x.reader).bytes read wrote
        (m.writer x.writer).bytes → Tells m (slot.Served x read wrote) → IsCause read wrote cause
        → (m.link x.link).begins ≡ Some bytes → (m.reader x.reader).faults ≡ 0 → (m.writer x.writer).faults ≡ 0 →
        (cut_stream bytes).rest ≡ []
        → fits_budget (cut_stream bytes).messages ≡ true → MayCome journal n (cut_stream bytes).messages
        → (cause ≡ ending.End) ⊎ (cause ≡ ending.NoMemory)
    served_soundly n x None write.Ended cause bytes is tells caused told reads writes whole fits may = absurd caused
    served_soundly n x None write.Gone cause bytes is tells caused told reads writes whole fits may =
        absurd (risen_above (m.writer x.writer).faults (tells.3 refl) writes)
    served_soundly n x None write.NoMemory cause bytes is tells caused told reads writes whole fits may = inr caused
    served_soundly n x (Some r) wrote cause bytes is tells caused told reads writes whole fits may =
        let given = messages_of journal.events n in
        let g = is.gives in
        let piece : List ℕ = g.0 in
        let before : List Event = g.3.0 in
        let turn = g.3.1 in
        let parts = told_parts (m.link x.link).begins (m.reader x.reader).bytes piece bytes told g.1 in
        let split : bytes ≡ piece ++ parts.0 = parts.2 in
        let torn : r ≡ ending.Torn → parts.0 ≡ [] = λ e. subst (λ (o : Option (List ℕ)). AreTold o []) parts.1
        (tells.2 (ap Some e)) in
        let fault : r ≡ ending.ReadFault → ⊥ = λ e. risen_above (m.reader x.reader).faults (tells.0 (ap Some e)) reads in
        let ends = ends_soundly joins breaks journal n piece parts.0
        (subst (λ (l : List ℕ). (cut_stream l).rest ≡ []) split whole)
        (subst (λ (l : List ℕ). fits_budget (cut_stream l).messages ≡ true) split fits)
        (subst (λ (l : List ℕ). MayCome journal n (cut_stream l).messages) split may)
        before turn.front turn.goes_on given r (just_these journal.events before n turn.front turn.messages) torn fault
        g.3.2 in
        subst (λ (c : Ending). (c ≡ ending.End) ⊎ (c ≡ ending.NoMemory)) (sym caused) ends

    sound_one : (n : ℕ) (s : Slot G L S K)
        → IsOf m (enabled_in journal.format) (output_in journal.format) (answers_in journal.format) journal.events n s
        → Tells m s
        → EndsWell m journal (served_of journal.events n s)
    sound_one n slot.Unbound is tells = λ cause ended sound. absurd cc
    sound_one n (slot.Bound gate) is tells = absurd tells
    sound_one n (slot.Unlinked gate) is tells = λ cause ended sound. absurd cc
    sound_one n (slot.Unhalved gate link) is tells = λ cause ended sound. absurd cc
    sound_one n (slot.Undialled x refused) is tells = λ cause ended sound. absurd cc
    sound_one n (slot.Served x read wrote) is tells = λ cause ended sound.
        let same : is.cause ≡ cause = cause_told (endings_of journal.events n) is.cause cause is.ended ended in
        let linked : x.link ≡ sound.link = let e = sound.linked in cc in
        let reads : x.reader ≡ sound.reader = let e = sound.read in cc in
        let writes : x.writer ≡ sound.writer = let e = sound.written in cc in
        served_soundly n x read wrote cause sound.bytes is tells (subst (λ (c : Ending). IsCause read wrote c) same
        is.caused)
        (ap (λ (x : L). (m.link x).begins) linked ∙ sound.told) (ap (λ (x : S). (m.reader x).faults) reads ∙ sound.reads)
        (ap (λ (x : K). (m.writer x).faults) writes ∙ sound.writes) sound.whole sound.fits sound.may_come

    pub sound_all : (path : List ℕ) (n : ℕ) (slots : List (Slot G L S K))
        → EachIs m (enabled_in journal.format) (output_in journal.format) (answers_in journal.format)
        journal.events n slots
        → EachTells m path n slots
        → AllByRecursion (EndsWell m journal) (served_from journal.events n slots)
    sound_all path n [] is tells = tt
    sound_all path n (s ∷ slots) is tells = (sound_one n s is.0 tells.1, sound_all path (n + 1) slots is.1 tells.2)

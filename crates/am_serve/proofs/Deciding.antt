-- What stands next in a stream decides why reading ends.
use Rattle.std.proofs.Common.{◌≡◌, ◌⊎◌, inl, inr, ℕ, Bool, true, false, List, [], ◌∷◌, ◌++◌, length, Option, Some, None}
use Rattle.std.proofs.Common.{refl, sym, ap, ◌∙◌, arith}
use Rattle.std.specs.Prelude.{is_ok, Result, Ok, Err}
use Rattle.std.proofs.lemmas.List.{length-append}
use Rattle.ninep_types.specs.declared.fault.WireFault.{WireFault}
use Rattle.ninep_types.specs.declared.fault.WireFault.TheVariants as wire
use Rattle.ninep_types.specs.declared.message.TMsg.{TMsg}
use Rattle.ninep_types.specs.Reading.{t_of}
use Rattle.ninep_cut.specs.declared.cut.Cut.TheVariants as cut
use Rattle.ninep_cut.specs.Cuts.{Stream, cut_of}
use Rattle.am_journal.specs.declared.ending.Bad.TheVariants as bad
use Rattle.am_journal.specs.declared.ending.Ending.{Ending}
use Rattle.am_journal.specs.declared.ending.Ending.TheVariants as ending
use Rattle.am_journal.specs.declared.event.Event.{Event}
use Rattle.am_journal.specs.declared.event.Event.TheVariants.{Msg}
use Rattle.am_journal.specs.declared.event.Why.{Why}
use Rattle.am_journal.specs.declared.event.Why.TheVariants as why
use Rattle.am_serve.specs.Budget.{fits_budget}
use Rattle.am_serve.specs.Gained.{Rule}
use Rattle.am_serve.specs.Laws.{NextDecides}
use Rattle.am_serve.specs.Reading.{IsNext, IsDue, NextFaulty, NextRefused, SizeFaulty, EndsAfter}

-- what a Result holds
abbrev value_in : {T E : Type 0} → Result T E → Option T
value_in (Ok x) = Some x
value_in (Err e) = None

abbrev fault_in : {T E : Type 0} → Result T E → Option E
fault_in (Ok x) = None
fault_in (Err e) = Some e

behind : (given xs ys : List (List ℕ)) → given ++ xs ≡ given ++ ys → xs ≡ ys
behind [] xs ys e = e
behind (x ∷ given) xs ys e = let rest : given ++ xs ≡ given ++ ys = cc in behind given xs ys rest

-- the next message is one
next_same : (given messages : List (List ℕ)) (m n : List ℕ) → IsNext given messages m → IsNext given messages n → m ≡ n
next_same given messages m n p q = let e : m ∷ p.0 ≡ n ∷ q.0 = behind given (m ∷ p.0) (n ∷ q.0) (sym p.1 ∙ q.1) in cc

-- all were given, or there is a next one
no_next : (given messages : List (List ℕ)) (m : List ℕ) → given ≡ messages → IsNext given messages m → ⊥
no_next given messages m e p = omega (arith, ap length e, ap length p.1, length-append given (m ∷ p.0))

both_ways : (b : Bool) → b ≡ true → b ≡ false → ⊥
both_ways true p q = absurd cc
both_ways false p q = absurd cc

fits_or_not : (given : List (List ℕ)) (stream : Stream) (m n : List ℕ) → IsDue given stream m
    → IsNext given stream.messages n → fits_budget (given ++ n ∷ []) ≡ false → ⊥
fits_or_not given stream m n due next not =
    both_ways (fits_budget (given ++ m ∷ [])) due.1 (ap (λ (l : List ℕ). fits_budget (given ++ l ∷ []))
    (next_same given stream.messages m n due.0 next) ∙ not)

cut_of_nothing : cut_of [] ≡ cut.More
unfolding cut_of
cut_of_nothing = refl

not_both : (size : ℕ) → cut.More ≡ cut.Broken size → ⊥
not_both size e = absurd cc

module _ (enabled : Rule) (conn : ℕ) (journal : List Event) (given : List (List ℕ)) (stream : Stream) where
  abbrev After : Ending → Type 0
  After e = EndsAfter enabled conn journal given stream e

  -- a message is read, or has a fault, and it has one
  one_fault : (f g : WireFault) → NextFaulty given stream f → NextFaulty given stream g → f ≡ g
  one_fault f g p q =
      let same = next_same given stream.messages p.0 q.0 p.1.0 q.1.0 in
      let e : Some f ≡ Some g = ap fault_in (sym p.2 ∙ ap t_of same ∙ q.2) in
      cc

  read_or_faulty : (f : WireFault) (reason : Why) → NextFaulty given stream f
      → NextRefused enabled conn journal given stream reason → ⊥
  read_or_faulty f reason p q =
      let same = next_same given stream.messages p.0 q.0 p.1.0 q.2.0 in
      let e : false ≡ true = ap is_ok (sym p.2 ∙ ap t_of same ∙ q.3) in
      absurd cc

  one_reason : (a b : Why) → NextRefused enabled conn journal given stream a
      → NextRefused enabled conn journal given stream b → a ≡ b
  one_reason a b p q =
      let same = next_same given stream.messages p.0 q.0 p.2.0 q.2.0 in
      let e : Some p.1 ≡ Some q.1 = ap value_in (sym p.3 ∙ ap t_of same ∙ q.3) in
      let msg : p.1 ≡ q.1 = cc in
      let r : Some a ≡ Some b = sym p.4 ∙ ap (λ (x : TMsg). enabled journal (Msg conn x)) msg ∙ q.4 in
      cc

  of_fault : (f : WireFault) → NextFaulty given stream f → (other : Ending) → After other
      → (other ≡ ending.Broken (bad.Wire f)) ⊎ (other ≡ ending.NoMemory)
  of_fault f p ending.End g = absurd (no_next given stream.messages p.0 g.0 p.1.0)
  of_fault f p ending.Torn g = absurd (no_next given stream.messages p.0 g.0 p.1.0)
  of_fault f p ending.ReadFault g = absurd (no_next given stream.messages p.0 g.0 p.1.0)
  of_fault f p (ending.Broken (bad.Wire h)) (inl q) = inl (ap (λ (x : WireFault). ending.Broken (bad.Wire x))
      (sym (one_fault f h p q)))
  of_fault f p (ending.Broken (bad.Wire h)) (inr q) = absurd (no_next given stream.messages p.0 q.1.1 p.1.0)
  of_fault f p (ending.Broken bad.Size) q = absurd (read_or_faulty f why.Size p q)
  of_fault f p (ending.Broken bad.Tag) q = absurd (read_or_faulty f why.Tag p q)
  of_fault f p ending.Spent q = absurd (fits_or_not given stream p.0 q.0 p.1 q.1 q.2)
  of_fault f p ending.Gone g = absurd g
  of_fault f p ending.NoMemory g = inr refl

  of_size : SizeFaulty given stream → (other : Ending) → After other → (other ≡ ending.Broken (bad.Wire wire.Size))
      ⊎ (other ≡ ending.NoMemory)
  of_size p ending.End g = absurd (not_both p.0 (sym cut_of_nothing ∙ ap cut_of (sym g.1) ∙ p.2))
  of_size p ending.Torn g = absurd (not_both p.0 (sym g.1 ∙ p.2))
  of_size p ending.ReadFault g = absurd (not_both p.0 (sym g.1 ∙ p.2))
  of_size p (ending.Broken (bad.Wire h)) (inl q) = absurd (no_next given stream.messages q.0 p.1 q.1.0)
  of_size p (ending.Broken (bad.Wire h)) (inr q) = inl (ap (λ (x : WireFault). ending.Broken (bad.Wire x)) q.0)
  of_size p (ending.Broken bad.Size) q = absurd (no_next given stream.messages q.0 p.1 q.2.0)
  of_size p (ending.Broken bad.Tag) q = absurd (no_next given stream.messages q.0 p.1 q.2.0)
  of_size p ending.Spent q = absurd (no_next given stream.messages q.0 p.1 q.1)
  of_size p ending.Gone g = absurd g
  of_size p ending.NoMemory g = inr refl

  size_or_tag : why.Size ≡ why.Tag → ⊥
  size_or_tag e = absurd cc

  of_msize : NextRefused enabled conn journal given stream why.Size → (other : Ending) → After other
      → (other ≡ ending.Broken bad.Size) ⊎ (other ≡ ending.NoMemory)
  of_msize p ending.End g = absurd (no_next given stream.messages p.0 g.0 p.2.0)
  of_msize p ending.Torn g = absurd (no_next given stream.messages p.0 g.0 p.2.0)
  of_msize p ending.ReadFault g = absurd (no_next given stream.messages p.0 g.0 p.2.0)
  of_msize p (ending.Broken (bad.Wire h)) (inl q) = absurd (read_or_faulty h why.Size q p)
  of_msize p (ending.Broken (bad.Wire h)) (inr q) = absurd (no_next given stream.messages p.0 q.1.1 p.2.0)
  of_msize p (ending.Broken bad.Size) q = inl refl
  of_msize p (ending.Broken bad.Tag) q = absurd (size_or_tag (one_reason why.Size why.Tag p q))
  of_msize p ending.Spent q = absurd (fits_or_not given stream p.0 q.0 p.2 q.1 q.2)
  of_msize p ending.Gone g = absurd g
  of_msize p ending.NoMemory g = inr refl

  of_tag : NextRefused enabled conn journal given stream why.Tag → (other : Ending) → After other
      → (other ≡ ending.Broken bad.Tag) ⊎ (other ≡ ending.NoMemory)
  of_tag p ending.End g = absurd (no_next given stream.messages p.0 g.0 p.2.0)
  of_tag p ending.Torn g = absurd (no_next given stream.messages p.0 g.0 p.2.0)
  of_tag p ending.ReadFault g = absurd (no_next given stream.messages p.0 g.0 p.2.0)
  of_tag p (ending.Broken (bad.Wire h)) (inl q) = absurd (read_or_faulty h why.Tag q p)
  of_tag p (ending.Broken (bad.Wire h)) (inr q) = absurd (no_next given stream.messages p.0 q.1.1 p.2.0)
  of_tag p (ending.Broken bad.Size) q = absurd (size_or_tag (one_reason why.Size why.Tag q p))
  of_tag p (ending.Broken bad.Tag) q = inl refl
  of_tag p ending.Spent q = absurd (fits_or_not given stream p.0 q.0 p.2 q.1 q.2)
  of_tag p ending.Gone g = absurd g
  of_tag p ending.NoMemory g = inr refl

  of_spent : After ending.Spent → (other : Ending) → After other → (other ≡ ending.Spent) ⊎ (other ≡ ending.NoMemory)
  of_spent p ending.End g = absurd (no_next given stream.messages p.0 g.0 p.1)
  of_spent p ending.Torn g = absurd (no_next given stream.messages p.0 g.0 p.1)
  of_spent p ending.ReadFault g = absurd (no_next given stream.messages p.0 g.0 p.1)
  of_spent p (ending.Broken (bad.Wire h)) (inl q) = absurd (fits_or_not given stream q.0 p.0 q.1 p.1 p.2)
  of_spent p (ending.Broken (bad.Wire h)) (inr q) = absurd (no_next given stream.messages p.0 q.1.1 p.1)
  of_spent p (ending.Broken bad.Size) q = absurd (fits_or_not given stream q.0 p.0 q.2 p.1 p.2)
  of_spent p (ending.Broken bad.Tag) q = absurd (fits_or_not given stream q.0 p.0 q.2 p.1 p.2)
  of_spent p ending.Spent q = inl refl
  of_spent p ending.Gone g = absurd g
  of_spent p ending.NoMemory g = inr refl

other_name : (f : WireFault) (other : Ending) → f ≡ wire.Size → (other ≡ ending.Broken (bad.Wire wire.Size))
    ⊎ (other ≡ ending.NoMemory) → (other ≡ ending.Broken (bad.Wire f)) ⊎ (other ≡ ending.NoMemory)
other_name f other e (inl q) = inl (q ∙ ap (λ (x : WireFault). ending.Broken (bad.Wire x)) (sym e))
other_name f other e (inr q) = inr q

pub next_decides : NextDecides
next_decides enabled conn journal given stream ending.End other l a b = absurd l
next_decides enabled conn journal given stream ending.Torn other l a b = absurd l
next_decides enabled conn journal given stream ending.ReadFault other l a b = absurd l
next_decides enabled conn journal given stream (ending.Broken (bad.Wire f)) other l (inl a) b = of_fault enabled conn
    journal given stream f a other b
next_decides enabled conn journal given stream (ending.Broken (bad.Wire f)) other l (inr a) b = other_name f other a.0
    (of_size enabled conn journal given stream a.1 other b)
next_decides enabled conn journal given stream (ending.Broken bad.Size) other l a b = of_msize enabled conn journal
    given stream a other b
next_decides enabled conn journal given stream (ending.Broken bad.Tag) other l a b = of_tag enabled conn journal given
    stream a other b
next_decides enabled conn journal given stream ending.Spent other l a b = of_spent enabled conn journal given stream a
    other b
next_decides enabled conn journal given stream ending.Gone other l a b = absurd l
next_decides enabled conn journal given stream ending.NoMemory other l a b = absurd l

-- Messages of a write that are plumbed, one further.
use Rattle.std.proofs.Common.{◌≡◌, ℕ, Bool, true, false, List, [], ◌∷◌, ◌++◌, drop, Option, Some, None, refl, sym, ap}
use Rattle.std.proofs.Common.{subst, ◌∙◌}
use Rattle.plumb_msg.specs.Grammar.{IsProperFront}
use Rattle.plumb_msg.specs.Reading.{read_of}
use Rattle.plumb_msg.specs.declared.message.PlumbMsg.{PlumbMsg}
use Rattle.plumb_msg.specs.declared.message.PlumbRead.TheVariants.{Whole}
use Rattle.core_scene.specs.declared.deed.Entry.{Entry}
use Rattle.core_scene.specs.declared.deed.Deed.{Deed}
use Rattle.core_scene.specs.Scenes.{SceneState, done_all, Did}
use Rattle.core_scene.proofs.Dids.{did_next}
use Rattle.core_plumb.specs.declared.refusal.PlumbRefusal.{PlumbRefusal}
use Rattle.core_plumb.specs.Routing.{plumb_refusal}
use Rattle.core_plumb.specs.Plumbing.{plumb_deeds}
use Rattle.core_rules.specs.declared.send_refusal.SendRefusal.TheVariants as refusal
use Rattle.core_rules.specs.Messages.{Cut, ends, then_cut, cut_of}
use Rattle.core_rules.specs.Sending.{Plumbed, then_rest, plumbed, Outcome, ended, outcome_of, cut_outcome, send_outcome}
use Rattle.core_rules.specs.SendLaws.{HeldIsBegun}
use Rattle.core_rules.proofs.Cutting.{cut_whole, begun_left}

-- The bytes that are left do over the scene as it is now what is left of all.
pub record AreLeft (e : Entry) (all rest : List ℕ) (before now : SceneState) : Type 0 where
  pub did : (after : SceneState) → Did e now after (send_outcome e rest now).deeds
      → Did e before after (send_outcome e all before).deeds
  pub refusal : (send_outcome e rest now).refusal ≡ (send_outcome e all before).refusal
  pub held : (send_outcome e rest now).held ≡ (send_outcome e all before).held

pub left_all : (e : Entry) (all : List ℕ) (s : SceneState) → AreLeft e all all s s
left_all e all s = record { did = λ after d. d; refusal = refl; held = refl }

-- ---- deeds before others

abbrev with_deeds : List Deed → Outcome → Outcome
with_deeds deeds o = record o { deeds = deeds ++ o.deeds }

ended_more : (ds xs : List Deed) (b : Bool) (rest : List ℕ) → ended (ds ++ xs) b rest ≡ with_deeds ds (ended xs b rest)
ended_more ds xs true rest = refl
ended_more ds xs false rest = refl

outcome_more : (ds xs : List Deed) (o : Option PlumbRefusal) (c : Cut)
    → outcome_of (ds ++ xs) o c ≡ with_deeds ds (outcome_of xs o c)
outcome_more ds xs None c = ended_more ds xs c.is_bad c.rest
outcome_more ds xs (Some r) c = refl

-- a message in front of a text doesn't change how it ends
same_end : (ds : List Deed) (o : Option PlumbRefusal) (m : PlumbMsg) (c : Cut)
    → outcome_of ds o (then_cut m c) ≡ outcome_of ds o c
same_end ds None m c = refl
same_end ds (Some r) m c = refl

plumbed_first : (e : Entry) (m : PlumbMsg) (ms : List PlumbMsg) (s : SceneState) (o : Option PlumbRefusal)
    → plumb_refusal m s ≡ o
    → plumbed e (m ∷ ms) s ≡ then_rest (plumb_deeds e m s) o (plumbed e ms (done_all e s (plumb_deeds e m s)))
unfolding plumbed
plumbed_first e m ms s o h = ap (λ (x : Option PlumbRefusal). then_rest (plumb_deeds e m s) x
    (plumbed e ms (done_all e s (plumb_deeds e m s)))) h

-- ---- one message

module _ (e : Entry) (all rest : List ℕ) (before now now' : SceneState) (left : AreLeft e all rest before now)
    (m : PlumbMsg) (used : ℕ)
    (read : read_of rest ≡ Whole m used) (did : Did e now now' (plumb_deeds e m now)) where
  abbrev behind : List ℕ
  behind = drop used rest

  abbrev as_plumbed : Plumbed → Outcome
  as_plumbed p = outcome_of p.deeds p.refusal (cut_of behind)

  first : (o : Option PlumbRefusal) → plumb_refusal m now ≡ o
      → send_outcome e rest now ≡ as_plumbed (then_rest (plumb_deeds e m now) o
      (plumbed e (cut_of behind).messages (done_all e now (plumb_deeds e m now))))
  first o h =
      let p = plumbed e (m ∷ (cut_of behind).messages) now in
      ap (λ (c : Cut). cut_outcome e c now) (cut_whole rest m used read)
      ∙ same_end p.deeds p.refusal m (cut_of behind)
      ∙ ap as_plumbed (plumbed_first e m (cut_of behind).messages now o h)

  goes_on : plumb_refusal m now ≡ None → send_outcome e rest now ≡ with_deeds (plumb_deeds e m now)
      (send_outcome e behind (done_all e now (plumb_deeds e m now)))
  goes_on h =
      let p = plumbed e (cut_of behind).messages (done_all e now (plumb_deeds e m now)) in
      first None h ∙ outcome_more (plumb_deeds e m now) p.deeds p.refusal (cut_of behind)

  pub left_behind : None ≡ plumb_refusal m now → AreLeft e all behind before now'
  left_behind h = record {
    did = λ after d. left.did after (subst (λ (o : Outcome). Did e now after o.deeds) (sym (goes_on (sym h)))
        (did_next (λ (s : SceneState). (send_outcome e behind s).deeds) did d));
    refusal = ap (λ (s : SceneState). (send_outcome e behind s).refusal) did.made
        ∙ sym (ap (λ (o : Outcome). o.refusal) (goes_on (sym h))) ∙ left.refusal;
    held = ap (λ (s : SceneState). (send_outcome e behind s).held) did.made
        ∙ sym (ap (λ (o : Outcome). o.held) (goes_on (sym h))) ∙ left.held;
  }

  pub refused_did : (r : PlumbRefusal) → Some r ≡ plumb_refusal m now
      → Did e before now' (send_outcome e all before).deeds
  refused_did r h = left.did now' (subst (λ (o : Outcome). Did e now now' o.deeds) (sym (first (Some r) (sym h))) did)

  pub refused_so : (r : PlumbRefusal) → Some r ≡ plumb_refusal m now
      → Some (refusal.Plumb r) ≡ (send_outcome e all before).refusal
  refused_so r h = sym (ap (λ (o : Outcome). o.refusal) (first (Some r) (sym h))) ∙ left.refusal

  pub refused_held : (r : PlumbRefusal) → Some r ≡ plumb_refusal m now → [] ≡ (send_outcome e all before).held
  refused_held r h = sym (ap (λ (o : Outcome). o.held) (first (Some r) (sym h))) ∙ left.held

-- ---- no message

none_plumbed : (e : Entry) (b : Bool) (rest : List ℕ) (s : SceneState) → cut_outcome e (ends b rest) s ≡ ended [] b rest
unfolding plumbed
none_plumbed e b rest s = refl

module _ (e : Entry) (all rest : List ℕ) (before now : SceneState) (left : AreLeft e all rest before now) (b : Bool)
    (cut : cut_of rest ≡ ends b rest) where
  empty : send_outcome e rest now ≡ ended [] b rest
  empty = ap (λ (c : Cut). cut_outcome e c now) cut ∙ none_plumbed e b rest now

  nothing_done : (b : Bool) → Did e now now (ended [] b rest).deeds
  nothing_done true = record { made = refl; can = tt }
  nothing_done false = record { made = refl; can = tt }

  pub ended_did : Did e before now (send_outcome e all before).deeds
  ended_did = left.did now (subst (λ (o : Outcome). Did e now now o.deeds) (sym empty) (nothing_done b))

  pub ended_so : (ended [] b rest).refusal ≡ (send_outcome e all before).refusal
  ended_so = sym (ap (λ (o : Outcome). o.refusal) empty) ∙ left.refusal

  pub ended_held : (ended [] b rest).held ≡ (send_outcome e all before).held
  ended_held = sym (ap (λ (o : Outcome). o.held) empty) ∙ left.held

-- ---- what is held

held_begun : (deeds : List Deed) (o : Option PlumbRefusal) (text : List ℕ) (b : Bool)
    → (cut_of text).is_bad ≡ b → (outcome_of deeds o (cut_of text)).refusal ≡ None
    → IsProperFront (outcome_of deeds o (cut_of text)).held
held_begun deeds (Some r) text b h n = absurd cc
held_begun deeds None text true h n = absurd (refused_bad (ap (λ (x : Bool). (ended deeds x (cut_of text).rest).refusal)
    (sym h) ∙ n))
  where
    refused_bad : Some refusal.BadPlumbMessage ≡ None → ⊥
    refused_bad q = cc
held_begun deeds None text false h n = subst (λ (x : Bool). IsProperFront (ended deeds x (cut_of text).rest).held)
    (sym h) (begun_left text h)

pub held_is_begun : HeldIsBegun
held_is_begun e text s n = held_begun _ (plumbed e (cut_of text).messages s).refusal text (cut_of text).is_bad refl n

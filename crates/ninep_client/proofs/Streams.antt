-- Bytes and messages that come, one after another.
use Rattle.std.proofs.Common.{◌≡◌, ◌≢◌, ◌⊎◌, ℕ, zero, suc, inl, inr, ◌+◌, ◌<◌, ◌≤◌, Bool, true, false, cond, List, []}
use Rattle.std.proofs.Common.{◌∷◌, ◌++◌, length, Option, Some, None, refl, sym, ap, ◌∙◌, subst, arith, append_assoc}
use Rattle.std.proofs.Common.{length-append}
use Rattle.am_base.specs.Seen.{Seen}
use Rattle.std.specs.Prelude.{Result, Ok, Err, is_some, All}
use Rattle.std.specs.List.{concat}
use Rattle.std.proofs.lemmas.List.{append-nil}
use Rattle.std.proofs.lemmas.List.Folds.{concat-append}
use Rattle.std.proofs.lemmas.List.Elements.{All-append}
use Rattle.am_base.specs.Outside.{then_told, AreTold}
use Rattle.ninep_cut.specs.declared.cut.Cut.{Cut}
use Rattle.ninep_cut.specs.declared.cut.Cut.TheVariants.{Whole, More, Broken}
use Rattle.ninep_cut.specs.Cuts.{IsMessage, cut_of, first_of}
use Rattle.ninep_cut.specs.Laws.{MoreWhere}
use Rattle.ninep_client.specs.declared.asked.Asked.{Asked}
use Rattle.ninep_client.specs.declared.fault.CallFault.{CallFault}
use Rattle.ninep_client.specs.declared.fault.CallFault.TheVariants as faults
use Rattle.ninep_client.specs.Asking.{Talk, reply_place}
use Rattle.ninep_client.specs.Calls.{Stops, WaitFails}
use Rattle.ninep_client.specs.Hearing.{Came, HearsOne, Hears, StopsAt, ReadFails, HeardFails, end_of, heard, heard_next}
use Rattle.ninep_client.specs.Hearing.{heard_until, front_fault}

-- ---- bytes

told_none : (o : Option (List ℕ)) → o ≡ then_told [] o
told_none None = refl
told_none (Some told) = refl

told_both : (o : Option (List ℕ)) (a b : List ℕ) → then_told a (then_told b o) ≡ then_told (a ++ b) o
told_both None a b = refl
told_both (Some told) a b = ap (λ (x : List ℕ). Some x) (sym (append_assoc a b told))

pub came_none : (left : Option (List ℕ)) (unread : List ℕ) → Came left left unread unread
came_none left unread = record { bytes = []; told = told_none left; joined = append-nil unread }

pub came_more : (l m n : Option (List ℕ)) (u v w : List ℕ) → Came l m u v → Came m n v w → Came l n u w
came_more l m n u v w a b = record {
  bytes = a.bytes ++ b.bytes;
  told = a.told ∙ ap (then_told a.bytes) b.told ∙ told_both n a.bytes b.bytes;
  joined = sym (append_assoc u a.bytes b.bytes) ∙ ap (λ (x : List ℕ). x ++ b.bytes) a.joined ∙ b.joined;
}

-- the same with bytes in front
came_behind : (l m : Option (List ℕ)) (f u v : List ℕ) → Came l m u v → Came l m (f ++ u) (f ++ v)
came_behind l m f u v a = record {
  bytes = a.bytes;
  told = a.told;
  joined = append_assoc f u a.bytes ∙ ap (λ (x : List ℕ). f ++ x) a.joined;
}

-- less than a message has less bytes than the longest
pub more_is_short : MoreWhere → (bytes : List ℕ) → cut_of bytes ≡ More → length bytes < 65560
more_is_short law bytes e =
    elim ((law bytes).0 e) [
      | inl few ↦ omega arith
      | inr front ↦ let most = front.1.1.most in omega (arith, length-append bytes front.0)
    ]

-- ---- messages

heard_none : (tag : ℕ) (asked mid last : List Asked) (m : List ℕ) → Some asked ≡ Some mid
    → reply_place tag mid ≡ None → heard mid m ≡ Ok last → heard_until tag asked (m ∷ []) ≡ Some last
unfolding heard_until
heard_none tag asked mid last m e none h =
    let same : asked ≡ mid = cc in
    rw (same, none, h) refl

heard_last : (tag : ℕ) (asked mid last : List Asked) (ms : List (List ℕ)) (m : List ℕ)
    → heard_until tag asked ms ≡ Some mid → reply_place tag mid ≡ None → heard mid m ≡ Ok last
    → heard_until tag asked (ms ++ m ∷ []) ≡ Some last
unfolding heard_until
heard_last tag asked mid last [] m e none h = heard_none tag asked mid last m e none h
heard_last tag asked mid last (first ∷ ms) m e none h =
    elim (is_some (reply_place tag asked)) as (λ b. cond b None (heard_next (λ next. heard_until tag next ms)
    (heard asked first)) ≡ Some mid → cond b None (heard_next (λ next. heard_until tag next (ms ++ m ∷ []))
    (heard asked first)) ≡ Some last) [
      | true ↦ λ w. (cc)
      | false ↦ elim (heard asked first) as (λ r. heard_next (λ next. heard_until tag next ms) r ≡ Some mid
          → heard_next (λ next. heard_until tag next (ms ++ m ∷ [])) r ≡ Some last) [
            | Ok next ↦ λ w. heard_last tag next mid last ms m w none h
            | Err f ↦ λ w. (cc)
          ]
    ] e

pub hears_none : (tag : ℕ) (asked : List Asked) (unread : List ℕ) (left : Option (List ℕ))
    → Hears tag asked unread left left asked unread
unfolding heard_until
hears_none tag asked unread left = record {
  messages = [];
  came = came_none left unread;
  whole =
      λ k d lt. absurd (omega arith);
  heard = refl;
}

one_is : (m : List ℕ) → IsMessage m → All IsMessage (m ∷ [])
one_is m h zero d lt = h
one_is m h (suc k) d lt = absurd (omega arith)

pub hears_more : (tag : ℕ) (a b c : List Asked) (u v w : List ℕ) (l m n : Option (List ℕ)) → Hears tag a u l m b v
    → reply_place tag b ≡ None → HearsOne b v m n c w → Hears tag a u l n c w
hears_more tag a b c u v w l m n before none one =
    let joined : concat before.messages ++ (one.message ++ w) ≡ concat (before.messages ++ one.message ∷ []) ++ w
    = sym (append_assoc (concat before.messages) one.message w)
    ∙ ap (λ (x : List ℕ). (concat before.messages ++ x) ++ w) (sym (append-nil one.message))
    ∙ ap (λ (x : List ℕ). x ++ w) (sym (concat-append before.messages (one.message ∷ []))) in
    record {
      messages = before.messages ++ one.message ∷ [];
      came = subst (λ (x : List ℕ). Came l n u x) joined (came_more l m n u (concat before.messages ++ v)
          (concat before.messages ++ (one.message ++ w)) before.came
          (came_behind m n (concat before.messages) v (one.message ++ w) one.came));
      whole = All-append IsMessage before.messages (one.message ∷ []) before.whole (one_is one.message one.whole);
      heard = heard_last tag a b c before.messages one.message before.heard none one.heard;
    }

-- bytes that came without a message
pub hears_came : (tag : ℕ) (a b : List Asked) (u v w : List ℕ) (l m n : Option (List ℕ)) → Hears tag a u l m b v
    → Came m n v w → Hears tag a u l n b w
hears_came tag a b u v w l m n before more = record {
  messages = before.messages;
  came = came_more l m n u (concat before.messages ++ v) (concat before.messages ++ w) before.came
      (came_behind m n (concat before.messages) v w more);
  whole = before.whole;
  heard = before.heard;
}

-- ---- faults

-- a message at the front that is at fault
front_is : (asked : List Asked) (unread : List ℕ) (e : CallFault) → cut_of unread ≡ Whole → heard asked
    (first_of unread) ≡ Err e → front_fault asked unread ≡ Some e
front_is asked unread e whole h = rw (whole, h) refl

pub stops_heard : (e : CallFault) (asked : List Asked) (unread : List ℕ) (i : Seen)
    → cut_of unread ≡ Whole → HeardFails e (heard asked (first_of unread)) → StopsAt e asked unread i
stops_heard (faults.Wire f) asked unread i whole h = front_is asked unread (faults.Wire f) whole h
stops_heard (faults.Unasked n) asked unread i whole h = front_is asked unread (faults.Unasked n) whole h
stops_heard (faults.Kind kind) asked unread i whole h = front_is asked unread (faults.Kind kind) whole h
stops_heard faults.NoMemory asked unread i whole h = tt
stops_heard faults.ReadFault asked unread i whole h = absurd h
stops_heard faults.Ended asked unread i whole h = absurd h
stops_heard faults.Torn asked unread i whole h = absurd h
stops_heard faults.Closed asked unread i whole h = absurd h
stops_heard faults.Tags asked unread i whole h = absurd h
stops_heard faults.Large asked unread i whole h = absurd h
stops_heard faults.WriteFault asked unread i whole h = absurd h
stops_heard (faults.Remote text) asked unread i whole h = absurd h

-- the source has ended
pub stops_end : (asked : List Asked) (unread : List ℕ) (i : Seen) → cut_of unread ≡ More → AreTold i.now.bytes []
    → StopsAt (end_of unread) asked unread i
stops_end asked [] i more told = (refl, told)
stops_end asked (b ∷ unread) i more told = ((λ e. cc), more, told)

-- reading has failed inside a message
pub stops_read : (e : CallFault) (asked : List Asked) (unread : List ℕ) (i : Seen)
    → cut_of unread ≡ More → ReadFails e i.before.faults i.now.faults → StopsAt e asked unread i
stops_read faults.ReadFault asked unread i more h = (more, h)
stops_read faults.NoMemory asked unread i more h = tt
stops_read (faults.Wire f) asked unread i more h = absurd h
stops_read (faults.Unasked k) asked unread i more h = absurd h
stops_read (faults.Kind kind) asked unread i more h = absurd h
stops_read faults.Ended asked unread i more h = absurd h
stops_read faults.Torn asked unread i more h = absurd h
stops_read faults.Closed asked unread i more h = absurd h
stops_read faults.Tags asked unread i more h = absurd h
stops_read faults.Large asked unread i more h = absurd h
stops_read faults.WriteFault asked unread i more h = absurd h
stops_read (faults.Remote text) asked unread i more h = absurd h

-- a reply that isn't kept at the end wasn't at the beginning
pub first_none : (tag : ℕ) (a b : List Asked) → (is_some (reply_place tag a) ≡ true → b ≡ a)
    → reply_place tag b ≡ None → reply_place tag a ≡ None
first_none tag a b kept none =
    elim (reply_place tag a) as (λ o. reply_place tag a ≡ o → o ≡ None) [
      | None ↦ λ e. refl
      | Some at ↦ λ e. sym e ∙ ap (reply_place tag) (sym (kept (ap is_some e))) ∙ none
    ] refl

pub wait_fails : (e : CallFault) (tag : ℕ) (t : Talk) (i : Seen) (after : Talk) → Stops e tag t i after
    → WaitFails e tag t i after
wait_fails faults.ReadFault tag t i after s = s
wait_fails faults.Ended tag t i after s = s
wait_fails faults.Torn tag t i after s = s
wait_fails (faults.Wire f) tag t i after s = s
wait_fails (faults.Unasked n) tag t i after s = s
wait_fails (faults.Kind kind) tag t i after s = s
wait_fails faults.NoMemory tag t i after s = s
wait_fails (faults.Remote text) tag t i after s = absurd s.cause
wait_fails faults.Closed tag t i after s = absurd s.cause
wait_fails faults.Tags tag t i after s = absurd s.cause
wait_fails faults.Large tag t i after s = absurd s.cause
wait_fails faults.WriteFault tag t i after s = absurd s.cause

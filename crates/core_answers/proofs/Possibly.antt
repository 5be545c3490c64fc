-- Changes that can be made.
use Rattle.std.proofs.Common.{◌≡◌, ℕ, ◌+◌, Bool, true, false, cond, List, [], ◌∷◌, ◌++◌, length, Option, Some, None}
use Rattle.std.proofs.Common.{refl, sym, ap, subst, ◌<◌, ◌^◌, arith}
use Rattle.std.specs.Prelude.{eqb, IfOk, Result, Ok, Err, IsSome}
use Rattle.acme_tree.specs.Trees.{world_is_full}
use Rattle.am_text.specs.declared.range.Range.{Range}
use Rattle.core_addresses.specs.Data.{data_taken, Tells}
use Rattle.core_addresses.specs.Ranges.{address_range}
use Rattle.core_addresses.specs.declared.data.Taken.{Taken}
use Rattle.core_addresses.specs.declared.fault.RangeFault.{RangeFault}
use Rattle.core_addresses.specs.declared.fault.RangeFault.TheVariants as range
use Rattle.edit_log.specs.Edited.{text_after}
use Rattle.edit_log.specs.declared.types.Edit.{Edit}
use Rattle.win_text.specs.Bodies.{AreInRange, IsInside}
use Rattle.win_text.specs.BodyStories.{IsChangeOf}
use Rattle.core_windows.specs.declared.change.Change.{Change}
use Rattle.core_windows.specs.declared.change.Setting.TheVariants as setting
use Rattle.core_windows.specs.Possible.{CanSetIn, CanEdit, text_in}
use Rattle.core_windows.specs.Windows.{Window, window_at, world_of, named_window}
use Rattle.core_windows.proofs.Steps.{edits_then_set, made_there}
use Rattle.core_answers.specs.Addressing.{sets_addr, edits_with_addr, fault_of, addr_or_refusal, addr_reaction}
use Rattle.core_answers.specs.Addressing.{data_or_refusal, taking_reaction}
use Rattle.core_fids.specs.declared.effect.Demand.{Demand}
use Rattle.core_fids.specs.declared.effect.Demand.TheVariants as demand
use Rattle.core_fids.specs.declared.effect.Reaction.{Reaction}
use Rattle.core_fids.specs.Plainly.{demands}
use Rattle.core_fids.specs.Done.{CanBeMade, IsOfLiving, IsDone}
use Rattle.core_fids.proofs.Answers.{still_done, made_done}
use Rattle.core_fids.specs.Refusals.{Gives}
use Rattle.core_fids.specs.declared.refusal.Fault.{Fault}
use Rattle.core_answers.specs.Erring.{edits_at_end, appends, errors_changes}
use Rattle.core_answers.specs.Texts.{text_at}

-- ---- texts at the end

end_in_range : (text more : List ℕ) (b : Bool) → eqb (length more) 0 ≡ b
    → AreInRange text (cond b [] (record { q0 = length text; q1 = length text; text = more } ∷ []))
end_in_range text more true e = tt
end_in_range text [] false e = absurd cc
end_in_range text (c ∷ more) false e = (record { order = omega arith; bounds = omega arith; some = omega arith }, tt)

at_end : (text more : List ℕ) → AreInRange text (edits_at_end text more)
at_end text more = end_in_range text more (eqb (length more) 0) refl

pub append_possible : (windows : List (Option Window)) (w : ℕ) (more : List ℕ) (cs : List Change)
    → IsSome (window_at windows w) → cs ≡ appends windows w more → CanBeMade windows cs
append_possible windows w more cs h e = subst (CanBeMade windows) (sym e)
    (λ at. (record { lives = h; range = at_end (text_at windows w) more }, tt))

-- ---- a window that is made, and its text

new_edits : (windows : List (Option Window)) (name more : List ℕ) →
    CanEdit (window_at (windows ++ Some (named_window name) ∷ []) (length windows + 1)) (edits_at_end [] more)
new_edits windows name more =
    subst (λ (o : Option Window). CanEdit o (edits_at_end [] more)) (sym (made_there windows (named_window name)))
    (record { lives = refl; range = at_end [] more })

pub make_possible : (windows : List (Option Window)) (name text : List ℕ) (cs : List Change)
    → world_is_full (world_of windows) ≡ false → cs ≡ errors_changes windows name None text → CanBeMade windows cs
make_possible windows name text cs h e = subst (CanBeMade windows) (sym e)
    (λ at. (h, (new_edits windows name text, tt)))

-- ---- the address

pub addr_possible : (windows : List (Option Window)) (w : ℕ) (window : Window) (range : Range) (cs : List Change)
    → cs ≡ sets_addr w range → window_at windows w ≡ Some window → IsInside window.body.text range
    → CanBeMade windows cs
addr_possible windows w window range cs e there inside = subst (CanBeMade windows) (sym e) (λ at. (
  subst (λ (o : Option Window). CanSetIn o (setting.Addr range)) (sym there)
      (record { lives = refl; inside = inside }),
  tt,
))

pub data_possible : (windows : List (Option Window)) (w : ℕ) (window : Window) (edits : List Edit) (addr : Range)
    (cs : List Change) → cs ≡ edits_with_addr w edits addr → window_at windows w ≡ Some window
    → IsChangeOf window.body.text (record { edits = edits; dot = None })
    → IsInside (text_after window.body.text edits) addr → CanBeMade windows cs
data_possible windows w window edits addr cs e there can inside = subst (CanBeMade windows) (sym e) (λ at.
    edits_then_set at w edits (setting.Addr addr) windows
    (subst (λ (o : Option Window). CanEdit o edits) (sym there) (record { lives = refl; range = can.edits }))
    (subst (λ (o : Option Window). IsInside (text_after (text_in o) edits) addr) (sym there) inside))

-- ---- refusals

tells_addr : (w count : ℕ) (e : RangeFault) (wanted : Result Range RangeFault) → Tells e wanted
    → Gives (fault_of e) (addr_or_refusal w count wanted)
tells_addr w count range.BadAddress wanted h = ap (addr_or_refusal w count) h
tells_addr w count range.OutOfRange wanted h = ap (addr_or_refusal w count) h
tells_addr w count range.NoMatch wanted h = ap (addr_or_refusal w count) h
tells_addr w count range.OutOfOrder wanted h = ap (addr_or_refusal w count) h
tells_addr w count range.PartialRune wanted h = ap (addr_or_refusal w count) h
tells_addr w count range.TooLong wanted h = ap (addr_or_refusal w count) h
tells_addr w count range.NoMemory wanted h = tt

tells_data : (w count : ℕ) (e : RangeFault) (wanted : Result Taken RangeFault) → Tells e wanted
    → Gives (fault_of e) (data_or_refusal w count wanted)
tells_data w count range.BadAddress wanted h = ap (data_or_refusal w count) h
tells_data w count range.OutOfRange wanted h = ap (data_or_refusal w count) h
tells_data w count range.NoMatch wanted h = ap (data_or_refusal w count) h
tells_data w count range.OutOfOrder wanted h = ap (data_or_refusal w count) h
tells_data w count range.PartialRune wanted h = ap (data_or_refusal w count) h
tells_data w count range.TooLong wanted h = ap (data_or_refusal w count) h
tells_data w count range.NoMemory wanted h = tt

pub addr_refused : (w : ℕ) (bytes : List ℕ) (o : Option Window) (window : Window) (e : RangeFault) → o ≡ Some window
    → Tells e (address_range window.body bytes) → Gives (fault_of e) (addr_reaction w bytes o)
addr_refused w bytes o window e there h =
    subst (λ (x : Option Window). Gives (fault_of e) (addr_reaction w bytes x)) (sym there)
    (tells_addr w (length bytes) e (address_range window.body bytes) h)

pub data_refused : (w : ℕ) (bytes : List ℕ) (o : Option Window) (window : Window) (e : RangeFault) → o ≡ Some window
    → Tells e (data_taken window.body bytes) → Gives (fault_of e) (taking_reaction w bytes o)
data_refused w bytes o window e there h =
    subst (λ (x : Option Window). Gives (fault_of e) (taking_reaction w bytes x)) (sym there)
    (tells_data w (length bytes) e (data_taken window.body bytes) h)

-- ---- what is asked of the scene

pub demands_done : (windows : List (Option Window)) (w count : ℕ) (e : Demand) (d : Reaction) → d ≡ demands e count
    → count < 2 ^ 32 → IsSome (window_at windows w)
    → (IsSome (window_at windows w) → IsOfLiving windows e) → IsDone windows d
demands_done windows w count e d is small there own =
    subst (IsDone windows) (sym is) (record {
      sent = record { body = omega (arith, small); size = omega arith };
      possible = λ at. tt;
      demand = own there;
    })

pub answers_done : (windows : List (Option Window)) (opening count : ℕ) (text : List ℕ) (d : Reaction)
    → d ≡ demands (demand.Answers opening text) count → count < 2 ^ 32 → IsDone windows d
answers_done windows opening count text d is small =
    subst (IsDone windows) (sym is) (record {
      sent = record { body = omega (arith, small); size = omega arith };
      possible = λ at. tt;
      demand = tt;
    })

-- what can be done whatever the windows are can be done with these
pub done_with : (windows : List (Option Window)) (x : Result Reaction Fault)
    → IfOk x (λ r. (ws : List (Option Window)) → IsDone ws r) → IfOk x (IsDone windows)
done_with windows (Ok r) h = h windows
done_with windows (Err e) h = tt

pub ruleset asked = (demands_done, answers_done)

pub ruleset still = (still_done)

pub ruleset made = (still_done, made_done)

pub ruleset possibly = (append_possible, make_possible)

pub ruleset addressing = (still_done, addr_possible, data_possible, addr_refused, data_refused)

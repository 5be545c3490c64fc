-- The machines of commands one after another.
use Rattle.std.proofs.Common.{◌≡◌, ℕ, zero, suc, ◌+◌, ◌<◌, List, [], ◌∷◌, ◌++◌, length, get_or, drop, None, Vec, Global}
use Rattle.std.proofs.Common.{sym, subst, arith}
use mathlib.Core.Former.{Count}
use Rattle.edit_parts.specs.declared.command.Cmd.{Cmd}
use Rattle.edit_parts.specs.declared.command.Act.{Act, Block', Row_of-Cmd, end_of-Cmd, more_of-Cmd, items-the_row-Cmd}
use Rattle.edit_parts.specs.declared.command.Act.{items_hidden-the_row-Cmd-0}
use Rattle.edit_parts.specs.declared.command.Act as program
use Rattle.edit_parts.specs.Tree as edit
use Rattle.edit_parts.specs.Tree.{Action, action, commands}
use Rattle.edit_run.specs.declared.kept.Kept.{Kept}
use Rattle.edit_run.specs.declared.kept.Inner.{Nothing, Commands, items_hidden-the_row-Kept-0}
use Rattle.edit_run.specs.Kept.{inner_of, behind, OfFirst, IsKept, AreMade, AreKept, AreOf}

-- the machines in a vector are those in its list
pub inner_shown : (ks : Vec Kept Global) → inner_of (Commands ks) ≡ ks.items
inner_shown ks = items_hidden-the_row-Kept-0 ks

abbrev commands_in : Act → (n : Count) × Row_of-Cmd n
commands_in (Block' _ row) = (_, row)
commands_in _ = (_, end_of-Cmd)

row_kept : (n : Count) (row : Row_of-Cmd n) (ks : List Kept) → AreMade (commands row) ks
    → AreKept ks (items-the_row-Cmd n row)
row_kept n end_of-Cmd ks h = tt
row_kept n (more_of-Cmd addr act rest) ks h = (h.0, row_kept _ rest (behind ks) h.1)

row_made : (n : Count) (row : Row_of-Cmd n) (ks : List Kept) → AreKept ks (items-the_row-Cmd n row)
    → AreMade (commands row) ks
row_made n end_of-Cmd ks h = tt
row_made n (more_of-Cmd addr act rest) ks h = (h.0, row_made _ rest (behind ks) h.1)

-- the machines of a block are those of its commands
pub block_kept : (all : Vec Cmd Global) (kept : Kept) → IsKept (action (program.Block all)) kept
    → AreOf (inner_of kept.inner) all.items
block_kept all kept h =
    let row = commands_in (program.Block all) in
    record {
      each = subst (λ (x : List Cmd). AreKept (inner_of kept.inner) x) (items_hidden-the_row-Cmd-0 all)
          (row_kept row.0 row.1 (inner_of kept.inner) h);
    }

pub kept_block : (all : Vec Cmd Global) (kept : Kept) (ks : List Kept) → inner_of kept.inner ≡ ks → AreOf ks all.items
    → IsKept (action (program.Block all)) kept
kept_block all kept ks e h =
    let row = commands_in (program.Block all) in
    let made : AreMade (commands row.1) ks = row_made row.0 row.1 ks
    (subst (λ (x : List Cmd). AreKept ks x) (sym (items_hidden-the_row-Cmd-0 all)) h.each) in
    subst (λ (x : List Kept). AreMade (commands row.1) x) (sym e) made

abbrev nothing_made : Kept
nothing_made = record { machine = None; inner = Nothing }

nothing_of : (cs : edit.Commands) → AreMade cs []
nothing_of edit.Done = tt
nothing_of (edit.Then addr act rest) = (tt, nothing_of rest)

-- where none were made, none is of another expression
pub none_made : (act : Action) → IsKept act nothing_made
none_made edit.Nothing = tt
none_made (edit.Append text) = tt
none_made (edit.Change text) = tt
none_made (edit.Insert text) = tt
none_made edit.Delete = tt
none_made (edit.Substitute nth re with all) = tt
none_made (edit.Move to) = tt
none_made (edit.Copy to) = tt
none_made edit.Print = tt
none_made edit.LineNumber = tt
none_made edit.RuneNumber = tt
none_made (edit.Loops kind re addr act) = (tt, tt)
none_made (edit.Block all) = nothing_of all
none_made (edit.Asks kind command) = tt

none_kept : (cs : List Cmd) → AreKept [] cs
none_kept [] = tt
none_kept (c ∷ cs) = (tt, none_kept cs)

more_kept : (ks : List Kept) (cs : List Cmd) (k : Kept) (d : Cmd) → length ks < length cs → AreKept ks cs
    → IsKept (action (get_or cs (length ks) d).act) k → AreKept (ks ++ k ∷ []) cs
more_kept ks [] k d l all one = absurd (omega (arith, l))
more_kept [] (c ∷ cs) k d l all one = (one, none_kept cs)
more_kept (x ∷ xs) (c ∷ cs) k d l all one = (all.0, more_kept xs cs k d (omega (arith, l)) all.1 one)

first_kept : (ks : List Kept) (cs : List Cmd) (i : ℕ) (d : Cmd) → i < length cs → AreKept ks (drop i cs)
    → OfFirst (IsKept (action (get_or cs i d).act)) ks
first_kept ks [] i d l h = absurd (omega (arith, l))
first_kept ks (c ∷ cs) zero d l h = h.0
first_kept ks (c ∷ cs) (suc i) d l h = first_kept ks cs i d (omega (arith, l)) h

behind_kept : (ks : List Kept) (cs : List Cmd) (i : ℕ) → i < length cs → AreKept ks (drop i cs)
    → AreKept (behind ks) (drop (i + 1) cs)
behind_kept ks [] i l h = absurd (omega (arith, l))
behind_kept ks (c ∷ cs) zero l h = h.1
behind_kept ks (c ∷ cs) (suc i) l h =
    let e : suc i + 1 ≡ suc (i + 1) = omega arith in
    subst (λ (n : ℕ). AreKept (behind ks) (drop n (c ∷ cs))) (sym e) (behind_kept ks cs i (omega (arith, l)) h)

pub kept_none : (cs : List Cmd) → AreOf [] cs
kept_none cs = record { each = none_kept cs }

-- those of one command more
pub kept_more : (ks : List Kept) (cs : List Cmd) (k : Kept) (i : ℕ) (d : Cmd) → AreOf ks cs → i ≡ length ks
    → i < length cs → IsKept (action (get_or cs i d).act) k → AreOf (ks ++ k ∷ []) cs
kept_more ks cs k i d all e l one = record {
  each = more_kept ks cs k d (omega (arith, e, l)) all.each (subst (λ (n : ℕ). IsKept (action (get_or cs n d).act) k) e
      one);
}

-- the machines of the next command, and of the commands behind it
pub kept_first : (ks : List Kept) (cs : List Cmd) (i : ℕ) (d : Cmd) → AreOf ks (drop i cs) → i < length cs
    → OfFirst (IsKept (action (get_or cs i d).act)) ks
kept_first ks cs i d h l = first_kept ks cs i d l h.each

pub kept_behind : (ks : List Kept) (cs : List Cmd) (i : ℕ) → AreOf ks (drop i cs) → i < length cs
    → AreOf (behind ks) (drop (i + 1) cs)
kept_behind ks cs i h l = record { each = behind_kept ks cs i l h.each }

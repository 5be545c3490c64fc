-- The commands of a block, as they stand in a vector.
use Rattle.std.proofs.Common.{◌≡◌, ℕ, ◌+◌, ◌<◌, ◌≤◌, List, length, get_or, drop, Ok, Err, Result, Vec, Global, refl}
use Rattle.std.proofs.Common.{sym, ap, ◌∙◌}
use Rattle.std.proofs.lemmas.List.{at_drop_more, at_drop_all}
use mathlib.Core.Former.{Count}
use Rattle.am_text.specs.declared.range.Range.{Range}
use Rattle.edit_parts.specs.declared.command.Cmd.{Cmd}
use Rattle.edit_parts.specs.declared.command.Act.{Act, Block, Block', Row_of-Cmd, end_of-Cmd, more_of-Cmd}
use Rattle.edit_parts.specs.declared.command.Act.{items-the_row-Cmd, items_hidden-the_row-Cmd-0}
use Rattle.edit_parts.specs.Tree.{action, command, commands}
use Rattle.edit_run.specs.declared.fault.EditFault.{EditFault}
use Rattle.edit_run.specs.declared.effects.Effects.{Effects}
use Rattle.edit_run.specs.declared.types.Site.{Site}
use Rattle.edit_run.specs.Faults.{and_then}
use Rattle.edit_run.specs.Meaning.{do_action, do_all, meaning, do_list}

same_then : {A B : Type 0} (x : Result A EditFault) (f g : A → Result B EditFault) → ((a : A) → f a ≡ g a)
    → and_then x f ≡ and_then x g
same_then (Ok a) f g h = h a
same_then (Err e) f g h = refl

abbrev row_of : Act → (n : Count) × Row_of-Cmd n
row_of (Block' _ row) = (_, row)
row_of _ = (_, end_of-Cmd)

row_done : (n : Count) (row : Row_of-Cmd n) (t : List ℕ) (site : Site) (dot : Range) (e : Effects)
    → do_list (items-the_row-Cmd n row) t site dot e ≡ do_all (commands row) t site dot e
row_done n end_of-Cmd t site dot e = refl
row_done n (more_of-Cmd addr act rest) t site dot e =
    same_then (meaning (command (record { addr = addr; act = act })) t site dot e)
    (do_list (items-the_row-Cmd _ rest) t site dot) (do_all (commands rest) t site dot) (row_done _ rest t site dot)

pub block_done : (all : Vec Cmd Global) (t : List ℕ) (site : Site) (dot r : Range) (e : Effects)
    → do_list all.items t site r e ≡ do_action (action (Block all)) t site dot r e
block_done all t site dot r e =
    let row = row_of (Block all) in
    let same = items_hidden-the_row-Cmd-0 all in
    ap (λ (x : List Cmd). do_list x t site r e) (sym same) ∙ row_done row.0 row.1 t site r e

pub list_step : (cs : List Cmd) (t : List ℕ) (site : Site) (dot : Range) (e : Effects) (i : ℕ) (d : Cmd) → i < length cs
    → do_list (drop i cs) t site dot e ≡ and_then (meaning (command (get_or cs i d)) t site dot e)
    (do_list (drop (i + 1) cs) t site dot)
list_step cs t site dot e i d l = at_drop_more (λ (xs : List Cmd). do_list xs t site dot e) cs i d l

pub list_end : (cs : List Cmd) (t : List ℕ) (site : Site) (dot : Range) (e : Effects) (i : ℕ) → length cs ≤ i
    → do_list (drop i cs) t site dot e ≡ Ok e
list_end cs t site dot e i l = at_drop_all (λ (xs : List Cmd). do_list xs t site dot e) cs i l

pub ruleset listing = (list_step, list_end)

-- What takes changes of the ports back.
use Rattle.std.specs.Prelude.{◌-◌, List, [], ◌∷◌, take, length}
use Rattle.plumb_ports.specs.PortList.{Port, kept_of, with_kept}
use Rattle.plumb_ports.specs.declared.undo.Undo.{Undo}
use Rattle.plumb_ports.specs.declared.undo.Undo.TheVariants.{Remove, Unkeep, Restore}

-- without the newest
abbrev pub without_last : {X : Type 0} → List X → List X
without_last xs = take (length xs - 1) xs

-- a growth taken back
abbrev pub undone : Undo → List Port → List Port
undone Remove ps = without_last ps
undone (Unkeep port) ps = with_kept ps port (without_last (kept_of ps port))
undone (Restore port messages) ps = with_kept ps port messages

-- all of them, the last first
abbrev pub all_undone : List Undo → List Port → List Port
all_undone [] ps = ps
all_undone (u ∷ us) ps = undone u (all_undone us ps)

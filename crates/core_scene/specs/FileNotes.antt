-- What is noted of files that windows are read from and stored in.
use Rattle.std.specs.Prelude.{ℕ}
use Rattle.acme_watch.specs.declared.types.Op.TheVariants.{Get, Put}
use Rattle.core_scene.specs.declared.deed.Deed.{Deed}
use Rattle.core_scene.specs.declared.deed.Deed.TheVariants.{Notes}

-- a window's text was read from a file
abbrev pub read_note : ℕ → Deed
read_note w = Notes w Get

-- it was stored in one
abbrev pub stored_note : ℕ → Deed
stored_note w = Notes w Put

-- What a search reads.
use Rattle.std.specs.Prelude.{ℕ, List}
use Rattle.re_sets.specs.Readings.{Reading, forward, backward}
use Rattle.re_machine.specs.declared.way.Way.{Way}
use Rattle.re_machine.specs.declared.way.Way.TheVariants.{On, Back}

-- what a search reads that goes this way through the text
abbrev pub reading : Way → List ℕ → Reading
reading On t = forward t
reading Back t = backward t

use Rattle.std.proofs.Common.{◌≡◌, ◌+◌, ◌++◌, List, [], ◌∷◌, Some, None, length, sym, ap, ◌∙◌, subst, refl, arith}
use Rattle.std.proofs.Common.{rules}
use Rattle.std.specs.Prelude.{Result, Ok}
use Rattle.am_text.specs.Lines.{lines_of}
use Rattle.am_do.specs.Lines.{line_of, lines_from}
use Rattle.am_do.specs.Lawful.{AreLawful}
use Rattle.am_do.proofs.Read.{onto_all, onto_none, read_more, read_none, read_end, lawful_more}
use Rattle.am_do.proofs.reading.read_do_lines.Goals as goal

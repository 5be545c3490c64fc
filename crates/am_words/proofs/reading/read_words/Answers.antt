use Rattle.std.proofs.Common.{rules}
use Rattle.std.proofs.lemmas.Str.{IsUtf8-string_bytes}
use Rattle.am_words.specs.Words.{AreKnown}
use Rattle.am_words.proofs.Known.{serve_within, served_known}
use Rattle.am_words.proofs.reading.read_words.Goals as goal

pub returns-in_err-path-clause-known : goal.returns-in_err-path-clause-known
returns-in_err-path-clause-known c =
    let known : AreKnown c.args.words.now = served_known c.args.words.now c.in_err-path.ensures.known in
    search rules

pub returns-in-Some-2-clause-asked : goal.returns-in-Some-2-clause-asked
returns-in-Some-2-clause-asked c = (
  rw c.in-Some-2.is at c.in_ok-path.ensures.some,
  IsUtf8-string_bytes c.in-Some-2.field-0.path,
)

pub returns-in-Some-2-clause-limits : goal.returns-in-Some-2-clause-limits
returns-in-Some-2-clause-limits c = serve_within c.args.words.now _ _ (rw c.in-Some-2.is at c.in_ok-path.ensures.some)

pub returns-in-Some-3-clause-asked : goal.returns-in-Some-3-clause-asked
returns-in-Some-3-clause-asked c = (
  rw c.in-Some-3.is at c.in_ok-path-2.ensures.some,
  IsUtf8-string_bytes c.in-Some-3.field-0.path,
)

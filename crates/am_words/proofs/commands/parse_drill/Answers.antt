use Rattle.std.proofs.Common.{◌≡◌, ◌∙◌, ap, sym, map, is_some, codes, List, ℕ}
use Rattle.std.specs.Borrow.{Bor}
use Rattle.clap.specs.Walk.{Row}
use Rattle.clap.specs.Simple.{App, matches_of}
use Rattle.clap.specs.Takes.{takes}
use Rattle.am_words.specs.Commands.{drill}
use Rattle.am_words.proofs.Given.{drill_given, drill_number, value_there}
use Rattle.am_words.proofs.commands.parse_drill.Goals as goal

abbrev texts : List (Bor (List ℕ)) → List (List ℕ)
texts = map (λ word. word.now)

rows_are : (rows : List Row) (a : App) (words : List (List ℕ)) → rows ≡ matches_of a words
    → a ≡ drill → rows ≡ matches_of drill words
rows_are rows a words is e = is ∙ ap (λ (b : App). matches_of b words) e

pub matches_of-requires : goal.matches_of-requires
matches_of-requires c =
    ap (λ (a : App). takes a (texts c.args.words.now)) c.in_ok-drill_command.ensures
    ∙ (drill_given (texts c.args.words.now) c.requires).taken

pub value_of-requires : goal.value_of-requires
value_of-requires c =
    let given = drill_given (texts c.args.words.now) c.requires in
    value_there drill (codes "rounds") (texts c.args.words.now) _ given.number
    (rows_are _ _ _ c.in_ok-matches.ensures c.in_ok-drill_command.ensures) given.value

pub unreachable-requires : goal.unreachable-requires
unreachable-requires c =
    let is = drill_number (texts c.args.words.now) _ c.value_of.result.now c.as_bytes.result.now c.requires
    (rows_are _ _ _ c.in_ok-matches.ensures c.in_ok-drill_command.ensures) c.value_of.ensures
    c.as_bytes.ensures.value in
    let none = ap is_some (sym (is ∙ (sym c.rounds_of.ensures ∙ c.in-None.is))) ∙ c.requires in
    cc

pub returns : goal.returns
returns c =
    let is = drill_number (texts c.args.words.now) _ c.value_of.result.now c.as_bytes.result.now c.requires
    (rows_are _ _ _ c.in_ok-matches.ensures c.in_ok-drill_command.ensures) c.value_of.ensures
    c.as_bytes.ensures.value in
    is ∙ (sym c.rounds_of.ensures ∙ c.in-Some.is)

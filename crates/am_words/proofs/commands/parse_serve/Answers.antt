use Rattle.std.proofs.Common.{◌≡◌, ◌∙◌, ap, sym, map, is_some, codes, Some, List, ℕ}
use Rattle.std.specs.Borrow.{Bor}
use Rattle.clap.specs.Walk.{Row}
use Rattle.clap.specs.Simple.{App, matches_of}
use Rattle.clap.specs.Takes.{takes}
use Rattle.am_words.specs.Words.{with_clients}
use Rattle.am_words.specs.Commands.{serve}
use Rattle.am_words.proofs.Given.{path_with, serve_given, serve_parts, value_there}
use Rattle.am_words.proofs.commands.parse_serve.Goals as goal

abbrev texts : List (Bor (List ℕ)) → List (List ℕ)
texts = map (λ word. word.now)

rows_are : (rows : List Row) (a : App) (words : List (List ℕ)) → rows ≡ matches_of a words
    → a ≡ serve → rows ≡ matches_of serve words
rows_are rows a words is e = is ∙ ap (λ (b : App). matches_of b words) e

pub matches_of-requires : goal.matches_of-requires
matches_of-requires c =
    ap (λ (a : App). takes a (texts c.args.words.now)) c.in_ok-serve_command.ensures
    ∙ (serve_given (texts c.args.words.now) c.requires).taken

pub value_of-path-requires : goal.value_of-path-requires
value_of-path-requires c =
    let given = serve_given (texts c.args.words.now) c.requires in
    value_there serve (codes "path") (texts c.args.words.now) _ given.path
    (rows_are _ _ _ c.in_ok-matches.ensures c.in_ok-serve_command.ensures) given.path_value

pub value_of-requires : goal.value_of-requires
value_of-requires c =
    let given = serve_given (texts c.args.words.now) c.requires in
    value_there serve (codes "clients") (texts c.args.words.now) _ given.number
    (rows_are _ _ _ c.in_ok-matches.ensures c.in_ok-serve_command.ensures) given.number_value

pub unreachable-requires : goal.unreachable-requires
unreachable-requires c =
    let is = serve_parts (texts c.args.words.now) _ c.value_of-path.result.now c.value_of.result.now
    c.as_bytes.result.now c.requires
    (rows_are _ _ _ c.in_ok-matches.ensures c.in_ok-serve_command.ensures) c.value_of-path.ensures c.value_of.ensures
    c.as_bytes.ensures.value in
    let nothing = ap (with_clients c.value_of-path.result.now) (sym c.clients_of.ensures ∙ c.in-None.is) in
    let none = ap is_some (sym (is ∙ nothing)) ∙ c.requires in
    cc

pub returns : goal.returns
returns c =
    let is = serve_parts (texts c.args.words.now) _ c.value_of-path.result.now c.value_of.result.now
    c.as_bytes.result.now c.requires
    (rows_are _ _ _ c.in_ok-matches.ensures c.in_ok-serve_command.ensures) c.value_of-path.ensures c.value_of.ensures
    c.as_bytes.ensures.value in
    let some = ap (with_clients c.value_of-path.result.now) (sym c.clients_of.ensures ∙ c.in-Some.is) in
    let there = ap is_some (sym (is ∙ some)) ∙ c.requires in
    let path_is = c.in_ok-from_str-in-Some.ensures.ok in
    is ∙ (some ∙ (path_with c.value_of-path.result.now c.in-Some.clients there
    ∙ ap (λ (p : List ℕ). Some (p, c.in-Some.clients)) (sym path_is)))

use Rattle.std.proofs.Common.{◌≡◌, ◌-◌, ◌++◌, true, false, List, [], ◌∷◌, Option, Some, None, ℕ, sym, ap, ◌∙◌, arith}
use Rattle.std.proofs.Common.{rules}
use Rattle.am_do.specs.Fields.{is_name, first_name, after_name, names_within, names_at}
use Rattle.am_do.proofs.Named.{behind, names_more, names_end, names_none, names_few}
use Rattle.am_do.proofs.names.names_of.Goals as goal

pub returns-then-not-is_name : goal.returns-then-not-is_name
returns-then-not-is_name c =
    let is : is_name (first_name c.loop-left.rest.now) ≡ false = search rules in
    sym (names_none c.loop-left.names c.loop-left.left c.loop-left.rest.now is) ∙ c.loop-left.invariant

pub returns-in-None : goal.returns-in-None
returns-in-None c =
    let is : is_name (first_name c.loop-left.rest.now) ≡ true = search rules in
    let after : after_name c.loop-left.rest.now ≡ None = search rules in
    let pushed : c.push.new.self ≡ c.loop-left.names ++ first_name c.loop-left.rest.now ∷ [] = search rules in
    ap (λ (x : List (List ℕ)). Some x) pushed ∙ sym (names_end c.loop-left.names c.loop-left.left c.loop-left.rest.now
    (omega arith) is after) ∙ c.loop-left.invariant

pub loop-left-preserved : goal.loop-left-preserved
loop-left-preserved c =
    let is : is_name (first_name c.loop-left.rest.now) ≡ true = search rules in
    let after : after_name c.loop-left.rest.now ≡ Some c.in-Some.after.now = search rules in
    let pushed : c.push.new.self ≡ c.loop-left.names ++ first_name c.loop-left.rest.now ∷ [] = search rules in
    ap (λ (x : List (List ℕ)). behind x (names_within (c.loop-left.left - 1) c.in-Some.after.now)) pushed
    ∙ sym (names_more c.loop-left.names c.loop-left.left (c.loop-left.left - 1) c.loop-left.rest.now c.in-Some.after.now
    (omega arith) is after)
    ∙ c.loop-left.invariant

pub returns : goal.returns
returns c =
    let none : c.loop-left.left ≡ 0 = omega arith in
    sym (names_few c.loop-left.names c.loop-left.rest.now) ∙ sym (ap
    (λ (n : ℕ). behind c.loop-left.names (names_within n c.loop-left.rest.now)) none) ∙ c.loop-left.invariant

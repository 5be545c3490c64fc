use Rattle.std.proofs.Common.{◌≡◌, length}
use Rattle.re_syntax.specs.Tree.{tree}
use Rattle.edit_run.specs.Ranges.{AreMatches}
use Rattle.edit_run.specs.Replacing.{substitute}
use Rattle.edit_run.specs.Meaning.{replace_each}
use Rattle.edit_run.specs.Within.{IsWithin}
use Rattle.edit_run.proofs.acts.replace_all.Given as goal

abbrev pub invariant-loop-rest : goal.invariant-loop-rest
invariant-loop-rest g l =
    let t = g.T.Letters.letters l.over.text.now in
    let text = substitute (tree l.re) t l.with in
    record {
      matches : AreMatches (tree l.re) t l.rest;
      within : IsWithin t l.effects;
      same : replace_each text l.rest l.effects ≡ replace_each text l.spans l.fn.effects;
    }

abbrev pub decreases-loop-rest : goal.decreases-loop-rest
decreases-loop-rest g l = length l.rest

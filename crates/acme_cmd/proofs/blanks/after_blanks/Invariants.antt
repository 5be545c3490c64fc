use Rattle.std.proofs.Common.{◌≡◌, ◌≤◌, length}
use Rattle.acme_cmd.specs.Blanks.{after_blanks}
use Rattle.acme_cmd.proofs.blanks.after_blanks.Given as goal

abbrev pub invariant-loop-rest : goal.invariant-loop-rest
invariant-loop-rest l = record {
  told : after_blanks l.rest ≡ after_blanks l.text;
  inside : length l.rest ≤ length l.text;
}

abbrev pub decreases-loop-rest : goal.decreases-loop-rest
decreases-loop-rest l = length l.rest

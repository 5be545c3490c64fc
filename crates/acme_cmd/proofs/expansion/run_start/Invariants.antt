use Rattle.std.proofs.Common.{◌≡◌, ◌+◌, ◌≤◌, take}
use Rattle.std.specs.List.{suffix_len}
use Rattle.acme_cmd.specs.Expansion.{is_over}
use Rattle.acme_cmd.proofs.expansion.run_start.Given as goal

abbrev pub invariant-loop-start : goal.invariant-loop-start
invariant-loop-start g l = record {
  inside : l.start ≤ l.at;
  told : l.start + suffix_len (is_over l.click) (take l.at (g.T.Letters.letters l.text)) ≡ l.at + suffix_len
      (is_over l.click) (take l.start (g.T.Letters.letters l.text));
}

abbrev pub decreases-loop-start : goal.decreases-loop-start
decreases-loop-start g l = l.start

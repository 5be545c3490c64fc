use Rattle.std.proofs.Common.{◌≡◌, ◌+◌, ◌-◌, ◌≤◌, drop}
use Rattle.std.specs.List.{prefix_len}
use Rattle.acme_cmd.specs.Expansion.{is_over}
use Rattle.acme_cmd.proofs.expansion.run_end.Given as goal

abbrev pub invariant-loop-end : goal.invariant-loop-end
invariant-loop-end g l = record {
  inside : l.end ≤ l.length;
  told : l.at + prefix_len (is_over l.click) (drop l.at (g.T.Letters.letters l.text)) ≡ l.end + prefix_len
      (is_over l.click) (drop l.end (g.T.Letters.letters l.text));
}

abbrev pub decreases-loop-end : goal.decreases-loop-end
decreases-loop-end g l = l.length - l.end

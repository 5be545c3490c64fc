use Rattle.std.proofs.Common.{◌≤◌, ◌<◌, ◌-◌, ◌≡◌, ℕ, true}
use Rattle.ninep_client.specs.Asking.{is_asked}
use Rattle.ninep_client.proofs.asked.free_tag.Given as goal

abbrev pub invariant-loop-tag : goal.invariant-loop-tag
invariant-loop-tag l = record {
  low : 1 ≤ l.tag;
  high : l.tag ≤ 1024;
  all : (less : ℕ) → less < l.tag → 1 ≤ less → is_asked less l.asked ≡ true;
}

abbrev pub decreases-loop-tag : goal.decreases-loop-tag
decreases-loop-tag l = 1024 - l.tag

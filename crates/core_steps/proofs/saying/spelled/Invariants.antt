use Rattle.std.proofs.Common.{◌≡◌, ◌++◌, drop}
use Rattle.core_steps.specs.Replies.{replies_of}
use Rattle.core_outputs.specs.Unsent.{HaveBytes}
use Rattle.core_steps.proofs.saying.spelled.Given as goal

abbrev pub invariant-loop-response : goal.invariant-loop-response
invariant-loop-response l = record {
  exact : l.replies.items ++ replies_of (drop l.response-index l.said) ≡ replies_of l.said;
  some : HaveBytes l.replies.items;
}

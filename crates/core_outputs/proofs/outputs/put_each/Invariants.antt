use Rattle.std.proofs.Common.{◌≡◌, map, drop}
use Rattle.core_outputs.specs.Unsent.{put_replies, present_of, kept_of, IsTouched}
use Rattle.core_outputs.proofs.outputs.put_each.Given as goal

abbrev pub invariant-loop-reply : goal.invariant-loop-reply
invariant-loop-reply l = record {
  present : put_replies (map present_of l.all) (drop l.reply-index l.replies)
      ≡ put_replies (map present_of l.initial.all) l.replies;
  kept : map kept_of l.all ≡ map kept_of l.initial.all;
  touched : IsTouched l.touched l.all;
}

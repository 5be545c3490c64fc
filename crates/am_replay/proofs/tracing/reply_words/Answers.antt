use Rattle.std.proofs.Common.{◌≤◌, List, ℕ, length, subst, arith}
use Rattle.am_journal.specs.Lawful.{AreBytes}
use Rattle.am_replay.proofs.tracing.reply_words.Goals as goal

pub returns-in_ok-push-in-Ok-clause-worded : goal.returns-in_ok-push-in-Ok-clause-worded
returns-in_ok-push-in-Ok-clause-worded c =
    let P : List ℕ → Type 0 = λ l. length l ≤ 65560 in
    record {
      message = c.in-Ok.message;
      lawful = record {
        conn = omega arith;
        fits = c.in-Ok.ensures.found.0;
        short = subst P c.in-Ok.ensures.found.1
            (omega arith);
      };
      in_range = record {
        numbers = c.in-Ok.ensures.in_range;
        bytes = subst AreBytes c.in-Ok.ensures.found.1
            (λ i. omega (arith, c.type_inv.bytes i));
      };
      bytes = c.in-Ok.ensures.found.1;
    }

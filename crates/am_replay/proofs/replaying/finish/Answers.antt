use Rattle.std.proofs.Common.{inl, inr, refl, sym, subst, List, ℕ}
use Rattle.am_replay.specs.Playing.{EndText}
use Rattle.am_replay.proofs.replaying.finish.Goals as goal

pub returns-in-Ok-clause-ends : goal.returns-in-Ok-clause-ends
returns-in-Ok-clause-ends g c =
    let P : List ℕ → Type 0 = λ x. EndText c.args.played.stop c.args.core.journal x in
    inl (record {
      text = c.as_slice.result.now;
      failed_now = c.put-failed.result;
      told = subst P (sym c.as_slice.ensures) c.in-Ok.ensures;
      put = c.put-failed.ensures;
      is = c.end_at.ensures;
    })

pub returns-in-Err-clause-ends : goal.returns-in-Err-clause-ends
returns-in-Err-clause-ends g c = inr (refl, refl)

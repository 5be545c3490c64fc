use Rattle.std.proofs.Common.{◌≡◌, ℕ, true, false, not, Option, None, sym, ap, ◌∙◌, subst, refl, arith, rules}
use Rattle.am_base.specs.Seen.{Seen, seen}
use Rattle.std.specs.Prelude.{is_some}
use Rattle.std.proofs.lemmas.Bool.{false≢true}
use Rattle.ninep_client.specs.Asking.{Talk, reply_place}
use Rattle.ninep_client.specs.Calls.{WaitFails, closes}
use Rattle.ninep_client.proofs.Streams.{wait_fails}
use Rattle.ninep_client.proofs.client.Client.wait.Goals as goal
use Rattle.ninep_client.proofs.client.Client.wait.Goals.{else-self-via-then-self+else-is_none, else-self-via-else-self}

pub returns-in-Err-clause-err : goal.returns-in-Err-clause-err
returns-in-Err-clause-err g c =
    let t : Talk = record {
      unread = c.self.inside.unread;
      asked = c.self.inside.asked.items;
      msize =
          c.self.inside.msize;
      is_closed = c.self.inside.is_closed;
    } in
    let after : Talk = record {
      unread = c.bring.new.unread;
      asked = c.bring.new.asked.items;
      msize =
          c.self.inside.msize;
      is_closed = c.closes-self-inside.result;
    } in
    let i : Seen = seen (g.R.Source.told c.self.inside.source) (g.R.Source.told c.bring.new.source) in
    let live : c.self.inside.is_closed ≡ false = elim c.else-self.branch [
      | else-self-via-then-self+else-is_none w ↦ absurd (false≢true
          (sym (ap is_some (w.reply_place.ensures ∙ ap (reply_place c.args.tag) w.as_slice.ensures
          ∙ c.in-Err.ensures.first)) ∙ w.is_none.ensures ∙ ap not w.if-is_none.false))
      | else-self-via-else-self w ↦ w.if-self.false
    ] in
    let fails : WaitFails c.in-Err.fault c.args.tag t i after = wait_fails c.in-Err.fault c.args.tag t i after (record {
      live = live;
      hears = c.in-Err.ensures.hears;
      none = c.in-Err.ensures.none;
      cause = c.in-Err.ensures.err;
      state = ap (λ (b : _). let s : Talk = record {
        unread = after.unread;
        asked = after.asked;
        msize = t.msize;
        is_closed = b;
      } in s) c.closes-self-inside.ensures;
    }) in
    subst (λ (s : _). WaitFails c.in-Err.fault c.args.tag s.talk (seen (g.R.Source.told s.source)
    (g.R.Source.told c.bring.new.source)) after) c.self.view_is fails

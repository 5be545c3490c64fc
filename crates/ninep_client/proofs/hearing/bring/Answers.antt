use Rattle.std.proofs.Common.{◌≡◌, true, None, sym, ap, ◌∙◌, subst, refl, arith, rules}
use Rattle.std.specs.Prelude.{is_some}
use Rattle.ninep_client.specs.Asking.{reply_place}
use Rattle.ninep_client.proofs.Streams.{hears_none, hears_more, hears_came, first_none}
use Rattle.ninep_client.proofs.hearing.bring.Goals as goal

pub messages-init : goal.messages-init
messages-init g c = record {
  later = omega arith;
  hears = hears_none c.args.tag c.args.asked.now.items c.args.unread.now (g.R.Source.told c.args.source.now).bytes;
  kept = λ h. refl;
  unread = λ h. refl;
}

pub messages-preserved : goal.messages-preserved
messages-preserved g c =
    let none : reply_place c.args.tag c.messages.asked.items ≡ None = search rules in
    record {
      later = omega arith;
      hears = hears_more c.args.tag c.args.asked.now.items c.messages.asked.items c.hear.new.asked.items
          c.args.unread.now c.messages.unread c.hear.new.unread
          (g.R.Source.told c.args.source.now).bytes (g.R.Source.told c.messages.source).bytes
          (g.R.Source.told c.hear.new.source).bytes c.messages.invariant.hears none c.in_default-hear.ensures.ok;
      kept = λ h. absurd (let first = first_none c.args.tag c.args.asked.now.items c.messages.asked.items
          c.messages.invariant.kept none in let no = sym (ap is_some first) ∙ h in cc);
      unread = λ h. absurd (let first = first_none c.args.tag c.args.asked.now.items c.messages.asked.items
          c.messages.invariant.kept none in let no = sym (ap is_some first) ∙ h in cc);
    }

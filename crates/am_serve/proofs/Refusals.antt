-- Messages that are refused.
use Rattle.std.proofs.Common.{◌≡◌, ℕ, Bool, true, false, List, Option, Some, Ok, subst}
use Rattle.ninep_types.specs.declared.message.TMsg.{TMsg}
use Rattle.ninep_types.specs.Reading.{t_of}
use Rattle.am_journal.specs.declared.event.Event.TheVariants.{Msg}
use Rattle.am_journal.specs.declared.event.Why.{Why}
use Rattle.am_journal.specs.declared.event.Why.TheVariants as why
use Rattle.am_counter.specs.Known.{Known, Looks}
use Rattle.am_counter.specs.Played.{IsPlayed, has_dial, IsMessageWhy}
use Rattle.am_serve.specs.Gained.{Rule}
use Rattle.am_serve.specs.Sending.{Tries, sent_for}

not_dialled : (b : Bool) → b ≡ true → b ≡ false → ⊥
not_dialled true e f = cc
not_dialled false e f = cc

-- what comes of a message that isn't enabled
pub refused_is : (enabled : Rule) (conn : ℕ) (v w : Known) (m : List ℕ) (msg : TMsg) (reason : Why) → Looks v w
    → IsPlayed enabled w.seen → t_of m ≡ Ok msg → has_dial w.seen conn ≡ true
    → enabled w.seen (Msg conn msg) ≡ Some reason → IsMessageWhy w.seen conn (enabled w.seen (Msg conn msg))
    → Tries enabled conn v m (sent_for reason) w
refused_is enabled conn v w m msg reason l played read dialled e law =
    let P : Option Why → Type 0 = λ o. IsMessageWhy w.seen conn o in
    by_cases reason e (subst P e law)
  where
    by_cases : (reason : Why) → enabled w.seen (Msg conn msg) ≡ Some reason → IsMessageWhy w.seen conn (Some reason)
        → Tries enabled conn v m (sent_for reason) w
    by_cases why.Conn e h = absurd (not_dialled (has_dial w.seen conn) dialled h)
    by_cases why.Dialed e h = absurd h
    by_cases why.Ended e h = (l, (h, played))
    by_cases why.Size e h = (l, (msg, read, e))
    by_cases why.Tag e h = (l, (msg, read, e))
    by_cases why.Replies e h = l
    by_cases why.Nothing e h = absurd h
    by_cases why.Window e h = absurd h
    by_cases why.Range e h = absurd h
    by_cases why.Windows e h = absurd h
    by_cases why.Length e h = absurd h
    by_cases why.Tree e h = absurd h

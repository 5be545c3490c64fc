-- What is said, one after another, and its bytes.
use Rattle.std.proofs.Common.{◌≡◌, List, [], ◌∷◌, ◌++◌, sym, subst}
use Rattle.std.proofs.lemmas.List.Elements.{All-push, All-nil}
use Rattle.core_events.proofs.Saids.{both_said, one_said, none_said}
use Rattle.core_outputs.specs.declared.reply.Reply.{Reply}
use Rattle.core_outputs.specs.Unsent.{HasBytes, HaveBytes}

pub ruleset saying = (both_said, one_said, none_said)

pub bytes_more : (replies next : List Reply) (r : Reply) → HaveBytes replies → HasBytes r → next ≡ replies ++ r ∷ []
    → HaveBytes next
bytes_more replies next r h k e = subst HaveBytes (sym e) (All-push HasBytes replies r h k)

pub no_bytes : (replies : List Reply) → replies ≡ [] → HaveBytes replies
no_bytes replies e = subst HaveBytes (sym e) (All-nil HasBytes)

pub ruleset bytes = (bytes_more, no_bytes)

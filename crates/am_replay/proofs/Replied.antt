-- Replies, one further.
use Rattle.std.proofs.Common.{◌≡◌, ℕ, zero, suc, ◌+◌, ◌<◌, List, [], ◌∷◌, ◌++◌, length, take, get_or, Some, None, refl}
use Rattle.std.proofs.Common.{sym, ap, ◌∙◌, append_assoc}
use Rattle.std.specs.Prelude.{slice_get}
use Rattle.std.specs.List.{flat_map, fold}
use Rattle.std.proofs.lemmas.List.{append-nil, take_more}
use Rattle.std.proofs.lemmas.Grind.{flat_map-append, fold-append}
use Rattle.std.proofs.lemmas.Option.{slice_get_within, get_or_from_slice_get}
use Rattle.am_journal.specs.declared.event.Event.{Event}
use Rattle.am_journal.specs.declared.event.Journal.{Journal}
use Rattle.am_journal.specs.Journal.{longer}
use Rattle.core_outputs.specs.declared.reply.Reply.{Reply}
use Rattle.acme_core.specs.Run.{step, run}
use Rattle.core_parts.specs.States.{State, start_of}
use Rattle.am_replay.specs.Scripts.{reply_line, reply_lines, replied_from, replied}

-- one reply more
pub line_more : (rs : List Reply) (k : ℕ) (r : Reply) → slice_get rs k ≡ Some r
    → flat_map reply_line (take (k + 1) rs) ≡ flat_map reply_line (take k rs) ++ reply_line r
line_more rs k r h =
    let within : k < length rs = slice_get_within rs k r h in
    let here : get_or rs k r ≡ r = get_or_from_slice_get rs k r r h in
    ap (flat_map reply_line) (take_more rs k r within) ∙ flat_map-append reply_line (take k rs) (get_or rs k r ∷ [])
    ∙ ap (λ (x : List ℕ). flat_map reply_line (take k rs) ++ x) (append-nil (reply_line (get_or rs k r))
    ∙ ap reply_line here)

none_more : (rs : List Reply) (k : ℕ) → slice_get rs k ≡ None → take k rs ≡ rs
none_more [] zero h = refl
none_more [] (suc k) h = refl
none_more (r ∷ rs) zero h = absurd cc
none_more (r ∷ rs) (suc k) h = ap (λ (x : List Reply). r ∷ x) (none_more rs k h)

pub lines_done : (rs : List Reply) (k : ℕ) → slice_get rs k ≡ None → flat_map reply_line
    (take k rs) ≡ flat_map reply_line rs
lines_done rs k h = ap (flat_map reply_line) (none_more rs k h)

pub ruleset lines_more = (line_more, lines_done)

pub replied-append : (s : State) (a b : List Event) → replied_from s (a ++ b) ≡ replied_from s a
    ++ replied_from (fold step s a) b
unfolding replied_from
replied-append s [] b = refl
replied-append s (e ∷ a) b = ap (λ (x : List ℕ). reply_lines (step s e).replies ++ x) (replied-append (step s e) a b)
    ∙ sym (append_assoc (reply_lines (step s e).replies) (replied_from (step s e) a)
    (replied_from (fold step (step s e) a) b))

-- the replies of one event more
pub replied-push : (journal : Journal) (e : Event) → replied (longer journal e) ≡ replied journal
    ++ reply_lines (run (longer journal e)).replies
unfolding replied_from run
replied-push journal e =
    let start = start_of journal.format in
    replied-append start journal.events (e ∷ [])
    ∙ ap (λ (x : List ℕ). replied_from start journal.events ++ x) (append-nil
    (reply_lines (step (fold step start journal.events) e).replies) ∙ ap (λ (s : State). reply_lines s.replies)
    (sym (fold-append step start journal.events (e ∷ []))))

-- Replies, counted event by event.
use Rattle.std.proofs.Common.{◌≡◌, ℕ, zero, suc, ◌+◌, ◌^◌, ◌<◌, ◌≤◌, List, [], ◌∷◌, ◌++◌, length, take, get_or, Some}
use Rattle.std.proofs.Common.{None, refl, sym, ap, subst, ◌∙◌, arith, append_assoc}
use Rattle.std.specs.Prelude.{slice_get, sum_by}
use Rattle.std.specs.List.{fold}
use Rattle.std.proofs.lemmas.Grind.{fold-append}
use Rattle.std.proofs.lemmas.List.{append-nil, take_more, length-append}
use Rattle.std.proofs.lemmas.List.Sums.{sum_by-append, sum_by_push, sum_by_more_le}
use Rattle.std.proofs.lemmas.Option.{slice_get_within, get_or_from_slice_get}
use Rattle.am_journal.specs.declared.event.Event.{Event}
use Rattle.am_journal.specs.declared.event.Format.TheVariants.{One}
use Rattle.am_journal.specs.declared.event.Journal.{Journal}
use Rattle.am_journal.specs.Journal.{journal_in, longer}
use Rattle.core_outputs.specs.declared.reply.Reply.{Reply}
use Rattle.acme_core.specs.Run.{step, run}
use Rattle.core_parts.specs.States.{State, start_of}
use Rattle.am_drill.specs.declared.counting.Count.{Count}
use Rattle.am_drill.specs.Brief.{IsBrief, IsNext, IsCounted}
use Rattle.am_drill.specs.Summary.{bytes_in, replies_from, replies_of, count_of, count_at}

-- ---- the replies of one entry, one after another

first_more : (rs : List Reply) (k : ℕ) (r : Reply) → slice_get rs k ≡ Some r → take (k + 1) rs ≡ take k rs ++ r ∷ []
first_more rs k r h =
    let within : k < length rs = slice_get_within rs k r h in
    let here : get_or rs k r ≡ r = get_or_from_slice_get rs k r r h in
    take_more rs k r within ∙ ap (λ (x : Reply). take k rs ++ x ∷ []) here

-- one reply more
pub one_more : (rs : List Reply) (k : ℕ) (r : Reply) → slice_get rs k ≡ Some r
    → sum_by bytes_in (take (k + 1) rs) ≡ sum_by bytes_in (take k rs) + length r.bytes
one_more rs k r h = ap (sum_by bytes_in) (first_more rs k r h) ∙ sum_by_push bytes_in (take k rs) r

-- it is one of them, and its bytes are among theirs
pub one_within : (rs : List Reply) (k : ℕ) (r : Reply) → slice_get rs k ≡ Some r → (k < length rs)
    × (sum_by bytes_in (take k rs) + length r.bytes ≤ sum_by bytes_in rs)
one_within rs k r h =
    let within : k < length rs = slice_get_within rs k r h in
    let here : get_or rs k r ≡ r = get_or_from_slice_get rs k r r h in
    (within, omega (arith, sum_by_more_le bytes_in rs k r within, ap bytes_in here))

none_more : (rs : List Reply) (k : ℕ) → slice_get rs k ≡ None → (length rs ≤ k) × (take k rs ≡ rs)
none_more [] zero h = (omega arith, refl)
none_more [] (suc k) h = (omega arith, refl)
none_more (r ∷ rs) zero h = absurd cc
none_more (r ∷ rs) (suc k) h = (
  omega (arith, (none_more rs k h).0),
  ap (λ (x : List Reply). r ∷ x) (none_more rs k h).1,
)

-- all of them were counted
pub all_counted : (rs : List Reply) (k bytes : ℕ) → slice_get rs k ≡ None → k ≤ length rs
    → bytes ≡ sum_by bytes_in (take k rs) → record { replies = k; bytes = bytes } ≡ count_of rs
all_counted rs k bytes h within is =
    let none = none_more rs k h in
    let same : k ≡ length rs = omega (arith, none.0) in
    ap (λ (n : ℕ). record { replies = n; bytes = bytes }) same
    ∙ ap (λ (n : ℕ). record { replies = length rs; bytes = n }) (is ∙ ap (sum_by bytes_in) none.1)

-- ---- event by event

replies-append : (s : State) (a b : List Event) → replies_from s (a ++ b) ≡ replies_from s a
    ++ replies_from (fold step s a) b
unfolding replies_from
replies-append s [] b = refl
replies-append s (e ∷ a) b = ap (λ (x : List Reply). (step s e).replies ++ x) (replies-append (step s e) a b)
    ∙ sym (append_assoc (step s e).replies (replies_from (step s e) a) (replies_from (fold step (step s e) a) b))

-- the replies of one event more
pub replies-push : (journal : Journal) (e : Event) → replies_of (longer journal e) ≡ replies_of journal
    ++ (run (longer journal e)).replies
unfolding replies_from run
replies-push journal e =
    let start = start_of journal.format in
    replies-append start journal.events (e ∷ [])
    ∙ ap (λ (x : List Reply). replies_from start journal.events ++ x)
    (append-nil (step (fold step start journal.events) e).replies
    ∙ ap (λ (s : State). s.replies) (sym (fold-append step start journal.events (e ∷ []))))

pub count_pushed : (count more : Count) (journal : Journal) (e : Event) → IsCounted count journal
    → IsBrief (run (longer journal e)).replies → more ≡ count_of (run (longer journal e)).replies
    → IsCounted (record { replies = count.replies + more.replies; bytes = count.bytes + more.bytes })
    (longer journal e)
count_pushed count more journal e was brief is =
    let rs : List Reply = (run (longer journal e)).replies in
    let old : count ≡ count_at journal = was.exact in
    let more_replies : more.replies ≡ length rs = ap (λ (c : Count). c.replies) is in
    let more_bytes : more.bytes ≡ sum_by bytes_in rs = ap (λ (c : Count). c.bytes) is in
    let old_replies : count.replies ≡ length (replies_of journal) = ap (λ (c : Count). c.replies) old in
    let old_bytes : count.bytes ≡ sum_by bytes_in (replies_of journal) = ap (λ (c : Count). c.bytes) old in
    let entries : length (longer journal e).events ≡ length journal.events + 1 =
    length-append journal.events (e ∷ []) in
    let all_replies : count.replies + more.replies ≡ length (replies_of (longer journal e)) =
    omega (
      arith,
      old_replies,
      more_replies,
      ap (λ (l : List Reply). length l) (replies-push journal e),
      length-append (replies_of journal) rs,
    )
    in
    let all_bytes : count.bytes + more.bytes ≡ sum_by bytes_in (replies_of (longer journal e)) =
    omega (
      arith,
      old_bytes,
      more_bytes,
      ap (sum_by bytes_in) (replies-push journal e),
      sum_by-append bytes_in (replies_of journal) rs,
    )
    in
    record {
      exact = ap (λ (n : ℕ). record { replies = n; bytes = count.bytes + more.bytes }) all_replies
          ∙ ap (λ (n : ℕ). record { replies = length (replies_of (longer journal e)); bytes = n }) all_bytes;
      few = omega (arith, was.few, brief.few, more_replies, entries);
      bytes = omega (arith, was.bytes, brief.bytes, more_bytes, entries);
    }

-- none of none
pub none_counted : (journal : Journal) → journal ≡ journal_in One []
    → IsCounted (record { replies = 0; bytes = 0 }) journal
unfolding replies_from
none_counted journal empty = subst (λ (j : Journal). IsCounted (record { replies = 0; bytes = 0 }) j) (sym empty)
    (record { exact = refl; few = omega arith; bytes = omega arith })

-- ---- after a step

pub brief_at : (before now : Journal) (e : Event) → IsNext before e → now ≡ longer before e
    → IsBrief (run now).replies
brief_at before now e next is = subst (λ (j : Journal). IsBrief (run j).replies) (sym is) next.brief

pub counted_at : (before now : Journal) (e : Event) (count more : Count) → IsNext before e → IsCounted count before
    → now ≡ longer before e → more ≡ count_of (run now).replies
    → IsCounted (record { replies = count.replies + more.replies; bytes = count.bytes + more.bytes }) now
counted_at before now e count more next was is said =
    subst (λ (j : Journal). IsCounted (record {
      replies = count.replies + more.replies;
      bytes =
          count.bytes + more.bytes;
    }) j) (sym is)
    (count_pushed count more before e was next.brief (said ∙ ap (λ (j : Journal). count_of (run j).replies) is))

-- no count wraps
pub counts_fit : (before now : Journal) (e : Event) (count more : Count) → IsNext before e → IsCounted count before
    → now ≡ longer before e → more ≡ count_of (run now).replies
    → (count.replies + more.replies < 2 ^ 64) × (count.bytes + more.bytes < 2 ^ 64)
counts_fit before now e count more next was is said =
    let brief : IsBrief (run now).replies = brief_at before now e next is in
    let more_replies : more.replies ≡ length (run now).replies = ap (λ (c : Count). c.replies) said in
    let more_bytes : more.bytes ≡ sum_by bytes_in (run now).replies = ap (λ (c : Count). c.bytes) said in (
      omega (arith, more_replies, brief.few, was.few, next.short),
      omega (
        arith,
        more_bytes,
        brief.bytes,
        was.bytes,
        next.short,
      ),
    )

-- All laws of a journal of the editor.
use Rattle.std.proofs.Common.{◌≡◌, ℕ, eqb, ◌&&◌, Bool, true, false, List, [], ◌∷◌, ◌++◌, All, inl, inr, None, refl, sym}
use Rattle.std.proofs.Common.{ap, subst, ◌∙◌, arith, append_assoc}
use Rattle.std.specs.List.{Contains, list_any}
use Rattle.std.proofs.lemmas.Bool.{eqb-true, false≢true}
use Rattle.am_journal.specs.declared.event.Event.{Event}
use Rattle.ninep_types.specs.declared.message.TBody.TheVariants as t
use Rattle.win_text.specs.Laws.{RangesAreInside}
use Rattle.fid_table.specs.declared.session.Waiting.{Waiting}
use Rattle.fid_table.specs.Tables.{is_waiting}
use Rattle.core_windows.specs.WindowLaws.{NumbersStay}
use Rattle.core_scene.specs.SceneLaws.{DeedsShow}
use Rattle.acme_core.proofs.Goes.{groups_numbered}
use Rattle.acme_core.specs.Laws.{EachIsAnswered}
use Rattle.acme_core.specs.Run.{enabled, run, present_after, AreEnabled}
use Rattle.core_events.specs.declared.response.Response.{Response}
use Rattle.core_laws.specs.Journals.{FlushedTagsAreSilent, FlushedReadsGetNothing, NothingBehindHangUps}
use Rattle.core_laws.specs.Journals.{JournalsAreLawful}
use Rattle.core_laws.specs.Laws.{IsFree}
use Rattle.core_laws.specs.Saying.{said_after, said_from, is_told, flush_of, flushed}
use Rattle.core_laws.proofs.Answered.{messages_answered}
use Rattle.core_laws.proofs.Beginnings.{groups_begun}
use Rattle.core_laws.proofs.Ends.{get_all, nothing_after}
use Rattle.core_laws.proofs.Executed.{executed_moves}
use Rattle.core_laws.proofs.Flushes.{each_flush, none_can, nothing_to_a_flushed, replies_said}
use Rattle.core_laws.proofs.Moves.{moves_whole}
use Rattle.core_laws.proofs.Playing.{played_first, played_parts, goes_on, PlaysOn}
use Rattle.core_laws.proofs.Refused.{refusals_exact}
use Rattle.core_laws.proofs.Sessions.{flushes_answered}
use Rattle.core_laws.proofs.Tied.{waits_tied, tags_apart}
use Rattle.core_laws.proofs.Versions.{tag_or_version}
use Rattle.core_laws.proofs.WriteBacks.{acted_once}
use Rattle.core_laws.proofs.Unsents.{sent_or_unsent}
use Rattle.core_laws.proofs.Windows.{possible_prefix, all_lawful, histories}
use Rattle.am_journal.specs.declared.event.Journal.{Journal}
use Rattle.am_journal.specs.Journal.{longer, journal_in}
use Rattle.core_laws.specs.Fronts.{followed, IsFront}

-- the events of a beginning were enabled, too
played_prefix : (before journal : Journal) → IsFront before journal → AreEnabled journal
    → AreEnabled before
played_prefix before journal front played = (played_parts before front.0
    (subst AreEnabled (sym front.1) played)).0

-- the front of a journal up to an entry and some behind it
silent_by : (journal : Journal) → AreEnabled journal → FlushedTagsAreSilent journal
silent_by journal played before middle behind conn tag oldtag is said none =
    let e : Event = flush_of conn tag oldtag in
    let whole : followed (followed before (e ∷ middle)) behind ≡ journal =
    ap (journal_in before.format) (append_assoc before.events (e ∷ middle) behind) ∙ is
    in
    let parts : AreEnabled (followed before (e ∷ middle)) × PlaysOn (followed before (e ∷ middle)) behind =
    played_parts (followed before (e ∷ middle)) behind (subst AreEnabled (sym whole) played)
    in
    let both : IsFree (followed before (e ∷ middle)) conn oldtag × All (λ x. is_told conn oldtag x ≡ false)
    (said_from (longer before e) middle) =
    nothing_to_a_flushed before middle conn tag oldtag parts.0 said none
    in
    record {
      free = subst (λ (l : Journal). IsFree l conn oldtag) (sym (goes_on before e middle)) both.0;
      said = both.1;
    }

-- ---- a read that is flushed

and_no : (a : Bool) → (a && false) ≡ false
and_no true = refl
and_no false = refl

-- a tag with which a read waits isn't one with which none does
other_tag : (conn tag oldtag : ℕ) (ws : List Waiting) → list_any (is_waiting conn tag) ws ≡ false →
    list_any (is_waiting conn oldtag) ws ≡ true
    → is_told conn oldtag (flushed conn tag) ≡ false
other_tag conn tag oldtag ws free waits =
    elim (eqb tag oldtag) as (λ b. eqb tag oldtag ≡ b → (eqb conn conn && b) ≡ false) [
      | true ↦ λ e. absurd (false≢true (sym (subst (λ (t : ℕ). list_any (is_waiting conn t) ws ≡ false)
          (eqb-true tag oldtag e) free) ∙ waits))
      | false ↦ λ e. and_no (eqb conn conn)
    ] refl

-- the tag of a Tflush that was enabled is no waiting read's
own_tag : (before : Journal) (conn tag oldtag : ℕ) → enabled before (flush_of conn tag oldtag) ≡ None →
    list_any (is_waiting conn tag) (run before).tables.waiting ≡ false
own_tag before conn tag oldtag allowed =
    elim (tag_or_version (present_after before) conn (record { tag = tag; body = t.Flush oldtag }) allowed) as
    (λ z. list_any (is_waiting conn tag) (run before).tables.waiting ≡ false) [
      | inl free ↦ free
      | inr version ↦ absurd (false≢true version)
    ]

flushed_by : (journal : Journal) → AreEnabled journal → FlushedReadsGetNothing journal
flushed_by journal played before middle behind conn tag oldtag is waits none =
    let e : Event = flush_of conn tag oldtag in
    let alone : said_after before e ≡ flushed conn tag ∷ [] = flushes_answered before conn tag oldtag waits in
    let parts : AreEnabled before × PlaysOn before (e ∷ (middle ++ behind)) =
    played_parts before (e ∷ (middle ++ behind)) (subst AreEnabled (sym is) played)
    in
    let allowed : enabled before e ≡ None = (played_first before (middle ++ behind) e parts.1).0 in
    record {
      alone = alone;
      other = other_tag conn tag oldtag (run before).tables.waiting (own_tag before conn tag oldtag allowed) waits;
      silent = silent_by journal played before middle behind conn tag oldtag is
          (subst (λ (xs : List Response). Contains xs (flushed conn tag)) (sym alone) (0, omega arith, refl)) none;
    }

-- ---- behind a hang-up

hung_by : (journal : Journal) → AreEnabled journal → NothingBehindHangUps journal
hung_by journal played before conn small front hung = record {
  replied = nothing_after before journal conn small played front hung;
  sent_all = λ none. get_all before journal conn small played front hung none;
}

pub all_laws : DeedsShow → RangesAreInside → NumbersStay → EachIsAnswered → JournalsAreLawful
all_laws show inside numbers answers journal is = record {
  windows = λ before front. all_lawful show before (possible_prefix before journal front is.possible);
  histories = λ before front. histories inside before (all_lawful show before
      (possible_prefix before journal front is.possible));
  groups = λ before front. groups_numbered numbers before;
  begun = λ before front. groups_begun before;
  moves = moves_whole show journal is.possible;
  executed = executed_moves journal;
  waiting = λ before front. waits_tied before (played_prefix before journal front is.played);
  tags = λ before front. tags_apart before (played_prefix before journal front is.played);
  answered = messages_answered answers journal is.played;
  refused = refusals_exact journal;
  said = λ before behind e at. replies_said before e;
  flushes = λ before behind conn tag oldtag at. each_flush before conn tag oldtag;
  flushed_reads = flushed_by journal is.played;
  silent = silent_by journal is.played;
  acted = acted_once journal;
  replied = λ conn low. sent_or_unsent journal conn low;
  hung_up = hung_by journal is.played;
  idle = λ before front. none_can before;
}

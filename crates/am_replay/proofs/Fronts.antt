-- Fronts of journals and of texts.
use Rattle.std.proofs.Common.{◌≡◌, inl, inr, ℕ, ◌+◌, Bool, true, false, cond, List, [], ◌∷◌, ◌++◌, Option, Some, None}
use Rattle.std.proofs.Common.{length, refl, sym, ap, subst, ◌∙◌, append_assoc, arith}
use Rattle.std.specs.List.{fold}
use Rattle.std.proofs.lemmas.List.{length-append}
use Rattle.am_journal.specs.declared.event.Event.{Event}
use Rattle.am_journal.specs.declared.event.Journal.{Journal}
use Rattle.am_journal.specs.declared.event.Why.{Why}
use Rattle.am_journal.specs.Journal.{journal_in, longer, is_report}
use Rattle.am_journal.specs.Line.{event_of}
use Rattle.core_laws.specs.Fronts as fronts
use Rattle.core_laws.proofs.Playing.{none_more}
use Rattle.acme_core.specs.Run.{step, enabled}
use Rattle.core_parts.specs.States.{start_of}
use Rattle.am_replay.specs.Scripts.{Script, none_read, play, play_line, play_event, ended, replied, replied_from}
use Rattle.am_replay.specs.Scripts.{text_of, end_of}
use Rattle.am_replay.specs.Written.{IsFront, IsPart, IsCaughtUp}
use Rattle.am_replay.proofs.Replied.{replied-append}

pub front_whole : (journal : Journal) → fronts.IsFront journal journal
front_whole journal = ([], none_more journal)

pub part_whole : (journal : Journal) → IsPart journal journal
part_whole journal = inr (front_whole journal)

front_less : (journal whole : Journal) (e : Event) → fronts.IsFront (longer journal e) whole
    → fronts.IsFront journal whole
front_less journal whole e f =
    ((e ∷ []) ++ f.0, ap (journal_in journal.format) (sym (append_assoc journal.events (e ∷ []) f.0)) ∙ f.1)

-- the events that were done before are a front of all
pub play_front : (ls : List (List ℕ)) (journal : Journal) (k : ℕ) → fronts.IsFront journal (play journal k ls).journal
unfolding play
play_front [] journal k = front_whole journal
play_front (l ∷ ls) journal k =
    let on : (e : Event) → fronts.IsFront journal (play (longer journal e) (k + 1) ls).journal = λ e.
    front_less journal _ e (play_front ls (longer journal e) (k + 1)) in
    let at_event : (e : Event) (o : Option Why) → fronts.IsFront journal (play_event journal k e o
    (λ next. play next (k + 1) ls)).journal = λ e o.
    elim o as (λ (x : Option Why). fronts.IsFront journal (play_event journal k e x
    (λ next. play next (k + 1) ls)).journal) [ Some why ↦ front_whole journal | None ↦ on e ]
    in
    let at_line : (o : Option Event) → fronts.IsFront journal (play_line journal k o
    (λ next. play next (k + 1) ls)).journal = λ o.
    elim o as (λ (x : Option Event). fronts.IsFront journal (play_line journal k x
    (λ next. play next (k + 1) ls)).journal) [ Some e ↦ at_event e (enabled journal e) | None ↦ front_whole journal ]
    in
    elim (is_report l) as (λ (b : Bool). fronts.IsFront journal (cond b (ended journal)
    (play_line journal k (event_of l) (λ next. play next (k + 1) ls))).journal) [
      | true ↦ front_whole journal
      | false ↦ at_line (event_of l)
    ]

-- the lines of a front of the events are a front of the lines
front_replied : (a b : Journal) → fronts.IsFront a b → IsFront (replied a) (replied b)
front_replied a b f =
    let start = start_of a.format in
    (replied_from (fold step start a.events) f.0, sym (replied-append start a.events f.0) ∙ ap replied f.1)

front_text : (text : List ℕ) (a : Journal) (script : Script) → text ≡ replied a → fronts.IsFront a script.journal
    → IsFront text (text_of script)
front_text text a script e f =
    let r = front_replied a script.journal f in
    let end : List ℕ = end_of script.journal script.refused in (
      r.0 ++ end,
      ap (λ (x : List ℕ). x ++ (r.0 ++ end)) e ∙ sym (append_assoc (replied a) r.0 end)
          ∙ ap (λ (x : List ℕ). x ++ end) r.1,
    )

-- what was put by then is a front of the whole text
front_behind : (journal : Journal) (text : List ℕ) (script : Script) → fronts.IsFront journal script.journal
    → IsCaughtUp journal text → IsFront text (text_of script)
front_behind journal text script f (inl e) = front_text text journal script e f
front_behind journal text script f (inr (before, e, grown, put)) =
    front_text text before script put (front_less before script.journal e
    (subst (λ (x : Journal). fronts.IsFront x script.journal) grown f))

-- nothing was put for the empty journal
none_put : (text : List ℕ) (whole : List ℕ) → IsCaughtUp none_read text → IsFront text whole
unfolding replied_from
none_put text whole (inl e) = subst (λ (x : List ℕ). IsFront x whole) (sym e) (whole, refl)
none_put text whole (inr (before, e, grown, put)) =
    absurd (omega (arith, ap (λ (x : Journal). length x.events) grown, length-append before.events (e ∷ [])))

pub front_caught_up : (journal : Journal) (text : List ℕ) (script : Script) → IsPart journal script.journal
    → IsCaughtUp journal text → IsFront text (text_of script)
front_caught_up journal text script (inl e) c =
    none_put text (text_of script) (subst (λ (x : Journal). IsCaughtUp x text) e c)
front_caught_up journal text script (inr f) c = front_behind journal text script f c

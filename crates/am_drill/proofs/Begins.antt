-- The events before the rounds can be done, and the editor then stands as each round finds it.
use Rattle.std.proofs.Common.{◌≡◌, ℕ, ◌≤◌, List, [], ◌∷◌, length, refl, sym, subst, arith, None}
use Rattle.std.specs.List.{fold}
use Rattle.ninep_types.specs.declared.message.RBody.{RBody}
use Rattle.ninep_types.specs.declared.message.RBody.TheVariants as r
use Rattle.ninep_types.specs.Spelling.{spelling_r}
use Rattle.std.specs.Prelude.{codes}
use Rattle.am_journal.specs.declared.event.Event.{Event}
use Rattle.am_journal.specs.declared.event.Format.TheVariants.{One}
use Rattle.am_journal.specs.declared.event.Event.TheVariants as event
use Rattle.am_journal.specs.Lawful.{IsLawful}
use Rattle.acme_tree.specs.declared.node.Node.TheVariants.{Root, NewDir, Window, File}
use Rattle.acme_tree.specs.declared.node.WinFile.TheVariants as file
use Rattle.acme_tree.specs.Trees.{qid_of}
use Rattle.core_intents.specs.Doings.{enabled_at}
use Rattle.acme_core.specs.Run.{step}
use Rattle.core_parts.specs.States.{State, present, start_of}
use Rattle.ninep_types.specs.Limits.{no_tag}
use Rattle.am_drill.specs.Brief.{IsBrief}
use Rattle.am_drill.specs.Drill.{opening}
use Rattle.am_drill.proofs.Calm.{CanDoAll, room, none_brief, one_brief}
use Rattle.am_drill.proofs.Opening.{Begun, told, dialed, version, attach, walk_body, open_body, walk_event, open_event}
use Rattle.am_drill.proofs.Opening.{dial_step, version_step, attach_step, walk_body_step, open_body_step}
use Rattle.am_drill.proofs.Opening.{walk_event_step, open_event_step, version_lawful, attach_lawful, walk_body_lawful}
use Rattle.am_drill.proofs.Opening.{walk_event_lawful, open_lawful, facts_of}
use Rattle.am_drill.proofs.Standing.{standing}
use Rattle.am_drill.proofs.Steps.{said_of}
use Rattle.am_drill.proofs.Turns.{Goes, Stands, on_step}

-- an event before others
goes_on : (s t : State) (e : Event) (es : List Event) (runes unsent : ℕ) → IsLawful e
    → enabled_at (present s) e ≡ None → step s e ≡ t → IsBrief t.replies → Goes runes unsent t es
    → Goes runes unsent s (e ∷ es)
goes_on s t e es runes unsent lawful allowed is brief rest = record {
  all = (
    record { lawful = lawful; allowed = allowed; brief = on_step s t e is brief },
    subst (λ (x : State). CanDoAll x es) (sym is) rest.all,
  );
  stands = subst (λ (x : State). Stands runes unsent (fold step x es)) (sym is) rest.stands;
}

-- ---- the replies

abbrev pub after_version : Begun
after_version = told dialed no_tag (r.Version 8192 (codes "9P2000"))

abbrev pub after_attach : Begun
after_attach = told after_version 1 (r.Attach (qid_of Root))

abbrev pub after_walk : Begun
after_walk = told after_attach 2 (r.Walk (qid_of NewDir ∷ qid_of (File 1 file.Body) ∷ []))

abbrev pub after_open : Begun
after_open = told after_walk 3 (r.Open (qid_of (File 1 file.Body)) 0)

abbrev pub after_walk_event : Begun
after_walk_event = told after_open 2 (r.Walk (qid_of (Window 1) ∷ qid_of (File 1 file.Event) ∷ []))

abbrev pub after_open_event : Begun
after_open_event = told after_walk_event 3 (r.Open (qid_of (File 1 file.Event)) 0)

brief_of : (tag : ℕ) (body : RBody) (n : ℕ) → length (spelling_r (record { tag = tag; body = body })) ≡ n → n ≤ 128
    → IsBrief (said_of tag body ∷ [])
brief_of tag body n e h = one_brief tag body (omega (arith, e, h))

stood : Goes 0 6 (standing [] [] (facts_of after_open_event)) []
stood = record {
  all = tt;
  stands = record {
    facts = facts_of after_open_event;
    is = refl;
    calm =
        record { text = omega arith; dot = refl; few = omega arith };
  };
}

pub opening_goes : Goes 0 6 (start_of One) opening
unfolding qid_of
opening_goes =
    goes_on (start_of One) _ (event.Dial 0) _ 0 6 (omega arith) refl dial_step none_brief
    (goes_on _ _ version _ 0 6 version_lawful (room 0 (omega arith)) (version_step dialed)
    (brief_of no_tag (r.Version 8192 (codes "9P2000")) 19 refl (omega arith))
    (goes_on _ _ attach _ 0 6 attach_lawful (room 1 (omega arith)) (attach_step after_version)
    (brief_of 1 (r.Attach (qid_of Root)) 20 refl (omega arith))
    (goes_on _ _ walk_body _ 0 6 walk_body_lawful (room 2 (omega arith)) (walk_body_step after_attach)
    (brief_of 2 (r.Walk (qid_of NewDir ∷ qid_of (File 1 file.Body) ∷ [])) 35 refl (omega arith))
    (goes_on _ _ open_body _ 0 6 (open_lawful 1 2) (room 3 (omega arith)) (open_body_step after_walk)
    (brief_of 3 (r.Open (qid_of (File 1 file.Body)) 0) 24 refl (omega arith))
    (goes_on _ _ walk_event _ 0 6 walk_event_lawful (room 4 (omega arith)) (walk_event_step after_open)
    (brief_of 2 (r.Walk (qid_of (Window 1) ∷ qid_of (File 1 file.Event) ∷ [])) 35 refl (omega arith))
    (goes_on _ _ open_event _ 0 6 (open_lawful 2 0) (room 5 (omega arith)) (open_event_step after_walk_event)
    (brief_of 3 (r.Open (qid_of (File 1 file.Event)) 0) 24 refl (omega arith))
    stood))))))

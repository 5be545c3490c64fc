-- Windows along a journal whose events could be done.
use Rattle.std.proofs.Common.{◌≡◌, ℕ, List, [], ◌∷◌, ◌++◌, Option, Some, sym, subst}
use Rattle.am_journal.specs.declared.event.Event.{Event}
use Rattle.win_text.specs.Bodies.{IsSound}
use Rattle.win_text.specs.BodyStories.{shown}
use Rattle.win_text.specs.Laws.{RangesAreInside}
use Rattle.core_windows.specs.Stories.{WindowStory, story_at, IsLawfulWindow, IsLawfulIfLive, AreLawful}
use Rattle.core_windows.proofs.Steps.{lawful_at}
use Rattle.core_scene.specs.SceneLaws.{DeedsShow}
use Rattle.acme_core.specs.Run.{run, ArePossible, IsPossible}
use Rattle.core_parts.specs.States.{State}
use Rattle.acme_core.proofs.Goes.{run-push, lawful_on}
use Rattle.core_laws.specs.Journals.{BodiesAreTheirHistories}
use Rattle.am_journal.specs.declared.event.Journal.{Journal}
use Rattle.am_journal.specs.Journal.{longer, journal_in}
use Rattle.core_laws.specs.Fronts.{followed, IsFront}
use Rattle.core_laws.proofs.Playing.{goes_on, none_more}
use Rattle.am_journal.specs.declared.event.Format.{Format}

-- ---- a front of a journal could be done, too

pub possible_front : (before : Journal) (xs ys : List Event) → ArePossible before (xs ++ ys) → ArePossible before xs
unfolding ArePossible
possible_front before [] ys all = tt
possible_front before (x ∷ xs) ys all = (all.0, possible_front (longer before x) xs ys all.1)

pub possible_prefix : (before journal : Journal) → IsFront before journal → IsPossible journal → IsPossible before
possible_prefix before journal front all = possible_front (journal_in before.format []) before.events front.0
    (subst IsPossible (sym front.1) all)

-- ---- windows stay lawful

lawful_all : DeedsShow → (before : Journal) (events : List Event) → ArePossible before events
    → AreLawful (run before).windows
    → AreLawful (run (followed before events)).windows
unfolding ArePossible
lawful_all show before [] all lawful = subst (λ (l : Journal). AreLawful (run l).windows) (sym (none_more before))
    lawful
lawful_all show before (e ∷ events) all lawful =
    subst (λ (l : Journal). AreLawful (run l).windows) (goes_on before e events)
    (lawful_all show (longer before e) events all.1
    (subst (λ (s : State). AreLawful s.windows) (sym (run-push before e)) (lawful_on show (run before) e lawful all.0)))

none_lawful : (format : Format) → AreLawful (run (journal_in format [])).windows
unfolding run
none_lawful format = tt

pub all_lawful : DeedsShow → (journal : Journal) → IsPossible journal → AreLawful (run journal).windows
all_lawful show journal all = lawful_all show (journal_in journal.format []) journal.events all
    (none_lawful journal.format)

-- ---- one window of them

pub one_lawful : (ss : List (Option WindowStory)) (w : ℕ) (s : WindowStory) → AreLawful ss → story_at ss w ≡ Some s
    → IsLawfulWindow s
one_lawful ss w s all is = subst IsLawfulIfLive is (lawful_at ss w all)

pub histories : RangesAreInside → (journal : Journal) → AreLawful (run journal).windows
    → BodiesAreTheirHistories journal
histories inside journal all w s is =
    let h : IsLawfulWindow s = one_lawful (run journal).windows w s all is in
    let sound : IsSound (shown s.body) = inside s.body h.body in
    record { text = sym h.body.history; dot = sound.dot; addr = sound.addr; limit = sound.limit }

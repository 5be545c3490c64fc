-- The addresses of windows.
use Rattle.std.proofs.Common.{◌≡◌, ℕ, List, Option, Some, None, refl, sym, ap, subst, ◌∙◌}
use Rattle.std.specs.Prelude.{IfSome}
use Rattle.am_journal.specs.declared.event.Journal.{Journal}
use Rattle.am_text.specs.declared.range.Range.{Range}
use Rattle.std.specs.Option.{option_map}
use Rattle.core_windows.specs.Stories.{WindowStory, shown_if_live, story_at, IsLawfulIfLive, AreLawful}
use Rattle.core_windows.specs.Windows.{window_at, window_addr}
use Rattle.core_windows.proofs.Steps.{window_of_story, lawful_at}
use Rattle.win_text.proofs.Stories.{all_inside}
use Rattle.win_text.specs.Bodies.{IsInside}
use Rattle.acme_core.specs.Addresses.{addr_of, addr_at, body_of, body_at}
use Rattle.core_parts.specs.Parts.{present_of}
use Rattle.acme_core.specs.Run.{run, present_after}
use Rattle.core_parts.specs.States.{Present}
use Rattle.core_parts.specs.declared.parts.Parts.{Parts}

addr_shown : (o : Option WindowStory) → option_map window_addr (shown_if_live o) ≡ addr_of o
addr_shown None = refl
addr_shown (Some s) = refl

pub addr_kept : (p : Parts) (journal : Journal) (w : ℕ) (r : Option Range) → present_of p ≡ present_after journal
    → r ≡ option_map window_addr (window_at p.scene.windows.kept w) → r ≡ addr_at journal w
addr_kept p journal w r e h =
    h ∙ ap (λ (s : Present). option_map window_addr (window_at s.scene.windows w)) e
    ∙ ap (option_map window_addr) (window_of_story (run journal).windows w)
    ∙ addr_shown (story_at (run journal).windows w)

lawful_inside : (o : Option WindowStory) → IsLawfulIfLive o → IfSome (addr_of o) (IsInside (body_of o))
lawful_inside None h = tt
lawful_inside (Some s) h = (all_inside s.body h.body).addr

pub addr_inside : (journal : Journal) (w : ℕ) (r : Option Range) → AreLawful (run journal).windows
    → r ≡ addr_at journal w → IfSome r (IsInside (body_at journal w))
addr_inside journal w r lawful e =
    subst (λ (x : Option Range). IfSome x (IsInside (body_at journal w))) (sym e)
    (lawful_inside (story_at (run journal).windows w) (lawful_at (run journal).windows w lawful))

pub ruleset addresses = (addr_kept, addr_inside)

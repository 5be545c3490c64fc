-- An input whose lines were read.
use Rattle.std.proofs.Common.{◌≡◌, ◌≤◌, ℕ, List, Option, Some, None, length, inl, inr, sym, ap, ◌∙◌, subst}
use Rattle.std.specs.Prelude.{Result, Ok, Err}
use Rattle.am_base.specs.Outside.{BytesTold, HostTold, untold, AreTold}
use Rattle.am_base.specs.Stops.{input_limit}
use Rattle.am_base.specs.Seen.{Seen, given}
use Rattle.am_text.specs.Lines.{lines_of}
use Rattle.am_do.specs.declared.line.DoLine.{DoLine}
use Rattle.am_do.specs.Lines.{lines_from}
use Rattle.am_do.specs.declared.running.Doing.{Doing}
use Rattle.am_do.specs.Ends.{Peer, Lined, Reads, Says, TalksOver}

module _ {L S K : Type 0} where
  lined_given : (m : Peer L S K) (tree : List ℕ) (read : Result (List DoLine) ℕ) (first last : BytesTold)
      (a b : HostTold) (o : Seen) (d : Doing L S K) → Lined m tree read (given untold untold a b) o d
      → Lined m tree read (given first last a b) o d
  lined_given m tree (Ok lines) first last a b o d l = l
  lined_given m tree (Err k) first last a b o d l = l

  -- the bytes that were told are those whose lines were read
  pub says_read : (m : Peer L S K) (tree bytes now : List ℕ) (first last : BytesTold) (a b : HostTold) (o : Seen)
      (d : Doing L S K) → now ≡ bytes → AreTold first.bytes bytes → length bytes ≤ input_limit
      → Reads m tree (lines_from 1 (lines_of now)) (given untold untold a b) o d
      → Says m tree (given first last a b) o d
  says_read m tree bytes now first last a b o d is t fits (inl idle) = inr (inr (inl idle))
  says_read m tree bytes now first last a b o d is t fits (inr lined) =
      inr (inr (inr (
        bytes,
        t,
        fits,
        lined_given m tree (lines_from 1 (lines_of bytes)) first last a b o d
            (subst (λ (x : List ℕ). Lined m tree (lines_from 1 (lines_of x)) (given untold untold a b) o d) is lined),
      )))

  -- a link is told where lines were done over one
  pub talked_linked : (m : Peer L S K) (tree : List ℕ) (lines : List DoLine) (o : Seen) (d : Doing L S K)
      → TalksOver m tree lines o d → d.link ≡ None → ⊥
  talked_linked m tree lines o d (inl u) none = let same : Some u.link ≡ None =
      sym (ap (λ (x : Doing L S K). x.link) u.none) ∙ none in absurd cc
  talked_linked m tree lines o d (inr t) none = let same : Some t.link ≡ None =
      sym (ap (λ (x : Doing L S K). x.link) t.objects) ∙ none in absurd cc

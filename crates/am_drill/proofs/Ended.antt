-- The summary of a drill, and its end, which is how the summary was written.
use Rattle.std.proofs.Common.{◌≡◌, ℕ, List, [], ◌∷◌, ◌++◌, refl, ap, subst, ◌∙◌, append_assoc}
use Rattle.am_base.specs.Outside.{BytesTold}
use Rattle.std.specs.Fmt.{decimal}
use Rattle.am_journal.specs.declared.event.Format.TheVariants.{One}
use Rattle.am_journal.specs.declared.event.Journal.{Journal}
use Rattle.am_journal.specs.Journal.{journal_in}
use Rattle.am_drill.specs.declared.driving.DrillEnd.{DrillEnd}
use Rattle.am_drill.specs.declared.driving.DrillEnd.TheVariants.{Done, WriteFault, NoMemory}
use Rattle.am_drill.specs.Drill.{events, drill_journal}
use Rattle.am_base.specs.Seen.{Seen, seen}
use Rattle.am_base.specs.Written.{IsWhole, IsCut}
use Rattle.am_drill.specs.Ends.{Wrote, DrillSays}
use Rattle.am_drill.specs.Summary.{line, summary}

pub says : (end : DrillEnd) (rounds : ℕ) (o : Seen) (journal : Journal) (text : List ℕ) → Wrote end o text
    → journal ≡ drill_journal rounds → text ≡ summary (drill_journal rounds)
    → DrillSays end rounds o journal
says Done rounds o journal text wrote done is = (done, subst (λ (x : List ℕ). IsWhole o x) is wrote.0, wrote.1)
says WriteFault rounds o journal text wrote done is = (done, subst (λ (x : List ℕ). IsCut o x) is wrote)
says NoMemory rounds o journal text wrote done is = absurd wrote

-- nothing was done and put
pub none : (rounds : ℕ) (first : BytesTold) → DrillSays NoMemory rounds (seen first first) (journal_in One [])
none rounds first = ((events rounds, refl), (refl, refl))

-- a line more
pub line_put : (out a b c name : List ℕ) (n : ℕ) → a ≡ out ++ name → b ≡ a ++ decimal n → c ≡ b ++ 10 ∷ []
    → c ≡ out ++ line name n
line_put out a b c name n first second third =
    third ∙ ap (λ (x : List ℕ). x ++ 10 ∷ []) (second ∙ ap (λ (x : List ℕ). x ++ decimal n) first)
    ∙ append_assoc (out ++ name) (decimal n) (10 ∷ []) ∙ append_assoc out name (decimal n ++ 10 ∷ [])

-- The words of a cause are read as that cause.
use Rattle.std.proofs.Common.{◌≡◌, ℕ, true, false, cond, List, [], ◌∷◌, Option, Some, None, refl, ap, ◌∙◌}
use Rattle.std.specs.Str.{bytes_eq}
use Rattle.std.proofs.lemmas.Slice.Eq.{bytes_eq-Decides}
use Rattle.ninep_types.specs.declared.fault.WireFault.TheVariants as fault
use Rattle.am_journal.specs.declared.ending.Bad.TheVariants as bad
use Rattle.am_journal.specs.declared.ending.Ending.{Ending}
use Rattle.am_journal.specs.declared.ending.Ending.TheVariants as ending
use Rattle.am_journal.specs.Causes.{cause, looked_up, plain_causes, broken_causes, or_broken, ending_of}

pub ending-again : (e : Ending) → ending_of (cause e) ≡ Some e
unfolding ending_of
ending-again ending.End = refl
ending-again ending.Torn = refl
ending-again ending.ReadFault = refl
ending-again (ending.Broken (bad.Wire fault.Size)) = refl
ending-again (ending.Broken (bad.Wire fault.Kind)) = refl
ending-again (ending.Broken (bad.Wire fault.Short)) = refl
ending-again (ending.Broken (bad.Wire fault.Long)) = refl
ending-again (ending.Broken (bad.Wire fault.Text)) = refl
ending-again (ending.Broken (bad.Wire fault.Names)) = refl
ending-again (ending.Broken bad.Size) = refl
ending-again (ending.Broken bad.Tag) = refl
ending-again ending.Spent = refl
ending-again ending.Gone = refl
ending-again ending.NoMemory = refl

-- a table whose words are those of its causes
abbrev pub AreCauses : List (List ℕ × Ending) → Type 0
AreCauses [] = Unit {0}
AreCauses (r ∷ rs) = (r.0 ≡ cause r.1) × AreCauses rs

ending_same : (a b : Ending) → Some a ≡ Some b → a ≡ b
ending_same a b e = cc

looked_up-is : (table : List (List ℕ × Ending)) (word : List ℕ) (e : Ending) → AreCauses table
    → looked_up table word ≡ Some e → word ≡ cause e
looked_up-is [] word e all = λ h. absurd cc
looked_up-is (r ∷ rs) word e all =
    elim (bytes_eq word r.0) as (λ t. bytes_eq word r.0 ≡ t → cond t (Some r.1) (looked_up rs word) ≡ Some e
    → word ≡ cause e) [
      | true ↦ λ t h. (bytes_eq-Decides word r.0).0 t ∙ all.0 ∙ ap cause (ending_same r.1 e h)
      | false ↦ λ t h. looked_up-is rs word e all.1 h
    ] refl

or_broken-is : (o : Option Ending) (word : List ℕ) (e : Ending) → looked_up plain_causes word ≡ o → or_broken o
    word ≡ Some e → word ≡ cause e
or_broken-is None word e given h = looked_up-is broken_causes word e
    (refl, (refl, (refl, (refl, (refl, (refl, (refl, (refl, tt)))))))) h
or_broken-is (Some x) word e given h = looked_up-is plain_causes word e
    (refl, (refl, (refl, (refl, (refl, (refl, tt)))))) (given ∙ h)

pub ending-is : (word : List ℕ) (e : Ending) → ending_of word ≡ Some e → word ≡ cause e
unfolding ending_of
ending-is word e h = or_broken-is (looked_up plain_causes word) word e refl h

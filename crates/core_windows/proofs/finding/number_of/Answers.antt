use Rattle.std.proofs.Common.{ℕ, ◌+◌, Option, IfSome, sym, ap, ◌∙◌, subst}
use Rattle.std.specs.Prelude.{IsSome}
use Rattle.std.specs.Option.{option_map}
use Rattle.core_windows.specs.Windows.{window_at}
use Rattle.core_windows.specs.Panes.{windows_of}
use Rattle.core_windows.proofs.Named.{named_is}
use Rattle.core_windows.proofs.PlaceLemmas.{lives_at}
use Rattle.core_windows.proofs.finding.number_of.Goals as goal

pub returns-clause-number : goal.returns-clause-number
returns-clause-number c =
    c.number_at.ensures ∙ ap (λ (o : Option ℕ). option_map (λ (k : ℕ). k + 1) o) c.named_place.ensures.exact
    ∙ sym (named_is c.args.panes.now c.args.name.now)

pub returns-clause-lives : goal.returns-clause-lives
returns-clause-lives c =
    subst (λ (o : Option ℕ). IfSome o (λ w. IsSome (window_at (windows_of c.args.panes.now) w)))
    (sym c.number_at.ensures) (lives_at c.args.panes.now c.named_place.result c.named_place.ensures.lives)

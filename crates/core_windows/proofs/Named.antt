-- The first window of a name, by its place.
use Rattle.std.proofs.Common.{◌≡◌, ℕ, ◌+◌, Bool, true, false, cond, List, [], ◌∷◌, Option, Some, None, refl, ap, ◌∙◌}
use Rattle.std.proofs.Common.{sym}
use Rattle.std.specs.Prelude.{position}
use Rattle.std.specs.List.{position_from}
use Rattle.std.specs.Option.{option_map}
use Rattle.std.specs.Str.{bytes_eq}
use Rattle.std.proofs.lemmas.Iterator.Adapters.{position_from-zero}
use Rattle.core_windows.specs.declared.pane.Pane.{Pane}
use Rattle.core_windows.specs.Windows.{named, named_from}
use Rattle.core_windows.specs.Panes.{windows_of, has_name}

one_more : (b : Bool) (i : ℕ) (o : Option ℕ) → cond b (Some (i + 1))
    (option_map (λ (k : ℕ). k + 1) o) ≡ option_map (λ (k : ℕ). k + 1) (cond b (Some i) o)
one_more true i o = refl
one_more false i o = refl

named_after : (ps : List (Option Pane)) (i : ℕ) (name : List ℕ) → named_from (i + 1) (windows_of ps)
    name ≡ option_map (λ (k : ℕ). k + 1) (position_from (has_name name) i ps)
named_after [] i name = refl
named_after (None ∷ ps) i name = named_after ps (i + 1) name
named_after (Some p ∷ ps) i name =
    ap (λ (o : Option ℕ). cond (bytes_eq p.name name) (Some (i + 1)) o) (named_after ps (i + 1) name)
    ∙ one_more (bytes_eq p.name name) i (position_from (has_name name) (i + 1) ps)

pub named_is : (ps : List (Option Pane)) (name : List ℕ) → named (windows_of ps) name ≡ option_map (λ (k : ℕ). k + 1)
    (position (has_name name) ps)
named_is ps name = named_after ps 0 name ∙ ap (λ (o : Option ℕ). option_map (λ (k : ℕ). k + 1) o)
    (sym (position_from-zero (has_name name) ps))

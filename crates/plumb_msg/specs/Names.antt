-- Names of attributes.
use Rattle.std.specs.Prelude.{ℕ, Bool, List}
use Rattle.std.specs.List.{list_any}
use Rattle.std.specs.Str.{bytes_eq}
use Rattle.plumb_msg.specs.declared.message.Attr.{Attr}

-- whether one of the attributes has the name
abbrev pub is_known : List ℕ → List Attr → Bool
is_known name attrs = list_any (λ a. bytes_eq a.name name) attrs

-- whether the name is one of these
abbrev pub is_among : List ℕ → List (List ℕ) → Bool
is_among name names = list_any (λ n. bytes_eq n name) names

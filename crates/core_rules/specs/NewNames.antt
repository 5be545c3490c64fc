-- Names of ports that rules bring.
use Rattle.std.specs.Prelude.{ℕ, Bool, ◌||◌, List, [], ◌∷◌, ◌++◌, if◌then◌else◌}
use Rattle.std.specs.List.{list_any}
use Rattle.std.specs.Str.{bytes_eq}
use Rattle.plumb_ports.specs.PortList.{Port, is_there}

-- whether the name is one of these
abbrev pub is_among : List ℕ → List (List ℕ) → Bool
is_among name names = list_any (bytes_eq name) names

-- whether a port has the name, or one of these names is it
abbrev pub is_known : List Port → List (List ℕ) → List ℕ → Bool
is_known ports names name = is_there ports name || is_among name names

-- a name behind the others, if it isn't known
abbrev pub with_name : List Port → List (List ℕ) → List ℕ → List (List ℕ)
with_name ports names name = if is_known ports names name then names else names ++ name ∷ []

-- with each name more that is new
abbrev pub with_names : List Port → List (List ℕ) → List (List ℕ) → List (List ℕ)
with_names ports names [] = names
with_names ports names (name ∷ more) = with_names ports (with_name ports names name) more

-- those that no port has, each once, in the order in which they are first named
abbrev pub new_names : List Port → List (List ℕ) → List (List ℕ)
new_names ports names = with_names ports [] names

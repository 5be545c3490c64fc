-- Parts of which a look tells where their matches end. No public contract needs this.
use Rattle.std.specs.Prelude.{◌≡◌, ◌+◌, ℕ, Bool, true, false, List}
use Rattle.re_syntax.specs.Match.{Matches}
use Rattle.re_syntax.specs.Tree.{Tree, Many, Several, Maybe, Group}

-- each match of the tree has so many runes
abbrev pub HasLength : Tree → ℕ → Type 0
HasLength r n = (t : List ℕ) (i j : ℕ) → Matches r t i j → j ≡ i + n

-- several matches of the tree one after another are one match
abbrev pub is_repeated : Tree → Bool
is_repeated (Many a) = true
is_repeated (Several a) = true
is_repeated (Maybe a) = is_repeated a
is_repeated (Group n a) = is_repeated a
is_repeated _ = false

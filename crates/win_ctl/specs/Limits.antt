-- Limits of a tag.
use Rattle.std.specs.Prelude.{ℕ}

-- the most runes of a tag's right part
abbrev pub tag_runes : ℕ
tag_runes = 65536

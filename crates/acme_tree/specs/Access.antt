-- How nodes may be opened, after open(5).
use Rattle.std.specs.Prelude.{ℕ, Bool, false, ◌&&◌, ◌==◌, not, bit_and, if◌then◌else◌}
use Rattle.acme_tree.specs.Modes.{reads, writes, how_bits, truncate_bit, remove_bit, open_bits}
use Rattle.acme_tree.specs.declared.node.Node.{Node}
use Rattle.acme_tree.specs.declared.access.May.{May}
use Rattle.acme_tree.specs.declared.access.May.TheVariants.{Yes, BadMode, Denied}
use Rattle.acme_tree.specs.Trees.{is_dir, mode_of}

-- an open mode has no other bits
abbrev pub is_open_mode : ℕ → Bool
is_open_mode mode = bit_and mode open_bits == mode

-- 0 to read, 1 to write, 2 for both, 3 to execute
abbrev pub how : ℕ → ℕ
how mode = bit_and mode how_bits

-- whether the file is emptied
abbrev pub truncates : ℕ → Bool
truncates mode = not (bit_and mode truncate_bit == 0)

-- whether the file is removed when its fid is clunked
abbrev pub removes : ℕ → Bool
removes mode = not (bit_and mode remove_bit == 0)

-- what the mode of the file itself lets its owner do
abbrev pub is_readable : Node → Bool
is_readable node = not (bit_and (mode_of node) reads == 0)

-- the owner may write it
abbrev pub is_writable : Node → Bool
is_writable node = not (bit_and (mode_of node) writes == 0)

-- a file may be opened so; none is executed
abbrev pub allows : Node → ℕ → Bool
allows node way = if way == 0 then is_readable node
    else (if way == 1 then is_writable node
    else (if way == 2 then is_readable node && is_writable node else false))

-- nothing is removed on close, and what is only read isn't truncated
abbrev pub file_allows : Node → ℕ → Bool
file_allows node mode = not (removes mode) && not (truncates mode && (how mode == 0)) && allows node (how mode)

-- a directory is opened with 0 alone
abbrev pub is_allowed : Node → ℕ → Bool
is_allowed node mode = if is_dir node then mode == 0 else file_allows node mode

-- whether a node may be opened with a mode
unfoldable pub may_open : Node → ℕ → May
may_open node mode = if is_open_mode mode then (if is_allowed node mode then Yes else Denied) else BadMode

-- Modes of files, ways to open them, and types of qids, after stat(5) and open(5).
use Rattle.std.specs.Prelude.{ℕ}

-- ---- modes of files

-- the bit of a mode that lets the owner read
abbrev pub reads : ℕ
reads = 0x100

-- the bit that lets the owner write
abbrev pub writes : ℕ
writes = 0x80

-- a file that is read and written
abbrev pub reads_and_writes : ℕ
reads_and_writes = 0x180

-- an append-only file (0x40000000) that is read and written
abbrev pub append_mode : ℕ
append_mode = 0x40000180

-- a directory (0x80000000) that is read and walked (0x40)
abbrev pub dir_mode : ℕ
dir_mode = 0x80000140

-- ---- types of qids

-- an append-only file
abbrev pub append_kind : ℕ
append_kind = 64

-- a directory
abbrev pub dir_kind : ℕ
dir_kind = 128

-- ---- ways to open a file

-- the bits that say how: 0 to read, 1 to write, 2 for both, 3 to execute
abbrev pub how_bits : ℕ
how_bits = 3

-- the bit that truncates
abbrev pub truncate_bit : ℕ
truncate_bit = 0x10

-- the bit that removes on close
abbrev pub remove_bit : ℕ
remove_bit = 0x40

-- all of these
abbrev pub open_bits : ℕ
open_bits = 0x53

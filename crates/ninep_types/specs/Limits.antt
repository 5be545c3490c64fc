-- Limits of messages, and numbers and a name that mean something of their own.
use Rattle.std.specs.Prelude.{ℕ, List, codes}

-- the most bytes of a message, and the largest msize that is agreed on: 65,536 bytes of data, and 24 before them
abbrev pub max_msize : ℕ
max_msize = 65560

-- the least msize that is agreed on
abbrev pub min_msize : ℕ
min_msize = 256

-- the bytes of a message before its fields: size, type and tag
abbrev pub head_size : ℕ
head_size = 7

-- the bytes of an Rread before its data
abbrev pub rread_head : ℕ
rread_head = 11

-- the most names of one Twalk, and the most qids of its answer
abbrev pub max_names : ℕ
max_names = 16

-- NOTAG, the tag of Tversion
abbrev pub no_tag : ℕ
no_tag = 65535

-- NOFID, the number that is no fid
abbrev pub no_fid : ℕ
no_fid = 4294967295

-- the version of the protocol
abbrev pub version_name : List ℕ
version_name = codes "9P2000"

-- Where the fields of a record stand, and how large it is.
use Rattle.std.specs.Prelude.{ℕ}

-- the place of the qid's type
abbrev pub qid_kind_place : ℕ
qid_kind_place = 8

-- the place of the qid's version
abbrev pub qid_vers_place : ℕ
qid_vers_place = 9

-- the place of the qid's path
abbrev pub qid_path_place : ℕ
qid_path_place = 13

-- the place of the mode
abbrev pub mode_place : ℕ
mode_place = 21

-- the place of the length
abbrev pub length_place : ℕ
length_place = 33

-- the place of the name's length
abbrev pub name_len_place : ℕ
name_len_place = 41

-- the place of the name
abbrev pub name_place : ℕ
name_place = 43

-- how many bytes a record has beside its name
abbrev pub unnamed_size : ℕ
unnamed_size = 61

-- how many bytes a record has beside its size and its name
abbrev pub fixed_size : ℕ
fixed_size = 59

-- what the length of a name is below
abbrev pub name_limit : ℕ
name_limit = 65000

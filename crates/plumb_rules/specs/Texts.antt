-- Texts of a message while rules are done: of names, of variables, and of arguments.
use Rattle.std.specs.Prelude.{ℕ, Bool, false, nat_lt, List, [], ◌∷◌, length, slice_range, Option, Some, None}
use Rattle.std.specs.Fmt.{decimal}
use Rattle.std.specs.List.{flat_map, list_any}
use Rattle.acme_cmd.specs.Names as names
use Rattle.am_text.specs.Utf8.{decode}
use Rattle.am_text.specs.declared.range.Range.{Range}
use Rattle.plumb_msg.specs.Spelling.{attrs_text}
use Rattle.plumb_msg.specs.declared.message.PlumbMsg.{PlumbMsg}
use Rattle.rule_syntax.specs.declared.rule.Late.{Late}
use Rattle.rule_syntax.specs.declared.rule.Late.TheVariants as late
use Rattle.rule_syntax.specs.declared.rule.Piece.{Piece}
use Rattle.rule_syntax.specs.declared.rule.Piece.TheVariants as piece
use Rattle.plumb_rules.specs.Matches.{Match, range_of}
use Rattle.plumb_rules.specs.declared.state.State.{State}

-- a name made whole with the message's wdir
abbrev pub whole_name : PlumbMsg → List ℕ → List ℕ
whole_name m name = names.whole_name (decode m.wdir) name

-- the data as a name
abbrev pub data_name : PlumbMsg → List ℕ
data_name m = whole_name m (decode m.body)

-- the name that was found, or else the data as a name
abbrev pub found_or : Option (List ℕ) → PlumbMsg → List ℕ
found_or None m = data_name m
found_or (Some name) m = name

-- ---- the match and its groups

abbrev pub slice_of : List ℕ → Option Range → List ℕ
slice_of text (Some r) = slice_range text r.q0 r.q1
slice_of text None = []

-- the text of the match, or of a group, empty where there is none
abbrev pub group_text : Option Match → ℕ → List ℕ
group_text None n = []
group_text (Some m) n = slice_of m.text (range_of m n)

-- a piece of an argument that is a group
abbrev pub is_group : Piece → Bool
is_group (piece.Late (late.Group n)) = nat_lt 0 n
is_group _ = false

-- an argument has one
abbrev pub has_group : List Piece → Bool
has_group pieces = list_any is_group pieces

-- ---- variables and arguments

-- the text of a variable
abbrev pub late_text : State → Late → List ℕ
late_text s (late.Group n) = group_text s.matched n
late_text s late.Attr = decode (attrs_text s.msg.attrs)
late_text s late.Data = decode s.msg.body
late_text s late.Dir = found_or s.dir s.msg
late_text s late.Dst = decode s.msg.dst
late_text s late.File = found_or s.file s.msg
late_text s late.Ndata = decode (decimal (length s.msg.body))
late_text s late.Src = decode s.msg.src
late_text s late.Sort = decode s.msg.sort
late_text s late.Wdir = decode s.msg.wdir

abbrev pub piece_text : State → Piece → List ℕ
piece_text s (piece.Rune c) = c ∷ []
piece_text s (piece.Late v) = late_text s v

-- the text of an argument: each variable is replaced
abbrev pub argument_text : State → List Piece → List ℕ
argument_text s pieces = flat_map (piece_text s) pieces

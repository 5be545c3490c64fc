-- What each verb does. None where the rule doesn't hold.
use Rattle.std.specs.Prelude.{ℕ, Bool, List, length, slice_range, Option, Some, None, if◌then◌else◌}
use Rattle.std.specs.Str.{bytes_eq}
use Rattle.am_text.specs.Utf8.{decode, utf8}
use Rattle.am_text.specs.declared.range.Range.{Range}
use Rattle.name_tree.specs.Kinds.{is_file, is_directory}
use Rattle.name_tree.specs.declared.types.Node.{Node}
use Rattle.plumb_msg.specs.Attributes.{attrs_of}
use Rattle.plumb_msg.specs.declared.message.Attr.{Attr}
use Rattle.plumb_msg.specs.declared.message.PlumbMsg.{PlumbMsg}
use Rattle.re_spans.specs.Groups.{span}
use Rattle.re_syntax.specs.Tree.{Tree}
use Rattle.rule_syntax.specs.declared.rule.Field.{Field}
use Rattle.rule_syntax.specs.declared.rule.Field.TheVariants.{Src, Dst, Wdir, Sort, Data}
use Rattle.rule_syntax.specs.declared.rule.Rule.{Rule}
use Rattle.rule_syntax.specs.declared.rule.Verb.{Verb}
use Rattle.rule_syntax.specs.declared.rule.Verb.TheVariants as verb
use Rattle.plumb_rules.specs.Attributes.{with_attrs, without_attr, click_of, unclicked}
use Rattle.plumb_rules.specs.Patterns.{pattern_of, is_whole, click_span, matched}
use Rattle.plumb_rules.specs.Fields.{field_text, with_field}
use Rattle.plumb_rules.specs.Texts.{whole_name, data_name, argument_text}
use Rattle.plumb_rules.specs.declared.answer.Way.{Way}
use Rattle.plumb_rules.specs.declared.answer.Way.TheVariants.{Start, Client}
use Rattle.plumb_rules.specs.declared.attributes.Click.{Click}
use Rattle.plumb_rules.specs.declared.attributes.Click.TheVariants.{Absent, Unread, At}
use Rattle.plumb_rules.specs.declared.state.State.{State}

-- files and directories, each with its path
abbrev pub Nodes : Type 0
Nodes = List (List ℕ × Node)

-- the state after a rule, where it holds
abbrev pub where_holds : State → Bool → Option State
where_holds s holds = if holds then Some s else None

-- ---- `is`, `set`

unfoldable pub is_text : State → Field → List ℕ → Option State
is_text s f text = if bytes_eq (field_text s.msg f) text then Some s else None

unfoldable pub set : State → Field → List ℕ → Option State
set s f text = Some (record s { msg = with_field s.msg f text })

-- ---- `matches`

-- with the match of a text
abbrev pub with_match : State → Tree → List ℕ → Range → State
with_match s r text found = record s { matched = Some (matched r text found) }

-- the whole data match
unfoldable pub whole_data : State → Tree → List ℕ → Option State
whole_data s r text = if is_whole r text then Some (with_match s r text (span 0 (length text))) else None

-- the data become the match at the click, and the click goes
abbrev pub clicked_msg : PlumbMsg → List ℕ → Range → PlumbMsg
clicked_msg m text found = record m { attrs = unclicked m.attrs; body = utf8 (slice_range text found.q0 found.q1) }

unfoldable pub clicked : State → Tree → List ℕ → Option Range → Option State
clicked s r text None = None
clicked s r text (Some found) = Some (with_match (record s { msg = clicked_msg s.msg text found }) r text found)

abbrev pub click_data : State → Tree → List ℕ → Click → Option State
click_data s r text Absent = whole_data s r text
click_data s r text Unread = None
click_data s r text (At n) = clicked s r text (click_span r text n)

unfoldable pub data_matches : State → Tree → Option State
data_matches s r = click_data s r (decode s.msg.body) (click_of s.msg.attrs)

unfoldable pub field_matches : State → Field → Tree → Option State
field_matches s f r = if is_whole r (field_text s.msg f) then Some s else None

unfoldable pub tree_matches : State → Field → Tree → Option State
tree_matches s Src r = field_matches s Src r
tree_matches s Dst r = field_matches s Dst r
tree_matches s Wdir r = field_matches s Wdir r
tree_matches s Sort r = field_matches s Sort r
tree_matches s Data r = data_matches s r

abbrev pub pattern_matches : State → Field → Option Tree → Option State
pattern_matches s f None = None
pattern_matches s f (Some r) = tree_matches s f r

unfoldable pub matches : State → Field → List ℕ → Option State
matches s f text = pattern_matches s f (pattern_of text)

-- ---- `isfile`, `isdir`

unfoldable pub isfile : Nodes → State → List ℕ → Option State
isfile tree s name = if is_file tree (utf8 name) then Some (record s { file = Some name }) else None

unfoldable pub isdir : Nodes → State → List ℕ → Option State
isdir tree s name = if is_directory tree (utf8 name) then Some (record s { dir = Some name }) else None

-- ---- `add`, `delete`

abbrev pub with_attributes : State → List Attr → State
with_attributes s attrs = record s { msg = record s.msg { attrs = attrs } }

abbrev pub added : State → Option (List Attr) → Option State
added s None = None
added s (Some more) = Some (with_attributes s (with_attrs s.msg.attrs more))

-- the argument is a line of attributes
unfoldable pub add : State → List ℕ → Option State
add s text = added s (attrs_of (utf8 text))

unfoldable pub delete : State → List ℕ → Option State
delete s text = Some (with_attributes s (without_attr (utf8 text) s.msg.attrs))

-- ---- `plumb`

unfoldable pub to : State → List ℕ → Option State
to s text = Some (record s { port = Some (utf8 text) })

abbrev pub by_way : State → Way → Option State
by_way s way = Some (record s { way = way })

-- ---- a rule

-- with the text of the argument
abbrev pub verb_done : Nodes → State → Verb → List ℕ → Option State
verb_done tree s (verb.Is f) text = is_text s f text
verb_done tree s (verb.Matches f) text = matches s f text
verb_done tree s (verb.Set f) text = set s f text
verb_done tree s verb.ArgIsFile text = isfile tree s (whole_name s.msg text)
verb_done tree s verb.ArgIsDir text = isdir tree s (whole_name s.msg text)
verb_done tree s verb.DataIsFile text = isfile tree s (data_name s.msg)
verb_done tree s verb.DataIsDir text = isdir tree s (data_name s.msg)
verb_done tree s verb.Add text = add s text
verb_done tree s verb.Delete text = delete s text
verb_done tree s verb.To text = to s text
verb_done tree s verb.Start text = by_way s (Start text)
verb_done tree s verb.Client text = by_way s (Client text)

abbrev pub rule_done : Nodes → State → Rule → Option State
rule_done tree s r = verb_done tree s r.verb (argument_text s r.argument)

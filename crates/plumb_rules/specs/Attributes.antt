-- Attributes of a message: the value of one, put in place of one, and taken away.
use Rattle.std.specs.Prelude.{ℕ, ◌+◌, Bool, true, false, not, List, [], ◌∷◌, ◌++◌, slice_set, Option, Some, None}
use Rattle.std.specs.Prelude.{if◌then◌else◌, codes}
use Rattle.std.specs.List.{filter}
use Rattle.std.specs.Str.{bytes_eq}
use Rattle.am_text.specs.Number.{number_of}
use Rattle.plumb_msg.specs.declared.message.Attr.{Attr}
use Rattle.plumb_rules.specs.declared.attributes.Click.{Click}
use Rattle.plumb_rules.specs.declared.attributes.Click.TheVariants.{Absent, Unread, At}

abbrev pub has_name : List ℕ → Attr → Bool
has_name name a = bytes_eq a.name name

-- the value of the attribute with this name
abbrev pub attr_value : List Attr → List ℕ → Option (List ℕ)
attr_value [] name = None
attr_value (a ∷ attrs) name = if has_name name a then Some a.value else attr_value attrs name

-- the place of the attribute with this name, the first place being n
abbrev pub place_from : ℕ → List Attr → List ℕ → Option ℕ
place_from n [] name = None
place_from n (a ∷ attrs) name = if has_name name a then Some n else place_from (n + 1) attrs name

-- the place that stands for a name here
abbrev pub place_among : List (List ℕ × ℕ) → List ℕ → Option ℕ
place_among [] name = None
place_among (e ∷ es) name = if bytes_eq e.0 name then Some e.1 else place_among es name

-- with an attribute at a place, or at the end
abbrev pub put_at : Option ℕ → List Attr → Attr → List Attr
put_at None attrs a = attrs ++ a ∷ []
put_at (Some n) attrs a = slice_set attrs n a

-- with an attribute in place of the one with its name, or at the end
abbrev pub with_attr : List Attr → Attr → List Attr
with_attr attrs a = put_at (place_from 0 attrs a.name) attrs a

-- with these attributes, in order
abbrev pub with_attrs : List Attr → List Attr → List Attr
with_attrs attrs [] = attrs
with_attrs attrs (a ∷ more) = with_attrs (with_attr attrs a) more

-- without the attribute with this name
abbrev pub without_attr : List ℕ → List Attr → List Attr
without_attr name attrs = filter (λ a. not (has_name name a)) attrs

-- ---- a click

-- the click that a number tells, where there is one
abbrev pub click_read : Option ℕ → Click
click_read None = Unread
click_read (Some n) = At n

-- the click that a value is, where there is one
abbrev pub click_told : Option (List ℕ) → Click
click_told None = Absent
click_told (Some value) = click_read (number_of value)

-- the click of a message with these attributes
unfoldable pub click_of : List Attr → Click
click_of attrs = click_told (attr_value attrs (codes "click"))

abbrev pub is_absent : Click → Bool
is_absent Absent = true
is_absent Unread = false
is_absent (At n) = false

unfoldable pub unclicked : List Attr → List Attr
unclicked attrs = without_attr (codes "click") attrs

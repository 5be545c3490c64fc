-- The texts of a message's fields.
use Rattle.std.specs.Prelude.{ℕ, Bool, false, List}
use Rattle.am_text.specs.Utf8.{decode, utf8}
use Rattle.plumb_msg.specs.declared.message.PlumbMsg.{PlumbMsg}
use Rattle.plumb_rules.specs.declared.fields.FieldTexts.{FieldTexts}
use Rattle.plumb_rules.specs.declared.fields.SameFields.{SameFields}
use Rattle.rule_syntax.specs.declared.rule.Field.{Field}
use Rattle.rule_syntax.specs.declared.rule.Field.TheVariants.{Src, Dst, Wdir, Sort, Data}

abbrev pub field_text : PlumbMsg → Field → List ℕ
field_text m Src = decode m.src
field_text m Dst = decode m.dst
field_text m Wdir = decode m.wdir
field_text m Sort = decode m.sort
field_text m Data = decode m.body

abbrev pub with_field : PlumbMsg → Field → List ℕ → PlumbMsg
with_field m Src text = record m { src = utf8 text }
with_field m Dst text = record m { dst = utf8 text }
with_field m Wdir text = record m { wdir = utf8 text }
with_field m Sort text = record m { sort = utf8 text }
with_field m Data text = record m { body = utf8 text }

-- the texts of all fields
abbrev pub texts_of : PlumbMsg → FieldTexts
texts_of m = record {
  src = decode m.src;
  dst = decode m.dst;
  wdir = decode m.wdir;
  sort = decode m.sort;
  data_text = decode m.body;
}

abbrev pub text_in : FieldTexts → Field → List ℕ
text_in texts Src = texts.src
text_in texts Dst = texts.dst
text_in texts Wdir = texts.wdir
text_in texts Sort = texts.sort
text_in texts Data = texts.data_text

abbrev pub is_same : SameFields → Field → Bool
is_same same Src = same.src
is_same same Dst = same.dst
is_same same Wdir = same.wdir
is_same same Sort = same.sort
is_same same Data = same.data_text

-- but for one field
abbrev pub except : SameFields → Field → SameFields
except same Src = record same { src = false }
except same Dst = record same { dst = false }
except same Wdir = record same { wdir = false }
except same Sort = record same { sort = false }
except same Data = record same { data_text = false }

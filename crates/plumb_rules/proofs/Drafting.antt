-- The fields that have the texts that were given, while a message changes.
use Rattle.std.proofs.Common.{◌≡◌, ℕ, Bool, true, false, List, refl, ◌∙◌, sym}
use Rattle.std.proofs.lemmas.Bool.{false≢true}
use Rattle.plumb_msg.specs.declared.message.Attr.{Attr}
use Rattle.plumb_msg.specs.declared.message.PlumbMsg.{PlumbMsg}
use Rattle.plumb_rules.specs.Drafts.{AreSame}
use Rattle.plumb_rules.specs.Fields.{field_text, with_field, texts_of, text_in, is_same, except}
use Rattle.plumb_rules.specs.declared.fields.FieldTexts.{FieldTexts}
use Rattle.plumb_rules.specs.declared.fields.SameFields.{SameFields}
use Rattle.rule_syntax.specs.declared.rule.Field.{Field}
use Rattle.rule_syntax.specs.declared.rule.Field.TheVariants.{Src, Dst, Wdir, Sort, Data}

pub text_is : (m : PlumbMsg) (f : Field) → text_in (texts_of m) f ≡ field_text m f
text_is m Src = refl
text_is m Dst = refl
text_is m Wdir = refl
text_is m Sort = refl
text_is m Data = refl

-- the message as it was given
pub same_given : (same : SameFields) (m : PlumbMsg) → AreSame same m m
same_given same m f h = refl

-- other attributes
pub same_attrs : (same : SameFields) (given m : PlumbMsg) (attrs : List Attr) → AreSame same given m →
    AreSame same given (record m { attrs = attrs })
same_attrs same given m attrs h Src is = h Src is
same_attrs same given m attrs h Dst is = h Dst is
same_attrs same given m attrs h Wdir is = h Wdir is
same_attrs same given m attrs h Sort is = h Sort is
same_attrs same given m attrs h Data is = h Data is

-- another text of a field
pub same_set : (same : SameFields) (given m : PlumbMsg) (field : Field) (text : List ℕ) → AreSame same given m →
    AreSame (except same field) given (with_field m field text)
same_set same given m Src text h Src is = absurd (false≢true is)
same_set same given m Src text h Dst is = h Dst is
same_set same given m Src text h Wdir is = h Wdir is
same_set same given m Src text h Sort is = h Sort is
same_set same given m Src text h Data is = h Data is
same_set same given m Dst text h Src is = h Src is
same_set same given m Dst text h Dst is = absurd (false≢true is)
same_set same given m Dst text h Wdir is = h Wdir is
same_set same given m Dst text h Sort is = h Sort is
same_set same given m Dst text h Data is = h Data is
same_set same given m Wdir text h Src is = h Src is
same_set same given m Wdir text h Dst is = h Dst is
same_set same given m Wdir text h Wdir is = absurd (false≢true is)
same_set same given m Wdir text h Sort is = h Sort is
same_set same given m Wdir text h Data is = h Data is
same_set same given m Sort text h Src is = h Src is
same_set same given m Sort text h Dst is = h Dst is
same_set same given m Sort text h Wdir is = h Wdir is
same_set same given m Sort text h Sort is = absurd (false≢true is)
same_set same given m Sort text h Data is = h Data is
same_set same given m Data text h Src is = h Src is
same_set same given m Data text h Dst is = h Dst is
same_set same given m Data text h Wdir is = h Wdir is
same_set same given m Data text h Sort is = h Sort is
same_set same given m Data text h Data is = absurd (false≢true is)

pub ruleset drafting = (text_is, same_given, same_attrs, same_set)

-- A rule that leaves the message as it is.
use Rattle.std.proofs.Common.{◌≡◌, ℕ, Bool, true, false, cond, List, length, Option, Some, None, refl, ap, sym, subst}
use Rattle.std.proofs.Common.{◌∙◌}
use Rattle.std.specs.Str.{bytes_eq}
use Rattle.std.proofs.lemmas.Bool.{false≢true}
use Rattle.am_text.specs.Utf8.{decode, utf8}
use Rattle.name_tree.specs.Kinds.{is_file, is_directory}
use Rattle.plumb_msg.specs.Spelling.{can_spell}
use Rattle.re_spans.specs.Groups.{span}
use Rattle.re_syntax.specs.Tree.{Tree}
use Rattle.rule_syntax.specs.declared.rule.Field.{Field}
use Rattle.rule_syntax.specs.declared.rule.Field.TheVariants.{Src, Dst, Wdir, Sort, Data}
use Rattle.rule_syntax.specs.declared.rule.Rule.{Rule}
use Rattle.rule_syntax.specs.declared.rule.Verb.{Verb}
use Rattle.rule_syntax.specs.declared.rule.Verb.TheVariants as verb
use Rattle.plumb_rules.specs.Attributes.{click_of, is_absent}
use Rattle.plumb_rules.specs.Patterns.{pattern_of, is_whole}
use Rattle.plumb_rules.specs.Routes.{and_then, spelled, rule_holds}
use Rattle.plumb_rules.specs.Fields.{field_text}
use Rattle.plumb_rules.specs.Texts.{whole_name, data_name, argument_text}
use Rattle.plumb_rules.specs.Verbs.{Nodes, is_text, whole_data, data_matches, field_matches, tree_matches, matches}
use Rattle.plumb_rules.specs.Verbs.{isfile, isdir, to, with_match, click_data, pattern_matches, verb_done, rule_done}
use Rattle.plumb_rules.specs.Unchanged.{keeps_message}
use Rattle.plumb_rules.specs.declared.attributes.Click.{Click}
use Rattle.plumb_rules.specs.declared.attributes.Click.TheVariants.{Absent, Unread, At}
use Rattle.plumb_rules.specs.declared.state.State.{State}
use Rattle.plumb_rules.proofs.Taken.{same_if}

module _ (s t : State) where
  same_at : (u : State) → u.msg ≡ s.msg → Some u ≡ Some t → t.msg ≡ s.msg
  same_at u h e = subst (λ (v : State). v.msg ≡ s.msg) (state_is u t e) h
    where
      state_is : (u t : State) → Some u ≡ Some t → u ≡ t
      state_is u t e = cc

  same_where : (b : Bool) (u : State) → u.msg ≡ s.msg → cond b (Some u) None ≡ Some t → t.msg ≡ s.msg
  same_where b u h e = subst (λ (v : State). v.msg ≡ s.msg) (same_if b u t e).1 h

  same_data : (r : Tree) (o : Click) → is_absent o ≡ true → click_data s r (decode s.msg.body) o ≡ Some t
      → t.msg ≡ s.msg
  unfolding whole_data
  same_data r Absent p e = same_where (is_whole r (decode s.msg.body))
      (with_match s r (decode s.msg.body) (span 0 (length (decode s.msg.body)))) refl e
  same_data r Unread p e = absurd (false≢true p)
  same_data r (At n) p e = absurd (false≢true p)

  same_match : (f : Field) (o : Option Tree) → keeps_message s.msg (verb.Matches f) ≡ true → pattern_matches s f
      o ≡ Some t → t.msg ≡ s.msg
  unfolding tree_matches field_matches data_matches
  same_match f None p e = absurd cc
  same_match Src (Some r) p e = same_where (is_whole r (field_text s.msg Src)) s refl e
  same_match Dst (Some r) p e = same_where (is_whole r (field_text s.msg Dst)) s refl e
  same_match Wdir (Some r) p e = same_where (is_whole r (field_text s.msg Wdir)) s refl e
  same_match Sort (Some r) p e = same_where (is_whole r (field_text s.msg Sort)) s refl e
  same_match Data (Some r) p e = same_data r (click_of s.msg.attrs) p e

  same_verb : (tree : Nodes) (v : Verb) (text : List ℕ) → keeps_message s.msg v ≡ true → verb_done tree s v
      text ≡ Some t → t.msg ≡ s.msg
  unfolding is_text matches isfile isdir to
  same_verb tree (verb.Is f) text p e = same_where (bytes_eq (field_text s.msg f) text) s refl e
  same_verb tree (verb.Matches f) text p e = same_match f (pattern_of text) p e
  same_verb tree (verb.Set f) text p e = absurd (false≢true p)
  same_verb tree verb.ArgIsFile text p e = same_where (is_file tree (utf8 (whole_name s.msg text)))
      (record s { file = Some (whole_name s.msg text) }) refl e
  same_verb tree verb.ArgIsDir text p e = same_where (is_directory tree (utf8 (whole_name s.msg text)))
      (record s { dir = Some (whole_name s.msg text) }) refl e
  same_verb tree verb.DataIsFile text p e = same_where (is_file tree (utf8 (data_name s.msg)))
      (record s { file = Some (data_name s.msg) }) refl e
  same_verb tree verb.DataIsDir text p e = same_where (is_directory tree (utf8 (data_name s.msg)))
      (record s { dir = Some (data_name s.msg) }) refl e
  same_verb tree verb.Add text p e = absurd (false≢true p)
  same_verb tree verb.Delete text p e = absurd (false≢true p)
  same_verb tree verb.To text p e = same_at _ refl e
  same_verb tree verb.Start text p e = same_at _ refl e
  same_verb tree verb.Client text p e = same_at _ refl e

-- it can still be spelled, so the rule holds
pub same_spells : (tree : Nodes) (s t : State) (r : Rule) → can_spell s.msg ≡ true → keeps_message s.msg r.verb ≡ true →
    Some t ≡ rule_done tree s r → can_spell t.msg ≡ true
same_spells tree s t r spells p e = ap can_spell (same_verb s t tree r.verb (argument_text s r.argument) p (sym e))
    ∙ spells

pub same_holds : (tree : Nodes) (s t : State) (r : Rule) → can_spell s.msg ≡ true → keeps_message s.msg r.verb ≡ true →
    Some t ≡ rule_done tree s r → Some t ≡ rule_holds tree s r
same_holds tree s t r spells p e =
    sym (sym (ap (λ (o : Option State). and_then o spelled) e) ∙ ap (λ (b : Bool). cond b (Some t) None)
    (same_spells tree s t r spells p e))

pub ruleset same = (same_spells, same_holds)

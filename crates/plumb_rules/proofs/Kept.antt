-- Data that no rule sets are kept.
use Rattle.std.proofs.Common.{◌≡◌, ℕ, ◌||◌, Bool, true, false, cond, not, List, [], ◌∷◌, Option, Some, None, refl, ap}
use Rattle.std.proofs.Common.{sym, subst, ◌∙◌, length}
use Rattle.std.specs.List.{list_any, filter}
use Rattle.std.specs.Str.{bytes_eq}
use Rattle.std.proofs.lemmas.Bool.{false≢true}
use Rattle.am_text.specs.Number.{number_of}
use Rattle.am_text.specs.Utf8.{decode, utf8}
use Rattle.name_tree.specs.Kinds.{is_file, is_directory}
use Rattle.plumb_msg.specs.Spelling.{can_spell}
use Rattle.plumb_msg.specs.declared.message.Attr.{Attr}
use Rattle.plumb_msg.specs.declared.message.PlumbMsg.{PlumbMsg}
use Rattle.re_spans.specs.Groups.{span}
use Rattle.re_syntax.specs.Tree.{Tree}
use Rattle.rule_syntax.specs.declared.rule.Field.{Field}
use Rattle.rule_syntax.specs.declared.rule.Field.TheVariants.{Src, Dst, Wdir, Sort, Data}
use Rattle.rule_syntax.specs.declared.rule.Rule.{Rule}
use Rattle.rule_syntax.specs.declared.rule.Verb.{Verb}
use Rattle.rule_syntax.specs.declared.rule.Verb.TheVariants as verb
use Rattle.plumb_rules.specs.Attributes.{has_name, attr_value, without_attr, click_told, click_read, click_of}
use Rattle.plumb_rules.specs.Laws.{may_change_data, DataAreKept}
use Rattle.plumb_rules.specs.Patterns.{pattern_of, is_whole}
use Rattle.plumb_rules.specs.Routes.{and_then, begun, spelled, rule_holds, rules_hold, with_dst, route_in, route_at}
use Rattle.plumb_rules.specs.Routes.{set_route}
use Rattle.plumb_rules.specs.Fields.{field_text, with_field}
use Rattle.plumb_rules.specs.Texts.{whole_name, data_name, argument_text}
use Rattle.plumb_rules.specs.Verbs.{Nodes, is_text, set, with_match, whole_data, click_data, data_matches}
use Rattle.plumb_rules.specs.Verbs.{field_matches, tree_matches, pattern_matches, matches, isfile, isdir}
use Rattle.plumb_rules.specs.Verbs.{with_attributes, delete, to, verb_done, rule_done}
use Rattle.plumb_rules.specs.declared.answer.Route.{Route}
use Rattle.plumb_rules.specs.declared.attributes.Click.{Click}
use Rattle.plumb_rules.specs.declared.attributes.Click.TheVariants.{Absent, Unread, At}
use Rattle.plumb_rules.specs.declared.state.State.{State}
use Rattle.plumb_rules.proofs.Further.{holds-cons}
use Rattle.plumb_rules.proofs.Taken.{same_if, set_has}

-- without a click, and with these data
record Keeps (body : List ℕ) (s : State) : Type 0 where
  unclicked : click_of s.msg.attrs ≡ Absent
  same : s.msg.body ≡ body

-- ---- no click comes by taking an attribute away

value_kept : (attrs : List Attr) (name other : List ℕ) → attr_value attrs name ≡ None →
    attr_value (without_attr other attrs) name ≡ None
value_kept [] name other e = refl
value_kept (a ∷ attrs) name other e =
    elim (has_name name a) as (λ t. has_name name a ≡ t → cond t (Some a.value) (attr_value attrs name) ≡ None →
    attr_value (without_attr other (a ∷ attrs)) name ≡ None) [
      | true ↦ λ t h. absurd cc
      | false ↦ λ t h. elim (not (has_name other a)) as (λ u. attr_value
          (cond u (a ∷ without_attr other attrs) (without_attr other attrs)) name ≡ None) [
            | true ↦ ap (λ (b : Bool). cond b (Some a.value) (attr_value (without_attr other attrs) name)) t
                ∙ value_kept attrs name other h
            | false ↦ value_kept attrs name other h
          ]
    ] refl e

read_some : (o : Option ℕ) → click_read o ≡ Absent → ⊥
read_some None e = cc
read_some (Some n) e = cc

told_none : (o : Option (List ℕ)) → click_told o ≡ Absent → o ≡ None
told_none None e = refl
told_none (Some v) e = absurd (read_some (number_of v) e)

click_kept : (attrs : List Attr) (other : List ℕ) → click_of attrs ≡ Absent →
    click_of (without_attr other attrs) ≡ Absent
unfolding click_of
click_kept attrs other e = ap click_told (value_kept attrs _ other (told_none _ e))

-- ---- a rule

module _ (body : List ℕ) where
  keeps_at : (s t : State) → Some s ≡ Some t → Keeps body s → Keeps body t
  keeps_at s t e k = subst (Keeps body) (state_is s t e) k
    where
      state_is : (s t : State) → Some s ≡ Some t → s ≡ t
      state_is s t e = cc

  keeps_if : (b : Bool) (s t : State) → cond b (Some s) None ≡ Some t → Keeps body s → Keeps body t
  keeps_if b s t e k = subst (Keeps body) (same_if b s t e).1 k

  data_kept : (s t : State) (r : Tree) (o : Click) → o ≡ Absent → click_data s r (decode s.msg.body) o ≡ Some t
      → Keeps body s → Keeps body t
  unfolding whole_data
  data_kept s t r Absent is e k = keeps_if (is_whole r (decode s.msg.body))
      (with_match s r (decode s.msg.body) (span 0 (length (decode s.msg.body)))) t e
      (record { unclicked = k.unclicked; same = k.same })
  data_kept s t r Unread is e k = absurd cc
  data_kept s t r (At n) is e k = absurd cc

  matches_kept : (s t : State) (f : Field) (o : Option Tree) → pattern_matches s f o ≡ Some t → Keeps body s
      → Keeps body t
  unfolding tree_matches field_matches data_matches
  matches_kept s t f None e k = absurd cc
  matches_kept s t Src (Some r) e k = keeps_if (is_whole r (field_text s.msg Src)) s t e k
  matches_kept s t Dst (Some r) e k = keeps_if (is_whole r (field_text s.msg Dst)) s t e k
  matches_kept s t Wdir (Some r) e k = keeps_if (is_whole r (field_text s.msg Wdir)) s t e k
  matches_kept s t Sort (Some r) e k = keeps_if (is_whole r (field_text s.msg Sort)) s t e k
  matches_kept s t Data (Some r) e k = data_kept s t r (click_of s.msg.attrs) k.unclicked e k

  set_kept : (s t : State) (f : Field) (text : List ℕ) → may_change_data (verb.Set f) ≡ false → verb_done [] s
      (verb.Set f) text ≡ Some t → Keeps body s → Keeps body t
  unfolding set
  set_kept s t Src text p e k = keeps_at (record s { msg = with_field s.msg Src text }) t e
      (record { unclicked = k.unclicked; same = k.same })
  set_kept s t Dst text p e k = keeps_at (record s { msg = with_field s.msg Dst text }) t e
      (record { unclicked = k.unclicked; same = k.same })
  set_kept s t Wdir text p e k = keeps_at (record s { msg = with_field s.msg Wdir text }) t e
      (record { unclicked = k.unclicked; same = k.same })
  set_kept s t Sort text p e k = keeps_at (record s { msg = with_field s.msg Sort text }) t e
      (record { unclicked = k.unclicked; same = k.same })
  set_kept s t Data text p e k = absurd (false≢true (sym p))

  verb_kept : (tree : Nodes) (s t : State) (v : Verb) (text : List ℕ)
      → may_change_data v ≡ false → verb_done tree s v text ≡ Some t → Keeps body s → Keeps body t
  unfolding is_text matches isfile isdir delete to
  verb_kept tree s t (verb.Is f) text p e k = keeps_if (bytes_eq (field_text s.msg f) text) s t e k
  verb_kept tree s t (verb.Matches f) text p e k = matches_kept s t f (pattern_of text) e k
  verb_kept tree s t (verb.Set f) text p e k = set_kept s t f text p e k
  verb_kept tree s t verb.ArgIsFile text p e k =
      keeps_if (is_file tree (utf8 (whole_name s.msg text))) (record s { file = Some (whole_name s.msg text) }) t e
      (record { unclicked = k.unclicked; same = k.same })
  verb_kept tree s t verb.ArgIsDir text p e k =
      keeps_if (is_directory tree (utf8 (whole_name s.msg text))) (record s { dir = Some (whole_name s.msg text) }) t e
      (record { unclicked = k.unclicked; same = k.same })
  verb_kept tree s t verb.DataIsFile text p e k =
      keeps_if (is_file tree (utf8 (data_name s.msg))) (record s { file = Some (data_name s.msg) }) t e
      (record { unclicked = k.unclicked; same = k.same })
  verb_kept tree s t verb.DataIsDir text p e k =
      keeps_if (is_directory tree (utf8 (data_name s.msg))) (record s { dir = Some (data_name s.msg) }) t e
      (record { unclicked = k.unclicked; same = k.same })
  verb_kept tree s t verb.Add text p e k = absurd (false≢true (sym p))
  verb_kept tree s t verb.Delete text p e k =
      keeps_at (with_attributes s (without_attr (utf8 text) s.msg.attrs)) t e
      (record { unclicked = click_kept s.msg.attrs (utf8 text) k.unclicked; same = k.same })
  verb_kept tree s t verb.To text p e k = keeps_at _ t e (record { unclicked = k.unclicked; same = k.same })
  verb_kept tree s t verb.Start text p e k = keeps_at _ t e (record { unclicked = k.unclicked; same = k.same })
  verb_kept tree s t verb.Client text p e k = keeps_at _ t e (record { unclicked = k.unclicked; same = k.same })

  rule_kept : (tree : Nodes) (s t : State) (r : Rule) → may_change_data r.verb ≡ false → rule_holds tree s r ≡ Some t
      → Keeps body s → Keeps body t
  rule_kept tree s t r p e k = of (rule_done tree s r) refl e
    where
      of : (o : Option State) → rule_done tree s r ≡ o → and_then o spelled ≡ Some t → Keeps body t
      of None is h = absurd cc
      of (Some u) is h = keeps_if (can_spell u.msg) u t h (verb_kept tree s u r.verb (argument_text s r.argument) p is
          k)

  -- ---- the rules of a set

  either_false : (a b : Bool) → (a || b) ≡ false → (a ≡ false) × (b ≡ false)
  either_false true b e = absurd (false≢true (sym e))
  either_false false b e = (refl, e)

  rules_kept : (tree : Nodes) (rules : List Rule) (s t : State) → list_any (λ r. may_change_data r.verb) rules ≡ false →
      rules_hold tree s rules ≡ Some t → Keeps body s → Keeps body t
  unfolding rules_hold
  rules_kept tree [] s t p e k = keeps_at s t e k
  rules_kept tree (r ∷ rules) s t p e k = of (rule_holds tree s r) refl (λ u. rules_kept tree rules u t) e
    where
      two : (may_change_data r.verb ≡ false) × (list_any (λ r. may_change_data r.verb) rules ≡ false)
      two = either_false (may_change_data r.verb) (list_any (λ r. may_change_data r.verb) rules) p

      of : (o : Option State) → rule_holds tree s r ≡ o → ((u : State)
          → list_any (λ r. may_change_data r.verb) rules ≡ false → rules_hold tree u rules ≡ Some t → Keeps body u
          → Keeps body t) → and_then o (λ u. rules_hold tree u rules) ≡ Some t → Keeps body t
      of None is later h = absurd cc
      of (Some u) is later h = later u two.1 h (rule_kept tree s u r two.0 is k)

body_kept : (m : PlumbMsg) (o : Option (List ℕ)) → (with_dst m o).body ≡ m.body
body_kept m None = refl
body_kept m (Some port) = refl

pub data_are_kept : DataAreKept
data_are_kept tree m rules found click p e =
    let s = set_has tree m rules found e in
    let keeps = rules_kept m.body tree rules (begun m) s.0 p s.1 (record { unclicked = click; same = refl }) in
    let same = same_if (can_spell (with_dst s.0.msg s.0.port)) (route_in s.0) found s.2 in
    sym (ap (λ (f : Route). f.msg.body) same.1) ∙ body_kept s.0.msg s.0.port ∙ keeps.same

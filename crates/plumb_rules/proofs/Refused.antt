-- A rule whose argument never matches a field doesn't hold.
use Rattle.std.proofs.Common.{◌≡◌, ℕ, Bool, true, false, cond, List, [], ◌∷◌, length, Option, Some, None, refl, ap, sym}
use Rattle.std.proofs.Common.{◌∙◌, inl, inr}
use Rattle.std.specs.Prelude.{nat_le}
use Rattle.std.proofs.lemmas.Bool.{cases_Bool, false≢true}
use Rattle.re_spans.specs.Groups.{span}
use Rattle.re_spans.proofs.Tested.{matches_tell}
use Rattle.re_syntax.specs.Match.{Matches}
use Rattle.re_syntax.specs.Tree.{Tree, nodes}
use Rattle.rule_syntax.specs.Arguments.{is_literal, runes_of}
use Rattle.rule_syntax.specs.Edged.{NeverMatches}
use Rattle.rule_syntax.specs.declared.rule.Field.{Field}
use Rattle.rule_syntax.specs.declared.rule.Field.TheVariants.{Src, Dst, Wdir, Sort, Data}
use Rattle.rule_syntax.specs.declared.rule.Piece.{Piece}
use Rattle.rule_syntax.specs.declared.rule.Piece.TheVariants as piece
use Rattle.rule_syntax.specs.declared.rule.Rule.{Rule}
use Rattle.rule_syntax.specs.declared.rule.Verb.{Verb}
use Rattle.rule_syntax.specs.declared.rule.Verb.TheVariants as verb
use Rattle.plumb_rules.proofs.Expressions.{expression_only}
use Rattle.plumb_rules.specs.Attributes.{click_of, is_absent}
use Rattle.plumb_rules.specs.declared.attributes.Click.{Click}
use Rattle.plumb_rules.specs.declared.attributes.Click.TheVariants.{Absent, Unread, At}
use Rattle.plumb_rules.specs.declared.state.State.{State}
use Rattle.plumb_rules.specs.Patterns.{expression_of, small_one, pattern_of, is_whole}
use Rattle.plumb_rules.specs.Refused.{IsRefused}
use Rattle.plumb_rules.specs.Fields.{field_text}
use Rattle.plumb_rules.specs.Texts.{argument_text}
use Rattle.plumb_rules.specs.Unchanged.{keeps_message}
use Rattle.plumb_rules.specs.Verbs.{whole_data, click_data, data_matches, field_matches, tree_matches, pattern_matches}
use Rattle.plumb_rules.specs.Verbs.{matches, verb_done, with_match}

-- an argument without variables is its runes
literal_text : (s : State) (pieces : List Piece) → is_literal pieces ≡ true → argument_text s pieces ≡ runes_of pieces
literal_text s [] h = refl
literal_text s (piece.Rune c ∷ pieces) h = ap (λ (l : List ℕ). c ∷ l) (literal_text s pieces h)
literal_text s (piece.Late v ∷ pieces) h = absurd (false≢true h)

abbrev Never : Tree → List ℕ → Type 0
Never r text = Matches r text 0 (length text) → ⊥

not_whole : (r : Tree) (text : List ℕ) → Never r text → is_whole r text ≡ false
not_whole r text none_is = elim (cases_Bool (is_whole r text)) [
  | inl e ↦ absurd (none_is (matches_tell r text 0 (length text) e))
  | inr e ↦ e
]

no_field : (s : State) (f : Field) (r : Tree) → Never r (field_text s.msg f) → field_matches s f r ≡ None
unfolding field_matches
no_field s f r none_is = ap (λ (b : Bool). cond b (Some s) None) (not_whole r (field_text s.msg f) none_is)

no_data : (s : State) (r : Tree) (text : List ℕ) (click : Click) → Never r text
    → keeps_message s.msg (verb.Matches Data) ≡ true → click_of s.msg.attrs ≡ click → click_data s r text click ≡ None
unfolding whole_data
no_data s r text Absent none_is keeps e = ap (λ (b : Bool). cond b (Some (with_match s r text (span 0 (length text))))
    None) (not_whole r text none_is)
no_data s r text Unread none_is keeps e = refl
no_data s r text (At n) none_is keeps e = absurd (false≢true (sym (ap is_absent e) ∙ keeps))

no_tree : (s : State) (f : Field) (r : Tree) → keeps_message s.msg (verb.Matches f) ≡ true → Never r
    (field_text s.msg f) → tree_matches s f r ≡ None
unfolding tree_matches data_matches
no_tree s Src r keeps none_is = no_field s Src r none_is
no_tree s Dst r keeps none_is = no_field s Dst r none_is
no_tree s Wdir r keeps none_is = no_field s Wdir r none_is
no_tree s Sort r keeps none_is = no_field s Sort r none_is
no_tree s Data r keeps none_is = no_data s r (field_text s.msg Data) (click_of s.msg.attrs) none_is keeps refl

no_pattern : (s : State) (f : Field) (o : Option Tree) → keeps_message s.msg (verb.Matches f) ≡ true →
    ((r : Tree) → o ≡ Some r → Never r (field_text s.msg f)) → pattern_matches s f (small_one o) ≡ None
no_pattern s f None keeps none_is = refl
no_pattern s f (Some r) keeps none_is = small (nat_le (nodes r) 2048)
  where
    small : (b : Bool) → pattern_matches s f (cond b (Some r) None) ≡ None
    small true = no_tree s f r keeps (none_is r refl)
    small false = refl

no_match : (s : State) (f : Field) (pieces : List Piece) → keeps_message s.msg (verb.Matches f) ≡ true →
    NeverMatches pieces (field_text s.msg f) → matches s f (argument_text s pieces) ≡ None
unfolding matches
no_match s f pieces keeps never =
    ap (λ (t : List ℕ). pattern_matches s f (pattern_of t)) (literal_text s pieces never.literal)
    ∙ no_pattern s f (expression_of (runes_of pieces)) keeps (λ r e. never.never r
    (expression_only (runes_of pieces) r e))

pub refused : (s : State) (r : Rule) (f : Field) → r.verb ≡ verb.Matches f
    → keeps_message s.msg (verb.Matches f) ≡ true → NeverMatches r.argument (field_text s.msg f) → IsRefused s r
refused s r f is keeps never tree = ap (λ (v : Verb). verb_done tree s v (argument_text s r.argument)) is
    ∙ no_match s f r.argument keeps never

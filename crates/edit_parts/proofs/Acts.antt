-- The parts of letters.
use Rattle.std.proofs.Common.{◌≡◌, ℕ, ◌+◌, ◌<◌, ◌≤◌, Bool, true, false, List, [], ◌∷◌, ◌++◌, length, drop, Option, Some}
use Rattle.std.proofs.Common.{None, refl, sym, ap, subst, ◌∙◌, inl, inr, arith}
use Rattle.std.specs.Prelude.{slice_range, nat_lt}
use Rattle.std.proofs.lemmas.Bool.{eqb-true, le-ltb, lt-ltb, ltb-true, ltb-false}
use Rattle.addr_syntax.specs.Tree as address
use Rattle.addr_syntax.specs.Tree.{Dot}
use Rattle.addr_syntax.specs.Marks.{mark_of, next_of, begins_piece}
use Rattle.addr_syntax.specs.Grammar.{Begins}
use Rattle.addr_syntax.specs.Answer.{IsLimited, IsAddressAt, IsBadFrom, FailsFrom}
use Rattle.addr_syntax.specs.declared.address.Addr.{Addr}
use Rattle.addr_syntax.specs.declared.address.Limited.TheVariants.{Whole, Deep, Large}
use Rattle.addr_syntax.specs.declared.address.SynFault.{SynFault}
use Rattle.addr_syntax.specs.declared.address.SynFault.TheVariants as fault
use Rattle.addr_syntax.proofs.Slices.{slice_none, drop_end}
use Rattle.addr_syntax.proofs.Fronts.{dot_row}
use Rattle.edit_parts.specs.Tree as tree
use Rattle.edit_parts.specs.Tree.{Action, action}
use Rattle.edit_parts.specs.Kinds.{ends_line, is_next, puts, sends, request_of}
use Rattle.edit_parts.specs.Texts.{after_blanks, Text, RestOfLine}
use Rattle.edit_parts.specs.Pieces.{SubstitutesAs, ActsAs}
use Rattle.edit_parts.specs.Answer.{IsBuiltAction}
use Rattle.edit_parts.specs.Read.{IsReadBy, IsBadBy, PartFails, TextFails, ActionFails, is_solid}
use Rattle.edit_parts.specs.declared.command.Act.{Act}
use Rattle.edit_parts.specs.declared.kind.Letter.TheVariants as letter
use Rattle.edit_parts.specs.declared.kind.Place.{Place}
use Rattle.edit_parts.specs.declared.kind.Way.{Way}
use Rattle.edit_parts.specs.declared.kind.Way.TheVariants as way
use Rattle.edit_parts.specs.declared.kind.Request.{Request}
use Rattle.edit_parts.proofs.Parts.{as_read, as_bad, blank_read, blank_bad}
use Rattle.edit_parts.proofs.Written.{starts}

-- ---- what is built

pub sent_whole : (w : Way) (act : Act) (a : address.Tree) (b : Addr) → action act ≡ sends w (address.tree b)
    → IsLimited (Whole b) a → IsBuiltAction (Whole act) (sends w a)
sent_whole way.Move act a b e x = (e ∙ ap tree.Move x.0, x.1.nodes, le-ltb 1024 (address.operators a) x.1.depth)
sent_whole way.Copy act a b e x = (e ∙ ap tree.Copy x.0, x.1.nodes, le-ltb 1024 (address.operators a) x.1.depth)

pub sent_deep : (w : Way) (a : address.Tree) → IsLimited Deep a → IsBuiltAction Deep (sends w a)
sent_deep way.Move a x = (x.0, lt-ltb 1024 (address.operators a) x.1)
sent_deep way.Copy a x = (x.0, lt-ltb 1024 (address.operators a) x.1)

pub sent_large : (w : Way) (a : address.Tree) → IsLimited Large a → IsBuiltAction Large (sends w a)
sent_large way.Move a x = x
sent_large way.Copy a x = x

-- ---- behind blanks

pub blank_fails : (X Y : Type 0) (R : X → List ℕ → List ℕ → Type 0) (S : Y → List ℕ → List ℕ → Type 0) (text : List ℕ)
    (from mid : ℕ) → from ≤ mid → drop mid text ≡ after_blanks (drop from text) → (f : X → Y)
    → ((x : X) (t r : List ℕ) → R x (after_blanks t) r → S (f x) t r)
    → ((y : Y) (t r : List ℕ) → S y t r → (x : X) × R x (after_blanks t) r) → (e : SynFault)
    → PartFails X R ends_line text mid e → PartFails Y S ends_line text from e
blank_fails X Y R S text from mid l b f g h (fault.Bad place) x =
    as_bad X Y (λ x t r. R x (after_blanks t) r) S ends_line ends_line text from place (λ n e. e) f g h
    (blank_bad X R ends_line text from mid place l b x)
blank_fails X Y R S text from mid l b f g h fault.Nodes x = absurd x
blank_fails X Y R S text from mid l b f g h fault.Deep x = absurd x
blank_fails X Y R S text from mid l b f g h fault.NoMemory x = tt

pub put_read : (p : Place) (t : List ℕ) (text : List ℕ) (from mid end : ℕ) → from ≤ mid
    → drop mid text ≡ after_blanks (drop from text) → IsReadBy (Text t) text mid end
    → IsReadBy (ActsAs (letter.Puts p) (puts p t)) text from end
put_read p t text from mid end l b x =
    as_read (λ u r. Text t (after_blanks u) r) (ActsAs (letter.Puts p) (puts p t)) text from end (λ u r y. (t, refl, y))
    (blank_read (Text t) text from mid end l b x)

pub put_fails : (p : Place) (text : List ℕ) (from mid : ℕ) (e : SynFault) → from ≤ mid
    → drop mid text ≡ after_blanks (drop from text) → TextFails Text text mid e
    → ActionFails (ActsAs (letter.Puts p)) text from e
put_fails p text from mid e l b x =
    blank_fails (List ℕ) Action Text (ActsAs (letter.Puts p)) text from mid l b (puts p) (λ t u r y. (t, refl, y))
    (λ act u r y. (y.0, y.2)) e x

pub ask_read : (q : Request) (t : List ℕ) (text : List ℕ) (from mid end : ℕ) → from ≤ mid
    → drop mid text ≡ after_blanks (drop from text) → IsReadBy (RestOfLine t) text mid end
    → IsReadBy (ActsAs (letter.Asks q) (tree.Asks (request_of q) t)) text from end
ask_read q t text from mid end l b x =
    as_read (λ u r. RestOfLine t (after_blanks u) r) (ActsAs (letter.Asks q) (tree.Asks (request_of q) t)) text from end
    (λ u r y. (t, refl, y)) (blank_read (RestOfLine t) text from mid end l b x)

pub substitute_read : (act : Action) (text : List ℕ) (from mid end : ℕ) → from ≤ mid
    → drop mid text ≡ after_blanks (drop from text) → IsReadBy (SubstitutesAs act) text mid end
    → IsReadBy (ActsAs letter.Substitute act) text from end
substitute_read act text from mid end l b x =
    as_read (λ u r. SubstitutesAs act (after_blanks u) r) (ActsAs letter.Substitute act) text from end (λ u r y. y)
    (blank_read (SubstitutesAs act) text from mid end l b x)

pub substitute_fails : (text : List ℕ) (from mid : ℕ) (e : SynFault) → from ≤ mid
    → drop mid text ≡ after_blanks (drop from text) → ActionFails SubstitutesAs text mid e
    → ActionFails (ActsAs letter.Substitute) text from e
substitute_fails text from mid e l b x =
    blank_fails Action Action SubstitutesAs (ActsAs letter.Substitute) text from mid l b (λ a. a) (λ a u r y. y)
    (λ a u r y. (a, y)) e x

-- ---- addresses

newline_begins_none : begins_piece (Some 10) ≡ false
unfolding mark_of
newline_begins_none = refl

pub ends_no_piece : (n : Option ℕ) → ends_line n ≡ true → begins_piece n ≡ false
ends_no_piece None e = refl
ends_no_piece (Some c) e = ap (λ z. begins_piece (Some z)) (eqb-true c 10 e) ∙ newline_begins_none

pub address_read : (a : address.Tree) (text : List ℕ) (from end : ℕ) → IsAddressAt text from a end
    → IsReadBy (Begins a) text from end
address_read a text from end x = record {
  order = omega (arith, x.order);
  within = x.within;
  written = x.written;
}

pub address_bad : (text : List ℕ) (from place : ℕ) → IsBadFrom text from place
    → IsBadBy address.Tree Begins ends_line text from place
address_bad text from place bad = record {
  order = bad.order;
  within = bad.within;
  before = go (nat_lt from place) refl;
  dead = bad.dead;
}
  where
    go : (b : Bool) → nat_lt from place ≡ b → (more : List ℕ) × (a : address.Tree)
        × (from ≡ place → is_solid (next_of more) ≡ true) × ((rest : List ℕ)
        → ends_line (next_of rest) ≡ true → Begins a ((slice_range text from place ++ more) ++ rest) rest)
    go true e =
        let some : from < place = ltb-true from place e in
        let b = bad.before in (
          b.0,
          b.1,
          λ f. absurd (omega (arith, f, some)),
          λ rest n. b.2 (next_of rest) (ends_no_piece (next_of rest) n)
              rest refl,
        )
    go false e =
        let same : from ≡ place = omega (arith, bad.order, ltb-false from place e) in
        let none : slice_range text from place ≡ [] = ap (λ k. slice_range text from k) (sym same)
        ∙ slice_none text from in (
          46 ∷ [],
          Dot,
          λ f. refl,
          λ rest n. subst (λ (t : List ℕ). Begins Dot ((t ++ 46 ∷ []) ++ rest) rest) (sym none)
              (dot_row rest (ends_no_piece (next_of rest) n)),
        )

pub address_fails : (text : List ℕ) (from : ℕ) (e : SynFault) → FailsFrom text from e
    → PartFails address.Tree Begins ends_line text from e
address_fails text from (fault.Bad place) x = address_bad text from place x
address_fails text from fault.Nodes x = absurd x
address_fails text from fault.Deep x = absurd x
address_fails text from fault.NoMemory x = tt

pub send_read : (w : Way) (a : address.Tree) (text : List ℕ) (from mid end : ℕ) → from ≤ mid
    → drop mid text ≡ after_blanks (drop from text) → IsAddressAt text mid a end
    → IsReadBy (ActsAs (letter.Sends w) (sends w a)) text from end
send_read w a text from mid end l b x =
    as_read (λ u r. Begins a (after_blanks u) r) (ActsAs (letter.Sends w) (sends w a)) text from end
    (λ u r y. (a, refl, y)) (blank_read (Begins a) text from mid end l b (address_read a text mid end x))

pub send_fails : (w : Way) (text : List ℕ) (from mid : ℕ) (e : SynFault) → from ≤ mid
    → drop mid text ≡ after_blanks (drop from text) → FailsFrom text mid e
    → ActionFails (ActsAs (letter.Sends w)) text from e
send_fails w text from mid e l b x =
    blank_fails address.Tree Action Begins (ActsAs (letter.Sends w)) text from mid l b (sends w)
    (λ a u r y. (a, refl, y)) (λ act u r y. (y.0, y.2)) e (address_fails text mid e x)

-- ---- letters alone

pub delete_read : (text : List ℕ) (from : ℕ) → from ≤ length text → IsReadBy (ActsAs letter.Delete tree.Delete) text
    from from
delete_read text from l = record {
  order = omega arith;
  within = l;
  written =
      λ rest n. (refl, ap (λ (t : List ℕ). t ++ rest) (slice_none text from));
}

pub print_read : (text : List ℕ) (from : ℕ) → from ≤ length text → IsReadBy (ActsAs letter.Print tree.Print) text from
    from
print_read text from l = record {
  order = omega arith;
  within = l;
  written =
      λ rest n. (refl, ap (λ (t : List ℕ). t ++ rest) (slice_none text from));
}

pub runes_read : (text : List ℕ) (from : ℕ) → from < length text → is_next 35 (next_of (drop from text)) ≡ true →
    IsReadBy (ActsAs letter.Equals tree.RuneNumber) text from (from + 1)
runes_read text from l e = record {
  order = omega arith;
  within = omega (arith, l);
  written = λ rest n.
      let one : slice_range text from (from + 1) ≡ 35 ∷ [] = starts text from (from + 1) 35 (omega arith)
      (omega (arith, l)) e ∙ ap (λ (t : List ℕ). 35 ∷ t) (slice_none text (from + 1)) in
      inl (refl, ap (λ (t : List ℕ). t ++ rest) one);
}

pub lines_read : (text : List ℕ) (from : ℕ) → from ≤ length text → is_next 35 (next_of (drop from text)) ≡ false →
    IsReadBy (ActsAs letter.Equals tree.LineNumber) text from from
lines_read text from l e = record {
  order = omega arith;
  within = l;
  written = λ rest n. inr (refl, ap (λ (t : List ℕ). t ++ rest) (slice_none text from), ap (is_next 35) n ∙ e);
}

-- a rune that comes next is in the text
pub next_inside : (text : List ℕ) (from c : ℕ) → from ≤ length text
    → is_next c (next_of (drop from text)) ≡ true → from < length text
next_inside text from c l e = go (nat_lt from (length text)) refl
  where
    go : (b : Bool) → nat_lt from (length text) ≡ b → from < length text
    go true f = ltb-true from (length text) f
    go false f =
        let ends : from ≡ length text = omega (arith, l, ltb-false from (length text) f) in
        let none : is_next c (next_of (drop from text)) ≡ false = ap (λ k. is_next c (next_of (drop k text))) ends
        ∙ ap (λ (t : List ℕ). is_next c (next_of t)) (drop_end text) in
        absurd cc

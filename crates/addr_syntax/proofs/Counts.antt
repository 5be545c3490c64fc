-- How many operators a tree has with one piece more, and whether it has a large expression.
use Rattle.std.proofs.Common.{◌≡◌, ℕ, zero, suc, ◌+◌, ◌||◌, ◌-◌, Bool, true, false, Option, Some, None, refl, ◌∙◌, ap}
use Rattle.std.proofs.Common.{arith}
use Rattle.std.specs.Prelude.{nat_lt, if◌then◌else◌}
use Rattle.std.proofs.lemmas.Bool.{ltb-false}
use borrow.Author.Tests.{ltb-true}
use Rattle.addr_syntax.specs.Tree.{Tree, Missing, LineAt, operators, is_large}
use Rattle.addr_syntax.specs.Joined.{Row, Nothing, Signed, Ended, Reading, by_sign, by_separator, first_part, with_part}
use Rattle.addr_syntax.specs.Joined.{row_tree, behind, whole, join_part}
use Rattle.addr_syntax.specs.Read.{reading_of, ending_of, supplied, Builds}
use Rattle.addr_syntax.specs.declared.reading.Sides.{Sides}
use Rattle.addr_syntax.specs.declared.reading.Built.TheVariants.{Whole, Deep}
use Rattle.addr_syntax.specs.declared.mark.Sign.{Sign}
use Rattle.addr_syntax.specs.declared.mark.Sign.TheVariants.{Plus, Minus}
use Rattle.addr_syntax.specs.declared.mark.Separator.{Separator}
use Rattle.addr_syntax.specs.declared.mark.Separator.TheVariants.{Comma, Semi}

added_count : (k : Sign) (a b : Tree) → operators (by_sign k a b) ≡ operators a + operators b + 1
added_count Plus a b = refl
added_count Minus a b = refl

added_large : (k : Sign) (a b : Tree) → is_large (by_sign k a b) ≡ is_large a || is_large b
added_large Plus a b = refl
added_large Minus a b = refl

spanned_count : (k : Separator) (a b : Tree) → operators (by_separator k a b) ≡ operators a + operators b + 1
spanned_count Comma a b = refl
spanned_count Semi a b = refl

spanned_large : (k : Separator) (a b : Tree) → is_large (by_separator k a b) ≡ is_large a || is_large b
spanned_large Comma a b = refl
spanned_large Semi a b = refl

first_count : (p : Tree) → operators (first_part p) ≡ operators p
first_count (LineAt zero) = refl
first_count (LineAt (suc n)) = refl
first_count _ = refl

first_large : (p : Tree) → is_large (first_part p) ≡ is_large p
first_large (LineAt zero) = refl
first_large (LineAt (suc n)) = refl
first_large _ = refl

part_count : (r : Row) (p : Tree) → operators (row_tree (with_part r p)) ≡ operators (row_tree r) + operators
    p + supplied (ending_of r)
part_count Nothing p = omega (arith, first_count p)
part_count (Signed a k) p = omega (arith, added_count k a p, added_count k a Missing)
part_count (Ended a) p = omega (arith, added_count Plus a p)

or_missing : (x y : Bool) → (x || y) ≡ ((x || false) || y)
or_missing true y = refl
or_missing false y = refl

or_behind : (x y z : Bool) → (x || (y || z)) ≡ ((x || y) || z)
or_behind true y z = refl
or_behind false y z = refl

part_large : (r : Row) (p : Tree) → is_large (row_tree (with_part r p)) ≡ is_large (row_tree r) || is_large p
part_large Nothing p = first_large p
part_large (Signed a k) p = rw (added_large k a p, added_large k a Missing) (or_missing (is_large a) (is_large p))
part_large (Ended a) p = refl

whole_count : (r : Reading) (p : Tree) → operators (whole (join_part r p)) ≡ operators (whole r) + operators
    p + supplied (ending_of r.row)
whole_count r p = go r.before
  where
    go : (b : Option (Tree × Separator)) → operators (behind b (row_tree (with_part r.row p)))
        ≡ operators (behind b (row_tree r.row)) + operators p + supplied (ending_of r.row)
    go None = part_count r.row p
    go (Some (a, k)) = omega (
      arith,
      part_count r.row p,
      spanned_count k a (row_tree (with_part r.row p)),
      spanned_count k a (row_tree r.row),
    )

whole_large : (r : Reading) (p : Tree) → is_large (whole (join_part r p)) ≡ is_large (whole r) || is_large p
whole_large r p = go r.before
  where
    go : (b : Option (Tree × Separator)) → is_large (behind b (row_tree (with_part r.row p)))
        ≡ is_large (behind b (row_tree r.row)) || is_large p
    go None = part_large r.row p
    go (Some (a, k)) = rw (
      spanned_large k a (row_tree (with_part r.row p)),
      spanned_large k a (row_tree r.row),
      part_large r.row p,
    ) (or_behind (is_large a) (is_large (row_tree r.row)) (is_large p))

or_true : (x y : Bool) → y ≡ true → (x || y) ≡ true
or_true true y e = refl
or_true false y e = e

pub count_now : (r : Reading) (p : Tree) → operators p ≡ 0 → operators (whole (join_part r p)) ≡ operators (whole r)
    + supplied (ending_of r.row)
count_now r p e = omega (arith, whole_count r p)

pub large_part : (r : Reading) (p : Tree) → is_large p ≡ true → is_large (whole (join_part r p)) ≡ true
large_part r p e = whole_large r p ∙ or_true (is_large (whole r)) (is_large p) e

pub stays_large : (r : Reading) (p : Tree) → is_large (whole r) ≡ true → is_large (whole (join_part r p)) ≡ true
stays_large r p e = whole_large r p ∙ ap (λ b. b || is_large p) e

pub stays_small : (r : Reading) (p : Tree) → is_large (whole r) ≡ false → is_large p ≡ false →
    is_large (whole (join_part r p)) ≡ false
stays_small r p e f = whole_large r p ∙ (ap (λ b. b || is_large p) e ∙ f)

-- what is built where the room for operators is counted down
pub limited_part : (r : Reading) (p : Tree) (s : Sides) (room more : ℕ)
    → operators (whole r) + room ≡ 1024 → is_large (whole r) ≡ false → is_large p ≡ false → operators p ≡ 0 →
    more ≡ supplied (ending_of r.row) → reading_of s ≡ join_part r p
    → Builds (if nat_lt room more then Deep else Whole s (room - more)) (join_part r p)
limited_part r p s room more fits small part none e is = go (nat_lt room more) refl
  where
    go : (b : Bool) → nat_lt room more ≡ b → Builds (if b then Deep else Whole s (room - more)) (join_part r p)
    go true l = (omega (arith, count_now r p none, ltb-true room more l), stays_small r p small part)
    go false l = (is, omega (arith, count_now r p none, ltb-false room more l), stays_small r p small part)

pub ruleset counts = (count_now, large_part, stays_large, stays_small)

-- A piece by itself has no levels.
use Rattle.std.proofs.Common.{◌≡◌, ℕ, List, refl, ap, ◌∙◌, inl, inr}
use Rattle.addr_syntax.specs.Tree as address
use Rattle.edit_parts.specs.Tree.{Action}
use Rattle.edit_parts.specs.Kinds.{puts, sends}
use Rattle.edit_parts.specs.Pieces.{Piece, ActsAs, GoesOnAs}
use Rattle.edit_parts.specs.declared.kind.Place.{Place}
use Rattle.edit_parts.specs.declared.kind.Place.TheVariants.{Behind, Instead, Before}
use Rattle.edit_parts.specs.declared.kind.Way.{Way}
use Rattle.edit_parts.specs.declared.kind.Way.TheVariants.{Move, Copy}
use Rattle.edit_parts.specs.declared.kind.Letter.{Letter}
use Rattle.edit_parts.specs.declared.kind.Letter.TheVariants as letter
use Rattle.edit_parts.specs.declared.kind.Kind.{Kind}
use Rattle.edit_parts.specs.declared.kind.Kind.TheVariants as kind
use Rattle.sam_syntax.specs.Limits.{levels}
use Rattle.sam_syntax.specs.Read.{piece_levels}

puts_flat : (place : Place) (t : List ℕ) → levels (puts place t) ≡ 0
puts_flat Behind t = refl
puts_flat Instead t = refl
puts_flat Before t = refl

sends_flat : (way : Way) (a : address.Tree) → levels (sends way a) ≡ 0
sends_flat Move a = refl
sends_flat Copy a = refl

acts_flat : (l : Letter) (act : Action) (text rest : List ℕ) → ActsAs l act text rest → levels act ≡ 0
acts_flat (letter.Puts place) act text rest x = ap levels x.1 ∙ puts_flat place x.0
acts_flat letter.Delete act text rest x = ap levels x.0
acts_flat letter.Substitute act text rest x = ap levels x.4
acts_flat (letter.Sends way) act text rest x = ap levels x.1 ∙ sends_flat way x.0
acts_flat letter.Print act text rest x = ap levels x.0
acts_flat letter.Equals act text rest (inl x) = ap levels x.0
acts_flat letter.Equals act text rest (inr x) = ap levels x.0
acts_flat (letter.Asks request) act text rest x = ap levels x.1

pub goes_flat : (k : Kind) (p : Piece) (c : ℕ) (text rest : List ℕ) → GoesOnAs k p c text rest → piece_levels p ≡ 0
goes_flat kind.Blank p c text rest x = ap piece_levels x.0
goes_flat kind.EndsLine p c text rest x = ap piece_levels x.0
goes_flat kind.Address p c text rest x = ap piece_levels x.1
goes_flat (kind.Loops k) p c text rest x = ap piece_levels x.1
goes_flat kind.Opens p c text rest x = ap piece_levels x.0
goes_flat kind.Closes p c text rest x = ap piece_levels x.0
goes_flat (kind.Acts l) p c text rest x = ap piece_levels x.1 ∙ acts_flat l x.0 text rest x.2
goes_flat kind.Other p c text rest x = absurd x

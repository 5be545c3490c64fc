-- What may come next depends on the open blocks and the kind of line alone.
use Rattle.std.proofs.Common.{◌≡◌, ℕ, ◌+◌, List, [], ◌∷◌, length, Option, Some, refl, ap, ◌∙◌, arith}
use Rattle.edit_parts.specs.Pieces.{Piece, Blank, EndsLine, At, Loops, Opens, Closes, Does, GoesOnAs}
use Rattle.edit_parts.specs.declared.kind.Kind.{Kind}
use Rattle.edit_parts.specs.declared.kind.Kind.TheVariants as kind
use Rattle.sam_syntax.specs.Joined.{Reading, OpenBlock, Line, Opened, Looping, Addressed, Ended, after_piece}
use Rattle.sam_syntax.specs.Position.{place_of, position_of, position_if, behind_start, behind_address, behind_block}
use Rattle.sam_syntax.specs.Position.{behind_line, after_kind}
use Rattle.sam_syntax.specs.declared.position.Place.TheVariants as place
use Rattle.sam_syntax.specs.declared.position.Position.{Position}

-- where the reader is behind the piece
abbrev passes : Position → Piece → Option Position
passes at Blank = Some at
passes at EndsLine = behind_line at.blocks
passes at (At a) = behind_address at.place at.blocks
passes at (Loops k re) = behind_start at.place at.blocks place.Looping
passes at Opens = behind_start at.place (at.blocks + 1) place.Opened
passes at Closes = behind_block at.place at.blocks
passes at (Does act) = behind_start at.place at.blocks place.Ended

piece_passes : (r : Reading) (p : Piece) → position_if (after_piece r p) ≡ passes (position_of r) p
piece_passes r p = go r.blocks r.line p
  where
    go : (bs : List OpenBlock) (line : Line) (p : Piece) → position_if
        (after_piece (record { blocks = bs; line = line }) p) ≡ passes
        (record { blocks = length bs; place = place_of line }) p
    go bs line Blank = refl
    go [] line EndsLine = refl
    go (b ∷ bs) line EndsLine = refl
    go bs Opened (At a) = refl
    go bs (Looping []) (At a) = refl
    go bs (Looping (h ∷ hs)) (At a) = refl
    go bs (Addressed hs b) (At a) = refl
    go bs (Ended c) (At a) = refl
    go bs Opened (Loops k re) = refl
    go bs (Looping []) (Loops k re) = refl
    go bs (Looping (h ∷ hs)) (Loops k re) = refl
    go bs (Addressed hs b) (Loops k re) = refl
    go bs (Ended c) (Loops k re) = refl
    go bs Opened Opens = refl
    go bs (Looping []) Opens = ap (λ n. Some (record { blocks = n; place = place.Opened })) (omega arith)
    go bs (Looping (h ∷ hs)) Opens = ap (λ n. Some (record { blocks = n; place = place.Opened })) (omega arith)
    go bs (Addressed hs b) Opens = ap (λ n. Some (record { blocks = n; place = place.Opened })) (omega arith)
    go bs (Ended c) Opens = refl
    go [] line Closes = refl
    go (b ∷ bs) Opened Closes = refl
    go (b ∷ bs) (Looping []) Closes = refl
    go (b ∷ bs) (Looping (h ∷ hs)) Closes = refl
    go (b ∷ bs) (Addressed hs a) Closes = refl
    go (b ∷ bs) (Ended c) Closes = refl
    go bs Opened (Does act) = refl
    go bs (Looping []) (Does act) = refl
    go bs (Looping (h ∷ hs)) (Does act) = refl
    go bs (Addressed hs b) (Does act) = refl
    go bs (Ended c) (Does act) = refl

kind_passes : (k : Kind) (at : Position) (p : Piece) (c : ℕ) (text rest : List ℕ) → GoesOnAs k p c text rest
    → passes at p ≡ after_kind at k
kind_passes kind.Blank at p c text rest x = ap (passes at) x.0
kind_passes kind.EndsLine at p c text rest x = ap (passes at) x.0
kind_passes kind.Address at p c text rest x = ap (passes at) x.1
kind_passes (kind.Loops k) at p c text rest x = ap (passes at) x.1
kind_passes kind.Opens at p c text rest x = ap (passes at) x.0
kind_passes kind.Closes at p c text rest x = ap (passes at) x.0
kind_passes (kind.Acts l) at p c text rest x = ap (passes at) x.1
kind_passes kind.Other at p c text rest x = absurd x

-- what comes next is known by its first rune
pub position_passes : (r : Reading) (k : Kind) (p : Piece) (c : ℕ) (text rest : List ℕ) → GoesOnAs k p c text rest
    → position_if (after_piece r p) ≡ after_kind (position_of r) k
position_passes r k p c text rest x = piece_passes r p ∙ kind_passes k (position_of r) p c text rest x

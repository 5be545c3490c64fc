-- Pieces at their places.
use Rattle.std.proofs.Common.{◌≡◌, ℕ, ◌+◌, ◌<◌, ◌≤◌, List, [], ◌∷◌, ◌++◌, length, get_or, drop, Some, refl, sym, ap}
use Rattle.std.proofs.Common.{subst, ◌∙◌, arith}
use Rattle.std.specs.Prelude.{slice_range}
use Rattle.re_syntax.specs.Tree as expression
use Rattle.addr_syntax.specs.Tree as address
use Rattle.addr_syntax.specs.Marks.{next_of}
use Rattle.addr_syntax.specs.Grammar.{Begins}
use Rattle.addr_syntax.specs.Answer.{IsAddressAt, IsBadFrom, FailsFrom}
use Rattle.addr_syntax.specs.declared.address.SynFault.{SynFault}
use Rattle.addr_syntax.specs.declared.address.SynFault.TheVariants as fault
use Rattle.addr_syntax.proofs.Slices.{slice_none, slice_front, next_at}
use Rattle.edit_parts.specs.Tree.{Action}
use Rattle.edit_parts.specs.Kinds.{kind_of, loop_of, ends_line}
use Rattle.edit_parts.specs.Texts.{after_blanks}
use Rattle.edit_parts.specs.Pieces.{Piece, Blank, EndsLine, At, Loops, Opens, Closes, Does, LoopsOver, ActsAs, GoesOnAs}
use Rattle.edit_parts.specs.Pieces.{BeginsAs, IsPiece}
use Rattle.edit_parts.specs.Answer.{IsPieceAt, IsBadPiece, PieceFails}
use Rattle.edit_parts.specs.Read.{IsReadBy, IsBadBy, LoopFails, ActionFails}
use Rattle.edit_parts.specs.declared.kind.Letter.{Letter}
use Rattle.edit_parts.specs.declared.kind.Loop.{Loop}
use Rattle.edit_parts.specs.declared.kind.Kind.{Kind}
use Rattle.edit_parts.specs.declared.kind.Kind.TheVariants as kind
use Rattle.edit_parts.proofs.Parts.{as_read, blank_read, blank_bad, next_behind}
use Rattle.edit_parts.proofs.Acts.{ends_no_piece}
use Rattle.edit_parts.proofs.Once.{begins_with}

-- a piece of this kind, whose first rune is at the place
pub piece_read : (text : List ℕ) (at end : ℕ) (k : Kind) (p : Piece) → at < length text
    → kind_of (get_or text at 0) ≡ k → IsReadBy (GoesOnAs k p (get_or text at 0)) text (at + 1) end
    → IsPieceAt text at p end
piece_read text at end k p l e x = record {
  order = omega (arith, x.order);
  within = x.within;
  written = subst (λ (t : List ℕ). IsPiece p t (next_of (drop end text)))
      (sym (slice_front text at end (omega (arith, x.order)) x.within))
      (λ rest n. subst (λ (j : Kind). GoesOnAs j p (get_or text at 0) (slice_range text (at + 1) end ++ rest) rest)
      (sym e) (x.written rest n));
}

-- what begins with the runes up to a place
begins_here : (text : List ℕ) (at place : ℕ) (more : List ℕ) (p : Piece) (piece behind : List ℕ) → at < place
    → place ≤ length text → slice_range text at place ++ more ≡ piece ++ behind → IsPiece p piece (next_of behind)
    → GoesOnAs (kind_of (get_or text at 0)) p (get_or text at 0) (slice_range text (at + 1) place ++ more) behind
begins_here text at place more p piece behind l m e x =
    subst (λ (t : List ℕ). BeginsAs p (t ++ more) behind) (slice_front text at place l m)
    (subst (λ (t : List ℕ). BeginsAs p t behind) (sym e) (begins_with p piece behind x))

pub piece_bad : (X : Type 0) (R : X → List ℕ → List ℕ → Type 0) (text : List ℕ) (at place : ℕ) (k : Kind)
    → at < length text → kind_of (get_or text at 0) ≡ k → (f : X → Piece)
    → ((x : X) (t r : List ℕ) → R x t r → GoesOnAs k (f x) (get_or text at 0) t r)
    → ((p : Piece) (t r : List ℕ) → GoesOnAs k p (get_or text at 0) t r → (x : X) × R x t r)
    → IsBadBy X R ends_line text (at + 1) place → IsBadPiece text at place
piece_bad X R text at place k l e f g h bad = record {
  order = omega (arith, bad.order);
  within = bad.within;
  before = λ some.
      let b = bad.before in (
        b.0,
        f b.1,
        λ next n.
            subst (λ (t : List ℕ). IsPiece (f b.1) (t ++ b.0) next)
            (sym (slice_front text at place (omega (arith, bad.order)) bad.within))
            (λ rest same.
            subst (λ (j : Kind). GoesOnAs j (f b.1) (get_or text at 0)
            ((slice_range text (at + 1) place ++ b.0) ++ rest) rest) (sym e)
            (g b.1 ((slice_range text (at + 1) place ++ b.0) ++ rest) rest (b.3 rest (ap ends_line same ∙ n)))),
      );
  dead = λ more n p piece behind same x.
      let y = subst (λ (j : Kind). GoesOnAs j p (get_or text at 0) (slice_range text (at + 1) place ++ more) behind) e
      (begins_here text at place more p piece behind (omega (arith, bad.order)) bad.within same x) in
      let r = h p (slice_range text (at + 1) place ++ more) behind y in
      bad.dead more n r.0 behind r.1;
}

-- ---- runes alone

abbrev Alone : Kind → Piece → Type 0
Alone k p = (c : ℕ) (t r : List ℕ) → t ≡ r → GoesOnAs k p c t r

alone_read : (text : List ℕ) (at : ℕ) (k : Kind) (p : Piece) → Alone k p → at < length text
    → kind_of (get_or text at 0) ≡ k → IsPieceAt text at p (at + 1)
alone_read text at k p a l e =
    piece_read text at (at + 1) k p l e
    (record {
      order = omega arith;
      within = omega (arith, l);
      written = λ rest n. a (get_or text at 0) (slice_range text (at + 1) (at + 1) ++ rest) rest
          (ap (λ (t : List ℕ). t ++ rest) (slice_none text (at + 1)));
    })

pub blank_piece : (text : List ℕ) (at : ℕ) → at < length text → kind_of (get_or text at 0) ≡ kind.Blank → IsPieceAt text
    at Blank (at + 1)
blank_piece text at l e = alone_read text at kind.Blank Blank (λ c t r x. (refl, x)) l e

pub newline_piece : (text : List ℕ) (at : ℕ) → at < length text → kind_of (get_or text at 0) ≡ kind.EndsLine →
    IsPieceAt text at EndsLine (at + 1)
newline_piece text at l e = alone_read text at kind.EndsLine EndsLine (λ c t r x. (refl, x)) l e

pub open_piece : (text : List ℕ) (at : ℕ) → at < length text → kind_of (get_or text at 0) ≡ kind.Opens → IsPieceAt text
    at Opens (at + 1)
open_piece text at l e = alone_read text at kind.Opens Opens (λ c t r x. (refl, x)) l e

pub close_piece : (text : List ℕ) (at : ℕ) → at < length text → kind_of (get_or text at 0) ≡ kind.Closes →
    IsPieceAt text at Closes (at + 1)
close_piece text at l e = alone_read text at kind.Closes Closes (λ c t r x. (refl, x)) l e

-- ---- loops and letters

pub loop_piece : (text : List ℕ) (at mid end : ℕ) (k : Loop) (re : expression.Tree) → at < length text
    → kind_of (get_or text at 0) ≡ kind.Loops k → at + 1 ≤ mid → drop mid text ≡ after_blanks (drop (at + 1) text)
    → IsReadBy (LoopsOver k re) text mid end → IsPieceAt text at (Loops (loop_of k) re) end
loop_piece text at mid end k re l e m b x =
    piece_read text at end (kind.Loops k) (Loops (loop_of k) re) l e
    (as_read (λ t r. LoopsOver k re (after_blanks t) r) (GoesOnAs (kind.Loops k) (Loops (loop_of k) re)
    (get_or text at 0)) text (at + 1) end (λ t r y. (re, refl, y))
    (blank_read (LoopsOver k re) text (at + 1) mid end m b x))

pub loop_piece_fails : (text : List ℕ) (at mid : ℕ) (k : Loop) (e : SynFault) → at < length text
    → kind_of (get_or text at 0) ≡ kind.Loops k → at + 1 ≤ mid → drop mid text ≡ after_blanks (drop (at + 1) text)
    → LoopFails k text mid e → PieceFails text at e
loop_piece_fails text at mid k (fault.Bad place) l e m b x =
    piece_bad expression.Tree (λ re t r. LoopsOver k re (after_blanks t) r) text at place (kind.Loops k) l e
    (Loops (loop_of k)) (λ re t r y. (re, refl, y)) (λ p t r y. (y.0, y.2))
    (blank_bad expression.Tree (LoopsOver k) ends_line text (at + 1) mid place m b x)
loop_piece_fails text at mid k fault.Nodes l e m b x = absurd x
loop_piece_fails text at mid k fault.Deep l e m b x = absurd x
loop_piece_fails text at mid k fault.NoMemory l e m b x = tt

pub act_piece : (text : List ℕ) (at end : ℕ) (l : Letter) (act : Action) → at < length text
    → kind_of (get_or text at 0) ≡ kind.Acts l → IsReadBy (ActsAs l act) text (at + 1) end
    → IsPieceAt text at (Does act) end
act_piece text at end l act m e x =
    piece_read text at end (kind.Acts l) (Does act) m e
    (as_read (ActsAs l act) (GoesOnAs (kind.Acts l) (Does act) (get_or text at 0)) text (at + 1) end
    (λ t r y. (act, refl, y)) x)

pub act_piece_fails : (text : List ℕ) (at : ℕ) (l : Letter) (e : SynFault) → at < length text
    → kind_of (get_or text at 0) ≡ kind.Acts l → ActionFails (ActsAs l) text (at + 1) e → PieceFails text at e
act_piece_fails text at l (fault.Bad place) m e x =
    piece_bad Action (ActsAs l) text at place (kind.Acts l) m e Does (λ act t r y. (act, refl, y))
    (λ p t r y. (y.0, y.2)) x
act_piece_fails text at l fault.Nodes m e x = absurd x
act_piece_fails text at l fault.Deep m e x = absurd x
act_piece_fails text at l fault.NoMemory m e x = tt

-- ---- addresses, and runes with which no piece begins

pub address_piece : (text : List ℕ) (at end : ℕ) (a : address.Tree) → at < length text
    → kind_of (get_or text at 0) ≡ kind.Address → IsAddressAt text at a end → IsPieceAt text at (At a) end
address_piece text at end a l e x =
    piece_read text at end kind.Address (At a) l e
    (record {
      order = omega (arith, x.order);
      within = x.within;
      written = λ rest n. (
        a,
        refl,
        subst (λ (t : List ℕ). Begins a (t ++ rest) rest)
            (slice_front text at end x.order x.within) (x.written rest n),
      );
    })

-- a piece that begins with the rune at the place
kind_here : (text : List ℕ) (at place : ℕ) (more : List ℕ) (k : Kind) (p : Piece) (piece behind : List ℕ)
    → at < length text → at ≤ place → next_of more ≡ next_of (drop place text)
    → kind_of (get_or text at 0) ≡ k → slice_range text at place ++ more ≡ piece ++ behind → IsPiece p piece
    (next_of behind) → (c : ℕ) × (t : List ℕ) × (slice_range text at place ++ more ≡ c ∷ t) × GoesOnAs k p c t behind
kind_here text at place more k p [] behind l m n e f x = absurd x
kind_here text at place more k p (c ∷ cs) behind l m n e f x =
    let first : Some c ≡ Some (get_or text at 0) = ap next_of (sym f) ∙ next_behind text at place more m n
    ∙ next_at text at l in
    let same : c ≡ get_or text at 0 = cc in (
      c,
      cs ++ behind,
      f,
      subst (λ (j : Kind). GoesOnAs j p c (cs ++ behind) behind) (ap kind_of same ∙ e)
          (x behind refl),
    )

address_piece_bad : (text : List ℕ) (at place : ℕ) → at < length text
    → kind_of (get_or text at 0) ≡ kind.Address → IsBadFrom text at place → IsBadPiece text at place
address_piece_bad text at place l e bad = record {
  order = bad.order;
  within = bad.within;
  before = λ some.
      let b = bad.before in
      let front = slice_front text at place some bad.within in (
        b.0,
        At b.1,
        λ next n.
            subst (λ (t : List ℕ). IsPiece (At b.1) (t ++ b.0) next) (sym front)
            (λ rest same.
            subst (λ (j : Kind). GoesOnAs j (At b.1) (get_or text at 0)
            ((slice_range text (at + 1) place ++ b.0) ++ rest) rest) (sym e) (
              b.1,
              refl,
              subst (λ (t : List ℕ). Begins b.1 ((t ++ b.0) ++ rest) rest) front
                  (b.2 next (ends_no_piece next n) rest same),
            )),
      );
  dead = λ more n p piece behind same x.
      let y = kind_here text at place more kind.Address p piece behind l bad.order n e same x in
      bad.dead more n y.3.0 behind (subst (λ (t : List ℕ). Begins y.3.0 t behind) (sym y.2) y.3.2);
}

pub address_piece_fails : (text : List ℕ) (at : ℕ) (e : SynFault) → at < length text
    → kind_of (get_or text at 0) ≡ kind.Address → FailsFrom text at e → PieceFails text at e
address_piece_fails text at (fault.Bad place) l e x = address_piece_bad text at place l e x
address_piece_fails text at fault.Nodes l e x = absurd x
address_piece_fails text at fault.Deep l e x = absurd x
address_piece_fails text at fault.NoMemory l e x = tt

pub no_piece : (text : List ℕ) (at : ℕ) → at < length text → kind_of (get_or text at 0) ≡ kind.Other → IsBadPiece text
    at at
no_piece text at l e = record {
  order = omega arith;
  within = omega (arith, l);
  before = λ some. absurd (omega (arith, some));
  dead = λ more n p piece behind same x. (kind_here text at at more kind.Other p piece behind l (omega arith) n e same
      x).3;
}

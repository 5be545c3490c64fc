-- Pieces at their places.
use Rattle.std.proofs.Common.{◌≡◌, ℕ, ◌+◌, ◌<◌, ◌≤◌, true, List, [], ◌∷◌, ◌++◌, length, get_or, drop, Option, Some}
use Rattle.std.proofs.Common.{None, refl, sym, ap, subst, ◌∙◌, inl, inr, arith, append-nil}
use Rattle.std.specs.Prelude.{slice_range, nat_lt}
use Rattle.am_text.specs.Number.{number_after}
use Rattle.re_syntax.specs.Tree as expression
use Rattle.re_syntax.specs.Answer as answer
use Rattle.re_syntax.specs.declared.re.Re as re
use Rattle.std.proofs.lemmas.Bool.{le-ltb, lt-ltb}
use Rattle.addr_syntax.specs.Tree.{Tree, Dot, End, RuneAt, LineAt, Forward, Backward}
use Rattle.addr_syntax.specs.Marks.{mark_of, next_of}
use Rattle.addr_syntax.specs.Pieces.{Piece, Part, IsNumber, GoesOnAs, IsPiece}
use Rattle.addr_syntax.specs.Joined.{may_follow}
use Rattle.addr_syntax.specs.Scan.{IsNumberAt, IsBadNumber, IsPieceAt, IsBadPiece, IsTokenAt, IsExpressionAt}
use Rattle.addr_syntax.specs.Scan.{NumberFails, ExpressionFails, PieceFails, forward_of, backward_of, behind_at}
use Rattle.addr_syntax.specs.Scan.{Continues}
use Rattle.addr_syntax.specs.declared.address.SynFault.{SynFault}
use Rattle.addr_syntax.specs.declared.address.SynFault.TheVariants.{Bad, Nodes, Deep, NoMemory}
use Rattle.addr_syntax.specs.declared.reading.Token.TheVariants.{Stands}
use Rattle.addr_syntax.specs.declared.mark.Mark.{Mark}
use Rattle.addr_syntax.specs.declared.mark.Mark.TheVariants as mark
use Rattle.addr_syntax.proofs.Slices.{slice_none, slice_front, slice_length}
use Rattle.addr_syntax.proofs.Digits.{number_dead, number_none, step_true}
use Rattle.addr_syntax.proofs.Bodies.{search_stuck, search_written}

pub piece_at : (text : List ℕ) (at end : ℕ) (p : Piece) (m : Mark) → at < end → end ≤ length text
    → mark_of (get_or text at 0) ≡ m → GoesOnAs m p (get_or text at 0) (slice_range text (at + 1) end)
    (next_of (drop end text)) → IsPieceAt text at p end
piece_at text at end p m l w e x = record {
  order = l;
  within = w;
  written =
      let under : GoesOnAs (mark_of (get_or text at 0)) p (get_or text at 0) (slice_range text (at + 1) end)
      (next_of (drop end text)) = subst (λ (k : Mark). GoesOnAs k p (get_or text at 0)
      (slice_range text (at + 1) end) (next_of (drop end text))) (sym e) x in
      subst (λ (l : List ℕ). IsPiece p l (next_of (drop end text))) (sym (slice_front text at end l w)) under;
}

-- where the first rune stands
pub begins : (text : List ℕ) (at place : ℕ) (more : List ℕ) (p : Piece) (piece behind : List ℕ) → at < place
    → place ≤ length text → slice_range text at place ++ more ≡ piece ++ behind → IsPiece p piece (next_of behind)
    → (cs : List ℕ) × (slice_range text (at + 1) place ++ more ≡ cs ++ behind)
    × GoesOnAs (mark_of (get_or text at 0)) p (get_or text at 0) cs (next_of behind)
begins text at place more p [] behind l w e x = absurd x
begins text at place more p (c ∷ cs) behind l w e x =
    let front : slice_range text at place ≡ get_or text at 0 ∷ slice_range text (at + 1) place = slice_front text at
    place l w in
    let whole : get_or text at 0 ∷ (slice_range text (at + 1) place ++ more) ≡ c ∷ (cs ++ behind) =
    ap (λ (l : List ℕ). l ++ more) (sym front) ∙ e in
    let same : c ≡ get_or text at 0 = cc in
    (cs, cc, subst (λ (z : ℕ). GoesOnAs (mark_of z) p z cs (next_of behind)) same x)

begins_here : (text : List ℕ) (at : ℕ) (more : List ℕ) (p : Piece) (piece behind : List ℕ) → at < length text
    → Continues text at more → slice_range text at at ++ more ≡ piece ++ behind → IsPiece p piece (next_of behind)
    → (cs : List ℕ) × (get_or text at 0 ∷ cs ≡ piece) × GoesOnAs (mark_of (get_or text at 0)) p (get_or text at 0) cs
    (next_of behind)
begins_here text at more p [] behind l next e x = absurd x
begins_here text at more p (c ∷ cs) behind l (inl q) e x = absurd (omega (arith, l, q.0))
begins_here text at more p (c ∷ cs) behind l (inr q) e x =
    let whole : get_or text at 0 ∷ q.1 ≡ c ∷ (cs ++ behind) = sym (ap (λ (l : List ℕ). l ++ more) (slice_none text at)
    ∙ q.2) ∙ e in
    let same : c ≡ get_or text at 0 = cc in
    (cs, ap (λ z. z ∷ cs) (sym same), subst (λ (z : ℕ). GoesOnAs (mark_of z) p z cs (next_of behind)) same x)

as_mark : (m k : Mark) (p : Piece) (c : ℕ) (cs : List ℕ) (next : Option ℕ) → m ≡ k → GoesOnAs m p c cs next
    → GoesOnAs k p c cs next
as_mark m k p c cs next e x = subst (λ (j : Mark). GoesOnAs j p c cs next) e x

-- no piece begins with this rune
pub other_fails : (text : List ℕ) (at : ℕ) → at < length text → mark_of (get_or text at 0) ≡ mark.Other →
    IsBadPiece text at at
other_fails text at l e = record {
  order = omega arith;
  within = omega (arith, l);
  before = λ k. absurd (omega (arith, k));
  dead = λ more p piece behind next f x.
      let b = begins_here text at more p piece behind l next f x in
      as_mark (mark_of (get_or text at 0)) mark.Other p (get_or text at 0) b.0 (next_of behind) e b.2;
}

-- ---- numbers

pub line_at : (text : List ℕ) (at n end : ℕ) → mark_of (get_or text at 0) ≡ mark.Digit → IsNumberAt text at n end
    → IsPieceAt text at (Part (LineAt n)) end
line_at text at n end e x =
    piece_at text at end (Part (LineAt n)) mark.Digit x.order x.within e (
      n,
      refl,
      subst (λ (l : List ℕ). IsNumber n l (next_of (drop end text))) (slice_front text at end x.order x.within)
          x.written,
    )

pub rune_at : (text : List ℕ) (at n end : ℕ) → mark_of (get_or text at 0) ≡ mark.Hash → IsNumberAt text (at + 1) n end
    → IsPieceAt text at (Part (RuneAt n)) end
rune_at text at n end e x =
    piece_at text at end (Part (RuneAt n)) mark.Hash (omega (arith, x.order)) x.within e (n, refl, x.written)

number_now : (n : ℕ) (v : List ℕ) → 0 < length v → number_after 0 v ≡ Some n → IsNumber n v None
number_now n [] l e = absurd (omega arith)
number_now n (d ∷ ds) l e = (e, refl)

pub line_fails : (text : List ℕ) (at place : ℕ) → at < length text
    → mark_of (get_or text at 0) ≡ mark.Digit → IsBadNumber text at place → IsBadPiece text at place
line_fails text at place l e bad = record {
  order = bad.order;
  within = bad.within;
  before = λ k.
      let n = bad.digits.0 in
      let front : slice_range text at place ++ [] ≡ get_or text at 0 ∷ slice_range text (at + 1) place =
      append-nil (slice_range text at place) ∙ slice_front text at place k bad.within in
      let number : IsNumber n (slice_range text at place) None = number_now n (slice_range text at place)
      (omega (arith, k, slice_length text at place bad.order bad.within)) bad.digits.1 in
      let piece : GoesOnAs mark.Digit (Part (LineAt n)) (get_or text at 0) (slice_range text (at + 1) place) None =
      (n, refl, subst (λ (l : List ℕ). IsNumber n l None) (slice_front text at place k bad.within) number) in (
        [],
        LineAt n,
        subst (λ (l : List ℕ). IsPiece (Part (LineAt n)) l None) (sym front)
            (as_mark mark.Digit (mark_of (get_or text at 0)) (Part (LineAt n)) (get_or text at 0)
            (slice_range text (at + 1) place) None (sym e) piece),
        refl,
      );
  dead = λ more p piece behind next f x. go more p piece behind next f x;
}
  where
    first_is : (more : List ℕ) → Continues text place more → (s : List ℕ)
        → slice_range text at place ≡ s → (c : ℕ) (cs : List ℕ) → slice_range text at place ++ more ≡ c ∷ cs
        → c ≡ get_or text at 0
    first_is more next [] g c cs f =
        let here : at ≡ place = omega (
          arith,
          bad.order,
          ap length g,
          slice_length text at place bad.order bad.within,
        ) in
        elim next [
          | inl q ↦ absurd (omega (arith, here, q.0, l))
          | inr q ↦
              let whole : get_or text place 0 ∷ q.1 ≡ c ∷ cs = sym (ap (λ (l : List ℕ). l ++ more) g ∙ q.2) ∙ f in
              let same : c ≡ get_or text place 0 = cc in
              same ∙ ap (λ k. get_or text k 0) (sym here)
        ]
    first_is more next (y ∷ ys) g c cs f =
        let some : at < place = omega (
          arith,
          bad.order,
          ap length g,
          slice_length text at place bad.order bad.within,
        ) in
        let front : slice_range text at place ≡ get_or text at 0 ∷ slice_range text (at + 1) place = slice_front text at
        place some bad.within in
        let whole : get_or text at 0 ∷ (slice_range text (at + 1) place ++ more) ≡ c ∷ cs =
        ap (λ (l : List ℕ). l ++ more) (sym front) ∙ f in
        cc

    go : (more : List ℕ) (p : Piece) (piece behind : List ℕ) → Continues text place more → slice_range text at place
        ++ more ≡ piece ++ behind → IsPiece p piece (next_of behind) → ⊥
    go more p [] behind next f x = x
    go more p (c ∷ cs) behind next f x =
        let same : c ≡ get_or text at 0 = first_is more next (slice_range text at place) refl c (cs ++ behind) f in
        let digit : GoesOnAs mark.Digit p c cs (next_of behind) = as_mark (mark_of c) mark.Digit p c cs (next_of behind)
        (ap mark_of same ∙ e) x in
        number_dead text at place bad more next digit.0 (c ∷ cs) behind f digit.2

zero_digit : number_after 0 (48 ∷ []) ≡ Some 0
zero_digit = step_true 0 48 [] refl ∙ number_none 0

pub rune_fails : (text : List ℕ) (at place : ℕ) → at < length text
    → mark_of (get_or text at 0) ≡ mark.Hash → IsBadNumber text (at + 1) place → IsBadPiece text at place
rune_fails text at place l e bad = record {
  order = omega (arith, bad.order);
  within = bad.within;
  before = λ k. on (slice_range text (at + 1) place) refl;
  dead = λ more p piece behind next f x.
      let b = begins text at place more p piece behind (omega (arith, bad.order)) bad.within f x in
      let rune : GoesOnAs mark.Hash p (get_or text at 0) b.0 (next_of behind) = as_mark (mark_of (get_or text at 0))
      mark.Hash p (get_or text at 0) b.0 (next_of behind) e b.2 in
      number_dead text (at + 1) place bad more next rune.0 b.0 behind b.1 rune.2;
}
  where
    put : (n : ℕ) (more : List ℕ) → IsNumber n (slice_range text (at + 1) place ++ more) None → (more : List ℕ)
        × (q : Tree) × IsPiece (Part q) (slice_range text at place ++ more) None × (may_follow q ≡ true)
    put n more number =
        let front : slice_range text at place ++ more ≡ get_or text at 0 ∷ (slice_range text (at + 1) place ++ more) =
        ap (λ (l : List ℕ). l ++ more) (slice_front text at place (omega (arith, bad.order)) bad.within) in
        let piece : GoesOnAs mark.Hash (Part (RuneAt n)) (get_or text at 0) (slice_range text (at + 1) place ++ more)
        None = (n, refl, number) in (
          more,
          RuneAt n,
          subst (λ (l : List ℕ). IsPiece (Part (RuneAt n)) l None) (sym front)
              (as_mark mark.Hash (mark_of (get_or text at 0)) (Part (RuneAt n)) (get_or text at 0)
              (slice_range text (at + 1) place ++ more) None (sym e) piece),
          refl,
        )

    on : (s : List ℕ) → slice_range text (at + 1) place ≡ s → (more : List ℕ) × (q : Tree)
        × IsPiece (Part q) (slice_range text at place ++ more) None × (may_follow q ≡ true)
    on [] f = put 0 (48 ∷ []) (subst (λ (l : List ℕ). IsNumber 0 (l ++ 48 ∷ []) None) (sym f) (zero_digit, refl))
    on (d ∷ ds) f =
        let n = bad.digits.0 in
        put n [] (subst (λ (l : List ℕ). IsNumber n l None) (sym (append-nil (slice_range text (at + 1) place)))
        (number_now n (slice_range text (at + 1) place) (omega (arith, ap length f)) bad.digits.1))

-- ---- searches

pub forward_at : (text : List ℕ) (at end : ℕ) (r : expression.Tree)
    → mark_of (get_or text at 0) ≡ mark.Slash → answer.IsRead (Some 47) text (at + 1) end r
    → IsPieceAt text at (Part (Forward r)) (behind_at text end)
forward_at text at end r e read =
    let s = search_written 47 text (at + 1) end r read (nat_lt end (length text)) refl in
    piece_at text at (behind_at text end) (Part (Forward r)) mark.Slash (omega (arith, s.0)) s.1 e (r, refl, s.2)

pub backward_at : (text : List ℕ) (at end : ℕ) (r : expression.Tree)
    → mark_of (get_or text at 0) ≡ mark.Query → answer.IsRead (Some 63) text (at + 1) end r
    → IsPieceAt text at (Part (Backward r)) (behind_at text end)
backward_at text at end r e read =
    let s = search_written 63 text (at + 1) end r read (nat_lt end (length text)) refl in
    piece_at text at (behind_at text end) (Part (Backward r)) mark.Query (omega (arith, s.0)) s.1 e (r, refl, s.2)

pub forward_fails : (text : List ℕ) (at place : ℕ) → mark_of (get_or text at 0) ≡ mark.Slash → answer.IsBad (Some 47)
    text (at + 1) place → IsBadPiece text at place
forward_fails text at place e bad = record {
  order = omega (arith, bad.order);
  within = bad.within;
  before = λ k.
      let on = bad.before in
      let body = slice_range text (at + 1) place ++ on.0 in
      let front : slice_range text at place ++ on.0 ≡ get_or text at 0 ∷ body = ap (λ (l : List ℕ). l ++ on.0)
      (slice_front text at place k bad.within) in
      let piece : GoesOnAs mark.Slash (Part (Forward on.1)) (get_or text at 0) body None =
      (on.1, refl, (body, on.2, inr (refl, refl))) in (
        on.0,
        Forward on.1,
        subst (λ (l : List ℕ). IsPiece (Part (Forward on.1)) l None) (sym front)
            (as_mark mark.Slash (mark_of (get_or text at 0)) (Part (Forward on.1)) (get_or text at 0) body None (sym e)
            piece),
        refl,
      );
  dead = λ more p piece behind next f x.
      let b = begins text at place more p piece behind (omega (arith, bad.order)) bad.within f x in
      let s : GoesOnAs mark.Slash p (get_or text at 0) b.0 (next_of behind) = as_mark (mark_of (get_or text at 0))
      mark.Slash p (get_or text at 0) b.0 (next_of behind) e b.2 in
      search_stuck 47 text (at + 1) place bad more next s.0 b.0 behind b.1 refl s.2;
}

pub backward_fails : (text : List ℕ) (at place : ℕ) → mark_of (get_or text at 0) ≡ mark.Query → answer.IsBad (Some 63)
    text (at + 1) place → IsBadPiece text at place
backward_fails text at place e bad = record {
  order = omega (arith, bad.order);
  within = bad.within;
  before = λ k.
      let on = bad.before in
      let body = slice_range text (at + 1) place ++ on.0 in
      let front : slice_range text at place ++ on.0 ≡ get_or text at 0 ∷ body = ap (λ (l : List ℕ). l ++ on.0)
      (slice_front text at place k bad.within) in
      let piece : GoesOnAs mark.Query (Part (Backward on.1)) (get_or text at 0) body None =
      (on.1, refl, (body, on.2, inr (refl, refl))) in (
        on.0,
        Backward on.1,
        subst (λ (l : List ℕ). IsPiece (Part (Backward on.1)) l None) (sym front)
            (as_mark mark.Query (mark_of (get_or text at 0)) (Part (Backward on.1)) (get_or text at 0) body None (sym e)
            piece),
        refl,
      );
  dead = λ more p piece behind next f x.
      let b = begins text at place more p piece behind (omega (arith, bad.order)) bad.within f x in
      let s : GoesOnAs mark.Query p (get_or text at 0) b.0 (next_of behind) = as_mark (mark_of (get_or text at 0))
      mark.Query p (get_or text at 0) b.0 (next_of behind) e b.2 in
      search_stuck 63 text (at + 1) place bad more next s.0 b.0 behind b.1 refl s.2;
}

-- ---- tokens

pub dot_at : (text : List ℕ) (at : ℕ) → at < length text → mark_of (get_or text at 0) ≡ mark.Dot → IsPieceAt text at
    (Part Dot) (at + 1)
dot_at text at l e = piece_at text at (at + 1) (Part Dot) mark.Dot (omega arith) (omega (arith, l)) e
    (refl, slice_none text (at + 1))

pub dollar_at : (text : List ℕ) (at : ℕ) → at < length text → mark_of (get_or text at 0) ≡ mark.Dollar → IsPieceAt text
    at (Part End) (at + 1)
dollar_at text at l e = piece_at text at (at + 1) (Part End) mark.Dollar (omega arith) (omega (arith, l)) e
    (refl, slice_none text (at + 1))

pub line_faults : (text : List ℕ) (at : ℕ) → at < length text → mark_of (get_or text at 0) ≡ mark.Digit → (e : SynFault)
    → NumberFails text at e → PieceFails text at e
line_faults text at l m (Bad place) x = line_fails text at place l m x
line_faults text at l m Nodes x = x
line_faults text at l m Deep x = x
line_faults text at l m NoMemory x = absurd x

pub rune_faults : (text : List ℕ) (at : ℕ) → at < length text → mark_of (get_or text at 0) ≡ mark.Hash → (e : SynFault)
    → NumberFails text (at + 1) e → PieceFails text at e
rune_faults text at l m (Bad place) x = rune_fails text at place l m x
rune_faults text at l m Nodes x = x
rune_faults text at l m Deep x = x
rune_faults text at l m NoMemory x = absurd x

pub forward_faults : (text : List ℕ) (at : ℕ) → mark_of (get_or text at 0) ≡ mark.Slash → (e : SynFault)
    → ExpressionFails 47 text (at + 1) e → PieceFails text at e
forward_faults text at m (Bad place) x = forward_fails text at place m x
forward_faults text at m Nodes x = x
forward_faults text at m Deep x = x
forward_faults text at m NoMemory x = tt

pub backward_faults : (text : List ℕ) (at : ℕ) → mark_of (get_or text at 0) ≡ mark.Query → (e : SynFault)
    → ExpressionFails 63 text (at + 1) e → PieceFails text at e
backward_faults text at m (Bad place) x = backward_fails text at place m x
backward_faults text at m Nodes x = x
backward_faults text at m Deep x = x
backward_faults text at m NoMemory x = tt

pub forward_token : (text : List ℕ) (at end : ℕ) → mark_of (get_or text at 0) ≡ mark.Slash → (o : Option re.Re)
    → IsExpressionAt 47 text (at + 1) o end → IsTokenAt text at (Stands (forward_of o)) (behind_at text end)
forward_token text at end m (Some e) x =
    let r = expression.tree e in (
      Part (Forward r),
      (Forward r, refl, (refl, le-ltb 2048 (expression.nodes r) x.1, refl), refl),
      forward_at text at end r m x.0,
    )
forward_token text at end m None x = (
  Part (Forward x.0),
  (Forward x.0, refl, (lt-ltb 2048 (expression.nodes x.0) x.2, refl), refl),
  forward_at text at end x.0 m x.1,
)

pub backward_token : (text : List ℕ) (at end : ℕ) → mark_of (get_or text at 0) ≡ mark.Query → (o : Option re.Re)
    → IsExpressionAt 63 text (at + 1) o end → IsTokenAt text at (Stands (backward_of o)) (behind_at text end)
backward_token text at end m (Some e) x =
    let r = expression.tree e in (
      Part (Backward r),
      (Backward r, refl, (refl, le-ltb 2048 (expression.nodes r) x.1, refl), refl),
      backward_at text at end r m x.0,
    )
backward_token text at end m None x = (
  Part (Backward x.0),
  (Backward x.0, refl, (lt-ltb 2048 (expression.nodes x.0) x.2, refl), refl),
  backward_at text at end x.0 m x.1,
)

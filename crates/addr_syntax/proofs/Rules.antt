-- How rows of pieces are joined.
use Rattle.std.proofs.Common.{◌≡◌, ◌||◌, Bool, true, false, List, [], ◌∷◌, ◌++◌, Option, Some, None, refl, sym, ap, ◌∙◌}
use Rattle.addr_syntax.specs.Tree.{Tree}
use Rattle.addr_syntax.specs.Pieces.{Piece, Part, Adds, Splits}
use Rattle.addr_syntax.specs.Joined.{Row, Nothing, Reading, begin, by_sign, by_separator, with_part, with_sign}
use Rattle.addr_syntax.specs.Joined.{row_tree, behind, may_follow, is_nothing, whole, join_part, join_sign}
use Rattle.addr_syntax.specs.Joined.{after_pieces}
use Rattle.addr_syntax.specs.Laws.{is_row, SeparatorsJoinLast, SignsJoinFromTheLeft}
use Rattle.addr_syntax.specs.declared.mark.Separator.{Separator}
use Rattle.addr_syntax.proofs.Rows.{joined_append, joined_none, stands_joins}

abbrev state : Option (Tree × Separator) → Row → Reading
state b w = record { before = b; row = w }

-- a row changes nothing of what stands before it, and doesn't look at it
row_alone : (qs : List Piece) (b : Option (Tree × Separator)) (w : Row) (s : Reading)
    → is_row qs ≡ true → after_pieces (Some (state None w)) qs ≡ Some s
    → (after_pieces (Some (state b w)) qs ≡ Some (state b s.row)) × (s.before ≡ None)
row_alone [] b w s e f =
    let same : state None w ≡ s = cc in
    (ap (λ (x : Reading). Some (state b x.row)) same, sym (ap (λ (x : Reading). x.before) same))
row_alone (Part q ∷ qs) b w s e f = go (may_follow q || is_nothing w) refl (λ g. row_alone qs b (with_part w q) s e g)
  where
    go : (c : Bool) → (may_follow q || is_nothing w) ≡ c → (after_pieces (Some (state None (with_part w q))) qs ≡ Some s
        → (after_pieces (Some (state b (with_part w q))) qs ≡ Some (state b s.row)) × (s.before ≡ None))
        → (after_pieces (Some (state b w)) (Part q ∷ qs) ≡ Some (state b s.row)) × (s.before ≡ None)
    go true t k = rw t (k (rw t at f))
    go false t k =
        let none : after_pieces None qs ≡ Some s = rw t at f in
        let never : after_pieces None qs ≡ None = joined_none qs in
        absurd cc
row_alone (Adds k ∷ qs) b w s e f = row_alone qs b (with_sign w k) s e f
row_alone (Splits k ∷ qs) b w s e f = absurd cc

pub separators_last : SeparatorsJoinLast
separators_last ps qs k r s row e f =
    let on = row_alone qs (Some (whole r, k)) Nothing s row f in
    let all : after_pieces (Some begin) (ps ++ Splits k ∷ qs) ≡ Some (state (Some (whole r, k)) s.row) =
    joined_append (Some begin) ps (Splits k ∷ qs) ∙ ap (λ (o : Option Reading). after_pieces o (Splits k ∷ qs)) e
    ∙ on.0 in
    let right : row_tree s.row ≡ whole s = sym (ap (λ (b : Option (Tree × Separator)). behind b (row_tree s.row))
    on.1) in
    (state (Some (whole r, k)) s.row, all, ap (λ (a : Tree). by_separator k (whole r) a) right)

pub signs_left : SignsJoinFromTheLeft
signs_left ps k q r row may e =
    let alone : r.before ≡ None = (row_alone ps None Nothing r row e).1 in
    let all : after_pieces (Some begin) (ps ++ Adds k ∷ Part q ∷ []) ≡ Some (join_part (join_sign r k) q) =
    joined_append (Some begin) ps (Adds k ∷ Part q ∷ []) ∙ ap (λ (o : Option Reading). after_pieces o
    (Adds k ∷ Part q ∷ [])) e ∙ stands_joins (join_sign r k) q may in
    let left : row_tree r.row ≡ whole r = sym (ap (λ (b : Option (Tree × Separator)). behind b (row_tree r.row))
    alone) in (
      join_part (join_sign r k) q,
      all,
      ap (λ (b : Option (Tree × Separator)). behind b (by_sign k (row_tree r.row) q))
          alone ∙ ap (λ (a : Tree). by_sign k a q) left,
    )

-- Texts and their commands: the function gives the command that the grammar has, and nothing else.
use Rattle.std.proofs.Common.{◌≡◌, ℕ, zero, suc, ◌+◌, ◌-◌, ◌≤◌, Bool, true, false, List, [], ◌∷◌, ◌++◌, length, drop}
use Rattle.std.proofs.Common.{Option, Some, None, refl, sym, ap, subst, ◌∙◌, inl, inr, arith}
use Rattle.std.specs.Prelude.{slice_range, if◌then◌else◌}
use Rattle.std.specs.Option.{option_map}
use Rattle.std.proofs.lemmas.Bool.{cases_lt}
use Rattle.std.proofs.lemmas.List.{take-append-drop, length-append}
use Rattle.addr_syntax.specs.Marks.{next_of}
use Rattle.addr_syntax.specs.declared.address.SynFault.TheVariants as fault
use Rattle.edit_parts.specs.Tree.{Command}
use Rattle.edit_parts.specs.Pieces.{Piece, IsPiece}
use Rattle.edit_parts.proofs.Once.{begins_with}
use Rattle.sam_syntax.specs.Limits.{is_large, is_deep}
use Rattle.sam_syntax.specs.Joined.{Reading, begin, is_done, whole, after_pieces}
use Rattle.sam_syntax.specs.Grammar.{BeginsWith, IsEdit, GoesOn}
use Rattle.sam_syntax.specs.Answer.{IsBad, IsInLimits, Refuses}
use Rattle.sam_syntax.specs.Cuts.{Cut}
use Rattle.sam_syntax.specs.Pieces.{first_piece}
use Rattle.sam_syntax.specs.Edits.{with_piece, pieces_within, pieces_of, whole_command, command_of_pieces, edit_of}
use Rattle.sam_syntax.specs.Edits.{small_one, small_edit}
use Rattle.sam_syntax.proofs.Cuts.{some_same}
use Rattle.sam_syntax.proofs.Pieces.{piece_some, piece_only}
use Rattle.sam_syntax.proofs.Local.{piece_local}

-- ---- rows of pieces

within_none : (n : ℕ) → pieces_within n [] ≡ Some []
unfolding pieces_within
within_none n = refl

within_zero : (c : ℕ) (cs : List ℕ) → pieces_within 0 (c ∷ cs) ≡ None
unfolding pieces_within
within_zero c cs = refl

within_more : (n c : ℕ) (cs : List ℕ) → pieces_within (suc n) (c ∷ cs) ≡ with_piece (first_piece (c ∷ cs))
    (λ behind. pieces_within n behind)
unfolding pieces_within
within_more n c cs = refl

row_pieces : (ps : List Piece) (text : List ℕ) (n : ℕ) → length text ≤ n → BeginsWith ps text []
    → pieces_within n text ≡ Some ps
row_pieces [] text n l x = ap (pieces_within n) x ∙ within_none n
row_pieces (p ∷ ps) text n l x = go x.0 x.1 n x.2 x.3 l (λ m k. row_pieces ps x.1 m k x.4)
  where
    go : (piece behind : List ℕ) (n : ℕ) → text ≡ piece ++ behind → IsPiece p piece (next_of behind) → length text ≤ n
        → ((m : ℕ) → length behind ≤ m → pieces_within m behind ≡ Some ps) → pieces_within n text ≡ Some (p ∷ ps)
    go [] behind n e y l on = absurd y
    go (c ∷ cs) behind zero e y l on = absurd (let k : length text ≡ suc (length (cs ++ behind)) = ap length e in
        omega (arith, k, l))
    go (c ∷ cs) behind (suc m) e y l on =
        let k : length text ≡ suc (length (cs ++ behind)) = ap length e in
        let small : length behind ≤ m = omega (arith, k, l, length-append cs behind) in
        let cut : first_piece (c ∷ cs ++ behind) ≡ Some (p, behind) = piece_some p (c ∷ cs ++ behind) behind
        (begins_with p (c ∷ cs) behind y) in
        ap (pieces_within (suc m)) e ∙
        within_more m c (cs ++ behind) ∙
        ap (λ (o : Cut Piece). with_piece o (λ behind. pieces_within m behind)) cut ∙
        ap (λ (o : Option (List Piece)). option_map (λ (qs : List Piece). p ∷ qs) o) (on m small)

pieces_row : (n : ℕ) (text : List ℕ) (ps : List Piece) → pieces_within n text ≡ Some ps → BeginsWith ps text []
pieces_row n [] ps e =
    subst (λ (qs : List Piece). BeginsWith qs [] []) (some_same [] ps (sym (within_none n) ∙ e)) refl
pieces_row zero (c ∷ cs) ps e = let f = within_zero c cs in absurd cc
pieces_row (suc n) (c ∷ cs) ps e = go (first_piece (c ∷ cs)) refl (λ t qs. pieces_row n t qs)
    (sym (within_more n c cs) ∙ e)
  where
    made : (p : Piece) (behind : List ℕ) (o : Option (List Piece)) → first_piece (c ∷ cs) ≡ Some (p, behind)
        → ((qs : List Piece) → o ≡ Some qs → BeginsWith qs behind [])
        → option_map (λ (qs : List Piece). p ∷ qs) o ≡ Some ps → BeginsWith ps (c ∷ cs) []
    made p behind None f on h = absurd cc
    made p behind (Some qs) f on h =
        let s = piece_local p c cs behind (piece_only p (c ∷ cs) behind f) in
        subst (λ (rs : List Piece). BeginsWith rs (c ∷ cs) []) (some_same (p ∷ qs) ps h)
        (c ∷ s.0, behind, ap (λ (l : List ℕ). c ∷ l) s.1, s.2, on qs refl)

    go : (o : Cut Piece) → first_piece (c ∷ cs) ≡ o → ((t : List ℕ) (qs : List Piece) → pieces_within n t ≡ Some qs
        → BeginsWith qs t []) → with_piece o (λ behind. pieces_within n behind) ≡ Some ps → BeginsWith ps (c ∷ cs) []
    go None f on h = absurd cc
    go (Some (p, behind)) f on h = made p behind (pieces_within n behind) f (on behind) h

-- ---- commands

pub edit_some : (text : List ℕ) (c : Command) → IsEdit text c → edit_of text ≡ Some c
unfolding edit_of
edit_some text c (ps, r, x, e, done, same) =
    ap command_of_pieces (row_pieces ps text (length text) (omega arith) x)
    ∙ ap whole_command e
    ∙ ap (λ (b : Bool). if b then Some (whole r) else None) done
    ∙ ap (λ (d : Command). Some d) (sym same)

pub edit_only : (text : List ℕ) (c : Command) → edit_of text ≡ Some c → IsEdit text c
unfolding edit_of
edit_only text c e = go (pieces_of text) refl e
  where
    ends : (ps : List Piece) (r : Reading) → BeginsWith ps text [] → after_pieces (Some begin) ps ≡ Some r → (b : Bool)
        → is_done r ≡ b → (if b then Some (whole r) else None) ≡ Some c → IsEdit text c
    ends ps r x f true d h = (ps, r, x, f, d, sym (some_same (whole r) c h))
    ends ps r x f false d h = absurd cc

    joins : (ps : List Piece) → BeginsWith ps text [] → (o : Option Reading)
        → after_pieces (Some begin) ps ≡ o → whole_command o ≡ Some c → IsEdit text c
    joins ps x None f h = absurd cc
    joins ps x (Some r) f h = ends ps r x f (is_done r) refl h

    go : (o : Option (List Piece)) → pieces_of text ≡ o → command_of_pieces o ≡ Some c → IsEdit text c
    go None f h = absurd cc
    go (Some ps) f h = joins ps (pieces_row (length text) text ps f) (after_pieces (Some begin) ps) refl h

-- ---- what reading answers

pub edit_ok : (text : List ℕ) (c : Command) → IsEdit text c → IsInLimits c → Some c ≡ small_edit text
edit_ok text c x small = sym (ap small_one (edit_some text c x) ∙ fits)
  where
    fits : small_one (Some c) ≡ Some c
    fits = rw (small.nodes, small.depth) refl

-- the text is no command, where none goes on from it or it only stops short
never_written : (text : List ℕ) (place : ℕ) → IsBad text place → (c : Command) → IsEdit text c → ⊥
never_written text place bad c is = elim (cases_lt place (length text)) [
  | inl h ↦ bad.after h (goes_on (place + 1))
  | inr h ↦ bad.short (omega (arith, h, bad.within)) c is
]
  where
    goes_on : (n : ℕ) → GoesOn (slice_range text 0 n)
    goes_on n = (drop (n - 0) text, c, subst (λ (t : List ℕ). IsEdit t c) (sym (take-append-drop (n - 0) text)) is)

pub edit_bad : (text : List ℕ) (place : ℕ) → IsBad text place → None ≡ small_edit text
edit_bad text place x = go (edit_of text) refl
  where
    go : (o : Option Command) → edit_of text ≡ o → None ≡ small_one o
    go None f = refl
    go (Some c) f = absurd (never_written text place x c (edit_only text c f))

large_one : (c : Command) → is_large c ≡ true → small_one (Some c) ≡ None
large_one c e = rw e refl

deep_one : (c : Command) → is_large c ≡ false → is_deep c ≡ true → small_one (Some c) ≡ None
deep_one c e f = rw (e, f) refl

pub edit_large : (text : List ℕ) → Refuses text fault.Nodes → None ≡ small_edit text
edit_large text x = sym (ap small_one (edit_some text x.0 x.1) ∙ large_one x.0 x.2)

pub edit_deep : (text : List ℕ) → Refuses text fault.Deep → None ≡ small_edit text
edit_deep text x = sym (ap small_one (edit_some text x.0 x.1) ∙ deep_one x.0 x.2 x.3)

-- Texts and their trees: the function gives the tree of an address, and of nothing else.
use Rattle.std.proofs.Common.{◌≡◌, ℕ, zero, suc, ◌+◌, ◌-◌, ◌<◌, ◌≤◌, true, false, List, [], ◌∷◌, ◌++◌, length, drop}
use Rattle.std.proofs.Common.{Option, Some, None, refl, sym, ap, subst, ◌∙◌, inl, inr, arith}
use Rattle.std.specs.Prelude.{slice_range}
use Rattle.std.specs.Option.{option_map}
use Rattle.std.proofs.lemmas.Bool.{cases_lt, le-leb, lt-leb}
use Rattle.std.proofs.lemmas.List.{take-append-drop, length-append}
use Rattle.addr_syntax.specs.Tree.{Tree, operators, is_large}
use Rattle.addr_syntax.specs.Marks.{next_of}
use Rattle.addr_syntax.specs.Pieces.{Piece, IsPiece, BeginsWith}
use Rattle.addr_syntax.specs.Joined.{Reading, begin, whole, after_pieces}
use Rattle.addr_syntax.specs.Grammar.{IsAddress, GoesOn}
use Rattle.addr_syntax.specs.Answer.{IsBad, IsInLimits, Refuses}
use Rattle.addr_syntax.specs.declared.address.SynFault.TheVariants as fault
use Rattle.addr_syntax.specs.Addresses.{Cut, first_piece, with_piece, pieces_within, pieces_of, tree_of_pieces}
use Rattle.addr_syntax.specs.Addresses.{address_of, small_one, small_address}
use Rattle.addr_syntax.proofs.Cuts.{piece_cut, piece_back}

-- ---- rows of pieces

within_none : (n : ℕ) → pieces_within n [] ≡ Some []
unfolding pieces_within
within_none n = refl

within_zero : (c : ℕ) (cs : List ℕ) → pieces_within 0 (c ∷ cs) ≡ None
unfolding pieces_within
within_zero c cs = refl

within_more : (n c : ℕ) (cs : List ℕ) → pieces_within (suc n) (c ∷ cs) ≡ with_piece (first_piece (c ∷ cs))
    (λ behind. pieces_within n behind)
unfolding pieces_within
within_more n c cs = refl

pieces_same : (ps qs : List Piece) → Some ps ≡ Some qs → ps ≡ qs
pieces_same ps qs e = cc

pub row_pieces : (ps : List Piece) (text : List ℕ) (n : ℕ) → length text ≤ n → BeginsWith ps text []
    → pieces_within n text ≡ Some ps
row_pieces [] text n l x = ap (pieces_within n) x ∙ within_none n
row_pieces (p ∷ ps) text n l x = go x.0 x.1 n x.2 x.3 l (λ m k. row_pieces ps x.1 m k x.4)
  where
    go : (piece behind : List ℕ) (n : ℕ) → text ≡ piece ++ behind → IsPiece p piece (next_of behind) → length text ≤ n
        → ((m : ℕ) → length behind ≤ m → pieces_within m behind ≡ Some ps) → pieces_within n text ≡ Some (p ∷ ps)
    go [] behind n e y l on = absurd y
    go (c ∷ cs) behind zero e y l on = absurd (let k : length text ≡ suc (length (cs ++ behind)) = ap length e in
        omega (arith, k, l))
    go (c ∷ cs) behind (suc m) e y l on =
        let k : length text ≡ suc (length (cs ++ behind)) = ap length e in
        let small : length behind ≤ m = omega (arith, k, l, length-append cs behind) in
        ap (pieces_within (suc m)) e ∙
        within_more m c (cs ++ behind) ∙
        ap (λ (o : Cut). with_piece o (λ behind. pieces_within m behind)) (piece_cut p c cs behind y) ∙
        ap (λ (o : Option (List Piece)). option_map (λ (qs : List Piece). p ∷ qs) o) (on m small)

pub pieces_row : (n : ℕ) (text : List ℕ) (ps : List Piece) → pieces_within n text ≡ Some ps → BeginsWith ps text []
pieces_row n [] ps e =
    let none : [] ≡ ps = pieces_same [] ps (sym (within_none n) ∙ e) in
    subst (λ (qs : List Piece). BeginsWith qs [] []) none refl
pieces_row zero (c ∷ cs) ps e = let f = within_zero c cs in absurd cc
pieces_row (suc n) (c ∷ cs) ps e = go (first_piece (c ∷ cs)) refl (λ t qs. pieces_row n t qs)
    (sym (within_more n c cs) ∙ e)
  where
    made : (p : Piece) (behind : List ℕ) (o : Option (List Piece)) → first_piece (c ∷ cs) ≡ Some (p, behind)
        → ((qs : List Piece) → o ≡ Some qs → BeginsWith qs behind [])
        → option_map (λ (qs : List Piece). p ∷ qs) o ≡ Some ps → BeginsWith ps (c ∷ cs) []
    made p behind None f on h = absurd cc
    made p behind (Some qs) f on h =
        let s = piece_back p c cs behind f in
        let same : p ∷ qs ≡ ps = pieces_same (p ∷ qs) ps h in
        subst (λ (rs : List Piece). BeginsWith rs (c ∷ cs) []) same
        (c ∷ s.0, behind, ap (λ (l : List ℕ). c ∷ l) s.1, s.2, on qs refl)

    go : (o : Cut) → first_piece (c ∷ cs) ≡ o → ((t : List ℕ) (qs : List Piece) → pieces_within n t ≡ Some qs
        → BeginsWith qs t []) → with_piece o (λ behind. pieces_within n behind) ≡ Some ps → BeginsWith ps (c ∷ cs) []
    go None f on h = absurd cc
    go (Some (p, behind)) f on h = made p behind (pieces_within n behind) f (on behind) h

-- ---- addresses

tree_same : (a b : Tree) → Some a ≡ Some b → b ≡ a
tree_same a b e = cc

pub address_some : (text : List ℕ) (a : Tree) → IsAddress text a → address_of text ≡ Some a
unfolding address_of
address_some text a x =
    let cut : pieces_of text ≡ Some (x.0 ∷ x.1) = row_pieces (x.0 ∷ x.1) text (length text) (omega arith) x.3 in
    ap tree_of_pieces cut ∙ ap (λ (o : Option Reading). option_map whole o) x.4 ∙ ap (λ (t : Tree). Some t) (sym x.5)

pub address_only : (text : List ℕ) (a : Tree) → address_of text ≡ Some a → IsAddress text a
unfolding address_of
address_only text a e = go (pieces_of text) refl e
  where
    joins : (p : Piece) (ps : List Piece) → BeginsWith (p ∷ ps) text [] → (o : Option Reading)
        → after_pieces (Some begin) (p ∷ ps) ≡ o → option_map whole o ≡ Some a → IsAddress text a
    joins p ps x None f h = absurd cc
    joins p ps x (Some r) f h = (p, ps, r, x, f, tree_same (whole r) a h)

    go : (o : Option (List Piece)) → pieces_of text ≡ o → tree_of_pieces o ≡ Some a → IsAddress text a
    go None f h = absurd cc
    go (Some []) f h = absurd cc
    go (Some (p ∷ ps)) f h = joins p ps (pieces_row (length text) text (p ∷ ps) f) (after_pieces (Some begin) (p ∷ ps))
        refl h

-- ---- what reading answers

pub address_ok : (text : List ℕ) (a : Tree) → IsAddress text a → IsInLimits a → Some a ≡ small_address text
address_ok text a x small = sym (ap small_one (address_some text a x) ∙ fits)
  where
    fits : small_one (Some a) ≡ Some a
    fits = rw (small.nodes, le-leb (operators a) 1024 small.depth) refl

-- the text is no address, where none goes on from it or it only stops short
never_written : (text : List ℕ) (place : ℕ) → IsBad text place → (a : Tree) → IsAddress text a → ⊥
never_written text place bad a is = elim (cases_lt place (length text)) [
  | inl h ↦ bad.after h (goes_on (place + 1))
  | inr h ↦ bad.short (omega (arith, h, bad.within)) a is
]
  where
    goes_on : (n : ℕ) → GoesOn (slice_range text 0 n)
    goes_on n = (drop (n - 0) text, a, subst (λ (t : List ℕ). IsAddress t a) (sym (take-append-drop (n - 0) text)) is)

pub address_bad : (text : List ℕ) (place : ℕ) → IsBad text place → None ≡ small_address text
address_bad text place x = go (address_of text) refl
  where
    go : (o : Option Tree) → address_of text ≡ o → None ≡ small_one o
    go None f = refl
    go (Some a) f = absurd (never_written text place x a (address_only text a f))

large_one : (a : Tree) → is_large a ≡ true → small_one (Some a) ≡ None
large_one a e = rw e refl

deep_one : (a : Tree) → is_large a ≡ false → 1024 < operators a → small_one (Some a) ≡ None
deep_one a e l = rw (e, lt-leb (operators a) 1024 l) refl

pub address_large : (text : List ℕ) → Refuses text fault.Nodes → None ≡ small_address text
address_large text x = sym (ap small_one (address_some text x.0 x.1) ∙ large_one x.0 x.2)

pub address_deep : (text : List ℕ) → Refuses text fault.Deep → None ≡ small_address text
address_deep text x = sym (ap small_one (address_some text x.0 x.1) ∙ deep_one x.0 x.2 x.3)

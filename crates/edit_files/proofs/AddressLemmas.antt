-- Commands that begin with an address.
use Rattle.std.proofs.Common.{◌≡◌, ℕ, zero, suc, ◌+◌, ◌-◌, ◌≤◌, ◌<◌, ◌==◌, Bool, true, false, List, [], ◌∷◌, ◌++◌}
use Rattle.std.proofs.Common.{length, get_or, drop}
use Rattle.std.proofs.Common.{Option, Some, None, refl, sym, ap, subst, ◌∙◌, arith, append_assoc, inl, inr}
use Rattle.std.specs.Prelude.{slice_range}
use Rattle.std.specs.Option.{option_map}
use Rattle.std.proofs.lemmas.Bool.{eqb-true}
use Rattle.std.proofs.lemmas.List.{append-nil, drop_more, length-append}
use Rattle.addr_syntax.specs.Tree as address
use Rattle.addr_syntax.specs.Marks.{next_of, begins_piece}
use Rattle.addr_syntax.specs.Grammar.{Begins}
use Rattle.addr_syntax.specs.Answer.{IsBadFrom, IsAddressAt, FailsFrom}
use Rattle.addr_syntax.specs.declared.address.SynFault.{SynFault}
use Rattle.addr_syntax.specs.declared.address.SynFault.TheVariants as fault
use Rattle.addr_syntax.proofs.Slices.{slice_length, cut_twice}
use Rattle.addr_syntax.proofs.Places.{slice_behind}
use Rattle.addr_syntax.proofs.Fronts.{next_joined, rows_close, row_first, not_both}
use Rattle.edit_parts.specs.Kinds.{kind_of, is_next}
use Rattle.edit_parts.specs.declared.kind.Kind.{Kind}
use Rattle.edit_parts.specs.declared.kind.Kind.TheVariants as kind
use Rattle.edit_parts.specs.Texts.{after_blanks}
use Rattle.edit_parts.specs.Tree.{Nothing}
use Rattle.edit_parts.specs.Pieces.{Piece, Blank, At}
use Rattle.edit_parts.proofs.Parts.{stands, solid_behind}
use Rattle.sam_syntax.specs.Cuts.{Cut, cut_as}
use Rattle.sam_syntax.specs.Texts.{first_address}
use Rattle.sam_syntax.specs.Joined.{Reading, Addressed, after_pieces}
use Rattle.sam_syntax.specs.Pieces.{first_piece, piece_by}
use Rattle.sam_syntax.specs.Edits.{with_piece, pieces_within, command_of_pieces, whole_command, edit_of}
use Rattle.sam_syntax.proofs.Parts.{address_some, address_only}
use Rattle.edit_files.specs.Letters.{letter_of, letter_at, reads_in}
use Rattle.edit_files.specs.declared.letter.Letter.{Letter}
use Rattle.edit_files.specs.declared.letter.Letter.TheVariants as letter
use Rattle.edit_files.specs.Names.{names_from, lone}
use Rattle.edit_files.specs.Command.{FilesCommand, One, WriteOut}
use Rattle.edit_files.specs.Files.{sam_of, file_of, ranged_of, at_address, addressed, by_letter, solid_files}
use Rattle.edit_files.specs.Answer.{Stops, IsBadAt, FilesFails}
use Rattle.edit_files.specs.Answer as answer
use Rattle.edit_files.proofs.BadLemmas.{Blanks, blanks, passed_from}
use Rattle.edit_files.proofs.LetterLemmas.{kind_address, letter_address, address_begins, reads_other, same_letter}
use Rattle.edit_files.proofs.LetterLemmas.{file_letter_119, no_piece_119}
use Rattle.edit_files.proofs.EditLemmas.{sam_nothing}

-- whether an address stands before `r` or `w`
abbrev pub file_mode : Cut address.Tree → Option Bool
file_mode None = None
file_mode (Some (a, behind)) = reads_in (letter_at (after_blanks behind))

solid_address : (t : List ℕ) → letter_at t ≡ letter.Address → solid_files t ≡ addressed (first_address t) t
solid_address t e = ap (λ (l : Letter). by_letter l t) e

none_address : (t : List ℕ) → ((a : address.Tree) (rest : List ℕ) → Begins a t rest → ⊥) → first_address t ≡ None
none_address t never_so = go (first_address t) refl
  where
    go : (o : Cut address.Tree) → first_address t ≡ o → first_address t ≡ None
    go None e = e
    go (Some (a, rest)) e = absurd (never_so a rest (address_only a t rest e))

begins_address : (a : address.Tree) (t rest : List ℕ) → Begins a t rest → letter_at t ≡ letter.Address
begins_address a t rest x = go t (row_first x.0 x.1 t rest x.3)
  where
    go : (t : List ℕ) → begins_piece (next_of t) ≡ true → letter_at t ≡ letter.Address
    go [] e = absurd cc
    go (c ∷ cs) e = letter_address c e

-- ---- a fault in the address

no_names : names_from [] [] ≡ Some []
unfolding names_from
no_names = refl

write_alone : (a : address.Tree) (t : List ℕ) → Begins a t (119 ∷ []) → solid_files t ≡ Some (WriteOut a None)
write_alone a t x =
    solid_address t (begins_address a t (119 ∷ []) x)
    ∙ ap (λ (o : Cut address.Tree). addressed o t) (address_some a t (119 ∷ []) x)
    ∙ ap (λ (l : Letter). at_address a (reads_in l) [] t) file_letter_119
    ∙ ap (λ (o : Option (List (List ℕ))). option_map (file_of false a) (lone o)) no_names

address_bad : (text : List ℕ) (from place : ℕ) → letter_at (drop from text) ≡ letter.Address →
    IsBadFrom text from place → answer.IsBadFrom solid_files text from place
address_bad text from place l bad = (
  place - from,
  omega (arith, bad.order),
  record {
    front = slice_range text from place;
    behind = drop place text;
    cut = slice_behind text from place bad.order;
    there = sym (slice_length text from place bad.order bad.within);
    before =
        let b = bad.before in (
          b.0 ++ 119 ∷ [],
          WriteOut b.1 None,
          ap solid_files (sym (append_assoc (slice_range text from place) b.0 (119 ∷ [])))
              ∙ write_alone b.1 ((slice_range text from place ++ b.0) ++ 119 ∷ [])
              (b.2 (Some 119) no_piece_119 (119 ∷ []) refl),
        );
    after = go (drop place text) refl;
  },
)
  where
    front : List ℕ
    front = slice_range text from place

    stops : (y : List ℕ) → next_of y ≡ next_of (drop place text) → solid_files (front ++ y) ≡ None
    stops y e =
        solid_address (front ++ y) (same_letter (front ++ y) (drop from text)
        (next_joined front y (drop place text) e ∙ ap next_of (sym (slice_behind text from place bad.order))) ∙ l)
        ∙ ap (λ (o : Cut address.Tree). addressed o (front ++ y))
        (none_address (front ++ y) (λ a rest x. bad.dead y e a rest x))

    go : (behind : List ℕ) → drop place text ≡ behind → Stops solid_files front behind
    go [] e = ap solid_files (sym (append-nil front)) ∙ stops [] (ap next_of (sym e))
    go (c ∷ cs) e = λ rest. stops (c ∷ rest) (ap next_of (sym e))

pub address_fails : (text : List ℕ) (from : ℕ) (e : SynFault) → letter_at (drop from text) ≡ letter.Address →
    FailsFrom text from e → FilesFails solid_files text from e
address_fails text from (fault.Bad place) l x = address_bad text from place l x
address_fails text from fault.Nodes l x = absurd x
address_fails text from fault.Deep l x = absurd x
address_fails text from fault.NoMemory l x = x

-- ---- pieces of sam

more_pieces : (n c : ℕ) (cs : List ℕ) → pieces_within (suc n) (c ∷ cs) ≡ with_piece (first_piece (c ∷ cs))
    (λ behind. pieces_within n behind)
unfolding pieces_within
more_pieces n c cs = refl

no_more_pieces : (n : ℕ) → pieces_within n [] ≡ Some []
unfolding pieces_within
no_more_pieces n = refl

too_few : (c : ℕ) (cs : List ℕ) → pieces_within 0 (c ∷ cs) ≡ None
unfolding pieces_within
too_few c cs = refl

blank_kind : kind_of 32 ≡ kind.Blank
unfolding kind_of
blank_kind = refl

blank_first : (n c : ℕ) (cs : List ℕ) → c ≡ 32 → pieces_within (suc n) (c ∷ cs) ≡ option_map
    (λ (ps : List Piece). Blank ∷ ps) (pieces_within n cs)
blank_first n c cs e =
    more_pieces n c cs ∙ ap (λ z. with_piece (piece_by (kind_of z) z cs) (λ behind. pieces_within n behind)) e
    ∙ ap (λ (k : Kind). with_piece (piece_by k 32 cs) (λ behind. pieces_within n behind)) blank_kind

-- where a rune that begins none stands behind blanks, there is no row
no_row : (n : ℕ) (t : List ℕ) (l : ℕ) (rest : List ℕ) → after_blanks t ≡ l ∷ rest → kind_of l ≡ kind.Other →
    pieces_within n t ≡ None
no_row n [] l rest e k = absurd cc
no_row zero (c ∷ cs) l rest e k = too_few c cs
no_row (suc n) (c ∷ cs) l rest e k = go (c == 32) refl (λ f. no_row n cs l rest f k)
  where
    go : (b : Bool) → (c == 32) ≡ b → (after_blanks cs ≡ l ∷ rest → pieces_within n cs ≡ None) →
        pieces_within (suc n) (c ∷ cs) ≡ None
    go true f on =
        let g : after_blanks cs ≡ l ∷ rest = rw f at e in
        blank_first n c cs (eqb-true c 32 f) ∙ ap (option_map (λ (ps : List Piece). Blank ∷ ps)) (on g)
    go false f on =
        let g : c ∷ cs ≡ l ∷ rest = rw f at e in
        let same : c ≡ l = cc in
        more_pieces n c cs ∙ ap (λ (q : Kind). with_piece (piece_by q c cs) (λ behind. pieces_within n behind))
        (ap kind_of same ∙ k)

-- blanks alone are pieces that change nothing
abbrev IsBlankRow : ℕ → List ℕ → Reading → Type 0
IsBlankRow n t r = (ps : List Piece) × (pieces_within n t ≡ Some ps) × (after_pieces (Some r) ps ≡ Some r)

blank_row : (n : ℕ) (t : List ℕ) (r : Reading) → length t ≤ n → after_blanks t ≡ [] → IsBlankRow n t r
blank_row n [] r l e = ([], no_more_pieces n, refl)
blank_row zero (c ∷ cs) r l e = absurd (omega (arith, l))
blank_row (suc n) (c ∷ cs) r l e = go (c == 32) refl (λ f. blank_row n cs r (omega (arith, l)) f)
  where
    go : (b : Bool) → (c == 32) ≡ b → (after_blanks cs ≡ [] → IsBlankRow n cs r) → IsBlankRow (suc n) (c ∷ cs) r
    go true f on =
        let g : after_blanks cs ≡ [] = rw f at e in
        let x = on g in
        (Blank ∷ x.0, blank_first n c cs (eqb-true c 32 f) ∙ ap (option_map (λ (ps : List Piece). Blank ∷ ps)) x.1, x.2)
    go false f on = let g : c ∷ cs ≡ [] = rw f at e in absurd cc

-- a text that begins with an address
address_first : (n c : ℕ) (cs : List ℕ) → letter_of c ≡ letter.Address →
    pieces_within (suc n) (c ∷ cs) ≡ with_piece (cut_as At (first_address (c ∷ cs))) (λ behind. pieces_within n behind)
address_first n c cs e =
    more_pieces n c cs ∙ ap (λ (q : Kind). with_piece (piece_by q c cs) (λ behind. pieces_within n behind))
    (kind_address c (address_begins c e))

abbrev addressed_reading : address.Tree → Reading
addressed_reading a = record { blocks = []; line = Addressed [] a }

-- an address and blanks are a command
range_alone : (a : address.Tree) (w b : List ℕ) → Begins a (w ++ b) b → after_blanks b ≡ [] →
    edit_of (w ++ b) ≡ Some (a, Nothing)
unfolding edit_of
range_alone a w b x e = go (w ++ b) refl (begins_address a (w ++ b) b x)
  where
    go : (t : List ℕ) → w ++ b ≡ t → letter_at t ≡ letter.Address → command_of_pieces
        (pieces_within (length t) t) ≡ Some (a, Nothing)
    go [] f l = absurd cc
    go (c ∷ cs) f l =
        let y : Begins a (c ∷ cs) b = subst (λ (t : List ℕ). Begins a t b) f x in
        let shorter : length b ≤ length cs = omega (arith, ap length f, length-append w b, fits) in
        let r = blank_row (length cs) b (addressed_reading a) shorter e in
        ap command_of_pieces (address_first (length cs) c cs l ∙ ap
        (λ (o : Cut address.Tree). with_piece (cut_as At o) (λ behind. pieces_within (length cs) behind))
        (address_some a (c ∷ cs) b y) ∙ ap (option_map (λ (ps : List Piece). At a ∷ ps)) r.1)
        ∙ ap whole_command r.2
      where
        not_empty : (w : List ℕ) → Begins a (w ++ b) b → 1 ≤ length w
        not_empty [] z = absurd (not_both (begins_piece (next_of b)) (row_first z.0 z.1 b b z.3) z.6)
        not_empty (d ∷ ds) z = omega arith

        fits : 1 ≤ length w
        fits = not_empty w x

-- ---- an address before `r` or `w`

pub record FileForm (t : List ℕ) (m : Bool) (a : address.Tree) (l : ℕ) (rest : List ℕ) : Type 0 where
  pub head : List ℕ
  pub cut : t ≡ head ++ l ∷ rest
  pub reads : (y : List ℕ) → solid_files (head ++ l ∷ y) ≡ ranged_of m a y
  pub mode : (y : List ℕ) → file_mode (first_address (head ++ l ∷ y)) ≡ Some m
  pub alone : edit_of head ≡ Some (a, Nothing)

file_form : (t d : List ℕ) (a : address.Tree) (l : ℕ) (rest : List ℕ) (m : Bool) → Begins a t d →
    after_blanks d ≡ l ∷ rest → reads_in (letter_of l) ≡ Some m → FileForm t m a l rest
file_form t d a l rest m x e r = go (next_of d) refl
  where
    b : Blanks d
    b = blanks d

    gap : List ℕ
    gap = b.0

    split : d ≡ gap ++ l ∷ rest
    split = b.1 ∙ ap (λ (z : List ℕ). gap ++ z) e

    next : (y : List ℕ) → next_of (gap ++ l ∷ y) ≡ next_of d
    next y = next_joined gap (l ∷ y) (l ∷ rest) refl ∙ ap next_of (sym split)

    solid : is_next 32 (Some l) ≡ false
    solid = ap (λ (z : List ℕ). is_next 32 (next_of z)) (sym e) ∙ solid_behind d

    after : (y : List ℕ) → after_blanks (gap ++ l ∷ y) ≡ l ∷ y
    after y = b.2 (l ∷ y) ∙ stands (l ∷ y) solid

    gap_ends : (g y : List ℕ) → begins_piece (next_of (g ++ y)) ≡ false → begins_piece (next_of g) ≡ false
    gap_ends [] y h = refl
    gap_ends (c ∷ cs) y h = h

    made : (w : List ℕ) → t ≡ w ++ d → ((y : List ℕ) → begins_piece (next_of y) ≡ false → Begins a (w ++ y) y) →
        FileForm t m a l rest
    made w f g =
        let here : (y : List ℕ) → Begins a (w ++ (gap ++ l ∷ y)) (gap ++ l ∷ y) =
        λ y. g (gap ++ l ∷ y) (ap begins_piece (next y) ∙ x.6) in
        let is_cut : (y : List ℕ) → first_address ((w ++ gap) ++ l ∷ y) ≡ Some (a, gap ++ l ∷ y) =
        λ y. ap first_address (append_assoc w gap (l ∷ y)) ∙ address_some a (w ++ (gap ++ l ∷ y)) (gap ++ l ∷ y)
        (here y) in
        let is_mode : (y : List ℕ) → reads_in (letter_at (after_blanks (gap ++ l ∷ y))) ≡ Some m =
        λ y. ap (λ (z : List ℕ). reads_in (letter_at z)) (after y) ∙ r in
        record {
          head = w ++ gap;
          cut = f ∙ ap (λ (z : List ℕ). w ++ z) split ∙ sym (append_assoc w gap (l ∷ rest));
          reads = λ y.
              solid_address ((w ++ gap) ++ l ∷ y) (ap letter_at (append_assoc w gap (l ∷ y)) ∙ begins_address a
              (w ++ (gap ++ l ∷ y)) (gap ++ l ∷ y) (here y))
              ∙ ap (λ (o : Cut address.Tree). addressed o ((w ++ gap) ++ l ∷ y)) (is_cut y)
              ∙ ap (λ (o : Option Bool). at_address a o (drop 1 (after_blanks (gap ++ l ∷ y))) ((w ++ gap) ++ l ∷ y))
              (is_mode y)
              ∙ ap (λ (z : List ℕ). ranged_of m a (drop 1 z)) (after y);
          mode = λ y. ap file_mode (is_cut y) ∙ is_mode y;
          alone =
              range_alone a w gap (g gap (gap_ends gap (l ∷ rest)
              (ap (λ (z : List ℕ). begins_piece (next_of z)) (sym split) ∙ x.6)))
              (ap after_blanks (sym (append-nil gap)) ∙ b.2 []);
        }

    go : (o : Option ℕ) → next_of d ≡ o → FileForm t m a l rest
    go None f =
        absurd (let h : ◌≡◌ {A = Option ℕ} (next_of (gap ++ l ∷ rest)) None = ap next_of (sym split) ∙ f in
        none_there gap h)
      where
        none_there : (g : List ℕ) → next_of (g ++ l ∷ rest) ≡ None → ⊥
        none_there [] h = absurd cc
        none_there (c ∷ cs) h = absurd cc
    go (Some n) f =
        let c = rows_close (x.0 ∷ x.1) t d n f x.3 in
        made c.0 c.1 (λ y h. (x.0, x.1, x.2, c.2 y h, x.4, x.5, h))

-- ---- any other command that begins with an address

abbrev AnyForm : List ℕ → Bool → Type 0
AnyForm t m = (a : address.Tree) × (l : ℕ) × (rest : List ℕ) × FileForm t m a l rest

mode_form : (t : List ℕ) (m : Bool) → file_mode (first_address t) ≡ Some m → AnyForm t m
mode_form t m e = go (first_address t) refl e
  where
    inside : (a : address.Tree) (d z : List ℕ) → Begins a t d → after_blanks d ≡ z → reads_in (letter_at z) ≡ Some m →
        AnyForm t m
    inside a d [] x f g = absurd cc
    inside a d (l ∷ rest) x f g = (a, l, rest, file_form t d a l rest m x f g)

    go : (o : Cut address.Tree) → first_address t ≡ o → file_mode o ≡ Some m → AnyForm t m
    go None f g = absurd cc
    go (Some (a, d)) f g = inside a d (after_blanks d) (address_only a t d f) refl g

-- such a command is none of sam
file_no_edit : (t : List ℕ) (m : Bool) → letter_at t ≡ letter.Address → file_mode (first_address t) ≡ Some m →
    edit_of t ≡ None
unfolding edit_of
file_no_edit [] m l e = absurd cc
file_no_edit (c ∷ cs) m l e = go (first_address (c ∷ cs)) refl e
  where
    inside : (a : address.Tree) (d z : List ℕ) → after_blanks d ≡ z → reads_in (letter_at z) ≡ Some m →
        pieces_within (length cs) d ≡ None
    inside a d [] f g = absurd cc
    inside a d (l ∷ rest) f g = no_row (length cs) d l rest f (reads_other l m g)

    go : (o : Cut address.Tree) → first_address (c ∷ cs) ≡ o → file_mode o ≡ Some m →
        command_of_pieces (pieces_within (suc (length cs)) (c ∷ cs)) ≡ None
    go None f g = absurd cc
    go (Some (a, d)) f g =
        ap command_of_pieces (address_first (length cs) c cs l ∙ ap
        (λ (o : Cut address.Tree). with_piece (cut_as At o) (λ behind. pieces_within (length cs) behind)) f
        ∙ ap (option_map (λ (ps : List Piece). At a ∷ ps)) (inside a d (after_blanks d) refl g))

no_address_no_edit : (t : List ℕ) → letter_at t ≡ letter.Address → first_address t ≡ None → edit_of t ≡ None
unfolding edit_of
no_address_no_edit [] l e = absurd cc
no_address_no_edit (c ∷ cs) l e =
    ap command_of_pieces (address_first (length cs) c cs l ∙ ap
    (λ (o : Cut address.Tree). with_piece (cut_as At o) (λ behind. pieces_within (length cs) behind)) e)

-- where neither `r` nor `w` stands behind the address
pub other_reads : (t : List ℕ) (a : address.Tree) (d : List ℕ) → letter_at t ≡ letter.Address →
    first_address t ≡ Some (a, d) → file_mode (first_address t) ≡ None → solid_files t ≡ sam_of t
other_reads t a d l e f =
    let g : reads_in (letter_at (after_blanks d)) ≡ None = ap file_mode (sym e) ∙ f in
    solid_address t l ∙ ap (λ (o : Cut address.Tree). addressed o t) e ∙ ap
    (λ (o : Option Bool). at_address a o (drop 1 (after_blanks d)) t) g

-- a command of sam is that command
one_reads : (t : List ℕ) (c : FilesCommand) → letter_at t ≡ letter.Address → sam_of t ≡ Some c → solid_files t ≡ Some c
one_reads t c l e = go (first_address t) refl
  where
    contrary : edit_of t ≡ None → ⊥
    contrary n = let h : ◌≡◌ {A = Option FilesCommand} None (Some c) = sym (ap (option_map One) n) ∙ e in absurd cc

    inside : (a : address.Tree) (d : List ℕ) → first_address t ≡ Some (a, d) → (o : Option Bool) →
        file_mode (first_address t) ≡ o → solid_files t ≡ Some c
    inside a d f None g = other_reads t a d l f g ∙ e
    inside a d f (Some m) g = absurd (contrary (file_no_edit t m l g))

    go : (o : Cut address.Tree) → first_address t ≡ o → solid_files t ≡ Some c
    go None f = absurd (contrary (no_address_no_edit t l f))
    go (Some (a, d)) f = inside a d f (file_mode (first_address t)) refl

other_on : (front behind : List ℕ) → letter_at (front ++ behind) ≡ letter.Address → answer.GoesOn sam_of front →
    answer.GoesOn solid_files front
other_on [] behind l x = ([], One (address.Missing, Nothing), sam_nothing)
other_on (c ∷ cs) behind l x = (x.0, x.1, one_reads (c ∷ cs ++ x.0) x.1 l x.2)

-- none is a file's where the whole is none, and sam goes no further
other_none : (front : List ℕ) (c : ℕ) (cs rest : List ℕ) → letter_at (front ++ c ∷ cs) ≡ letter.Address →
    file_mode (first_address (front ++ c ∷ cs)) ≡ None → ((rest : List ℕ) → sam_of (front ++ c ∷ rest) ≡ None) →
    solid_files (front ++ c ∷ rest) ≡ None
other_none front c cs rest l f never_so = go (first_address (front ++ c ∷ rest)) refl
  where
    same : letter_at (front ++ c ∷ rest) ≡ letter.Address
    same = same_letter (front ++ c ∷ rest) (front ++ c ∷ cs) (next_joined front (c ∷ rest) (c ∷ cs) refl) ∙ l

    whole_mode : (m : Bool) → file_mode (first_address (front ++ c ∷ cs)) ≡ Some m → ⊥
    whole_mode m g = let h : ◌≡◌ {A = Option Bool} None (Some m) = sym f ∙ g in absurd cc

    cut_there : (m : Bool) (a : address.Tree) (k : ℕ) (more : List ℕ) (x : FileForm (front ++ c ∷ rest) m a k more)
        (y : List ℕ) → x.head ≡ front ++ y → c ∷ rest ≡ y ++ k ∷ more → ⊥
    cut_there m a k more x [] e g =
        let same : c ≡ k = cc in
        let h : x.head ≡ front = e ∙ append-nil front in
        whole_mode m (ap (λ z. file_mode (first_address (front ++ z ∷ cs))) same
        ∙ ap (λ (z : List ℕ). file_mode (first_address (z ++ k ∷ cs))) (sym h) ∙ x.mode cs)
    cut_there m a k more x (d ∷ ds) e g =
        let same : c ≡ d = cc in
        let here : edit_of (front ++ c ∷ ds) ≡ Some (a, Nothing) =
        ap (λ z. edit_of (front ++ z ∷ ds)) same ∙ ap edit_of (sym e) ∙ x.alone in
        let h : ◌≡◌ {A = Option FilesCommand} None (Some (One (a, Nothing))) =
        sym (never_so ds) ∙ ap (option_map One) here in
        absurd cc

    cut_before : (m : Bool) (a : address.Tree) (k : ℕ) (more : List ℕ) (x : FileForm (front ++ c ∷ rest) m a k more)
        (y : ℕ) (ys : List ℕ) → front ≡ x.head ++ y ∷ ys → k ∷ more ≡ y ∷ ys ++ c ∷ rest → ⊥
    cut_before m a k more x y ys e g =
        let same : k ≡ y = cc in
        whole_mode m (
        ap (λ (z : List ℕ). file_mode (first_address (z ++ c ∷ cs))) e
        ∙ ap (λ (z : List ℕ). file_mode (first_address z)) (append_assoc x.head (y ∷ ys) (c ∷ cs))
        ∙ ap (λ z. file_mode (first_address (x.head ++ (z ∷ (ys ++ c ∷ cs))))) (sym same)
        ∙ x.mode (ys ++ c ∷ cs)
        )

    never : (m : Bool) → AnyForm (front ++ c ∷ rest) m → ⊥
    never m (a, k, more, x) = elim (cut_twice front (c ∷ rest) x.head (k ∷ more) x.cut) [
      | inl p ↦ cut_there m a k more x p.0 p.1 p.2
      | inr p ↦ cut_before m a k more x p.0 p.1 p.2 p.3
    ]

    inside : (a : address.Tree) (d : List ℕ) → first_address (front ++ c ∷ rest) ≡ Some (a, d) → (o : Option Bool) →
        file_mode (first_address (front ++ c ∷ rest)) ≡ o → solid_files (front ++ c ∷ rest) ≡ None
    inside a d g None h = other_reads (front ++ c ∷ rest) a d same g h ∙ never_so rest
    inside a d g (Some m) h = absurd (never m (mode_form (front ++ c ∷ rest) m h))

    go : (o : Cut address.Tree) → first_address (front ++ c ∷ rest) ≡ o → solid_files (front ++ c ∷ rest) ≡ None
    go None g =
        solid_address (front ++ c ∷ rest) same ∙ ap (λ (o : Cut address.Tree). addressed o (front ++ c ∷ rest)) g
    go (Some (a, d)) g = inside a d g (file_mode (first_address (front ++ c ∷ rest))) refl

other_stops : (front behind : List ℕ) → letter_at (front ++ behind) ≡ letter.Address →
    file_mode (first_address (front ++ behind)) ≡ None → solid_files (front ++ behind) ≡ sam_of (front ++ behind) →
    Stops sam_of front behind → Stops solid_files front behind
other_stops front [] l f e x = ap solid_files (sym (append-nil front)) ∙ e ∙ ap sam_of (append-nil front) ∙ x
other_stops front (c ∷ cs) l f e x = λ rest. other_none front c cs rest l f x

pub other_fails : (text : List ℕ) (from : ℕ) (a : address.Tree) (d : List ℕ) →
    letter_at (drop from text) ≡ letter.Address → first_address (drop from text) ≡ Some (a, d) →
    file_mode (first_address (drop from text)) ≡ None → (e : SynFault) → FilesFails sam_of text from e →
    FilesFails solid_files text from e
other_fails text from a d l e f (fault.Bad place) (q, n, x) = (
  q,
  n,
  record {
    front = x.front;
    behind = x.behind;
    cut = x.cut;
    there = x.there;
    before = other_on x.front x.behind (ap letter_at (sym x.cut) ∙ l) x.before;
    after =
        other_stops x.front x.behind (ap letter_at (sym x.cut) ∙ l)
        (ap (λ (t : List ℕ). file_mode (first_address t)) (sym x.cut) ∙ f)
        (subst (λ (t : List ℕ). solid_files t ≡ sam_of t) x.cut (other_reads (drop from text) a d l e f)) x.after;
  },
)
other_fails text from a d l e f fault.Nodes x = (x.0, other_reads (drop from text) a d l e f ∙ x.1, x.2)
other_fails text from a d l e f fault.Deep x = (x.0, other_reads (drop from text) a d l e f ∙ x.1, x.2, x.3)
other_fails text from a d l e f fault.NoMemory x = x

-- ---- `r` and `w` behind an address

-- behind the letter the whole is what a file's command is
pub record Ranged (text : List ℕ) (from at : ℕ) (m : Bool) (a : address.Tree) : Type 0 where
  pub reads : (c : FilesCommand) → ranged_of m a (drop (at + 1) text) ≡ Some c → solid_files (drop from text) ≡ Some c
  pub bad : (place : ℕ) → answer.IsBadFrom (ranged_of m a) text (at + 1) place →
      answer.IsBadFrom solid_files text from place

pub begins_there : (text : List ℕ) (from end : ℕ) (a : address.Tree) → IsAddressAt text from a end →
    Begins a (drop from text) (drop end text)
begins_there text from end a x =
    subst (λ (t : List ℕ). Begins a t (drop end text)) (sym (slice_behind text from end (omega (arith, x.order))))
    (x.written (drop end text) refl)

pub ranged_there : (text : List ℕ) (from end at : ℕ) (m : Bool) (a : address.Tree) → IsAddressAt text from a end →
    end ≤ at → at < length text → drop at text ≡ after_blanks (drop end text) →
    reads_in (letter_at (drop at text)) ≡ Some m → Ranged text from at m a
ranged_there text from end at m a x n l e r =
    let split : drop at text ≡ get_or text at 0 ∷ drop (at + 1) text = drop_more text at 0 l in
    let form : FileForm (drop from text) m a (get_or text at 0) (drop (at + 1) text) =
    file_form (drop from text) (drop end text) a (get_or text at 0) (drop (at + 1) text) m
    (begins_there text from end a x) (sym e ∙ split) (ap (λ (t : List ℕ). reads_in (letter_at t)) (sym split)
    ∙ r) in
    record {
      reads = λ c h. ap solid_files form.cut ∙ form.reads (drop (at + 1) text) ∙ h;
      bad =
          λ place y. passed_from (ranged_of m a) solid_files text (form.head ++ get_or text at 0 ∷ []) from
          (at + 1) place (omega (arith, x.order, n)) (omega (arith, l))
          (form.cut ∙ sym (append_assoc form.head (get_or text at 0 ∷ []) (drop (at + 1) text)))
          (λ w. ap solid_files (append_assoc form.head (get_or text at 0 ∷ []) w) ∙ form.reads w) y;
    }

pub ranged_fails : (text : List ℕ) (from at : ℕ) (m : Bool) (a : address.Tree) → Ranged text from at m a →
    (e : SynFault) → FilesFails (ranged_of m a) text (at + 1) e → FilesFails solid_files text from e
ranged_fails text from at m a x (fault.Bad place) y = x.bad place y
ranged_fails text from at m a x fault.Nodes y = (y.0, x.reads y.0 y.1, y.2)
ranged_fails text from at m a x fault.Deep y = (y.0, x.reads y.0 y.1, y.2, y.3)
ranged_fails text from at m a x fault.NoMemory y = y

-- neither of them behind the address that stands there
pub mode_there : (text : List ℕ) (from end at : ℕ) (a : address.Tree) (o : Option Bool) → IsAddressAt text from a end →
    drop at text ≡ after_blanks (drop end text) → reads_in (letter_at (drop at text)) ≡ o →
    (first_address (drop from text) ≡ Some (a, drop end text)) × (file_mode (first_address (drop from text)) ≡ o)
mode_there text from end at a o x e r =
    let f : first_address (drop from text) ≡ Some (a, drop end text) =
    address_some a (drop from text) (drop end text) (begins_there text from end a x) in
    (f, ap file_mode f ∙ ap (λ (t : List ℕ). reads_in (letter_at t)) (sym e) ∙ r)

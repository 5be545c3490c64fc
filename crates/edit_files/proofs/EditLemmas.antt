-- Commands of sam, in a text and behind a letter.
use Rattle.std.proofs.Common.{◌≡◌, ℕ, ◌+◌, ◌≤◌, ◌<◌, Bool, true, false, List, [], ◌∷◌, ◌++◌}
use Rattle.std.proofs.Common.{length, get_or, drop}
use Rattle.std.proofs.Common.{Option, Some, None, refl, sym, ap, subst, ◌∙◌, arith, append_assoc}
use Rattle.std.specs.Prelude.{slice_range, nat_lt}
use Rattle.std.specs.Option.{option_map}
use Rattle.std.proofs.lemmas.Bool.{ltb-true, ltb-false}
use Rattle.std.proofs.lemmas.List.{append-nil, drop_more}
use Rattle.addr_syntax.specs.declared.address.SynFault.{SynFault}
use Rattle.addr_syntax.specs.declared.address.SynFault.TheVariants as fault
use Rattle.addr_syntax.specs.Tree.{Missing}
use Rattle.addr_syntax.specs.Marks.{next_of}
use Rattle.addr_syntax.proofs.Slices.{slice_more, slice_length, drop_end}
use Rattle.addr_syntax.proofs.Places.{slice_behind}
use Rattle.edit_parts.specs.Kinds.{is_next}
use Rattle.edit_parts.specs.Texts.{after_blanks}
use Rattle.edit_parts.proofs.Parts.{solid_behind}
use Rattle.edit_parts.specs.Tree.{Command, Print, Nothing}
use Rattle.sam_syntax.specs.Edits.{pieces_within, edit_of}
use Rattle.sam_syntax.specs.Grammar.{IsEdit}
use Rattle.sam_syntax.specs.Answer as sam
use Rattle.sam_syntax.proofs.Edits.{edit_some, edit_only}
use Rattle.edit_files.specs.Letters.{letter_of, letter_at}
use Rattle.edit_files.specs.declared.letter.Letter.TheVariants as letter
use Rattle.edit_files.specs.Command.{FilesCommand, One}
use Rattle.edit_files.specs.Files.{sam_of, inner_of, solid_files, files_of}
use Rattle.edit_files.specs.Answer.{Stops, IsBadAt, IsBadFrom, EditFails, FilesFails, IsInLimits, Refuses}
use Rattle.edit_files.specs.Answer as answer
use Rattle.edit_files.proofs.BadLemmas.{moved_from, solid_from, skipped_from}

pub nothing_read : edit_of [] ≡ Some (Missing, Nothing)
unfolding edit_of pieces_within
nothing_read = refl

-- a text with which none goes on has none
none_of : (text : List ℕ) → (((c : Command) → IsEdit text c → ⊥)) → edit_of text ≡ None
none_of text never_so = go (edit_of text) refl
  where
    go : (o : Option Command) → edit_of text ≡ o → edit_of text ≡ None
    go None e = e
    go (Some c) e = absurd (never_so c (edit_only text c e))

-- the place of a command is that of its text
pub edit_bad : (text : List ℕ) (place : ℕ) → sam.IsBad text place → IsBadAt edit_of text place
edit_bad text place bad = record {
  front = slice_range text 0 place;
  behind = drop place text;
  cut = slice_behind text 0 place (omega arith);
  there = omega (arith, slice_length text 0 place (omega arith) bad.within);
  before = (bad.before.0, bad.before.1, edit_some (slice_range text 0 place ++ bad.before.0) bad.before.1 bad.before.2);
  after = go (nat_lt place (length text)) refl;
}
  where
    go : (b : Bool) → nat_lt place (length text) ≡ b → Stops edit_of (slice_range text 0 place) (drop place text)
    go true e =
        let l : place < length text = ltb-true place (length text) e in
        subst (λ (t : List ℕ). Stops edit_of (slice_range text 0 place) t) (sym (drop_more text place 0 l))
        (λ rest. none_of (slice_range text 0 place ++ get_or text place 0 ∷ rest) (λ c x. bad.after l (
          rest,
          c,
          subst (λ (t : List ℕ). IsEdit t c)
              (sym (append_assoc (slice_range text 0 place) (get_or text place 0 ∷ []) rest)
              ∙ ap (λ (t : List ℕ). t ++ rest) (sym (slice_more text 0 place (omega arith) l))) x,
        )))
    go false e =
        let n : place ≡ length text = omega (arith, bad.within, ltb-false place (length text) e) in
        let none : drop place text ≡ [] = ap (λ k. drop k text) n ∙ drop_end text in
        let all : text ≡ slice_range text 0 place =
        slice_behind text 0 place (omega arith) ∙ ap (λ (t : List ℕ). slice_range text 0 place ++ t) none
        ∙ append-nil (slice_range text 0 place) in
        subst (λ (t : List ℕ). Stops edit_of (slice_range text 0 place) t) (sym none)
        (ap edit_of (sym all) ∙ none_of text (bad.short n))

-- ---- the command of `X` and `Y`

inner_stops : (front behind : List ℕ) → (behind ≡ [] → front ≡ [] → ⊥) → Stops edit_of front behind →
    Stops inner_of front behind
inner_stops [] [] never_so x = absurd (never_so refl refl)
inner_stops [] (c ∷ cs) never_so x = x
inner_stops (d ∷ ds) [] never_so x = x
inner_stops (d ∷ ds) (c ∷ cs) never_so x = x

inner_on : (front : List ℕ) → answer.GoesOn edit_of front → answer.GoesOn inner_of front
inner_on [] x = ([], (Missing, Print), refl)
inner_on (d ∷ ds) x = x

-- the empty text is at no fault
not_nothing : (front behind : List ℕ) → Stops edit_of front behind → behind ≡ [] → front ≡ [] → ⊥
not_nothing front behind x e f =
    let n : edit_of [] ≡ None =
    subst (λ (b : List ℕ). Stops edit_of [] b) e (subst (λ (a : List ℕ). Stops edit_of a behind) f x) in
    let h : ◌≡◌ {A = Option Command} (Some (Missing, Nothing)) None = sym nothing_read ∙ n in
    absurd cc

inner_bad : (text : List ℕ) (from place : ℕ) → IsBadFrom edit_of text from place → IsBadFrom inner_of text from place
inner_bad text from place (q, at, x) = (
  q,
  at,
  record {
    front = x.front;
    behind = x.behind;
    cut = x.cut;
    there = x.there;
    before = inner_on x.front x.before;
    after = inner_stops x.front x.behind (not_nothing x.front x.behind x.after) x.after;
  },
)

inner_same : (t : List ℕ) (c : ℕ) (cs : List ℕ) → t ≡ c ∷ cs → inner_of t ≡ edit_of t
inner_same t c cs e = ap inner_of e ∙ ap edit_of (sym e)

pub inner_reads : (text : List ℕ) (from at : ℕ) → at < length text → drop at text ≡ after_blanks (drop from text) →
    inner_of (after_blanks (drop from text)) ≡ edit_of (drop at text)
inner_reads text from at l e =
    ap inner_of (sym e) ∙ inner_same (drop at text) (get_or text at 0) (drop (at + 1) text) (drop_more text at 0 l)

pub inner_fails : (text : List ℕ) (from at : ℕ) → from ≤ at → at < length text →
    drop at text ≡ after_blanks (drop from text) → is_next 32 (next_of (drop at text)) ≡ false → (e : SynFault) →
    EditFails edit_of text at e → EditFails (λ t. inner_of (after_blanks t)) text from e
inner_fails text from at m l e s (fault.Bad place) x =
    skipped_from inner_of text from at place m (omega (arith, l)) e
    (solid_from inner_of text at place s (Missing, Print) refl (inner_bad text at place x))
inner_fails text from at m l e s fault.Nodes x = (x.0, inner_reads text from at l e ∙ x.1, x.2)
inner_fails text from at m l e s fault.Deep x = (x.0, inner_reads text from at l e ∙ x.1, x.2, x.3)
inner_fails text from at m l e s fault.NoMemory x = x

-- none is written
pub inner_missing : (text : List ℕ) (from at : ℕ) → length text ≤ at → at ≤ length text →
    drop at text ≡ after_blanks (drop from text) → inner_of (after_blanks (drop from text)) ≡ Some (Missing, Print)
inner_missing text from at l m e =
    let n : at ≡ length text = omega (arith, l, m) in
    ap inner_of (sym e ∙ ap (λ k. drop k text) n ∙ drop_end text)

-- ---- a command of sam by itself

pub sam_fails : (text : List ℕ) (from : ℕ) (e : SynFault) → EditFails edit_of text from e → from ≤ length text →
    FilesFails sam_of text from e
sam_fails text from (fault.Bad place) x l =
    moved_from edit_of sam_of One text [] from from place (omega arith) l refl (λ w. refl) x
sam_fails text from fault.Nodes x l = (One x.0, ap (option_map One) x.1, x.2)
sam_fails text from fault.Deep x l = (One x.0, ap (option_map One) x.1, x.2, x.3)
sam_fails text from fault.NoMemory x l = x

pub sam_nothing : solid_files [] ≡ Some (One (Missing, Nothing))
sam_nothing = ap (option_map One) nothing_read

-- ---- a text that begins with no letter of the table

solid_sam : (c : ℕ) (w : List ℕ) → letter_of c ≡ letter.Sam → solid_files (c ∷ w) ≡ sam_of (c ∷ w)
solid_sam c w e = rw e refl

letter_first : (d : ℕ) (ds behind : List ℕ) → letter_at (d ∷ ds ++ behind) ≡ letter.Sam → letter_of d ≡ letter.Sam
letter_first d ds behind e = e

plain_stops : (front behind : List ℕ) → letter_at (front ++ behind) ≡ letter.Sam → Stops sam_of front behind →
    Stops solid_files front behind
plain_stops [] [] e x = x
plain_stops [] (c ∷ cs) e x = λ rest. solid_sam c rest e ∙ x rest
plain_stops (d ∷ ds) [] e x = solid_sam d ds e ∙ x
plain_stops (d ∷ ds) (c ∷ cs) e x = λ rest. solid_sam d (ds ++ c ∷ rest) e ∙ x rest

plain_on : (front behind : List ℕ) → letter_at (front ++ behind) ≡ letter.Sam → answer.GoesOn sam_of front →
    answer.GoesOn solid_files front
plain_on [] behind e x = ([], One (Missing, Nothing), sam_nothing)
plain_on (d ∷ ds) behind e (more, y, h) = (more, y, solid_sam d (ds ++ more) e ∙ h)

pub plain_reads : (t : List ℕ) → letter_at t ≡ letter.Sam → solid_files t ≡ sam_of t
plain_reads [] e = refl
plain_reads (c ∷ cs) e = solid_sam c cs e

pub plain_fails : (text : List ℕ) (at : ℕ) → letter_at (drop at text) ≡ letter.Sam → (e : SynFault) →
    FilesFails sam_of text at e → FilesFails solid_files text at e
plain_fails text at l (fault.Bad place) (q, n, x) =
    let k : letter_at (x.front ++ x.behind) ≡ letter.Sam = ap letter_at (sym x.cut) ∙ l in (
      q,
      n,
      record {
        front = x.front;
        behind = x.behind;
        cut = x.cut;
        there = x.there;
        before = plain_on x.front x.behind k x.before;
        after = plain_stops x.front x.behind k x.after;
      },
    )
plain_fails text at l fault.Nodes x = (x.0, plain_reads (drop at text) l ∙ x.1, x.2)
plain_fails text at l fault.Deep x = (x.0, plain_reads (drop at text) l ∙ x.1, x.2, x.3)
plain_fails text at l fault.NoMemory x = x

-- ---- what the reader of sam answers

rest_of : (text : List ℕ) (from : ℕ) → from ≤ length text → slice_range text from (length text) ≡ drop from text
rest_of text from l =
    sym (slice_behind text from (length text) l
    ∙ ap (λ (t : List ℕ). slice_range text from (length text) ++ t) (drop_end text)
    ∙ append-nil (slice_range text from (length text)))

pub edit_read : (text : List ℕ) (from : ℕ) (c : Command) → from ≤ length text →
    IsEdit (slice_range text from (length text)) c → edit_of (drop from text) ≡ Some c
edit_read text from c l x = edit_some (drop from text) c (subst (λ (t : List ℕ). IsEdit t c) (rest_of text from l) x)

pub edit_place : (text : List ℕ) (from place : ℕ) → from ≤ length text →
    sam.IsBad (slice_range text from (length text)) place → IsBadFrom edit_of text from (from + place)
edit_place text from place l x = (
  place,
  refl,
  edit_bad (drop from text) place (subst (λ (t : List ℕ). sam.IsBad t place) (rest_of text from l) x),
)

pub edit_large : (text : List ℕ) (from : ℕ) → from ≤ length text →
    sam.Refuses (slice_range text from (length text)) fault.Nodes → EditFails edit_of text from fault.Nodes
edit_large text from l x = (x.0, edit_read text from x.0 l x.1, x.2)

pub edit_deep : (text : List ℕ) (from : ℕ) → from ≤ length text →
    sam.Refuses (slice_range text from (length text)) fault.Deep → EditFails edit_of text from fault.Deep
edit_deep text from l x = (x.0, edit_read text from x.0 l x.1, x.2, x.3)

pub edit_small : (c : Command) → sam.IsInLimits c → IsInLimits (One c)
edit_small c x = record { nodes = x.nodes; depth = x.depth }

-- ---- a whole text, behind its blanks

pub solid_at : (text : List ℕ) (from at : ℕ) → drop at text ≡ after_blanks (drop from text) →
    is_next 32 (next_of (drop at text)) ≡ false
solid_at text from at e = ap (λ (t : List ℕ). is_next 32 (next_of t)) e ∙ solid_behind (drop from text)

pub files_read : (text : List ℕ) (at : ℕ) (c : FilesCommand) → drop at text ≡ after_blanks text →
    solid_files (drop at text) ≡ Some c → files_of text ≡ Some c
unfolding files_of
files_read text at c e h = ap solid_files (sym e) ∙ h

pub files_fail : (text : List ℕ) (at : ℕ) (e : SynFault) → at ≤ length text → drop at text ≡ after_blanks text →
    FilesFails solid_files text at e → Refuses text e
unfolding files_of
files_fail text at (fault.Bad place) l e x =
    let y : IsBadFrom (λ t. solid_files (after_blanks t)) text 0 place =
    skipped_from solid_files text 0 at place (omega arith) l e
    (solid_from solid_files text at place (solid_at text 0 at e) (One (Missing, Nothing)) sam_nothing x) in
    subst (λ (q : ℕ). IsBadAt (λ t. solid_files (after_blanks t)) text q) (omega (arith, y.1)) y.2
files_fail text at fault.Nodes l e x = (x.0, ap solid_files (sym e) ∙ x.1, x.2)
files_fail text at fault.Deep l e x = (x.0, ap solid_files (sym e) ∙ x.1, x.2, x.3)
files_fail text at fault.NoMemory l e x = x

-- First runes.
use Rattle.std.proofs.Common.{◌≡◌, ℕ, ◌+◌, ◌<◌, ◌==◌, Bool, true, false, List, [], ◌∷◌, length, get_or, drop}
use Rattle.std.proofs.Common.{Option, Some, None}
use Rattle.std.proofs.Common.{refl, sym, ap, ◌∙◌, arith}
use Rattle.std.proofs.lemmas.Bool.{eqb-true}
use Rattle.std.proofs.lemmas.List.{drop_more}
use Rattle.std.specs.Option.{option_map}
use Rattle.addr_syntax.specs.Marks.{mark_of, next_of, begins_piece}
use Rattle.edit_parts.specs.Kinds.{kind_of}
use Rattle.edit_parts.specs.declared.kind.Kind.TheVariants as kind
use Rattle.edit_files.specs.Letters.{letter_of, other_letter, letter_at, reads_in}
use Rattle.edit_files.specs.declared.letter.Letter.{Letter}
use Rattle.edit_files.specs.declared.letter.Letter.TheVariants as letter
use Rattle.edit_files.specs.Command.{FilesCommand}
use Rattle.edit_files.specs.Files.{by_letter, solid_files}
use Rattle.edit_files.specs.Answer.{IsBadFrom, PartFails, FilesFails}
use Rattle.edit_files.proofs.BadLemmas.{moved_from}
use Rattle.addr_syntax.specs.declared.address.SynFault.{SynFault}
use Rattle.addr_syntax.specs.declared.address.SynFault.TheVariants as fault

-- a rune that begins a piece isn't one that begins none
differs : (d k : ℕ) → begins_piece (Some d) ≡ true → begins_piece (Some k) ≡ false → (d == k) ≡ false
differs d k h f = go (d == k) refl
  where
    go : (b : Bool) → (d == k) ≡ b → (d == k) ≡ false
    go false e = e
    go true e = let g : true ≡ false = sym h ∙ ap (λ z. begins_piece (Some z)) (eqb-true d k e) ∙ f in absurd cc

none_begins : (begins_piece (Some 32) ≡ false) × (begins_piece (Some 10) ≡ false) × (begins_piece (Some 123) ≡ false)
    × (begins_piece (Some 125) ≡ false) × (begins_piece (Some 120) ≡ false) × (begins_piece (Some 121) ≡ false)
    × (begins_piece (Some 103) ≡ false) × (begins_piece (Some 118) ≡ false) × (begins_piece (Some 97) ≡ false)
    × (begins_piece (Some 99) ≡ false) × (begins_piece (Some 105) ≡ false) × (begins_piece (Some 100) ≡ false)
    × (begins_piece (Some 115) ≡ false) × (begins_piece (Some 109) ≡ false) × (begins_piece (Some 116) ≡ false)
    × (begins_piece (Some 112) ≡ false) × (begins_piece (Some 61) ≡ false) × (begins_piece (Some 124) ≡ false)
    × (begins_piece (Some 60) ≡ false) × (begins_piece (Some 62) ≡ false)
unfolding mark_of
none_begins = (
  refl,
  refl,
  refl,
  refl,
  refl,
  refl,
  refl,
  refl,
  refl,
  refl,
  refl,
  refl,
  refl,
  refl,
  refl,
  refl,
  refl,
  refl,
  refl,
  refl,
)

no_letter_begins : (begins_piece (Some 88) ≡ false) × (begins_piece (Some 89) ≡ false)
    × (begins_piece (Some 66) ≡ false)
    × (begins_piece (Some 68) ≡ false) × (begins_piece (Some 101) ≡ false) × (begins_piece (Some 114) ≡ false)
    × (begins_piece (Some 119) ≡ false)
unfolding mark_of
no_letter_begins = (refl, refl, refl, refl, refl, refl, refl)

-- a rune that begins a piece of an address begins an address
pub kind_address : (d : ℕ) → begins_piece (Some d) ≡ true → kind_of d ≡ kind.Address
unfolding kind_of
kind_address d h =
    let n = none_begins in
    rw (
      differs d 32 h n.0,
      differs d 10 h n.1,
      differs d 123 h n.2,
      differs d 125 h n.3,
      differs d 120 h n.4,
      differs d 121 h n.5,
      differs d 103 h n.6,
      differs d 118 h n.7,
      differs d 97 h n.8,
      differs d 99 h n.9,
      differs d 105 h n.10,
      differs d 100 h n.11,
      differs d 115 h n.12,
      differs d 109 h n.13,
      differs d 116 h n.14,
      differs d 112 h n.15,
      differs d 61 h n.16,
      differs d 124 h n.17,
      differs d 60 h n.18,
      differs d 62 h n.19,
      h,
    ) refl

pub letter_address : (d : ℕ) → begins_piece (Some d) ≡ true → letter_of d ≡ letter.Address
unfolding letter_of
letter_address d h =
    let n = no_letter_begins in
    rw (
      differs d 88 h n.0,
      differs d 89 h n.1,
      differs d 66 h n.2,
      differs d 68 h n.3,
      differs d 101 h n.4,
      differs d 114 h n.5,
      differs d 119 h n.6,
      h,
    ) refl

-- and that is said of no other
pub address_begins : (d : ℕ) → letter_of d ≡ letter.Address → begins_piece (Some d) ≡ true
unfolding letter_of
address_begins d h = go (d == 88) refl (d == 89) refl (d == 66) refl (d == 68) refl
  where
    last : (b : Bool) → begins_piece (Some d) ≡ b → other_letter d ≡ letter.Address → begins_piece (Some d) ≡ true
    last true e h = e
    last false e h = let g : letter.Sam ≡ letter.Address = rw e at h in absurd cc

    more : (a : Bool) → (d == 101) ≡ a → (b : Bool) → (d == 114) ≡ b → (c : Bool) → (d == 119) ≡ c → (d == 88) ≡ false →
        (d == 89) ≡ false → (d == 66) ≡ false → (d == 68) ≡ false → begins_piece (Some d) ≡ true
    more true e b f c g p q r s = let k : letter.Enter ≡ letter.Address = rw (p, q, r, s, e) at h in absurd cc
    more false e true f c g p q r s = let k : letter.ReadIn ≡ letter.Address = rw (p, q, r, s, e, f) at h in absurd cc
    more false e false f true g p q r s = let k : letter.WriteOut ≡ letter.Address =
        rw (p, q, r, s, e, f, g) at h in absurd cc
    more false e false f false g p q r s = last (begins_piece (Some d)) refl (rw (p, q, r, s, e, f, g) at h)

    go : (a : Bool) → (d == 88) ≡ a → (b : Bool) → (d == 89) ≡ b → (c : Bool) → (d == 66) ≡ c → (e : Bool) →
        (d == 68) ≡ e → begins_piece (Some d) ≡ true
    go true p b q c r e s = let k : letter.Each ≡ letter.Address = rw p at h in absurd cc
    go false p true q c r e s = let k : letter.Other ≡ letter.Address = rw (p, q) at h in absurd cc
    go false p false q true r e s = let k : letter.Open ≡ letter.Address = rw (p, q, r) at h in absurd cc
    go false p false q false r true s = let k : letter.Drop ≡ letter.Address = rw (p, q, r, s) at h in absurd cc
    go false p false q false r false s = more (d == 101) refl (d == 114) refl (d == 119) refl p q r s

kinds_of_files : (kind_of 114 ≡ kind.Other) × (kind_of 119 ≡ kind.Other)
unfolding kind_of mark_of
kinds_of_files = (refl, refl)

-- `r` and `w` begin no piece of sam
pub reads_other : (l : ℕ) (m : Bool) → reads_in (letter_of l) ≡ Some m → kind_of l ≡ kind.Other
unfolding letter_of
reads_other l m h = go (l == 88) refl (l == 89) refl (l == 66) refl (l == 68) refl
  where
    last : (b : Bool) → begins_piece (Some l) ≡ b → reads_in (other_letter l) ≡ Some m → kind_of l ≡ kind.Other
    last true e h = let k : ◌≡◌ {A = Option Bool} None (Some m) = rw e at h in absurd cc
    last false e h = let k : ◌≡◌ {A = Option Bool} None (Some m) = rw e at h in absurd cc

    more : (a : Bool) → (l == 101) ≡ a → (b : Bool) → (l == 114) ≡ b → (c : Bool) → (l == 119) ≡ c → (l == 88) ≡ false →
        (l == 89) ≡ false → (l == 66) ≡ false → (l == 68) ≡ false → kind_of l ≡ kind.Other
    more true e b f c g p q r s = let k : ◌≡◌ {A = Option Bool} None (Some m) = rw (p, q, r, s, e) at h in absurd cc
    more false e true f c g p q r s = ap kind_of (eqb-true l 114 f) ∙ kinds_of_files.0
    more false e false f true g p q r s = ap kind_of (eqb-true l 119 g) ∙ kinds_of_files.1
    more false e false f false g p q r s = last (begins_piece (Some l)) refl (rw (p, q, r, s, e, f, g) at h)

    go : (a : Bool) → (l == 88) ≡ a → (b : Bool) → (l == 89) ≡ b → (c : Bool) → (l == 66) ≡ c → (e : Bool) →
        (l == 68) ≡ e → kind_of l ≡ kind.Other
    go true p b q c r e s = let k : ◌≡◌ {A = Option Bool} None (Some m) = rw p at h in absurd cc
    go false p true q c r e s = let k : ◌≡◌ {A = Option Bool} None (Some m) = rw (p, q) at h in absurd cc
    go false p false q true r e s = let k : ◌≡◌ {A = Option Bool} None (Some m) = rw (p, q, r) at h in absurd cc
    go false p false q false r true s = let k : ◌≡◌ {A = Option Bool} None (Some m) = rw (p, q, r, s) at h in absurd cc
    go false p false q false r false s = more (l == 101) refl (l == 114) refl (l == 119) refl p q r s

pub file_letter_119 : letter_of 119 ≡ letter.WriteOut
unfolding letter_of
file_letter_119 = refl

pub no_piece_119 : begins_piece (Some 119) ≡ false
no_piece_119 = no_letter_begins.6

-- texts with the same first rune
pub same_letter : (s t : List ℕ) → next_of s ≡ next_of t → letter_at s ≡ letter_at t
same_letter [] [] e = refl
same_letter [] (d ∷ ds) e = absurd cc
same_letter (c ∷ cs) [] e = absurd cc
same_letter (c ∷ cs) (d ∷ ds) e = let f : c ≡ d = cc in ap letter_of f

-- ---- a letter before a part

first : (l : Letter) (text : List ℕ) (at : ℕ) → at < length text → letter_at (drop at text) ≡ l →
    letter_of (get_or text at 0) ≡ l
first l text at n e = sym (ap letter_at (drop_more text at 0 n)) ∙ e

module _ {X : Type 0} where
  -- a part behind a letter is the whole
  pub record Leads (l : Letter) (part : List ℕ → Option X) (f : X → FilesCommand) : Type 0 where
    pub leads : (c : ℕ) (w : List ℕ) → by_letter l (c ∷ w) ≡ option_map f (part w)

  solid_part : (l : Letter) (part : List ℕ → Option X) (f : X → FilesCommand) → Leads l part f → (c : ℕ) →
      letter_of c ≡ l → (w : List ℕ) → solid_files (c ∷ w) ≡ option_map f (part w)
  solid_part l part f x c e w = ap (λ (k : Letter). by_letter k (c ∷ w)) e ∙ x.leads c w

  pub letter_reads : (l : Letter) (part : List ℕ → Option X) (f : X → FilesCommand) → Leads l part f →
      (text : List ℕ) (at : ℕ) → at < length text → letter_at (drop at text) ≡ l → (x : X) →
      part (drop (at + 1) text) ≡ Some x → solid_files (drop at text) ≡ Some (f x)
  letter_reads l part f y text at n e x h =
      ap solid_files (drop_more text at 0 n) ∙ solid_part l part f y (get_or text at 0) (first l text at n e)
      (drop (at + 1) text) ∙ ap (option_map f) h

  pub letter_bad : (l : Letter) (part : List ℕ → Option X) (f : X → FilesCommand) → Leads l part f →
      (text : List ℕ) (at : ℕ) → at < length text → letter_at (drop at text) ≡ l → (place : ℕ) →
      IsBadFrom part text (at + 1) place → IsBadFrom solid_files text at place
  letter_bad l part f y text at n e place x =
      moved_from part solid_files f text (get_or text at 0 ∷ []) at (at + 1) place (omega arith) (omega (arith, n))
      (drop_more text at 0 n)
      (λ w. solid_part l part f y (get_or text at 0) (first l text at n e) w) x

  pub letter_fails : (l : Letter) (part : List ℕ → Option X) (f : X → FilesCommand) → Leads l part f →
      (text : List ℕ) (at : ℕ) → at < length text → letter_at (drop at text) ≡ l → (e : SynFault) →
      PartFails part text (at + 1) e → FilesFails solid_files text at e
  letter_fails l part f y text at n h (fault.Bad place) x = letter_bad l part f y text at n h place x
  letter_fails l part f y text at n h fault.Nodes x = absurd x
  letter_fails l part f y text at n h fault.Deep x = absurd x
  letter_fails l part f y text at n h fault.NoMemory x = x

-- Lines that are read.
use Rattle.std.proofs.Common.{◌≡◌, ℕ, ◌+◌, ◌<◌, ◌≤◌, Bool, true, false, cond, List, [], ◌∷◌, ◌++◌, length, Option, Some}
use Rattle.std.proofs.Common.{None, refl, sym, ap, ◌∙◌, subst, arith, append_assoc}
use Rattle.std.specs.Prelude.{Result, Ok, Err, IfOk, IfSome, nat_le, ◌==◌, codes}
use Rattle.std.specs.List.{AllByRecursion}
use Rattle.std.proofs.lemmas.List.{append-nil}
use Rattle.std.proofs.lemmas.Bool.{leb-true}
use Rattle.am_text.specs.Number.{number_of}
use Rattle.am_text.specs.Escapes.{unescaped}
use Rattle.am_text.specs.Utf8.{utf8}
use Rattle.am_text.specs.Lines.{lines_of, first_field, after_field}
use Rattle.am_do.specs.declared.line.DoLine.{DoLine}
use Rattle.am_do.specs.declared.line.DoLine.TheVariants as line
use Rattle.am_text.specs.Front.{after_front}
use Rattle.am_do.specs.Fields.{fid_at, count_at, mode_at, few_bytes, bytes_from, bytes_at, names_at}
use Rattle.am_do.specs.Lines.{open_from, open_at, read_from, read_at, write_from, write_at, close_from, close_at}
use Rattle.am_do.specs.Lines.{with_front, read_by, line_of, onto_line, line_then, lines_from}
use Rattle.am_do.specs.Lawful.{IsLawful, AreLawful}
use Rattle.am_do.proofs.Named.{names_are_lawful}

-- ---- one line

open_lawful : (fid : Option ℕ) (names : Option (List (List ℕ))) (mode : Option ℕ) (l : DoLine)
    → ((ns : List (List ℕ)) → names ≡ Some ns → IsLawful (line.Open 0 ns 0)) → open_from fid names mode ≡ Some l
    → IsLawful l
open_lawful None names mode l h e = absurd cc
open_lawful (Some fid) None mode l h e = absurd cc
open_lawful (Some fid) (Some names) None l h e = absurd cc
open_lawful (Some fid) (Some names) (Some mode) l h e = let same : line.Open fid names mode ≡ l = cc in
    subst IsLawful same (h names refl)

read_lawful : (fid offset count : Option ℕ) (l : DoLine) → read_from fid offset count ≡ Some l → IsLawful l
read_lawful None offset count l e = absurd cc
read_lawful (Some fid) None count l e = absurd cc
read_lawful (Some fid) (Some offset) None l e = absurd cc
read_lawful (Some fid) (Some offset) (Some count) l e = let same : line.Read fid offset count ≡ l = cc in
    subst IsLawful same tt

write_lawful : (fid offset : Option ℕ) (text : Option (List ℕ)) (l : DoLine)
    → ((bytes : List ℕ) → text ≡ Some bytes → length bytes ≤ 8000) → write_from fid offset text ≡ Some l → IsLawful l
write_lawful None offset text l h e = absurd cc
write_lawful (Some fid) None text l h e = absurd cc
write_lawful (Some fid) (Some offset) None l h e = absurd cc
write_lawful (Some fid) (Some offset) (Some bytes) l h e = let same : line.Write fid offset bytes ≡ l = cc in
    subst IsLawful same (h bytes refl)

close_lawful : (fid : Option ℕ) (l : DoLine) → close_from fid ≡ Some l → IsLawful l
close_lawful None l e = absurd cc
close_lawful (Some fid) l e = let same : line.Close fid ≡ l = cc in subst IsLawful same tt

few_are : (bytes some : List ℕ) → few_bytes bytes ≡ Some some → length some ≤ 8000
few_are bytes some e =
    elim (nat_le (length bytes) 8000) as (λ t. nat_le (length bytes) 8000 ≡ t → cond t (Some bytes) None ≡ Some some
    → length some ≤ 8000) [
      | true ↦ λ le w. let same : bytes ≡ some = cc in subst (λ (x : List ℕ). length x ≤ 8000) same
          (leb-true (length bytes) 8000 le)
      | false ↦ λ le w. absurd cc
    ] refl e

from_few : (text : Option (List ℕ)) (bytes : List ℕ) → bytes_from text ≡ Some bytes → length bytes ≤ 8000
from_few None bytes e = absurd cc
from_few (Some text) bytes e = few_are (utf8 text) bytes e

at_few : (field bytes : List ℕ) → bytes_at field ≡ Some bytes → length bytes ≤ 8000
at_few [] bytes e = absurd cc
at_few (b ∷ field) bytes e =
    elim (b == 58) as (λ t. cond t (bytes_from (unescaped field)) None ≡ Some bytes → length bytes ≤ 8000) [
      | true ↦ λ w. from_few (unescaped field) bytes w
      | false ↦ λ w. absurd cc
    ] e

front_lawful : (rest : Option (List ℕ)) (read : List ℕ → Option DoLine) (others : Option DoLine) (l : DoLine)
    → ((bytes : List ℕ) → read bytes ≡ Some l → IsLawful l) → (others ≡ Some l → IsLawful l)
    → with_front rest read others ≡ Some l → IsLawful l
front_lawful None read others l h o e = o e
front_lawful (Some rest) read others l h o e = h rest e

pub line_lawful : (bytes : List ℕ) (l : DoLine) → line_of bytes ≡ Some l → IsLawful l
unfolding line_of
line_lawful bytes l e =
    front_lawful (after_front (codes "open ") bytes) open_at _ l (λ b. open_lawful (fid_at (first_field b))
    (names_at (first_field (after_field b))) (mode_at (after_field (after_field b))) l
    (names_are_lawful (first_field (after_field b))))
    (front_lawful (after_front (codes "read ") bytes) read_at _ l (λ b. read_lawful (fid_at (first_field b))
    (number_of (first_field (after_field b))) (count_at (after_field (after_field b))) l)
    (front_lawful (after_front (codes "write ") bytes) write_at _ l
    (λ b. write_lawful (fid_at (first_field b)) (number_of (first_field (after_field b)))
    (bytes_at (after_field (after_field b))) l (at_few (after_field (after_field b))))
    (front_lawful (after_front (codes "close ") bytes) close_at None l (λ b. close_lawful (fid_at b) l)
    (λ w. absurd cc)))) e

-- ---- all lines

-- these lines, and then those that are read
abbrev pub onto_all : List DoLine → Result (List DoLine) ℕ → Result (List DoLine) ℕ
onto_all made (Ok lines) = Ok (made ++ lines)
onto_all made (Err k) = Err k

pub onto_none : (r : Result (List DoLine) ℕ) → onto_all [] r ≡ r
onto_none (Ok lines) = refl
onto_none (Err k) = refl

onto_one : (made : List DoLine) (l : DoLine) (r : Result (List DoLine) ℕ)
    → onto_all made (onto_line l r) ≡ onto_all (made ++ l ∷ []) r
onto_one made l (Ok lines) = ap (λ (x : List DoLine). Ok x) (sym (append_assoc made (l ∷ []) lines))
onto_one made l (Err k) = refl

pub read_more : (made : List DoLine) (k : ℕ) (bytes rest : List ℕ) (first : List ℕ) (l : DoLine)
    → lines_of bytes ≡ first ∷ lines_of rest → line_of first ≡ Some l
    → onto_all made (lines_from k (lines_of bytes)) ≡ onto_all (made ++ l ∷ []) (lines_from (k + 1) (lines_of rest))
unfolding lines_from
read_more made k bytes rest first l e is = rw (e, is) (onto_one made l (lines_from (k + 1) (lines_of rest)))

pub read_none : (made : List DoLine) (k : ℕ) (bytes rest : List ℕ) (first : List ℕ)
    → lines_of bytes ≡ first ∷ lines_of rest → line_of first ≡ None → onto_all made
    (lines_from k (lines_of bytes)) ≡ Err k
unfolding lines_from
read_none made k bytes rest first e is = rw (e, is) refl

pub read_end : (made : List DoLine) (k : ℕ) (bytes : List ℕ) → length bytes ≡ 0 → onto_all made
    (lines_from k (lines_of bytes)) ≡ Ok made
unfolding lines_from
read_end made k [] e = ap (λ (x : List DoLine). Ok x) (append-nil made)
read_end made k (b ∷ bytes) e = absurd (omega arith)

pub lawful_more : (made : List DoLine) (l : DoLine) → AreLawful made → IsLawful l → AreLawful (made ++ l ∷ [])
lawful_more [] l h one = (one, tt)
lawful_more (m ∷ made) l h one = (h.0, lawful_more made l h.1 one)

pub found_lawful : {E : Type 0} (bytes : List ℕ) (r : Result (Option DoLine) E)
    → IfOk r (λ found. found ≡ line_of bytes) → IfOk r (λ found. IfSome found IsLawful)
found_lawful bytes (Ok None) e = tt
found_lawful bytes (Ok (Some l)) e = line_lawful bytes l (sym e)
found_lawful bytes (Err e) h = tt

-- The bytes of a path are visible.
use Rattle.std.proofs.Common.{◌≡◌, ℕ, ◌<◌, true, false, cond, eqb, ltb, not, ◌&&◌, List, [], ◌∷◌, length, refl, arith}
use Rattle.std.specs.List.{list_all, slice_split, onto_first}
use Rattle.std.specs.Str.{is_utf8}
use Rattle.std.proofs.lemmas.Bool.{and_parts, and_from, ltb-true, eqb-true}
use Rattle.acme_cmd.specs.Names.{is_slash, is_here, is_up}
use Rattle.acme_cmd.specs.Paths.{is_path_rune, is_part, is_path}
use Rattle.am_journal.specs.Paths.{is_path_text}
use Rattle.am_journal.proofs.FieldWords.{AreVisible}

-- all that stands in a part may stand in a path
runes_all : (parts : List (List ℕ)) → list_all is_part parts ≡ true → list_all (list_all is_path_rune) parts ≡ true
runes_all [] h = refl
runes_all (part ∷ parts) h =
    let all = and_parts (is_part part) (list_all is_part parts) h in
    let runes = and_parts (not (eqb (length part) 0) && not (is_here part) && not (is_up part))
    (list_all is_path_rune part) all.0 in
    and_from (list_all is_path_rune part) (list_all (list_all is_path_rune) parts) runes.1 (runes_all parts all.1)

front_all : (c : ℕ) (parts : List (List ℕ)) → list_all (list_all is_path_rune) (onto_first c parts) ≡ true →
    (is_path_rune c ≡ true) × (list_all (list_all is_path_rune) parts ≡ true)
front_all c [] h = ((and_parts (is_path_rune c) true (and_parts (is_path_rune c && true) true h).0).0, refl)
front_all c (part ∷ parts) h =
    let all = and_parts (is_path_rune c && list_all is_path_rune part) (list_all (list_all is_path_rune) parts) h in
    let first = and_parts (is_path_rune c) (list_all is_path_rune part) all.0 in
    (first.0, and_from (list_all is_path_rune part) (list_all (list_all is_path_rune) parts) first.1 all.1)

rune-visible : (c : ℕ) → is_path_rune c ≡ true → 32 < c
rune-visible c h = ltb-true 32 c (and_parts (ltb 32 c) (not (eqb c 92)) h).0

slash-visible : (c : ℕ) → is_slash c ≡ true → 32 < c
slash-visible c h = omega (arith, eqb-true c 47 h)

parts-visible : (bs : List ℕ) → list_all (list_all is_path_rune) (slice_split is_slash bs) ≡ true → AreVisible bs
parts-visible [] = λ h. tt
parts-visible (b ∷ bs) =
    elim (is_slash b) as (λ t. is_slash b ≡ t
    → list_all (list_all is_path_rune) (cond t ([] ∷ slice_split is_slash bs) (onto_first b (slice_split is_slash bs)))
    ≡ true → AreVisible (b ∷ bs)) [
      | true ↦ λ t h. (slash-visible b t, parts-visible bs h)
      | false ↦ λ t h. let all = front_all b (slice_split is_slash bs) h in
          (rune-visible b all.0, parts-visible bs all.1)
    ] refl

path-visible : (bs : List ℕ) → is_path bs ≡ true → AreVisible bs
path-visible [] h = tt
path-visible (b ∷ bs) h =
    let all = and_parts (is_slash b) (list_all is_part (slice_split is_slash bs)) h in
    (slash-visible b all.0, parts-visible bs (runes_all (slice_split is_slash bs) all.1))

pub path_text-visible : (bs : List ℕ) → is_path_text bs ≡ true → AreVisible bs
path_text-visible bs h = path-visible bs (and_parts (is_utf8 bs) (is_path bs) h).1

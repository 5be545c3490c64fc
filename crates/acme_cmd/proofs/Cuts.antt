-- Parts of a path.
use Rattle.std.proofs.Common.{◌≡◌, ℕ, ◌+◌, ◌-◌, ◌<◌, ◌≤◌, ◌≢◌, false, List, [], ◌∷◌, ◌++◌, length, take, drop, get_or}
use Rattle.std.proofs.Common.{sym, ap, subst, ◌∙◌, arith}
use Rattle.std.specs.List.{flat_map, join_with_byte, slice_split, position_or_len}
use Rattle.std.proofs.lemmas.List.{append-nil, drop-drop, take_all}
use Rattle.std.proofs.lemmas.List.Elements.{All-from_get_or}
use Rattle.std.proofs.lemmas.List.Splits.{slice_split_first, slice_split_none}
use Rattle.std.proofs.lemmas.List.Sums.{fails_before_first}
use Rattle.acme_cmd.specs.Names.{is_slash}

-- a part with a `/` before it
abbrev pub after_slash : List ℕ → List ℕ
after_slash part = 47 ∷ part

-- the parts between slashes are the first part, and each other one behind a slash
pub join_with_byte-cons : (part : List ℕ) (parts : List (List ℕ)) → join_with_byte 47
    (part ∷ parts) ≡ part ++ flat_map after_slash parts
join_with_byte-cons part [] = sym (append-nil part)
join_with_byte-cons part (next ∷ parts) = ap (λ (l : List ℕ). part ++ 47 ∷ l) (join_with_byte-cons next parts)

-- the first part ends at the first slash
pub slice_split-cut : (text : List ℕ) (at : ℕ) → at ≤ length text → at ≢ length text
    → at ≡ position_or_len is_slash text → slice_split is_slash text ≡ take at text ∷ slice_split is_slash
    (drop 1 (drop at text))
slice_split-cut text at le ne e =
    let inside : position_or_len is_slash text < length text = omega arith in
    slice_split_first is_slash text 0 inside
    ∙ ap (λ (k : ℕ). take k text ∷ slice_split is_slash (drop (k + 1) text)) (sym e)
    ∙ ap (λ (l : List ℕ). take at text ∷ slice_split is_slash l) (sym (drop-drop 1 at text))

-- without a slash there is one part
pub slice_split-whole : (text : List ℕ) → position_or_len is_slash text ≡ length text
    → slice_split is_slash text ≡ text ∷ []
slice_split-whole text e =
    slice_split_none is_slash text
    (All-from_get_or (λ (x : ℕ). is_slash x ≡ false) text 0 (λ k h. fails_before_first is_slash text k 0
    (subst (λ (n : ℕ). k < n) (sym e) h)))

pub ruleset cuts = (slice_split-cut, slice_split-whole)

-- the same, of the first part and the others as a pattern gives them
pub join_with_byte-front : (parts : List (List ℕ)) (first : List ℕ) → 1 ≤ length parts → first ≡ get_or parts 0 first
    → join_with_byte 47 parts ≡ first ++ flat_map after_slash (take (length parts - 1) (drop 1 parts))
join_with_byte-front [] first some e = absurd (omega arith)
join_with_byte-front (part ∷ parts) first some e =
    let all : take (length (part ∷ parts) - 1) parts ≡ parts = take_all (length (part ∷ parts) - 1) parts
    (omega arith) in
    join_with_byte-cons part parts
    ∙ ap (λ (l : List ℕ). l ++ flat_map after_slash parts) (sym e)
    ∙ ap (λ (l : List (List ℕ)). first ++ flat_map after_slash l) (sym all)

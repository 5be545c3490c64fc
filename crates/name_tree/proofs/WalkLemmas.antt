-- Where paths lead.
use Rattle.std.proofs.Common.{◌≡◌, ◌==◌, ◌||◌, ℕ, Bool, true, false, cond, not, List, [], ◌∷◌, ◌++◌, Option, Some, None}
use Rattle.std.proofs.Common.{slice_get, refl, sym, ap, ◌∙◌}
use Rattle.std.proofs.lemmas.Bool.{eqb-true, false≢true}
use Rattle.std.proofs.lemmas.List.{append-nil, append_assoc}
use Rattle.std.proofs.lemmas.Option.{none-some}
use Rattle.std.specs.List.{list_any}
use Rattle.am_text.specs.Ascii.{slash}
use Rattle.name_tree.specs.Shape.{child_of, walk, place_of, is_name}

cond_both : {A : Type 0} (t : Bool) (x y z : A) → x ≡ z → y ≡ z → cond t x y ≡ z
cond_both true x y z h g = h
cond_both false x y z h g = g

pub walk_none : (names : List (List (List ℕ × ℕ))) (part rest : List ℕ) → walk names None part rest ≡ None
walk_none names part [] = refl
walk_none names part (b ∷ bs) = cond_both (b == slash) (walk names None [] bs) (walk names None (part ++ b ∷ []) bs)
    None (walk_none names [] bs) (walk_none names (part ++ b ∷ []) bs)

child_empty : (place : Option ℕ) (name : List ℕ) → child_of [] place name ≡ None
child_empty None name = refl
child_empty (Some n) name = refl

pub walk_empty : (place : Option ℕ) (part rest : List ℕ) → walk [] place part rest ≡ None
walk_empty place part [] = child_empty place part
walk_empty place part (b ∷ bs) = cond_both (b == slash) (walk [] (child_of [] place part) [] bs)
    (walk [] place (part ++ b ∷ []) bs) None (walk_empty (child_of [] place part) [] bs)
    (walk_empty place (part ++ b ∷ []) bs)

no_test : (t r : Bool) → not (t || r) ≡ true → t ≡ false
no_test true r h = absurd (false≢true h)
no_test false r h = refl

no_rest : (t r : Bool) → not (t || r) ≡ true → not r ≡ true
no_rest true r h = absurd (false≢true h)
no_rest false r h = h

-- a name has no slash at its front, and none behind it
name_first : (b : ℕ) (bs : List ℕ) → is_name (b ∷ bs) ≡ true → (b == slash) ≡ false
name_first b bs h = no_test (b == slash) (list_any (λ c. c == slash) bs) h

name_rest : (b : ℕ) (bs : List ℕ) → is_name (b ∷ bs) ≡ true → is_name bs ≡ true
name_rest b bs h = no_rest (b == slash) (list_any (λ c. c == slash) bs) h

pub walk_name : (names : List (List (List ℕ × ℕ))) (place : Option ℕ) (part name : List ℕ)
    → is_name name ≡ true → walk names place part name ≡ child_of names place (part ++ name)
walk_name names place part [] h = ap (child_of names place) (sym (append-nil part))
walk_name names place part (b ∷ bs) h =
    ap (λ t. cond t (walk names (child_of names place part) [] bs) (walk names place (part ++ b ∷ []) bs))
    (name_first b bs h)
    ∙ walk_name names place (part ++ b ∷ []) bs (name_rest b bs h)
    ∙ ap (child_of names place) (append_assoc part (b ∷ []) bs)

cond_child : (names : List (List (List ℕ × ℕ))) (name : List ℕ) (t : Bool) (x y u v : Option ℕ)
    → x ≡ child_of names u name → y ≡ child_of names v name → cond t x y ≡ child_of names (cond t u v) name
cond_child names name true x y u v h g = h
cond_child names name false x y u v h g = g

pub walk_onward : (names : List (List (List ℕ × ℕ))) (place : Option ℕ) (part path name : List ℕ)
    → is_name name ≡ true → walk names place part (path ++ slash ∷ name) ≡ child_of names (walk names place part path)
    name
walk_onward names place part [] name h = walk_name names (child_of names place part) [] name h
walk_onward names place part (b ∷ bs) name h =
    cond_child names name (b == slash) (walk names (child_of names place part) [] (bs ++ slash ∷ name))
    (walk names place (part ++ b ∷ []) (bs ++ slash ∷ name)) (walk names (child_of names place part) [] bs)
    (walk names place (part ++ b ∷ []) bs)
    (walk_onward names (child_of names place part) [] bs name h)
    (walk_onward names place (part ++ b ∷ []) bs name h)

-- the place of a name in the place of a key
pub place_onward : (names : List (List (List ℕ × ℕ))) (key name : List ℕ)
    → is_name name ≡ true → place_of names (key ++ slash ∷ name) ≡ child_of names (place_of names key) name
place_onward names [] name h = walk_name names (Some 0) [] name h
place_onward names (b ∷ path) name h = walk_onward names (Some 0) [] path name h

-- a path leads to the place that has it
pub sound_walk : (names : List (List (List ℕ × ℕ))) (ks : List (List ℕ))
    → ((place other : ℕ) (key name : List ℕ) → slice_get ks place ≡ Some key
    → child_of names (Some place) name ≡ Some other → slice_get ks other ≡ Some (key ++ slash ∷ name))
    → (place other : ℕ) (key part rest : List ℕ) → slice_get ks place ≡ Some key
    → walk names (Some place) part rest ≡ Some other → slice_get ks other ≡ Some (key ++ slash ∷ (part ++ rest))
sound_walk names ks f place other key part [] h g = f place other key part h g
    ∙ ap (λ r. Some (key ++ slash ∷ r)) (sym (append-nil part))
sound_walk names ks f place other key part (b ∷ bs) h g =
    by (b == slash) refl (λ next k u v. sound_walk names ks f next other k [] bs u v)
    (λ u. sound_walk names ks f place other key (part ++ b ∷ []) bs h u) g
  where
    onward : (o : Option ℕ) → child_of names (Some place) part ≡ o →
        ((next : ℕ) (k : List ℕ) → slice_get ks next ≡ Some k → walk names (Some next) [] bs ≡ Some other
        → slice_get ks other ≡ Some (k ++ slash ∷ bs)) → walk names o [] bs ≡ Some other
        → slice_get ks other ≡ Some ((key ++ slash ∷ part) ++ slash ∷ bs)
    onward None q again u = absurd (none-some other (sym (walk_none names [] bs) ∙ u))
    onward (Some next) q again u = again next (key ++ slash ∷ part) (f place next key part h q) u

    by : (t : Bool) → (b == slash) ≡ t → ((next : ℕ) (k : List ℕ) → slice_get ks next ≡ Some k
        → walk names (Some next) [] bs ≡ Some other → slice_get ks other ≡ Some (k ++ slash ∷ bs))
        → (walk names (Some place) (part ++ b ∷ []) bs ≡ Some other
        → slice_get ks other ≡ Some (key ++ slash ∷ ((part ++ b ∷ []) ++ bs)))
        → cond t (walk names (child_of names (Some place) part) [] bs)
        (walk names (Some place) (part ++ b ∷ []) bs) ≡ Some other
        → slice_get ks other ≡ Some (key ++ slash ∷ (part ++ b ∷ bs))
    by true q again further u =
        onward (child_of names (Some place) part) refl again u ∙ ap Some (append_assoc key (slash ∷ part) (slash ∷ bs))
        ∙ ap (λ c. Some (key ++ slash ∷ (part ++ c ∷ bs))) (sym (eqb-true b slash q))
    by false q again further u = further u ∙ ap (λ r. Some (key ++ slash ∷ r)) (append_assoc part (b ∷ []) bs)

-- where more names are, what leads somewhere still leads there
pub walk_stays : (names more : List (List (List ℕ × ℕ))) → ((place : Option ℕ) (name : List ℕ) (other : ℕ)
    → child_of names place name ≡ Some other → child_of more place name ≡ Some other)
    → (place : Option ℕ) (part rest : List ℕ) (other : ℕ) → walk names place part rest ≡ Some other
    → walk more place part rest ≡ Some other
walk_stays names more f place part [] other h = f place part other h
walk_stays names more f place part (b ∷ bs) other h = by (b == slash)
    (λ next u. walk_stays names more f next [] bs other u) (λ u. walk_stays names more f place (part ++ b ∷ []) bs other
    u) h
  where
    onward : (o : Option ℕ) → child_of names place part ≡ o → ((next : Option ℕ) → walk names next [] bs ≡ Some other
        → walk more next [] bs ≡ Some other) → walk names o [] bs ≡ Some other
        → walk more (child_of more place part) [] bs ≡ Some other
    onward None q again u = absurd (none-some other (sym (walk_none names [] bs) ∙ u))
    onward (Some next) q again u = ap (λ o. walk more o [] bs) (f place part next q) ∙ again (Some next) u

    by : (t : Bool) → ((next : Option ℕ) → walk names next [] bs ≡ Some other → walk more next [] bs ≡ Some other)
        → (walk names place (part ++ b ∷ []) bs ≡ Some other → walk more place (part ++ b ∷ []) bs ≡ Some other)
        → cond t (walk names (child_of names place part) [] bs) (walk names place (part ++ b ∷ []) bs) ≡ Some other
        → cond t (walk more (child_of more place part) [] bs) (walk more place (part ++ b ∷ []) bs) ≡ Some other
    by true again further u = onward (child_of names place part) refl again u
    by false again further u = further u

-- Names, each once.
use Rattle.std.proofs.Common.{◌≡◌, ℕ, Bool, false, cond, ◌||◌, List, [], ◌∷◌, ◌++◌, map, refl, ap, ◌∙◌, append_assoc}
use Rattle.std.specs.Global.{Vec}
use Rattle.std.specs.List.{list_any}
use Rattle.std.specs.Str.{bytes_eq}
use Rattle.std.proofs.lemmas.List.{append-nil, map-append}
use Rattle.indexmap.specs.IndexSet.{insert_key}
use Rattle.core_rules.specs.NewNames.{is_among}

abbrev pub texts : List (Vec ℕ) → List (List ℕ)
texts ks = map (λ k. k.items) ks

pub among : (name : List ℕ) (ks : List (Vec ℕ)) → list_any (λ k. bytes_eq name k.items) ks ≡ is_among name (texts ks)
among name [] = refl
among name (k ∷ ks) = ap (λ (b : Bool). bytes_eq name k.items || b) (among name ks)

-- one that isn't there comes last
pub put_last : (ks : List (Vec ℕ)) (k : Vec ℕ) → is_among k.items (texts ks) ≡ false →
    texts (insert_key (λ x y. bytes_eq x.items y.items) ks k) ≡ texts ks ++ k.items ∷ []
put_last ks k h =
    let e : list_any (λ y. bytes_eq k.items y.items) ks ≡ false = among k.items ks ∙ h in
    ap (λ (b : Bool). texts (cond b ks (ks ++ k ∷ []))) e ∙ map-append (λ (x : Vec ℕ). x.items) ks (k ∷ [])

pub ruleset joins = (append_assoc, append-nil)

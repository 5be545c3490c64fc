-- Writing, one byte or one attribute further.
use Rattle.std.proofs.Common.{◌≡◌, ℕ, ◌+◌, ◌<◌, Bool, true, false, cond, List, [], ◌∷◌, ◌++◌, length, get_or, take}
use Rattle.std.proofs.Common.{drop, refl, ap, sym, ◌∙◌, append_assoc, drop-cons, add-one, arith}
use Rattle.std.specs.List.{flat_map}
use Rattle.std.proofs.lemmas.List.{append-nil, take_more}
use Rattle.std.proofs.lemmas.Grind.{flat_map-append}
use Rattle.plumb_msg.specs.declared.message.Attr.{Attr}
use Rattle.plumb_msg.specs.Names.{is_known}
use Rattle.plumb_msg.specs.Spelling.{doubled, after_blank, is_name, are_named}

flat_map-more : {A : Type 0} (f : A → List ℕ) (xs : List A) (i : ℕ) (x : A) → i < length xs
    → flat_map f (take (i + 1) xs) ≡ flat_map f (take i xs) ++ f (get_or xs i x)
flat_map-more f xs i x h = rw (take_more xs i x h, flat_map-append)
    (ap (λ (l : List ℕ). flat_map f (take i xs) ++ l) (append-nil (f (get_or xs i x))))

pub doubled_more : (bs : List ℕ) (i : ℕ) → i < length bs → flat_map doubled (take (i + 1) bs) ≡ flat_map doubled
    (take i bs) ++ doubled (get_or bs i 0)
doubled_more bs i h = flat_map-more doubled bs i 0 h

pub blanks_more : (xs : List Attr) (i : ℕ) (a : Attr) → i < length xs
    → flat_map after_blank (take (i + 1) xs) ≡ flat_map after_blank (take i xs) ++ after_blank (get_or xs i a)
blanks_more xs i a h = flat_map-more after_blank xs i a h

pub ruleset quotes = (doubled_more, append_assoc, append-nil)

pub ruleset joins = (append_assoc, append-nil)

pub ruleset attributes = (blanks_more, append_assoc, append-nil)

pub named_more : (xs : List Attr) (i : ℕ) (a : Attr) → i < length xs
    → are_named (take i xs) (drop i xs) ≡ cond (is_known (get_or xs i a).name (take i xs)) false
    (cond (is_name (get_or xs i a).name) (are_named (take (i + 1) xs) (drop (i + 1) xs)) false)
named_more xs i a h = rw (drop-cons xs i a h, take_more xs i a h, add-one) refl

pub ruleset naming = (named_more)

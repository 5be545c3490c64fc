-- No spelling begins another: the first four bytes say the length.
use Rattle.std.proofs.Common.{◌≡◌, ℕ, ◌+◌, ◌<◌, ◌^◌, List, [], ◌∷◌, ◌++◌, length, take, Result, Ok, refl, sym, ap, ◌∙◌}
use Rattle.std.proofs.Common.{arith, length-append}
use Rattle.std.specs.Int.{w16, w32, from_le_bytes, to_le_bytes}
use Rattle.std.proofs.lemmas.List.{append-nil, nil_from_length}
use Rattle.ninep_types.specs.declared.fault.WireFault.{WireFault}
use Rattle.ninep_wire.specs.Laws.{PrefixFree_t, PrefixFree_r}
use Rattle.ninep_types.specs.Reading.{t_of, r_of}
use Rattle.ninep_types.specs.Spelling.{kind_t, kind_r, fields_t, fields_r, spelling_t, spelling_r}
use Rattle.ninep_wire.proofs.FieldLaws.{wide32}
use Rattle.ninep_wire.proofs.Sizes.{size_t-is, size_r-is}
use Rattle.ninep_wire.proofs.TLaws.{t_again}
use Rattle.ninep_wire.proofs.RLaws.{r_again}

abbrev read_as : {M : Type 0} → M → Result M WireFault
read_as m = Ok m

message_is : {M : Type 0} (a b : M) → read_as a ≡ read_as b → a ≡ b
message_is a b e = cc

-- two texts that begin with their lengths: the first isn't a proper beginning of the second
ends_there : (m n : ℕ) (a b rest x y : List ℕ) → a ≡ to_le_bytes w32 m ++ x → b ≡ to_le_bytes w32 n
    ++ y → length a ≡ m → length b ≡ n → m < 2 ^ 32 → n < 2 ^ 32 → a ++ rest ≡ b → rest ≡ []
ends_there m n a b rest x y a-is b-is a-len b-len m-fits n-fits e =
    let fronts : take 4 (a ++ rest) ≡ take 4 b = ap (λ (l : List ℕ). take 4 l) e in
    let front-a : take 4 (a ++ rest) ≡ to_le_bytes w32 m = rw a-is refl in
    let front-b : take 4 b ≡ to_le_bytes w32 n = rw b-is refl in
    let same : m ≡ n = sym (wide32.again m m-fits) ∙ ap (from_le_bytes w32) (sym front-a ∙ fronts ∙ front-b)
    ∙ wide32.again n n-fits in
    nil_from_length rest (omega (arith, same, a-len, b-len, length-append a rest, ap (λ (l : List ℕ). length l) e))

pub t_prefix_free : PrefixFree_t
t_prefix_free a b rest fits_a in_a fits_b in_b e =
    let nothing : rest ≡ [] = ends_there (7 + length (fields_t a.body)) (7 + length (fields_t b.body)) (spelling_t a)
    (spelling_t b) rest (kind_t a.body ∷ to_le_bytes w16 a.tag ++ fields_t a.body)
    (kind_t b.body ∷ to_le_bytes w16 b.tag ++ fields_t b.body) refl refl (omega arith) (omega arith)
    (omega (arith, size_t-is a.body, fits_a.size)) (omega (arith, size_t-is b.body, fits_b.size)) e in
    let same : spelling_t a ≡ spelling_t b = sym (append-nil (spelling_t a))
    ∙ ap (λ (r : List ℕ). spelling_t a ++ r) (sym nothing) ∙ e in
    (nothing, message_is a b (sym (t_again a fits_a in_a) ∙ ap t_of same ∙ t_again b fits_b in_b))

pub ruleset t_prefixes = t_prefix_free

pub r_prefix_free : PrefixFree_r
r_prefix_free a b rest fits_a in_a fits_b in_b e =
    let nothing : rest ≡ [] = ends_there (7 + length (fields_r a.body)) (7 + length (fields_r b.body)) (spelling_r a)
    (spelling_r b) rest (kind_r a.body ∷ to_le_bytes w16 a.tag ++ fields_r a.body)
    (kind_r b.body ∷ to_le_bytes w16 b.tag ++ fields_r b.body) refl refl (omega arith) (omega arith)
    (omega (arith, size_r-is a.body, fits_a.size)) (omega (arith, size_r-is b.body, fits_b.size)) e in
    let same : spelling_r a ≡ spelling_r b = sym (append-nil (spelling_r a))
    ∙ ap (λ (r : List ℕ). spelling_r a ++ r) (sym nothing) ∙ e in
    (nothing, message_is a b (sym (r_again a fits_a in_a) ∙ ap r_of same ∙ r_again b fits_b in_b))

pub ruleset r_prefixes = r_prefix_free

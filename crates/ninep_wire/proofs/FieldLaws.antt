-- A field that is read is the field that was written, and what was written is read again.
use Rattle.std.proofs.Common.{zero, suc, ◌≡◌, ℕ, ◌+◌, ◌^◌, ◌<◌, ◌≤◌, Bool, true, false, cond, ltb, List, [], ◌∷◌, ◌++◌}
use Rattle.std.proofs.Common.{length, get_or, take, drop, Result, Ok, Err, refl, sym, ap, subst, ◌∙◌, append_assoc}
use Rattle.std.proofs.Common.{arith, inl, inr}
use Rattle.std.specs.Prelude.{All}
use Rattle.std.specs.Int.{Width, w16, w32, w64, byte_len, from_le_bytes, to_le_bytes}
use Rattle.std.specs.List.{flat_map, AllByRecursion}
use Rattle.std.proofs.lemmas.Bool.{cases_lt, ltb-false, le-ltb}
use Rattle.std.proofs.lemmas.List.{take_at, drop_at, take-append-drop, length-append, length-take, get_or-drop}
use Rattle.std.proofs.lemmas.List.{get_or-take, get_or_past}
use Rattle.std.proofs.lemmas.List.Elements.{recursion_from_All, All-from_recursion}
use Rattle.std.proofs.lemmas.Nat.{le_bytes_2, le_bytes_4, le_bytes_8, from_le_bytes-to_le_bytes_2}
use Rattle.std.proofs.lemmas.Nat.{from_le_bytes-to_le_bytes_4, from_le_bytes-to_le_bytes_8}
use Rattle.ninep_types.specs.declared.fault.WireFault.{WireFault}
use Rattle.ninep_types.specs.declared.fault.WireFault.TheVariants.{Short, Text, Names}
use Rattle.ninep_types.specs.declared.message.Qid.{Qid}
use Rattle.ninep_types.specs.Fields.{◌>>=◌, bytes_at, number_at, byte_at, string_at, counted_at, qid_at, count_at}
use Rattle.ninep_types.specs.Fields.{several_at, listed_at, string, counted, listed, qid_bytes, is_text}
use Rattle.ninep_types.specs.Spelling.{IsString, AreNames, IsQid}

abbrev pub IsBytes : List ℕ → Type 0
IsBytes bytes = (i : ℕ) → get_or bytes i 0 < 256

pub IsBytes-drop : (n : ℕ) (bytes : List ℕ) → IsBytes bytes → IsBytes (drop n bytes)
IsBytes-drop n bytes h i = rw get_or-drop (h (n + i))

pub IsBytes-take : (n : ℕ) (bytes : List ℕ) → IsBytes bytes → IsBytes (take n bytes)
IsBytes-take n bytes h i =
    elim (cases_lt i n) [
      | inl lt ↦ rw (get_or-take n bytes i 0 lt) (h i)
      | inr le ↦ rw (get_or_past (take n bytes) i 0 (omega (arith, length-take n bytes))) (omega arith)
    ]

-- the value of a step that did not fail
pub bind_ok : {A B : Type 0} (r : Result A WireFault) (f : A → Result B WireFault) (y : B) → (r >>= f) ≡ Ok y → (x : A)
    × (r ≡ Ok x) × (f x ≡ Ok y)
bind_ok (Ok x) f y e = (x, refl, e)
bind_ok (Err d) f y e = absurd cc

-- a test that did not fail
pub guard_ok : {A : Type 0} (b : Bool) (d : WireFault) (x y : A) → cond b (Err d) (Ok x) ≡ Ok y → (b ≡ false) × (x ≡ y)
guard_ok true d x y e = absurd cc
guard_ok false d x y e = (refl, cc)

pub guard_else : {A : Type 0} (b : Bool) (d : WireFault) (r : Result A WireFault) (y : A) → cond b (Err d) r ≡ Ok y
    → (b ≡ false) × (r ≡ Ok y)
guard_else true d r y e = absurd cc
guard_else false d r y e = (refl, e)

pub guard_then : {A : Type 0} (b : Bool) (d : WireFault) (r : Result A WireFault) (y : A) → cond b r (Err d) ≡ Ok y
    → (b ≡ true) × (r ≡ Ok y)
guard_then true d r y e = (refl, e)
guard_then false d r y e = absurd cc

abbrev pub done : {A : Type 0} → A → Result A WireFault
done x = Ok x

pub ok_is : {A : Type 0} (x y : A) → done x ≡ done y → x ≡ y
ok_is x y e = cc

-- what a reader took from the front
pub record Takes (bytes text rest : List ℕ) : Type 0 where
  pub parts : bytes ≡ text ++ rest
  pub rest_fits : IsBytes rest

pub Takes-then : (a x b y c : List ℕ) → Takes a x b → Takes b y c → Takes a (x ++ y) c
Takes-then a x b y c p q = record {
  parts = p.parts ∙ ap (λ (t : List ℕ). x ++ t) q.parts
      ∙ sym (append_assoc x y c);
  rest_fits = q.rest_fits;
}

-- ---- numbers

pub record IsWide (w : Width) (limit : ℕ) : Type 0 where
  pub len : (n : ℕ) → length (to_le_bytes w n) ≡ byte_len w
  pub back : (bytes : List ℕ) → length bytes ≡ byte_len w → IsBytes bytes
      → to_le_bytes w (from_le_bytes w bytes) ≡ bytes
  pub again : (n : ℕ) → n < limit → from_le_bytes w (to_le_bytes w n) ≡ n
  pub below : (bytes : List ℕ) → IsBytes bytes → from_le_bytes w bytes < limit

pub wide16 : IsWide w16 (2 ^ 16)
wide16 = record {
  len = λ n. refl;
  back = λ bytes len fits. le_bytes_2 bytes _ len fits refl;
  again = λ n lt. from_le_bytes-to_le_bytes_2 n lt;
  below = λ bytes fits. omega (arith, fits 0, fits 1);
}

pub wide32 : IsWide w32 (2 ^ 32)
wide32 = record {
  len = λ n. refl;
  back = λ bytes len fits. le_bytes_4 bytes _ len fits refl;
  again = λ n lt. from_le_bytes-to_le_bytes_4 n lt;
  below = λ bytes fits. omega (arith, fits 0, fits 1, fits 2, fits 3);
}

pub wide64 : IsWide w64 (2 ^ 64)
wide64 = record {
  len = λ n. refl;
  back = λ bytes len fits. le_bytes_8 bytes _ len fits refl;
  again = λ n lt. from_le_bytes-to_le_bytes_8 n lt;
  below = λ bytes fits. omega (arith, fits 0, fits 1, fits 2, fits 3, fits 4, fits 5, fits 6, fits 7);
}

pub number_takes : (w : Width) (limit : ℕ) (wide : IsWide w limit) (bytes : List ℕ) (n : ℕ) (rest : List ℕ)
    → IsBytes bytes → number_at w bytes ≡ Ok (n, rest) → Takes bytes (to_le_bytes w n) rest × (n < limit)
number_takes w limit wide bytes n rest fits e =
    let g = guard_ok (ltb (length bytes) (byte_len w)) Short (
      from_le_bytes w (take (byte_len w) bytes),
      drop (byte_len w) bytes,
    ) (n, rest) e in
    let long : byte_len w ≤ length bytes = ltb-false _ _ g.0 in
    let n-is : from_le_bytes w (take (byte_len w) bytes) ≡ n = ap (λ (p : ℕ × List ℕ). p.0) g.1 in
    let rest-is : drop (byte_len w) bytes ≡ rest = ap (λ (p : ℕ × List ℕ). p.1) g.1 in
    let front : to_le_bytes w n ≡ take (byte_len w) bytes = rw (← n-is)
    (wide.back (take (byte_len w) bytes) (omega (arith, length-take (byte_len w) bytes))
    (IsBytes-take (byte_len w) bytes fits)) in (
      record {
        parts = rw (front, ← rest-is) (sym (take-append-drop (byte_len w) bytes));
        rest_fits = rw (← rest-is)
            (IsBytes-drop (byte_len w) bytes fits);
      },
      rw (← n-is) (wide.below (take (byte_len w) bytes)
          (IsBytes-take (byte_len w) bytes fits)),
    )

pub number_again : (w : Width) (limit : ℕ) (wide : IsWide w limit) (n : ℕ) (rest : List ℕ) → n < limit
    → number_at w (to_le_bytes w n ++ rest) ≡ Ok (n, rest)
number_again w limit wide n rest lt =
    let len = wide.len n in
    let long : ltb (length (to_le_bytes w n ++ rest)) (byte_len w) ≡ false = le-ltb _ _
    (omega (arith, length-append (to_le_bytes w n) rest)) in
    rw (
      long,
      take_at (to_le_bytes w n) rest (byte_len w) len,
      drop_at (to_le_bytes w n) rest (byte_len w) len,
      wide.again n lt,
    ) refl

pub byte_takes : (bytes : List ℕ) (n : ℕ) (rest : List ℕ) → IsBytes bytes → byte_at bytes ≡ Ok (n, rest)
    → Takes bytes (n ∷ []) rest × (n < 2 ^ 8)
byte_takes [] n rest fits e = absurd cc
byte_takes (b ∷ bs) n rest fits e =
    let made : ℕ × List ℕ = (b, bs) in
    subst (λ (p : ℕ × List ℕ). Takes (b ∷ bs) (p.0 ∷ []) p.1 × (p.0 < 2 ^ 8)) (ok_is made (n, rest) e)
    (record { parts = refl; rest_fits = λ i. fits (suc i) }, fits 0)

-- ---- so many bytes

pub bytes_take : (n : ℕ) (bytes : List ℕ) (x : List ℕ × List ℕ) → IsBytes bytes → bytes_at n bytes ≡ Ok x
    → Takes bytes x.0 x.1 × (length x.0 ≡ n)
bytes_take n bytes x fits e =
    let g = guard_ok (ltb (length bytes) n) Short (take n bytes, drop n bytes) x e in
    let long : n ≤ length bytes = ltb-false _ _ g.0 in
    subst (λ (y : List ℕ × List ℕ). Takes bytes y.0 y.1 × (length y.0 ≡ n)) g.1 (
      record { parts = sym (take-append-drop n bytes); rest_fits = IsBytes-drop n bytes fits },
      omega (arith, length-take n bytes),
    )

pub bytes_again : (text rest : List ℕ) → bytes_at (length text) (text ++ rest) ≡ Ok (text, rest)
bytes_again text rest =
    let long : ltb (length (text ++ rest)) (length text) ≡ false = le-ltb _ _
    (omega (arith, length-append text rest)) in
    rw (long, take_at text rest (length text) refl, drop_at text rest (length text) refl) refl

-- ---- strings and data

pub counted_takes : (w : Width) (limit : ℕ) (wide : IsWide w limit) (bytes text rest : List ℕ) → IsBytes bytes
    → counted_at w bytes ≡ Ok (text, rest) → Takes bytes (counted w text) rest × (length text < limit)
unfolding counted_at
counted_takes w limit wide bytes text rest fits e =
    let b = bind_ok (number_at w bytes) (λ n. bytes_at n.0 n.1) (text, rest) e in
    let t = number_takes w limit wide bytes b.0.0 b.0.1 fits b.1 in
    let s = bytes_take b.0.0 b.0.1 (text, rest) t.0.rest_fits b.2 in
    let both = Takes-then bytes (to_le_bytes w b.0.0) b.0.1 text rest t.0 s.0 in
    (subst (λ (k : ℕ). Takes bytes (to_le_bytes w k ++ text) rest) (sym s.1) both, rw s.1 t.1)

pub counted_again : (w : Width) (limit : ℕ) (wide : IsWide w limit) (text rest : List ℕ) → length text < limit
    → counted_at w (counted w text ++ rest) ≡ Ok (text, rest)
unfolding counted_at
counted_again w limit wide text rest lt =
    ap (counted_at w) (append_assoc (to_le_bytes w (length text)) text rest)
    ∙ rw (number_again w limit wide (length text) (text ++ rest) lt) (bytes_again text rest)

pub string_takes : (bytes text rest : List ℕ) → IsBytes bytes → string_at bytes ≡ Ok (text, rest)
    → Takes bytes (string text) rest × IsString text
unfolding string_at
string_takes bytes text rest fits e =
    let b = bind_ok (number_at w16 bytes) (λ n. bytes_at n.0 n.1 >>= λ text. cond (is_text text.0) (Ok text) (Err Text))
    (text, rest) e in
    let t = number_takes w16 (2 ^ 16) wide16 bytes b.0.0 b.0.1 fits b.1 in
    let d = bind_ok (bytes_at b.0.0 b.0.1) (λ text. cond (is_text text.0) (Ok text) (Err Text)) (text, rest) b.2 in
    let s = bytes_take b.0.0 b.0.1 d.0 t.0.rest_fits d.1 in
    let u = guard_then (is_text d.0.0) Text (Ok d.0) (text, rest) d.2 in
    let both = Takes-then bytes (to_le_bytes w16 b.0.0) b.0.1 d.0.0 d.0.1 t.0 s.0 in
    let whole : Takes bytes (string d.0.0) d.0.1 = subst (λ (k : ℕ). Takes bytes (to_le_bytes w16 k ++ d.0.0) d.0.1)
    (sym s.1) both in
    let len : length d.0.0 < 2 ^ 16 = rw s.1 t.1 in
    subst (λ (p : List ℕ × List ℕ). Takes bytes (string p.0) p.1 × IsString p.0) (ok_is d.0 (text, rest) u.1)
    (whole, record { text = u.0; len = len })

pub string_again : (text rest : List ℕ) → IsString text → string_at (string text ++ rest) ≡ Ok (text, rest)
unfolding string_at
string_again text rest fits =
    ap string_at (append_assoc (to_le_bytes w16 (length text)) text rest)
    ∙ rw (number_again w16 (2 ^ 16) wide16 (length text) (text ++ rest) fits.len, bytes_again text rest, fits.text)
    refl

-- ---- qids

pub qid_takes : (bytes : List ℕ) (q : Qid) (rest : List ℕ) → IsBytes bytes → qid_at bytes ≡ Ok (q, rest)
    → Takes bytes (qid_bytes q) rest × IsQid q
unfolding qid_at
qid_takes bytes q rest fits e =
    let b0 = bind_ok (byte_at bytes) (λ kind. number_at w32 kind.1 >>= λ vers. number_at w64 vers.1 >>=
    λ path. Ok (record { kind = kind.0; vers = vers.0; path = path.0 }, path.1)) (q, rest) e in
    let b1 = bind_ok (number_at w32 b0.0.1) (λ vers. number_at w64 vers.1 >>=
    λ path. Ok (record { kind = b0.0.0; vers = vers.0; path = path.0 }, path.1)) (q, rest) b0.2 in
    let b2 = bind_ok (number_at w64 b1.0.1) (λ path. Ok (
      record { kind = b0.0.0; vers = b1.0.0; path = path.0 },
      path.1,
    )) (q, rest) b1.2 in
    let t0 = byte_takes bytes b0.0.0 b0.0.1 fits b0.1 in
    let t1 = number_takes w32 (2 ^ 32) wide32 b0.0.1 b1.0.0 b1.0.1 t0.0.rest_fits b1.1 in
    let t2 = number_takes w64 (2 ^ 64) wide64 b1.0.1 b2.0.0 b2.0.1 t1.0.rest_fits b2.1 in
    let j1 = Takes-then b0.0.1 (to_le_bytes w32 b1.0.0) b1.0.1 (to_le_bytes w64 b2.0.0) b2.0.1 t1.0 t2.0 in
    let j0 = Takes-then bytes (b0.0.0 ∷ []) b0.0.1 (to_le_bytes w32 b1.0.0 ++ to_le_bytes w64 b2.0.0) b2.0.1 t0.0 j1 in
    let made : Qid × List ℕ = (record { kind = b0.0.0; vers = b1.0.0; path = b2.0.0 }, b2.0.1) in
    subst (λ (p : Qid × List ℕ). Takes bytes (qid_bytes p.0) p.1 × IsQid p.0) (ok_is made (q, rest) b2.2)
    (j0, record { kind = t0.1; vers = t1.1; path = t2.1 })

pub qid_again : (q : Qid) (rest : List ℕ) → IsQid q → qid_at (qid_bytes q ++ rest) ≡ Ok (q, rest)
unfolding qid_at
qid_again q rest fits =
    ap (λ (l : List ℕ). qid_at (q.kind ∷ l)) (append_assoc (to_le_bytes w32 q.vers) (to_le_bytes w64 q.path) rest)
    ∙ rw (
      number_again w32 (2 ^ 32) wide32 q.vers (to_le_bytes w64 q.path ++ rest) fits.vers,
      number_again w64 (2 ^ 64) wide64 q.path rest fits.path,
    ) refl

-- ---- lists of at most 16 members

-- the laws of one member
abbrev pub OneTakes : {A : Type 0} → (List ℕ → Result (A × List ℕ) WireFault) → (A → List ℕ) → (A → Type 0) → Type 0
OneTakes {A} one_at spelled P = (bytes : List ℕ) (x : A) (rest : List ℕ) → IsBytes bytes → one_at bytes ≡ Ok (x, rest)
    → Takes bytes (spelled x) rest × P x

abbrev pub OneAgain : {A : Type 0} → (List ℕ → Result (A × List ℕ) WireFault) → (A → List ℕ) → (A → Type 0) → Type 0
OneAgain {A} one_at spelled P = (x : A) (rest : List ℕ) → P x → one_at (spelled x ++ rest) ≡ Ok (x, rest)

several_take : {A : Type 0} (one_at : List ℕ → Result (A × List ℕ) WireFault) (spelled : A → List ℕ) (P : A → Type 0)
    → OneTakes one_at spelled P → (n : ℕ) (bytes : List ℕ) (x : List A × List ℕ) → IsBytes bytes
    → several_at one_at n bytes ≡ Ok x → Takes bytes (flat_map spelled x.0) x.1 × (length x.0 ≡ n)
    × AllByRecursion P x.0
unfolding several_at
several_take {A} one_at spelled P one zero bytes x fits e =
    let made : List A × List ℕ = ([], bytes) in
    subst (λ (y : List A × List ℕ). Takes bytes (flat_map spelled y.0) y.1 × (length y.0 ≡ 0) × AllByRecursion P y.0)
    (ok_is made x e) (record { parts = refl; rest_fits = fits }, refl, tt)
several_take {A} one_at spelled P one (suc n) bytes x fits e =
    let a = bind_ok (one_at bytes) (λ first. several_at one_at n first.1 >>=
    λ others. Ok (first.0 ∷ others.0, others.1)) x e in
    let b = bind_ok (several_at one_at n a.0.1) (λ others. Ok (a.0.0 ∷ others.0, others.1)) x a.2 in
    let first = one bytes a.0.0 a.0.1 fits a.1 in
    let second = several_take one_at spelled P one n a.0.1 b.0 first.0.rest_fits b.1 in
    let both = Takes-then bytes (spelled a.0.0) a.0.1 (flat_map spelled b.0.0) b.0.1 first.0 second.0 in
    let made : List A × List ℕ = (a.0.0 ∷ b.0.0, b.0.1) in
    subst (λ (y : List A × List ℕ). Takes bytes (flat_map spelled y.0) y.1 × (length y.0 ≡ suc n)
    × AllByRecursion P y.0) (ok_is made x b.2) (both, ap suc second.1, (first.1, second.2))

several_again : {A : Type 0} (one_at : List ℕ → Result (A × List ℕ) WireFault) (spelled : A → List ℕ) (P : A → Type 0)
    → OneAgain one_at spelled P → (xs : List A) (rest : List ℕ) → AllByRecursion P xs
    → several_at one_at (length xs) (flat_map spelled xs ++ rest) ≡ Ok (xs, rest)
unfolding several_at
several_again one_at spelled P one [] rest fits = refl
several_again one_at spelled P one (x ∷ xs) rest fits =
    ap (several_at one_at (suc (length xs))) (append_assoc (spelled x) (flat_map spelled xs) rest)
    ∙ rw (one x (flat_map spelled xs ++ rest) fits.0, several_again one_at spelled P one xs rest fits.1) refl

listed_takes : {A : Type 0} (one_at : List ℕ → Result (A × List ℕ) WireFault) (spelled : A → List ℕ) (P : A → Type 0)
    → OneTakes one_at spelled P → (bytes : List ℕ) (xs : List A) (rest : List ℕ) → IsBytes bytes
    → listed_at one_at bytes ≡ Ok (xs, rest) → Takes bytes (listed spelled xs) rest × (length xs ≤ 16) × All P xs
unfolding listed_at
listed_takes one_at spelled P one bytes xs rest fits e =
    let b = bind_ok (count_at bytes) (λ n. several_at one_at n.0 n.1) (xs, rest) e in
    let c = bind_ok (number_at w16 bytes) (λ n. cond (ltb 16 n.0) (Err Names) (Ok n)) b.0 b.1 in
    let t = number_takes w16 (2 ^ 16) wide16 bytes c.0.0 c.0.1 fits c.1 in
    let g = guard_ok (ltb 16 c.0.0) Names c.0 b.0 c.2 in
    let few : c.0.0 ≤ 16 = ltb-false _ _ g.0 in
    let read : several_at one_at c.0.0 c.0.1 ≡ Ok (xs, rest) = rw g.1 b.2 in
    let s = several_take one_at spelled P one c.0.0 c.0.1 (xs, rest) t.0.rest_fits read in
    let both = Takes-then bytes (to_le_bytes w16 c.0.0) c.0.1 (flat_map spelled xs) rest t.0 s.0 in (
      subst (λ (k : ℕ). Takes bytes (to_le_bytes w16 k ++ flat_map spelled xs) rest) (sym s.1) both,
      omega (arith, s.1),
      All-from_recursion P xs s.2,
    )

listed_again : {A : Type 0} (one_at : List ℕ → Result (A × List ℕ) WireFault) (spelled : A → List ℕ) (P : A → Type 0)
    → OneAgain one_at spelled P → (xs : List A) (rest : List ℕ) → length xs ≤ 16 → All P xs
    → listed_at one_at (listed spelled xs ++ rest) ≡ Ok (xs, rest)
unfolding listed_at
listed_again one_at spelled P one xs rest few fits =
    let small : ltb 16 (length xs) ≡ false = le-ltb _ _ few in
    ap (listed_at one_at) (append_assoc (to_le_bytes w16 (length xs)) (flat_map spelled xs) rest)
    ∙ rw (number_again w16 (2 ^ 16) wide16 (length xs) (flat_map spelled xs ++ rest) (omega (arith, few)), small)
    (several_again one_at spelled P one xs rest (recursion_from_All P xs fits))

pub names_takes : (bytes : List ℕ) (names : List (List ℕ)) (rest : List ℕ) → IsBytes bytes
    → listed_at string_at bytes ≡ Ok (names, rest) → Takes bytes (listed string names) rest × AreNames names
names_takes bytes names rest fits e =
    let t = listed_takes string_at string IsString string_takes bytes names rest fits e in
    (t.0, (t.1, t.2))

pub names_again : (names : List (List ℕ)) (rest : List ℕ) → AreNames names
    → listed_at string_at (listed string names ++ rest) ≡ Ok (names, rest)
names_again names rest fits = listed_again string_at string IsString string_again names rest fits.0 fits.1

pub qids_takes : (bytes : List ℕ) (qids : List Qid) (rest : List ℕ) → IsBytes bytes
    → listed_at qid_at bytes ≡ Ok (qids, rest) → Takes bytes (listed qid_bytes qids) rest × (length qids ≤ 16)
    × All IsQid qids
qids_takes bytes qids rest fits e = listed_takes qid_at qid_bytes IsQid qid_takes bytes qids rest fits e

pub qids_again : (qids : List Qid) (rest : List ℕ) → length qids ≤ 16 → All IsQid qids
    → listed_at qid_at (listed qid_bytes qids ++ rest) ≡ Ok (qids, rest)
qids_again qids rest few fits = listed_again qid_at qid_bytes IsQid qid_again qids rest few fits

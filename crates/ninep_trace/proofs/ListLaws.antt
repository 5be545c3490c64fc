-- The laws of qids and lists: what is read is spelled so, and what is spelled so is read.
use Rattle.std.proofs.Common.{◌≡◌, ℕ, zero, suc, ◌^◌, ◌≤◌, List, [], ◌∷◌, ◌++◌, length, Option, Some, refl, sym, ap}
use Rattle.std.proofs.Common.{subst, ◌∙◌, append_assoc, arith}
use Rattle.std.specs.Prelude.{All}
use Rattle.std.specs.Fmt.{decimal}
use Rattle.std.specs.List.{AllByRecursion, flat_map}
use Rattle.std.proofs.lemmas.List.{append-nil}
use Rattle.std.proofs.lemmas.List.Elements.{recursion_from_All, All-from_recursion}
use Rattle.ninep_types.specs.declared.message.Qid.{Qid}
use Rattle.ninep_types.specs.Spelling.{AreNames, IsQid, IsString}
use Rattle.am_text.specs.Front.{after_front}
use Rattle.am_journal.proofs.FieldWords.{front-is}
use Rattle.ninep_trace.specs.Fields.{◌>>=◌, small_at, number, number_at, quoted, quoted_at, qid_text, qid_at, qid_field}
use Rattle.ninep_trace.specs.Fields.{qid_field_at, blank_and, listed, several_at, listed_at}
use Rattle.ninep_trace.proofs.FieldLaws.{some_is, bind_some, Takes, takes_then, front_again, IsEnd, Stops, stops_then}
use Rattle.ninep_trace.proofs.FieldLaws.{small_takes, small_again, number_takes, number_again, number_stops}
use Rattle.ninep_trace.proofs.FieldLaws.{quoted_takes, quoted_again}

-- ---- qids

pub qid_takes : (bytes : List ℕ) (q : Qid) (rest : List ℕ) → qid_at bytes ≡ Some (q, rest)
    → Takes bytes (qid_text q) rest × IsQid q
unfolding qid_at qid_text
qid_takes bytes q rest e =
    let b0 = bind_some (small_at (2 ^ 8) bytes) (λ kind. after_front (46 ∷ []) kind.1 >>= λ second. small_at (2 ^ 32)
    second >>= λ vers. after_front (46 ∷ []) vers.1 >>= λ third. small_at (2 ^ 64) third >>=
    λ path. Some (record { kind = kind.0; vers = vers.0; path = path.0 }, path.1)) (q, rest) e in
    let b1 = bind_some (after_front (46 ∷ []) b0.0.1) (λ second. small_at (2 ^ 32) second >>=
    λ vers. after_front (46 ∷ []) vers.1 >>= λ third. small_at (2 ^ 64) third >>=
    λ path. Some (record { kind = b0.0.0; vers = vers.0; path = path.0 }, path.1)) (q, rest) b0.2 in
    let b2 = bind_some (small_at (2 ^ 32) b1.0) (λ vers. after_front (46 ∷ []) vers.1 >>= λ third. small_at (2 ^ 64)
    third >>= λ path. Some (record { kind = b0.0.0; vers = vers.0; path = path.0 }, path.1)) (q, rest) b1.2 in
    let b3 = bind_some (after_front (46 ∷ []) b2.0.1) (λ third. small_at (2 ^ 64) third >>=
    λ path. Some (record { kind = b0.0.0; vers = b2.0.0; path = path.0 }, path.1)) (q, rest) b2.2 in
    let b4 = bind_some (small_at (2 ^ 64) b3.0) (λ path. Some (
      record { kind = b0.0.0; vers = b2.0.0; path = path.0 },
      path.1,
    )) (q, rest) b3.2 in
    let t0 = small_takes (2 ^ 8) bytes b0.0.0 b0.0.1 b0.1 in
    let t2 = small_takes (2 ^ 32) b1.0 b2.0.0 b2.0.1 b2.1 in
    let t4 = small_takes (2 ^ 64) b3.0 b4.0.0 b4.0.1 b4.1 in
    let f1 = front-is (46 ∷ []) b0.0.1 b1.0 b1.1 in
    let f3 = front-is (46 ∷ []) b2.0.1 b3.0 b3.1 in
    let j3 = takes_then b2.0.1 (46 ∷ []) b3.0 (decimal b4.0.0) b4.0.1 f3 t4.0 in
    let j2 = takes_then b1.0 (decimal b2.0.0) b2.0.1 (46 ∷ decimal b4.0.0) b4.0.1 t2.0 j3 in
    let j1 = takes_then b0.0.1 (46 ∷ []) b1.0 (decimal b2.0.0 ++ 46 ∷ decimal b4.0.0) b4.0.1 f1 j2 in
    let j0 = takes_then bytes (decimal b0.0.0) b0.0.1 (46 ∷ (decimal b2.0.0 ++ 46 ∷ decimal b4.0.0)) b4.0.1 t0.0 j1 in
    let made : Qid × List ℕ = (record { kind = b0.0.0; vers = b2.0.0; path = b4.0.0 }, b4.0.1) in
    subst (λ (p : Qid × List ℕ). Takes bytes (decimal p.0.kind ++ 46 ∷ (decimal p.0.vers ++ 46 ∷ decimal p.0.path)) p.1
    × IsQid p.0) (some_is made (q, rest) b4.2) (j0, record { kind = t0.1; vers = t2.1; path = t4.1 })

pub qid_again : (q : Qid) (rest : List ℕ) → IsQid q → IsEnd rest → qid_at (qid_text q ++ rest) ≡ Some (q, rest)
unfolding qid_at qid_text
qid_again q rest fits end =
    let joined : (decimal q.kind ++ 46 ∷ (decimal q.vers ++ 46 ∷ decimal q.path)) ++ rest ≡ decimal q.kind
    ++ 46 ∷ (decimal q.vers ++ 46 ∷ (decimal q.path ++ rest)) =
    append_assoc (decimal q.kind) (46 ∷ (decimal q.vers ++ 46 ∷ decimal q.path)) rest
    ∙ ap (λ (l : List ℕ). decimal q.kind ++ 46 ∷ l) (append_assoc (decimal q.vers) (46 ∷ decimal q.path) rest)
    in
    ap qid_at joined
    ∙ rw (
      small_again (2 ^ 8) q.kind (46 ∷ (decimal q.vers ++ 46 ∷ (decimal q.path ++ rest))) fits.kind
          (omega (arith, fits.kind)) refl,
      small_again (2 ^ 32) q.vers (46 ∷ (decimal q.path ++ rest)) fits.vers (omega (arith, fits.vers)) refl,
      small_again (2 ^ 64) q.path rest fits.path fits.path end,
    ) refl

pub qid_field_takes : (front bytes : List ℕ) (q : Qid) (rest : List ℕ) → qid_field_at front bytes ≡ Some (q, rest)
    → Takes bytes (qid_field front q) rest × IsQid q
unfolding qid_field_at qid_field
qid_field_takes front bytes q rest e =
    let b = bind_some (after_front front bytes) qid_at (q, rest) e in
    let t = qid_takes b.0 q rest b.2 in
    (takes_then bytes front b.0 (qid_text q) rest (front-is front bytes b.0 b.1) t.0, t.1)

pub qid_field_again : (front : List ℕ) (q : Qid) (rest : List ℕ) → IsQid q → IsEnd rest
    → qid_field_at front (qid_field front q ++ rest) ≡ Some (q, rest)
unfolding qid_field_at qid_field
qid_field_again front q rest fits end =
    ap (λ (l : List ℕ). after_front front l >>= qid_at) (append_assoc front (qid_text q) rest)
    ∙ rw (front_again front (qid_text q ++ rest)) (qid_again q rest fits end)

pub qid_field_last : (front : List ℕ) (q : Qid) → IsQid q → qid_field_at front (qid_field front q) ≡ Some (q, [])
qid_field_last front q fits = ap (qid_field_at front) (sym (append-nil (qid_field front q)))
    ∙ qid_field_again front q [] fits tt

-- ---- lists

-- the laws of one member
abbrev pub OneTakes : {A : Type 0} → (List ℕ → Option (A × List ℕ)) → (A → List ℕ) → (A → Type 0) → Type 0
OneTakes {A} one_at spelled P = (bytes : List ℕ) (x : A) (rest : List ℕ) → one_at bytes ≡ Some (x, rest)
    → Takes bytes (spelled x) rest × P x

abbrev pub OneAgain : {A : Type 0} → (List ℕ → Option (A × List ℕ)) → (A → List ℕ) → (A → Type 0) → Type 0
OneAgain {A} one_at spelled P = (x : A) (rest : List ℕ) → P x → IsEnd rest → one_at (spelled x ++ rest) ≡ Some (x, rest)

several_take : {A : Type 0} (one_at : List ℕ → Option (A × List ℕ)) (spelled : A → List ℕ) (P : A → Type 0)
    → OneTakes one_at spelled P → (n : ℕ) (bytes : List ℕ) (x : List A × List ℕ) → several_at one_at n bytes ≡ Some x
    → Takes bytes (flat_map (blank_and spelled) x.0) x.1 × (length x.0 ≡ n) × AllByRecursion P x.0
unfolding several_at
several_take {A} one_at spelled P one zero bytes x e =
    let made : List A × List ℕ = ([], bytes) in
    subst (λ (y : List A × List ℕ). Takes bytes (flat_map (blank_and spelled) y.0) y.1 × (length y.0 ≡ 0)
    × AllByRecursion P y.0) (some_is made x e) (refl, refl, tt)
several_take {A} one_at spelled P one (suc n) bytes x e =
    let f = bind_some (after_front (32 ∷ []) bytes) (λ rest. one_at rest >>= λ first. several_at one_at n first.1 >>=
    λ others. Some (first.0 ∷ others.0, others.1)) x e in
    let a = bind_some (one_at f.0) (λ first. several_at one_at n first.1 >>=
    λ others. Some (first.0 ∷ others.0, others.1)) x f.2 in
    let b = bind_some (several_at one_at n a.0.1) (λ others. Some (a.0.0 ∷ others.0, others.1)) x a.2 in
    let blank = front-is (32 ∷ []) bytes f.0 f.1 in
    let first = one f.0 a.0.0 a.0.1 a.1 in
    let second = several_take one_at spelled P one n a.0.1 b.0 b.1 in
    let member = takes_then bytes (32 ∷ []) f.0 (spelled a.0.0) a.0.1 blank first.0 in
    let all = takes_then bytes (32 ∷ spelled a.0.0) a.0.1 (flat_map (blank_and spelled) b.0.0) b.0.1 member second.0 in
    let made : List A × List ℕ = (a.0.0 ∷ b.0.0, b.0.1) in
    subst (λ (y : List A × List ℕ). Takes bytes (flat_map (blank_and spelled) y.0) y.1 × (length y.0 ≡ suc n)
    × AllByRecursion P y.0) (some_is made x b.2) (all, ap suc second.1, (first.1, second.2))

members_end : {A : Type 0} (spelled : A → List ℕ) (xs : List A) (rest : List ℕ) → IsEnd rest
    → IsEnd (flat_map (blank_and spelled) xs ++ rest)
members_end spelled [] rest end = end
members_end spelled (x ∷ xs) rest end = refl

several_again : {A : Type 0} (one_at : List ℕ → Option (A × List ℕ)) (spelled : A → List ℕ) (P : A → Type 0)
    → OneAgain one_at spelled P → (xs : List A) (rest : List ℕ) → AllByRecursion P xs → IsEnd rest
    → several_at one_at (length xs) (flat_map (blank_and spelled) xs ++ rest) ≡ Some (xs, rest)
unfolding several_at
several_again one_at spelled P one [] rest fits end = refl
several_again one_at spelled P one (x ∷ xs) rest fits end =
    let others = flat_map (blank_and spelled) xs ++ rest in
    ap (λ (l : List ℕ). several_at one_at (suc (length xs)) (32 ∷ l))
    (append_assoc (spelled x) (flat_map (blank_and spelled) xs) rest)
    ∙ rw (one x others fits.0 (members_end spelled xs rest end), several_again one_at spelled P one xs rest fits.1 end)
    refl

listed_takes : {A : Type 0} (front : List ℕ) (one_at : List ℕ → Option (A × List ℕ)) (spelled : A → List ℕ)
    (P : A → Type 0) → OneTakes one_at spelled P → (bytes : List ℕ) (xs : List A) (rest : List ℕ)
    → listed_at front one_at bytes ≡ Some (xs, rest)
    → Takes bytes (listed front spelled xs) rest × (length xs ≤ 16) × All P xs
unfolding listed_at listed
listed_takes front one_at spelled P one bytes xs rest e =
    let b = bind_some (number_at front 17 bytes) (λ n. several_at one_at n.0 n.1) (xs, rest) e in
    let t = number_takes front 17 bytes b.0.0 b.0.1 b.1 in
    let s = several_take one_at spelled P one b.0.0 b.0.1 (xs, rest) b.2 in
    let all = takes_then bytes (number front b.0.0) b.0.1 (flat_map (blank_and spelled) xs) rest t.0 s.0 in (
      subst (λ (k : ℕ). Takes bytes (number front k ++ flat_map (blank_and spelled) xs) rest) (sym s.1) all,
      omega (arith, s.1, t.1),
      All-from_recursion P xs s.2,
    )

listed_last : {A : Type 0} (front : List ℕ) (one_at : List ℕ → Option (A × List ℕ)) (spelled : A → List ℕ)
    (P : A → Type 0) → OneAgain one_at spelled P → (xs : List A) → length xs ≤ 16 → All P xs
    → listed_at front one_at (listed front spelled xs) ≡ Some (xs, [])
unfolding listed_at listed
listed_last front one_at spelled P one xs few fits =
    let members = flat_map (blank_and spelled) xs in
    let end : IsEnd members = subst IsEnd (append-nil members) (members_end spelled xs [] tt) in
    let read : several_at one_at (length xs) members ≡ Some (xs, []) = ap (several_at one_at (length xs))
    (sym (append-nil members)) ∙ several_again one_at spelled P one xs [] (recursion_from_All P xs fits) tt in
    rw (number_again front 17 (length xs) members (omega (arith, few)) (omega (arith, few)) end) read

pub names_takes : (front bytes : List ℕ) (names : List (List ℕ)) (rest : List ℕ)
    → listed_at front quoted_at bytes ≡ Some (names, rest) → Takes bytes (listed front quoted names) rest
    × AreNames names
names_takes front bytes names rest e =
    let t = listed_takes front quoted_at quoted IsString quoted_takes bytes names rest e in
    (t.0, (t.1, t.2))

pub names_last : (front : List ℕ) (names : List (List ℕ)) → AreNames names
    → listed_at front quoted_at (listed front quoted names) ≡ Some (names, [])
names_last front names fits = listed_last front quoted_at quoted IsString (λ x rest h end. quoted_again x rest h) names
    fits.0 fits.1

pub qids_takes : (front bytes : List ℕ) (qids : List Qid) (rest : List ℕ)
    → listed_at front qid_at bytes ≡ Some (qids, rest) → Takes bytes (listed front qid_text qids) rest
    × (length qids ≤ 16) × All IsQid qids
qids_takes front bytes qids rest e = listed_takes front qid_at qid_text IsQid qid_takes bytes qids rest e

pub qids_last : (front : List ℕ) (qids : List Qid) → length qids ≤ 16 → All IsQid qids
    → listed_at front qid_at (listed front qid_text qids) ≡ Some (qids, [])
qids_last front qids few fits = listed_last front qid_at qid_text IsQid qid_again qids few fits

pub names_stops : (front : List ℕ) (names : List (List ℕ)) → Stops front → Stops (listed front quoted names)
unfolding listed
names_stops front names h = stops_then (number front (length names)) (flat_map (blank_and quoted) names)
    (number_stops front (length names) h)

pub qids_stops : (front : List ℕ) (qids : List Qid) → Stops front → Stops (listed front qid_text qids)
unfolding listed
qids_stops front qids h = stops_then (number front (length qids)) (flat_map (blank_and qid_text) qids)
    (number_stops front (length qids) h)

pub qid_field_stops : (front : List ℕ) (q : Qid) → Stops front → Stops (qid_field front q)
unfolding qid_field
qid_field_stops front q h = stops_then front (qid_text q) h

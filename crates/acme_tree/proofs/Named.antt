-- The entry of a name.
use Rattle.std.proofs.Common.{◌≡◌, ℕ, ◌+◌, ◌<◌, ◌^◌, suc, Bool, true, false, cond, eqb, ltb, List, [], ◌∷◌, ◌++◌, length}
use Rattle.std.proofs.Common.{take, get_or, Option, Some, None, codes, refl, sym, ap, ◌∙◌, arith, inl, inr}
use Rattle.std.specs.Prelude.{map, find, position, All}
use Rattle.std.specs.List.{position_or_len}
use Rattle.std.specs.Fmt.{decimal}
use Rattle.std.specs.Option.{option_map}
use Rattle.std.specs.Str.{bytes_eq}
use Rattle.std.proofs.lemmas.Bool.{eqb-true, eq-eqb, lt-ltb, le-ltb, cases_lt, false_from_ne_true}
use Rattle.std.proofs.lemmas.Bool.Decides.{same_from_decides}
use Rattle.std.proofs.lemmas.Fmt.{decimal_injective}
use Rattle.std.proofs.lemmas.List.{get_or_read, get_or-take, length-take}
use Rattle.std.proofs.lemmas.List.Elements.{All-head, All-tail}
use Rattle.std.proofs.lemmas.List.Sums.{position_or_len_is}
use Rattle.std.proofs.lemmas.Slice.Eq.{bytes_eq-Decides}
use Rattle.acme_tree.specs.declared.node.Node.{Node}
use Rattle.acme_tree.specs.declared.node.Node.TheVariants.{Root, Window, Port}
use Rattle.acme_tree.specs.declared.node.World.{World}
use Rattle.acme_tree.specs.Trees.{name_of, ports_from, root_front, root_entries, plumber_entries, entries}
use Rattle.acme_tree.specs.Walks.{named_in, entry_named}

-- ---- windows

-- a name is the decimal of a window just where it is that of the window's number
same_name : (name : List ℕ) (n w : ℕ) → n < 2 ^ 64 → w < 2 ^ 32 → name ≡ decimal n → eqb w n ≡ bytes_eq name (decimal w)
same_name name n w n-fits w-fits is =
    same_from_decides {P = name ≡ decimal w} (eqb w n) (bytes_eq name (decimal w)) (
      λ e. is ∙ ap decimal (sym (eqb-true w n e)),
      λ (h : name ≡ decimal w). eq-eqb w n
          (decimal_injective w n (omega arith) n-fits (sym h ∙ is)),
    ) (bytes_eq-Decides name (decimal w))

pub windows_named : (name : List ℕ) (n : ℕ) (windows : List ℕ) → n < 2 ^ 64 → All (λ w. w < 2 ^ 32) windows
    → name ≡ decimal n → find (λ w. eqb w n) windows ≡ find (λ w. bytes_eq name (decimal w)) windows
windows_named name n [] n-fits fits is = refl
windows_named name n (w ∷ windows) n-fits fits is =
    rw (same_name name n w n-fits (All-head (λ (v : ℕ). v < 2 ^ 32) w windows fits) is)
    (ap (λ (rest : Option ℕ). cond (bytes_eq name (decimal w)) (Some w) rest)
    (windows_named name n windows n-fits (All-tail (λ (v : ℕ). v < 2 ^ 32) w windows fits) is))

pub no_window_named : (name : List ℕ) (windows : List ℕ) → All (λ w. w < 2 ^ 32) windows
    → ((n : ℕ) → n < 2 ^ 64 → name ≡ decimal n → ⊥) → find (λ w. bytes_eq name (decimal w)) windows ≡ None
no_window_named name [] fits none = refl
no_window_named name (w ∷ windows) fits none =
    let head = All-head (λ (v : ℕ). v < 2 ^ 32) w windows fits in
    let here : bytes_eq name (decimal w) ≡ false = false_from_ne_true (bytes_eq name (decimal w))
    (λ e. none w (omega (arith, head)) ((bytes_eq-Decides name (decimal w)).0 e)) in
    rw here (no_window_named name windows (All-tail (λ (v : ℕ). v < 2 ^ 32) w windows fits) none)

-- ---- entries

pub find-map : {A B : Type 0} (p : B → Bool) (f : A → B) (xs : List A)
    → find p (map f xs) ≡ option_map f (find (λ x. p (f x)) xs)
find-map {A} {B} p f [] = refl
find-map {A} {B} p f (x ∷ xs) =
    elim (p (f x)) as (λ b. cond b (Some (f x)) (find p (map f xs)) ≡ option_map f
    (cond b (Some x) (find (λ y. p (f y)) xs))) [
      | true ↦ refl
      | false ↦ find-map p f xs
    ]

first_passes : {A : Type 0} (p : A → Bool) (x : A) (xs : List A) → p x ≡ true → position p (x ∷ xs) ≡ Some 0
first_passes p x xs e = let lt : ltb 0 (suc (length xs)) ≡ true = lt-ltb 0 (suc (length xs)) (omega arith) in
    rw (e, lt) refl

first_fails : {A : Type 0} (p : A → Bool) (x : A) (xs : List A) → p x ≡ false → position p
    (x ∷ xs) ≡ option_map (λ i. 1 + i) (position p xs)
first_fails p x xs e =
    elim (cases_lt (position_or_len p xs) (length xs)) [
      | inl lt ↦ let here : ltb (1 + position_or_len p xs) (suc (length xs)) ≡ true = lt-ltb _ _ (omega arith) in
          let there : ltb (position_or_len p xs) (length xs) ≡ true = lt-ltb _ _ lt in rw (e, here, there) refl
      | inr le ↦ let here : ltb (1 + position_or_len p xs) (suc (length xs)) ≡ false = le-ltb _ _ (omega arith) in
          let there : ltb (position_or_len p xs) (length xs) ≡ false = le-ltb _ _ le in rw (e, here, there) refl
    ]

position_found : {A : Type 0} (p : A → Bool) (xs : List A) (k : ℕ) (d : A) → k < length xs
    → p (get_or xs k d) ≡ true → ((j : ℕ) → j < k → p (get_or xs j d) ≡ false) → position p xs ≡ Some k
position_found p xs k d lt here before =
    let at : position_or_len p xs ≡ k = position_or_len_is p xs k d (omega arith) before (λ _. here) in
    let within : ltb k (length xs) ≡ true = lt-ltb k (length xs) lt in
    ap (λ (i : ℕ). cond (ltb i (length xs)) (Some i) None) at ∙ rw within refl

position_none : {A : Type 0} (p : A → Bool) (xs : List A) (d : A) →
    ((j : ℕ) → j < length xs → p (get_or xs j d) ≡ false) → position p xs ≡ None
position_none p xs d before =
    let at : position_or_len p xs ≡ length xs = position_or_len_is p xs (length xs) d (omega arith) before
    (λ lt. absurd (omega arith)) in
    let past : ltb (length xs) (length xs) ≡ false = le-ltb (length xs) (length xs) (omega arith) in
    ap (λ (i : ℕ). cond (ltb i (length xs)) (Some i) None) at ∙ rw past refl

pub port_found : (name : List ℕ) (ports : List (List ℕ)) (k : ℕ) (port : List ℕ) → k < length ports
    → port ≡ get_or ports k port → bytes_eq name port ≡ true → ((j : ℕ) → j < k
    → bytes_eq name (get_or ports j []) ≡ false) → position (λ p. bytes_eq name p) ports ≡ Some k
port_found name ports k port lt is here before = position_found (λ p. bytes_eq name p) ports k [] lt
    (ap (λ p. bytes_eq name p) (sym (get_or_read ports k port lt is [])) ∙ here) before

pub port_missing : (name : List ℕ) (ports : List (List ℕ)) → ((j : ℕ) → j < length ports
    → bytes_eq name (get_or ports j []) ≡ false) → position (λ p. bytes_eq name p) ports ≡ None
port_missing name ports before = position_none (λ p. bytes_eq name p) ports [] before

pub port_passed : (name : List ℕ) (ports : List (List ℕ)) (k : ℕ) (port : List ℕ) → k < length ports
    → port ≡ get_or ports k port → bytes_eq name port ≡ false → bytes_eq name (get_or ports k []) ≡ false
port_passed name ports k port lt is here = ap (λ p. bytes_eq name p) (sym (get_or_read ports k port lt is [])) ∙ here

pub ruleset positions = port_passed

-- the ports from a number on
abbrev Port_after : ℕ → ℕ → Node
Port_after k i = Port (k + i)

shifted : (k : ℕ) (o : Option ℕ) → option_map (Port_after (k + 1)) o ≡ option_map (Port_after k)
    (option_map (λ i. 1 + i) o)
shifted k None = refl
shifted k (Some i) = let e : k + 1 + i ≡ k + (1 + i) = omega arith in ap (λ (n : ℕ). Some (Port n)) e

-- a port, and those behind it
port_step : (ports : List (List ℕ)) (name port : List ℕ) (k : ℕ) (names : List (List ℕ)) (b : Bool)
    → bytes_eq name port ≡ b
    → find (λ node. bytes_eq name (name_of ports node)) (ports_from (k + 1) names) ≡ option_map (Port_after (k + 1))
    (position (λ p. bytes_eq name p) names)
    → cond b (Some (Port k)) (find (λ node. bytes_eq name (name_of ports node)) (ports_from (k + 1) names))
    ≡ option_map (Port_after k) (position (λ p. bytes_eq name p) (port ∷ names))
port_step ports name port k names true e later =
    let zero-add : k + 0 ≡ k = omega arith in
    ap (λ (n : ℕ). Some (Port n)) (sym zero-add) ∙ sym (ap (option_map (Port_after k))
    (first_passes (λ p. bytes_eq name p) port names e))
port_step ports name port k names false e later =
    later ∙ shifted k (position (λ p. bytes_eq name p) names) ∙ sym
    (ap (option_map (Port_after k)) (first_fails (λ p. bytes_eq name p) port names e))

pub ports_named : (ports : List (List ℕ)) (name : List ℕ) (k : ℕ) (names : List (List ℕ))
    → ((i : ℕ) → i < length names → get_or ports (k + i) [] ≡ get_or names i [])
    → find (λ node. bytes_eq name (name_of ports node)) (ports_from k names) ≡ option_map (Port_after k)
    (position (λ port. bytes_eq name port) names)
ports_named ports name k [] same = refl
ports_named ports name k (port ∷ names) same =
    let zero-add : k + 0 ≡ k = omega arith in
    let here : get_or ports k [] ≡ port = ap (λ (n : ℕ). get_or ports n []) (sym zero-add) ∙ same 0 (omega arith) in
    let later = ports_named ports name (k + 1) names (λ i lt. let e : k + 1 + i ≡ k + suc i = omega arith in
    ap (λ (n : ℕ). get_or ports n []) e ∙ same (suc i) (omega arith)) in
    ap (λ (l : List ℕ). cond (bytes_eq name l) (Some (Port k)) (find (λ node. bytes_eq name (name_of ports node))
    (ports_from (k + 1) names))) here ∙ port_step ports name port k names (bytes_eq name port) refl later

-- ---- the entries of the two roots

-- the first that passes, of one list and then of another
abbrev or_later : {A : Type 0} → Option A → Option A → Option A
or_later None later = later
or_later (Some a) later = Some a

find-append : {A : Type 0} (p : A → Bool) (xs ys : List A) → find p (xs ++ ys) ≡ or_later (find p xs) (find p ys)
find-append p [] ys = refl
find-append p (x ∷ xs) ys =
    elim (p x) as (λ b. cond b (Some x) (find p (xs ++ ys)) ≡ or_later (cond b (Some x) (find p xs)) (find p ys)) [
      | true ↦ refl
      | false ↦ find-append p xs ys
    ]

-- the front of the root has no ports
front_named : (watched : Bool) (ports : List (List ℕ)) (name : List ℕ)
    → named_in [] (root_front watched) name ≡ named_in ports (root_front watched) name
front_named true ports name = refl
front_named false ports name = refl

-- no entry of the root is a port
root_named : (world : World) (ports : List (List ℕ)) (name : List ℕ)
    → named_in [] (root_entries world) name ≡ named_in ports (root_entries world) name
root_named world ports name =
    let none = find-map (λ node. bytes_eq name (name_of [] node)) Window world.windows in
    let some = find-map (λ node. bytes_eq name (name_of ports node)) Window world.windows in
    find-append (λ node. bytes_eq name (name_of [] node)) (root_front world.watched) (map Window world.windows)
    ∙ ap (λ (o : Option Node). or_later o (named_in [] (map Window world.windows) name))
    (front_named world.watched ports name)
    ∙ ap (or_later (named_in ports (root_front world.watched) name)) (none ∙ sym some)
    ∙ sym (find-append (λ node. bytes_eq name (name_of ports node)) (root_front world.watched)
    (map Window world.windows))

pub in_root : (world : World) (ports : List (List ℕ)) (name : List ℕ) (found : Option Node)
    → found ≡ named_in [] (root_entries world) name → found ≡ entry_named world ports Root name
unfolding entry_named entries
in_root world ports name found is = is ∙ root_named world ports name

-- a file of the front
pub in_root_front : (world : World) (name : List ℕ) (node : Node)
    → Some node ≡ named_in [] (root_front world.watched) name → Some node ≡ named_in [] (root_entries world) name
in_root_front world name node is =
    ap (λ (o : Option Node). or_later o (named_in [] (map Window world.windows) name)) is
    ∙ sym (find-append (λ n. bytes_eq name (name_of [] n)) (root_front world.watched) (map Window world.windows))

-- a window, where no file of the front has the name
pub in_root_rest : (world : World) (name : List ℕ) (found : Option Node)
    → None ≡ named_in [] (root_front world.watched) name
    → found ≡ option_map Window (find (λ w. bytes_eq name (decimal w)) world.windows)
    → found ≡ named_in [] (root_entries world) name
in_root_rest world name found none is =
    is ∙ sym (find-map (λ node. bytes_eq name (name_of [] node)) Window world.windows)
    ∙ ap (λ (o : Option Node). or_later o (named_in [] (map Window world.windows) name)) none
    ∙ sym (find-append (λ n. bytes_eq name (name_of [] n)) (root_front world.watched) (map Window world.windows))

pub ruleset rooted = (in_root_front, in_root_rest)

-- a port that has a number keeps its name
numbered_same : (ports : List (List ℕ)) (i : ℕ) → i < length (take (2 ^ 32) ports)
    → get_or ports (0 + i) [] ≡ get_or (take (2 ^ 32) ports) i []
numbered_same ports i lt =
    let within : i < 2 ^ 32 = omega (arith, length-take (2 ^ 32) ports) in
    let same : 0 + i ≡ i = omega arith in
    ap (λ (n : ℕ). get_or ports n []) same ∙ sym (get_or-take (2 ^ 32) ports i [] within)

from_zero : (o : Option ℕ) → option_map (Port_after 0) o ≡ option_map Port o
from_zero None = refl
from_zero (Some i) = let same : 0 + i ≡ i = omega arith in ap (λ (n : ℕ). Some (Port n)) same

pub in_plumber_rest : (ports : List (List ℕ)) (name : List ℕ) (found : Option Node)
    → bytes_eq name (codes "send") ≡ false → bytes_eq name (codes "rules") ≡ false
    → found ≡ option_map Port (position (λ port. bytes_eq name port) (take (2 ^ 32) ports))
    → found ≡ named_in ports (plumber_entries ports) name
in_plumber_rest ports name found a b is =
    let all = ports_named ports name 0 (take (2 ^ 32) ports) (numbered_same ports) in
    rw (a, b) (is ∙ sym (from_zero (position (λ port. bytes_eq name port) (take (2 ^ 32) ports))) ∙ sym all)

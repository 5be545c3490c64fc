-- What the list of the nodes of a tree tells of the tree.
use Rattle.std.proofs.Common.{◌≡◌, ℕ, ◌+◌, ◌≤◌, ◌||◌, Bool, true, false, List, [], ◌∷◌, ◌++◌, length, map, refl, sym}
use Rattle.std.proofs.Common.{ap, subst, ◌∙◌, append_assoc, append-nil, arith}
use Rattle.re_syntax.specs.Tree.{Tree, tree, Letter, AnyLetter, OneOf, LineStart, LineEnd, Then, Either, Many, Several}
use Rattle.re_syntax.specs.Tree.{Maybe, Group}
use Rattle.re_syntax.specs.Nodes.{Node, Alone, Joined, Chosen, Often, Repeated, Optional, Numbered, node_of, nodes_of}
use Rattle.re_syntax.specs.Nodes.{Builds}
use Rattle.re_sets.specs.Readings.{read_as}
use Rattle.re_sets.specs.Numbers.{letters}
use Rattle.re_machine.specs.Leaves.{leaves_of}
use Rattle.re_machine.specs.Contexts.{has_anchor}
use Rattle.re_machine.specs.Listed.{is_anchor, any_anchor, letter_of, letters_of}
use Rattle.re_machine.specs.Filling.{count}

three : {X : Type 0} (p q : List X) (x : X) (ys : List X) → ((p ++ q) ++ x ∷ []) ++ ys ≡ p ++ (q ++ x ∷ ys)
three p q x ys = append_assoc (p ++ q) (x ∷ []) ys ∙ append_assoc p q (x ∷ ys)

two : {X : Type 0} (p : List X) (x : X) (ys : List X) → (p ++ x ∷ []) ++ ys ≡ p ++ x ∷ ys
two p x ys = append_assoc p (x ∷ []) ys

-- ---- the tree that is built

pub builds_read : (back : Bool) (a : Tree) (xs : List Node) (rs : List Tree) (r : Tree)
    → Builds xs (read_as back a ∷ rs) r → Builds (nodes_of back a ++ xs) rs r
builds_read true (Then a b) xs rs r h =
    subst (λ (z : List Node). Builds z rs r) (sym (three (nodes_of true b) (nodes_of true a) Joined xs))
    (builds_read true b (nodes_of true a ++ Joined ∷ xs) rs r (builds_read true a (Joined ∷ xs)
    (read_as true b ∷ rs) r h))
builds_read false (Then a b) xs rs r h =
    subst (λ (z : List Node). Builds z rs r) (sym (three (nodes_of false a) (nodes_of false b) Joined xs))
    (builds_read false a (nodes_of false b ++ Joined ∷ xs) rs r
    (builds_read false b (Joined ∷ xs) (read_as false a ∷ rs) r h))
builds_read back (Either a b) xs rs r h =
    subst (λ (z : List Node). Builds z rs r) (sym (three (nodes_of back a) (nodes_of back b) Chosen xs))
    (builds_read back a (nodes_of back b ++ Chosen ∷ xs) rs r (builds_read back b (Chosen ∷ xs)
    (read_as back a ∷ rs) r h))
builds_read back (Many a) xs rs r h = subst (λ (z : List Node). Builds z rs r) (sym (two (nodes_of back a) Often xs))
    (builds_read back a (Often ∷ xs) rs r h)
builds_read back (Several a) xs rs r h = subst (λ (z : List Node). Builds z rs r)
    (sym (two (nodes_of back a) Repeated xs)) (builds_read back a (Repeated ∷ xs) rs r h)
builds_read back (Maybe a) xs rs r h = subst (λ (z : List Node). Builds z rs r)
    (sym (two (nodes_of back a) Optional xs)) (builds_read back a (Optional ∷ xs) rs r h)
builds_read back (Group n a) xs rs r h = subst (λ (z : List Node). Builds z rs r)
    (sym (two (nodes_of back a) (Numbered n) xs)) (builds_read back a (Numbered n ∷ xs) rs r h)
builds_read back (Letter c) xs rs r h = h
builds_read back AnyLetter xs rs r h = h
builds_read back (OneOf negated spans) xs rs r h = h
builds_read back LineStart xs rs r h = h
builds_read back LineEnd xs rs r h = h

pub builds_tree : (back : Bool) (a : Tree) (xs : List Node) → xs ≡ nodes_of back a → Builds xs [] (read_as back a)
builds_tree back a xs e = subst (λ (z : List Node). Builds z [] (read_as back a)) (append-nil (nodes_of back a) ∙ sym e)
    (builds_read back a [] [] (read_as back a) refl)

-- no tree of those that are there has more letters than the one that is built
pub builds_count : (xs : List Node) (rs : List Tree) (r : Tree) → Builds xs rs r → count rs ≤ letters r
builds_count [] [] r h = absurd h
builds_count [] (a ∷ []) r h = subst (λ (z : Tree). count (a ∷ []) ≤ letters z) h (omega arith)
builds_count [] (b ∷ a ∷ rs) r h = absurd h
builds_count (Alone a ∷ xs) rs r h = let e = builds_count xs (a ∷ rs) r h in omega (arith, e)
builds_count (Joined ∷ xs) [] r h = absurd h
builds_count (Joined ∷ xs) (b ∷ []) r h = absurd h
builds_count (Joined ∷ xs) (b ∷ a ∷ rs) r h = let e = builds_count xs (Then a b ∷ rs) r h in omega (arith, e)
builds_count (Chosen ∷ xs) [] r h = absurd h
builds_count (Chosen ∷ xs) (b ∷ []) r h = absurd h
builds_count (Chosen ∷ xs) (b ∷ a ∷ rs) r h = let e = builds_count xs (Either a b ∷ rs) r h in omega (arith, e)
builds_count (Often ∷ xs) [] r h = absurd h
builds_count (Often ∷ xs) (a ∷ rs) r h = builds_count xs (Many a ∷ rs) r h
builds_count (Repeated ∷ xs) [] r h = absurd h
builds_count (Repeated ∷ xs) (a ∷ rs) r h = builds_count xs (Several a ∷ rs) r h
builds_count (Optional ∷ xs) [] r h = absurd h
builds_count (Optional ∷ xs) (a ∷ rs) r h = builds_count xs (Maybe a ∷ rs) r h
builds_count (Numbered n ∷ xs) [] r h = absurd h
builds_count (Numbered n ∷ xs) (a ∷ rs) r h = builds_count xs (Group n a ∷ rs) r h

-- ---- anchors

kept : (p q r : Bool) → (p || (q || r)) ≡ ((p || q) || r)
kept true q r = refl
kept false q r = refl

anchor_read : (back : Bool) (a : Tree) (xs : List Node) → any_anchor (nodes_of back a ++ xs)
    ≡ (has_anchor (read_as back a) || any_anchor xs)
anchor_read true (Then a b) xs =
    ap any_anchor (three (nodes_of true b) (nodes_of true a) Joined xs)
    ∙ anchor_read true b (nodes_of true a ++ Joined ∷ xs) ∙ ap (λ (z : Bool). has_anchor (read_as true b) || z)
    (anchor_read true a (Joined ∷ xs)) ∙ kept (has_anchor (read_as true b)) (has_anchor (read_as true a))
    (any_anchor xs)
anchor_read false (Then a b) xs =
    ap any_anchor (three (nodes_of false a) (nodes_of false b) Joined xs)
    ∙ anchor_read false a (nodes_of false b ++ Joined ∷ xs) ∙ ap (λ (z : Bool). has_anchor (read_as false a) || z)
    (anchor_read false b (Joined ∷ xs)) ∙ kept (has_anchor (read_as false a)) (has_anchor (read_as false b))
    (any_anchor xs)
anchor_read back (Either a b) xs =
    ap any_anchor (three (nodes_of back a) (nodes_of back b) Chosen xs)
    ∙ anchor_read back a (nodes_of back b ++ Chosen ∷ xs) ∙ ap (λ (z : Bool). has_anchor (read_as back a) || z)
    (anchor_read back b (Chosen ∷ xs)) ∙ kept (has_anchor (read_as back a)) (has_anchor (read_as back b))
    (any_anchor xs)
anchor_read back (Many a) xs = ap any_anchor (two (nodes_of back a) Often xs) ∙ anchor_read back a (Often ∷ xs)
anchor_read back (Several a) xs = ap any_anchor (two (nodes_of back a) Repeated xs) ∙ anchor_read back a (Repeated ∷ xs)
anchor_read back (Maybe a) xs = ap any_anchor (two (nodes_of back a) Optional xs) ∙ anchor_read back a (Optional ∷ xs)
anchor_read back (Group n a) xs = ap any_anchor (two (nodes_of back a) (Numbered n) xs)
    ∙ anchor_read back a (Numbered n ∷ xs)
anchor_read back (Letter c) xs = refl
anchor_read back AnyLetter xs = refl
anchor_read back (OneOf negated spans) xs = refl
anchor_read back LineStart xs = refl
anchor_read back LineEnd xs = refl

or_false : (b : Bool) → (b || false) ≡ b
or_false true = refl
or_false false = refl

pub anchor_tree : (back : Bool) (a : Tree) (xs : List Node) → xs ≡ nodes_of back a
    → any_anchor xs ≡ has_anchor (read_as back a)
anchor_tree back a xs e = ap any_anchor (e ∙ sym (append-nil (nodes_of back a))) ∙ anchor_read back a []
    ∙ or_false (has_anchor (read_as back a))

-- ---- letters

letters_read : (back : Bool) (a : Tree) (xs : List Node) → letters_of (nodes_of back a ++ xs)
    ≡ leaves_of (read_as back a) ++ letters_of xs
letters_read true (Then a b) xs =
    ap letters_of (three (nodes_of true b) (nodes_of true a) Joined xs)
    ∙ letters_read true b (nodes_of true a ++ Joined ∷ xs) ∙ ap (λ (z : List Tree). leaves_of (read_as true b) ++ z)
    (letters_read true a (Joined ∷ xs)) ∙ sym (append_assoc (leaves_of (read_as true b))
    (leaves_of (read_as true a)) (letters_of xs))
letters_read false (Then a b) xs =
    ap letters_of (three (nodes_of false a) (nodes_of false b) Joined xs)
    ∙ letters_read false a (nodes_of false b ++ Joined ∷ xs) ∙ ap (λ (z : List Tree). leaves_of (read_as false a)
    ++ z) (letters_read false b (Joined ∷ xs)) ∙ sym (append_assoc (leaves_of (read_as false a))
    (leaves_of (read_as false b)) (letters_of xs))
letters_read back (Either a b) xs =
    ap letters_of (three (nodes_of back a) (nodes_of back b) Chosen xs)
    ∙ letters_read back a (nodes_of back b ++ Chosen ∷ xs) ∙ ap (λ (z : List Tree). leaves_of (read_as back a) ++ z)
    (letters_read back b (Chosen ∷ xs)) ∙ sym (append_assoc (leaves_of (read_as back a))
    (leaves_of (read_as back b)) (letters_of xs))
letters_read back (Many a) xs = ap letters_of (two (nodes_of back a) Often xs) ∙ letters_read back a (Often ∷ xs)
letters_read back (Several a) xs = ap letters_of (two (nodes_of back a) Repeated xs)
    ∙ letters_read back a (Repeated ∷ xs)
letters_read back (Maybe a) xs = ap letters_of (two (nodes_of back a) Optional xs) ∙ letters_read back a (Optional ∷ xs)
letters_read back (Group n a) xs = ap letters_of (two (nodes_of back a) (Numbered n) xs)
    ∙ letters_read back a (Numbered n ∷ xs)
letters_read back (Letter c) xs = refl
letters_read back AnyLetter xs = refl
letters_read back (OneOf negated spans) xs = refl
letters_read back LineStart xs = refl
letters_read back LineEnd xs = refl

pub letters_tree : (back : Bool) (a : Tree) (xs : List Node) → xs ≡ nodes_of back a
    → letters_of xs ≡ leaves_of (read_as back a)
letters_tree back a xs e = ap letters_of (e ∙ sym (append-nil (nodes_of back a))) ∙ letters_read back a []
    ∙ append-nil (leaves_of (read_as back a))

-- ---- loops over the nodes

pub anchor_found : (xs d ds : List Node) (y : Node) → d ≡ y ∷ ds → is_anchor y ≡ true → any_anchor d ≡ any_anchor xs
    → true ≡ any_anchor xs
anchor_found xs d ds y e t h = sym (ap any_anchor e ∙ ap (λ (b : Bool). b || any_anchor ds) t) ∙ h

pub anchor_passed : (xs d ds : List Node) (y : Node) → d ≡ y ∷ ds → is_anchor y ≡ false → any_anchor d ≡ any_anchor xs
    → any_anchor ds ≡ any_anchor xs
anchor_passed xs d ds y e t h = sym (ap any_anchor e ∙ ap (λ (b : Bool). b || any_anchor ds) t) ∙ h

pub letters_more : (a b : List Tree) (xs d ds : List Node) (y : Node) → d ≡ y ∷ ds → b ≡ a ++ letter_of y
    → a ++ letters_of d ≡ letters_of xs → b ++ letters_of ds ≡ letters_of xs
letters_more a b xs d ds y e f h = ap (λ (z : List Tree). z ++ letters_of ds) f
    ∙ append_assoc a (letter_of y) (letters_of ds) ∙ sym (ap (λ (z : List Node). a ++ letters_of z) e) ∙ h

pub letters_done : (a : List Tree) (xs d : List Node) → d ≡ [] → a ++ letters_of d ≡ letters_of xs → a ≡ letters_of xs
letters_done a xs d e h = sym (append-nil a) ∙ sym (ap (λ (z : List Node). a ++ letters_of z) e) ∙ h

pub builds_one : (rs : List Tree) (a : Tree) (more : List Tree) (r : Tree) → rs ≡ a ∷ more → Builds [] rs r → a ≡ r
builds_one rs a [] r e h = subst (λ (z : List Tree). Builds [] z r) e h
builds_one rs a (b ∷ more) r e h = absurd (subst (λ (z : List Tree). Builds [] z r) e h)

pub builds_some : (rs : List Tree) (r : Tree) → rs ≡ [] → Builds [] rs r → ⊥
builds_some rs r e h = subst (λ (z : List Tree). Builds [] z r) e h

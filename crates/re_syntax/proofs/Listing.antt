-- The nodes of trees are listed one after another.
use Rattle.std.proofs.Common.{◌≡◌, ℕ, ◌+◌, ◌<◌, Bool, true, false, List, [], ◌∷◌, ◌++◌, refl, sym, ap, ◌∙◌}
use Rattle.std.proofs.Common.{append_assoc, arith}
use Rattle.re_syntax.specs.Tree.{Tree, Letter, AnyLetter, OneOf, LineStart, LineEnd, Then, Either, Many, Several, Maybe}
use Rattle.re_syntax.specs.Tree.{Group, nodes}
use Rattle.re_syntax.specs.Nodes.{Node, node_of, nodes_of, nodes_of_all, parts_before}

-- how many nodes trees have
abbrev pub total : List Tree → ℕ
total [] = 0
total (r ∷ rs) = nodes r + total rs

behind_none : (xs : List Node) (x : Node) (ys : List Node) → (xs ++ x ∷ []) ++ ys ≡ xs ++ x ∷ ys
behind_none xs x ys = append_assoc xs (x ∷ []) ys

behind_one : (xs p : List Node) (x : Node) (ys : List Node) → (xs ++ (p ++ x ∷ [])) ++ ys ≡ (xs ++ p) ++ x ∷ ys
behind_one xs p x ys = ap (λ (z : List Node). z ++ ys) (sym (append_assoc xs p (x ∷ [])))
    ∙ append_assoc (xs ++ p) (x ∷ []) ys

behind_two : (xs p q : List Node) (x : Node) (ys : List Node) → (xs ++ ((p ++ q) ++ x ∷ [])) ++ ys ≡ ((xs ++ p) ++ q)
    ++ x ∷ ys
behind_two xs p q x ys = behind_one xs (p ++ q) x ys ∙ ap (λ (z : List Node). z ++ x ∷ ys) (sym (append_assoc xs p q))

-- a node more is listed, and its parts are to be
pub listed_more : (back : Bool) (r : Tree) (rs : List Tree) (ys : List Node) → nodes_of_all back (r ∷ rs)
    ++ ys ≡ nodes_of_all back (parts_before back r rs) ++ node_of r ∷ ys
listed_more true (Then a b) rs ys = behind_two (nodes_of_all true rs) (nodes_of true b) (nodes_of true a)
    (node_of (Then a b)) ys
listed_more false (Then a b) rs ys = behind_two (nodes_of_all false rs) (nodes_of false a) (nodes_of false b)
    (node_of (Then a b)) ys
listed_more back (Either a b) rs ys = behind_two (nodes_of_all back rs) (nodes_of back a) (nodes_of back b)
    (node_of (Either a b)) ys
listed_more back (Many a) rs ys = behind_one (nodes_of_all back rs) (nodes_of back a) (node_of (Many a)) ys
listed_more back (Several a) rs ys = behind_one (nodes_of_all back rs) (nodes_of back a) (node_of (Several a)) ys
listed_more back (Maybe a) rs ys = behind_one (nodes_of_all back rs) (nodes_of back a) (node_of (Maybe a)) ys
listed_more back (Group n a) rs ys = behind_one (nodes_of_all back rs) (nodes_of back a) (node_of (Group n a)) ys
listed_more back (Letter c) rs ys = behind_none (nodes_of_all back rs) (node_of (Letter c)) ys
listed_more back AnyLetter rs ys = behind_none (nodes_of_all back rs) (node_of AnyLetter) ys
listed_more back (OneOf negated spans) rs ys = behind_none (nodes_of_all back rs) (node_of (OneOf negated spans)) ys
listed_more back LineStart rs ys = behind_none (nodes_of_all back rs) (node_of LineStart) ys
listed_more back LineEnd rs ys = behind_none (nodes_of_all back rs) (node_of LineEnd) ys

-- fewer nodes are left
pub fewer_left : (back : Bool) (r : Tree) (rs : List Tree) → total (parts_before back r rs) < total (r ∷ rs)
fewer_left true (Then a b) rs = omega arith
fewer_left false (Then a b) rs = omega arith
fewer_left back (Either a b) rs = omega arith
fewer_left back (Many a) rs = omega arith
fewer_left back (Several a) rs = omega arith
fewer_left back (Maybe a) rs = omega arith
fewer_left back (Group n a) rs = omega arith
fewer_left back (Letter c) rs = omega arith
fewer_left back AnyLetter rs = omega arith
fewer_left back (OneOf negated spans) rs = omega arith
fewer_left back LineStart rs = omega arith
fewer_left back LineEnd rs = omega arith

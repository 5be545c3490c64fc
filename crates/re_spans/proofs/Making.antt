-- The nodes of a tree make its marks.
use Rattle.std.proofs.Common.{◌≡◌, false, List, [], ◌∷◌, ◌++◌, refl, ap, ◌∙◌}
use Rattle.re_syntax.specs.Tree.{Tree, Letter, AnyLetter, OneOf, LineStart, LineEnd, Then, Either, Many, Several, Maybe}
use Rattle.re_syntax.specs.Tree.{Group}
use Rattle.re_syntax.specs.Nodes.{Node, Joined, Chosen, Often, Repeated, Optional, Numbered, nodes_of}
use Rattle.re_spans.specs.Fresh.{with_node, with_nodes}
use Rattle.re_spans.specs.Marks.{Marking, fresh}
use Rattle.re_spans.specs.declared.leaf.Here.{Here}
use Rattle.re_spans.specs.declared.way.Way.{Way}

module _ (way : Way) (here : Here) where
  -- nodes one after another
  joined : (xs ys : List Node) (made : List Marking) → with_nodes way here (xs ++ ys) made ≡ with_nodes way here ys
      (with_nodes way here xs made)
  joined [] ys made = refl
  joined (x ∷ xs) ys made = joined xs ys (with_node way here x made)

  wrapped : (r : Tree) (x : Node) (made : List Marking) → with_nodes way here (nodes_of false r) made ≡ fresh way r
      here ∷ made → with_nodes way here (nodes_of false r ++ x ∷ []) made ≡ with_node way here x
      (fresh way r here ∷ made)
  wrapped r x made e = joined (nodes_of false r) (x ∷ []) made ∙ ap (with_node way here x) e

  paired : (a b : Tree) (x : Node) (made : List Marking) → with_nodes way here (nodes_of false a) made ≡ fresh way a
      here ∷ made → with_nodes way here (nodes_of false b) (fresh way a here ∷ made) ≡ fresh way b here ∷ fresh way a
      here ∷ made → with_nodes way here ((nodes_of false a ++ nodes_of false b) ++ x ∷ []) made ≡ with_node way here x
      (fresh way b here ∷ fresh way a here ∷ made)
  paired a b x made e f =
      joined (nodes_of false a ++ nodes_of false b) (x ∷ []) made
      ∙ ap (with_node way here x) (joined (nodes_of false a) (nodes_of false b) made
      ∙ ap (with_nodes way here (nodes_of false b)) e ∙ f)

  pub made_of : (r : Tree) (made : List Marking) → with_nodes way here (nodes_of false r) made ≡ fresh way r here ∷ made
  made_of (Then a b) made = paired a b Joined made (made_of a made) (made_of b (fresh way a here ∷ made))
  made_of (Either a b) made = paired a b Chosen made (made_of a made) (made_of b (fresh way a here ∷ made))
  made_of (Many a) made = wrapped a Often made (made_of a made)
  made_of (Several a) made = wrapped a Repeated made (made_of a made)
  made_of (Maybe a) made = wrapped a Optional made (made_of a made)
  made_of (Group n a) made = wrapped a (Numbered n) made (made_of a made)
  made_of (Letter c) made = refl
  made_of AnyLetter made = refl
  made_of (OneOf negated spans) made = refl
  made_of LineStart made = refl
  made_of LineEnd made = refl

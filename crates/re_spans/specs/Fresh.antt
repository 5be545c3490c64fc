-- How the marks of a tree are made, node by node. No public contract needs this.
use Rattle.std.specs.Prelude.{Bool, true, false, List, [], ◌∷◌}
use Rattle.re_syntax.specs.Nodes.{Node, Alone, Joined, Chosen, Often, Repeated, Optional, Numbered}
use Rattle.re_spans.specs.Marks.{Marking, OfLeaf, pair, either, leaf_mark, with_part, with_pair}
use Rattle.re_spans.specs.declared.leaf.Here.{Here}
use Rattle.re_spans.specs.declared.marks.Joint.{Joint}
use Rattle.re_spans.specs.declared.marks.Joint.TheVariants.{Cat, Alt}
use Rattle.re_spans.specs.declared.marks.Mark.{Mark}
use Rattle.re_spans.specs.declared.way.Way.{Way}

-- the mark of two parts
abbrev pub both : Joint → Mark → Mark → Mark
both (Cat way) = pair way
both Alt = either

-- the marks over the last ones
abbrev pub with_last : Bool → List Marking → List Marking
with_last optional [] = []
with_last optional (s ∷ made) = with_part s optional ∷ made

-- the marks over the last two
abbrev pub with_last_two : Joint → List Marking → List Marking
with_last_two joint [] = []
with_last_two joint (u ∷ []) = []
with_last_two joint (u ∷ s ∷ made) = with_pair (both joint) s u ∷ made

-- the marks of a node over those of its parts, which were made last
abbrev pub with_node : Way → Here → Node → List Marking → List Marking
with_node way here (Alone r) made = OfLeaf (leaf_mark r here false) ∷ made
with_node way here Joined made = with_last_two (Cat way) made
with_node way here Chosen made = with_last_two Alt made
with_node way here Often made = with_last true made
with_node way here Repeated made = with_last false made
with_node way here Optional made = with_last true made
with_node way here (Numbered n) made = with_last false made

-- the marks of nodes one after another
abbrev pub with_nodes : Way → Here → List Node → List Marking → List Marking
with_nodes way here [] made = made
with_nodes way here (x ∷ xs) made = with_nodes way here xs (with_node way here x made)

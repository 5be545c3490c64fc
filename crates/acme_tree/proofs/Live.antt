-- What is live, and what a directory lists, has a name.
use Rattle.std.proofs.Common.{◌≡◌, ℕ, ◌+◌, ◌≤◌, ◌^◌, Bool, true, false, List, [], ◌∷◌, ◌++◌, length, take}
use Rattle.std.proofs.Common.{arith}
use Rattle.std.specs.Prelude.{All, map}
use Rattle.std.proofs.lemmas.Bool.{ltb-true}
use Rattle.std.proofs.lemmas.List.{length-take}
use Rattle.std.proofs.lemmas.List.Elements.{All-nil, All-cons, All-map, All-from_recursion, recursion_from_All}
use Rattle.acme_tree.specs.declared.node.Node.{Node}
use Rattle.acme_tree.specs.declared.node.Node.TheVariants.{Root, Cons, ConsCtl, Index, Jobs, Label, Log, NewDir}
use Rattle.acme_tree.specs.declared.node.Node.TheVariants.{Window, File, PlumbRoot, Send, Rules, Port}
use Rattle.acme_tree.specs.declared.node.World.{World}
use Rattle.acme_tree.specs.Trees.{IsNamed, is_live, ports_from, root_front, entries}

pub live_named : (world : World) (ports : List (List ℕ)) (node : Node)
    → is_live world ports node ≡ true → IsNamed ports node
live_named world ports Root h = tt
live_named world ports Cons h = tt
live_named world ports ConsCtl h = tt
live_named world ports Index h = tt
live_named world ports Jobs h = tt
live_named world ports Label h = tt
live_named world ports Log h = tt
live_named world ports NewDir h = tt
live_named world ports (Window w) h = tt
live_named world ports (File w file) h = tt
live_named world ports PlumbRoot h = tt
live_named world ports Send h = tt
live_named world ports Rules h = tt
live_named world ports (Port k) h = ltb-true k (length ports) h

windows_named : (ports : List (List ℕ)) (windows : List ℕ) → All (IsNamed ports) (map Window windows)
windows_named ports windows = All-map (IsNamed ports) Window windows (λ k d lt. tt)

ports_named : (ports : List (List ℕ)) (k : ℕ) (names : List (List ℕ)) → k + length names ≤ length ports
    → All (IsNamed ports) (ports_from k names)
ports_named ports k [] le = All-nil (IsNamed ports)
ports_named ports k (name ∷ names) le = All-cons (IsNamed ports) (Port k) (ports_from (k + 1) names) (omega arith)
    (ports_named ports (k + 1) names (omega arith))

-- what the root lists has names
root_named : (ports : List (List ℕ)) (watched : Bool) (windows : List ℕ)
    → All (IsNamed ports) (root_front watched ++ map Window windows)
root_named ports false windows = All-from_recursion (IsNamed ports) (root_front false ++ map Window windows)
    (tt, (tt, (tt, (tt, (tt, recursion_from_All (IsNamed ports) (map Window windows) (windows_named ports windows))))))
root_named ports true windows = All-from_recursion (IsNamed ports) (root_front true ++ map Window windows) (
  tt,
  (
    tt,
    (
      tt,
      (
        tt,
        (
          tt,
          (
            tt,
            (
              tt,
              recursion_from_All (IsNamed ports) (map Window windows)
                  (windows_named ports windows),
            ),
          ),
        ),
      ),
    ),
  ),
)

pub entries_named : (world : World) (ports : List (List ℕ)) (dir : Node) → All (IsNamed ports) (entries world ports dir)
unfolding entries
entries_named world ports Root = root_named ports world.watched world.windows
entries_named world ports (Window w) = All-from_recursion (IsNamed ports) (entries world ports (Window w))
    (tt, (tt, (tt, (tt, (tt, (tt, (tt, (tt, tt))))))))
entries_named world ports PlumbRoot =
    let named : List (List ℕ) = take (2 ^ 32) ports in
    All-from_recursion (IsNamed ports) (entries world ports PlumbRoot) (
      tt,
      (
        tt,
        recursion_from_All (IsNamed ports) (ports_from 0 named)
            (ports_named ports 0 named (omega (arith, length-take (2 ^ 32) ports))),
      ),
    )
entries_named world ports node = All-nil (IsNamed ports)

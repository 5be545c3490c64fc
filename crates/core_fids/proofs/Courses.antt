-- Courses: qids that were found before, and where a window may be made.
use Rattle.std.proofs.Common.{◌≡◌, ℕ, Bool, true, false, cond, not, List, [], ◌∷◌, ◌++◌, length, Option, Some, None}
use Rattle.std.proofs.Common.{refl, ap, sym, ◌∙◌, append_assoc}
use Rattle.std.specs.Prelude.{codes}
use Rattle.std.specs.Str.{bytes_eq}
use Rattle.std.proofs.lemmas.List.{append-nil}
use Rattle.ninep_types.specs.declared.message.Qid.{Qid}
use Rattle.acme_tree.specs.declared.node.Node.{Node}
use Rattle.acme_tree.specs.declared.node.Node.TheVariants as node
use Rattle.acme_tree.specs.declared.node.WinFile.{WinFile}
use Rattle.acme_tree.specs.declared.node.World.{World}
use Rattle.acme_tree.specs.declared.walk.Step.{Step}
use Rattle.acme_tree.specs.declared.walk.Step.TheVariants as step
use Rattle.acme_tree.specs.Trees.{world_is_full, is_dir, is_live}
use Rattle.acme_tree.specs.Walks.{walk_one, above, below, to_new, to_entry, file_named, entry_named}
use Rattle.core_fids.specs.declared.walking.Course.{Course}
use Rattle.core_fids.specs.Walking.{then_qid}

-- the qids of the names before
abbrev pub then_qids : List Qid → Course → Course
then_qids qids course = record { qids = qids ++ course.qids; end = course.end }

pub one_more : (qids : List Qid) (qid : Qid) (t : Course) → then_qids (qids ++ qid ∷ []) t ≡ then_qids qids
    (then_qid qid t)
one_more qids qid t = ap (λ (l : List Qid). record { qids = l; end = t.end }) (append_assoc qids (qid ∷ []) t.qids)

pub no_more : (qids : List Qid) → qids ++ [] ≡ qids
no_more qids = append-nil qids

-- ---- a window is made only where one more may live

abbrev MayStep : World → Step → Type 0
MayStep world (step.Found n) = Unit {0}
MayStep world (step.Make file) = world_is_full world ≡ false
MayStep world step.NotFound = Unit {0}
MayStep world step.NotDir = Unit {0}
MayStep world step.Deleted = Unit {0}
MayStep world step.Windows = Unit {0}

may_entry : (world : World) (o : Option Node) → MayStep world (to_entry o)
may_entry world None = tt
may_entry world (Some n) = tt

may_if_last : (world : World) (file : WinFile) (full : Bool) → world_is_full world ≡ full → (last : Bool)
    → MayStep world (cond last (cond full step.Windows (step.Make file)) step.NotFound)
may_if_last world file full e false = tt
may_if_last world file true e true = tt
may_if_last world file false e true = e

may_new : (world : World) (last : Bool) (o : Option WinFile) → MayStep world (to_new world last o)
may_new world last None = tt
may_new world last (Some file) = may_if_last world file (world_is_full world) refl last

may_below : (world : World) (ports : List (List ℕ)) (n : Node) (name : List ℕ) (last : Bool)
    → MayStep world (below world ports n name last)
may_below world ports node.Root name last = may_entry world (entry_named world ports node.Root name)
may_below world ports node.Cons name last = may_entry world (entry_named world ports node.Cons name)
may_below world ports node.ConsCtl name last = may_entry world (entry_named world ports node.ConsCtl name)
may_below world ports node.Index name last = may_entry world (entry_named world ports node.Index name)
may_below world ports node.Label name last = may_entry world (entry_named world ports node.Label name)
may_below world ports node.NewDir name last = may_new world last (file_named name)
may_below world ports (node.Window w) name last = may_entry world (entry_named world ports (node.Window w) name)
may_below world ports (node.File w file) name last = may_entry world (entry_named world ports (node.File w file) name)
may_below world ports node.PlumbRoot name last = may_entry world (entry_named world ports node.PlumbRoot name)
may_below world ports node.Send name last = may_entry world (entry_named world ports node.Send name)
may_below world ports node.Rules name last = may_entry world (entry_named world ports node.Rules name)
may_below world ports (node.Port k) name last = may_entry world (entry_named world ports (node.Port k) name)
may_below world ports node.Log name last = may_entry world (entry_named world ports node.Log name)
may_below world ports node.Jobs name last = may_entry world (entry_named world ports node.Jobs name)

may_either : (world : World) (t : Bool) (a b : Step) → MayStep world a → MayStep world b → MayStep world (cond t a b)
may_either world true a b h k = h
may_either world false a b h k = k

may_walk : (world : World) (ports : List (List ℕ)) (n : Node) (name : List ℕ) (last : Bool)
    → MayStep world (walk_one world ports n name last)
unfolding walk_one
may_walk world ports n name last =
    may_either world (not (is_dir n)) step.NotDir _ tt
    (may_either world (not (is_live world ports n)) step.Deleted _ tt
    (may_either world (bytes_eq name (codes "..")) (step.Found (above n)) _ tt (may_below world ports n name last)))

may_made : (world : World) (s : Step) (file : WinFile) → s ≡ step.Make file → MayStep world s
    → world_is_full world ≡ false
may_made world (step.Found n) file e h = absurd cc
may_made world (step.Make other) file e h = h
may_made world step.NotFound file e h = absurd cc
may_made world step.NotDir file e h = absurd cc
may_made world step.Deleted file e h = absurd cc
may_made world step.Windows file e h = absurd cc

pub makes_in_room : (world : World) (ports : List (List ℕ)) (n : Node) (name : List ℕ) (last : Bool) (file : WinFile)
    → walk_one world ports n name last ≡ step.Make file → world_is_full world ≡ false
makes_in_room world ports n name last file e = may_made world (walk_one world ports n name last) file e
    (may_walk world ports n name last)

pub ruleset courses = (one_more, no_more, append_assoc, append-nil, makes_in_room)

-- Which kind of file an opening is of: no fid has one of two kinds.
use Rattle.std.proofs.Common.{◌≡◌, ◌⊎◌, inl, inr, ℕ, Bool, true, false, cond, Option, Some, None, refl, sym, ap}
use Rattle.std.proofs.Common.{◌∙◌}
use Rattle.acme_tree.specs.declared.node.Node.{Node}
use Rattle.acme_tree.specs.declared.node.Node.TheVariants as node
use Rattle.acme_tree.specs.declared.node.WinFile.TheVariants as file
use Rattle.acme_watch.specs.Reads.{same_file}
use Rattle.acme_watch.specs.declared.types.WatchFile.{WatchFile}
use Rattle.acme_watch.specs.declared.types.WatchFile.TheVariants.{Log, Jobs}
use Rattle.fid_table.specs.declared.types.Fid.{Fid}
use Rattle.core_fids.specs.Contents.{content_of}
use Rattle.core_fids.specs.declared.content.Content.TheVariants as content
use Rattle.core_fids.specs.declared.effect.WatchOpening.{WatchOpening}
use Rattle.core_fids.specs.Fids.{at_event, at_port, at_watch, opening_on, event_opening, port_opening, watch_opening}
use Rattle.core_laws.specs.Waits.{opening_by}

-- ---- openings of fids

-- an opening of an event file, or of a port, is the fid's
pub of_event : (node : Node) (o : Option ℕ) (x : ℕ) → at_event node o ≡ Some x → o ≡ Some x
of_event node.Root o x h = absurd cc
of_event node.Cons o x h = absurd cc
of_event node.ConsCtl o x h = absurd cc
of_event node.Index o x h = absurd cc
of_event node.Jobs o x h = absurd cc
of_event node.Label o x h = absurd cc
of_event node.Log o x h = absurd cc
of_event node.NewDir o x h = absurd cc
of_event node.PlumbRoot o x h = absurd cc
of_event node.Send o x h = absurd cc
of_event node.Rules o x h = absurd cc
of_event (node.Window w) o x h = absurd cc
of_event (node.Port k) o x h = absurd cc
of_event (node.File w file.Addr) o x h = absurd cc
of_event (node.File w file.Body) o x h = absurd cc
of_event (node.File w file.Ctl) o x h = absurd cc
of_event (node.File w file.Data) o x h = absurd cc
of_event (node.File w file.Errors) o x h = absurd cc
of_event (node.File w file.Event) o x h = h
of_event (node.File w file.Tag) o x h = absurd cc
of_event (node.File w file.Xdata) o x h = absurd cc

pub of_port : (node : Node) (o : Option ℕ) (x : ℕ) → at_port node o ≡ Some x → o ≡ Some x
of_port node.Root o x h = absurd cc
of_port node.Cons o x h = absurd cc
of_port node.ConsCtl o x h = absurd cc
of_port node.Index o x h = absurd cc
of_port node.Jobs o x h = absurd cc
of_port node.Label o x h = absurd cc
of_port node.Log o x h = absurd cc
of_port node.NewDir o x h = absurd cc
of_port node.PlumbRoot o x h = absurd cc
of_port node.Send o x h = absurd cc
of_port node.Rules o x h = absurd cc
of_port (node.Window w) o x h = absurd cc
of_port (node.Port k) o x h = h
of_port (node.File w file.Addr) o x h = absurd cc
of_port (node.File w file.Body) o x h = absurd cc
of_port (node.File w file.Ctl) o x h = absurd cc
of_port (node.File w file.Data) o x h = absurd cc
of_port (node.File w file.Errors) o x h = absurd cc
of_port (node.File w file.Event) o x h = absurd cc
of_port (node.File w file.Tag) o x h = absurd cc
of_port (node.File w file.Xdata) o x h = absurd cc

on_file : (file : WatchFile) (o : Option ℕ) (x : WatchOpening) → opening_on file o ≡ Some x
    → (o ≡ Some x.opening) × (file ≡ x.file)
on_file file None x h = absurd cc
on_file file (Some n) x h = let same : ◌≡◌ {A = WatchOpening} (record { file = file; opening = n }) x = cc in
    (ap (λ (y : WatchOpening). Some y.opening) same, ap (λ (y : WatchOpening). y.file) same)

-- an opening of `log` or of `jobs` is the fid's
pub of_watch : (node : Node) (o : Option ℕ) (x : WatchOpening) → at_watch node o ≡ Some x → o ≡ Some x.opening
of_watch node.Root o x h = absurd cc
of_watch node.Cons o x h = absurd cc
of_watch node.ConsCtl o x h = absurd cc
of_watch node.Index o x h = absurd cc
of_watch node.Jobs o x h = (on_file Jobs o x h).0
of_watch node.Label o x h = absurd cc
of_watch node.Log o x h = (on_file Log o x h).0
of_watch node.NewDir o x h = absurd cc
of_watch node.PlumbRoot o x h = absurd cc
of_watch node.Send o x h = absurd cc
of_watch node.Rules o x h = absurd cc
of_watch (node.Window w) o x h = absurd cc
of_watch (node.Port k) o x h = absurd cc
of_watch (node.File w file.Addr) o x h = absurd cc
of_watch (node.File w file.Body) o x h = absurd cc
of_watch (node.File w file.Ctl) o x h = absurd cc
of_watch (node.File w file.Data) o x h = absurd cc
of_watch (node.File w file.Errors) o x h = absurd cc
of_watch (node.File w file.Event) o x h = absurd cc
of_watch (node.File w file.Tag) o x h = absurd cc
of_watch (node.File w file.Xdata) o x h = absurd cc

-- ---- the nodes of openings

pub event_node : (n : Node) (o : Option ℕ) (x : ℕ) → at_event n o ≡ Some x → (w : ℕ) × (n ≡ node.File w file.Event)
event_node node.Root o x h = absurd cc
event_node node.Cons o x h = absurd cc
event_node node.ConsCtl o x h = absurd cc
event_node node.Index o x h = absurd cc
event_node node.Jobs o x h = absurd cc
event_node node.Label o x h = absurd cc
event_node node.Log o x h = absurd cc
event_node node.NewDir o x h = absurd cc
event_node node.PlumbRoot o x h = absurd cc
event_node node.Send o x h = absurd cc
event_node node.Rules o x h = absurd cc
event_node (node.Window w) o x h = absurd cc
event_node (node.Port k) o x h = absurd cc
event_node (node.File w file.Addr) o x h = absurd cc
event_node (node.File w file.Body) o x h = absurd cc
event_node (node.File w file.Ctl) o x h = absurd cc
event_node (node.File w file.Data) o x h = absurd cc
event_node (node.File w file.Errors) o x h = absurd cc
event_node (node.File w file.Event) o x h = (w, refl)
event_node (node.File w file.Tag) o x h = absurd cc
event_node (node.File w file.Xdata) o x h = absurd cc

pub port_at : (n : Node) (o : Option ℕ) (x : ℕ) → at_port n o ≡ Some x → (k : ℕ) × (n ≡ node.Port k)
port_at node.Root o x h = absurd cc
port_at node.Cons o x h = absurd cc
port_at node.ConsCtl o x h = absurd cc
port_at node.Index o x h = absurd cc
port_at node.Jobs o x h = absurd cc
port_at node.Label o x h = absurd cc
port_at node.Log o x h = absurd cc
port_at node.NewDir o x h = absurd cc
port_at node.PlumbRoot o x h = absurd cc
port_at node.Send o x h = absurd cc
port_at node.Rules o x h = absurd cc
port_at (node.Window w) o x h = absurd cc
port_at (node.Port k) o x h = (k, refl)
port_at (node.File w f) o x h = absurd cc

pub watch_node : (n : Node) (o : Option ℕ) (x : WatchOpening) → at_watch n o ≡ Some x → (n ≡ node.Log)
    ⊎ (n ≡ node.Jobs)
watch_node node.Root o x h = absurd cc
watch_node node.Cons o x h = absurd cc
watch_node node.ConsCtl o x h = absurd cc
watch_node node.Index o x h = absurd cc
watch_node node.Jobs o x h = inr refl
watch_node node.Label o x h = absurd cc
watch_node node.Log o x h = inl refl
watch_node node.NewDir o x h = absurd cc
watch_node node.PlumbRoot o x h = absurd cc
watch_node node.Send o x h = absurd cc
watch_node node.Rules o x h = absurd cc
watch_node (node.Window w) o x h = absurd cc
watch_node (node.Port k) o x h = absurd cc
watch_node (node.File w f) o x h = absurd cc

-- what they hold
pub watch_content : (n : Node) (o : Option ℕ) (x : WatchOpening) → at_watch n o ≡ Some x
    → content_of n ≡ content.WatchOf x.file
watch_content node.Root o x h = absurd cc
watch_content node.Cons o x h = absurd cc
watch_content node.ConsCtl o x h = absurd cc
watch_content node.Index o x h = absurd cc
watch_content node.Jobs o x h = ap (λ (f : WatchFile). content.WatchOf f) (on_file Jobs o x h).1
watch_content node.Label o x h = absurd cc
watch_content node.Log o x h = ap (λ (f : WatchFile). content.WatchOf f) (on_file Log o x h).1
watch_content node.NewDir o x h = absurd cc
watch_content node.PlumbRoot o x h = absurd cc
watch_content node.Send o x h = absurd cc
watch_content node.Rules o x h = absurd cc
watch_content (node.Window w) o x h = absurd cc
watch_content (node.Port k) o x h = absurd cc
watch_content (node.File w f) o x h = absurd cc

-- ---- one kind alone

pub event_only : (f : Fid) (x : ℕ) → event_opening f ≡ Some x → (port_opening f ≡ None) × (watch_opening f ≡ None)
event_only f x h =
    let at : (w : ℕ) × (f.node ≡ node.File w file.Event) = event_node f.node f.opening x h in
    (ap (λ (n : Node). at_port n f.opening) at.1, ap (λ (n : Node). at_watch n f.opening) at.1)

pub port_only : (f : Fid) (x : ℕ) → port_opening f ≡ Some x → (event_opening f ≡ None) × (watch_opening f ≡ None)
port_only f x h =
    let at : (k : ℕ) × (f.node ≡ node.Port k) = port_at f.node f.opening x h in
    (ap (λ (n : Node). at_event n f.opening) at.1, ap (λ (n : Node). at_watch n f.opening) at.1)

pub watch_only : (f : Fid) (x : WatchOpening) → watch_opening f ≡ Some x → (event_opening f ≡ None)
    × (port_opening f ≡ None)
watch_only f x h =
    elim (watch_node f.node f.opening x h) as (λ z. (event_opening f ≡ None) × (port_opening f ≡ None)) [
      | inl at ↦ (ap (λ (n : Node). at_event n f.opening) at, ap (λ (n : Node). at_port n f.opening) at)
      | inr at ↦ (ap (λ (n : Node). at_event n f.opening) at, ap (λ (n : Node). at_port n f.opening) at)
    ]

not_some : {O : Type 0} (o : Option O) (x : O) → o ≡ None → o ≡ Some x → ⊥
not_some o x none some = let e : None ≡ Some x = sym none ∙ some in absurd cc

pub event_or_port : (f : Fid) (a b : ℕ) → event_opening f ≡ Some a → port_opening f ≡ Some b → ⊥
event_or_port f a b g h = not_some (port_opening f) b (event_only f a g).0 h

pub event_or_watch : (f : Fid) (a : ℕ) (b : WatchOpening) → event_opening f ≡ Some a → watch_opening f ≡ Some b → ⊥
event_or_watch f a b g h = not_some (watch_opening f) b (event_only f a g).1 h

pub port_or_watch : (f : Fid) (a : ℕ) (b : WatchOpening) → port_opening f ≡ Some a → watch_opening f ≡ Some b → ⊥
port_or_watch f a b g h = not_some (watch_opening f) b (port_only f a g).1 h

-- ---- openings of `log` or `jobs`, by their file

-- an opening of this file
abbrev pub on : WatchFile → ℕ → WatchOpening
on file number = record { file = file; opening = number }

-- the number of an opening, where it is one of this file
abbrev pub number_in : WatchFile → Option WatchOpening → Option ℕ
number_in file None = None
number_in file (Some o) = cond (same_file o.file file) (Some o.opening) None

abbrev pub watch_number : WatchFile → Fid → Option ℕ
watch_number file f = number_in file (watch_opening f)

same_itself : (file : WatchFile) → same_file file file ≡ true
same_itself Log = refl
same_itself Jobs = refl

same_is : (a b : WatchFile) → same_file a b ≡ true → a ≡ b
same_is Log Log h = refl
same_is Log Jobs h = absurd cc
same_is Jobs Log h = absurd cc
same_is Jobs Jobs h = refl

-- an opening has its number in its file
pub has_number : (o : Option WatchOpening) (x : WatchOpening) → o ≡ Some x → number_in x.file o ≡ Some x.opening
has_number o x h = ap (number_in x.file) h ∙ ap (λ (b : Bool). cond b (Some x.opening) None) (same_itself x.file)

number_if : (file : WatchFile) (x : WatchOpening) (n : ℕ) (b : Bool) → same_file x.file file ≡ b
    → cond b (Some x.opening) None ≡ Some n → x ≡ on file n
number_if file x n true same h =
    let number : x.opening ≡ n = cc in
    ap (λ (f : WatchFile). on f x.opening) (same_is x.file file same) ∙ ap (on file) number
number_if file x n false same h = absurd cc

-- what has a number in a file is that opening
pub is_opening : (file : WatchFile) (o : Option WatchOpening) (n : ℕ) → number_in file o ≡ Some n
    → o ≡ Some (on file n)
is_opening file None n h = absurd cc
is_opening file (Some x) n h = ap (λ (y : WatchOpening). Some y) (number_if file x n (same_file x.file file) refl h)

-- the same of the fid that is looked up
pub number_by : (file : WatchFile) (o : Option Fid) → opening_by (watch_number file) o
    ≡ number_in file (opening_by watch_opening o)
number_by file None = refl
number_by file (Some f) = refl

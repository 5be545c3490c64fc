-- What opening a file changes can be done.
use Rattle.std.proofs.Common.{◌≡◌, ℕ, Bool, true, false, cond, List, [], ◌∷◌, Option, Some, None, refl, sym, subst}
use Rattle.std.proofs.Common.{arith}
use Rattle.std.specs.Prelude.{not, IsSome}
use Rattle.acme_tree.specs.Trees.{is_live}
use Rattle.acme_tree.specs.declared.node.Node.{Node}
use Rattle.acme_tree.specs.declared.node.Node.TheVariants as node
use Rattle.acme_tree.specs.declared.node.WinFile.{WinFile}
use Rattle.acme_tree.specs.declared.node.WinFile.TheVariants as file
use Rattle.fid_table.specs.Tables.{Tables}
use Rattle.fid_table.specs.declared.types.Fid.{Fid}
use Rattle.win_text.specs.Bodies.{null_range}
use Rattle.core_windows.specs.declared.change.Change.{Change}
use Rattle.core_windows.specs.declared.change.Change.TheVariants as change
use Rattle.core_windows.specs.declared.change.Setting.{Setting}
use Rattle.core_windows.specs.declared.change.Setting.TheVariants as setting
use Rattle.core_windows.specs.Possible.{CanSet, text_in}
use Rattle.core_windows.specs.Windows.{Window, window_at, world_with}
use Rattle.core_windows.proofs.Steps.{listed_lives}
use Rattle.core_fids.specs.declared.content.Content.{Content}
use Rattle.core_fids.specs.declared.content.Content.TheVariants as content
use Rattle.core_fids.specs.declared.refusal.Refusal.{Refusal}
use Rattle.core_fids.specs.declared.refusal.Refusal.TheVariants as refusal
use Rattle.core_fids.specs.Contents.{content_of}
use Rattle.core_fids.specs.Done.{CanBeMade, IsOfLiving, LivesIn}
use Rattle.core_fids.specs.declared.effect.Demand.{Demand}
use Rattle.core_fids.specs.Servers.{ServerState, world_by}
use Rattle.core_fids.specs.Opening.{sets_first, open_below, opening_changes, opening_demand, open_refusal}

first_can : (windows : List (Option Window)) (w : ℕ) (s : Setting) (b : Bool) → IsSome (window_at windows w)
    → CanSet (text_in (window_at windows w)) s → CanBeMade windows (cond b [] (change.Sets w s ∷ []))
first_can windows w s true h k at = tt
first_can windows w s false h k at = (record { lives = h; inside = k }, tt)

sets_possible : (windows : List (Option Window)) (tables : Tables) (w : ℕ) (f : WinFile) (s : Setting)
    → IsSome (window_at windows w) → CanSet (text_in (window_at windows w)) s
    → CanBeMade windows (sets_first tables w f s)
sets_possible windows tables w f s h k = first_can windows w s (open_below tables w f 64) h k

opens : (windows : List (Option Window)) (tables : Tables) (c : Content) → LivesIn windows c
    → CanBeMade windows (opening_changes tables c)
opens windows tables content.Directory h at = tt
opens windows tables (content.BodyText w) h at = tt
opens windows tables (content.TagText w) h at = tt
opens windows tables (content.AddrText w) h at = sets_possible windows tables w file.Addr (setting.Addr null_range) h
    (record { order = omega arith; bounds = omega arith }) at
opens windows tables (content.DataOf w) h at = tt
opens windows tables (content.XdataOf w) h at = tt
opens windows tables (content.CtlText w) h at = sets_possible windows tables w file.Ctl setting.NoLimit h tt at
opens windows tables content.IndexText h at = tt
opens windows tables (content.ErrorsOf w) h at = tt
opens windows tables content.ConsErrors h at = tt
opens windows tables content.Empty h at = tt
opens windows tables (content.EventsOf w) h at = tt
opens windows tables content.SendText h at = tt
opens windows tables content.RulesText h at = tt
opens windows tables (content.PortOf k) h at = tt
opens windows tables (content.WatchOf f) h at = tt

file_lives : (windows : List (Option Window)) (w : ℕ) (f : WinFile) → IsSome (window_at windows w)
    → LivesIn windows (content_of (node.File w f))
file_lives windows w file.Addr h = h
file_lives windows w file.Body h = h
file_lives windows w file.Ctl h = h
file_lives windows w file.Data h = h
file_lives windows w file.Errors h = h
file_lives windows w file.Event h = h
file_lives windows w file.Tag h = h
file_lives windows w file.Xdata h = h

node_lives : (watched : Bool) (windows : List (Option Window)) (ports : List (List ℕ)) (n : Node)
    → is_live (world_with watched windows) ports n ≡ true → LivesIn windows (content_of n)
node_lives watched windows ports node.Root h = tt
node_lives watched windows ports node.Cons h = tt
node_lives watched windows ports node.ConsCtl h = tt
node_lives watched windows ports node.Index h = tt
node_lives watched windows ports node.Label h = tt
node_lives watched windows ports node.NewDir h = tt
node_lives watched windows ports (node.Window w) h = tt
node_lives watched windows ports (node.File w f) h = file_lives windows w f (listed_lives windows w h)
node_lives watched windows ports node.PlumbRoot h = tt
node_lives watched windows ports node.Send h = tt
node_lives watched windows ports node.Rules h = tt
node_lives watched windows ports (node.Port k) h = tt
node_lives watched windows ports node.Log h = tt
node_lives watched windows ports node.Jobs h = tt

not_dead : (b : Bool) (later : Option Refusal) → cond (not b) (Some refusal.WindowDeleted) later ≡ None → b ≡ true
not_dead true later e = refl
not_dead false later e = absurd cc

-- what a Topen that isn't refused does
pub opens_possible : (server : ServerState) (mode : ℕ) (fid : Fid) (cs : List Change)
    → open_refusal server fid mode ≡ None → cs ≡ opening_changes server.tables (content_of fid.node)
    → CanBeMade server.windows cs
opens_possible server mode fid cs h e =
    let live : is_live (world_by server) server.plumber.names fid.node ≡ true = not_dead _ _ h in
    subst (CanBeMade server.windows) (sym e)
    (opens server.windows server.tables (content_of fid.node) (node_lives server.watched server.windows
    server.plumber.names fid.node live))

-- what it asks of the scene it asks of no window
asks_none : (windows : List (Option Window)) (empties : Bool) (c : Content)
    → IsOfLiving windows (opening_demand empties c)
asks_none windows true content.Directory = tt
asks_none windows true (content.BodyText w) = tt
asks_none windows true (content.TagText w) = tt
asks_none windows true (content.AddrText w) = tt
asks_none windows true (content.DataOf w) = tt
asks_none windows true (content.XdataOf w) = tt
asks_none windows true (content.CtlText w) = tt
asks_none windows true content.IndexText = tt
asks_none windows true (content.ErrorsOf w) = tt
asks_none windows true content.ConsErrors = tt
asks_none windows true content.Empty = tt
asks_none windows true (content.EventsOf w) = tt
asks_none windows true content.SendText = tt
asks_none windows true content.RulesText = tt
asks_none windows true (content.PortOf k) = tt
asks_none windows true (content.WatchOf f) = tt
asks_none windows false c = tt

pub opening_asks : (windows : List (Option Window)) (empties : Bool) (c : Content) (d : Demand)
    → d ≡ opening_demand empties c → IsOfLiving windows d
opening_asks windows empties c d e = subst (IsOfLiving windows) (sym e) (asks_none windows empties c)

-- Topen, and the messages that ask for what isn't given.
use Rattle.std.specs.Prelude.{ℕ, zero, suc, ◌+◌, Bool, true, false, ◌==◌, ◌&&◌, ◌||◌, not, nat_lt, List, [], ◌∷◌}
use Rattle.std.specs.Prelude.{Option, Some, None, Result, Ok, Err, if◌then◌else◌}
use Rattle.std.specs.List.{list_any}
use Rattle.ninep_types.specs.declared.message.RBody.TheVariants as r
use Rattle.acme_tree.specs.declared.access.May.{May}
use Rattle.acme_tree.specs.declared.access.May.TheVariants as may
use Rattle.acme_tree.specs.Access.{may_open, truncates}
use Rattle.acme_tree.specs.Trees.{qid_of, is_live}
use Rattle.acme_tree.specs.declared.node.Node.{Node}
use Rattle.acme_tree.specs.declared.node.Node.TheVariants.{File}
use Rattle.acme_tree.specs.declared.node.WinFile.{WinFile}
use Rattle.acme_tree.specs.declared.node.WinFile.TheVariants.{Addr, Ctl}
use Rattle.fid_table.specs.declared.types.Fid.{Fid}
use Rattle.fid_table.specs.Tables.{Tables, fids_of}
use Rattle.win_text.specs.Bodies.{null_range}
use Rattle.core_windows.specs.declared.change.Change.{Change}
use Rattle.core_windows.specs.declared.change.Change.TheVariants as change
use Rattle.core_windows.specs.declared.change.Setting.{Setting}
use Rattle.core_windows.specs.declared.change.Setting.TheVariants as setting
use Rattle.am_journal.specs.Limits.{connection_count}
use Rattle.wait_queue.specs.Limits.{max_openings}
use Rattle.acme_watch.specs.Laws.{count_of}
use Rattle.core_fids.specs.declared.effect.Effect.TheVariants as effect
use Rattle.core_fids.specs.declared.effect.Demand.{Demand}
use Rattle.core_fids.specs.declared.effect.Demand.TheVariants as demand
use Rattle.core_fids.specs.declared.effect.EventChange.{EventChange}
use Rattle.core_fids.specs.declared.effect.EventChange.TheVariants as events
use Rattle.core_fids.specs.declared.effect.Answer.TheVariants.{Says}
use Rattle.core_fids.specs.declared.effect.Reaction.{Reaction}
use Rattle.core_fids.specs.Plainly.{frees}
use Rattle.core_fids.specs.declared.refusal.Refusal.{Refusal}
use Rattle.core_fids.specs.declared.refusal.Refusal.TheVariants as refusal
use Rattle.core_fids.specs.declared.content.Content.{Content}
use Rattle.core_fids.specs.declared.content.Content.TheVariants as content
use Rattle.core_fids.specs.declared.server.Opened.{Opened}
use Rattle.core_fids.specs.Contents.{content_of}
use Rattle.core_fids.specs.Fids.{is_open, opened_fid, holds_rules}
use Rattle.core_fids.specs.Plumbers.{Plumber}
use Rattle.core_fids.specs.Refusals.{refusal_text}
use Rattle.core_fids.specs.Servers.{ServerState, world_by}

-- ---- Topen

-- why a node isn't opened with a mode
abbrev pub mode_refusal : May → Option Refusal
mode_refusal may.Yes = None
mode_refusal may.BadMode = Some refusal.BadOpenMode
mode_refusal may.Denied = Some refusal.PermissionDenied

-- openings of event files are numbered from 1, and those of ports, of `log` and of `jobs` likewise; the last number of
-- each is 4,294,967,295
abbrev pub opening_refusal : ℕ → Option Refusal
opening_refusal openings = if nat_lt openings max_openings then None else Some refusal.TooManyOpenings

-- why what a node holds isn't opened once more
abbrev pub content_refusal : Plumber → Opened → Content → Option Refusal
content_refusal plumber opened content.Directory = None
content_refusal plumber opened (content.BodyText w) = None
content_refusal plumber opened (content.TagText w) = None
content_refusal plumber opened (content.AddrText w) = None
content_refusal plumber opened (content.DataOf w) = None
content_refusal plumber opened (content.XdataOf w) = None
content_refusal plumber opened (content.CtlText w) = None
content_refusal plumber opened content.IndexText = None
content_refusal plumber opened (content.ErrorsOf w) = None
content_refusal plumber opened content.ConsErrors = None
content_refusal plumber opened content.Empty = None
content_refusal plumber opened (content.EventsOf w) = opening_refusal opened.events
content_refusal plumber opened content.SendText = None
content_refusal plumber opened content.RulesText = None
content_refusal plumber opened (content.PortOf k) = opening_refusal plumber.joined
content_refusal plumber opened (content.WatchOf file) = opening_refusal (count_of opened.watch file)

-- the first of two
abbrev pub first_refusal : Option Refusal → Option Refusal → Option Refusal
first_refusal None later = later
first_refusal (Some refusal) later = Some refusal

-- why a fid isn't opened
abbrev pub open_refusal : ServerState → Fid → ℕ → Option Refusal
open_refusal server fid mode =
    if not (is_live (world_by server) server.plumber.names fid.node) then Some refusal.WindowDeleted else
    (if is_open fid then Some refusal.FidIsOpen else
    first_refusal (mode_refusal (may_open fid.node mode))
    (content_refusal server.plumber server.opened (content_of fid.node)))

-- whether the node is the `ctl`, or the `addr`, of that window; of no other file this is asked
abbrev pub is_file_of : ℕ → WinFile → Node → Bool
is_file_of w Ctl (File v Ctl) = v == w
is_file_of w Addr (File v Addr) = v == w
is_file_of w file node = false

-- whether a fid has the file of the window open
abbrev pub has_open : ℕ → WinFile → ℕ × Fid → Bool
has_open w file f = is_open f.1 && is_file_of w file f.1.node

-- no, where there is none
abbrev pub or_false : Option Bool → Bool
or_false None = false
or_false (Some b) = b

-- one of the connections below that number has the file of the window open
unfoldable pub open_below : Tables → ℕ → WinFile → ℕ → Bool
open_below tables w file zero = false
open_below tables w file (suc n) = open_below tables w file n || list_any (has_open w file) (fids_of tables n)

-- a setting is made where no fid has the file open
abbrev pub sets_first : Tables → ℕ → WinFile → Setting → List Change
sets_first tables w file s = if open_below tables w file connection_count then [] else change.Sets w s ∷ []

-- opening `ctl` where no fid has it open clears the limit
abbrev pub clears_limit : Tables → ℕ → List Change
clears_limit tables w = sets_first tables w Ctl setting.NoLimit

-- opening `addr` where no fid has it open sets the address to the text's front
abbrev pub resets_addr : Tables → ℕ → List Change
resets_addr tables w = sets_first tables w Addr (setting.Addr null_range)

-- what opening changes in the windows
abbrev pub opening_changes : Tables → Content → List Change
opening_changes tables content.Directory = []
opening_changes tables (content.BodyText w) = []
opening_changes tables (content.TagText w) = []
opening_changes tables (content.AddrText w) = resets_addr tables w
opening_changes tables (content.DataOf w) = []
opening_changes tables (content.XdataOf w) = []
opening_changes tables (content.CtlText w) = clears_limit tables w
opening_changes tables content.IndexText = []
opening_changes tables (content.ErrorsOf w) = []
opening_changes tables content.ConsErrors = []
opening_changes tables content.Empty = []
opening_changes tables (content.EventsOf w) = []
opening_changes tables content.SendText = []
opening_changes tables content.RulesText = []
opening_changes tables (content.PortOf k) = []
opening_changes tables (content.WatchOf file) = []

-- opening an event file, a port, `log` or `jobs` adds an opening of it
abbrev pub opening_events : Content → EventChange
opening_events content.Directory = events.Nothing
opening_events (content.BodyText w) = events.Nothing
opening_events (content.TagText w) = events.Nothing
opening_events (content.AddrText w) = events.Nothing
opening_events (content.DataOf w) = events.Nothing
opening_events (content.XdataOf w) = events.Nothing
opening_events (content.CtlText w) = events.Nothing
opening_events content.IndexText = events.Nothing
opening_events (content.ErrorsOf w) = events.Nothing
opening_events content.ConsErrors = events.Nothing
opening_events content.Empty = events.Nothing
opening_events (content.EventsOf w) = events.Opens w
opening_events content.SendText = events.Nothing
opening_events content.RulesText = events.Nothing
opening_events (content.PortOf k) = events.Joins k
opening_events (content.WatchOf file) = events.Watches file

-- its number is the next one
abbrev pub opening_of : Plumber → Opened → Content → Option ℕ
opening_of plumber opened content.Directory = None
opening_of plumber opened (content.BodyText w) = None
opening_of plumber opened (content.TagText w) = None
opening_of plumber opened (content.AddrText w) = None
opening_of plumber opened (content.DataOf w) = None
opening_of plumber opened (content.XdataOf w) = None
opening_of plumber opened (content.CtlText w) = None
opening_of plumber opened content.IndexText = None
opening_of plumber opened (content.ErrorsOf w) = None
opening_of plumber opened content.ConsErrors = None
opening_of plumber opened content.Empty = None
opening_of plumber opened (content.EventsOf w) = Some (opened.events + 1)
opening_of plumber opened content.SendText = None
opening_of plumber opened content.RulesText = None
opening_of plumber opened (content.PortOf k) = Some (plumber.joined + 1)
opening_of plumber opened (content.WatchOf file) = Some (count_of opened.watch file + 1)

-- opening `rules` to truncate it empties the rules
abbrev pub opening_demand : Bool → Content → Demand
opening_demand false c = demand.Nothing
opening_demand true content.RulesText = demand.ClearsRules
opening_demand true c = demand.Nothing

-- an iounit isn't given
abbrev pub or_opens : Option Refusal → ServerState → ℕ → Fid → ℕ → Result Reaction Refusal
or_opens None server number fid mode = Ok (record {
  effect = effect.Puts number (opened_fid fid mode (opening_of server.plumber server.opened (content_of fid.node)));
  events = opening_events (content_of fid.node);
  changes = opening_changes server.tables (content_of fid.node);
  demand = opening_demand (truncates mode) (content_of fid.node);
  answer = Says (r.Open (qid_of fid.node) 0);
})
or_opens (Some refusal) server number fid mode = Err refusal

-- what a Topen of this fid does
abbrev pub open_fid : ServerState → ℕ → Option Fid → ℕ → Result Reaction Refusal
open_fid server number None mode = Err refusal.UnknownFid
open_fid server number (Some fid) mode = or_opens (open_refusal server fid mode) server number fid mode

-- ---- Tcreate and Twstat, which are never done

-- what is never allowed
abbrev pub denial : Option Fid → Result Reaction Refusal
denial None = Err refusal.UnknownFid
denial (Some fid) = Err refusal.PermissionDenied

-- ---- Tclunk and Tremove, which free a fid; nothing is removed

-- the rest of a set that a fid of `rules` holds is added
abbrev pub rest_demand : Fid → Demand
rest_demand fid = if holds_rules fid then demand.AddsRest fid.held else demand.Nothing

-- what a Tclunk of this fid does
abbrev pub clunk_fid : ℕ → Option Fid → Result Reaction Refusal
clunk_fid number None = Err refusal.UnknownFid
clunk_fid number (Some fid) = Ok (frees number (rest_demand fid) r.Clunk)

-- what a Tremove of this fid does
abbrev pub remove_fid : ℕ → Option Fid → Result Reaction Refusal
remove_fid number None = Err refusal.UnknownFid
remove_fid number (Some fid) = Ok (frees number (rest_demand fid) (r.Error (refusal_text refusal.PermissionDenied)))

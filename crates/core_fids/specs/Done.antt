-- What holds of each reaction: what it is answered has a spelling, its change of the windows can be made, and what it
-- asks of a window is asked of one that lives.
use Rattle.std.specs.Prelude.{[], ◌≡◌, ◌<◌, ◌+◌, ◌^◌, ℕ, false, List, Option, IsSome}
use Rattle.ninep_types.specs.declared.message.RBody.{RBody}
use Rattle.ninep_types.specs.Spelling.{BodyFits_r, size_r}
use Rattle.acme_tree.specs.declared.node.World.{World}
use Rattle.acme_tree.specs.Trees.{world_is_full}
use Rattle.core_windows.specs.declared.change.Change.{Change}
use Rattle.core_windows.specs.Possible.{CanChangeAll}
use Rattle.core_windows.specs.Windows.{Window, window_at}
use Rattle.ninep_types.specs.Limits.{rread_head}
use Rattle.core_fids.specs.declared.content.Content.{Content}
use Rattle.core_fids.specs.declared.content.Content.TheVariants as content
use Rattle.core_fids.specs.declared.effect.Answer.{Answer}
use Rattle.core_fids.specs.declared.effect.Answer.TheVariants.{Says, Reads, ReadsPort, ReadsWatch}
use Rattle.core_fids.specs.declared.effect.Demand.{Demand}
use Rattle.core_fids.specs.declared.effect.Demand.TheVariants as demand
use Rattle.core_fids.specs.declared.effect.Reaction.{Reaction}
use Rattle.core_fids.specs.declared.walking.WalkEnd.{WalkEnd}
use Rattle.core_fids.specs.declared.walking.WalkEnd.TheVariants as end

-- an answer that has a spelling, whatever its tag
pub record IsSent (answer : RBody) : Type 0 where
  pub body : BodyFits_r answer
  pub size : size_r answer < 2 ^ 32

-- a read gets so few bytes that its answer has a spelling
abbrev pub HasSpelling : Answer → Type 0
HasSpelling (Says body) = IsSent body
HasSpelling (Reads fid opening count) = count + rread_head < 2 ^ 32
HasSpelling (ReadsPort fid opening count) = count + rread_head < 2 ^ 32
HasSpelling (ReadsWatch fid opening count) = count + rread_head < 2 ^ 32

-- these changes can be made one after the other, by whichever step
abbrev pub CanBeMade : List (Option Window) → List Change → Type 0
CanBeMade windows changes = (at : ℕ) → CanChangeAll at windows changes

-- what is asked of a window is asked of one that lives; what is asked of the plumber or of `jobs` may always be
abbrev pub IsOfLiving : List (Option Window) → Demand → Type 0
IsOfLiving windows demand.Nothing = Unit {0}
IsOfLiving windows (demand.Controls w text) = IsSome (window_at windows w)
IsOfLiving windows (demand.WriteBack w text) = IsSome (window_at windows w)
IsOfLiving windows demand.ClearsRules = Unit {0}
IsOfLiving windows (demand.AddsRules text) = Unit {0}
IsOfLiving windows (demand.AddsRest text) = Unit {0}
IsOfLiving windows (demand.Sends text) = Unit {0}
IsOfLiving windows (demand.Answers opening text) = Unit {0}

-- what changes no window and asks nothing of the scene, and has an answer with a spelling
pub record IsStill (reaction : Reaction) : Type 0 where
  pub sent : HasSpelling reaction.answer
  pub changes : reaction.changes ≡ []
  pub demand : reaction.demand ≡ demand.Nothing

-- A reaction can be spelled and done.
pub record IsDone (windows : List (Option Window)) (reaction : Reaction) : Type 0 where
  pub sent : HasSpelling reaction.answer
  pub possible : CanBeMade windows reaction.changes
  pub demand : IsOfLiving windows reaction.demand

-- a walk that makes a window ends only where one more may live
abbrev pub MayEnd : World → WalkEnd → Type 0
MayEnd world (end.At node) = Unit {0}
MayEnd world (end.Makes file) = world_is_full world ≡ false
MayEnd world (end.Stops refusal) = Unit {0}

-- the window of what a node holds lives, where it is one of a window
abbrev pub LivesIn : List (Option Window) → Content → Type 0
LivesIn windows content.Directory = Unit {0}
LivesIn windows (content.BodyText w) = IsSome (window_at windows w)
LivesIn windows (content.TagText w) = IsSome (window_at windows w)
LivesIn windows (content.CtlText w) = IsSome (window_at windows w)
LivesIn windows (content.AddrText w) = IsSome (window_at windows w)
LivesIn windows (content.DataOf w) = IsSome (window_at windows w)
LivesIn windows (content.XdataOf w) = IsSome (window_at windows w)
LivesIn windows content.IndexText = Unit {0}
LivesIn windows (content.ErrorsOf w) = IsSome (window_at windows w)
LivesIn windows content.ConsErrors = Unit {0}
LivesIn windows content.Empty = Unit {0}
LivesIn windows (content.EventsOf w) = IsSome (window_at windows w)
LivesIn windows content.SendText = Unit {0}
LivesIn windows content.RulesText = Unit {0}
LivesIn windows (content.PortOf k) = Unit {0}
LivesIn windows (content.WatchOf file) = Unit {0}

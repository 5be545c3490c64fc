-- Named refusals: their texts, and what a message that may be refused does.
use Rattle.std.specs.Prelude.{[], ◌≡◌, ℕ, List, codes, Result, Ok, Err}
use Rattle.ninep_types.specs.declared.message.RBody.TheVariants as r
use Rattle.core_fids.specs.declared.effect.Effect.{Effect}
use Rattle.core_fids.specs.declared.effect.Effect.TheVariants as effect
use Rattle.core_fids.specs.declared.effect.Reaction.{Reaction}
use Rattle.core_fids.specs.Plainly.{does}
use Rattle.core_fids.specs.declared.refusal.Refusal.{Refusal}
use Rattle.core_fids.specs.declared.refusal.Refusal.TheVariants as refusal
use Rattle.core_fids.specs.declared.refusal.Fault.{Fault}
use Rattle.core_fids.specs.declared.refusal.Fault.TheVariants as fault

-- the text of a refusal
abbrev pub refusal_text : Refusal → List ℕ
refusal_text refusal.VersionFirst = codes "version first"
refusal_text refusal.MsizeTooSmall = codes "msize too small"
refusal_text refusal.AuthenticationNotRequired = codes "authentication not required"
refusal_text refusal.BadFid = codes "bad fid"
refusal_text refusal.FidInUse = codes "fid in use"
refusal_text refusal.TooManyFids = codes "too many fids"
refusal_text refusal.NoSuchTree = codes "no such tree"
refusal_text refusal.UnknownFid = codes "unknown fid"
refusal_text refusal.WindowDeleted = codes "window deleted"
refusal_text refusal.FidIsOpen = codes "fid is open"
refusal_text refusal.FidIsNotOpen = codes "fid is not open"
refusal_text refusal.NotADirectory = codes "not a directory"
refusal_text refusal.FileNotFound = codes "file not found"
refusal_text refusal.TooManyWindows = codes "too many windows"
refusal_text refusal.TooManyOpenings = codes "too many openings"
refusal_text refusal.BadOpenMode = codes "bad open mode"
refusal_text refusal.PermissionDenied = codes "permission denied"
refusal_text refusal.TooManyWaitingReads = codes "too many waiting reads"
refusal_text refusal.FidClunked = codes "fid clunked"
refusal_text refusal.BadDirectoryOffset = codes "bad directory offset"
refusal_text refusal.TextTooLong = codes "text too long"
refusal_text refusal.WindowModified = codes "window modified"
refusal_text refusal.BadControlMessage = codes "bad control message"
refusal_text refusal.BadFileName = codes "bad file name"
refusal_text refusal.BadAddress = codes "bad address"
refusal_text refusal.AddressOutOfRange = codes "address out of range"
refusal_text refusal.NoMatch = codes "no match"
refusal_text refusal.AddressOutOfOrder = codes "address out of order"
refusal_text refusal.PartialRune = codes "partial rune"
refusal_text refusal.NoFileName = codes "no file name"
refusal_text refusal.BadEvent = codes "bad event"
refusal_text refusal.NoSuchEvent = codes "no such event"
refusal_text refusal.EventAlreadyWrittenBack = codes "event already written back"
refusal_text refusal.BadPlumbMessage = codes "bad plumb message"
refusal_text refusal.NoMatchingRule = codes "no matching rule"
refusal_text refusal.PortNotOpen = codes "port not open"
refusal_text refusal.PortQueueFull = codes "port queue full"
refusal_text refusal.BadRule = codes "bad rule"
refusal_text refusal.BadExpressionSize = codes "bad regular expression size"
refusal_text refusal.TooManyRules = codes "too many rules"
refusal_text refusal.BadAnswer = codes "bad answer"
refusal_text refusal.RequestAlreadyAnswered = codes "request already answered"
refusal_text refusal.NoSuchRequest = codes "no such request"

-- the reaction of a refusal: its text is answered, and nothing changes but what is said here
abbrev pub refusal_with_effect : Effect → Refusal → Reaction
refusal_with_effect f refusal = does f [] (r.Error (refusal_text refusal))

-- a refusal that changes nothing
abbrev pub refusal_reaction : Refusal → Reaction
refusal_reaction refusal = refusal_with_effect effect.Nothing refusal

-- a message that may be refused
abbrev pub reaction_or_refusal : Result Reaction Refusal → Reaction
reaction_or_refusal (Ok reaction) = reaction
reaction_or_refusal (Err refusal) = refusal_reaction refusal

-- the fault of a message that is refused so; want of memory may come anywhere
abbrev pub Gives : {A : Type 0} → Fault → Result A Refusal → Type 0
Gives (fault.Refused refusal) wanted = wanted ≡ Err refusal
Gives fault.NoMemory wanted = Unit {0}

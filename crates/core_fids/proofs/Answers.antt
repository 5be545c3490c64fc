-- Answers have spellings.
use Rattle.std.proofs.Common.{[], ◌≡◌, ℕ, ◌+◌, ◌<◌, ◌≤◌, Bool, true, false, cond, List, Option, codes, length, refl, ap}
use Rattle.std.proofs.Common.{sym, ◌∙◌, subst, arith}
use Rattle.std.specs.Str.{is_utf8, chars}
use Rattle.std.specs.Char.{encode_utf8}
use Rattle.ninep_types.specs.declared.message.RBody.TheVariants as r
use Rattle.ninep_types.specs.Fields.{is_text}
use Rattle.ninep_types.specs.Spelling.{IsString}
use Rattle.core_fids.specs.declared.refusal.Refusal.{Refusal}
use Rattle.core_fids.specs.declared.refusal.Refusal.TheVariants as refusal
use Rattle.core_fids.specs.Refusals.{refusal_text}
use Rattle.core_fids.specs.Done.{HasSpelling, IsSent, IsOfLiving, IsStill, CanBeMade, IsDone}
use Rattle.core_fids.specs.declared.effect.Demand.{Demand}
use Rattle.core_fids.specs.declared.effect.Demand.TheVariants as demand
use Rattle.core_windows.specs.Windows.{Window}
use Rattle.core_windows.specs.declared.change.Change.{Change}
use Rattle.ninep_types.specs.declared.message.RBody.{RBody}
use Rattle.core_fids.specs.declared.effect.Reaction.{Reaction}
use Rattle.ninep_frame.specs.declared.stat.Stat.{Stat}
use Rattle.ninep_frame.specs.Records.{record_of, HasName}
use Rattle.ninep_frame.specs.Directories.{records, fitting}
use Rattle.ninep_frame.proofs.Longest.{longest}
use Rattle.ninep_frame.proofs.Sizes.{record_len}
use Rattle.core_fids.specs.declared.effect.Effect.{Effect}
use Rattle.core_fids.specs.declared.effect.Effect.TheVariants as effect
use Rattle.core_fids.specs.Plainly.{does, frees}
use Rattle.core_fids.specs.Opening.{rest_demand}
use Rattle.core_fids.specs.Fids.{holds_rules}
use Rattle.fid_table.specs.declared.types.Fid.{Fid}

-- ---- refusals

text_is : (x : Refusal) → is_text (refusal_text x) ≡ true
unfolding is_text is_utf8 chars encode_utf8
text_is refusal.VersionFirst = refl
text_is refusal.MsizeTooSmall = refl
text_is refusal.AuthenticationNotRequired = refl
text_is refusal.BadFid = refl
text_is refusal.FidInUse = refl
text_is refusal.TooManyFids = refl
text_is refusal.NoSuchTree = refl
text_is refusal.UnknownFid = refl
text_is refusal.WindowDeleted = refl
text_is refusal.FidIsOpen = refl
text_is refusal.FidIsNotOpen = refl
text_is refusal.NotADirectory = refl
text_is refusal.FileNotFound = refl
text_is refusal.TooManyWindows = refl
text_is refusal.TooManyOpenings = refl
text_is refusal.BadOpenMode = refl
text_is refusal.PermissionDenied = refl
text_is refusal.TooManyWaitingReads = refl
text_is refusal.FidClunked = refl
text_is refusal.BadDirectoryOffset = refl
text_is refusal.TextTooLong = refl
text_is refusal.WindowModified = refl
text_is refusal.BadControlMessage = refl
text_is refusal.BadFileName = refl
text_is refusal.BadAddress = refl
text_is refusal.AddressOutOfRange = refl
text_is refusal.NoMatch = refl
text_is refusal.AddressOutOfOrder = refl
text_is refusal.PartialRune = refl
text_is refusal.NoFileName = refl
text_is refusal.BadEvent = refl
text_is refusal.NoSuchEvent = refl
text_is refusal.EventAlreadyWrittenBack = refl
text_is refusal.BadPlumbMessage = refl
text_is refusal.NoMatchingRule = refl
text_is refusal.PortNotOpen = refl
text_is refusal.PortQueueFull = refl
text_is refusal.BadRule = refl
text_is refusal.BadExpressionSize = refl
text_is refusal.TooManyRules = refl
text_is refusal.BadAnswer = refl
text_is refusal.RequestAlreadyAnswered = refl
text_is refusal.NoSuchRequest = refl

text_fits : (x : Refusal) → length (refusal_text x) < 100
text_fits refusal.VersionFirst = omega arith
text_fits refusal.MsizeTooSmall = omega arith
text_fits refusal.AuthenticationNotRequired = omega arith
text_fits refusal.BadFid = omega arith
text_fits refusal.FidInUse = omega arith
text_fits refusal.TooManyFids = omega arith
text_fits refusal.NoSuchTree = omega arith
text_fits refusal.UnknownFid = omega arith
text_fits refusal.WindowDeleted = omega arith
text_fits refusal.FidIsOpen = omega arith
text_fits refusal.FidIsNotOpen = omega arith
text_fits refusal.NotADirectory = omega arith
text_fits refusal.FileNotFound = omega arith
text_fits refusal.TooManyWindows = omega arith
text_fits refusal.TooManyOpenings = omega arith
text_fits refusal.BadOpenMode = omega arith
text_fits refusal.PermissionDenied = omega arith
text_fits refusal.TooManyWaitingReads = omega arith
text_fits refusal.FidClunked = omega arith
text_fits refusal.BadDirectoryOffset = omega arith
text_fits refusal.TextTooLong = omega arith
text_fits refusal.WindowModified = omega arith
text_fits refusal.BadControlMessage = omega arith
text_fits refusal.BadFileName = omega arith
text_fits refusal.BadAddress = omega arith
text_fits refusal.AddressOutOfRange = omega arith
text_fits refusal.NoMatch = omega arith
text_fits refusal.AddressOutOfOrder = omega arith
text_fits refusal.PartialRune = omega arith
text_fits refusal.NoFileName = omega arith
text_fits refusal.BadEvent = omega arith
text_fits refusal.NoSuchEvent = omega arith
text_fits refusal.EventAlreadyWrittenBack = omega arith
text_fits refusal.BadPlumbMessage = omega arith
text_fits refusal.NoMatchingRule = omega arith
text_fits refusal.PortNotOpen = omega arith
text_fits refusal.PortQueueFull = omega arith
text_fits refusal.BadRule = omega arith
text_fits refusal.BadExpressionSize = omega arith
text_fits refusal.TooManyRules = omega arith
text_fits refusal.BadAnswer = omega arith
text_fits refusal.RequestAlreadyAnswered = omega arith
text_fits refusal.NoSuchRequest = omega arith

error_is : (x : Refusal) → IsSent (r.Error (refusal_text x))
error_is x = record {
  body = record { text = text_is x; len = omega (arith, text_fits x) };
  size =
      omega (arith, text_fits x);
}

pub error_sent : (x : Refusal) (text : List ℕ) → text ≡ refusal_text x → IsSent (r.Error text)
error_sent x text e = subst (λ (t : List ℕ). IsSent (r.Error t)) (sym e) (error_is x)

-- ---- what is answered at once

pub plain_done : (windows : List (Option Window)) (f : Effect) (cs : List Change) (body : RBody) (d : Reaction)
    → d ≡ does f cs body → IsSent body → CanBeMade windows cs
    → IsDone windows d
plain_done windows f cs body d e sent possible = subst (λ (x : Reaction). IsDone windows x) (sym e)
    (record { sent = sent; possible = possible; demand = tt })

-- no change can always be made
pub nothing_made : (windows : List (Option Window)) (cs : List Change) → cs ≡ [] → CanBeMade windows cs
nothing_made windows cs e = subst (CanBeMade windows) (sym e) (λ at. tt)

pub plain_still : (f : Effect) (cs : List Change) (body : RBody) (d : Reaction) → d ≡ does f cs body → IsSent body
    → cs ≡ [] → IsStill d
plain_still f cs body d e sent none = subst IsStill (sym e) (record { sent = sent; changes = none; demand = refl })

-- what changes no window can be done whatever the windows are
pub still_done : (windows : List (Option Window)) (d : Reaction) → IsStill d → IsDone windows d
still_done windows d h = record {
  sent = h.sent;
  possible = nothing_made windows d.changes h.changes;
  demand = subst (IsOfLiving windows) (sym h.demand) tt;
}

-- changes that can be made are done with an answer that has a spelling
pub made_done : (windows : List (Option Window)) (d : Reaction) (cs : List Change) → HasSpelling d.answer
    → d.changes ≡ cs → d.demand ≡ demand.Nothing → CanBeMade windows cs → IsDone windows d
made_done windows d cs sent e none possible = record {
  sent = sent;
  possible = subst (CanBeMade windows) (sym e) possible;
  demand = subst (IsOfLiving windows) (sym none) tt;
}

-- ---- versions

known : IsString (codes "9P2000")
unfolding is_text is_utf8 chars encode_utf8
known = record { text = refl; len = omega arith }

unknown : IsString (codes "unknown")
unfolding is_text is_utf8 chars encode_utf8
unknown = record { text = refl; len = omega arith }

known_sent : (msize : ℕ) → IsSent (r.Version msize (codes "9P2000"))
known_sent msize = record { body = known; size = omega arith }

unknown_sent : (msize : ℕ) → IsSent (r.Version msize (codes "unknown"))
unknown_sent msize = record { body = unknown; size = omega arith }

pub known_still : (f : Effect) (msize : ℕ) (text : List ℕ) (cs : List Change) (d : Reaction) → text ≡ codes "9P2000"
    → cs ≡ []
    → d ≡ does f cs (r.Version msize text) → IsStill d
known_still f msize text cs d e none is =
    plain_still f cs (r.Version msize text) d is (subst (λ (t : List ℕ). IsSent (r.Version msize t)) (sym e)
    (known_sent msize)) none

pub unknown_still : (f : Effect) (msize : ℕ) (text : List ℕ) (cs : List Change) (d : Reaction) → text ≡ codes "unknown"
    → cs ≡ []
    → d ≡ does f cs (r.Version msize text) → IsStill d
unknown_still f msize text cs d e none is =
    plain_still f cs (r.Version msize text) d is (subst (λ (t : List ℕ). IsSent (r.Version msize t)) (sym e)
    (unknown_sent msize)) none

-- ---- fids that are freed

-- what frees a fid asks nothing of a window
rest_asks : (windows : List (Option Window)) (fid : Fid) (holds : Bool)
    → IsOfLiving windows (cond holds (demand.AddsRest fid.held) demand.Nothing)
rest_asks windows fid true = tt
rest_asks windows fid false = tt

pub freed_done : (windows : List (Option Window)) (number : ℕ) (fid : Fid) (asked : Demand) (body : RBody)
    (d : Reaction) → d ≡ frees number asked body → asked ≡ rest_demand fid → IsSent body → IsDone windows d
freed_done windows number fid asked body d e is sent = subst (IsDone windows) (sym e) (record {
  sent = sent;
  possible = λ at. tt;
  demand = subst (IsOfLiving windows) (sym is) (rest_asks windows fid (holds_rules fid));
})

pub clunk_sent : IsSent r.Clunk
clunk_sent = record { body = tt; size = omega arith }

-- ---- stats

pub stat_done : (windows : List (Option Window)) (s : Stat) (bytes : List ℕ) (cs : List Change) (d : Reaction)
    → bytes ≡ record_of s → HasName s → cs ≡ []
    → d ≡ does effect.Nothing cs (r.Stat bytes) → IsDone windows d
stat_done windows s bytes cs d e name none is =
    let size : length bytes ≡ 61 + length s.name = ap (λ (l : List ℕ). length l) e ∙ record_len s in
    plain_done windows effect.Nothing cs (r.Stat bytes) d is (record
    { body = omega (arith, size, name.len); size = omega (arith, size, name.len) }) (nothing_made windows cs none)

-- what a directory read gives fits
pub part_fits : (room : ℕ) (stats : List Stat) (bytes : List ℕ) → bytes ≡ records (fitting room stats)
    → length bytes ≤ room
part_fits room stats bytes e = subst (λ (l : List ℕ). length l ≤ room) (sym e) (longest room stats).fits

pub ruleset sent = (error_sent, known_still, unknown_still, stat_done, part_fits)

pub ruleset still = (still_done)

pub ruleset freed = (freed_done, clunk_sent)

pub ruleset made = (still_done, made_done)

-- Each message is answered.
use Rattle.std.proofs.Common.{[], ◌∷◌, inl, inr, ℕ, Bool, true, false, cond, List, ◌++◌, length, Option, Some, None}
use Rattle.std.proofs.Common.{Result, Ok, Err, refl, min}
use Rattle.std.specs.Prelude.{codes, nat_lt, ◌==◌}
use Rattle.am_text.specs.Part.{part_bytes, part_of}
use Rattle.am_text.specs.Pieces.{Decoded, decode_part}
use Rattle.acme_tree.specs.Trees.{is_live}
use Rattle.ninep_types.specs.declared.message.Qid.{Qid}
use Rattle.ninep_types.specs.declared.message.TBody.{TBody}
use Rattle.ninep_types.specs.declared.message.TBody.TheVariants as t
use Rattle.ninep_types.specs.declared.message.RBody.TheVariants as r
use Rattle.acme_tree.specs.declared.node.Node.{Node}
use Rattle.acme_tree.specs.declared.node.World.{World}
use Rattle.fid_table.specs.declared.types.Fid.{Fid}
use Rattle.am_text.specs.declared.range.Range.{Range}
use Rattle.core_addresses.specs.Data.{data_taken}
use Rattle.core_addresses.specs.Ranges.{address_range}
use Rattle.core_addresses.specs.declared.data.Taken.{Taken}
use Rattle.core_addresses.specs.declared.fault.RangeFault.{RangeFault}
use Rattle.core_answers.specs.Addressing.{data_reaction, xdata_reaction, addr_or_refusal, addr_reaction}
use Rattle.core_answers.specs.Addressing.{data_or_refusal, taking_reaction}
use Rattle.core_fids.specs.declared.content.Content.{Content}
use Rattle.core_fids.specs.declared.content.Content.TheVariants as content
use Rattle.acme_watch.specs.declared.types.WatchFile.{WatchFile}
use Rattle.acme_watch.specs.declared.types.WatchFile.TheVariants as watch
use Rattle.core_fids.specs.declared.effect.WatchOpening.{WatchOpening}
use Rattle.core_fids.specs.declared.effect.Effect.{Effect}
use Rattle.core_fids.specs.declared.effect.Effect.TheVariants as effect
use Rattle.core_fids.specs.declared.effect.Demand.{Demand}
use Rattle.core_fids.specs.declared.effect.Demand.TheVariants as demand
use Rattle.core_fids.specs.declared.effect.Reaction.{Reaction}
use Rattle.core_fids.specs.declared.refusal.Refusal.{Refusal}
use Rattle.core_fids.specs.declared.refusal.Refusal.TheVariants as refusal
use Rattle.core_fids.specs.declared.walking.WalkEnd.{WalkEnd}
use Rattle.core_fids.specs.declared.walking.WalkEnd.TheVariants as end
use Rattle.core_fids.specs.Plainly.{does}
use Rattle.core_fids.specs.Refusals.{refusal_with_effect, reaction_or_refusal}
use Rattle.core_windows.specs.declared.change.Change.TheVariants as change
use Rattle.core_windows.specs.Windows.{Window, window_at, named}
use Rattle.core_fids.specs.Attaching.{is_version, agreement, version_reaction, root_of, attach_refusal, attach_to}
use Rattle.core_fids.specs.Attaching.{or_attaches}
use Rattle.core_fids.specs.Servers.{ServerState, world_by, fid_by}
use Rattle.core_fids.specs.Walking.{course, walk_refusal, arrives_at, or_walks, walk_from}
use Rattle.core_fids.specs.Opening.{open_refusal, or_opens, open_fid, denial, clunk_fid, remove_fid}
use Rattle.core_fids.specs.Directories.{Tread, place_at, read_dir, stat_fid}
use Rattle.core_answers.specs.Reading.{read_opening, read_port, read_watch, read_content, use_refusal, or_reads}
use Rattle.core_answers.specs.Reading.{lowered, read_fid}
use Rattle.core_answers.specs.Writing.{Twrite, change_reaction, if_lives, append_reaction, add_reaction, or_errors}
use Rattle.core_answers.specs.Writing.{errors_reaction, asking_reaction, answer_reaction, watch_reaction}
use Rattle.core_answers.specs.Writing.{write_content, write_fid}
use Rattle.core_answers.specs.Erring.{fits_in, fits_tag, appends, errors_of, root_errors, errors_refusal}
use Rattle.core_answers.specs.Texts.{text_at, right_of}
use Rattle.core_fids.specs.Contents.{content_of}
use Rattle.core_fids.specs.Fids.{is_for_reading, is_for_writing, event_opening, port_opening, watch_opening}
use Rattle.core_fids.specs.Fids.{fid_with_part}
use Rattle.core_answers.specs.Reactions.{session_reaction, comes_first}
use Rattle.core_answers.specs.Laws.{IsAnswered, EachIsAnswered}

-- what is done is answered
abbrev Answers : TBody → Result Reaction Refusal → Type 0
Answers body (Ok d) = IsAnswered body d.answer
Answers body (Err x) = Unit {0}

refusal_answers : (body : TBody) (f : Effect) (x : Refusal) → IsAnswered body (refusal_with_effect f x).answer
refusal_answers body f x = inr (x, refl)

settled : (body : TBody) (x : Result Reaction Refusal) → Answers body x → IsAnswered body (reaction_or_refusal x).answer
settled body (Ok d) h = h
settled body (Err x) h = inr (x, refl)

refused_or : (body : TBody) (b : Bool) (f : Effect) (x : Refusal) (d : Reaction) → IsAnswered body d.answer
    → IsAnswered body (cond b (refusal_with_effect f x) d).answer
refused_or body true f x d h = inr (x, refl)
refused_or body false f x d h = h

done_or : (body : TBody) (b : Bool) (d : Reaction) (x : Refusal) → IsAnswered body d.answer
    → Answers body (cond b (Ok d) (Err x))
done_or body true d x h = h
done_or body false d x h = tt

or_done : (body : TBody) (b : Bool) (x : Refusal) (d : Reaction) → IsAnswered body d.answer
    → Answers body (cond b (Err x) (Ok d))
or_done body true x d h = tt
or_done body false x d h = h

-- ---- message by message

known_answers : (asked msize : ℕ) (version : List ℕ) (known : Bool)
    → IsAnswered (t.Version asked version) (cond {A = Reaction} known
    (does (effect.Begins (Some msize)) [] (r.Version msize (codes "9P2000")))
    (does (effect.Begins None) [] (r.Version msize (codes "unknown")))).answer
known_answers asked msize version true = inl refl
known_answers asked msize version false = inl refl

version_answers : (msize : ℕ) (version : List ℕ) → IsAnswered (t.Version msize version)
    (version_reaction msize version).answer
version_answers msize version =
    refused_or (t.Version msize version) (nat_lt msize 256) (effect.Begins None) refusal.MsizeTooSmall
    (agreement (min msize 65560) version) (known_answers msize (min msize 65560) version (is_version version))

root_answers : (fid afid : ℕ) (uname aname : List ℕ) (o : Option Node)
    → Answers (t.Attach fid afid uname aname) (attach_to fid o)
root_answers fid afid uname aname None = tt
root_answers fid afid uname aname (Some node) = inl refl

attach_answers : (fid afid : ℕ) (uname aname : List ℕ) (o : Option Refusal)
    → Answers (t.Attach fid afid uname aname) (or_attaches o fid aname)
attach_answers fid afid uname aname None = root_answers fid afid uname aname (root_of aname)
attach_answers fid afid uname aname (Some x) = tt

arrives_answers : (fid newfid : ℕ) (names : List (List ℕ)) (world : World) (qids : List Qid) (e : WalkEnd)
    → Answers (t.Walk fid newfid names) (arrives_at newfid world qids e)
arrives_answers fid newfid names world qids (end.At node) = inl refl
arrives_answers fid newfid names world qids (end.Makes file) = inl refl
arrives_answers fid newfid names world qids (end.Stops x) = or_done (t.Walk fid newfid names) (length qids == 0) x
    (does effect.Nothing [] (r.Walk qids)) (inl refl)

or_walks_answers : (body : TBody) (o : Option Refusal) (x : Result Reaction Refusal) → Answers body x
    → Answers body (or_walks o x)
or_walks_answers body None x h = h
or_walks_answers body (Some y) x h = tt

walk_answers : (server : ServerState) (fid newfid : ℕ) (names : List (List ℕ)) (o : Option Fid)
    → Answers (t.Walk fid newfid names) (walk_from server fid newfid names o)
walk_answers server fid newfid names None = tt
walk_answers server fid newfid names (Some f) =
    let led = course (world_by server) server.plumber.names f.node names in
    or_walks_answers (t.Walk fid newfid names) (walk_refusal server fid newfid f) _
    (arrives_answers fid newfid names (world_by server) led.qids led.end)

opens_answers : (o : Option Refusal) (server : ServerState) (fid mode : ℕ) (f : Fid)
    → Answers (t.Open fid mode) (or_opens o server fid f mode)
opens_answers None server fid mode f = inl refl
opens_answers (Some x) server fid mode f = tt

open_answers : (server : ServerState) (fid mode : ℕ) (o : Option Fid)
    → Answers (t.Open fid mode) (open_fid server fid o mode)
open_answers server fid mode None = tt
open_answers server fid mode (Some f) = opens_answers (open_refusal server f mode) server fid mode f

denied_answers : (body : TBody) (o : Option Fid) → Answers body (denial o)
denied_answers body None = tt
denied_answers body (Some f) = tt

or_reads_answers : (body : TBody) (o : Option Refusal) (x : Result Reaction Refusal) → Answers body x
    → Answers body (or_reads o x)
or_reads_answers body None x h = h
or_reads_answers body (Some y) x h = tt

-- a Tread, with the count that is read
module _ (fid offset count : ℕ) (server : ServerState) (asked : Tread) where
  read_dir_answers : (f : Fid) (o : Option ℕ) → Answers (t.Read fid offset count) (read_dir server asked f o)
  read_dir_answers f None = tt
  read_dir_answers f (Some skip) = inl refl

  read_opening_answers : (o : Option ℕ) → Answers (t.Read fid offset count) (read_opening asked o)
  read_opening_answers None = tt
  read_opening_answers (Some opening) = refl

  read_port_answers : (o : Option ℕ) → Answers (t.Read fid offset count) (read_port asked o)
  read_port_answers None = tt
  read_port_answers (Some opening) = refl

  read_watch_answers : (o : Option WatchOpening) → Answers (t.Read fid offset count) (read_watch asked o)
  read_watch_answers None = tt
  read_watch_answers (Some opening) = refl

  data_answers : (w : ℕ) (o : Option Window) → IsAnswered (t.Read fid offset count)
      (data_reaction w asked.count o).answer
  data_answers w None = inl refl
  data_answers w (Some window) = inl refl

  xdata_answers : (w : ℕ) (o : Option Window) → IsAnswered (t.Read fid offset count)
      (xdata_reaction w asked.count o).answer
  xdata_answers w None = inl refl
  xdata_answers w (Some window) = inl refl

  read_content_answers : (f : Fid) (c : Content) → Answers (t.Read fid offset count) (read_content server asked f c)
  read_content_answers f content.Directory = read_dir_answers f (place_at f asked.offset)
  read_content_answers f (content.BodyText w) = inl refl
  read_content_answers f (content.TagText w) = inl refl
  read_content_answers f (content.CtlText w) = inl refl
  read_content_answers f (content.AddrText w) = inl refl
  read_content_answers f (content.DataOf w) = data_answers w (window_at server.windows w)
  read_content_answers f (content.XdataOf w) = xdata_answers w (window_at server.windows w)
  read_content_answers f content.IndexText = inl refl
  read_content_answers f (content.ErrorsOf w) = tt
  read_content_answers f content.ConsErrors = inl refl
  read_content_answers f content.Empty = inl refl
  read_content_answers f (content.EventsOf w) = read_opening_answers (event_opening f)
  read_content_answers f content.SendText = tt
  read_content_answers f content.RulesText = inl refl
  read_content_answers f (content.PortOf k) = read_port_answers (port_opening f)
  read_content_answers f (content.WatchOf file) = read_watch_answers (watch_opening f)

  read_answers : (o : Option Fid) → Answers (t.Read fid offset count) (read_fid server asked o)
  read_answers None = tt
  read_answers (Some f) =
      or_reads_answers (t.Read fid offset count) (use_refusal (world_by server) server.plumber.names f is_for_reading) _
      (read_content_answers f (content_of f.node))

if_lives_answers : (body : TBody) (o : Option Window) (x : Result Reaction Refusal) → Answers body x
    → Answers body (if_lives o x)
if_lives_answers body None x h = tt
if_lives_answers body (Some w) x h = h

append_answers : (windows : List (Option Window)) (offset : ℕ) (asked : Twrite) (f : Fid) (w : ℕ) (decoded : Decoded)
    → Answers (t.Write asked.number offset asked.bytes) (append_reaction windows asked f w decoded)
append_answers windows offset asked f w decoded =
    if_lives_answers (t.Write asked.number offset asked.bytes) (window_at windows w) _
    (done_or (t.Write asked.number offset asked.bytes) (fits_in (text_at windows w) decoded.text)
    (change_reaction asked (appends windows w decoded.text) (fid_with_part f (part_of decoded.rest)))
    refusal.TextTooLong (inl refl))

add_answers : (windows : List (Option Window)) (offset : ℕ) (asked : Twrite) (f : Fid) (w : ℕ) (decoded : Decoded)
    → Answers (t.Write asked.number offset asked.bytes) (add_reaction windows asked f w decoded)
add_answers windows offset asked f w decoded =
    if_lives_answers (t.Write asked.number offset asked.bytes) (window_at windows w) _
    (done_or (t.Write asked.number offset asked.bytes) (fits_tag (right_of (window_at windows w)) decoded.text)
    (change_reaction asked (change.Adds w decoded.text ∷ []) (fid_with_part f (part_of decoded.rest)))
    refusal.TextTooLong (inl refl))

or_errors_answers : (body : TBody) (o : Option Refusal) (d : Reaction) → IsAnswered body d.answer
    → Answers body (or_errors o d)
or_errors_answers body None d h = h
or_errors_answers body (Some x) d h = tt

errors_answers : (windows : List (Option Window)) (offset : ℕ) (asked : Twrite) (f : Fid) (name : List ℕ)
    (decoded : Decoded)
    → Answers (t.Write asked.number offset asked.bytes) (errors_reaction windows asked f name decoded)
errors_answers windows offset asked f name decoded =
    or_errors_answers (t.Write asked.number offset asked.bytes) (errors_refusal windows (named windows name)
    decoded.text) _ (inl refl)

asking_answers : (windows : List (Option Window)) (offset : ℕ) (asked : Twrite) (w : ℕ) (d : Demand)
    → Answers (t.Write asked.number offset asked.bytes) (asking_reaction windows asked w d)
asking_answers windows offset asked w d =
    if_lives_answers (t.Write asked.number offset asked.bytes) (window_at windows w) _ (inl refl)

answer_answers : (offset : ℕ) (asked : Twrite) (o : Option WatchOpening)
    → Answers (t.Write asked.number offset asked.bytes) (answer_reaction asked o)
answer_answers offset asked None = tt
answer_answers offset asked (Some o) = inl refl

watch_answers : (offset : ℕ) (asked : Twrite) (f : Fid) (file : WatchFile)
    → Answers (t.Write asked.number offset asked.bytes) (watch_reaction asked f file)
watch_answers offset asked f watch.Log = tt
watch_answers offset asked f watch.Jobs = answer_answers offset asked (watch_opening f)

addr_set_answers : (fid offset w : ℕ) (bytes : List ℕ) (x : Result Range RangeFault)
    → Answers (t.Write fid offset bytes) (addr_or_refusal w (length bytes) x)
addr_set_answers fid offset w bytes (Ok range) = inl refl
addr_set_answers fid offset w bytes (Err f) = tt

addr_answers : (fid offset w : ℕ) (bytes : List ℕ) (o : Option Window)
    → Answers (t.Write fid offset bytes) (addr_reaction w bytes o)
addr_answers fid offset w bytes None = tt
addr_answers fid offset w bytes (Some window) = addr_set_answers fid offset w bytes (address_range window.body bytes)

data_set_answers : (fid offset w : ℕ) (bytes : List ℕ) (x : Result Taken RangeFault)
    → Answers (t.Write fid offset bytes) (data_or_refusal w (length bytes) x)
data_set_answers fid offset w bytes (Ok taken) = inl refl
data_set_answers fid offset w bytes (Err f) = tt

taking_answers : (fid offset w : ℕ) (bytes : List ℕ) (o : Option Window)
    → Answers (t.Write fid offset bytes) (taking_reaction w bytes o)
taking_answers fid offset w bytes None = tt
taking_answers fid offset w bytes (Some window) = data_set_answers fid offset w bytes (data_taken window.body bytes)

write_content_answers : (windows : List (Option Window)) (offset : ℕ) (asked : Twrite) (f : Fid) (c : Content)
    → Answers (t.Write asked.number offset asked.bytes) (write_content windows asked f c)
write_content_answers windows offset asked f content.Directory = tt
write_content_answers windows offset asked f (content.BodyText w) =
    append_answers windows offset asked f w (decode_part (part_bytes f.part ++ asked.bytes))
write_content_answers windows offset asked f (content.TagText w) =
    add_answers windows offset asked f w (decode_part (part_bytes f.part ++ asked.bytes))
write_content_answers windows offset asked f (content.CtlText w) =
    asking_answers windows offset asked w (demand.Controls w asked.bytes)
write_content_answers windows offset asked f (content.AddrText w) =
    addr_answers asked.number offset w asked.bytes (window_at windows w)
write_content_answers windows offset asked f (content.DataOf w) =
    taking_answers asked.number offset w asked.bytes (window_at windows w)
write_content_answers windows offset asked f (content.XdataOf w) =
    taking_answers asked.number offset w asked.bytes (window_at windows w)
write_content_answers windows offset asked f content.IndexText = tt
write_content_answers windows offset asked f (content.ErrorsOf w) =
    errors_answers windows offset asked f (errors_of (window_at windows w))
    (decode_part (part_bytes f.part ++ asked.bytes))
write_content_answers windows offset asked f content.ConsErrors =
    errors_answers windows offset asked f root_errors (decode_part (part_bytes f.part ++ asked.bytes))
write_content_answers windows offset asked f content.Empty = inl refl
write_content_answers windows offset asked f (content.EventsOf w) =
    asking_answers windows offset asked w (demand.WriteBack w asked.bytes)
write_content_answers windows offset asked f content.SendText = inl refl
write_content_answers windows offset asked f content.RulesText = inl refl
write_content_answers windows offset asked f (content.PortOf k) = tt
write_content_answers windows offset asked f (content.WatchOf file) = watch_answers offset asked f file

write_answers : (server : ServerState) (offset : ℕ) (asked : Twrite) (o : Option Fid)
    → Answers (t.Write asked.number offset asked.bytes) (write_fid server asked o)
write_answers server offset asked None = tt
write_answers server offset asked (Some f) =
    or_reads_answers (t.Write asked.number offset asked.bytes)
    (use_refusal (world_by server) server.plumber.names f is_for_writing) _
    (write_content_answers server.windows offset asked f (content_of f.node))

clunk_answers : (fid : ℕ) (o : Option Fid) → Answers (t.Clunk fid) (clunk_fid fid o)
clunk_answers fid None = tt
clunk_answers fid (Some f) = inl refl

remove_answers : (fid : ℕ) (o : Option Fid) → Answers (t.Remove fid) (remove_fid fid o)
remove_answers fid None = tt
remove_answers fid (Some f) = inr (refusal.PermissionDenied, refl)

stat_answers : (server : ServerState) (fid : ℕ) (o : Option Fid) → Answers (t.Stat fid) (stat_fid server o)
stat_answers server fid None = tt
stat_answers server fid (Some f) =
    done_or (t.Stat fid) (is_live (world_by server) server.plumber.names f.node) _ refusal.WindowDeleted (inl refl)

served_answers : (server : ServerState) (body : TBody) → Answers body (session_reaction server body)
served_answers server (t.Version msize version) = version_answers msize version
served_answers server (t.Auth afid uname aname) = tt
served_answers server (t.Flush oldtag) = inl refl
served_answers server (t.Attach fid afid uname aname) =
    attach_answers fid afid uname aname (attach_refusal server fid afid)
served_answers server (t.Walk fid newfid names) = walk_answers server fid newfid names (fid_by server fid)
served_answers server (t.Open fid mode) = open_answers server fid mode (fid_by server fid)
served_answers server (t.Create fid name perm mode) =
    denied_answers (t.Create fid name perm mode) (fid_by server fid)
served_answers server (t.Read fid offset count) =
    read_answers fid offset count server (lowered server (record { number = fid; offset = offset; count = count }))
    (fid_by server fid)
served_answers server (t.Write fid offset bytes) =
    write_answers server offset (record { number = fid; bytes = bytes }) (fid_by server fid)
served_answers server (t.Clunk fid) = clunk_answers fid (fid_by server fid)
served_answers server (t.Remove fid) = remove_answers fid (fid_by server fid)
served_answers server (t.Stat fid) = stat_answers server fid (fid_by server fid)
served_answers server (t.Wstat fid stat) = denied_answers (t.Wstat fid stat) (fid_by server fid)

-- ---- all messages

pub each_is_answered : EachIsAnswered
each_is_answered server body =
    refused_or body (comes_first server body) effect.Nothing refusal.VersionFirst _
    (settled body (session_reaction server body) (served_answers server body))

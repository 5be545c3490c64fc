-- What messages do that aren't refused: each is answered by its own R message, and a Twrite of a fid of an event file,
-- and no other, writes an item back.
use Rattle.std.proofs.Common.{◌≡◌, ◌⊎◌, inl, inr, ℕ, Bool, true, false, cond, List, [], length, Option, Some, None}
use Rattle.std.proofs.Common.{Result, Ok, Err, min, nat_lt, codes, ◌==◌, ◌+◌, refl, sym, ap, subst}
use Rattle.am_text.specs.Pieces.{Decoded}
use Rattle.am_text.specs.declared.range.Range.{Range}
use Rattle.ninep_types.specs.declared.message.Qid.{Qid}
use Rattle.ninep_types.specs.declared.message.TBody.{TBody}
use Rattle.ninep_types.specs.declared.message.TBody.TheVariants as t
use Rattle.ninep_types.specs.declared.message.RBody.TheVariants as r
use Rattle.ninep_types.specs.Kinds.{rattach, rwalk, ropen, rcreate, rread, rwrite, rclunk, rstat, rwstat}
use Rattle.ninep_types.specs.Spelling.{kind_r, kind_t}
use Rattle.acme_tree.specs.Access.{truncates}
use Rattle.acme_tree.specs.Trees.{is_live}
use Rattle.acme_tree.specs.declared.node.Node.{Node}
use Rattle.acme_tree.specs.declared.node.Node.TheVariants as nodes
use Rattle.acme_tree.specs.declared.node.WinFile.TheVariants as file
use Rattle.acme_tree.specs.declared.node.World.{World}
use Rattle.acme_watch.specs.declared.types.WatchFile.{WatchFile}
use Rattle.acme_watch.specs.declared.types.WatchFile.TheVariants.{Log, Jobs}
use Rattle.fid_table.specs.declared.types.Fid.{Fid}
use Rattle.fid_table.specs.Tables.{Tables, fid_of}
use Rattle.core_addresses.specs.Data.{data_taken}
use Rattle.core_addresses.specs.Ranges.{address_range}
use Rattle.core_addresses.specs.declared.data.Taken.{Taken}
use Rattle.core_addresses.specs.declared.fault.RangeFault.{RangeFault}
use Rattle.core_windows.specs.Windows.{Window, window_at, named}
use Rattle.core_fids.specs.declared.content.Content.{Content}
use Rattle.core_fids.specs.declared.content.Content.TheVariants as content
use Rattle.core_fids.specs.declared.effect.Answer.{Answer}
use Rattle.core_fids.specs.declared.effect.Answer.TheVariants.{Says, Reads, ReadsPort, ReadsWatch}
use Rattle.core_fids.specs.declared.effect.Reaction.{Reaction}
use Rattle.core_fids.specs.declared.effect.Effect.TheVariants as effect
use Rattle.core_fids.specs.declared.effect.Demand.{Demand}
use Rattle.core_fids.specs.declared.effect.Demand.TheVariants as demand
use Rattle.core_fids.specs.declared.effect.WatchOpening.{WatchOpening}
use Rattle.core_fids.specs.declared.refusal.Refusal.{Refusal}
use Rattle.core_fids.specs.declared.refusal.Refusal.TheVariants as refusal
use Rattle.core_fids.specs.declared.walking.WalkEnd.{WalkEnd}
use Rattle.core_fids.specs.declared.walking.WalkEnd.TheVariants as end
use Rattle.core_answers.specs.Addressing.{data_reaction, xdata_reaction, addr_or_refusal, addr_reaction}
use Rattle.core_answers.specs.Addressing.{data_or_refusal, taking_reaction}
use Rattle.core_fids.specs.Attaching.{is_version, agreement, root_of, attach_refusal, attach_to, or_attaches}
use Rattle.core_fids.specs.Contents.{content_of}
use Rattle.core_answers.specs.Reactions.{session_reaction, comes_first, reaction}
use Rattle.core_answers.specs.Erring.{fits_in, fits_tag, errors_of, root_errors, errors_refusal}
use Rattle.core_fids.specs.Fids.{event_opening, port_opening, watch_opening, holds_rules, is_for_reading}
use Rattle.core_fids.specs.Fids.{is_for_writing}
use Rattle.core_fids.specs.Opening.{opening_demand, open_refusal, or_opens, open_fid, denial, clunk_fid, remove_fid}
use Rattle.core_fids.specs.Plainly.{does, demands}
use Rattle.core_fids.specs.Servers.{ServerState, world_by, fid_by}
use Rattle.core_fids.specs.Directories.{Tread, place_at, read_dir, stat_fid}
use Rattle.core_answers.specs.Reading.{read_opening, read_port, read_watch, read_content, use_refusal, or_reads}
use Rattle.core_answers.specs.Reading.{lowered, read_fid}
use Rattle.core_fids.specs.Refusals.{refusal_text, refusal_with_effect, reaction_or_refusal}
use Rattle.core_intents.specs.Intents.{is_refusal}
use Rattle.core_laws.specs.Refusals.{refused, remove_refusal, session_refusal}
use Rattle.core_answers.specs.Texts.{text_at, right_of}
use Rattle.core_fids.specs.Walking.{course, walk_refusal, arrives_at, or_walks, walk_from}
use Rattle.core_answers.specs.Writing.{Twrite, whole_runes, if_lives, append_reaction, add_reaction, or_errors}
use Rattle.core_answers.specs.Writing.{errors_reaction, answer_reaction, watch_reaction, write_content, write_fid}

-- whether an item is written back
abbrev pub is_back : Demand → Bool
is_back demand.Nothing = false
is_back (demand.Controls w text) = false
is_back (demand.WriteBack w text) = true
is_back demand.ClearsRules = false
is_back (demand.AddsRules text) = false
is_back (demand.AddsRest text) = false
is_back (demand.Sends text) = false
is_back (demand.Answers opening text) = false

-- an answer of this type, which is no refusal
abbrev pub Owns : ℕ → Answer → Type 0
Owns kind (Says body) = (kind_r body ≡ kind) × (is_refusal (Says body) ≡ false)
Owns kind (Reads fid opening count) = kind ≡ rread
Owns kind (ReadsPort fid opening count) = kind ≡ rread
Owns kind (ReadsWatch fid opening count) = kind ≡ rread

-- no item is written back, and the answer is such
abbrev Plain : ℕ → Reaction → Type 0
Plain kind d = (is_back d.demand ≡ false) × Owns kind d.answer

abbrev Plainly : ℕ → Result Reaction Refusal → Type 0
Plainly kind (Ok d) = Plain kind d
Plainly kind (Err x) = Unit {0}

done_or : (kind : ℕ) (b : Bool) (d : Reaction) (x : Refusal) → Plain kind d → Plainly kind (cond b (Ok d) (Err x))
done_or kind true d x h = h
done_or kind false d x h = tt

or_done : (kind : ℕ) (b : Bool) (x : Refusal) (d : Reaction) → Plain kind d → Plainly kind (cond b (Err x) (Ok d))
or_done kind true x d h = tt
or_done kind false x d h = h

-- ---- message by message

attaches_at : (fid : ℕ) (o : Option Node) → Plainly rattach (attach_to fid o)
attaches_at fid None = tt
attaches_at fid (Some n) = (refl, (refl, refl))

attaches : (fid : ℕ) (aname : List ℕ) (o : Option Refusal) → Plainly rattach (or_attaches o fid aname)
attaches fid aname None = attaches_at fid (root_of aname)
attaches fid aname (Some x) = tt

arrives : (newfid : ℕ) (world : World) (qids : List Qid) (e : WalkEnd) → Plainly rwalk (arrives_at newfid world qids e)
arrives newfid world qids (end.At n) = (refl, (refl, refl))
arrives newfid world qids (end.Makes f) = (refl, (refl, refl))
arrives newfid world qids (end.Stops x) = or_done rwalk (length qids == 0) x (does effect.Nothing [] (r.Walk qids))
    (refl, (refl, refl))

or_walks_plain : (kind : ℕ) (o : Option Refusal) (x : Result Reaction Refusal) → Plainly kind x
    → Plainly kind (or_walks o x)
or_walks_plain kind None x h = h
or_walks_plain kind (Some y) x h = tt

walks : (server : ServerState) (number newfid : ℕ) (names : List (List ℕ)) (o : Option Fid)
    → Plainly rwalk (walk_from server number newfid names o)
walks server number newfid names None = tt
walks server number newfid names (Some f) =
    let led = course (world_by server) server.plumber.names f.node names in
    or_walks_plain rwalk (walk_refusal server number newfid f) _ (arrives newfid (world_by server) led.qids led.end)

opening_plain : (truncated : Bool) (c : Content) → is_back (opening_demand truncated c) ≡ false
opening_plain false c = refl
opening_plain true content.RulesText = refl
opening_plain true c = refl

opens_plain : (o : Option Refusal) (server : ServerState) (number : ℕ) (f : Fid) (mode : ℕ)
    → Plainly ropen (or_opens o server number f mode)
opens_plain None server number f mode = (opening_plain (truncates mode) (content_of f.node), (refl, refl))
opens_plain (Some x) server number f mode = tt

opens : (server : ServerState) (number mode : ℕ) (o : Option Fid) → Plainly ropen (open_fid server number o mode)
opens server number mode None = tt
opens server number mode (Some f) = opens_plain (open_refusal server f mode) server number f mode

denied : (kind : ℕ) (o : Option Fid) → Plainly kind (denial o)
denied kind None = tt
denied kind (Some f) = tt

or_reads_plain : (kind : ℕ) (o : Option Refusal) (x : Result Reaction Refusal) → Plainly kind x
    → Plainly kind (or_reads o x)
or_reads_plain kind None x h = h
or_reads_plain kind (Some y) x h = tt

read_dir_plain : (server : ServerState) (asked : Tread) (f : Fid) (o : Option ℕ)
    → Plainly rread (read_dir server asked f o)
read_dir_plain server asked f None = tt
read_dir_plain server asked f (Some skip) = (refl, (refl, refl))

read_opening_plain : (asked : Tread) (o : Option ℕ) → Plainly rread (read_opening asked o)
read_opening_plain asked None = tt
read_opening_plain asked (Some opening) = (refl, refl)

read_port_plain : (asked : Tread) (o : Option ℕ) → Plainly rread (read_port asked o)
read_port_plain asked None = tt
read_port_plain asked (Some opening) = (refl, refl)

read_watch_plain : (asked : Tread) (o : Option WatchOpening) → Plainly rread (read_watch asked o)
read_watch_plain asked None = tt
read_watch_plain asked (Some opening) = (refl, refl)

data_plain : (w count : ℕ) (o : Option Window) → Plain rread (data_reaction w count o)
data_plain w count None = (refl, (refl, refl))
data_plain w count (Some window) = (refl, (refl, refl))

xdata_plain : (w count : ℕ) (o : Option Window) → Plain rread (xdata_reaction w count o)
xdata_plain w count None = (refl, (refl, refl))
xdata_plain w count (Some window) = (refl, (refl, refl))

read_content_plain : (server : ServerState) (asked : Tread) (f : Fid) (c : Content)
    → Plainly rread (read_content server asked f c)
read_content_plain server asked f content.Directory = read_dir_plain server asked f (place_at f asked.offset)
read_content_plain server asked f (content.BodyText w) = (refl, (refl, refl))
read_content_plain server asked f (content.TagText w) = (refl, (refl, refl))
read_content_plain server asked f (content.CtlText w) = (refl, (refl, refl))
read_content_plain server asked f (content.AddrText w) = (refl, (refl, refl))
read_content_plain server asked f (content.DataOf w) = data_plain w asked.count (window_at server.windows w)
read_content_plain server asked f (content.XdataOf w) = xdata_plain w asked.count (window_at server.windows w)
read_content_plain server asked f content.IndexText = (refl, (refl, refl))
read_content_plain server asked f (content.ErrorsOf w) = tt
read_content_plain server asked f content.ConsErrors = (refl, (refl, refl))
read_content_plain server asked f content.Empty = (refl, (refl, refl))
read_content_plain server asked f (content.EventsOf w) = read_opening_plain asked (event_opening f)
read_content_plain server asked f content.SendText = tt
read_content_plain server asked f content.RulesText = (refl, (refl, refl))
read_content_plain server asked f (content.PortOf k) = read_port_plain asked (port_opening f)
read_content_plain server asked f (content.WatchOf file) = read_watch_plain asked (watch_opening f)

reads : (server : ServerState) (asked : Tread) (o : Option Fid) → Plainly rread (read_fid server asked o)
reads server asked None = tt
reads server asked (Some f) =
    or_reads_plain rread (use_refusal (world_by server) server.plumber.names f is_for_reading) _
    (read_content_plain server asked f (content_of f.node))

rest_plain : (b : Bool) (text : List ℕ) → is_back (cond b (demand.AddsRest text) demand.Nothing) ≡ false
rest_plain true text = refl
rest_plain false text = refl

clunks : (number : ℕ) (o : Option Fid) → Plainly rclunk (clunk_fid number o)
clunks number None = tt
clunks number (Some f) = (rest_plain (holds_rules f) f.held, (refl, refl))

stats : (server : ServerState) (o : Option Fid) → Plainly rstat (stat_fid server o)
stats server None = tt
stats server (Some f) =
    done_or rstat (is_live (world_by server) server.plumber.names f.node) _ refusal.WindowDeleted (refl, (refl, refl))

-- ---- a Twrite

-- the message is a Twrite of these bytes to a fid of a window's event file, which asks for the item that they name, and
-- nothing else
pub record IsWriteBack (tables : Tables) (conn : ℕ) (body : TBody) (d : Reaction) : Type 0 where
  pub fid : ℕ
  pub offset : ℕ
  pub bytes : List ℕ
  pub window : ℕ
  pub value : Fid
  pub is : body ≡ t.Write fid offset bytes
  pub there : fid_of tables conn fid ≡ Some value
  pub node : value.node ≡ nodes.File window file.Event
  pub asks : d ≡ demands (demand.WriteBack window bytes) (length bytes)

module _ (server : ServerState) (fid offset : ℕ) (bytes : List ℕ) where
  abbrev Right : Reaction → Type 0
  Right d = ((is_back d.demand ≡ false) ⊎ IsWriteBack server.tables server.conn (t.Write fid offset bytes) d)
      × Owns rwrite d.answer

  abbrev Rightly : Result Reaction Refusal → Type 0
  Rightly (Ok d) = Right d
  Rightly (Err x) = Unit {0}

  plainly : (x : Result Reaction Refusal) → Plainly rwrite x → Rightly x
  plainly (Ok d) h = (inl h.0, h.1)
  plainly (Err x) h = tt

  or_reads_right : (o : Option Refusal) (x : Result Reaction Refusal) → Rightly x → Rightly (or_reads o x)
  or_reads_right None x h = h
  or_reads_right (Some y) x h = tt

  if_lives_right : (o : Option Window) (x : Result Reaction Refusal) → Rightly x → Rightly (if_lives o x)
  if_lives_right None x h = tt
  if_lives_right (Some w) x h = h

  if_lives_plain : (o : Option Window) (x : Result Reaction Refusal) → Plainly rwrite x → Plainly rwrite (if_lives o x)
  if_lives_plain None x h = tt
  if_lives_plain (Some w) x h = h

  append_plain : (windows : List (Option Window)) (asked : Twrite) (f : Fid) (w : ℕ) (decoded : Decoded)
      → Plainly rwrite (append_reaction windows asked f w decoded)
  append_plain windows asked f w decoded =
      if_lives_plain (window_at windows w) _ (done_or rwrite (fits_in (text_at windows w) decoded.text) _
      refusal.TextTooLong (refl, (refl, refl)))

  add_plain : (windows : List (Option Window)) (asked : Twrite) (f : Fid) (w : ℕ) (decoded : Decoded)
      → Plainly rwrite (add_reaction windows asked f w decoded)
  add_plain windows asked f w decoded =
      if_lives_plain (window_at windows w) _ (done_or rwrite (fits_tag (right_of (window_at windows w)) decoded.text) _
      refusal.TextTooLong (refl, (refl, refl)))

  or_errors_plain : (o : Option Refusal) (d : Reaction) → Plain rwrite d → Plainly rwrite (or_errors o d)
  or_errors_plain None d h = h
  or_errors_plain (Some x) d h = tt

  errors_plain : (windows : List (Option Window)) (asked : Twrite) (f : Fid) (name : List ℕ) (decoded : Decoded)
      → Plainly rwrite (errors_reaction windows asked f name decoded)
  errors_plain windows asked f name decoded =
      or_errors_plain (errors_refusal windows (named windows name) decoded.text) _ (refl, (refl, refl))

  addr_set_plain : (w count : ℕ) (x : Result Range RangeFault) → Plainly rwrite (addr_or_refusal w count x)
  addr_set_plain w count (Ok range) = (refl, (refl, refl))
  addr_set_plain w count (Err f) = tt

  addr_plain : (w : ℕ) (o : Option Window) → Plainly rwrite (addr_reaction w bytes o)
  addr_plain w None = tt
  addr_plain w (Some window) = addr_set_plain w (length bytes) (address_range window.body bytes)

  data_set_plain : (w count : ℕ) (x : Result Taken RangeFault) → Plainly rwrite (data_or_refusal w count x)
  data_set_plain w count (Ok taken) = (refl, (refl, refl))
  data_set_plain w count (Err f) = tt

  taking_plain : (w : ℕ) (o : Option Window) → Plainly rwrite (taking_reaction w bytes o)
  taking_plain w None = tt
  taking_plain w (Some window) = data_set_plain w (length bytes) (data_taken window.body bytes)

  answers_plain : (asked : Twrite) (o : Option WatchOpening) → Plainly rwrite (answer_reaction asked o)
  answers_plain asked None = tt
  answers_plain asked (Some opening) = (refl, (refl, refl))

  watch_plain : (asked : Twrite) (f : Fid) (file : WatchFile) → Plainly rwrite (watch_reaction asked f file)
  watch_plain asked f Log = tt
  watch_plain asked f Jobs = answers_plain asked (watch_opening f)

  -- the node of an event file
  event_node : (n : Node) (w : ℕ) → content_of n ≡ content.EventsOf w → n ≡ nodes.File w file.Event
  event_node nodes.Root w e = absurd cc
  event_node nodes.Cons w e = absurd cc
  event_node nodes.ConsCtl w e = absurd cc
  event_node nodes.Index w e = absurd cc
  event_node nodes.Jobs w e = absurd cc
  event_node nodes.Label w e = absurd cc
  event_node nodes.Log w e = absurd cc
  event_node nodes.NewDir w e = absurd cc
  event_node nodes.PlumbRoot w e = absurd cc
  event_node nodes.Send w e = absurd cc
  event_node nodes.Rules w e = absurd cc
  event_node (nodes.Window v) w e = absurd cc
  event_node (nodes.Port k) w e = absurd cc
  event_node (nodes.File v file.Addr) w e = absurd cc
  event_node (nodes.File v file.Body) w e = absurd cc
  event_node (nodes.File v file.Ctl) w e = absurd cc
  event_node (nodes.File v file.Data) w e = absurd cc
  event_node (nodes.File v file.Errors) w e = absurd cc
  event_node (nodes.File v file.Event) w e = let same : v ≡ w = cc in ap (λ (x : ℕ). nodes.File x file.Event) same
  event_node (nodes.File v file.Tag) w e = absurd cc
  event_node (nodes.File v file.Xdata) w e = absurd cc

  abbrev this_write : Twrite
  this_write = record { number = fid; bytes = bytes }

  content_right : (windows : List (Option Window)) (f : Fid) (c : Content) → fid_by server fid ≡ Some f
      → content_of f.node ≡ c
      → Rightly (write_content windows this_write f c)
  content_right windows f content.Directory there e = tt
  content_right windows f (content.BodyText w) there e = plainly _
      (append_plain windows this_write f w (whole_runes f bytes))
  content_right windows f (content.TagText w) there e = plainly _ (add_plain windows this_write f w
      (whole_runes f bytes))
  content_right windows f (content.CtlText w) there e = plainly _ (if_lives_plain (window_at windows w) _
      (refl, (refl, refl)))
  content_right windows f (content.AddrText w) there e = plainly _ (addr_plain w (window_at windows w))
  content_right windows f (content.DataOf w) there e = plainly _ (taking_plain w (window_at windows w))
  content_right windows f (content.XdataOf w) there e = plainly _ (taking_plain w (window_at windows w))
  content_right windows f content.IndexText there e = tt
  content_right windows f (content.ErrorsOf w) there e = plainly _
      (errors_plain windows this_write f (errors_of (window_at windows w)) (whole_runes f bytes))
  content_right windows f content.ConsErrors there e = plainly _ (errors_plain windows this_write f root_errors
      (whole_runes f bytes))
  content_right windows f content.Empty there e = (inl refl, (refl, refl))
  content_right windows f (content.EventsOf w) there e = if_lives_right (window_at windows w) _ (
    inr (record {
      fid = fid;
      offset = offset;
      bytes = bytes;
      window = w;
      value = f;
      is = refl;
      there = there;
      node = event_node f.node w e;
      asks = refl;
    }),
    (refl, refl),
  )
  content_right windows f content.SendText there e = (inl refl, (refl, refl))
  content_right windows f content.RulesText there e = (inl refl, (refl, refl))
  content_right windows f (content.PortOf k) there e = tt
  content_right windows f (content.WatchOf file) there e = plainly _ (watch_plain this_write f file)

  write_right : (o : Option Fid) → fid_by server fid ≡ o → Rightly (write_fid server this_write o)
  write_right None there = tt
  write_right (Some f) there =
      or_reads_right (use_refusal (world_by server) server.plumber.names f is_for_writing) _
      (content_right server.windows f (content_of f.node) there refl)

-- ---- all messages

-- the refusal's text, where there is one, or else an answer of the message's own type
abbrev pub IsExact : TBody → Option Refusal → Answer → Type 0
IsExact body (Some x) a = a ≡ Says (r.Error (refusal_text x))
IsExact body None a = Owns (kind_t body + 1) a

module _ (server : ServerState) where
  abbrev pub Sound : TBody → Option Refusal → Reaction → Type 0
  Sound body o d = ((is_back d.demand ≡ false) ⊎ IsWriteBack server.tables server.conn body d) × IsExact body o d.answer

  abbrev Soundly : TBody → Option Refusal → Result Reaction Refusal → Type 0
  Soundly body o (Ok d) = Sound body o d
  Soundly body o (Err x) = o ≡ Some x

  soundly : (body : TBody) (x : Result Reaction Refusal) → Plainly (kind_t body + 1) x → Soundly body (refused x) x
  soundly body (Ok d) h = (inl h.0, h.1)
  soundly body (Err x) h = refl

  written : (fid offset : ℕ) (bytes : List ℕ) (x : Result Reaction Refusal) → Rightly server fid offset bytes x
      → Soundly (t.Write fid offset bytes) (refused x) x
  written fid offset bytes (Ok d) h = h
  written fid offset bytes (Err x) h = refl

  removed : (fid : ℕ) (o : Option Fid) → Soundly (t.Remove fid) (remove_refusal o) (remove_fid fid o)
  removed fid None = refl
  removed fid (Some f) = (inl (rest_plain (holds_rules f) f.held), refl)

  agrees : (asked msize : ℕ) (version : List ℕ) (same : Bool)
      → Sound (t.Version asked version) None (cond {A = Reaction} same
      (does (effect.Begins (Some msize)) [] (r.Version msize (codes "9P2000")))
      (does (effect.Begins None) [] (r.Version msize (codes "unknown"))))
  agrees asked msize version true = (inl refl, (refl, refl))
  agrees asked msize version false = (inl refl, (refl, refl))

  versioned : (msize : ℕ) (version : List ℕ) (low : Bool)
      → Sound (t.Version msize version) (cond low (Some refusal.MsizeTooSmall) None)
      (cond low (refusal_with_effect (effect.Begins None) refusal.MsizeTooSmall)
      (agreement (min msize 65560) version))
  versioned msize version true = (inl refl, refl)
  versioned msize version false = agrees msize (min msize 65560) version (is_version version)

  answered : (body : TBody) → Soundly body (session_refusal server body) (session_reaction server body)
  answered (t.Version msize version) = versioned msize version (nat_lt msize 256)
  answered (t.Auth afid uname aname) = refl
  answered (t.Flush oldtag) = (inl refl, (refl, refl))
  answered (t.Attach fid afid uname aname) = soundly (t.Attach fid afid uname aname) _
      (attaches fid aname (attach_refusal server fid afid))
  answered (t.Walk fid newfid names) = soundly (t.Walk fid newfid names) _
      (walks server fid newfid names (fid_by server fid))
  answered (t.Open fid mode) = soundly (t.Open fid mode) _ (opens server fid mode (fid_by server fid))
  answered (t.Create fid name perm mode) = soundly (t.Create fid name perm mode) _ (denied rcreate (fid_by server fid))
  answered (t.Read fid offset count) =
      soundly (t.Read fid offset count) _
      (reads server (lowered server (record { number = fid; offset = offset; count = count })) (fid_by server fid))
  answered (t.Write fid offset bytes) =
      written fid offset bytes (write_fid server (record { number = fid; bytes = bytes }) (fid_by server fid))
      (write_right server fid offset bytes (fid_by server fid) refl)
  answered (t.Clunk fid) = soundly (t.Clunk fid) _ (clunks fid (fid_by server fid))
  answered (t.Remove fid) = removed fid (fid_by server fid)
  answered (t.Stat fid) = soundly (t.Stat fid) _ (stats server (fid_by server fid))
  answered (t.Wstat fid stat) = soundly (t.Wstat fid stat) _ (denied rwstat (fid_by server fid))

  settled : (body : TBody) (o : Option Refusal) (x : Result Reaction Refusal) → Soundly body o x
      → Sound body o (reaction_or_refusal x)
  settled body o (Ok d) h = h
  settled body o (Err x) h = (
    inl refl,
    subst (λ (p : Option Refusal). IsExact body p (Says (r.Error (refusal_text x))))
        (sym h) refl,
  )

  first_or : (body : TBody) (o : Option Refusal) (b : Bool) (d : Reaction) → Sound body o d
      → Sound body (cond b (Some refusal.VersionFirst) o) (cond b (refusal_with_effect effect.Nothing
      refusal.VersionFirst) d)
  first_or body o true d h = (inl refl, refl)
  first_or body o false d h = h

  -- A reaction asks for an item only where its message is such a Twrite; and it answers the refusal, where there is
  -- one.
  pub reaction_sound : (body : TBody)
      → Sound body (cond (comes_first server body) (Some refusal.VersionFirst) (session_refusal server body))
      (reaction server body)
  reaction_sound body =
      first_or body _ (comes_first server body) _ (settled body _ (session_reaction server body) (answered body))

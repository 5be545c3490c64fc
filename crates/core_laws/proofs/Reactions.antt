-- What messages do to fids with openings: these are open, and keep their openings until they are freed; a read is one
-- of such a fid.
use Rattle.std.proofs.Common.{◌≡◌, ◌⊎◌, inl, inr, ℕ, Bool, true, false, not, cond, eqb, List, [], ◌++◌, length, Option}
use Rattle.std.proofs.Common.{Some, None, Result, Ok, Err, min, codes, nat_lt, ◌==◌, refl, sym, ap, subst, ◌∙◌}
use Rattle.std.proofs.lemmas.Bool.{eqb-true, not-false}
use Rattle.am_text.specs.Part.{part_bytes}
use Rattle.am_text.specs.Pieces.{Decoded, decode_part}
use Rattle.am_text.specs.declared.range.Range.{Range}
use Rattle.ninep_types.specs.declared.message.Qid.{Qid}
use Rattle.ninep_types.specs.declared.message.TBody.{TBody}
use Rattle.ninep_types.specs.declared.message.TBody.TheVariants as t
use Rattle.ninep_types.specs.declared.message.RBody.TheVariants as r
use Rattle.acme_tree.specs.Trees.{is_live}
use Rattle.acme_tree.specs.declared.node.Node.{Node}
use Rattle.acme_tree.specs.declared.node.World.{World}
use Rattle.acme_watch.specs.declared.types.WatchFile.{WatchFile}
use Rattle.acme_watch.specs.declared.types.WatchFile.TheVariants.{Log, Jobs}
use Rattle.fid_table.specs.declared.types.Fid.{Fid}
use Rattle.fid_table.specs.Tables.{Tables, fid_of}
use Rattle.core_addresses.specs.Data.{data_taken}
use Rattle.core_addresses.specs.Ranges.{address_range}
use Rattle.core_addresses.specs.declared.data.Taken.{Taken}
use Rattle.core_addresses.specs.declared.fault.RangeFault.{RangeFault}
use Rattle.core_windows.specs.Windows.{Window, window_at, named}
use Rattle.core_fids.specs.declared.content.Content.{Content}
use Rattle.core_fids.specs.declared.content.Content.TheVariants as content
use Rattle.core_fids.specs.declared.effect.Answer.{Answer}
use Rattle.core_fids.specs.declared.effect.Answer.TheVariants.{Says, Reads, ReadsPort, ReadsWatch}
use Rattle.core_fids.specs.declared.effect.Reaction.{Reaction}
use Rattle.core_fids.specs.declared.effect.Effect.{Effect}
use Rattle.core_fids.specs.declared.effect.Effect.TheVariants as effect
use Rattle.core_fids.specs.declared.effect.EventChange.{EventChange}
use Rattle.core_fids.specs.declared.effect.EventChange.TheVariants as events
use Rattle.core_fids.specs.declared.effect.Demand.TheVariants as demand
use Rattle.core_fids.specs.declared.effect.WatchOpening.{WatchOpening}
use Rattle.core_fids.specs.declared.server.Opened.{Opened}
use Rattle.core_fids.specs.declared.refusal.Refusal.{Refusal}
use Rattle.core_fids.specs.declared.refusal.Refusal.TheVariants as refusal
use Rattle.core_fids.specs.declared.walking.WalkEnd.{WalkEnd}
use Rattle.core_fids.specs.declared.walking.WalkEnd.TheVariants as end
use Rattle.core_answers.specs.Addressing.{data_reaction, xdata_reaction, addr_or_refusal, addr_reaction}
use Rattle.core_answers.specs.Addressing.{data_or_refusal, taking_reaction}
use Rattle.core_fids.specs.Attaching.{is_version, agreement, version_reaction, root_of, attach_refusal, attach_to}
use Rattle.core_fids.specs.Attaching.{or_attaches}
use Rattle.core_fids.specs.Contents.{content_of}
use Rattle.core_answers.specs.Reactions.{session_reaction, comes_first, reaction}
use Rattle.core_answers.specs.Erring.{fits_in, fits_tag, errors_of, root_errors, errors_refusal}
use Rattle.core_fids.specs.Fids.{event_opening, port_opening, watch_opening, is_there, is_used, is_open, opened_fid}
use Rattle.core_fids.specs.Fids.{is_for_reading, is_for_writing}
use Rattle.core_fids.specs.Opening.{first_refusal, content_refusal, opening_events, opening_of, open_refusal, or_opens}
use Rattle.core_fids.specs.Opening.{open_fid, denial, clunk_fid, remove_fid}
use Rattle.core_fids.specs.Plainly.{does}
use Rattle.core_fids.specs.Plumbers.{Plumber}
use Rattle.core_fids.specs.Servers.{ServerState, world_by, fid_by}
use Rattle.core_fids.specs.Directories.{Tread, place_at, read_dir, stat_fid}
use Rattle.core_answers.specs.Reading.{read_opening, read_port, read_watch, read_content, use_refusal, or_reads}
use Rattle.core_answers.specs.Reading.{lowered, read_fid}
use Rattle.core_fids.specs.Refusals.{refusal_with_effect, reaction_or_refusal}
use Rattle.core_answers.specs.Texts.{text_at, right_of}
use Rattle.core_fids.specs.Walking.{course, new_refusal, walk_refusal, arrives_at, or_walks, walk_from}
use Rattle.core_answers.specs.Writing.{Twrite, if_lives, append_reaction, add_reaction, or_errors, errors_reaction}
use Rattle.core_answers.specs.Writing.{answer_reaction, watch_reaction, write_content, write_fid}

-- a fid that isn't open has no opening
abbrev pub IsModed : Fid → Type 0
IsModed f = f.mode ≡ None → f.opening ≡ None

-- it has the opening and the node of the one in whose place it stands
abbrev pub IsStill : Tables → ℕ → ℕ → Fid → Type 0
IsStill tables conn number value = (f : Fid) × (fid_of tables conn number ≡ Some f) × (value.opening ≡ f.opening)
    × (value.node ≡ f.node)

-- The fid that is put is such a one, and has the opening and the node of the one in whose place it stands, where that
-- has an opening. What has an opening besides is newly opened.
pub record IsPut (New : Fid → Type 0) (tables : Tables) (conn number : ℕ) (value : Fid) : Type 0 where
  pub moded : IsModed value
  pub keeps : (f : Fid) (o : ℕ) → fid_of tables conn number ≡ Some f → f.opening ≡ Some o → (value.opening ≡ Some o)
      × (value.node ≡ f.node)
  pub from : (o : ℕ) → value.opening ≡ Some o → IsStill tables conn number value ⊎ New value

abbrev pub PutsSane : (Fid → Type 0) → Tables → ℕ → Effect → Type 0
PutsSane New tables conn effect.Nothing = Unit {0}
PutsSane New tables conn (effect.Begins msize) = Unit {0}
PutsSane New tables conn (effect.Puts number value) = IsPut New tables conn number value
PutsSane New tables conn (effect.Frees number) = Unit {0}

-- A fid is newly opened by what this does to openings: its node is there, it has the next number, and that can be
-- counted.
pub record IsNew (world : World) (plumber : Plumber) (opened : Opened) (e : EventChange) (value : Fid) : Type 0 where
  pub live : is_live world plumber.names value.node ≡ true
  pub opening : value.opening ≡ opening_of plumber opened (content_of value.node)
  pub events : e ≡ opening_events (content_of value.node)
  pub counted : content_refusal plumber opened (content_of value.node) ≡ None

-- so the fid that is put has it, too
pub keeps : (which : Node → Option ℕ → Option ℕ) (New : Fid → Type 0) (tables : Tables) (conn number : ℕ) (value : Fid)
    → ((node : Node) (o : Option ℕ) (x : ℕ) → which node o ≡ Some x → o ≡ Some x)
    → IsPut New tables conn number value → (f : Fid) (o : ℕ) → fid_of tables conn number ≡ Some f
    → which f.node f.opening ≡ Some o → which value.node value.opening ≡ Some o
keeps which New tables conn number value own put f o is opens =
    let mine : f.opening ≡ Some o = own f.node f.opening o opens in
    let both : (value.opening ≡ Some o) × (value.node ≡ f.node) = put.keeps f o is mine in
    ap (λ (n : Node). which n value.opening) both.1 ∙ ap (which f.node) (both.0 ∙ sym mine) ∙ opens

-- the opening is that of this fid, of a file whose reads wait
pub record HasOpening {O : Type 0} (which : Fid → Option O) (tables : Tables) (conn number : ℕ) (opening : O) : Type 0
  where
    pub fid : Fid
    pub is : fid_of tables conn number ≡ Some fid
    pub opens : which fid ≡ Some opening

-- what reads does nothing else
abbrev pub ReadsSane : Tables → ℕ → Reaction → Answer → Type 0
ReadsSane tables conn d (Says body) = Unit {0}
ReadsSane tables conn d (Reads number opening count) =
    (d.effect ≡ effect.Nothing) × HasOpening event_opening tables conn number opening × (d.events ≡ events.Nothing)
    × (d.changes ≡ []) × (d.demand ≡ demand.Nothing)
ReadsSane tables conn d (ReadsPort number opening count) =
    (d.effect ≡ effect.Nothing) × HasOpening port_opening tables conn number opening × (d.events ≡ events.Nothing)
    × (d.changes ≡ []) × (d.demand ≡ demand.Nothing)
ReadsSane tables conn d (ReadsWatch number opening count) =
    (d.effect ≡ effect.Nothing) × HasOpening watch_opening tables conn number opening × (d.events ≡ events.Nothing)
    × (d.changes ≡ []) × (d.demand ≡ demand.Nothing)

abbrev pub IsSane : (EventChange → Fid → Type 0) → Tables → ℕ → Reaction → Type 0
IsSane New tables conn d = PutsSane (New d.events) tables conn d.effect × ReadsSane tables conn d d.answer

-- ---- tests

same_some : {A : Type 0} (o : Option A) (a b : A) → o ≡ Some a → o ≡ Some b → a ≡ b
same_some o a b g h = let e : Some a ≡ Some b = sym g ∙ h in cc

not_there : {A : Type 0} (o : Option A) (a : A) → is_there o ≡ false → o ≡ Some a → ⊥
not_there None a e h = absurd cc
not_there (Some b) a e h = absurd cc

none_there : {A : Type 0} (o : Option A) → is_there o ≡ false → o ≡ None
none_there None e = refl
none_there (Some b) e = absurd cc

-- the second test failed where neither refused
second_false : {A : Type 0} (a b : Bool) (x y : A) (rest : Option A)
    → cond a (Some x) (cond b (Some y) rest) ≡ None → b ≡ false
second_false true b x y rest e = absurd cc
second_false false true x y rest e = absurd cc
second_false false false x y rest e = refl

first_false : {A : Type 0} (a : Bool) (x : A) (rest : Option A) → cond a (Some x) rest ≡ None → a ≡ false
first_false true x rest e = absurd cc
first_false false x rest e = refl

third_none : (a b : Bool) (x y : Refusal) (m c : Option Refusal) → cond a (Some x)
    (cond b (Some y) (first_refusal m c)) ≡ None → c ≡ None
third_none true b x y m c e = absurd cc
third_none false true x y m c e = absurd cc
third_none false false x y None c e = e
third_none false false x y (Some z) c e = absurd cc

-- what Topen opens is such a one
abbrev pub OpensNew : (EventChange → Fid → Type 0) → World → Plumber → Opened → Type 0
OpensNew New world plumber opened = (f : Fid) (mode : ℕ) → is_live world plumber.names f.node ≡ true →
    content_refusal plumber opened (content_of f.node) ≡ None
    → New (opening_events (content_of f.node)) (opened_fid f mode (opening_of plumber opened (content_of f.node)))

module _ (New : EventChange → Fid → Type 0) (server : ServerState)
    (moded : (number : ℕ) (f : Fid) → fid_by server number ≡ Some f → IsModed f) where
  abbrev Sane : Result Reaction Refusal → Type 0
  Sane (Ok d) = IsSane New server.tables server.conn d
  Sane (Err x) = Unit {0}

  one_of : (b : Bool) (d e : Reaction) → IsSane New server.tables server.conn d → IsSane New server.tables server.conn e
      → IsSane New server.tables server.conn (cond b d e)
  one_of true d e g h = g
  one_of false d e g h = h

  done_or : (b : Bool) (d : Reaction) (x : Refusal) → IsSane New server.tables server.conn d
      → Sane (cond b (Ok d) (Err x))
  done_or true d x h = h
  done_or false d x h = tt

  or_done : (b : Bool) (x : Refusal) (d : Reaction) → IsSane New server.tables server.conn d
      → Sane (cond b (Err x) (Ok d))
  or_done true x d h = tt
  or_done false x d h = h

  -- ---- fids that are put

  -- a fid with what the one in its place had
  put_again : {e : EventChange} (number : ℕ) (f value : Fid) → fid_by server number ≡ Some f
      → value.mode ≡ f.mode → value.opening ≡ f.opening → value.node ≡ f.node → IsPut (New e) server.tables server.conn
      number value
  put_again number f value is mode opening node = record {
    from = λ o opens. inl (f, is, opening, node);
    moded = λ e. opening ∙ moded number f is (sym mode ∙ e);
    keeps = λ g o there opens. let same : f ≡ g = same_some (fid_by server number) f g is there in
        (opening ∙ ap (λ (x : Fid). x.opening) same ∙ opens, node ∙ ap (λ (x : Fid). x.node) same);
  }

  -- a fid where none with an opening stands
  put_new : {e : EventChange} (number : ℕ) (value : Fid) → IsModed value
      → ((f : Fid) → fid_by server number ≡ Some f → f.opening ≡ None)
      → ((o : ℕ) → value.opening ≡ Some o → New e value) → IsPut (New e) server.tables server.conn number value
  put_new number value own none new = record {
    moded = own;
    from = λ o opens. inr (new o opens);
    keeps = λ f o there opens. let e : None ≡ Some o = sym (none f there) ∙ opens in absurd cc;
  }

  -- a number that isn't in use
  unused : (number : ℕ) → is_used server.tables server.conn number ≡ false → (f : Fid) → fid_by server number ≡ Some f
      → f.opening ≡ None
  unused number e f is = absurd (not_there (fid_by server number) f e is)

  -- a fid that isn't open
  closed : (number : ℕ) (f : Fid) → fid_by server number ≡ Some f → is_open f ≡ false → (g : Fid)
      → fid_by server number ≡ Some g → g.opening ≡ None
  closed number f is e g there =
      ap (λ (x : Fid). x.opening) (same_some (fid_by server number) g f there is)
      ∙ moded number f is (none_there f.mode e)

  -- ---- message by message

  version_sane : (msize : ℕ) (version : List ℕ) → IsSane New server.tables server.conn (version_reaction msize version)
  version_sane msize version =
      one_of (nat_lt msize 256) (refusal_with_effect (effect.Begins None) refusal.MsizeTooSmall)
      (agreement (min msize 65560) version) (tt, tt)
      (one_of (is_version version) (does (effect.Begins (Some (min msize 65560))) []
      (r.Version (min msize 65560) (codes "9P2000")))
      (does (effect.Begins None) [] (r.Version (min msize 65560) (codes "unknown"))) (tt, tt) (tt, tt))

  attaches_at : (fid : ℕ) (o : Option Node) → is_used server.tables server.conn fid ≡ false → Sane (attach_to fid o)
  attaches_at fid None e = tt
  attaches_at fid (Some node) e = (put_new fid _ (λ h. refl) (unused fid e) (λ o h. absurd cc), tt)

  attaches : (fid afid : ℕ) (aname : List ℕ) (o : Option Refusal) → attach_refusal server fid afid ≡ o →
      Sane (or_attaches o fid aname)
  attaches fid afid aname None e = attaches_at fid (root_of aname)
      (second_false _ (is_used server.tables server.conn fid) _ _ _ e)
  attaches fid afid aname (Some x) e = tt

  arrives_sane : (newfid : ℕ) (world : World) (qids : List Qid) (e : WalkEnd)
      → ((f : Fid) → fid_by server newfid ≡ Some f → f.opening ≡ None) → Sane (arrives_at newfid world qids e)
  arrives_sane newfid world qids (end.At node) none = (put_new newfid _ (λ h. refl) none (λ o h. absurd cc), tt)
  arrives_sane newfid world qids (end.Makes file) none = (put_new newfid _ (λ h. refl) none (λ o h. absurd cc), tt)
  arrives_sane newfid world qids (end.Stops x) none = or_done (length qids == 0) x
      (does effect.Nothing [] (r.Walk qids)) (tt, tt)

  or_walks_sane : (o : Option Refusal) (x : Result Reaction Refusal) → (o ≡ None → Sane x) → Sane (or_walks o x)
  or_walks_sane None x h = h refl
  or_walks_sane (Some y) x h = tt

  walk_free : (number newfid : ℕ) (f : Fid) → fid_by server number ≡ Some f → walk_refusal server number newfid f ≡ None
      → (g : Fid) → fid_by server newfid ≡ Some g → g.opening ≡ None
  walk_free number newfid f is =
      elim (eqb newfid number) as (λ b. eqb newfid number ≡ b
      → cond b (cond (is_open f) (Some refusal.FidIsOpen) None) (new_refusal server newfid f) ≡ None → (g : Fid)
      → fid_by server newfid ≡ Some g → g.opening ≡ None) [
        | true ↦ λ same e. let at : newfid ≡ number = eqb-true newfid number same in
            subst (λ (k : ℕ). (g : Fid) → fid_by server k ≡ Some g → g.opening ≡ None) (sym at)
            (closed number f is (first_false (is_open f) _ _ e))
        | false ↦ λ apart e. unused newfid (second_false _ (is_used server.tables server.conn newfid) _ _ _ e)
      ] refl

  walk_sane : (number newfid : ℕ) (names : List (List ℕ)) (o : Option Fid) → fid_by server number ≡ o
      → Sane (walk_from server number newfid names o)
  walk_sane number newfid names None is = tt
  walk_sane number newfid names (Some f) is =
      let led = course (world_by server) server.plumber.names f.node names in
      or_walks_sane (walk_refusal server number newfid f) _
      (λ e. arrives_sane newfid (world_by server) led.qids led.end (walk_free number newfid f is e))

  abbrev News : Type 0
  News = OpensNew New (world_by server) server.plumber server.opened

  opens_sane : (o : Option Refusal) (number : ℕ) (f : Fid) (mode : ℕ) → News → fid_by server number ≡ Some f
      → open_refusal server f mode ≡ o → Sane (or_opens o server number f mode)
  opens_sane None number f mode news is e =
      let live : is_live (world_by server) server.plumber.names f.node ≡ true = not-false _
      (first_false (not (is_live (world_by server) server.plumber.names f.node)) _ _ e) in
      let counted : content_refusal server.plumber server.opened (content_of f.node) ≡ None = third_none _ (is_open f)
      _ _ _ (content_refusal server.plumber server.opened (content_of f.node)) e in (
        put_new number _ (λ h. absurd cc) (closed number f is (second_false _ (is_open f) _ _ _ e))
            (λ o h. news f mode live counted),
        tt,
      )
  opens_sane (Some x) number f mode news is e = tt

  open_sane : (number mode : ℕ) (o : Option Fid) → News → fid_by server number ≡ o →
      Sane (open_fid server number o mode)
  open_sane number mode None news is = tt
  open_sane number mode (Some f) news is = opens_sane (open_refusal server f mode) number f mode news is refl

  denied_sane : (o : Option Fid) → Sane (denial o)
  denied_sane None = tt
  denied_sane (Some f) = tt

  or_reads_sane : (o : Option Refusal) (x : Result Reaction Refusal) → Sane x → Sane (or_reads o x)
  or_reads_sane None x h = h
  or_reads_sane (Some y) x h = tt

  read_dir_sane : (asked : Tread) (f : Fid) (o : Option ℕ) → fid_by server asked.number ≡ Some f
      → Sane (read_dir server asked f o)
  read_dir_sane asked f None is = tt
  read_dir_sane asked f (Some skip) is = (put_again asked.number f _ is refl refl refl, tt)

  read_opening_sane : (asked : Tread) (f : Fid) (o : Option ℕ) → fid_by server asked.number ≡ Some f
      → event_opening f ≡ o
      → Sane (read_opening asked o)
  read_opening_sane asked f None is e = tt
  read_opening_sane asked f (Some opening) is e = (tt, (refl, record { fid = f; is = is; opens = e }, refl, refl, refl))

  read_port_sane : (asked : Tread) (f : Fid) (o : Option ℕ) → fid_by server asked.number ≡ Some f → port_opening f ≡ o
      → Sane (read_port asked o)
  read_port_sane asked f None is e = tt
  read_port_sane asked f (Some opening) is e = (tt, (refl, record { fid = f; is = is; opens = e }, refl, refl, refl))

  read_watch_sane : (asked : Tread) (f : Fid) (o : Option WatchOpening) → fid_by server asked.number ≡ Some f
      → watch_opening f ≡ o → Sane (read_watch asked o)
  read_watch_sane asked f None is e = tt
  read_watch_sane asked f (Some opening) is e = (tt, (refl, record { fid = f; is = is; opens = e }, refl, refl, refl))

  data_sane : (w count : ℕ) (o : Option Window) → IsSane New server.tables server.conn (data_reaction w count o)
  data_sane w count None = (tt, tt)
  data_sane w count (Some window) = (tt, tt)

  xdata_sane : (w count : ℕ) (o : Option Window) → IsSane New server.tables server.conn (xdata_reaction w count o)
  xdata_sane w count None = (tt, tt)
  xdata_sane w count (Some window) = (tt, tt)

  read_content_sane : (asked : Tread) (f : Fid) (c : Content) → fid_by server asked.number ≡ Some f
      → Sane (read_content server asked f c)
  read_content_sane asked f content.Directory is = read_dir_sane asked f (place_at f asked.offset) is
  read_content_sane asked f (content.BodyText w) is = (tt, tt)
  read_content_sane asked f (content.TagText w) is = (tt, tt)
  read_content_sane asked f (content.CtlText w) is = (tt, tt)
  read_content_sane asked f (content.AddrText w) is = (tt, tt)
  read_content_sane asked f (content.DataOf w) is = data_sane w asked.count (window_at server.windows w)
  read_content_sane asked f (content.XdataOf w) is = xdata_sane w asked.count (window_at server.windows w)
  read_content_sane asked f content.IndexText is = (tt, tt)
  read_content_sane asked f (content.ErrorsOf w) is = tt
  read_content_sane asked f content.ConsErrors is = (tt, tt)
  read_content_sane asked f content.Empty is = (tt, tt)
  read_content_sane asked f (content.EventsOf w) is = read_opening_sane asked f (event_opening f) is refl
  read_content_sane asked f content.SendText is = tt
  read_content_sane asked f content.RulesText is = (tt, tt)
  read_content_sane asked f (content.PortOf k) is = read_port_sane asked f (port_opening f) is refl
  read_content_sane asked f (content.WatchOf file) is = read_watch_sane asked f (watch_opening f) is refl

  read_sane : (asked : Tread) (o : Option Fid) → fid_by server asked.number ≡ o → Sane (read_fid server asked o)
  read_sane asked None is = tt
  read_sane asked (Some f) is =
      or_reads_sane (use_refusal (world_by server) server.plumber.names f is_for_reading) _
      (read_content_sane asked f (content_of f.node) is)

  if_lives_sane : (o : Option Window) (x : Result Reaction Refusal) → Sane x → Sane (if_lives o x)
  if_lives_sane None x h = tt
  if_lives_sane (Some w) x h = h

  append_sane : (asked : Twrite) (f : Fid) (w : ℕ) (decoded : Decoded) → fid_by server asked.number ≡ Some f
      → Sane (append_reaction server.windows asked f w decoded)
  append_sane asked f w decoded is =
      if_lives_sane (window_at server.windows w) _
      (done_or (fits_in (text_at server.windows w) decoded.text) _ refusal.TextTooLong
      (put_again asked.number f _ is refl refl refl, tt))

  add_sane : (asked : Twrite) (f : Fid) (w : ℕ) (decoded : Decoded) → fid_by server asked.number ≡ Some f
      → Sane (add_reaction server.windows asked f w decoded)
  add_sane asked f w decoded is =
      if_lives_sane (window_at server.windows w) _
      (done_or (fits_tag (right_of (window_at server.windows w)) decoded.text) _ refusal.TextTooLong
      (put_again asked.number f _ is refl refl refl, tt))

  or_errors_sane : (o : Option Refusal) (d : Reaction) → IsSane New server.tables server.conn d → Sane (or_errors o d)
  or_errors_sane None d h = h
  or_errors_sane (Some x) d h = tt

  errors_sane : (asked : Twrite) (f : Fid) (name : List ℕ) (decoded : Decoded) → fid_by server asked.number ≡ Some f
      → Sane (errors_reaction server.windows asked f name decoded)
  errors_sane asked f name decoded is =
      or_errors_sane (errors_refusal server.windows (named server.windows name) decoded.text) _
      (put_again asked.number f _ is refl refl refl, tt)

  addr_set_sane : (w count : ℕ) (x : Result Range RangeFault) → Sane (addr_or_refusal w count x)
  addr_set_sane w count (Ok range) = (tt, tt)
  addr_set_sane w count (Err f) = tt

  addr_sane : (w : ℕ) (bytes : List ℕ) (o : Option Window) → Sane (addr_reaction w bytes o)
  addr_sane w bytes None = tt
  addr_sane w bytes (Some window) = addr_set_sane w (length bytes) (address_range window.body bytes)

  data_set_sane : (w count : ℕ) (x : Result Taken RangeFault) → Sane (data_or_refusal w count x)
  data_set_sane w count (Ok taken) = (tt, tt)
  data_set_sane w count (Err f) = tt

  taking_sane : (w : ℕ) (bytes : List ℕ) (o : Option Window) → Sane (taking_reaction w bytes o)
  taking_sane w bytes None = tt
  taking_sane w bytes (Some window) = data_set_sane w (length bytes) (data_taken window.body bytes)

  answers_sane : (asked : Twrite) (o : Option WatchOpening) → Sane (answer_reaction asked o)
  answers_sane asked None = tt
  answers_sane asked (Some opening) = (tt, tt)

  watch_sane : (asked : Twrite) (f : Fid) (file : WatchFile) → Sane (watch_reaction asked f file)
  watch_sane asked f Log = tt
  watch_sane asked f Jobs = answers_sane asked (watch_opening f)

  write_content_sane : (asked : Twrite) (f : Fid) (c : Content) → fid_by server asked.number ≡ Some f
      → Sane (write_content server.windows asked f c)
  write_content_sane asked f content.Directory is = tt
  write_content_sane asked f (content.BodyText w) is = append_sane asked f w
      (decode_part (part_bytes f.part ++ asked.bytes)) is
  write_content_sane asked f (content.TagText w) is = add_sane asked f w
      (decode_part (part_bytes f.part ++ asked.bytes)) is
  write_content_sane asked f (content.CtlText w) is = if_lives_sane (window_at server.windows w) _ (tt, tt)
  write_content_sane asked f (content.AddrText w) is = addr_sane w asked.bytes (window_at server.windows w)
  write_content_sane asked f (content.DataOf w) is = taking_sane w asked.bytes (window_at server.windows w)
  write_content_sane asked f (content.XdataOf w) is = taking_sane w asked.bytes (window_at server.windows w)
  write_content_sane asked f content.IndexText is = tt
  write_content_sane asked f (content.ErrorsOf w) is =
      errors_sane asked f (errors_of (window_at server.windows w)) (decode_part (part_bytes f.part ++ asked.bytes)) is
  write_content_sane asked f content.ConsErrors is = errors_sane asked f root_errors
      (decode_part (part_bytes f.part ++ asked.bytes)) is
  write_content_sane asked f content.Empty is = (tt, tt)
  write_content_sane asked f (content.EventsOf w) is = if_lives_sane (window_at server.windows w) _ (tt, tt)
  write_content_sane asked f content.SendText is = (put_again asked.number f _ is refl refl refl, tt)
  write_content_sane asked f content.RulesText is = (put_again asked.number f _ is refl refl refl, tt)
  write_content_sane asked f (content.PortOf k) is = tt
  write_content_sane asked f (content.WatchOf file) is = watch_sane asked f file

  write_sane : (asked : Twrite) (o : Option Fid) → fid_by server asked.number ≡ o → Sane (write_fid server asked o)
  write_sane asked None is = tt
  write_sane asked (Some f) is =
      or_reads_sane (use_refusal (world_by server) server.plumber.names f is_for_writing) _
      (write_content_sane asked f (content_of f.node) is)

  clunk_sane : (number : ℕ) (o : Option Fid) → Sane (clunk_fid number o)
  clunk_sane number None = tt
  clunk_sane number (Some f) = (tt, tt)

  remove_sane : (number : ℕ) (o : Option Fid) → Sane (remove_fid number o)
  remove_sane number None = tt
  remove_sane number (Some f) = (tt, tt)

  stat_sane : (o : Option Fid) → Sane (stat_fid server o)
  stat_sane None = tt
  stat_sane (Some f) = done_or (is_live (world_by server) server.plumber.names f.node) _ refusal.WindowDeleted (tt, tt)

  served_sane : (body : TBody) → News → Sane (session_reaction server body)
  served_sane (t.Version msize version) news = version_sane msize version
  served_sane (t.Auth afid uname aname) news = tt
  served_sane (t.Flush oldtag) news = (tt, tt)
  served_sane (t.Attach fid afid uname aname) news = attaches fid afid aname (attach_refusal server fid afid) refl
  served_sane (t.Walk fid newfid names) news = walk_sane fid newfid names (fid_by server fid) refl
  served_sane (t.Open fid mode) news = open_sane fid mode (fid_by server fid) news refl
  served_sane (t.Create fid name perm mode) news = denied_sane (fid_by server fid)
  served_sane (t.Read fid offset count) news =
      read_sane (lowered server (record { number = fid; offset = offset; count = count })) (fid_by server fid) refl
  served_sane (t.Write fid offset bytes) news = write_sane (record { number = fid; bytes = bytes }) (fid_by server fid)
      refl
  served_sane (t.Clunk fid) news = clunk_sane fid (fid_by server fid)
  served_sane (t.Remove fid) news = remove_sane fid (fid_by server fid)
  served_sane (t.Stat fid) news = stat_sane (fid_by server fid)
  served_sane (t.Wstat fid stat) news = denied_sane (fid_by server fid)

  settled : (x : Result Reaction Refusal) → Sane x → IsSane New server.tables server.conn (reaction_or_refusal x)
  settled (Ok d) h = h
  settled (Err x) h = (tt, tt)

  pub reaction_sane : (body : TBody) → News → IsSane New server.tables server.conn (reaction server body)
  reaction_sane body news =
      one_of (comes_first server body) (refusal_with_effect effect.Nothing refusal.VersionFirst) _ (tt, tt)
      (settled (session_reaction server body) (served_sane body news))

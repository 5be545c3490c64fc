-- What a write to an event file does that is answered by Rwrite: the item that it names is acted on.
use Rattle.std.specs.Option.{option_map}
use Rattle.std.proofs.Common.{◌≡◌, ◌⊎◌, inl, inr, ℕ, ◌+◌, ◌==◌, ◌&&◌, ◌||◌, Bool, true, false, not, cond, List, ◌∷◌}
use Rattle.std.proofs.Common.{length, Option, Some, None, Result, Ok, Err, refl, sym, ap, subst, ◌∙◌}
use Rattle.std.proofs.lemmas.Bool.{eqb-true}
use Rattle.ninep_types.specs.declared.message.RBody.TheVariants as r
use Rattle.ninep_types.specs.declared.message.TBody.{TBody}
use Rattle.ninep_types.specs.declared.message.TBody.TheVariants as t
use Rattle.ninep_types.specs.declared.message.TMsg.{TMsg}
use Rattle.acme_tree.specs.declared.node.Node.{Node}
use Rattle.acme_tree.specs.declared.node.Node.TheVariants.{File}
use Rattle.acme_tree.specs.declared.node.WinFile.TheVariants.{Event as EventsFile}
use Rattle.fid_table.specs.declared.types.Fid.{Fid}
use Rattle.fid_table.specs.Tables.{fid_of, msize_of}
use Rattle.win_events.specs.Back.{is_action, back_of}
use Rattle.win_events.specs.Spelling.{sort_letter}
use Rattle.win_events.specs.declared.item.BackMsg.{BackMsg}
use Rattle.win_events.specs.declared.item.Item.{Item}
use Rattle.win_events.specs.declared.item.Origin.{Origin}
use Rattle.win_events.specs.declared.item.Origin.TheVariants.{E, F}
use Rattle.win_events.specs.declared.item.Sort.{Sort}
use Rattle.win_events.specs.declared.item.Sort.TheVariants as sort
use Rattle.win_events.proofs.BackLemmas.{back_is}
use Rattle.event_book.specs.BookState.{BookState, found_of, item_of}
use Rattle.event_book.specs.declared.lives.Recorded.{Recorded}
use Rattle.event_book.specs.Finding.{fits, same_range, expands_to}
use Rattle.event_book.specs.Laws.{IsFound}
use Rattle.event_book.specs.declared.finding.BackFault.{BackFault}
use Rattle.event_book.proofs.FidLemmas.{found_fits}
use Rattle.am_journal.specs.declared.event.Event.{Event}
use Rattle.am_journal.specs.declared.event.Event.TheVariants as event
use Rattle.core_windows.specs.Windows.{Window, window_at, world_with}
use Rattle.core_fids.specs.Plumbers.{plumber_of}
use Rattle.core_fids.specs.declared.effect.Answer.TheVariants.{Says}
use Rattle.core_fids.specs.declared.effect.Demand.{Demand}
use Rattle.core_fids.specs.declared.effect.Demand.TheVariants as demand
use Rattle.core_fids.specs.declared.effect.Effect.TheVariants as effect
use Rattle.core_fids.specs.declared.effect.EventChange.TheVariants as events
use Rattle.core_fids.specs.declared.effect.Reaction.{Reaction}
use Rattle.core_fids.specs.declared.refusal.Refusal.{Refusal}
use Rattle.core_fids.specs.declared.refusal.Refusal.TheVariants as refusal
use Rattle.core_fids.specs.Contents.{content_of}
use Rattle.core_fids.specs.Fids.{is_there, is_for_writing}
use Rattle.core_fids.specs.Plainly.{demands}
use Rattle.core_fids.specs.Refusals.{refusal_reaction, reaction_or_refusal}
use Rattle.core_answers.specs.Reading.{use_refusal, or_reads}
use Rattle.core_answers.specs.Writing.{if_lives, write_content, write_fid}
use Rattle.core_events.specs.declared.closing.BackItem.{BackItem}
use Rattle.core_exec.specs.Acting.{act_on_deeds}
use Rattle.core_tasks.specs.Tasks.{task_deeds, task_refusal}
use Rattle.core_intents.specs.Doings.{doing_of, entry_by, message_doing, resolved}
use Rattle.core_parts.specs.Doing.{Doing}
use Rattle.core_intents.specs.Intents.{answer_or, demanded_item, or_refused, item_or_refusal, item_named, item_of_text}
use Rattle.core_intents.specs.Intents.{back_task, item_if_any, refusal_if_any, reaction_at, server_at}
use Rattle.core_intents.specs.Origins.{is_text, origin_at, message_origin}
use Rattle.acme_core.specs.Run.{run, present_after}
use Rattle.core_parts.specs.States.{Present}
use Rattle.acme_core.proofs.Goes.{entries_counted}
use Rattle.core_laws.specs.Laws.{IsBackAt, written_by}
use Rattle.core_laws.specs.WriteBacks.{IsNamed, numbered, IsActedOn, write_of, WritesAreActedOn, HasItsEntry}
use Rattle.core_laws.specs.WriteBacks.{BacksAreWrites, ActedOnOnce}
use Rattle.core_laws.proofs.Backs.{IsBackFrom, back_from, named, once}
use Rattle.core_laws.proofs.Clicks.{clicks}
use Rattle.core_laws.proofs.Demands.{IsWriteBack, is_back, reaction_sound}
use Rattle.core_laws.proofs.Entries.{have_entries, one_item}
use Rattle.am_journal.specs.declared.event.Journal.{Journal}
use Rattle.core_laws.specs.Fronts.{followed}

-- ---- the item that bytes name

abbrev letter_acts : ℕ → Bool
letter_acts b = (b == 76) || ((b == 108) || ((b == 88) || (b == 120)))

by_letter : (s : Sort) → is_action s ≡ letter_acts (sort_letter s)
by_letter sort.BodyDel = refl
by_letter sort.TagDel = refl
by_letter sort.BodyIns = refl
by_letter sort.TagIns = refl
by_letter sort.BodyLook = refl
by_letter sort.TagLook = refl
by_letter sort.BodyExec = refl
by_letter sort.TagExec = refl

first_of_both : (a b : Bool) → (a && b) ≡ true → a ≡ true
first_of_both true b h = refl
first_of_both false b h = absurd cc

fitting_acts : (m : BackMsg) (item : Item) → fits m item ≡ true → is_action m.sort ≡ true → is_action item.sort ≡ true
fitting_acts m item fit acts =
    let same : sort_letter m.sort ≡ sort_letter item.sort =
    eqb-true (sort_letter m.sort) (sort_letter item.sort) (first_of_both (sort_letter m.sort == sort_letter item.sort)
    (same_range item.range m.range || expands_to item.expanded m.range) fit)
    in
    by_letter item.sort ∙ ap letter_acts (sym same) ∙ sym (by_letter m.sort) ∙ acts

abbrev Names : BookState → ℕ → List ℕ → BackItem → Type 0
Names book w bytes b = (number : ℕ) × (b ≡ numbered w number) × IsNamed book w bytes number

names_found : (book : BookState) (w : ℕ) (bytes : List ℕ) (b : BackItem) (m : BackMsg) (y : Result ℕ BackFault)
    → back_of bytes ≡ Some m → found_of book w m ≡ y
    → item_or_refusal w y ≡ Ok b → Names book w bytes b
names_found book w bytes b m (Ok number) is found e =
    let same : ◌≡◌ {A = BackItem} b (numbered w number) = cc in
    let fit : IsFound book w number m = found_fits book w number m found in (
      number,
      same,
      record {
        message = m;
        is = is;
        found = found;
        item = fit.item;
        there = fit.is;
        fit = fit.fit;
        action = fitting_acts m fit.item fit.fit (back_is bytes m is).action;
      },
    )
names_found book w bytes b m (Err fault) is found e = absurd cc

names : (book : BookState) (w : ℕ) (bytes : List ℕ) (b : BackItem) (m : Option BackMsg)
    → back_of bytes ≡ m → item_named book w m ≡ Ok b → Names book w bytes b
names book w bytes b None is e = absurd cc
names book w bytes b (Some m) is e = names_found book w bytes b m (found_of book w m) is refl e

-- ---- what a write to an event file is to do

abbrev shape : ℕ → List ℕ → Bool → Option Refusal → Option Window → Reaction
shape w bytes missing o window =
    cond missing (refusal_reaction refusal.VersionFirst) (reaction_or_refusal
    (or_reads o (if_lives window (Ok (demands (demand.WriteBack w bytes) (length bytes))))))

abbrev write_msg : ℕ → ℕ → ℕ → List ℕ → TMsg
write_msg tag fid offset bytes = record { tag = tag; body = t.Write fid offset bytes }

write_shape : (s : Present) (conn tag fid offset w : ℕ) (bytes : List ℕ) (f : Fid) → fid_of s.tables conn fid ≡ Some f
    → f.node ≡ File w EventsFile
    → reaction_at s conn (write_msg tag fid offset bytes)
    ≡ shape w bytes (not (is_there (msize_of s.tables conn))) (use_refusal (world_with s.scene.watched s.scene.windows)
    (plumber_of s.scene.rules s.scene.ports).names f is_for_writing) (window_at s.scene.windows w)
write_shape s conn tag fid offset w bytes f there node =
    let missing : Bool = not (is_there (msize_of s.tables conn)) in
    ap (λ (o : Option Fid). cond missing (refusal_reaction refusal.VersionFirst)
    (reaction_or_refusal (write_fid (server_at s conn) (record { number = fid; bytes = bytes }) o))) there
    ∙ ap (λ (n : Node). cond missing (refusal_reaction refusal.VersionFirst)
    (reaction_or_refusal (or_reads (use_refusal (world_with s.scene.watched s.scene.windows)
    (plumber_of s.scene.rules s.scene.ports).names f is_for_writing)
    (write_content s.scene.windows (record { number = fid; bytes = bytes }) f (content_of n))))) node

-- where it is answered by Rwrite it asks for the item that it names
shape_acts : (s : Present) (w count : ℕ) (bytes : List ℕ) (missing : Bool) (o : Option Refusal) (window : Option Window)
    → (message_doing s (shape w bytes missing o window) F).answer ≡ Some (Says (r.Write count))
    → shape w bytes missing o window ≡ demands (demand.WriteBack w bytes) (length bytes)
unfolding task_refusal
shape_acts s w count bytes true o window is = absurd cc
shape_acts s w count bytes false (Some x) window is = absurd cc
shape_acts s w count bytes false None None is = absurd cc
shape_acts s w count bytes false None (Some v) is = refl

abbrev back_doing : Present → List ℕ → Result BackItem Refusal → Doing
back_doing s bytes x = resolved s (record {
  effect = effect.Nothing;
  events = events.Nothing;
  task = back_task x;
  origin = F;
  answer = Some (or_refused (refusal_if_any x) (Says (r.Write (length bytes))));
  back = item_if_any x;
  answers = None;
})

-- and there is such an item
back_found : (s : Present) (count : ℕ) (bytes : List ℕ) (x : Result BackItem Refusal)
    → (back_doing s bytes x).answer ≡ Some (Says (r.Write count)) → (b : BackItem) × (x ≡ Ok b)
unfolding task_refusal
back_found s count bytes (Ok b) is = (b, refl)
back_found s count bytes (Err y) is = absurd cc

origin_is : (s : Present) (conn tag fid offset w : ℕ) (bytes : List ℕ) (f : Fid) → fid_of s.tables conn fid ≡ Some f
    → f.node ≡ File w EventsFile
    → message_origin s.tables conn (write_msg tag fid offset bytes).body ≡ F
origin_is s conn tag fid offset w bytes f there node = ap origin_at there ∙ ap (λ (n : Node). cond (is_text n) E F) node

-- ---- every journal

pub acted_on : (before : Journal) (behind : List Event) (conn tag fid offset count w : ℕ) (bytes : List ℕ) (f : Fid)
    → fid_of (run before).tables conn fid ≡ Some f → f.node ≡ File w EventsFile
    → (doing_of (present_after before) (write_of conn tag fid offset bytes)).answer ≡ Some (Says (r.Write count))
    → IsActedOn before (followed before (write_of conn tag fid offset bytes ∷ behind))
    (write_of conn tag fid offset bytes) w
    bytes
unfolding task_deeds
acted_on before behind conn tag fid offset count w bytes f there node answered =
    let s : Present = present_after before in
    let e : Event = write_of conn tag fid offset bytes in
    let d : Reaction = reaction_at s conn (write_msg tag fid offset bytes) in
    let missing : Bool = not (is_there (msize_of s.tables conn)) in
    let o : Option Refusal = use_refusal (world_with s.scene.watched s.scene.windows)
    (plumber_of s.scene.rules s.scene.ports).names f is_for_writing in
    let x : Reaction = shape w bytes missing o (window_at s.scene.windows w) in
    let shaped : doing_of s e ≡ message_doing s x F =
    ap (λ (y : Reaction). message_doing s y (message_origin s.tables conn (t.Write fid offset bytes)))
    (write_shape s conn tag fid offset w bytes f there node)
    ∙ ap (λ (y : Origin). message_doing s x y) (origin_is s conn tag fid offset w bytes f there node)
    in
    let acts : x ≡ demands (demand.WriteBack w bytes) (length bytes) =
    shape_acts s w count bytes missing o (window_at s.scene.windows w)
    (sym (ap (λ (y : Doing). y.answer) shaped) ∙ answered)
    in
    let asks : doing_of s e ≡ back_doing s bytes (item_of_text s.scene.book w bytes) =
    shaped ∙ ap (λ (y : Reaction). message_doing s y F) acts in
    let found : (b : BackItem) × (item_of_text s.scene.book w bytes ≡ Ok b) = back_found s count bytes
    (item_of_text s.scene.book w bytes) (sym (ap (λ (y : Doing). y.answer) asks) ∙ answered) in
    let item : Names s.scene.book w bytes found.0 = names s.scene.book w bytes found.0 (back_of bytes) refl found.1 in
    let does : doing_of s e ≡ back_doing s bytes (Ok (numbered w item.0)) =
    asks ∙ ap (back_doing s bytes) found.1 ∙ ap (λ (b : BackItem). back_doing s bytes (Ok b)) item.1
    in
    let writes : written_by before e ≡ Some (numbered w item.0) = ap (λ (y : Doing). y.back) does in
    record {
      number = item.0;
      named = item.2;
      writes = writes;
      deeds = ap (λ (y : Doing). y.deeds) does ∙ ap (λ (n : ℕ). act_on_deeds (record { at = n + 1; origin = F }) w
          item.0 s.scene) (entries_counted before);
      origin = ap (λ (y : Doing). y.origin) does;
      life = named before behind e (numbered w item.0) writes;
    }

writes_acted : (journal : Journal) → WritesAreActedOn journal
writes_acted journal before behind conn tag fid offset count w bytes f is there node answered =
    subst (λ (l : Journal). IsActedOn before l (write_of conn tag fid offset bytes) w bytes) is
    (acted_on before behind conn tag fid offset count w bytes f there node answered)

-- ---- the entry that wrote an item back

any_item : (x : Result BackItem Refusal) (b : BackItem) → item_if_any x ≡ Some b → x ≡ Ok b
any_item (Ok item) b is = let same : ◌≡◌ {A = BackItem} item b = cc in ap (λ (i : BackItem). Ok i) same
any_item (Err y) b is = absurd cc

not_plain : (book : BookState) (b : BackItem) (d : Demand) → is_back d ≡ false → demanded_item book d ≡ Some b → ⊥
not_plain book b demand.Nothing plain is = cc
not_plain book b (demand.Controls w text) plain is = cc
not_plain book b (demand.WriteBack w text) plain is = cc
not_plain book b demand.ClearsRules plain is = cc
not_plain book b (demand.AddsRules text) plain is = cc
not_plain book b (demand.AddsRest text) plain is = cc
not_plain book b (demand.Sends text) plain is = cc
not_plain book b (demand.Answers opening text) plain is = cc

-- the item that is found is answered for
found_answer : (s : Present) (origin : Origin) (count : ℕ) (x : Result BackItem Refusal) (b : BackItem) → x ≡ Ok b
    → answer_or (task_refusal (entry_by s origin) (back_task x) s.scene)
    (Some (or_refused (refusal_if_any x) (Says (r.Write count)))) ≡ Some (Says (r.Write count))
unfolding task_refusal
found_answer s origin count x b is =
    ap (λ (y : Result BackItem Refusal). answer_or (task_refusal (entry_by s origin) (back_task y) s.scene)
    (Some (or_refused (refusal_if_any y) (Says (r.Write count))))) is

-- the item is written back, and acted on, by a Twrite to an event file of its window that is answered
pub record IsBackBy (before : Journal) (e : Event) (b : BackItem) : Type 0 where
  pub conn : ℕ
  pub tag : ℕ
  pub fid : ℕ
  pub offset : ℕ
  pub bytes : List ℕ
  pub value : Fid
  pub is : e ≡ write_of conn tag fid offset bytes
  pub there : fid_of (run before).tables conn fid ≡ Some value
  pub node : value.node ≡ File b.window EventsFile
  pub answered : (doing_of (present_after before) e).answer ≡ Some (Says (r.Write (length bytes)))
  pub item : Item
  pub found : item_of (run before).scene.book b.window b.number ≡ Some item
  pub action : is_action item.sort ≡ true
  pub origin : Origin
  pub deeds : (doing_of (present_after before) e).deeds ≡ act_on_deeds (entry_by (present_after before) origin) b.window
      b.number (present_after before).scene

by_write : (before : Journal) (conn : ℕ) (msg : TMsg) (b : BackItem)
    → written_by before (event.Msg conn msg) ≡ Some b → (x : IsWriteBack (run before).tables conn msg.body
    (reaction_at (present_after before) conn msg))
    → IsBackBy before (event.Msg conn msg) b
unfolding task_deeds
by_write before conn msg b is x =
    let s : Present = present_after before in
    let asks : demanded_item s.scene.book (demand.WriteBack x.window x.bytes) ≡ Some b =
    sym (ap (λ (d : Reaction). demanded_item s.scene.book d.demand) x.asks) ∙ is in
    let found : item_of_text s.scene.book x.window x.bytes ≡ Ok b =
    any_item (item_of_text s.scene.book x.window x.bytes) b asks in
    let named : Names s.scene.book x.window x.bytes b = names s.scene.book x.window x.bytes b (back_of x.bytes) refl
    found in
    let there : BackItem = numbered x.window named.0 in
    let same : ◌≡◌ {A = BackItem} there b = sym named.1 in
    record {
      conn = conn;
      tag = msg.tag;
      fid = x.fid;
      offset = x.offset;
      bytes = x.bytes;
      value = x.value;
      is = ap (λ (body : TBody). event.Msg conn (record { tag = msg.tag; body = body })) x.is;
      there = x.there;
      node = x.node ∙ ap (λ (i : BackItem). File i.window EventsFile) same;
      answered = ap (λ (d : Reaction). (message_doing s d (message_origin s.tables conn msg.body)).answer) x.asks
          ∙ found_answer s (message_origin s.tables conn msg.body) (length x.bytes)
          (item_of_text s.scene.book x.window x.bytes) b found;
      item = named.2.item;
      found = subst (λ (i : BackItem). item_of s.scene.book i.window i.number ≡ Some named.2.item) same named.2.there;
      action = named.2.action;
      origin = message_origin s.tables conn msg.body;
      deeds = ap (λ (d : Reaction). (message_doing s d (message_origin s.tables conn msg.body)).deeds) x.asks
          ∙ ap (λ (y : Result BackItem Refusal). task_deeds (entry_by s (message_origin s.tables conn msg.body))
          (back_task y) s.scene) found;
    }

by_message : (before : Journal) (conn : ℕ) (msg : TMsg) (b : BackItem)
    → written_by before (event.Msg conn msg) ≡ Some b
    → (is_back (reaction_at (present_after before) conn msg).demand ≡ false)
    ⊎ IsWriteBack (run before).tables conn msg.body (reaction_at (present_after before) conn msg)
    → IsBackBy before (event.Msg conn msg) b
by_message before conn msg b is (inl plain) = absurd (not_plain (present_after before).scene.book b
    (reaction_at (present_after before) conn msg).demand plain is)
by_message before conn msg b is (inr x) = by_write before conn msg b is x

pub back_by : (before : Journal) (e : Event) (b : BackItem) → written_by before e ≡ Some b → IsBackBy before e b
back_by before (event.Msg conn msg) b is =
    let s : Present = present_after before in
    by_message before conn msg b is (reaction_sound (server_at s conn) msg.body).0
back_by before (event.Dial conn) b is = absurd cc
back_by before (event.Hang conn why) b is = absurd cc
back_by before (event.Took conn) b is = absurd cc
back_by before event.New b is = absurd cc
back_by before (event.Key w side text) b is = absurd cc
back_by before (event.Sel w range) b is = absurd cc
back_by before (event.Exec at) b is = absurd cc
back_by before (event.Arg at chord) b is = absurd cc
back_by before (event.Look at) b is = absurd cc
back_by before (event.File path text) b is = absurd cc
back_by before (event.Dir path) b is = absurd cc

some_item : (a b : Item) → Some a ≡ Some b → a ≡ b
some_item a b is = cc

life_item : (a b : Recorded) → Some a ≡ Some b → a.item ≡ b.item
life_item a b is = let same : a ≡ b = cc in ap (λ (x : Recorded). x.item) same

pub back_writes : (journal : Journal) → BacksAreWrites journal
back_writes journal w n item opening taken at is =
    let h : HasItsEntry journal w n at = have_entries journal w n item opening taken at is in
    let x : IsBackBy h.before h.entry (numbered w n) = back_by h.before h.entry (numbered w n) h.writes in
    let kept : IsBackFrom (run h.before).scene.book (run journal).scene.book (numbered w n) (length h.before.events + 1)
    =
    subst (λ (l : Journal). IsBackFrom (run h.before).scene.book (run l).scene.book (numbered w n)
    (length h.before.events + 1)) h.is (back_from h.before h.behind h.entry (numbered w n) h.writes)
    in
    let now : kept.item ≡ item = life_item _ _ (sym kept.is ∙ is) in
    let same : kept.item ≡ x.item = some_item kept.item x.item (sym
    (ap (λ (o : Option Recorded). option_map (λ e. e.item) o) kept.was) ∙ x.found) in
    record {
      before = h.before;
      behind = h.behind;
      conn = x.conn;
      tag = x.tag;
      fid = x.fid;
      offset = x.offset;
      bytes = x.bytes;
      value = x.value;
      is = subst (λ (e : Event). followed h.before (e ∷ h.behind) ≡ journal) x.is h.is;
      number = h.number;
      there = x.there;
      node = x.node;
      answered = subst (λ (e : Event). (doing_of (present_after h.before) e).answer
          ≡ Some (Says (r.Write (length x.bytes)))) x.is x.answered;
      action = subst (λ (i : Item). is_action i.sort ≡ true) (sym same ∙ now) x.action;
    }

pub acted_once : (journal : Journal) → ActedOnOnce journal
acted_once journal = record {
  writes = writes_acted journal;
  named = λ before behind e b is written. subst (λ (l : Journal). IsBackAt (run l).scene.book b
      (length before.events + 1))
      is (named before behind e b written);
  once = λ before between behind e f b is first second. once before between e f b first second;
  entries = have_entries journal;
  backs = back_writes journal;
  one = one_item journal;
  told = λ before behind e w is clicked opened. clicks before e w clicked opened;
}

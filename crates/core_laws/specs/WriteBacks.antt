-- Items that are written back, each acted on once, over journals.
use Rattle.std.specs.Prelude.{◌≡◌, ℕ, ◌+◌, true, List, ◌∷◌, ◌++◌, length, Some, Ok}
use Rattle.ninep_types.specs.declared.message.RBody.TheVariants as r
use Rattle.ninep_types.specs.declared.message.TBody.TheVariants as t
use Rattle.acme_tree.specs.declared.node.Node.TheVariants.{File}
use Rattle.acme_tree.specs.declared.node.WinFile.TheVariants.{Event as EventsFile}
use Rattle.fid_table.specs.declared.types.Fid.{Fid}
use Rattle.fid_table.specs.Tables.{fid_of}
use Rattle.win_events.specs.Back.{is_action, back_of}
use Rattle.win_events.specs.declared.item.BackMsg.{BackMsg}
use Rattle.win_events.specs.declared.item.Item.{Item}
use Rattle.win_events.specs.declared.item.Origin.TheVariants.{F}
use Rattle.win_events.specs.declared.item.Life.TheVariants.{Back}
use Rattle.event_book.specs.BookState.{BookState, is_open_window, item_of, recorded_of, found_of}
use Rattle.event_book.specs.Finding.{fits}
use Rattle.am_journal.specs.declared.event.Event.{Event}
use Rattle.am_journal.specs.declared.event.Event.TheVariants as event
use Rattle.core_fids.specs.declared.effect.Answer.TheVariants.{Says}
use Rattle.core_events.specs.declared.closing.BackItem.{BackItem}
use Rattle.core_exec.specs.Acting.{act_on_deeds}
use Rattle.core_intents.specs.Doings.{doing_of}
use Rattle.acme_core.specs.Run.{run, present_after}
use Rattle.core_laws.specs.Laws.{OnlyTells, IsBackAt, clicked_window, item_of_click, written_by}
use Rattle.core_laws.specs.Saying.{said_after}
use Rattle.am_journal.specs.declared.event.Journal.{Journal}
use Rattle.am_journal.specs.Journal.{longer}
use Rattle.core_laws.specs.Fronts.{followed}

-- The bytes name the item of this number: of the window's items that were taken, and not written back, the last that
-- fits the message. It is one of a type that can be written back: X, x, L or l.
pub record IsNamed (book : BookState) (w : ℕ) (bytes : List ℕ) (number : ℕ) : Type 0 where
  pub message : BackMsg
  pub is : back_of bytes ≡ Some message
  pub found : found_of book w message ≡ Ok number
  pub item : Item
  pub there : item_of book w number ≡ Some item
  pub fit : fits message item ≡ true
  pub action : is_action item.sort ≡ true

-- the item of this number
abbrev pub numbered : ℕ → ℕ → BackItem
numbered w number = record { window = w; number = number }

-- An entry writes back the item that the bytes name, and does that item's own text, as from a file; what it does
-- besides is nothing. From then on the item's life names the entry.
pub record IsActedOn (before journal : Journal) (e : Event) (w : ℕ) (bytes : List ℕ) : Type 0 where
  pub number : ℕ
  pub named : IsNamed (run before).scene.book w bytes number
  pub writes : written_by before e ≡ Some (numbered w number)
  pub deeds : (doing_of (present_after before) e).deeds ≡ act_on_deeds
      (record { at = length before.events + 1; origin = F }) w
      number (present_after before).scene
  pub origin : (doing_of (present_after before) e).origin ≡ F
  pub life : IsBackAt (run journal).scene.book (numbered w number) (length before.events + 1)

-- a write of bytes to a fid
abbrev pub write_of : ℕ → ℕ → ℕ → ℕ → List ℕ → Event
write_of conn tag fid offset bytes = event.Msg conn (record { tag = tag; body = t.Write fid offset bytes })

-- Each Twrite to a window's event file that is answered by Rwrite.
abbrev pub WritesAreActedOn : Journal → Type 0
WritesAreActedOn journal =
    (before : Journal) (behind : List Event) (conn tag fid offset count w : ℕ) (bytes : List ℕ) (f : Fid)
    → followed before (write_of conn tag fid offset bytes ∷ behind) ≡ journal
    → fid_of (run before).tables conn fid ≡ Some f → f.node ≡ File w EventsFile
    → (doing_of (present_after before) (write_of conn tag fid offset bytes)).answer ≡ Some (Says (r.Write count))
    → IsActedOn before journal (write_of conn tag fid offset bytes) w bytes

-- The entry of this number wrote back the item.
pub record HasItsEntry (journal : Journal) (w n at : ℕ) : Type 0 where
  pub before : Journal
  pub entry : Event
  pub behind : List Event
  pub is : followed before (entry ∷ behind) ≡ journal
  pub number : length before.events + 1 ≡ at
  pub writes : written_by before entry ≡ Some (numbered w n)

-- Each item whose life says that it was written back at an entry was so by that entry.
abbrev pub BacksHaveEntries : Journal → Type 0
BacksHaveEntries journal =
    (w n : ℕ) (item : Item) (opening taken at : ℕ) → recorded_of (run journal).scene.book w n
    ≡ Some (record { item = item; life = Back opening taken at }) → HasItsEntry journal w n at

-- At the entry of this number there is a Twrite to an event file of the item's window, through a fid that is open on
-- it, that was answered by Rwrite; and the item's type is one of X, x, L and l.
pub record IsWrittenBack (journal : Journal) (w : ℕ) (item : Item) (at : ℕ) : Type 0 where
  pub before : Journal
  pub behind : List Event
  pub conn : ℕ
  pub tag : ℕ
  pub fid : ℕ
  pub offset : ℕ
  pub bytes : List ℕ
  pub value : Fid
  pub is : followed before (write_of conn tag fid offset bytes ∷ behind) ≡ journal
  pub number : length before.events + 1 ≡ at
  pub there : fid_of (run before).tables conn fid ≡ Some value
  pub node : value.node ≡ File w EventsFile
  pub answered : (doing_of (present_after before) (write_of conn tag fid offset bytes)).answer
      ≡ Some (Says (r.Write (length bytes)))
  pub action : is_action item.sort ≡ true

-- So it is with each item whose life is written back.
abbrev pub BacksAreWrites : Journal → Type 0
BacksAreWrites journal =
    (w n : ℕ) (item : Item) (opening taken at : ℕ) → recorded_of (run journal).scene.book w n
    ≡ Some (record { item = item; life = Back opening taken at }) → IsWrittenBack journal w item at

-- So no two items were written back at one entry.
abbrev pub OneItemAnEntry : Journal → Type 0
OneItemAnEntry journal =
    (v n w m : ℕ) (item other : Item) (opening by taken took at : ℕ) → recorded_of (run journal).scene.book v n
    ≡ Some (record { item = item; life = Back opening taken at })
    → recorded_of (run journal).scene.book w m ≡ Some (record { item = other; life = Back by took at })
    → numbered v n ≡ numbered w m

-- Laws of items: each is acted on once.
pub record ActedOnOnce (journal : Journal) : Type 0 where
  pub writes : WritesAreActedOn journal
  -- An item that an entry writes back names that entry from then on,
  pub named : (before : Journal) (behind : List Event) (e : Event) (b : BackItem)
      → followed before (e ∷ behind) ≡ journal
      → written_by before e ≡ Some b → IsBackAt (run journal).scene.book b (length before.events + 1)
  -- so no later entry writes it back.
  pub once : (before : Journal) (between behind : List Event) (e f : Event) (b : BackItem)
      → followed before (e ∷ (between ++ f ∷ behind))
      ≡ journal → written_by before e ≡ Some b
      → written_by (followed before (e ∷ between)) f ≡ Some b → ⊥
  -- The other way round, each life that names an entry is that of the item that the entry wrote back; so no
  -- two items have one entry.
  pub entries : BacksHaveEntries journal
  -- That entry is a Twrite to an event file of its window that was answered by Rwrite, and the
  -- item's type is X, x, L or l.
  pub backs : BacksAreWrites journal
  pub one : OneItemAnEntry journal
  -- An Exec or a Look in a window whose event file is open is told by the item of that click, if it stands for a
  -- text, and does nothing else.
  pub told : (before : Journal) (behind : List Event) (e : Event) (w : ℕ) → followed before (e ∷ behind) ≡ journal
      → clicked_window e
      ≡ Some w → is_open_window (run before).scene.book w ≡ true
      → OnlyTells (run before) (run (longer before e)) (said_after before e) w
      (item_of_click (present_after before).scene e)

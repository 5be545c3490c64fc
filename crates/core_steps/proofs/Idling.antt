-- No waiting read can be answered after a step, where none could be before it.
use Rattle.std.proofs.lemmas.Bool.Decides.{nat_tests}
use Rattle.std.proofs.Common.{◌≡◌, ◌==◌, ℕ, Bool, true, false, length, refl, List, [], ◌∷◌, Option, Some, None, sym, ap}
use Rattle.std.proofs.Common.{subst, ◌∙◌, arith}
use Rattle.fid_table.specs.Tables.{Tables}
use Rattle.std.specs.Option.{option_map}
use Rattle.wait_queue.specs.declared.types.Asker.{Asker}
use Rattle.wait_queue.specs.declared.types.Piece.{Piece}
use Rattle.event_book.specs.BookState.{BookState, served_of, piece_for}
use Rattle.event_book.specs.Laws.{IsLawful}
use Rattle.core_fids.specs.declared.effect.EventChange.{EventChange}
use Rattle.core_fids.specs.declared.effect.Answer.{Answer}
use Rattle.core_fids.specs.declared.effect.Answer.TheVariants.{Says, Reads, ReadsPort, ReadsWatch}
use Rattle.core_scene.specs.declared.deed.WindowItem.{WindowItem}
use Rattle.core_scene.specs.Scenes.{deleted_by}
use Rattle.core_events.specs.Asking.{opened}
use Rattle.core_events.specs.Closing.{written_back, freed}
use Rattle.core_events.specs.Putting.{put_living, put_all, ending}
use Rattle.core_events.specs.Serving.{served_all, book_served_all}
use Rattle.core_events.specs.Sound.{IsSound, IsIdle}
use Rattle.core_events.proofs.Idles.{AreIdle, IsKept, read_idle, open_idle, living_kept, written_idle, served_idle}
use Rattle.core_events.proofs.Idles.{ending_idle, all_freed_idle, freed_idle, cancelled_idle, closed_idle, idle_for}
use Rattle.core_events.proofs.Idles.{idle_from, idle_end}
use Rattle.core_events.proofs.Turns.{all_none, book_all_none}
use Rattle.plumb_ports.specs.PortsState.{PortsState}
use Rattle.core_events.specs.PortClosing.{ports_freed}
use Rattle.core_events.specs.PortSound.{ArePortsIdle}
use Rattle.core_events.proofs.PortIdles.{idle_served, idle_freed, idle_cancelled, idle_without_fids}
use Rattle.core_parts.specs.declared.kind.Kind.{Kind}
use Rattle.core_parts.specs.declared.kind.Kind.TheVariants as kind
use Rattle.core_steps.specs.Stages.{asker_of, answer_book, message_book, acted, with_fid, grown_tables, read_book}
use Rattle.core_steps.specs.Stages.{put_book, grown_book, book_after, open_ports, grown_ports, ports_after}
use Rattle.core_closing.specs.Closing.{left_book, left_ports}
use Rattle.core_parts.specs.States.{Present, next_entry}
use Rattle.core_parts.specs.Doing.{Doing}

module _ (deleted : List ℕ) (at : ℕ) where
  answered : (t : Tables) (b : BookState) (conn tag : ℕ) (a : Option Answer) → AreIdle deleted at b
      → AreIdle deleted at (answer_book t b conn tag a at)
  answered t b conn tag None h = h
  answered t b conn tag (Some (Says body)) h = h
  answered t b conn tag (Some (Reads fid opening count)) h = read_idle deleted at t b (asker_of conn tag opening count)
      h
  answered t b conn tag (Some (ReadsPort fid opening count)) h = h
  answered t b conn tag (Some (ReadsWatch fid opening count)) h = h

  read : (t : Tables) (b : BookState) (k : Kind) (a : Option Answer) → AreIdle deleted at b
      → AreIdle deleted at (message_book t b k a at)
  read t b (kind.Dials conn) a h = h
  read t b (kind.Asks conn tag) a h = answered t b conn tag a h
  read t b (kind.Ends conn why) a h = h
  read t b (kind.Takes conn) a h = h
  read t b kind.Acts a h = h

  left : (t : Tables) (b : BookState) (k : Kind) (d : Doing) → AreIdle deleted at b
      → AreIdle deleted at (left_book at t k d b)
  left t b (kind.Dials conn) d h = h
  left t b (kind.Asks conn tag) d h = cancelled_idle deleted at (freed at b t conn d.effect) conn d.events
      (freed_idle deleted at b t conn d.effect h)
  left t b (kind.Ends conn why) d h = all_freed_idle deleted at b t conn h
  left t b (kind.Takes conn) d h = h
  left t b kind.Acts d h = h

pub idle_on : (s : Present) (k : Kind) (d : Doing) → AreIdle [] s.entries s.scene.book
    → AreIdle [] (next_entry s) (book_after s k d)
idle_on s k d idle =
    let at : ℕ = next_entry s in
    let deleted : List ℕ = deleted_by d.deeds in
    let items : List WindowItem = (acted s d).items in
    let asked : BookState = opened (read_book s k d) d.events in
    let first : AreIdle deleted at asked =
    open_idle deleted at (read_book s k d) d.events (read deleted at (with_fid s k d) s.scene.book k d.answer
    (idle_for deleted s.entries at s.scene.book (omega arith) idle))
    in
    let put : IsKept at (put_book s k d) = living_kept deleted at asked items
    (record { lawful = first.lawful; latest = first.latest }) in
    let served : AreIdle deleted at (book_served_all at (put_book s k d)) = served_idle deleted at (put_book s k d)
    put in
    let grown : AreIdle deleted at (grown_book s k d) = ending_idle deleted at (book_served_all at (put_book s k d))
    items served in
    let back : BookState = written_back at (grown_book s k d) d.back in
    closed_idle deleted at (left_book at (grown_tables s k d) k d back)
    (left deleted at (grown_tables s k d) back k d (written_idle deleted at (grown_book s k d) d.back grown))

-- so it is with ports, whatever could be answered before
ports_left : (t : Tables) (k : Kind) (d : Doing) (p : PortsState) → ArePortsIdle p → ArePortsIdle (left_ports t k d p)
ports_left t (kind.Dials conn) d p h = h
ports_left t (kind.Asks conn tag) d p h = idle_cancelled (ports_freed p t conn d.effect) conn d.events
    (idle_freed p t conn d.effect h)
ports_left t (kind.Ends conn why) d p h = idle_without_fids p t conn h
ports_left t (kind.Takes conn) d p h = h
ports_left t kind.Acts d p h = h

pub ports_idle_on : (s : Present) (k : Kind) (d : Doing) → ArePortsIdle (ports_after s k d)
ports_idle_on s k d = ports_left (grown_tables s k d) k d (grown_ports s k d) (idle_served (open_ports s k d))

-- so nothing is served before an item comes
pub none_served : (b : BookState) → IsIdle b → served_of b ≡ None
none_served b h = ap (λ (o : Option Asker). option_map {U = Asker × Piece} (λ r. (r, piece_for b r)) o) h

-- ---- in the midst of a step

pub none_if : (items : List WindowItem) (b : Bool) → b ≡ (length items == 0) → b ≡ true → items ≡ []
none_if [] b e h = refl
none_if (i ∷ items) b e h = let no : (length (i ∷ items) == 0) ≡ false = grind (arith, nat_tests) in absurd cc

-- nothing is put, and nothing served
pub silent : (at : ℕ) (deleted : List ℕ) (b : BookState) (items : List WindowItem) → IsIdle b → items ≡ []
    → served_all at (put_living deleted b items) ≡ []
silent at deleted b items idle none = ap (λ (xs : List WindowItem). served_all at (put_living deleted b xs)) none
    ∙ all_none at b (none_served b idle)

pub still : (at : ℕ) (deleted : List ℕ) (b : BookState) (items : List WindowItem) → IsIdle b → items ≡ []
    → put_all (book_served_all at (put_living deleted b items)) (ending deleted items) ≡ b
still at deleted b items idle none =
    ap (λ (xs : List WindowItem). put_all (book_served_all at (put_living deleted b xs)) (ending deleted xs)) none
    ∙ book_all_none at b (none_served b idle)

-- once a message was answered, and opened what it opens
pub asked : (t : Tables) (b x : BookState) (k : Kind) (a : Option Answer) (e : EventChange) (at : ℕ) → IsLawful b
    → IsSound at b → IsIdle b
    → x ≡ opened (message_book t b k a at) e → IsIdle x
asked t b x k a e at lawful sound idle is =
    subst IsIdle (sym is)
    (idle_end at (opened (message_book t b k a at) e) (open_idle [] at (message_book t b k a at) e
    (read [] at t b k a (idle_from [] at b lawful sound.latest idle))))

pub ruleset asking = (asked)

-- What an entry ends of the event files is ended by calls of the book.
use Rattle.std.proofs.Common.{◌≡◌, ℕ, true, false, cond, List, [], ◌∷◌, fold, Option, Some, None, refl}
use Rattle.fid_table.specs.declared.types.Fid.{Fid}
use Rattle.fid_table.specs.Tables.{Tables, fid_of, fids_of}
use Rattle.event_book.specs.BookState.{BookState, is_living, is_taken_of, after_written, after_leave, after_delete}
use Rattle.book_calls.specs.Calls.{Written, Cancel, Leave, Delete}
use Rattle.book_calls.proofs.Trails.{IsEnded, none_ended, one_ended}
use Rattle.core_scene.specs.Scenes.{deleted_by}
use Rattle.core_fids.specs.Fids.{event_opening}
use Rattle.core_fids.specs.declared.effect.Effect.{Effect}
use Rattle.core_fids.specs.declared.effect.Effect.TheVariants as effect
use Rattle.core_fids.specs.declared.effect.EventChange.{EventChange}
use Rattle.core_fids.specs.declared.effect.EventChange.TheVariants as events
use Rattle.core_events.specs.declared.closing.BackItem.{BackItem}
use Rattle.core_events.specs.Closing.{written_back, without_opening, without_fid, opening_in, freed, cancelled}
use Rattle.core_events.specs.Closing.{closed_with}
use Rattle.core_parts.specs.declared.kind.Kind.{Kind}
use Rattle.core_parts.specs.declared.kind.Kind.TheVariants as kind
use Rattle.core_parts.specs.Doing.{Doing}
use Rattle.core_steps.specs.Stages.{grown_tables, grown_book, book_after}
use Rattle.core_closing.specs.Closing.{left_book}
use Rattle.core_parts.specs.States.{Present, next_entry}

module _ (at : ℕ) (first : BookState) where
  abbrev E : BookState → Type 0
  E s = IsEnded at first s

  end_written : (s : BookState) (o : Option BackItem) → E s → E (written_back at s o)
  end_written s None e = e
  end_written s (Some b) e =
      (elim (is_taken_of s b.window b.number) as (λ t. is_taken_of s b.window b.number ≡ t →
      E (cond t (after_written s b.window b.number at) s)) [
        | true ↦ λ taken. one_ended at first s (Written b.window b.number) e taken
        | false ↦ λ other. e
      ]) refl

  end_without : (s : BookState) (o : Option ℕ) → E s → E (without_opening at s o)
  end_without s None e = e
  end_without s (Some o) e =
      (elim (is_living s o) as (λ t. is_living s o ≡ t → E (cond t (after_leave s o at) s)) [
        | true ↦ λ living. one_ended at first s (Leave o) e living
        | false ↦ λ dead. e
      ]) refl

  end_fids : (s : BookState) (fs : List (ℕ × Fid)) → E s → E (fold (without_fid at) s fs)
  end_fids s [] e = e
  end_fids s (f ∷ fs) e = end_fids (without_fid at s f) fs (end_without s (event_opening f.1) e)

  end_freed : (s : BookState) (t : Tables) (conn : ℕ) (x : Effect) → E s → E (freed at s t conn x)
  end_freed s t conn effect.Nothing e = e
  end_freed s t conn (effect.Begins msize) e = end_fids s (fids_of t conn) e
  end_freed s t conn (effect.Puts fid value) e = e
  end_freed s t conn (effect.Frees fid) e = end_without s (opening_in (fid_of t conn fid)) e

  end_cancelled : (s : BookState) (conn : ℕ) (x : EventChange) → E s → E (cancelled s conn x)
  end_cancelled s conn events.Nothing e = e
  end_cancelled s conn (events.Opens w) e = e
  end_cancelled s conn (events.Joins port) e = e
  end_cancelled s conn (events.Watches file) e = e
  end_cancelled s conn (events.Cancels tag) e = one_ended at first s (Cancel conn tag) e tt

  end_left : (t : Tables) (s : BookState) (k : Kind) (d : Doing) → E s → E (left_book at t k d s)
  end_left t s (kind.Dials conn) d e = e
  end_left t s (kind.Asks conn tag) d e = end_cancelled (freed at s t conn d.effect) conn d.events
      (end_freed s t conn d.effect e)
  end_left t s (kind.Ends conn why) d e = end_fids s (fids_of t conn) e
  end_left t s (kind.Takes conn) d e = e
  end_left t s kind.Acts d e = e

  end_closed : (s : BookState) (ws : List ℕ) → E s → E (closed_with at s ws)
  end_closed s [] e = e
  end_closed s (w ∷ ws) e = end_closed (after_delete s w at) ws (one_ended at first s (Delete w) e tt)

-- all that an entry ends
pub all_end : (p : Present) (k : Kind) (d : Doing) → IsEnded (next_entry p) (grown_book p k d) (book_after p k d)
all_end p k d =
    let at : ℕ = next_entry p in
    let g : BookState = grown_book p k d in
    let t : Tables = grown_tables p k d in
    let w : BookState = written_back at g d.back in
    end_closed at g (left_book at t k d w) (deleted_by d.deeds) (end_left at g t w k d
    (end_written at g g d.back (none_ended at g)))

-- Reading that waits for room, one piece on.
use Rattle.std.proofs.Common.{◌≡◌, ℕ, ◌≤◌, List, [], ◌∷◌, ◌++◌, length, Option, None, sym, ap, subst, ◌∙◌, append_assoc}
use Rattle.std.specs.List.{concat}
use Rattle.std.proofs.lemmas.List.{append-nil}
use Rattle.am_journal.specs.declared.ending.Ending.{Ending}
use Rattle.am_journal.specs.declared.event.Event.{Event}
use Rattle.am_counter.specs.Played.{IsPrefix}
use Rattle.am_serve.specs.Gained.{Answers}
use Rattle.am_base.specs.Stops.{piece_limit}
use Rattle.am_serve.specs.Reading.{HadRoom, HadRoomEach, ReadWithRoom}
use Rattle.am_serve.proofs.Gaining.{grown}

module _ (answer : Answers) (conn : ℕ) where
  -- ---- more of the journal was seen

  room_later : (xs ys : List Event) (bytes : List ℕ) → IsPrefix xs ys → HadRoom answer conn xs bytes
      → HadRoom answer conn ys bytes
  room_later xs ys bytes p h = record {
    journal = h.journal;
    front = grown h.journal xs ys h.front p;
    messages =
        h.messages;
    room = h.room;
  }

  pub each_later : (xs ys : List Event) (before : List ℕ) (pieces : List (List ℕ)) → IsPrefix xs ys
      → HadRoomEach answer conn xs before pieces → HadRoomEach answer conn ys before pieces
  each_later xs ys before [] p h = tt
  each_later xs ys before (x ∷ pieces) p h = (
    h.0,
    room_later xs ys before p h.1,
    each_later xs ys (before ++ x) pieces p h.2,
  )

  pub with_room_later : (xs ys : List Event) (bytes : List ℕ) (read : Option Ending) → IsPrefix xs ys
      → ReadWithRoom answer conn xs bytes read → ReadWithRoom answer conn ys bytes read
  with_room_later xs ys bytes read p h = record {
    pieces = h.pieces;
    are = h.are;
    each = each_later xs ys [] h.pieces p h.each;
    last = λ x. room_later xs ys bytes p (h.last x);
  }

  -- another ended the connection
  pub with_room_for_none : (seen : List Event) (bytes : List ℕ) (read : Option Ending)
      → ReadWithRoom answer conn seen bytes read → ReadWithRoom answer conn seen bytes None
  with_room_for_none seen bytes read h = record { pieces = h.pieces; are = h.are; each = h.each; last = λ x. absurd x }

  -- ---- one piece more

  each_behind : (seen : List Event) (before : List ℕ) (pieces : List (List ℕ)) (piece : List ℕ)
      → HadRoomEach answer conn seen before pieces → length piece ≤ piece_limit
      → HadRoom answer conn seen (before ++ concat pieces) → HadRoomEach answer conn seen before (pieces ++ piece ∷ [])
  each_behind seen before [] piece h le room = (
    le,
    subst (λ (l : List ℕ). HadRoom answer conn seen l)
        (append-nil before) room,
    tt,
  )
  each_behind seen before (x ∷ pieces) piece h le room = (
    h.0,
    h.1,
    each_behind seen (before ++ x) pieces piece h.2 le
        (subst (λ (l : List ℕ). HadRoom answer conn seen l) (sym (append_assoc before x (concat pieces))) room),
  )

  pub each_more : (seen : List Event) (bytes : List ℕ) (pieces : List (List ℕ)) (piece : List ℕ) → bytes ≡ concat pieces
      → HadRoomEach answer conn seen [] pieces → length piece ≤ piece_limit
      → HadRoom answer conn seen bytes → HadRoomEach answer conn seen [] (pieces ++ piece ∷ [])
  each_more seen bytes pieces piece are h le room = each_behind seen [] pieces piece h le
      (subst (λ (l : List ℕ). HadRoom answer conn seen l) are room)

concat_more : (pieces : List (List ℕ)) (piece : List ℕ) → concat (pieces ++ piece ∷ []) ≡ concat pieces ++ piece
concat_more [] piece = append-nil piece
concat_more (x ∷ pieces) piece = ap (λ (l : List ℕ). x ++ l) (concat_more pieces piece)
    ∙ sym (append_assoc x (concat pieces) piece)

pub pieces_more : (bytes : List ℕ) (pieces : List (List ℕ)) (piece : List ℕ) → bytes ≡ concat pieces
    → bytes ++ piece ≡ concat (pieces ++ piece ∷ [])
pieces_more bytes pieces piece are = ap (λ (l : List ℕ). l ++ piece) are ∙ sym (concat_more pieces piece)

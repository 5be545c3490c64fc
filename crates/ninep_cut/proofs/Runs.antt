-- Pieces of a stream, and calls of a cutter.
use Rattle.std.proofs.Common.{◌≡◌, ℕ, true, false, cond, List, [], ◌∷◌, ◌++◌, refl, sym, ap, ◌∙◌, append_assoc}
use Rattle.std.specs.Prelude.{fold}
use Rattle.std.proofs.lemmas.List.{append-nil}
use Rattle.ninep_cut.specs.Cuts.{cut_of, is_whole, first_of, behind_first, Stream, then_cut, cut_stream}
use Rattle.ninep_cut.specs.Calls.{Call, Feed, Next, Cutting, start, after_call, after_calls, fed}
use Rattle.ninep_cut.specs.Laws.{JoinsPieces, CutsNoMore, GivesTheCut, GivesAll}
use Rattle.ninep_cut.proofs.Fronts.{first_is_message, first_and_behind, stays_broken}
use Rattle.ninep_cut.proofs.Streams.{whole_test, test_false, stream-whole, stream-none, stream-message, by_messages}

-- ---- two pieces

abbrev IsJoinedBy : List ℕ → List ℕ → Stream → Type 0
IsJoinedBy more bytes stream = cut_stream (bytes ++ more) ≡ then_cut stream.messages (cut_stream (stream.rest ++ more))

pieces_none : (more bytes : List ℕ) → is_whole (cut_of bytes) ≡ false → IsJoinedBy more bytes (cut_stream bytes)
pieces_none more bytes e = rw (stream-none bytes e) refl

-- a message and what is behind it, with more bytes behind that
stream-more : (more bytes : List ℕ) → is_whole (cut_of bytes) ≡ true →
    cut_stream (bytes ++ more) ≡ then_cut (first_of bytes ∷ []) (cut_stream (behind_first bytes ++ more))
stream-more more bytes e =
    ap (λ (l : List ℕ). cut_stream (l ++ more)) (first_and_behind bytes)
    ∙ ap cut_stream (append_assoc (first_of bytes) (behind_first bytes) more)
    ∙ stream-message (first_of bytes) (behind_first bytes ++ more)
    (first_is_message bytes (whole_test (cut_of bytes) e))

pieces_whole : (more bytes : List ℕ) → is_whole (cut_of bytes) ≡ true → IsJoinedBy more (behind_first bytes)
    (cut_stream (behind_first bytes)) → IsJoinedBy more bytes (cut_stream bytes)
pieces_whole more bytes e ih = rw (stream-whole bytes e) (stream-more more bytes e
    ∙ ap (then_cut (first_of bytes ∷ [])) ih)

pub joins_pieces : JoinsPieces
joins_pieces bytes more = by_messages (λ b. IsJoinedBy more b (cut_stream b)) (pieces_none more) (pieces_whole more)
    bytes

then_none : (messages : List (List ℕ)) (rest : List ℕ) → then_cut messages
    (record { messages = []; rest = rest }) ≡ record { messages = messages; rest = rest }
then_none messages rest = ap (λ (ms : List (List ℕ)). let s : Stream = record { messages = ms; rest = rest } in s)
    (append-nil messages)

pub cuts_no_more : CutsNoMore
cuts_no_more bytes more size e =
    let stays = ap is_whole (stays_broken (cut_stream bytes).rest more size e) in
    joins_pieces bytes more
    ∙ ap (then_cut (cut_stream bytes).messages) (stream-none ((cut_stream bytes).rest ++ more) stays)
    ∙ then_none (cut_stream bytes).messages ((cut_stream bytes).rest ++ more)

-- ---- any calls

-- What was given and the cut of what is left are the cut of these bytes.
abbrev Gives : List ℕ → Cutting → Type 0
Gives bytes c = cut_stream bytes ≡ then_cut c.given (cut_stream c.left)

then_then : (ms ns : List (List ℕ)) (s : Stream) → then_cut ms (then_cut ns s) ≡ then_cut (ms ++ ns) s
then_then ms ns s = ap (λ (l : List (List ℕ)). let t : Stream = record { messages = l; rest = s.rest } in t)
    (sym (append_assoc ms ns s.messages))

gives_feed : (bytes piece : List ℕ) (c : Cutting) → Gives bytes c → Gives (bytes ++ piece) (after_call c (Feed piece))
gives_feed bytes piece c e =
    let left : Stream = cut_stream c.left in
    joins_pieces bytes piece
    ∙ ap (λ (s : Stream). then_cut s.messages (cut_stream (s.rest ++ piece))) e
    ∙ sym (then_then c.given left.messages (cut_stream (left.rest ++ piece)))
    ∙ ap (then_cut c.given) (sym (joins_pieces c.left piece))

gives_next : (bytes : List ℕ) (c : Cutting) → Gives bytes c → Gives bytes (after_call c Next)
gives_next bytes c e =
    elim (is_whole (cut_of c.left)) as (λ b. is_whole (cut_of c.left) ≡ b → Gives bytes
    (cond b (record { given = c.given ++ first_of c.left ∷ []; left = behind_first c.left }) c)) [
      | true ↦ λ w. e ∙ ap (then_cut c.given) (stream-whole c.left w)
          ∙ then_then c.given (first_of c.left ∷ []) (cut_stream (behind_first c.left))
      | false ↦ λ w. e
    ] refl

gives_calls : (calls : List Call) (bytes : List ℕ) (c : Cutting) → Gives bytes c
    → Gives (bytes ++ fed calls) (fold after_call c calls)
gives_calls [] bytes c e = rw (append-nil bytes) e
gives_calls (Feed piece ∷ calls) bytes c e =
    ap cut_stream (sym (append_assoc bytes piece (fed calls)))
    ∙ gives_calls calls (bytes ++ piece) (after_call c (Feed piece)) (gives_feed bytes piece c e)
gives_calls (Next ∷ calls) bytes c e = gives_calls calls bytes (after_call c Next) (gives_next bytes c e)

pub gives_the_cut : GivesTheCut
gives_the_cut calls = gives_calls calls [] start refl

pub gives_all : GivesAll
gives_all calls none =
    let c : Cutting = after_calls calls in
    gives_the_cut calls
    ∙ ap (then_cut c.given) (stream-none c.left (test_false (cut_of c.left) none))
    ∙ then_none c.given c.left

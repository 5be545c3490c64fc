-- The cut of a stream.
use Rattle.std.proofs.Common.{◌≡◌, ◌≢◌, ℕ, zero, suc, ◌+◌, ◌≤◌, true, false, cond, List, [], ◌∷◌, ◌++◌, length, drop}
use Rattle.std.proofs.Common.{refl, sym, ap, ◌∙◌, arith, append_assoc}
use Rattle.std.specs.Prelude.{All}
use Rattle.std.specs.List.{concat}
use Rattle.std.proofs.lemmas.List.{length-append, length-drop, drop-drop}
use Rattle.ninep_cut.specs.declared.cut.Cut.{Cut}
use Rattle.ninep_cut.specs.declared.cut.Cut.TheVariants.{Whole, More, Broken}
use Rattle.ninep_cut.specs.Cuts.{size_of, IsMessage, cut_of, is_whole, first_of, behind_first, Stream, then_cut}
use Rattle.ninep_cut.specs.Cuts.{cut_within, cut_stream, TakesFirst, TakesNone}
use Rattle.ninep_cut.specs.Laws.{JoinsBytes, AreMessages, LeavesNone, BeginsWith, IsLongest}
use Rattle.ninep_cut.proofs.Fronts.{whole_at, at_few, first_is_message, first_and_behind, message_whole, message_first}
use Rattle.ninep_cut.proofs.Fronts.{message_behind}

-- ---- whole or not

pub whole_test : (c : Cut) → is_whole c ≡ true → c ≡ Whole
whole_test Whole e = refl
whole_test More e = (cc)
whole_test (Broken size) e = (cc)

pub test_false : (c : Cut) → c ≢ Whole → is_whole c ≡ false
test_false Whole h = absurd (h refl)
test_false More h = refl
test_false (Broken size) h = refl

-- bytes behind a message are fewer
length-behind : (bytes : List ℕ) (n : ℕ) → is_whole (cut_of bytes) ≡ true → length bytes ≤ suc n
    → length (behind_first bytes) ≤ n
length-behind bytes n e h =
    let w = whole_at bytes (whole_test (cut_of bytes) e) in
    let d = length-drop (size_of bytes) bytes in
    omega arith

-- ---- the number of messages that are allowed doesn't matter, where it is no less than the bytes

none_of_few : (n : ℕ) (bytes : List ℕ) → length bytes ≤ 0 → cut_within n bytes ≡ record { messages = []; rest = bytes }
unfolding cut_within
none_of_few zero bytes h = refl
none_of_few (suc n) bytes h = rw (at_few bytes (omega arith)) refl

enough : (n m : ℕ) (bytes : List ℕ) → length bytes ≤ n → length bytes ≤ m → cut_within n bytes ≡ cut_within m bytes
unfolding cut_within
enough zero m bytes h k = sym (none_of_few m bytes h)
enough (suc n) zero bytes h k = none_of_few (suc n) bytes k
enough (suc n) (suc m) bytes h k =
    elim (is_whole (cut_of bytes)) as (λ b. is_whole (cut_of bytes) ≡ b →
    cond b (then_cut (first_of bytes ∷ []) (cut_within n (behind_first bytes))) (record { messages = []; rest = bytes })
    ≡ cond b (then_cut (first_of bytes ∷ []) (cut_within m (behind_first bytes)))
    (record { messages = []; rest = bytes })) [
      | true ↦ λ e. ap (then_cut (first_of bytes ∷ [])) (enough n m (behind_first bytes) (length-behind bytes n e h)
          (length-behind bytes m e k))
      | false ↦ λ e. refl
    ] refl

-- ---- one step of the cut

within_whole : (n : ℕ) (bytes : List ℕ) → length bytes ≤ n → is_whole (cut_of bytes) ≡ true →
    cut_within n bytes ≡ then_cut (first_of bytes ∷ []) (cut_stream (behind_first bytes))
unfolding cut_within cut_stream
within_whole zero bytes h e = let w = whole_at bytes (whole_test (cut_of bytes) e) in absurd (omega arith)
within_whole (suc n) bytes h e =
    rw e (ap (then_cut (first_of bytes ∷ [])) (enough n (length (behind_first bytes)) (behind_first bytes)
    (length-behind bytes n e h) (omega arith)))

within_none : (n : ℕ) (bytes : List ℕ) → is_whole (cut_of bytes) ≡ false →
    cut_within n bytes ≡ record { messages = []; rest = bytes }
unfolding cut_within
within_none zero bytes e = refl
within_none (suc n) bytes e = rw e refl

pub stream-whole : (bytes : List ℕ) → is_whole (cut_of bytes) ≡ true → cut_stream bytes ≡ then_cut (first_of bytes ∷ [])
    (cut_stream (behind_first bytes))
unfolding cut_stream
stream-whole bytes e = within_whole (length bytes) bytes (omega arith) e

pub stream-none : (bytes : List ℕ) → is_whole (cut_of bytes) ≡ false →
    cut_stream bytes ≡ record { messages = []; rest = bytes }
unfolding cut_stream
stream-none bytes e = within_none (length bytes) bytes e

pub stream-message : (message rest : List ℕ) → IsMessage message →
    cut_stream (message ++ rest) ≡ then_cut (message ∷ []) (cut_stream rest)
stream-message message rest m =
    stream-whole (message ++ rest) (ap is_whole (message_whole message rest m))
    ∙ (λ i. then_cut (message_first message rest m i ∷ []) (cut_stream (message_behind message rest m i)))

-- ---- a law of all streams, by their messages

by_messages_within : (P : List ℕ → Type 0) → ((bytes : List ℕ) → is_whole (cut_of bytes) ≡ false → P bytes)
    → ((bytes : List ℕ) → is_whole (cut_of bytes) ≡ true → P (behind_first bytes) → P bytes)
    → (n : ℕ) (bytes : List ℕ) → length bytes ≤ n → P bytes
by_messages_within P none more zero bytes h = none bytes (ap is_whole (at_few bytes (omega arith)))
by_messages_within P none more (suc n) bytes h =
    elim (is_whole (cut_of bytes)) as (λ b. is_whole (cut_of bytes) ≡ b → P bytes) [
      | true ↦ λ e. more bytes e (by_messages_within P none more n (behind_first bytes) (length-behind bytes n e h))
      | false ↦ λ e. none bytes e
    ] refl

pub by_messages : (P : List ℕ → Type 0) → ((bytes : List ℕ) → is_whole (cut_of bytes) ≡ false → P bytes)
    → ((bytes : List ℕ) → is_whole (cut_of bytes) ≡ true → P (behind_first bytes) → P bytes) → (bytes : List ℕ)
    → P bytes
by_messages P none more bytes = by_messages_within P none more (length bytes) bytes (omega arith)

-- ---- the cut is the longest

abbrev IsJoined : List ℕ → Stream → Type 0
IsJoined bytes stream = concat stream.messages ++ stream.rest ≡ bytes

joined_none : (bytes : List ℕ) → is_whole (cut_of bytes) ≡ false → IsJoined bytes (cut_stream bytes)
joined_none bytes e = rw (stream-none bytes e) refl

joined_whole : (bytes : List ℕ) → is_whole (cut_of bytes) ≡ true → IsJoined (behind_first bytes)
    (cut_stream (behind_first bytes)) → IsJoined bytes (cut_stream bytes)
joined_whole bytes e ih =
    let behind : Stream = cut_stream (behind_first bytes) in
    rw (stream-whole bytes e) (append_assoc (first_of bytes) (concat behind.messages) behind.rest
    ∙ ap (λ (l : List ℕ). first_of bytes ++ l) ih ∙ sym (first_and_behind bytes))

pub joins_bytes : JoinsBytes
joins_bytes bytes = by_messages (λ b. IsJoined b (cut_stream b)) joined_none joined_whole bytes

all_more : (x : List ℕ) (xs : List (List ℕ)) → IsMessage x → All IsMessage xs → All IsMessage (x ∷ xs)
all_more x xs one others zero d lt = one
all_more x xs one others (suc k) d lt = others k d (omega arith)

all_none : (bytes : List ℕ) → is_whole (cut_of bytes) ≡ false → All IsMessage (cut_stream bytes).messages
all_none bytes e = rw (stream-none bytes e) (λ k d lt. absurd (omega arith))

all_whole : (bytes : List ℕ) → is_whole (cut_of bytes) ≡ true → All IsMessage (cut_stream (behind_first bytes)).messages
    → All IsMessage (cut_stream bytes).messages
all_whole bytes e ih =
    rw (stream-whole bytes e) (all_more (first_of bytes) (cut_stream (behind_first bytes)).messages
    (first_is_message bytes (whole_test (cut_of bytes) e)) ih)

pub are_messages : AreMessages
are_messages bytes = by_messages (λ b. All IsMessage (cut_stream b).messages) all_none all_whole bytes

left_none : (bytes : List ℕ) → is_whole (cut_of bytes) ≡ false → is_whole (cut_of (cut_stream bytes).rest) ≡ false
left_none bytes e = rw (stream-none bytes e) e

left_whole : (bytes : List ℕ) → is_whole (cut_of bytes) ≡ true → is_whole
    (cut_of (cut_stream (behind_first bytes)).rest) ≡ false → is_whole (cut_of (cut_stream bytes).rest) ≡ false
left_whole bytes e ih = rw (stream-whole bytes e) ih

pub rest_not_whole : (bytes : List ℕ) → is_whole (cut_of (cut_stream bytes).rest) ≡ false
rest_not_whole bytes = by_messages (λ b. is_whole (cut_of (cut_stream b).rest) ≡ false) left_none left_whole bytes

pub leaves_none : LeavesNone
leaves_none bytes e = let f = rest_not_whole bytes in let t : is_whole (cut_of (cut_stream bytes).rest) ≡ true =
    ap is_whole e in (cc)

pub begins_with : BeginsWith
begins_with [] tail all = refl
begins_with (m ∷ ms) tail all =
    let one : IsMessage m = all 0 m (omega arith) in
    let others : All IsMessage ms = λ k d lt. all (suc k) d (omega arith) in
    ap cut_stream (append_assoc m (concat ms) tail)
    ∙ stream-message m (concat ms ++ tail) one
    ∙ ap (then_cut (m ∷ [])) (begins_with ms tail others)

pub is_longest : IsLongest
is_longest ms tail all =
    let e = ap (λ (s : Stream). length s.messages) (begins_with ms tail all) in
    omega (arith, e, length-append ms (cut_stream tail).messages)

-- ---- for the call that gives a message

-- of the items those before a place were given already
pub takes_whole : (items bytes given : List ℕ) (at n : ℕ) → drop at items ≡ bytes → cut_of bytes ≡ Whole →
    given ≡ first_of bytes → n ≡ size_of bytes → TakesFirst bytes (drop (at + n) items) given
takes_whole items bytes given at n view e g size =
    let after : drop (at + n) items ≡ behind_first bytes = sym (drop-drop n at items) ∙ (λ i. drop (size i) (view i)) in
    rw (g, after) (record {
      first = refl;
      behind = refl;
      message = first_is_message bytes e;
      front = first_and_behind bytes;
      stream = stream-whole bytes (ap is_whole e);
    })

pub takes_more : (bytes had : List ℕ) → cut_of bytes ≡ More → TakesNone bytes bytes had had
takes_more bytes had e = record { stays = refl; same = refl; stream = stream-none bytes (ap is_whole e) }

pub takes_broken : (bytes had : List ℕ) (size : ℕ) → cut_of bytes ≡ Broken size → TakesNone bytes bytes had had
takes_broken bytes had size e = record { stays = refl; same = refl; stream = stream-none bytes (ap is_whole e) }

pub ruleset takes = (takes_whole, takes_more, takes_broken)

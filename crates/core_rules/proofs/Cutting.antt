-- A text cut into messages, one message further.
use Rattle.std.proofs.Common.{◌≡◌, ℕ, zero, suc, ◌<◌, ◌≤◌, ◌||◌, Bool, true, false, List, [], ◌∷◌, length, take, drop}
use Rattle.std.proofs.Common.{Err, refl, sym, ap, ◌∙◌, arith}
use Rattle.std.proofs.lemmas.List.{length-append, length-take, length-drop, take-append-drop}
use Rattle.std.specs.Str.Lossy.{utf8_valid_len}
use Rattle.std.proofs.lemmas.Str.{IsUtf8-nil, is_utf8-from_IsUtf8}
use Rattle.am_text.specs.Pieces.{is_begun}
use Rattle.plumb_msg.specs.Grammar.{IsProperFront}
use Rattle.plumb_msg.specs.Fields.{unfinished}
use Rattle.plumb_msg.specs.Reading.{msg_at, read_told, read_of}
use Rattle.plumb_msg.specs.Spelling.{msg_bytes}
use Rattle.plumb_msg.specs.declared.message.PlumbMsg.{PlumbMsg}
use Rattle.plumb_msg.specs.declared.message.PlumbRead.{PlumbRead}
use Rattle.plumb_msg.specs.declared.message.PlumbRead.TheVariants.{Whole, More, Bad}
use Rattle.plumb_msg.proofs.MessageLaws.{whole_is_exact, more_is_exact}
use Rattle.core_rules.specs.Messages.{ends, then_cut, cut_read, cut_within, cut_of}
use Rattle.core_rules.specs.SendLaws.{AreMessages, MessagesAreRead}

-- ---- a message has some bytes

msg_filled : (m : PlumbMsg) (attributes : List ℕ) → 1 ≤ length (msg_bytes m attributes)
unfolding msg_bytes
msg_filled m attributes = simp length-append (omega arith)

-- how many bytes a message takes
pub record Takes (bytes : List ℕ) (used : ℕ) : Type 0 where
  pub some : 1 ≤ used
  pub inside : used ≤ length bytes

pub takes : (bytes : List ℕ) (m : PlumbMsg) (used : ℕ) → read_of bytes ≡ Whole m used → Takes bytes used
takes bytes m used e =
    let b = (whole_is_exact bytes m used).0 e in
    record {
      some = omega (
        arith,
        length-take used bytes,
        ap length b.message.spelled,
        msg_filled m b.message.attributes,
      );
      inside = b.inside;
    }

pub used_inside : (bytes : List ℕ) (m : PlumbMsg) (used : ℕ) → read_of bytes ≡ Whole m used → used ≤ length bytes
used_inside bytes m used e = (takes bytes m used e).inside

pub fewer : (bytes : List ℕ) (m : PlumbMsg) (used : ℕ) → read_of bytes ≡ Whole m used
    → length (drop used bytes) < length bytes
fewer bytes m used e = let t = takes bytes m used e in omega (arith, length-drop used bytes, t.some, t.inside)

-- no byte begins a message
none_yet : read_of [] ≡ More
unfolding msg_at
none_yet = ap (λ (b : Bool). read_told [] (Err (unfinished (b || is_begun (drop (utf8_valid_len []) [])))))
    (is_utf8-from_IsUtf8 [] IsUtf8-nil)

none_read : (bytes : List ℕ) → length bytes ≤ 0 → read_of bytes ≡ More
none_read [] h = none_yet
none_read (b ∷ bytes) h = absurd (omega arith)

-- ---- the number of messages that are allowed doesn't matter, where it is no less than the bytes

within_more : (n : ℕ) (bytes : List ℕ) → read_of bytes ≡ More → cut_within n bytes ≡ ends false bytes
unfolding cut_within
within_more zero bytes e = refl
within_more (suc n) bytes e = ap (cut_read (cut_within n) bytes) e

enough : (n k : ℕ) (bytes : List ℕ) → length bytes ≤ n → length bytes ≤ k → cut_within n bytes ≡ cut_within k bytes
unfolding cut_within
enough zero k bytes h j = sym (within_more k bytes (none_read bytes h))
enough (suc n) zero bytes h j = within_more (suc n) bytes (none_read bytes j)
enough (suc n) (suc k) bytes h j = by (read_of bytes) refl (λ rest l. enough n k rest (omega (arith, l, h))
    (omega (arith, l, j)))
  where
    by : (r : PlumbRead) → read_of bytes ≡ r → ((rest : List ℕ) → length rest < length bytes
        → cut_within n rest ≡ cut_within k rest)
        → cut_read (cut_within n) bytes r ≡ cut_read (cut_within k) bytes r
    by (Whole m used) e same = ap (then_cut m) (same (drop used bytes) (fewer bytes m used e))
    by More e same = refl
    by Bad e same = refl

-- ---- one message further

within_whole : (n : ℕ) (bytes : List ℕ) (m : PlumbMsg) (used : ℕ) → length bytes ≤ n → read_of bytes ≡ Whole m used
    → cut_within n bytes ≡ then_cut m (cut_of (drop used bytes))
unfolding cut_within cut_of
within_whole zero bytes m used h e = let t = takes bytes m used e in absurd (omega (arith, t.some, t.inside))
within_whole (suc n) bytes m used h e =
    let l = fewer bytes m used e in
    ap (cut_read (cut_within n) bytes) e
    ∙ ap (then_cut m) (enough n (length (drop used bytes)) (drop used bytes) (omega (arith, l)) (omega arith))

pub cut_whole : (bytes : List ℕ) (m : PlumbMsg) (used : ℕ) → read_of bytes ≡ Whole m used
    → cut_of bytes ≡ then_cut m (cut_of (drop used bytes))
unfolding cut_of
cut_whole bytes m used e = within_whole (length bytes) bytes m used (omega arith) e

pub cut_more : (bytes : List ℕ) → read_of bytes ≡ More → cut_of bytes ≡ ends false bytes
unfolding cut_of
cut_more bytes e = within_more (length bytes) bytes e

within_bad : (n : ℕ) (bytes : List ℕ) → 0 < n → read_of bytes ≡ Bad → cut_within n bytes ≡ ends true bytes
unfolding cut_within
within_bad zero bytes h e = absurd (omega arith)
within_bad (suc n) bytes h e = ap (cut_read (cut_within n) bytes) e

pub cut_bad : (bytes : List ℕ) → 0 < length bytes → read_of bytes ≡ Bad → cut_of bytes ≡ ends true bytes
unfolding cut_of
cut_bad bytes h e = within_bad (length bytes) bytes h e

pub cut_none : (bytes : List ℕ) → length bytes ≡ 0 → cut_of bytes ≡ ends false bytes
cut_none bytes h = cut_more bytes (none_read bytes (omega (arith, h)))

-- ---- the messages of a text

read_within : (n : ℕ) (bytes : List ℕ) → AreMessages bytes (cut_within n bytes).messages (cut_within n bytes).rest
unfolding cut_within
read_within zero bytes = refl
read_within (suc n) bytes = by (read_of bytes) refl (λ rest. read_within n rest)
  where
    by : (r : PlumbRead) → read_of bytes ≡ r → ((rest : List ℕ) → AreMessages rest (cut_within n rest).messages
        (cut_within n rest).rest)
        → AreMessages bytes (cut_read (cut_within n) bytes r).messages (cut_read (cut_within n) bytes r).rest
    by (Whole m used) e are = (
      take used bytes,
      drop used bytes,
      sym (take-append-drop used bytes),
      ((whole_is_exact bytes m used).0 e).message,
      are (drop used bytes),
    )
    by More e are = refl
    by Bad e are = refl

pub messages_read : MessagesAreRead
unfolding cut_of
messages_read text = read_within (length text) text

-- what is left begins a message, where it isn't bad
begun_within : (n : ℕ) (bytes : List ℕ) → length bytes ≤ n → (cut_within n bytes).is_bad ≡ false →
    IsProperFront (cut_within n bytes).rest
unfolding cut_within
begun_within zero bytes h b = (more_is_exact bytes).0 (none_read bytes h)
begun_within (suc n) bytes h b = by (read_of bytes) refl (λ rest l c. begun_within n rest (omega (arith, l, h)) c) b
  where
    by : (r : PlumbRead) → read_of bytes ≡ r
        → ((rest : List ℕ) → length rest < length bytes → (cut_within n rest).is_bad ≡ false →
        IsProperFront (cut_within n rest).rest)
        → (cut_read (cut_within n) bytes r).is_bad ≡ false → IsProperFront (cut_read (cut_within n) bytes r).rest
    by (Whole m used) e begun b = begun (drop used bytes) (fewer bytes m used e) b
    by More e begun b = (more_is_exact bytes).0 e
    by Bad e begun b = absurd cc

pub begun_left : (text : List ℕ) → (cut_of text).is_bad ≡ false → IsProperFront (cut_of text).rest
unfolding cut_of
begun_left text b = begun_within (length text) text (omega arith) b

-- What a side that reads messages has done, one step on.
use Rattle.std.proofs.Common.{◌≡◌, inl, inr, ℕ, ◌+◌, ◌≤◌, Bool, true, false, not, List, [], ◌∷◌, ◌++◌, length, Option}
use Rattle.std.proofs.Common.{Some, None, refl, sym, ap, subst, ◌∙◌, append_assoc, if◌then◌else◌}
use Rattle.std.proofs.lemmas.List.{append-nil}
use Rattle.std.proofs.lemmas.List.Concat.{flat_map-append}
use Rattle.am_base.specs.Outside.{then_told}
use Rattle.ninep_types.specs.declared.fault.WireFault.TheVariants as wire
use Rattle.ninep_cut.specs.declared.cut.Cut.TheVariants as cut
use Rattle.ninep_cut.specs.Cuts.{Stream, TakesFirst, TakesNone, then_cut, cut_of, cut_stream}
use Rattle.ninep_cut.specs.Laws.{JoinsPieces}
use Rattle.am_journal.specs.declared.ending.Bad.{Bad}
use Rattle.am_journal.specs.declared.ending.Bad.TheVariants as bad
use Rattle.am_journal.specs.declared.ending.Ending.{Ending}
use Rattle.am_journal.specs.declared.ending.Ending.TheVariants as ending
use Rattle.am_journal.specs.declared.event.Event.{Event}
use Rattle.am_journal.specs.declared.event.Event.TheVariants.{Msg, Hang}
use Rattle.am_counter.specs.declared.ask.Ask.TheVariants.{Room}
use Rattle.am_counter.specs.Known.{Known, Looks}
use Rattle.am_counter.specs.Played.{IsPrefix, has_hang}
use Rattle.am_serve.specs.Gained.{Rule, Answers, Gains, gained, hang_up, HangsUp, plain}
use Rattle.am_serve.specs.declared.budget.Budget.{Budget}
use Rattle.am_serve.specs.Budget.{whole, has_message, after_message, IsLeft}
use Rattle.am_base.specs.Stops.{piece_limit}
use Rattle.am_serve.specs.Reading.{AreMessages, spelling_of, spellings, AreRead, AreFront, IsNext, IsDue, StandAmong}
use Rattle.am_serve.specs.Reading.{messages_of as came, IsTurn, IsBroken, EndsAfter, HadRoom, HadRoomEach, IsOfRead}
use Rattle.am_serve.specs.Reading.{GivesOf}
use Rattle.am_base.specs.Seen.{Seen}
use Rattle.am_serve.specs.Sending.{StopsAt, Sends, Keeps, IsFed, StopsIn, StopsAfter, cause_of, ReadSoFar, ReadUntil}
use Rattle.am_serve.specs.declared.sending.Stop.{Stop}
use Rattle.am_serve.specs.declared.sending.Stop.TheVariants as stop
use Rattle.am_serve.proofs.Gaining.{grown, gains_nothing, gains_more, gains_look, gains_entry, gained_is, gains_gained}
use Rattle.am_serve.proofs.Gaining.{gains_then_look}
use Rattle.am_serve.proofs.Budgets.{left_at_first, left_fits, fits_next, left_further}
use Rattle.am_serve.proofs.HangUps.{has_hang_kept, gains_hang_up}
use Rattle.am_serve.proofs.Rooms.{each_later, with_room_later, with_room_for_none, each_more, pieces_more}
use Rattle.am_serve.proofs.Turns.{stand_seen}

-- ---- bytes

then_told-then : (o : Option (List ℕ)) (a b : List ℕ) → then_told a (then_told b o) ≡ then_told (a ++ b) o
then_told-then None a b = refl
then_told-then (Some h) a b = ap (λ (x : List ℕ). Some x) (sym (append_assoc a b h))

pub then_told-nil : (o : Option (List ℕ)) → then_told [] o ≡ o
then_told-nil None = refl
then_told-nil (Some h) = refl

-- ---- streams

then_cut-then : (a b : List (List ℕ)) (s : Stream) → then_cut a (then_cut b s) ≡ then_cut (a ++ b) s
then_cut-then a b s = let F : List (List ℕ) → Stream = λ l. record { messages = l; rest = s.rest } in
    ap F (sym (append_assoc a b s.messages))

then_cut-none : (a : List (List ℕ)) (left : List ℕ) → then_cut a (record { messages = []; rest = left })
    ≡ record { messages = a; rest = left }
then_cut-none a left = let F : List (List ℕ) → Stream = λ l. record { messages = l; rest = left } in ap F (append-nil a)

messages_of : (s t : Stream) → s ≡ t → s.messages ≡ t.messages
messages_of s t e = ap (λ (x : Stream). x.messages) e

rest_of : (s t : Stream) → s ≡ t → s.rest ≡ t.rest
rest_of s t e = ap (λ (x : Stream). x.rest) e

messages-append : (conn : ℕ) (xs ys : List (ℕ × Event)) → AreMessages conn xs → AreMessages conn ys
    → AreMessages conn (xs ++ ys)
messages-append conn [] ys p q = q
messages-append conn (x ∷ xs) ys p q = (p.0, messages-append conn xs ys p.1 q)

spellings-append : (xs ys : List (ℕ × Event)) → spellings (xs ++ ys) ≡ spellings xs ++ spellings ys
spellings-append xs ys = flat_map-append (λ (x : ℕ × Event). spelling_of x.1) xs ys

-- ---- steps

pub read_nothing : (answer : Answers) (conn : ℕ) (v : Known) (first : Option (List ℕ))
    → ReadSoFar answer conn v v [] whole first first
read_nothing answer conn v first = record {
  entries = [];
  gains = gains_nothing v;
  messages = tt;
  budget = left_at_first;
  bytes = [];
  told = sym (then_told-nil first);
  stream = refl;
  pieces = [];
  are = refl;
  each = tt;
}

-- a message was cut off, taken off the budget and submitted
pub read_message : (enabled : Rule) (answer : Answers) (conn : ℕ) (v u w : Known) (before after m : List ℕ)
    (b now_b : Budget) (first now : Option (List ℕ))
    → ReadSoFar answer conn v u before b first now → TakesFirst before after m
    → has_message b (length m) ≡ true → now_b ≡ after_message b (length m) → Sends enabled conn u m w
    → ReadSoFar answer conn v w after now_b first now
read_message enabled answer conn v u w before after m b now_b first now h t may spent s =
    let e : Event = Msg conn s.0 in
    let at = s.3 in
    let added : List (ℕ × Event) = (length at.0 + 1, e) ∷ [] in
    let P : Known → Type 0 = λ x. Gains u added x in
    let g : Gains u added w = subst P (sym at.4) (gains_entry u at.0 e at.1) in
    let given : spellings (h.entries ++ added) ≡ spellings h.entries ++ m ∷ [] =
    spellings-append h.entries added ∙ ap (λ (l : List ℕ). spellings h.entries ++ l ∷ []) (sym s.2) in
    record {
      entries = h.entries ++ added;
      gains = gains_more v u w h.entries added h.gains g;
      messages = messages-append conn h.entries added h.messages ((s.0, refl), tt);
      budget = let L : List (List ℕ) → Type 0 = λ l. IsLeft now_b l in
          subst L (sym given) (left_further b now_b (spellings h.entries) m h.budget may spent);
      bytes = h.bytes;
      told = h.told;
      stream =
          h.stream ∙ ap (then_cut (spellings h.entries)) t.stream ∙ then_cut-then (spellings h.entries) (m ∷ [])
          (cut_stream after)
          ∙ ap (λ (l : List (List ℕ)). then_cut l (cut_stream after)) (sym given);
      pieces = h.pieces;
      are = h.are;
      each = each_later answer conn u.seen w.seen [] h.pieces g.seen h.each;
    }

-- what the stream that was read is cut into, where no message is left
none_left : (answer : Answers) (conn : ℕ) (v u : Known) (left : List ℕ) (b : Budget) (first now : Option (List ℕ))
    (h : ReadSoFar answer conn v u left b first now) → cut_stream left ≡ record { messages = []; rest = left }
    → cut_stream h.bytes ≡ record { messages = spellings h.entries; rest = left }
none_left answer conn v u left b first now h e = h.stream ∙ ap (then_cut (spellings h.entries)) e
    ∙ then_cut-none (spellings h.entries) left

-- and with a piece behind it
piece_behind : (answer : Answers) (conn : ℕ) (v u : Known) (left piece : List ℕ) (b : Budget)
    (first now : Option (List ℕ)) (h : ReadSoFar answer conn v u left b first now)
    → cut_stream left ≡ record { messages = []; rest = left }
    → JoinsPieces → cut_stream (h.bytes ++ piece) ≡ then_cut (spellings h.entries) (cut_stream (left ++ piece))
piece_behind answer conn v u left piece b first now h e joins =
    joins h.bytes piece ∙ ap (λ (s : Stream). then_cut s.messages (cut_stream (s.rest ++ piece)))
    (none_left answer conn v u left b first now h e)

-- the connection has room, and all messages that were read have come
has_room : (answer : Answers) (conn : ℕ) (v u w : Known) (left : List ℕ) (b : Budget) (first now : Option (List ℕ))
    (h : ReadSoFar answer conn v u left b first now)
    → cut_stream left ≡ record { messages = []; rest = left } → Looks u w
    → answer w.seen (Room conn) ≡ true → HadRoom answer conn w.seen h.bytes
has_room answer conn v u w left b first now h e l room =
    let all : spellings h.entries ≡ (cut_stream h.bytes).messages =
    sym (messages_of (cut_stream h.bytes) (record { messages = spellings h.entries; rest = left })
    (none_left answer conn v u left b first now h e)) in
    record {
      journal = w.seen;
      front = ([], append-nil w.seen);
      messages = subst (λ (ms : List (List ℕ)). StandAmong ms (came w.seen conn)) all
          (stand_seen conn v w h.entries (gains_then_look v u w h.entries h.gains l) h.messages);
      room = room;
    }

still_each : (answer : Answers) (conn : ℕ) (v u w : Known) (left : List ℕ) (b : Budget) (first now : Option (List ℕ))
    (h : ReadSoFar answer conn v u left b first now) → Looks u w
    → HadRoomEach answer conn w.seen [] h.pieces
still_each answer conn v u w left b first now h l = each_later answer conn u.seen w.seen [] h.pieces
    (gains_look u w l).seen h.each

one_more : (answer : Answers) (conn : ℕ) (v u w : Known) (left piece : List ℕ) (b : Budget)
    (first now : Option (List ℕ)) (h : ReadSoFar answer conn v u left b first now)
    → cut_stream left ≡ record { messages = []; rest = left } → Looks u w → length piece ≤ piece_limit
    → answer w.seen (Room conn) ≡ true → HadRoomEach answer conn w.seen [] (h.pieces ++ piece ∷ [])
one_more answer conn v u w left piece b first now h e l le room =
    each_more answer conn w.seen h.bytes h.pieces piece h.are (still_each answer conn v u w left b first now h l) le
    (has_room answer conn v u w left b first now h e l room)

-- a piece was read
pub read_piece : (answer : Answers) (conn : ℕ) (v u w : Known) (left piece : List ℕ) (b : Budget)
    (first mid now : Option (List ℕ))
    → ReadSoFar answer conn v u left b first mid → cut_stream left ≡ record { messages = []; rest = left }
    → JoinsPieces → mid ≡ then_told piece now → Looks u w
    → length piece ≤ piece_limit → answer w.seen (Room conn) ≡ true → ReadSoFar answer conn v w (left ++ piece) b first
    now
read_piece answer conn v u w left piece b first mid now h e joins t l le room = record {
  entries = h.entries;
  gains = gains_then_look v u w h.entries h.gains l;
  messages = h.messages;
  budget = h.budget;
  bytes = h.bytes ++ piece;
  told = h.told ∙ ap (then_told h.bytes) t ∙ then_told-then now h.bytes piece;
  stream = piece_behind answer conn v u left piece b first mid h e joins;
  pieces = h.pieces ++ piece ∷ [];
  are = pieces_more h.bytes h.pieces piece h.are;
  each = one_more answer conn v u w left piece b first mid h e l le room;
}

-- ---- stops

-- at a message, which the budget has
stops_after : (enabled : Rule) (conn : ℕ) (seen : List Event) (given : List (List ℕ)) (m : List ℕ) (stream : Stream)
    (s : Stop)
    → IsDue given stream m → StopsAt enabled conn seen m s → StopsAfter enabled conn seen given stream s
stops_after enabled conn seen given m stream stop.Ended due h = (m ∷ due.0.0, due.0.1)
stops_after enabled conn seen given m stream (stop.Ends ending.End) due h = absurd h
stops_after enabled conn seen given m stream (stop.Ends ending.Torn) due h = absurd h
stops_after enabled conn seen given m stream (stop.Ends ending.ReadFault) due h = absurd h
stops_after enabled conn seen given m stream (stop.Ends (ending.Broken (bad.Wire f))) due h = inl (m, due, h)
stops_after enabled conn seen given m stream (stop.Ends (ending.Broken bad.Size)) due h = (m, h.0, due, h.1, h.2)
stops_after enabled conn seen given m stream (stop.Ends (ending.Broken bad.Tag)) due h = (m, h.0, due, h.1, h.2)
stops_after enabled conn seen given m stream (stop.Ends ending.Spent) due h = absurd h
stops_after enabled conn seen given m stream (stop.Ends ending.Gone) due h = absurd h
stops_after enabled conn seen given m stream (stop.Ends ending.NoMemory) due h = (m ∷ due.0.0, due.0.1)

-- the message that was cut off stands behind those that were given
next_is : (answer : Answers) (conn : ℕ) (v u : Known) (before after m : List ℕ) (b : Budget)
    (first now : Option (List ℕ)) (h : ReadSoFar answer conn v u before b first now) → TakesFirst before after m
    → IsNext (spellings h.entries) (cut_stream h.bytes).messages m
next_is answer conn v u before after m b first now h t = (
  (cut_stream after).messages,
  messages_of (cut_stream h.bytes) (then_cut (spellings h.entries) (then_cut (m ∷ []) (cut_stream after)))
      (h.stream ∙ ap (then_cut (spellings h.entries)) t.stream),
)

-- a message is no read
not_of_read : (enabled : Rule) (conn : ℕ) (seen : List Event) (m : List ℕ) (s : Stop) → StopsAt enabled conn seen m s
    → IsOfRead (cause_of s) → ⊥
not_of_read enabled conn seen m stop.Ended h x = x
not_of_read enabled conn seen m (stop.Ends ending.End) h x = h
not_of_read enabled conn seen m (stop.Ends ending.Torn) h x = h
not_of_read enabled conn seen m (stop.Ends ending.ReadFault) h x = h
not_of_read enabled conn seen m (stop.Ends (ending.Broken what)) h x = x
not_of_read enabled conn seen m (stop.Ends ending.Spent) h x = x
not_of_read enabled conn seen m (stop.Ends ending.Gone) h x = x
not_of_read enabled conn seen m (stop.Ends ending.NoMemory) h x = x

pub stops_at_message : (enabled : Rule) (answer : Answers) (conn : ℕ) (v u w : Known) (before after m : List ℕ)
    (b : Budget) (s : Stop) (first now : Option (List ℕ))
    → ReadSoFar answer conn v u before b first now → TakesFirst before after m
    → has_message b (length m) ≡ true → Keeps enabled conn u m s w → ReadUntil enabled answer conn v w s first now
stops_at_message enabled answer conn v u w before after m b s first now h t may k = record {
  entries = h.entries;
  gains = gains_then_look v u w h.entries h.gains k.0;
  messages = h.messages;
  fits = left_fits b (spellings h.entries) h.budget;
  bytes = h.bytes;
  told = h.told;
  stops =
      stops_after enabled conn w.seen (spellings h.entries) m (cut_stream h.bytes) s
      (next_is answer conn v u before after m b first now h t, sym (fits_next b (spellings h.entries) m h.budget) ∙ may)
      k.1;
  with_room = record {
    pieces = h.pieces;
    are = h.are;
    each = still_each answer conn v u w before b first now h k.0;
    last = λ x. absurd (not_of_read enabled conn w.seen m s k.1 x);
  };
}

-- at a message, which the budget hasn't
pub stops_at_budget : (enabled : Rule) (answer : Answers) (conn : ℕ) (v u : Known) (before after m : List ℕ)
    (b : Budget) (first now : Option (List ℕ))
    → ReadSoFar answer conn v u before b first now → TakesFirst before after m
    → has_message b (length m) ≡ false → ReadUntil enabled answer conn v u (stop.Ends ending.Spent) first now
stops_at_budget enabled answer conn v u before after m b first now h t may_not = record {
  entries = h.entries;
  gains = h.gains;
  messages = h.messages;
  fits = left_fits b (spellings h.entries) h.budget;
  bytes = h.bytes;
  told = h.told;
  stops = (
    m,
    next_is answer conn v u before after m b first now h t,
    sym (fits_next b (spellings h.entries) m h.budget)
        ∙ may_not,
  );
  with_room = record { pieces = h.pieces; are = h.are; each = h.each; last = λ x. absurd x };
}

-- at a piece
pub stops_at_piece : (enabled : Rule) (answer : Answers) (conn : ℕ) (v u w : Known) (left : List ℕ) (b : Budget)
    (s : Stop) (first : Option (List ℕ)) (i : Seen)
    → ReadSoFar answer conn v u left b first i.before.bytes → cut_stream left ≡ record { messages = []; rest = left }
    → cut_of left ≡ cut.More → JoinsPieces → Looks u w
    → StopsIn enabled answer conn w.seen i left s
    → ReadUntil enabled answer conn v w s first i.now.bytes
stops_at_piece enabled answer conn v u w left b s first i h e more joins l k = by_cases s k
  where
    all : spellings h.entries ≡ (cut_stream h.bytes).messages
    all = sym (messages_of (cut_stream h.bytes) (record { messages = spellings h.entries; rest = left })
        (none_left answer conn v u left b first i.before.bytes h e))

    rest : (cut_stream h.bytes).rest ≡ left
    rest = rest_of (cut_stream h.bytes) (record { messages = spellings h.entries; rest = left })
        (none_left answer conn v u left b first i.before.bytes h e)

    less : cut_of (cut_stream h.bytes).rest ≡ cut.More
    less = ap cut_of rest ∙ more

    -- nothing more was read
    same : (s : Stop) → i.now.bytes ≡ i.before.bytes → StopsAfter enabled conn w.seen (spellings h.entries)
        (cut_stream h.bytes) s → (IsOfRead (cause_of s) → HadRoom answer conn w.seen h.bytes)
        → ReadUntil enabled answer conn v w s first i.now.bytes
    same s t stops last = record {
      entries = h.entries;
      gains = gains_then_look v u w h.entries h.gains l;
      messages = h.messages;
      fits = left_fits b (spellings h.entries) h.budget;
      bytes = h.bytes;
      told = h.told ∙ ap (then_told h.bytes) (sym t);
      stops = stops;
      with_room = record {
        pieces = h.pieces;
        are = h.are;
        each = still_each answer conn v u w left b first
            i.before.bytes h l;
        last = last;
      };
    }

    at_turn : (cause : Ending) → answer w.seen (Room conn) ≡ true → IsOfRead (Some cause)
        → HadRoom answer conn w.seen h.bytes
    at_turn cause room x = has_room answer conn v u w left b first i.before.bytes h e l room

    by_cases : (s : Stop) → StopsIn enabled answer conn w.seen i left s
        → ReadUntil enabled answer conn v w s first i.now.bytes
    by_cases stop.Ended k = same stop.Ended k.0 ([], sym all ∙ sym (append-nil (spellings h.entries))) (λ x. absurd x)
    by_cases (stop.Ends ending.End) k = same (stop.Ends ending.End) k.0.0 (all, rest ∙ k.0.2) (at_turn ending.End k.1)
    by_cases (stop.Ends ending.Torn) k = same (stop.Ends ending.Torn) k.0.0 (all, less, λ x. k.0.2 (sym rest ∙ x))
        (at_turn ending.Torn k.1)
    by_cases (stop.Ends ending.ReadFault) k = same (stop.Ends ending.ReadFault) k.0.0 (all, less)
        (at_turn ending.ReadFault k.1)
    by_cases (stop.Ends (ending.Broken bad)) k = absurd k.0
    by_cases (stop.Ends ending.Spent) k = absurd k.0
    by_cases (stop.Ends ending.Gone) k = absurd k.0
    by_cases (stop.Ends ending.NoMemory) k =
        let piece : List ℕ = k.0.0 in
        record {
          entries = h.entries;
          gains = gains_then_look v u w h.entries h.gains l;
          messages = h.messages;
          fits = left_fits b (spellings h.entries) h.budget;
          bytes = h.bytes ++ piece;
          told = h.told ∙ ap (then_told h.bytes) k.0.2 ∙ then_told-then i.now.bytes h.bytes piece;
          stops = (
            (cut_stream (left ++ piece)).messages,
            messages_of (cut_stream (h.bytes ++ piece)) (then_cut (spellings h.entries) (cut_stream (left ++ piece)))
                (piece_behind answer conn v u left piece b first i.before.bytes h e joins),
          );
          with_room = record {
            pieces = h.pieces ++ piece ∷ [];
            are = pieces_more h.bytes h.pieces piece h.are;
            each = one_more answer conn v u w left piece b first i.before.bytes h e l k.0.1 k.1;
            last = λ x. absurd x;
          };
        }

-- at a size that no message has
pub stops_at_size : (enabled : Rule) (answer : Answers) (conn : ℕ) (v u : Known) (left : List ℕ) (b : Budget) (size : ℕ)
    (first now : Option (List ℕ))
    → ReadSoFar answer conn v u left b first now → cut_stream left ≡ record { messages = []; rest = left }
    → cut.Broken size ≡ cut_of left
    → ReadUntil enabled answer conn v u (stop.Ends (ending.Broken (bad.Wire wire.Size))) first now
stops_at_size enabled answer conn v u left b size first now h e broken =
    let none = none_left answer conn v u left b first now h e in
    record {
      entries = h.entries;
      gains = h.gains;
      messages = h.messages;
      fits = left_fits b (spellings h.entries) h.budget;
      bytes = h.bytes;
      told = h.told;
      stops = inr (
        refl,
        (
          size,
          sym (messages_of (cut_stream h.bytes) (record { messages = spellings h.entries; rest = left }) none),
          ap cut_of (rest_of (cut_stream h.bytes) (record { messages = spellings h.entries; rest = left }) none)
              ∙ sym broken,
        ),
      );
      with_room = record { pieces = h.pieces; are = h.are; each = h.each; last = λ x. absurd x };
    }

-- for want of memory
pub stops_for_memory : (enabled : Rule) (answer : Answers) (conn : ℕ) (v u : Known) (left : List ℕ) (b : Budget)
    (first now : Option (List ℕ)) → ReadSoFar answer conn v u left b first now
    → ReadUntil enabled answer conn v u (stop.Ends ending.NoMemory) first now
stops_for_memory enabled answer conn v u left b first now h = record {
  entries = h.entries;
  gains = h.gains;
  messages = h.messages;
  fits = left_fits b (spellings h.entries) h.budget;
  bytes = h.bytes;
  told = h.told;
  stops = (
    (cut_stream left).messages,
    messages_of (cut_stream h.bytes)
        (then_cut (spellings h.entries) (cut_stream left)) h.stream,
  );
  with_room = record { pieces = h.pieces; are = h.are; each = h.each; last = λ x. absurd x };
}

-- ---- as the calls say it

pub sends_on : (enabled : Rule) (answer : Answers) (conn : ℕ) (v u w : Known) (before after m sent : List ℕ)
    (b now_b : Budget) (first now : Option (List ℕ))
    → ReadSoFar answer conn v u before b first now → TakesFirst before after m
    → sent ≡ m → has_message b (length sent) ≡ true → now_b ≡ after_message b (length sent)
    → Sends enabled conn u sent w
    → ReadSoFar answer conn v w after now_b first now
sends_on enabled answer conn v u w before after m sent b now_b first now h t e may spent s =
    let P : List ℕ → Type 0 = λ x. (has_message b (length x) ≡ true) × (now_b ≡ after_message b (length x))
    × Sends enabled conn u x w in
    let all = subst P e (may, spent, s) in
    read_message enabled answer conn v u w before after m b now_b first now h t all.0 all.1 all.2

pub stops_sending : (enabled : Rule) (answer : Answers) (conn : ℕ) (v u w : Known) (before after m sent : List ℕ)
    (b : Budget) (s : Stop) (first now : Option (List ℕ))
    → ReadSoFar answer conn v u before b first now → TakesFirst before after m
    → sent ≡ m → has_message b (length sent) ≡ true → Keeps enabled conn u sent s w
    → ReadUntil enabled answer conn v w s first now
stops_sending enabled answer conn v u w before after m sent b s first now h t e may k =
    let P : List ℕ → Type 0 = λ x. (has_message b (length x) ≡ true) × Keeps enabled conn u x s w in
    let all = subst P e (may, k) in
    stops_at_message enabled answer conn v u w before after m b s first now h t all.0 all.1

pub stops_spent : (enabled : Rule) (answer : Answers) (conn : ℕ) (v u : Known) (before after m sent : List ℕ)
    (b : Budget) (first now : Option (List ℕ))
    → ReadSoFar answer conn v u before b first now → TakesFirst before after m
    → sent ≡ m → has_message b (length sent) ≡ false → ReadUntil enabled answer conn v u (stop.Ends ending.Spent)
    first now
stops_spent enabled answer conn v u before after m sent b first now h t e may_not =
    stops_at_budget enabled answer conn v u before after m b first now h t
    (sym (ap (λ (x : List ℕ). has_message b (length x)) e) ∙ may_not)

pub reads_on : (answer : Answers) (conn : ℕ) (v u w : Known) (left stayed after had given : List ℕ) (b : Budget)
    (first mid now : Option (List ℕ))
    → ReadSoFar answer conn v u left b first mid → TakesNone left stayed had given → JoinsPieces → Looks u w
    → IsFed mid now stayed after → answer w.seen (Room conn) ≡ true → ReadSoFar answer conn v w after b first now
reads_on answer conn v u w left stayed after had given b first mid now h t joins l p room =
    let P : List ℕ → Type 0 = λ x. ReadSoFar answer conn v w x b first now in
    subst P (sym (p.3 ∙ ap (λ (x : List ℕ). x ++ p.0) t.stays)) (read_piece answer conn v u w left p.0 b first mid now h
    t.stream joins p.2 l p.1 room)

pub stops_reading : (enabled : Rule) (answer : Answers) (conn : ℕ) (v u w : Known) (left stayed had given : List ℕ)
    (b : Budget) (s : Stop) (first : Option (List ℕ)) (i : Seen)
    → ReadSoFar answer conn v u left b first i.before.bytes → TakesNone left stayed had given → cut.More ≡ cut_of left
    → JoinsPieces → Looks u w
    → StopsIn enabled answer conn w.seen i stayed s
    → ReadUntil enabled answer conn v w s first i.now.bytes
stops_reading enabled answer conn v u w left stayed had given b s first i h t more joins l k =
    let P : List ℕ → Type 0 = λ x. StopsIn enabled answer conn w.seen i x s in
    stops_at_piece enabled answer conn v u w left b s first i h t.stream (sym more) joins l (subst P t.stays k)

-- nothing was read, for want of memory
pub stops_unread : (enabled : Rule) (answer : Answers) (conn : ℕ) (v : Known) (first : Option (List ℕ))
    → ReadUntil enabled answer conn v v (stop.Ends ending.NoMemory) first first
stops_unread enabled answer conn v first = record {
  entries = [];
  gains = gains_nothing v;
  messages = tt;
  fits = refl;
  bytes = [];
  told = sym (then_told-nil first);
  stops = ((cut_stream []).messages, refl);
  with_room = record { pieces = []; are = refl; each = tt; last = λ h. absurd h };
}

-- ---- the end

-- more of the journal was seen
pub gives_later : (enabled : Rule) (answer : Answers) (conn : ℕ) (xs ys : List Event) (given : List (List ℕ))
    (first now : Option (List ℕ)) (read : Option Ending) → IsPrefix xs ys
    → GivesOf enabled answer conn xs given first now read → GivesOf enabled answer conn ys given first now read
gives_later enabled answer conn xs ys given first now None p (bytes, told, fits, g, with_room) =
    (bytes, told, fits, g, with_room_later answer conn xs ys bytes None p with_room)
gives_later enabled answer conn xs ys given first now (Some why) p (bytes, told, fits, g, with_room) = (
  bytes,
  told,
  fits,
  (g.0, record { front = grown g.0 xs ys g.1.front p; messages = g.1.messages; goes_on = g.1.goes_on }, g.2),
  with_room_later answer conn xs ys bytes (Some why) p with_room,
)

all_front : (given messages : List (List ℕ)) → given ≡ messages → AreFront given messages
all_front given messages e = ([], sym e ∙ sym (append-nil given))

next_front : (given messages : List (List ℕ)) (m : List ℕ) → IsNext given messages m → AreFront given messages
next_front given messages m n = (m ∷ n.0, n.1)

broken_front : (enabled : Rule) (conn : ℕ) (journal : List Event) (given : List (List ℕ)) (stream : Stream) (what : Bad)
    → IsBroken enabled conn journal given stream what → AreFront given stream.messages
broken_front enabled conn journal given stream (bad.Wire f) (inl g) = next_front given stream.messages g.0 g.1.0
broken_front enabled conn journal given stream (bad.Wire f) (inr g) = all_front given stream.messages g.1.1
broken_front enabled conn journal given stream bad.Size g = next_front given stream.messages g.0 g.2.0
broken_front enabled conn journal given stream bad.Tag g = next_front given stream.messages g.0 g.2.0

-- another had ended the connection
ends_front : (enabled : Rule) (conn : ℕ) (journal : List Event) (given : List (List ℕ)) (stream : Stream) (why : Ending)
    → EndsAfter enabled conn journal given stream why → AreFront given stream.messages
ends_front enabled conn journal given stream ending.End g = all_front given stream.messages g.0
ends_front enabled conn journal given stream ending.Torn g = all_front given stream.messages g.0
ends_front enabled conn journal given stream ending.ReadFault g = all_front given stream.messages g.0
ends_front enabled conn journal given stream (ending.Broken what) g = broken_front enabled conn journal given stream
    what g
ends_front enabled conn journal given stream ending.Spent g = next_front given stream.messages g.0 g.1
ends_front enabled conn journal given stream ending.Gone g = absurd g
ends_front enabled conn journal given stream ending.NoMemory g = g

module _ (enabled : Rule) (answer : Answers) (conn : ℕ) (v w : Known) (first now : Option (List ℕ)) where
  pub had_ended_gains : ReadUntil enabled answer conn v w stop.Ended first now → Gains v (gained v w) w
  had_ended_gains h = gains_gained v w h.entries h.gains

  pub had_ended_entries : ReadUntil enabled answer conn v w stop.Ended first now → AreRead conn None v w
  had_ended_entries h = let P : List (ℕ × Event) → Type 0 = λ l. AreMessages conn l in
      subst P (sym (gained_is v w h.entries h.gains)) h.messages

  pub had_ended_gives : ReadUntil enabled answer conn v w stop.Ended first now
      → GivesOf enabled answer conn w.seen (spellings (gained v w)) first now None
  had_ended_gives h =
      let P : List (List ℕ) → Type 0 = λ l. GivesOf enabled answer conn w.seen l first now None in
      subst P (sym (ap spellings (gained_is v w h.entries h.gains))) (h.bytes, h.told, h.fits, h.stops, h.with_room)

-- ---- the connection is ended after that

not_some : (b : Bool) → true ≡ not b → b ≡ false
not_some false e = refl
not_some true e = absurd cc

not_both : (b : Bool) → b ≡ true → b ≡ false → ⊥
not_both true p q = absurd cc
not_both false p q = absurd cc

is_some_then : (b : Bool) → false ≡ not b → b ≡ true
is_some_then true e = refl
is_some_then false e = absurd cc

module _ (enabled : Rule) (answer : Answers) (conn : ℕ) (v u w : Known) (cause : Ending) (made : Bool)
    (first now : Option (List ℕ)) (h : ReadUntil enabled answer conn v u (stop.Ends cause) first now)
    (k : HangsUp u conn cause made w) where
  hung : Gains u (hang_up k.0 conn cause) w
  hung = gains_hang_up u w conn cause k.0 k.1 k.3

  together : Gains v (h.entries ++ hang_up k.0 conn cause) w
  together = gains_more v u w h.entries (hang_up k.0 conn cause) h.gains hung

  pub hung_gains : Gains v (gained v w) w
  hung_gains = gains_gained v w (h.entries ++ hang_up k.0 conn cause) together

  abbrev added : Bool → List (ℕ × Event)
  added b = if b then [] else (length k.0 + 1, Hang conn cause) ∷ []

  seen_is : w.seen ≡ k.0 ++ plain (hang_up k.0 conn cause)
  seen_is = ap (λ (x : Known). x.seen) k.3

  pub hung_entries : made ≡ true → AreRead conn (Some cause) v w
  hung_entries e =
      let none : has_hang k.0 conn ≡ false = not_some (has_hang k.0 conn) (sym e ∙ k.2) in (
        h.entries,
        k.0,
        h.messages,
        none,
        gained_is v w (h.entries ++ hang_up k.0 conn cause) together ∙ ap (λ (b : Bool). h.entries ++ added b) none,
        seen_is ∙ ap (λ (b : Bool). k.0 ++ plain (added b)) none,
      )

  pub unhung_entries : made ≡ false → AreRead conn None v w
  unhung_entries e =
      let some : has_hang k.0 conn ≡ true = is_some_then (has_hang k.0 conn) (sym e ∙ k.2) in
      let P : List (ℕ × Event) → Type 0 = λ l. AreMessages conn l in
      subst P
      (sym (gained_is v w (h.entries ++ hang_up k.0 conn cause) together ∙ ap (λ (b : Bool). h.entries ++ added b) some
      ∙ append-nil h.entries))
      h.messages

  -- the hang-up is no message
  given_is : spellings (gained v w) ≡ spellings h.entries
  given_is =
      ap spellings (gained_is v w (h.entries ++ hang_up k.0 conn cause) together)
      ∙ spellings-append h.entries (hang_up k.0 conn cause)
      ∙ ap (λ (l : List (List ℕ)). spellings h.entries ++ l) (nothing (has_hang k.0 conn))
      ∙ append-nil (spellings h.entries)
    where
      nothing : (b : Bool) → spellings (if b then [] else (length k.0 + 1, Hang conn cause) ∷ []) ≡ []
      nothing true = refl
      nothing false = refl

  -- the connection went on where reading stopped
  went_on : made ≡ true → IsTurn conn w.seen (spellings h.entries) u.seen
  went_on e = record {
    front = hung.seen;
    messages = stand_seen conn v u h.entries h.gains h.messages;
    goes_on = not_yet (has_hang u.seen conn) refl;
  }
    where
      not_yet : (b : Bool) → has_hang u.seen conn ≡ b → has_hang u.seen conn ≡ false
      not_yet false f = f
      not_yet true f = absurd (not_both (has_hang k.0 conn) (has_hang_kept u.seen k.0 conn k.1 f)
          (not_some (has_hang k.0 conn) (sym e ∙ k.2)))

  pub hung_gives : made ≡ true → GivesOf enabled answer conn w.seen (spellings (gained v w)) first now (Some cause)
  hung_gives e =
      let P : List (List ℕ) → Type 0 = λ l. GivesOf enabled answer conn w.seen l first now (Some cause) in
      subst P (sym given_is) (
        h.bytes,
        h.told,
        h.fits,
        (u.seen, went_on e, h.stops),
        with_room_later answer conn u.seen w.seen h.bytes (Some cause) hung.seen h.with_room,
      )

  pub unhung_gives : GivesOf enabled answer conn w.seen (spellings (gained v w)) first now None
  unhung_gives =
      let P : List (List ℕ) → Type 0 = λ l. GivesOf enabled answer conn w.seen l first now None in
      subst P (sym given_is) (
        h.bytes,
        h.told,
        h.fits,
        ends_front enabled conn u.seen (spellings h.entries) (cut_stream h.bytes) cause h.stops,
        with_room_for_none answer conn w.seen h.bytes (Some cause)
            (with_room_later answer conn u.seen w.seen h.bytes (Some cause) hung.seen h.with_room),
      )

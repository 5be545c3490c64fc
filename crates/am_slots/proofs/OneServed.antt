-- One connection that was served, whose two lists alone have events of it.
use Rattle.std.proofs.Common.{◌≡◌, ℕ, ◌-◌, ◌<◌, Bool, true, false, ◌==◌, List, [], ◌∷◌, ◌++◌, length, map, take, Option}
use Rattle.std.proofs.Common.{Some, None, refl, sym, ap, subst, ◌∙◌, append_assoc}
use Rattle.std.specs.Prelude.{filter, if◌then◌else◌}
use Rattle.std.specs.List.{flat_map}
use Rattle.std.proofs.lemmas.List.{map-append}
use Rattle.turn_lock.specs.Journal.{total, once, times, Stands, AllStand}
use Rattle.turn_lock.specs.Kinds.{plain, AllFail, NoneHas, KeepsOrder}
use Rattle.ninep_types.specs.Spelling.{spelling_t}
use Rattle.am_journal.specs.declared.ending.Ending.{Ending}
use Rattle.am_journal.specs.declared.event.Event.{Event}
use Rattle.am_journal.specs.declared.event.Event.TheVariants as event
use Rattle.am_counter.specs.Laws.{TellsConnections}
use Rattle.am_counter.specs.Played.{IsPlayed, has_hang, is_dial_of}
use Rattle.am_serve.specs.Gained.{Rule, Answers}
use Rattle.am_serve.specs.Reading.{GivesOf, spellings, spelled_on, messages_of}
use Rattle.am_serve.specs.Writing.{taken_bytes, Gets}
use Rattle.am_serve.specs.declared.writing.WriteEnd.{WriteEnd}
use Rattle.am_counter.specs.Sent.{sent_by, sent}
use Rattle.am_slots.specs.Connection.{is_of, ended_by, endings_of}
use Rattle.am_slots.specs.Sides.{Reads, Writes}
use Rattle.am_slots.specs.Slots.{IsCause, IsServed}
use Rattle.am_slots.proofs.Gathered.{none-append, none_narrower, gives, gives_none, gathered}
use Rattle.am_slots.proofs.HangUps.{ends_once}
use Rattle.am_slots.proofs.Numbered.{numbered, tagged, plain_tagged, none_tagged, keeps_numbers, sent_at, sent_is}
use Rattle.am_slots.proofs.Own.{reads_fail, writes_fail, dial_read, spelled_read, sent_taken, cause_of_reading}
use Rattle.am_slots.proofs.Own.{cause_of_writing}

-- ---- events of other connections

pub no_dial : (conn : ℕ) (e : Event) → is_of conn e ≡ false → is_dial_of conn e ≡ false
no_dial conn (event.Dial c) h = h
no_dial conn e h = refl

no_message : (conn : ℕ) (e : Event) → is_of conn e ≡ false → spelled_on conn e ≡ []
no_message conn (event.Msg c msg) h = ap (λ b. if b then spelling_t msg ∷ [] else []) h
no_message conn e h = refl

no_ending : (conn : ℕ) (e : Event) → is_of conn e ≡ false → ended_by conn e ≡ []
no_ending conn (event.Hang c why) h = ap (λ b. if b then why ∷ [] else []) h
no_ending conn e h = refl

-- an event that takes the connection's replies
abbrev is_taking_of : ℕ → Event → Bool
is_taking_of conn (event.Took c) = c == conn
is_taking_of conn e = false

no_taking : (conn : ℕ) (e : Event) → is_of conn e ≡ false → is_taking_of conn e ≡ false
no_taking conn (event.Took c) h = h
no_taking conn e h = refl

nothing_sent : (unsent : List Event → ℕ → List ℕ) (conn : ℕ) (before : List Event) (e : Event)
    → is_taking_of conn e ≡ false → sent_by unsent conn before e ≡ []
nothing_sent unsent conn before (event.Took c) h = ap (λ b. if b then unsent before c else []) h
nothing_sent unsent conn before e h = refl

-- a list among others stands in the journal
stands_among : (log : List Event) (before after : List (List (ℕ × Event))) (one : List (ℕ × Event))
    → AllStand log (before ++ one ∷ after) → Stands log 0 one
stands_among log [] after one s = s.0
stands_among log (l ∷ before) after one s = stands_among log before after one s.1

module _ (journal : List Event) (lists : List (List (ℕ × Event))) (order : KeepsOrder journal lists) (conn : ℕ)
    (before after : List (List (ℕ × Event))) (reads writes : List (ℕ × Event))
    (are : lists ≡ before ++ reads ∷ writes ∷ after) (none_before : NoneHas (is_of conn) before)
    (none_after : NoneHas (is_of conn) after) where
  behind : lists ≡ (before ++ reads ∷ []) ++ writes ∷ after
  behind = are ∙ sym (append_assoc before (reads ∷ []) (writes ∷ after))

  -- what is gathered of the connection, where one of its lists has nothing of it
  gathered_reads : {A : Type 0} (f : Event → List A) → ((e : Event) → is_of conn e ≡ false → f e ≡ [])
      → AllFail (gives f) writes
      → flat_map f journal ≡ flat_map f (plain reads)
  gathered_reads f other none =
      let narrower : (ls : List (List (ℕ × Event))) → NoneHas (is_of conn) ls → NoneHas (gives f) ls =
      none_narrower (is_of conn) (gives f) (λ e h. gives_none f e (other e h)) in
      gathered f journal lists before (writes ∷ after) reads order are (narrower before none_before)
      (none, narrower after none_after)

  gathered_writes : {A : Type 0} (f : Event → List A) → ((e : Event) → is_of conn e ≡ false → f e ≡ [])
      → AllFail (gives f) reads
      → flat_map f journal ≡ flat_map f (plain writes)
  gathered_writes f other none =
      let narrower : (ls : List (List (ℕ × Event))) → NoneHas (is_of conn) ls → NoneHas (gives f) ls =
      none_narrower (is_of conn) (gives f) (λ e h. gives_none f e (other e h)) in
      gathered f journal lists (before ++ reads ∷ []) after writes order behind
      (none-append (gives f) before (reads ∷ []) (narrower before none_before) (none, tt)) (narrower after none_after)

  module _ (enabled : Rule) (unsent : List Event → ℕ → List ℕ) (answer : Answers) (first now : Option (List ℕ))
      (wrote : WriteEnd) (held : Option (List ℕ))
      (w : Writes unsent conn journal wrote held writes) where
    module _ (read : Option Ending) (r : Reads enabled answer conn journal first now read reads) where
      dial_once : filter (is_dial_of conn) journal ≡ event.Dial conn ∷ []
      dial_once =
          let p = is_dial_of conn in
          order p before (writes ∷ after) reads are (none_narrower (is_of conn) p (no_dial conn) before none_before) (
            writes_fail unsent conn journal wrote held writes w p refl (λ why. refl),
            none_narrower (is_of conn) p (no_dial conn) after none_after,
          )
          ∙ dial_read enabled answer conn journal first now read reads r

      messages_are : messages_of journal conn ≡ spellings r.messages
      messages_are =
          let f = spelled_on conn in
          gathered_reads f (no_message conn) (writes_fail unsent conn journal wrote held writes w (gives f) refl
          (λ why. refl))
          ∙ spelled_read enabled answer conn journal first now read reads r

      -- the takings of the connection, with their numbers
      sent_are : AllStand journal lists → ((k : ℕ) → total (times k) lists ≡ once (length journal) k)
          → sent unsent journal conn ≡ taken_bytes unsent journal writes
      sent_are stand each_once =
          let p = is_taking_of conn in
          let f : ℕ × Event → List ℕ = sent_at unsent journal conn in
          let none : (x : ℕ × Event) → p x.1 ≡ false → gives f x ≡ false = λ x h. gives_none f x
          (nothing_sent unsent conn (take (x.0 - 1) journal) x.1 h) in
          let reads_none : AllFail p reads = reads_fail enabled answer conn journal first now read reads r p refl
          (λ msg. refl) (λ why e. refl) in
          let before_none : NoneHas p (before ++ reads ∷ []) =
          none-append p before (reads ∷ []) (none_narrower (is_of conn) p (no_taking conn) before none_before)
          (reads_none, tt) in
          let after_none : NoneHas p after = none_narrower (is_of conn) p (no_taking conn) after none_after in
          sym (sent_is unsent conn journal)
          ∙ gathered f (numbered 1 journal) (map tagged lists) (map tagged (before ++ reads ∷ [])) (map tagged after)
          (tagged writes)
          (keeps_numbers journal lists stand each_once)
          (ap (map tagged) behind ∙ map-append tagged (before ++ reads ∷ []) (writes ∷ after))
          (none_tagged p (gives f) none (before ++ reads ∷ []) before_none)
          (none_tagged p (gives f) none after after_none)
          ∙ ap (flat_map f) (plain_tagged writes)
          ∙ sent_taken unsent conn journal wrote held writes w

    -- the one hang-up has a cause that a side answered
    cause_is : (read : Option Ending) → Reads enabled answer conn journal first now read reads → AllStand journal lists
        → (cause : Ending) → endings_of journal conn ≡ cause ∷ [] → IsCause read wrote cause
    cause_is (Some why) r stand cause e =
        let P : List (List (ℕ × Event)) → Type 0 = λ l. AllStand journal l in
        cause_of_reading enabled answer conn journal first now why cause reads r
        (stands_among journal before (writes ∷ after) reads (subst P are stand)) e
    cause_is None r stand cause e =
        let f = ended_by conn in
        let none : AllFail (gives f) reads = reads_fail enabled answer conn journal first now None reads r (gives f)
        refl (λ msg. refl) (λ why q. absurd cc) in
        cause_of_writing unsent conn journal wrote held writes w cause
        (sym (gathered_writes f (no_ending conn) none) ∙ e)

    -- what the journal has of the connection
    pub served : TellsConnections enabled answer → IsPlayed enabled journal → AllStand journal lists
        → ((k : ℕ) → total (times k) lists ≡ once (length journal) k) → conn < 64 → has_hang journal conn ≡ true
        → (read : Option Ending) → Reads enabled answer conn journal first now read reads
        → IsServed enabled unsent answer journal conn first now read wrote held
    served laws played stand each_once low ended read r =
        let one = ends_once enabled conn (λ j why p. laws.hang j conn why p low) journal played ended in
        let G : List (List ℕ) → Type 0 = λ l. GivesOf enabled answer conn journal l first now read in
        let S : List ℕ → Type 0 = λ l. Gets wrote w.first l held in
        record {
          dialled = dial_once read r;
          cause = one.0;
          ended = one.1;
          caused = cause_is read r stand one.0 one.1;
          gives = subst G (sym (messages_are read r)) r.gives;
          empty = w.first;
          begins_empty = w.begins_empty;
          gets = subst S (sym (sent_are read r stand each_once)) w.gets;
          drained = w.drained;
        }

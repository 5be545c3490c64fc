-- The lists of one connection by themselves: what they have none of, and what is gathered from them.
use Rattle.std.proofs.Common.{◌≡◌, ◌⊎◌, inl, inr, ℕ, ◌-◌, Bool, false, cond, List, [], ◌∷◌, ◌++◌, take, Option, Some}
use Rattle.std.proofs.Common.{None, refl, sym, ap, subst, ◌∙◌, append-nil}
use Rattle.std.specs.Prelude.{filter, slice_get, if◌then◌else◌}
use Rattle.std.specs.List.{flat_map}
use Rattle.std.proofs.lemmas.Bool.{eq-eqb}
use Rattle.std.proofs.lemmas.List.{map-append}
use Rattle.std.proofs.lemmas.List.Concat.{flat_map-append}
use Rattle.turn_lock.specs.Journal.{Stands}
use Rattle.turn_lock.specs.Kinds.{plain, AllFail}
use Rattle.ninep_types.specs.declared.message.TMsg.{TMsg}
use Rattle.ninep_types.specs.Spelling.{spelling_t}
use Rattle.am_journal.specs.declared.ending.Ending.{Ending}
use Rattle.am_journal.specs.declared.ending.Ending.TheVariants as ending
use Rattle.am_journal.specs.declared.event.Event.{Event}
use Rattle.am_journal.specs.declared.event.Event.TheVariants.{Dial, Msg, Hang, Took}
use Rattle.am_counter.specs.Played.{is_dial_of}
use Rattle.am_serve.specs.Gained.{Rule, Answers}
use Rattle.am_serve.specs.Reading.{AreMessages, spelling_of, spellings, spelled_on}
use Rattle.am_serve.specs.Writing.{AreTakings, bytes_of, taken_bytes}
use Rattle.am_serve.specs.declared.writing.WriteEnd.{WriteEnd}
use Rattle.am_serve.specs.declared.writing.WriteEnd.TheVariants as end
use Rattle.am_counter.specs.Sent.{sent_by}
use Rattle.am_slots.specs.Connection.{ended_by}
use Rattle.am_slots.specs.Sides.{IsHangUp, HangsAfterReading, HangsAfterWriting, Reads, Writes}
use Rattle.am_slots.specs.Slots.{IsCause}
use Rattle.am_slots.proofs.Gathered.{fails-append, filter_fails, gathered_at, only_one}
use Rattle.am_slots.proofs.Numbered.{sent_at}

-- no hang-up, or one
abbrev MayHang : ℕ → List (ℕ × Event) → Type 0
MayHang conn xs = (xs ≡ []) ⊎ ((why : Ending) × IsHangUp conn why xs)

may_hang : (conn : ℕ) (wrote : WriteEnd) (xs : List (ℕ × Event)) → HangsAfterWriting conn wrote xs → MayHang conn xs
may_hang conn end.Ended xs a = inl a
may_hang conn end.Gone xs (inl a) = inl a
may_hang conn end.Gone xs (inr a) = inr (ending.Gone, a)
may_hang conn end.NoMemory xs (inl a) = inl a
may_hang conn end.NoMemory xs (inr a) = inr (ending.NoMemory, a)

-- ---- kinds that a list has none of

module _ (conn : ℕ) (p : Event → Bool) where
  messages_fail : (xs : List (ℕ × Event)) → ((msg : TMsg) → p (Msg conn msg) ≡ false) → AreMessages conn xs
      → AllFail p xs
  messages_fail [] h a = tt
  messages_fail (x ∷ xs) h a = (ap p a.0.1 ∙ h a.0.0, messages_fail xs h a.1)

  takings_fail : (xs : List (ℕ × Event)) → p (Took conn) ≡ false → AreTakings conn xs → AllFail p xs
  takings_fail [] h a = tt
  takings_fail (x ∷ xs) h a = (ap p a.0 ∙ h, takings_fail xs h a.1)

  none_fails : (xs : List (ℕ × Event)) → xs ≡ [] → AllFail p xs
  none_fails xs e = let P : List (ℕ × Event) → Type 0 = λ l. AllFail p l in subst P (sym e) tt

  hang_fails : (why : Ending) (xs : List (ℕ × Event)) → p (Hang conn why) ≡ false → IsHangUp conn why xs → AllFail p xs
  hang_fails why xs h i = let P : List (ℕ × Event) → Type 0 = λ l. AllFail p l in subst P (sym i.1) (h, tt)

  after_reading_fails : (read : Option Ending) (xs : List (ℕ × Event))
      → ((why : Ending) → read ≡ Some why → p (Hang conn why) ≡ false) → HangsAfterReading conn read xs → AllFail p xs
  after_reading_fails None xs h a = none_fails xs a
  after_reading_fails (Some why) xs h a = hang_fails why xs (h why refl) a

  after_writing_fails : (xs : List (ℕ × Event)) → ((why : Ending) → p (Hang conn why) ≡ false) → MayHang conn xs
      → AllFail p xs
  after_writing_fails xs h (inl a) = none_fails xs a
  after_writing_fails xs h (inr a) = hang_fails a.0 xs (h a.0) a.1

-- ---- the list of the side that reads

module _ (enabled : Rule) (answer : Answers) (conn : ℕ) (seen : List Event) (first now : Option (List ℕ))
    (read : Option Ending) (entries : List (ℕ × Event))
    (r : Reads enabled answer conn seen first now read entries) where
  pub reads_fail : (p : Event → Bool) → p (Dial conn) ≡ false → ((msg : TMsg) → p (Msg conn msg) ≡ false)
      → ((why : Ending) → read ≡ Some why → p (Hang conn why) ≡ false) → AllFail p entries
  reads_fail p d m h =
      let P : List (ℕ × Event) → Type 0 = λ l. AllFail p l in
      subst P (sym r.are) (
        d,
        fails-append p r.messages r.hang (messages_fail conn p r.messages m r.are_messages)
            (after_reading_fails conn p read r.hang h r.hangs),
      )

  pub dial_read : filter (is_dial_of conn) (plain entries) ≡ Dial conn ∷ []
  dial_read =
      let p = is_dial_of conn in
      let rest = r.messages ++ r.hang in
      let none : AllFail p rest =
      fails-append p r.messages r.hang (messages_fail conn p r.messages (λ msg. refl) r.are_messages)
      (after_reading_fails conn p read r.hang (λ why e. refl) r.hangs) in
      ap (λ l. filter p (plain l)) r.are
      ∙ ap (λ b. cond b (Dial conn ∷ filter p (plain rest)) (filter p (plain rest))) (eq-eqb conn conn refl)
      ∙ ap (λ l. Dial conn ∷ l) (filter_fails p rest none)

  message_spelled : (msg : TMsg) (e : Event) → e ≡ Msg conn msg → spelled_on conn e ≡ spelling_of e
  message_spelled msg e is = ap (spelled_on conn) is ∙ ap (λ b. if b then spelling_t msg ∷ [] else [])
      (eq-eqb conn conn refl) ∙ sym (ap spelling_of is)

  messages_spelled : (xs : List (ℕ × Event)) → AreMessages conn xs
      → flat_map (spelled_on conn) (plain xs) ≡ spellings xs
  messages_spelled [] a = refl
  messages_spelled (x ∷ xs) a =
      ap (λ l. l ++ flat_map (spelled_on conn) (plain xs)) (message_spelled a.0.0 x.1 a.0.1)
      ∙ ap (λ l. spelling_of x.1 ++ l) (messages_spelled xs a.1)

  hang_unspelled : (read : Option Ending) (xs : List (ℕ × Event)) → HangsAfterReading conn read xs
      → flat_map (spelled_on conn) (plain xs) ≡ []
  hang_unspelled None xs a = ap (λ l. flat_map (spelled_on conn) (plain l)) a
  hang_unspelled (Some why) xs a = ap (λ l. flat_map (spelled_on conn) (plain l)) a.1

  -- the messages that were read
  pub spelled_read : flat_map (spelled_on conn) (plain entries) ≡ spellings r.messages
  spelled_read =
      ap (λ l. flat_map (spelled_on conn) (plain l)) r.are
      ∙ ap (flat_map (spelled_on conn)) (map-append (λ (x : ℕ × Event). x.1) r.messages r.hang)
      ∙ flat_map-append (spelled_on conn) (plain r.messages) (plain r.hang)
      ∙ ap (λ l. flat_map (spelled_on conn) (plain r.messages) ++ l) (hang_unspelled read r.hang r.hangs)
      ∙ append-nil (flat_map (spelled_on conn) (plain r.messages))
      ∙ messages_spelled r.messages r.are_messages

-- the last of the entries that stand in a journal
last_stands : (log : List Event) (low : ℕ) (xs : List (ℕ × Event)) (x : ℕ × Event) → Stands log low (xs ++ x ∷ [])
    → slice_get log (x.0 - 1) ≡ Some x.1
last_stands log low [] x s = s.1
last_stands log low (y ∷ xs) x s = last_stands log y.0 xs x s.2

-- where the side that reads made a hang-up, that is the one of the journal
pub cause_of_reading : (enabled : Rule) (answer : Answers) (conn : ℕ) (seen : List Event) (first now : Option (List ℕ))
    (why cause : Ending) (entries : List (ℕ × Event))
    → Reads enabled answer conn seen first now (Some why) entries → Stands seen 0 entries
    → flat_map (ended_by conn) seen ≡ cause ∷ [] → cause ≡ why
cause_of_reading enabled answer conn seen first now why cause entries r stand e =
    let P : List (ℕ × Event) → Type 0 = λ l. Stands seen 0 l in
    let n = r.hangs.0 in
    let whole : entries ≡ ((r.number, Dial conn) ∷ r.messages) ++ (n, Hang conn why) ∷ [] =
    r.are ∙ ap (λ l. (r.number, Dial conn) ∷ r.messages ++ l) r.hangs.1 in
    let at : slice_get seen (n - 1) ≡ Some (Hang conn why) = last_stands seen 0 ((r.number, Dial conn) ∷ r.messages)
    (n, Hang conn why) (subst P whole stand) in
    let parts = gathered_at (ended_by conn) seen (n - 1) (Hang conn why) at in
    let own : ended_by conn (Hang conn why) ≡ why ∷ [] = ap (λ b. if b then why ∷ [] else []) (eq-eqb conn conn refl) in
    sym (only_one parts.0 parts.1 why cause (ap (λ l. parts.0 ++ (l ++ parts.1)) (sym own) ∙ sym parts.2 ∙ e))

-- ---- the list of the side that writes

module _ (unsent : List Event → ℕ → List ℕ) (conn : ℕ) (seen : List Event) (wrote : WriteEnd) (held : Option (List ℕ))
    (entries : List (ℕ × Event))
    (w : Writes unsent conn seen wrote held entries) where
  pub writes_fail : (p : Event → Bool) → p (Took conn) ≡ false → ((why : Ending) → p (Hang conn why) ≡ false)
      → AllFail p entries
  writes_fail p t h =
      let P : List (ℕ × Event) → Type 0 = λ l. AllFail p l in
      subst P (sym w.are) (fails-append p w.takings w.hang (takings_fail conn p w.takings t w.are_takings)
      (after_writing_fails conn p w.hang h (may_hang conn wrote w.hang w.hangs)))

  nothing_of_hang : {A : Type 0} (f : ℕ × Event → List A) → ((n : ℕ) (why : Ending) → f (n, Hang conn why) ≡ [])
      → (xs : List (ℕ × Event)) → MayHang conn xs → flat_map f xs ≡ []
  nothing_of_hang f h xs (inl a) = ap (flat_map f) a
  nothing_of_hang f h xs (inr a) = ap (flat_map f) a.1.1 ∙ ap (λ l. l ++ []) (h a.1.0 a.0)

  taking_sent : (before : List Event) (e : Event) → e ≡ Took conn → sent_by unsent conn before e ≡ bytes_of unsent
      before e
  taking_sent before e is =
      ap (sent_by unsent conn before) is ∙ ap (λ b. if b then unsent before conn else []) (eq-eqb conn conn refl)
      ∙ sym (ap (bytes_of unsent before) is)

  takings_sent : (xs : List (ℕ × Event)) → AreTakings conn xs → flat_map (sent_at unsent seen conn)
      xs ≡ taken_bytes unsent seen xs
  takings_sent [] a = refl
  takings_sent (x ∷ xs) a =
      ap (λ l. l ++ flat_map (sent_at unsent seen conn) xs) (taking_sent (take (x.0 - 1) seen) x.1 a.0)
      ∙ ap (λ l. bytes_of unsent (take (x.0 - 1) seen) x.1 ++ l) (takings_sent xs a.1)

  -- the bytes that its entries take are sent to the connection
  pub sent_taken : flat_map (sent_at unsent seen conn) entries ≡ taken_bytes unsent seen entries
  sent_taken =
      let s : ℕ × Event → List ℕ = sent_at unsent seen conn in
      let t : ℕ × Event → List ℕ = λ x. bytes_of unsent (take (x.0 - 1) seen) x.1 in
      let hangs = may_hang conn wrote w.hang w.hangs in
      ap (flat_map s) w.are
      ∙ flat_map-append s w.takings w.hang
      ∙ ap (λ l. l ++ flat_map s w.hang) (takings_sent w.takings w.are_takings)
      ∙ ap (λ l. taken_bytes unsent seen w.takings ++ l) (nothing_of_hang s (λ n why. refl) w.hang hangs
      ∙ sym (nothing_of_hang t (λ n why. refl) w.hang hangs))
      ∙ sym (flat_map-append t w.takings w.hang)
      ∙ sym (ap (taken_bytes unsent seen) w.are)

  takings_end_nothing : (xs : List (ℕ × Event)) → AreTakings conn xs → flat_map (ended_by conn) (plain xs) ≡ []
  takings_end_nothing [] a = refl
  takings_end_nothing (x ∷ xs) a = ap (λ e. ended_by conn e ++ flat_map (ended_by conn) (plain xs)) a.0
      ∙ takings_end_nothing xs a.1

  ended_writing : flat_map (ended_by conn) (plain entries) ≡ flat_map (ended_by conn) (plain w.hang)
  ended_writing =
      ap (λ l. flat_map (ended_by conn) (plain l)) w.are
      ∙ ap (flat_map (ended_by conn)) (map-append (λ (x : ℕ × Event). x.1) w.takings w.hang)
      ∙ flat_map-append (ended_by conn) (plain w.takings) (plain w.hang)
      ∙ ap (λ l. l ++ flat_map (ended_by conn) (plain w.hang)) (takings_end_nothing w.takings w.are_takings)

  -- where the side that reads made no hang-up, the one hang-up is that of the side that writes
  pub cause_of_writing : (cause : Ending) → flat_map (ended_by conn) (plain entries) ≡ cause ∷ []
      → IsCause None wrote cause
  cause_of_writing cause e = by_cases wrote w.hangs (sym ended_writing ∙ e)
    where
      none : w.hang ≡ [] → flat_map (ended_by conn) (plain w.hang) ≡ cause ∷ [] → ⊥
      none a e = let no : [] ≡ cause ∷ [] = sym (ap (λ l. flat_map (ended_by conn) (plain l)) a) ∙ e in cc

      one : (why : Ending) → IsHangUp conn why w.hang → flat_map (ended_by conn) (plain w.hang) ≡ cause ∷ []
          → cause ≡ why
      one why a e =
          let is : flat_map (ended_by conn) (plain w.hang) ≡ why ∷ [] =
          ap (λ l. flat_map (ended_by conn) (plain l)) a.1 ∙ ap (λ b. (if b then why ∷ [] else []) ++ [])
          (eq-eqb conn conn refl) in
          let same : cause ∷ [] ≡ why ∷ [] = sym e ∙ is in
          cc

      by_cases : (wrote : WriteEnd) → HangsAfterWriting conn wrote w.hang
          → flat_map (ended_by conn) (plain w.hang) ≡ cause ∷ [] → IsCause None wrote cause
      by_cases end.Ended a e = none a e
      by_cases end.Gone (inl a) e = absurd (none a e)
      by_cases end.Gone (inr a) e = one ending.Gone a e
      by_cases end.NoMemory (inl a) e = absurd (none a e)
      by_cases end.NoMemory (inr a) e = one ending.NoMemory a e

-- Each event of a drill is lawful and enabled where it stands, and makes few replies.
use Rattle.std.proofs.Common.{◌≡◌, ℕ, ◌+◌, ◌-◌, ◌<◌, ◌≤◌, Bool, true, false, List, [], ◌∷◌, length, take, refl, ap}
use Rattle.std.proofs.Common.{arith, Some, None}
use Rattle.std.specs.Prelude.{nat_le, ◌==◌, if◌then◌else◌}
use Rattle.std.proofs.lemmas.Bool.Decides.{nat_tests}
use Rattle.std.proofs.lemmas.List.{length-take}
use Rattle.ninep_types.specs.declared.message.TBody.TheVariants as t
use Rattle.ninep_types.specs.declared.message.RBody.{RBody}
use Rattle.ninep_types.specs.declared.message.RBody.TheVariants as r
use Rattle.ninep_types.specs.Spelling.{spelling_r, spelling_t}
use Rattle.am_journal.specs.declared.event.Event.{Event}
use Rattle.am_journal.specs.declared.event.Event.TheVariants as event
use Rattle.am_journal.specs.declared.event.Why.TheVariants as why
use Rattle.am_journal.specs.Lawful.{IsLawful}
use Rattle.wait_queue.specs.WaitState.{piece_from}
use Rattle.wait_queue.specs.declared.pending.Pending.{Pending}
use Rattle.core_intents.specs.Doings.{enabled_at}
use Rattle.core_intents.specs.Enabled.{replies_refusal}
use Rattle.acme_core.specs.Run.{step}
use Rattle.core_parts.specs.States.{State, present}
use Rattle.am_drill.specs.Brief.{IsBrief}
use Rattle.am_drill.specs.Drill.{write, key, poll, flush, read}
use Rattle.am_drill.proofs.Editing.{text_of, dot_of}
use Rattle.am_drill.proofs.Standing.{Facts, standing}
use Rattle.am_drill.proofs.Steps.{said_of, reader, reading}

-- an event that can be done now, and that makes few replies
pub record CanDo (s : State) (e : Event) : Type 0 where
  pub lawful : IsLawful e
  pub allowed : enabled_at (present s) e ≡ None
  pub brief : IsBrief (step s e).replies

-- each of these after those before it
abbrev pub CanDoAll : State → List Event → Type 0
CanDoAll s [] = Unit {0}
CanDoAll s (e ∷ es) = CanDo s e × CanDoAll (step s e) es

-- ---- enabled

pub room : (n : ℕ) → n < 256 → replies_refusal n ≡ None
room n h =
    let few : nat_le 256 n ≡ false = grind (arith, nat_tests) in
    ap (λ (b : Bool). if b then Some why.Replies else None) few

pub write_allowed : (f : Facts) (l : ℕ) → f.unsent.count < 256 → enabled_at (present (standing [] [] f))
    (write l) ≡ None
write_allowed f l h = room f.unsent.count h

pub poll_allowed : (f : Facts) → f.unsent.count < 256 → enabled_at (present (standing [] [] f)) poll ≡ None
poll_allowed f h = room f.unsent.count h

pub flush_allowed : (f : Facts) → f.unsent.count < 256 → enabled_at (present (standing [] [] f)) flush ≡ None
flush_allowed f h = room f.unsent.count h

pub flush_waiting_allowed : (f : Facts) → f.unsent.count < 256 → enabled_at
    (present (standing (reading ∷ []) (reader ∷ []) f)) flush ≡ None
flush_waiting_allowed f h = room f.unsent.count h

pub read_allowed : (f : Facts) → f.unsent.count < 256 → enabled_at (present (standing [] [] f)) read ≡ None
read_allowed f h = room f.unsent.count h

pub took_allowed : (f : Facts) → 0 < f.unsent.count → enabled_at (present (standing [] [] f)) (event.Took 0) ≡ None
took_allowed f h =
    let some : (f.unsent.count == 0) ≡ false = grind (arith, nat_tests) in
    ap (λ (b : Bool). if b then Some why.Nothing else None) some

pub key_allowed : (f : Facts) (l : ℕ) → length (text_of f) < 16777216
    → enabled_at (present (standing [] [] f)) (key l) ≡ None
key_allowed f l h =
    let fits : nat_le (length (text_of f) - ((dot_of f).q1 - (dot_of f).q0) + 1) 16777216 ≡ true =
    grind (arith, nat_tests) in
    ap (λ (b : Bool). if b then None else Some why.Length) fits

-- ---- lawful

pub write_lawful : (l : ℕ) → IsLawful (write l)
write_lawful l =
    let e : length (spelling_t (record { tag = 4; body = t.Write 1 0 (l ∷ []) })) ≡ 24 = refl in
    (omega arith, record { body = omega arith; size = omega arith }, omega (arith, e))

pub poll_lawful : IsLawful poll
poll_lawful =
    let e : length (spelling_t (record { tag = 10; body = t.Read 2 0 64 })) ≡ 23 = refl in
    (omega arith, record { body = tt; size = omega arith }, omega (arith, e))

pub flush_lawful : IsLawful flush
flush_lawful =
    let e : length (spelling_t (record { tag = 11; body = t.Flush 10 })) ≡ 9 = refl in
    (omega arith, record { body = tt; size = omega arith }, omega (arith, e))

pub read_lawful : IsLawful read
read_lawful =
    let e : length (spelling_t (record { tag = 5; body = t.Read 1 0 32 })) ≡ 23 = refl in
    (omega arith, record { body = tt; size = omega arith }, omega (arith, e))

pub took_lawful : IsLawful (event.Took 0)
took_lawful = omega arith

pub key_lawful : (l : ℕ) → l < 128 → IsLawful (key l)
key_lawful l h = grind arith

-- ---- brief

pub none_brief : IsBrief []
none_brief = record { few = omega arith; bytes = omega arith }

pub one_brief : (tag : ℕ) (body : RBody) → length (spelling_r (record { tag = tag; body = body })) ≤ 128
    → IsBrief (said_of tag body ∷ [])
one_brief tag body h = record { few = omega arith; bytes = omega (arith, h) }

pub wrote_brief : IsBrief (said_of 4 (r.Write 1) ∷ [])
wrote_brief = one_brief 4 (r.Write 1) (omega arith)

pub flushed_brief : IsBrief (said_of 11 r.Flush ∷ [])
flushed_brief = one_brief 11 r.Flush (omega arith)

pub read_brief : (tag : ℕ) (bytes : List ℕ) → length bytes ≤ 64 → IsBrief (said_of tag (r.Read bytes) ∷ [])
read_brief tag bytes h =
    let e : length (spelling_r (record { tag = tag; body = r.Read bytes })) ≡ 11 + length bytes = omega arith in
    one_brief tag (r.Read bytes) (omega (arith, e))

pub front_short : (n : ℕ) (bytes : List ℕ) → length (take n bytes) ≤ n
front_short n bytes = omega (arith, length-take n bytes)

pub piece_short : (cs : List ℕ) (ps : List Pending) → length (piece_from cs ps 64).bytes ≤ 64
piece_short (b ∷ bs) ps = front_short 64 (b ∷ bs)
piece_short [] (p ∷ ps) = front_short 64 p.bytes
piece_short [] [] = omega arith

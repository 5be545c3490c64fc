-- What a turn makes of what a seat knows.
use Rattle.std.proofs.Common.{◌≡◌, ℕ, Bool, true, false, List, [], Option, Some, None, refl, ap, sym, subst, ◌∙◌}
use Rattle.std.proofs.lemmas.List.{append-nil}
use Rattle.am_journal.specs.declared.event.Event.{Event}
use Rattle.am_journal.specs.declared.event.Format.{Format}
use Rattle.am_journal.specs.declared.event.Format.TheVariants.{One, Two}
use Rattle.am_journal.specs.declared.event.Journal.{Journal}
use Rattle.am_journal.specs.Journal.{journal_in}
use Rattle.am_counter.specs.Known.{Known, Looks, TakesIn, with_entry}
use Rattle.am_counter.specs.Played.{IsPrefix}
use Rattle.turn_lock.specs.declared.turn.Stay.{Stay}
use Rattle.turn_lock.specs.declared.view.View.{View}
use Rattle.turn_lock.specs.Views.{view, with_turn, after_note, after_leave, after_join, PastBegins}
use Rattle.turn_lock.specs.Words.{value_aside}
use Rattle.am_desk.specs.declared.settled.Settled.{Settled}
use Rattle.am_desk.specs.Desks.{known_in}
use Rattle.am_desk.specs.Journals.{entries_of, format_with, number_in, number_of}
use Rattle.am_desk.specs.Staying.{Stays}

-- ---- a turn that is kept

pub no_turn : (stay : Option (Stay Settled)) (v : View Event) → Stays stay v → stay ≡ None → v.turn ≡ false
no_turn None v h e = h
no_turn (Some s) v h e = absurd cc

pub idle_view : (v : View Event) → v.turn ≡ false → v ≡ after_leave v
idle_view v h = ap (λ (b : Bool). view v.parts v.number b v.seen v.mine v.ended v.past) h

same_turn : (s t : Stay Settled) (v : View Event) → Stays (Some s) v
    → s ≡ t → v ≡ with_turn v (entries_of (value_aside t))
same_turn s t v h e =
    ap (λ (b : Bool). view v.parts v.number b v.seen v.mine v.ended v.past) h.0
    ∙ ap (λ (l : List Event). with_turn v l) (sym h.1 ∙ ap (λ (x : Stay Settled). entries_of (value_aside x)) e)

pub kept_turn : (stay : Option (Stay Settled)) (s : Stay Settled) (v : View Event) → Stays stay v → stay ≡ Some s
    → v ≡ with_turn v (entries_of (value_aside s))
kept_turn None s v h e = absurd cc
kept_turn (Some x) s v h e = let same : x ≡ s = cc in same_turn x s v h same

same_seen : (s t : Stay Settled) (v : View Event) → Stays (Some s) v
    → s ≡ t → IsPrefix v.seen (entries_of (value_aside t))
same_seen s t v h e = ([], append-nil v.seen ∙ sym h.1 ∙ ap (λ (x : Stay Settled). entries_of (value_aside x)) e)

pub kept_seen : (stay : Option (Stay Settled)) (s : Stay Settled) (v : View Event) → Stays stay v → stay ≡ Some s
    → IsPrefix v.seen (entries_of (value_aside s))
kept_seen None s v h e = absurd cc
kept_seen (Some x) s v h e = let same : x ≡ s = cc in same_seen x s v h same

pub has_turn : (stay : Option (Stay Settled)) (s : Stay Settled) (v : View Event) → Stays stay v → stay ≡ Some s
    → v.turn ≡ true
has_turn None s v h e = absurd cc
has_turn (Some x) s v h e = h.0

same_noted : (s t : Stay Settled) (v : View Event) → Stays (Some s) v → s ≡ t → entries_of (value_aside t) ≡ v.seen
same_noted s t v h e = ap (λ (x : Stay Settled). entries_of (value_aside x)) (sym e) ∙ h.1

pub has_noted : (stay : Option (Stay Settled)) (s : Stay Settled) (v : View Event) → Stays stay v → stay ≡ Some s
    → entries_of (value_aside s) ≡ v.seen
has_noted None s v h e = absurd cc
has_noted (Some x) s v h e = let same : x ≡ s = cc in same_noted x s v h same

same_number : (s t : Stay Settled) (v : View Event) → Stays (Some s) v → s ≡ t → number_of (value_aside t) ≡ v.number
same_number s t v h e = ap (λ (x : Stay Settled). number_of (value_aside x)) (sym e) ∙ h.2

pub has_number : (stay : Option (Stay Settled)) (s : Stay Settled) (v : View Event) → Stays stay v → stay ≡ Some s
    → number_of (value_aside s) ≡ v.number
has_number None s v h e = absurd cc
has_number (Some x) s v h e = let same : x ≡ s = cc in same_number x s v h same

-- ---- the format that a number tells

same_format : (format : Format) → format ≡ format_with (number_in format)
same_format One = refl
same_format Two = refl

pub number_tells : (number : ℕ) (format : Format) → number ≡ number_in format → format_with number ≡ format
number_tells number format e = ap format_with e ∙ sym (same_format format)

pub number_fits : (journal : Journal) (number : ℕ) → number_in journal.format ≡ number
    → journal ≡ journal_in (format_with number) journal.events
number_fits journal number e =
    ap (λ (f : Format). journal_in f journal.events) (same_format journal.format ∙ ap format_with e)

-- ---- what is known

-- nothing was added
pub seen_then : (v entered w : View Event) (now : List Event) → entered ≡ with_turn v now
    → known_in w ≡ known_in entered → w.seen ≡ now
seen_then v entered w now enter end = ap (λ (k : Known). k.seen) (end ∙ ap known_in enter)

pub looked : (v entered w : View Event) (now : List Event) → entered ≡ with_turn v now → IsPrefix v.seen now
    → known_in w ≡ known_in entered → Looks (known_in v) (known_in w)
looked v entered w now enter before end = (now, before, end ∙ ap known_in enter)

-- an event was added
pub entered_event : (v entered noted w : View Event) (now : List Event) (e : Event) → entered ≡ with_turn v now
    → noted ≡ after_note entered e → known_in w ≡ known_in noted
    → known_in w ≡ with_entry (known_in v) now e
entered_event v entered noted w now e enter note end =
    end ∙ ap known_in (note ∙ ap (λ (x : View Event). after_note x e) enter)

-- a seat was joined, and then nothing was added
pub took_in : (v w both entered u : View Event) (now : List Event) → both ≡ after_join (after_leave v) w
    → entered ≡ with_turn both now → PastBegins entered → u ≡ after_leave entered
    → TakesIn (known_in v) (known_in w) (known_in u)
took_in v w both entered u now join enter past leave =
    let whole : entered ≡ with_turn (after_join (after_leave v) w) now =
    enter ∙ ap (λ (x : View Event). with_turn x now) join in
    let begins : PastBegins (with_turn (after_join (after_leave v) w) now) = subst PastBegins whole past in
    (now, begins.0, begins.1.0, ap known_in (leave ∙ ap after_leave whole))

-- the same of a seat that gave up the turn that it had kept
pub took_in_idle : (v w x : View Event) (u : Known) → TakesIn (known_in v) (known_in x) u
    → known_in x ≡ known_in w → TakesIn (known_in v) (known_in w) u
took_in_idle v w x u h same = subst (λ (k : Known). TakesIn (known_in v) k u) same h

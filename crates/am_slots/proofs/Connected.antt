-- A connection that was dialled, and what its sides did.
use Rattle.std.proofs.Common.{◌≡◌, ◌⊎◌, inl, inr, ℕ, ◌+◌, ◌-◌, ◌==◌, Bool, true, false, List, [], ◌∷◌, ◌++◌, length}
use Rattle.std.proofs.Common.{Option, Some, None, refl, sym, ap, subst, ◌∙◌, arith, if◌then◌else◌}
use Rattle.std.specs.List.{list_any}
use Rattle.std.proofs.lemmas.Bool.{or_left, or_right, eq-eqb}
use Rattle.std.proofs.lemmas.List.{append-nil}
use Rattle.std.proofs.lemmas.List.Concat.{flat_map-append}
use Rattle.std.proofs.lemmas.List.Folds.{list_any-append}
use Rattle.am_base.specs.Outside.{AreTold}
use Rattle.am_journal.specs.declared.ending.Ending.{Ending}
use Rattle.am_journal.specs.declared.ending.Ending.TheVariants as ending
use Rattle.am_journal.specs.declared.event.Event.{Event}
use Rattle.am_journal.specs.declared.event.Event.TheVariants.{Dial, Hang}
use Rattle.am_counter.specs.Known.{Known, Looks, Submits, TakesIn, lists_of, without_parts, new_known}
use Rattle.am_journal.specs.declared.event.Refused.{Refused}
use Rattle.am_counter.specs.Played.{has_dial, has_hang, is_dial_of, Refuses}
use Rattle.am_serve.specs.Gained.{Rule, Answers, gained, hang_up}
use Rattle.am_serve.specs.Reading.{AreRead, AreMessages, GivesOf, spelling_of, spellings}
use Rattle.am_serve.specs.Writing.{AreWritten, AreTakings}
use Rattle.am_serve.specs.declared.writing.WriteEnd.{WriteEnd}
use Rattle.am_serve.specs.declared.writing.WriteEnd.TheVariants as end
use Rattle.am_slots.specs.Sides.{WasRefused, IsHangUp, HangsAfterReading, HangsAfterWriting, Reads, Writes, Serves}
use Rattle.am_base.specs.Seen.{Seen}
use Rattle.am_slots.specs.Working.{DidRead, DidWrite, HasDialled, IsFresh}
use Rattle.am_serve.proofs.Gaining.{stands_lower}
use Rattle.am_serve.proofs.HangUps.{has_hang_kept}
use Rattle.am_slots.proofs.Longer.{reads_later, writes_later}

-- ---- dialling

pub fresh_lists : (n : ℕ) (v : Known) → IsFresh n v → lists_of v ≡ [] ∷ []
fresh_lists n v f =
    ap (λ (l : List (ℕ × Event)). l ∷ v.ended) f.mine ∙ ap (λ (ls : List (List (ℕ × Event))). [] ∷ ls) f.ended

-- the journal was seen, and nothing was added
pub looked_parts : (n : ℕ) (v w : Known) → IsFresh n v → Looks v w → w.parts ≡ n
looked_parts n v w f l = ap (λ (k : Known). k.parts) l.2 ∙ f.parts

looked_lists : (n : ℕ) (v w : Known) → IsFresh n v → Looks v w → lists_of w ≡ [] ∷ []
looked_lists n v w f l = ap (λ (k : Known). lists_of k) l.2 ∙ fresh_lists n v f

pub undialled : (enabled : Rule) (n conn : ℕ) (v w : Known) (refused : Refused) → IsFresh n v → Looks v w
    → Refuses refused (enabled w.seen (Dial conn))
    → (lists_of w ≡ [] ∷ []) × WasRefused enabled conn w.seen refused
undialled enabled n conn v w refused f l r = (looked_lists n v w f l, (w.seen, ([], append-nil w.seen), r))

has_dial_added : (now : List Event) (conn : ℕ) → has_dial (now ++ Dial conn ∷ []) conn ≡ true
has_dial_added now conn =
    list_any-append (is_dial_of conn) now (Dial conn ∷ [])
    ∙ or_right (list_any (is_dial_of conn) now) (list_any (is_dial_of conn) (Dial conn ∷ []))
    (or_left (conn == conn) false (eq-eqb conn conn refl))

pub dialled_parts : (enabled : Rule) (n : ℕ) (v w : Known) (conn m : ℕ) → IsFresh n v
    → Submits enabled v (Dial conn) m w → w.parts ≡ n
dialled_parts enabled n v w conn m f s = ap (λ (k : Known). k.parts) s.4 ∙ f.parts

pub dialled : (enabled : Rule) (n : ℕ) (v w : Known) (conn m : ℕ) → IsFresh n v → Submits enabled v (Dial conn) m w
    → HasDialled conn w
dialled enabled n v w conn m f s = record {
  number = length s.0 + 1;
  mine = ap (λ (k : Known). k.mine) s.4 ∙ ap (λ (l : List (ℕ × Event)). l ++ (length s.0 + 1, Dial conn) ∷ []) f.mine;
  ended = ap (λ (k : Known). k.ended) s.4 ∙ f.ended;
  dialled = ap (λ (k : Known). has_dial k.seen conn) s.4 ∙ has_dial_added s.0 conn;
}

-- ---- the entries of the sides

-- messages, and then a hang-up
abbrev ReadEntries : ℕ → Option Ending → List (ℕ × Event) → Type 0
ReadEntries conn read entries =
    (messages : List (ℕ × Event)) × (hang : List (ℕ × Event)) × AreMessages conn messages
    × HangsAfterReading conn read hang
    × (entries ≡ messages ++ hang) × (spellings entries ≡ spellings messages)

read_entries : (conn : ℕ) (v w : Known) (read : Option Ending) → AreRead conn read v w
    → ReadEntries conn read (gained v w)
read_entries conn v w None a = (gained v w, [], a, refl, sym (append-nil (gained v w)), refl)
read_entries conn v w (Some why) a =
    let hang : List (ℕ × Event) = (length a.1 + 1, Hang conn why) ∷ [] in (
      a.0,
      hang,
      a.2,
      (length a.1 + 1, refl),
      a.4,
      ap spellings a.4 ∙ flat_map-append (λ (x : ℕ × Event). spelling_of x.1) a.0 hang ∙ append-nil (spellings a.0),
    )

-- takings, and then a hang-up
abbrev WrittenEntries : ℕ → WriteEnd → List (ℕ × Event) → Type 0
WrittenEntries conn wrote entries =
    (takings : List (ℕ × Event)) × (hang : List (ℕ × Event)) × AreTakings conn takings
    × HangsAfterWriting conn wrote hang × (entries ≡ takings ++ hang)

abbrev added : List Event → ℕ → Ending → Bool → List (ℕ × Event)
added now conn why b = if b then [] else (length now + 1, Hang conn why) ∷ []

hung : (now : List Event) (conn : ℕ) (why : Ending) → (hang_up now conn why ≡ [])
    ⊎ IsHangUp conn why (hang_up now conn why)
hung now conn why = by_cases (has_hang now conn)
  where
    by_cases : (b : Bool) → (added now conn why b ≡ []) ⊎ IsHangUp conn why (added now conn why b)
    by_cases true = inl refl
    by_cases false = inr (length now + 1, refl)

written_entries : (conn : ℕ) (v w : Known) (wrote : WriteEnd) → AreWritten conn wrote v w
    → WrittenEntries conn wrote (gained v w)
written_entries conn v w end.Ended a = (gained v w, [], a, refl, sym (append-nil (gained v w)))
written_entries conn v w end.Gone a = (a.0, hang_up a.1 conn ending.Gone, a.2, hung a.1 conn ending.Gone, a.3)
written_entries conn v w end.NoMemory a = (
  a.0,
  hang_up a.1 conn ending.NoMemory,
  a.2,
  hung a.1 conn ending.NoMemory,
  a.3,
)

-- ---- both sides

module _ (enabled : Rule) (unsent : List Event → ℕ → List ℕ) (answer : Answers) (conn : ℕ) where
  read_side : (v w : Known) (s : Seen) (read : Option Ending) (number : ℕ) → DidRead enabled answer conn v w s read
      → Reads enabled answer conn w.seen s.before.bytes s.now.bytes read ((number, Dial conn) ∷ gained v w)
  read_side v w s read number d =
      let e = read_entries conn v w read d.entries in
      let P : List (List ℕ) → Type 0 = λ l. GivesOf enabled answer conn w.seen l s.before.bytes s.now.bytes read in
      record {
        number = number;
        messages = e.0;
        hang = e.1;
        are = ap (λ (l : List (ℕ × Event)). (number, Dial conn) ∷ l) e.4;
        are_messages = e.2;
        hangs = e.3;
        gives = subst P e.5 d.gives;
      }

  write_side : (v w : Known) (s : Seen) (wrote : WriteEnd) → AreTold s.before.bytes []
      → DidWrite unsent conn v w s wrote → Writes unsent conn w.seen wrote s.now.bytes (gained v w)
  write_side v w s wrote empty d =
      let e = written_entries conn v w wrote d.entries in
      record {
        takings = e.0;
        hang = e.1;
        first = s.before.bytes;
        are = e.4;
        are_takings = e.2;
        hangs = e.3;
        stand = stands_lower w.seen (length v.seen) 0 (gained v w) (omega arith) d.gains.stand;
        begins_empty = empty;
        gets = d.gets;
        drained = λ e. (w.seen, ([], append-nil w.seen), d.ended, d.nothing_unsent e);
      }

  -- the lists of a seat that dialled and read, and took in one that wrote
  all_lists : (v read wrote : Known) (number : ℕ) (xs ys : List (ℕ × Event)) → read.mine ≡ (number, Dial conn) ∷ xs
      → read.ended ≡ [] → wrote.mine ≡ ys → wrote.ended ≡ []
      → read.mine ∷ (read.ended ++ wrote.mine ∷ wrote.ended) ≡ ((number, Dial conn) ∷ xs) ∷ ys ∷ []
  all_lists v read wrote number xs ys a b c d =
      let F : List (ℕ × Event) → List (List (ℕ × Event)) → List (ℕ × Event) → List (List (ℕ × Event))
      → List (List (ℕ × Event)) = λ m e n f. m ∷ (e ++ n ∷ f) in
      ap (λ (m : List (ℕ × Event)). F m read.ended wrote.mine wrote.ended) a
      ∙ ap (λ (e : List (List (ℕ × Event))). F ((number, Dial conn) ∷ xs) e wrote.mine wrote.ended) b
      ∙ ap (λ (n : List (ℕ × Event)). F ((number, Dial conn) ∷ xs) [] n wrote.ended) c
      ∙ ap (λ (f : List (List (ℕ × Event))). F ((number, Dial conn) ∷ xs) [] ys f) d

  module _ (v first second read wrote u : Known) (s t : Seen) (told : Option Ending) (end : WriteEnd)
      (h : HasDialled conn v) (left : first ≡ without_parts 1 v) (new : second ≡ new_known 1 v)
      (d : DidRead enabled answer conn first read s told) (e : DidWrite unsent conn second wrote t end)
      (k : TakesIn read wrote u) where
    pub served_parts : v.parts ≡ 2 → u.parts ≡ 2
    served_parts two =
        let a : first.parts ≡ v.parts - 1 = ap (λ (x : Known). x.parts) left in
        let b : second.parts ≡ 1 = ap (λ (x : Known). x.parts) new in
        let c : u.parts ≡ read.parts + wrote.parts = ap (λ (x : Known). x.parts) k.3 in
        omega (arith, a, b, c, two, d.gains.parts, e.gains.parts)

    reads_mine : read.mine ≡ (h.number, Dial conn) ∷ gained first read
    reads_mine = d.gains.mine ∙ ap (λ (l : List (ℕ × Event)). l ++ gained first read)
        (ap (λ (x : Known). x.mine) left ∙ h.mine)

    writes_mine : wrote.mine ≡ gained second wrote
    writes_mine = e.gains.mine ∙ ap (λ (l : List (ℕ × Event)). l ++ gained second wrote)
        (ap (λ (x : Known). x.mine) new)

    lists : lists_of u ≡ ((h.number, Dial conn) ∷ gained first read) ∷ gained second wrote ∷ []
    lists =
        ap (λ (x : Known). lists_of x) k.3
        ∙ all_lists v read wrote h.number (gained first read) (gained second wrote)
        reads_mine (d.gains.ended ∙ ap (λ (x : Known). x.ended) left ∙ h.ended) writes_mine
        (e.gains.ended ∙ ap (λ (x : Known). x.ended) new)

    pub served : AreTold t.before.bytes [] → Serves enabled unsent answer conn u.seen s.before.bytes s.now.bytes told
        end t.now.bytes (lists_of u)
    served empty =
        let now : List Event = k.0 in
        let at : u.seen ≡ now = ap (λ (x : Known). x.seen) k.3 in
        let P : List Event → Type 0 = λ l. Serves enabled unsent answer conn l s.before.bytes s.now.bytes told end
        t.now.bytes (lists_of u) in
        subst P (sym at) (record {
          reads = (h.number, Dial conn) ∷ gained first read;
          writes = gained second wrote;
          are = lists;
          reading = reads_later enabled answer conn read.seen now s.before.bytes s.now.bytes told _ k.1
              (read_side first read s told h.number d);
          writing = writes_later unsent conn wrote.seen now end t.now.bytes _ k.2
              (write_side second wrote t end empty e);
          ended = has_hang_kept read.seen now conn k.1 d.ended;
        })

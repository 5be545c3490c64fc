-- Lines of a talk, one after another.
use Rattle.std.proofs.Common.{◌≡◌, ℕ, ◌≤◌, Bool, true, false, List, [], ◌∷◌, ◌++◌, Option, Some, None, refl, sym, ◌∙◌}
use Rattle.std.proofs.Common.{subst, arith, append_assoc}
use Rattle.std.proofs.lemmas.List.{append-nil}
use Rattle.am_base.specs.Outside.{BytesTold, PutsFront, HasRisen}
use Rattle.am_base.specs.Seen.{Seen, seen}
use Rattle.ninep_client.specs.Asking.{Talk}
use Rattle.am_do.specs.declared.line.DoLine.{DoLine}
use Rattle.am_do.specs.Lawful.{AreLawful}
use Rattle.am_do.specs.declared.stop.Stop.{Stop}
use Rattle.am_do.specs.Talks.{Got, Value, Lacks, Faulty, Refused, Told, then_got, and_then, gives, line_told}
use Rattle.am_do.specs.Talks.{lines_told, begins, told_of}
use Rattle.am_do.specs.Went.{Ends, Went, StopsFor, Halted}
use Rattle.am_do.specs.Written.{Wrote, Put, WentWell, HasHalted, Comes}
use Rattle.am_do.proofs.Outputs.{put_none, put_then, front_then, front_longer, risen_later}
use Rattle.am_do.proofs.Steps.{behind, before, went_gives, went_then, halted_first, halted_then}

-- ---- parts of parts

module _ {B C : Type 0} where
  behind_got : (s t s' t' : List ℕ) (g : Got B) (two : B → List ℕ → Told C)
      → then_got (s ++ s') (t ++ t') g two ≡ behind s t (then_got s' t' g two)
  behind_got s t s' t' (Value b r) two = (λ i. let x : Told C = record
      { sent = append_assoc s s' (two b r).sent i; text = append_assoc t t' (two b r).text i; got = (two b r).got } in
      x)
  behind_got s t s' t' Lacks two = refl
  behind_got s t s' t' (Faulty e) two = refl
  behind_got s t s' t' Refused two = refl

module _ {A B C : Type 0} where
  nested_got : (sent text : List ℕ) (g : Got A) (one : A → List ℕ → Told B) (two : B → List ℕ → Told C)
      → and_then (then_got sent text g one) two ≡ then_got sent text g (λ a r. and_then (one a r) two)
  nested_got sent text (Value a r) one two = behind_got sent text (one a r).sent (one a r).text (one a r).got two
  nested_got sent text Lacks one two = refl
  nested_got sent text (Faulty e) one two = refl
  nested_got sent text Refused one two = refl

unit_got : (sent text : List ℕ) (g : Got (Unit {0})) → then_got sent text g
    (λ _ r. gives tt r) ≡ record { sent = sent; text = text; got = g }
unit_got sent text (Value a r) = (λ i. let x : Told (Unit {0}) = record
    { sent = append-nil sent i; text = append-nil text i; got = Value tt r } in x)
unit_got sent text Lacks = refl
unit_got sent text (Faulty e) = refl
unit_got sent text Refused = refl

-- ---- talks that are the same

module _ {A : Type 0} where
  pub went_same : {one two : List ℕ → Told A} {t after : Talk} {h i l n : Option (List ℕ)} {v : List ℕ} {x : A}
      → ((bytes : List ℕ) → one bytes ≡ two bytes) → Went one t after h i l n v x → Went two t after h i l n v x
  went_same {one} {two} same w = record {
    used = w.used;
    sent = w.sent;
    came = w.came;
    put = w.put;
    goes =
        λ more. sym (same (w.used ++ more)) ∙ w.goes more;
  }

  pub halted_same : {end : Stop} {one two : List ℕ → Told A} {t : Talk} {e : Ends} {said : List ℕ}
      → ((bytes : List ℕ) → one bytes ≡ two bytes) → Halted end one t e said → Halted end two t e said
  halted_same {end} {one} {two} {t} {e} {said} same h = record {
    used = h.used;
    unread = h.unread;
    came = h.came;
    cause = subst (λ (u : Told A). StopsFor end u (two (h.used ++ h.unread)) h.unread e said) (same h.used)
        (subst (λ (u : Told A). StopsFor end (one h.used) u h.unread e said) (same (h.used ++ h.unread)) h.cause);
  }

-- ---- lines

lines_none : (most : ℕ) (bytes : List ℕ) → lines_told most [] bytes ≡ gives tt bytes
unfolding lines_told
lines_none most bytes = refl

lines_first : (most : ℕ) (line : DoLine) (lines : List DoLine) (bytes : List ℕ)
    → lines_told most (line ∷ lines) bytes ≡ and_then (line_told most line bytes) (λ _ r. lines_told most lines r)
unfolding lines_told
lines_first most line lines bytes = refl

lines_one : (most : ℕ) (line : DoLine) (bytes : List ℕ) → line_told most line bytes ≡ lines_told most (line ∷ []) bytes
unfolding lines_told
lines_one most line bytes = sym (unit_got (line_told most line bytes).sent (line_told most line bytes).text
    (line_told most line bytes).got)

lines_append : (most : ℕ) (a b : List DoLine) (bytes : List ℕ) → lines_told most (a ++ b)
    bytes ≡ and_then (lines_told most a bytes) (λ _ r. lines_told most b r)
unfolding lines_told
lines_append most [] b bytes = refl
lines_append most (line ∷ a) b bytes =
    (λ i. and_then (line_told most line bytes) (λ _ r. lines_append most a b r i))
    ∙ sym (nested_got (line_told most line bytes).sent (line_told most line bytes).text (line_told most line bytes).got
    (λ _ r. lines_told most a r) (λ _ r. lines_told most b r))

-- no line was done yet
pub went_none : (most : ℕ) (t : Talk) (held left : Option (List ℕ))
    → Went (lines_told most []) t t held held left left [] tt
went_none most t held left = went_same (λ bytes. sym (lines_none most bytes)) (went_gives tt t held left)

-- one line more
pub went_line : (most : ℕ) (made : List DoLine) (line : DoLine) {t m after : Talk} {h i j l n p : Option (List ℕ)}
    {v w : List ℕ} → Went (lines_told most made) t m h i l n v tt → Went (line_told most line) m after i j n p w tt
    → Went (lines_told most (made ++ line ∷ [])) t after h j l p (v ++ w) tt
went_line most made line a b =
    went_same (λ bytes. sym (lines_append most made (line ∷ []) bytes))
    (went_then (λ _ bytes. lines_told most (line ∷ []) bytes) a (went_same (lines_one most line) b))

-- a line at which the talk stops
pub halted_line : {end : Stop} (most : ℕ) (made : List DoLine) (line : DoLine) (rest : List DoLine) {t m : Talk}
    {h i l n : Option (List ℕ)} {v said : List ℕ} {shut done : Bool} (f a : ℕ) {e : Ends}
    → Went (lines_told most made) t m h i l n v tt → e.sink.before.bytes ≡ i → e.source.before.bytes ≡ n →
    f ≤ e.sink.before.faults → a ≤ e.source.before.faults
    → Halted end (line_told most line) m e said → Halted end (lines_told most (made ++ line ∷ rest)) t
    (before h f shut l a done e) (v ++ said)
halted_line {end} most made line rest f a w held left s r d =
    halted_same (λ bytes. sym (lines_append most made (line ∷ rest) bytes))
    (halted_then (λ _ bytes. lines_told most (line ∷ rest) bytes) f a w held left s r
    (halted_same (λ bytes. sym (lines_first most line rest bytes))
    (halted_first (λ _ bytes. lines_told most rest bytes) d)))

-- ---- the output

pub wrote_none : (first : BytesTold) → Wrote false (seen first first) []
wrote_none first = record { holds = put_none first.bytes; later = omega arith }

-- a text more was put
pub wrote_more : (failed now : Bool) (first mid last : BytesTold) (v w : List ℕ) → Wrote failed (seen first mid) v
    → Put failed now (seen mid last) w → Wrote now (seen first last) (v ++ w)
wrote_more false false first mid last v w a b = record {
  holds = put_then first.bytes mid.bytes last.bytes v w a.holds
      b.holds;
  later = omega (arith, a.later, b.later);
}
wrote_more false true first mid last v w a b = record {
  holds = record {
    front = front_then first.bytes mid.bytes last.bytes v w a.holds b.holds.front;
    risen =
        risen_later first.faults mid.faults last.faults a.later b.holds.risen;
  };
  later = omega (arith, a.later, b.later);
}
wrote_more true true first mid last v w a b =
    let front : PutsFront first.bytes (v ++ w) last.bytes = subst (λ (o : Option (List ℕ)). PutsFront first.bytes
    (v ++ w) o) (sym b.held) (front_longer first.bytes mid.bytes v w a.holds.front) in
    record {
      holds = record {
        front = front;
        risen = subst (λ (n : ℕ). HasRisen first.faults n) (sym b.faults)
            a.holds.risen;
      };
      later = subst (λ (n : ℕ). first.faults ≤ n) (sym b.faults) a.later;
    }
wrote_more true false first mid last v w a b = absurd b

-- a text that is another's
pub put_of : (failed now : Bool) (o : Seen) {v w : List ℕ} → v ≡ w → Put failed now o v → Put failed now o w
put_of failed now o is put = subst (λ (x : List ℕ). Put failed now o x) is put

pub lawful_rest : (line : DoLine) (rest : List DoLine) → AreLawful (line ∷ rest) → AreLawful rest
lawful_rest line rest all = all.1

-- ---- as far as the lines were done

pub record SoFar (most : ℕ) (lines rest : List DoLine) (t now : Talk) (h i l n : Option (List ℕ)) (failed : Bool)
    (o : Seen) : Type 0 where
  pub made : List DoLine
  pub joined : made ++ rest ≡ lines
  pub text : List ℕ
  pub went : Went (lines_told most made) t now h i l n text tt
  pub wrote : Wrote failed o text

pub far_none : (most : ℕ) (lines : List DoLine) (t : Talk) (h l : Option (List ℕ)) (k : BytesTold)
    → SoFar most lines lines t t h h l l false (seen k k)
far_none most lines t h l k = record {
  made = [];
  joined = refl;
  text = [];
  went = went_none most t h l;
  wrote =
      wrote_none k;
}

pub far_more : {most : ℕ} {lines rest : List DoLine} (line : DoLine) {t m after : Talk} {h i j l n p : Option (List ℕ)}
    {failed now : Bool} {u v w : BytesTold} {text : List ℕ} → SoFar most lines (line ∷ rest) t m h i l n failed
    (seen u v) → Went (line_told most line) m after i j n p text tt → Put failed now (seen v w) text
    → SoFar most lines rest t after h j l p now (seen u w)
far_more {most} {lines} {rest} line {t} {m} {after} {h} {i} {j} {l} {n} {p} {failed} {now} {u} {v} {w} {text} far went
    put = record {
      made = far.made ++ line ∷ [];
      joined = append_assoc far.made (line ∷ []) rest ∙ far.joined;
      text = far.text ++ text;
      went = went_line most far.made line far.went went;
      wrote = wrote_more failed now u v w far.text text far.wrote put;
    }

-- all lines were done
pub far_all : {most : ℕ} {lines : List DoLine} {t now : Talk} {h i l n : Option (List ℕ)} {failed : Bool} {o : Seen}
    (e : Ends) → e.sink.before.bytes ≡ h → e.sink.now.bytes ≡ i → e.source.before.bytes ≡ l → e.source.now.bytes ≡ n →
    SoFar most lines [] t now h i l n failed o → WentWell (lines_told most lines) t e failed o
far_all {most} {lines} {t} {now} {h} {i} {l} {n} {failed} {o} e a b c d far = record {
  after = now;
  text = far.text;
  went = subst (λ (x : Option (List ℕ)). Went (lines_told most lines) t now x e.sink.now.bytes e.source.before.bytes
      e.source.now.bytes far.text tt) (sym a)
      (subst (λ (x : Option (List ℕ)). Went (lines_told most lines) t now h x e.source.before.bytes e.source.now.bytes
      far.text tt) (sym b)
      (subst (λ (x : Option (List ℕ)). Went (lines_told most lines) t now h i x e.source.now.bytes far.text tt) (sym c)
      (subst (λ (x : Option (List ℕ)). Went (lines_told most lines) t now h i l x far.text tt) (sym d)
      (subst (λ (x : List DoLine). Went (lines_told most x) t now h i l n far.text tt)
      (sym (append-nil far.made) ∙ far.joined) far.went))));
  wrote = far.wrote;
}

-- a line at which the talk stops
pub far_halted : {end : Stop} {most : ℕ} {lines : List DoLine} (line : DoLine) {rest : List DoLine} {t m : Talk}
    {h i l n : Option (List ℕ)} {failed : Bool} {o : Seen} {shut done : Bool} (f a : ℕ) {e : Ends}
    → SoFar most lines (line ∷ rest) t m h i l n failed o → e.sink.before.bytes ≡ i → e.source.before.bytes ≡ n →
    f ≤ e.sink.before.faults → a ≤ e.source.before.faults
    → Halted end (line_told most line) m e [] → HasHalted end (lines_told most lines) t (before h f shut l a done e)
    failed o
far_halted {end} {most} {lines} line {rest} {t} {m} {h} {i} {l} {n} {failed} {o} {shut} {done} f a {e} far held left s r
    d = record {
      text = far.text;
      halted = subst (λ (x : List DoLine). Halted end (lines_told most x) t (before h f shut l a done e) far.text)
          far.joined
          (subst (λ (x : List ℕ). Halted end (lines_told most (far.made ++ line ∷ rest)) t (before h f shut l a done e) x)
          (append-nil far.text) (halted_line most far.made line rest f a far.went held left s r d));
      wrote = far.wrote;
    }

-- ---- the whole talk

pub told_is : (tree : List ℕ) (lines : List DoLine) (bytes : List ℕ)
    → and_then (begins tree bytes) (λ most rest. lines_told most lines rest) ≡ told_of tree lines bytes
unfolding told_of
told_is tree lines bytes = refl

pub well_begun : (tree : List ℕ) (lines : List DoLine) {most : ℕ} {t m : Talk} {h i l n : Option (List ℕ)}
    {failed : Bool} {o : Seen} {shut done : Bool} {f a : ℕ} {e : Ends} → Went (begins tree) t m h i l n [] most
    → e.sink.before.bytes ≡ i → e.source.before.bytes ≡ n → WentWell (lines_told most lines) m e failed o
    → WentWell (told_of tree lines) t (before h f shut l a done e) failed o
well_begun tree lines {most} {t} {m} {h} {i} {l} {n} {failed} {o} {shut} {done} {f} {a} {e} w held left well = record {
  after = well.after;
  text = well.text;
  went = went_same (told_is tree lines) (went_then (λ most rest. lines_told most lines rest) w
      (subst (λ (x : Option (List ℕ)). Went (lines_told most lines) m well.after x e.sink.now.bytes n e.source.now.bytes
      well.text tt) held
      (subst (λ (x : Option (List ℕ)). Went (lines_told most lines) m well.after e.sink.before.bytes e.sink.now.bytes x
      e.source.now.bytes well.text tt) left well.went)));
  wrote = well.wrote;
}

pub halted_begun : {end : Stop} (tree : List ℕ) (lines : List DoLine) {most : ℕ} {t m : Talk}
    {h i l n : Option (List ℕ)} {failed : Bool} {o : Seen} {shut done : Bool} (f a : ℕ) {e : Ends}
    → Went (begins tree) t m h i l n [] most → e.sink.before.bytes ≡ i → e.source.before.bytes ≡ n →
    f ≤ e.sink.before.faults → a ≤ e.source.before.faults
    → HasHalted end (lines_told most lines) m e failed o → HasHalted end (told_of tree lines) t
    (before h f shut l a done e) failed o
halted_begun {end} tree lines {most} f a w held left s r has = record {
  text = has.text;
  halted = halted_same (told_is tree lines) (halted_then (λ most rest. lines_told most lines rest) f a w held left s r
      has.halted);
  wrote = has.wrote;
}

-- by whether it has stopped
pub comes_begun : (shut done : Bool) (end : Option Stop) (tree : List ℕ) (lines : List DoLine) {most : ℕ} {t m : Talk}
    {h i l n : Option (List ℕ)} (failed : Bool) (o : Seen) (f a : ℕ) (e : Ends) → Went (begins tree) t m h i l n [] most
    → e.sink.before.bytes ≡ i → e.source.before.bytes ≡ n → f ≤ e.sink.before.faults → a ≤ e.source.before.faults
    → Comes end (lines_told most lines) m e failed o → Comes end (told_of tree lines) t (before h f shut l a done e)
    failed o
comes_begun shut done None tree lines failed o f a e w held left s r comes = well_begun tree lines w held left comes
comes_begun shut done (Some end) tree lines failed o f a e w held left s r comes = halted_begun tree lines f a w held
    left s r comes

pub halted_beginning : {end : Stop} (tree : List ℕ) (lines : List DoLine) {t : Talk} {e : Ends}
    → Halted end (begins tree) t e [] → Halted end (told_of tree lines) t e []
halted_beginning {end} tree lines h = halted_same (told_is tree lines)
    (halted_first (λ most rest. lines_told most lines rest) h)

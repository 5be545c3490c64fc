-- Parts of a talk, one after another.
use Rattle.std.proofs.Common.{◌≡◌, ℕ, ◌≤◌, Bool, List, [], ◌++◌, Option, refl, sym, ap, ◌∙◌, subst, append_assoc}
use Rattle.am_base.specs.Outside.{bytes_told, told_then, PutsFront}
use Rattle.ninep_client.specs.declared.fault.CallFault.{CallFault}
use Rattle.ninep_client.specs.declared.fault.CallFault.TheVariants as fault
use Rattle.ninep_client.specs.Asking.{Talk}
use Rattle.ninep_client.specs.Hearing.{Came}
use Rattle.am_do.specs.declared.stop.Stop.{Stop}
use Rattle.am_do.specs.declared.stop.Stop.TheVariants as stop
use Rattle.am_do.specs.Talks.{Got, Value, Lacks, Faulty, Refused, Told, then_got, and_then, gives, says, refuses}
use Rattle.am_do.specs.Went.{Ends, ends, Went, IsLeft, IsFaulty, IsRefused, IsCutOff, IsStarved, StopsFor, Halted}
use Rattle.am_do.proofs.Outputs.{came_none, came_then, put_none, put_then, front_then, front_longer, front_none}
use Rattle.am_do.proofs.Outputs.{risen_later}

-- ---- parts that are done

-- nothing is sent
pub went_gives : {A : Type 0} (a : A) (t : Talk) (held left : Option (List ℕ))
    → Went (gives a) t t held held left left [] a
went_gives a t held left = record {
  used = [];
  sent = [];
  came = came_none left t.unread;
  put = put_none held;
  goes =
      λ more. refl;
}

pub went_says : (text : List ℕ) (t : Talk) (held left : Option (List ℕ))
    → Went (says text) t t held held left left text tt
went_says text t held left = record {
  used = [];
  sent = [];
  came = came_none left t.unread;
  put = put_none held;
  goes =
      λ more. refl;
}

-- what was sent and written, and then this
abbrev pub behind : {A : Type 0} → List ℕ → List ℕ → Told A → Told A
behind sent text told = record { sent = sent ++ told.sent; text = text ++ told.text; got = told.got }

module _ {A B : Type 0} where
  -- the two parts as one, over bytes that the first one uses
  part_then : (one : List ℕ → Told A) (two : A → List ℕ → Told B) (used sent text rest : List ℕ) (x : A)
      → ((more : List ℕ) → one (used ++ more) ≡ record { sent = sent; text = text; got = Value x more })
      → and_then (one (used ++ rest)) two ≡ behind sent text (two x rest)
  part_then one two used sent text rest x goes = ap (λ (told : Told A). and_then told two) (goes rest)

  pub went_then : {one : List ℕ → Told A} (two : A → List ℕ → Told B) {t m after : Talk} {h i j l n p : Option (List ℕ)}
      {v w : List ℕ} {x : A} {y : B} → Went one t m h i l n v x → Went (two x) m after i j n p w y
      → Went (λ bytes. and_then (one bytes) two) t after h j l p (v ++ w) y
  went_then {one} two {t} {m} {after} {h} {i} {j} {l} {n} {p} {v} {w} {x} {y} a b = record {
    used = a.used ++ b.used;
    sent = a.sent ++ b.sent;
    came = subst (λ (u : List ℕ). Came l p t.unread u) (sym (append_assoc a.used b.used after.unread))
        (came_then l n p t.unread m.unread (b.used ++ after.unread) a.used a.came b.came);
    put = put_then h i j a.sent b.sent a.put b.put;
    goes = λ more.
        ap (λ (bytes : List ℕ). and_then (one bytes) two) (append_assoc a.used b.used more)
        ∙ part_then one two a.used a.sent v (b.used ++ more) x a.goes
        ∙ ap (behind a.sent v) (b.goes more);
  }

-- ---- a talk that stops in its first part

module _ {A B : Type 0} where
  pub got_first : (told : Told A) (two : A → List ℕ → Told B) (g : Got A)
      → told.got ≡ g → and_then told two ≡ then_got told.sent told.text g two
  got_first told two g e = ap (λ (x : Got A). then_got told.sent told.text x two) e

  left_first : (told : Told A) (two : A → List ℕ → Told B) (e : Ends) (text : List ℕ) → IsLeft told e text
      → IsLeft (and_then told two) e text
  left_first told two e text h = subst (λ (x : Told B). IsLeft x e text) (sym (got_first told two Lacks h.lacks))
      (record { lacks = refl; put = h.put; said = h.said })

  faulty_first : (f : CallFault) (told : Told A) (two : A → List ℕ → Told B) (e : Ends) (text : List ℕ)
      → IsFaulty f told e text → IsFaulty f (and_then told two) e text
  faulty_first f told two e text h = subst (λ (x : Told B). IsFaulty f x e text)
      (sym (got_first told two (Faulty f) h.faulty)) (record { faulty = refl; put = h.put; said = h.said })

  refused_first : (told : Told A) (two : A → List ℕ → Told B) (e : Ends) (text : List ℕ) → IsRefused told e text
      → IsRefused (and_then told two) e text
  refused_first told two e text h = subst (λ (x : Told B). IsRefused x e text)
      (sym (got_first told two Refused h.refused)) (record { refused = refl; put = h.put; said = h.said })

  cut_first : (told : Told A) (two : A → List ℕ → Told B) (e : Ends) (text : List ℕ) → IsCutOff told e text
      → IsCutOff (and_then told two) e text
  cut_first told two e text h = subst (λ (x : Told B). IsCutOff x e text) (sym (got_first told two Lacks h.lacks))
      (record { lacks = refl; front = h.front; risen = h.risen; said = h.said })

  starved_got : (sent told text rest : List ℕ) (g : Got A) (two : A → List ℕ → Told B) (e : Ends)
      → PutsFront e.sink.before.bytes sent e.sink.now.bytes → text ++ rest ≡ told → IsStarved (then_got sent told g two)
      e text
  starved_got sent told text rest (Value a r) two e f said = record {
    front = front_longer e.sink.before.bytes e.sink.now.bytes sent (two a r).sent f;
    rest = rest ++ (two a r).text;
    said = sym (append_assoc text rest (two a r).text) ∙ ap (λ (x : List ℕ). x ++ (two a r).text) said;
  }
  starved_got sent told text rest Lacks two e f said = record { front = f; rest = rest; said = said }
  starved_got sent told text rest (Faulty c) two e f said = record { front = f; rest = rest; said = said }
  starved_got sent told text rest Refused two e f said = record { front = f; rest = rest; said = said }

  stops_first : (end : Stop) (used all : Told A) (two : A → List ℕ → Told B) (unread : List ℕ) (e : Ends)
      (text : List ℕ) → StopsFor end used all unread e text → StopsFor end (and_then used two) (and_then all two) unread
      e text
  stops_first stop.Refused used all two unread e text h = refused_first used two e text h
  stops_first (stop.Fault fault.Ended) used all two unread e text h = (left_first used two e text h.0, h.1, h.2)
  stops_first (stop.Fault fault.Torn) used all two unread e text h =
      (left_first used two e text h.0, left_first all two e text h.1, h.2, h.3, h.4)
  stops_first (stop.Fault fault.ReadFault) used all two unread e text h = (left_first used two e text h.0, h.1, h.2)
  stops_first (stop.Fault fault.WriteFault) used all two unread e text h = cut_first used two e text h
  stops_first (stop.Fault (fault.Wire f)) used all two unread e text h = faulty_first (fault.Wire f) all two e text h
  stops_first (stop.Fault (fault.Unasked n)) used all two unread e text h = faulty_first (fault.Unasked n) all two e
      text h
  stops_first (stop.Fault (fault.Kind kind)) used all two unread e text h = faulty_first (fault.Kind kind) all two e
      text h
  stops_first (stop.Fault fault.NoMemory) used all two unread e text h = starved_got used.sent used.text text h.rest
      used.got two e h.front h.said
  stops_first (stop.Fault fault.Closed) used all two unread e text h = absurd h
  stops_first (stop.Fault fault.Tags) used all two unread e text h = absurd h
  stops_first (stop.Fault fault.Large) used all two unread e text h = absurd h
  stops_first (stop.Fault (fault.Remote t)) used all two unread e text h = absurd h

  pub halted_first : {end : Stop} {one : List ℕ → Told A} (two : A → List ℕ → Told B) {t : Talk} {e : Ends}
      {text : List ℕ} → Halted end one t e text → Halted end (λ bytes. and_then (one bytes) two) t e text
  halted_first {end} {one} two {t} {e} {text} h = record {
    used = h.used;
    unread = h.unread;
    came = h.came;
    cause = stops_first end (one h.used) (one (h.used ++ h.unread)) two h.unread e text h.cause;
  }

-- ---- a talk that stops in its second part

-- what a sink and a source were before
abbrev pub before : Option (List ℕ) → ℕ → Bool → Option (List ℕ) → ℕ → Bool → Ends → Ends
before held sink shut left source done e = ends (bytes_told held sink shut) e.sink.now (bytes_told left source done)
    e.source.now

module _ {B : Type 0} where
  left_behind : {shut done : Bool} (sent text : List ℕ) (told : Told B) (h l : Option (List ℕ)) (f a : ℕ) (e : Ends)
      (said : List ℕ) → e.sink.before.bytes ≡ told_then h sent → IsLeft told e said
      → IsLeft (behind sent text told) (before h f shut l a done e) (text ++ said)
  left_behind sent text told h l f a e said p x = record {
    lacks = x.lacks;
    put = put_then h e.sink.before.bytes
        e.sink.now.bytes sent told.sent p x.put;
    said = ap (λ (u : List ℕ). text ++ u) x.said;
  }

  faulty_behind : {shut done : Bool} (c : CallFault) (sent text : List ℕ) (told : Told B) (h l : Option (List ℕ))
      (f a : ℕ) (e : Ends) (said : List ℕ) → e.sink.before.bytes ≡ told_then h sent → IsFaulty c told e said
      → IsFaulty c (behind sent text told) (before h f shut l a done e) (text ++ said)
  faulty_behind c sent text told h l f a e said p x = record {
    faulty = x.faulty;
    put = put_then h e.sink.before.bytes
        e.sink.now.bytes sent told.sent p x.put;
    said = ap (λ (u : List ℕ). text ++ u) x.said;
  }

  stops_behind : (shut done : Bool) (end : Stop) (sent text : List ℕ) (used all : Told B) (unread : List ℕ)
      (h l : Option (List ℕ)) (f a : ℕ) (e : Ends) (said : List ℕ) → e.sink.before.bytes ≡ told_then h sent
      → f ≤ e.sink.before.faults → a ≤ e.source.before.faults
      → StopsFor end used all unread e said → StopsFor end (behind sent text used) (behind sent text all) unread
      (before h f shut l a done e) (text ++ said)
  stops_behind shut done stop.Refused sent text used all unread h l f a e said p s r x =
      record {
        refused = x.refused;
        put = put_then h e.sink.before.bytes e.sink.now.bytes sent used.sent p x.put;
        said =
            ap (λ (u : List ℕ). text ++ u) x.said;
      }
  stops_behind shut done (stop.Fault fault.Ended) sent text used all unread h l f a e said p s r x =
      (left_behind sent text used h l f a e said p x.0, x.1, x.2)
  stops_behind shut done (stop.Fault fault.Torn) sent text used all unread h l f a e said p s r x =
      (left_behind sent text used h l f a e said p x.0, left_behind sent text all h l f a e said p x.1, x.2, x.3, x.4)
  stops_behind shut done (stop.Fault fault.ReadFault) sent text used all unread h l f a e said p s r x = (
    left_behind sent text used h l f a e said p x.0,
    x.1,
    risen_later a e.source.before.faults e.source.now.faults r
        x.2,
  )
  stops_behind shut done (stop.Fault fault.WriteFault) sent text used all unread h l f a e said p s r x = record {
    lacks = x.lacks;
    front = front_then h e.sink.before.bytes e.sink.now.bytes sent used.sent p x.front;
    risen = risen_later f e.sink.before.faults e.sink.now.faults s x.risen;
    said = ap (λ (u : List ℕ). text ++ u) x.said;
  }
  stops_behind shut done (stop.Fault (fault.Wire w)) sent text used all unread h l f a e said p s r x =
      faulty_behind (fault.Wire w) sent text all h l f a e said p x
  stops_behind shut done (stop.Fault (fault.Unasked n)) sent text used all unread h l f a e said p s r x =
      faulty_behind (fault.Unasked n) sent text all h l f a e said p x
  stops_behind shut done (stop.Fault (fault.Kind kind)) sent text used all unread h l f a e said p s r x =
      faulty_behind (fault.Kind kind) sent text all h l f a e said p x
  stops_behind shut done (stop.Fault fault.NoMemory) sent text used all unread h l f a e said p s r x = record {
    front = front_then h e.sink.before.bytes e.sink.now.bytes sent used.sent p x.front;
    rest = x.rest;
    said = append_assoc text said x.rest ∙ ap (λ (u : List ℕ). text ++ u) x.said;
  }
  stops_behind shut done (stop.Fault fault.Closed) sent text used all unread h l f a e said p s r x = absurd x
  stops_behind shut done (stop.Fault fault.Tags) sent text used all unread h l f a e said p s r x = absurd x
  stops_behind shut done (stop.Fault fault.Large) sent text used all unread h l f a e said p s r x = absurd x
  stops_behind shut done (stop.Fault (fault.Remote t)) sent text used all unread h l f a e said p s r x = absurd x

module _ {A B : Type 0} where
  pub halted_then : {end : Stop} {one : List ℕ → Told A} (two : A → List ℕ → Told B) {t m : Talk}
      {h i l n : Option (List ℕ)} {v said : List ℕ} {x : A} {shut done : Bool} (f a : ℕ) {e : Ends}
      → Went one t m h i l n v x → e.sink.before.bytes ≡ i → e.source.before.bytes ≡ n → f ≤ e.sink.before.faults
      → a ≤ e.source.before.faults
      → Halted end (two x) m e said → Halted end (λ bytes. and_then (one bytes) two) t (before h f shut l a done e)
      (v ++ said)
  halted_then {end} {one} two {t} {m} {h} {i} {l} {n} {v} {said} {x} {shut} {done} f a {e} w held left s r d =
      let used : and_then (one (w.used ++ d.used)) two ≡ behind w.sent v (two x d.used) = part_then one two w.used
      w.sent v d.used x w.goes in
      let all : and_then (one ((w.used ++ d.used) ++ d.unread)) two ≡ behind w.sent v (two x (d.used ++ d.unread))
      = ap (λ (bytes : List ℕ). and_then (one bytes) two) (append_assoc w.used d.used d.unread)
      ∙ part_then one two w.used w.sent v (d.used ++ d.unread) x w.goes in
      let cause : StopsFor end (behind w.sent v (two x d.used)) (behind w.sent v (two x (d.used ++ d.unread))) d.unread
      (before h f shut l a done e) (v ++ said)
      = stops_behind shut done end w.sent v (two x d.used) (two x (d.used ++ d.unread)) d.unread h l f a e said
      (held ∙ w.put) s r d.cause in
      record {
        used = w.used ++ d.used;
        unread = d.unread;
        came = subst (λ (b : List ℕ). Came l e.source.now.bytes t.unread b) (sym (append_assoc w.used d.used d.unread))
            (came_then l n e.source.now.bytes t.unread m.unread (d.used ++ d.unread) w.used w.came
            (subst (λ (o : Option (List ℕ)). Came o e.source.now.bytes m.unread (d.used ++ d.unread)) left d.came));
        cause = subst (λ (u : Told B). StopsFor end u (and_then (one ((w.used ++ d.used) ++ d.unread)) two) d.unread
            (before h f shut l a done e) (v ++ said)) (sym used)
            (subst (λ (u : Told B). StopsFor end (behind w.sent v (two x d.used)) u d.unread
            (before h f shut l a done e) (v ++ said)) (sym all) cause);
      }

-- ---- a talk that stops where it stands

pub halted_memory : {A : Type 0} {shut done : Bool} (talk : List ℕ → Told A) (t : Talk) (held left : Option (List ℕ))
    (f a : ℕ) → Halted (stop.Fault fault.NoMemory) talk t (ends (bytes_told held f shut) (bytes_told held f shut)
    (bytes_told left a done) (bytes_told left a done)) []
halted_memory talk t held left f a = record {
  used = [];
  unread = t.unread;
  came = came_none left t.unread;
  cause = record { front = front_none held (talk []).sent; rest = (talk []).text; said = refl };
}

pub halted_refused : {A : Type 0} {shut done : Bool} (t : Talk) (held left : Option (List ℕ)) (f a : ℕ)
    → Halted stop.Refused (λ (bytes : List ℕ). let told : Told A = refuses in told) t
    (ends (bytes_told held f shut) (bytes_told held f shut) (bytes_told left a done) (bytes_told left a done)) []
halted_refused t held left f a = record {
  used = [];
  unread = t.unread;
  came = came_none left t.unread;
  cause = record { refused = refl; put = put_none held; said = refl };
}

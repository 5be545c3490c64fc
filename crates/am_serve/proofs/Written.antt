-- What a side that writes replies has done, one step on.
use Rattle.std.proofs.Common.{◌≡◌, ℕ, suc, ◌+◌, ◌-◌, ◌≤◌, Bool, true, false, List, [], ◌∷◌, ◌++◌, length, take, Option}
use Rattle.std.proofs.Common.{Some, None, refl, sym, ap, subst, ◌∙◌, append_assoc, arith}
use Rattle.std.specs.Prelude.{if◌then◌else◌}
use Rattle.std.proofs.lemmas.List.{append-nil, length-append, take-append-le, take_at}
use Rattle.std.proofs.lemmas.List.Concat.{flat_map-append}
use Rattle.turn_lock.specs.Journal.{Stands}
use Rattle.am_base.specs.Outside.{told_then, PutsFront}
use Rattle.am_journal.specs.declared.ending.Ending.{Ending}
use Rattle.am_journal.specs.declared.event.Event.{Event}
use Rattle.am_journal.specs.declared.event.Event.TheVariants.{Hang, Took}
use Rattle.am_counter.specs.Known.{Known, with_entry, Looks, TakesBytes}
use Rattle.am_counter.specs.Played.{has_hang}
use Rattle.am_serve.specs.Gained.{Rule, Gains, gained, hang_up, HangsUp}
use Rattle.am_serve.specs.Writing.{AreTakings, bytes_of, taken_bytes, Wrote, Gets}
use Rattle.am_serve.specs.declared.writing.WriteEnd.{WriteEnd}
use Rattle.am_serve.specs.declared.writing.WriteEnd.TheVariants as end
use Rattle.am_serve.proofs.Gaining.{slice_get_below, gains_nothing, gains_more, gains_look, gains_entry, gained_is}
use Rattle.am_serve.proofs.Gaining.{gains_gained}
use Rattle.am_serve.proofs.HangUps.{gains_hang_up}

-- ---- bytes

told_then-then : (o : Option (List ℕ)) (a b : List ℕ) → told_then (told_then o a) b ≡ told_then o (a ++ b)
told_then-then None a b = refl
told_then-then (Some h) a b = ap (λ (x : List ℕ). Some x) (append_assoc h a b)

told_then-nil : (o : Option (List ℕ)) → told_then o [] ≡ o
told_then-nil None = refl
told_then-nil (Some h) = ap (λ (x : List ℕ). Some x) (append-nil h)

-- a front of what comes behind the bytes that were put
puts_further : (old mid new : Option (List ℕ)) (a b : List ℕ) → mid ≡ told_then old a → PutsFront mid b new
    → PutsFront old (a ++ b) new
puts_further old mid new a b e p = (
  length a + p.0,
  omega (arith, length-append a b, p.1),
  p.2 ∙ ap (λ (o : Option (List ℕ)). told_then o (take p.0 b)) e ∙ told_then-then old a (take p.0 b)
      ∙ ap (told_then old) (sym (front a b p.0)),
)
  where
    front : (xs ys : List ℕ) (n : ℕ) → take (length xs + n) (xs ++ ys) ≡ xs ++ take n ys
    front [] ys n = ap (λ k. take k ys) (omega arith)
    front (x ∷ xs) ys n = ap (λ k. take k (x ∷ (xs ++ ys))) (let e : length (x ∷ xs) + n ≡ suc (length xs + n) =
        omega arith in e) ∙ ap (λ (l : List ℕ). x ∷ l) (front xs ys n)

-- ---- entries that took bytes

-- what an entry took doesn't change as the journal grows
pub taken_longer : (unsent : List Event → ℕ → List ℕ) (log ys : List Event) (low : ℕ) (entries : List (ℕ × Event))
    → Stands log low entries → taken_bytes unsent (log ++ ys) entries ≡ taken_bytes unsent log entries
taken_longer unsent log ys low [] s = refl
taken_longer unsent log ys low (x ∷ xs) s =
    let below : x.0 - 1 ≤ length log = omega (arith, slice_get_below log (x.0 - 1) x.1 s.1) in
    let one : bytes_of unsent (take (x.0 - 1) (log ++ ys)) x.1 ≡ bytes_of unsent (take (x.0 - 1) log) x.1 =
    ap (λ (l : List Event). bytes_of unsent l x.1) (take-append-le (x.0 - 1) log ys below) in
    let others : taken_bytes unsent (log ++ ys) xs ≡ taken_bytes unsent log xs = taken_longer unsent log ys x.0 xs
    s.2 in
    ap (λ (l : List ℕ). l ++ taken_bytes unsent (log ++ ys) xs) one
    ∙ ap (λ (l : List ℕ). bytes_of unsent (take (x.0 - 1) log) x.1 ++ l) others

takings-append : (conn : ℕ) (xs ys : List (ℕ × Event)) → AreTakings conn xs → AreTakings conn ys
    → AreTakings conn (xs ++ ys)
takings-append conn [] ys p q = q
takings-append conn (x ∷ xs) ys p q = (p.0, takings-append conn xs ys p.1 q)

-- the bytes of entries, and of those that come after
pub taken_more : (unsent : List Event → ℕ → List ℕ) (v w x : Known) (es fs : List (ℕ × Event)) → Gains v es w
    → Gains w fs x → taken_bytes unsent x.seen (es ++ fs) ≡ taken_bytes unsent w.seen es ++ taken_bytes unsent x.seen fs
taken_more unsent v w x es fs g h =
    flat_map-append (λ (y : ℕ × Event). bytes_of unsent (take (y.0 - 1) x.seen) y.1) es fs
    ∙ ap (λ (l : List ℕ). l ++ taken_bytes unsent x.seen fs)
    (ap (λ (l : List Event). taken_bytes unsent l es) (sym h.seen.1)
    ∙ taken_longer unsent w.seen h.seen.0 (length v.seen) es g.stand)

-- the bytes of an entry that was just made
taken_one : (unsent : List Event → ℕ → List ℕ) (w : Known) (now : List Event) (conn : ℕ)
    → taken_bytes unsent (with_entry w now (Took conn)).seen ((length now + 1, Took conn) ∷ []) ≡ unsent now conn
taken_one unsent w now conn =
    append-nil (unsent (take (length now + 1 - 1) (now ++ Took conn ∷ [])) conn)
    ∙ ap (λ (l : List Event). unsent l conn) (ap (λ k. take k (now ++ Took conn ∷ []))
    (let e : length now + 1 - 1 ≡ length now = omega arith in e) ∙ take_at now (Took conn ∷ []) (length now) refl)

-- ---- steps of the loop

module _ (unsent : List Event → ℕ → List ℕ) (conn : ℕ) where
  pub wrote_nothing : (v : Known) (old : Option (List ℕ)) → Wrote unsent conn v v end.Ended old old
  wrote_nothing v old = record {
    entries = [];
    gains = gains_nothing v;
    takings = tt;
    gets = sym (told_then-nil old);
  }

  -- the journal was seen, and nothing was taken
  pub wrote_look : (v w x : Known) (old new : Option (List ℕ)) → Wrote unsent conn v w end.Ended old new → Looks w x
      → Wrote unsent conn v x end.Ended old new
  wrote_look v w x old new h l =
      let g : Gains w [] x = gains_look w x l in
      record {
        entries = h.entries ++ [];
        gains = gains_more v w x h.entries [] h.gains g;
        takings = takings-append conn h.entries [] h.takings tt;
        gets = h.gets ∙ ap (told_then old) (sym (append-nil (taken_bytes unsent w.seen h.entries))
            ∙ sym (taken_more unsent v w x h.entries [] h.gains g));
      }

  -- replies were taken
  took : (enabled : Rule) (v w x : Known) (bytes : List ℕ) (es : List (ℕ × Event)) → Gains v es w
      → TakesBytes enabled unsent w conn bytes x
      → (fs : List (ℕ × Event)) × Gains v (es ++ fs) x × AreTakings conn fs
      × (taken_bytes unsent x.seen (es ++ fs) ≡ taken_bytes unsent w.seen es ++ bytes)
  took enabled v w x bytes es g t =
      let now = t.0 in
      let fs : List (ℕ × Event) = (length now + 1, Took conn) ∷ [] in
      let P : Known → Type 0 = λ y. Gains w fs y in
      let h : Gains w fs x = subst P (sym t.5) (gains_entry w now (Took conn) t.1) in
      let one : taken_bytes unsent x.seen fs ≡ bytes = ap (λ (y : Known). taken_bytes unsent y.seen fs) t.5
      ∙ taken_one unsent w now conn ∙ sym t.3 in (
        fs,
        gains_more v w x es fs g h,
        (refl, tt),
        taken_more unsent v w x es fs g h
            ∙ ap (λ (l : List ℕ). taken_bytes unsent w.seen es ++ l) one,
      )

  -- and written
  pub wrote_more : (enabled : Rule) (v w x : Known) (bytes : List ℕ) (old mid new : Option (List ℕ))
      → Wrote unsent conn v w end.Ended old mid → TakesBytes enabled unsent w conn bytes x → new ≡ told_then mid bytes
      → Wrote unsent conn v x end.Ended old new
  wrote_more enabled v w x bytes old mid new h t e =
      let more = took enabled v w x bytes h.entries h.gains t in
      record {
        entries = h.entries ++ more.0;
        gains = more.1;
        takings = takings-append conn h.entries more.0 h.takings more.2;
        gets = e ∙ ap (λ (o : Option (List ℕ)). told_then o bytes) h.gets
            ∙ told_then-then old (taken_bytes unsent w.seen h.entries) bytes ∙ ap (told_then old) (sym more.3);
      }

  -- and the sink failed
  pub wrote_front : (enabled : Rule) (v w x : Known) (bytes : List ℕ) (old mid new : Option (List ℕ))
      → Wrote unsent conn v w end.Ended old mid → TakesBytes enabled unsent w conn bytes x → PutsFront mid bytes new
      → Wrote unsent conn v x end.Gone old new
  wrote_front enabled v w x bytes old mid new h t p =
      let more = took enabled v w x bytes h.entries h.gains t in
      let P : List ℕ → Type 0 = λ l. PutsFront old l new in
      record {
        entries = h.entries ++ more.0;
        gains = more.1;
        takings = takings-append conn h.entries more.0 h.takings more.2;
        gets = subst P (sym more.3) (puts_further old mid new (taken_bytes unsent w.seen h.entries) bytes h.gets p);
      }

  -- there was no memory
  pub wrote_so_far : (v w : Known) (old new : Option (List ℕ)) → Wrote unsent conn v w end.Ended old new
      → Wrote unsent conn v w end.NoMemory old new
  wrote_so_far v w old new h = record { entries = h.entries; gains = h.gains; takings = h.takings; gets = h.gets }

  -- the connection is ended after that
  module _ (v w x : Known) (e : WriteEnd) (old new : Option (List ℕ)) (cause : Ending) (made : Bool)
      (h : Wrote unsent conn v w e old new) (u : HangsUp w conn cause made x) where
    all_gains : Gains v (h.entries ++ hang_up u.0 conn cause) x
    all_gains = gains_more v w x h.entries (hang_up u.0 conn cause) h.gains (gains_hang_up w x conn cause u.0 u.1 u.3)

    pub ended_gains : Gains v (gained v x) x
    ended_gains = gains_gained v x (h.entries ++ hang_up u.0 conn cause) all_gains

    pub ended_gets : Gets e old (taken_bytes unsent x.seen (gained v x)) new
    ended_gets =
        let hs = hang_up u.0 conn cause in
        let P : List ℕ → Type 0 = λ l. Gets e old l new in
        subst P
        (sym (ap (taken_bytes unsent x.seen) (gained_is v x (h.entries ++ hs) all_gains)
        ∙ taken_more unsent v w x h.entries hs h.gains (gains_hang_up w x conn cause u.0 u.1 u.3)
        ∙ ap (λ (l : List ℕ). taken_bytes unsent w.seen h.entries ++ l) (nothing (has_hang u.0 conn))
        ∙ append-nil (taken_bytes unsent w.seen h.entries)))
        h.gets
      where
        nothing : (b : Bool) → taken_bytes unsent x.seen (if b then [] else (length u.0 + 1, Hang conn cause) ∷ []) ≡ []
        nothing true = refl
        nothing false = refl

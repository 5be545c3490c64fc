-- Seats that go on.
use Rattle.std.proofs.Common.{◌≡◌, ℕ, zero, suc, ◌+◌, ◌-◌, ◌<◌, ◌≤◌, List, [], ◌∷◌, ◌++◌, length, drop, Some, refl, sym}
use Rattle.std.proofs.Common.{ap, subst, ◌∙◌, append_assoc, arith}
use Rattle.std.specs.Prelude.{slice_get}
use Rattle.std.proofs.lemmas.List.{append-nil, length-append, drop_at}
use Rattle.turn_lock.specs.Journal.{Stands}
use Rattle.am_journal.specs.declared.event.Event.{Event}
use Rattle.am_counter.specs.Known.{Known, with_entry, Looks}
use Rattle.am_counter.specs.Played.{IsPrefix}
use Rattle.am_serve.specs.Gained.{Gains, gained}

-- ---- entries that stand in a journal

module _ {A : Type 0} where
  pub slice_get_front : (xs ys : List A) (i : ℕ) (x : A) → slice_get xs i ≡ Some x → slice_get (xs ++ ys) i ≡ Some x
  slice_get_front [] ys i x e = absurd cc
  slice_get_front (y ∷ xs) ys zero x e = e
  slice_get_front (y ∷ xs) ys (suc i) x e = slice_get_front xs ys i x e

  pub slice_get_last : (xs : List A) (x : A) (i : ℕ) → i ≡ length xs → slice_get (xs ++ x ∷ []) i ≡ Some x
  slice_get_last [] x zero e = refl
  slice_get_last [] x (suc i) e = absurd (omega (arith, e))
  slice_get_last (y ∷ xs) x zero e = absurd (omega (arith, e))
  slice_get_last (y ∷ xs) x (suc i) e = slice_get_last xs x i (omega (arith, e))

  pub slice_get_below : (xs : List A) (i : ℕ) (x : A) → slice_get xs i ≡ Some x → i < length xs
  slice_get_below [] i x e = absurd cc
  slice_get_below (y ∷ xs) zero x e = omega arith
  slice_get_below (y ∷ xs) (suc i) x e = omega (arith, slice_get_below xs i x e)

  pub stands_longer : (log ys : List A) (low : ℕ) (xs : List (ℕ × A)) → Stands log low xs → Stands (log ++ ys) low xs
  stands_longer log ys low [] s = tt
  stands_longer log ys low (x ∷ xs) s = (s.0, slice_get_front log ys (x.0 - 1) x.1 s.1, stands_longer log ys x.0 xs s.2)

  pub stands_lower : (log : List A) (low lower : ℕ) (xs : List (ℕ × A)) → lower ≤ low → Stands log low xs
      → Stands log lower xs
  stands_lower log low lower [] le s = tt
  stands_lower log low lower (x ∷ xs) le s = (omega (arith, le, s.0), s.1, s.2)

  -- the entries of a journal, and then those of a longer one that come after it
  pub stands_joined : (log ys : List A) (low : ℕ) (xs zs : List (ℕ × A)) → low ≤ length log → Stands log low xs
      → Stands (log ++ ys) (length log) zs → Stands (log ++ ys) low (xs ++ zs)
  stands_joined log ys low [] zs le s t = stands_lower (log ++ ys) (length log) low zs le t
  stands_joined log ys low (x ∷ xs) zs le s t = (
    s.0,
    slice_get_front log ys (x.0 - 1) x.1 s.1,
    stands_joined log ys x.0 xs zs
        (omega (arith, s.0, slice_get_below log (x.0 - 1) x.1 s.1)) s.2 t,
  )

  stands_next : (log : List A) (n : ℕ) (e : A) → n ≡ length log + 1 → Stands (log ++ e ∷ []) (length log) ((n, e) ∷ [])
  stands_next log n e at = (omega (arith, at), slice_get_last log e (n - 1) (omega (arith, at)), tt)

-- ---- seats

pub gains_nothing : (v : Known) → Gains v [] v
gains_nothing v = record {
  parts = refl;
  ended = refl;
  seen = ([], append-nil v.seen);
  mine = sym (append-nil v.mine);
  stand = tt;
}

-- the journal has grown meanwhile
pub grown : (xs ys zs : List Event) → IsPrefix xs ys → IsPrefix ys zs → IsPrefix xs zs
grown xs ys zs p q = (p.0 ++ q.0, sym (append_assoc xs p.0 q.0) ∙ ap (λ (l : List Event). l ++ q.0) p.1 ∙ q.1)

pub gains_more : (v w x : Known) (es fs : List (ℕ × Event)) → Gains v es w → Gains w fs x → Gains v (es ++ fs) x
gains_more v w x es fs g h = record {
  parts = h.parts ∙ g.parts;
  ended = h.ended ∙ g.ended;
  seen = grown v.seen w.seen x.seen g.seen h.seen;
  mine = h.mine ∙ ap (λ (l : List (ℕ × Event)). l ++ fs) g.mine ∙ append_assoc v.mine es fs;
  stand =
      let P : List Event → Type 0 = λ l. Stands l (length v.seen) (es ++ fs) in
      let Q : List Event → Type 0 = λ l. Stands l (length w.seen) fs in
      subst P h.seen.1 (stands_joined w.seen h.seen.0 (length v.seen) es fs
      (omega (arith, length-append v.seen g.seen.0, ap length g.seen.1)) g.stand (subst Q (sym h.seen.1) h.stand));
}

pub gains_look : (v w : Known) → Looks v w → Gains v [] w
gains_look v w l =
    let G : Known → Type 0 = λ x. Gains v [] x in
    subst G (sym l.2) (record {
      parts = refl;
      ended = refl;
      seen = l.1;
      mine = sym (append-nil v.mine);
      stand = tt;
    })

-- an entry is added after a journal that was seen
pub gains_entry : (v : Known) (now : List Event) (e : Event) → IsPrefix v.seen now
    → Gains v ((length now + 1, e) ∷ []) (with_entry v now e)
gains_entry v now e p = record {
  parts = refl;
  ended = refl;
  seen = (p.0 ++ e ∷ [], sym (append_assoc v.seen p.0 (e ∷ [])) ∙ ap (λ (l : List Event). l ++ e ∷ []) p.1);
  mine = refl;
  stand = stands_lower (now ++ e ∷ []) (length now) (length v.seen) ((length now + 1, e) ∷ [])
      (omega (arith, length-append v.seen p.0, ap length p.1)) (stands_next now (length now + 1) e refl);
}

-- what was gained is what stands behind the entries of before
pub gained_is : (v w : Known) (entries : List (ℕ × Event)) → Gains v entries w → gained v w ≡ entries
gained_is v w entries g = ap (drop (length v.mine)) g.mine ∙ drop_at v.mine entries (length v.mine) refl

pub gains_gained : (v w : Known) (entries : List (ℕ × Event)) → Gains v entries w → Gains v (gained v w) w
gains_gained v w entries g = let P : List (ℕ × Event) → Type 0 = λ l. Gains v l w in
    subst P (sym (gained_is v w entries g)) g

pub gains_then_look : (v w x : Known) (entries : List (ℕ × Event)) → Gains v entries w → Looks w x → Gains v entries x
gains_then_look v w x entries g l = let P : List (ℕ × Event) → Type 0 = λ l. Gains v l x in
    subst P (append-nil entries) (gains_more v w x entries [] g (gains_look w x l))

-- Each opening is that of one fid, with a number that was given, and of the window whose event file the fid is.
use Rattle.std.proofs.Common.{◌≡◌, ◌⊎◌, inl, inr, ℕ, zero, suc, ◌+◌, ◌≤◌, Bool, true, false, cond, eqb, List, [], ◌∷◌}
use Rattle.std.proofs.Common.{◌++◌, length, find, nat_eq, slice_get, Option, Some, None, option_map, refl, sym, ap}
use Rattle.std.proofs.Common.{subst, ◌∙◌, arith}
use Rattle.std.specs.Map.{lookup}
use Rattle.std.proofs.lemmas.Bool.{eqb-true, eqb-false}
use Rattle.acme_tree.specs.declared.node.Node.TheVariants as node
use Rattle.acme_tree.specs.declared.node.WinFile.TheVariants as file
use Rattle.fid_table.specs.declared.types.Fid.{Fid}
use Rattle.fid_table.specs.declared.session.Session.{Session}
use Rattle.fid_table.specs.declared.session.Waiting.{Waiting}
use Rattle.fid_table.specs.Fids.{with_fid}
use Rattle.fid_table.specs.Tables.{Tables, is_session, fids_in, fids_of, fid_of, put_in, taken_from, after_join}
use Rattle.fid_table.specs.Tables.{after_put, after_take, after_version}
use Rattle.fid_table.proofs.LawLemmas.{leaves, drops}
use Rattle.fid_table.proofs.PlaceLemmas.{find_changed}
use Rattle.fid_table.proofs.FidLemmas.{lookup_put}
use Rattle.event_book.specs.BookState.{owner_of}
use Rattle.acme_watch.specs.declared.types.WatchFile.{WatchFile}
use Rattle.core_fids.specs.Fids.{event_opening, port_opening, watch_opening}
use Rattle.core_laws.proofs.Fids.{fids_joined}
use Rattle.core_laws.proofs.FileKinds.{on}
use Rattle.core_laws.proofs.Lists.{IsIn, in_without}

abbrev pub numbered_fid : ℕ → Fid → ℕ × Fid
numbered_fid n f = (n, f)

-- the connection has this fid, under its number
abbrev pub Has : Tables → ℕ → ℕ × Fid → Type 0
Has t conn e = IsIn (fids_of t conn) e

pair_same : (e : ℕ × Fid) (n : ℕ) (f : Fid) → e.0 ≡ n → e.1 ≡ f → e ≡ numbered_fid n f
pair_same e n f g h = ap (λ (m : ℕ). numbered_fid m e.1) g ∙ ap (numbered_fid n) h

looked_in : (fs : List (ℕ × Fid)) (n : ℕ) (f : Fid) → lookup (nat_eq n) fs ≡ Some f → IsIn fs (numbered_fid n f)
looked_in [] n f h = absurd cc
looked_in (e ∷ fs) n f h = by (nat_eq n e.0) refl (looked_in fs n f) h
  where
    by : (b : Bool) → nat_eq n e.0 ≡ b → (lookup (nat_eq n) fs ≡ Some f → IsIn fs (numbered_fid n f))
        → cond b (Some e.1) (lookup (nat_eq n) fs) ≡ Some f → IsIn (e ∷ fs) (numbered_fid n f)
    by true g later k = let same : e.1 ≡ f = cc in inl (pair_same e n f (sym (eqb-true n e.0 g)) same)
    by false g later k = inr (later k)

pub fid_has : (t : Tables) (conn n : ℕ) (f : Fid) → fid_of t conn n ≡ Some f → Has t conn (numbered_fid n f)
fid_has t conn n f h = looked_in (fids_of t conn) n f h

-- ---- what each change leaves

with_in : (fs : List (ℕ × Fid)) (n : ℕ) (v : Fid) (e : ℕ × Fid) → IsIn (with_fid fs n v) e → IsIn fs e
    ⊎ (e ≡ numbered_fid n v)
with_in [] n v e (inl h) = inr (sym h)
with_in [] n v e (inr h) = absurd h
with_in (f ∷ fs) n v e i = by (eqb n f.0) refl (with_in fs n v e) i
  where
    by : (b : Bool) → eqb n f.0 ≡ b → (IsIn (with_fid fs n v) e → IsIn fs e ⊎ (e ≡ numbered_fid n v))
        → IsIn (cond b (numbered_fid f.0 v ∷ fs) (f ∷ with_fid fs n v)) e → IsIn (f ∷ fs) e ⊎ (e ≡ numbered_fid n v)
    by true g later (inl h) = inr (sym h ∙ ap (λ (m : ℕ). numbered_fid m v) (sym (eqb-true n f.0 g)))
    by true g later (inr h) = inl (inr h)
    by false g later (inl h) = inl (inl h)
    by false g later (inr h) =
        elim (later h) as (λ x. IsIn (f ∷ fs) e ⊎ (e ≡ numbered_fid n v)) [
          | inl k ↦ inl (inr k)
          | inr k ↦ inr k
        ]

put_in_session : (n : ℕ) (v : Fid) (o : Option Session) (e : ℕ × Fid) → IsIn (fids_in (option_map (put_in n v) o)) e
    → IsIn (fids_in o) e ⊎ (e ≡ numbered_fid n v)
put_in_session n v None e i = absurd i
put_in_session n v (Some s) e i = with_in s.fids n v e i

pub put_has : (t : Tables) (c n : ℕ) (v : Fid) (x : ℕ) (e : ℕ × Fid) → Has (after_put t c n v) x e → Has t x e
    ⊎ ((x ≡ c) × (e ≡ numbered_fid n v))
put_has t c n v x e i = by (eqb x c) refl
  where
    here : Has (after_put t c n v) c e → Has t c e ⊎ (e ≡ numbered_fid n v)
    here j = put_in_session n v (find (is_session c) t.sessions) e
        (subst (λ (o : Option Session). IsIn (fids_in o) e) (find_changed (put_in n v) (λ s. refl) t.sessions c) j)

    by : (b : Bool) → eqb x c ≡ b → Has t x e ⊎ ((x ≡ c) × (e ≡ numbered_fid n v))
    by true g =
        let at : x ≡ c = eqb-true x c g in
        elim (here (subst (λ (y : ℕ). Has (after_put t c n v) y e) at i)) as
        (λ z. Has t x e ⊎ ((x ≡ c) × (e ≡ numbered_fid n v))) [
          | inl k ↦ inl (subst (λ (y : ℕ). Has t y e) (sym at) k)
          | inr k ↦ inr (at, k)
        ]
    by false g = inl (subst (λ (fs : List (ℕ × Fid)). IsIn fs e) (leaves.put_conn t c n x v (eqb-false x c g)) i)

take_in_session : (n : ℕ) (o : Option Session) (e : ℕ × Fid) → IsIn (fids_in (option_map (taken_from n) o)) e
    → IsIn (fids_in o) e
take_in_session n None e i = absurd i
take_in_session n (Some s) e i = (in_without (λ f. eqb n f.0) s.fids e i).0

pub take_has : (t : Tables) (c n x : ℕ) (e : ℕ × Fid) → Has (after_take t c n) x e → Has t x e
take_has t c n x e i = by (eqb x c) refl
  where
    here : Has (after_take t c n) c e → Has t c e
    here j = take_in_session n (find (is_session c) t.sessions) e (subst (λ (o : Option Session). IsIn (fids_in o) e)
        (find_changed (taken_from n) (λ s. refl) t.sessions c) j)

    by : (b : Bool) → eqb x c ≡ b → Has t x e
    by true g =
        let at : x ≡ c = eqb-true x c g in
        subst (λ (y : ℕ). Has t y e) (sym at) (here (subst (λ (y : ℕ). Has (after_take t c n) y e) at i))
    by false g = subst (λ (fs : List (ℕ × Fid)). IsIn fs e) (leaves.take_conn t c n x (eqb-false x c g)) i

pub version_has : (t : Tables) (c : ℕ) (msize : Option ℕ) (x : ℕ) (e : ℕ × Fid) → Has (after_version t c msize) x e
    → Has t x e
version_has t c msize x e i = by (eqb x c) refl
  where
    by : (b : Bool) → eqb x c ≡ b → Has t x e
    by true g =
        let at : x ≡ c = eqb-true x c g in
        absurd (subst (λ (fs : List (ℕ × Fid)). IsIn fs e) (drops.fids t c msize)
        (subst (λ (y : ℕ). Has (after_version t c msize) y e) at i))
    by false g = subst (λ (fs : List (ℕ × Fid)). IsIn fs e) (drops.other_fids t c x msize (eqb-false x c g)) i

pub join_has : (t : Tables) (c x : ℕ) (e : ℕ × Fid) → Has (after_join t c) x e → Has t x e
join_has t c x e i = subst (λ (fs : List (ℕ × Fid)). IsIn fs e) (fids_joined t c x) i

pub same_has : (t u : Tables) → u.sessions ≡ t.sessions → (x : ℕ) (e : ℕ × Fid) → Has u x e → Has t x e
same_has t u same x e i = subst (λ (ss : List Session). IsIn (fids_in (find (is_session x) ss)) e) same i

-- all fids of these sessions are those of the others
abbrev pub AreFewer : Tables → Tables → Type 0
AreFewer u t = (x : ℕ) (e : ℕ × Fid) → Has u x e → Has t x e

-- ---- an opening is one fid's

-- no two fids have one opening, and each has one of the first numbers
pub record AreOwn (which : Fid → Option ℕ) (t : Tables) (bound : ℕ) : Type 0 where
  pub one : (c d : ℕ) (e f : ℕ × Fid) (o : ℕ) → Has t c e → Has t d f → which e.1 ≡ Some o → which f.1 ≡ Some o
      → (c ≡ d) × (e.0 ≡ f.0)
  pub low : (c : ℕ) (e : ℕ × Fid) (o : ℕ) → Has t c e → which e.1 ≡ Some o → o ≤ bound

pub own_fewer : (which : Fid → Option ℕ) (t u : Tables) (bound : ℕ) → AreFewer u t → AreOwn which t bound
    → AreOwn which u bound
own_fewer which t u bound fewer own = record {
  one = λ c d e f o i j g h. own.one c d e f o (fewer c e i) (fewer d f j) g h;
  low = λ c e o i g. own.low c e o (fewer c e i) g;
}

pub own_more : (which : Fid → Option ℕ) (t : Tables) (bound next : ℕ) → bound ≤ next → AreOwn which t bound
    → AreOwn which t next
own_more which t bound next more own = record {
  one = own.one;
  low = λ c e o i g. let k : o ≤ bound = own.low c e o i
      g in omega (arith, k, more);
}

-- the opening of a fid that is put is that of the fid in its place, or the next one
abbrev pub IsItsOpening : (Fid → Option ℕ) → Tables → ℕ → ℕ → ℕ → ℕ → ℕ → Type 0
IsItsOpening which t c n bound next o = ((f : Fid) × (fid_of t c n ≡ Some f) × (which f ≡ Some o))
    ⊎ ((o ≡ bound + 1) × (o ≤ next))

pub own_put : (which : Fid → Option ℕ) (t : Tables) (c n : ℕ) (v : Fid) (bound next : ℕ) → bound ≤ next
    → ((o : ℕ) → which v ≡ Some o → IsItsOpening which t c n bound next o)
    → AreOwn which t bound → AreOwn which (after_put t c n v) next
own_put which t c n v bound next more from own = record {
  one = λ x y e f o i j g h. both x y e f o g h (put_has t c n v x e i) (put_has t c n v y f j);
  low = λ x e o i g. first x e o g (put_has t c n v x e i);
}
  where
    with_old : (y : ℕ) (f : ℕ × Fid) (o : ℕ) → IsItsOpening which t c n bound next o → Has t y f → which f.1 ≡ Some o
        → (c ≡ y) × (n ≡ f.0)
    with_old y f o (inl s) j h = own.one c y (numbered_fid n s.0) f o (fid_has t c n s.0 s.1) j s.2 h
    with_old y f o (inr s) j h = let low : o ≤ bound = own.low y f o j h in let new : o ≡ bound + 1 = s.0 in
        absurd (omega (arith, low, new))

    both : (x y : ℕ) (e f : ℕ × Fid) (o : ℕ) → which e.1 ≡ Some o → which f.1 ≡ Some o → Has t x e
        ⊎ ((x ≡ c) × (e ≡ numbered_fid n v)) → Has t y f ⊎ ((y ≡ c) × (f ≡ numbered_fid n v)) → (x ≡ y) × (e.0 ≡ f.0)
    both x y e f o g h (inl i) (inl j) = own.one x y e f o i j g h
    both x y e f o g h (inl i) (inr j) =
        let k : (c ≡ x) × (n ≡ e.0) = with_old x e o (from o (ap (λ (z : ℕ × Fid). which z.1) (sym j.1) ∙ h)) i g in
        (sym k.0 ∙ sym j.0, sym k.1 ∙ ap (λ (z : ℕ × Fid). z.0) (sym j.1))
    both x y e f o g h (inr i) (inl j) =
        let k : (c ≡ y) × (n ≡ f.0) = with_old y f o (from o (ap (λ (z : ℕ × Fid). which z.1) (sym i.1) ∙ g)) j h in
        (i.0 ∙ k.0, ap (λ (z : ℕ × Fid). z.0) i.1 ∙ k.1)
    both x y e f o g h (inr i) (inr j) = (
      i.0 ∙ sym j.0,
      ap (λ (z : ℕ × Fid). z.0) i.1
          ∙ ap (λ (z : ℕ × Fid). z.0) (sym j.1),
    )

    within : (o : ℕ) → IsItsOpening which t c n bound next o → o ≤ next
    within o (inl s) = let k : o ≤ bound = own.low c (numbered_fid n s.0) o (fid_has t c n s.0 s.1) s.2 in
        omega (arith, k, more)
    within o (inr s) = s.1

    first : (x : ℕ) (e : ℕ × Fid) (o : ℕ) → which e.1 ≡ Some o → Has t x e ⊎ ((x ≡ c) × (e ≡ numbered_fid n v))
        → o ≤ next
    first x e o g (inl i) = let k : o ≤ bound = own.low x e o i g in omega (arith, k, more)
    first x e o g (inr i) = within o (from o (ap (λ (z : ℕ × Fid). which z.1) (sym i.1) ∙ g))

-- ---- an opening of an event file is one of its window

abbrev pub AreOfWindows : List ℕ → Tables → Type 0
AreOfWindows owners t = (c : ℕ) (e : ℕ × Fid) (w o : ℕ) → Has t c e → e.1.node ≡ node.File w file.Event
    → e.1.opening ≡ Some o → owner_of owners o ≡ Some w

pushed : (owners : List ℕ) (v k w : ℕ) → slice_get owners k ≡ Some w → slice_get (owners ++ v ∷ []) k ≡ Some w
pushed [] v k w h = absurd cc
pushed (x ∷ owners) v zero w h = h
pushed (x ∷ owners) v (suc k) w h = pushed owners v k w h

pub owner_pushed : (owners : List ℕ) (v o w : ℕ) → owner_of owners o ≡ Some w → owner_of (owners ++ v ∷ []) o ≡ Some w
owner_pushed owners v zero w h = absurd cc
owner_pushed owners v (suc k) w h = pushed owners v k w h

last_is : (owners : List ℕ) (v : ℕ) → slice_get (owners ++ v ∷ []) (length owners) ≡ Some v
last_is [] v = refl
last_is (x ∷ owners) v = last_is owners v

pub owner_last : (owners : List ℕ) (v o : ℕ) → o ≡ length owners + 1 → owner_of (owners ++ v ∷ []) o ≡ Some v
owner_last owners v o h =
    let next : o ≡ suc (length owners) = omega (arith, h) in
    ap (owner_of (owners ++ v ∷ [])) next ∙ last_is owners v

-- ---- the fid of a read that waits

-- it has an opening of this number, of a kind of file whose reads wait
abbrev pub IsRead : Fid → ℕ → Type 0
IsRead fid opening = (event_opening fid ≡ Some opening)
    ⊎ ((port_opening fid ≡ Some opening) ⊎ ((file : WatchFile) × (watch_opening fid ≡ Some (on file opening))))

pub record IsFed (t : Tables) (w : Waiting) : Type 0 where
  pub fid : Fid
  pub is : fid_of t w.conn w.fid ≡ Some fid
  pub opening : ℕ
  pub opens : IsRead fid opening

pub fed_same : (t u : Tables) (w : Waiting) → fid_of u w.conn w.fid ≡ fid_of t w.conn w.fid → IsFed t w → IsFed u w
fed_same t u w same fed = record { fid = fed.fid; is = same ∙ fed.is; opening = fed.opening; opens = fed.opens }

put_there : (n : ℕ) (v f : Fid) (o : Option Session) → lookup (nat_eq n) (fids_in o) ≡ Some f
    → lookup (nat_eq n) (fids_in (option_map (put_in n v) o)) ≡ Some v
put_there n v f None e = absurd cc
put_there n v f (Some s) e = lookup_put s.fids n v

put_at : (t : Tables) (c n : ℕ) (v f : Fid) → fid_of t c n ≡ Some f → fid_of (after_put t c n v) c n ≡ Some v
put_at t c n v f h = ap (λ (o : Option Session). lookup (nat_eq n) (fids_in o))
    (find_changed (put_in n v) (λ s. refl) t.sessions c) ∙ put_there n v f (find (is_session c) t.sessions) h

-- it has the opening and the node of the one that is looked up there before
abbrev pub IsAlike : Option Fid → Option Fid → Type 0
IsAlike None new = new ≡ None
IsAlike (Some f) new = (g : Fid) × (new ≡ Some g) × (g.opening ≡ f.opening) × (g.node ≡ f.node)

pub put_alike : (t : Tables) (c n : ℕ) (v : Fid) → ((f : Fid) (o : ℕ) → fid_of t c n ≡ Some f → f.opening ≡ Some o
    → (v.opening ≡ Some o) × (v.node ≡ f.node))
    → (x m : ℕ) (f : Fid) (o : ℕ) → fid_of t x m ≡ Some f → f.opening ≡ Some o
    → IsAlike (Some f) (fid_of (after_put t c n v) x m)
put_alike t c n v keeps x m f o is opens = by (eqb x c) refl
  where
    here : (k : ℕ) → fid_of t c k ≡ Some f → (b : Bool) → eqb k n ≡ b → IsAlike (Some f)
        (fid_of (after_put t c n v) c k)
    here k was true g =
        let at : k ≡ n = eqb-true k n g in
        let old : fid_of t c n ≡ Some f = subst (λ (z : ℕ). fid_of t c z ≡ Some f) at was in
        let same : (v.opening ≡ Some o) × (v.node ≡ f.node) = keeps f o old opens in (
          v,
          subst (λ (z : ℕ). fid_of (after_put t c n v) c z ≡ Some v) (sym at) (put_at t c n v f old),
          same.0 ∙ sym opens,
          same.1,
        )
    here k was false g = (f, leaves.put_number t c n k v (eqb-false k n g) ∙ was, refl, refl)

    by : (b : Bool) → eqb x c ≡ b → IsAlike (Some f) (fid_of (after_put t c n v) x m)
    by true g =
        let at : x ≡ c = eqb-true x c g in
        subst (λ (z : ℕ). IsAlike (Some f) (fid_of (after_put t c n v) z m)) (sym at)
        (here m (subst (λ (z : ℕ). fid_of t z m ≡ Some f) at is) (eqb m n) refl)
    by false g = (f, ap (lookup (nat_eq m)) (leaves.put_conn t c n x v (eqb-false x c g)) ∙ is, refl, refl)

-- Fids of all connections, and what each change of them leaves.
use Rattle.std.proofs.Common.{◌≡◌, ◌≢◌, ℕ, Bool, true, false, cond, eqb, List, [], ◌∷◌, find, nat_eq, Option, Some}
use Rattle.std.proofs.Common.{None, option_map, refl, sym, ap, subst, ◌∙◌}
use Rattle.std.specs.Map.{lookup}
use Rattle.std.specs.Option.{option_or}
use Rattle.std.proofs.lemmas.Bool.{eqb-true, eqb-false}
use Rattle.std.proofs.lemmas.List.Folds.{find-append}
use Rattle.fid_table.specs.declared.types.Fid.{Fid}
use Rattle.fid_table.specs.declared.session.Session.{Session}
use Rattle.am_journal.specs.declared.event.Format.{Format}
use Rattle.fid_table.specs.Tables.{Tables, nothing, is_session, fids_in, fids_of, fid_of, put_in, after_join, after_put}
use Rattle.fid_table.specs.Tables.{after_take, after_version}
use Rattle.fid_table.proofs.FidLemmas.{lookup_put}
use Rattle.fid_table.proofs.LawLemmas.{forgets, leaves, drops}
use Rattle.fid_table.proofs.PlaceLemmas.{find_changed}
use Rattle.wait_queue.specs.declared.types.Asker.{Asker}

-- each fid in use is such a one
pub AllFids : (ℕ → Fid → Type 0) → Tables → Type 0
AllFids Q t = (conn number : ℕ) (f : Fid) → fid_of t conn number ≡ Some f → Q conn f

-- the read is one of an opening that a fid of its connection has, of an event file or of a port
pub record IsHeld (which : Fid → Option ℕ) (t : Tables) (r : Asker) : Type 0 where
  pub number : ℕ
  pub fid : Fid
  pub is : fid_of t r.conn number ≡ Some fid
  pub opens : which fid ≡ Some r.opening

none_some : {A : Type 0} (o : Option A) (a : A) → o ≡ None → o ≡ Some a → ⊥
none_some o a n h = let e : None ≡ Some a = sym n ∙ h in absurd cc

same_some : {A : Type 0} (o : Option A) (a b : A) → o ≡ Some a → o ≡ Some b → a ≡ b
same_some o a b g h = let e : Some a ≡ Some b = sym g ∙ h in cc

pub fids_weaker : (Q R : ℕ → Fid → Type 0) (t : Tables) → ((conn : ℕ) (f : Fid) → Q conn f → R conn f) → AllFids Q t
    → AllFids R t
unfolding AllFids
fids_weaker Q R t h all conn number f e = h conn f (all conn number f e)

pub fids_at : (Q : ℕ → Fid → Type 0) (t : Tables) (conn number : ℕ) (f : Fid) → AllFids Q t
    → fid_of t conn number ≡ Some f → Q conn f
unfolding AllFids
fids_at Q t conn number f all e = all conn number f e

pub no_fids : (format : Format) (Q : ℕ → Fid → Type 0) → AllFids Q (nothing format)
unfolding AllFids
no_fids format Q conn number f e = absurd cc

-- ---- a connection joins

joined_fids : (n : Session) (b : Bool) (o : Option Session) → fids_in (Some n) ≡ []
    → fids_in (option_or o (cond b (Some n) None)) ≡ fids_in o
joined_fids n true None e = e
joined_fids n false None e = refl
joined_fids n true (Some s) e = refl
joined_fids n false (Some s) e = refl

pub fids_joined : (t : Tables) (c x : ℕ) → fids_of (after_join t c) x ≡ fids_of t x
fids_joined t c x =
    let n : Session = record { conn = c; msize = None; fids = [] } in
    ap fids_in (find-append (is_session x) t.sessions (n ∷ [])) ∙ joined_fids n (eqb c x)
    (find (is_session x) t.sessions) refl

pub fids_join : (Q : ℕ → Fid → Type 0) (t : Tables) (c : ℕ) → AllFids Q t → AllFids Q (after_join t c)
unfolding AllFids
fids_join Q t c all conn number f e = all conn number f (ap (lookup (nat_eq number)) (sym (fids_joined t c conn)) ∙ e)

-- ---- a fid is put

put_is : (number : ℕ) (value f : Fid) (o : Option Session) → lookup (nat_eq number)
    (fids_in (option_map (put_in number value) o)) ≡ Some f → f ≡ value
put_is number value f None e = absurd cc
put_is number value f (Some s) e = same_some (lookup (nat_eq number) (fids_in (Some (put_in number value s)))) f value e
    (lookup_put s.fids number value)

put_one : (t : Tables) (conn number : ℕ) (value f : Fid) → fid_of (after_put t conn number value) conn number ≡ Some f
    → f ≡ value
put_one t conn number value f e =
    put_is number value f (find (is_session conn) t.sessions)
    (ap (λ (o : Option Session). lookup (nat_eq number) (fids_in o))
    (sym (find_changed (put_in number value) (λ s. refl) t.sessions conn)) ∙ e)

pub fids_put : (Q : ℕ → Fid → Type 0) (t : Tables) (c n : ℕ) (value : Fid) → Q c value → AllFids Q t
    → AllFids Q (after_put t c n value)
unfolding AllFids
fids_put Q t c n value own all conn number f e =
    elim (eqb conn c) as (λ b. eqb conn c ≡ b → Q conn f) [
      | true ↦ λ same. let at : conn ≡ c = eqb-true conn c same in
          elim (eqb number n) as (λ b. eqb number n ≡ b → Q conn f) [
            | true ↦ λ there. let on : number ≡ n = eqb-true number n there in
                let is : f ≡ value = put_one t c n value f (subst (λ (k : ℕ). fid_of (after_put t c n value) c
                k ≡ Some f) on
                (subst (λ (x : ℕ). fid_of (after_put t c n value) x number ≡ Some f) at e)) in
                subst (λ (x : ℕ). Q x f) (sym at) (subst (Q c) (sym is) own)
            | false ↦ λ apart. let off : number ≢ n = eqb-false number n apart in
                all conn number f (subst (λ (x : ℕ). fid_of t x number ≡ Some f) (sym at)
                (sym (leaves.put_number t c n number value off) ∙ subst
                (λ (x : ℕ). fid_of (after_put t c n value) x number ≡ Some f) at e))
          ] refl
      | false ↦ λ apart. let off : conn ≢ c = eqb-false conn c apart in
          all conn number f (ap (lookup (nat_eq number)) (sym (leaves.put_conn t c n conn value off)) ∙ e)
    ] refl

-- ---- a fid is taken, and all of a connection are

pub fids_take : (Q : ℕ → Fid → Type 0) (t : Tables) (c n : ℕ) → AllFids Q t → AllFids Q (after_take t c n)
unfolding AllFids
fids_take Q t c n all conn number f e =
    elim (eqb conn c) as (λ b. eqb conn c ≡ b → Q conn f) [
      | true ↦ λ same. let at : conn ≡ c = eqb-true conn c same in
          let here : fid_of (after_take t c n) c number ≡ Some f =
          subst (λ (x : ℕ). fid_of (after_take t c n) x number ≡ Some f) at e in
          elim (eqb number n) as (λ b. eqb number n ≡ b → Q conn f) [
            | true ↦ λ there. let on : number ≡ n = eqb-true number n there in
                absurd (none_some (fid_of (after_take t c n) c n) f (forgets t c n)
                (subst (λ (k : ℕ). fid_of (after_take t c n) c k ≡ Some f) on here))
            | false ↦ λ apart. let off : number ≢ n = eqb-false number n apart in
                all conn number f (subst (λ (x : ℕ). fid_of t x number ≡ Some f) (sym at)
                (sym (leaves.take_number t c n number off) ∙ here))
          ] refl
      | false ↦ λ apart. let off : conn ≢ c = eqb-false conn c apart in
          all conn number f (ap (lookup (nat_eq number)) (sym (leaves.take_conn t c n conn off)) ∙ e)
    ] refl

-- no fid of the connection is left, and each of another was there
pub fids_version : (Q R : ℕ → Fid → Type 0) (t : Tables) (c : ℕ) (msize : Option ℕ)
    → ((conn : ℕ) (f : Fid) → conn ≢ c → Q conn f → R conn f) → AllFids Q t → AllFids R (after_version t c msize)
unfolding AllFids
fids_version Q R t c msize more all conn number f e =
    elim (eqb conn c) as (λ b. eqb conn c ≡ b → R conn f) [
      | true ↦ λ same. let at : conn ≡ c = eqb-true conn c same in
          absurd (none_some (fid_of (after_version t c msize) c number) f
          (ap (lookup (nat_eq number)) (drops.fids t c msize))
          (subst (λ (x : ℕ). fid_of (after_version t c msize) x number ≡ Some f) at e))
      | false ↦ λ apart. let off : conn ≢ c = eqb-false conn c apart in
          more conn f off (all conn number f (ap (lookup (nat_eq number)) (sym (drops.other_fids t c conn msize off))
          ∙ e))
    ] refl

-- ---- reads stay held

pub held_join : (which : Fid → Option ℕ) (t : Tables) (c : ℕ) (r : Asker) → IsHeld which t r
    → IsHeld which (after_join t c) r
held_join which t c r h = record {
  number = h.number;
  fid = h.fid;
  is = ap (lookup (nat_eq h.number)) (fids_joined t c r.conn) ∙ h.is;
  opens = h.opens;
}

-- where the fid that is put has the opening of the one in whose place it stands
put_there : (number : ℕ) (value f : Fid) (o : Option Session) → lookup (nat_eq number) (fids_in o) ≡ Some f
    → lookup (nat_eq number) (fids_in (option_map (put_in number value) o)) ≡ Some value
put_there number value f None e = absurd cc
put_there number value f (Some s) e = lookup_put s.fids number value

pub held_put : (which : Fid → Option ℕ) (t : Tables) (c n : ℕ) (value : Fid) (r : Asker)
    → ((f : Fid) (o : ℕ) → fid_of t c n ≡ Some f → which f ≡ Some o → which value ≡ Some o)
    → IsHeld which t r → IsHeld which (after_put t c n value) r
held_put which t c n value r keeps h =
    elim (eqb r.conn c) as (λ b. eqb r.conn c ≡ b → IsHeld which (after_put t c n value) r) [
      | true ↦ λ same. let at : r.conn ≡ c = eqb-true r.conn c same in
          let was : fid_of t c h.number ≡ Some h.fid = subst (λ (x : ℕ). fid_of t x h.number ≡ Some h.fid) at h.is in
          elim (eqb h.number n) as (λ b. eqb h.number n ≡ b → IsHeld which (after_put t c n value) r) [
            | true ↦ λ there. let on : h.number ≡ n = eqb-true h.number n there in
                let old : fid_of t c n ≡ Some h.fid = subst (λ (k : ℕ). fid_of t c k ≡ Some h.fid) on was in
                record {
                  number = n;
                  fid = value;
                  is = subst (λ (x : ℕ). fid_of (after_put t c n value) x n ≡ Some value) (sym at)
                      (ap (λ (o : Option Session). lookup (nat_eq n) (fids_in o))
                      (find_changed (put_in n value) (λ s. refl) t.sessions c)
                      ∙ put_there n value h.fid (find (is_session c) t.sessions) old);
                  opens = keeps h.fid r.opening old h.opens;
                }
            | false ↦ λ apart. let off : h.number ≢ n = eqb-false h.number n apart in
                record {
                  number = h.number;
                  fid = h.fid;
                  is = subst (λ (x : ℕ). fid_of (after_put t c n value) x h.number ≡ Some h.fid) (sym at)
                      (leaves.put_number t c n h.number value off ∙ was);
                  opens = h.opens;
                }
          ] refl
      | false ↦ λ apart. let off : r.conn ≢ c = eqb-false r.conn c apart in
          record {
            number = h.number;
            fid = h.fid;
            is = ap (lookup (nat_eq h.number)) (leaves.put_conn t c n r.conn value off) ∙ h.is;
            opens = h.opens;
          }
    ] refl

-- where the fid that is taken doesn't have the read's opening
pub held_take : (which : Fid → Option ℕ) (t : Tables) (c n : ℕ) (r : Asker)
    → ((f : Fid) → r.conn ≡ c → fid_of t c n ≡ Some f → which f ≡ Some r.opening → ⊥)
    → IsHeld which t r → IsHeld which (after_take t c n) r
held_take which t c n r none h =
    elim (eqb r.conn c) as (λ b. eqb r.conn c ≡ b → IsHeld which (after_take t c n) r) [
      | true ↦ λ same. let at : r.conn ≡ c = eqb-true r.conn c same in
          let was : fid_of t c h.number ≡ Some h.fid = subst (λ (x : ℕ). fid_of t x h.number ≡ Some h.fid) at h.is in
          elim (eqb h.number n) as (λ b. eqb h.number n ≡ b → IsHeld which (after_take t c n) r) [
            | true ↦ λ there. let on : h.number ≡ n = eqb-true h.number n there in
                absurd (none h.fid at (subst (λ (k : ℕ). fid_of t c k ≡ Some h.fid) on was) h.opens)
            | false ↦ λ apart. let off : h.number ≢ n = eqb-false h.number n apart in
                record {
                  number = h.number;
                  fid = h.fid;
                  is = subst (λ (x : ℕ). fid_of (after_take t c n) x h.number ≡ Some h.fid) (sym at)
                      (leaves.take_number t c n h.number off ∙ was);
                  opens = h.opens;
                }
          ] refl
      | false ↦ λ apart. let off : r.conn ≢ c = eqb-false r.conn c apart in
          record {
            number = h.number;
            fid = h.fid;
            is = ap (lookup (nat_eq h.number)) (leaves.take_conn t c n r.conn off) ∙ h.is;
            opens = h.opens;
          }
    ] refl

-- where none of the fids that are freed has the read's opening
pub held_version : (which : Fid → Option ℕ) (t : Tables) (c : ℕ) (msize : Option ℕ) (r : Asker)
    → ((number : ℕ) (f : Fid) → r.conn ≡ c → lookup (nat_eq number) (fids_of t c) ≡ Some f → which f ≡ Some r.opening
    → ⊥)
    → IsHeld which t r → (r.conn ≢ c) × IsHeld which (after_version t c msize) r
held_version which t c msize r none h =
    elim (eqb r.conn c) as (λ b. eqb r.conn c ≡ b → (r.conn ≢ c) × IsHeld which (after_version t c msize) r) [
      | true ↦ λ same. let at : r.conn ≡ c = eqb-true r.conn c same in
          absurd (none h.number h.fid at (subst (λ (x : ℕ). fid_of t x h.number ≡ Some h.fid) at h.is) h.opens)
      | false ↦ λ apart. let off : r.conn ≢ c = eqb-false r.conn c apart in (
        off,
        record {
          number = h.number;
          fid = h.fid;
          is = ap (lookup (nat_eq h.number)) (drops.other_fids t c r.conn msize off) ∙ h.is;
          opens = h.opens;
        },
      )
    ] refl

-- ---- where the sessions are the same

pub fids_same : (Q : ℕ → Fid → Type 0) (t u : Tables) → u.sessions ≡ t.sessions → AllFids Q t → AllFids Q u
unfolding AllFids
fids_same Q t u same all conn number f e =
    all conn number f (ap (λ (ss : List Session). lookup (nat_eq number) (fids_in (find (is_session conn) ss)))
    (sym same) ∙ e)

pub held_same : (which : Fid → Option ℕ) (t u : Tables) (r : Asker) → u.sessions ≡ t.sessions → IsHeld which t r
    → IsHeld which u r
held_same which t u r same h = record {
  number = h.number;
  fid = h.fid;
  is = ap (λ (ss : List Session). lookup (nat_eq h.number) (fids_in (find (is_session r.conn) ss))) same ∙ h.is;
  opens = h.opens;
}

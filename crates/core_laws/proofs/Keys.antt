-- A read that waits by its fid, and the same by its opening; and reads of files of two kinds.
use Rattle.std.proofs.Common.{◌≡◌, inl, inr, ℕ, Bool, true, false, eqb, List, map, unwrap_or, Option, Some, None, refl}
use Rattle.std.proofs.Common.{sym, ap, subst, ◌∙◌, arith}
use Rattle.std.specs.List.{list_any}
use Rattle.std.proofs.lemmas.Bool.{eqb-true, eqb-false, and_parts, both_ways, false_from_ne_true}
use Rattle.std.proofs.lemmas.Bool.Decides.{nat_tests}
use Rattle.acme_tree.specs.declared.node.Node.TheVariants as node
use Rattle.acme_tree.specs.declared.node.WinFile.TheVariants as file
use Rattle.acme_watch.specs.declared.types.WatchRead.{WatchRead}
use Rattle.fid_table.specs.declared.types.Fid.{Fid}
use Rattle.fid_table.specs.declared.session.Waiting.{Waiting}
use Rattle.fid_table.specs.Tables.{Tables, fid_of, fids_of}
use Rattle.wait_queue.specs.Reads.{is_on}
use Rattle.wait_queue.specs.declared.types.Asker.{Asker}
use Rattle.event_book.specs.BookState.{owner_of, is_on_window}
use Rattle.core_fids.specs.declared.effect.WatchOpening.{WatchOpening}
use Rattle.core_fids.specs.Fids.{event_opening, port_opening, watch_opening}
use Rattle.core_events.specs.Waits.{is_of_fid, is_event_of, reads_event_of, is_of_window}
use Rattle.core_laws.specs.Waits.{WaitingRead, told, watch_told, opening_by, reads_in, AreApart}
use Rattle.core_laws.proofs.FileKinds.{on, watch_number, has_number, number_by, event_node, port_at, watch_node}
use Rattle.core_laws.proofs.FileKinds.{of_event}
use Rattle.core_laws.proofs.Lists.{IsIn, any_in, which_any}
use Rattle.core_laws.proofs.Zips.{HasWaiting, asker_waits, apart_same, has_key, same_key, key_parts}
use Rattle.core_laws.proofs.Holders.{Has, numbered_fid, fid_has, AreOwn, AreOfWindows}
use Rattle.core_laws.proofs.Staying.{is_there, there_is, is_of_one}

-- where the fid that is looked up has such an opening
looked : {O : Type 0} (which : Fid → Option O) (o : Option Fid) (x : O) → opening_by which o ≡ Some x → (f : Fid)
    × (o ≡ Some f) × (which f ≡ Some x)
looked which None x h = absurd cc
looked which (Some f) x h = (f, refl, h)

-- a read of `log` or `jobs` as one of its file alone
pub in_its_file : (t : Tables) (ws : List Waiting) (r : WatchRead) → HasWaiting watch_opening t ws (watch_told r)
    → HasWaiting (watch_number r.file) t ws (told r.asker)
in_its_file t ws r h =
    let fid : Option Fid = fid_of t h.waiting.conn h.waiting.fid in
    record {
      waiting = h.waiting;
      there = h.there;
      conn = h.conn;
      tag = h.tag;
      opens = number_by r.file fid ∙ has_number (opening_by watch_opening fid) (on r.file r.asker.opening) h.opens;
    }

-- ---- the same read by its fid and by its opening

module _ (which : Fid → Option ℕ) (t : Tables) (ws : List Waiting) (bound : ℕ) (own : AreOwn which t bound) (r : Asker)
    (h : HasWaiting which t ws (told r)) where
  holder : (f : Fid) × (fid_of t h.waiting.conn h.waiting.fid ≡ Some f) × (which f ≡ Some r.opening)
  holder = looked which (fid_of t h.waiting.conn h.waiting.fid) r.opening h.opens

  -- a fid with its opening is its fid
  same_fid : (conn : ℕ) (e : ℕ × Fid) → Has t conn e → which e.1 ≡ Some r.opening → (conn ≡ h.waiting.conn)
      × (e.0 ≡ h.waiting.fid)
  same_fid conn e i g =
      let f = holder in own.one conn h.waiting.conn e (numbered_fid h.waiting.fid f.0) r.opening i
      (fid_has t h.waiting.conn h.waiting.fid f.0 f.1) g f.2

  on_itself : is_on r.opening r ≡ true
  on_itself = grind (arith, nat_tests)

  -- one fid is freed
  pub by_fid : (conn n : ℕ) → is_of_fid conn n h.waiting ≡ is_there (opening_by which (fid_of t conn n)) r
  by_fid conn n = by (is_of_fid conn n h.waiting) refl
    where
      by : (b : Bool) → is_of_fid conn n h.waiting ≡ b → b ≡ is_there (opening_by which (fid_of t conn n)) r
      by true e =
          let parts : (eqb h.waiting.conn conn ≡ true) × (eqb h.waiting.fid n ≡ true) =
          and_parts (eqb h.waiting.conn conn) (eqb h.waiting.fid n) e in
          let here : opening_by which (fid_of t conn n) ≡ Some r.opening =
          subst (λ (c : ℕ). opening_by which (fid_of t c n) ≡ Some r.opening) (eqb-true h.waiting.conn conn parts.0)
          (subst (λ (m : ℕ). opening_by which (fid_of t h.waiting.conn m) ≡ Some r.opening)
          (eqb-true h.waiting.fid n parts.1) h.opens)
          in
          sym (ap (λ (o : Option ℕ). is_there o r) here ∙ on_itself)
      by false e =
          sym (false_from_ne_true (is_there (opening_by which (fid_of t conn n)) r) (λ k.
          let f = looked which (fid_of t conn n) r.opening (there_is (opening_by which (fid_of t conn n)) r k) in
          let same = same_fid conn (numbered_fid n f.0) (fid_has t conn n f.0 f.1) f.2 in
          both_ways (is_of_fid conn n h.waiting) e (same_key h.waiting.conn h.waiting.fid conn n (sym same.0)
          (sym same.1))))

  -- all fids of a connection are
  pub by_conn : (conn : ℕ) → eqb r.conn conn ≡ is_of_one which (fids_of t conn) r
  by_conn conn = by (eqb r.conn conn) refl
    where
      by : (b : Bool) → eqb r.conn conn ≡ b → b ≡ is_of_one which (fids_of t conn) r
      by true e =
          let f = holder in
          let at : h.waiting.conn ≡ conn = h.conn ∙ eqb-true r.conn conn e in
          let i : Has t conn (numbered_fid h.waiting.fid f.0) = subst
          (λ (c : ℕ). Has t c (numbered_fid h.waiting.fid f.0)) at
          (fid_has t h.waiting.conn h.waiting.fid f.0 f.1) in
          sym (any_in (λ (g : ℕ × Fid). is_there (which g.1) r) (fids_of t conn) (numbered_fid h.waiting.fid f.0) i
          (ap (λ (o : Option ℕ). is_there o r) f.2 ∙ on_itself))
      by false e =
          sym (false_from_ne_true (is_of_one which (fids_of t conn) r) (λ k.
          let x = which_any (λ (g : ℕ × Fid). is_there (which g.1) r) (fids_of t conn) k in
          let same = same_fid conn x.0 x.1 (there_is (which x.0.1) r x.2) in
          eqb-false r.conn conn e (sym h.conn ∙ sym same.0)))

-- a window is deleted
module _ (t : Tables) (owners : List ℕ) (windows : AreOfWindows owners t) where
  pub by_window : (ws : List Waiting) (r : Asker) (h : HasWaiting event_opening t ws (told r)) (v : ℕ)
      → is_of_window t v h.waiting ≡ is_on_window owners v r
  by_window ws r h v =
      let f = looked event_opening (fid_of t h.waiting.conn h.waiting.fid) r.opening h.opens in
      let at : (w : ℕ) × (f.0.node ≡ node.File w file.Event) = event_node f.0.node f.0.opening r.opening f.2 in
      let own : owner_of owners r.opening ≡ Some at.0 =
      windows h.waiting.conn (numbered_fid h.waiting.fid f.0) at.0 r.opening
      (fid_has t h.waiting.conn h.waiting.fid f.0 f.1) at.1 (of_event f.0.node f.0.opening r.opening f.2)
      in
      ap (reads_event_of v) f.1 ∙ ap (is_event_of v) at.1 ∙ sym (ap (λ (o : Option ℕ). eqb (unwrap_or o 0) v) own)

pub by_no_window : {O : Type 0} (which : Fid → Option O) (other : (f : Fid) (x : O) → which f ≡ Some x → (v : ℕ)
    → is_event_of v f.node ≡ false) (t : Tables) (ws : List Waiting) (x : WaitingRead O) (h : HasWaiting which t ws x)
    (v : ℕ) → is_of_window t v h.waiting ≡ false
by_no_window which other t ws x h v =
    let f = looked which (fid_of t h.waiting.conn h.waiting.fid) x.opening h.opens in
    ap (reads_event_of v) f.1 ∙ other f.0 x.opening f.2 v

pub port_no_window : (f : Fid) (x : ℕ) → port_opening f ≡ Some x → (v : ℕ) → is_event_of v f.node ≡ false
port_no_window f x h v = ap (is_event_of v) (port_at f.node f.opening x h).1

pub watch_no_window : (f : Fid) (x : WatchOpening) → watch_opening f ≡ Some x → (v : ℕ) → is_event_of v f.node ≡ false
watch_no_window f x h v =
    elim (watch_node f.node f.opening x h) as (λ z. is_event_of v f.node ≡ false) [
      | inl at ↦ ap (is_event_of v) at
      | inr at ↦ ap (is_event_of v) at
    ]

-- ---- reads of files of two kinds

-- no fid has openings of both
module _ {O P A B : Type 0} (tells : A → WaitingRead O) (says : B → WaitingRead P) (which : Fid → Option O)
    (other : Fid → Option P) (one_kind : (f : Fid) (a : O) (b : P) → which f ≡ Some a → other f ≡ Some b → ⊥)
    (t : Tables)
    (apart : AreApart t.waiting) (rs : List A) (xs : List B) (same : reads_in which t t.waiting ≡ map tells rs)
    (alike : reads_in other t t.waiting ≡ map says xs) where
  two_keys : (r : A) (x : B) → IsIn rs r → IsIn xs x → (tells r).conn ≡ (says x).conn → (tells r).tag ≡ (says x).tag
      → ⊥
  two_keys r x i j c g =
      let a : HasWaiting which t t.waiting (tells r) = asker_waits which t tells t.waiting rs same r i in
      let b : HasWaiting other t t.waiting (says x) = asker_waits other t says t.waiting xs alike x j in
      let one : a.waiting ≡ b.waiting = apart_same t.waiting a.waiting b.waiting apart a.there b.there
      (a.conn ∙ c ∙ sym b.conn) (a.tag ∙ g ∙ sym b.tag) in
      let f = looked which (fid_of t a.waiting.conn a.waiting.fid) (tells r).opening a.opens in
      let p = looked other (fid_of t b.waiting.conn b.waiting.fid) (says x).opening b.opens in
      let both : Some f.0 ≡ Some p.0 = sym f.1 ∙ ap (λ (w : Waiting). fid_of t w.conn w.fid) one ∙ p.1 in
      let fid : f.0 ≡ p.0 = cc in
      one_kind p.0 (tells r).opening (says x).opening (ap which (sym fid) ∙ f.2) p.2

  -- so none of one kind has the key of one of the other
  pub none_keyed : (r : A) → IsIn rs r → list_any (has_key says (tells r).conn (tells r).tag) xs ≡ false
  none_keyed r i =
      false_from_ne_true (list_any (has_key says (tells r).conn (tells r).tag) xs) (λ e.
      let x = which_any (has_key says (tells r).conn (tells r).tag) xs e in
      let key = key_parts (says x.0).conn (says x.0).tag (tells r).conn (tells r).tag x.2 in
      two_keys r x.0 i x.1 (sym key.0) (sym key.1))

  pub none_said : (x : B) → IsIn xs x → list_any (has_key tells (says x).conn (says x).tag) rs ≡ false
  none_said x j =
      false_from_ne_true (list_any (has_key tells (says x).conn (says x).tag) rs) (λ e.
      let r = which_any (has_key tells (says x).conn (says x).tag) rs e in
      let key = key_parts (tells r.0).conn (tells r.0).tag (says x).conn (says x).tag r.2 in
      two_keys r.0 x r.1 j key.0 key.1)

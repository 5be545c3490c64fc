-- The two lists of reads that wait are the same reads, in order: what holds with that, and what each part of a step
-- leaves of it.
use Rattle.std.proofs.Common.{◌≡◌, ◌⊎◌, inl, inr, ℕ, ◌≤◌, Bool, false, List, [], ◌∷◌, ◌++◌, length, map, nat_eq}
use Rattle.std.proofs.Common.{Option, Some, None, refl, sym, ap, subst, ◌∙◌, append-nil}
use Rattle.std.specs.List.{list_any}
use Rattle.std.specs.Map.{lookup}
use Rattle.acme_tree.specs.declared.node.Node.{Node}
use Rattle.acme_tree.specs.declared.node.Node.TheVariants as node
use Rattle.acme_tree.specs.declared.node.WinFile.TheVariants as file
use Rattle.acme_watch.specs.Laws.{count_of}
use Rattle.acme_watch.specs.Watching.{WatchState}
use Rattle.acme_watch.specs.declared.types.OpeningCounts.{OpeningCounts}
use Rattle.acme_watch.specs.declared.types.WatchFile.{WatchFile}
use Rattle.acme_watch.specs.declared.types.WatchRead.{WatchRead}
use Rattle.fid_table.specs.declared.types.Fid.{Fid}
use Rattle.fid_table.specs.declared.session.Waiting.{Waiting}
use Rattle.fid_table.specs.Tables.{Tables, fid_of, is_waiting, after_join, after_put, after_wait}
use Rattle.wait_queue.specs.declared.types.Asker.{Asker}
use Rattle.event_book.specs.BookState.{BookState, owner_of}
use Rattle.plumb_ports.specs.PortsState.{PortsState}
use Rattle.core_fids.specs.Fids.{at_event, at_port, at_watch, event_opening, port_opening, watch_opening}
use Rattle.core_laws.specs.Waits.{WaitingRead, told, watch_told, opening_by, with_read, reads_in, AreApart}
use Rattle.core_laws.proofs.Fids.{fids_joined}
use Rattle.core_laws.proofs.FileKinds.{on, watch_number, event_only, port_only, watch_only, of_event, of_port, of_watch}
use Rattle.core_laws.proofs.Lists.{without, IsIn, in_without, in_push}
use Rattle.core_laws.proofs.Zips.{by_waiting, by_asker, by_follower, zip_without, apart_without, apart_push, reads_same}
use Rattle.core_laws.proofs.Zips.{reads_push}
use Rattle.core_laws.proofs.Holders.{Has, numbered_fid, put_has, join_has, AreFewer, AreOwn, own_fewer, own_more}
use Rattle.core_laws.proofs.Holders.{own_put, IsItsOpening, AreOfWindows, IsRead, IsFed, fed_same, put_alike}

-- the reads that wait on event files, on ports, and on `log` and `jobs`, as these tell them
pub record FileReads : Type 0 where
  pub events : List Asker
  pub ports : List Asker
  pub watch : List WatchRead

-- the windows of all openings of event files, and how many openings there ever were of ports, and of `log` and `jobs`
pub record Openings : Type 0 where
  pub owners : List ℕ
  pub joined : ℕ
  pub counts : OpeningCounts

abbrev pub reads_of : BookState → PortsState → WatchState → FileReads
reads_of b p w = record { events = b.reads; ports = p.reads; watch = w.reads }

abbrev pub openings_of : BookState → PortsState → WatchState → Openings
openings_of b p w = record { owners = b.owners; joined = p.joined; counts = w.opened }

-- The reads of the sessions are these reads of files, and none else; no two have one connection and tag; each opening
-- of these is one fid's, and each of an event file one of its window.
pub record Ties (t : Tables) (r : FileReads) (o : Openings) : Type 0 where
  pub fed : (w : Waiting) → IsIn t.waiting w → IsFed t w
  pub apart : AreApart t.waiting
  pub events : reads_in event_opening t t.waiting ≡ map told r.events
  pub ports : reads_in port_opening t t.waiting ≡ map told r.ports
  pub watch : reads_in watch_opening t t.waiting ≡ map watch_told r.watch
  pub own : AreOwn event_opening t (length o.owners)
  pub port_own : AreOwn port_opening t o.joined
  pub watch_own : (f : WatchFile) → AreOwn (watch_number f) t (count_of o.counts f)
  pub windows : AreOfWindows o.owners t

-- ---- the same reads and openings

-- the same reads
pub record AreReads (r q : FileReads) : Type 0 where
  pub events : q.events ≡ r.events
  pub ports : q.ports ≡ r.ports
  pub watch : q.watch ≡ r.watch

-- the same openings
pub record AreOpenings (o p : Openings) : Type 0 where
  pub owners : p.owners ≡ o.owners
  pub joined : p.joined ≡ o.joined
  pub counts : p.counts ≡ o.counts

abbrev as_reads : List Asker → List Asker → List WatchRead → FileReads
as_reads events ports watch = record { events = events; ports = ports; watch = watch }

abbrev as_openings : List ℕ → ℕ → OpeningCounts → Openings
as_openings owners joined counts = record { owners = owners; joined = joined; counts = counts }

are_reads : (r q : FileReads) → AreReads r q → q ≡ r
are_reads r q h =
    ap (λ (es : List Asker). as_reads es q.ports q.watch) h.events
    ∙ ap (λ (ps : List Asker). as_reads r.events ps q.watch) h.ports
    ∙ ap (λ (ws : List WatchRead). as_reads r.events r.ports ws) h.watch

are_openings : (o p : Openings) → AreOpenings o p → p ≡ o
are_openings o p h =
    ap (λ (l : List ℕ). as_openings l p.joined p.counts) h.owners
    ∙ ap (λ (n : ℕ). as_openings o.owners n p.counts) h.joined
    ∙ ap (λ (c : OpeningCounts). as_openings o.owners o.joined c) h.counts

pub as_ties : (t u : Tables) (r q : FileReads) (o p : Openings) → u ≡ t → AreReads r q → AreOpenings o p → Ties t r o
    → Ties u q p
as_ties t u r q o p same reads openings h =
    subst (λ (x : Tables). Ties x q p) (sym same)
    (subst (λ (x : FileReads). Ties t x p) (sym (are_reads r q reads))
    (subst (λ (x : Openings). Ties t r x) (sym (are_openings o p openings)) h))

-- ---- more openings, and other fids

-- owners with more behind them
abbrev pub KeepOwners : List ℕ → List ℕ → Type 0
KeepOwners owners next = (o w : ℕ) → owner_of owners o ≡ Some w → owner_of next o ≡ Some w

-- openings with more behind them
pub record AreLater (o next : Openings) : Type 0 where
  pub long : length o.owners ≤ length next.owners
  pub keep : KeepOwners o.owners next.owners
  pub joined : o.joined ≤ next.joined
  pub counts : (f : WatchFile) → count_of o.counts f ≤ count_of next.counts f

pub ties_more : (t : Tables) (r : FileReads) (o next : Openings) → AreLater o next → Ties t r o → Ties t r next
ties_more t r o next later h = record {
  fed = h.fed;
  apart = h.apart;
  events = h.events;
  ports = h.ports;
  watch = h.watch;
  own = own_more event_opening t (length o.owners) (length next.owners) later.long h.own;
  port_own = own_more port_opening t o.joined next.joined later.joined h.port_own;
  watch_own = λ f. own_more (watch_number f) t (count_of o.counts f) (count_of next.counts f) (later.counts f)
      (h.watch_own f);
  windows = λ c e w x i n g. later.keep x w (h.windows c e w x i n g);
}

-- the fids of the reads that wait are the same
same_reads : {O : Type 0} (which : Fid → Option O) (t u : Tables) (ws : List Waiting)
    → ((w : Waiting) → IsIn ws w → fid_of u w.conn w.fid ≡ fid_of t w.conn w.fid)
    → reads_in which u ws ≡ reads_in which t ws
same_reads which t u ws same = reads_same which t u ws (λ w i. ap (opening_by which) (same w i))

-- a connection joins
pub ties_join : (t : Tables) (c : ℕ) (r : FileReads) (o : Openings) → Ties t r o → Ties (after_join t c) r o
ties_join t c r o h =
    let u : Tables = after_join t c in
    let same : (w : Waiting) → fid_of u w.conn w.fid ≡ fid_of t w.conn w.fid =
    λ w. ap (lookup (nat_eq w.fid)) (fids_joined t c w.conn) in
    let fewer : AreFewer u t = join_has t c in
    record {
      fed = λ w i. fed_same t u w (same w) (h.fed w i);
      apart = h.apart;
      events = same_reads event_opening t u t.waiting (λ w i. same w) ∙ h.events;
      ports = same_reads port_opening t u t.waiting (λ w i. same w) ∙ h.ports;
      watch = same_reads watch_opening t u t.waiting (λ w i. same w) ∙ h.watch;
      own = own_fewer event_opening t u (length o.owners) fewer h.own;
      port_own = own_fewer port_opening t u o.joined fewer h.port_own;
      watch_own = λ f. own_fewer (watch_number f) t u (count_of o.counts f) fewer (h.watch_own f);
      windows = λ x e w n i k g. h.windows x e w n (fewer x e i) k g;
    }

-- ---- a fid is put

-- what is put has the opening and the node of the one in its place, where that has an opening
abbrev pub Keeps : Tables → ℕ → ℕ → Fid → Type 0
Keeps t c n v = (f : Fid) (o : ℕ) → fid_of t c n ≡ Some f → f.opening ≡ Some o → (v.opening ≡ Some o)
    × (v.node ≡ f.node)

-- each opening of it is that of the fid in its place, or the next one of its kind, and one of its window
pub record IsNumbered (t : Tables) (c n : ℕ) (v : Fid) (o next : Openings) : Type 0 where
  pub event : (x : ℕ) → event_opening v ≡ Some x
      → IsItsOpening event_opening t c n (length o.owners) (length next.owners) x
  pub port : (x : ℕ) → port_opening v ≡ Some x → IsItsOpening port_opening t c n o.joined next.joined x
  pub watch : (f : WatchFile) (x : ℕ) → watch_number f v ≡ Some x
      → IsItsOpening (watch_number f) t c n (count_of o.counts f) (count_of next.counts f) x
  pub window : (w x : ℕ) → v.node ≡ node.File w file.Event → v.opening ≡ Some x → owner_of next.owners x ≡ Some w

module _ (t : Tables) (c n : ℕ) (v : Fid) (keeps : Keeps t c n v) where
  abbrev u : Tables
  u = after_put t c n v

  its_opening : (f : Fid) (x : ℕ) → IsRead f x → f.opening ≡ Some x
  its_opening f x (inl h) = of_event f.node f.opening x h
  its_opening f x (inr (inl h)) = of_port f.node f.opening x h
  its_opening f x (inr (inr h)) = of_watch f.node f.opening (on h.0 x) h.1

  alike : (w : Waiting) (fed : IsFed t w) → (g : Fid) × (fid_of u w.conn w.fid ≡ Some g) × (g.opening ≡ fed.fid.opening)
      × (g.node ≡ fed.fid.node)
  alike w fed = put_alike t c n v keeps w.conn w.fid fed.fid fed.opening fed.is
      (its_opening fed.fid fed.opening fed.opens)

  -- the same by its node and its opening
  by_parts : {O : Type 0} (at : Node → Option ℕ → Option O) (g f : Fid) → g.opening ≡ f.opening → g.node ≡ f.node
      → at g.node g.opening ≡ at f.node f.opening
  by_parts at g f o k = ap (at g.node) o ∙ ap (λ (m : Node). at m f.opening) k

  put_opening : {O : Type 0} (at : Node → Option ℕ → Option O) (w : Waiting) → IsFed t w
      → opening_by (λ f. at f.node f.opening) (fid_of u w.conn w.fid) ≡ opening_by (λ f. at f.node f.opening)
      (fid_of t w.conn w.fid)
  put_opening at w fed =
      let a = alike w fed in
      ap (opening_by (λ f. at f.node f.opening)) a.1 ∙ by_parts at a.0 fed.fid a.2 a.3
      ∙ ap (opening_by (λ f. at f.node f.opening)) (sym fed.is)

  put_read : (g f : Fid) (x : ℕ) → g.opening ≡ f.opening → g.node ≡ f.node → IsRead f x → IsRead g x
  put_read g f x o k (inl h) = inl (by_parts at_event g f o k ∙ h)
  put_read g f x o k (inr (inl h)) = inr (inl (by_parts at_port g f o k ∙ h))
  put_read g f x o k (inr (inr h)) = inr (inr (h.0, by_parts at_watch g f o k ∙ h.1))

  put_fed : (w : Waiting) → IsFed t w → IsFed u w
  put_fed w fed =
      let a = alike w fed in
      record {
        fid = a.0;
        is = a.1;
        opening = fed.opening;
        opens = put_read a.0 fed.fid fed.opening a.2 a.3 fed.opens;
      }

  pub ties_put : (r : FileReads) (o next : Openings) → AreLater o next → IsNumbered t c n v o next → Ties t r o
      → Ties u r next
  ties_put r o next later from h = record {
    fed = λ w i. put_fed w (h.fed w i);
    apart = h.apart;
    events = reads_same event_opening t u t.waiting (λ w i. put_opening at_event w (h.fed w i)) ∙ h.events;
    ports = reads_same port_opening t u t.waiting (λ w i. put_opening at_port w (h.fed w i)) ∙ h.ports;
    watch = reads_same watch_opening t u t.waiting (λ w i. put_opening at_watch w (h.fed w i)) ∙ h.watch;
    own = own_put event_opening t c n v (length o.owners) (length next.owners) later.long from.event h.own;
    port_own = own_put port_opening t c n v o.joined next.joined later.joined from.port h.port_own;
    watch_own = λ f. own_put (watch_number f) t c n v (count_of o.counts f) (count_of next.counts f) (later.counts f)
        (from.watch f) (h.watch_own f);
    windows = λ x e w y i k g. of_window x e w y k g (put_has t c n v x e i);
  }
    where
      of_window : (x : ℕ) (e : ℕ × Fid) (w y : ℕ) → e.1.node ≡ node.File w file.Event → e.1.opening ≡ Some y → Has t x e
          ⊎ ((x ≡ c) × (e ≡ numbered_fid n v)) → owner_of next.owners y ≡ Some w
      of_window x e w y k g (inl i) = later.keep y w (h.windows x e w y i k g)
      of_window x e w y k g (inr i) = from.window w y (ap (λ (z : ℕ × Fid). z.1.node) (sym i.1) ∙ k)
          (ap (λ (z : ℕ × Fid). z.1.opening) (sym i.1) ∙ g)

-- ---- a read that waits from now on

abbrev new_waiting : ℕ → ℕ → ℕ → Waiting
new_waiting conn tag fid = record { conn = conn; tag = tag; fid = fid }

module _ (t : Tables) (conn tag fid : ℕ) (f : Fid) (is : fid_of t conn fid ≡ Some f) where
  abbrev then_waits : Tables
  then_waits = after_wait t conn tag fid

  abbrev this_read : Waiting
  this_read = new_waiting conn tag fid

  wait_fed : (o : ℕ) → IsRead f o → ((w : Waiting) → IsIn t.waiting w → IsFed t w)
      → (w : Waiting) → IsIn then_waits.waiting w → IsFed then_waits w
  wait_fed o opens all w i =
      elim (in_push t.waiting this_read w i) as (λ k. IsFed then_waits w) [
        | inl j ↦ fed_same t then_waits w refl (all w j)
        | inr e ↦ subst (IsFed then_waits) e (record { fid = f; is = is; opening = o; opens = opens })
      ]

  module _ {O A : Type 0} (tells : A → WaitingRead O) (which : Fid → Option O) where
    told_push : (rs : List A) (r : A) → map tells rs ++ tells r ∷ [] ≡ map tells (rs ++ r ∷ [])
    told_push [] r = refl
    told_push (x ∷ rs) r = ap (λ (l : List (WaitingRead O)). tells x ∷ l) (told_push rs r)

    all_then : reads_in which then_waits then_waits.waiting ≡ reads_in which t t.waiting
        ++ with_read (which f) this_read []
    all_then =
        reads_same which t then_waits (t.waiting ++ this_read ∷ []) (λ v i. refl)
        ∙ reads_push which t t.waiting this_read
        ∙ ap (λ (o : Option Fid). reads_in which t t.waiting ++ with_read (opening_by which o) this_read []) is

    -- it is one of this kind
    pushed : (rs : List A) (r : A) → which f ≡ Some (tells r).opening → conn ≡ (tells r).conn → tag ≡ (tells r).tag
        → reads_in which t t.waiting ≡ map tells rs
        → reads_in which then_waits then_waits.waiting ≡ map tells (rs ++ r ∷ [])
    pushed rs r mine c g same =
        all_then
        ∙ ap (λ (o : Option O). reads_in which t t.waiting ++ with_read o this_read []) mine
        ∙ ap (λ (x : ℕ). reads_in which t t.waiting
        ++ record { conn = x; tag = tag; opening = (tells r).opening } ∷ []) c
        ∙ ap (λ (x : ℕ). reads_in which t t.waiting
        ++ record { conn = (tells r).conn; tag = x; opening = (tells r).opening } ∷ []) g
        ∙ ap (λ (l : List (WaitingRead O)). l ++ tells r ∷ []) same
        ∙ told_push rs r

    -- or of another
    stays : (rs : List A) → which f ≡ None → reads_in which t t.waiting ≡ map tells rs
        → reads_in which then_waits then_waits.waiting ≡ map tells rs
    stays rs other same =
        all_then
        ∙ ap (λ (o : Option O). reads_in which t t.waiting ++ with_read o this_read []) other
        ∙ append-nil (reads_in which t t.waiting)
        ∙ same

-- a read of an event file
pub ties_wait : (t : Tables) (x : Asker) (fid : ℕ) (f : Fid) (r : FileReads) (o : Openings)
    → fid_of t x.conn fid ≡ Some f → event_opening f ≡ Some x.opening
    → list_any (is_waiting x.conn x.tag) t.waiting ≡ false → Ties t r o
    → Ties (after_wait t x.conn x.tag fid) (record r { events = r.events ++ x ∷ [] }) o
ties_wait t x fid f r o is opens none h =
    let others = event_only f x.opening opens in
    record {
      fed = wait_fed t x.conn x.tag fid f is x.opening (inl opens) h.fed;
      apart = apart_push t.waiting (new_waiting x.conn x.tag fid) h.apart none;
      events = pushed t x.conn x.tag fid f is told event_opening r.events x opens refl refl h.events;
      ports = stays t x.conn x.tag fid f is told port_opening r.ports others.0 h.ports;
      watch = stays t x.conn x.tag fid f is watch_told watch_opening r.watch others.1 h.watch;
      own = record { one = h.own.one; low = h.own.low };
      port_own = record { one = h.port_own.one; low = h.port_own.low };
      watch_own = λ g. record { one = (h.watch_own g).one; low = (h.watch_own g).low };
      windows = h.windows;
    }

-- a read of a port
pub ties_wait_port : (t : Tables) (x : Asker) (fid : ℕ) (f : Fid) (r : FileReads) (o : Openings)
    → fid_of t x.conn fid ≡ Some f → port_opening f ≡ Some x.opening
    → list_any (is_waiting x.conn x.tag) t.waiting ≡ false → Ties t r o
    → Ties (after_wait t x.conn x.tag fid) (record r { ports = r.ports ++ x ∷ [] }) o
ties_wait_port t x fid f r o is opens none h =
    let others = port_only f x.opening opens in
    record {
      fed = wait_fed t x.conn x.tag fid f is x.opening (inr (inl opens)) h.fed;
      apart = apart_push t.waiting (new_waiting x.conn x.tag fid) h.apart none;
      events = stays t x.conn x.tag fid f is told event_opening r.events others.0 h.events;
      ports = pushed t x.conn x.tag fid f is told port_opening r.ports x opens refl refl h.ports;
      watch = stays t x.conn x.tag fid f is watch_told watch_opening r.watch others.1 h.watch;
      own = record { one = h.own.one; low = h.own.low };
      port_own = record { one = h.port_own.one; low = h.port_own.low };
      watch_own = λ g. record { one = (h.watch_own g).one; low = (h.watch_own g).low };
      windows = h.windows;
    }

-- a read of `log` or of `jobs`
pub ties_wait_watch : (t : Tables) (x : WatchRead) (fid : ℕ) (f : Fid) (r : FileReads) (o : Openings)
    → fid_of t x.asker.conn fid ≡ Some f → watch_opening f ≡ Some (on x.file x.asker.opening)
    → list_any (is_waiting x.asker.conn x.asker.tag) t.waiting ≡ false → Ties t r o
    → Ties (after_wait t x.asker.conn x.asker.tag fid) (record r { watch = r.watch ++ x ∷ [] }) o
ties_wait_watch t x fid f r o is opens none h =
    let a : Asker = x.asker in
    let others = watch_only f (on x.file a.opening) opens in
    record {
      fed = wait_fed t a.conn a.tag fid f is a.opening (inr (inr (x.file, opens))) h.fed;
      apart = apart_push t.waiting (new_waiting a.conn a.tag fid) h.apart none;
      events = stays t a.conn a.tag fid f is told event_opening r.events others.0 h.events;
      ports = stays t a.conn a.tag fid f is told port_opening r.ports others.1 h.ports;
      watch = pushed t a.conn a.tag fid f is watch_told watch_opening r.watch x opens refl refl h.watch;
      own = record { one = h.own.one; low = h.own.low };
      port_own = record { one = h.port_own.one; low = h.port_own.low };
      watch_own = λ g. record { one = (h.watch_own g).one; low = (h.watch_own g).low };
      windows = h.windows;
    }

-- ---- reads that wait no more

-- these reads without those of these keys
abbrev pub reads_left : (ℕ → ℕ → Bool) → FileReads → FileReads
reads_left K r = record {
  events = without (by_asker K) r.events;
  ports = without (by_asker K) r.ports;
  watch = without (by_follower K) r.watch;
}

-- The sessions' reads without these keys, and those of the files without what has them; the fids of the reads that are
-- left stay, and no fid comes.
pub ties_without : (t u : Tables) (r : FileReads) (o : Openings) (K : ℕ → ℕ → Bool)
    → u.waiting ≡ without (by_waiting K) t.waiting
    → ((w : Waiting) → IsIn (without (by_waiting K) t.waiting) w → fid_of u w.conn w.fid ≡ fid_of t w.conn w.fid)
    → AreFewer u t
    → Ties t r o → Ties u (reads_left K r) o
ties_without t u r o K waits same fewer h =
    let ws : List Waiting = without (by_waiting K) t.waiting in
    record {
      fed = λ w i. let j : IsIn ws w = subst (λ (l : List Waiting). IsIn l w) waits i in
          fed_same t u w (same w j) (h.fed w (in_without (by_waiting K) t.waiting w j).0);
      apart = subst AreApart (sym waits) (apart_without (by_waiting K) t.waiting h.apart);
      events = ap (reads_in event_opening u) waits ∙ same_reads event_opening t u ws same
          ∙ zip_without K told event_opening t t.waiting r.events h.events;
      ports = ap (reads_in port_opening u) waits ∙ same_reads port_opening t u ws same
          ∙ zip_without K told port_opening t t.waiting r.ports h.ports;
      watch = ap (reads_in watch_opening u) waits ∙ same_reads watch_opening t u ws same
          ∙ zip_without K watch_told watch_opening t t.waiting r.watch h.watch;
      own = own_fewer event_opening t u (length o.owners) fewer h.own;
      port_own = own_fewer port_opening t u o.joined fewer h.port_own;
      watch_own = λ f. own_fewer (watch_number f) t u (count_of o.counts f) fewer (h.watch_own f);
      windows = λ c e w x i n g. h.windows c e w x (fewer c e i) n g;
    }

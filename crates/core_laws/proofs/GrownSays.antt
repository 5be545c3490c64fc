-- What a message makes that is answered at once: the same reads wait.
use Rattle.std.proofs.Common.{◌≡◌, ◌⊎◌, inl, inr, ℕ, ◌+◌, ◌≤◌, Bool, true, false, eqb, ◌&&◌, ◌||◌, List, [], ◌∷◌}
use Rattle.std.proofs.Common.{length}
use Rattle.std.proofs.Common.{Option, Some, refl, sym, ap, subst, ◌∙◌, arith}
use Rattle.std.specs.List.{list_any}
use Rattle.std.proofs.lemmas.List.{length-append}
use Rattle.std.proofs.lemmas.Bool.{and_parts, or_parts, cases_Bool}
use Rattle.acme_tree.specs.declared.node.Node.{Node}
use Rattle.acme_tree.specs.declared.node.Node.TheVariants as node
use Rattle.acme_tree.specs.declared.node.WinFile.TheVariants as file
use Rattle.acme_watch.specs.Laws.{count_of}
use Rattle.acme_watch.specs.Watching.{WatchState}
use Rattle.acme_watch.specs.declared.types.WatchFile.{WatchFile}
use Rattle.ninep_types.specs.declared.message.RBody.{RBody}
use Rattle.fid_table.specs.declared.types.Fid.{Fid}
use Rattle.fid_table.specs.declared.session.Waiting.{Waiting}
use Rattle.fid_table.specs.Tables.{Tables, is_waiting}
use Rattle.event_book.specs.BookState.{BookState, owner_of, is_on_window}
use Rattle.plumb_ports.specs.PortsState.{PortsState}
use Rattle.core_windows.specs.Windows.{world_with}
use Rattle.core_scene.specs.Scenes.{deleted_by}
use Rattle.core_fids.specs.Fids.{at_event, at_port, at_watch, event_opening, port_opening, watch_opening}
use Rattle.core_fids.specs.Plumbers.{plumber_of}
use Rattle.core_fids.specs.declared.effect.Answer.{Answer}
use Rattle.core_fids.specs.declared.effect.Answer.TheVariants.{Says}
use Rattle.core_fids.specs.declared.effect.Effect.{Effect}
use Rattle.core_fids.specs.declared.effect.Effect.TheVariants as effect
use Rattle.core_events.specs.declared.response.Response.{Response}
use Rattle.core_events.specs.Asking.{opened}
use Rattle.core_events.specs.Waits.{deletions}
use Rattle.core_events.specs.PortAsking.{joined_with}
use Rattle.core_watch.specs.Asking.{opened_with}
use Rattle.core_parts.specs.declared.kind.Kind.{Kind}
use Rattle.core_parts.specs.declared.kind.Kind.TheVariants as kind
use Rattle.core_parts.specs.Connections.{grown_with}
use Rattle.core_parts.specs.Doing.{Doing}
use Rattle.core_parts.specs.States.{Present, next_entry}
use Rattle.core_intents.specs.Intents.{opened_at}
use Rattle.core_steps.specs.PortReads.{port_read_in, asked_said, asked_ports, asked_tables}
use Rattle.core_steps.specs.WatchReads.{watch_read_in, followed_said, followed_watch, followed_tables}
use Rattle.core_steps.specs.Stages.{response, answer_said, answer_book, answer_tables, acted, read_tables, port_tables}
use Rattle.core_steps.specs.Stages.{grown_tables, read_book, open_ports, open_watch}
use Rattle.core_laws.proofs.Holders.{numbered_fid, fid_has, IsItsOpening, owner_last}
use Rattle.core_laws.proofs.FileKinds.{on, watch_number, is_opening, has_number, event_node, port_at, of_event, of_port}
use Rattle.core_laws.proofs.FileKinds.{of_watch}
use Rattle.core_laws.proofs.Lists.{IsIn}
use Rattle.core_laws.proofs.Reactions.{IsStill, PutsSane}
use Rattle.core_laws.proofs.Staying.{heard}
use Rattle.core_laws.proofs.Endings.{gone_with, heard_clunk}
use Rattle.core_laws.proofs.Growths.{owners_more, new_event, IsMore, new_port}
use Rattle.core_laws.proofs.Ties.{reads_of, openings_of, Ties, IsNumbered, ties_put}
use Rattle.core_laws.proofs.Waits.{TiedThen, IsToldRight}
use Rattle.core_laws.proofs.Watches.{new_watch}
use Rattle.core_laws.proofs.Wells.{opens_in}
use Rattle.core_laws.proofs.Grown.{AreTiedIn, reads_now, openings_now, then_ports, then_watch, then_owners}
use Rattle.core_laws.proofs.Grown.{then_openings}
use Rattle.core_laws.proofs.Grown.{ThenTied, deeds_more, deeds_same, then_later, then_as, then_ties, told_deleted}
use Rattle.core_laws.proofs.Grown.{told_port_deleted, told_watch_deleted}

put_waits : (t : Tables) (conn : ℕ) (e : Effect) → (grown_with t conn e).waiting ≡ t.waiting
put_waits t conn effect.Nothing = refl
put_waits t conn (effect.Begins msize) = refl
put_waits t conn (effect.Puts number fid) = refl
put_waits t conn (effect.Frees number) = refl

-- ---- a tag that is free

-- a tag with which none waits, or a Tversion
abbrev pub IsTagFree : Tables → ℕ → ℕ → Effect → Type 0
IsTagFree t conn tag e = (list_any (is_waiting conn tag) t.waiting ≡ false)
    ⊎ ((msize : Option ℕ) × (e ≡ effect.Begins msize))

pub not_waiting : (conn tag : ℕ) (ws : List Waiting) (w : Waiting) → list_any (is_waiting conn tag) ws ≡ false
    → IsIn ws w → is_waiting conn tag w ≡ false
not_waiting conn tag [] w none i = absurd i
not_waiting conn tag (x ∷ ws) w none (inl e) = subst (λ (y : Waiting). is_waiting conn tag y ≡ false) e
    (or_parts (is_waiting conn tag x) (list_any (is_waiting conn tag) ws) none).0
not_waiting conn tag (x ∷ ws) w none (inr i) = not_waiting conn tag ws w
    (or_parts (is_waiting conn tag x) (list_any (is_waiting conn tag) ws) none).1 i

pub or_no : (b : Bool) → (b || false) ≡ b
or_no true = refl
or_no false = refl

-- a read that waits isn't told the answer, or goes with its connection
pub own_free : (t : Tables) (conn tag : ℕ) (e : Effect) (x : Response) (w : Waiting)
    → x.conn ≡ conn → x.message.tag ≡ tag → IsTagFree t conn tag e → IsIn t.waiting w
    → (heard (x ∷ []) w.conn w.tag ≡ false) ⊎ (gone_with conn e w.conn w.tag ≡ true)
own_free t conn tag e x w c g (inl none) i =
    inl (or_no (eqb w.conn x.conn && eqb w.tag x.message.tag) ∙ ap (λ (n : ℕ). eqb w.conn n && eqb w.tag x.message.tag)
    c ∙ ap (λ (n : ℕ). eqb w.conn conn && eqb w.tag n) g ∙ not_waiting conn tag t.waiting w none i)
own_free t conn tag e x w c g (inr is) i =
    elim (cases_Bool (heard (x ∷ []) w.conn w.tag)) as (λ z. (heard (x ∷ []) w.conn w.tag ≡ false)
    ⊎ (gone_with conn e w.conn w.tag ≡ true)) [
      | inl heard_it ↦
          let parts = and_parts (eqb w.conn x.conn) (eqb w.tag x.message.tag)
          (sym (or_no (eqb w.conn x.conn && eqb w.tag x.message.tag)) ∙ heard_it) in
          inr (ap (λ (f : Effect). gone_with conn f w.conn w.tag) is.1 ∙ ap (eqb w.conn) (sym c) ∙ parts.0)
      | inr silent ↦ inl silent
    ]

module _ (s : Present) (conn tag : ℕ) (d : Doing) (tied : AreTiedIn s) where
  abbrev k : Kind
  k = kind.Asks conn tag

  abbrev put : Tables
  put = grown_with s.tables conn d.effect

  -- ---- the numbers of the next openings

  opens_event : (v : Fid) → opens_in s d.events v → (o : ℕ) → event_opening v ≡ Some o
      → (o ≡ length s.scene.book.owners + 1) × (o ≤ length (then_owners s d))
  opens_event v new o is =
      let at : (w : ℕ) × (v.node ≡ node.File w file.Event) = event_node v.node v.opening o is in
      let one = new_event (world_with s.scene.watched s.scene.windows) (plumber_of s.scene.rules s.scene.ports)
      (opened_at s) s.scene.book d.events v at.0 o refl new at.1 (of_event v.node v.opening o is) in
      let number : o ≡ length s.scene.book.owners + 1 = one.0 in
      let long : length (then_owners s d) ≡ length s.scene.book.owners + 1 = ap length one.1
      ∙ length-append s.scene.book.owners (at.0 ∷ []) in
      (number, omega (arith, number, long))

  opens_port : (v : Fid) → opens_in s d.events v → (o : ℕ) → port_opening v ≡ Some o
      → (o ≡ s.scene.ports.joined + 1) × (o ≤ (then_ports s d).joined)
  opens_port v new o is =
      let at : (n : ℕ) × (v.node ≡ node.Port n) = port_at v.node v.opening o is in
      let more : IsMore s.scene.ports (acted s d).ports = deeds_more s d in
      let one = new_port (world_with s.scene.watched s.scene.windows) (plumber_of s.scene.rules s.scene.ports)
      (opened_at s) s.scene.ports (acted s d).ports d.events v at.0 o refl refl more
      (more.numbers tied.1) new at.1
      (of_port v.node v.opening o is)
      in
      let number : o ≡ s.scene.ports.joined + 1 = one.0 in
      let later : (then_ports s d).joined ≡ s.scene.ports.joined + 1 = one.1 in
      (number, omega (arith, number, later))

  opens_watch : (v : Fid) → opens_in s d.events v → (f : WatchFile) (o : ℕ) → watch_number f v ≡ Some o
      → (o ≡ count_of s.scene.watch.opened f + 1) × (o ≤ count_of (then_watch s d).opened f)
  opens_watch v new f o is = new_watch (world_with s.scene.watched s.scene.windows)
      (plumber_of s.scene.rules s.scene.ports) (opened_at s) (acted s d).watch d.events v f o (deeds_same s d).counts
      new (is_opening f (watch_opening v) o is)

  opens_window : (v : Fid) → opens_in s d.events v → (w o : ℕ) → v.node ≡ node.File w file.Event → v.opening ≡ Some o
      → owner_of (then_owners s d) o ≡ Some w
  opens_window v new w o at is =
      let one = new_event (world_with s.scene.watched s.scene.windows) (plumber_of s.scene.rules s.scene.ports)
      (opened_at s) s.scene.book d.events v w o refl new at is in
      ap (λ (owners : List ℕ). owner_of owners o) one.1 ∙ owner_last s.scene.book.owners w o one.0

  -- ---- a fid that is put

  module _ (number : ℕ) (v : Fid) (from : (o : ℕ) → v.opening ≡ Some o → IsStill s.tables conn number v
      ⊎ opens_in s d.events v) where
    -- it has the opening of the one in its place
    still : {O : Type 0} (which : Node → Option ℕ → Option O) (x : IsStill s.tables conn number v) (o : O)
        → which v.node v.opening ≡ Some o → which x.0.node x.0.opening ≡ Some o
    still which x o is = ap (which x.0.node) (sym x.2) ∙ ap (λ (n : Node). which n v.opening) (sym x.3) ∙ is

    event_from : (o : ℕ) → event_opening v ≡ Some o → IsStill s.tables conn number v ⊎ opens_in s d.events v
        → IsItsOpening event_opening s.tables conn number (length s.scene.book.owners) (length (then_owners s d)) o
    event_from o is (inl x) = inl (x.0, x.1, still at_event x o is)
    event_from o is (inr new) = inr (opens_event v new o is)

    port_from : (o : ℕ) → port_opening v ≡ Some o → IsStill s.tables conn number v ⊎ opens_in s d.events v
        → IsItsOpening port_opening s.tables conn number s.scene.ports.joined (then_ports s d).joined o
    port_from o is (inl x) = inl (x.0, x.1, still at_port x o is)
    port_from o is (inr new) = inr (opens_port v new o is)

    watch_from : (f : WatchFile) (o : ℕ) → watch_number f v ≡ Some o
        → IsStill s.tables conn number v ⊎ opens_in s d.events v
        → IsItsOpening (watch_number f) s.tables conn number (count_of s.scene.watch.opened f)
        (count_of (then_watch s d).opened f) o
    watch_from f o is (inl x) = inl (
      x.0,
      x.1,
      has_number (watch_opening x.0) (on f o) (still at_watch x (on f o) (is_opening f (watch_opening v) o is)),
    )
    watch_from f o is (inr new) = inr (opens_watch v new f o is)

    window_from : (w o : ℕ) → v.node ≡ node.File w file.Event → v.opening ≡ Some o → IsStill s.tables conn number v
        ⊎ opens_in s d.events v → owner_of (then_owners s d) o ≡ Some w
    window_from w o at is (inl x) =
        (owners_more s.scene.book d.events).1 o w (tied.0.windows conn (numbered_fid number x.0) w o
        (fid_has s.tables conn number x.0 x.1) (sym x.3 ∙ at) (sym x.2 ∙ is))
    window_from w o at is (inr new) = opens_window v new w o at is

    is_numbered : IsNumbered s.tables conn number v (openings_now s) (then_openings s d)
    is_numbered = record {
      event = λ o is. event_from o is (from o (of_event v.node v.opening o is));
      port = λ o is. port_from o is (from o (of_port v.node v.opening o is));
      watch = λ f o is. watch_from f o is
          (from o (of_watch v.node v.opening (on f o) (is_opening f (watch_opening v) o is)));
      window = λ w o at is. window_from w o at is (from o is);
    }

  put_ties : (e : Effect) → PutsSane (opens_in s d.events) s.tables conn e → ThenTied s d (grown_with s.tables conn e)
  put_ties effect.Nothing sane = then_ties s d s.tables tied.0
  put_ties (effect.Begins msize) sane = then_ties s d s.tables tied.0
  put_ties (effect.Puts number v) sane =
      then_as s d (grown_with s.tables conn (effect.Puts number v))
      (ties_put s.tables conn number v sane.keeps (reads_now s) (openings_now s) (then_openings s d) (then_later s d)
      (is_numbered number v sane.from) tied.0)
  put_ties (effect.Frees number) sane = then_ties s d s.tables tied.0

  -- ---- the answer

  module _ (body : RBody) (is : d.answer ≡ Some (Says body)) where
    said_tables : grown_tables s k d ≡ put
    said_tables = ap (λ (a : Option Answer). followed_tables (asked_tables (answer_tables put s.scene.book conn tag a)
        (acted s d).ports (port_read_in conn tag a)) (acted s d).watch (watch_read_in conn tag a (next_entry s))) is

    said_book : read_book s k d ≡ s.scene.book
    said_book = ap (λ (a : Option Answer). answer_book put s.scene.book conn tag a (next_entry s)) is

    said_ports : open_ports s k d ≡ then_ports s d
    said_ports = ap (λ (a : Option Answer). joined_with (asked_ports (read_tables s k d) (acted s d).ports
        (port_read_in conn tag a)) d.events) is

    said_watch : open_watch s k d ≡ then_watch s d
    said_watch = ap (λ (a : Option Answer). opened_with (followed_watch (port_tables s k d) (acted s d).watch
        (watch_read_in conn tag a (next_entry s))) d.events) is

    pub says_ties : PutsSane (opens_in s d.events) s.tables conn d.effect → TiedThen s k d
    says_ties sane =
        subst (λ (t : Tables). Ties t (reads_of (read_book s k d) (open_ports s k d) (open_watch s k d))
        (openings_of (opened (read_book s k d) d.events) (open_ports s k d) (open_watch s k d))) (sym said_tables)
        (subst (λ (b : BookState). Ties put (reads_of b (open_ports s k d) (open_watch s k d))
        (openings_of (opened b d.events) (open_ports s k d) (open_watch s k d))) (sym said_book)
        (subst (λ (p : PortsState). Ties put (reads_of s.scene.book p (open_watch s k d))
        (openings_of (opened s.scene.book d.events) p (open_watch s k d))) (sym said_ports)
        (subst (λ (w : WatchState). Ties put (reads_of s.scene.book (then_ports s d) w)
        (openings_of (opened s.scene.book d.events) (then_ports s d) w)) (sym said_watch)
        (put_ties d.effect sane))))

    waits_before : (w : Waiting) → IsIn (grown_tables s k d).waiting w → IsIn s.tables.waiting w
    waits_before w i = subst (λ (ws : List Waiting). IsIn ws w) (put_waits s.tables conn d.effect)
        (subst (λ (t : Tables). IsIn t.waiting w) said_tables i)

    pub says_right : IsTagFree s.tables conn tag d.effect → IsToldRight s k d
    says_right free = record {
      clunk = λ w i. heard_clunk s.tables conn d.effect w tied.0.apart (λ n e. waits_before w i);
      own = λ w i. subst (λ (a : Option Answer). (heard (answer_said put s.scene.book conn tag a) w.conn w.tag ≡ false)
          ⊎ (gone_with conn d.effect w.conn w.tag ≡ true)) (sym is)
          (own_free s.tables conn tag d.effect (response conn tag body) w refl refl free (waits_before w i));
      port = λ w i. ap (λ (a : Option Answer). heard (asked_said (read_tables s k d) (acted s d).ports
          (port_read_in conn tag a)) w.conn w.tag) is;
      watch = λ w i. ap (λ (a : Option Answer). heard (followed_said (port_tables s k d) (acted s d).watch
          (watch_read_in conn tag a (next_entry s))) w.conn w.tag) is;
      deleted = λ r i. subst (λ (b : BookState). heard (deletions s.tables (deleted_by d.deeds)) r.conn
          r.tag ≡ list_any (λ v. is_on_window (opened b d.events).owners v r) (deleted_by d.deeds))
          (sym said_book)
          (told_deleted s d tied.0 r (subst (λ (b : BookState). IsIn b.reads r) said_book i));
      port_deleted = λ r i. told_port_deleted s d tied.0 r (subst (λ (p : PortsState). IsIn p.reads r) said_ports i);
      watch_deleted = λ r i. told_watch_deleted s d tied.0 r (subst (λ (w : WatchState). IsIn w.reads r) said_watch i);
    }

-- What is ready, done.
use Rattle.std.proofs.Common.{◌≡◌, ℕ, List, [], Option, refl, ap, ◌∙◌}
use Rattle.am_text.specs.Twice.{Twice, both}
use Rattle.fid_table.specs.Tables.{Tables}
use Rattle.event_book.specs.BookState.{BookState}
use Rattle.plumb_ports.specs.PortsState.{PortsState}
use Rattle.acme_watch.specs.Watching.{WatchState}
use Rattle.core_scene.specs.declared.scene.Scene.{Scene}
use Rattle.core_scene.specs.Scenes.{SceneState, scene_of, kept_of, scene_in}
use Rattle.core_events.specs.declared.response.Response.{Response}
use Rattle.core_outputs.specs.declared.reply.Reply.{Reply}
use Rattle.core_outputs.specs.Unsent.{Unsent}
use Rattle.core_parts.specs.declared.connection.Connection.{Connection}
use Rattle.core_parts.specs.Doing.{Doing}
use Rattle.core_parts.specs.declared.kind.Kind.{Kind}
use Rattle.core_parts.specs.declared.parts.Parts.{Parts}
use Rattle.core_closing.specs.declared.prepared.Prepared.{Prepared}
use Rattle.core_parts.specs.Connections.{connections_after, users_after}
use Rattle.core_parts.specs.Kinds.{kind_of}
use Rattle.core_parts.specs.Parts.{present_of}
use Rattle.core_steps.specs.Ready.{HasReady}
use Rattle.core_steps.specs.Replies.{replies_of}
use Rattle.core_steps.specs.Stages.{acted, grown_tables, grown_book, said, book_after, ports_after, watch_after}
use Rattle.core_steps.specs.Stages.{scene_after, after}
use Rattle.core_closing.specs.Closing.{closed_book, closed_watch, left_ports, ended_tables, left_unsent}
use Rattle.core_parts.specs.States.{Present, next_entry}

present_same : (n m : ℕ) (cs ds : List Connection) (ns ms : List (List ℕ)) (t u : Tables) (s r : SceneState)
    (us vs : List Unsent) (rs qs : List Reply) → n ≡ m → cs ≡ ds → ns ≡ ms → t ≡ u → s ≡ r → us ≡ vs → rs ≡ qs
    → ◌≡◌ {A = Present} (record {
      entries = n;
      connections = cs;
      users = ns;
      tables = t;
      scene = s;
      unsent = us;
      replies = rs;
    })
    (record { entries = m; connections = ds; users = ms; tables = u; scene = r; unsent = vs; replies = qs })
present_same n m cs ds ns ms t u s r us vs rs qs a b g c d e f = rw (a, b, g, c, d, e, f) refl

module _ (p : Parts) (x : Prepared) (d : Doing) (h : HasReady p x d) where
  abbrev k : Kind
  k = kind_of x.event

  abbrev s : Present
  s = present_of p

  tables_done : (kind : Kind) (heard : List Response) (sessions : Twice Tables)
      → kind ≡ k → heard ≡ x.said → sessions ≡ both (ended_tables p.sessions.present kind d heard)
      → sessions.kept ≡ ended_tables (grown_tables s k d) k d (said s k d)
  tables_done kind heard sessions is says done =
      ap (λ (t : Twice Tables). t.kept) done
      ∙ ap (λ (y : Kind). ended_tables p.sessions.present y d heard) is
      ∙ ap (λ (t : Tables). ended_tables t k d heard) h.sessions
      ∙ ap (λ (xs : List Response). ended_tables (grown_tables s k d) k d xs) (says ∙ h.answers)

  book_done : (kind : Kind) (settled : Scene) (book : Twice BookState)
      → kind ≡ k → settled ≡ scene_in (scene_of p.scene) → book ≡ both
      (closed_book x.at p.sessions.present kind d settled.book.present)
      → book.kept ≡ closed_book (next_entry s) (grown_tables s k d) k d (grown_book s k d)
  book_done kind settled book is kept done =
      ap (λ (t : Twice BookState). t.kept) done
      ∙ ap (λ (y : Kind). closed_book x.at p.sessions.present y d settled.book.present) is
      ∙ ap (λ (n : ℕ). closed_book n p.sessions.present k d settled.book.present) h.at
      ∙ ap (λ (t : Tables). closed_book (next_entry s) t k d settled.book.present) h.sessions
      ∙ ap (λ (y : Scene). closed_book (next_entry s) (grown_tables s k d) k d y.book.present) kept
      ∙ ap (λ (y : SceneState). closed_book (next_entry s) (grown_tables s k d) k d y.book) h.scene

  ports_done : (kind : Kind) (settled : Scene) (ports : Twice PortsState)
      → kind ≡ k → settled ≡ scene_in (scene_of p.scene) → ports ≡
      both (left_ports p.sessions.present kind d settled.ports.present)
      → ports.kept ≡ ports_after s k d
  ports_done kind settled ports is kept done =
      ap (λ (t : Twice PortsState). t.kept) done
      ∙ ap (λ (y : Kind). left_ports p.sessions.present y d settled.ports.present) is
      ∙ ap (λ (t : Tables). left_ports t k d settled.ports.present) h.sessions
      ∙ ap (λ (y : Scene). left_ports (grown_tables s k d) k d y.ports.present) kept
      ∙ ap (λ (y : SceneState). left_ports (grown_tables s k d) k d y.ports) h.scene

  watch_done : (kind : Kind) (settled : Scene) (watch : Twice WatchState)
      → kind ≡ k → settled ≡ scene_in (scene_of p.scene)
      → watch ≡ both (closed_watch x.at p.sessions.present kind d settled.watch.present)
      → watch.kept ≡ watch_after s k d
  watch_done kind settled watch is kept done =
      ap (λ (t : Twice WatchState). t.kept) done
      ∙ ap (λ (y : Kind). closed_watch x.at p.sessions.present y d settled.watch.present) is
      ∙ ap (λ (n : ℕ). closed_watch n p.sessions.present k d settled.watch.present) h.at
      ∙ ap (λ (t : Tables). closed_watch (next_entry s) t k d settled.watch.present) h.sessions
      ∙ ap (λ (y : Scene). closed_watch (next_entry s) (grown_tables s k d) k d y.watch.present) kept
      ∙ ap (λ (y : SceneState). closed_watch (next_entry s) (grown_tables s k d) k d y.watch) h.scene

  scene_done : (kind : Kind) (settled : Scene) (book : Twice BookState) (ports : Twice PortsState)
      (watch : Twice WatchState) → kind ≡ k → settled ≡ scene_in (scene_of p.scene)
      → book ≡ both (closed_book x.at p.sessions.present kind d settled.book.present)
      → ports ≡ both (left_ports p.sessions.present kind d settled.ports.present)
      → watch ≡ both (closed_watch x.at p.sessions.present kind d settled.watch.present)
      → kept_of (record settled { book = book; ports = ports; watch = watch }) ≡ scene_after s k d
  scene_done kind settled book ports watch is kept done left closed =
      ap (λ (y : Scene). record (kept_of y) { book = book.kept; ports = ports.kept; watch = watch.kept }) kept
      ∙ ap (λ (y : SceneState). record y { book = book.kept; ports = ports.kept; watch = watch.kept; items = []; deleted = [] })
      h.scene
      ∙ ap (λ (b : BookState). record (acted s d)
      { book = b; ports = ports.kept; watch = watch.kept; items = []; deleted = [] })
      (book_done kind settled book is kept done)
      ∙ ap (λ (q : PortsState). record (acted s d)
      { book = book_after s k d; ports = q; watch = watch.kept; items = []; deleted = [] })
      (ports_done kind settled ports is kept left)
      ∙ ap (λ (w : WatchState). record (acted s d)
      { book = book_after s k d; ports = ports_after s k d; watch = w; items = []; deleted = [] })
      (watch_done kind settled watch is kept closed)

  outputs_done : (kind : Kind) (kept outputs : Twice (List Unsent)) → kind ≡ k → kept ≡ both p.outputs.present
      → outputs ≡ both (left_unsent kept.present kind)
      → outputs.kept ≡ (after s x.event d).unsent
  outputs_done kind kept outputs is keeps done =
      ap (λ (t : Twice (List Unsent)). t.kept) done
      ∙ ap (λ (y : Kind). left_unsent kept.present y) is
      ∙ ap (λ (t : Twice (List Unsent)). left_unsent t.present k) keeps
      ∙ ap (λ (us : List Unsent). left_unsent us k) h.outputs

  -- all that is ready, done part by part
  pub applied : (kind : Kind) (heard : List Response) (conns : List Connection) (users : List (List ℕ))
      (sessions : Twice Tables) (settled : Scene) (book : Twice BookState)
      (ports : Twice PortsState) (watch : Twice WatchState) (kept outputs : Twice (List Unsent))
      → kind ≡ k → heard ≡ x.said → conns ≡ connections_after p.connections.items kind
      → users ≡ users_after p.users.items kind x.user → sessions ≡
      both (ended_tables p.sessions.present kind d heard)
      → settled ≡ scene_in (scene_of p.scene) → book ≡ both (closed_book x.at p.sessions.present kind d
      settled.book.present)
      → ports ≡ both (left_ports p.sessions.present kind d settled.ports.present)
      → watch ≡ both (closed_watch x.at p.sessions.present kind d settled.watch.present)
      → kept ≡ both p.outputs.present
      → outputs ≡ both (left_unsent kept.present kind)
      → ◌≡◌ {A = Present} (record {
        entries = x.at;
        connections = conns;
        users = users;
        tables = sessions.kept;
        scene =
            kept_of (record settled { book = book; ports = ports; watch = watch });
        unsent = outputs.kept;
        replies = x.replies.items;
      })
      (after s x.event d)
  applied kind heard conns users sessions settled book ports watch kept outputs is says joins attaches sess keeps
      closes leaves ends holds takes =
      present_same x.at (next_entry s) conns (connections_after s.connections k) users (after s x.event d).users
      sessions.kept (ended_tables (grown_tables s k d) k d (said s k d))
      (kept_of (record settled { book = book; ports = ports; watch = watch })) (scene_after s k d)
      outputs.kept (after s x.event d).unsent x.replies.items (replies_of (said s k d))
      h.at (joins ∙ ap (λ (y : Kind). connections_after s.connections y) is)
      (attaches ∙ ap (λ (y : Kind). users_after s.users y x.user) is
      ∙ ap (λ (u : Option (List ℕ)). users_after s.users k u) h.user) (tables_done kind heard sessions is says sess)
      (scene_done kind settled book ports watch is keeps closes leaves ends)
      (outputs_done kind kept outputs is holds takes) h.replies

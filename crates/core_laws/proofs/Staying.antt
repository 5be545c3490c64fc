-- Which reads of the event files and of the ports wait on after each part of a step: all but those that it answers or
-- ends.
use Rattle.std.proofs.Common.{◌≡◌, ℕ, zero, suc, Bool, true, false, not, cond, eqb, ◌&&◌, ◌||◌, List, [], ◌∷◌, ◌++◌}
use Rattle.std.proofs.Common.{length, fold, nat_lt, Option, Some, None, option_map, refl, sym, ap, subst, ◌∙◌}
use Rattle.std.specs.List.{filter, list_any, list_all}
use Rattle.std.proofs.lemmas.Bool.{eqb-true, and_parts, both_ways, false_from_ne_true}
use Rattle.std.proofs.lemmas.List.Folds.{list_any-append}
use Rattle.fid_table.specs.declared.types.Fid.{Fid}
use Rattle.fid_table.specs.declared.session.Waiting.{Waiting}
use Rattle.fid_table.specs.Tables.{Tables, is_waiting, after_done}
use Rattle.wait_queue.specs.Reads.{is_on, is_read, without_first}
use Rattle.wait_queue.specs.declared.types.Asker.{Asker}
use Rattle.wait_queue.specs.declared.types.Piece.{Piece}
use Rattle.event_book.specs.BookState.{BookState, is_open_window, is_living, is_ready, piece_for, next_of, after_next}
use Rattle.event_book.specs.BookState.{served_of, after_add, after_put, is_taken_of, after_written, after_serve}
use Rattle.event_book.specs.BookState.{after_leave, after_delete, is_on_window}
use Rattle.event_book.specs.Laws.{IsLawful}
use Rattle.plumb_ports.specs.PortsState.{PortsState, is_ready as port_ready, piece_for as port_piece}
use Rattle.plumb_ports.specs.PortsState.{next_of as next_port, after_next as after_next_port, served_of as served_port}
use Rattle.plumb_ports.specs.PortsState.{after_serve as after_port_serve}
use Rattle.core_scene.specs.declared.deed.WindowItem.{WindowItem}
use Rattle.core_fids.specs.declared.effect.EventChange.{EventChange}
use Rattle.core_fids.specs.declared.effect.EventChange.TheVariants as events
use Rattle.core_fids.specs.declared.refusal.Refusal.{Refusal}
use Rattle.core_fids.specs.declared.refusal.Refusal.TheVariants as refusal
use Rattle.core_fids.specs.Fids.{event_opening, port_opening}
use Rattle.core_events.specs.declared.response.Response.{Response}
use Rattle.core_events.specs.declared.closing.BackItem.{BackItem}
use Rattle.core_events.specs.Asking.{opened}
use Rattle.core_events.specs.Closing.{written_back, without_opening, without_fid, closed_with}
use Rattle.core_events.specs.Putting.{put_one, put_all, is_ending, put_if_lives, put_living}
use Rattle.core_events.specs.Responses.{errors}
use Rattle.core_events.specs.Serving.{then_served, served_most, book_served_most}
use Rattle.core_events.specs.Waits.{is_of_window, deletions, ended}
use Rattle.core_events.proofs.Turns.{book_none_more}
use Rattle.core_events.specs.PortClosing.{without_opening as without_port, without_fid as without_port_fid}
use Rattle.core_events.specs.PortServing.{then_served as then_port, served_most as served_ports, after_serving_most}
use Rattle.core_events.proofs.PortTurns.{after_none_more}
use Rattle.core_laws.specs.Waits.{AreApart, told}
use Rattle.core_laws.proofs.Books.{IsBook, book_without}
use Rattle.core_laws.proofs.Lists.{without, without_both, without_none, IsIn, found}
use Rattle.core_laws.proofs.Zips.{AsksApart, asks_without, not_that, none_first, first_without, any_apart}

-- ---- what is said to a tag of a connection

abbrev pub heard : List Response → ℕ → ℕ → Bool
heard xs conn tag = list_any (λ x. eqb conn x.conn && eqb tag x.message.tag) xs

pub heard_more : (xs ys : List Response) (c g : ℕ) → heard (xs ++ ys) c g ≡ (heard xs c g || heard ys c g)
heard_more xs ys c g = list_any-append (λ (x : Response). eqb c x.conn && eqb g x.message.tag) xs ys

-- reads to whom something was said wait no more
pub ended_without : (t : Tables) (xs : List Response) → (ended t xs).waiting ≡ without (λ w. heard xs w.conn w.tag)
    t.waiting
ended_without t [] = sym (without_none (λ w. heard [] w.conn w.tag) t.waiting (λ k d l. refl))
ended_without t (x ∷ xs) =
    ended_without (after_done t x.conn x.message.tag) xs
    ∙ without_both (λ (w : Waiting). heard xs w.conn w.tag) (λ (w : Waiting). is_waiting x.conn x.message.tag w)
    t.waiting

heard_errors : (x : Refusal) (t : Tables) (p : Waiting → Bool) (ws : List Waiting) (c g : ℕ)
    → heard (errors x t (filter p ws)) c g ≡ list_any (λ v. p v && (eqb c v.conn && eqb g v.tag)) ws
heard_errors x t p [] c g = refl
heard_errors x t p (v ∷ ws) c g =
    elim (p v) as (λ b. heard (errors x t (cond b (v ∷ filter p ws) (filter p ws))) c
    g ≡ ((b && (eqb c v.conn && eqb g v.tag)) || list_any (λ u. p u && (eqb c u.conn && eqb g u.tag)) ws)) [
      | true ↦ ap (λ (b : Bool). (eqb c v.conn && eqb g v.tag) || b) (heard_errors x t p ws c g)
      | false ↦ heard_errors x t p ws c g
    ]

-- a read that waits is refused with those that pass where it passes
pub heard_by : (x : Refusal) (t : Tables) (p : Waiting → Bool) (ws : List Waiting) (w : Waiting) → AreApart ws
    → IsIn ws w → heard (errors x t (filter p ws)) w.conn w.tag ≡ p w
heard_by x t p ws w apart i = heard_errors x t p ws w.conn w.tag ∙ any_apart p ws w apart i

pub heard_deleted : (t : Tables) (windows : List ℕ) (w : Waiting) → AreApart t.waiting → IsIn t.waiting w
    → heard (deletions t windows) w.conn w.tag ≡ list_any (λ v. is_of_window t v w) windows
heard_deleted t [] w apart i = refl
heard_deleted t (v ∷ vs) w apart i =
    heard_more (errors refusal.WindowDeleted t (filter (is_of_window t v) t.waiting)) (deletions t vs) w.conn w.tag
    ∙ ap (λ (b : Bool). b || heard (deletions t vs) w.conn w.tag) (heard_by refusal.WindowDeleted t (is_of_window t v)
    t.waiting w apart i)
    ∙ ap (λ (b : Bool). is_of_window t v w || b) (heard_deleted t vs w apart i)

-- ---- openings and items

-- the same reads wait, and the same windows have openings
pub record IsSame (s t : BookState) : Type 0 where
  pub reads : t.reads ≡ s.reads
  pub owners : t.owners ≡ s.owners

same_itself : (s : BookState) → IsSame s s
same_itself s = record { reads = refl; owners = refl }

pub same_then : (s t u : BookState) → IsSame s t → IsSame t u → IsSame s u
same_then s t u a b = record { reads = b.reads ∙ a.reads; owners = b.owners ∙ a.owners }

pub opened_reads : (s : BookState) (e : EventChange) → (opened s e).reads ≡ s.reads
opened_reads s events.Nothing = refl
opened_reads s (events.Opens w) =
    elim (nat_lt (length s.owners) 4294967295) as (λ b. (cond b (after_add s w) s).reads ≡ s.reads) [
      | true ↦ refl
      | false ↦ refl
    ]
opened_reads s (events.Joins port) = refl
opened_reads s (events.Watches file) = refl
opened_reads s (events.Cancels tag) = refl

put_same : (s : BookState) (i : WindowItem) → IsSame s (put_one s i)
put_same s i =
    elim (is_open_window s i.window) as (λ b. IsSame s (cond b (after_put s i.window i.item) s)) [
      | true ↦ record { reads = refl; owners = refl }
      | false ↦ same_itself s
    ]

pub put_all_same : (s : BookState) (items : List WindowItem) → IsSame s (put_all s items)
put_all_same s [] = same_itself s
put_all_same s (i ∷ items) = same_then s (put_one s i) (put_all (put_one s i) items) (put_same s i)
    (put_all_same (put_one s i) items)

pub put_living_same : (deleted : List ℕ) (s : BookState) (items : List WindowItem)
    → IsSame s (put_living deleted s items)
put_living_same deleted s [] = same_itself s
put_living_same deleted s (i ∷ items) =
    let next : BookState = put_if_lives deleted s i in
    let one : IsSame s next = elim (is_ending deleted i) as (λ b. IsSame s (cond b s (put_one s i)))
    [ true ↦ same_itself s | false ↦ put_same s i ] in
    same_then s next (put_living deleted next items) one (put_living_same deleted next items)

pub written_same : (at : ℕ) (s : BookState) (o : Option BackItem) → IsSame s (written_back at s o)
written_same at s None = same_itself s
written_same at s (Some i) =
    elim (is_taken_of s i.window i.number) as (λ b. IsSame s (cond b (after_written s i.window i.number at) s)) [
      | true ↦ record { reads = refl; owners = refl }
      | false ↦ same_itself s
    ]

-- ---- reads that are answered

served_none : (s : BookState) → next_of s ≡ None → served_of s ≡ None
served_none s h = ap (λ (o : Option Asker). option_map {U = Asker × Piece} (λ r. (r, piece_for s r)) o) h

pub served_without : (n at : ℕ) (s : BookState) → AsksApart told s.reads
    → (book_served_most n at s).reads ≡ without (λ r. heard (served_most n at s) r.conn r.tag) s.reads
unfolding book_served_most served_most
served_without zero at s apart = sym (without_none (λ (r : Asker). false) s.reads (λ k d l. refl))
served_without (suc n) at s apart = by (next_of s) refl (served_without n at (after_serve s at))
  where
    by : (o : Option Asker) → next_of s ≡ o → (AsksApart told (after_next o s at).reads
        → (book_served_most n at (after_next o s at)).reads ≡ without
        (λ r. heard (served_most n at (after_next o s at)) r.conn r.tag) (after_next o s at).reads)
        → (book_served_most n at (after_next o s at)).reads ≡ without
        (λ r. heard (then_served (option_map {U = Asker × Piece} (λ r. (r, piece_for s r)) o)
        (served_most n at (after_next o s at))) r.conn r.tag) s.reads
    by None e later = ap (λ (b : BookState). b.reads) (book_none_more n at s (served_none s e))
        ∙ sym (without_none (λ (r : Asker). false) s.reads (λ k d l. refl))
    by (Some r) e later =
        let left : List Asker = without_first (is_ready s.files s.owners) s.reads in
        let one : left ≡ without (is_read r.conn r.tag) s.reads = first_without told without_first
        (λ p. refl) (λ p x xs. refl) (is_ready s.files s.owners) s.reads r e apart in
        later (subst (AsksApart told) (sym one) (asks_without told (is_read r.conn r.tag) s.reads apart))
        ∙ ap (without (λ (x : Asker). heard (served_most n at (after_next (Some r) s at)) x.conn x.tag)) one
        ∙ without_both (λ (x : Asker). heard (served_most n at (after_next (Some r) s at)) x.conn x.tag)
        (is_read r.conn r.tag) s.reads

pub served_owners : (n at : ℕ) (s : BookState) → (book_served_most n at s).owners ≡ s.owners
unfolding book_served_most
served_owners zero at s = refl
served_owners (suc n) at s = served_owners n at (after_serve s at) ∙ next_owners (next_of s)
  where
    next_owners : (o : Option Asker) → (after_next o s at).owners ≡ s.owners
    next_owners None = refl
    next_owners (Some r) = refl

-- nothing is said to a tag with which none waited
pub served_silent : (n at : ℕ) (s : BookState) (c g : ℕ) → list_any (is_read c g) s.reads ≡ false →
    heard (served_most n at s) c g ≡ false
unfolding served_most
served_silent zero at s c g none = refl
served_silent (suc n) at s c g none = by (next_of s) refl (served_silent n at (after_serve s at) c g)
  where
    by : (o : Option Asker) → next_of s ≡ o → (list_any (is_read c g) (after_next o s at).reads ≡ false →
        heard (served_most n at (after_next o s at)) c g ≡ false)
        → heard (then_served (option_map {U = Asker × Piece} (λ r. (r, piece_for s r)) o)
        (served_most n at (after_next o s at))) c g ≡ false
    by None e later = refl
    by (Some r) e later =
        ap (λ (b : Bool). b || heard (served_most n at (after_next (Some r) s at)) c g)
        (not_that told c g s.reads r none (found (is_ready s.files s.owners) s.reads r e))
        ∙ later (none_first told without_first (λ p. refl) (λ p x xs. refl) (is_read c g) (is_ready s.files s.owners)
        s.reads none)

port_none : (s : PortsState) → next_port s ≡ None → served_port s ≡ None
port_none s h = ap (λ (o : Option Asker). option_map {U = Asker × Piece} (λ r. (r, port_piece s r)) o) h

pub ports_without : (n : ℕ) (s : PortsState) → AsksApart told s.reads →
    (after_serving_most n s).reads ≡ without (λ r. heard (served_ports n s) r.conn r.tag) s.reads
unfolding after_serving_most served_ports
ports_without zero s apart = sym (without_none (λ (r : Asker). false) s.reads (λ k d l. refl))
ports_without (suc n) s apart = by (next_port s) refl (ports_without n (after_port_serve s))
  where
    by : (o : Option Asker) → next_port s ≡ o → (AsksApart told (after_next_port o s).reads
        → (after_serving_most n (after_next_port o s)).reads ≡ without
        (λ r. heard (served_ports n (after_next_port o s)) r.conn r.tag) (after_next_port o s).reads)
        → (after_serving_most n (after_next_port o s)).reads ≡ without
        (λ r. heard (then_port (option_map {U = Asker × Piece} (λ r. (r, port_piece s r)) o)
        (served_ports n (after_next_port o s))) r.conn r.tag) s.reads
    by None e later = ap (λ (b : PortsState). b.reads) (after_none_more n s (port_none s e))
        ∙ sym (without_none (λ (r : Asker). false) s.reads (λ k d l. refl))
    by (Some r) e later =
        let left : List Asker = without_first (port_ready s.openings) s.reads in
        let one : left ≡ without (is_read r.conn r.tag) s.reads = first_without told without_first
        (λ p. refl) (λ p x xs. refl) (port_ready s.openings) s.reads r e apart in
        later (subst (AsksApart told) (sym one) (asks_without told (is_read r.conn r.tag) s.reads apart))
        ∙ ap (without (λ (x : Asker). heard (served_ports n (after_next_port (Some r) s)) x.conn x.tag)) one
        ∙ without_both (λ (x : Asker). heard (served_ports n (after_next_port (Some r) s)) x.conn x.tag)
        (is_read r.conn r.tag) s.reads

pub ports_joined : (n : ℕ) (s : PortsState) → (after_serving_most n s).joined ≡ s.joined
unfolding after_serving_most
ports_joined zero s = refl
ports_joined (suc n) s = ports_joined n (after_port_serve s) ∙ next_joined (next_port s)
  where
    next_joined : (o : Option Asker) → (after_next_port o s).joined ≡ s.joined
    next_joined None = refl
    next_joined (Some r) = refl

pub ports_silent : (n : ℕ) (s : PortsState) (c g : ℕ) → list_any (is_read c g) s.reads ≡ false →
    heard (served_ports n s) c g ≡ false
unfolding served_ports
ports_silent zero s c g none = refl
ports_silent (suc n) s c g none = by (next_port s) refl (ports_silent n (after_port_serve s) c g)
  where
    by : (o : Option Asker) → next_port s ≡ o → (list_any (is_read c g) (after_next_port o s).reads ≡ false →
        heard (served_ports n (after_next_port o s)) c g ≡ false)
        → heard (then_port (option_map {U = Asker × Piece} (λ r. (r, port_piece s r)) o)
        (served_ports n (after_next_port o s))) c g ≡ false
    by None e later = refl
    by (Some r) e later =
        ap (λ (b : Bool). b || heard (served_ports n (after_next_port (Some r) s)) c g)
        (not_that told c g s.reads r none (found (port_ready s.openings) s.reads r e))
        ∙ later (none_first told without_first (λ p. refl) (λ p x xs. refl) (is_read c g) (port_ready s.openings)
        s.reads none)

-- ---- openings that close

-- the read is on this opening
abbrev pub is_there : Option ℕ → Asker → Bool
is_there None r = false
is_there (Some o) r = is_on o r

pub there_is : (o : Option ℕ) (r : Asker) → is_there o r ≡ true → o ≡ Some r.opening
there_is None r h = absurd cc
there_is (Some o) r h = ap (λ (n : ℕ). Some n) (sym (eqb-true r.opening o h))

dead_none : (s : BookState) (o : ℕ) (rs : List Asker) → is_living s o ≡ false → list_all (λ r. is_living s r.opening)
    rs ≡ true → without (is_on o) rs ≡ rs
dead_none s o [] dead all = refl
dead_none s o (r ∷ rs) dead all =
    let parts : (is_living s r.opening ≡ true) × (list_all (λ x. is_living s x.opening) rs ≡ true) =
    and_parts (is_living s r.opening) (list_all (λ x. is_living s x.opening) rs) all in
    let apart : is_on o r ≡ false = false_from_ne_true (is_on o r)
    (λ t. both_ways (is_living s o) dead (ap (is_living s) (sym (eqb-true r.opening o t)) ∙ parts.0)) in
    ap (λ (b : Bool). cond (not b) (r ∷ without (is_on o) rs) (without (is_on o) rs)) apart
    ∙ ap (λ (l : List Asker). r ∷ l) (dead_none s o rs dead parts.1)

pub left_without : (at : ℕ) (s : BookState) (o : Option ℕ) → IsLawful s
    → (without_opening at s o).reads ≡ without (is_there o) s.reads
left_without at s None lawful = sym (without_none (is_there None) s.reads (λ k d l. refl))
left_without at s (Some o) lawful =
    elim (is_living s o) as (λ b. is_living s o ≡ b → (cond b (after_leave s o at) s).reads ≡ without (is_on o) s.reads) [
      | true ↦ λ e. refl
      | false ↦ λ e. sym (dead_none s o s.reads e lawful.living)
    ] refl

pub left_owners : (at : ℕ) (s : BookState) (o : Option ℕ) → (without_opening at s o).owners ≡ s.owners
left_owners at s None = refl
left_owners at s (Some o) =
    elim (is_living s o) as (λ b. (cond b (after_leave s o at) s).owners ≡ s.owners) [
      | true ↦ refl
      | false ↦ refl
    ]

-- the read is on an opening of one of these fids
abbrev pub is_of_one : (Fid → Option ℕ) → List (ℕ × Fid) → Asker → Bool
is_of_one which fs r = list_any (λ f. is_there (which f.1) r) fs

pub fids_without : (at : ℕ) (s : BookState) (fs : List (ℕ × Fid)) → IsBook (λ r. Unit {0}) at s
    → (fold (without_fid at) s fs).reads ≡ without (is_of_one event_opening fs) s.reads
fids_without at s [] b = sym (without_none (is_of_one event_opening []) s.reads (λ k d l. refl))
fids_without at s (f ∷ fs) b =
    fids_without at (without_fid at s f) fs (book_without (λ r. Unit {0}) at s (event_opening f.1) b)
    ∙ ap (without (is_of_one event_opening fs)) (left_without at s (event_opening f.1) b.lawful)
    ∙ without_both (is_of_one event_opening fs) (is_there (event_opening f.1)) s.reads

pub fids_owners : (at : ℕ) (s : BookState) (fs : List (ℕ × Fid)) → (fold (without_fid at) s fs).owners ≡ s.owners
fids_owners at s [] = refl
fids_owners at s (f ∷ fs) = fids_owners at (without_fid at s f) fs ∙ left_owners at s (event_opening f.1)

pub port_left : (s : PortsState) (o : Option ℕ) → (without_port s o).reads ≡ without (is_there o) s.reads
port_left s None = sym (without_none (is_there None) s.reads (λ k d l. refl))
port_left s (Some o) = refl

pub port_left_joined : (s : PortsState) (o : Option ℕ) → (without_port s o).joined ≡ s.joined
port_left_joined s None = refl
port_left_joined s (Some o) = refl

pub port_fids_without : (s : PortsState) (fs : List (ℕ × Fid)) → (fold without_port_fid s fs).reads
    ≡ without (is_of_one port_opening fs) s.reads
port_fids_without s [] = sym (without_none (is_of_one port_opening []) s.reads (λ k d l. refl))
port_fids_without s (f ∷ fs) =
    port_fids_without (without_port_fid s f) fs
    ∙ ap (without (is_of_one port_opening fs)) (port_left s (port_opening f.1))
    ∙ without_both (is_of_one port_opening fs) (is_there (port_opening f.1)) s.reads

pub port_fids_joined : (s : PortsState) (fs : List (ℕ × Fid)) → (fold without_port_fid s fs).joined ≡ s.joined
port_fids_joined s [] = refl
port_fids_joined s (f ∷ fs) = port_fids_joined (without_port_fid s f) fs ∙ port_left_joined s (port_opening f.1)

-- ---- windows that are deleted

pub closed_without : (at : ℕ) (s : BookState) (ws : List ℕ) → (closed_with at s ws).reads
    ≡ without (λ r. list_any (λ w. is_on_window s.owners w r) ws) s.reads
closed_without at s [] = sym (without_none (λ (r : Asker). false) s.reads (λ k d l. refl))
closed_without at s (w ∷ ws) =
    closed_without at (after_delete s w at) ws
    ∙ without_both (λ (r : Asker). list_any (λ v. is_on_window s.owners v r) ws) (is_on_window s.owners w) s.reads

pub closed_owners : (at : ℕ) (s : BookState) (ws : List ℕ) → (closed_with at s ws).owners ≡ s.owners
closed_owners at s [] = refl
closed_owners at s (w ∷ ws) = closed_owners at (after_delete s w at) ws

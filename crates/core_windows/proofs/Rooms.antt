-- Windows with more room.
use Rattle.std.proofs.Common.{◌≡◌, ℕ, zero, suc, ◌-◌, ◌<◌, List, [], ◌∷◌, ◌++◌, length, set, get_or, take, Option, Some}
use Rattle.std.proofs.Common.{None, refl, sym, ap, subst, ◌∙◌, arith}
use Rattle.std.specs.Option.{option_map}
use Rattle.std.specs.Prelude.{Result, Ok, Err, OnErr}
use Rattle.std.proofs.lemmas.List.{length-map, length-append, map-append, take_at}
use Rattle.am_text.specs.Twice.{Twice}
use Rattle.win_text.specs.Traces.{CanUnmake}
use Rattle.win_text.proofs.Traces.{more_room}
use Rattle.core_windows.specs.Places.{at_place, live_at}
use Rattle.core_windows.specs.Windows.{Window}
use Rattle.core_windows.specs.Shapes.{Lives}
use Rattle.core_windows.specs.Shapes.{PaneShape, shape_of_pane, shape_if_live, shapes_of, seen_of, seen_if_live}
use Rattle.core_windows.specs.Shapes.{seen_in, taken_back, CanTakeBack, IsSlotRoomier, AreRoomier}
use Rattle.core_windows.specs.Trail.{revived, undone, CanUndo, all_undone, CanGoBack}
use Rattle.core_windows.specs.declared.pane.Pane.{Pane}
use Rattle.core_windows.specs.declared.undo.Back.{Back}
use Rattle.core_windows.specs.declared.undo.Undo.{Undo}
use Rattle.core_windows.specs.declared.undo.Undo.TheVariants.{Unmake, Revive, Restore}

-- ---- a window at its place

pub live_window : (ps : List (Option Pane)) (k : ℕ) (s : Option Pane) → k < length ps → s ≡ get_or ps k s
    → live_at (seen_in (shapes_of ps)) k ≡ seen_if_live (shape_if_live s)
live_window [] k s h e = absurd (omega arith)
live_window (p ∷ ps) zero s h e = ap (λ (x : Option Pane). seen_if_live (shape_if_live x)) (sym e)
live_window (p ∷ ps) (suc k) s h e = live_window ps k s (omega arith) e

pub live_pane : (ps : List (Option Pane)) (k : ℕ) (s : Option Pane) → k < length ps → s ≡ get_or ps k s
    → live_at ps k ≡ s
live_pane [] k s h e = absurd (omega arith)
live_pane (p ∷ ps) zero s h e = sym e
live_pane (p ∷ ps) (suc k) s h e = live_pane ps k s (omega arith) e

pub live_shape : (ps : List (Option Pane)) (k : ℕ) (s : Option Pane) → k < length ps → s ≡ get_or ps k s
    → live_at (shapes_of ps) k ≡ shape_if_live s
live_shape [] k s h e = absurd (omega arith)
live_shape (p ∷ ps) zero s h e = ap shape_if_live (sym e)
live_shape (p ∷ ps) (suc k) s h e = live_shape ps k s (omega arith) e

pub live_put : (ps : List (Option Pane)) (k : ℕ) (s : Option Pane) → k < length ps → live_at (set ps k s) k ≡ s
live_put [] k s h = absurd (omega arith)
live_put (p ∷ ps) zero s h = refl
live_put (p ∷ ps) (suc k) s h = live_put ps k s (omega arith)

pub live_shape_put : (ps : List (Option Pane)) (k : ℕ) (s : Option Pane) → k < length ps
    → live_at (shapes_of (set ps k s)) k ≡ shape_if_live s
live_shape_put [] k s h = absurd (omega arith)
live_shape_put (p ∷ ps) zero s h = refl
live_shape_put (p ∷ ps) (suc k) s h = live_shape_put ps k s (omega arith)

pub lives_within : {A : Type 0} (P : A → Type 0) (xs : List (Option A)) (k : ℕ) → Lives P (live_at xs k) → k < length xs
lives_within P [] k h = absurd h
lives_within P (x ∷ xs) zero h = omega arith
lives_within P (x ∷ xs) (suc k) h = omega (arith, lives_within P xs k h)

pub windows_put : (ps : List (Option Pane)) (k : ℕ) (s s' : Option Pane) (f : Option Window → Option Window)
    → s ≡ get_or ps k s → seen_if_live (shape_if_live s') ≡ f (seen_if_live (shape_if_live s))
    → seen_in (shapes_of (set ps k s')) ≡ at_place f k (seen_in (shapes_of ps))
windows_put [] k s s' f e h = refl
windows_put (p ∷ ps) zero s s' f e h = ap (λ (x : Option Window). x ∷ seen_in (shapes_of ps))
    (h ∙ ap (λ (x : Option Pane). f (seen_if_live (shape_if_live x))) e)
windows_put (p ∷ ps) (suc k) s s' f e h = ap (λ (x : List (Option Window)). seen_if_live (shape_if_live p) ∷ x)
    (windows_put ps k s s' f e h)

pub shapes_put : (ps : List (Option Pane)) (k : ℕ) (s s' : Option Pane) (f : Option PaneShape → Option PaneShape)
    → s ≡ get_or ps k s → shape_if_live s' ≡ f (shape_if_live s) → shapes_of (set ps k s') ≡ at_place f k (shapes_of ps)
shapes_put [] k s s' f e h = refl
shapes_put (p ∷ ps) zero s s' f e h = ap (λ (x : Option PaneShape). x ∷ shapes_of ps)
    (h ∙ ap (λ (x : Option Pane). f (shape_if_live x)) e)
shapes_put (p ∷ ps) (suc k) s s' f e h = ap (λ (x : List (Option PaneShape)). shape_if_live p ∷ x)
    (shapes_put ps k s s' f e h)

pub shapes_back : (ps : List (Option Pane)) (k : ℕ) (s s' : Option Pane) (f : Option PaneShape → Option PaneShape)
    → s ≡ get_or ps k s → f (shape_if_live s') ≡ shape_if_live s → at_place f k (shapes_of (set ps k s')) ≡ shapes_of ps
shapes_back [] k s s' f e h = refl
shapes_back (p ∷ ps) zero s s' f e h = ap (λ (x : Option PaneShape). x ∷ shapes_of ps) (h ∙ ap shape_if_live e)
shapes_back (p ∷ ps) (suc k) s s' f e h = ap (λ (x : List (Option PaneShape)). shape_if_live p ∷ x)
    (shapes_back ps k s s' f e h)

pub windows_kept : (ps : List (Option Pane)) (k : ℕ) (s s' : Option Pane) → s ≡ get_or ps k s
    → seen_if_live (shape_if_live s') ≡ seen_if_live (shape_if_live s)
    → seen_in (shapes_of (set ps k s')) ≡ seen_in (shapes_of ps)
windows_kept [] k s s' e h = refl
windows_kept (p ∷ ps) zero s s' e h = ap (λ (x : Option Window). x ∷ seen_in (shapes_of ps))
    (h ∙ ap (λ (x : Option Pane). seen_if_live (shape_if_live x)) e)
windows_kept (p ∷ ps) (suc k) s s' e h = ap (λ (x : List (Option Window)). seen_if_live (shape_if_live p) ∷ x)
    (windows_kept ps k s s' e h)

pub shapes_kept : (ps : List (Option Pane)) (k : ℕ) (s s' : Option Pane) → s ≡ get_or ps k s
    → shape_if_live s' ≡ shape_if_live s → shapes_of (set ps k s') ≡ shapes_of ps
shapes_kept [] k s s' e h = refl
shapes_kept (p ∷ ps) zero s s' e h = ap (λ (x : Option PaneShape). x ∷ shapes_of ps) (h ∙ ap shape_if_live e)
shapes_kept (p ∷ ps) (suc k) s s' e h = ap (λ (x : List (Option PaneShape)). shape_if_live p ∷ x)
    (shapes_kept ps k s s' e h)

-- ---- more room

itself : (o : Option PaneShape) → IsSlotRoomier o o
itself None = tt
itself (Some s) = record { same = refl; room = omega arith }

pub roomier_itself : (ss : List (Option PaneShape)) → AreRoomier ss ss
roomier_itself [] = tt
roomier_itself (s ∷ ss) = (itself s, roomier_itself ss)

pub roomier_put : (ps : List (Option Pane)) (k : ℕ) (s s' : Option Pane) → s ≡ get_or ps k s
    → IsSlotRoomier (shape_if_live s) (shape_if_live s') → AreRoomier (shapes_of ps) (shapes_of (set ps k s'))
roomier_put [] k s s' e h = tt
roomier_put (p ∷ ps) zero s s' e h = (
  subst (λ (x : Option Pane). IsSlotRoomier (shape_if_live x) (shape_if_live s')) e
      h,
  roomier_itself (shapes_of ps),
)
roomier_put (p ∷ ps) (suc k) s s' e h = (itself (shape_if_live p), roomier_put ps k s s' e h)

roomier_length : (as' bs : List (Option PaneShape)) → AreRoomier as' bs → length as' ≡ length bs
roomier_length [] [] h = refl
roomier_length [] (b ∷ bs) h = absurd h
roomier_length (a ∷ as') [] h = absurd h
roomier_length (a ∷ as') (b ∷ bs) h = ap suc (roomier_length as' bs h.1)

roomier_take : (n : ℕ) (as' bs : List (Option PaneShape)) → AreRoomier as' bs → AreRoomier (take n as') (take n bs)
roomier_take zero as' bs h = tt
roomier_take (suc n) [] [] h = tt
roomier_take (suc n) [] (b ∷ bs) h = absurd h
roomier_take (suc n) (a ∷ as') [] h = absurd h
roomier_take (suc n) (a ∷ as') (b ∷ bs) h = (h.0, roomier_take n as' bs h.1)

roomier_place : (f : Option PaneShape → Option PaneShape) (k : ℕ) (as' bs : List (Option PaneShape))
    → ((a b : Option PaneShape) → IsSlotRoomier a b → IsSlotRoomier (f a) (f b)) → AreRoomier as' bs
    → AreRoomier (at_place f k as') (at_place f k bs)
roomier_place f k [] [] g h = tt
roomier_place f k [] (b ∷ bs) g h = absurd h
roomier_place f k (a ∷ as') [] g h = absurd h
roomier_place f zero (a ∷ as') (b ∷ bs) g h = (g a b h.0, h.1)
roomier_place f (suc k) (a ∷ as') (b ∷ bs) g h = (h.0, roomier_place f k as' bs g h.1)

roomier_live : (k : ℕ) (as' bs : List (Option PaneShape)) → AreRoomier as' bs
    → IsSlotRoomier (live_at as' k) (live_at bs k)
roomier_live k [] [] h = tt
roomier_live k [] (b ∷ bs) h = absurd h
roomier_live k (a ∷ as') [] h = absurd h
roomier_live zero (a ∷ as') (b ∷ bs) h = h.0
roomier_live (suc k) (a ∷ as') (b ∷ bs) h = roomier_live k as' bs h.1

same_window : (a b : Option PaneShape) → IsSlotRoomier a b → seen_if_live b ≡ seen_if_live a
same_window None None h = refl
same_window None (Some b) h = absurd h
same_window (Some a) None h = absurd h
same_window (Some a) (Some b) h = ap (λ (x : PaneShape). Some (seen_of x)) h.same

pub same_windows : (as' bs : List (Option PaneShape)) → AreRoomier as' bs → seen_in bs ≡ seen_in as'
same_windows [] [] h = refl
same_windows [] (b ∷ bs) h = absurd h
same_windows (a ∷ as') [] h = absurd h
same_windows (a ∷ as') (b ∷ bs) h = ap (λ (x : Option Window). x ∷ seen_in bs) (same_window a b h.0)
    ∙ ap (λ (x : List (Option Window)). seen_if_live a ∷ x) (same_windows as' bs h.1)

-- ---- with more room, what is taken back is the same

back_roomier : (back : Back) (a b : Option PaneShape) → IsSlotRoomier a b
    → IsSlotRoomier (option_map (taken_back back) a) (option_map (taken_back back) b)
back_roomier back None None h = tt
back_roomier back None (Some b) h = absurd h
back_roomier back (Some a) None h = absurd h
back_roomier back (Some a) (Some b) h = record { same = ap (taken_back back) h.same; room = h.room }

undone_roomier : (u : Undo) (as' bs : List (Option PaneShape)) → AreRoomier as' bs
    → AreRoomier (undone u as') (undone u bs)
undone_roomier Unmake as' bs h = subst (λ (n : ℕ). AreRoomier (take (length as' - 1) as') (take (n - 1) bs))
    (roomier_length as' bs h) (roomier_take (length as' - 1) as' bs h)
undone_roomier (Revive k pane) as' bs h = roomier_place (revived pane) k as' bs
    (λ a b g. itself (Some (shape_of_pane pane))) h
undone_roomier (Restore k back) as' bs h = roomier_place (option_map (taken_back back)) k as' bs (back_roomier back) h

pub all_undone_roomier : (us : List Undo) (as' bs : List (Option PaneShape)) → AreRoomier as' bs
    → AreRoomier (all_undone us as') (all_undone us bs)
all_undone_roomier [] as' bs h = h
all_undone_roomier (u ∷ us) as' bs h = undone_roomier u (all_undone us as') (all_undone us bs)
    (all_undone_roomier us as' bs h)

lives_roomier : (back : Back) (a b : Option PaneShape) → IsSlotRoomier a b → Lives (CanTakeBack back) a
    → Lives (CanTakeBack back) b
lives_roomier back None b h c = absurd c
lives_roomier back (Some a) None h c = absurd h
lives_roomier back (Some a) (Some b) h c = more_room a.room b.room back.trace b.body
    (subst (λ (x : PaneShape). CanUnmake a.room back.trace x.body) (sym h.same) c) h.room

can_roomier : (u : Undo) (as' bs : List (Option PaneShape)) → AreRoomier as' bs → CanUndo u as' → CanUndo u bs
can_roomier Unmake as' bs h c = omega (arith, roomier_length as' bs h, c)
can_roomier (Revive k pane) as' bs h c = omega (arith, roomier_length as' bs h, c)
can_roomier (Restore k back) as' bs h c = lives_roomier back (live_at as' k) (live_at bs k) (roomier_live k as' bs h) c

pub go_back_roomier : (us : List Undo) (as' bs : List (Option PaneShape)) → AreRoomier as' bs → CanGoBack us as'
    → CanGoBack us bs
go_back_roomier [] as' bs h c = tt
go_back_roomier (u ∷ us) as' bs h c = (
  go_back_roomier us as' bs h c.0,
  can_roomier u (all_undone us as') (all_undone us bs) (all_undone_roomier us as' bs h) c.1,
)

pub same_kept : (us : List Undo) (as' bs : List (Option PaneShape)) → AreRoomier as' bs
    → seen_in (all_undone us bs) ≡ seen_in (all_undone us as')
same_kept us as' bs h = same_windows (all_undone us as') (all_undone us bs) (all_undone_roomier us as' bs h)

-- ---- one change more

pub undone_last : (us : List Undo) (u : Undo) (ss : List (Option PaneShape))
    → all_undone (us ++ u ∷ []) ss ≡ all_undone us (undone u ss)
undone_last [] u ss = refl
undone_last (v ∷ us) u ss = ap (undone v) (undone_last us u ss)

pub grown_back : (us : List Undo) (u : Undo) (old new : List (Option PaneShape))
    → undone u new ≡ old → all_undone (us ++ u ∷ []) new ≡ all_undone us old
grown_back us u old new h = undone_last us u new ∙ ap (all_undone us) h

pub grown_can : (us : List Undo) (u : Undo) (old new : List (Option PaneShape)) → undone u new ≡ old → CanUndo u new
    → CanGoBack us old → CanGoBack (us ++ u ∷ []) new
grown_can [] u old new h c k = (tt, c)
grown_can (v ∷ us) u old new h c k = (
  grown_can us u old new h c k.0,
  subst (CanUndo v) (sym (grown_back us u old new h)) k.1,
)

-- ---- what is seen

abbrev pub seen : List Undo → List (Option PaneShape) → Twice (List (Option Window))
seen us ss = record { present = seen_in ss; kept = seen_in (all_undone us ss) }

pub seen_same : (us : List Undo) (as' bs : List (Option PaneShape)) → AreRoomier as' bs → seen us bs ≡ seen us as'
seen_same us as' bs h = rw (same_windows as' bs h, same_kept us as' bs h) refl

pub seen_grown : (us : List Undo) (u : Undo) (old new : List (Option PaneShape))
    (f : List (Option Window) → List (Option Window)) → undone u new ≡ old → seen_in new ≡ f (seen_in old)
    → seen (us ++ u ∷ []) new ≡ record (seen us old) { present = f (seen_in old) }
seen_grown us u old new f h e = rw (grown_back us u old new h, e) refl

pub same_size : (as' bs : List (Option PaneShape)) → AreRoomier as' bs → length as' ≡ length bs
same_size = roomier_length

pub seen_changed : (us : List Undo) (as' bs : List (Option PaneShape)) (f : List (Option Window) → List (Option Window))
    → AreRoomier as' bs → record (seen us bs) { present = f (seen_in bs) } ≡ record (seen us as')
    { present = f (seen_in as') }
seen_changed us as' bs f h = ap (λ (t : Twice (List (Option Window))). record t { present = f t.present })
    (seen_same us as' bs h)

pub seen_within : (P : Window → Type 0) (ps : List (Option Pane)) (k : ℕ) → Lives P (live_at (seen_in (shapes_of ps)) k)
    → k < length ps
seen_within P ps k h = omega (
  arith,
  lives_within P (seen_in (shapes_of ps)) k h,
  length-map (shapes_of ps) seen_if_live,
  length-map ps shape_if_live,
)

pub on_err : {T E : Type 0} (r : Result T E) (P : Type 0) → P → OnErr r P
on_err (Ok x) P p = tt
on_err (Err e) P p = p

-- ---- the newest first

pub shrunk_can : (us : List Undo) (u : Undo) (ss : List (Option PaneShape)) → CanGoBack (us ++ u ∷ []) ss → CanUndo u ss
    × CanGoBack us (undone u ss)
shrunk_can [] u ss h = (h.1, tt)
shrunk_can (v ∷ us) u ss h =
    let rest = shrunk_can us u ss h.0 in
    (rest.0, (rest.1, subst (CanUndo v) (undone_last us u ss) h.1))

-- ---- a window is made

pub shapes_pushed : (ps : List (Option Pane)) (p : Option Pane) → shapes_of (ps ++ p ∷ []) ≡ shapes_of ps
    ++ shape_if_live p ∷ []
shapes_pushed ps p = map-append shape_if_live ps (p ∷ [])

pub unmade_last : (ss : List (Option PaneShape)) (s : Option PaneShape) → undone Unmake (ss ++ s ∷ []) ≡ ss
unmade_last ss s =
    let n : length (ss ++ s ∷ []) - 1 ≡ length ss = omega (arith, length-append ss (s ∷ [])) in
    rw n (take_at ss (s ∷ []) (length ss) refl)

-- ---- one function in the place of another

pub place_idle : {A : Type 0} (f : A → A) (k : ℕ) (xs : List (Option A)) → Lives (λ x. f x ≡ x) (live_at xs k)
    → at_place (option_map f) k xs ≡ xs
place_idle f k [] h = refl
place_idle f zero (None ∷ xs) h = absurd h
place_idle f zero (Some x ∷ xs) h = ap (λ y. Some y ∷ xs) h
place_idle f (suc k) (x ∷ xs) h = ap (λ y. x ∷ y) (place_idle f k xs h)

pub place_alike : {A : Type 0} (f g : A → A) (k : ℕ) (xs : List (Option A)) → Lives (λ x. f x ≡ g x) (live_at xs k)
    → at_place (option_map f) k xs ≡ at_place (option_map g) k xs
place_alike f g k [] h = refl
place_alike f g zero (None ∷ xs) h = absurd h
place_alike f g zero (Some x ∷ xs) h = ap (λ y. Some y ∷ xs) h
place_alike f g (suc k) (x ∷ xs) h = ap (λ y. x ∷ y) (place_alike f g k xs h)

pub lives_then : {A : Type 0} (P Q : A → Type 0) (o : Option A) → ((x : A) → P x → Q x) → Lives P o → Lives Q o
lives_then P Q None f h = h
lives_then P Q (Some x) f h = f x h

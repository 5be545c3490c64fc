-- The last of a list of groups is changed, and groups change sides.
use Rattle.std.proofs.Common.{◌≡◌, ℕ, zero, suc, ◌+◌, ◌-◌, ◌≤◌, Bool, true, false, not, List, [], ◌∷◌, ◌++◌, ◌<◌}
use Rattle.std.proofs.Common.{Option, Some, length, map, set, get_or, take, drop, refl, sym, ap, subst, ◌∙◌, arith}
use Rattle.std.proofs.Common.{append_assoc, add-one, vec_len, vec_capacity}
use Rattle.std.proofs.Math.Seq.{take-add}
use Rattle.std.proofs.lemmas.List.{length-map, length-append, take-map, length-take-le, take-take, drop-take, drop-drop}
use Rattle.std.proofs.lemmas.List.{take-append-drop, drop_more, drop_all, get_or-map, map-set, drop-set-lt, take_at}
use Rattle.std.proofs.lemmas.List.{drop_at}
use Rattle.std.proofs.lemmas.Grind.{get_or-set_at}
use Rattle.std.specs.Prelude.{slice_get}
use Rattle.std.specs.List.{insert, remove}
use Rattle.edit_log.specs.declared.types.Done.{Done}
use Rattle.edit_log.specs.declared.types.Edit.{Edit}
use Rattle.edit_log.specs.declared.types.Marking.{Marking}
use Rattle.edit_log.specs.declared.types.Pushed.{Pushed}
use Rattle.edit_log.specs.declared.log.Group.{Group}
use Rattle.edit_log.specs.Groups.{DoneGroup, Log, at_last, with_more, with_less, grown, ungrown, goes_on, marking_after}
use Rattle.edit_log.specs.Groups.{pushed, pushing, unpushed, restored, ended, settled, undone, redone, inverse, undoing}
use Rattle.edit_log.specs.Spare.{group_of, SpareAt, log_of}

module _ {A : Type 0} where
  pub last_place : (xs : List A) (k : ℕ) → k + 1 ≤ length xs → length (take (k + 1) xs) - 1 ≡ k
  last_place xs k h = omega (arith, length-take-le (k + 1) xs h)

  pub before_place : (xs : List A) (k : ℕ) → k + 1 ≤ length xs → take (length (take (k + 1) xs) - 1)
      (take (k + 1) xs) ≡ take k xs
  before_place xs k h = rw (last_place xs k h) (take-take k (k + 1) xs (omega arith))

module _ {A B : Type 0} where
  -- ---- a member is changed

  front_set' : (f : A → B) (h : B → B) (gs : List A) (k : ℕ) (v w : A) → k < length gs → f w ≡ h (f v)
      → v ≡ get_or gs k v → take (suc k) (map f (set gs k w)) ≡ at_last h (take (suc k) (map f gs))
  front_set' f h [] k v w l e ev = absurd (omega arith)
  front_set' f h (g ∷ gs) zero v w l e ev = ap (λ (x : B). x ∷ []) (e ∙ ap (λ (x : A). h (f x)) ev)
  front_set' f h (g ∷ []) (suc k) v w l e ev = absurd (omega arith)
  front_set' f h (g ∷ b ∷ gs) (suc k) v w l e ev = ap (λ (x : List B). f g ∷ x)
      (front_set' f h (b ∷ gs) k v w (omega arith) e ev)

  pub front_set : (f : A → B) (h : B → B) (gs : List A) (k : ℕ) (v w : A) → k < length gs → f w ≡ h (f v)
      → v ≡ get_or gs k v → take (k + 1) (map f (set gs k w)) ≡ at_last h (take (k + 1) (map f gs))
  front_set f h gs k v w l e ev = rw (add-one) (front_set' f h gs k v w l e ev)

  pub behind_set : (f : A → B) (gs : List A) (k : ℕ) (w : A) → drop (k + 1) (map f (set gs k w)) ≡ drop (k + 1)
      (map f gs)
  behind_set f gs k w = ap (drop (k + 1)) (map-set f gs k w) ∙ drop-set-lt (k + 1) (map f gs) k (f w) (omega arith)

  pub kept_set : (f : A → B) (gs : List A) (k : ℕ) (v w : A) → f w ≡ f v → v ≡ get_or gs k v
      → map f (set gs k w) ≡ map f gs
  kept_set f [] k v w e ev = refl
  kept_set f (g ∷ gs) zero v w e ev = ap (λ (x : B). x ∷ map f gs) (e ∙ ap f ev)
  kept_set f (g ∷ gs) (suc k) v w e ev = ap (λ (x : List B). f g ∷ x) (kept_set f gs k v w e ev)

  -- ---- a member is put in or taken out

  front_insert' : (f : A → B) (gs : List A) (k : ℕ) (x : A) → k ≤ length gs
      → take (suc k) (map f (insert gs k x)) ≡ take k (map f gs) ++ f x ∷ []
  front_insert' f gs zero x l = refl
  front_insert' f [] (suc k) x l = absurd (omega arith)
  front_insert' f (g ∷ gs) (suc k) x l = ap (λ (y : List B). f g ∷ y) (front_insert' f gs k x (omega arith))

  behind_insert' : (f : A → B) (gs : List A) (k : ℕ) (x : A) → k ≤ length gs
      → drop (suc k) (map f (insert gs k x)) ≡ drop k (map f gs)
  behind_insert' f gs zero x l = refl
  behind_insert' f [] (suc k) x l = absurd (omega arith)
  behind_insert' f (g ∷ gs) (suc k) x l = behind_insert' f gs k x (omega arith)

  pub front_insert : (f : A → B) (gs : List A) (k : ℕ) (x : A) → k ≤ length gs
      → take (k + 1) (map f (insert gs k x)) ≡ take k (map f gs) ++ f x ∷ []
  front_insert f gs k x l = rw (add-one) (front_insert' f gs k x l)

  pub behind_insert : (f : A → B) (gs : List A) (k : ℕ) (x : A) → k ≤ length gs
      → drop (k + 1) (map f (insert gs k x)) ≡ drop k (map f gs)
  behind_insert f gs k x l = rw (add-one) (behind_insert' f gs k x l)

  front_remove' : (f : A → B) (gs : List A) (k : ℕ) → k < length gs → take k (map f (remove gs k)) ≡ take k (map f gs)
  front_remove' f gs zero l = refl
  front_remove' f [] (suc k) l = absurd (omega arith)
  front_remove' f (g ∷ gs) (suc k) l = ap (λ (y : List B). f g ∷ y) (front_remove' f gs k (omega arith))

  behind_remove' : (f : A → B) (gs : List A) (k : ℕ) → k < length gs
      → drop k (map f (remove gs k)) ≡ drop (suc k) (map f gs)
  behind_remove' f [] zero l = absurd (omega arith)
  behind_remove' f (g ∷ gs) zero l = refl
  behind_remove' f [] (suc k) l = absurd (omega arith)
  behind_remove' f (g ∷ gs) (suc k) l = behind_remove' f gs k (omega arith)

  pub front_remove : (f : A → B) (gs : List A) (k : ℕ) → k < length gs
      → take k (map f (remove gs k)) ≡ take (length (take (k + 1) (map f gs)) - 1) (take (k + 1) (map f gs))
  front_remove f gs k l = front_remove' f gs k l ∙ sym (before_place (map f gs) k (omega (arith, length-map gs f)))

  pub behind_remove : (f : A → B) (gs : List A) (k : ℕ) → k < length gs
      → drop k (map f (remove gs k)) ≡ drop (k + 1) (map f gs)
  behind_remove f gs k l = rw (add-one) (behind_remove' f gs k l)

  -- ---- the first behind a place

  pub first_left : (f : A → B) (gs : List A) (d e : ℕ) (v : A) → d < e → e ≤ length gs → v ≡ get_or gs d v
      → slice_get (take (e - d) (drop d (map f gs))) 0 ≡ Some (f v)
  first_left f gs d e v l h ev =
      let n : e - d ≡ suc (e - d - 1) = omega arith in
      let place : d < length (map f gs) = omega (arith, length-map gs f) in
      let one : get_or (map f gs) d (f v) ≡ f v = get_or-map f gs d v (f v) (omega arith) ∙ ap f (sym ev) in
      rw (drop_more (map f gs) d (f v) place, n, one) refl

module _ {A : Type 0} where
  -- the parts behind a place, in two
  pub two_parts : (xs : List A) (d e : ℕ) → d ≤ e → take (e - d) (drop d xs) ++ drop e xs ≡ drop d xs
  two_parts xs d e h =
      let n : d + (e - d) ≡ e = omega arith in
      let rest : drop e xs ≡ drop (e - d) (drop d xs) = rw (drop-drop (e - d) d xs, n) refl in
      rw rest (take-append-drop (e - d) (drop d xs))

  -- the last of those before a place goes behind it
  pub from_place : (xs : List A) (k e : ℕ) → k + 1 ≤ e → e ≤ length xs
      → take (e - k) (drop k xs) ≡ drop (length (take (k + 1) xs) - 1) (take (k + 1) xs)
      ++ take (e - (k + 1)) (drop (k + 1) xs)
  from_place xs k e h l =
      let n : e - k ≡ 1 + (e - (k + 1)) = omega arith in
      rw (last_place xs k (omega arith), drop-take k 1 xs, n, take-add 1 (e - (k + 1)) (drop k xs), drop-drop 1 k xs)
      refl

  -- the first of those behind a place goes before it
  pub first_before : (xs : List A) (k e : ℕ) → k < e → take (k + 1) xs ≡ take k xs ++ take 1 (take (e - k) (drop k xs))
  first_before xs k e h = rw (take-add k 1 xs, take-take 1 (e - k) (drop k xs) (omega arith)) refl

  pub rest_behind : (xs : List A) (k e : ℕ) → k < e → take (e - (k + 1)) (drop (k + 1) xs) ≡ drop 1
      (take (e - k) (drop k xs))
  rest_behind xs k e h =
      let n : e - k ≡ 1 + (e - (k + 1)) = omega arith in
      rw (n, drop-take 1 (e - (k + 1)) (drop k xs), drop-drop 1 k xs) refl

-- ---- room in a group

pub spare_set : (gs : List Group) (k n : ℕ) (w : Group) → k < length gs → vec_len w.edits + n ≤ vec_capacity w.edits
    → SpareAt k n (set gs k w)
spare_set gs k n w l h d = rw (get_or-set_at gs k k w d refl l) h

pub spare_at : (gs : List Group) (k n : ℕ) (v : Group) → v ≡ get_or gs k v → SpareAt k n gs
    → vec_len v.edits + n ≤ vec_capacity v.edits
spare_at gs k n v ev h = subst (λ (x : Group). vec_len x.edits + n ≤ vec_capacity x.edits) (sym ev) (h v)

-- ---- a push, and taking it back

pub pushed_log : (gs hs : List DoneGroup) (d e n : ℕ) (m : Marking) (room : ℕ) (ready : Option ℕ) (on : Bool)
    (edits : List Done) (number : ℕ) → d ≤ e → d ≤ length gs → on ≡ goes_on m d number
    → take n hs ≡ grown on (take d gs) edits number → drop n hs ≡ drop d gs
    → log_of (record { groups = hs; done = n; end = n }) (marking_after on m number) 0
    ready ≡ pushed (log_of (record { groups = gs; done = d; end = e }) m room ready) edits number
pushed_log gs hs d e n m room ready on edits number h l o front behind =
    let same : length (take d gs) ≡ d = length-take-le d gs l in
    let none : n - n ≡ 0 = omega arith in
    rw (none, front, behind, same, ← o, two_parts gs d e h) refl

pub unpushed_log : (gs hs : List DoneGroup) (d e n : ℕ) (m : Marking) (room : ℕ) (ready : Option ℕ) (p : Pushed) → d ≤ e
    → take n hs ≡ ungrown p.begins (take d gs) p.edits → drop n hs ≡ drop d gs
    → log_of (record { groups = hs; done = n; end = n + p.undone }) m 0
    ready ≡ unpushed (log_of (record { groups = gs; done = d; end = e }) m room ready) p
unpushed_log gs hs d e n m room ready p h front behind =
    let more : n + p.undone - n ≡ p.undone = omega arith in
    rw (more, front, ← drop-drop p.undone n hs, behind, two_parts gs d e h) refl

module _ {A : Type 0} where
  pub last_twice : (f g : A → A) (xs : List A) → ((x : A) → g (f x) ≡ x) → at_last g (at_last f xs) ≡ xs
  last_twice f g [] h = refl
  last_twice f g (x ∷ []) h = ap (λ (y : A). y ∷ []) (h x)
  last_twice f g (x ∷ y ∷ []) h = ap (λ (z : List A). x ∷ z) (last_twice f g (y ∷ []) h)
  last_twice f g (x ∷ y ∷ z ∷ rest) h = ap (λ (w : List A). x ∷ w) (last_twice f g (y ∷ z ∷ rest) h)

  before_pushed : (xs : List A) (x : A) → take (length (xs ++ x ∷ []) - 1) (xs ++ x ∷ []) ≡ xs
  before_pushed xs x =
      let n : length (xs ++ x ∷ []) - 1 ≡ length xs = omega (arith, length-append xs (x ∷ [])) in
      rw n (take_at xs (x ∷ []) (length xs) refl)

  front_again : (xs ys : List A) → take (length (xs ++ ys) - length ys) (xs ++ ys) ≡ xs
  front_again xs ys =
      let n : length (xs ++ ys) - length ys ≡ length xs = omega (arith, length-append xs ys) in
      rw n (take_at xs ys (length xs) refl)

  pub back_again : (xs ys : List A) → drop (length (xs ++ ys) - length ys) (xs ++ ys) ≡ ys
  back_again xs ys =
      let n : length (xs ++ ys) - length ys ≡ length xs = omega (arith, length-append xs ys) in
      rw n (drop_at xs ys (length xs) refl)

less_of_more : (edits : List Done) (g : DoneGroup) → with_less (length edits) (with_more edits g) ≡ g
less_of_more edits g = ap (λ (x : List Done). record g { edits = x }) (front_again g.edits edits)

pub past_again : (on : Bool) (past : List DoneGroup) (edits : List Done) (number : ℕ)
    → ungrown (not on) (grown on past edits number) (length edits) ≡ past
past_again true past edits number = last_twice (with_more edits) (with_less (length edits)) past (less_of_more edits)
past_again false past edits number = before_pushed past (record { number = number; edits = edits })

pub unpush_takes_back : (l : Log) (edits : List Done) (number : ℕ)
    → restored (unpushed (pushed l edits number) (pushing l (length edits) number)) l.marking ≡ record l { room = 0 }
unpush_takes_back l edits number =
    rw (
      past_again (goes_on l.marking (length l.past) number) l.past edits number,
      take_at l.future l.forgotten (length l.future) refl,
      drop_at l.future l.forgotten (length l.future) refl,
    ) refl

-- ---- what is forgotten goes

pub settled_log : (gs : List Group) (d e : ℕ) (m : Marking) (room : ℕ) (ready : Option ℕ) → d ≤ e → e ≤ length gs
    → log_of (record { groups = map group_of (take e gs); done = d; end = e }) m room
    ready ≡ settled (log_of (record { groups = map group_of gs; done = d; end = e }) m room ready)
settled_log gs d e m room ready h l =
    let xs = map group_of gs in
    let n : d + (e - d) ≡ e = omega arith in
    let t : drop d (take e xs) ≡ take (e - d) (drop d xs) = ap (λ (k : ℕ). drop d (take k xs)) (sym n)
    ∙ drop-take d (e - d) xs in
    let none : drop e (take e xs) ≡ [] = drop_all e (take e xs) (omega (
      arith,
      length-take-le e xs (omega (arith, length-map gs group_of)),
    )) in
    rw (← take-map group_of e gs, take-take d e xs h, t, take-take (e - d) (e - d) (drop d xs) (omega arith), none) refl

-- ---- Undo and Redo

pub some_left : {A : Type 0} (n : ℕ) (xs : List A) → 0 < length (take n xs) → 0 < n
some_left zero xs h = absurd (omega arith)
some_left (suc n) xs h = omega arith

pub undone_log : (gs : List DoneGroup) (d e : ℕ) (m : Marking) (room : ℕ) (ready : Option ℕ) → 0 < length (take d gs)
    → d ≤ e → e ≤ length gs → log_of (record { groups = gs; done = d - 1; end = e }) (ended m) 0
    ready ≡ undone (log_of (record { groups = gs; done = d; end = e }) m room ready)
undone_log gs zero e m room ready some h l = absurd (omega arith)
undone_log gs (suc k) e m room ready some h l =
    let n : suc k - 1 ≡ k = omega arith in
    let m' : suc k ≡ k + 1 = omega arith in
    rw (n, m', before_place gs k (omega arith), from_place gs k e (omega arith) l) refl

pub redone_log : (gs : List DoneGroup) (d e : ℕ) (m : Marking) (room : ℕ) (ready : Option ℕ)
    → 0 < length (take (e - d) (drop d gs)) → log_of (record { groups = gs; done = d + 1; end = e }) (ended m) 0
    ready ≡ redone (log_of (record { groups = gs; done = d; end = e }) m room ready)
redone_log gs d e m room ready some =
    let h : d < e = omega (arith, some_left (e - d) (drop d gs) some) in
    rw (first_before gs d e h, rest_behind gs d e h) refl

-- ---- the edits of a group

undoing_last : (before : List Done) (d : Done) → undoing (before ++ d ∷ []) ≡ inverse d ∷ undoing before
undoing_last [] d = refl
undoing_last (b ∷ before) d = rw (undoing_last before d) refl

pub undoing_step : (group rest before : List Done) (edits more : List Edit) (d : Done) (e : Edit)
    → edits ++ undoing rest ≡ undoing group → rest ≡ before ++ d ∷ [] → e ≡ inverse d → more ≡ edits ++ e ∷ []
    → more ++ undoing before ≡ undoing group
undoing_step group rest before edits more d e h r i m =
    let u : undoing rest ≡ e ∷ undoing before = ap undoing r ∙ undoing_last before d
    ∙ ap (λ (x : Edit). x ∷ undoing before) (sym i) in
    ap (λ (x : List Edit). x ++ undoing before) m ∙ append_assoc edits (e ∷ []) (undoing before)
    ∙ ap (λ (x : List Edit). edits ++ x) (sym u) ∙ h

-- What an opening of `log` gets.
use Rattle.std.proofs.Common.{◌≡◌, ◌==◌, ℕ, suc, ◌<◌, ◌≤◌, ◌||◌, ◌&&◌, Bool, true, false, not, cond, List, [], ◌∷◌}
use Rattle.std.proofs.Common.{◌++◌, length, take, drop, map, None, refl, sym, ap, ◌∙◌, append_assoc}
use Rattle.std.proofs.Common.{append-nil, arith}
use Rattle.std.specs.List.{concat, list_all, list_any}
use Rattle.std.proofs.lemmas.Bool.{eqb-true}
use Rattle.std.proofs.lemmas.Bool.Decides.{nat_tests}
use Rattle.std.proofs.lemmas.List.{take-append-drop}
use Rattle.std.proofs.lemmas.List.Folds.{concat-append, list_any-append}
use Rattle.std.proofs.lemmas.Map.Views.{any-filter_same}
use Rattle.wait_queue.proofs.LawLemmas.{carry-set}
use Rattle.wait_queue.specs.Carry.{OpenCarry, carry_of, set_carry, is_of}
use Rattle.wait_queue.specs.WaitState.{WaitState, nothing, piece_from, piece_of, after_from, after_piece}
use Rattle.wait_queue.specs.declared.pending.Pending.{Pending}
use Rattle.wait_queue.specs.declared.types.Asker.{Asker}
use Rattle.acme_watch.specs.Log.{is_reader, new_reader, reader_of, noted, after_log_read, without_reader}
use Rattle.acme_watch.specs.Laws.{is_single, owed_in}
use Rattle.acme_watch.proofs.EachLemmas.{any_filtered}
use Rattle.acme_watch.proofs.LogMoves.{Move, Stays, Opens, Notes, Reads, Leaves, moved, count_moved, CanMove, given_of}
use Rattle.acme_watch.proofs.LogMoves.{noted_of}

-- ---- one queue

same_opening : (cs : List OpenCarry) (x y : ℕ) → (length cs == 1) ≡ true → list_any (is_of x) cs ≡ true
    → list_any (is_of y) cs ≡ true → x ≡ y
same_opening [] x y s a b = absurd cc
same_opening (c ∷ []) x y s a b = sym (eqb-true c.opening x (first (c.opening == x) a))
    ∙ eqb-true c.opening y (first (c.opening == y) b)
  where
    first : (t : Bool) → (t || false) ≡ true → t ≡ true
    first true e = refl
    first false e = e
same_opening (c ∷ d ∷ cs) x y s a b = absurd (let long : length (c ∷ d ∷ cs)
    ≡ 1 = eqb-true (length (c ∷ d ∷ cs)) 1 s in omega (arith, long))

any_set : (cs : List OpenCarry) (o x : ℕ) (bytes : List ℕ) → list_any (is_of x) (set_carry cs o bytes)
    ≡ list_any (is_of x) cs
any_set [] o x bytes = refl
any_set (c ∷ cs) o x bytes = by (is_of o c) refl (any_set cs o x bytes)
  where
    by : (b : Bool) → is_of o c ≡ b → list_any (is_of x) (set_carry cs o bytes) ≡ list_any (is_of x) cs
        → list_any (is_of x) (cond b (record { opening = o; carry = bytes } ∷ cs) (c ∷ set_carry cs o bytes))
        ≡ list_any (is_of x) (c ∷ cs)
    by true e later = ap (λ (k : ℕ). (k == x) || list_any (is_of x) cs) (sym (eqb-true c.opening o e))
    by false e later = ap (λ b. is_of x c || b) later

length_set : (cs : List OpenCarry) (o : ℕ) (bytes : List ℕ) → length (set_carry cs o bytes) ≡ length cs
length_set [] o bytes = refl
length_set (c ∷ cs) o bytes =
    elim (is_of o c) as (λ b. length (cond b (record { opening = o; carry = bytes } ∷ cs) (c ∷ set_carry cs o bytes))
    ≡ length (c ∷ cs))
    [ true ↦ refl | false ↦ ap (λ n. suc n) (length_set cs o bytes) ]

pub record Same (w v : WaitState) : Type 0 where
  pub any : (x : ℕ) → is_reader x v ≡ is_reader x w
  pub single : is_single v ≡ is_single w

same_from : (carry : List ℕ) (items : List Pending) (w : WaitState) (r : Asker) → Same w (after_from carry items w r)
same_from (b ∷ bs) items w r = record {
  any = λ x. any_set w.openings r.opening x _;
  single = ap (λ n. n == 1) (length_set w.openings r.opening _);
}
same_from [] (item ∷ items) w r = record {
  any = λ x. any_set w.openings r.opening x _;
  single = ap (λ n. n == 1) (length_set w.openings r.opening _);
}
same_from [] [] w r = record { any = λ x. refl; single = refl }

-- a piece leaves the openings
pub same_piece : (w : WaitState) (r : Asker) → Same w (after_piece w r)
same_piece w r =
    elim (r.count == 0) as (λ b. Same w (cond b w (after_from (carry_of w.openings r.opening) w.items w r)))
    [ true ↦ record { any = λ x. refl; single = refl } | false ↦ same_from (carry_of w.openings r.opening) w.items w r ]

owed_from : (carry : List ℕ) (items : List Pending) (w : WaitState) (r : Asker) → carry_of w.openings r.opening ≡ carry
    → w.items ≡ items → list_any (is_of r.opening) w.openings ≡ true
    → (piece_from carry items r.count).bytes ++ owed_in (after_from carry items w r) r.opening
    ≡ carry ++ concat (map (λ (line : Pending). line.bytes) items)
owed_from (b ∷ bs) items w r e i h =
    sym (append_assoc (take r.count (b ∷ bs)) _ _)
    ∙ ap (λ (l : List ℕ). (take r.count (b ∷ bs) ++ l)
    ++ concat (map (λ (line : Pending). line.bytes) w.items))
    (carry-set w.openings r.opening (drop r.count (b ∷ bs)) h)
    ∙ ap (λ (l : List ℕ). l
    ++ concat (map (λ (line : Pending). line.bytes) w.items)) (take-append-drop r.count (b ∷ bs))
    ∙ ap (λ (is : List Pending). (b ∷ bs) ++ concat (map (λ (line : Pending). line.bytes) is)) i
owed_from [] (item ∷ items) w r e i h =
    sym (append_assoc (take r.count item.bytes) _ _)
    ∙ ap (λ (l : List ℕ). (take r.count item.bytes ++ l)
    ++ concat (map (λ (line : Pending). line.bytes) items))
    (carry-set w.openings r.opening (drop r.count item.bytes) h)
    ∙ ap (λ (l : List ℕ). l
    ++ concat (map (λ (line : Pending). line.bytes) items)) (take-append-drop r.count item.bytes)
owed_from [] [] w r e i h =
    ap (λ (l : List ℕ). l ++ concat (map (λ (line : Pending). line.bytes) w.items)) e
    ∙ ap (λ (is : List Pending). concat (map (λ (line : Pending). line.bytes) is)) i

-- what a piece gives, with what is then still to come, is what was to come
owed_piece : (w : WaitState) (r : Asker) → list_any (is_of r.opening) w.openings ≡ true
    → (piece_of w r).bytes ++ owed_in (after_piece w r) r.opening ≡ owed_in w r.opening
owed_piece w r h =
    elim (r.count == 0) as (λ b.
    (cond b (record { bytes = []; taken = None })
    (piece_from (carry_of w.openings r.opening) w.items r.count)).bytes
    ++ owed_in (cond b w (after_from (carry_of w.openings r.opening) w.items w r)) r.opening ≡ owed_in w r.opening) [
      | true ↦ refl
      | false ↦ owed_from (carry_of w.openings r.opening) w.items w r refl refl h
    ]

owed_noted : (line : List ℕ) (w : WaitState) (x : ℕ) → owed_in (noted line w) x ≡ owed_in w x ++ (line ++ [])
owed_noted line w x =
    ap (λ (l : List ℕ). carry_of w.openings x ++ l) (joined w.items)
    ∙ sym (append_assoc (carry_of w.openings x) (concat (map (λ (line : Pending). line.bytes) w.items)) (line ++ []))
  where
    joined : (is : List Pending)
        → concat (map (λ (line : Pending). line.bytes) (is ++ record { number = 0; bytes = line } ∷ []))
        ≡ concat (map (λ (line : Pending). line.bytes) is) ++ (line ++ [])
    joined [] = refl
    joined (i ∷ is) = ap (λ (l : List ℕ). i.bytes ++ l) (joined is) ∙ sym (append_assoc i.bytes _ _)

owed_new : (o x : ℕ) → owed_in (cond (is_reader x (new_reader o)) (new_reader o) nothing) x ≡ []
owed_new o x =
    elim (is_reader x (new_reader o)) as (λ b. owed_in (cond b (new_reader o) nothing) x ≡ [])
    [ true ↦ fresh | false ↦ refl ]
  where
    fresh : owed_in (new_reader o) x ≡ []
    fresh = elim (o == x) as (λ b. cond {A = List ℕ} b [] [] ++ [] ≡ []) [ true ↦ refl | false ↦ refl ]

-- ---- all of them

reader_absent : (ws : List WaitState) (x : ℕ) → list_any (is_reader x) ws ≡ false → reader_of ws x ≡ nothing
reader_absent [] x h = refl
reader_absent (w ∷ ws) x h = let t = rest (is_reader x w) h in ap (λ c. cond c w (reader_of ws x)) t.0
    ∙ reader_absent ws x t.1
  where
    rest : (b : Bool) → (b || list_any (is_reader x) ws) ≡ false → (b ≡ false) × (list_any (is_reader x) ws ≡ false)
    rest true e = absurd cc
    rest false e = (refl, e)

pub reader_pushed : (ws : List WaitState) (v : WaitState) (x : ℕ) → reader_of (ws ++ v ∷ []) x
    ≡ cond (list_any (is_reader x) ws) (reader_of ws x) (cond (is_reader x v) v nothing)
reader_pushed [] v x = refl
reader_pushed (w ∷ ws) v x =
    elim (is_reader x w) as (λ b. cond b w (reader_of (ws ++ v ∷ []) x)
    ≡ cond (b || list_any (is_reader x) ws) (cond b w (reader_of ws x)) (cond (is_reader x v) v nothing))
    [ true ↦ refl | false ↦ reader_pushed ws v x ]

any_noted : (line : List ℕ) (ws : List WaitState) (x : ℕ) → list_any (is_reader x) (map (noted line) ws)
    ≡ list_any (is_reader x) ws
any_noted line [] x = refl
any_noted line (w ∷ ws) x = ap (λ b. is_reader x w || b) (any_noted line ws x)

reader_noted : (line : List ℕ) (ws : List WaitState) (x : ℕ) → list_any (is_reader x) ws ≡ true
    → reader_of (map (noted line) ws) x ≡ noted line (reader_of ws x)
reader_noted line [] x h = absurd cc
reader_noted line (w ∷ ws) x h =
    (elim (is_reader x w) as (λ b. (b || list_any (is_reader x) ws) ≡ true
    → cond b (noted line w) (reader_of (map (noted line) ws) x) ≡ noted line (cond b w (reader_of ws x)))
    [ true ↦ λ e. refl | false ↦ λ e. reader_noted line ws x e ]) h

pub any_read : (ws : List WaitState) (r : Asker) (x : ℕ) → list_any (is_reader x) (after_log_read ws r)
    ≡ list_any (is_reader x) ws
any_read [] r x = refl
any_read (w ∷ ws) r x =
    elim (is_reader r.opening w) as (λ b. list_any (is_reader x)
    (cond b (after_piece w r ∷ ws) (w ∷ after_log_read ws r)) ≡ list_any (is_reader x) (w ∷ ws)) [
      | true ↦ ap (λ b. b || list_any (is_reader x) ws) ((same_piece w r).any x)
      | false ↦ ap (λ b. is_reader x w || b) (any_read ws r x)
    ]

reader_there : (ws : List WaitState) (x : ℕ) → list_any (is_reader x) ws ≡ true → is_reader x (reader_of ws x) ≡ true
reader_there [] x h = absurd cc
reader_there (w ∷ ws) x h = by (is_reader x w) refl (reader_there ws x) h
  where
    by : (b : Bool) → is_reader x w ≡ b → (list_any (is_reader x) ws ≡ true → is_reader x (reader_of ws x) ≡ true)
        → (b || list_any (is_reader x) ws) ≡ true → is_reader x (cond b w (reader_of ws x)) ≡ true
    by true e later k = e
    by false e later k = later k

-- the queue of the read's opening after the read
pub reader_read : (ws : List WaitState) (r : Asker) → list_any (is_reader r.opening) ws ≡ true
    → reader_of (after_log_read ws r) r.opening ≡ after_piece (reader_of ws r.opening) r
reader_read [] r h = absurd cc
reader_read (w ∷ ws) r h = by (is_reader r.opening w) refl (reader_read ws r) h
  where
    by : (b : Bool) → is_reader r.opening w ≡ b
        → (list_any (is_reader r.opening) ws ≡ true → reader_of (after_log_read ws r) r.opening
        ≡ after_piece (reader_of ws r.opening) r)
        → (b || list_any (is_reader r.opening) ws) ≡ true
        → reader_of (cond b (after_piece w r ∷ ws) (w ∷ after_log_read ws r)) r.opening
        ≡ after_piece (cond b w (reader_of ws r.opening)) r
    by true e later k = ap (λ b. cond b (after_piece w r) (reader_of ws r.opening)) ((same_piece w r).any r.opening ∙ e)
    by false e later k = ap (λ b. cond b w (reader_of (after_log_read ws r) r.opening)) e ∙ later k

both_true : (a b : Bool) → (a && b) ≡ true → (a ≡ true) × (b ≡ true)
both_true true b h = (refl, h)
both_true false b h = absurd cc

-- and that of another
pub reader_other : (ws : List WaitState) (r : Asker) (x : ℕ) → list_all is_single ws ≡ true → (r.opening == x) ≡ false
    → reader_of (after_log_read ws r) x ≡ reader_of ws x
reader_other [] r x s n = refl
reader_other (w ∷ ws) r x s n = by (is_reader r.opening w) refl (is_reader x w) refl (λ t. reader_other ws r x t n)
  where
    two : (is_single w ≡ true) × (list_all is_single ws ≡ true)
    two = both_true (is_single w) (list_all is_single ws) s

    by : (b : Bool) → is_reader r.opening w ≡ b → (t : Bool) → is_reader x w ≡ t
        → (list_all is_single ws ≡ true → reader_of (after_log_read ws r) x ≡ reader_of ws x)
        → reader_of (cond b (after_piece w r ∷ ws) (w ∷ after_log_read ws r)) x ≡ reader_of (w ∷ ws) x
    by true e true f later =
        let same : r.opening ≡ x = same_opening w.openings r.opening x two.0 e f in
        let differ : (r.opening == r.opening) ≡ false = ap (λ (k : ℕ). r.opening == k) same ∙ n in
        absurd (grind (arith, nat_tests))
    by true e false f later = ap (λ b. cond b (after_piece w r) (reader_of ws x)) ((same_piece w r).any x ∙ f)
        ∙ sym (ap (λ b. cond b w (reader_of ws x)) f)
    by false e t f later = ap (λ v. cond (is_reader x w) w v) (later two.1)

any_left : (o : ℕ) (ws : List WaitState) (x : ℕ) → list_any (is_reader x) (without_reader ws o) ≡ true
    → list_any (is_reader x) ws ≡ true
any_left o ws x h = any_filtered (is_reader x) (λ w. not (is_reader o w)) ws h

gone : (o : ℕ) (ws : List WaitState) → list_any (is_reader o) (without_reader ws o) ≡ false
gone o ws = any-filter_same (is_reader o) (λ w. not (is_reader o w)) false (λ w t. ap not t) ws

-- the queue of an opening that stays
pub reader_left : (o : ℕ) (ws : List WaitState) (x : ℕ) → list_all is_single ws ≡ true
    → list_any (is_reader x) (without_reader ws o) ≡ true
    → reader_of (without_reader ws o) x ≡ reader_of ws x
reader_left o [] x s h = refl
reader_left o (w ∷ ws) x s h = by (is_reader o w) refl (is_reader x w) refl (reader_left o ws x) h
  where
    two : (is_single w ≡ true) × (list_all is_single ws ≡ true)
    two = both_true (is_single w) (list_all is_single ws) s

    by : (b : Bool) → is_reader o w ≡ b → (t : Bool) → is_reader x w ≡ t
        → (list_all is_single ws ≡ true → list_any (is_reader x) (without_reader ws o) ≡ true
        → reader_of (without_reader ws o) x ≡ reader_of ws x)
        → list_any (is_reader x) (cond (not b) (w ∷ without_reader ws o) (without_reader ws o)) ≡ true
        → reader_of (cond (not b) (w ∷ without_reader ws o) (without_reader ws o)) x ≡ reader_of (w ∷ ws) x
    by true e true f later k =
        let same : o ≡ x = same_opening w.openings o x two.0 e f in
        let bad : false ≡ true = sym (gone o ws) ∙ ap (λ (y : ℕ). list_any (is_reader y) (without_reader ws o)) same
        ∙ k in
        absurd cc
    by true e false f later k = later two.1 k ∙ sym (ap (λ b. cond b w (reader_of ws x)) f)
    by false e true f later k = ap (λ b. cond b w (reader_of (without_reader ws o) x)) f
        ∙ sym (ap (λ b. cond b w (reader_of ws x)) f)
    by false e false f later k =
        ap (λ b. cond b w (reader_of (without_reader ws o) x)) f
        ∙ later two.1 (sym (ap (λ b. b || list_any (is_reader x) (without_reader ws o)) f) ∙ k)
        ∙ sym (ap (λ b. cond b w (reader_of ws x)) f)

-- ---- each has one opening

single_pushed : (ws : List WaitState) (v : WaitState) → list_all is_single ws ≡ true → is_single v ≡ true
    → list_all is_single (ws ++ v ∷ []) ≡ true
single_pushed [] v s t = ap (λ b. b && true) t
single_pushed (w ∷ ws) v s t =
    let two = both_true (is_single w) (list_all is_single ws) s in
    ap (λ b. b && list_all is_single (ws ++ v ∷ [])) two.0 ∙ single_pushed ws v two.1 t

single_noted : (line : List ℕ) (ws : List WaitState) → list_all is_single (map (noted line) ws) ≡ list_all is_single ws
single_noted line [] = refl
single_noted line (w ∷ ws) = ap (λ b. is_single w && b) (single_noted line ws)

single_read : (ws : List WaitState) (r : Asker) → list_all is_single (after_log_read ws r) ≡ list_all is_single ws
single_read [] r = refl
single_read (w ∷ ws) r =
    elim (is_reader r.opening w) as (λ b. list_all is_single (cond b (after_piece w r ∷ ws) (w ∷ after_log_read ws r))
    ≡ list_all is_single (w ∷ ws)) [
      | true ↦ ap (λ b. b && list_all is_single ws) (same_piece w r).single
      | false ↦ ap (λ b. is_single w && b) (single_read ws r)
    ]

single_left : (o : ℕ) (ws : List WaitState) → list_all is_single ws ≡ true → list_all is_single (without_reader ws o)
    ≡ true
single_left o [] s = refl
single_left o (w ∷ ws) s =
    let two = both_true (is_single w) (list_all is_single ws) s in
    elim (is_reader o w) as (λ b. list_all is_single (cond (not b) (w ∷ without_reader ws o) (without_reader ws o))
    ≡ true) [
      | true ↦ single_left o ws two.1
      | false ↦ ap (λ b. b && list_all is_single (without_reader ws o)) two.0 ∙ single_left o ws two.1
    ]

pub single_moved : (ws : List WaitState) (m : Move) → list_all is_single ws ≡ true → list_all is_single (moved ws m)
    ≡ true
single_moved ws Stays s = s
single_moved ws (Opens o) s = single_pushed ws (new_reader o) s refl
single_moved ws (Notes line) s = single_noted line ws ∙ s
single_moved ws (Reads r) s = single_read ws r ∙ s
single_moved ws (Leaves o) s = single_left o ws s

-- ---- one move

wrong : {X : Type 0} (b : Bool) → b ≡ false → b ≡ true → X
wrong true f t = absurd cc
wrong false f t = absurd cc

-- an opening that is there and was not before has the number that was counted
pub born : (ws : List WaitState) (n : ℕ) (m : Move) (x : ℕ) → CanMove ws n m → list_any (is_reader x) ws ≡ false
    → list_any (is_reader x) (moved ws m) ≡ true → x ≡ count_moved n m
born ws n Stays x a f t = wrong _ f t
born ws n (Opens o) x a f t = sym (eqb-true o x (last (list_any (is_reader x) ws) (o == x) f
    (sym (list_any-append (is_reader x) ws (new_reader o ∷ [])) ∙ t))) ∙ a
  where
    last : (p q : Bool) → p ≡ false → (p || ((q || false) || false)) ≡ true → q ≡ true
    last true q e k = absurd cc
    last false true e k = refl
    last false false e k = k
born ws n (Notes line) x a f t = wrong _ f (sym (any_noted line ws x) ∙ t)
born ws n (Reads r) x a f t = wrong _ f (sym (any_read ws r x) ∙ t)
born ws n (Leaves o) x a f t = wrong _ f (any_left o ws x t)

pub counts_up : (n : ℕ) (m : Move) → n ≤ count_moved n m
counts_up n Stays = omega arith
counts_up n (Opens o) = omega arith
counts_up n (Notes line) = omega arith
counts_up n (Reads r) = omega arith
counts_up n (Leaves o) = omega arith

pub numbered_moved : (ws : List WaitState) (n : ℕ) (m : Move) → CanMove ws n m
    → ((x : ℕ) → list_any (is_reader x) ws ≡ true → x ≤ n)
    → (x : ℕ) → list_any (is_reader x) (moved ws m) ≡ true → x ≤ count_moved n m
numbered_moved ws n m a within x t = by (list_any (is_reader x) ws) refl
  where
    by : (b : Bool) → list_any (is_reader x) ws ≡ b → x ≤ count_moved n m
    by true e = let old : x ≤ n = within x e in let up = counts_up n m in omega (arith, old, up)
    by false e = let new = born ws n m x a e t in omega (arith, new)

-- what is given, with what is then still to come, is what was to come with what is noted
whole : (ws : List WaitState) (n : ℕ) (m : Move) (x : ℕ) → list_all is_single ws ≡ true → CanMove ws n m
    → list_any (is_reader x) (moved ws m) ≡ true
    → given_of ws m x ++ owed_in (reader_of (moved ws m) x) x ≡ owed_in (reader_of ws x) x ++ concat (noted_of ws m x)
whole ws n Stays x s a t = sym (append-nil _)
whole ws n (Opens o) x s a t = ap (λ (w : WaitState). owed_in w x) (reader_pushed ws (new_reader o) x)
    ∙ by (list_any (is_reader x) ws) refl
  where
    by : (b : Bool) → list_any (is_reader x) ws ≡ b
        → owed_in (cond b (reader_of ws x) (cond (is_reader x (new_reader o)) (new_reader o) nothing)) x
        ≡ owed_in (reader_of ws x) x ++ []
    by true e = sym (append-nil _)
    by false e = owed_new o x ∙ sym (append-nil _ ∙ ap (λ (w : WaitState). owed_in w x) (reader_absent ws x e))
whole ws n (Notes line) x s a t =
    let there : list_any (is_reader x) ws ≡ true = sym (any_noted line ws x) ∙ t in
    ap (λ (w : WaitState). owed_in w x) (reader_noted line ws x there) ∙ owed_noted line (reader_of ws x) x
    ∙ ap (λ b. owed_in (reader_of ws x) x ++ concat (cond b (line ∷ []) [])) (sym there)
whole ws n (Reads r) x s a t = by (r.opening == x) refl
  where
    by : (b : Bool) → (r.opening == x) ≡ b → cond (r.opening == x) (piece_of (reader_of ws r.opening) r).bytes []
        ++ owed_in (reader_of (after_log_read ws r) x) x
        ≡ owed_in (reader_of ws x) x ++ []
    by true e =
        let same : r.opening ≡ x = eqb-true r.opening x e in
        ap (λ b. cond b (piece_of (reader_of ws r.opening) r).bytes []
        ++ owed_in (reader_of (after_log_read ws r) x) x) e
        ∙ ap (λ (y : ℕ). (piece_of (reader_of ws r.opening) r).bytes
        ++ owed_in (reader_of (after_log_read ws r) y) y) (sym same)
        ∙ ap (λ (w : WaitState). (piece_of (reader_of ws r.opening) r).bytes
        ++ owed_in w r.opening) (reader_read ws r a)
        ∙ owed_piece (reader_of ws r.opening) r (reader_there ws r.opening a)
        ∙ ap (λ (y : ℕ). owed_in (reader_of ws y) y) same ∙ sym (append-nil _)
    by false e =
        ap (λ b. cond b (piece_of (reader_of ws r.opening) r).bytes []
        ++ owed_in (reader_of (after_log_read ws r) x) x) e
        ∙ ap (λ (w : WaitState). owed_in w x) (reader_other ws r x s e) ∙ sym (append-nil _)
whole ws n (Leaves o) x s a t = ap (λ (w : WaitState). owed_in w x) (reader_left o ws x s t) ∙ sym (append-nil _)

-- an opening that isn't there behind the move is given nothing, and no line is noted for it
quiet_given : (ws : List WaitState) (n : ℕ) (m : Move) (x : ℕ) → CanMove ws n m → list_any (is_reader x) (moved ws m)
    ≡ false → given_of ws m x ≡ []
quiet_given ws n Stays x a f = refl
quiet_given ws n (Opens o) x a f = refl
quiet_given ws n (Notes line) x a f = refl
quiet_given ws n (Reads r) x a f = by (r.opening == x) refl
  where
    by : (b : Bool) → (r.opening == x) ≡ b → cond (r.opening == x) (piece_of (reader_of ws r.opening) r).bytes [] ≡ []
    by true e = wrong _ (sym (any_read ws r x)
        ∙ f) (sym (ap (λ (y : ℕ). list_any (is_reader y) ws) (eqb-true r.opening x e)) ∙ a)
    by false e = ap (λ b. cond b (piece_of (reader_of ws r.opening) r).bytes []) e
quiet_given ws n (Leaves o) x a f = refl

quiet_noted : (ws : List WaitState) (m : Move) (x : ℕ) → list_any (is_reader x) (moved ws m) ≡ false → noted_of ws m x
    ≡ []
quiet_noted ws Stays x f = refl
quiet_noted ws (Opens o) x f = refl
quiet_noted ws (Notes line) x f = ap (λ b. cond b (line ∷ []) []) (sym (any_noted line ws x) ∙ f)
quiet_noted ws (Reads r) x f = refl
quiet_noted ws (Leaves o) x f = refl

pub record Gets (given : List ℕ) (lines : List (List ℕ)) (ws : List WaitState) (n x : ℕ) : Type 0 where
  pub missing : List ℕ
  pub joined : given ++ missing ≡ concat lines
  pub there : list_any (is_reader x) ws ≡ true → missing ≡ owed_in (reader_of ws x) x
  pub before : n < x → missing ≡ []

module _ (given : List ℕ) (lines : List (List ℕ)) (ws : List WaitState) (n : ℕ) (m : Move) (x : ℕ) where
  owes : CanMove ws n m → list_any (is_reader x) (moved ws m) ≡ true → (g : Gets given lines ws n x) → g.missing
      ≡ owed_in (reader_of ws x) x
  owes a t g = by (list_any (is_reader x) ws) refl
    where
      by : (b : Bool) → list_any (is_reader x) ws ≡ b → g.missing ≡ owed_in (reader_of ws x) x
      by true e = g.there e
      by false e =
          let new : x ≡ count_moved n m = born ws n m x a e t in
          let absent : owed_in (reader_of ws x) x ≡ [] = ap (λ (w : WaitState). owed_in w x) (reader_absent ws x e) in
          newly m a t new absent
        where
          newly : (m : Move) → CanMove ws n m → list_any (is_reader x) (moved ws m) ≡ true → x ≡ count_moved n m
              → owed_in (reader_of ws x) x ≡ []
              → g.missing ≡ owed_in (reader_of ws x) x
          newly Stays a t new absent = wrong _ e t
          newly (Opens o) a t new absent = g.before (omega (arith, new)) ∙ sym absent
          newly (Notes line) a t new absent = wrong _ e (sym (any_noted line ws x) ∙ t)
          newly (Reads r) a t new absent = wrong _ e (sym (any_read ws r x) ∙ t)
          newly (Leaves o) a t new absent = wrong _ e (any_left o ws x t)

  pub gets_move : list_all is_single ws ≡ true → ((y : ℕ) → list_any (is_reader y) ws ≡ true → y ≤ n) → CanMove ws n m
      → Gets given lines ws n x
      → Gets (given ++ given_of ws m x) (lines ++ noted_of ws m x) (moved ws m) (count_moved n m) x
  gets_move s within a g = by (list_any (is_reader x) (moved ws m)) refl
    where
      up : n ≤ count_moved n m
      up = counts_up n m

      by : (b : Bool) → list_any (is_reader x) (moved ws m) ≡ b
          → Gets (given ++ given_of ws m x) (lines ++ noted_of ws m x) (moved ws m) (count_moved n m) x
      by true t = record {
        missing = owed_in (reader_of (moved ws m) x) x;
        joined =
            append_assoc given (given_of ws m x) (owed_in (reader_of (moved ws m) x) x)
            ∙ ap (λ (l : List ℕ). given ++ l) (whole ws n m x s a t)
            ∙ sym (append_assoc given (owed_in (reader_of ws x) x) (concat (noted_of ws m x)))
            ∙ ap (λ (l : List ℕ). (given ++ l) ++ concat (noted_of ws m x)) (sym (owes a t g))
            ∙ ap (λ (l : List ℕ). l ++ concat (noted_of ws m x)) g.joined
            ∙ sym (concat-append lines (noted_of ws m x));
        there = λ _. refl;
        before = λ l. let most = numbered_moved ws n m a within x t in absurd (omega (arith, l, most));
      }
      by false f = record {
        missing = g.missing;
        joined =
            ap (λ (l : List ℕ). (given ++ l) ++ g.missing) (quiet_given ws n m x a f)
            ∙ ap (λ (l : List ℕ). l ++ g.missing) (append-nil given)
            ∙ g.joined
            ∙ ap concat (sym (append-nil lines) ∙ ap (λ (l : List (List ℕ)). lines ++ l) (sym (quiet_noted ws m x f)));
        there = λ t. wrong _ f t;
        before = λ l. g.before (omega (arith, l, up));
      }

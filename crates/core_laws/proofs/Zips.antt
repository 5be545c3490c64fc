-- The reads of a list of the sessions, and those of the event files, of the ports, or of `log` and `jobs`.
use Rattle.std.proofs.Common.{◌≡◌, ℕ, inl, inr, Bool, true, false, not, cond, eqb, ◌&&◌, ◌||◌, List, [], ◌∷◌, ◌++◌, map}
use Rattle.std.proofs.Common.{Option, Some, None, All, refl, sym, ap, subst, ◌∙◌, arith}
use Rattle.std.specs.List.{list_any, find}
use Rattle.std.proofs.lemmas.Bool.{eqb-true, both_ways, and_parts, or_parts, false_from_ne_true}
use Rattle.std.proofs.lemmas.Bool.Decides.{nat_tests}
use Rattle.fid_table.specs.declared.types.Fid.{Fid}
use Rattle.fid_table.specs.declared.session.Waiting.{Waiting}
use Rattle.fid_table.specs.Tables.{Tables, fid_of, is_waiting}
use Rattle.wait_queue.specs.declared.types.Asker.{Asker}
use Rattle.acme_watch.specs.declared.types.WatchRead.{WatchRead}
use Rattle.core_laws.specs.Waits.{WaitingRead, opening_by, with_read, reads_in, AreApart}
use Rattle.core_laws.proofs.Lists.{without, IsIn, in_without, any_in, which_any, all_by, all_in, found}

-- ---- keys: a connection and a tag

module _ (K : ℕ → ℕ → Bool) where
  abbrev pub by_waiting : Waiting → Bool
  by_waiting w = K w.conn w.tag

  abbrev pub by_asker : Asker → Bool
  by_asker r = K r.conn r.tag

  abbrev pub by_follower : WatchRead → Bool
  by_follower r = K r.asker.conn r.asker.tag

  module _ {O : Type 0} where
    abbrev pub by_read : WaitingRead O → Bool
    by_read x = K x.conn x.tag

    one_read : (o : Option O) (w : Waiting) (b : Bool) (xs : List (WaitingRead O)) → K w.conn w.tag ≡ b
        → cond (not b) (with_read o w (without by_read xs)) (without by_read xs) ≡ without by_read (with_read o w xs)
    one_read None w true xs e = refl
    one_read None w false xs e = refl
    one_read (Some o) w true xs e = rw e refl
    one_read (Some o) w false xs e = rw e refl

    pub reads_without : (which : Fid → Option O) (t : Tables) (ws : List Waiting)
        → reads_in which t (without by_waiting ws) ≡ without by_read (reads_in which t ws)
    reads_without which t [] = refl
    reads_without which t (w ∷ ws) = by (K w.conn w.tag) refl (reads_without which t ws)
      where
        by : (b : Bool) → K w.conn w.tag ≡ b → reads_in which t (without by_waiting ws) ≡ without by_read
            (reads_in which t ws)
            → reads_in which t (cond (not (K w.conn w.tag)) (w ∷ without by_waiting ws) (without by_waiting ws))
            ≡ without by_read (with_read (opening_by which (fid_of t w.conn w.fid)) w (reads_in which t ws))
        by true e later = rw e (later ∙ one_read (opening_by which (fid_of t w.conn w.fid)) w true (reads_in which t ws)
            e)
        by false e later =
            rw e (ap (with_read (opening_by which (fid_of t w.conn w.fid)) w) later
            ∙ one_read (opening_by which (fid_of t w.conn w.fid)) w false (reads_in which t ws) e)

    -- the reads as the files tell them
    module _ {A : Type 0} (tells : A → WaitingRead O) where
      abbrev pub by_told : A → Bool
      by_told r = K (tells r).conn (tells r).tag

      pub told_without : (rs : List A) → without by_read (map tells rs) ≡ map tells (without by_told rs)
      told_without [] = refl
      told_without (r ∷ rs) =
          elim (by_told r) as (λ b. cond (not b) (tells r ∷ without by_read (map tells rs))
          (without by_read (map tells rs)) ≡ map tells (cond (not b) (r ∷ without by_told rs) (without by_told rs))) [
            | true ↦ told_without rs
            | false ↦ ap (λ (l : List (WaitingRead O)). tells r ∷ l) (told_without rs)
          ]

      -- without the same keys the lists are the same still
      pub zip_without : (which : Fid → Option O) (t : Tables) (ws : List Waiting) (rs : List A)
          → reads_in which t ws ≡ map tells rs
          → reads_in which t (without by_waiting ws) ≡ map tells (without by_told rs)
      zip_without which t ws rs same = reads_without which t ws ∙ ap (without by_read) same ∙ told_without rs

-- ---- one list's read in the other

-- the read of the sessions that is this one
pub record HasWaiting {O : Type 0} (which : Fid → Option O) (t : Tables) (ws : List Waiting) (x : WaitingRead O) : Type 0
  where
    pub waiting : Waiting
    pub there : IsIn ws waiting
    pub conn : waiting.conn ≡ x.conn
    pub tag : waiting.tag ≡ x.tag
    pub opens : opening_by which (fid_of t waiting.conn waiting.fid) ≡ Some x.opening

module _ {O : Type 0} (which : Fid → Option O) (t : Tables) where
  more : (w : Waiting) (ws : List Waiting) (x : WaitingRead O) → HasWaiting which t ws x → HasWaiting which t (w ∷ ws) x
  more w ws x h = record { waiting = h.waiting; there = inr h.there; conn = h.conn; tag = h.tag; opens = h.opens }

  pub read_waits : (ws : List Waiting) (x : WaitingRead O) → IsIn (reads_in which t ws) x → HasWaiting which t ws x
  read_waits [] x i = absurd i
  read_waits (w ∷ ws) x i = by (opening_by which (fid_of t w.conn w.fid)) refl (read_waits ws x) i
    where
      by : (o : Option O) → opening_by which (fid_of t w.conn w.fid) ≡ o →
          (IsIn (reads_in which t ws) x → HasWaiting which t ws x) → IsIn (with_read o w (reads_in which t ws)) x
          → HasWaiting which t (w ∷ ws) x
      by None e later j = more w ws x (later j)
      by (Some o) e later (inl j) = record {
        waiting = w;
        there = inl refl;
        conn = ap (λ (y : WaitingRead O). y.conn) j;
        tag = ap (λ (y : WaitingRead O). y.tag) j;
        opens = e ∙ ap (λ (y : WaitingRead O). Some y.opening) j;
      }
      by (Some o) e later (inr j) = more w ws x (later j)

  module _ {A : Type 0} (tells : A → WaitingRead O) where
    told_in : (rs : List A) (r : A) → IsIn rs r → IsIn (map tells rs) (tells r)
    told_in [] r i = absurd i
    told_in (s ∷ rs) r (inl e) = inl (ap tells e)
    told_in (s ∷ rs) r (inr i) = inr (told_in rs r i)

    pub asker_waits : (ws : List Waiting) (rs : List A) → reads_in which t ws ≡ map tells rs → (r : A) → IsIn rs r
        → HasWaiting which t ws (tells r)
    asker_waits ws rs same r i = read_waits ws (tells r)
        (subst (λ (l : List (WaitingRead O)). IsIn l (tells r)) (sym same) (told_in rs r i))

    -- what is true of the keys of the sessions' reads is true of these
    pub all_wait : (L : ℕ → ℕ → Type 0) (ws : List Waiting) (rs : List A) → reads_in which t ws ≡ map tells rs
        → All (λ w. L w.conn w.tag) ws → All (λ r. L (tells r).conn (tells r).tag) rs
    all_wait L ws rs same h =
        all_by (λ r. L (tells r).conn (tells r).tag) rs (λ r i. let x = asker_waits ws rs same r i in
        subst (λ (g : ℕ). L (tells r).conn g) x.tag (subst (λ (c : ℕ). L c x.waiting.tag) x.conn
        (all_in (λ w. L w.conn w.tag) ws x.waiting h x.there)))

-- ---- keys that are apart

pub same_key : (a b c d : ℕ) → a ≡ c → b ≡ d → (eqb a c && eqb b d) ≡ true
same_key a b c d e f = grind (arith, nat_tests)

pub key_parts : (a b c d : ℕ) → (eqb a c && eqb b d) ≡ true → (a ≡ c) × (b ≡ d)
key_parts a b c d h = let p = and_parts (eqb a c) (eqb b d) h in (eqb-true a c p.0, eqb-true b d p.1)

-- two members with one key are one
pub apart_same : (ws : List Waiting) (w v : Waiting) → AreApart ws → IsIn ws w → IsIn ws v
    → w.conn ≡ v.conn → w.tag ≡ v.tag → w ≡ v
apart_same [] w v apart i j c t = absurd i
apart_same (x ∷ ws) w v apart (inl i) (inl j) c t = sym i ∙ j
apart_same (x ∷ ws) w v apart (inl i) (inr j) c t =
    absurd (both_ways (list_any (is_waiting x.conn x.tag) ws) apart.0 (any_in (is_waiting x.conn x.tag) ws v j
    (same_key v.conn v.tag x.conn x.tag (sym c ∙ ap (λ (y : Waiting). y.conn) (sym i))
    (sym t ∙ ap (λ (y : Waiting). y.tag) (sym i)))))
apart_same (x ∷ ws) w v apart (inr i) (inl j) c t =
    absurd (both_ways (list_any (is_waiting x.conn x.tag) ws) apart.0 (any_in (is_waiting x.conn x.tag) ws w i
    (same_key w.conn w.tag x.conn x.tag (c ∙ ap (λ (y : Waiting). y.conn) (sym j))
    (t ∙ ap (λ (y : Waiting). y.tag) (sym j)))))
apart_same (x ∷ ws) w v apart (inr i) (inr j) c t = apart_same ws w v apart.1 i j c t

none_without : (p q : Waiting → Bool) (ws : List Waiting) → list_any p ws ≡ false → list_any p (without q ws) ≡ false
none_without p q ws h =
    false_from_ne_true (list_any p (without q ws)) (λ t. let k = which_any p (without q ws) t in
    both_ways (list_any p ws) h (any_in p ws k.0 (in_without q ws k.0 k.1).0 k.2))

pub apart_without : (q : Waiting → Bool) (ws : List Waiting) → AreApart ws → AreApart (without q ws)
apart_without q [] apart = tt
apart_without q (w ∷ ws) apart =
    elim (q w) as (λ b. AreApart (cond (not b) (w ∷ without q ws) (without q ws))) [
      | true ↦ apart_without q ws apart.1
      | false ↦ (none_without (is_waiting w.conn w.tag) q ws apart.0, apart_without q ws apart.1)
    ]

pub apart_push : (ws : List Waiting) (w : Waiting) → AreApart ws → list_any (is_waiting w.conn w.tag) ws ≡ false →
    AreApart (ws ++ w ∷ [])
apart_push [] w apart none = (refl, tt)
apart_push (x ∷ ws) w apart none =
    let parts : (is_waiting w.conn w.tag x ≡ false) × (list_any (is_waiting w.conn w.tag) ws ≡ false) =
    or_parts (is_waiting w.conn w.tag x) (list_any (is_waiting w.conn w.tag) ws) none in
    (pushed x.conn x.tag ws apart.0 (turned x parts.0), apart_push ws w apart.1 parts.1)
  where
    turned : (x : Waiting) → is_waiting w.conn w.tag x ≡ false → is_waiting x.conn x.tag w ≡ false
    turned x h = false_from_ne_true (is_waiting x.conn x.tag w) (λ k. let p = key_parts w.conn w.tag x.conn x.tag k in
        both_ways (is_waiting w.conn w.tag x) h (same_key x.conn x.tag w.conn w.tag (sym p.0) (sym p.1)))

    pushed : (c t : ℕ) (vs : List Waiting) → list_any (is_waiting c t) vs ≡ false → is_waiting c t w ≡ false →
        list_any (is_waiting c t) (vs ++ w ∷ []) ≡ false
    pushed c t [] h k = ap (λ (b : Bool). b || false) k
    pushed c t (v ∷ vs) h k =
        let parts : (is_waiting c t v ≡ false) × (list_any (is_waiting c t) vs ≡ false) = or_parts (is_waiting c t v)
        (list_any (is_waiting c t) vs) h in
        ap (λ (b : Bool). b || list_any (is_waiting c t) (vs ++ w ∷ [])) parts.0 ∙ pushed c t vs parts.1 k

-- of those that pass and have a member's key, there is one where that one passes
pub any_apart : (p : Waiting → Bool) (ws : List Waiting) (w : Waiting) → AreApart ws → IsIn ws w
    → list_any (λ v. p v && (eqb w.conn v.conn && eqb w.tag v.tag)) ws ≡ p w
any_apart p ws w apart i = by (p w) refl
  where
    test : Waiting → Bool
    test v = p v && (eqb w.conn v.conn && eqb w.tag v.tag)

    by : (b : Bool) → p w ≡ b → list_any (λ v. p v && (eqb w.conn v.conn && eqb w.tag v.tag)) ws ≡ b
    by true e = any_in (λ v. p v && (eqb w.conn v.conn && eqb w.tag v.tag)) ws w i
        (ap (λ (b : Bool). b && (eqb w.conn w.conn && eqb w.tag w.tag)) e
        ∙ same_key w.conn w.tag w.conn w.tag refl refl)
    by false e =
        false_from_ne_true (list_any (λ v. p v && (eqb w.conn v.conn && eqb w.tag v.tag)) ws) (λ t.
        let k = which_any (λ v. p v && (eqb w.conn v.conn && eqb w.tag v.tag)) ws t in
        let parts = and_parts (p k.0) (eqb w.conn k.0.conn && eqb w.tag k.0.tag) k.2 in
        let key = key_parts w.conn w.tag k.0.conn k.0.tag parts.1 in
        both_ways (p w) e (ap p (apart_same ws w k.0 apart i k.1 key.0 key.1) ∙ parts.0))

-- ---- the reads of a kind of files are apart

abbrev pub is_named : {O : Type 0} → ℕ → ℕ → WaitingRead O → Bool
is_named conn tag x = eqb x.conn conn && eqb x.tag tag

module _ {O : Type 0} where
  ReadsApart : List (WaitingRead O) → Type 0
  ReadsApart [] = Unit {0}
  ReadsApart (x ∷ xs) = (list_any (is_named x.conn x.tag) xs ≡ false) × ReadsApart xs

  none_read : (which : Fid → Option O) (t : Tables) (c g : ℕ) (ws : List Waiting)
      → list_any (is_waiting c g) ws ≡ false → list_any (is_named c g) (reads_in which t ws) ≡ false
  none_read which t c g [] h = refl
  none_read which t c g (w ∷ ws) h =
      let parts : (is_waiting c g w ≡ false) × (list_any (is_waiting c g) ws ≡ false) = or_parts (is_waiting c g w)
      (list_any (is_waiting c g) ws) h in
      elim (opening_by which (fid_of t w.conn w.fid)) as (λ o. list_any (is_named c g)
      (with_read o w (reads_in which t ws)) ≡ false) [
        | None ↦ none_read which t c g ws parts.1
        | Some o ↦ ap (λ (b : Bool). b || list_any (is_named c g) (reads_in which t ws)) parts.0
            ∙ none_read which t c g ws parts.1
      ]

  reads_apart : (which : Fid → Option O) (t : Tables) (ws : List Waiting) → AreApart ws
      → ReadsApart (reads_in which t ws)
  unfolding ReadsApart
  reads_apart which t [] apart = tt
  reads_apart which t (w ∷ ws) apart =
      elim (opening_by which (fid_of t w.conn w.fid)) as (λ o. ReadsApart (with_read o w (reads_in which t ws))) [
        | None ↦ reads_apart which t ws apart.1
        | Some o ↦ (none_read which t w.conn w.tag ws apart.0, reads_apart which t ws apart.1)
      ]

  module _ {A : Type 0} (tells : A → WaitingRead O) where
    -- whether it has this key
    abbrev pub has_key : ℕ → ℕ → A → Bool
    has_key c g r = is_named c g (tells r)

    abbrev pub AsksApart : List A → Type 0
    AsksApart [] = Unit {0}
    AsksApart (r ∷ rs) = (list_any (has_key (tells r).conn (tells r).tag) rs ≡ false) × AsksApart rs

    named_told : (c g : ℕ) (rs : List A) → list_any (is_named c g) (map tells rs) ≡ list_any (has_key c g) rs
    named_told c g [] = refl
    named_told c g (r ∷ rs) = ap (λ (b : Bool). has_key c g r || b) (named_told c g rs)

    told_apart : (rs : List A) → ReadsApart (map tells rs) → AsksApart rs
    unfolding ReadsApart
    told_apart [] h = tt
    told_apart (r ∷ rs) h = (sym (named_told (tells r).conn (tells r).tag rs) ∙ h.0, told_apart rs h.1)

    pub askers_apart : (which : Fid → Option O) (t : Tables) (ws : List Waiting) (rs : List A)
        → reads_in which t ws ≡ map tells rs → AreApart ws → AsksApart rs
    askers_apart which t ws rs same apart = told_apart rs (subst ReadsApart same (reads_apart which t ws apart))

    -- a key that no read of the sessions has
    pub none_asks : (which : Fid → Option O) (t : Tables) (c g : ℕ) (ws : List Waiting) (rs : List A)
        → reads_in which t ws ≡ map tells rs → list_any (is_waiting c g) ws ≡ false → list_any (has_key c g) rs ≡ false
    none_asks which t c g ws rs same none = sym (named_told c g rs) ∙ ap (list_any (is_named c g)) (sym same)
        ∙ none_read which t c g ws none

    -- ---- the first that passes goes

    no_read_without : (q : A → Bool) (c g : ℕ) (rs : List A) → list_any (has_key c g) rs ≡ false →
        list_any (has_key c g) (without q rs) ≡ false
    no_read_without q c g rs h =
        false_from_ne_true (list_any (has_key c g) (without q rs)) (λ t.
        let k = which_any (has_key c g) (without q rs) t in
        both_ways (list_any (has_key c g) rs) h (any_in (has_key c g) rs k.0 (in_without q rs k.0 k.1).0 k.2))

    kept : (c g : ℕ) (vs : List A) → list_any (has_key c g) vs ≡ false → without (has_key c g) vs ≡ vs
    kept c g [] k = refl
    kept c g (v ∷ vs) k =
        let parts : (has_key c g v ≡ false) × (list_any (has_key c g) vs ≡ false) = or_parts (has_key c g v)
        (list_any (has_key c g) vs) k in
        ap (λ (b : Bool). cond (not b) (v ∷ without (has_key c g) vs) (without (has_key c g) vs)) parts.0
        ∙ ap (λ (l : List A). v ∷ l) (kept c g vs parts.1)

    pub asks_without : (q : A → Bool) (rs : List A) → AsksApart rs → AsksApart (without q rs)
    asks_without q [] apart = tt
    asks_without q (r ∷ rs) apart =
        elim (q r) as (λ b. AsksApart (cond (not b) (r ∷ without q rs) (without q rs))) [
          | true ↦ asks_without q rs apart.1
          | false ↦ (no_read_without q (tells r).conn (tells r).tag rs apart.0, asks_without q rs apart.1)
        ]

    -- a key that no read has isn't this one's
    pub not_that : (c g : ℕ) (rs : List A) (r : A) → list_any (has_key c g) rs ≡ false → IsIn rs r
        → (eqb c (tells r).conn && eqb g (tells r).tag) ≡ false
    not_that c g rs r none i =
        false_from_ne_true (eqb c (tells r).conn && eqb g (tells r).tag) (λ t. let parts = key_parts c g (tells r).conn
        (tells r).tag t in
        both_ways (list_any (has_key c g) rs) none (any_in (has_key c g) rs r i
        (same_key (tells r).conn (tells r).tag c g (sym parts.0) (sym parts.1))))

    -- what takes the first one that passes out of a list
    module _ (first : (A → Bool) → List A → List A) (none : (p : A → Bool) → first p [] ≡ [])
        (one : (p : A → Bool) (x : A) (xs : List A) → first p (x ∷ xs) ≡ cond (p x) xs (x ∷ first p xs)) where
      pub none_first : (p q : A → Bool) (rs : List A) → list_any p rs ≡ false → list_any p (first q rs) ≡ false
      none_first p q [] h = ap (list_any p) (none q)
      none_first p q (r ∷ rs) h =
          let parts : (p r ≡ false) × (list_any p rs ≡ false) = or_parts (p r) (list_any p rs) h in
          ap (list_any p) (one q r rs)
          ∙ (elim (q r) as (λ b. list_any p (cond b rs (r ∷ first q rs)) ≡ false) [
            | true ↦ parts.1
            | false ↦ ap (λ (b : Bool). b || list_any p (first q rs)) parts.0 ∙ none_first p q rs parts.1
          ])

      pub first_without : (p : A → Bool) (rs : List A) (r : A) → find p rs ≡ Some r → AsksApart rs
          → first p rs ≡ without (has_key (tells r).conn (tells r).tag) rs
      first_without p [] r h apart = absurd cc
      first_without p (x ∷ rs) r h apart = one p x rs ∙ by (p x) (λ j. first_without p rs r j apart.1) h
        where
          by : (b : Bool) → (find p rs ≡ Some r → first p rs ≡ without (has_key (tells r).conn (tells r).tag) rs)
              → cond b (Some x) (find p rs) ≡ Some r
              → cond b rs (x ∷ first p rs) ≡ without (has_key (tells r).conn (tells r).tag) (x ∷ rs)
          by true later j =
              let same : x ≡ r = cc in
              let mine : A → Bool = has_key (tells x).conn (tells x).tag in
              subst (λ (y : A). rs ≡ without (has_key (tells y).conn (tells y).tag) (x ∷ rs)) same
              (sym (ap (λ (b : Bool). cond (not b) (x ∷ without mine rs) (without mine rs))
              (same_key (tells x).conn (tells x).tag (tells x).conn (tells x).tag refl refl)
              ∙ kept (tells x).conn (tells x).tag rs apart.0))
          by false later j =
              let its : A → Bool = has_key (tells r).conn (tells r).tag in
              let other : its x ≡ false = false_from_ne_true (its x)
              (λ k. let q = key_parts (tells x).conn (tells x).tag (tells r).conn (tells r).tag k in
              both_ways (list_any (has_key (tells x).conn (tells x).tag) rs) apart.0
              (any_in (has_key (tells x).conn (tells x).tag) rs r (found p rs r j)
              (same_key (tells r).conn (tells r).tag (tells x).conn (tells x).tag (sym q.0) (sym q.1)))) in
              ap (λ (l : List A). x ∷ l) (later j)
              ∙ sym (ap (λ (b : Bool). cond (not b) (x ∷ without its rs) (without its rs)) other)

-- ---- other sessions with the same fids of these reads

module _ {O : Type 0} (which : Fid → Option O) where
  pub reads_same : (t u : Tables) (ws : List Waiting)
      → ((w : Waiting) → IsIn ws w → opening_by which (fid_of u w.conn w.fid)
      ≡ opening_by which (fid_of t w.conn w.fid))
      → reads_in which u ws ≡ reads_in which t ws
  reads_same t u [] h = refl
  reads_same t u (w ∷ ws) h =
      ap (λ (o : Option O). with_read o w (reads_in which u ws)) (h w (inl refl))
      ∙ ap (with_read (opening_by which (fid_of t w.conn w.fid)) w) (reads_same t u ws (λ v i. h v (inr i)))

  pub reads_push : (t : Tables) (ws : List Waiting) (w : Waiting)
      → reads_in which t (ws ++ w ∷ []) ≡ reads_in which t ws
      ++ with_read (opening_by which (fid_of t w.conn w.fid)) w []
  reads_push t [] w = refl
  reads_push t (v ∷ ws) w = by (opening_by which (fid_of t v.conn v.fid)) (reads_push t ws w)
    where
      by : (o : Option O) → reads_in which t (ws ++ w ∷ []) ≡ reads_in which t ws
          ++ with_read (opening_by which (fid_of t w.conn w.fid)) w []
          → with_read o v (reads_in which t (ws ++ w ∷ [])) ≡ with_read o v (reads_in which t ws)
          ++ with_read (opening_by which (fid_of t w.conn w.fid)) w []
      by None later = later
      by (Some o) later =
          ap (λ (l : List (WaitingRead O)). record { conn = v.conn; tag = v.tag; opening = o } ∷ l) later

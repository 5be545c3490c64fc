-- Where texts end.
use Rattle.std.proofs.Common.{◌≡◌, ℕ, suc, ◌+◌, ◌<◌, ◌≤◌, ◌==◌, ◌&&◌, ◌||◌, Bool, true, false, not, List, [], ◌∷◌, ◌++◌}
use Rattle.std.proofs.Common.{length, get_or, drop, Option, Some, None, refl, sym, ap, subst, ◌∙◌, arith, append-nil}
use Rattle.std.specs.Prelude.{slice_range, if◌then◌else◌}
use Rattle.std.proofs.lemmas.Bool.{eqb-true, and_parts, and_right, or_parts}
use Rattle.std.proofs.lemmas.List.{length-append, length-drop, drop_more}
use Rattle.addr_syntax.specs.Marks.{next_of}
use Rattle.addr_syntax.specs.Scan.{body_length, is_whole}
use Rattle.addr_syntax.proofs.Bodies.{whole_length}
use Rattle.edit_parts.specs.Kinds.{ends_line, is_next}
use Rattle.edit_parts.specs.Texts.{are_lines, lines_length, line_length, has_newline, Closed, Lines, RestOfLine}
use Rattle.edit_parts.specs.Read.{IsReadBy, IsBadBy, IsClosedAt, IsDotAt, anything}
use Rattle.edit_parts.proofs.Parts.{cut_found, regroup, all_behind, nothing_behind, solid_ends}

not_true : (b : Bool) → not b ≡ true → b ≡ false
not_true true e = absurd cc
not_true false e = refl

-- ---- up to a `/` behind no backslash

abbrev pub ClosedFound : Bool → List ℕ → Type 0
ClosedFound e t = (b rest : List ℕ) × (t ≡ b ++ 47 ∷ rest) × (is_whole 47 e b ≡ true) × (length b ≡ body_length 47 e t)

closed_found : (e : Bool) (t : List ℕ) → body_length 47 e t < length t → ClosedFound e t
closed_found true [] l = absurd (omega (arith, l))
closed_found false [] l = absurd (omega (arith, l))
closed_found true (c ∷ cs) l = let s = closed_found false cs (omega (arith, l)) in
    (c ∷ s.0, s.1, ap (λ (x : List ℕ). c ∷ x) s.2, s.3, omega (arith, s.4))
closed_found false (c ∷ cs) l = go (47 == c) refl (λ h. closed_found (c == 92) cs h)
  where
    go : (v : Bool) → (47 == c) ≡ v → (body_length 47 (c == 92) cs < length cs → ClosedFound (c == 92) cs)
        → ClosedFound false (c ∷ cs)
    go true f k = (
      [],
      cs,
      ap (λ z. z ∷ cs) (sym (eqb-true 47 c f)),
      refl,
      sym (ap (λ (v : Bool). if v then 0 else body_length 47 (c == 92) cs + 1) f),
    )
    go false f k =
        let long : body_length 47 false (c ∷ cs) ≡ body_length 47 (c == 92) cs + 1 =
        ap (λ (v : Bool). if v then 0 else body_length 47 (c == 92) cs + 1) f in
        let s = k (omega (arith, l, long)) in (
          c ∷ s.0,
          s.1,
          ap (λ (x : List ℕ). c ∷ x) s.2,
          ap (λ (v : Bool). if v then false else is_whole 47 (c == 92) s.0)
              f ∙ s.3,
          omega (arith, s.4, long),
        )

abbrev pub ClosedMore : Bool → List ℕ → Type 0
ClosedMore e t = (more : List ℕ) × (is_whole 47 e (t ++ more) ≡ true) × (is_next 32 (next_of more) ≡ false)

closed_more : (e : Bool) (t : List ℕ) → body_length 47 e t ≡ length t → ClosedMore e t
closed_more true [] l = (47 ∷ [], refl, refl)
closed_more false [] l = ([], refl, refl)
closed_more true (c ∷ cs) l = closed_more false cs (omega (arith, l))
closed_more false (c ∷ cs) l = go (47 == c) refl (λ h. closed_more (c == 92) cs h)
  where
    go : (v : Bool) → (47 == c) ≡ v → (body_length 47 (c == 92) cs ≡ length cs → ClosedMore (c == 92) cs)
        → ClosedMore false (c ∷ cs)
    go true f k =
        let long : body_length 47 false (c ∷ cs) ≡ 0 = ap (λ (v : Bool). if v then 0 else body_length 47 (c == 92)
        cs + 1) f in
        absurd (omega (arith, l, long))
    go false f k =
        let long : body_length 47 false (c ∷ cs) ≡ body_length 47 (c == 92) cs + 1 =
        ap (λ (v : Bool). if v then 0 else body_length 47 (c == 92) cs + 1) f in
        let s = k (omega (arith, l, long)) in
        (s.0, ap (λ (v : Bool). if v then false else is_whole 47 (c == 92) (cs ++ s.0)) f ∙ s.1, s.2)

pub body_short : (e : Bool) (t : List ℕ) → body_length 47 e t ≤ length t
body_short true [] = omega arith
body_short false [] = omega arith
body_short true (c ∷ cs) = omega (arith, body_short false cs)
body_short false (c ∷ cs) = go (47 == c) refl (body_short (c == 92) cs)
  where
    go : (v : Bool) → (47 == c) ≡ v → body_length 47 (c == 92) cs ≤ length cs
        → body_length 47 false (c ∷ cs) ≤ suc (length cs)
    go true f k =
        let long : body_length 47 false (c ∷ cs) ≡ 0 = ap (λ (v : Bool). if v then 0 else body_length 47 (c == 92)
        cs + 1) f in
        omega (arith, long)
    go false f k =
        let long : body_length 47 false (c ∷ cs) ≡ body_length 47 (c == 92) cs + 1 =
        ap (λ (v : Bool). if v then 0 else body_length 47 (c == 92) cs + 1) f in
        omega (arith, long, k)

-- how long a closed text is
pub closed_length : (b rest : List ℕ) → is_whole 47 false b ≡ true → body_length 47 false (b ++ 47 ∷ rest) ≡ length b
closed_length b rest w = whole_length 47 false b (47 ∷ rest) w refl

pub closed_at : (text : List ℕ) (from end : ℕ) → from ≤ length text → end ≡ from + body_length 47 false (drop from text)
    → end < length text → IsClosedAt text from end
closed_at text from end l e m =
    let s = closed_found false (drop from text) (omega (arith, e, m, length-drop from text)) in
    let c = cut_found text from end s.0 (47 ∷ s.1) (omega (arith, e)) s.2 (omega (arith, e, s.4)) in
    let front : get_or text end 0 ∷ drop (end + 1) text ≡ 47 ∷ s.1 = sym (drop_more text end 0 m) ∙ c.1 in
    record { order = omega (arith, e); inside = m; body = ap (is_whole 47 false) c.0 ∙ s.3; slash = cc }

pub never_closed : (text : List ℕ) (from end : ℕ) → from ≤ length text
    → end ≡ from + body_length 47 false (drop from text) → end ≡ length text
    → IsBadBy (List ℕ) Closed anything text from end
never_closed text from end l e ends = record {
  order = omega (arith, e);
  within = omega (arith, ends);
  before = (
    m.0 ++ 47 ∷ [],
    drop from text ++ m.0,
    λ f. solid_ends m.0 47 refl m.2,
    λ rest h. (ap (λ (t : List ℕ). (t ++ (m.0 ++ 47 ∷ [])) ++ rest) all ∙ regroup (drop from text) m.0 rest 47, m.1),
  );
  dead = λ more n t rest y.
      let none : more ≡ [] = nothing_behind text end more ends n in
      let whole : drop from text ≡ t ++ 47 ∷ rest = sym all ∙ sym (append-nil (slice_range text from end))
      ∙ ap (λ (x : List ℕ). slice_range text from end ++ x) (sym none) ∙ y.0 in
      let long : body_length 47 false (drop from text) ≡ length t = ap (body_length 47 false) whole
      ∙ closed_length t rest y.1 in
      omega (arith, full, long, ap length whole, length-append t (47 ∷ rest));
}
  where
    all : slice_range text from end ≡ drop from text
    all = all_behind text from end (omega (arith, e)) ends

    full : body_length 47 false (drop from text) ≡ length (drop from text)
    full = omega (arith, e, ends, l, length-drop from text)

    m : ClosedMore false (drop from text)
    m = closed_more false (drop from text) full

-- ---- up to a line `.`

-- a line `.` is here
abbrev pub is_dot_line : Bool → ℕ → Option ℕ → Bool
is_dot_line starts c next = starts && (c == 46) && ends_line next

newline_starts : (s : Bool) → are_lines s (10 ∷ []) ≡ true
newline_starts true = refl
newline_starts false = refl

more_lines : (s : Bool) (c : ℕ) (b rest : List ℕ) → is_dot_line s c (next_of (b ++ 46 ∷ rest)) ≡ false →
    are_lines (c == 10) b ≡ true → are_lines s (c ∷ b) ≡ true
more_lines s c [] rest f w = subst (λ z. are_lines s (z ∷ []) ≡ true) (sym (eqb-true c 10 w)) (newline_starts s)
more_lines s c (x ∷ xs) rest f w = ap (λ (v : Bool). not v && are_lines (c == 10) (x ∷ xs)) f ∙ w

abbrev pub DotFound : Bool → List ℕ → Type 0
DotFound s t = (b rest : List ℕ) × (t ≡ b ++ 46 ∷ rest) × (are_lines s b ≡ true) × (ends_line (next_of rest) ≡ true)
    × (length b ≡ lines_length s t)

dot_found : (s : Bool) (t : List ℕ) → lines_length s t < length t → DotFound s t
dot_found s [] l = absurd (omega (arith, l))
dot_found s (c ∷ cs) l = go (is_dot_line s c (next_of cs)) refl (λ h. dot_found (c == 10) cs h)
  where
    go : (v : Bool) → is_dot_line s c (next_of cs) ≡ v → (lines_length (c == 10) cs < length cs → DotFound (c == 10) cs)
        → DotFound s (c ∷ cs)
    go true f k =
        let p = and_parts (s && (c == 46)) (ends_line (next_of cs)) f in
        let q = and_parts s (c == 46) p.0 in (
          [],
          cs,
          ap (λ z. z ∷ cs) (eqb-true c 46 q.1),
          q.0,
          p.1,
          sym
              (ap (λ (v : Bool). if v then 0 else lines_length (c == 10) cs + 1) f),
        )
    go false f k =
        let long : lines_length s (c ∷ cs) ≡ lines_length (c == 10) cs + 1 =
        ap (λ (v : Bool). if v then 0 else lines_length (c == 10) cs + 1) f in
        let r = k (omega (arith, l, long)) in (
          c ∷ r.0,
          r.1,
          ap (λ (x : List ℕ). c ∷ x) r.2,
          more_lines s c r.0 r.1
              (ap (λ (x : List ℕ). is_dot_line s c (next_of x)) (sym r.2) ∙ f) r.3,
          r.4,
          omega (arith, r.5, long),
        )

no_dot_line : (s : Bool) (c : ℕ) (cs rest : List ℕ) → are_lines s (c ∷ cs) ≡ true →
    (is_dot_line s c (next_of (cs ++ 46 ∷ rest)) ≡ false) × (are_lines (c == 10) cs ≡ true)
no_dot_line s c [] rest w = (
  and_right (s && (c == 46)) false refl,
  (and_parts (not (is_dot_line s c None)) (are_lines (c == 10) []) w).1,
)
no_dot_line s c (x ∷ xs) rest w =
    let p = and_parts (not (is_dot_line s c (Some x))) (are_lines (c == 10) (x ∷ xs)) w in
    (not_true (is_dot_line s c (Some x)) p.0, p.1)

-- how long lines before a line `.` are
pub dot_length : (s : Bool) (b rest : List ℕ) → are_lines s b ≡ true → ends_line (next_of rest) ≡ true → lines_length s
    (b ++ 46 ∷ rest) ≡ length b
dot_length true [] rest w e = ap (λ (v : Bool). if v then 0 else lines_length false rest + 1) e
dot_length false [] rest w e = absurd cc
dot_length s (c ∷ cs) rest w e =
    let p = no_dot_line s c cs rest w in
    let long : lines_length s (c ∷ cs ++ 46 ∷ rest) ≡ lines_length (c == 10) (cs ++ 46 ∷ rest) + 1 =
    ap (λ (v : Bool). if v then 0 else lines_length (c == 10) (cs ++ 46 ∷ rest) + 1) p.0 in
    omega (arith, long, dot_length (c == 10) cs rest p.1 e)

abbrev pub DotMore : Bool → List ℕ → Type 0
DotMore s t = (more : List ℕ) × (are_lines s (t ++ more) ≡ true) × (is_next 32 (next_of more) ≡ false)

never_true : (a b : Bool) → a && true ≡ false → a && b ≡ false
never_true true b e = absurd cc
never_true false b e = refl

still_none : (s : Bool) (c : ℕ) (cs more : List ℕ) → is_dot_line s c (next_of cs) ≡ false → is_dot_line s c
    (next_of (cs ++ more)) ≡ false
still_none s c [] more f = never_true (s && (c == 46)) (ends_line (next_of more)) f
still_none s c (x ∷ xs) more f = f

dot_more : (s : Bool) (t : List ℕ) → lines_length s t ≡ length t → DotMore s t
dot_more true [] l = ([], refl, refl)
dot_more false [] l = (10 ∷ [], refl, refl)
dot_more s (c ∷ cs) l = go (is_dot_line s c (next_of cs)) refl (λ h. dot_more (c == 10) cs h)
  where
    go : (v : Bool) → is_dot_line s c (next_of cs) ≡ v → (lines_length (c == 10) cs ≡ length cs → DotMore (c == 10) cs)
        → DotMore s (c ∷ cs)
    go true f k =
        let long : lines_length s (c ∷ cs) ≡ 0 = ap (λ (v : Bool). if v then 0 else lines_length (c == 10) cs + 1) f in
        absurd (omega (arith, l, long))
    go false f k =
        let long : lines_length s (c ∷ cs) ≡ lines_length (c == 10) cs + 1 =
        ap (λ (v : Bool). if v then 0 else lines_length (c == 10) cs + 1) f in
        let r = k (omega (arith, l, long)) in
        (r.0, ap (λ (v : Bool). not v && are_lines (c == 10) (cs ++ r.0)) (still_none s c cs r.0 f) ∙ r.1, r.2)

pub dot_at : (text : List ℕ) (from end : ℕ) → from ≤ length text → end ≡ from + lines_length true (drop from text)
    → end < length text → IsDotAt text from end
dot_at text from end l e m =
    let s = dot_found true (drop from text) (omega (arith, e, m, length-drop from text)) in
    let c = cut_found text from end s.0 (46 ∷ s.1) (omega (arith, e)) s.2 (omega (arith, e, s.5)) in
    let front : get_or text end 0 ∷ drop (end + 1) text ≡ 46 ∷ s.1 = sym (drop_more text end 0 m) ∙ c.1 in
    let tail : drop (end + 1) text ≡ s.1 = cc in
    record {
      order = omega (arith, e);
      inside = m;
      lines = ap (are_lines true) c.0
          ∙ s.3;
      dot = cc;
      ends = ap (λ (t : List ℕ). ends_line (next_of t)) tail ∙ s.4;
    }

pub never_dot : (text : List ℕ) (from end : ℕ) → from ≤ length text → end ≡ from + lines_length true (drop from text)
    → end ≡ length text → IsBadBy (List ℕ) Lines ends_line text from end
never_dot text from end l e ends = record {
  order = omega (arith, e);
  within = omega (arith, ends);
  before = (
    m.0 ++ 46 ∷ [],
    drop from text ++ m.0,
    λ f. solid_ends m.0 46 refl m.2,
    λ rest h. (
      ap (λ (t : List ℕ). (t ++ (m.0 ++ 46 ∷ [])) ++ rest) all
          ∙ regroup (drop from text) m.0 rest 46,
      m.1,
      h,
    ),
  );
  dead = λ more n t rest y.
      let none : more ≡ [] = nothing_behind text end more ends n in
      let whole : drop from text ≡ t ++ 46 ∷ rest = sym all ∙ sym (append-nil (slice_range text from end))
      ∙ ap (λ (x : List ℕ). slice_range text from end ++ x) (sym none) ∙ y.0 in
      let long : lines_length true (drop from text) ≡ length t = ap (lines_length true) whole
      ∙ dot_length true t rest y.1 y.2 in
      omega (arith, full, long, ap length whole, length-append t (46 ∷ rest));
}
  where
    all : slice_range text from end ≡ drop from text
    all = all_behind text from end (omega (arith, e)) ends

    full : lines_length true (drop from text) ≡ length (drop from text)
    full = omega (arith, e, ends, l, length-drop from text)

    m : DotMore true (drop from text)
    m = dot_more true (drop from text) full

-- ---- up to the line's end

abbrev pub LineFound : List ℕ → Type 0
LineFound t = (b rest : List ℕ) × (t ≡ b ++ rest) × (has_newline b ≡ false) × (ends_line (next_of rest) ≡ true)
    × (length b ≡ line_length t)

line_found : (t : List ℕ) → LineFound t
line_found [] = ([], [], refl, refl, refl, refl)
line_found (c ∷ cs) = go (c == 10) refl (line_found cs)
  where
    go : (v : Bool) → (c == 10) ≡ v → LineFound cs → LineFound (c ∷ cs)
    go true f r = ([], c ∷ cs, refl, refl, f, sym (ap (λ (v : Bool). if v then 0 else line_length cs + 1) f))
    go false f r =
        let long : line_length (c ∷ cs) ≡ line_length cs + 1 = ap (λ (v : Bool). if v then 0 else line_length cs + 1)
        f in (
          c ∷ r.0,
          r.1,
          ap (λ (x : List ℕ). c ∷ x) r.2,
          ap (λ (v : Bool). v || has_newline r.0) f
              ∙ r.3,
          r.4,
          omega (arith, r.5, long),
        )

pub rest_length : (b rest : List ℕ) → has_newline b ≡ false → ends_line (next_of rest) ≡ true →
    line_length (b ++ rest) ≡ length b
rest_length [] [] w e = refl
rest_length [] (c ∷ cs) w e = ap (λ (v : Bool). if v then 0 else line_length cs + 1) e
rest_length (c ∷ cs) rest w e =
    let p = or_parts (c == 10) (has_newline cs) w in
    let long : line_length (c ∷ cs ++ rest) ≡ line_length (cs ++ rest) + 1 =
    ap (λ (v : Bool). if v then 0 else line_length (cs ++ rest) + 1) p.0 in
    omega (arith, long, rest_length cs rest p.1 e)

pub line_read : (text : List ℕ) (from end : ℕ) → from ≤ length text → end ≡ from + line_length (drop from text)
    → end ≤ length text → IsReadBy (RestOfLine (slice_range text from end)) text from end
line_read text from end l e m =
    let s = line_found (drop from text) in
    let c = cut_found text from end s.0 s.1 (omega (arith, e)) s.2 (omega (arith, e, s.5)) in
    record {
      order = omega (arith, e);
      within = m;
      written = λ rest h. (
        refl,
        ap has_newline c.0 ∙ s.3,
        ap ends_line h
            ∙ ap (λ (t : List ℕ). ends_line (next_of t)) c.1 ∙ s.4,
      );
    }

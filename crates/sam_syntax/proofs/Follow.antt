-- What the program follows with one piece more.
use Rattle.std.proofs.Common.{◌≡◌, ℕ, ◌<◌, ◌≤◌, ◌||◌, Bool, true, false, List, [], ◌∷◌, length, Option, Some, None}
use Rattle.std.proofs.Common.{refl, sym, ap, subst, ◌∙◌, arith}
use Rattle.std.specs.Prelude.{nat_lt, if◌then◌else◌, IfSome, IfNone}
use Rattle.std.proofs.lemmas.Bool.{le-ltb, lt-ltb, ltb-false}
use borrow.Author.Tests.{ltb-true}
use Rattle.re_syntax.specs.Tree as expression
use Rattle.re_syntax.specs.declared.re.Re.{Re}
use Rattle.addr_syntax.specs.Tree as address
use Rattle.addr_syntax.specs.Answer.{IsLimited}
use Rattle.addr_syntax.specs.declared.address.Addr.{Addr}
use Rattle.addr_syntax.specs.declared.address.Limited.TheVariants as limited
use Rattle.edit_parts.specs.Tree.{Loop, Action, action, command}
use Rattle.edit_parts.specs.Pieces.{Piece, Blank, At, Loops, Opens, Does}
use Rattle.edit_parts.specs.Answer.{IsBuiltExpression, IsBuiltAction}
use Rattle.edit_parts.specs.declared.command.Act.{Act}
use Rattle.sam_syntax.specs.Limits.{levels, is_large, is_long, is_deep}
use Rattle.sam_syntax.specs.Joined.{OpenBlock, Line, Opened, Looping, Addressed, Ended, Reading, after_piece, is_done}
use Rattle.sam_syntax.specs.Joined.{close_all, command_of, whole}
use Rattle.sam_syntax.specs.Depth.{depth, level_of}
use Rattle.sam_syntax.specs.Position.{place_of, position_of, position_if, is_end}
use Rattle.sam_syntax.specs.Read.{line_is, reading_of, IsNext, Follows, GoesTo, Joins, whole_if, piece_large}
use Rattle.sam_syntax.specs.Read.{piece_long, PastFails, FinishFails}
use Rattle.sam_syntax.specs.Answer.{IsInLimits}
use Rattle.addr_syntax.specs.declared.address.SynFault.{SynFault}
use Rattle.addr_syntax.specs.declared.address.SynFault.TheVariants as fault
use Rattle.edit_parts.specs.declared.command.Cmd.{Cmd}
use Rattle.sam_syntax.specs.declared.position.Position.{Position}
use Rattle.sam_syntax.specs.declared.reading.Sheet.{Sheet}
use Rattle.sam_syntax.specs.declared.progress.Limit.{Limit}
use Rattle.sam_syntax.specs.declared.progress.Limit.TheVariants.{Deep, Large}
use Rattle.sam_syntax.specs.declared.progress.Progress.{Progress}
use Rattle.sam_syntax.specs.declared.progress.Progress.TheVariants.{Whole, Past}
use Rattle.sam_syntax.proofs.Counts.{joined_levels, joined_large, joined_long, depth_levels}

or_false_both : (x y : Bool) → (x || y) ≡ false → (x ≡ false) × (y ≡ false)
or_false_both true y e = absurd cc
or_false_both false y e = (refl, e)

or_true_left : (x y : Bool) → x ≡ true → (x || y) ≡ true
or_true_left x y e = ap (λ b. b || y) e

or_true_right : (x y : Bool) → y ≡ true → (x || y) ≡ true
or_true_right true y e = refl
or_true_right false y e = e

or_both : (x y : Bool) → x ≡ false → y ≡ false → (x || y) ≡ false
or_both x y e f = ap (λ b. b || y) e ∙ f

-- ---- the limits

few_levels : (r : Reading) (p : Piece) (s : Reading) → after_piece r p ≡ Some s
    → nat_lt 32 (levels (whole r).1) ≡ false → level_of r p ≤ 32 → nat_lt 32 (levels (whole s).1) ≡ false
few_levels r p s e f l = le-ltb 32 (levels (whole s).1) (omega (
  arith,
  joined_levels r p s e,
  ltb-false 32 (levels (whole r).1) f,
  l,
))

stays_shallow : (r : Reading) (p : Piece) (s : Reading) → after_piece r p ≡ Some s
    → is_deep (whole r) ≡ false → piece_long p ≡ false → level_of r p ≤ 32 → is_deep (whole s) ≡ false
stays_shallow r p s e f g l =
    let both = or_false_both (nat_lt 32 (levels (whole r).1)) (is_long (whole r)) f in
    or_both (nat_lt 32 (levels (whole s).1)) (is_long (whole s)) (few_levels r p s e both.0 l)
    (joined_long r p s e ∙ or_both (is_long (whole r)) (piece_long p) both.1 g)

stays_small : (r : Reading) (p : Piece) (s : Reading) → after_piece r p ≡ Some s
    → is_large (whole r) ≡ false → piece_large p ≡ false → is_large (whole s) ≡ false
stays_small r p s e f g = joined_large r p s e ∙ or_both (is_large (whole r)) (piece_large p) f g

stays_large : (r : Reading) (p : Piece) (s : Reading) → after_piece r p ≡ Some s
    → is_large (whole r) ≡ true → is_large (whole s) ≡ true
stays_large r p s e f = joined_large r p s e ∙ or_true_left (is_large (whole r)) (piece_large p) f

becomes_large : (r : Reading) (p : Piece) (s : Reading) → after_piece r p ≡ Some s
    → piece_large p ≡ true → is_large (whole s) ≡ true
becomes_large r p s e f = joined_large r p s e ∙ or_true_right (is_large (whole r)) (piece_large p) f

pub too_deep : (r : Reading) (p : Piece) (s : Reading) → after_piece r p ≡ Some s → 32 < level_of r p
    → is_deep (whole s) ≡ true
too_deep r p s e l =
    or_true_left (nat_lt 32 (levels (whole s).1)) (is_long (whole s))
    (lt-ltb 32 (levels (whole s).1) (omega (arith, joined_levels r p s e, l)))

pub becomes_deep : (r : Reading) (p : Piece) (s : Reading) → after_piece r p ≡ Some s
    → piece_long p ≡ true → is_deep (whole s) ≡ true
becomes_deep r p s e f =
    or_true_right (nat_lt 32 (levels (whole s).1)) (is_long (whole s))
    (joined_long r p s e ∙ or_true_right (is_long (whole r)) (piece_long p) f)

stays_deep : (r : Reading) (p : Piece) (s : Reading) → after_piece r p ≡ Some s
    → is_deep (whole r) ≡ true → is_deep (whole s) ≡ true
stays_deep r p s e f = go (nat_lt 32 (levels (whole r).1)) refl
  where
    go : (b : Bool) → nat_lt 32 (levels (whole r).1) ≡ b → is_deep (whole s) ≡ true
    go true t =
        or_true_left (nat_lt 32 (levels (whole s).1)) (is_long (whole s))
        (lt-ltb 32 (levels (whole s).1) (omega (arith, joined_levels r p s e, ltb-true 32 (levels (whole r).1) t)))
    go false t =
        let long : is_long (whole r) ≡ true = sym (ap (λ b. b || is_long (whole r)) t) ∙ f in
        or_true_right (nat_lt 32 (levels (whole s).1)) (is_long (whole s))
        (joined_long r p s e ∙ or_true_left (is_long (whole r)) (piece_long p) long)

-- ---- one piece more

next_reading : (r : Reading) (p : Piece) (next : Position) → position_if (after_piece r p) ≡ Some next → (s : Reading)
    × (after_piece r p ≡ Some s) × (next ≡ position_of s)
next_reading r p next e = go (after_piece r p) refl e
  where
    go : (o : Option Reading) → after_piece r p ≡ o → position_if o ≡ Some next → (s : Reading)
        × (after_piece r p ≡ Some s) × (next ≡ position_of s)
    go None t f = absurd cc
    go (Some s) t f = (s, t, cc)

-- there is room for the levels of a piece
abbrev pub Fits : Sheet → Piece → Type 0
Fits old p = old.depth ≡ depth (reading_of old) → is_deep (whole (reading_of old)) ≡ false → level_of (reading_of old)
    p ≤ 32

sheet_here : (old new : Sheet) (p : Piece) (next : Position) → IsNext old p new
    → piece_large p ≡ false → piece_long p ≡ false → Fits old p → old.depth ≡ depth (reading_of old)
    → is_large (whole (reading_of old)) ≡ false → is_deep (whole (reading_of old)) ≡ false → GoesTo (reading_of old) p
    next (Whole new)
sheet_here old new p next x small short fits d l g e = (
  reading_of new,
  x.0,
  (
    refl,
    x.1 d,
    stays_small (reading_of old) p (reading_of new) x.0 l small,
    stays_shallow (reading_of old) p (reading_of new) x.0 g short (fits d g),
  ),
)

sheet_goes : (old new : Sheet) (p : Piece) (next : Position) → IsNext old p new
    → piece_large p ≡ false → piece_long p ≡ false → Fits old p → Joins (Whole old) p next (Some (Whole new))
sheet_goes old new p next x small short fits r f =
    subst (λ (r : Reading). GoesTo r p next (Whole new)) f.0 (sheet_here old new p next x small short fits
    (f.1 ∙ ap depth (sym f.0)) (ap (λ (r : Reading). is_large (whole r)) f.0 ∙ f.2)
    (ap (λ (r : Reading). is_deep (whole r)) f.0 ∙ f.3))

pub kept_joins : (old : Sheet) (p : Piece) (next : Position) (o : Option Sheet) → IfSome o (IsNext old p)
    → IfNone o (after_piece (reading_of old) p ≡ None) → piece_large p ≡ false → piece_long p ≡ false → Fits old p
    → Joins (Whole old) p next (whole_if o)
kept_joins old p next None some none small short fits = λ r f. subst (λ (r : Reading). after_piece r p ≡ None) f.0 none
kept_joins old p next (Some new) some none small short fits = sheet_goes old new p next some small short fits

pub large_joins : (old : Progress) (p : Piece) (next : Position) → piece_large p ≡ true → Joins old p next
    (Some (Past next Large))
large_joins old p next l r f e =
    let n = next_reading r p next e in
    (n.0, n.1, (n.2, becomes_large r p n.0 n.1 l))

pub deep_joins : (old : Sheet) (p : Piece) (next : Position) → piece_large p ≡ false →
    ((r s : Reading) → Follows (Whole old) r → after_piece r p ≡ Some s → is_deep (whole s) ≡ true)
    → Joins (Whole old) p next (Some (Past next Deep))
deep_joins old p next l d r f e =
    let n = next_reading r p next e in
    (n.0, n.1, (n.2, stays_small r p n.0 n.1 f.2 l, d r n.0 f n.1))

past_deep : (at : Position) (p : Piece) (next : Position) → piece_large p ≡ false → Joins (Past at Deep) p next
    (Some (Past next Deep))
past_deep at p next l r f e =
    let n = next_reading r p next e in
    (n.0, n.1, (n.2, stays_small r p n.0 n.1 f.1 l, stays_deep r p n.0 n.1 f.2))

past_large : (at : Position) (p : Piece) (next : Position) → Joins (Past at Large) p next (Some (Past next Large))
past_large at p next r f e =
    let n = next_reading r p next e in
    (n.0, n.1, (n.2, stays_large r p n.0 n.1 f.1))

pub past_joins : (at : Position) (limit : Limit) (p : Piece) (next : Position)
    → Joins (Past at limit) p next (Some (Past next (if piece_large p then Large else limit)))
past_joins at limit p next = go (piece_large p) refl limit
  where
    go : (b : Bool) → piece_large p ≡ b → (l : Limit) → Joins (Past at l) p next
        (Some (Past next (if b then Large else l)))
    go true t l = large_joins (Past at l) p next t
    go false t Deep = past_deep at p next t
    go false t Large = past_large at p next

pub alone_joins : (old : Sheet) (p q : Piece) (next : Position) (o : Option Sheet) → p ≡ q → IfSome o (IsNext old q)
    → IfNone o (after_piece (reading_of old) q ≡ None) → piece_large q ≡ false → piece_long q ≡ false →
    level_of (reading_of old) q ≡ 0 → Joins (Whole old) p next (whole_if o)
alone_joins old p q next o e some none small short level =
    subst (λ (z : Piece). Joins (Whole old) z next (whole_if o)) (sym e)
    (kept_joins old q next o some none small short (λ d g. omega (arith, level)))

pub blank_joins : (old : Sheet) (next : Position) → Joins (Whole old) Blank next (Some (Whole old))
blank_joins old next r f e = (r, refl, f)

-- ---- each token

pub address_joins : (old : Sheet) (built : Addr) (a : address.Tree) (next : Position) (o : Option Sheet)
    → IfSome o (IsNext old (At (address.tree built))) → IfNone o (after_piece (reading_of old)
    (At (address.tree built)) ≡ None) → IsLimited (limited.Whole built) a → Joins (Whole old) (At a) next (whole_if o)
address_joins old built a next o some none x =
    kept_joins old (At a) next o (subst (λ (t : address.Tree). IfSome o (IsNext old (At t))) x.0 some)
    (subst (λ (t : address.Tree). IfNone o (after_piece (reading_of old) (At t) ≡ None)) x.0 none)
    x.1.nodes (le-ltb 1024 (address.operators a) x.1.depth) (λ d g. omega arith)

pub long_address : (old : Sheet) (a : address.Tree) (next : Position) → IsLimited limited.Deep a
    → Joins (Whole old) (At a) next (Some (Past next Deep))
long_address old a next x =
    deep_joins old (At a) next x.0 (λ r s f e. becomes_deep r (At a) s e (lt-ltb 1024 (address.operators a) x.1))

pub loop_joins : (old : Sheet) (k : Loop) (built : Re) (t : expression.Tree) (next : Position) (o : Option Sheet)
    → old.depth < 32 → IfSome o (IsNext old (Loops k (expression.tree built)))
    → IfNone o (after_piece (reading_of old) (Loops k (expression.tree built)) ≡ None)
    → IsBuiltExpression (Some built) t → Joins (Whole old) (Loops k t) next (whole_if o)
loop_joins old k built t next o l some none x =
    kept_joins old (Loops k t) next o (subst (λ (t : expression.Tree). IfSome o (IsNext old (Loops k t))) x.0 some)
    (subst (λ (t : expression.Tree). IfNone o (after_piece (reading_of old) (Loops k t) ≡ None)) x.0 none)
    (le-ltb 2048 (expression.nodes t) x.1) refl (λ d g. omega (arith, d, l))

pub deep_loop : (old : Sheet) (k : Loop) (built : Re) (t : expression.Tree) (next : Position) → 32 ≤ old.depth
    → IsBuiltExpression (Some built) t → Joins (Whole old) (Loops k t) next (Some (Past next Deep))
deep_loop old k built t next l x =
    deep_joins old (Loops k t) next (le-ltb 2048 (expression.nodes t) x.1)
    (λ r s f e. too_deep r (Loops k t) s e (omega (arith, f.1, l)))

pub large_loop : (old : Sheet) (k : Loop) (t : expression.Tree) (next : Position) → 2048 < expression.nodes t
    → Joins (Whole old) (Loops k t) next (Some (Past next Large))
large_loop old k t next l = large_joins (Whole old) (Loops k t) next (lt-ltb 2048 (expression.nodes t) l)

pub block_joins : (old : Sheet) (next : Position) (o : Option Sheet) → old.depth < 32 → IfSome o (IsNext old Opens)
    → IfNone o (after_piece (reading_of old) Opens ≡ None) → Joins (Whole old) Opens next (whole_if o)
block_joins old next o l some none = kept_joins old Opens next o some none refl refl (λ d g. omega (arith, d, l))

pub deep_block : (old : Sheet) (next : Position) → 32 ≤ old.depth → Joins (Whole old) Opens next (Some (Past next Deep))
deep_block old next l = deep_joins old Opens next refl (λ r s f e. too_deep r Opens s e (omega (arith, f.1, l)))

pub action_joins : (old : Sheet) (built : Act) (act : Action) (next : Position) (o : Option Sheet)
    → IfSome o (IsNext old (Does (action built))) → IfNone o (after_piece (reading_of old) (Does (action built)) ≡ None)
    → IsBuiltAction (limited.Whole built) act → levels act ≡ 0 → Joins (Whole old) (Does act) next (whole_if o)
action_joins old built act next o some none x l =
    kept_joins old (Does act) next o (subst (λ (t : Action). IfSome o (IsNext old (Does t))) x.0 some)
    (subst (λ (t : Action). IfNone o (after_piece (reading_of old) (Does t) ≡ None)) x.0 none)
    x.1 x.2 (λ d g. omega (
      arith,
      l,
      depth_levels (reading_of old),
      ltb-false 32 (levels (whole (reading_of old)).1) (or_false_both (nat_lt 32 (levels (whole (reading_of old)).1))
          (is_long (whole (reading_of old))) g).0,
    ))

pub long_action : (old : Sheet) (act : Action) (next : Position) → IsBuiltAction limited.Deep act
    → Joins (Whole old) (Does act) next (Some (Past next Deep))
long_action old act next x = deep_joins old (Does act) next x.0 (λ r s f e. becomes_deep r (Does act) s e x.1)

-- ---- the end

pub end_is_done : (r : Reading) → is_end (position_of r) ≡ is_done r
end_is_done r = go r.blocks r.line
  where
    go : (bs : List OpenBlock) (line : Line) → is_end (record { blocks = length bs; place = place_of line })
        ≡ is_done (record { blocks = bs; line = line })
    go [] Opened = refl
    go [] (Looping []) = refl
    go [] (Looping (h ∷ hs)) = refl
    go [] (Addressed hs a) = refl
    go [] (Ended c) = refl
    go (b ∷ bs) line = refl

pub done_whole : (r : Reading) → is_done r ≡ true → command_of r.line ≡ whole r
done_whole r e = go r.blocks r.line e
  where
    go : (bs : List OpenBlock) (line : Line) → is_done (record { blocks = bs; line = line }) ≡ true →
        command_of line ≡ close_all bs line
    go [] line f = refl
    go (b ∷ bs) line f = absurd cc

pub whole_read : (s : Sheet) (c : Cmd) → command c ≡ command_of (line_is s.line) → (r : Reading) → Follows (Whole s) r
    → is_done r ≡ true → (command c ≡ whole r) × IsInLimits (whole r)
whole_read s c e r f done =
    (e ∙ ap (λ (x : Reading). command_of x.line) f.0 ∙ done_whole r done, record { nodes = f.2; depth = f.3 })

pub finish_read : (p : Progress) (at : Position) → ((r : Reading) → Follows p r → at ≡ position_of r)
    → is_end at ≡ true → (c : Cmd) → ((r : Reading) → Follows p r → is_done r ≡ true → (command c ≡ whole r)
    × IsInLimits (whole r)) → (r : Reading) → Follows p r → (is_done r ≡ true) × (command c ≡ whole r)
    × IsInLimits (whole r)
finish_read p at here e c x r f =
    let done : is_done r ≡ true = sym (end_is_done r) ∙ ap is_end (sym (here r f)) ∙ e in
    let y = x r f done in
    (done, y.0, y.1)

pub finish_past : (p : Progress) (at : Position) → ((r : Reading) → Follows p r → at ≡ position_of r)
    → is_end at ≡ true → (end : ℕ) (e : SynFault) → ((r : Reading) → Follows p r → PastFails r e) → (r : Reading)
    → Follows p r → FinishFails end r e
finish_past p at here e end (fault.Bad place) x r f = absurd (x r f)
finish_past p at here e end fault.Nodes x r f = (sym (end_is_done r) ∙ ap is_end (sym (here r f)) ∙ e, x r f)
finish_past p at here e end fault.Deep x r f = (
  sym (end_is_done r) ∙ ap is_end (sym (here r f))
      ∙ e,
  (x r f).0,
  (x r f).1,
)
finish_past p at here e end fault.NoMemory x r f = tt

pub finish_short : (p : Progress) (at : Position) → ((r : Reading) → Follows p r → at ≡ position_of r)
    → is_end at ≡ false → (r : Reading) → Follows p r → is_done r ≡ false
finish_short p at here e r f = sym (end_is_done r) ∙ ap is_end (sym (here r f)) ∙ e

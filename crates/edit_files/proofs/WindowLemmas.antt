-- `X` and `Y`: the expression, and the command behind it.
use Rattle.std.proofs.Common.{◌≡◌, ℕ, ◌+◌, ◌-◌, ◌≤◌, ◌<◌, ◌||◌, Bool, true, false, List, [], ◌∷◌, ◌++◌, length}
use Rattle.std.proofs.Common.{drop}
use Rattle.std.proofs.Common.{Option, Some, None, refl, sym, ap, subst, ◌∙◌, arith, append_assoc}
use Rattle.std.specs.Prelude.{slice_range, nat_lt, Result, Ok, Err, IfOk, IfErr}
use Rattle.std.specs.Option.{option_map}
use Rattle.std.proofs.lemmas.Bool.{ltb-true, ltb-false}
use Rattle.std.proofs.lemmas.List.{append-nil}
use Rattle.re_syntax.specs.Tree as expression
use Rattle.re_syntax.specs.declared.re.Re.{Re}
use Rattle.addr_syntax.specs.Tree.{Missing}
use Rattle.addr_syntax.specs.declared.address.SynFault.{SynFault}
use Rattle.addr_syntax.specs.declared.address.SynFault.TheVariants as fault
use Rattle.addr_syntax.specs.Marks.{next_of}
use Rattle.addr_syntax.proofs.Slices.{slice_length}
use Rattle.addr_syntax.proofs.Places.{slice_behind}
use Rattle.addr_syntax.proofs.Fronts.{next_joined}
use Rattle.edit_parts.specs.Kinds.{is_next}
use Rattle.edit_parts.specs.Texts.{after_blanks, Quoted}
use Rattle.edit_parts.specs.Tree.{Command, command, Print}
use Rattle.edit_parts.specs.Limits.{is_large_expression}
use Rattle.edit_parts.specs.Answer.{IsBuiltExpression}
use Rattle.edit_parts.specs.Read.{IsReadBy, IsBadBy, anything, QuotedFails}
use Rattle.edit_parts.specs.declared.command.Cmd.{Cmd}
use Rattle.edit_parts.proofs.Parts.{stands, solid_behind}
use Rattle.sam_syntax.specs.Limits as edit
use Rattle.sam_syntax.specs.Answer as sam
use Rattle.sam_syntax.specs.Cuts.{Cut}
use Rattle.sam_syntax.specs.Texts.{quoted_expression}
use Rattle.sam_syntax.proofs.Parts.{quoted_some, quoted_only}
use Rattle.edit_files.specs.Letters.{letter_at, windows_letter}
use Rattle.edit_files.specs.Command.{FilesCommand, is_large, is_deep}
use Rattle.edit_files.specs.Files.{inner_of, in_windows, over_windows, windows_of, solid_files}
use Rattle.edit_files.specs.Answer.{Stops, IsBadFrom, EditFails, FilesFails, IsInLimits, past}
use Rattle.edit_files.proofs.BadLemmas.{moved_from, skipped_from, map_same}
use Rattle.edit_files.proofs.LetterLemmas.{Leads, letter_reads, letter_bad}

-- ---- the expression

none_quoted : (t : List ℕ) → ((re : expression.Tree) (rest : List ℕ) → Quoted re t rest → ⊥) →
    quoted_expression t ≡ None
none_quoted t never_so = go (quoted_expression t) refl
  where
    go : (o : Cut expression.Tree) → quoted_expression t ≡ o → quoted_expression t ≡ None
    go None e = e
    go (Some (re, rest)) e = absurd (never_so re rest (quoted_only re t rest e))

-- what stands behind the blanks of `X`
abbrev skips : Bool → List ℕ → Option FilesCommand
skips m t = over_windows m (quoted_expression t)

none_skips : (m : Bool) (t : List ℕ) → is_next 32 (next_of t) ≡ false →
    ((re : expression.Tree) (rest : List ℕ) → Quoted re t rest → ⊥) → windows_of m t ≡ None
none_skips m t s never_so = ap (skips m) (stands t s) ∙ ap (over_windows m) (none_quoted t never_so)

quoted_solid : (re : expression.Tree) (t rest : List ℕ) → Quoted re t rest → is_next 32 (next_of t) ≡ false
quoted_solid re t rest x = ap (λ (l : List ℕ). is_next 32 (next_of l)) x.1

some_skips : (m : Bool) (re : expression.Tree) (t : List ℕ) → Quoted re t [] →
    windows_of m t ≡ Some (in_windows m re (Missing, Print))
some_skips m re t x = ap (skips m) (stands t (quoted_solid re t [] x)) ∙ ap (over_windows m) (quoted_some re t [] x)

quoted_bad : (m : Bool) (text : List ℕ) (from place : ℕ) → is_next 32 (next_of (drop from text)) ≡ false →
    IsBadBy expression.Tree Quoted anything text from place → IsBadFrom (windows_of m) text from place
quoted_bad m text from place s bad = (
  place - from,
  omega (arith, bad.order),
  record {
    front = slice_range text from place;
    behind = drop place text;
    cut = slice_behind text from place bad.order;
    there = sym (slice_length text from place bad.order bad.within);
    before =
        let b = bad.before in
        let whole : Quoted b.1 (slice_range text from place ++ b.0) [] =
        subst (λ (t : List ℕ). Quoted b.1 t []) (append-nil (slice_range text from place ++ b.0)) (b.3 [] refl) in
        (b.0, in_windows m b.1 (Missing, Print), some_skips m b.1 (slice_range text from place ++ b.0) whole);
    after = go (drop place text) refl;
  },
)
  where
    front : List ℕ
    front = slice_range text from place

    solid : (y : List ℕ) → next_of y ≡ next_of (drop place text) → is_next 32 (next_of (front ++ y)) ≡ false
    solid y e =
        ap (is_next 32) (next_joined front y (drop place text) e) ∙ ap (λ (l : List ℕ). is_next 32 (next_of l))
        (sym (slice_behind text from place bad.order)) ∙ s

    stops : (y : List ℕ) → next_of y ≡ next_of (drop place text) → windows_of m (front ++ y) ≡ None
    stops y e = none_skips m (front ++ y) (solid y e) (λ re rest x. bad.dead y e re rest x)

    go : (behind : List ℕ) → drop place text ≡ behind → Stops (windows_of m) front behind
    go [] e = ap (windows_of m) (sym (append-nil front)) ∙ stops [] (ap next_of (sym e))
    go (c ∷ cs) e = λ rest. stops (c ∷ rest) (ap next_of (sym e))

-- ---- behind the letter

windows_leads : (m : Bool) → Leads (windows_letter m) (windows_of m) (λ x. x)
windows_leads true = record { leads = λ c w. sym (map_same (windows_of true w)) }
windows_leads false = record { leads = λ c w. sym (map_same (windows_of false w)) }

-- the blanks behind the letter
pub record Begun (m : Bool) (text : List ℕ) (at mid : ℕ) : Type 0 where
  pub here : at < length text
  pub letter : letter_at (drop at text) ≡ windows_letter m
  pub order : at + 1 ≤ mid
  pub within : mid ≤ length text
  pub behind : drop mid text ≡ after_blanks (drop (at + 1) text)
  pub solid : is_next 32 (next_of (drop mid text)) ≡ false

pub begun : (m : Bool) (text : List ℕ) (at mid : ℕ) → at < length text → letter_at (drop at text) ≡ windows_letter m →
    at + 1 ≤ mid → mid ≤ length text → drop mid text ≡ after_blanks (drop (at + 1) text) → Begun m text at mid
begun m text at mid n l o w b = record {
  here = n;
  letter = l;
  order = o;
  within = w;
  behind = b;
  solid = ap (λ (t : List ℕ). is_next 32 (next_of t)) b ∙ solid_behind (drop (at + 1) text);
}

begun_bad : (m : Bool) (text : List ℕ) (at mid place : ℕ) → Begun m text at mid →
    IsBadFrom (windows_of m) text mid place → IsBadFrom solid_files text at place
begun_bad m text at mid place b x =
    letter_bad (windows_letter m) (windows_of m) (λ y. y) (windows_leads m) text at b.here b.letter place
    (skipped_from (skips m) text (at + 1) mid place b.order b.within b.behind x)

begun_reads : (m : Bool) (text : List ℕ) (at mid : ℕ) (c : FilesCommand) → Begun m text at mid →
    skips m (drop mid text) ≡ Some c → solid_files (drop at text) ≡ Some c
begun_reads m text at mid c b e =
    letter_reads (windows_letter m) (windows_of m) (λ y. y) (windows_leads m) text at b.here b.letter c
    (ap (skips m) (sym b.behind) ∙ e)

pub quoted_fails : (m : Bool) (text : List ℕ) (at mid : ℕ) (e : SynFault) → Begun m text at mid →
    QuotedFails text mid e → FilesFails solid_files text at e
quoted_fails m text at mid (fault.Bad place) b x =
    begun_bad m text at mid place b (quoted_bad m text mid place b.solid x)
quoted_fails m text at mid fault.Nodes b x = absurd x
quoted_fails m text at mid fault.Deep b x = absurd x
quoted_fails m text at mid fault.NoMemory b x = x

-- ---- behind the expression

inner_read : List ℕ → Option Command
inner_read t = inner_of (after_blanks t)

-- an expression with its delimiters, behind which anything may stand
quoted_front : (m : Bool) (re : expression.Tree) (text : List ℕ) (mid end : ℕ) → IsReadBy (Quoted re) text mid end →
    (u : List ℕ) × (drop mid text ≡ u ++ drop end text) × ((w : List ℕ) → skips m (u ++ w) ≡ option_map
    (in_windows m re) (inner_of (after_blanks w))) × ((w : List ℕ) → windows_of m (u ++ w) ≡ option_map
    (in_windows m re) (inner_of (after_blanks w)))
quoted_front m re text mid end x = go (x.written (drop end text) refl)
  where
    go : Quoted re (slice_range text mid end ++ drop end text) (drop end text) →
        (u : List ℕ) × (drop mid text ≡ u ++ drop end text) × ((w : List ℕ) → skips m (u ++ w) ≡ option_map
        (in_windows m re) (inner_of (after_blanks w))) × ((w : List ℕ) → windows_of m (u ++ w) ≡ option_map
        (in_windows m re) (inner_of (after_blanks w)))
    go (body, e, y) =
        let reads : (w : List ℕ) → skips m (47 ∷ (body ++ 47 ∷ []) ++ w) ≡ option_map (in_windows m re)
        (inner_of (after_blanks w)) =
        λ w. ap (over_windows m) (quoted_some re (47 ∷ (body ++ 47 ∷ []) ++ w) w
        (body, ap (λ (l : List ℕ). 47 ∷ l) (append_assoc body (47 ∷ []) w), y)) in (
          47 ∷ body ++ 47 ∷ [],
          slice_behind text mid end x.order ∙ e ∙ ap (λ (l : List ℕ). 47 ∷ l)
              (sym (append_assoc body (47 ∷ []) (drop end text))),
          reads,
          reads,
        )

-- `X` or `Y` with its expression
pub record Behind (m : Bool) (re : expression.Tree) (text : List ℕ) (at end : ℕ) : Type 0 where
  pub reads : (c : Command) → inner_of (after_blanks (drop end text)) ≡ Some c →
      solid_files (drop at text) ≡ Some (in_windows m re c)
  pub bad : (place : ℕ) → IsBadFrom (λ t. inner_of (after_blanks t)) text end place →
      IsBadFrom solid_files text at place

pub behind_quoted : (m : Bool) (re : expression.Tree) (text : List ℕ) (at mid end : ℕ) → Begun m text at mid →
    IsReadBy (Quoted re) text mid end → Behind m re text at end
behind_quoted m re text at mid end b x =
    let q = quoted_front m re text mid end x in
    record {
      reads =
          λ c e. begun_reads m text at mid (in_windows m re c) b
          (ap (skips m) q.1 ∙ q.2 (drop end text) ∙ ap (option_map (in_windows m re)) e);
      bad =
          λ place y. begun_bad m text at mid place b (moved_from (λ t. inner_of (after_blanks t)) (windows_of m)
          (in_windows m re) text q.0 mid end place x.order x.within q.1 q.3 y);
    }

-- ---- limits

large_windows : (m : Bool) (re : expression.Tree) (c : Command) → is_large
    (in_windows m re c) ≡ is_large_expression re || edit.is_large c
large_windows true re c = refl
large_windows false re c = refl

deep_windows : (m : Bool) (re : expression.Tree) (c : Command) → is_deep (in_windows m re c) ≡ edit.is_deep c
deep_windows true re c = refl
deep_windows false re c = refl

or_true : (a : Bool) → a || true ≡ true
or_true true = refl
or_true false = refl

small_expression : (re : Re) (t : expression.Tree) → IsBuiltExpression (Some re) t → is_large_expression t ≡ false
small_expression re t x = go (nat_lt expression.most_nodes (expression.nodes t)) refl
  where
    go : (b : Bool) → nat_lt expression.most_nodes (expression.nodes t) ≡ b → is_large_expression t ≡ false
    go false e = e
    go true e = absurd (omega (arith, x.1, ltb-true expression.most_nodes (expression.nodes t) e))

large_expression : (t : expression.Tree) → IsBuiltExpression None t → is_large_expression t ≡ true
large_expression t x = go (nat_lt expression.most_nodes (expression.nodes t)) refl
  where
    go : (b : Bool) → nat_lt expression.most_nodes (expression.nodes t) ≡ b → is_large_expression t ≡ true
    go true e = e
    go false e = absurd (omega (arith, x, ltb-false expression.most_nodes (expression.nodes t) e))

-- a fault behind an expression of too many nodes
pub past_fails : (m : Bool) (re : expression.Tree) (text : List ℕ) (at end : ℕ) → Behind m re text at end →
    IsBuiltExpression None re → (found : Result Cmd SynFault) → IfOk found
    (λ c. inner_of (after_blanks (drop end text)) ≡ Some (command c)) →
    IfErr found (EditFails (λ t. inner_of (after_blanks t)) text end) → FilesFails solid_files text at (past found)
past_fails m re text at end b l (Ok c) x y = (
  in_windows m re (command c),
  b.reads (command c) x,
  large_windows m re (command c)
      ∙ ap (λ (v : Bool). v || edit.is_large (command c)) (large_expression re l),
)
past_fails m re text at end b l (Err (fault.Bad place)) x y = b.bad place y
past_fails m re text at end b l (Err fault.Nodes) x y = (
  in_windows m re y.0,
  b.reads y.0 y.1,
  large_windows m re y.0 ∙ ap (λ (v : Bool). v || edit.is_large y.0)
      (large_expression re l),
)
past_fails m re text at end b l (Err fault.Deep) x y = (
  in_windows m re y.0,
  b.reads y.0 y.1,
  large_windows m re y.0 ∙ ap (λ (v : Bool). v || edit.is_large y.0)
      (large_expression re l),
)
past_fails m re text at end b l (Err fault.NoMemory) x y = y

-- a fault behind any other
pub inner_refused : (m : Bool) (built : Re) (re : expression.Tree) (text : List ℕ) (at end : ℕ) →
    Behind m re text at end → IsBuiltExpression (Some built) re → (e : SynFault) →
    EditFails (λ t. inner_of (after_blanks t)) text end e → FilesFails solid_files text at e
inner_refused m built re text at end b l (fault.Bad place) y = b.bad place y
inner_refused m built re text at end b l fault.Nodes y = (
  in_windows m re y.0,
  b.reads y.0 y.1,
  large_windows m re y.0 ∙ ap (λ (v : Bool). is_large_expression re || v) y.2
      ∙ or_true (is_large_expression re),
)
inner_refused m built re text at end b l fault.Deep y = (
  in_windows m re y.0,
  b.reads y.0 y.1,
  large_windows m re y.0 ∙ ap (λ (v : Bool). v || edit.is_large y.0) (small_expression built re l) ∙ y.2,
  deep_windows m re y.0 ∙ y.3,
)
inner_refused m built re text at end b l fault.NoMemory y = y

-- `X` or `Y` inside the limits
pub windows_small : (m : Bool) (built : Re) (re : expression.Tree) (c : Command) → IsBuiltExpression (Some built) re →
    sam.IsInLimits c → IsInLimits (in_windows m re c)
windows_small m built re c l x = record {
  nodes = large_windows m re c ∙ ap (λ (v : Bool). v || edit.is_large c) (small_expression built re l) ∙ x.nodes;
  depth = deep_windows m re c ∙ x.depth;
}

-- what is built of it
pub windows_read : (m : Bool) (built : Re) (re : expression.Tree) (c : Command) (text : List ℕ) (at end : ℕ)
    (r : FilesCommand) →
    Behind m re text at end → IsBuiltExpression (Some built) re → inner_of (after_blanks (drop end text)) ≡ Some c →
    r ≡ in_windows m (expression.tree built) c → solid_files (drop at text) ≡ Some r
windows_read m built re c text at end r b l e f =
    b.reads c e ∙ ap (λ (t : expression.Tree). Some (in_windows m t c)) (sym l.0) ∙ ap Some (sym f)

pub windows_limits : (m : Bool) (built : Re) (re : expression.Tree) (c : Command) (r : FilesCommand) →
    IsBuiltExpression (Some built) re → sam.IsInLimits c → r ≡ in_windows m (expression.tree built) c → IsInLimits r
windows_limits m built re c r l x f =
    subst (λ (t : FilesCommand). IsInLimits t) (ap (λ (t : expression.Tree). in_windows m t c) (sym l.0) ∙ sym f)
    (windows_small m built re c l x)

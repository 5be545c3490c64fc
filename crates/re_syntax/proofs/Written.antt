-- What the tokens so far spell.
use Rattle.std.proofs.Common.{◌≡◌, ℕ, ◌+◌, ◌-◌, Bool, true, false, List, [], ◌∷◌, length, Option, refl, sym, subst, ◌∙◌}
use Rattle.std.proofs.Common.{arith}
use Rattle.std.specs.Prelude.{IsTrue}
use Rattle.re_syntax.specs.Tree.{Tree, Then, Either, Group, tree, nodes, repetition, is_either, is_part}
use Rattle.re_syntax.specs.Grammar.{Has, Writes}
use Rattle.re_syntax.specs.Build.{Level, Stack, chain, choice, after_token}
use Rattle.re_syntax.specs.declared.re.Re.{Re}
use Rattle.re_syntax.specs.declared.sign.Repeat.{Repeat}
use Rattle.re_syntax.specs.declared.sign.Repeat.TheVariants.{Star, Plus, Opt}
use Rattle.re_syntax.specs.declared.sign.Sign.TheVariants.{Bar, Repeats, Open, Close}
use Rattle.re_syntax.specs.declared.scanner.Token.TheVariants.{Leaf, Often, Or, Enter, Leave}

-- ---- the parts of a side, the sides of a level, the levels

abbrev pub Parts : Option ℕ → List Tree → ℕ → List ℕ → ℕ → List ℕ → Type 0
Parts stop [] g w h rest = (h ≡ g) × (w ≡ rest)
Parts stop (p ∷ ps) g w h rest = IsTrue (is_part p) × (i : ℕ) × (m : List ℕ) × Parts stop ps g w i m
    × Writes stop p i m h rest

abbrev pub Sides : Option ℕ → List Tree → ℕ → List ℕ → ℕ → List ℕ → Type 0
Sides stop [] g w h rest = (h ≡ g) × (w ≡ rest)
Sides stop (s ∷ ss) g w h rest =
    (is_either s ≡ false) × (i : ℕ) × (m n : List ℕ) × Sides stop ss g w i m × Writes stop s i m h n
    × Has stop Bar n rest

abbrev pub Holding : Option ℕ → Level → ℕ → List ℕ → ℕ → List ℕ → Type 0
Holding stop l g w h rest = (i : ℕ) × (m : List ℕ) × Sides stop l.sides g w i m × Parts stop l.parts i m h rest

abbrev pub Levels : Option ℕ → List Level → Level → List ℕ → ℕ → List ℕ → Type 0
Levels stop [] top w h rest = Holding stop top 0 w h rest
Levels stop (l ∷ ls) top w h rest =
    (i : ℕ) × (m n : List ℕ) × Levels stop ls l w i m × Has stop Open m n × (top.number ≡ i + 1)
    × Holding stop top (i + 1) n h rest

-- ---- how many nodes they have, and one more

abbrev pub tree_weights : List Tree → ℕ
tree_weights [] = 0
tree_weights (r ∷ rs) = nodes r + 1 + tree_weights rs

abbrev pub level_weight : Level → ℕ
level_weight l = tree_weights l.sides + tree_weights l.parts

abbrev pub outer_weight : List Level → ℕ
outer_weight [] = 0
outer_weight (l ∷ ls) = level_weight l + 1 + outer_weight ls

abbrev pub stack_weight : Stack → ℕ
stack_weight z = level_weight z.top + outer_weight z.outer

abbrev pub is_nil : List Tree → Bool
is_nil [] = true
is_nil (r ∷ rs) = false

-- What holds of a scanner's delimiter, expectation and depth, of what is built and its size, where the tokens took the
-- text w as far as k.
pub record Kept (stop st : Option ℕ) (e : Bool) (d : ℕ) (z : Stack) (n : ℕ) (w k : List ℕ) : Type 0 where
  pub same : st ≡ stop
  pub expects : e ≡ is_nil z.top.parts
  pub depth : d ≡ length z.outer
  pub size : n ≡ stack_weight z
  pub tokens : Levels stop z.outer z.top w z.groups k

-- ---- joining

pub not_either : (p : Tree) → IsTrue (is_part p) → is_either p ≡ false
not_either (Either a b) h = absurd cc
not_either _ h = refl

pub moved : (stop : Option ℕ) (r : Tree) (g i h : ℕ) (w m rest : List ℕ) → i ≡ g → w ≡ m → Writes stop r i m h rest
    → Writes stop r g w h rest
moved stop r g i h w m rest e f x = subst (λ (k : ℕ). Writes stop r k w h rest) e
    (subst (λ (l : List ℕ). Writes stop r i l h rest) (sym f) x)

pub chain_writes : (stop : Option ℕ) (ps : List Tree) (last : Tree) (g i h : ℕ) (w m rest : List ℕ)
    → is_either last ≡ false → Parts stop ps g w i m → Writes stop last i m h rest → (is_either (chain last ps) ≡ false)
    × Writes stop (chain last ps) g w h rest
chain_writes stop [] last g i h w m rest e p x = (e, moved stop last g i h w m rest p.0 p.1 x)
chain_writes stop (q ∷ ps) last g i h w m rest e p x = chain_writes stop ps (Then q last) g p.1 h w p.2 rest refl p.3
    (p.0, e, i, m, p.4, x)

pub choice_writes : (stop : Option ℕ) (ss : List Tree) (last : Tree) (g i h : ℕ) (w m rest : List ℕ)
    → Sides stop ss g w i m → Writes stop last i m h rest → Writes stop (choice last ss) g w h rest
choice_writes stop [] last g i h w m rest p x = moved stop last g i h w m rest p.0 p.1 x
choice_writes stop (s ∷ ss) last g i h w m rest p x = choice_writes stop ss (Either s last) g p.1 h w p.2 rest p.4
    (p.0, i, p.3, m, p.5, p.6, x)

pub chain_nodes : (ps : List Tree) (last : Tree) → nodes (chain last ps) + 1 ≡ nodes last + 1 + tree_weights ps
chain_nodes [] last = omega arith
chain_nodes (p ∷ ps) last = omega (arith, chain_nodes ps (Then p last))

pub choice_nodes : (ss : List Tree) (last : Tree) → nodes (choice last ss) + 1 ≡ nodes last + 1 + tree_weights ss
choice_nodes [] last = omega arith
choice_nodes (s ∷ ss) last = omega (arith, choice_nodes ss (Either s last))

-- a level with a part is a tree
pub level_writes : (stop : Option ℕ) (ss : List Tree) (p : Tree) (ps : List Tree) (number g h : ℕ) (w rest : List ℕ)
    → Holding stop (record { number = number; sides = ss; parts = p ∷ ps }) g w h rest
    → Writes stop (choice (chain p ps) ss) g w h rest
level_writes stop ss p ps number g h w rest x =
    let parts = x.3 in
    choice_writes stop ss (chain p ps) g x.0 h w x.1 rest x.2 (chain_writes stop ps p x.0 parts.1 h x.1 parts.2 rest
    (not_either p parts.0) parts.3 parts.4).1

pub level_nodes : (ss : List Tree) (p : Tree) (ps : List Tree) → nodes (choice (chain p ps) ss) + 1 ≡ tree_weights ss
    + tree_weights (p ∷ ps)
level_nodes ss p ps = omega (arith, choice_nodes ss (chain p ps), chain_nodes ps p)

-- ---- one token more

pub on_top : (stop : Option ℕ) (outer : List Level) (top new : Level) (w : List ℕ) (h i : ℕ) (k l : List ℕ)
    → new.number ≡ top.number → ((g : ℕ) (v : List ℕ) → Holding stop top g v h k → Holding stop new g v i l)
    → Levels stop outer top w h k → Levels stop outer new w i l
on_top stop [] top new w h i k l e f x = f 0 w x
on_top stop (o ∷ os) top new w h i k l e f x = (x.0, x.1, x.2, x.3, x.4, e ∙ x.5, f (x.0 + 1) x.2 x.6)

pub put_part : (stop : Option ℕ) (outer : List Level) (top : Level) (r : Tree) (w : List ℕ) (h i : ℕ) (k l : List ℕ)
    → IsTrue (is_part r) → Writes stop r h k i l → Levels stop outer top w h k
    → Levels stop outer (record top { parts = r ∷ top.parts }) w i l
put_part stop outer top r w h i k l part x =
    on_top stop outer top (record top { parts = r ∷ top.parts }) w h i k l refl
    (λ g v y. (y.0, y.1, y.2, (part, h, k, y.3, x)))

module _ (stop st : Option ℕ) (e : Bool) (d : ℕ) (n : ℕ) (w k rest : List ℕ) where
  pub kept_leaf : (z : Stack) → Kept stop st e d z n w k → (r : Re) → IsTrue (is_part (tree r))
      → nodes (tree r) ≡ 1 → Writes stop (tree r) z.groups k z.groups rest
      → Kept stop st false d (after_token z (Leaf r)) (n + 2) w rest
  kept_leaf z kept r part one x = record {
    same = kept.same;
    expects = refl;
    depth = kept.depth;
    size = omega (arith, kept.size);
    tokens = put_part stop z.outer z.top (tree r) w z.groups z.groups k rest part x kept.tokens;
  }

  writes_repeated : (r : Repeat) (p : Tree) (g h : ℕ) (v m : List ℕ) → IsTrue (is_part p) → Writes stop p g v h m
      → Has stop (Repeats r) m rest → Writes stop (repetition r p) g v h rest
  writes_repeated Star p g h v m part x has = (part, m, x, has)
  writes_repeated Plus p g h v m part x has = (part, m, x, has)
  writes_repeated Opt p g h v m part x has = (part, m, x, has)

  repeated_part : (r : Repeat) (p : Tree) → IsTrue (is_part (repetition r p))
  repeated_part Star p = refl
  repeated_part Plus p = refl
  repeated_part Opt p = refl

  repeated_nodes : (r : Repeat) (p : Tree) → nodes (repetition r p) ≡ nodes p + 1
  repeated_nodes Star p = refl
  repeated_nodes Plus p = refl
  repeated_nodes Opt p = refl

  module _ (outer : List Level) (number : ℕ) (ss : List Tree) (p : Tree) (ps : List Tree) (groups : ℕ) where
    -- where the side has a part
    abbrev some : Stack
    some = record { outer = outer; top = record { number = number; sides = ss; parts = p ∷ ps }; groups = groups }

    pub kept_often : Kept stop st e d some n w k → (r : Repeat) → Has stop (Repeats r) k rest
        → Kept stop st false d (after_token some (Often r)) (n + 1) w rest
    kept_often kept r has = record {
      same = kept.same;
      expects = refl;
      depth = kept.depth;
      size = omega (arith, kept.size, repeated_nodes r p);
      tokens = on_top stop outer some.top (record some.top { parts = repetition r p ∷ ps }) w groups groups k rest refl
          (λ g v y.
          let q = y.3 in (
            y.0,
            y.1,
            y.2,
            (
              repeated_part r p,
              q.1,
              q.2,
              q.3,
              writes_repeated r p q.1 groups q.2 k q.0 q.4 has,
            ),
          )) kept.tokens;
    }

    pub kept_or : Kept stop st e d some n w k → Has stop Bar k rest
        → Kept stop st true d (after_token some Or) (n + 0) w rest
    kept_or kept has = record {
      same = kept.same;
      expects = refl;
      depth = kept.depth;
      size = omega (arith, kept.size, chain_nodes ps p);
      tokens = on_top stop outer some.top (record some.top { sides = chain p ps ∷ ss; parts = [] }) w groups groups k
          rest refl (λ g v y.
          let q = y.3 in
          let c = chain_writes stop ps p y.0 q.1 groups y.1 q.2 k (not_either p q.0) q.3 q.4 in
          (groups, rest, (c.0, y.0, y.1, k, y.2, c.1, has), (refl, refl))) kept.tokens;
    }

  pub kept_enter : (z : Stack) → Kept stop st e d z n w k → Has stop Open k rest
      → Kept stop st true (d + 1) (after_token z Enter) (n + 1) w rest
  kept_enter z kept has = record {
    same = kept.same;
    expects = refl;
    depth = omega (arith, kept.depth);
    size = omega (arith, kept.size);
    tokens = (z.groups, k, rest, kept.tokens, has, refl, (z.groups + 1, rest, (refl, refl), (refl, refl)));
  }

  pub kept_leave : (l : Level) (ls : List Level) (number : ℕ) (ss : List Tree) (p : Tree) (ps : List Tree) (groups : ℕ)
      → Kept stop st e d (some (l ∷ ls) number ss p ps groups) n w k → Has stop Close k rest
      → Kept stop st false (d - 1) (after_token (some (l ∷ ls) number ss p ps groups) Leave) (n + 0) w rest
  kept_leave l ls number ss p ps groups kept has =
      let x = kept.tokens in
      let r : Tree = choice (chain p ps) ss in
      let inner : Writes stop r (x.0 + 1) x.2 groups k = level_writes stop ss p ps number (x.0 + 1) groups x.2 k x.6 in
      let numbered : Writes stop r number x.2 groups k = subst (λ (j : ℕ). Writes stop r j x.2 groups k) (sym x.5)
      inner in
      record {
        same = kept.same;
        expects = refl;
        depth = omega (arith, kept.depth);
        size = omega (arith, kept.size, level_nodes ss p ps);
        tokens = put_part stop ls l (Group number r) w x.0 groups x.1 rest refl (x.5, x.2, k, x.4, numbered, has) x.3;
      }

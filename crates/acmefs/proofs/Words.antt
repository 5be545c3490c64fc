-- Words ask for one thing.
use Rattle.std.proofs.Common.{◌≡◌, inl, inr, ℕ, Bool, true, false, cond, List, [], ◌∷◌, Option, Some, None, ◌∙◌, refl}
use Rattle.std.proofs.Common.{sym, ap, subst, arith, codes}
use Rattle.std.proofs.lemmas.Slice.Eq.{bytes_eq-Decides}
use Rattle.std.specs.Str.{bytes_eq}
use Rattle.std.specs.Prelude.{IfSome, IfNone, is_some, string_bytes}
use Rattle.am_journal.specs.declared.event.Format.{Format}
use Rattle.am_journal.specs.declared.event.Format.TheVariants.{One, Two}
use Rattle.am_words.specs.declared.asked.Asked.{Asked}
use Rattle.am_words.specs.declared.asked.Asked.TheVariants as asked
use Rattle.am_words.specs.declared.asked.Tree.{Tree}
use Rattle.am_words.specs.Words.{are_alone, are_replay, asks_do, asks_drill, asks_serve, in_two, in_three, rounds_of}
use Rattle.am_words.specs.Words.{tree_of, with_tree, AsksFor, AreKnown}
use Rattle.acmefs.specs.Top.{idle_format}

-- what was read is asked for
pub asked_at : (words list : List (List ℕ)) (read : Option Asked) (x y : Asked) → read ≡ Some x
    → x ≡ y → list ≡ words → IfSome read (AsksFor list) → AsksFor words y
asked_at words list read x y some same e h =
    subst (AsksFor words) same (subst (λ (w : List (List ℕ)). AsksFor w x) e
    (subst (λ (r : Option Asked). IfSome r (AsksFor list)) some h))

-- nothing was read
pub none_at : (words list : List (List ℕ)) (read : Option Asked) → read ≡ None → list ≡ words → IfNone read
    (¬ AreKnown list) → ¬ AreKnown words
none_at words list read none e h =
    subst (λ (w : List (List ℕ)). ¬ AreKnown w) e (subst (λ (r : Option Asked). IfNone r (¬ AreKnown list)) none h)

-- words that ask for something are known
pub known : (words : List (List ℕ)) (a : Asked) → AsksFor words a → AreKnown words
known words asked.Replay h = inl (inl h)
known words asked.Trace h = inl (inr (inl h))
known words asked.Pack h = inl (inr (inr h))
known words (asked.Drill rounds) h = inr (inl (rounds, h))
known words (asked.Serve path clients) h = inr (inr (inl (string_bytes path, clients, h)))
known words (asked.Do path tree) h = inr (inr (inr (string_bytes path, tree, h)))

-- ---- the first word is the command

abbrev first : List (List ℕ) → List ℕ
first [] = []
first (word ∷ words) = word

replay_first : (words : List (List ℕ)) → are_replay words ≡ true → first words ≡ codes "replay"
replay_first [] h = absurd cc
replay_first (word ∷ []) h = (bytes_eq-Decides word (codes "replay")).0 h
replay_first (word ∷ other ∷ words) h = absurd cc

alone_first : (name : List ℕ) (words : List (List ℕ)) → are_alone name words ≡ true → first words ≡ name
alone_first name [] h = absurd cc
alone_first name (word ∷ []) h = (bytes_eq-Decides word name).0 h
alone_first name (word ∷ other ∷ words) h = absurd cc

-- a word behind which something is asked for
named : {A : Type 0} (word name : List ℕ) (o : Option A) (x : A) → cond (bytes_eq word name) o None ≡ Some x
    → word ≡ name
named {A} word name o x h = by_test (bytes_eq word name) refl h
  where
    by_test : (t : Bool) → bytes_eq word name ≡ t → cond t o None ≡ Some x → word ≡ name
    by_test true e k = (bytes_eq-Decides word name).0 e
    by_test false e k = absurd cc

drill_first : (words : List (List ℕ)) (rounds : ℕ) → asks_drill words ≡ Some rounds → first words ≡ codes "drill"
drill_first [] rounds h = absurd cc
drill_first (word ∷ []) rounds h = absurd cc
drill_first (word ∷ number ∷ []) rounds h = named word (codes "drill") (rounds_of number) rounds h
drill_first (word ∷ number ∷ other ∷ words) rounds h = absurd cc

serve_first : (words : List (List ℕ)) (x : List ℕ × ℕ) → asks_serve words ≡ Some x → first words ≡ codes "serve"
serve_first [] x h = absurd cc
serve_first (word ∷ []) x h = absurd cc
serve_first (word ∷ a ∷ []) x h = absurd cc
serve_first (word ∷ a ∷ b ∷ []) x h = named word (codes "serve") (in_two a b) x h
serve_first (word ∷ a ∷ b ∷ c ∷ []) x h = named word (codes "serve") (in_three a b c) x h
serve_first (word ∷ a ∷ b ∷ c ∷ d ∷ words) x h = absurd cc

do_first : (words : List (List ℕ)) (x : List ℕ × Tree) → asks_do words ≡ Some x → first words ≡ codes "do"
do_first [] x h = absurd cc
do_first (word ∷ []) x h = absurd cc
do_first (word ∷ a ∷ []) x h = absurd cc
do_first (word ∷ a ∷ b ∷ []) x h = named word (codes "do") (with_tree a (tree_of b)) x h
do_first (word ∷ a ∷ b ∷ c ∷ words) x h = absurd cc

-- ---- each command has a number

abbrev numbered : List ℕ → ℕ
numbered word = cond (bytes_eq word (codes "replay")) 0
    (cond (bytes_eq word (codes "trace")) 1
    (cond (bytes_eq word (codes "pack")) 2
    (cond (bytes_eq word (codes "drill")) 3
    (cond (bytes_eq word (codes "serve")) 4 5))))

abbrev pub number : Asked → ℕ
number asked.Replay = 0
number asked.Trace = 1
number asked.Pack = 2
number (asked.Drill rounds) = 3
number (asked.Serve path clients) = 4
number (asked.Do path tree) = 5

is_numbered : (words : List (List ℕ)) (a : Asked) → AsksFor words a → numbered (first words) ≡ number a
is_numbered words asked.Replay h = ap numbered (replay_first words h)
is_numbered words asked.Trace h = ap numbered (alone_first (codes "trace") words h)
is_numbered words asked.Pack h = ap numbered (alone_first (codes "pack") words h)
is_numbered words (asked.Drill rounds) h = ap numbered (drill_first words rounds h)
is_numbered words (asked.Serve path clients) h = ap numbered (serve_first words (string_bytes path, clients) h.0)
is_numbered words (asked.Do path tree) h = ap numbered (do_first words (string_bytes path, tree) h.0)

-- what words ask for has one number
pub one_number : (words : List (List ℕ)) (a b : Asked) → AsksFor words a → AsksFor words b → number a ≡ number b
one_number words a b x y = sym (is_numbered words a x) ∙ is_numbered words b y

-- ---- the format of the empty journal

-- the format where this is asked for and no line was read
abbrev pub asked_format : Asked → Format
asked_format asked.Replay = One
asked_format asked.Trace = One
asked_format asked.Pack = One
asked_format (asked.Drill rounds) = One
asked_format (asked.Serve path clients) = Two
asked_format (asked.Do path tree) = One

serves : (a : Asked) → number a ≡ 4 → asked_format a ≡ Two
serves asked.Replay e = absurd (omega (arith, e))
serves asked.Trace e = absurd (omega (arith, e))
serves asked.Pack e = absurd (omega (arith, e))
serves (asked.Drill rounds) e = absurd (omega (arith, e))
serves (asked.Serve path clients) e = refl
serves (asked.Do path tree) e = absurd (omega (arith, e))

serves_none : (words : List (List ℕ)) (a : Asked) → AsksFor words a → asks_serve words ≡ None → asked_format a ≡ One
serves_none words asked.Replay h e = refl
serves_none words asked.Trace h e = refl
serves_none words asked.Pack h e = refl
serves_none words (asked.Drill rounds) h e = refl
serves_none words (asked.Serve path clients) h e =
    absurd (let same : Some (string_bytes path, clients) ≡ None = sym h.0 ∙ e in cc)
serves_none words (asked.Do path tree) h e = refl

pub idle_as : (words : List (List ℕ)) (a : Asked) → AsksFor words a → idle_format words ≡ asked_format a
idle_as words a h = by_case (asks_serve words) refl
  where
    by_case : (o : Option (List ℕ × ℕ)) → asks_serve words ≡ o → idle_format words ≡ asked_format a
    by_case None e = ap (λ (o : Option (List ℕ × ℕ)). cond (is_some o) Two One) e ∙ sym (serves_none words a h e)
    by_case (Some x) e = ap (λ (o : Option (List ℕ × ℕ)). cond (is_some o) Two One) e
        ∙ sym (serves a (sym (is_numbered words a h) ∙ ap numbered (serve_first words x e)))

-- ---- one thing of each kind

-- words ask for one path and one number
pub asked_once : (words : List (List ℕ)) (p q : List ℕ) (a b : ℕ) → asks_serve words ≡ Some (p, a)
    → asks_serve words ≡ Some (q, b) → (p ≡ q) × (a ≡ b)
asked_once words p q a b h k = let e : Some (p, a) ≡ Some (q, b) = sym h ∙ k in (ap (path_in p) e, ap (number_in a) e)
  where
    path_in : List ℕ → Option (List ℕ × ℕ) → List ℕ
    path_in other None = other
    path_in other (Some x) = x.0

    number_in : ℕ → Option (List ℕ × ℕ) → ℕ
    number_in other None = other
    number_in other (Some x) = x.1

-- a number of rounds is asked for once
pub rounds_once : (words : List (List ℕ)) (a b : ℕ) → asks_drill words ≡ Some a → asks_drill words ≡ Some b → a ≡ b
rounds_once words a b h k = let e : Some a ≡ Some b = sym h ∙ k in ap (rounds_in a) e
  where
    rounds_in : ℕ → Option ℕ → ℕ
    rounds_in other None = other
    rounds_in other (Some x) = x

-- words ask for one path and one tree
pub done_once : (words : List (List ℕ)) (p q : List ℕ) (a b : Tree) → asks_do words ≡ Some (p, a)
    → asks_do words ≡ Some (q, b) → (p ≡ q) × (a ≡ b)
done_once words p q a b h k = let e : Some (p, a) ≡ Some (q, b) = sym h ∙ k in (ap (path_in p) e, ap (tree_in a) e)
  where
    path_in : List ℕ → Option (List ℕ × Tree) → List ℕ
    path_in other None = other
    path_in other (Some x) = x.0

    tree_in : Tree → Option (List ℕ × Tree) → Tree
    tree_in other None = other
    tree_in other (Some x) = x.1

-- How expressions are written.
use Rattle.std.specs.Prelude.{◌≡◌, ◌≤◌, ◌<◌, ◌+◌, ◌⊎◌, ℕ, Bool, true, false, not, List, [], ◌∷◌, ◌++◌, length}
use Rattle.std.specs.Prelude.{slice_index, Option, IsTrue}
use Rattle.re_syntax.specs.Tree.{Tree, Letter, AnyLetter, OneOf, LineStart, LineEnd, Then, Either, Many, Several, Maybe}
use Rattle.re_syntax.specs.Tree.{Group, is_either, is_part}
use Rattle.re_syntax.specs.Signs.{is_stop, sign_of, class_sign_of, escaped}
use Rattle.re_syntax.specs.declared.sign.Repeat.TheVariants.{Star, Plus, Opt}
use Rattle.re_syntax.specs.declared.sign.Sign.{Sign}
use Rattle.re_syntax.specs.declared.sign.Sign.TheVariants.{Escape, Bar, Repeats, Open, Close, Dot, Caret, Dollar}
use Rattle.re_syntax.specs.declared.sign.Sign.TheVariants.{OpenClass, Plain}
use Rattle.re_syntax.specs.declared.sign.ClassSign.{ClassSign}
use Rattle.re_syntax.specs.declared.sign.ClassSign.TheVariants.{Ends, Escapes, Dash, Closes, Hat, Member}

-- Each of these says: a text begins with something, and this is the rest after it.

-- a rune with this meaning
abbrev pub Has : Option ℕ → Sign → List ℕ → List ℕ → Type 0
Has stop s text rest = (c : ℕ) × (text ≡ c ∷ rest) × (sign_of stop c ≡ s)

-- a rune with this meaning in a class
abbrev pub ClassHas : Option ℕ → ClassSign → List ℕ → List ℕ → Type 0
ClassHas stop s text rest = (c : ℕ) × (text ≡ c ∷ rest) × (class_sign_of stop c ≡ s)

-- the rune c, by itself or behind a backslash
abbrev pub WritesLetter : Option ℕ → ℕ → List ℕ → List ℕ → Type 0
WritesLetter stop c text rest =
    ((text ≡ c ∷ rest) × (sign_of stop c ≡ Plain)) ⊎ ((d : ℕ) × Has stop Escape text (d ∷ rest) × (c ≡ escaped d))

-- which runes stand for themselves in a class: `^` does where it isn't the first
abbrev pub is_member : Bool → ClassSign → Bool
is_member first Member = true
is_member first Hat = not first
is_member first Ends = false
is_member first Escapes = false
is_member first Dash = false
is_member first Closes = false

-- the rune c in a class
abbrev pub WritesMember : Option ℕ → Bool → ℕ → List ℕ → List ℕ → Type 0
WritesMember stop first c text rest =
    ((text ≡ c ∷ rest) × IsTrue (is_member first (class_sign_of stop c)))
    ⊎ ((d : ℕ) × ClassHas stop Escapes text (d ∷ rest) × (c ≡ escaped d))

-- a range of a class: one rune, or two in order with a dash between
abbrev pub WritesRange : Option ℕ → Bool → ℕ × ℕ → List ℕ → List ℕ → Type 0
WritesRange stop first r text rest =
    (WritesMember stop first r.0 text rest × (r.1 ≡ r.0)) ⊎ ((m n : List ℕ) × WritesMember stop first r.0 text m
    × ClassHas stop Dash m n × WritesMember stop false r.1 n rest × (r.0 ≤ r.1))

-- ranges one after another; only the first can be at the beginning of the class
abbrev pub WritesRanges : Option ℕ → Bool → List (ℕ × ℕ) → List ℕ → List ℕ → Type 0
WritesRanges stop first [] text rest = text ≡ rest
WritesRanges stop first (r ∷ rs) text rest = (m : List ℕ) × WritesRange stop first r text m
    × WritesRanges stop false rs m rest

-- the beginning of a class
abbrev pub OpensClass : Option ℕ → Bool → List ℕ → List ℕ → Type 0
OpensClass stop false text rest = Has stop OpenClass text rest
OpensClass stop true text rest = (m : List ℕ) × Has stop OpenClass text m × ClassHas stop Hat m rest

-- a class with at least one range
abbrev pub WritesClass : Option ℕ → Bool → List (ℕ × ℕ) → List ℕ → List ℕ → Type 0
WritesClass stop negated [] text rest = ⊥
WritesClass stop negated (r ∷ rs) text rest =
    (m n : List ℕ) × OpensClass stop negated text m × WritesRanges stop (not negated) (r ∷ rs) m n
    × ClassHas stop Closes n rest

-- An expression with this tree; before it g groups have been opened, after it h.
abbrev pub Writes : Option ℕ → Tree → ℕ → List ℕ → ℕ → List ℕ → Type 0
Writes stop (Letter c) g text h rest = (h ≡ g) × WritesLetter stop c text rest
Writes stop AnyLetter g text h rest = (h ≡ g) × Has stop Dot text rest
Writes stop (OneOf negated spans) g text h rest = (h ≡ g) × WritesClass stop negated spans text rest
Writes stop LineStart g text h rest = (h ≡ g) × Has stop Caret text rest
Writes stop LineEnd g text h rest = (h ≡ g) × Has stop Dollar text rest
Writes stop (Then a b) g text h rest =
    IsTrue (is_part a) × (is_either b ≡ false) × (i : ℕ) × (m : List ℕ) × Writes stop a g text i m
    × Writes stop b i m h rest
Writes stop (Either a b) g text h rest =
    (is_either a ≡ false) × (i : ℕ) × (m n : List ℕ) × Writes stop a g text i m × Has stop Bar m n
    × Writes stop b i n h rest
Writes stop (Many a) g text h rest =
    IsTrue (is_part a) × (m : List ℕ) × Writes stop a g text h m × Has stop (Repeats Star) m rest
Writes stop (Several a) g text h rest =
    IsTrue (is_part a) × (m : List ℕ) × Writes stop a g text h m × Has stop (Repeats Plus) m rest
Writes stop (Maybe a) g text h rest =
    IsTrue (is_part a) × (m : List ℕ) × Writes stop a g text h m × Has stop (Repeats Opt) m rest
Writes stop (Group n a) g text h rest =
    (n ≡ g + 1) × (l m : List ℕ) × Has stop Open text l × Writes stop a n l h m × Has stop Close m rest

-- the whole text is an expression with this tree
abbrev pub IsExpression : Option ℕ → List ℕ → Tree → Type 0
IsExpression stop text r = (h : ℕ) × Writes stop r 0 text h []

-- an expression begins with this text
abbrev pub GoesOn : Option ℕ → List ℕ → Type 0
GoesOn stop text = (rest : List ℕ) × (r : Tree) × IsExpression stop (text ++ rest) r

-- an expression that began before this place may end here: the text or a delimiter does
abbrev pub MayEnd : Option ℕ → List ℕ → ℕ → Type 0
MayEnd stop text at = (at ≡ length text) ⊎ ((at < length text) × IsTrue (is_stop stop (slice_index text at)))

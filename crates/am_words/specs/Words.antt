-- What the words after the program's name ask for.
use Rattle.std.specs.Prelude.{◌≡◌, ◌⊎◌, ℕ, ◌≤◌, ◌==◌, nat_lt, nat_le, Bool, true, false, not, ◌&&◌, List, [], ◌∷◌}
use Rattle.std.specs.Prelude.{Option, Some}
use Rattle.std.specs.Prelude.{None, if◌then◌else◌, codes, string_bytes}
use Rattle.std.specs.Str.{bytes_eq, IsUtf8}
use Rattle.am_text.specs.Ascii.{minus}
use Rattle.am_text.specs.Front.{after_front}
use Rattle.am_text.specs.Number.{number_of}
use Rattle.am_journal.specs.Limits.{connection_count}
use Rattle.am_words.specs.Limits.{most_rounds}
use Rattle.am_words.specs.declared.asked.Asked.{Asked}
use Rattle.am_words.specs.declared.asked.Asked.TheVariants as asked
use Rattle.am_words.specs.declared.asked.Tree.{Tree}
use Rattle.am_words.specs.declared.asked.Tree.TheVariants.{Acme, Plumb}

-- the words that ask for a replay
abbrev pub are_replay : List (List ℕ) → Bool
are_replay [] = false
are_replay (word ∷ []) = bytes_eq word (codes "replay")
are_replay (word ∷ other ∷ words) = false

-- one word, which is this
abbrev pub are_alone : List ℕ → List (List ℕ) → Bool
are_alone name [] = false
are_alone name (word ∷ []) = bytes_eq word name
are_alone name (word ∷ other ∷ words) = false

-- the words that ask for a trace
abbrev pub are_trace : List (List ℕ) → Bool
are_trace words = are_alone (codes "trace") words

-- the words that ask for packing
abbrev pub are_pack : List (List ℕ) → Bool
are_pack words = are_alone (codes "pack") words

-- a number from 1 to a limit
abbrev pub up_to : ℕ → Option ℕ → Option ℕ
up_to most None = None
up_to most (Some n) = if nat_lt 0 n && nat_le n most then Some n else None

-- a number of clients, in decimal: 1 to 64
abbrev pub clients_of : List ℕ → Option ℕ
clients_of number = up_to connection_count (number_of number)

-- a number of rounds, in decimal: 1 to 100,000
abbrev pub rounds_of : List ℕ → Option ℕ
rounds_of number = up_to most_rounds (number_of number)

-- how many rounds the words ask for, where they ask for a drill
abbrev pub asks_drill : List (List ℕ) → Option ℕ
asks_drill [] = None
asks_drill (command ∷ []) = None
asks_drill (command ∷ number ∷ []) = if bytes_eq command (codes "drill") then rounds_of number else None
asks_drill (command ∷ number ∷ other ∷ words) = None

-- a path isn't empty and doesn't begin with `-`
abbrev pub is_path : List ℕ → Bool
is_path [] = false
is_path (byte ∷ bytes) = not (byte == minus)

-- the path with the number of clients, where each is one
abbrev pub with_clients : List ℕ → Option ℕ → Option (List ℕ × ℕ)
with_clients path None = None
with_clients path (Some n) = if is_path path then Some (path, n) else None

-- a path and a number of clients, where the words are such
abbrev pub path_and_clients : List ℕ → List ℕ → Option (List ℕ × ℕ)
path_and_clients path number = with_clients path (clients_of number)

-- the path with the number behind the option's front, where that was found
abbrev pub or_else : List ℕ → Option (List ℕ) → Option (List ℕ × ℕ) → Option (List ℕ × ℕ)
or_else path None other = other
or_else path (Some number) other = path_and_clients path number

-- the option and its number are one word, before or behind the path
abbrev pub in_two : List ℕ → List ℕ → Option (List ℕ × ℕ)
in_two first second =
    or_else second (after_front (codes "--clients=") first)
    (or_else first (after_front (codes "--clients=") second) None)

-- the option and its number are two words, before or behind the path
abbrev pub in_three : List ℕ → List ℕ → List ℕ → Option (List ℕ × ℕ)
in_three first second third =
    if bytes_eq first (codes "--clients") then path_and_clients third second
    else (if bytes_eq second (codes "--clients") then path_and_clients first third else None)

-- the path and the number of clients, where the words ask for serving them
abbrev pub asks_serve : List (List ℕ) → Option (List ℕ × ℕ)
asks_serve [] = None
asks_serve (command ∷ []) = None
asks_serve (command ∷ a ∷ []) = None
asks_serve (command ∷ a ∷ b ∷ []) = if bytes_eq command (codes "serve") then in_two a b else None
asks_serve (command ∷ a ∷ b ∷ c ∷ []) = if bytes_eq command (codes "serve") then in_three a b c else None
asks_serve (command ∷ a ∷ b ∷ c ∷ d ∷ words) = None

-- the name that a tree is attached by
abbrev pub tree_name : Tree → List ℕ
tree_name Acme = codes "acme"
tree_name Plumb = codes "plumb"

-- the tree of this name
abbrev pub tree_of : List ℕ → Option Tree
tree_of name =
    if bytes_eq name (codes "acme") then Some Acme else (if bytes_eq name (codes "plumb") then Some Plumb else None)

-- the path with the tree, where each is one
abbrev pub with_tree : List ℕ → Option Tree → Option (List ℕ × Tree)
with_tree path None = None
with_tree path (Some tree) = if is_path path then Some (path, tree) else None

-- the path and the tree, where the words ask for doing lines there
abbrev pub asks_do : List (List ℕ) → Option (List ℕ × Tree)
asks_do [] = None
asks_do (command ∷ []) = None
asks_do (command ∷ a ∷ []) = None
asks_do (command ∷ a ∷ b ∷ []) = if bytes_eq command (codes "do") then with_tree a (tree_of b) else None
asks_do (command ∷ a ∷ b ∷ c ∷ words) = None

-- a path is asked for, and it is a text
abbrev pub IsText : {A : Type 0} → Option (List ℕ × A) → Type 0
IsText {A} None = ⊥
IsText {A} (Some (path, x)) = IsUtf8 path

-- the words ask for doing lines at a path, which is a text, over a tree
abbrev pub AskDo : List (List ℕ) → List ℕ → Tree → Type 0
AskDo words path tree = (asks_do words ≡ Some (path, tree)) × IsUtf8 path

-- the words ask for serving a path, which is a text
abbrev pub AskServe : List (List ℕ) → List ℕ → ℕ → Type 0
AskServe words path clients = (asks_serve words ≡ Some (path, clients)) × IsUtf8 path

-- the words ask for just this
abbrev pub AsksFor : List (List ℕ) → Asked → Type 0
AsksFor words asked.Replay = are_replay words ≡ true
AsksFor words asked.Trace = are_trace words ≡ true
AsksFor words asked.Pack = are_pack words ≡ true
AsksFor words (asked.Drill rounds) = asks_drill words ≡ Some rounds
AsksFor words (asked.Serve path clients) = AskServe words (string_bytes path) clients
AsksFor words (asked.Do path tree) = AskDo words (string_bytes path) tree

-- the number is within its limits
abbrev pub IsWithin : Asked → Type 0
IsWithin asked.Replay = Unit {0}
IsWithin asked.Trace = Unit {0}
IsWithin asked.Pack = Unit {0}
IsWithin (asked.Drill rounds) = (1 ≤ rounds) × (rounds ≤ most_rounds)
IsWithin (asked.Serve path clients) = (1 ≤ clients) × (clients ≤ connection_count)
IsWithin (asked.Do path tree) = Unit {0}

-- the words ask for what one word asks for: a replay, a trace or packing
abbrev pub AskInOne : List (List ℕ) → Type 0
AskInOne words = (are_replay words ≡ true) ⊎ ((are_trace words ≡ true) ⊎ (are_pack words ≡ true))

-- the words ask for something
abbrev pub AreKnown : List (List ℕ) → Type 0
AreKnown words = AskInOne words ⊎ (((rounds : ℕ) × (asks_drill words ≡ Some rounds))
    ⊎ (((path : List ℕ) × (clients : ℕ) × AskServe words path clients)
    ⊎ ((path : List ℕ) × (tree : Tree) × AskDo words path tree)))

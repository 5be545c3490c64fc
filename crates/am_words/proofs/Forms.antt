-- The words of `serve`, form by form.
use Rattle.std.proofs.Common.{◌≡◌, ℕ, ◌≤◌, Bool, cond, true, false, List, [], ◌∷◌, ◌++◌, Option, Some, None}
use Rattle.std.proofs.Common.{refl, sym, ap, subst, ◌∙◌, codes, if◌then◌else◌, is_some}
use Rattle.std.specs.Prelude.{◌==◌}
use Rattle.std.specs.List.{AllByRecursion}
use Rattle.std.specs.Str.{bytes_eq, chars, IsUtf8, is_utf8}
use Rattle.std.specs.Char.{encode_utf8}
use Rattle.std.proofs.lemmas.Bool.{eqb-true}
use Rattle.std.proofs.lemmas.Slice.Eq.{bytes_eq-Decides}
use Rattle.std.proofs.lemmas.Str.{IsUtf8-append, IsUtf8-from_is_utf8}
use Rattle.am_text.specs.Front.{after_front}
use Rattle.am_words.specs.Words.{clients_of, in_two, in_three, is_path, rounds_of, IsText, or_else, path_and_clients}
use Rattle.am_words.specs.Words.{with_clients}
use Rattle.am_words.specs.Commands.{drill_reads, serve_reads}
use Rattle.am_words.proofs.Numbers.{number_begins, number_is_text, up_to_some, up_to_within}
use Rattle.am_words.proofs.Taken.{apart_before, apart_behind, drill_read, joined_before, joined_behind}
use Rattle.am_text.specs.Number.{number_of}

-- the path and the number in the words
record Parts (p number path : List ℕ) (n : ℕ) : Type 0 where
  same : p ≡ path
  begins : is_path p ≡ true
  clients : clients_of number ≡ Some n

parts : (p number path : List ℕ) (n : ℕ) → path_and_clients p number ≡ Some (path, n) → Parts p number path n
parts p number path n e = by_number (clients_of number) refl e
  where
    by_path : (b : Bool) (m : ℕ) → is_path p ≡ b → clients_of number ≡ Some m
        → cond {A = Option (List ℕ × ℕ)} b (Some (p, m)) None ≡ Some (path, n) → Parts p number path n
    by_path false m t s e = absurd cc
    by_path true m t s e =
        let pair : ◌≡◌ {A = List ℕ × ℕ} (p, m) (path, n) = cc in
        record {
          same = ap (λ (x : List ℕ × ℕ). x.0) pair;
          begins = t;
          clients = s ∙ ap (λ (x : List ℕ × ℕ). Some x.1)
              pair;
        }

    by_number : (o : Option ℕ) → clients_of number ≡ o → with_clients p o ≡ Some (path, n) → Parts p number path n
    by_number None s e = absurd cc
    by_number (Some m) s e = by_path (is_path p) m refl s e

front_is : (front bytes rest : List ℕ) → after_front front bytes ≡ Some rest → bytes ≡ front ++ rest
front_is [] bytes rest e = let same : bytes ≡ rest = cc in same
front_is (f ∷ fs) [] rest e = absurd cc
front_is (f ∷ fs) (b ∷ bytes) rest e =
    elim (b == f) as (λ t. (b == f) ≡ t → cond t (after_front fs bytes) None ≡ Some rest → b ∷ bytes ≡ f ∷ (fs ++ rest)) [
      | true ↦ λ t e. ap (λ (x : ℕ). x ∷ bytes) (eqb-true b f t) ∙ ap (λ (l : List ℕ). f ∷ l) (front_is fs bytes rest e)
      | false ↦ λ t e. absurd cc
    ] refl e

clients_are_text : (number : List ℕ) (n : ℕ) → clients_of number ≡ Some n → IsUtf8 number
clients_are_text number n e = number_is_text number n (up_to_some 64 (number_of number) n e)

clients_are_few : (number : List ℕ) (n : ℕ) → clients_of number ≡ Some n → (1 ≤ n) × (n ≤ 64)
clients_are_few number n e = up_to_within 64 (number_of number) n e

clients_begin : (number : List ℕ) (n : ℕ) → clients_of number ≡ Some n → is_path number ≡ true
clients_begin number n e = number_begins number n (up_to_some 64 (number_of number) n e)

option_is_text : IsUtf8 (codes "--clients")
unfolding is_utf8 chars encode_utf8
option_is_text = IsUtf8-from_is_utf8 (codes "--clients") refl

front_is_text : IsUtf8 (codes "--clients=")
unfolding is_utf8 chars encode_utf8
front_is_text = IsUtf8-from_is_utf8 (codes "--clients=") refl

joined_is_text : (a number : List ℕ) (n : ℕ) → a ≡ codes "--clients=" ++ number → clients_of number ≡ Some n → IsUtf8 a
joined_is_text a number n is e = subst IsUtf8 (sym is) (IsUtf8-append _ number front_is_text
    (clients_are_text number n e))

-- the command reads the words as the table does, and they are texts where the path is one
pub record Reads (words : List (List ℕ)) (path : List ℕ) (n : ℕ) : Type 0 where
  pub read : serve_reads words ≡ Some (path, n)
  pub words_are_texts : IsUtf8 path → AllByRecursion IsUtf8 words
  pub path_is_text : AllByRecursion IsUtf8 words → IsUtf8 path
  pub few : (1 ≤ n) × (n ≤ 64)

-- ---- two words

reads_joined_before : (a p number path : List ℕ) (n : ℕ) → a ≡ codes "--clients=" ++ number → Parts p number path n
    → path_and_clients p number ≡ Some (path, n) → Reads (a ∷ p ∷ []) path n
reads_joined_before a p number path n is h e = record {
  read = ap (λ (w : List ℕ). serve_reads (w ∷ p ∷ [])) is ∙ (joined_before p number h.begins ∙ e);
  words_are_texts = λ u. (joined_is_text a number n is h.clients, (subst IsUtf8 (sym h.same) u, tt));
  path_is_text = λ u. subst IsUtf8 h.same u.1.0;
  few = clients_are_few number n h.clients;
}

reads_joined_behind : (p b number path : List ℕ) (n : ℕ) → b ≡ codes "--clients=" ++ number → Parts p number path n
    → path_and_clients p number ≡ Some (path, n) → Reads (p ∷ b ∷ []) path n
reads_joined_behind p b number path n is h e = record {
  read = ap (λ (w : List ℕ). serve_reads (p ∷ w ∷ [])) is ∙ (joined_behind p number h.begins ∙ e);
  words_are_texts = λ u. (subst IsUtf8 (sym h.same) u, (joined_is_text b number n is h.clients, tt));
  path_is_text = λ u. subst IsUtf8 h.same u.0;
  few = clients_are_few number n h.clients;
}

pub two_words : (a b path : List ℕ) (n : ℕ) → in_two a b ≡ Some (path, n) → Reads (a ∷ b ∷ []) path n
two_words a b path n e = first (after_front (codes "--clients=") a) refl e
  where
    second : (o : Option (List ℕ)) → after_front (codes "--clients=") b ≡ o → or_else a o None ≡ Some (path, n)
        → Reads (a ∷ b ∷ []) path n
    second None s e = absurd cc
    second (Some number) s e = reads_joined_behind a b number path n (front_is (codes "--clients=") b number s)
        (parts a number path n e) e

    first : (o : Option (List ℕ)) → after_front (codes "--clients=") a ≡ o
        → or_else b o (or_else a (after_front (codes "--clients=") b) None) ≡ Some (path, n) → Reads (a ∷ b ∷ []) path n
    first None s e = second (after_front (codes "--clients=") b) refl e
    first (Some number) s e = reads_joined_before a b number path n (front_is (codes "--clients=") a number s)
        (parts b number path n e) e

-- ---- three words

reads_apart_before : (a p number path : List ℕ) (n : ℕ) → a ≡ codes "--clients" → Parts p number path n
    → path_and_clients p number ≡ Some (path, n) → Reads (a ∷ number ∷ p ∷ []) path n
reads_apart_before a p number path n is h e = record {
  read = ap (λ (w : List ℕ). serve_reads (w ∷ number ∷ p ∷ [])) is
      ∙ (apart_before p number h.begins (clients_begin number n h.clients) ∙ e);
  words_are_texts = λ u. (
    subst IsUtf8 (sym is) option_is_text,
    (
      clients_are_text number n h.clients,
      (subst IsUtf8 (sym h.same) u, tt),
    ),
  );
  path_is_text = λ u. subst IsUtf8 h.same u.1.1.0;
  few = clients_are_few number n h.clients;
}

reads_apart_behind : (p b number path : List ℕ) (n : ℕ) → b ≡ codes "--clients" → Parts p number path n
    → path_and_clients p number ≡ Some (path, n) → Reads (p ∷ b ∷ number ∷ []) path n
reads_apart_behind p b number path n is h e = record {
  read = ap (λ (w : List ℕ). serve_reads (p ∷ w ∷ number ∷ [])) is
      ∙ (apart_behind p number h.begins (clients_begin number n h.clients) ∙ e);
  words_are_texts = λ u. (
    subst IsUtf8 (sym h.same) u,
    (
      subst IsUtf8 (sym is) option_is_text,
      (clients_are_text number n h.clients, tt),
    ),
  );
  path_is_text = λ u. subst IsUtf8 h.same u.0;
  few = clients_are_few number n h.clients;
}

pub three_words : (a b c path : List ℕ) (n : ℕ) → in_three a b c ≡ Some (path, n) → Reads (a ∷ b ∷ c ∷ []) path n
three_words a b c path n e = first (bytes_eq a (codes "--clients")) refl e
  where
    second : (t : Bool) → bytes_eq b (codes "--clients") ≡ t → cond t (path_and_clients a c) None ≡ Some (path, n)
        → Reads (a ∷ b ∷ c ∷ []) path n
    second false s e = absurd cc
    second true s e = reads_apart_behind a b c path n ((bytes_eq-Decides b (codes "--clients")).0 s)
        (parts a c path n e) e

    first : (t : Bool) → bytes_eq a (codes "--clients") ≡ t
        → cond t (path_and_clients c b) (cond (bytes_eq b (codes "--clients")) (path_and_clients a c) None)
        ≡ Some (path, n)
        → Reads (a ∷ b ∷ c ∷ []) path n
    first false s e = second (bytes_eq b (codes "--clients")) refl e
    first true s e = reads_apart_before a c b path n ((bytes_eq-Decides a (codes "--clients")).0 s) (parts c b path n e)
        e

-- ---- what the functions ask and give

some_number : (o : Option ℕ) → is_some o ≡ true → (n : ℕ) × (o ≡ Some n)
some_number None e = absurd cc
some_number (Some n) e = (n, refl)

rounds_number : (number : List ℕ) → is_some (rounds_of number) ≡ true → (n : ℕ) × (number_of number ≡ Some n)
rounds_number number e = let some = some_number (rounds_of number) e in
    (some.0, up_to_some 100000 (number_of number) some.0 some.1)

pub rounds_read : (number text : List ℕ) → text ≡ number → is_some (rounds_of number) ≡ true →
    drill_reads (text ∷ []) ≡ rounds_of number
rounds_read number text is e =
    let n = rounds_number number e in
    ap (λ (t : List ℕ). drill_reads (t ∷ [])) is ∙ drill_read number (number_begins number n.0 n.1)

pub rounds_are_text : (number : List ℕ) → is_some (rounds_of number) ≡ true → IsUtf8 number
rounds_are_text number e = let n = rounds_number number e in number_is_text number n.0 n.1

-- the words are read as `t` says, and are texts where its path is one
pub record ReadsAs (words : List (List ℕ)) (t : Option (List ℕ × ℕ)) : Type 0 where
  pub read : serve_reads words ≡ t
  pub texts : AllByRecursion IsUtf8 words → IsText t
  pub others : ¬ AllByRecursion IsUtf8 words → ¬ IsText t

reads_as : (words : List (List ℕ)) (t : Option (List ℕ × ℕ)) → is_some t ≡ true →
    ((path : List ℕ) (n : ℕ) → t ≡ Some (path, n)
    → Reads words path n) → ReadsAs words t
reads_as words None e f = absurd cc
reads_as words (Some (path, n)) e f =
    let r = f path n refl in
    record { read = r.read; texts = r.path_is_text; others = λ h u. h (r.words_are_texts u) }

pub two_read : (a b : List ℕ) → is_some (in_two a b) ≡ true → ReadsAs (a ∷ b ∷ []) (in_two a b)
two_read a b e = reads_as (a ∷ b ∷ []) (in_two a b) e (two_words a b)

pub three_read : (a b c : List ℕ) → is_some (in_three a b c) ≡ true → ReadsAs (a ∷ b ∷ c ∷ []) (in_three a b c)
three_read a b c e = reads_as (a ∷ b ∷ c ∷ []) (in_three a b c) e (three_words a b c)

pub not_some : (t : Option (List ℕ × ℕ)) → is_some t ≡ false → ¬ IsText t
not_some None e h = h
not_some (Some s) e h = absurd cc

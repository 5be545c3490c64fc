-- Words that ask for something.
use Rattle.std.proofs.Common.{◌≡◌, ℕ, ◌≤◌, Bool, cond, true, false, List, [], ◌∷◌, codes, Option, Some, None, refl, inl}
use Rattle.std.proofs.Common.{inr}
use Rattle.std.specs.Str.{bytes_eq}
use Rattle.am_words.proofs.Forms.{three_words, two_words}
use Rattle.am_words.specs.Words.{AreKnown, IsText, asks_do, asks_serve, in_two, in_three}
use Rattle.am_words.specs.declared.asked.Tree.{Tree}

pub served_known : (words : List (List ℕ)) → IsText (asks_serve words) → AreKnown words
served_known words h = go (asks_serve words) refl h
  where
    go : (t : Option (List ℕ × ℕ)) → asks_serve words ≡ t → IsText t → AreKnown words
    go None e h = absurd h
    go (Some (path, n)) e h = inr (inr (inl (path, n, (e, h))))

pub done_known : (words : List (List ℕ)) → IsText (asks_do words) → AreKnown words
done_known words h = go (asks_do words) refl h
  where
    go : (t : Option (List ℕ × Tree)) → asks_do words ≡ t → IsText t → AreKnown words
    go None e h = absurd h
    go (Some (path, tree)) e h = inr (inr (inr (path, tree, (e, h))))

guarded : {A : Type 0} (b : Bool) (t : Option A) (x : A) → cond b t None ≡ Some x → t ≡ Some x
guarded true t x e = e
guarded false t x e = absurd cc

pub serve_within : (words : List (List ℕ)) (path : List ℕ) (clients : ℕ) → asks_serve words ≡ Some (path, clients)
    → (1 ≤ clients) × (clients ≤ 64)
serve_within [] path clients e = absurd cc
serve_within (command ∷ []) path clients e = absurd cc
serve_within (command ∷ a ∷ []) path clients e = absurd cc
serve_within (command ∷ a ∷ b ∷ []) path clients e =
    (two_words a b path clients (guarded (bytes_eq command (codes "serve")) (in_two a b) (path, clients) e)).few
serve_within (command ∷ a ∷ b ∷ c ∷ []) path clients e =
    (three_words a b c path clients (guarded (bytes_eq command (codes "serve")) (in_three a b c) (path, clients) e)).few
serve_within (command ∷ a ∷ b ∷ c ∷ d ∷ words) path clients e = absurd cc

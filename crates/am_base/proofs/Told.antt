-- What is told, one step further.
use Rattle.std.proofs.Common.{◌≡◌, ℕ, ◌+◌, ◌<◌, ◌≤◌, List, [], ◌++◌, length, take, drop, Option, Some, None, refl, sym}
use Rattle.std.proofs.Common.{ap, ◌∙◌, append_assoc, arith}
use Rattle.std.specs.Prelude.{IfSome}
use Rattle.std.proofs.lemmas.List.{append-nil, take_at, length-append, take-append-drop, drop-drop}
use Rattle.std.proofs.Math.Seq.{take-add}
use Rattle.am_base.specs.Outside.{then_told, told_then, AreTold, Takes, TakesAtMost}

pub told_then-then : (o : Option (List ℕ)) (a b : List ℕ) → told_then (told_then o a) b ≡ told_then o (a ++ b)
told_then-then None a b = refl
told_then-then (Some h) a b = ap (λ (x : List ℕ). Some x) (append_assoc h a b)

pub told_then-nil : (o : Option (List ℕ)) → told_then o [] ≡ o
told_then-nil None = refl
told_then-nil (Some h) = ap (λ (x : List ℕ). Some x) (append-nil h)

pub then_told-then : (o : Option (List ℕ)) (a b : List ℕ) → then_told a (then_told b o) ≡ then_told (a ++ b) o
then_told-then None a b = refl
then_told-then (Some h) a b = ap (λ (x : List ℕ). Some x) (sym (append_assoc a b h))

pub then_told-nil : (o : Option (List ℕ)) → then_told [] o ≡ o
then_told-nil None = refl
then_told-nil (Some h) = refl

-- at the end all was read
pub all_told : (first now : Option (List ℕ)) (bytes : List ℕ) → first ≡ then_told bytes now → AreTold now []
    → AreTold first bytes
all_told None now bytes e h = tt
all_told (Some f) None bytes e h = absurd cc
all_told (Some f) (Some g) bytes e h =
    let e' : Some f ≡ Some (bytes ++ g) = e in
    let e'' : f ≡ bytes ++ g = cc in
    e'' ∙ rw h (append-nil bytes)

-- more than the limit was there
pub more_told : (first now : Option (List ℕ)) (bytes piece : List ℕ) (limit : ℕ)
    → first ≡ then_told bytes (then_told piece now) → limit < length bytes + length piece
    → IfSome first (λ told. limit < length told)
more_told None now bytes piece limit e h = tt
more_told (Some f) None bytes piece limit e h = absurd cc
more_told (Some f) (Some g) bytes piece limit e h =
    let e' : Some f ≡ Some (bytes ++ (piece ++ g)) = e in
    let e'' : f ≡ bytes ++ (piece ++ g) = cc in
    rw e'' (omega (arith, length-append bytes (piece ++ g), length-append piece g))

pub told_then-take : (o : Option (List ℕ)) (n m : ℕ) (bytes : List ℕ)
    → told_then o (take (n + m) bytes) ≡ told_then (told_then o (take n bytes)) (take m (drop n bytes))
told_then-take o n m bytes = ap (told_then o) (take-add n m bytes)
    ∙ sym (told_then-then o (take n bytes) (take m (drop n bytes)))

-- bytes were taken, and then a piece
pub takes_piece : (n : ℕ) (first mid now : Option (List ℕ)) (bytes piece : List ℕ) → first ≡ then_told bytes mid
    → mid ≡ then_told piece now → length bytes + length piece ≡ n → Takes n first now
takes_piece n first mid now bytes piece e f len = (
  bytes ++ piece,
  length-append bytes piece
      ∙ len,
  e ∙ ap (then_told bytes) f ∙ then_told-then now bytes piece,
)

pub takes_at_most : (n : ℕ) (first now : Option (List ℕ)) (bytes : List ℕ) → first ≡ then_told bytes now
    → length bytes ≤ n → TakesAtMost n first now
takes_at_most n first now bytes e len = (bytes, len, e)

pub takes_piece_at_most : (n : ℕ) (first mid now : Option (List ℕ)) (bytes piece : List ℕ) → first ≡ then_told bytes mid
    → mid ≡ then_told piece now → length bytes + length piece ≤ n → TakesAtMost n first now
takes_piece_at_most n first mid now bytes piece e f len = (
  bytes ++ piece,
  rw (length-append bytes piece) len,
  e ∙ ap (then_told bytes) f ∙ then_told-then now bytes piece,
)

pub ruleset telling = (told_then-take, told_then-then, told_then-nil, then_told-then, then_told-nil, all_told)

-- a front of what is left has moved
pub moves : (bytes buf piece : List ℕ) (at n : ℕ) → piece ≡ take n (drop at bytes)
    → length piece ≡ n → drop at bytes ≡ take n (piece ++ drop n buf) ++ drop (at + n) bytes
moves bytes buf piece at n e len = rw (take_at piece (drop n buf) n len, e, ← drop-drop n at bytes)
    (sym (take-append-drop n (drop at bytes)))

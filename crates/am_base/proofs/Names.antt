-- A text that grows at its end, in a room of its own.
use Rattle.std.proofs.Common.{◌≡◌, ℕ, ◌+◌, ◌≤◌, List, ◌++◌, length, take, ap, ◌∙◌, append_assoc, length-take-le}
use Rattle.std.proofs.lemmas.List.{take_at, length-append}

pub grown : (room text rest : List ℕ) (len : ℕ) → len ≤ length room
    → take (len + length text) (take len room ++ (text ++ rest)) ≡ take len room ++ text
grown room text rest len h =
    rw (← append_assoc (take len room) text rest)
    (take_at (take len room ++ text) rest (len + length text) (length-append (take len room) text
    ∙ ap (λ n. n + length text) (length-take-le len room h)))

-- What the table of event files in the code shows.
use Rattle.std.specs.Prelude.{◌≡◌, ◌==◌, ◌≤◌, ◌||◌, ℕ, zero, suc, Bool, true, false, not, nat_lt, List, [], ◌∷◌, Option}
use Rattle.std.specs.Prelude.{Some, None, if◌then◌else◌}
use Rattle.std.specs.List.{list_any}
use Rattle.am_text.specs.Twice.{Twice, both, IsSteady}
use Rattle.event_book.specs.WindowFiles.{EventFile, WindowFile, unopened, listed, with_file}
use Rattle.event_book.specs.declared.file_table.FileAt.{FileAt}

-- an event file as it is
abbrev pub present_of : FileAt → EventFile
present_of r = r.file.present

-- an event file as it was at the last keep
abbrev pub kept_of : FileAt → EventFile
kept_of r = r.file.kept

-- the files in one of the states
abbrev pub files_in : (FileAt → EventFile) → List FileAt → List WindowFile
files_in p [] = []
files_in p (r ∷ rs) = listed r.window (p r) (files_in p rs)

-- the windows rise, from this number on
abbrev pub Rises : ℕ → List FileAt → Type 0
Rises low [] = Unit {0}
Rises low (r ∷ rs) = (low ≤ r.window) × Rises (suc r.window) rs

-- how many windows are below this one: its place
abbrev pub place_of : ℕ → List FileAt → ℕ
place_of window [] = 0
place_of window (r ∷ rs) = if nat_lt r.window window then suc (place_of window rs) else 0

-- whether the record at this place is that window's
abbrev pub is_at : ℕ → ℕ → List FileAt → Bool
is_at window k [] = false
is_at window zero (r ∷ rs) = r.window == window
is_at window (suc k) (r ∷ rs) = is_at window k rs

-- whether the event file of this window is there
abbrev pub has_window : ℕ → List FileAt → Bool
has_window window rs = list_any (λ r. r.window == window) rs

-- whether the window is in the list of the ones touched
abbrev pub is_touched : List ℕ → ℕ → Bool
is_touched windows window = list_any (λ w. w == window) windows

-- each file is touched or hasn't changed, and one that hasn't changed has equal states
pub record IsTracked (windows : List ℕ) (r : FileAt) : Type 0 where
  pub touched : (not r.changed || is_touched windows r.window) ≡ true
  pub steady : r.changed ≡ false → IsSteady r.file

-- so it is with each
abbrev pub AreTracked : List ℕ → List FileAt → Type 0
AreTracked windows [] = Unit {0}
AreTracked windows (r ∷ rs) = IsTracked windows r × AreTracked windows rs

-- the file of this window, changed
abbrev pub changed_in : ℕ → (FileAt → FileAt) → List FileAt → List FileAt
changed_in window f [] = []
changed_in window f (r ∷ rs) = (if r.window == window then f r else r) ∷ changed_in window f rs

-- with its present state as the kept one, and the other way round
abbrev pub with_present : FileAt → FileAt
with_present r = record { window = r.window; changed = false; file = both r.file.present }

-- with what was kept as what is present
abbrev pub with_kept : FileAt → FileAt
with_kept r = record { window = r.window; changed = false; file = both r.file.kept }

-- the table's invariant: by window, and each changed file among the ones touched
pub record IsTable (windows : List ℕ) (rs : List FileAt) : Type 0 where
  pub rises : Rises 0 rs
  pub tracked : AreTracked windows rs

-- what a file that was looked up shows
abbrev pub shown_file : Option (Twice EventFile) → EventFile
shown_file None = unopened
shown_file (Some t) = t.present

-- both states of the window's file are this one now
pub record IsReplaced (window : ℕ) (f : EventFile) (before after : List FileAt) : Type 0 where
  pub rises : Rises 0 after
  pub tracked : (windows : List ℕ) → AreTracked windows before → AreTracked windows after
  pub present : files_in present_of after ≡ with_file window f (files_in present_of before)
  pub kept : files_in kept_of after ≡ with_file window f (files_in present_of before)

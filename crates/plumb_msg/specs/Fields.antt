-- Parts of a message, each in a line of its own. Reading gives the value and the bytes after the line, or why there is
-- none.
use Rattle.std.specs.Prelude.{◌≡◌, ℕ, Bool, List, Option, Some, None, Result, Ok, Err, if◌then◌else◌}
use Rattle.am_text.specs.Lines.{first_line, after_line}
use Rattle.plumb_msg.specs.Texts.{has_newline}
use Rattle.plumb_msg.specs.declared.unread.Unread.{Unread}
use Rattle.plumb_msg.specs.declared.unread.Unread.TheVariants.{More, Bad}
use Rattle.plumb_msg.specs.declared.unread.Stop.{Stop}
use Rattle.plumb_msg.specs.declared.unread.Stop.TheVariants as stop

infixl 10 ◌>>=◌
-- what a next part gives, if there is this one
abbrev pub ◌>>=◌ : {A B : Type 0} → Result A Unread → (A → Result B Unread) → Result B Unread
(Ok x) >>= f = f x
(Err e) >>= f = Err e

-- A function stopped because memory ran out, or for the reason for which reading does.
abbrev pub Fails : {Y : Type 0} → Stop → Result Y Unread → Type 0
Fails stop.NoMemory read = Unit {0}
Fails (stop.Unread e) read = read ≡ Err e

-- What a function returned, seen by view, is what reading gives, unless memory ran out.
abbrev pub Gives : {X Y : Type 0} → (X → Y) → Result X Stop → Result Y Unread → Type 0
Gives view (Ok x) read = read ≡ Ok (view x)
Gives view (Err e) read = Fails e read

-- why bytes without a newline can't be read: whether more bytes can make them a line
abbrev pub unfinished : Bool → Unread
unfinished begun = if begun then More else Bad

module _ {A : Type 0} where
  -- the value of a whole line, and the bytes after it
  abbrev pub line_told : Option A → List ℕ → Result (A × List ℕ) Unread
  line_told None rest = Err Bad
  line_told (Some a) rest = Ok (a, rest)

  -- the first line, by the value of a whole one and by the test of a front of one
  abbrev pub line_at : (List ℕ → Option A) → (List ℕ → Bool) → List ℕ → Result (A × List ℕ) Unread
  line_at whole begun bs = if has_newline bs then line_told (whole (first_line bs)) (after_line bs) else Err
      (unfinished (begun bs))

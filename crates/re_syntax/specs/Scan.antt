-- What each rune does, where an expression is read from left to right.
use Rattle.std.specs.Prelude.{◌==◌, ◌||◌, ◌+◌, ◌-◌, ℕ, true, false, [], ◌∷◌, ◌++◌, Option, Some, None, nat_lt}
use Rattle.std.specs.Prelude.{if◌then◌else◌}
use Rattle.re_syntax.specs.Signs.{sign_of, class_sign_of, escaped}
use Rattle.re_syntax.specs.declared.re.Re.{Re, Lit, Any, Class, Start, End}
use Rattle.re_syntax.specs.declared.sign.Repeat.{Repeat}
use Rattle.re_syntax.specs.declared.sign.Sign.{Sign}
use Rattle.re_syntax.specs.declared.sign.Sign.TheVariants.{Stop, Lone, Escape, Bar, Repeats, Open, Close, Dot, Caret}
use Rattle.re_syntax.specs.declared.sign.Sign.TheVariants.{Dollar, OpenClass, Plain}
use Rattle.re_syntax.specs.declared.sign.ClassSign.{ClassSign}
use Rattle.re_syntax.specs.declared.sign.ClassSign.TheVariants.{Ends, Escapes, Dash, Closes, Hat, Member}
use Rattle.re_syntax.specs.declared.scanner.Mode.{Mode}
use Rattle.re_syntax.specs.declared.scanner.Mode.TheVariants.{Outside, Escaped, Opened, Next, NextEscaped, Low, Upto}
use Rattle.re_syntax.specs.declared.scanner.Mode.TheVariants.{UptoEscaped}
use Rattle.re_syntax.specs.declared.scanner.Token.{Token}
use Rattle.re_syntax.specs.declared.scanner.Token.TheVariants.{Leaf, Often, Or, Enter, Leave}
use Rattle.re_syntax.specs.declared.scanner.Scanner.{Scanner}

-- the scanner after a rune, and the token that ended there; None where no expression goes on so
abbrev pub Scanned : Type 0
Scanned = Option (Scanner × Option Token)

-- no token yet, and the next rune stands there
abbrev pub within : Scanner → Mode → Scanned
within s m = Some (record s { mode = m }, None)

-- one node ends
abbrev pub leaf : Scanner → Re → Scanned
leaf s r = Some (record s { mode = Outside; expects = false }, Some (Leaf r))

-- the piece before is repeated; there has to be one
abbrev pub often : Scanner → Repeat → Scanned
often s k = if s.expects then None else Some (s, Some (Often k))

-- a side of an alternation ends, which isn't empty
abbrev pub or : Scanner → Scanned
or s = if s.expects then None else Some (record s { expects = true }, Some Or)

-- a group opens
abbrev pub enter : Scanner → Scanned
enter s = Some (record s { expects = true; depth = s.depth + 1 }, Some Enter)

-- a group ends, which is open and isn't empty
abbrev pub leave : Scanner → Scanned
leave s = if (s.expects || (s.depth == 0)) then None else Some (record s { depth = s.depth - 1 }, Some Leave)

-- a class opens
abbrev pub open_class : Scanner → Scanned
open_class s = within (record s { negated = false; spans = [] }) Opened

-- a rune outside classes, by what it means there
abbrev pub outside : Scanner → Sign → ℕ → Scanned
outside s Stop c = None
outside s Lone c = None
outside s Escape c = within s Escaped
outside s Bar c = or s
outside s (Repeats k) c = often s k
outside s Open c = enter s
outside s Close c = leave s
outside s Dot c = leaf s Any
outside s Caret c = leaf s Start
outside s Dollar c = leaf s End
outside s OpenClass c = open_class s
outside s Plain c = leaf s (Lit c)

-- a class ends, which has a range
abbrev pub close_class : Scanner → Scanned
close_class s = elim s.spans [
  | [] ↦ None
  | r ∷ rs ↦ Some (record s { mode = Outside; expects = false; spans = [] }, Some (Leaf (Class s.negated s.spans)))
]

-- a rune of a class after a range, by what it means there
abbrev pub in_class : Scanner → ClassSign → ℕ → Scanned
in_class s Ends c = None
in_class s Escapes c = within s NextEscaped
in_class s Dash c = None
in_class s Closes c = close_class s
in_class s Hat c = within s (Low c)
in_class s Member c = within s (Low c)

-- a rune right behind the bracket that opens the class
abbrev pub after_bracket : Scanner → ClassSign → ℕ → Scanned
after_bracket s Hat c = within (record s { negated = true }) Next
after_bracket s Ends c = in_class s Ends c
after_bracket s Escapes c = in_class s Escapes c
after_bracket s Dash c = in_class s Dash c
after_bracket s Closes c = in_class s Closes c
after_bracket s Member c = in_class s Member c

-- the class has a range more
abbrev pub with_range : Scanner → ℕ → ℕ → Scanner
with_range s a b = record s { spans = s.spans ++ (a, b) ∷ [] }

-- a rune behind one that may begin a range
abbrev pub after_low : Scanner → ℕ → ClassSign → ℕ → Scanned
after_low s a Dash c = within s (Upto a)
after_low s a Ends c = in_class (with_range s a a) Ends c
after_low s a Escapes c = in_class (with_range s a a) Escapes c
after_low s a Closes c = in_class (with_range s a a) Closes c
after_low s a Hat c = in_class (with_range s a a) Hat c
after_low s a Member c = in_class (with_range s a a) Member c

-- the range from the one rune to the other, which stand in order
abbrev pub high : Scanner → ℕ → ℕ → Scanned
high s a b = if nat_lt b a then None else within (with_range s a b) Next

-- a rune behind the dash of a range
abbrev pub after_dash : Scanner → ℕ → ClassSign → ℕ → Scanned
after_dash s a Ends c = None
after_dash s a Dash c = None
after_dash s a Closes c = None
after_dash s a Escapes c = within s (UptoEscaped a)
after_dash s a Hat c = high s a c
after_dash s a Member c = high s a c

-- a rune, by where it stands
abbrev pub scan_in : Mode → Scanner → ℕ → Scanned
scan_in Outside s c = outside s (sign_of s.stop c) c
scan_in Escaped s c = leaf s (Lit (escaped c))
scan_in Opened s c = after_bracket s (class_sign_of s.stop c) c
scan_in Next s c = in_class s (class_sign_of s.stop c) c
scan_in NextEscaped s c = within s (Low (escaped c))
scan_in (Low a) s c = after_low s a (class_sign_of s.stop c) c
scan_in (Upto a) s c = after_dash s a (class_sign_of s.stop c) c
scan_in (UptoEscaped a) s c = high s a (escaped c)

-- a rune more
abbrev pub scan : Scanner → ℕ → Scanned
scan s c = scan_in s.mode s c

-- the scanner before the first rune
abbrev pub start : Option ℕ → Scanner
start stop = record { stop = stop; mode = Outside; negated = false; spans = []; depth = 0; expects = true }

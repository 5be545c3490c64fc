-- What the runes of an expression mean.
use Rattle.std.specs.Prelude.{ℕ, ◌==◌, Bool, false, Option, Some, None, if◌then◌else◌}
use Rattle.am_text.specs.Ascii.{newline, dollar, left_parenthesis, right_parenthesis, star, plus, minus, dot, question}
use Rattle.am_text.specs.Ascii.{left_bracket, backslash, right_bracket, caret, bar, letter_n}
use Rattle.re_syntax.specs.declared.sign.Repeat.TheVariants.{Star, Plus, Opt}
use Rattle.re_syntax.specs.declared.sign.Sign.{Sign}
use Rattle.re_syntax.specs.declared.sign.Sign.TheVariants.{Stop, Lone, Escape, Bar, Repeats, Open, Close, Dot, Caret}
use Rattle.re_syntax.specs.declared.sign.Sign.TheVariants.{Dollar, OpenClass, Plain}
use Rattle.re_syntax.specs.declared.sign.ClassSign.{ClassSign}
use Rattle.re_syntax.specs.declared.sign.ClassSign.TheVariants.{Ends, Escapes, Dash, Closes, Hat, Member}

-- the delimiter ends the expression wherever no backslash stands before it
abbrev pub is_stop : Option ℕ → ℕ → Bool
is_stop (Some s) c = s == c
is_stop None c = false

-- an opening bracket is of no use where the delimiter is the closing one
abbrev pub bracket : Sign → Bool → Sign
bracket s lone = if lone then Lone else s

-- what a rune means outside a class
unfoldable pub sign_of : Option ℕ → ℕ → Sign
sign_of stop c =
    if is_stop stop c then Stop
    else (if c == backslash then Escape
    else (if c == bar then Bar
    else (if c == star then Repeats Star
    else (if c == plus then Repeats Plus
    else (if c == question then Repeats Opt
    else (if c == left_parenthesis then bracket Open (is_stop stop right_parenthesis)
    else (if c == right_parenthesis then Close
    else (if c == dot then Dot
    else (if c == caret then Caret
    else (if c == dollar then Dollar
    else (if c == left_bracket then bracket OpenClass (is_stop stop right_bracket)
    else Plain)))))))))))

-- what a rune means in a class
unfoldable pub class_sign_of : Option ℕ → ℕ → ClassSign
class_sign_of stop c =
    if is_stop stop c then Ends
    else (if c == backslash then Escapes
    else (if c == minus then Dash
    else (if c == right_bracket then Closes
    else (if c == caret then Hat
    else Member))))

-- the rune that a backslash and this one stand for: `\n` is a newline
abbrev pub escaped : ℕ → ℕ
escaped c = if c == letter_n then newline else c

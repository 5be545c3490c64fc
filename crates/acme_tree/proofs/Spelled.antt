-- The names of nodes are names that a record can be written with.
use Rattle.std.proofs.Common.{◌≡◌, ℕ, ◌<◌, ◌^◌, true, false, eqb, length, get_or, codes, refl, arith}
use Rattle.std.specs.Fmt.{decimal}
use Rattle.std.specs.List.{list_any}
use Rattle.std.specs.Str.{is_utf8, chars}
use Rattle.std.specs.Char.{encode_utf8}
use Rattle.std.specs.Int.{IsInRange}
use Rattle.std.specs.Str.Parse.{AllDigits, digits_value}
use Rattle.std.proofs.lemmas.Bool.{eqb-true, false_from_ne_true}
use Rattle.std.proofs.lemmas.List.{get_or_read}
use Rattle.std.proofs.lemmas.List.Elements.{All-from_get_or}
use Rattle.std.proofs.lemmas.List.Folds.{list_any_none}
use Rattle.std.proofs.lemmas.Str.Parse.{IsNumeralModel, numerals_by_value, tells_digits, not_in_digits}
use Rattle.std.proofs.lemmas.Fmt.{IsAscii-decimal, length-decimal-le, digits_decimal}
use Rattle.std.proofs.lemmas.Str.{IsUtf8-from_ascii, is_utf8-from_IsUtf8}
use Rattle.ninep_types.specs.Fields.{is_text}
use Rattle.ninep_frame.specs.Records.{IsName}
use Rattle.acme_tree.specs.declared.node.WinFile.{WinFile}
use Rattle.acme_tree.specs.declared.node.WinFile.TheVariants.{Addr, Body, Ctl, Data, Errors, Event, Tag, Xdata}
use Rattle.acme_tree.specs.Trees.{file_name}

pub file_named : (file : WinFile) → IsName (file_name file)
unfolding is_text is_utf8 chars encode_utf8
file_named Addr = record { text = refl; len = omega arith }
file_named Body = record { text = refl; len = omega arith }
file_named Ctl = record { text = refl; len = omega arith }
file_named Data = record { text = refl; len = omega arith }
file_named Errors = record { text = refl; len = omega arith }
file_named Event = record { text = refl; len = omega arith }
file_named Tag = record { text = refl; len = omega arith }
file_named Xdata = record { text = refl; len = omega arith }

pub acme_named : IsName (codes "acme")
unfolding is_text is_utf8 chars encode_utf8
acme_named = record { text = refl; len = omega arith }

pub cons_named : IsName (codes "cons")
unfolding is_text is_utf8 chars encode_utf8
cons_named = record { text = refl; len = omega arith }

pub consctl_named : IsName (codes "consctl")
unfolding is_text is_utf8 chars encode_utf8
consctl_named = record { text = refl; len = omega arith }

pub index_named : IsName (codes "index")
unfolding is_text is_utf8 chars encode_utf8
index_named = record { text = refl; len = omega arith }

pub jobs_named : IsName (codes "jobs")
unfolding is_text is_utf8 chars encode_utf8
jobs_named = record { text = refl; len = omega arith }

pub log_named : IsName (codes "log")
unfolding is_text is_utf8 chars encode_utf8
log_named = record { text = refl; len = omega arith }

pub label_named : IsName (codes "label")
unfolding is_text is_utf8 chars encode_utf8
label_named = record { text = refl; len = omega arith }

pub new_named : IsName (codes "new")
unfolding is_text is_utf8 chars encode_utf8
new_named = record { text = refl; len = omega arith }

pub plumb_named : IsName (codes "plumb")
unfolding is_text is_utf8 chars encode_utf8
plumb_named = record { text = refl; len = omega arith }

pub send_named : IsName (codes "send")
unfolding is_text is_utf8 chars encode_utf8
send_named = record { text = refl; len = omega arith }

pub rules_named : IsName (codes "rules")
unfolding is_text is_utf8 chars encode_utf8
rules_named = record { text = refl; len = omega arith }

-- a decimal is of digits
digits : IsNumeralModel (AllDigits 10) (digits_value 10)
digits = numerals_by_value (AllDigits 10) tells_digits

nul_is_no_digit : IsInRange 48 57 0 → ⊥
nul_is_no_digit h = absurd (omega arith)

not_nul : (n i : ℕ) → n < 2 ^ 64 → i < length (decimal n) → eqb (get_or (decimal n) i 0) 0 ≡ false
not_nul n i fits lt = false_from_ne_true (eqb (get_or (decimal n) i 0) 0)
    (λ e. not_in_digits digits (decimal n) 0 (digits_decimal digits n fits) nul_is_no_digit i lt
    (eqb-true (get_or (decimal n) i 0) 0 e))

pub decimal_named : (n : ℕ) → n < 2 ^ 32 → IsName (decimal n)
unfolding is_text
decimal_named n fits =
    let small : n < 2 ^ 64 = omega arith in
    let utf8 : is_utf8 (decimal n) ≡ true = is_utf8-from_IsUtf8 (decimal n)
    (IsUtf8-from_ascii (decimal n) (IsAscii-decimal n small)) in
    let no_nul : list_any (λ b. eqb b 0) (decimal n) ≡ false = list_any_none (λ b. eqb b 0) (decimal n)
    (All-from_get_or (λ b. eqb b 0 ≡ false) (decimal n) 0 (λ i lt. not_nul n i small lt)) in
    record {
      text = rw (utf8, no_nul) refl;
      len = omega (
        arith,
        length-decimal-le 10 n (omega arith) (omega arith)
            small,
      );
    }

pub ruleset spelled = (
  acme_named,
  cons_named,
  consctl_named,
  index_named,
  jobs_named,
  label_named,
  log_named,
  new_named,
  plumb_named,
  send_named,
  rules_named,
  file_named,
  decimal_named,
  get_or_read,
)

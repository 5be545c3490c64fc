-- No record begins another.
use Rattle.std.proofs.Common.{◌≡◌, ℕ, ◌+◌, ◌^◌, ◌<◌, List, ◌++◌, length, take, drop, Some, sym, ap, ◌∙◌, arith}
use Rattle.std.specs.Int.{w16, from_le_bytes, to_le_bytes}
use Rattle.std.proofs.lemmas.List.{take_at, drop_at}
use Rattle.std.proofs.lemmas.Nat.{from_le_bytes-to_le_bytes_2}
use Rattle.ninep_frame.specs.declared.stat.Stat.{Stat}
use Rattle.ninep_frame.specs.Laws.{PrefixFree}
use Rattle.ninep_frame.specs.Places.{stat_of}
use Rattle.ninep_frame.specs.Records.{stat_fields, record_of}
use Rattle.ninep_frame.proofs.Reading.{read_again}
use Rattle.ninep_frame.proofs.Sizes.{fields_len, record_len}

some_is : (s t : Stat) → Some s ≡ Some t → s ≡ t
some_is s t e = cc

-- records with the same two bytes in front have names of one length
same_len : (s t : Stat) (rest more : List ℕ) → 59 + length s.name < 2 ^ 16 → 59 + length t.name < 2 ^ 16 → record_of s
    ++ rest ≡ record_of t ++ more → length s.name ≡ length t.name
unfolding record_of
same_len s t rest more s-fits t-fits e =
    let fronts : to_le_bytes w16 (length (stat_fields s)) ≡ to_le_bytes w16 (length (stat_fields t)) =
    ap (λ (l : List ℕ). take 2 l) e in
    let sizes = sym (from_le_bytes-to_le_bytes_2 (length (stat_fields s)) (omega (arith, fields_len s)))
    ∙ ap (λ (l : List ℕ). from_le_bytes w16 l) fronts ∙ from_le_bytes-to_le_bytes_2 (length (stat_fields t))
    (omega (arith, fields_len t)) in
    omega (arith, sizes, fields_len s, fields_len t)

pub prefix_free : PrefixFree
prefix_free s t front back rest more s-fits t-fits s-is t-is e =
    let records : record_of s ++ rest ≡ record_of t ++ more = ap (λ (l : List ℕ). l ++ rest) (sym s-is.bytes_are)
    ∙ e ∙ ap (λ (l : List ℕ). l ++ more) t-is.bytes_are in
    let names = same_len s t rest more s-is.size t-is.size records in
    let s-len : length front ≡ 61 + length s.name = ap (λ (l : List ℕ). length l) s-is.bytes_are ∙ record_len s in
    let t-len : length back ≡ 61 + length s.name = ap (λ (l : List ℕ). length l) t-is.bytes_are ∙ record_len t
    ∙ ap (λ (n : ℕ). 61 + n) (sym names) in
    let fronts : front ≡ back = sym (take_at front rest (61 + length s.name) s-len)
    ∙ ap (λ (l : List ℕ). take (61 + length s.name) l) e ∙ take_at back more (61 + length s.name) t-len in
    let rests : rest ≡ more = sym (drop_at front rest (61 + length s.name) s-len)
    ∙ ap (λ (l : List ℕ). drop (61 + length s.name) l) e ∙ drop_at back more (61 + length s.name) t-len in
    (some_is s t (sym (read_again s front s-fits s-is) ∙ ap stat_of fronts ∙ read_again t back t-fits t-is), rests)

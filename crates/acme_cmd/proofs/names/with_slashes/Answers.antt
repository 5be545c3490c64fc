use Rattle.std.proofs.Common.{◌≡◌, ◌-◌, ◌++◌, List, ℕ, length, take, drop, sym, ap, ◌∙◌}
use Rattle.std.specs.List.{flat_map}
use Rattle.acme_cmd.proofs.Cuts.{after_slash, join_with_byte-front}
use Rattle.acme_cmd.proofs.names.with_slashes.Goals as goal

pub loop-part-init : goal.loop-part-init
loop-part-init c =
    let copied : c.in_ok-text.text ≡ c.as_slice.result.now = c.in_ok-text.ensures in
    let front = join_with_byte-front c.args.parts.now c.first-item.result c.in-len1-up.len_at_least c.first-item.is in
    ap (λ (l : List ℕ). l ++ flat_map after_slash (take (length c.args.parts.now - 1) (drop 1 c.args.parts.now)))
    (copied ∙ c.as_slice.ensures) ∙ sym front

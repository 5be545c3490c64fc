use Rattle.std.proofs.Common.{◌≡◌, ◌≤◌, ◌<◌, ℕ, suc, ◌+◌, true, length, sym, ◌∙◌, arith}
use borrow.Author.Count.{below_more}
use Rattle.ninep_client.specs.Asking.{is_asked}
use Rattle.ninep_client.proofs.Tags.{all_asked}
use Rattle.ninep_client.proofs.asked.free_tag.Goals as goal

pub loop-tag-preserved : goal.loop-tag-preserved
loop-tag-preserved c =
    let all : (less : ℕ) → less < c.loop-tag.tag + 1 → 1 ≤ less → is_asked less c.args.asked.now ≡ true
    = below_more (λ (less : ℕ). 1 ≤ less → is_asked less c.args.asked.now ≡ true) c.loop-tag.tag
    c.loop-tag.invariant.all (λ low. sym c.is_asked.ensures ∙ c.loop-tag-test.true) in
    let most : c.loop-tag.tag ≤ length c.args.asked.now = all_asked c.loop-tag.tag c.args.asked.now
    (λ tag less low. all tag (omega arith) low) in
    record { low = omega arith; high = omega (arith, most, c.requires.few); all = all }

pub loop-tag-smaller : goal.loop-tag-smaller
loop-tag-smaller c =
    let all : (less : ℕ) → less < c.loop-tag.tag + 1 → 1 ≤ less → is_asked less c.args.asked.now ≡ true
    = below_more (λ (less : ℕ). 1 ≤ less → is_asked less c.args.asked.now ≡ true) c.loop-tag.tag
    c.loop-tag.invariant.all (λ low. sym c.is_asked.ensures ∙ c.loop-tag-test.true) in
    let most : c.loop-tag.tag ≤ length c.args.asked.now = all_asked c.loop-tag.tag c.args.asked.now
    (λ tag less low. all tag (omega arith) low) in
    omega (arith, most, c.requires.few)

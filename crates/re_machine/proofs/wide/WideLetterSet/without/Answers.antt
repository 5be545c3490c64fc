use Rattle.std.proofs.Common.{refl, subst, ◌<◌, ◌/◌, ℕ, ◌^◌, ap}
use Rattle.re_machine.proofs.SeveralWords.{less_one}
use Rattle.re_machine.proofs.wide.WideLetterSet.without.Goals as goal

pub returns : goal.returns
returns c = less_one c.args.self.words c.args.n _ c.word_at.ensures.len c.requires.inside
    (subst (λ (z : ℕ). z < 2 ^ 64) c.word_at.ensures.word c.word_at.type_inv) c.requires.has
    (rw c.word_at.ensures.word refl)

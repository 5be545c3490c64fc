-- The laws.
use Rattle.std.proofs.Common.{ℕ, ◌⊎◌, inl, inr, ◌+◌, ◌-◌, List, length}
use Rattle.std.specs.Prelude.{◌↔◌}
use Rattle.re_sets.specs.Readings.{forward, backward, mirrored}
use Rattle.re_sets.specs.Laws.{SpansArePaths, MatchesArePaths, MatchesAreMirroredPaths}
use Rattle.re_sets.proofs.Paths.{begins}
use Rattle.re_sets.proofs.Letters.{after_is_path}
use Rattle.re_sets.proofs.Mirrored.{forward_is, backward_is}

pub spans_are_paths : SpansArePaths
spans_are_paths r w i j = (
  λ s. elim ((begins r w i j).0 s) [
    | inl z ↦ inl z
    | inr e ↦ inr (e.0, e.1, e.2, e.3, (after_is_path r w e.0 (i + 1) j).0 e.4)
  ],
  λ g. (begins r w i j).1 (elim g [
    | inl z ↦ inl z
    | inr e ↦ inr (e.0, e.1, e.2, e.3, (after_is_path r w e.0 (i + 1) j).1 e.4)
  ]),
)

pub matches_are_paths : MatchesArePaths
matches_are_paths r t i j = (
  λ m. (spans_are_paths r (forward t) i j).0 ((forward_is r t i j).0 m),
  λ g. (forward_is r t i j).1 ((spans_are_paths r (forward t) i j).1 g),
)

pub matches_are_mirrored : MatchesAreMirroredPaths
matches_are_mirrored r t i j a b = (
  λ m. (spans_are_paths (mirrored r) (backward t) (length t - j) (length t - i)).0 ((backward_is r t i j a b).0 m),
  λ g. (backward_is r t i j a b).1 ((spans_are_paths (mirrored r) (backward t) (length t - j) (length t - i)).1 g),
)

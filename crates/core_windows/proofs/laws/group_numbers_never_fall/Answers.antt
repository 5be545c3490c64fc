use Rattle.core_windows.proofs.GroupNumbers.{numbers_stay}
use Rattle.core_windows.proofs.laws.group_numbers_never_fall.Goals as goal

pub returns : goal.returns
returns c = numbers_stay c.numbers_never_fall.ensures

-- An address that is written is its own value.
use Rattle.std.proofs.Common.{◌≡◌, refl}
use Rattle.addr_syntax.specs.Tree.{tree}
use Rattle.addr_syntax.specs.declared.address.Addr.{Addr, Here, Zero, Last, Char, Line, Fore, Back, Plus', Minus'}
use Rattle.addr_syntax.specs.declared.address.Addr.{Comma', Semi'}
use Rattle.sam_address.specs.Value.{Outcome, written_or}

pub written_tree : (a : Addr) (missing own : Outcome) → written_or (tree a) missing own ≡ own
written_tree Here missing own = refl
written_tree Zero missing own = refl
written_tree Last missing own = refl
written_tree (Char n) missing own = refl
written_tree (Line n) missing own = refl
written_tree (Fore r) missing own = refl
written_tree (Back r) missing own = refl
written_tree (Plus' a b) missing own = refl
written_tree (Minus' a b) missing own = refl
written_tree (Comma' a b) missing own = refl
written_tree (Semi' a b) missing own = refl

pub ruleset written = (written_tree)

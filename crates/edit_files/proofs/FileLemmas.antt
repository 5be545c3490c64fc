-- Commands over files, by their names.
use Rattle.std.proofs.Common.{◌≡◌, ℕ, ◌-◌, ◌≤◌, ◌<◌, Bool, true, false, List, [], ◌∷◌, ◌++◌, length, drop, Option}
use Rattle.std.proofs.Common.{Some, None}
use Rattle.std.proofs.Common.{refl, sym, ap, ◌∙◌, arith, append_assoc}
use Rattle.std.specs.Prelude.{nat_lt}
use Rattle.std.specs.Option.{option_map}
use Rattle.std.proofs.lemmas.Bool.{ltb-true, ltb-false}
use Rattle.std.proofs.lemmas.List.{append-nil, length-drop}
use Rattle.addr_syntax.specs.Tree as address
use Rattle.addr_syntax.specs.Answer.{IsLimited}
use Rattle.addr_syntax.specs.declared.address.Addr.{Addr}
use Rattle.addr_syntax.specs.declared.address.Limited.TheVariants as limited
use Rattle.edit_parts.specs.Limits.{is_long_address}
use Rattle.addr_syntax.specs.Tree.{Missing}
use Rattle.addr_syntax.specs.declared.address.SynFault.{SynFault}
use Rattle.addr_syntax.specs.declared.address.SynFault.TheVariants as fault
use Rattle.edit_files.specs.Letters.{file_letter}
use Rattle.edit_files.specs.declared.letter.Letter.TheVariants as letter
use Rattle.edit_files.specs.Names.{names_in}
use Rattle.edit_files.specs.Command.{FilesCommand, Open, Drops, Enter, is_large, is_deep}
use Rattle.edit_files.specs.Files.{name_of, with_name, file_of, ranged_of}
use Rattle.edit_files.specs.Answer.{GoesOn, Stops, IsBadFrom, PartFails, FilesFails, IsInLimits, PassesLimit}
use Rattle.edit_files.proofs.BadLemmas.{map_same, moved_from}
use Rattle.edit_files.proofs.NameLemmas.{named}
use Rattle.edit_files.proofs.LetterLemmas.{Leads}

pub enter_leads : Leads letter.Enter name_of Enter
enter_leads = record { leads = λ c w. refl }

pub drop_leads : Leads letter.Drop names_in Drops
drop_leads = record { leads = λ c w. refl }

pub file_leads : (m : Bool) → Leads (file_letter m) name_of (file_of m Missing)
file_leads true = record { leads = λ c w. refl }
file_leads false = record { leads = λ c w. refl }

-- `B` behind its letter
abbrev pub opens : List ℕ → Option FilesCommand
opens t = with_name (name_of t)

pub open_leads : Leads letter.Open opens (λ x. x)
open_leads = record { leads = λ c w. sym (map_same (opens w)) }

open_on : (front : List ℕ) → GoesOn name_of front → GoesOn opens front
open_on front (more, None, h) =
    (more ++ 97 ∷ [], Open (97 ∷ []), ap opens (sym (append_assoc front more (97 ∷ []))) ∙ named (front ++ more) h)
open_on front (more, Some name, h) = (more, Open name, ap with_name h)

open_stops : (front behind : List ℕ) → Stops name_of front behind → Stops opens front behind
open_stops front [] x = ap with_name x
open_stops front (c ∷ cs) x = λ rest. ap with_name (x rest)

pub open_fails : (text : List ℕ) (from : ℕ) (e : SynFault) → PartFails name_of text from e → PartFails opens text from e
open_fails text from (fault.Bad place) (q, n, x) = (
  q,
  n,
  record {
    front = x.front;
    behind = x.behind;
    cut = x.cut;
    there = x.there;
    before = open_on x.front x.before;
    after = open_stops x.front x.behind x.after;
  },
)
open_fails text from fault.Nodes x = x
open_fails text from fault.Deep x = x
open_fails text from fault.NoMemory x = x

-- no name is there
pub open_short : (text : List ℕ) (from : ℕ) → from ≤ length text → name_of (drop from text) ≡ Some None →
    IsBadFrom opens text from (length text)
open_short text from l h = (
  length text - from,
  omega (arith, l),
  record {
    front = drop from text;
    behind = [];
    cut = sym (append-nil (drop from text));
    there = sym (length-drop from text);
    before = (97 ∷ [], Open (97 ∷ []), named (drop from text) h);
    after = ap with_name h;
  },
)

-- ---- `r` and `w` at an address

large_file : (m : Bool) (a : address.Tree) (name : Option (List ℕ)) → is_large (file_of m a name) ≡ address.is_large a
large_file true a name = refl
large_file false a name = refl

deep_file : (m : Bool) (a : address.Tree) (name : Option (List ℕ)) → is_deep (file_of m a name) ≡ is_long_address a
deep_file true a name = refl
deep_file false a name = refl

pub file_small : (m : Bool) (name : Option (List ℕ)) (c : FilesCommand) → c ≡ file_of m Missing name → IsInLimits c
file_small m name c e = record {
  nodes = ap is_large e ∙ large_file m Missing name;
  depth = ap is_deep e ∙ deep_file m Missing name;
}

short_address : (a : address.Tree) → address.operators a ≤ address.most_operators → is_long_address a ≡ false
short_address a l = go (nat_lt address.most_operators (address.operators a)) refl
  where
    go : (b : Bool) → nat_lt address.most_operators (address.operators a) ≡ b → is_long_address a ≡ false
    go false e = e
    go true e = absurd (omega (arith, l, ltb-true address.most_operators (address.operators a) e))

long_address : (a : address.Tree) → address.most_operators < address.operators a → is_long_address a ≡ true
long_address a l = go (nat_lt address.most_operators (address.operators a)) refl
  where
    go : (b : Bool) → nat_lt address.most_operators (address.operators a) ≡ b → is_long_address a ≡ true
    go true e = e
    go false e = absurd (omega (arith, l, ltb-false address.most_operators (address.operators a) e))

pub file_whole : (m : Bool) (built : Addr) (name : Option (List ℕ)) (c : FilesCommand) →
    c ≡ file_of m (address.tree built) name → (a : address.Tree) → IsLimited (limited.Whole built) a →
    (c ≡ file_of m a name) × IsInLimits c
file_whole m built name c e a x =
    let f : c ≡ file_of m a name = e ∙ ap (λ (t : address.Tree). file_of m t name) x.0 in (
      f,
      record {
        nodes = ap is_large f ∙ large_file m a name ∙ x.1.nodes;
        depth = ap is_deep f ∙ deep_file m a name ∙ short_address a x.1.depth;
      },
    )

pub file_deep : (m : Bool) (name : Option (List ℕ)) (a : address.Tree) → IsLimited limited.Deep a →
    PassesLimit (file_of m a name) fault.Deep
file_deep m name a x = (large_file m a name ∙ x.0, deep_file m a name ∙ long_address a x.1)

pub file_large : (m : Bool) (name : Option (List ℕ)) (a : address.Tree) → IsLimited limited.Large a →
    PassesLimit (file_of m a name) fault.Nodes
file_large m name a x = large_file m a name ∙ x

pub limit_fails : (m : Bool) (a : address.Tree) (name : Option (List ℕ)) (text : List ℕ) (from : ℕ) (e : SynFault) →
    name_of (drop from text) ≡ Some name → PassesLimit (file_of m a name) e → FilesFails (ranged_of m a) text from e
limit_fails m a name text from (fault.Bad place) h x = absurd x
limit_fails m a name text from fault.Nodes h x = (file_of m a name, ap (option_map (file_of m a)) h, x)
limit_fails m a name text from fault.Deep h x = (file_of m a name, ap (option_map (file_of m a)) h, x.0, x.1)
limit_fails m a name text from fault.NoMemory h x = absurd x

pub name_fails : (m : Bool) (a : address.Tree) (text : List ℕ) (from : ℕ) (e : SynFault) → from ≤ length text →
    PartFails name_of text from e → FilesFails (ranged_of m a) text from e
name_fails m a text from (fault.Bad place) l x =
    moved_from name_of (ranged_of m a) (file_of m a) text [] from from place (omega arith) l refl (λ w. refl) x
name_fails m a text from fault.Nodes l x = absurd x
name_fails m a text from fault.Deep l x = absurd x
name_fails m a text from fault.NoMemory l x = x

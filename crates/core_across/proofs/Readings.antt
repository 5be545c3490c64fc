-- What a text of Edit is read as.
use Rattle.std.proofs.Common.{◌≡◌, ℕ, true, false, List, [], ◌∷◌, ◌++◌, Some, None, sym, ap, ◌∙◌, refl}
use Rattle.std.proofs.lemmas.List.{append-nil}
use Rattle.addr_syntax.specs.declared.address.SynFault.TheVariants as fault
use Rattle.edit_files.specs.Command.{FilesCommand, is_large, is_deep}
use Rattle.edit_files.specs.Files.{files_of}
use Rattle.edit_files.specs.Answer.{IsInLimits, IsBadAt, Stops, Refuses}
use Rattle.core_across.specs.Commands.{small_one, small_files}

pub read_ok : (text : List ℕ) (c : FilesCommand) → files_of text ≡ Some c → IsInLimits c → Some c ≡ small_files text
unfolding small_files
read_ok text c is small = sym (ap small_one is ∙ fits)
  where
    fits : small_one (Some c) ≡ Some c
    fits = rw (small.nodes, small.depth) refl

none_there : (text front behind : List ℕ) → text ≡ front ++ behind → Stops files_of front behind
    → files_of text ≡ None
none_there text front [] cut stops = ap files_of (cut ∙ append-nil front) ∙ stops
none_there text front (c ∷ cs) cut stops = ap files_of cut ∙ stops cs

pub read_bad : (text : List ℕ) (place : ℕ) → IsBadAt files_of text place → None ≡ small_files text
unfolding small_files
read_bad text place bad = sym (ap small_one (none_there text bad.front bad.behind bad.cut bad.after))

large_one : (c : FilesCommand) → is_large c ≡ true → small_one (Some c) ≡ None
large_one c e = rw e refl

deep_one : (c : FilesCommand) → is_large c ≡ false → is_deep c ≡ true → small_one (Some c) ≡ None
deep_one c e f = rw (e, f) refl

pub read_large : (text : List ℕ) → Refuses text fault.Nodes → None ≡ small_files text
unfolding small_files
read_large text x = sym (ap small_one x.1 ∙ large_one x.0 x.2)

pub read_deep : (text : List ℕ) → Refuses text fault.Deep → None ≡ small_files text
unfolding small_files
read_deep text x = sym (ap small_one x.1 ∙ deep_one x.0 x.2 x.3)

-- How the parts of packing make the whole.
use Rattle.std.proofs.Common.{◌≡◌, ℕ, ◌<◌, zero, suc, List, [], ◌∷◌, length, Option, Some, None, refl}
use Rattle.std.proofs.Common.{subst, arith}
use Rattle.std.specs.Prelude.{IfSome}
use Rattle.am_base.specs.Outside.{BytesTold, AreTold}
use Rattle.am_base.specs.Seen.{Seen}
use Rattle.am_journal.specs.declared.event.Journal.{Journal}
use Rattle.am_replay.specs.declared.packing.Packing.{Packing}
use Rattle.am_replay.specs.declared.program.PackEnd.{PackEnd}
use Rattle.am_replay.specs.declared.program.PackEnd.TheVariants.{Done, Script, ReadFault, WriteFault, NoMemory}
use Rattle.am_replay.specs.Packing.{pack_limit, too_long, packing_of}
use Rattle.am_replay.specs.PackEnds.{Packs, PackSays}
use Rattle.am_replay.proofs.Packings.{long_text}

-- what was packed is what some bytes spell
pub says : (end : PackEnd) (packing : Packing) (bytes : List ℕ) (before now : BytesTold) (o : Seen)
    (journal : Journal)
    → packing ≡ packing_of bytes → AreTold before.bytes bytes → Packs end packing o journal
    → PackSays end before now o journal
says Done packing bytes before now o journal e t p = (bytes, t, subst (λ (x : Packing). Packs Done x o journal) e p)
says Script packing bytes before now o journal e t p = (bytes, t, subst (λ (x : Packing). Packs Script x o journal) e p)
says ReadFault packing bytes before now o journal e t p = absurd p
says WriteFault packing bytes before now o journal e t p = (
  bytes,
  t,
  subst (λ (x : Packing). Packs WriteFault x o journal) e p,
)
says NoMemory packing bytes before now o journal e t p = p

-- some bytes that are more than a number
longer : (n : ℕ) → (bytes : List ℕ) × (n < length bytes)
longer zero = (0 ∷ [], omega arith)
longer (suc n) = let r = longer n in (0 ∷ r.0, omega (arith, r.1))

-- some bytes above the limit, those that are told
long_bytes : (limit : ℕ) (told : Option (List ℕ)) → IfSome told (λ bytes. limit < length bytes) → (bytes : List ℕ)
    × (limit < length bytes) × AreTold told bytes
long_bytes limit None h = let r = longer limit in (r.0, r.1, tt)
long_bytes limit (Some bytes) h = (bytes, h, refl)

pub says_long : (end : PackEnd) (before now : BytesTold) (o : Seen) (journal : Journal)
    → IfSome before.bytes (λ bytes. pack_limit < length bytes) → Packs end too_long o journal
    → PackSays end before now o journal
says_long end before now o journal h p =
    let b = long_bytes pack_limit before.bytes h in
    says end too_long b.0 before now o journal (long_text b.0 b.1) b.2 p

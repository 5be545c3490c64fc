use Rattle.std.proofs.Common.{arith, ◌∙◌, sym, ap, ℕ, ◌-◌, List, ◌++◌, map}
use Rattle.std.proofs.lemmas.List.{length-map}
use Rattle.ninep_frame.specs.declared.stat.Stat.{Stat}
use Rattle.acme_tree.specs.Trees.{stat_of, entries}
use Rattle.core_fids.proofs.Parted.{goes_further_at, is_within_at}
use Rattle.core_fids.proofs.directory.dir_part.Goals as goal

pub loop-bytes-smaller : goal.loop-bytes-smaller
loop-bytes-smaller c =
    let all : List Stat = map (stat_of c.args.ports.now) (entries c.args.world.now c.args.ports.now c.args.dir) in
    let room = ap (λ (n : ℕ). c.args.count - n) c.len.ensures in
    omega (
      arith,
      length-map (entries c.args.world.now c.args.ports.now c.args.dir) (stat_of c.args.ports.now),
      is_within_at all c.args.skip c.args.count c.loop-bytes.at (c.args.count - c.len.result) c.loop-bytes.bytes
          c.in-Some.«record» room (sym c.in-Some.is ∙ c.in_ok-record.ensures.exact) c.loop-bytes.invariant,
    )

pub loop-bytes-preserved : goal.loop-bytes-preserved
loop-bytes-preserved c =
    let all : List Stat = map (stat_of c.args.ports.now) (entries c.args.world.now c.args.ports.now c.args.dir) in
    let room = ap (λ (n : ℕ). c.args.count - n) c.len.ensures in
    goes_further_at all c.args.skip c.args.count c.loop-bytes.at (c.args.count - c.len.result) c.loop-bytes.bytes
    c.in-Some.«record» c.append.new.self room (sym c.in-Some.is ∙ c.in_ok-record.ensures.exact)
    (c.in_ok-append.ensures.ok ∙ ap (λ (l : List ℕ). c.loop-bytes.bytes ++ l) c.as_slice.ensures) c.loop-bytes.invariant

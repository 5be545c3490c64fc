use Rattle.std.proofs.Common.{sym, ◌∙◌, arith}
use Rattle.am_journal.proofs.Hex.{hex-more}
use Rattle.am_journal.proofs.hexadecimal.bytes_of_hex.Goals as goal

pub loop-rest-preserved : goal.loop-rest-preserved
loop-rest-preserved c = record {
  read =
      rw (c.put.ensures.items, c.split_at.ensures.back) (sym (hex-more c.loop-rest.bytes.items c.loop-rest.rest.now
      c.in-Some.byte c.loop-rest-test.true (sym c.in-Some.ensures)) ∙ c.loop-rest.invariant.read);
  room = omega (
    arith,
    c.put.ensures.spare,
    c.split_at.ensures.back_len,
    c.loop-rest.invariant.room,
    c.loop-rest-test.true,
  );
}

use Rattle.re_spans.proofs.filling.put_parts.Goals as goal

pub star_piece-requires-clause-repeats : goal.star_piece-requires-clause-repeats
star_piece-requires-clause-repeats g c = rw (c.in-Star.is, ← c.deref-in-Star.ensures) at c.requires.matches

pub plus_piece-requires-clause-joins : goal.plus_piece-requires-clause-joins
plus_piece-requires-clause-joins g c = rw (c.in-Plus.is, ← c.deref-in-Plus.ensures) at c.requires.matches

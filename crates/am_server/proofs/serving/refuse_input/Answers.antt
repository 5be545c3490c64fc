use Rattle.std.proofs.Common.{inl, ◌∙◌}
use Rattle.am_server.proofs.Closing.{put_one}
use Rattle.am_server.proofs.serving.refuse_input.Goals as goal

pub returns-in-Ok-clause-long : goal.returns-in-Ok-clause-long
returns-in-Ok-clause-long g c = record {
  empty = c.idle.ensures.journal;
  none = c.idle.ensures.served;
  put = inl (
    c.idle.ensures.end,
    put_one _ c.as_slice.result.now _ c.write_all-written.result
        (c.as_slice.ensures ∙ c.in-Ok.ensures) c.write_all-written.ensures.ok c.write_all-written.ensures.err
        c.write_all-written.ensures.cause,
  );
}

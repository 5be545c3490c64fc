use Rattle.ninep_trace.proofs.TLaws.{t_body_fits}
use Rattle.ninep_trace.proofs.t_reading.take_t_message.Goals as goal

pub t_size-requires : goal.t_size-requires
t_size-requires c = t_body_fits _ _ (c.in_ok-body.body, c.in_ok-body.rest.now) c.in_ok-tag.tag c.in_ok-body.ensures

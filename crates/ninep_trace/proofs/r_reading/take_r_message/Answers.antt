use Rattle.ninep_trace.proofs.RLaws.{r_body_fits}
use Rattle.ninep_trace.proofs.r_reading.take_r_message.Goals as goal

pub r_body_size-requires : goal.r_body_size-requires
r_body_size-requires c = (r_body_fits _ _ (c.in_ok-body.body, c.in_ok-body.rest.now) c.in_ok-tag.tag
    c.in_ok-body.ensures).size

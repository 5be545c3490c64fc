use Rattle.std.proofs.Common.{ap, subst, ◌∙◌, arith}
use Rattle.ninep_types.specs.Fields.{Gives}
use Rattle.ninep_types.specs.Reading.{r_of}
use Rattle.ninep_wire.proofs.RLaws.{is_found, found_fits, found_in_range, r_again}
use Rattle.ninep_wire.proofs.r_reading.read_r.Goals as goal

pub returns-clause-found : goal.returns-clause-found
returns-clause-found c = found_fits c.args.bytes.now c.take_r_message.result
    (is_found c.args.bytes.now c.take_r_message.result (λ i. omega (arith, c.type_inv.bytes i))
    c.take_r_message.ensures)

pub returns-clause-in_range : goal.returns-clause-in_range
returns-clause-in_range c = found_in_range c.args.bytes.now c.take_r_message.result
    (is_found c.args.bytes.now c.take_r_message.result (λ i. omega (arith, c.type_inv.bytes i))
    c.take_r_message.ensures)

pub returns-clause-only : goal.returns-clause-only
returns-clause-only c = λ m fits in_range e. subst (λ f. Gives (λ x. x) c.take_r_message.result f)
    (ap r_of e ∙ r_again m fits in_range) c.take_r_message.ensures

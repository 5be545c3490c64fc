use Rattle.plumb_msg.proofs.AttrsLines.{attrs_are_exact, line_is_one_list}
use Rattle.plumb_msg.proofs.laws.attribute_lines_are_their_grammar.Goals as goal

pub returns-clause-exact : goal.returns-clause-exact
returns-clause-exact c = attrs_are_exact

pub returns-clause-one : goal.returns-clause-one
returns-clause-one c = line_is_one_list

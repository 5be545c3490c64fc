use Rattle.ninep_trace.proofs.OneLine.{words_in_lines, words_no_report}
use Rattle.ninep_trace.proofs.laws.words_stand_in_lines.Goals as goal

pub returns : goal.returns
returns c = λ l h. record { alone = λ rest. words_in_lines l rest h; no_report = words_no_report l }

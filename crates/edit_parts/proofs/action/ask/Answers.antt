use Rattle.edit_parts.specs.Tree as tree
use Rattle.edit_parts.specs.Kinds.{request_of}
use Rattle.edit_parts.proofs.Acts.{ask_read}
use Rattle.edit_parts.proofs.action.ask.Goals as goal

pub returns : goal.returns
returns c = (
  tree.Asks (request_of c.args.request) c.in_ok-t.t,
  c.asks.ensures,
  ask_read c.args.request c.in_ok-t.t c.args.text.now c.args.from c.after_blanks.result c.in_ok-t.end
      c.after_blanks.ensures.order c.after_blanks.ensures.behind c.in_ok-t.ensures,
)

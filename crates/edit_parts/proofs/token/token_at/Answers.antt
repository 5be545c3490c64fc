use Rattle.std.proofs.Common.{refl, sym}
use Rattle.std.proofs.lemmas.Result.{err_from_is_err_and}
use Rattle.edit_parts.specs.Kinds.{loop_of}
use Rattle.edit_parts.specs.Pieces.{At, Loops, Does}
use Rattle.edit_parts.proofs.Tokens.{loop_piece, loop_piece_fails, act_piece, act_piece_fails, address_piece}
use Rattle.edit_parts.proofs.Tokens.{address_piece_fails, no_piece}
use Rattle.edit_parts.proofs.token.token_at.Goals as goal

pub returns-in_ok-addr-in-Address-clause-read : goal.returns-in_ok-addr-in-Address-clause-read
returns-in_ok-addr-in-Address-clause-read c =
    let a = c.in_ok-addr-in-Address.ensures.read in (
      At a.0,
      (a.0, refl, a.1),
      address_piece c.args.text.now c.args.at c.in_ok-addr-in-Address.end a.0 c.requires
          (sym c.in-Address.ensures) a.2,
    )

pub returns-in_ok-re-in-Loops-clause-read : goal.returns-in_ok-re-in-Loops-clause-read
returns-in_ok-re-in-Loops-clause-read c =
    let a = c.in_ok-re-in-Loops.ensures.ok in (
      Loops (loop_of c.in-Loops.kind) a.0,
      (a.0, refl, a.1),
      loop_piece c.args.text.now c.args.at c.after_blanks.result c.in_ok-re-in-Loops.end c.in-Loops.kind a.0 c.requires
          (sym c.in-Loops.ensures) c.after_blanks.ensures.order c.after_blanks.ensures.behind a.2,
    )

pub returns-in_ok-act-in-Acts-clause-read : goal.returns-in_ok-act-in-Acts-clause-read
returns-in_ok-act-in-Acts-clause-read c =
    let a = c.in_ok-act-in-Acts.ensures.ok in (
      Does a.0,
      (a.0, refl, a.1),
      act_piece c.args.text.now c.args.at c.in_ok-act-in-Acts.end c.in-Acts.letter a.0
          c.requires (sym c.in-Acts.ensures) a.2,
    )

pub returns-in-Other-clause-refused : goal.returns-in-Other-clause-refused
returns-in-Other-clause-refused c = no_piece c.args.text.now c.args.at c.requires (sym c.in-Other.ensures)

pub returns-in_err-addr-in-Address-clause-refused : goal.returns-in_err-addr-in-Address-clause-refused
returns-in_err-addr-in-Address-clause-refused c =
    let p = err_from_is_err_and c.from_residual.result c.from_residual.ensures.1 in
    rw (p.1, p.2) (address_piece_fails c.args.text.now c.args.at c.in_err-addr-in-Address.field-0.0 c.requires
    (sym c.in-Address.ensures) c.in_err-addr-in-Address.ensures.refused)

pub returns-in_err-re-in-Loops-clause-refused : goal.returns-in_err-re-in-Loops-clause-refused
returns-in_err-re-in-Loops-clause-refused c =
    let p = err_from_is_err_and c.from_residual-in_err-re-in-Loops.result
    c.from_residual-in_err-re-in-Loops.ensures.1 in
    rw (p.1, p.2) (loop_piece_fails c.args.text.now c.args.at c.after_blanks.result c.in-Loops.kind
    c.in_err-re-in-Loops.field-0.0 c.requires (sym c.in-Loops.ensures) c.after_blanks.ensures.order
    c.after_blanks.ensures.behind c.in_err-re-in-Loops.ensures.err)

pub returns-in_err-act-in-Acts-clause-refused : goal.returns-in_err-act-in-Acts-clause-refused
returns-in_err-act-in-Acts-clause-refused c =
    let p = err_from_is_err_and c.from_residual-in_err-act-in-Acts.result
    c.from_residual-in_err-act-in-Acts.ensures.1 in
    rw (p.1, p.2) (act_piece_fails c.args.text.now c.args.at c.in-Acts.letter c.in_err-act-in-Acts.field-0.0 c.requires
    (sym c.in-Acts.ensures) c.in_err-act-in-Acts.ensures.err)

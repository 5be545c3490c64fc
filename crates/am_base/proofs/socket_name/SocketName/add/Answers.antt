use Rattle.std.proofs.lemmas.Result.{on_ok_weaker}
use Rattle.std.proofs.lemmas.Fmt.{contents_after_writes}
use Rattle.am_base.proofs.socket_name.SocketName.add.Goals as goal

pub returns : goal.returns
returns c = on_ok_weaker _ (contents_after_writes _ (λ s. s) (λ _ _ _ t. t) _ _ _) c.write.ensures.writes

use Rattle.std.proofs.Common.{List, sym, subst, rules, ◌≡◌, true}
use Rattle.ninep_client.specs.declared.asked.Asked.{Asked}
use Rattle.ninep_client.specs.Asking.{MaySend}
use Rattle.wire_tables.proofs.client.version_word.Goals as goal

pub call-requires : goal.call-requires
call-requires c =
    let idle : c.is_idle.result ≡ true = search rules in
    subst (λ (x : List Asked). MaySend x c.in_ok-version.version) (sym (c.is_idle.ensures.none idle))
    c.in_ok-version.ensures.may

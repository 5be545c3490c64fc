use Rattle.std.proofs.Common.{◌≡◌, length, sym, ap, subst, ◌∙◌, arith}
use Rattle.std.proofs.lemmas.List.{with_items_is}
use Rattle.core_parts.specs.Connections.{connections_after, users_after}
use Rattle.core_events.specs.PortSound.{ArePortsSound}
use Rattle.core_watch.specs.Sound.{IsWatchSound}
use Rattle.core_steps.proofs.Applied.{applied}
use Rattle.core_steps.proofs.applying.apply.Goals as goal

pub returns-clause-state : goal.returns-clause-state
returns-clause-state c = λ d h.
    let heard = c.as_slice.ensures in
    let same : length c.change_connections.new.connections ≡ c.args.parts.now.connections.len = omega arith in
    let conns = with_items_is c.args.parts.now.connections c.change_connections.new.connections same in
    let named : length c.change_users.new.users ≡ c.args.parts.now.users.len = omega arith in
    let users = with_items_is c.args.parts.now.users c.change_users.new.users named
    ∙ c.change_users.ensures ∙ ap (λ us. users_after us c.kind_of-kind.result c.args.prepared.user)
    c.as_mut_slice-2.ensures.value in
    let first = c.change_connections.ensures ∙ ap (λ cs. connections_after cs c.kind_of-kind.result)
    c.as_mut_slice.ensures.value in
    applied c.args.parts.now c.args.prepared d h c.kind_of-kind.result c.as_slice.result.now _ _
    c.change_sessions.new.sessions c.keep.new.self c.change_book.new.book c.change_ports.new.ports c.change_watch.new.watch
    c.keep-2.new.self c.take_replies.new.outputs
    c.kind_of-kind.ensures heard (conns ∙ first) users (c.change_sessions.ensures.new d (sym h.effect) (sym h.events))
    c.keep.ensures (c.change_book.ensures.new d (sym h.effect) (sym h.events) (sym h.deleted) (sym h.back))
    (c.change_ports.ensures.new d (sym h.effect) (sym h.events))
    (c.change_watch.ensures.new d (sym h.effect) (sym h.events) (sym h.written))
    c.keep-2.ensures c.take_replies.ensures

pub returns-clause-ports : goal.returns-clause-ports
returns-clause-ports c = subst ArePortsSound c.change_ports.ensures.steady c.change_ports.ensures.sound

pub returns-clause-watch : goal.returns-clause-watch
returns-clause-watch c = subst IsWatchSound c.change_watch.ensures.steady c.change_watch.ensures.sound

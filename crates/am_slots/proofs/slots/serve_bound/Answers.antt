use Rattle.std.proofs.Common.{◌∙◌}
use Rattle.am_slots.specs.Slots.{outside}
use Rattle.am_slots.proofs.Each.{ready_same, whole_written, works_same, each_fits}
use Rattle.am_slots.proofs.Whole.{all_tells, all_unbound, all_parts, all_served}
use Rattle.am_slots.proofs.slots.serve_bound.Goals as goal

pub serve_workers-end-requires-clause-ready : goal.serve_workers-end-requires-clause-ready
serve_workers-end-requires-clause-ready g c κs within =
    ready_same (g.C.Counter.fits c.args.desk.now) g.C.Counter.known g.G.Gate.told c.hire-workers.result.items
    c.as_mut_slice.result.now c.as_mut_slice.ensures.value (c.hire-workers.ensures.ready g.G.Gate.told
    c.requires.waiting)

pub gather-requires-clause-seats : goal.gather-requires-clause-seats
gather-requires-clause-seats g c =
    let fits = g.C.Counter.fits c.args.desk.now in
    let whole = whole_written c.hire-workers.result.len c.hire-workers.result.items c.as_mut_slice.result.now
    c.serve_workers-end.new.workers c.hire-workers.result.ok.0 c.as_mut_slice.ensures.value
    c.serve_workers-end.ensures.works.count in
    let works = works_same fits g.C.Counter.known (outside g.G.Gate.told g.L.Link.told g.S.Source.told g.K.Sink.told)
    g.C.Counter.enabled g.C.Counter.unsent g.C.Counter.answer c.hire-workers.result.items
    c.serve_workers-end.new.workers c.as_mut_slice.result.now _ c.as_mut_slice.ensures.value whole
    c.serve_workers-end.ensures.works in
    each_fits fits g.C.Counter.known (outside g.G.Gate.told g.L.Link.told g.S.Source.told g.K.Sink.told)
    g.C.Counter.enabled g.C.Counter.unsent g.C.Counter.answer c.hire-workers.result.items _ works

pub returns-clause-parts : goal.returns-clause-parts
returns-clause-parts g c =
    let fits = g.C.Counter.fits c.args.desk.now in
    let whole = whole_written c.hire-workers.result.len c.hire-workers.result.items c.as_mut_slice.result.now
    c.serve_workers-end.new.workers c.hire-workers.result.ok.0 c.as_mut_slice.ensures.value
    c.serve_workers-end.ensures.works.count in
    let works = works_same fits g.C.Counter.known (outside g.G.Gate.told g.L.Link.told g.S.Source.told g.K.Sink.told)
    g.C.Counter.enabled g.C.Counter.unsent g.C.Counter.answer c.hire-workers.result.items
    c.serve_workers-end.new.workers c.as_mut_slice.result.now _ c.as_mut_slice.ensures.value whole
    c.serve_workers-end.ensures.works in
    all_parts fits g.C.Counter.known (outside g.G.Gate.told g.L.Link.told g.S.Source.told g.K.Sink.told)
    g.C.Counter.enabled g.C.Counter.unsent g.C.Counter.answer c.args.bound c.gather.result
    c.hire-workers.result.items _ c.hire-workers.ensures.slots works c.gather.ensures.slots
    c.args.service.now.clients (g.C.Counter.known c.args.seat.now) (g.C.Counter.known c.hire-workers.new.seat)
    (g.C.Counter.known c.serve_workers-end.new.seat) (g.C.Counter.known c.gather.new.seat) _
    c.requires.fresh.0 c.hire-workers.ensures.fresh c.serve_workers-end.ensures.gains c.gather.ensures.known
    c.requires.clients.1

pub returns-clause-serves : goal.returns-clause-serves
returns-clause-serves g c =
    let fits = g.C.Counter.fits c.args.desk.now in
    let whole = whole_written c.hire-workers.result.len c.hire-workers.result.items c.as_mut_slice.result.now
    c.serve_workers-end.new.workers c.hire-workers.result.ok.0 c.as_mut_slice.ensures.value
    c.serve_workers-end.ensures.works.count in
    let works = works_same fits g.C.Counter.known (outside g.G.Gate.told g.L.Link.told g.S.Source.told g.K.Sink.told)
    g.C.Counter.enabled g.C.Counter.unsent g.C.Counter.answer c.hire-workers.result.items
    c.serve_workers-end.new.workers c.as_mut_slice.result.now _ c.as_mut_slice.ensures.value whole
    c.serve_workers-end.ensures.works in
    all_served fits g.C.Counter.known (outside g.G.Gate.told g.L.Link.told g.S.Source.told g.K.Sink.told)
    g.C.Counter.enabled g.C.Counter.unsent g.C.Counter.answer c.args.bound c.gather.result
    c.hire-workers.result.items _ c.hire-workers.ensures.slots works c.gather.ensures.slots
    c.args.service.now.clients (g.C.Counter.known c.args.seat.now) (g.C.Counter.known c.hire-workers.new.seat)
    (g.C.Counter.known c.serve_workers-end.new.seat) (g.C.Counter.known c.gather.new.seat) _
    c.requires.fresh.0 c.hire-workers.ensures.fresh c.serve_workers-end.ensures.gains c.gather.ensures.known
    c.args.service.now.clients c.args.service.now.script.now c.serve_workers-end.result
    (c.hire-workers.ensures.seen ∙ c.requires.fresh.1) c.serve_workers-end.ensures.ends

pub returns-clause-tells : goal.returns-clause-tells
returns-clause-tells g c =
    let fits = g.C.Counter.fits c.args.desk.now in
    let whole = whole_written c.hire-workers.result.len c.hire-workers.result.items c.as_mut_slice.result.now
    c.serve_workers-end.new.workers c.hire-workers.result.ok.0 c.as_mut_slice.ensures.value
    c.serve_workers-end.ensures.works.count in
    let works = works_same fits g.C.Counter.known (outside g.G.Gate.told g.L.Link.told g.S.Source.told g.K.Sink.told)
    g.C.Counter.enabled g.C.Counter.unsent g.C.Counter.answer c.hire-workers.result.items
    c.serve_workers-end.new.workers c.as_mut_slice.result.now _ c.as_mut_slice.ensures.value whole
    c.serve_workers-end.ensures.works in
    all_tells fits g.C.Counter.known (outside g.G.Gate.told g.L.Link.told g.S.Source.told g.K.Sink.told)
    g.C.Counter.enabled g.C.Counter.unsent g.C.Counter.answer c.args.bound c.gather.result
    c.hire-workers.result.items _ c.hire-workers.ensures.slots works c.gather.ensures.slots

pub returns-clause-unbound : goal.returns-clause-unbound
returns-clause-unbound g c =
    let fits = g.C.Counter.fits c.args.desk.now in
    let whole = whole_written c.hire-workers.result.len c.hire-workers.result.items c.as_mut_slice.result.now
    c.serve_workers-end.new.workers c.hire-workers.result.ok.0 c.as_mut_slice.ensures.value
    c.serve_workers-end.ensures.works.count in
    let works = works_same fits g.C.Counter.known (outside g.G.Gate.told g.L.Link.told g.S.Source.told g.K.Sink.told)
    g.C.Counter.enabled g.C.Counter.unsent g.C.Counter.answer c.hire-workers.result.items
    c.serve_workers-end.new.workers c.as_mut_slice.result.now _ c.as_mut_slice.ensures.value whole
    c.serve_workers-end.ensures.works in
    all_unbound fits g.C.Counter.known (outside g.G.Gate.told g.L.Link.told g.S.Source.told g.K.Sink.told)
    g.C.Counter.enabled g.C.Counter.unsent g.C.Counter.answer c.args.bound c.gather.result
    c.hire-workers.result.items _ c.hire-workers.ensures.slots works c.gather.ensures.slots

-- That each number of a journal's events fits its field is a fact with one proof, so it can be kept beside a core.
use Rattle.std.specs.Prelude.{ℕ, List, [], ◌∷◌}
use Rattle.std.specs.Coded.{×_prop, Unit-prop, le_prop}
use Rattle.std.specs.List.{AllByRecursion}
use Rattle.std.proofs.Props.{props}
use Rattle.ninep_types.specs.declared.message.TBody.{TBody}
use Rattle.ninep_types.specs.declared.message.TBody.TheVariants as t
use Rattle.ninep_types.specs.declared.message.TMsg.{TMsg}
use Rattle.ninep_types.specs.Spelling.{BodyInRange_t, InRange_t}
use Rattle.am_journal.specs.declared.event.Event.{Event}
use Rattle.am_journal.specs.declared.event.Event.TheVariants as event
use Rattle.am_journal.specs.Lawful.{AreBytes, IsInRange}

body-prop : (body : TBody) → IsProp (BodyInRange_t body)
body-prop (t.Version msize version) = le_prop
body-prop (t.Auth afid uname aname) = le_prop
body-prop (t.Flush oldtag) = le_prop
body-prop (t.Attach fid afid uname aname) = Prim.hlevel props
body-prop (t.Walk fid newfid names) = Prim.hlevel props
body-prop (t.Open fid mode) = Prim.hlevel props
body-prop (t.Create fid name perm mode) = Prim.hlevel props
body-prop (t.Read fid offset count) = Prim.hlevel props
body-prop (t.Write fid offset bytes) = Prim.hlevel props
body-prop (t.Clunk fid) = le_prop
body-prop (t.Remove fid) = le_prop
body-prop (t.Stat fid) = le_prop
body-prop (t.Wstat fid stat) = le_prop

message-prop : (m : TMsg) → IsProp (InRange_t m)
message-prop m = Prim.hlevel (props, body-prop)

bytes-prop : (bytes : List ℕ) → IsProp (AreBytes bytes)
bytes-prop bytes = Prim.hlevel props

event-prop : (e : Event) → IsProp (IsInRange e)
event-prop (event.Dial c) = le_prop
event-prop (event.Msg c m) = Prim.hlevel (props, message-prop, bytes-prop)
event-prop (event.Hang c why) = le_prop
event-prop (event.Took c) = le_prop
event-prop event.New = Unit-prop
event-prop (event.Key w side text) = le_prop
event-prop (event.Sel w range) = Prim.hlevel props
event-prop (event.Exec at) = Prim.hlevel props
event-prop (event.Arg at chord) = Prim.hlevel props
event-prop (event.Look at) = Prim.hlevel props
event-prop (event.File path text) = Unit-prop
event-prop (event.Dir path) = Unit-prop

pub ranged-prop : (journal : List Event) → IsProp (AllByRecursion IsInRange journal)
ranged-prop [] = Unit-prop
ranged-prop (e ∷ journal) = ×_prop (event-prop e) (ranged-prop journal)

-- The groups of edits that Undo takes back one by one.
use Rattle.std.specs.Prelude.{◌≡◌, ℕ, ◌+◌, ◌-◌, ◌≤◌, ◌<◌, ◌==◌, ◌&&◌, ◌||◌, Bool, true, false, not, List, [], ◌∷◌, ◌++◌}
use Rattle.std.specs.Prelude.{length, take, drop, slice_get, Option, Some, None, if◌then◌else◌}
use Rattle.std.specs.Option.{option_map}
use Rattle.edit_log.specs.declared.types.Done.{Done}
use Rattle.edit_log.specs.declared.types.Edit.{Edit}
use Rattle.edit_log.specs.declared.types.Marking.{Marking}
use Rattle.edit_log.specs.declared.types.Pushed.{Pushed}

-- edits that Undo takes back together, and the number of the step that began them
pub record DoneGroup : Type 0 where
  pub number : ℕ
  pub edits : List Done

-- the groups that Undo can take back, the last of them first, and those that Redo can make again,
-- the first of them first
pub record Log : Type 0 where
  pub past : List DoneGroup
  pub future : List DoneGroup
  -- the undone groups that changes have forgotten since the last `settle`, those of the last change first
  pub forgotten : List DoneGroup
  pub marking : Marking
  -- the number of edits that can be put in without taking memory, and the number of the step that can; None: any step
  pub room : ℕ
  pub ready : Option ℕ

-- each change will be a group of its own, and none was made
abbrev pub no_marking : Marking
no_marking = record { automatic = true; joins = false; changed = 0 }

-- nothing was done, and each change will be a group of its own
abbrev pub no_log : Log
no_log = record { past = []; future = []; forgotten = []; marking = no_marking; room = 0; ready = None }

-- ---- changes

-- Edits of the step of this number go to the last group, of so many: there is one, and it is open since `nomark`, or
-- the last change was of that step, too.
abbrev pub goes_on : Marking → ℕ → ℕ → Bool
goes_on m groups number = (m.joins || (m.changed == number)) && not (groups == 0)

-- The step of this number can use room that is ready.
abbrev pub IsReadyFor : Option ℕ → ℕ → Type 0
IsReadyFor None number = Unit {0}
IsReadyFor (Some n) number = number ≡ n

-- the list with its last member changed
abbrev pub at_last : {X : Type 0} → (X → X) → List X → List X
at_last f [] = []
at_last f (x ∷ []) = f x ∷ []
at_last f (x ∷ y ∷ rest) = x ∷ at_last f (y ∷ rest)

-- the group with these edits at its end
abbrev pub with_more : List Done → DoneGroup → DoneGroup
with_more edits g = record g { edits = g.edits ++ edits }

-- the group without so many edits at its end
abbrev pub with_less : ℕ → DoneGroup → DoneGroup
with_less n g = record g { edits = take (length g.edits - n) g.edits }

-- the groups after edits, which go to the last or are one
abbrev pub grown : Bool → List DoneGroup → List Done → ℕ → List DoneGroup
grown on past edits number =
    if on then at_last (with_more edits) past else past ++ record { number = number; edits = edits } ∷ []

-- after edits of the step of this number; a group that they began is open where not each change is one
abbrev pub marking_after : Bool → Marking → ℕ → Marking
marking_after on m number = record {
  automatic = m.automatic;
  joins = (if on then m.joins else not m.automatic);
  changed = number;
}

-- after edits of the step of this number: they go to the last group or are one, and what was undone is forgotten
abbrev pub pushed : Log → List Done → ℕ → Log
pushed l edits number = let on = goes_on l.marking (length l.past) number in record {
  past = grown on l.past edits number;
  future = [];
  forgotten = l.future ++ l.forgotten;
  marking = marking_after on l.marking number;
  room = 0;
  ready = l.ready;
}

-- what has to be known to take back a push of so many edits
abbrev pub pushing : Log → ℕ → ℕ → Pushed
pushing l edits number = record {
  begins = not (goes_on l.marking (length l.past) number);
  edits = edits;
  undone = length l.future;
}

-- after `mark` (automatic) or `nomark`: the next change begins a group
abbrev pub marked_marking : Marking → Bool → Marking
marked_marking m automatic = record { automatic = automatic; joins = false; changed = m.changed }

-- the log after `mark` or `nomark`
abbrev pub marked : Log → Bool → Log
marked l automatic = record l { marking = marked_marking l.marking automatic }

-- after Undo or Redo: the next change begins a group
abbrev pub ended : Marking → Marking
ended m = record { automatic = m.automatic; joins = false; changed = 0 }

-- the undone groups that were forgotten are gone
abbrev pub settled : Log → Log
settled l = record l { forgotten = [] }

-- ---- taking a push back

-- the groups before edits that began a group or went to the last
abbrev pub ungrown : Bool → List DoneGroup → ℕ → List DoneGroup
ungrown begins past edits = if begins then take (length past - 1) past else at_last (with_less edits) past

-- before a push; the marking is not the one of then
abbrev pub unpushed : Log → Pushed → Log
unpushed l p = record {
  past = ungrown p.begins l.past p.edits;
  future = take p.undone (l.future ++ l.forgotten);
  forgotten = drop p.undone (l.future ++ l.forgotten);
  marking = l.marking;
  room = 0;
  ready = l.ready;
}

-- a group was pushed, and as many undone ones as it forgot are there
pub record CanUnpush (l : Log) (p : Pushed) : Type 0 where
  pub some : 0 < length l.past
  pub undone : p.undone ≤ length (l.future ++ l.forgotten)

-- with this marking
abbrev pub restored : Log → Marking → Log
restored l m = record l { marking = m; room = 0 }

-- A push is taken back as if it hadn't been.
abbrev pub UnpushTakesBack : Type 0
UnpushTakesBack =
    (l : Log) (edits : List Done) (number : ℕ) → restored
    (unpushed (pushed l edits number) (pushing l (length edits) number)) l.marking ≡ record l { room = 0 }

-- ---- Undo and Redo

-- the edit that takes back one that was done: what was put is cut, and what was cut is put
abbrev pub inverse : Done → Edit
inverse d = record { q0 = d.q0; q1 = d.q0 + length d.put; text = d.cut }

-- the edit that was done
abbrev pub again : Done → Edit
again d = record { q0 = d.q0; q1 = d.q0 + length d.cut; text = d.put }

-- the edits that take a group back: the inverses of its edits, that of the last edit first
abbrev pub undoing : List Done → List Edit
undoing [] = []
undoing (d ∷ ds) = undoing ds ++ inverse d ∷ []

-- the edits that make a group again
abbrev pub redoing : List Done → List Edit
redoing [] = []
redoing (d ∷ ds) = again d ∷ redoing ds

-- the last of these, if there is one
abbrev pub last_of : {X : Type 0} → List X → Option X
last_of xs = slice_get xs (length xs - 1)

-- the first of these, if there is one
abbrev pub first_of : {X : Type 0} → List X → Option X
first_of xs = slice_get xs 0

-- all but the last
abbrev pub before_last : {X : Type 0} → List X → List X
before_last xs = take (length xs - 1) xs

-- these with the last of the others in front, if there is one
abbrev pub with_last_of : {X : Type 0} → List X → List X → List X
with_last_of others xs = drop (length others - 1) others ++ xs

-- these with the first of the others at the end, if there is one
abbrev pub with_first_of : {X : Type 0} → List X → List X → List X
with_first_of others xs = xs ++ take 1 others

-- the edits of this group, if there is one
abbrev pub edits_in : Option DoneGroup → List Done
edits_in None = []
edits_in (Some g) = g.edits

-- the number of this group, if there is one
abbrev pub number_in : DoneGroup → ℕ
number_in g = g.number

-- the last edits of the last group of past, so many or all
abbrev pub last_edits : List DoneGroup → ℕ → List Done
last_edits past n = let edits = edits_in (last_of past) in drop (length edits - n) edits

-- the edits of the last group of past
abbrev pub all_last : List DoneGroup → List Done
all_last past = edits_in (last_of past)

-- the edits of the first group of future
abbrev pub all_first : List DoneGroup → List Done
all_first future = edits_in (first_of future)

-- the edits that take a group back
abbrev pub undoing_group : DoneGroup → List Edit
undoing_group g = undoing g.edits

-- those that make it again
abbrev pub redoing_group : DoneGroup → List Edit
redoing_group g = redoing g.edits

-- the edits that Undo makes: those that take back the last group of past
abbrev pub undo_edits : Log → Option (List Edit)
undo_edits l = option_map undoing_group (last_of l.past)

-- the edits that Redo makes: those of the first group of future
abbrev pub redo_edits : Log → Option (List Edit)
redo_edits l = option_map redoing_group (first_of l.future)

-- after Undo: the last group of past is the first of future, and the next change begins a group
abbrev pub undone : Log → Log
undone l =
    record l { past = before_last l.past; future = with_last_of l.past l.future; marking = ended l.marking; room = 0 }

-- after Redo: the first group of future is the last of past, and the next change begins a group
abbrev pub redone : Log → Log
redone l =
    record l { past = with_first_of l.future l.past; future = drop 1 l.future; marking = ended l.marking; room = 0 }

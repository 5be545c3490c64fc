-- The gate that is found has the name that was asked for.
use Rattle.std.proofs.Common.{◌≡◌, ℕ, Bool, true, false, ◌&&◌, List, Option, Some, None, slice_get, if◌then◌else◌, sym}
use Rattle.std.proofs.Common.{ap, ◌∙◌, refl}
use Rattle.std.specs.Prelude.{position, option_map}
use Rattle.std.proofs.lemmas.List.Quantifiers.{position-Some}
use Rattle.std.proofs.lemmas.Option.{get_or_from_slice_get}
use Rattle.std.proofs.lemmas.Slice.Eq.{bytes_eq-Decides}
use Rattle.std.proofs.lemmas.Bool.{eqb-true}
use Rattle.am_base.specs.Memory.{GateState, HostState, LinkState, dialled_at, dialled_link, dialled_place, fails_next}
use Rattle.am_base.specs.Memory.{is_gate_at, is_gate_of, link_of, place_of}

-- both tests pass
both_pass : (a b : Bool) → (a && b) ≡ true → (a ≡ true) × (b ≡ true)
both_pass true b e = (refl, e)
both_pass false b e = absurd cc

-- a gate that passes the test has that name
pub named-is_gate_of : (path : List ℕ) (slot : ℕ) (g : GateState) → is_gate_of path slot g ≡ true → (g.path ≡ path)
    × (g.slot ≡ slot)
named-is_gate_of path slot g e =
    let passed = both_pass _ _ e in
    ((bytes_eq-Decides g.path path).0 passed.0, eqb-true g.slot slot passed.1)

pub named_position : (path : List ℕ) (slot : ℕ) (gates : List GateState) (at : ℕ) (g : GateState)
    → position (is_gate_of path slot) gates ≡ Some at → slice_get gates at ≡ Some g → (g.path ≡ path) × (g.slot ≡ slot)
named_position path slot gates at g found e =
    let passes = (position-Some (is_gate_of path slot) gates at g found).1 in
    named-is_gate_of path slot g (ap (is_gate_of path slot) (sym (get_or_from_slice_get gates at g g e)) ∙ passes)

-- a test that answers something didn't fail
chosen : (b : Bool) (o : Option ℕ) (at : ℕ) → (if b then None else o) ≡ Some at → o ≡ Some at
chosen true o at e = absurd cc
chosen false o at e = e

pub named_place : (h : HostState) (path : List ℕ) (slot : ℕ) (at : ℕ) (g : GateState) → place_of h path slot ≡ Some at
    → slice_get h.gates at ≡ Some g → (g.path ≡ path) × (g.slot ≡ slot)
named_place h path slot at g found e = named_position path slot h.gates at g
    (chosen (fails_next h.calls) (position (is_gate_of path slot) h.gates) at found) e

-- the gate that is dialled has the path
pub at_dialled : (h : HostState) (path : List ℕ) (at : ℕ) (g : GateState) → dialled_place h path ≡ Some at
    → slice_get h.gates at ≡ Some g → g.path ≡ path
at_dialled h path at g found e =
    let passes = (position-Some (is_gate_at path) h.gates at g (chosen (fails_next h.calls)
    (position (is_gate_at path) h.gates) at found)).1 in
    (bytes_eq-Decides g.path path).0 (ap (is_gate_at path) (sym (get_or_from_slice_get h.gates at g g e)) ∙ passes)

-- what it hands out is told with the path
pub dialled-some : (g : GateState) (l : LinkState) → link_of g ≡ Some l → dialled_link g ≡ Some (dialled_at g.path l)
dialled-some g l e = ap (option_map (dialled_at g.path)) e

pub dialled-none : (g : GateState) → link_of g ≡ None → dialled_link g ≡ None
dialled-none g e = ap (option_map (dialled_at g.path)) e

-- Changes that keys and selections make can be made.
use Rattle.std.proofs.Common.{◌≡◌, ℕ, zero, suc, ◌+◌, ◌-◌, ◌≤◌, Bool, true, false, cond, eqb, List, [], ◌∷◌, ◌++◌}
use Rattle.std.proofs.Common.{length, take, drop, Option, Some, None, refl, sym, subst, arith}
use Rattle.std.specs.Prelude.{◌&&◌, nat_le, IsSome}
use Rattle.std.proofs.lemmas.List.{length-append}
use Rattle.std.proofs.lemmas.Bool.Decides.{nat_tests}
use Rattle.am_text.specs.declared.range.Range.{Range}
use Rattle.am_journal.specs.declared.event.Why.{Why}
use Rattle.am_journal.specs.declared.event.Why.TheVariants as why
use Rattle.edit_log.specs.declared.types.Edit.{Edit}
use Rattle.edit_log.specs.Edited.{text_after}
use Rattle.win_text.specs.Bodies.{IsInside, IsSound, AreInRange}
use Rattle.win_text.specs.BodyStories.{IsChangeOf}
use Rattle.core_windows.specs.declared.change.Change.TheVariants as change
use Rattle.core_windows.specs.declared.change.Setting.TheVariants as setting
use Rattle.core_windows.specs.declared.change.Change.{Change}
use Rattle.core_windows.specs.Possible.{CanSetIn, CanEdit, text_in}
use Rattle.core_windows.proofs.Steps.{edits_then_set}
use Rattle.core_fids.specs.Done.{CanBeMade}
use Rattle.core_windows.specs.Windows.{Window, window_at}
use Rattle.core_addresses.specs.Data.{replacement}
use Rattle.core_intents.specs.Typing.{fits_body, sel_refusal, edits_with_dot, sel_changes}

-- a range that lies in the text, and a text for its place; null_in says that both are empty
in_range : (text : List ℕ) (r : Range) (put : List ℕ) → IsInside text r → (b : Bool)
    → ((eqb r.q0 r.q1) && (eqb (length put) 0)) ≡ b
    → AreInRange text (cond b [] (record { q0 = r.q0; q1 = r.q1; text = put } ∷ []))
in_range text r put inside true e = tt
in_range text r put inside false e = (
  record {
    order = inside.order;
    bounds = inside.bounds;
    some =
        grind (arith, nat_tests);
  },
  tt,
)

take_len : (text : List ℕ) (k : ℕ) → k ≤ length text → length (take k text) ≡ k
take_len [] zero h = refl
take_len [] (suc k) h = absurd (omega (arith, h))
take_len (c ∷ text) zero h = refl
take_len (c ∷ text) (suc k) h = omega (arith, take_len text k (omega (arith, h)))

after_put : (text put : List ℕ) (q0 q1 : ℕ) → q0 ≤ length text → q0 + length put ≤ length
    (take q0 text ++ put ++ drop q1 text)
after_put text put q0 q1 h =
    let front : length (take q0 text ++ put) ≡ length (take q0 text) + length put = length-append (take q0 text) put in
    let whole : length (take q0 text ++ put ++ drop q1 text) ≡ length (take q0 text ++ put) + length (drop q1 text) =
    length-append (take q0 text ++ put) (drop q1 text) in
    omega (arith, take_len text q0 h, front, whole)

end_inside : (text : List ℕ) (r : Range) (put : List ℕ) → IsInside text r → (b : Bool)
    → ((eqb r.q0 r.q1) && (eqb (length put) 0)) ≡ b
    → r.q0 + length put ≤ length (text_after text (cond b [] (record { q0 = r.q0; q1 = r.q1; text = put } ∷ [])))
end_inside text r put inside true e = grind (arith, nat_tests)
end_inside text r put inside false e = after_put text put r.q0 r.q1 (omega (arith, inside.order, inside.bounds))

replaces : (text : List ℕ) (r : Range) (put : List ℕ) → IsInside text r
    → IsChangeOf text (record {
      edits = replacement r put;
      dot = Some
          (record { q0 = r.q0 + length put; q1 = r.q0 + length put });
    })
replaces text r put inside = record {
  edits = in_range text r put inside ((eqb r.q0 r.q1) && (eqb (length put) 0)) refl;
  dot = record {
    order = omega arith;
    bounds = end_inside text r put inside ((eqb r.q0 r.q1) && (eqb (length put) 0))
        refl;
  };
}

pub key_possible : (windows : List (Option Window)) (w : ℕ) (window : Window) (put : List ℕ) (edits : List Edit)
    (end : ℕ) (cs : List Change)
    → cs ≡ edits_with_dot w edits (record { q0 = end; q1 = end }) → window_at windows w ≡ Some window
    → IsSound window.body → edits ≡ replacement window.body.dot put → end ≡ window.body.dot.q0 + length put
    → CanBeMade windows cs
key_possible windows w window put edits end cs is there sound e n = subst (CanBeMade windows) (sym is) (λ at.
    let dot : Range = record { q0 = end; q1 = end } in
    let made : IsChangeOf window.body.text (record { edits = edits; dot = Some dot }) =
    subst (λ (es : List Edit). IsChangeOf window.body.text (record { edits = es; dot = Some dot })) (sym e)
    (subst (λ (k : ℕ). IsChangeOf window.body.text (record {
      edits = replacement window.body.dot put;
      dot =
          Some (record { q0 = k; q1 = k });
    })) (sym n)
    (replaces window.body.text window.body.dot put sound.dot))
    in
    edits_then_set at w edits (setting.Dot dot) windows
    (subst (λ (o : Option Window). CanEdit o edits) (sym there) (record { lives = refl; range = made.edits }))
    (subst (λ (o : Option Window). IsInside (text_after (text_in o) edits) dot) (sym there) made.dot))

pub add_possible : (windows : List (Option Window)) (w : ℕ) (window : Window) (text : List ℕ) (cs : List Change)
    → cs ≡ change.Adds w text ∷ [] → window_at windows w ≡ Some window → CanBeMade windows cs
add_possible windows w window text cs is there = subst (CanBeMade windows) (sym is)
    (λ at. (subst (λ (o : Option Window). IsSome o) (sym there) refl, tt))

-- dot's start and the text together have no more runes than a body may have
pub key_fits : (window : Window) (put : List ℕ) → IsSound window.body
    → fits_body window put ≡ None → window.body.dot.q0 + length put ≤ 16777216
key_fits window put sound e =
    let fits : (b : Bool) → cond {A = Option Why} b None (Some why.Length) ≡ None → b ≡ true =
    λ b. elim b as (λ t. cond {A = Option Why} t None (Some why.Length) ≡ None → t ≡ true) [
      | true ↦ λ h. refl
      | false ↦ λ h. absurd cc
    ] in
    let within : nat_le (length window.body.text - (window.body.dot.q1 - window.body.dot.q0) + length put)
    16777216 ≡ true = fits _ e in
    let inside : IsInside window.body.text window.body.dot = sound.dot in
    let order : window.body.dot.q0 ≤ window.body.dot.q1 = inside.order in
    let bounds : window.body.dot.q1 ≤ length window.body.text = inside.bounds in
    grind (arith, nat_tests)

-- ---- selections

inside_if_fits : (o : Option Window) (r : Range) → r.q0 ≤ r.q1 → sel_refusal o r ≡ None → CanSetIn o (setting.Dot r)
inside_if_fits None r h e = absurd cc
inside_if_fits (Some window) r h e =
    let fits : (b : Bool) → cond {A = Option Why} b None (Some why.Range) ≡ None → b ≡ true =
    λ b. elim b as (λ t. cond {A = Option Why} t None (Some why.Range) ≡ None → t ≡ true) [
      | true ↦ λ h. refl
      | false ↦ λ h. absurd cc
    ] in
    let within : nat_le r.q1 (length window.body.text) ≡ true = fits _ e in
    record { lives = refl; inside = record { order = h; bounds = grind (arith, nat_tests) } }

pub sel_possible : (windows : List (Option Window)) (w : ℕ) (r : Range) (cs : List Change) → cs ≡ sel_changes w r
    → r.q0 ≤ r.q1 → sel_refusal (window_at windows w) r ≡ None → CanBeMade windows cs
sel_possible windows w r cs is h e = subst (CanBeMade windows) (sym is)
    (λ at. (inside_if_fits (window_at windows w) r h e, tt))

pub ruleset typing = (key_possible, key_fits, add_possible, sel_possible)

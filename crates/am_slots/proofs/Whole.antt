-- What serving all slots comes to.
use Rattle.std.proofs.Common.{◌≡◌, ℕ, ◌+◌, ◌*◌, List, [], ◌++◌, length, sym, ap, subst, ◌∙◌, arith}
use Rattle.std.specs.List.{flat_map}
use Rattle.std.proofs.lemmas.List.{length-map}
use Rattle.am_journal.specs.declared.event.Event.{Event}
use Rattle.am_counter.specs.Known.{Known, lists_of}
use Rattle.am_serve.specs.Gained.{Rule, Answers, Gains}
use Rattle.am_serve.specs.Script.{EndsScript}
use Rattle.am_serve.specs.declared.scripting.ScriptEnd.{ScriptEnd}
use Rattle.am_slots.specs.Binding.{HaveNames}
use Rattle.am_slots.specs.Serving.{EachTells, ServesAll, unseen}
use Rattle.am_slots.specs.Slots.{Outside, EachHas, unbound}
use Rattle.am_slots.specs.Working.{IsFresh, EachWorks, TakesInEach, slots_of}
use Rattle.am_slots.specs.declared.slot.Slot.{Slot}
use Rattle.am_slots.specs.declared.working.Worker.{Worker}
use Rattle.am_slots.proofs.Each.{each_parts, each_has, each_tells, each_unbound}

-- a seat that has seen nothing
unseen_is : (v : Known) → IsFresh 1 v → v.seen ≡ [] → v ≡ unseen
unseen_is v f e =
    let F : ℕ → List Event → List (ℕ × Event) → List (List (ℕ × Event))
    → Known = λ p s m l. record { parts = p; seen = s; mine = m; ended = l } in
    ap (λ (p : ℕ). F p v.seen v.mine v.ended) f.parts
    ∙ ap (λ (s : List Event). F 1 s v.mine v.ended) e
    ∙ ap (λ (m : List (ℕ × Event)). F 1 [] m v.ended) f.mine
    ∙ ap (λ (l : List (List (ℕ × Event))). F 1 [] [] l) f.ended

module _ {T G L S K : Type 0} (Fits : T → Type 0) (known : T → Known) (o : Outside G L S K) (enabled : Rule)
    (unsent : List Event → ℕ → List ℕ) (answer : Answers)
    (bound slots : List (Slot G L S K)) (xs ys : List (Worker T G L S K))
    (before : slots_of xs ≡ bound) (h : EachWorks Fits known o enabled unsent answer xs ys)
    (after : slots ≡ slots_of ys) where
  pub all_tells : (path : List ℕ) → HaveNames o.gate path 0 bound → EachTells o path 0 slots
  all_tells path n =
      let P : List (Slot G L S K) → Type 0 = λ l. HaveNames o.gate path 0 l in
      let Q : List (Slot G L S K) → Type 0 = λ l. EachTells o path 0 l in
      subst Q (sym after) (each_tells Fits known o enabled unsent answer xs ys h path (subst P (sym before) n))

  pub all_unbound : unbound slots ≡ unbound bound
  all_unbound =
      ap (λ (l : List (Slot G L S K)). unbound l) after
      ∙ each_unbound Fits known o enabled unsent answer xs ys h
      ∙ ap (λ (l : List (Slot G L S K)). unbound l) before

  module _ (n : ℕ) (v u w x : Known) (entries : List (ℕ × Event)) (fresh : IsFresh (2 * n + 1) v) (hired : IsFresh 1 u)
      (gains : Gains u entries w) (takes : TakesInEach known w ys x) where
    pub all_parts : length bound ≡ n → x.parts ≡ v.parts
    all_parts count =
        omega (
          arith,
          fresh.parts,
          hired.parts,
          gains.parts,
          takes.parts,
          each_parts Fits known o enabled unsent answer xs ys h,
          count,
          ap length before,
          length-map xs (λ (y : Worker T G L S K). y.slot),
        )

    ended_is : x.ended ≡ flat_map (λ (y : Worker T G L S K). lists_of (known y.seat)) ys
    ended_is = takes.ended ∙ ap (λ (l : List (List (ℕ × Event))). l
        ++ flat_map (λ (y : Worker T G L S K). lists_of (known y.seat)) ys) (gains.ended ∙ hired.ended)

    pub all_served : (clients : ℕ) (script : List ℕ) (end : ScriptEnd) → u.seen ≡ []
        → EndsScript enabled answer clients u script end w
        → ServesAll o enabled unsent answer clients script slots end x
    all_served clients script end seen ends =
        let P : List (Slot G L S K) → Type 0 = λ l. EachHas o enabled unsent answer 0 x.seen l x.ended in
        let Q : List (List (ℕ × Event)) → Type 0 = λ l. EachHas o enabled unsent answer 0 x.seen (slots_of ys) l in
        let R : Known → Type 0 = λ k. EndsScript enabled answer clients k script end w in
        record {
          each = subst P (sym after) (subst Q (sym ended_is) (each_has Fits known o enabled unsent answer xs ys h x.seen
              takes.each));
          known = w;
          seen = takes.seen;
          mine = takes.mine;
          did = subst R (unseen_is u hired seen) ends;
        }

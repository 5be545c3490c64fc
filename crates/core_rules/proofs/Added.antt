-- Ports and sets that are added.
use Rattle.std.proofs.Common.{◌≡◌, ℕ, ◌+◌, ◌<◌, ◌≤◌, ◌||◌, ◌&&◌, Bool, true, false, cond, List, [], ◌∷◌, ◌++◌, length}
use Rattle.std.proofs.Common.{Option, Some, None, Result, Ok, Err, nat_lt, eqb, refl, sym, ap, subst, ◌∙◌, append_assoc}
use Rattle.std.proofs.Common.{arith}
use Rattle.std.proofs.lemmas.Bool.Decides.{nat_tests}
use Rattle.std.specs.List.{list_all}
use Rattle.std.proofs.lemmas.Bool.{and_parts, and_from}
use Rattle.std.proofs.lemmas.List.{length-append, append-nil, take-append-drop}
use Rattle.std.proofs.lemmas.List.Folds.{list_all-append}
use Rattle.am_text.specs.Utf8.{decode}
use Rattle.rule_syntax.specs.Parsing.{rules_of}
use Rattle.rule_syntax.specs.Verbs.{is_port_name}
use Rattle.rule_syntax.specs.declared.fault.RuleFault.{RuleFault}
use Rattle.rule_syntax.specs.declared.rule.Rule.{Rule}
use Rattle.rule_syntax.specs.declared.rule.Var.{Var}
use Rattle.rule_syntax.specs.Cutting.{sets_end, whole_sets, begun_set}
use Rattle.rule_syntax.specs.Naming.{ports_of}
use Rattle.plumb_ports.specs.PortList.{Port, named, number_of, is_there, with_name}
use Rattle.core_stores.specs.Stores.{RuleState, added, has_room}
use Rattle.core_scene.specs.declared.deed.Entry.{Entry}
use Rattle.core_scene.specs.declared.deed.Deed.{Deed}
use Rattle.core_scene.specs.declared.deed.Deed.TheVariants as deed
use Rattle.core_scene.specs.Scenes.{SceneState, done, done_all, CanDoAll}
use Rattle.core_rules.specs.declared.refusal.RulesRefusal.{RulesRefusal}
use Rattle.core_rules.specs.NewNames.{is_known, with_name as with_name_of, with_names, new_names}
use Rattle.core_rules.specs.Adding.{does, set_deeds, fits, read_added, adds}
use Rattle.core_rules.specs.Writing.{rules_outcome}
use Rattle.core_rules.specs.RulesLaws.{RefusedAddsNothing, WrittenIsKept}

abbrev pub Read : Type 0
Read = List (List Rule) × List Var

-- ---- the names are those of ports

abbrev AreNames : List (List ℕ) → Type 0
AreNames names = list_all is_port_name names ≡ true

name_put : (ports : List Port) (names : List (List ℕ)) (name : List ℕ) → AreNames names
    → is_port_name name ≡ true → AreNames (with_name_of ports names name)
name_put ports names name h k = by (is_known ports names name)
  where
    by : (known : Bool) → AreNames (cond known names (names ++ name ∷ []))
    by true = h
    by false = list_all-append is_port_name names (name ∷ []) ∙ and_from (list_all is_port_name names)
        (is_port_name name && true) h (and_from (is_port_name name) true k refl)

names_put : (ports : List Port) (names more : List (List ℕ)) → AreNames names → AreNames more
    → AreNames (with_names ports names more)
names_put ports names [] h k = h
names_put ports names (name ∷ more) h k =
    let p = and_parts (is_port_name name) (list_all is_port_name more) k in
    names_put ports (with_name_of ports names name) more (name_put ports names name h p.0) p.1

pub new_named : (ports : List Port) (named : List (List ℕ)) → AreNames named → AreNames (new_names ports named)
new_named ports named h = names_put ports [] named refl h

pub named_too : (ports : List Port) (names listed : List (List ℕ)) (read sets : List (List Rule))
    → sets ≡ read → listed ≡ ports_of sets → names ≡ new_names ports listed
    → AreNames (ports_of read) → AreNames names
named_too ports names listed read sets r l n h =
    subst AreNames (sym n) (new_named ports listed (subst AreNames (sym (l ∙ ap ports_of r)) h))

-- ---- the deeds can be done

one_more : (o : Option ℕ) (ps : List Port) (name : List ℕ) → length (with_name o ps name) ≤ length ps + 1
one_more None ps name = omega (arith, length-append ps (named name ∷ []))
one_more (Some port) ps name = omega arith

or_small : (b : Bool) (n : ℕ) → n < 65536 → (b || nat_lt n 65536) ≡ true
or_small true n h = refl
or_small false n h = grind (arith, nat_tests)

can_set : (e : Entry) (s : SceneState) (names : List (List ℕ)) (text : List ℕ) (read : Read) → AreNames names
    → length s.ports.ports + length names ≤ 65536
    → has_room s.rules (length text) ≡ true → CanDoAll e s (set_deeds names text read)
can_set e s [] text read a h k = (k, tt)
can_set e s (n ∷ ns) text read a h k =
    let p = and_parts (is_port_name n) (list_all is_port_name ns) a in
    let more : length (with_name (number_of s.ports.ports n) s.ports.ports n) ≤ length s.ports.ports + 1 =
    one_more (number_of s.ports.ports n) s.ports.ports n in (
      and_from (is_port_name n) (is_there s.ports.ports n || nat_lt (length s.ports.ports) 65536) p.0
          (or_small (is_there s.ports.ports n) (length s.ports.ports) (omega arith)),
      can_set e (done e s (deed.AddsPort n)) ns text read p.1 (omega arith) k,
    )

few_ports : (names : List (List ℕ)) (bytes : ℕ) (s : SceneState) → fits names bytes s ≡ true →
    length s.ports.ports + length names ≤ 65536
few_ports names bytes s h = grind (arith, nat_tests)

room_for : (names : List (List ℕ)) (bytes n : ℕ) (s : SceneState) → fits names bytes s ≡ true → n ≤ bytes
    → has_room s.rules n ≡ true
room_for names bytes n s h k = grind (arith, nat_tests)

pub can_add_sets : (e : Entry) (s : SceneState) (names : List (List ℕ)) (text : List ℕ) (bytes : ℕ) (read : Read)
    (ds : List Deed)
    → AreNames names → length text ≤ bytes → fits names bytes s ≡ true → ds ≡ set_deeds names text read
    → CanDoAll e s ds
can_add_sets e s names text bytes read ds a k h d =
    subst (CanDoAll e s) (sym d) (can_set e s names text read a (few_ports names bytes s h)
    (room_for names bytes (length text) s h k))

-- ---- a refusal adds nothing

names_refused : (b : Bool) (deeds : List Deed) (x r : RulesRefusal)
    → (cond b (does deeds) (record { deeds = []; refusal = Some x })).refusal ≡ Some r
    → (cond b (does deeds) (record { deeds = []; refusal = Some x })).deeds ≡ []
names_refused true deeds x r h = absurd cc
names_refused false deeds x r h = refl

read_refused : (text : List ℕ) (bytes : ℕ) (read : Result Read RuleFault) (s : SceneState) (r : RulesRefusal)
    → (read_added text bytes read s).refusal ≡ Some r → (read_added text bytes read s).deeds ≡ []
read_refused text bytes (Ok read) s r h = names_refused (fits (new_names s.ports.ports (ports_of read.0)) bytes s) _ _ r
    h
read_refused text bytes (Err f) s r h = refl

rest_refused : (b : Bool) (text : List ℕ) (s : SceneState) (r : RulesRefusal)
    → (cond b (does []) (adds text (length text) s)).refusal ≡ Some r
    → (cond b (does []) (adds text (length text) s)).deeds ≡ []
rest_refused true text s r h = refl
rest_refused false text s r h = read_refused text (length text) (rules_of (decode text) s.rules.vars) s r h

pub refused_nothing : RefusedAddsNothing
refused_nothing = record {
  write = λ text s r h. read_refused (whole_sets text) (length text) (rules_of (decode (whole_sets text)) s.rules.vars)
      s r h;
  rest = λ text s r h. rest_refused (eqb (length text) 0) text s r h;
}

-- ---- what is accepted

rules_set : (e : Entry) (s : SceneState) (names : List (List ℕ)) (text : List ℕ) (read : Read)
    → (done_all e s (set_deeds names text read)).rules ≡ added s.rules read.0 read.1 text
rules_set e s [] text read = refl
rules_set e s (n ∷ ns) text read = rules_set e (done e s (deed.AddsPort n)) ns text read

names_kept : (e : Entry) (s : SceneState) (b : Bool) (names : List (List ℕ)) (text : List ℕ) (read : Read)
    (x : RulesRefusal) → (cond b (does (set_deeds names text read)) (record { deeds = []; refusal = Some x })).refusal
    ≡ None
    → (done_all e s (cond b (does (set_deeds names text read)) (record
    { deeds = []; refusal = Some x })).deeds).rules.text ≡ s.rules.text ++ text
names_kept e s true names text read x h = ap (λ (r : RuleState). r.text) (rules_set e s names text read)
names_kept e s false names text read x h = absurd cc

read_kept : (e : Entry) (s : SceneState) (text : List ℕ) (bytes : ℕ) (read : Result Read RuleFault)
    → (read_added text bytes read s).refusal ≡ None
    → (done_all e s (read_added text bytes read s).deeds).rules.text ≡ s.rules.text ++ text
read_kept e s text bytes (Ok read) h = names_kept e s (fits (new_names s.ports.ports (ports_of read.0)) bytes s)
    (new_names s.ports.ports (ports_of read.0)) text read _ h
read_kept e s text bytes (Err f) h = absurd cc

write_kept : (e : Entry) (text : List ℕ) (s : SceneState) → (rules_outcome text s).refusal ≡ None →
    (done_all e s (rules_outcome text s).deeds).rules.text ++ begun_set text ≡ s.rules.text ++ text
write_kept e text s h =
    ap (λ (t : List ℕ). t ++ begun_set text) (read_kept e s (whole_sets text) (length text)
    (rules_of (decode (whole_sets text)) s.rules.vars) h)
    ∙ append_assoc s.rules.text (whole_sets text) (begun_set text)
    ∙ ap (λ (t : List ℕ). s.rules.text ++ t) (take-append-drop (sets_end text) text)

no_text : (text : List ℕ) → eqb (length text) 0 ≡ true → [] ≡ text
no_text [] h = refl
no_text (b ∷ text) h = absurd (grind (arith, nat_tests))

rest_kept : (e : Entry) (text : List ℕ) (s : SceneState) (b : Bool)
    → eqb (length text) 0 ≡ b → (cond b (does []) (adds text (length text) s)).refusal ≡ None
    → (done_all e s (cond b (does []) (adds text (length text) s)).deeds).rules.text ≡ s.rules.text ++ text
rest_kept e text s true h k = sym (append-nil s.rules.text) ∙ ap (λ (t : List ℕ). s.rules.text ++ t) (no_text text h)
rest_kept e text s false h k = read_kept e s text (length text) (rules_of (decode text) s.rules.vars) k

pub written_kept : WrittenIsKept
written_kept = record {
  write = write_kept;
  rest = λ e text s h. rest_kept e text s (eqb (length text) 0) refl h;
}

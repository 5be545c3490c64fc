-- What the map of ports shows.
use Rattle.std.proofs.Common.{◌≡◌, ℕ, zero, suc, ◌+◌, ◌-◌, ◌<◌, ◌&&◌, not, nat_lt, true, false, cond, List, [], ◌∷◌}
use Rattle.std.proofs.Common.{◌++◌, length, take, get_or, map, slice_get, Option, Some, None, refl, sym, ap, ◌∙◌, arith}
use Rattle.std.proofs.Common.{length-append, length-take}
use Rattle.std.specs.Global.{Vec}
use Rattle.std.specs.List.{position, position_or_len, list_all}
use Rattle.std.specs.Map.{keys_of, values_of}
use Rattle.std.specs.Str.{bytes_eq}
use Rattle.std.proofs.lemmas.Bool.Decides.{nat_tests}
use Rattle.std.proofs.lemmas.List.Sums.{fails_before_first}
use Rattle.indexmap.specs.Layout.{set_value_at, length-set_value_at}
use Rattle.rule_syntax.specs.Verbs.{is_port_name}
use Rattle.indexmap.specs.IndexMap.{insert_entry}
use Rattle.plumb_ports.specs.PortList.{Port, named, names_of, has_name, kept_of, with_kept}
use Rattle.plumb_ports.specs.Shown.{port_of, IsNamedBy}

-- a name's place among the keys is its number
before-key : (es : List (Vec ℕ × List (List ℕ))) (name : List ℕ) →
    position_or_len (λ (k : Vec ℕ). bytes_eq name k.items) (keys_of es) ≡ position_or_len (has_name name)
    (map port_of es)
before-key [] name = refl
before-key (e ∷ es) name = ap (λ n. cond (not (bytes_eq name e.0.items)) (1 + n) 0) (before-key es name)

length-keys : (es : List (Vec ℕ × List (List ℕ))) → length (keys_of es) ≡ length (map port_of es)
length-keys [] = refl
length-keys (e ∷ es) = ap suc (length-keys es)

abbrev place : ℕ → ℕ → Option ℕ
place n len = cond (nat_lt n len) (Some n) None

pub number-key : (es : List (Vec ℕ × List (List ℕ))) (name : List ℕ)
    → position (λ (k : Vec ℕ). bytes_eq name k.items) (keys_of es) ≡ position (has_name name) (map port_of es)
number-key es name =
    ap (λ n. place n (length (keys_of es))) (before-key es name)
    ∙ ap (place (position_or_len (has_name name) (map port_of es))) (length-keys es)

-- a write by place
pub kept-written : (es : List (Vec ℕ × List (List ℕ))) (port : ℕ) (messages : List (List ℕ))
    → map port_of (set_value_at es port messages) ≡ with_kept (map port_of es) port messages
kept-written [] port messages = refl
kept-written (e ∷ es) zero messages = refl
kept-written (e ∷ es) (suc port) messages = ap (λ ps. port_of e ∷ ps) (kept-written es port messages)

-- what ports keep changes no name
names-with_kept : (ps : List Port) (port : ℕ) (messages : List (List ℕ))
    → names_of (with_kept ps port messages) ≡ names_of ps
names-with_kept [] port messages = refl
names-with_kept (p ∷ ps) zero messages = refl
names-with_kept (p ∷ ps) (suc port) messages = ap (λ ns. p.name ∷ ns) (names-with_kept ps port messages)

-- the names after a write by place, after one more, and without the last
pub still-named : (names : List (List ℕ)) (es : List (Vec ℕ × List (List ℕ))) (port : ℕ) (messages : List (List ℕ))
    → IsNamedBy names es → IsNamedBy names (set_value_at es port messages)
still-named names es port messages h = record {
  few = rw (length-set_value_at es port messages) h.few;
  same = h.same ∙ sym (ap names_of (kept-written es port messages) ∙ names-with_kept (map port_of es) port messages);
  named_well = h.named_well;
}

all-pushed : (names : List (List ℕ)) (name : List ℕ) → list_all is_port_name names ≡ true → is_port_name name ≡ true →
    list_all is_port_name (names ++ name ∷ []) ≡ true
all-pushed [] name a h = rw h refl
all-pushed (n ∷ names) name a h =
    (elim (is_port_name n) as (λ b. (b && list_all is_port_name names) ≡ true →
    (b && list_all is_port_name (names ++ name ∷ [])) ≡ true) [
      | true ↦ λ k. all-pushed names name k h
      | false ↦ λ k. cc
    ]) a

all-taken : (n : ℕ) (names : List (List ℕ)) → list_all is_port_name names ≡ true → list_all is_port_name
    (take n names) ≡ true
all-taken zero names a = refl
all-taken (suc n) [] a = refl
all-taken (suc n) (x ∷ names) a =
    (elim (is_port_name x) as (λ b. (b && list_all is_port_name names) ≡ true →
    (b && list_all is_port_name (take n names)) ≡ true) [
      | true ↦ λ k. all-taken n names k
      | false ↦ λ k. cc
    ]) a

names-taken : (n : ℕ) (es : List (Vec ℕ × List (List ℕ))) → names_of (map port_of (take n es)) ≡ take n
    (names_of (map port_of es))
names-taken zero es = refl
names-taken (suc n) [] = refl
names-taken (suc n) (e ∷ es) = ap (λ ns. e.0.items ∷ ns) (names-taken n es)

pub length-names : (es : List (Vec ℕ × List (List ℕ))) → length (names_of (map port_of es)) ≡ length es
length-names [] = refl
length-names (e ∷ es) = ap suc (length-names es)

pub still-dropped : (names : List (List ℕ)) (es : List (Vec ℕ × List (List ℕ))) → IsNamedBy names es
    → IsNamedBy (take (length names - 1) names) (take (length es - 1) es)
still-dropped names es h =
    let n : length names ≡ length es = ap length h.same ∙ length-names es in
    record {
      few = omega (arith, length-take (length es - 1) es, h.few);
      same = rw n (ap (take (length es - 1)) h.same ∙ sym (names-taken (length es - 1) es));
      named_well = all-taken (length names - 1) names h.named_well;
    }

-- what is read by place is what the port keeps
pub kept-entry : (es : List (Vec ℕ × List (List ℕ))) (port : ℕ) (e : Vec ℕ × List (List ℕ)) → slice_get es port ≡ Some e
    → kept_of (map port_of es) port ≡ e.1
kept-entry [] port e h = cc
kept-entry (f ∷ es) zero e h = let same : f ≡ e = cc in ap (λ (g : Vec ℕ × List (List ℕ)). g.1) same
kept-entry (f ∷ es) (suc port) e h = kept-entry es port e h

-- where there is no entry there is no port
pub none-entry : (es : List (Vec ℕ × List (List ℕ))) (port : ℕ) → slice_get (values_of es) port ≡ None → slice_get es
    port ≡ None
none-entry [] port h = refl
none-entry (e ∷ es) zero h = cc
none-entry (e ∷ es) (suc port) h = none-entry es port h

pub kept-none : (es : List (Vec ℕ × List (List ℕ))) (port : ℕ) → slice_get es port ≡ None → kept_of (map port_of es)
    port ≡ []
kept-none [] port h = refl
kept-none (e ∷ es) zero h = cc
kept-none (e ∷ es) (suc port) h = kept-none es port h

pub written-none : (es : List (Vec ℕ × List (List ℕ))) (port : ℕ) (messages : List (List ℕ))
    → slice_get (values_of es) port ≡ None → map port_of es ≡ with_kept (map port_of es) port messages
written-none [] port messages h = refl
written-none (e ∷ es) zero messages h = cc
written-none (e ∷ es) (suc port) messages h = ap (λ ps. port_of e ∷ ps) (written-none es port messages h)

pub kept-value : (es : List (Vec ℕ × List (List ℕ))) (port : ℕ) (messages : List (List ℕ))
    → slice_get (values_of es) port ≡ Some messages → kept_of (map port_of es) port ≡ messages
kept-value [] port messages h = cc
kept-value (e ∷ es) zero messages h = cc
kept-value (e ∷ es) (suc port) messages h = kept-value es port messages h

-- a name that isn't there gets a port of its own, the last
none_named : (es : List (Vec ℕ × List (List ℕ))) (name : List ℕ) → position (has_name name) (map port_of es) ≡ None →
    (k : ℕ) (d : Port) → k < length (map port_of es) → has_name name (get_or (map port_of es) k d) ≡ false
none_named es name h k d l = fails_before_first (has_name name) (map port_of es) k d (grind (arith, nat_tests))

new_entry : (es : List (Vec ℕ × List (List ℕ))) (key : Vec ℕ) → ((k : ℕ) (d : Port) → k < length (map port_of es)
    → has_name key.items (get_or (map port_of es) k d) ≡ false) → map port_of
    (insert_entry (λ (x y : Vec ℕ). bytes_eq x.items y.items) es key []) ≡ map port_of es ++ named key.items ∷ []
new_entry [] key h = refl
new_entry (e ∷ es) key h =
    rw (h 0 (port_of e) (omega arith)) (ap (λ ps. port_of e ∷ ps) (new_entry es key
    (λ k d l. h (suc k) d (omega arith))))

pub added-entry : (es : List (Vec ℕ × List (List ℕ))) (key : Vec ℕ)
    → position (has_name key.items) (map port_of es) ≡ None → map port_of
    (insert_entry (λ (x y : Vec ℕ). bytes_eq x.items y.items) es key []) ≡ map port_of es ++ named key.items ∷ []
added-entry es key h = new_entry es key (none_named es key.items h)

names-pushed : (ps : List Port) (p : Port) → names_of (ps ++ p ∷ []) ≡ names_of ps ++ p.name ∷ []
names-pushed [] p = refl
names-pushed (q ∷ ps) p = ap (λ ns. q.name ∷ ns) (names-pushed ps p)

-- one name more in both
pub still-added : (names : List (List ℕ)) (es es' : List (Vec ℕ × List (List ℕ))) (name : List ℕ)
    → map port_of es' ≡ map port_of es ++ named name ∷ [] → length es < 65536
    → is_port_name name ≡ true → IsNamedBy names es → IsNamedBy (names ++ name ∷ []) es'
still-added names es es' name e few well h =
    let more : length es' ≡ length es + 1 = sym (length-names es') ∙ ap (λ (ps : List Port). length (names_of ps)) e
    ∙ ap length (names-pushed (map port_of es) (named name)) ∙ length-append (names_of (map port_of es)) (name ∷ [])
    ∙ ap (λ n. n + 1) (length-names es) in
    record {
      few = omega arith;
      same = ap (λ ns. ns ++ name ∷ []) h.same ∙ sym (ap names_of e ∙ names-pushed (map port_of es) (named name));
      named_well = all-pushed names name h.named_well well;
    }

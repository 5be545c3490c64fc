-- Taking a change of the ports back gives the state before it.
use Rattle.std.proofs.Common.{◌≡◌, ℕ, zero, suc, ◌-◌, List, [], ◌∷◌, ◌++◌, length, take, refl, ap, ◌∙◌, arith}
use Rattle.std.proofs.Common.{length-append}
use Rattle.am_text.specs.Twice.{Twice}
use Rattle.plumb_ports.specs.PortList.{Port, kept_of, with_kept}
use Rattle.plumb_ports.specs.Undo.{without_last, undone, all_undone}
use Rattle.plumb_ports.specs.declared.undo.Undo.{Undo}
use Rattle.plumb_ports.specs.declared.undo.Undo.TheVariants.{Remove, Unkeep, Restore}

-- the newest is the first to be taken back
pub undone_last : (us : List Undo) (u : Undo) (ps : List Port) → all_undone (us ++ u ∷ []) ps ≡ all_undone us
    (undone u ps)
undone_last [] u ps = refl
undone_last (v ∷ us) u ps = ap (undone v) (undone_last us u ps)

module _ {X : Type 0} where
  front : (xs ys : List X) → take (length xs) (xs ++ ys) ≡ xs
  front [] ys = refl
  front (x ∷ xs) ys = ap (λ r. x ∷ r) (front xs ys)

  pub last_dropped : (xs : List X) (x : X) → without_last (xs ++ x ∷ []) ≡ xs
  last_dropped xs x =
      let one_less : length (xs ++ x ∷ []) - 1 ≡ length xs = omega (arith, length-append xs (x ∷ [])) in
      rw one_less (front xs (x ∷ []))

-- the messages kept last count
with_kept-twice : (ps : List Port) (port : ℕ) (a b : List (List ℕ))
    → with_kept (with_kept ps port a) port b ≡ with_kept ps port b
with_kept-twice [] port a b = refl
with_kept-twice (p ∷ ps) zero a b = refl
with_kept-twice (p ∷ ps) (suc port) a b = ap (λ r. p ∷ r) (with_kept-twice ps port a b)

pub with_kept-same : (ps : List Port) (port : ℕ) → with_kept ps port (kept_of ps port) ≡ ps
with_kept-same [] port = refl
with_kept-same (p ∷ ps) zero = refl
with_kept-same (p ∷ ps) (suc port) = ap (λ r. p ∷ r) (with_kept-same ps port)

pub restored : (ps : List Port) (port : ℕ) (messages : List (List ℕ))
    → with_kept (with_kept ps port messages) port (kept_of ps port) ≡ ps
restored ps port messages = with_kept-twice ps port messages (kept_of ps port) ∙ with_kept-same ps port

unkept : (ps : List Port) (port : ℕ) (message : List ℕ) → with_kept
    (with_kept ps port (kept_of ps port ++ message ∷ [])) port (without_last
    (kept_of (with_kept ps port (kept_of ps port ++ message ∷ [])) port)) ≡ ps
unkept [] port message = refl
unkept (p ∷ ps) zero message = ap (λ ks. record p { kept = ks } ∷ ps) (last_dropped p.kept message)
unkept (p ∷ ps) (suc port) message = ap (λ r. p ∷ r) (unkept ps port message)

-- what is kept stays where a change is noted
grown : (us : List Undo) (u : Undo) (ps ps' : List Port) → undone u ps' ≡ ps → ◌≡◌ {A = Twice (List Port)}
    (record { present = ps'; kept = all_undone (us ++ u ∷ []) ps' }) (record { present = ps'; kept = all_undone us ps })
grown us u ps ps' h =
    let same : all_undone (us ++ u ∷ []) ps' ≡ all_undone us ps = undone_last us u ps' ∙ ap (all_undone us) h in
    let P : List Port → Twice (List Port) = λ k. record { present = ps'; kept = k } in ap P same

pub added : (us : List Undo) (ps : List Port) (p : Port) → ◌≡◌ {A = Twice (List Port)}
    (record { present = ps ++ p ∷ []; kept = all_undone (us ++ Remove ∷ []) (ps ++ p ∷ []) })
    (record { present = ps ++ p ∷ []; kept = all_undone us ps })
added us ps p = grown us Remove ps (ps ++ p ∷ []) (last_dropped ps p)

pub kept_one : (us : List Undo) (ps : List Port) (port : ℕ) (message : List ℕ)
    → ◌≡◌ {A = Twice (List Port)} (record {
      present = with_kept ps port (kept_of ps port ++ message ∷ []);
      kept =
          all_undone (us ++ Unkeep port ∷ []) (with_kept ps port (kept_of ps port ++ message ∷ []));
    })
    (record { present = with_kept ps port (kept_of ps port ++ message ∷ []); kept = all_undone us ps })
kept_one us ps port message = grown us (Unkeep port) ps _ (unkept ps port message)

pub emptied : (us : List Undo) (ps : List Port) (port : ℕ) → ◌≡◌ {A = Twice (List Port)}
    (record {
      present = with_kept ps port [];
      kept = all_undone (us ++ Restore port (kept_of ps port) ∷ [])
          (with_kept ps port []);
    }) (record { present = with_kept ps port []; kept = all_undone us ps })
emptied us ps port = grown us (Restore port (kept_of ps port)) ps _ (restored ps port [])

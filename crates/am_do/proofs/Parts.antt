-- The parts of a talk by its lines.
use Rattle.std.proofs.Common.{◌≡◌, ℕ, suc, ◌*◌, ◌<◌, ◌≤◌, Bool, List, [], ◌∷◌, length, Option, refl, sym, subst, arith}
use Rattle.am_base.specs.Outside.{bytes_told}
use Rattle.std.specs.Prelude.{Result, Ok, Err, IfOk, IfErr, All, codes}
use Rattle.std.specs.List.{flat_map}
use Rattle.std.specs.Int.{w16, to_le_bytes}
use Rattle.std.proofs.lemmas.Bool.{lt-ltb, le-ltb}
use Rattle.std.proofs.lemmas.List.{length-append}
use Rattle.ninep_types.specs.Fields.{string}
use Rattle.ninep_types.specs.Spelling.{IsString, AreNames}
use Rattle.ninep_types.specs.declared.message.RBody.{RBody}
use Rattle.am_text.specs.declared.memory.NoMemory.{NoMemory}
use Rattle.ninep_client.specs.declared.fault.CallFault.TheVariants as fault
use Rattle.ninep_client.specs.Asking.{Talk, MaySend}
use Rattle.am_do.specs.declared.stop.Stop.{Stop}
use Rattle.am_do.specs.declared.stop.Stop.TheVariants as stop
use Rattle.am_do.specs.Sorting.{said_as}
use Rattle.ninep_types.specs.declared.message.TBody.TheVariants as t
use Rattle.am_do.specs.Talks.{Told, walked, and_then, says, asks, error_line, read_answer, write_answer, ok_or_error}
use Rattle.am_do.specs.Talks.{after_open, after_walk, back_told, open_told, walk_told, read_told, write_told}
use Rattle.am_do.specs.Talks.{close_told}
use Rattle.am_do.specs.Went.{Ends, ends, Went, Halted}
use Rattle.am_do.proofs.Steps.{before, went_says, went_then, halted_first, halted_then, halted_memory}
use Rattle.am_do.proofs.Lines.{went_same, halted_same}

-- ---- a text or want of memory

pub said_ok : (r : Result (List ℕ) NoMemory) (text : List ℕ) (P : List ℕ → Type 0) → IfOk r (λ line. line ≡ text)
    → P text → IfOk (said_as r) P
said_ok (Ok line) text P is p = subst P (sym is) p
said_ok (Err e) text P is p = tt

pub said_err : (r : Result (List ℕ) NoMemory) (Q : Stop → Type 0) → Q (stop.Fault fault.NoMemory) → IfErr (said_as r) Q
said_err (Ok line) Q q = tt
said_err (Err e) Q q = q

-- ---- a talk that is a part and then another

module _ {A : Type 0} where
  -- a part, and then a line is written
  pub went_saying : {one : List ℕ → Told A} {whole : List ℕ → Told (Unit {0})} (two : A → List ℕ → Told (Unit {0}))
      {t m : Talk} {h i l n : Option (List ℕ)} (text : List ℕ) {x : A}
      → ((bytes : List ℕ) → and_then (one bytes) two ≡ whole bytes) → ((bytes : List ℕ) → says text bytes ≡ two x bytes)
      → Went one t m h i l n [] x → Went whole t m h i l n text tt
  went_saying two {t} {m} {h} {i} {l} {n} text is line w = went_same is
      (went_then two w (went_same line (went_says text m i n)))

  -- a part, and then memory runs out
  pub halted_saying : {one : List ℕ → Told A} {whole : List ℕ → Told (Unit {0})} (two : A → List ℕ → Told (Unit {0}))
      {t m : Talk} {h i l n : Option (List ℕ)} {shut shut' done done' : Bool} (f g a b : ℕ) {x : A}
      → ((bytes : List ℕ) → and_then (one bytes) two ≡ whole bytes) → f ≤ g → a ≤ b
      → Went one t m h i l n [] x → Halted (stop.Fault fault.NoMemory) whole t
      (ends (bytes_told h f shut) (bytes_told i g shut') (bytes_told l a done) (bytes_told n b done')) []
  halted_saying two {t} {m} {h} {i} {l} {n} f g a b {x} is s r w = halted_same is
      (halted_then two f a w refl refl s r (halted_memory (two x) m i n g b))

  -- the talk stops in its first part
  pub halted_asking : {end : Stop} {one : List ℕ → Told A} {whole : List ℕ → Told (Unit {0})}
      (two : A → List ℕ → Told (Unit {0})) {t : Talk} {e : Ends} →
      ((bytes : List ℕ) → and_then (one bytes) two ≡ whole bytes) → Halted end one t e [] → Halted end whole t e []
  halted_asking two is h = halted_same is (halted_first two h)

  -- a part, and then another
  pub went_going : {one : List ℕ → Told A} {next whole : List ℕ → Told (Unit {0})} (two : A → List ℕ → Told (Unit {0}))
      {t m after : Talk} {h i j l n p : Option (List ℕ)} {text : List ℕ} {x : A}
      → ((bytes : List ℕ) → and_then (one bytes) two ≡ whole bytes) → ((bytes : List ℕ) → next bytes ≡ two x bytes)
      → Went one t m h i l n [] x → Went next m after i j n p text tt → Went whole t after h j l p text tt
  went_going two is same w v = went_same is (went_then two w (went_same same v))

  -- the talk stops in its second part
  pub halted_going : {end : Stop} {one : List ℕ → Told A} {next whole : List ℕ → Told (Unit {0})}
      (two : A → List ℕ → Told (Unit {0})) {t m : Talk} {h i l n : Option (List ℕ)} {shut done : Bool} (f a : ℕ)
      {e : Ends} {x : A} → ((bytes : List ℕ) → and_then (one bytes) two ≡ whole bytes)
      → ((bytes : List ℕ) → next bytes ≡ two x bytes)
      → Went one t m h i l n [] x → e.sink.before.bytes ≡ i → e.source.before.bytes ≡ n → f ≤ e.sink.before.faults
      → a ≤ e.source.before.faults → Halted end next m e [] → Halted end whole t (before h f shut l a done e) []
  halted_going two f a is same w held left s r h = halted_same is (halted_then two f a w held left s r
      (halted_same same h))

-- ---- the lines

pub back_is : (most fid : ℕ) (text bytes : List ℕ) → and_then (asks most (t.Clunk fid) bytes)
    (λ _ rest. says (error_line text) rest) ≡ back_told most fid text bytes
unfolding back_told
back_is most fid text bytes = refl

pub open_is : (most fid mode : ℕ) (bytes : List ℕ) → and_then (asks most (t.Open fid mode) bytes)
    (after_open most fid) ≡ open_told most fid mode bytes
unfolding open_told
open_is most fid mode bytes = refl

pub walk_is : (most fid : ℕ) (names : List (List ℕ)) (mode : ℕ) (bytes : List ℕ)
    → and_then (asks most (t.Walk 0 fid names) bytes) (after_walk most fid names mode) ≡ walk_told most fid names mode
    bytes
unfolding walk_told
walk_is most fid names mode bytes = refl

pub read_is : (most fid offset count : ℕ) (bytes : List ℕ) → and_then (asks most (t.Read fid offset count) bytes)
    (λ reply rest. says (read_answer reply) rest) ≡ read_told most fid offset count bytes
unfolding read_told
read_is most fid offset count bytes = refl

pub write_is : (most fid offset : ℕ) (text bytes : List ℕ) → and_then (asks most (t.Write fid offset text) bytes)
    (λ reply rest. says (write_answer reply) rest) ≡ write_told most fid offset text bytes
unfolding write_told
write_is most fid offset text bytes = refl

pub close_is : (most fid : ℕ) (bytes : List ℕ) → and_then (asks most (t.Clunk fid) bytes)
    (λ reply rest. says (ok_or_error reply) rest) ≡ close_told most fid bytes
unfolding close_told
close_is most fid bytes = refl

-- ---- a walk

pub walk_stops : (most fid : ℕ) (names : List (List ℕ)) (mode : ℕ) (reply : RBody) (bytes : List ℕ)
    → walked reply < length names → says (error_line (codes "walk stopped")) bytes ≡ after_walk most fid names mode
    (Ok reply) bytes
walk_stops most fid names mode reply bytes lt = rw (lt-ltb (walked reply) (length names) lt) refl

pub walk_goes : (most fid : ℕ) (names : List (List ℕ)) (mode : ℕ) (reply : RBody) (bytes : List ℕ)
    → length names ≤ walked reply → open_told most fid mode bytes ≡ after_walk most fid names mode (Ok reply) bytes
walk_goes most fid names mode reply bytes le = rw (le-ltb (walked reply) (length names) le) refl

names_len : (names : List (List ℕ)) → All IsString names → length (flat_map string names) ≤ 65538 * length names
names_len [] all = omega arith
names_len (name ∷ names) all =
    let one : IsString name = all 0 name (omega arith) in
    let len = one.len in
    let others : All IsString names = λ k d lt. all (suc k) d (omega arith) in
    let ih = names_len names others in
    omega (
      arith,
      len,
      ih,
      length-append (string name) (flat_map string names),
      length-append (to_le_bytes w16 (length name)) name,
    )

pub walk_may : (fid : ℕ) (names : List (List ℕ)) → AreNames names → MaySend [] (t.Walk 0 fid names)
walk_may fid names h =
    let len = names_len names h.1 in
    let few = h.0 in
    record { fits = h; size = omega (arith, len, few); no_flush = λ e. absurd (omega (arith, e)); alone = λ e. refl }

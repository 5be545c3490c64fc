-- The beginning of a talk.
use Rattle.std.proofs.Common.{◌≡◌, ◌&&◌, ℕ, ◌≤◌, Bool, true, false, cond, List, [], min, Option, Some, None, refl, sym}
use Rattle.std.proofs.Common.{ap, subst, arith}
use Rattle.am_base.specs.Outside.{bytes_told}
use Rattle.std.specs.Prelude.{Result, Ok, Err, OnOk, IfOk, IfErr, is_some, nat_le, codes}
use Rattle.std.proofs.lemmas.Bool.{leb-true}
use Rattle.std.specs.Str.{bytes_eq, is_utf8, chars}
use Rattle.std.specs.Char.{encode_utf8}
use Rattle.ninep_types.specs.declared.message.TBody.{TBody}
use Rattle.ninep_types.specs.declared.message.TBody.TheVariants as t
use Rattle.ninep_types.specs.declared.message.RBody.{RBody}
use Rattle.ninep_types.specs.declared.message.RBody.TheVariants as r
use Rattle.ninep_types.specs.Fields.{is_text}
use Rattle.ninep_types.specs.Spelling.{IsString}
use Rattle.ninep_client.specs.Asking.{Talk, MaySend}
use Rattle.am_do.specs.Talks.{Reply, and_then, asks, agreed, agreed_in, after_attach, attached, after_version}
use Rattle.am_do.specs.Talks.{attach_of, attach_told, begins}
use Rattle.am_do.specs.declared.stop.Stop.{Stop}
use Rattle.am_do.specs.declared.stop.Stop.TheVariants as stop
use Rattle.am_do.specs.Went.{Ends, ends, Went, Halted, most_behind}
use Rattle.am_do.proofs.Steps.{before, went_gives, went_then, halted_first, halted_then, halted_refused}
use Rattle.am_do.proofs.Lines.{went_same, halted_same}

both : (a b : Bool) → (a && b) ≡ true → (a ≡ true) × (b ≡ true)
both true b e = (refl, e)
both false b e = absurd cc

pub begins_is : (tree bytes : List ℕ) → and_then (asks 65560 (t.Version 8192 (codes "9P2000")) bytes)
    (after_version tree) ≡ begins tree bytes
unfolding begins
begins_is tree bytes = refl

pub attach_is : (most : ℕ) (tree bytes : List ℕ) → and_then (asks most (attach_of tree) bytes)
    (after_attach most) ≡ attach_told most tree bytes
unfolding attach_told
attach_is most tree bytes = refl

user_text : is_text (codes "acmefs") ≡ true
unfolding is_text is_utf8 chars encode_utf8
user_text = refl

pub attach_may : (tree : List ℕ) → IsString tree → MaySend [] (attach_of tree)
attach_may tree h = record {
  fits = (record { text = user_text; len = omega arith }, h);
  size = let len = h.len in omega arith;
  no_flush = λ e. absurd (omega (arith, e));
  alone = λ e. refl;
}

-- the msize on which both agree is the client's
version_most : (msize : ℕ) (version : List ℕ) (m : ℕ) → agreed_in (r.Version msize version) ≡ Some m
    → min msize 65560 ≡ m
version_most msize version m e =
    elim (bytes_eq version (codes "9P2000") && (nat_le 256 msize && nat_le msize 8192)) as
    (λ b. bytes_eq version (codes "9P2000") && (nat_le 256 msize && nat_le msize 8192) ≡ b → cond b (Some msize)
    None ≡ Some m → min msize 65560 ≡ m) [
      | true ↦ λ is w.
          let parts = both (bytes_eq version (codes "9P2000")) (nat_le 256 msize && nat_le msize 8192) is in
          let sizes = both (nat_le 256 msize) (nat_le msize 8192) parts.1 in
          let most : msize ≤ 8192 = leb-true msize 8192 sizes.1 in
          let same : msize ≡ m = cc in
          omega arith
      | false ↦ λ is w. absurd cc
    ] refl e

pub agreed_most : (reply : Reply) (m : ℕ) → agreed reply ≡ Some m → most_behind reply 65560 ≡ m
agreed_most (Err text) m e = absurd cc
agreed_most (Ok (r.Version msize version)) m e = version_most msize version m e
agreed_most (Ok (r.Error text)) m e = absurd cc
agreed_most (Ok (r.Auth aqid)) m e = absurd cc
agreed_most (Ok r.Flush) m e = absurd cc
agreed_most (Ok (r.Attach qid)) m e = absurd cc
agreed_most (Ok (r.Walk qids)) m e = absurd cc
agreed_most (Ok (r.Open qid iounit)) m e = absurd cc
agreed_most (Ok (r.Create qid iounit)) m e = absurd cc
agreed_most (Ok (r.Read bytes)) m e = absurd cc
agreed_most (Ok (r.Write count)) m e = absurd cc
agreed_most (Ok r.Clunk) m e = absurd cc
agreed_most (Ok r.Remove) m e = absurd cc
agreed_most (Ok (r.Stat stat)) m e = absurd cc
agreed_most (Ok r.Wstat) m e = absurd cc

-- ---- a tree is attached

-- of any answer
pub onok_of : {T E : Type 0} {P Q : Type 0} (r : Result T E) → (P → Q) → OnOk r P → OnOk r Q
onok_of (Ok x) f p = f p
onok_of (Err e) f p = tt

pub ifok_of : {T E : Type 0} {P Q : T → Type 0} (r : Result T E) → ((x : T) → P x → Q x) → IfOk r P → IfOk r Q
ifok_of (Ok x) f p = f x p
ifok_of (Err e) f p = tt

pub iferr_of : {T E : Type 0} {P Q : E → Type 0} (r : Result T E) → ((e : E) → P e → Q e) → IfErr r P → IfErr r Q
iferr_of (Ok x) f p = tt
iferr_of (Err e) f p = f e p

pub some_of : {A : Type 0} (o : Option A) → is_some o ≡ true → (x : A) × (o ≡ Some x)
some_of None e = absurd cc
some_of (Some x) e = (x, refl)

pub none_of : {A : Type 0} (o : Option A) → is_some o ≡ false → o ≡ None
none_of None e = refl
none_of (Some x) e = absurd cc

pub went_attached : (most now : ℕ) (tree : List ℕ) (body : TBody) {t m : Talk} {h i l n : Option (List ℕ)}
    (reply : RBody) → body ≡ attach_of tree → now ≡ most → Went (asks most body) t m h i l n [] (Ok reply)
    → Went (attach_told most tree) t m h i l n [] now
went_attached most now tree body {t} {m} {h} {i} {l} {n} reply is same w =
    let asked : Went (asks most (attach_of tree)) t m h i l n [] (Ok reply) =
    subst (λ (b : TBody). Went (asks most b) t m h i l n [] (Ok reply)) is w in
    subst (λ (x : ℕ). Went (attach_told most tree) t m h i l n [] x) (sym same)
    (went_same (attach_is most tree) (went_then (after_attach most) asked (went_gives most m i n)))

pub halted_unattached : {shut shut' done done' : Bool} (most : ℕ) (tree : List ℕ) (body : TBody) {t m : Talk}
    {h i l n : Option (List ℕ)} (text : List ℕ) (f g a b : ℕ) → body ≡ attach_of tree → f ≤ g → a ≤ b
    → Went (asks most body) t m h i l n [] (Err text) → Halted stop.Refused (attach_told most tree) t
    (ends (bytes_told h f shut) (bytes_told i g shut') (bytes_told l a done) (bytes_told n b done')) []
halted_unattached most tree body {t} {m} {h} {i} {l} {n} text f g a b is s r w =
    let asked : Went (asks most (attach_of tree)) t m h i l n [] (Err text) =
    subst (λ (x : TBody). Went (asks most x) t m h i l n [] (Err text)) is w in
    halted_same (attach_is most tree) (halted_then (after_attach most) f a asked refl refl s r
    (halted_refused m i n g b))

pub halted_attaching : {end : Stop} (most : ℕ) (tree : List ℕ) (body : TBody) {t : Talk} {e : Ends}
    → body ≡ attach_of tree → Halted end (asks most body) t e [] → Halted end (attach_told most tree) t e []
halted_attaching {end} most tree body {t} {e} is h = halted_same (attach_is most tree)
    (halted_first (after_attach most) (subst (λ (x : TBody). Halted end (asks most x) t e []) is h))

-- ---- the version

-- what was asked is the version
begun_with : (most : ℕ) (body : TBody) {talk m : Talk} {h i l n : Option (List ℕ)} (reply : Reply)
    → most ≡ 65560 → body ≡ t.Version 8192 (codes "9P2000") → Went (asks most body) talk m h i l n [] reply
    → Went (asks 65560 (t.Version 8192 (codes "9P2000"))) talk m h i l n [] reply
begun_with most body {talk} {m} {h} {i} {l} {n} reply size is w =
    subst (λ (x : ℕ). Went (asks x (t.Version 8192 (codes "9P2000"))) talk m h i l n [] reply) size
    (subst (λ (b : TBody). Went (asks most b) talk m h i l n [] reply) is w)

pub halted_version : {end : Stop} (most : ℕ) (tree : List ℕ) (body : TBody) {talk : Talk} {e : Ends}
    → most ≡ 65560 → body ≡ t.Version 8192 (codes "9P2000") → Halted end (asks most body) talk e []
    → Halted end (begins tree) talk e []
halted_version {end} most tree body {talk} {e} size is h =
    halted_same (begins_is tree) (halted_first (after_version tree)
    (subst (λ (x : ℕ). Halted end (asks x (t.Version 8192 (codes "9P2000"))) talk e []) size
    (subst (λ (b : TBody). Halted end (asks most b) talk e []) is h)))

pub halted_unversioned : {shut shut' done done' : Bool} (most : ℕ) (tree : List ℕ) (body : TBody) {talk m : Talk}
    {h i l n : Option (List ℕ)} (reply : Reply) (f g a b : ℕ) → most ≡ 65560 → body ≡ t.Version 8192 (codes "9P2000")
    → agreed reply ≡ None → f ≤ g → a ≤ b → Went (asks most body) talk m h i l n [] reply
    → Halted stop.Refused (begins tree) talk (ends (bytes_told h f shut) (bytes_told i g shut') (bytes_told l a done)
    (bytes_told n b done')) []
halted_unversioned most tree body {talk} {m} {h} {i} {l} {n} reply f g a b size is none s r w =
    halted_same (begins_is tree) (halted_then (after_version tree) f a (begun_with most body reply size is w) refl refl
    s r
    (halted_same (λ bytes. sym (ap (λ (o : Option ℕ). attached tree o bytes) none)) (halted_refused m i n g b)))

-- the client's msize is what is agreed on
same_talk : (tree : List ℕ) (reply : Reply) (now : ℕ) (bytes : List ℕ) → agreed reply ≡ Some now
    → attach_told now tree bytes ≡ after_version tree reply bytes
same_talk tree reply now bytes is = sym (ap (λ (o : Option ℕ). attached tree o bytes) is)

pub went_attaching : (most now last : ℕ) (tree : List ℕ) (body : TBody) {talk m after : Talk}
    {h i j l n p : Option (List ℕ)} (reply : Reply) → most ≡ 65560 → body ≡ t.Version 8192 (codes "9P2000")
    → agreed reply ≡ Some now → Went (asks most body) talk m h i l n [] reply
    → Went (attach_told now tree) m after i j n p [] last
    → Went (begins tree) talk after h j l p [] last
went_attaching most now last tree body reply size is agrees w v =
    went_same (begins_is tree) (went_then (after_version tree) (begun_with most body reply size is w)
    (went_same (λ bytes. same_talk tree reply now bytes agrees) v))

pub halted_then_attaching : {end : Stop} {shut done : Bool} (most now : ℕ) (tree : List ℕ) (body : TBody)
    {talk m : Talk} {h i l n : Option (List ℕ)} (reply : Reply) (f a : ℕ) {e : Ends}
    → most ≡ 65560 → body ≡ t.Version 8192 (codes "9P2000") → agreed reply ≡ Some now
    → Went (asks most body) talk m h i l n [] reply
    → e.sink.before.bytes ≡ i → e.source.before.bytes ≡ n → f ≤ e.sink.before.faults → a ≤ e.source.before.faults
    → Halted end (attach_told now tree) m e [] → Halted end (begins tree) talk (before h f shut l a done e) []
halted_then_attaching most now tree body reply f a size is agrees w held left s r h =
    halted_same (begins_is tree) (halted_then (after_version tree) f a (begun_with most body reply size is w) held left
    s r (halted_same (λ bytes. same_talk tree reply now bytes agrees) h))

-- Replies are given once.
use Rattle.std.proofs.Common.{◌≡◌, ◌≢◌, ℕ, zero, suc, ◌+◌, ◌<◌, ◌≤◌, ◌&&◌, ◌||◌, Bool, true, false, cond, List, [], ◌∷◌}
use Rattle.std.proofs.Common.{◌++◌, length, get_or, set, take, drop, Option, Some, None, refl, sym, ap, ◌∙◌, subst}
use Rattle.std.proofs.Common.{arith, append_assoc, eq-eqb}
use Rattle.std.specs.Prelude.{Result, Ok, Err, ◌==◌, is_some, is_none, filter, remove, slice_get, slice_set, position}
use Rattle.std.specs.Prelude.{option_and_then}
use Rattle.std.specs.List.{list_any}
use Rattle.std.proofs.lemmas.List.{append-nil}
use Rattle.std.proofs.lemmas.List.Elements.{filter-append}
use Rattle.std.proofs.lemmas.List.Folds.{list_any-append}
use Rattle.std.proofs.lemmas.List.Quantifiers.{position-Some}
use Rattle.std.proofs.lemmas.Option.{slice_get-get_or}
use Rattle.std.proofs.lemmas.Bool.{eqb-true}
use Rattle.ninep_types.specs.declared.fault.WireFault.{WireFault}
use Rattle.ninep_types.specs.declared.message.TBody.{TBody}
use Rattle.ninep_types.specs.declared.message.RMsg.{RMsg}
use Rattle.ninep_types.specs.declared.message.RBody.{RBody}
use Rattle.ninep_types.specs.Reading.{r_of}
use Rattle.ninep_client.specs.declared.asked.Asked.{Asked}
use Rattle.ninep_client.specs.declared.fault.CallFault.{CallFault}
use Rattle.ninep_client.specs.declared.fault.CallFault.TheVariants.{Kind}
use Rattle.ninep_types.specs.Spelling.{kind_r}
use Rattle.ninep_client.specs.Asking.{has_tag, is_asked, asking, waits_for, has_reply_of, waiting_place, reply_place}
use Rattle.ninep_client.specs.Asking.{reply_in, reply_of}
use Rattle.ninep_client.specs.Hearing.{heard, heard_read, heard_reply, heard_as, judged, judged_at, judged_as, kind_in}
use Rattle.ninep_client.specs.Hearing.{kept_at, answered, without, answers}
use Rattle.ninep_client.specs.Laws.{Deed, Sends, Hears, Gives, Book, clean, after_hearing, after_giving, after_deed}
use Rattle.ninep_client.specs.Laws.{then_deeds, after_deeds, of_tag, kept_one, kept, GivesEachOnce}

both : (a b : Bool) → (a && b) ≡ true → (a ≡ true) × (b ≡ true)
both true b e = (refl, e)
both false b e = absurd cc

-- ---- each tag is asked once

abbrev AreApart : List Asked → Type 0
AreApart [] = Unit {0}
AreApart (a ∷ asked) = (is_asked a.tag asked ≡ false) × AreApart asked

not_asked_more : (tag : ℕ) (asked : List Asked) (b : Asked) → is_asked tag asked ≡ false → (b.tag == tag) ≡ false →
    is_asked tag (asked ++ b ∷ []) ≡ false
not_asked_more tag asked b h other = list_any-append (has_tag tag) asked (b ∷ []) ∙ rw (h, other) refl

apart_sym : (a b : ℕ) → (a == b) ≡ false → (b == a) ≡ false
apart_sym a b e =
    elim (b == a) as (λ t. (b == a) ≡ t → t ≡ false) [
      | true ↦ λ w. let same : a ≡ b = sym (eqb-true b a w) in let no : true ≡ false = sym (eq-eqb a b same) ∙ e in
          absurd cc
      | false ↦ λ w. refl
    ] refl

first_other : (a : Asked) (tag : ℕ) (asked : List Asked) → is_asked tag (a ∷ asked) ≡ false → ((a.tag == tag) ≡ false)
    × (is_asked tag asked ≡ false)
first_other a tag asked e =
    elim (a.tag == tag) as (λ t. (t || is_asked tag asked) ≡ false → (t ≡ false) × (is_asked tag asked ≡ false)) [
      | true ↦ λ w. absurd cc
      | false ↦ λ w. (refl, w)
    ] e

apart_more : (asked : List Asked) (b : Asked) → AreApart asked → is_asked b.tag asked ≡ false →
    AreApart (asked ++ b ∷ [])
apart_more [] b h e = (refl, tt)
apart_more (a ∷ asked) b h e =
    let other = first_other a b.tag asked e in
    (not_asked_more a.tag asked b h.0 (apart_sym a.tag b.tag other.0), apart_more asked b h.1 other.1)

-- ---- what is kept

none_kept : (tag : ℕ) (asked : List Asked) → is_asked tag asked ≡ false → kept tag asked ≡ []
unfolding kept
none_kept tag [] e = refl
none_kept tag (a ∷ asked) e =
    let other = first_other a tag asked e in
    rw (other.0) (none_kept tag asked other.1)

kept_append : (tag : ℕ) (xs ys : List Asked) → kept tag (xs ++ ys) ≡ kept tag xs ++ kept tag ys
unfolding kept
kept_append tag [] ys = refl
kept_append tag (x ∷ xs) ys = ap (λ (l : List RMsg). kept_one (x.tag == tag) x.tag x.reply ++ l) (kept_append tag xs ys)
    ∙ sym (append_assoc (kept_one (x.tag == tag) x.tag x.reply) (kept tag xs) (kept tag ys))

asking_keeps_none : (tag new : ℕ) (body : TBody) → kept tag (asking new body ∷ []) ≡ []
unfolding kept
asking_keeps_none tag new body = elim (new == tag) as (λ t. kept_one t new None ++ [] ≡ [])
    [ true ↦ refl | false ↦ refl ]

kept_sent : (tag new : ℕ) (body : TBody) (asked : List Asked) → kept tag (asked ++ asking new body ∷ []) ≡ kept tag
    asked
kept_sent tag new body asked = kept_append tag asked (asking new body ∷ [])
    ∙ ap (λ (l : List RMsg). kept tag asked ++ l) (asking_keeps_none tag new body) ∙ append-nil (kept tag asked)

-- ---- a reply is kept at its place

abbrev one_of : ℕ → RMsg → List RMsg
one_of tag m = kept_one (m.tag == tag) m.tag (Some m.body)

is_of_tag : (tag : ℕ) (m : RMsg) → of_tag tag (m ∷ []) ≡ one_of tag m
is_of_tag tag m = elim (m.tag == tag) as (λ t. cond t (m ∷ []) [] ≡ kept_one t m.tag (Some m.body))
    [ true ↦ refl | false ↦ refl ]

no_reply : (reply : Option RBody) → is_none reply ≡ true → (t : Bool) (tag : ℕ) → kept_one t tag reply ≡ []
no_reply None e true tag = refl
no_reply None e false tag = refl
no_reply (Some body) e t tag = absurd cc

set_asked : (tag : ℕ) (asked : List Asked) (at : ℕ) (d b : Asked) → at < length asked → b.tag ≡ (get_or asked at d).tag
    → is_asked tag (set asked at b) ≡ is_asked tag asked
set_asked tag [] at d b lt e = absurd (omega arith)
set_asked tag (a ∷ asked) zero d b lt e = ap (λ (n : ℕ). (n == tag) || is_asked tag asked) e
set_asked tag (a ∷ asked) (suc at) d b lt e = ap (λ (t : Bool). (a.tag == tag) || t)
    (set_asked tag asked at d b (omega arith) e)

set_apart : (asked : List Asked) (at : ℕ) (d b : Asked) → at < length asked → b.tag ≡ (get_or asked at d).tag
    → AreApart asked → AreApart (set asked at b)
set_apart [] at d b lt e h = absurd (omega arith)
set_apart (a ∷ asked) zero d b lt e h = (ap (λ (n : ℕ). is_asked n asked) e ∙ h.0, h.1)
set_apart (a ∷ asked) (suc at) d b lt e h = (
  set_asked a.tag asked at d b (omega arith) e
      ∙ h.0,
  set_apart asked at d b (omega arith) e h.1,
)

-- where the message's tag isn't asked elsewhere, it may stand before or behind
swap_one : (tag : ℕ) (m : RMsg) (asked : List Asked) → is_asked m.tag asked ≡ false → one_of tag m
    ++ kept tag asked ≡ kept tag asked ++ one_of tag m
swap_one tag m asked rest =
    elim (m.tag == tag) as (λ t. (m.tag == tag) ≡ t → kept_one t m.tag (Some m.body) ++ kept tag asked ≡ kept tag asked
    ++ kept_one t m.tag (Some m.body)) [
      | true ↦ λ e.
          let same : m.tag ≡ tag = eqb-true m.tag tag e in
          let none : kept tag asked ≡ [] = none_kept tag asked (subst (λ (n : ℕ). is_asked n asked ≡ false) same
          rest) in
          rw none refl
      | false ↦ λ e. sym (append-nil (kept tag asked))
    ] refl

kept_set : (tag : ℕ) (asked : List Asked) (at : ℕ) (d b : Asked) (m : RMsg) → at < length asked
    → waits_for m.tag (get_or asked at d) ≡ true → b.tag ≡ m.tag → b.reply ≡ Some m.body → AreApart asked
    → kept tag (set asked at b) ≡ kept tag asked ++ one_of tag m
unfolding kept
kept_set tag [] at d b m lt w bt br h = absurd (omega arith)
kept_set tag (a ∷ asked) zero d b m lt w bt br h =
    let waits = both (a.tag == m.tag) (is_none a.reply) w in
    let same : a.tag ≡ m.tag = eqb-true a.tag m.tag waits.0 in
    let none : kept_one (a.tag == tag) a.tag a.reply ≡ [] = no_reply a.reply waits.1 (a.tag == tag) a.tag in
    let rest : is_asked m.tag asked ≡ false = subst (λ (n : ℕ). is_asked n asked ≡ false) same h.0 in
    let new : kept_one (b.tag == tag) b.tag b.reply ≡ one_of tag m = (λ i. kept_one (bt i == tag) (bt i) (br i)) in
    ap (λ (l : List RMsg). l ++ kept tag asked) new
    ∙ swap_one tag m asked rest
    ∙ ap (λ (l : List RMsg). (l ++ kept tag asked) ++ one_of tag m) (sym none)
kept_set tag (a ∷ asked) (suc at) d b m lt w bt br h =
    ap (λ (l : List RMsg). kept_one (a.tag == tag) a.tag a.reply ++ l)
    (kept_set tag asked at d b m (omega arith) w bt br h.1)
    ∙ sym (append_assoc (kept_one (a.tag == tag) a.tag a.reply) (kept tag asked) (one_of tag m))

-- ---- a reply is taken from its place

asked_at : (asked : List Asked) (at : ℕ) (d : Asked) (tag : ℕ) → at < length asked
    → (get_or asked at d).tag ≡ tag → is_asked tag asked ≡ true
asked_at [] at d tag lt e = absurd (omega arith)
asked_at (a ∷ asked) zero d tag lt e = rw (eq-eqb a.tag tag e) refl
asked_at (a ∷ asked) (suc at) d tag lt e =
    elim (a.tag == tag) as (λ t. (t || is_asked tag asked) ≡ true)
    [ true ↦ refl | false ↦ asked_at asked at d tag (omega arith) e ]

-- another tag's reply may stand before or behind
swap_other : (tag : ℕ) (a : Asked) (m : RMsg) (asked : List Asked) (rest : List RMsg)
    → is_asked a.tag asked ≡ false → is_asked m.tag asked ≡ true → kept_one (a.tag == tag) a.tag a.reply
    ++ (one_of tag m ++ rest) ≡ one_of tag m ++ (kept_one (a.tag == tag) a.tag a.reply ++ rest)
swap_other tag a m asked rest free asks =
    elim (m.tag == tag) as (λ t. (m.tag == tag) ≡ t → kept_one (a.tag == tag) a.tag a.reply
    ++ (kept_one t m.tag (Some m.body) ++ rest) ≡ kept_one t m.tag (Some m.body)
    ++ (kept_one (a.tag == tag) a.tag a.reply ++ rest)) [
      | true ↦ λ e.
          elim (a.tag == tag) as (λ u. (a.tag == tag) ≡ u → kept_one u a.tag a.reply
          ++ (kept_one true m.tag (Some m.body) ++ rest) ≡ kept_one true m.tag (Some m.body)
          ++ (kept_one u a.tag a.reply ++ rest)) [
            | true ↦ λ w.
                let same : a.tag ≡ m.tag = eqb-true a.tag tag w ∙ sym (eqb-true m.tag tag e) in
                let no : false ≡ true = sym free ∙ ap (λ (n : ℕ). is_asked n asked) same ∙ asks in
                absurd cc
            | false ↦ λ w. refl
          ] refl
      | false ↦ λ e. refl
    ] refl

kept_remove : (tag : ℕ) (asked : List Asked) (at : ℕ) (d : Asked) (m : RMsg) → at < length asked
    → (get_or asked at d).tag ≡ m.tag → (get_or asked at d).reply ≡ Some m.body → AreApart asked
    → kept tag asked ≡ one_of tag m ++ kept tag (remove asked at)
unfolding kept
kept_remove tag [] at d m lt t r h = absurd (omega arith)
kept_remove tag (a ∷ asked) zero d m lt t r h = (λ i. kept_one (t i == tag) (t i) (r i) ++ kept tag asked)
kept_remove tag (a ∷ asked) (suc at) d m lt t r h =
    let asks : is_asked m.tag asked ≡ true = asked_at asked at d m.tag (omega arith) t in
    ap (λ (l : List RMsg). kept_one (a.tag == tag) a.tag a.reply ++ l)
    (kept_remove tag asked at d m (omega arith) t r h.1)
    ∙ swap_other tag a m asked (kept tag (remove asked at)) h.0 asks

asked_nothing : (tag at : ℕ) → is_asked tag (remove [] at) ≡ false
asked_nothing tag zero = refl
asked_nothing tag (suc at) = refl

apart_nothing : (at : ℕ) → AreApart (remove [] at)
apart_nothing zero = tt
apart_nothing (suc at) = tt

asked_remove : (tag : ℕ) (asked : List Asked) (at : ℕ) → is_asked tag asked ≡ false → is_asked tag
    (remove asked at) ≡ false
asked_remove tag [] at e = asked_nothing tag at
asked_remove tag (a ∷ asked) zero e = (first_other a tag asked e).1
asked_remove tag (a ∷ asked) (suc at) e =
    let other = first_other a tag asked e in
    rw (other.0) (asked_remove tag asked at other.1)

apart_remove : (asked : List Asked) (at : ℕ) → AreApart asked → AreApart (remove asked at)
apart_remove [] at h = apart_nothing at
apart_remove (a ∷ asked) zero h = h.1
apart_remove (a ∷ asked) (suc at) h = (asked_remove a.tag asked at h.0, apart_remove asked at h.1)

-- ---- the book

record Holds (b : Book) : Type 0 where
  apart : AreApart b.asked
  each : (tag : ℕ) → of_tag tag b.heard ≡ of_tag tag b.given ++ kept tag b.asked

of_more : (tag : ℕ) (ms : List RMsg) (m : RMsg) → of_tag tag (ms ++ m ∷ []) ≡ of_tag tag ms ++ one_of tag m
of_more tag ms m = filter-append (λ (x : RMsg). x.tag == tag) ms (m ∷ [])
    ∙ ap (λ (l : List RMsg). of_tag tag ms ++ l) (is_of_tag tag m)

holds_sent : (b : Book) (tag : ℕ) (body : TBody) (next : Book) → Holds b
    → is_asked tag b.asked ≡ false → record b { asked = b.asked ++ asking tag body ∷ [] } ≡ next → Holds next
holds_sent b tag body next h free e =
    subst Holds e (record {
      apart = apart_more b.asked (asking tag body) h.apart free;
      each = λ t. h.each t ∙ ap (λ (l : List RMsg). of_tag t b.given ++ l) (sym (kept_sent t tag body b.asked));
    })

-- where a reply was heard, and how
record HeardAt (asked : List Asked) (m : RMsg) (next : List Asked) : Type 0 where
  at : ℕ
  kind : ℕ
  place : waiting_place m.tag asked ≡ Some at
  state : next ≡ kept_at asked at kind m

heard_place : (asked : List Asked) (m : RMsg) (next : List Asked) → heard_reply asked m ≡ Ok next → HeardAt asked m next
unfolding judged
heard_place asked m next h =
    elim (waiting_place m.tag asked) as (λ o. waiting_place m.tag asked ≡ o → heard_as asked m
    (judged_at asked m o) ≡ Ok next → HeardAt asked m next) [
      | None ↦ λ place w. absurd cc
      | Some at ↦ λ place w. elim (kind_in (slice_get asked at)) as
          (λ k. heard_as asked m (judged_as at m k) ≡ Ok next → HeardAt asked m next) [
            | None ↦ λ v. absurd cc
            | Some kind ↦ λ v. elim (answers kind m.body) as (λ t. heard_as asked m
                (cond t (Ok (at, kind)) (Err (Kind (kind_r m.body)))) ≡ Ok next → HeardAt asked m next) [
                  | true ↦ λ u. let same : kept_at asked at kind m ≡ next = cc in
                      record { at = at; kind = kind; place = place; state = sym same }
                  | false ↦ λ u. absurd cc
                ] v
          ] w
    ] refl h

holds_heard : (b : Book) (m : RMsg) (asked : List Asked) (next : Book) → Holds b → HeardAt b.asked m asked
    → record b { asked = asked; heard = b.heard ++ m ∷ [] } ≡ next → Holds next
holds_heard b m asked next h at e =
    let new : Asked = record { tag = m.tag; kind = at.kind; reply = Some m.body } in
    let found = position-Some (waits_for m.tag) b.asked at.at new at.place in
    let tagged : m.tag ≡ (get_or b.asked at.at new).tag = sym (eqb-true (get_or b.asked at.at new).tag m.tag
    (both ((get_or b.asked at.at new).tag == m.tag) (is_none (get_or b.asked at.at new).reply) found.1).0) in
    let kept_is : (t : ℕ) → kept t (set b.asked at.at new) ≡ kept t b.asked
    ++ one_of t m = λ t. kept_set t b.asked at.at new new m found.0 found.1 refl refl h.apart in
    subst Holds e (record {
      apart = subst AreApart (sym at.state) (set_apart b.asked at.at new new found.0 tagged h.apart);
      each = λ t.
          of_more t b.heard m
          ∙ ap (λ (l : List RMsg). l ++ one_of t m) (h.each t)
          ∙ append_assoc (of_tag t b.given) (kept t b.asked) (one_of t m)
          ∙ ap (λ (l : List RMsg). of_tag t b.given ++ l) (sym (kept_is t) ∙ ap (kept t) (sym at.state));
    })

-- where a reply is given, and which
record GivenAt (tag : ℕ) (asked : List Asked) (body : RBody) : Type 0 where
  at : ℕ
  d : Asked
  lt : at < length asked
  tagged : (get_or asked at d).tag ≡ tag
  reply : (get_or asked at d).reply ≡ Some body
  state : answered tag asked ≡ remove asked at

given_place : (tag : ℕ) (asked : List Asked) (body : RBody) → reply_of tag asked ≡ Some body → GivenAt tag asked body
given_place tag asked body e =
    elim (reply_place tag asked) as (λ o. reply_place tag asked ≡ o →
    reply_in (option_and_then (slice_get asked) o) ≡ Some body → GivenAt tag asked body) [
      | None ↦ λ place w. absurd cc
      | Some at ↦ λ place w.
          let d : Asked = record { tag = 0; kind = 0; reply = None } in
          let found = position-Some (has_reply_of tag) asked at d place in
          record {
            at = at;
            d = d;
            lt = found.0;
            tagged = eqb-true (get_or asked at d).tag tag (both ((get_or asked at d).tag == tag)
                (is_some (get_or asked at d).reply) found.1).0;
            reply = ap reply_in (sym (slice_get-get_or asked at d found.0)) ∙ w;
            state = ap (λ (o : Option ℕ). without o asked) place;
          }
    ] refl e

holds_given : (b : Book) (tag : ℕ) (body : RBody) (next : Book) → Holds b → GivenAt tag b.asked body
    → record b { asked = answered tag b.asked; given = b.given ++ record { tag = tag; body = body } ∷ [] } ≡ next →
    Holds next
holds_given b tag body next h at e =
    let m : RMsg = record { tag = tag; body = body } in
    subst Holds e (record {
      apart = subst AreApart (sym at.state) (apart_remove b.asked at.at h.apart);
      each = λ t.
          h.each t
          ∙ ap (λ (l : List RMsg). of_tag t b.given ++ l) (kept_remove t b.asked at.at at.d m at.lt at.tagged at.reply
          h.apart ∙ ap (λ (x : List Asked). one_of t m ++ kept t x) (sym at.state))
          ∙ sym (append_assoc (of_tag t b.given) (one_of t m) (kept t (answered tag b.asked)))
          ∙ ap (λ (l : List RMsg). l ++ kept t (answered tag b.asked)) (sym (of_more t b.given m));
    })

-- ---- any deeds

heard_deed : (b next : Book) (message : List ℕ) → Holds b → after_hearing b (heard b.asked message)
    (r_of message) ≡ Some next → Holds next
unfolding heard
heard_deed b next message h e =
    elim (r_of message) as (λ x. after_hearing b (heard_read b.asked x) x ≡ Some next → Holds next) [
      | Err f ↦ λ w. absurd cc
      | Ok m ↦ λ w. elim (heard_reply b.asked m) as (λ r. heard_reply b.asked m ≡ r → after_hearing b r
          (Ok m) ≡ Some next → Holds next) [
            | Err f ↦ λ is v. absurd cc
            | Ok asked ↦ λ is v. let same : record b { asked = asked; heard = b.heard ++ m ∷ [] } ≡ next = cc in
                holds_heard b m asked next h (heard_place b.asked m asked is) same
          ] refl w
    ] e

given_deed : (b next : Book) (tag : ℕ) → Holds b → after_giving b tag (reply_of tag b.asked) ≡ Some next → Holds next
given_deed b next tag h e =
    elim (reply_of tag b.asked) as (λ o. reply_of tag b.asked ≡ o → after_giving b tag o ≡ Some next → Holds next) [
      | None ↦ λ is w. absurd cc
      | Some body ↦ λ is w. let same : record b {
        asked = answered tag b.asked;
        given =
            b.given ++ record { tag = tag; body = body } ∷ [];
      } ≡ next = cc in
          holds_given b tag body next h (given_place tag b.asked body is) same
    ] refl e

sent_deed : (b next : Book) (tag : ℕ) (body : TBody) → Holds b → after_deed b (Sends tag body) ≡ Some next → Holds next
sent_deed b next tag body h e =
    elim (is_asked tag b.asked) as (λ t. is_asked tag b.asked ≡ t → cond t None
    (Some (record b { asked = b.asked ++ asking tag body ∷ [] })) ≡ Some next → Holds next) [
      | true ↦ λ is w. absurd cc
      | false ↦ λ is w. let same : record b { asked = b.asked ++ asking tag body ∷ [] } ≡ next = cc in
          holds_sent b tag body next h is same
    ] refl e

one_deed : (b next : Book) (d : Deed) → Holds b → after_deed b d ≡ Some next → Holds next
one_deed b next (Sends tag body) h e = sent_deed b next tag body h e
one_deed b next (Hears message) h e = heard_deed b next message h e
one_deed b next (Gives tag) h e = given_deed b next tag h e

all_deeds : (deeds : List Deed) (b last : Book) → Holds b → after_deeds deeds b ≡ Some last → Holds last
unfolding after_deeds
all_deeds [] b last h e = let same : b ≡ last = cc in subst Holds same h
all_deeds (d ∷ deeds) b last h e =
    elim (after_deed b d) as (λ o. after_deed b d ≡ o → then_deeds (after_deeds deeds) o ≡ Some last → Holds last) [
      | None ↦ λ is w. absurd cc
      | Some next ↦ λ is w. all_deeds deeds next last (one_deed b next d h is) w
    ] refl e

pub gives_each_once : GivesEachOnce
unfolding kept
gives_each_once deeds b e = (all_deeds deeds clean b (record { apart = tt; each = λ tag. refl }) e).each

-- A call while no tag is asked.
use Rattle.std.proofs.Common.{◌≡◌, ◌≢◌, ◌⊎◌, ℕ, zero, suc, ◌+◌, ◌<◌, ◌≤◌, Bool, true, false, cond, List, [], ◌∷◌, ◌++◌}
use Rattle.std.proofs.Common.{length, Option, Some, None, refl, sym, ap, ◌∙◌, subst, arith, inl, inr, eq-eqb}
use Rattle.std.specs.Prelude.{Result, Ok, Err, IfOk, IfErr, is_some, ◌==◌, ◌||◌, All}
use Rattle.std.specs.List.{concat}
use Rattle.std.proofs.lemmas.List.{append-nil}
use Rattle.std.proofs.lemmas.Bool.{eqb-true}
use Rattle.am_base.specs.Seen.{Seen}
use Rattle.am_base.specs.Written.{IsWhole, IsCut}
use Rattle.ninep_types.specs.declared.fault.WireFault.{WireFault}
use Rattle.ninep_types.specs.declared.message.TBody.{TBody}
use Rattle.ninep_types.specs.declared.message.RMsg.{RMsg}
use Rattle.ninep_types.specs.declared.message.RBody.{RBody}
use Rattle.ninep_types.specs.declared.message.RBody.TheVariants as r
use Rattle.ninep_types.specs.Reading.{r_of}
use Rattle.ninep_types.specs.Spelling.{kind_t, kind_r}
use Rattle.ninep_cut.specs.declared.cut.Cut.TheVariants.{Whole, More, Broken}
use Rattle.ninep_cut.specs.Cuts.{IsMessage, cut_of, first_of}
use Rattle.ninep_client.specs.declared.asked.Asked.{Asked}
use Rattle.ninep_client.specs.declared.fault.CallFault.{CallFault}
use Rattle.ninep_client.specs.declared.fault.CallFault.TheVariants as fault
use Rattle.ninep_client.specs.Asking.{Talk, is_version, HasTag, IsTagFor, IsLeastFree, refusal, asking, after_sent}
use Rattle.ninep_client.specs.Asking.{closed, reply_place, reply_of}
use Rattle.ninep_client.specs.Hearing.{Came, Hears, StopsAt, fault_in, fault_at, front_fault, answers, answered, heard}
use Rattle.ninep_client.specs.Hearing.{judged, heard_as, heard_reply, heard_read, heard_next, heard_until, msize_after}
use Rattle.ninep_client.specs.Calls.{Sends, IsIdle, Cuts, Gives, Stops, Calls, IsUnsent, IsUnanswered, CallFails}
use Rattle.ninep_client.specs.Calls.{message_of}
use Rattle.ninep_client.proofs.Streams.{came_none}
use Rattle.ninep_client.specs.Alone.{tag_alone, spelled, outcome, reply_for, reply_read, reply_to, reply_fault}
use Rattle.ninep_client.specs.Alone.{front_at, front_reply, AloneStops, msize_behind, Replies, IsRefused, IsTorn}
use Rattle.ninep_client.specs.Alone.{HasStopped, IsStarved, AloneFails}

-- ---- the tag

only_one : (tag : ℕ) → IsLeastFree [] tag → tag ≡ 1
only_one zero free = let h = free.from_one in absurd (omega arith)
only_one (suc zero) free = refl
only_one (suc (suc n)) free = let e : false ≡ true = free.least 1 (omega arith) (omega arith) in (cc)

tag_is : (body : TBody) (tag : ℕ) → IsTagFor body [] tag → tag ≡ tag_alone body
tag_is body tag h =
    elim (is_version body) as (λ b. HasTag b [] tag → tag ≡ cond b 65535 1) [
      | true ↦ λ w. w
      | false ↦ λ w. only_one tag w
    ] h

-- ---- one message

-- the tag that waits, with its reply
replied : ℕ → TBody → RBody → Asked
replied tag body reply = record { tag = tag; kind = kind_t body; reply = Some reply }

abbrev heard_so : ℕ → TBody → RMsg → Result (List Asked) CallFault
heard_so tag body m = cond (tag == m.tag) (cond (answers (kind_t body) m.body) (Ok (replied m.tag body m.body ∷ []))
    (Err (fault.Kind (kind_r m.body)))) (Err (fault.Unasked m.tag))

heard_cond : (a : Asked) (m : RMsg) (kind : ℕ) (b : Bool) → heard_as (a ∷ []) m
    (cond b (Ok (0, kind)) (Err (fault.Kind (kind_r m.body)))) ≡ cond b
    (Ok (record { tag = m.tag; kind = kind; reply = Some m.body } ∷ [])) (Err (fault.Kind (kind_r m.body)))
heard_cond a m kind true = refl
heard_cond a m kind false = refl

heard_one : (tag : ℕ) (body : TBody) (m : RMsg) → heard_reply (asking tag body ∷ []) m ≡ heard_so tag body m
unfolding judged replied
heard_one tag body m =
    elim (tag == m.tag) as (λ b. (tag == m.tag) ≡ b → heard_reply (asking tag body ∷ []) m ≡ heard_so tag body m) [
      | true ↦ λ e. rw e (heard_cond (asking tag body) m (kind_t body) (answers (kind_t body) m.body))
      | false ↦ λ e. rw e refl
    ] refl

record Heard (tag : ℕ) (body : TBody) (message : List ℕ) (next : List Asked) : Type 0 where
  reply : RBody
  got : reply_read tag (kind_t body) (r_of message) ≡ outcome reply
  answer : answers (kind_t body) reply ≡ true
  state : next ≡ replied tag body reply ∷ []

heard_message : (tag : ℕ) (body : TBody) (message : List ℕ) (m : RMsg) (next : List Asked) → r_of message ≡ Ok m
    → heard_so tag body m ≡ Ok next → Heard tag body message next
unfolding replied
heard_message tag body message m next read h =
    elim (tag == m.tag) as (λ b. (tag == m.tag) ≡ b → cond b (cond (answers (kind_t body) m.body)
    (Ok (replied m.tag body m.body ∷ [])) (Err (fault.Kind (kind_r m.body)))) (Err (fault.Unasked m.tag)) ≡ Ok next
    → Heard tag body message next) [
      | true ↦ λ e. elim (answers (kind_t body) m.body) as (λ a. answers (kind_t body) m.body ≡ a → cond a
          (Ok (replied m.tag body m.body ∷ [])) (Err (fault.Kind (kind_r m.body))) ≡ Ok next
          → Heard tag body message next) [
            | true ↦ λ a w.
                let same : tag ≡ m.tag = eqb-true tag m.tag e in
                let is : replied m.tag body m.body ∷ [] ≡ next = cc in
                record {
                  reply = m.body;
                  got = rw (read, e, a) refl;
                  answer = a;
                  state = sym is ∙ ap (λ (x : ℕ). replied x body m.body ∷ []) (sym same);
                }
            | false ↦ λ a w. (cc)
          ] refl
      | false ↦ λ e w. (cc)
    ] refl h

heard_is : (tag : ℕ) (body : TBody) (message : List ℕ) (next : List Asked)
    → heard (asking tag body ∷ []) message ≡ Ok next → Heard tag body message next
unfolding heard
heard_is tag body message next h =
    elim (r_of message) as (λ x. r_of message ≡ x → heard_read (asking tag body ∷ []) x ≡ Ok next
    → Heard tag body message next) [
      | Ok m ↦ λ read w. heard_message tag body message m next read (sym (heard_one tag body m) ∙ w)
      | Err f ↦ λ read w. (cc)
    ] refl h

-- ---- the place of the reply

same_tag : (tag : ℕ) → (tag == tag) ≡ true
same_tag tag = eq-eqb tag tag refl

none_there : (tag : ℕ) (body : TBody) → reply_of tag (asking tag body ∷ []) ≡ None
none_there tag body = rw (same_tag tag) refl

there : (tag : ℕ) (body : TBody) (reply : RBody) → reply_place tag (replied tag body reply ∷ []) ≡ Some 0
unfolding replied
there tag body reply = rw (same_tag tag) refl

reply_there : (tag : ℕ) (body : TBody) (reply : RBody) → reply_of tag (replied tag body reply ∷ []) ≡ Some reply
unfolding replied
reply_there tag body reply = rw (same_tag tag) refl

none_left : (tag : ℕ) (body : TBody) (reply : RBody) → answered tag (replied tag body reply ∷ []) ≡ []
unfolding replied
none_left tag body reply = rw (same_tag tag) refl

-- ---- the messages that are heard

record HeardOne (tag : ℕ) (body : TBody) (messages : List (List ℕ)) (asked : List Asked) : Type 0 where
  message : List ℕ
  is : messages ≡ message ∷ []
  heard : Heard tag body message asked

abbrev go_on : ℕ → List (List ℕ) → List Asked → Option (List Asked)
go_on tag ms next = heard_until tag next ms

none_more : (tag : ℕ) (body : TBody) (reply : RBody) (m : List ℕ) (ms : List (List ℕ))
    → heard_until tag (replied tag body reply ∷ []) (m ∷ ms) ≡ None
unfolding heard_until
none_more tag body reply m ms = rw (there tag body reply) refl

heard_only : (tag : ℕ) (body : TBody) (message : List ℕ) (ms : List (List ℕ)) (next asked : List Asked)
    → Heard tag body message next → heard_until tag next ms ≡ Some asked → HeardOne tag body (message ∷ ms) asked
unfolding heard_until
heard_only tag body message [] next asked h e =
    let same : next ≡ asked = cc in
    record { message = message; is = refl; heard = subst (λ (x : List Asked). Heard tag body message x) same h }
heard_only tag body message (m ∷ ms) next asked h e =
    let none : heard_until tag next (m ∷ ms) ≡ None = rw h.state (none_more tag body h.reply m ms) in
    let no : None ≡ Some asked = sym none ∙ e in
    (cc)

-- no message was heard, or one that is the reply
heard_either : (tag : ℕ) (body : TBody) (ms : List (List ℕ)) (asked : List Asked)
    → heard_until tag (asking tag body ∷ []) ms ≡ Some asked → ((ms ≡ []) × (asked ≡ asking tag body ∷ []))
    ⊎ HeardOne tag body ms asked
unfolding heard_until
heard_either tag body [] asked e = let same : asking tag body ∷ [] ≡ asked = cc in inl (refl, sym same)
heard_either tag body (m ∷ ms) asked e =
    elim (is_some (reply_place tag (asking tag body ∷ []))) as (λ b. cond b None
    (heard_next (go_on tag ms) (heard (asking tag body ∷ []) m)) ≡ Some asked
    → ((m ∷ ms ≡ []) × (asked ≡ asking tag body ∷ [])) ⊎ HeardOne tag body (m ∷ ms) asked) [
      | true ↦ λ w. absurd cc
      | false ↦ elim (heard (asking tag body ∷ []) m) as (λ x. heard (asking tag body ∷ []) m ≡ x →
          heard_next (go_on tag ms) x ≡ Some asked → ((m ∷ ms ≡ []) × (asked ≡ asking tag body ∷ []))
          ⊎ HeardOne tag body (m ∷ ms) asked) [
            | Ok next ↦ λ h w. inr (heard_only tag body m ms next asked (heard_is tag body m next h) w)
            | Err f ↦ λ h w. absurd cc
          ] refl
    ] e

heard_just_one : (tag : ℕ) (body : TBody) (ms : List (List ℕ)) (asked : List Asked) (given : RBody)
    → heard_until tag (asking tag body ∷ []) ms ≡ Some asked → reply_of tag asked ≡ Some given
    → HeardOne tag body ms asked
heard_just_one tag body ms asked given e reply =
    elim (heard_either tag body ms asked e) [
      | inl none ↦ let no : None ≡ Some given = sym (none_there tag body) ∙ ap (reply_of tag) (sym none.1) ∙ reply in
          absurd cc
      | inr one ↦ one
    ]

heard_nothing : (tag : ℕ) (body : TBody) (ms : List (List ℕ)) (asked : List Asked)
    → heard_until tag (asking tag body ∷ []) ms ≡ Some asked → reply_place tag asked ≡ None → (ms ≡ [])
    × (asked ≡ asking tag body ∷ [])
heard_nothing tag body ms asked e none =
    elim (heard_either tag body ms asked e) [
      | inl nothing ↦ nothing
      | inr one ↦
          let place : reply_place tag asked ≡ Some 0 = ap (reply_place tag) one.heard.state
          ∙ there tag body one.heard.reply in
          let no : true ≡ false = sym (ap is_some place) ∙ ap is_some none in
          absurd cc
    ]

-- ---- replies

answer_kind : (kind : ℕ) (reply : RBody) → kind_r reply ≢ 107 → answers kind reply ≡ true → kind_r reply ≡ kind + 1
answer_kind kind reply apart e =
    elim (kind_r reply == 107) as (λ b. (kind_r reply == 107) ≡ b → (b || kind_r reply == kind + 1) ≡ true →
    kind_r reply ≡ kind + 1) [
      | true ↦ λ is w. absurd (apart (eqb-true (kind_r reply) 107 is))
      | false ↦ λ is w. eqb-true (kind_r reply) (kind + 1) w
    ] refl e

-- a reply that is no error
no_error : (reply : RBody) → kind_r reply ≢ 107 → outcome reply ≡ Ok reply
no_error (r.Error text) h = absurd (h refl)
no_error (r.Version msize version) h = refl
no_error (r.Auth aqid) h = refl
no_error r.Flush h = refl
no_error (r.Attach qid) h = refl
no_error (r.Walk qids) h = refl
no_error (r.Open qid iounit) h = refl
no_error (r.Create qid iounit) h = refl
no_error (r.Read bytes) h = refl
no_error (r.Write count) h = refl
no_error r.Clunk h = refl
no_error r.Remove h = refl
no_error (r.Stat stat) h = refl
no_error r.Wstat h = refl

-- the message that was heard, with what is unread behind it
replies_with : (t after : Talk) (body : TBody) (o i : Seen) (tag : ℕ) (given : RBody) (got : Result RBody CallFault)
    → t.asked ≡ [] → Sends t body tag (after_sent t tag body) o → Gives tag (after_sent t tag body) i given after
    → outcome given ≡ got → msize_after given t.msize ≡ msize_behind got t.msize → Replies t body o i got after
unfolding replied reply_to
replies_with t after body o i tag given got none sends gives out size =
    let tagged : tag ≡ tag_alone body = tag_is body tag (subst (λ (x : List Asked). IsTagFor body x tag) none
    sends.tagged) in
    let hears : Hears tag (asking tag body ∷ []) t.unread i.before.bytes i.now.bytes gives.asked after.unread
    = subst (λ (x : List Asked). Hears tag (x ++ asking tag body ∷ []) t.unread i.before.bytes i.now.bytes gives.asked
    after.unread) none gives.hears in
    let one : HeardOne tag body hears.messages gives.asked = heard_just_one tag body hears.messages gives.asked given
    hears.heard gives.reply in
    let reply : one.heard.reply ≡ given = let e : Some one.heard.reply ≡ Some given =
    sym (reply_there tag body one.heard.reply) ∙ ap (reply_of tag) (sym one.heard.state) ∙ gives.reply in cc in
    let empty : answered tag gives.asked ≡ [] = ap (answered tag) one.heard.state
    ∙ none_left tag body one.heard.reply in
    let whole : IsMessage one.message = (subst (λ (x : List (List ℕ)). All IsMessage x) one.is hears.whole) 0 []
    (omega arith) in
    record {
      message = one.message;
      allowed = sends.allowed;
      put = subst (λ (x : ℕ). IsWhole o (message_of x body)) tagged sends.put;
      came = subst (λ (x : List ℕ). Came i.before.bytes i.now.bytes t.unread (x ++ after.unread))
          (append-nil one.message) (subst (λ (x : List (List ℕ)). Came i.before.bytes i.now.bytes t.unread
          (concat x ++ after.unread)) one.is hears.came);
      whole = whole;
      reply = subst (λ (x : ℕ). reply_read x (kind_t body) (r_of one.message) ≡ got) tagged
          (one.heard.got ∙ ap outcome reply ∙ out);
      state = gives.state ∙ (λ j. let s : Talk = record {
        unread = after.unread;
        asked = empty j;
        msize = size j;
        is_closed = t.is_closed;
      } in s);
    }

pub alone_ok : (t after : Talk) (body : TBody) (o i : Seen) (reply : RBody) → t.asked ≡ [] → kind_r reply ≢ 107
    → Calls t body o i reply after → Replies t body o i (Ok reply) after
alone_ok t after body o i reply none kind calls = replies_with t after body o i calls.tag reply (Ok reply) none
    calls.sends calls.gives (no_error reply kind) refl

-- ---- no reply

-- a message that isn't heard is no reply
not_reply : (tag : ℕ) (body : TBody) (m : RMsg) (e : CallFault) → heard_so tag body m ≡ Err e
    → reply_for tag (kind_t body) m ≡ Err e
not_reply tag body m e h =
    elim (tag == m.tag) as (λ b. cond b (cond (answers (kind_t body) m.body) (Ok (replied m.tag body m.body ∷ []))
    (Err (fault.Kind (kind_r m.body)))) (Err (fault.Unasked m.tag)) ≡ Err e
    → cond b (cond (answers (kind_t body) m.body) (outcome m.body) (Err (fault.Kind (kind_r m.body))))
    (Err (fault.Unasked m.tag)) ≡ Err e) [
      | true ↦ elim (answers (kind_t body) m.body) as (λ a. cond a (Ok (replied m.tag body m.body ∷ []))
          (Err (fault.Kind (kind_r m.body))) ≡ Err e → cond a (outcome m.body)
          (Err (fault.Kind (kind_r m.body))) ≡ Err e) [
            | true ↦ λ w. absurd cc
            | false ↦ λ w. let same : fault.Kind (kind_r m.body) ≡ e = cc in ap (λ (x : CallFault). Err x) same
          ]
      | false ↦ λ w. let same : fault.Unasked m.tag ≡ e = cc in ap (λ (x : CallFault). Err x) same
    ] h

not_heard : (tag : ℕ) (body : TBody) (message : List ℕ) (e : CallFault) → heard (asking tag body ∷ []) message ≡ Err e
    → reply_read tag (kind_t body) (r_of message) ≡ Err e
unfolding heard
not_heard tag body message e h =
    elim (r_of message) as (λ x. heard_read (asking tag body ∷ []) x ≡ Err e → reply_read tag (kind_t body) x ≡ Err e) [
      | Ok m ↦ λ w. not_reply tag body m e (sym (heard_one tag body m) ∙ w)
      | Err f ↦ λ w. let same : fault.Wire f ≡ e = cc in ap (λ (x : CallFault). Err x) same
    ] h

not_front : (tag : ℕ) (body : TBody) (unread : List ℕ) (e : CallFault) → tag ≡ tag_alone body
    → front_fault (asking tag body ∷ []) unread ≡ Some e → front_reply body unread ≡ Some e
unfolding reply_to
not_front tag body unread e tagged h =
    elim (cut_of unread) as (λ c. fault_at c (asking tag body ∷ []) unread ≡ Some e → front_at c body unread ≡ Some e) [
      | Whole ↦ λ w. elim (heard (asking tag body ∷ []) (first_of unread)) as
          (λ x. heard (asking tag body ∷ []) (first_of unread) ≡ x → fault_in x ≡ Some e
          → front_at Whole body unread ≡ Some e) [
            | Ok next ↦ λ is w. absurd cc
            | Err f ↦ λ is w.
                let same : f ≡ e = cc in
                ap reply_fault (subst (λ (t : ℕ). reply_read t (kind_t body) (r_of (first_of unread)) ≡ Err e) tagged
                (not_heard tag body (first_of unread) e (is ∙ ap (λ (x : CallFault). Err x) same)))
          ] refl w
      | More ↦ λ w. absurd cc
      | Broken size ↦ λ w. w
    ] h

alone_stops : (e : CallFault) (tag : ℕ) (body : TBody) (unread : List ℕ) (i : Seen) → tag ≡ tag_alone body
    → StopsAt e (asking tag body ∷ []) unread i → AloneStops e body unread i
alone_stops fault.ReadFault tag body unread i tagged h = h
alone_stops fault.Ended tag body unread i tagged h = h
alone_stops fault.Torn tag body unread i tagged h = h
alone_stops (fault.Wire f) tag body unread i tagged h = not_front tag body unread (fault.Wire f) tagged h
alone_stops (fault.Unasked n) tag body unread i tagged h = not_front tag body unread (fault.Unasked n) tagged h
alone_stops (fault.Kind kind) tag body unread i tagged h = not_front tag body unread (fault.Kind kind) tagged h
alone_stops fault.NoMemory tag body unread i tagged h = tt
alone_stops fault.Closed tag body unread i tagged h = absurd h
alone_stops fault.Tags tag body unread i tagged h = absurd h
alone_stops fault.Large tag body unread i tagged h = absurd h
alone_stops fault.WriteFault tag body unread i tagged h = absurd h
alone_stops (fault.Remote text) tag body unread i tagged h = absurd h

stopped : (e : CallFault) (t mid after : Talk) (body : TBody) (o i : Seen) (tag : ℕ) → t.asked ≡ []
    → Sends t body tag (after_sent t tag body) o → Stops e tag (after_sent t tag body) i mid
    → after ≡ mid → HasStopped e t body o i after
stopped e t mid after body o i tag none sends stops same =
    let tagged : tag ≡ tag_alone body = tag_is body tag (subst (λ (x : List Asked). IsTagFor body x tag) none
    sends.tagged) in
    let hears : Hears tag (asking tag body ∷ []) t.unread i.before.bytes i.now.bytes mid.asked mid.unread
    = subst (λ (x : List Asked). Hears tag (x ++ asking tag body ∷ []) t.unread i.before.bytes i.now.bytes mid.asked
    mid.unread) none stops.hears in
    let nothing : (hears.messages ≡ []) × (mid.asked ≡ asking tag body ∷ []) = heard_nothing tag body hears.messages
    mid.asked hears.heard stops.none in
    let came : Came i.before.bytes i.now.bytes t.unread mid.unread =
    subst (λ (x : List (List ℕ)). Came i.before.bytes i.now.bytes t.unread (concat x ++ mid.unread)) nothing.0
    hears.came in
    let cause : AloneStops e body mid.unread i = alone_stops e tag body mid.unread i tagged
    (subst (λ (x : List Asked). StopsAt e x mid.unread i) nothing.1 stops.cause) in
    record {
      allowed = sends.allowed;
      put = subst (λ (x : ℕ). IsWhole o (message_of x body)) tagged sends.put;
      came = subst (λ (x : Talk). Came i.before.bytes i.now.bytes t.unread x.unread) (sym same) came;
      cause = subst (λ (x : Talk). AloneStops e body x.unread i) (sym same) cause;
    }

-- a client that is closed sends nothing
never_closed : (t : Talk) (body : TBody) → refusal t body ≡ None → t.is_closed ≡ true → ⊥
never_closed t body allowed shut = let e = rw shut at allowed in (cc)

refused : (e : CallFault) (t mid after : Talk) (body : TBody) (o i : Seen) → refusal t body ≡ Some e → IsIdle t mid o
    → after ≡ mid → i.now.bytes ≡ i.before.bytes → IsRefused e t body o i after
refused e t mid after body o i why idle same unread = record {
  refused = why;
  idle = record { same = same ∙ idle.same; silent = idle.silent };
  unread = unread;
}

torn : (t mid : Talk) (body : TBody) (o i : Seen) → t.asked ≡ [] → refusal t body ≡ None → Cuts t body mid o
    → i.now.bytes ≡ i.before.bytes → IsTorn t body o i
torn t mid body o i none allowed cuts unread =
    let tagged : cuts.tag ≡ tag_alone body = tag_is body cuts.tag (subst (λ (x : List Asked). IsTagFor body x cuts.tag)
    none cuts.for) in
    record { allowed = allowed; cut = subst (λ (x : ℕ). IsCut o (message_of x body)) tagged cuts.cut; unread = unread }

starved_before : (t mid after : Talk) (body : TBody) (o i : Seen) → refusal t body ≡ None → IsIdle t mid o
    → after ≡ closed mid → i.now.bytes ≡ i.before.bytes → IsStarved t body o i after
starved_before t mid after body o i allowed idle same unread =
    let kept : after.unread ≡ t.unread = ap (λ (x : Talk). x.unread) same ∙ ap (λ (x : Talk). x.unread) idle.same in
    record {
      allowed = allowed;
      put = inr idle.silent;
      came = subst (λ (x : List ℕ). Came i.before.bytes i.now.bytes t.unread x) (sym kept)
          (subst (λ (x : Option (List ℕ)). Came i.before.bytes x t.unread t.unread) (sym unread)
          (came_none i.before.bytes t.unread));
    }

starved_behind : (t mid after : Talk) (body : TBody) (o i : Seen) → HasStopped fault.NoMemory t body o i mid
    → after ≡ closed mid → IsStarved t body o i after
starved_behind t mid after body o i stopped same = record {
  allowed = stopped.allowed;
  put = inl stopped.put;
  came = subst (λ (x : List ℕ). Came i.before.bytes i.now.bytes t.unread x) (sym (ap (λ (x : Talk). x.unread) same))
      stopped.came;
}

unsent : (e : CallFault) (t after : Talk) (body : TBody) (o i : Seen) → t.asked ≡ [] → IsUnsent e t body o i after
    → AloneFails e t body o i after
unsent fault.Closed t after body o i none u = refused fault.Closed t u.mid after body o i u.fails.0 u.fails.1 u.state
    u.unread
unsent fault.Tags t after body o i none u = refused fault.Tags t u.mid after body o i u.fails.0 u.fails.1 u.state
    u.unread
unsent fault.Large t after body o i none u = refused fault.Large t u.mid after body o i u.fails.0 u.fails.1 u.state
    u.unread
unsent fault.WriteFault t after body o i none u = torn t u.mid body o i none u.fails.0 u.fails.1 u.unread
unsent fault.NoMemory t after body o i none u = starved_before t u.mid after body o i u.fails.0 u.fails.1 u.state
    u.unread
unsent fault.ReadFault t after body o i none u = absurd u.fails
unsent fault.Ended t after body o i none u = absurd u.fails
unsent fault.Torn t after body o i none u = absurd u.fails
unsent (fault.Remote text) t after body o i none u = absurd u.fails
unsent (fault.Wire f) t after body o i none u = absurd u.fails
unsent (fault.Unasked n) t after body o i none u = absurd u.fails
unsent (fault.Kind kind) t after body o i none u = absurd u.fails

unanswered : (e : CallFault) (t after : Talk) (body : TBody) (o i : Seen) → t.asked ≡ []
    → IsUnanswered e t body o i after → AloneFails e t body o i after
unanswered (fault.Remote text) t after body o i none u =
    replies_with t after body o i u.tag (r.Error text) (Err (fault.Remote text)) none u.sends
    (subst (λ (x : Talk). Gives u.tag (after_sent t u.tag body) i (r.Error text) x) (sym u.state) u.fails) refl refl
unanswered fault.Closed t after body o i none u = absurd (never_closed t body u.sends.allowed u.fails.shut)
unanswered fault.Tags t after body o i none u = absurd u.fails
unanswered fault.Large t after body o i none u = absurd u.fails
unanswered fault.WriteFault t after body o i none u = absurd u.fails
unanswered fault.NoMemory t after body o i none u = starved_behind t u.mid after body o i
    (stopped fault.NoMemory t u.mid u.mid body o i u.tag none u.sends u.fails refl) u.state
unanswered fault.ReadFault t after body o i none u = stopped fault.ReadFault t u.mid after body o i u.tag none u.sends
    u.fails u.state
unanswered fault.Ended t after body o i none u = stopped fault.Ended t u.mid after body o i u.tag none u.sends u.fails
    u.state
unanswered fault.Torn t after body o i none u = stopped fault.Torn t u.mid after body o i u.tag none u.sends u.fails
    u.state
unanswered (fault.Wire f) t after body o i none u = stopped (fault.Wire f) t u.mid after body o i u.tag none u.sends
    u.fails u.state
unanswered (fault.Unasked n) t after body o i none u = stopped (fault.Unasked n) t u.mid after body o i u.tag none
    u.sends u.fails u.state
unanswered (fault.Kind kind) t after body o i none u = stopped (fault.Kind kind) t u.mid after body o i u.tag none
    u.sends u.fails u.state

pub alone_fails : (e : CallFault) (t after : Talk) (body : TBody) (o i : Seen) → t.asked ≡ []
    → CallFails e t body o i after → AloneFails e t body o i after
alone_fails e t after body o i none fails =
    elim fails [
      | inl u ↦ unsent e t after body o i none u
      | inr u ↦ unanswered e t after body o i none u
    ]

-- ---- the type of a reply

pub reply_kind : (t after : Talk) (body : TBody) (o i : Seen) (reply : RBody) → t.asked ≡ [] → kind_r reply ≢ 107
    → Calls t body o i reply after → kind_r reply ≡ kind_t body + 1
reply_kind t after body o i reply none kind calls =
    let tag = calls.tag in
    let hears : Hears tag (asking tag body ∷ []) t.unread i.before.bytes i.now.bytes calls.gives.asked after.unread
    = subst (λ (x : List Asked). Hears tag (x ++ asking tag body ∷ []) t.unread i.before.bytes i.now.bytes
    calls.gives.asked after.unread) none calls.gives.hears in
    let one : HeardOne tag body hears.messages calls.gives.asked = heard_just_one tag body hears.messages
    calls.gives.asked reply hears.heard calls.gives.reply in
    let same : one.heard.reply ≡ reply = let e : Some one.heard.reply ≡ Some reply =
    sym (reply_there tag body one.heard.reply) ∙ ap (reply_of tag) (sym one.heard.state) ∙ calls.gives.reply in
    cc in
    answer_kind (kind_t body) reply kind (subst (λ (x : RBody). answers (kind_t body) x ≡ true) same one.heard.answer)

-- ---- of all answers

pub alone_oks : (t after : Talk) (body : TBody) (o i : Seen) (r : Result RBody CallFault)
    → IfOk r (λ reply. kind_r reply ≢ 107) → IfOk r (λ reply. Calls t body o i reply after) → t.asked ≡ []
    → IfOk r (λ reply. Replies t body o i (Ok reply) after)
alone_oks t after body o i (Ok reply) kind calls none = alone_ok t after body o i reply none kind calls
alone_oks t after body o i (Err e) kind calls none = tt

pub alone_kinds : (t after : Talk) (body : TBody) (o i : Seen) (r : Result RBody CallFault)
    → IfOk r (λ reply. kind_r reply ≢ 107) → IfOk r (λ reply. Calls t body o i reply after) → t.asked ≡ []
    → IfOk r (λ reply. kind_r reply ≡ kind_t body + 1)
alone_kinds t after body o i (Ok reply) kind calls none = reply_kind t after body o i reply none kind calls
alone_kinds t after body o i (Err e) kind calls none = tt

pub alone_errs : (t after : Talk) (body : TBody) (o i : Seen) (r : Result RBody CallFault)
    → IfErr r (λ e. CallFails e t body o i after) → t.asked ≡ [] → IfErr r (λ e. AloneFails e t body o i after)
alone_errs t after body o i (Ok reply) fails none = tt
alone_errs t after body o i (Err e) fails none = alone_fails e t after body o i none fails

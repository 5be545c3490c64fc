-- One message and its reply.
use Rattle.std.proofs.Common.{◌≡◌, ◌≢◌, ℕ, ◌+◌, true, false, cond, List, [], ◌++◌, Option, Some, None, refl, sym, ap}
use Rattle.std.proofs.Common.{◌∙◌, subst, arith, inl, inr}
use Rattle.std.specs.Prelude.{Result, Ok, Err, nat_lt, codes, ◌==◌}
use Rattle.am_base.specs.Outside.{told_then, PutsFront}
use Rattle.am_base.specs.Seen.{Seen}
use Rattle.ninep_types.specs.declared.fault.WireFault.{WireFault}
use Rattle.ninep_types.specs.declared.fault.WireFault.TheVariants.{Size}
use Rattle.ninep_types.specs.declared.message.TBody.{TBody}
use Rattle.ninep_types.specs.declared.message.RBody.{RBody}
use Rattle.ninep_types.specs.declared.message.RBody.TheVariants as r
use Rattle.ninep_types.specs.Spelling.{size_t, kind_t, kind_r}
use Rattle.ninep_cut.specs.declared.cut.Cut.{Cut}
use Rattle.ninep_cut.specs.declared.cut.Cut.TheVariants.{Whole, More, Broken}
use Rattle.ninep_cut.specs.Cuts.{cut_of, first_of, behind_first, IsMessage}
use Rattle.ninep_cut.specs.Laws.{FrontIs}
use Rattle.ninep_client.specs.declared.fault.CallFault.{CallFault}
use Rattle.ninep_client.specs.declared.fault.CallFault.TheVariants as fault
use Rattle.ninep_client.specs.Asking.{Talk, is_version, refusal}
use Rattle.ninep_client.specs.Hearing.{Came, msize_after}
use Rattle.ninep_client.specs.Alone.{spelled, reply_to, reply_fault, front_at, Replies, IsRefused, IsTorn, HasStopped}
use Rattle.ninep_client.specs.Alone.{IsStarved, AloneFails}
use Rattle.am_do.specs.declared.stop.Stop.TheVariants as stop
use Rattle.am_do.specs.declared.asking.Sorted.TheVariants as sorted
use Rattle.am_do.specs.Talks.{Got, Value, Lacks, Faulty, Told, Reply, reply_got, front_got, asks}
use Rattle.am_do.specs.Sorting.{sorted_as}
use Rattle.am_do.specs.Went.{IsReady, Ends, ends, Went, IsLeft, IsFaulty, IsCutOff, StopsFor, Halted}
use Rattle.am_do.proofs.Outputs.{came_none, put_none, front_none, whole_is_front}

-- ---- what is refused

ready_refusal : (t : Talk) (body : TBody) → IsReady t → refusal t body ≡ cond (nat_lt t.msize (size_t body))
    (Some fault.Large) None
ready_refusal t body ready = rw (ready.live, ready.none) refl

small : (t : Talk) (body : TBody) → IsReady t → refusal t body ≡ None → nat_lt t.msize (size_t body) ≡ false
small t body ready e =
    elim (nat_lt t.msize (size_t body)) as (λ b. cond b (Some fault.Large) None ≡ None → b ≡ false) [
      | true ↦ λ w. absurd cc
      | false ↦ λ w. refl
    ] (sym (ready_refusal t body ready) ∙ e)

large : (t : Talk) (body : TBody) (e : CallFault) → IsReady t → refusal t body ≡ Some e
    → (nat_lt t.msize (size_t body) ≡ true) × (e ≡ fault.Large)
large t body e ready is =
    elim (nat_lt t.msize (size_t body)) as (λ b. cond b (Some fault.Large) None ≡ Some e → (b ≡ true)
    × (e ≡ fault.Large)) [
      | true ↦ λ w. (refl, cc)
      | false ↦ λ w. absurd cc
    ] (sym (ready_refusal t body ready) ∙ is)

-- ---- a reply

reply_goes : (most : ℕ) (body : TBody) (message more : List ℕ) → FrontIs → IsMessage message
    → nat_lt most (size_t body) ≡ false → asks most body (message ++ more)
    ≡ record { sent = spelled body; text = []; got = reply_got (reply_to body message) more }
unfolding asks
reply_goes most body message more front whole fits =
    let f = front message more whole in
    rw (fits, f.0, f.1, f.2) refl

replied : (t after : Talk) (body : TBody) (o i : Seen) (r : Result RBody CallFault) (reply : Reply)
    → FrontIs → IsReady t → Replies t body o i r after → ((more : List ℕ) → reply_got r more ≡ Value reply more)
    → Went (asks t.msize body) t after o.before.bytes o.now.bytes i.before.bytes i.now.bytes [] reply
replied t after body o i r reply front ready replies is = record {
  used = replies.message;
  sent = spelled body;
  came = replies.came;
  put = replies.put;
  goes = λ more.
      reply_goes t.msize body replies.message more front replies.whole (small t body ready replies.allowed)
      ∙ ap (λ (x : Result RBody CallFault). let told : Told Reply =
      record { sent = spelled body; text = []; got = reply_got x more } in told) replies.reply
      ∙ ap (λ (x : Got Reply). let told : Told Reply = record { sent = spelled body; text = []; got = x } in told)
      (is more);
}

pub went_reply : (t after : Talk) (body : TBody) (o i : Seen) (reply : RBody) → FrontIs → IsReady t
    → Replies t body o i (Ok reply) after → Went (asks t.msize body) t after o.before.bytes o.now.bytes i.before.bytes
    i.now.bytes [] (Ok reply)
went_reply t after body o i reply front ready replies = replied t after body o i (Ok reply) (Ok reply) front ready
    replies (λ more. refl)

pub went_error : (t after : Talk) (body : TBody) (o i : Seen) (text : List ℕ) → FrontIs → IsReady t
    → Replies t body o i (Err (fault.Remote text)) after → Went (asks t.msize body) t after o.before.bytes o.now.bytes
    i.before.bytes i.now.bytes [] (Err text)
went_error t after body o i text front ready replies = replied t after body o i (Err (fault.Remote text)) (Err text)
    front ready replies (λ more. refl)

large_goes : (most : ℕ) (body : TBody) (more : List ℕ) → nat_lt most (size_t body) ≡ true → asks most body
    more ≡ record { sent = []; text = []; got = Value (Err (codes "message too large")) more }
unfolding asks
large_goes most body more big = rw big refl

pub went_large : (t after : Talk) (body : TBody) (o i : Seen) → IsReady t → IsRefused fault.Large t body o i after
    → Went (asks t.msize body) t after o.before.bytes o.now.bytes i.before.bytes i.now.bytes []
    (Err (codes "message too large"))
went_large t after body o i ready refused = record {
  used = [];
  sent = [];
  came = subst (λ (x : Talk). Came i.before.bytes i.now.bytes t.unread x.unread) (sym refused.idle.same)
      (subst (λ (x : Option (List ℕ)). Came i.before.bytes x t.unread t.unread) (sym refused.unread)
      (came_none i.before.bytes t.unread));
  put = refused.idle.silent ∙ put_none o.before.bytes;
  goes = λ more. large_goes t.msize body more (large t body fault.Large ready refused.refused).0;
}

-- ---- the client afterwards

pub ready_after : (t after : Talk) (body : TBody) (o i : Seen) (r : Result RBody CallFault) → IsReady t
    → Replies t body o i r after → IsReady after
ready_after t after body o i r ready replies = record {
  none = ap (λ (x : Talk). x.asked) replies.state;
  live = ap (λ (x : Talk). x.is_closed) replies.state ∙ ready.live;
}

pub ready_same : (t after : Talk) → IsReady t → after ≡ t → IsReady after
ready_same t after ready same = subst IsReady (sym same) ready

msize_same : (reply : RBody) (most : ℕ) → kind_r reply ≢ 101 → msize_after reply most ≡ most
msize_same (r.Version msize version) most apart = absurd (apart refl)
msize_same (r.Error text) most apart = refl
msize_same (r.Auth aqid) most apart = refl
msize_same r.Flush most apart = refl
msize_same (r.Attach qid) most apart = refl
msize_same (r.Walk qids) most apart = refl
msize_same (r.Open qid iounit) most apart = refl
msize_same (r.Create qid iounit) most apart = refl
msize_same (r.Read bytes) most apart = refl
msize_same (r.Write count) most apart = refl
msize_same r.Clunk most apart = refl
msize_same r.Remove most apart = refl
msize_same (r.Stat stat) most apart = refl
msize_same r.Wstat most apart = refl

-- another message than Tversion leaves the most bytes
pub most_same : (body : TBody) (reply : RBody) (most now : ℕ) → kind_r reply ≡ kind_t body + 1
    → now ≡ msize_after reply most → is_version body ≡ false → now ≡ most
most_same body reply most now kind is other =
    is ∙ msize_same reply most (λ version.
    let asked : kind_t body ≡ 100 = omega arith in
    let yes : is_version body ≡ true = ap (λ (n : ℕ). n == 100) asked in
    let no : true ≡ false = sym yes ∙ other in
    absurd cc)

-- ---- no reply

nothing : cut_of [] ≡ More
unfolding cut_of
nothing = refl

-- where the reply isn't there
lacks : (most : ℕ) (body : TBody) → nat_lt most (size_t body) ≡ false → asks most body
    [] ≡ record { sent = spelled body; text = []; got = Lacks }
unfolding asks
lacks most body fits = rw (fits, nothing) refl

left_told : (most : ℕ) (body : TBody) (e : Ends) → nat_lt most (size_t body) ≡ false →
    e.sink.now.bytes ≡ told_then e.sink.before.bytes (spelled body) → IsLeft (asks most body []) e []
left_told most body e fits put = subst (λ (x : Told Reply). IsLeft x e []) (sym (lacks most body fits))
    (record { lacks = refl; put = put; said = refl })

-- where it isn't there whole
short : (most : ℕ) (body : TBody) (unread : List ℕ) → nat_lt most (size_t body) ≡ false → cut_of unread ≡ More →
    asks most body unread ≡ record { sent = spelled body; text = []; got = Lacks }
unfolding asks
short most body unread fits more = rw (fits, more) refl

left_short : (most : ℕ) (body : TBody) (unread : List ℕ) (e : Ends)
    → nat_lt most (size_t body) ≡ false → cut_of unread ≡ More → e.sink.now.bytes ≡ told_then e.sink.before.bytes
    (spelled body) → IsLeft (asks most body unread) e []
left_short most body unread e fits more put = subst (λ (x : Told Reply). IsLeft x e [])
    (sym (short most body unread fits more)) (record { lacks = refl; put = put; said = refl })

-- what stands at the front is at fault
wire_got : (f : WireFault) (c : Cut) (body : TBody) (bytes : List ℕ) → front_at c body bytes ≡ Some (fault.Wire f)
    → front_got c body bytes ≡ Faulty (fault.Wire f)
wire_got f Whole body bytes e =
    elim (reply_to body (first_of bytes)) as (λ x. reply_fault x ≡ Some (fault.Wire f)
    → reply_got x (behind_first bytes) ≡ Faulty (fault.Wire f)) [
      | Ok reply ↦ λ w. absurd cc
      | Err x ↦ λ w. let same : x ≡ fault.Wire f = cc in ap (λ (y : CallFault). reply_got (Err y) (behind_first bytes))
          same
    ] e
wire_got f More body bytes e = absurd cc
wire_got f (Broken size) body bytes e = let same : fault.Wire Size ≡ fault.Wire f = cc in ap Faulty same

unasked_got : (n : ℕ) (c : Cut) (body : TBody) (bytes : List ℕ) → front_at c body bytes ≡ Some (fault.Unasked n)
    → front_got c body bytes ≡ Faulty (fault.Unasked n)
unasked_got n Whole body bytes e =
    elim (reply_to body (first_of bytes)) as (λ x. reply_fault x ≡ Some (fault.Unasked n)
    → reply_got x (behind_first bytes) ≡ Faulty (fault.Unasked n)) [
      | Ok reply ↦ λ w. absurd cc
      | Err x ↦ λ w. let same : x ≡ fault.Unasked n = cc in ap (λ (y : CallFault). reply_got (Err y)
          (behind_first bytes)) same
    ] e
unasked_got n More body bytes e = absurd cc
unasked_got n (Broken size) body bytes e = absurd cc

kind_got : (kind : ℕ) (c : Cut) (body : TBody) (bytes : List ℕ) → front_at c body bytes ≡ Some (fault.Kind kind)
    → front_got c body bytes ≡ Faulty (fault.Kind kind)
kind_got kind Whole body bytes e =
    elim (reply_to body (first_of bytes)) as (λ x. reply_fault x ≡ Some (fault.Kind kind)
    → reply_got x (behind_first bytes) ≡ Faulty (fault.Kind kind)) [
      | Ok reply ↦ λ w. absurd cc
      | Err x ↦ λ w. let same : x ≡ fault.Kind kind = cc in ap (λ (y : CallFault). reply_got (Err y)
          (behind_first bytes)) same
    ] e
kind_got kind More body bytes e = absurd cc
kind_got kind (Broken size) body bytes e = absurd cc

faulty_told : (f : CallFault) (most : ℕ) (body : TBody) (bytes : List ℕ) (e : Ends)
    → nat_lt most (size_t body) ≡ false → e.sink.now.bytes ≡ told_then e.sink.before.bytes (spelled body)
    → front_got (cut_of bytes) body bytes ≡ Faulty f → IsFaulty f (asks most body bytes) e []
unfolding asks
faulty_told f most body bytes e fits put is = rw fits (record { faulty = is; put = put; said = refl })

-- the client has stopped
halted_stopped : (f : CallFault) (t after : Talk) (body : TBody) (o i : Seen) → IsReady t
    → (nat_lt t.msize (size_t body) ≡ false → StopsFor (stop.Fault f) (asks t.msize body [])
    (asks t.msize body after.unread) after.unread (ends o.before o.now i.before i.now) [])
    → HasStopped f t body o i after → Halted (stop.Fault f) (asks t.msize body) t (ends o.before o.now i.before i.now)
    []
halted_stopped f t after body o i ready cause h = record {
  used = [];
  unread = after.unread;
  came = h.came;
  cause = cause (small t body ready h.allowed);
}

torn_told : (t : Talk) (body : TBody) (o i : Seen) → IsReady t → IsTorn t body o i
    → IsCutOff (asks t.msize body []) (ends o.before o.now i.before i.now) []
torn_told t body o i ready h =
    subst (λ (x : Told Reply). IsCutOff x (ends o.before o.now i.before i.now) [])
    (sym (lacks t.msize body (small t body ready h.allowed))) (record
    { lacks = refl; front = h.cut.front; risen = h.cut.risen; said = refl })

starved_front : (t : Talk) (body : TBody) (o i : Seen) (after : Talk) → IsReady t → IsStarved t body o i after
    → PutsFront o.before.bytes (asks t.msize body []).sent o.now.bytes
starved_front t body o i after ready h =
    subst (λ (x : Told Reply). PutsFront o.before.bytes x.sent o.now.bytes)
    (sym (lacks t.msize body (small t body ready h.allowed)))
    (elim h.put [
      | inl whole ↦ whole_is_front o.before.bytes o.now.bytes (spelled body) whole
      | inr silent ↦ subst (λ (x : Option (List ℕ)). PutsFront o.before.bytes (spelled body) x) (sym silent)
          (front_none o.before.bytes (spelled body))
    ])

-- a client that is ready is refused nothing but a message that is too long
refused_large : (t : Talk) (body : TBody) (e : CallFault) → IsReady t → refusal t body ≡ Some e → e ≡ fault.Large
refused_large t body e ready is = (large t body e ready is).1

pub halted_fault : (f g : CallFault) (t after : Talk) (body : TBody) (o i : Seen) → IsReady t
    → sorted_as f ≡ sorted.Stops g → AloneFails f t body o i after
    → Halted (stop.Fault g) (asks t.msize body) t (ends o.before o.now i.before i.now) []
halted_fault (fault.Remote text) g t after body o i ready is h = absurd cc
halted_fault fault.Large g t after body o i ready is h = absurd cc
halted_fault fault.Tags g t after body o i ready is h = absurd (let no = refused_large t body fault.Tags ready
    h.refused in cc)
halted_fault fault.Closed g t after body o i ready is h = absurd (let no = refused_large t body fault.Closed ready
    h.refused in cc)
halted_fault fault.WriteFault g t after body o i ready is h =
    let same : fault.WriteFault ≡ g = cc in
    subst (λ (x : CallFault). Halted (stop.Fault x) (asks t.msize body) t (ends o.before o.now i.before i.now) []) same
    (record {
      used = [];
      unread = t.unread;
      came = subst (λ (x : Option (List ℕ)). Came i.before.bytes x t.unread
          t.unread) (sym h.unread) (came_none i.before.bytes t.unread);
      cause = torn_told t body o i ready h;
    })
halted_fault fault.NoMemory g t after body o i ready is h =
    let same : fault.NoMemory ≡ g = cc in
    subst (λ (x : CallFault). Halted (stop.Fault x) (asks t.msize body) t (ends o.before o.now i.before i.now) []) same
    (record {
      used = [];
      unread = after.unread;
      came = h.came;
      cause =
          record { front = starved_front t body o i after ready h; rest = (asks t.msize body []).text; said = refl };
    })
halted_fault fault.ReadFault g t after body o i ready is h =
    let same : fault.ReadFault ≡ g = cc in
    subst (λ (x : CallFault). Halted (stop.Fault x) (asks t.msize body) t (ends o.before o.now i.before i.now) []) same
    (halted_stopped fault.ReadFault t after body o i ready (λ fits. (
      left_told t.msize body _ fits h.put,
      h.cause.0,
      h.cause.1,
    )) h)
halted_fault fault.Ended g t after body o i ready is h =
    let same : fault.Ended ≡ g = cc in
    subst (λ (x : CallFault). Halted (stop.Fault x) (asks t.msize body) t (ends o.before o.now i.before i.now) []) same
    (halted_stopped fault.Ended t after body o i ready (λ fits. (
      left_told t.msize body _ fits h.put,
      h.cause.0,
      h.cause.1,
    )) h)
halted_fault fault.Torn g t after body o i ready is h =
    let same : fault.Torn ≡ g = cc in
    subst (λ (x : CallFault). Halted (stop.Fault x) (asks t.msize body) t (ends o.before o.now i.before i.now) []) same
    (halted_stopped fault.Torn t after body o i ready (λ fits. (
      left_told t.msize body _ fits h.put,
      left_short t.msize body after.unread _ fits h.cause.1 h.put,
      h.cause.0,
      h.cause.1,
      h.cause.2,
    )) h)
halted_fault (fault.Wire f) g t after body o i ready is h =
    let same : fault.Wire f ≡ g = cc in
    subst (λ (x : CallFault). Halted (stop.Fault x) (asks t.msize body) t (ends o.before o.now i.before i.now) []) same
    (halted_stopped (fault.Wire f) t after body o i ready (λ fits. faulty_told (fault.Wire f) t.msize body after.unread
    _ fits h.put (wire_got f (cut_of after.unread) body after.unread h.cause)) h)
halted_fault (fault.Unasked n) g t after body o i ready is h =
    let same : fault.Unasked n ≡ g = cc in
    subst (λ (x : CallFault). Halted (stop.Fault x) (asks t.msize body) t (ends o.before o.now i.before i.now) []) same
    (halted_stopped (fault.Unasked n) t after body o i ready (λ fits. faulty_told (fault.Unasked n) t.msize body
    after.unread _ fits h.put (unasked_got n (cut_of after.unread) body after.unread h.cause)) h)
halted_fault (fault.Kind kind) g t after body o i ready is h =
    let same : fault.Kind kind ≡ g = cc in
    subst (λ (x : CallFault). Halted (stop.Fault x) (asks t.msize body) t (ends o.before o.now i.before i.now) []) same
    (halted_stopped (fault.Kind kind) t after body o i ready (λ fits. faulty_told (fault.Kind kind) t.msize body
    after.unread _ fits h.put (kind_got kind (cut_of after.unread) body after.unread h.cause)) h)

-- a message that is too long finds no memory for its answer
pub halted_large : (t after : Talk) (body : TBody) (o i : Seen) → IsRefused fault.Large t body o i after
    → Halted (stop.Fault fault.NoMemory) (asks t.msize body) t (ends o.before o.now i.before i.now) []
halted_large t after body o i h = record {
  used = [];
  unread = t.unread;
  came = subst (λ (x : Option (List ℕ)). Came i.before.bytes x t.unread t.unread) (sym h.unread)
      (came_none i.before.bytes t.unread);
  cause = record {
    front = subst (λ (x : Option (List ℕ)). PutsFront o.before.bytes (asks t.msize body []).sent x)
        (sym h.idle.silent) (front_none o.before.bytes (asks t.msize body []).sent);
    rest = (asks t.msize body []).text;
    said = refl;
  };
}

-- ---- which fault it was

pub was_remote : (f : CallFault) (text : List ℕ) → sorted_as f ≡ sorted.Text text → f ≡ fault.Remote text
was_remote (fault.Remote t) text e = let same : t ≡ text = cc in ap fault.Remote same
was_remote fault.Large text e = absurd cc
was_remote fault.Tags text e = absurd cc
was_remote fault.Closed text e = absurd cc
was_remote fault.WriteFault text e = absurd cc
was_remote fault.ReadFault text e = absurd cc
was_remote fault.Ended text e = absurd cc
was_remote fault.Torn text e = absurd cc
was_remote (fault.Wire f) text e = absurd cc
was_remote (fault.Unasked n) text e = absurd cc
was_remote (fault.Kind kind) text e = absurd cc
was_remote fault.NoMemory text e = absurd cc

pub was_large : (f : CallFault) → sorted_as f ≡ sorted.TooLarge → f ≡ fault.Large
was_large (fault.Remote t) e = absurd cc
was_large fault.Large e = refl
was_large fault.Tags e = absurd cc
was_large fault.Closed e = absurd cc
was_large fault.WriteFault e = absurd cc
was_large fault.ReadFault e = absurd cc
was_large fault.Ended e = absurd cc
was_large fault.Torn e = absurd cc
was_large (fault.Wire f) e = absurd cc
was_large (fault.Unasked n) e = absurd cc
was_large (fault.Kind kind) e = absurd cc
was_large fault.NoMemory e = absurd cc

-- Each message gets the refusal whose condition holds, and no other.
use Rattle.std.proofs.Common.{◌≡◌, ℕ, ◌+◌, ◌&&◌, Bool, true, false, cond, List, Option, Some, None, refl, sym, ap, ◌∙◌}
use Rattle.std.proofs.Common.{arith}
use Rattle.ninep_types.specs.Spelling.{kind_t}
use Rattle.ninep_types.specs.declared.message.RBody.TheVariants as r
use Rattle.ninep_types.specs.declared.message.TBody.{TBody}
use Rattle.fid_table.specs.Tables.{Tables}
use Rattle.wait_queue.specs.declared.types.Asked.TheVariants.{Now, Waits}
use Rattle.wait_queue.specs.declared.types.Asker.{Asker}
use Rattle.wait_queue.specs.declared.types.Piece.{Piece}
use Rattle.acme_watch.specs.Watching.{WatchState, read_waits as watch_waits, piece_for as watch_piece}
use Rattle.acme_watch.specs.declared.types.WatchRead.{WatchRead}
use Rattle.event_book.specs.BookState.{BookState, is_living, read_waits, piece_for}
use Rattle.plumb_ports.specs.PortsState.{read_waits as port_waits, piece_for as port_piece}
use Rattle.core_fids.specs.Refusals.{refusal_text}
use Rattle.core_fids.specs.declared.effect.Answer.{Answer}
use Rattle.core_fids.specs.declared.effect.Answer.TheVariants.{Says, Reads, ReadsPort, ReadsWatch}
use Rattle.core_fids.specs.declared.refusal.Refusal.{Refusal}
use Rattle.core_fids.specs.declared.refusal.Refusal.TheVariants as refusal
use Rattle.core_events.specs.Asking.{said_to, reads_are_full}
use Rattle.core_events.specs.PortAsking.{said_unless, read_refusal}
use Rattle.core_watch.specs.Asking.{read_refusal as watch_refusal}
use Rattle.core_intents.specs.Intents.{is_refusal, or_refused, reaction_at, server_at}
use Rattle.core_parts.specs.States.{Present}
use Rattle.acme_core.specs.Run.{present_after}
use Rattle.core_steps.specs.Stages.{asker_of}
use Rattle.core_steps.specs.WatchReads.{watch_asked}
use Rattle.core_laws.specs.Refusals.{item_refusal, opening_refusal, or_later, reaction_refusal, reply_of, scene_refusal}
use Rattle.core_laws.specs.Refusals.{IsSaidFor, RefusalsFollow}
use Rattle.core_laws.proofs.Demands.{IsExact, Owns, reaction_sound}

-- ---- reads

said_right : (asked : TBody) (b : BookState) (x : Asker) (waits full : Bool) → kind_t asked ≡ 116
    → IsSaidFor asked (cond (waits && full) (Some refusal.TooManyWaitingReads) None)
    (said_to full (cond waits Waits (Now (piece_for b x))))
said_right asked b x true true is = refl
said_right asked b x true false is = is
said_right asked b x false true is = ap (λ (n : ℕ). n + 1) (sym is)
said_right asked b x false false is = ap (λ (n : ℕ). n + 1) (sym is)

event_right : (asked : TBody) (t : Tables) (b : BookState) (x : Asker) (living : Bool) → kind_t asked ≡ 116
    → IsSaidFor asked (cond living (cond (read_waits b x && reads_are_full t x.conn) (Some refusal.TooManyWaitingReads)
    None) (Some refusal.WindowDeleted))
    (cond living (said_to (reads_are_full t x.conn) (cond (read_waits b x) Waits (Now (piece_for b x))))
    (Some (r.Error (refusal_text refusal.WindowDeleted))))
event_right asked t b x true is = said_right asked b x (read_waits b x) (reads_are_full t x.conn) is
event_right asked t b x false is = refl

unless_right : (asked : TBody) (piece : Piece) (o : Option Refusal) (waits : Bool) → kind_t asked ≡ 116
    → IsSaidFor asked o (said_unless o (cond waits Waits (Now piece)))
unless_right asked piece (Some y) waits is = refl
unless_right asked piece None true is = is
unless_right asked piece None false is = ap (λ (n : ℕ). n + 1) (sym is)

-- ---- all answers

stays : (o : Option Refusal) (text : List ℕ) → or_refused o (Says (r.Error text)) ≡ Says (r.Error text)
stays None text = refl
stays (Some x) text = refl

not_refused : (kind : ℕ) (a : Answer) → Owns kind a → is_refusal a ≡ false
not_refused kind (Says body) own = own.1
not_refused kind (Reads fid opening count) own = refl
not_refused kind (ReadsPort fid opening count) own = refl
not_refused kind (ReadsWatch fid opening count) own = refl

gives : (x : Refusal) (a : Answer) → is_refusal a ≡ false → or_refused (Some x) a ≡ Says (r.Error (refusal_text x))
gives x a other = ap (λ (b : Bool). cond b a (Says (r.Error (refusal_text x)))) other

-- an answer that no refusal of the scene takes the place of
own_right : (s : Present) (conn tag : ℕ) (asked : TBody) (a : Answer) → Owns (kind_t asked + 1) a
    → IsSaidFor asked (opening_refusal s conn tag a) (reply_of s conn tag a)
own_right s conn tag asked (Says body) own = own.0
own_right s conn tag asked (Reads fid opening count) own =
    let x : Asker = asker_of conn tag opening count in
    let asks : kind_t asked + 1 ≡ 117 = own in
    event_right asked s.tables s.scene.book x (is_living s.scene.book opening) (omega (arith, asks))
own_right s conn tag asked (ReadsPort fid opening count) own =
    let x : Asker = asker_of conn tag opening count in
    let asks : kind_t asked + 1 ≡ 117 = own in
    unless_right asked (port_piece s.scene.ports x) (read_refusal s.tables s.scene.ports x) (port_waits s.scene.ports x)
    (omega (arith, asks))
own_right s conn tag asked (ReadsWatch fid opening count) own =
    let x : WatchRead = watch_asked conn tag opening count in
    let w : WatchState = s.scene.watch in
    let asks : kind_t asked + 1 ≡ 117 = own in
    unless_right asked (watch_piece w x) (watch_refusal s.tables w x) (watch_waits w.log w.jobs x)
    (omega (arith, asks))

-- by the refusals of the reaction, of the item that it names, and of what else it asks of the scene
by_refusals : (s : Present) (conn tag : ℕ) (asked : TBody) (a : Answer) (one two three : Option Refusal)
    → IsExact asked one a
    → IsSaidFor asked (or_later one (or_later two (or_later three (opening_refusal s conn tag a))))
    (reply_of s conn tag (or_refused three (or_refused two a)))
by_refusals s conn tag asked a (Some x) two three exact =
    let same : or_refused three (or_refused two a) ≡ Says (r.Error (refusal_text x)) =
    ap (λ (y : Answer). or_refused three (or_refused two y)) exact ∙ ap (or_refused three) (stays two (refusal_text x))
    ∙ stays three (refusal_text x)
    in
    ap (reply_of s conn tag) same
by_refusals s conn tag asked a None (Some y) three exact =
    let same : or_refused three (or_refused (Some y) a) ≡ Says (r.Error (refusal_text y)) =
    ap (or_refused three) (gives y a (not_refused (kind_t asked + 1) a exact)) ∙ stays three (refusal_text y)
    in
    ap (reply_of s conn tag) same
by_refusals s conn tag asked a None None (Some z) exact = ap (reply_of s conn tag)
    (gives z a (not_refused (kind_t asked + 1) a exact))
by_refusals s conn tag asked a None None None exact = own_right s conn tag asked a exact

-- ---- every journal

pub refusals_exact : RefusalsFollow
refusals_exact journal before behind conn msg is =
    let s : Present = present_after before in
    by_refusals s conn msg.tag msg.body (reaction_at s conn msg).answer (reaction_refusal s conn msg.body)
    (item_refusal s conn msg) (scene_refusal s conn msg)
    (reaction_sound (server_at s conn) msg.body).1

-- What doing lines says of the program's status, its input and its output.
use Rattle.std.proofs.Common.{◌≡◌, ◌⊎◌, inl, inr, ℕ, ◌≤◌, Bool, true, false, List, [], ◌∷◌, ◌∙◌, Option, Some, None}
use Rattle.std.proofs.Common.{refl, sym, ap, subst, ⊎_elim, arith, codes}
use Rattle.std.specs.Prelude.{Result, Ok, Err, IfSome, is_some}
use Rattle.std.specs.Char.{encode_utf8}
use Rattle.std.specs.List.{AllByRecursion}
use Rattle.std.specs.Str.{is_utf8, chars}
use Rattle.am_base.specs.Outside.{HasRisen}
use Rattle.am_base.specs.Seen.{Given, HostSeen, Seen}
use Rattle.am_text.specs.Lines.{lines_of}
use Rattle.am_journal.specs.declared.ending.Ending.{Ending}
use Rattle.am_journal.specs.declared.event.Event.{Event}
use Rattle.ninep_types.specs.Fields.{is_text}
use Rattle.ninep_types.specs.Spelling.{IsString}
use Rattle.ninep_client.specs.Asking.{Talk, begun}
use Rattle.ninep_client.specs.declared.fault.CallFault.{CallFault}
use Rattle.ninep_client.specs.declared.fault.CallFault.TheVariants as fault
use Rattle.am_do.specs.declared.line.DoLine.{DoLine}
use Rattle.am_do.specs.Lines.{lines_from}
use Rattle.am_do.specs.declared.running.DoEnd.{DoEnd}
use Rattle.am_do.specs.declared.running.DoEnd.TheVariants as doing
use Rattle.am_do.specs.declared.running.Doing.{Doing}
use Rattle.am_do.specs.declared.stop.Stop.{Stop}
use Rattle.am_do.specs.declared.stop.Stop.TheVariants as stop
use Rattle.am_do.specs.Ends as talks
use Rattle.am_do.specs.Ends.{IsGivenAt, Peer, Refuses, Lined, Says, end_at, unlinked}
use Rattle.am_do.specs.Complete.{NothingFails}
use Rattle.am_do.specs.Talks.{Told, told_of}
use Rattle.am_do.specs.Went as talking
use Rattle.am_do.specs.Written.{Comes}
use Rattle.am_do.proofs.Completing.{says_complete}
use Rattle.am_slots.specs.Slots.{Outside}
use Rattle.am_server.specs.Replied.{GotAll}
use Rattle.am_server.specs.Sound.{EndsWell}
use Rattle.am_server.specs.declared.served.Served.{Served}
use Rattle.am_server.specs.declared.served.ServedEnd.{ServedEnd}
use Rattle.am_server.specs.declared.served.ServedEnd.TheVariants as end
use Rattle.am_words.specs.declared.asked.Tree.{Tree}
use Rattle.am_words.specs.declared.asked.Tree.TheVariants.{Acme, Plumb}
use Rattle.am_words.specs.Words.{tree_name}
use Rattle.acmefs.specs.Does.{AsksAt, Does, closed_by, do_status, ended_by, entry_at, entry_of, how_ended, listed}
use Rattle.acmefs.specs.Does.{peer_of, undialled}
use Rattle.acmefs.specs.declared.status.Status.{Status}
use Rattle.acmefs.specs.declared.status.Status.TheVariants as exit
use Rattle.acmefs.specs.Statuses.{number_of}

acme_text : is_text (codes "acme") ≡ true
unfolding is_text is_utf8 chars encode_utf8
acme_text = refl

plumb_text : is_text (codes "plumb") ≡ true
unfolding is_text is_utf8 chars encode_utf8
plumb_text = refl

-- a tree's name fits a message
pub name_fits : (tree : Tree) (name : List ℕ) → name ≡ tree_name tree → IsString name
name_fits Acme name is = subst IsString (sym is) (record { text = acme_text; len = omega arith })
name_fits Plumb name is = subst IsString (sym is) (record { text = plumb_text; len = omega arith })

-- ---- statuses

no_usage : (e : DoEnd) → do_status e ≡ exit.Usage → ⊥
no_usage doing.Done h = absurd (omega (arith, ap number_of h))
no_usage doing.Script h = absurd (omega (arith, ap number_of h))
no_usage doing.ReadFault h = absurd (omega (arith, ap number_of h))
no_usage doing.HostFault h = absurd (omega (arith, ap number_of h))
no_usage doing.Talk h = absurd (omega (arith, ap number_of h))
no_usage doing.NoMemory h = absurd (omega (arith, ap number_of h))
no_usage doing.WriteFault h = absurd (omega (arith, ap number_of h))

-- after lines that were done no end tells of the input
not_read : (why : Option Stop) (failed : Bool) → do_status (end_at why failed) ≡ exit.ReadFault → ⊥
not_read None false h = absurd (omega (arith, ap number_of h))
not_read None true h = absurd (omega (arith, ap number_of h))
not_read (Some stop.Refused) failed h = absurd (omega (arith, ap number_of h))
not_read (Some (stop.Fault fault.NoMemory)) failed h = absurd (omega (arith, ap number_of h))
not_read (Some (stop.Fault fault.Ended)) failed h = absurd (omega (arith, ap number_of h))
not_read (Some (stop.Fault fault.Torn)) failed h = absurd (omega (arith, ap number_of h))
not_read (Some (stop.Fault fault.ReadFault)) failed h = absurd (omega (arith, ap number_of h))
not_read (Some (stop.Fault fault.WriteFault)) failed h = absurd (omega (arith, ap number_of h))
not_read (Some (stop.Fault (fault.Wire f))) failed h = absurd (omega (arith, ap number_of h))
not_read (Some (stop.Fault (fault.Unasked n))) failed h = absurd (omega (arith, ap number_of h))
not_read (Some (stop.Fault (fault.Kind kind))) failed h = absurd (omega (arith, ap number_of h))
not_read (Some (stop.Fault fault.Closed)) failed h = absurd (omega (arith, ap number_of h))
not_read (Some (stop.Fault fault.Tags)) failed h = absurd (omega (arith, ap number_of h))
not_read (Some (stop.Fault fault.Large)) failed h = absurd (omega (arith, ap number_of h))
not_read (Some (stop.Fault (fault.Remote text))) failed h = absurd (omega (arith, ap number_of h))

-- the output has failed where an end tells so
put_badly : (why : Option Stop) (failed : Bool) (talk : List ℕ → Told (Unit {0})) (t : Talk) (e : talking.Ends)
    (o : Seen)
    → do_status (end_at why failed) ≡ exit.WriteFault → Comes why talk t e failed o
    → HasRisen o.before.faults o.now.faults
put_badly None false talk t e o h comes = absurd (omega (arith, ap number_of h))
put_badly None true talk t e o h comes = comes.wrote.holds.risen
put_badly (Some stop.Refused) failed talk t e o h comes = absurd (omega (arith, ap number_of h))
put_badly (Some (stop.Fault fault.NoMemory)) failed talk t e o h comes = absurd (omega (arith, ap number_of h))
put_badly (Some (stop.Fault fault.Ended)) failed talk t e o h comes = absurd (omega (arith, ap number_of h))
put_badly (Some (stop.Fault fault.Torn)) failed talk t e o h comes = absurd (omega (arith, ap number_of h))
put_badly (Some (stop.Fault fault.ReadFault)) failed talk t e o h comes = absurd (omega (arith, ap number_of h))
put_badly (Some (stop.Fault fault.WriteFault)) failed talk t e o h comes = absurd (omega (arith, ap number_of h))
put_badly (Some (stop.Fault (fault.Wire f))) failed talk t e o h comes = absurd (omega (arith, ap number_of h))
put_badly (Some (stop.Fault (fault.Unasked n))) failed talk t e o h comes = absurd (omega (arith, ap number_of h))
put_badly (Some (stop.Fault (fault.Kind kind))) failed talk t e o h comes = absurd (omega (arith, ap number_of h))
put_badly (Some (stop.Fault fault.Closed)) failed talk t e o h comes = absurd (omega (arith, ap number_of h))
put_badly (Some (stop.Fault fault.Tags)) failed talk t e o h comes = absurd (omega (arith, ap number_of h))
put_badly (Some (stop.Fault fault.Large)) failed talk t e o h comes = absurd (omega (arith, ap number_of h))
put_badly (Some (stop.Fault (fault.Remote text))) failed talk t e o h comes = absurd (omega (arith, ap number_of h))

-- where nothing outside fails and all is answered, all is done, or memory runs out
good_code : (e : DoEnd) (status : Status) → status ≡ do_status e → (e ≡ doing.Done) ⊎ (e ≡ doing.NoMemory)
    → (status ≡ exit.Done) ⊎ (status ≡ exit.NoMemory)
good_code e status is (inl done) = inl (is ∙ ap do_status done)
good_code e status is (inr none) = inr (is ∙ ap do_status none)

module _ {L S K : Type 0} where
  code_at : (e : DoEnd) (d : Doing L S K) → d ≡ unlinked e → do_status d.end ≡ do_status e
  code_at e d is = ap (λ (x : Doing L S K). do_status x.end) is

  refused_code : (line : ℕ) (word : List ℕ) (o : Seen) (d : Doing L S K) → Refuses line word o d
      → (do_status d.end ≡ exit.Refused) ⊎ (do_status d.end ≡ exit.NoMemory)
  refused_code line word o d (inl r) = inl (code_at doing.Script d r.nothing)
  refused_code line word o d (inr r) = inr (code_at doing.NoMemory d r.nothing)

  not_refused : (line : ℕ) (word : List ℕ) (o : Seen) (d : Doing L S K) (n : Status) → (exit.Refused ≡ n → ⊥)
      → (exit.NoMemory ≡ n → ⊥) → Refuses line word o d → do_status d.end ≡ n → ⊥
  not_refused line word o d n two six r h = ⊎_elim (λ (x : do_status d.end ≡ exit.Refused). two (sym x ∙ h))
      (λ (x : do_status d.end ≡ exit.NoMemory). six (sym x ∙ h)) (refused_code line word o d r)

  lined_read : (m : Peer L S K) (tree : List ℕ) (read : Result (List DoLine) ℕ) (i : Given) (o : Seen) (d : Doing L S K)
      → Lined m tree read i o d → do_status d.end ≡ exit.ReadFault → ⊥
  lined_read m tree (Err k) i o d r h = not_refused k (codes "line") o d exit.ReadFault
      (λ x. absurd (omega (arith, ap number_of x))) (λ x. absurd (omega (arith, ap number_of x))) r h
  lined_read m tree (Ok lines) i o d (inl x) h = absurd (omega (
    arith,
    ap number_of (code_at doing.HostFault d x.0.nothing),
    ap number_of h,
  ))
  lined_read m tree (Ok lines) i o d (inr (inl x)) h = absurd (omega (
    arith,
    ap number_of (ap (λ (y : Doing L S K). do_status y.end) x.none),
    ap number_of h,
  ))
  lined_read m tree (Ok lines) i o d (inr (inr x)) h = not_read d.stop x.failed (sym (ap do_status x.ended) ∙ h)

  said_read : (m : Peer L S K) (tree : List ℕ) (i : Given) (o : Seen) (d : Doing L S K) → Says m tree i o d
      → do_status d.end ≡ exit.ReadFault
      → HasRisen i.input.before.faults i.input.now.faults × (o.now.bytes ≡ o.before.bytes)
  said_read m tree i o d (inl s) h = (s.1, s.0.silent)
  said_read m tree i o d (inr (inl (long, r))) h = absurd (not_refused 0 (codes "input") o d exit.ReadFault
      (λ x. absurd (omega (arith, ap number_of x))) (λ x. absurd (omega (arith, ap number_of x))) r h)
  said_read m tree i o d (inr (inr (inl w))) h = absurd (omega (
    arith,
    ap number_of (code_at doing.NoMemory d w.nothing),
    ap number_of h,
  ))
  said_read m tree i o d (inr (inr (inr (bytes, told, fits, lined)))) h =
      absurd (lined_read m tree (lines_from 1 (lines_of bytes)) i o d lined h)

  lined_written : (m : Peer L S K) (tree : List ℕ) (read : Result (List DoLine) ℕ) (i : Given) (o : Seen)
      (d : Doing L S K) → Lined m tree read i o d → do_status d.end ≡ exit.WriteFault
      → HasRisen o.before.faults o.now.faults
  lined_written m tree (Err k) i o d r h = absurd (not_refused k (codes "line") o d exit.WriteFault
      (λ x. absurd (omega (arith, ap number_of x))) (λ x. absurd (omega (arith, ap number_of x))) r h)
  lined_written m tree (Ok lines) i o d (inl x) h = absurd (omega (
    arith,
    ap number_of (code_at doing.HostFault d x.0.nothing),
    ap number_of h,
  ))
  lined_written m tree (Ok lines) i o d (inr (inl x)) h = absurd (omega (
    arith,
    ap number_of (ap (λ (y : Doing L S K). do_status y.end) x.none),
    ap number_of h,
  ))
  lined_written m tree (Ok lines) i o d (inr (inr x)) h =
      put_badly d.stop x.failed (told_of tree lines) begun (talking.ends x.sink (m.sink x.writer) x.source
      (m.source x.reader)) o
      (sym (ap do_status x.ended) ∙ h) x.comes

  said_written : (m : Peer L S K) (tree : List ℕ) (i : Given) (o : Seen) (d : Doing L S K) → Says m tree i o d
      → do_status d.end ≡ exit.WriteFault → HasRisen o.before.faults o.now.faults
  said_written m tree i o d (inl s) h = absurd (omega (
    arith,
    ap number_of (code_at doing.ReadFault d s.0.nothing),
    ap number_of h,
  ))
  said_written m tree i o d (inr (inl (long, r))) h = absurd (not_refused 0 (codes "input") o d exit.WriteFault
      (λ x. absurd (omega (arith, ap number_of x))) (λ x. absurd (omega (arith, ap number_of x))) r h)
  said_written m tree i o d (inr (inr (inl w))) h = absurd (omega (
    arith,
    ap number_of (code_at doing.NoMemory d w.nothing),
    ap number_of h,
  ))
  said_written m tree i o d (inr (inr (inr (bytes, told, fits, lined)))) h = lined_written m tree
      (lines_from 1 (lines_of bytes)) i o d lined h

module _ {G L S K : Type 0} where
  complete_at : (status : Status) (m : Outside G L S K) (tree : List ℕ) (i : Given) (o : Seen) (d : Doing L S K)
      → status ≡ do_status d.end → Says (peer_of m) tree i o d
      → IfSome i.input.before.bytes (λ bytes. NothingFails (peer_of m) tree bytes i o d → (status ≡ exit.Done)
      ⊎ (status ≡ exit.NoMemory))
  complete_at status m tree i o d is says = by_case i.input.before.bytes refl
    where
      by_case : (t : Option (List ℕ)) → i.input.before.bytes ≡ t → IfSome t
          (λ bytes. NothingFails (peer_of m) tree bytes i o d → (status ≡ exit.Done) ⊎ (status ≡ exit.NoMemory))
      by_case None told = tt
      by_case (Some bytes) told = λ n. good_code d.end status is (says_complete (peer_of m) tree bytes i o d told says
          n)

  module _ (status : Status) (m : Outside G L S K) (tree : List ℕ) (i : Given) (o : Seen)
      (served : List (Served G L S K)) (does : Does status m tree i o served) where
    pub usage : status ≡ exit.Usage → ⊥
    usage h = no_usage does.doing.end (sym does.coded ∙ h)

    pub read_fault : status ≡ exit.ReadFault → HasRisen i.input.before.faults i.input.now.faults
        × (o.now.bytes ≡ o.before.bytes)
    read_fault h = said_read (peer_of m) tree i o does.doing does.says (sym does.coded ∙ h)

    pub write_cause : status ≡ exit.WriteFault → HasRisen o.before.faults o.now.faults
    write_cause h = said_written (peer_of m) tree i o does.doing does.says (sym does.coded ∙ h)

  -- what came of lines
  pub done : (status : Status) (m : Outside G L S K) (name tree : List ℕ) (i : Given) (o : Seen)
      (served : List (Served G L S K)) (d : Doing L S K) (entry : Option (Served G L S K))
      → status ≡ do_status d.end → served ≡ listed entry → entry ≡ entry_of d
      → name ≡ tree → Says (peer_of m) name i o d → Does status m tree i o served
  done status m name tree i o served d entry coded told is same says =
      let said : Says (peer_of m) tree i o d = subst (λ (n : List ℕ). Says (peer_of m) n i o d) same says in
      record {
        doing = d;
        coded = coded;
        told = told ∙ ap (λ (e : Option (Served G L S K)). listed e) is;
        says = said;
        complete = complete_at status m tree i o d coded said;
      }

  -- memory ran out before the words were read
  pub idle : (status : Status) (m : Outside G L S K) (tree : List ℕ) (i : Given) (o : Seen)
      (served : List (Served G L S K)) → o.now.bytes ≡ o.before.bytes → status ≡ exit.NoMemory → served ≡ []
      → Does status m tree i o served
  idle status m tree i o served silent is none = record {
    doing = unlinked doing.NoMemory;
    coded = is;
    told = none;
    says = idly;
    complete = complete_at status m tree i o (unlinked doing.NoMemory) is idly;
  }
    where
      idly : Says (peer_of m) tree i o (unlinked doing.NoMemory)
      idly = inr (inr (inl (record { nothing = refl; silent = silent })))

  -- ---- what the host was asked for

  pub none_asked : (m : Outside G L S K) (path : List ℕ) (h : HostSeen) (served : List (Served G L S K)) → served ≡ []
      → h.now ≡ h.before → AsksAt m path h served
  none_asked m path h served none same = subst (AsksAt m path h) (sym none) same

  -- no client is told of where there was no link, and the host has not failed
  pub none_linked : (d : Doing L S K) (entry : Option (Served G L S K)) (served : List (Served G L S K))
      → entry ≡ entry_of d → served ≡ listed entry → served ≡ []
      → (d.link ≡ None) × (d.end ≡ doing.HostFault → ⊥)
  none_linked d entry served is told none = at_ends d (sym (told ∙ ap (λ (e : Option (Served G L S K)). listed e) is)
      ∙ none)
    where
      unasked : (e : DoEnd) (link : Option L) (reader : Option S) (writer : Option K) (why : Option Stop)
          → listed {G = G} (entry_of (record { end = e; link = link; reader = reader; writer = writer; stop = why }))
          ≡ [] → (link ≡ None) × (e ≡ doing.HostFault → ⊥)
      unasked e None (Some reader) writer why none = absurd cc
      unasked e (Some link) None writer why none = absurd cc
      unasked e (Some link) (Some reader) writer why none = absurd cc
      unasked doing.HostFault None None writer why none = absurd cc
      unasked doing.Done None None writer why none = (refl, λ h. absurd cc)
      unasked doing.Script None None writer why none = (refl, λ h. absurd cc)
      unasked doing.ReadFault None None writer why none = (refl, λ h. absurd cc)
      unasked doing.Talk None None writer why none = (refl, λ h. absurd cc)
      unasked doing.NoMemory None None writer why none = (refl, λ h. absurd cc)
      unasked doing.WriteFault None None writer why none = (refl, λ h. absurd cc)

      at_ends : (d : Doing L S K) → listed {G = G} (entry_of d) ≡ [] → (d.link ≡ None) × (d.end ≡ doing.HostFault → ⊥)
      at_ends d none = unasked d.end d.link d.reader d.writer d.stop none

  -- the link of the client that is told of is the one that the host gave
  pub asked_at : (m : Outside G L S K) (path : List ℕ) (h : HostSeen) (d : Doing L S K)
      (entry : Option (Served G L S K)) (served : List (Served G L S K))
      → entry ≡ entry_of d → served ≡ listed entry → (served ≡ [] → h.now ≡ h.before)
      → IsGivenAt (peer_of m) path h d.link → AsksAt m path h served
  asked_at m path h d entry served is told untouched given =
      subst (AsksAt m path h) (sym same) (by_entry (how_ended d.end (is_some d.link) (is_some d.reader) d.stop)
      (λ e. untouched (same ∙ e)))
    where
      same : served ≡ listed (entry_of d)
      same = told ∙ ap (λ (e : Option (Served G L S K)). listed e) is

      by_entry : (e : Option ServedEnd) → (listed {G = G} (entry_at d e) ≡ [] → h.now ≡ h.before)
          → AsksAt m path h (listed (entry_at d e))
      by_entry None none = none refl
      by_entry (Some e) none = given

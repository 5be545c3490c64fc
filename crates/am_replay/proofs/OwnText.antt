-- The output got the journal's own text.
use Rattle.std.proofs.Common.{◌≡◌, ◌⊎◌, inl, inr, ℕ, ◌≤◌, List, length, take, Option, Some, None, sym, ap, subst, ◌∙◌}
use Rattle.std.proofs.Common.{arith}
use Rattle.std.proofs.lemmas.List.{length-append}
use Rattle.am_base.specs.Outside.{BytesTold, told_then, PutsFront}
use Rattle.am_journal.specs.declared.event.Journal.{Journal}
use Rattle.am_replay.specs.declared.replaying.End.{End}
use Rattle.am_replay.specs.declared.replaying.End.TheVariants as ends
use Rattle.am_replay.specs.Scripts as scripts
use Rattle.am_replay.specs.Scripts.{ended, text_of}
use Rattle.am_base.specs.Seen.{Seen}
use Rattle.am_base.specs.Written.{IsWhole, IsCut}
use Rattle.am_replay.specs.Written.{IsFront}
use Rattle.am_replay.specs.Ends.{Ran, Says}
use Rattle.am_replay.specs.Own.{told_text, PutsOwn}
use Rattle.std.proofs.Math.Seq.{take-length}
use Rattle.am_replay.proofs.Fronts.{part_whole, front_caught_up}
use Rattle.am_replay.proofs.Wrote.{take-within}

-- a script with these events
same_text : (script : scripts.Script) (journal : Journal) (refused : Option scripts.Refusal)
    → journal ≡ script.journal → script.refused ≡ refused
    → text_of script ≡ text_of (record { journal = journal; refused = refused })
same_text script journal refused e r =
    ap (λ (x : Journal). text_of (record { journal = x; refused = script.refused })) (sym e)
    ∙ ap (λ (x : Option scripts.Refusal). text_of (record { journal = journal; refused = x })) r

whole_front : (o : Seen) (text : List ℕ) → IsWhole o text → PutsFront o.before.bytes text o.now.bytes
whole_front o text w = (length text, omega arith, w ∙ ap (told_then o.before.bytes) (sym (take-length text)))

-- a front of a front
pub front_more : (held held_now : Option (List ℕ)) (text whole : List ℕ) → IsFront text whole
    → PutsFront held text held_now → PutsFront held whole held_now
front_more held held_now text whole f p =
    let short : p.0 ≤ length whole = omega (arith, p.1, length-append text f.0, ap length f.1) in
    (p.0, short, p.2 ∙ ap (told_then held) (sym (take-within text f.0 p.0 p.1) ∙ ap (take p.0) f.1))

pub put_front : (o : Seen) (text : List ℕ) → IsWhole o text ⊎ IsCut o text → PutsFront o.before.bytes text o.now.bytes
put_front o text (inl w) = whole_front o text w
put_front o text (inr c) = c.front

ran_own : (end : End) (script : scripts.Script) (o : Seen) (journal : Journal) → Ran end script o journal
    → PutsOwn end o journal
ran_own ends.Done script o journal (e, r, w) = subst (IsWhole o) (same_text script journal None e r) w
ran_own ends.Usage script o journal h = absurd h
ran_own ends.Script script o journal (e, r, w) =
    (r.0, subst (λ (x : List ℕ). IsWhole o x ⊎ IsCut o x) (same_text script journal (Some r.0) e r.1) w)
ran_own ends.ReadFault script o journal h = absurd h
ran_own ends.WriteFault script o journal (e, r, w) = subst (IsCut o) (same_text script journal None e r) w
ran_own ends.NoMemory script o journal h =
    let caught = front_caught_up journal h.put.0 (ended journal) (part_whole journal) h.put.1 in
    front_more o.before.bytes o.now.bytes h.put.0 (told_text journal) caught (put_front o h.put.0 h.put.3)

pub says_own : (end : End) (before now : BytesTold) (o : Seen) (journal : Journal) → Says end before now o journal
    → PutsOwn end o journal
says_own ends.Done before now o journal (bytes, t, r) = ran_own ends.Done (scripts.script_of bytes) o journal r
says_own ends.Usage before now o journal h = absurd h
says_own ends.Script before now o journal (bytes, t, r) = ran_own ends.Script (scripts.script_of bytes) o journal r
says_own ends.ReadFault before now o journal h = h.0
says_own ends.WriteFault before now o journal (bytes, t, r) = ran_own ends.WriteFault (scripts.script_of bytes) o
    journal r
says_own ends.NoMemory before now o journal (bytes, t, r) = ran_own ends.NoMemory (scripts.script_of bytes) o journal r

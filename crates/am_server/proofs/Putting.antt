-- Texts that are put a piece at a time.
use Rattle.std.proofs.Common.{◌≡◌, inl, inr, ℕ, zero, suc, ◌+◌, ◌<◌, ◌≤◌, List, [], ◌∷◌, ◌++◌, length, take, drop, get_or}
use Rattle.std.proofs.Common.{refl, sym, ap, subst, ◌∙◌, append_assoc, arith, if◌then◌else◌}
use Rattle.std.specs.Prelude.{Result, Ok, Err, OnOk, IfErr}
use Rattle.std.specs.List.{concat, flat_map}
use Rattle.std.proofs.lemmas.List.{append-nil, take_more, length-take-le, take-append-drop}
use Rattle.std.proofs.lemmas.List.Folds.{concat-append}
use Rattle.std.proofs.lemmas.Grind.{flat_map-append}
use Rattle.std.proofs.Math.Seq.{take-length}
use Rattle.am_base.specs.Outside.{BytesTold, HasRisen, PutsFront}
use Rattle.am_base.specs.Seen.{Seen, seen}
use Rattle.am_base.specs.Written.{IsWhole, IsCut}
use Rattle.am_base.proofs.Puts.{whole_then, cut_then, cut_longer}
use Rattle.am_journal.specs.declared.event.Event.{Event}
use Rattle.am_journal.specs.declared.event.Format.{Format}
use Rattle.am_journal.specs.declared.event.Journal.{Journal}
use Rattle.am_journal.specs.Journal.{ended_line, events_text, heading_text, journal_in, journal_text}
use Rattle.am_journal.specs.Report.{report_text}
use Rattle.am_journal.specs.declared.parts.Section.{Section}
use Rattle.am_journal.specs.declared.view.View.{View}
use Rattle.am_journal.specs.Sections.{report_parts, section_parts, sections}
use Rattle.am_journal.proofs.Joined.{flat_map-more}
use Rattle.am_journal.proofs.Parted.{sections_more}
use Rattle.acme_core.specs.Views.{view_of}
use Rattle.am_serve.specs.declared.scripting.ScriptEnd.{ScriptEnd}
use Rattle.am_slots.specs.declared.slot.Slot.{Slot}
use Rattle.am_server.specs.Putting.{StopsAt, StopsIn}
use Rattle.am_server.specs.Texts.{has_failed, host_line, host_text, refusal_text}
use Rattle.am_server.specs.declared.texts.Stop.{Stop}
use Rattle.am_server.specs.declared.texts.Stop.TheVariants as stop

-- a text and then nothing
whole_still : (a b c : BytesTold) (x : List ℕ) → IsWhole (seen a b) x → IsWhole (seen b c) [] → IsWhole (seen a c) x
whole_still a b c x p q = subst (λ (l : List ℕ). IsWhole (seen a c) l) (append-nil x) (whole_then a b c x [] p q)

-- one piece more was put
pub whole_more : (a b c : BytesTold) (front piece now : List ℕ) → now ≡ front ++ piece → IsWhole (seen a b) front
    → IsWhole (seen b c) piece → IsWhole (seen a c) now
whole_more a b c front piece now is p q = subst (λ (l : List ℕ). IsWhole (seen a c) l) (sym is)
    (whole_then a b c front piece p q)

-- one piece more stops
pub stops_more : (s : Stop) (a b c : BytesTold) (fronts : ℕ → List ℕ) (k : ℕ) (piece rest whole : List ℕ)
    → fronts (k + 1) ≡ fronts k ++ piece → whole ≡ fronts (k + 1) ++ rest
    → IsWhole (seen a b) (fronts k) → a.faults ≤ b.faults → StopsIn s (seen b c) piece (λ _. [])
    → StopsIn s (seen a c) whole fronts
stops_more stop.Failed a b c fronts k piece rest whole is all p le q =
    subst (λ (l : List ℕ). IsCut (seen a c) l) (sym (all ∙ ap (λ (l : List ℕ). l ++ rest) is))
    (cut_longer a c (fronts k ++ piece) rest (cut_then a b c (fronts k) piece p le q))
stops_more stop.NoMemory a b c fronts k piece rest whole is all p le q = (k, whole_still a b c (fronts k) p q.1)

-- ---- the journal

pub events_more : (events : List Event) (k : ℕ) (e : Event) → k < length events → e ≡ get_or events k e
    → events_text (take (k + 1) events) ≡ events_text (take k events) ++ ended_line e
events_more events k e lt is = flat_map-more ended_line events k e lt
    ∙ ap (λ (x : Event). events_text (take k events) ++ ended_line x) (sym is)

pub events_split : (events : List Event) (k : ℕ) → events_text events ≡ events_text (take k events)
    ++ events_text (drop k events)
events_split events k = ap (flat_map ended_line) (sym (take-append-drop k events))
    ∙ flat_map-append ended_line (take k events) (drop k events)

-- the events behind the heading, by what writing them answered
pub events_put : {T E : Type 0} (journal : Journal) (a b c : BytesTold) (r : Result T E)
    → IsWhole (seen a b) (heading_text journal.format) → OnOk r (IsWhole (seen b c) (events_text journal.events))
    → OnOk r (IsWhole (seen a c) (journal_text journal))
events_put journal a b c (Ok x) put p =
    whole_then a b c (heading_text journal.format) (events_text journal.events) put p
events_put journal a b c (Err e) put p = tt

stops_behind : (journal : Journal) (s : Stop) (a b c : BytesTold) → IsWhole (seen a b) (heading_text journal.format)
    → a.faults ≤ b.faults
    → StopsIn s (seen b c) (events_text journal.events) (λ n. events_text (take n journal.events))
    → StopsIn s (seen a c) (journal_text journal)
    (λ n. journal_text (journal_in journal.format (take n journal.events)))
stops_behind journal stop.Failed a b c put le p =
    cut_then a b c (heading_text journal.format) (events_text journal.events) put le p
stops_behind journal stop.NoMemory a b c put le p =
    (p.0, whole_then a b c (heading_text journal.format) (events_text (take p.0 journal.events)) put p.1)

pub events_stop : {T : Type 0} (journal : Journal) (a b c : BytesTold) (r : Result T Stop)
    → IsWhole (seen a b) (heading_text journal.format) → a.faults ≤ b.faults
    → IfErr r (λ s. StopsIn s (seen b c) (events_text journal.events) (λ n. events_text (take n journal.events)))
    → IfErr r (λ s. StopsIn s (seen a c) (journal_text journal)
    (λ n. journal_text (journal_in journal.format (take n journal.events))))
events_stop journal a b c (Ok x) put le p = tt
events_stop journal a b c (Err s) put le p = stops_behind journal s a b c put le p

-- the heading of a format, that of the journal
pub heading_put : (journal : Journal) (o : Seen) (text : List ℕ) (format : Format) → text ≡ heading_text format
    → format ≡ journal.format → IsWhole o text → IsWhole o (heading_text journal.format)
heading_put journal o text format is same p = subst (IsWhole o) (is ∙ ap heading_text same) p

-- it was cut
pub heading_cut : (journal : Journal) (o : Seen) (text : List ℕ) (format : Format) → text ≡ heading_text format
    → format ≡ journal.format → PutsFront o.before.bytes text o.now.bytes → HasRisen o.before.faults o.now.faults
    → IsCut o (journal_text journal)
heading_cut journal o text format is same front risen =
    cut_longer o.before o.now (heading_text journal.format) (events_text journal.events)
    (subst (IsCut o) (is ∙ ap heading_text same) (record { front = front; risen = risen }))

-- ---- the parts of a report

pub parts_split : (ps : List (List ℕ)) (k : ℕ) → concat ps ≡ concat (take k ps) ++ concat (drop k ps)
parts_split ps k = ap concat (sym (take-append-drop k ps)) ∙ concat-append (take k ps) (drop k ps)

-- a front of a list is one of a longer list
front_within : (ys zs : List (List ℕ)) (m : ℕ) → (n : ℕ) × (take n (ys ++ zs) ≡ take m ys)
front_within ys zs zero = (0, refl)
front_within [] zs (suc m) = (0, refl)
front_within (y ∷ ys) zs (suc m) = let r = front_within ys zs m in (suc r.0, ap (λ (l : List (List ℕ)). y ∷ l) r.1)

-- so is what stands before it with that front
front_behind : (xs zs : List (List ℕ)) (m : ℕ) → (n : ℕ) × (take n (xs ++ zs) ≡ xs ++ take m zs)
front_behind [] zs m = (m, refl)
front_behind (x ∷ xs) zs m = let r = front_behind xs zs m in (suc r.0, ap (λ (l : List (List ℕ)). x ∷ l) r.1)

front_joined : (xs ys zs : List (List ℕ)) (m : ℕ)
    → (n : ℕ) × (concat (take n (xs ++ (ys ++ zs))) ≡ concat xs ++ concat (take m ys))
front_joined xs ys zs m =
    let w = front_within ys zs m in
    let b = front_behind xs (ys ++ zs) w.0 in (
      b.0,
      ap concat (b.1 ∙ ap (λ (l : List (List ℕ)). xs ++ l) w.1) ∙ concat-append xs (take m ys),
    )

pub six_sections : (ss : List Section) → ss ≡ sections → length ss ≡ 6
unfolding sections
six_sections ss all = ap length all

module _ (v : View) where
  abbrev P : Section → List (List ℕ)
  P = section_parts v

  -- the parts of a section among those of all
  sections_split : (ss : List Section) (k : ℕ) (s : Section) → k < length ss → s ≡ get_or ss k s
      → flat_map P ss ≡ flat_map P (take k ss) ++ (P s ++ flat_map P (drop (suc k) ss))
  sections_split [] k s lt is = absurd (omega (arith, lt))
  sections_split (x ∷ ss) zero s lt is = ap (λ (y : Section). P y ++ flat_map P ss) (sym is)
  sections_split (x ∷ ss) (suc k) s lt is =
      ap (λ (l : List (List ℕ)). P x ++ l) (sections_split ss k s (omega (arith, lt)) is)
      ∙ sym (append_assoc (P x) (flat_map P (take k ss)) (P s ++ flat_map P (drop (suc k) ss)))

  -- one section more was put
  pub section_put : (a b c : BytesTold) (ss : List Section) (k : ℕ) (s : Section) → k < length ss
      → IsWhole (seen a b) (concat (flat_map P (take k ss))) → IsWhole (seen b c) (concat (P s)) → s ≡ get_or ss k s
      → IsWhole (seen a c) (concat (flat_map P (take (k + 1) ss)))
  section_put a b c ss k s lt put p is =
      whole_more a b c (concat (flat_map P (take k ss))) (concat (P s)) (concat (flat_map P (take (k + 1) ss)))
      (sections_more v ss k s lt ∙ ap (λ (x : Section). concat (flat_map P (take k ss)) ++ concat (P x)) (sym is)) put p

  sections_whole : (ss : List Section) (k : ℕ) (s : Section) → k < length ss → s ≡ get_or ss k s
      → concat (flat_map P ss) ≡ (concat (flat_map P (take k ss)) ++ concat (P s))
      ++ concat (flat_map P (drop (suc k) ss))
  sections_whole ss k s lt is =
      ap concat (sections_split ss k s lt is)
      ∙ concat-append (flat_map P (take k ss)) (P s ++ flat_map P (drop (suc k) ss))
      ∙ ap (λ (l : List ℕ). concat (flat_map P (take k ss)) ++ l) (concat-append (P s) (flat_map P (drop (suc k) ss)))
      ∙ sym (append_assoc (concat (flat_map P (take k ss))) (concat (P s)) (concat (flat_map P (drop (suc k) ss))))

  -- a section stops
  pub section_stops : (e : Stop) (a b c : BytesTold) (ss : List Section) (k : ℕ) (s : Section) → k < length ss
      → IsWhole (seen a b) (concat (flat_map P (take k ss))) → a.faults ≤ b.faults
      → StopsIn e (seen b c) (concat (P s)) (λ n. concat (take n (P s))) → s ≡ get_or ss k s
      → StopsIn e (seen a c) (concat (flat_map P ss)) (λ n. concat (take n (flat_map P ss)))
  section_stops stop.Failed a b c ss k s lt put le p is =
      subst (λ (l : List ℕ). IsCut (seen a c) l) (sym (sections_whole ss k s lt is))
      (cut_longer a c (concat (flat_map P (take k ss)) ++ concat (P s)) (concat (flat_map P (drop (suc k) ss)))
      (cut_then a b c (concat (flat_map P (take k ss))) (concat (P s)) put le p))
  section_stops stop.NoMemory a b c ss k s lt put le p is =
      let f = front_joined (flat_map P (take k ss)) (P s) (flat_map P (drop (suc k) ss)) p.0 in (
        f.0,
        subst (λ (l : List ℕ). IsWhole (seen a c) l)
            (sym (ap (λ (l : List (List ℕ)). concat (take f.0 l)) (sections_split ss k s lt is) ∙ f.1))
            (whole_then a b c (concat (flat_map P (take k ss))) (concat (take p.0 (P s))) put p.1),
      )

  -- all sections are the report
  pub report_put : (a c : BytesTold) (ss : List Section) (k : ℕ) → k ≡ length ss → ss ≡ sections
      → concat (report_parts v) ≡ report_text v → IsWhole (seen a c) (concat (flat_map P (take k ss)))
      → IsWhole (seen a c) (report_text v)
  report_put a c ss k end all law put =
      subst (λ (l : List ℕ). IsWhole (seen a c) l) law (subst (λ (l : List Section). IsWhole (seen a c)
      (concat (flat_map P l))) (ap (λ (n : ℕ). take n ss) end ∙ take-length ss ∙ all) put)

  pub report_stops : (e : Stop) (a c : BytesTold) (ss : List Section) → ss ≡ sections
      → concat (report_parts v) ≡ report_text v
      → StopsIn e (seen a c) (concat (flat_map P ss)) (λ n. concat (take n (flat_map P ss)))
      → StopsIn e (seen a c) (report_text v) (λ n. concat (take n (report_parts v)))
  report_stops e a c ss all law p =
      subst (λ (l : List ℕ). StopsIn e (seen a c) l (λ n. concat (take n (report_parts v)))) law
      (subst (λ (l : List Section). StopsIn e (seen a c) (concat (flat_map P l)) (λ n. concat (take n (flat_map P l))))
      all p)

module _ {G L S K : Type 0} where
  -- ---- the lines of slots

  abbrev pub host_one : ℕ → Slot G L S K → List ℕ
  host_one n s = if has_failed s then host_line n else []

  host-append : (n : ℕ) (xs ys : List (Slot G L S K)) → host_text n (xs ++ ys) ≡ host_text n xs
      ++ host_text (n + length xs) ys
  host-append n [] ys = let same : n ≡ n + 0 = omega arith in ap (λ (k : ℕ). host_text k ys) same
  host-append n (x ∷ xs) ys =
      let next : n + 1 + length xs ≡ n + length (x ∷ xs) = omega arith in
      ap (λ (l : List ℕ). host_one n x ++ l) (host-append (n + 1) xs ys)
      ∙ sym (append_assoc (host_one n x) (host_text (n + 1) xs) (host_text (n + 1 + length xs) ys))
      ∙ ap (λ (k : ℕ). (host_one n x ++ host_text (n + 1) xs) ++ host_text k ys) next

  pub hosts_more : (slots : List (Slot G L S K)) (k n : ℕ) (s : Slot G L S K) → n ≡ k → k < length slots
      → s ≡ get_or slots k s → host_text 0 (take (k + 1) slots) ≡ host_text 0 (take k slots) ++ host_one n s
  hosts_more slots k n s same lt is =
      let taken : 0 + length (take k slots) ≡ n = omega (arith, same, length-take-le k slots (omega (arith, lt))) in
      ap (λ (l : List (Slot G L S K)). host_text 0 l) (take_more slots k s lt)
      ∙ host-append 0 (take k slots) (get_or slots k s ∷ [])
      ∙ ap (λ (m : ℕ). host_text 0 (take k slots) ++ host_text m (get_or slots k s ∷ [])) taken
      ∙ ap (λ (x : Slot G L S K). host_text 0 (take k slots) ++ host_text n (x ∷ [])) (sym is)
      ∙ ap (λ (l : List ℕ). host_text 0 (take k slots) ++ l) (append-nil (host_one n s))

  pub hosts_split : (slots : List (Slot G L S K)) (k : ℕ) → host_text 0 slots ≡ host_text 0 (take k slots)
      ++ host_text (0 + length (take k slots)) (drop k slots)
  hosts_split slots k = ap (λ (l : List (Slot G L S K)). host_text 0 l) (sym (take-append-drop k slots))
      ∙ host-append 0 (take k slots) (drop k slots)

  -- ---- the whole text

  module _ (journal : Journal) (slots : List (Slot G L S K)) (end : ScriptEnd) (s : Stop) where
    abbrev J : List ℕ
    J = journal_text journal

    abbrev R : List ℕ
    R = report_text (view_of journal)

    abbrev H : List ℕ
    H = host_text 0 slots

    abbrev F : List ℕ
    F = refusal_text end

    pub stops_in_journal : (a b : BytesTold)
        → StopsIn s (seen a b) J (λ n. journal_text (journal_in journal.format (take n journal.events)))
        → StopsAt s (seen a b) journal slots end
    stops_in_journal a b = by_case s
      where
        by_case : (x : Stop)
            → StopsIn x (seen a b) J (λ n. journal_text (journal_in journal.format (take n journal.events)))
            → StopsAt x (seen a b) journal slots end
        by_case stop.Failed p = cut_longer a b (J ++ R ++ H) F (cut_longer a b (J ++ R) H (cut_longer a b J R p))
        by_case stop.NoMemory p = inl p

    pub stops_in_report : (a b c : BytesTold) → IsWhole (seen a b) J → a.faults ≤ b.faults
        → StopsIn s (seen b c) R (λ n. concat (take n (report_parts (view_of journal))))
        → StopsAt s (seen a c) journal slots end
    stops_in_report a b c put le = by_case s
      where
        by_case : (x : Stop) → StopsIn x (seen b c) R (λ n. concat (take n (report_parts (view_of journal))))
            → StopsAt x (seen a c) journal slots end
        by_case stop.Failed p = cut_longer a c (J ++ R ++ H) F (cut_longer a c (J ++ R) H (cut_then a b c J R put le p))
        by_case stop.NoMemory p =
            inr (inl (p.0, whole_then a b c J (concat (take p.0 (report_parts (view_of journal)))) put p.1))

    pub stops_in_hosts : (a b c : BytesTold) → IsWhole (seen a b) (J ++ R) → a.faults ≤ b.faults
        → StopsIn s (seen b c) H (λ n. host_text 0 (take n slots)) → StopsAt s (seen a c) journal slots end
    stops_in_hosts a b c put le = by_case s
      where
        by_case : (x : Stop) → StopsIn x (seen b c) H (λ n. host_text 0 (take n slots))
            → StopsAt x (seen a c) journal slots end
        by_case stop.Failed p = cut_longer a c (J ++ R ++ H) F (cut_then a b c (J ++ R) H put le p)
        by_case stop.NoMemory p =
            inr (inr (p.0, whole_then a b c (J ++ R) (host_text 0 (take p.0 slots)) put p.1))

    pub stops_in_refusal : (a b c : BytesTold) → IsWhole (seen a b) (J ++ R ++ H) → a.faults ≤ b.faults
        → StopsIn s (seen b c) F (λ _. []) → StopsAt s (seen a c) journal slots end
    stops_in_refusal a b c put le = by_case s
      where
        by_case : (x : Stop) → StopsIn x (seen b c) F (λ _. []) → StopsAt x (seen a c) journal slots end
        by_case stop.Failed p = cut_then a b c (J ++ R ++ H) F put le p
        by_case stop.NoMemory p =
            inr (inr (
              length slots,
              subst (λ (l : List (Slot G L S K)). IsWhole (seen a c) (J ++ R ++ host_text 0 l))
                  (sym (take-length slots)) (whole_still a b c (J ++ R ++ H) put p.1),
            ))

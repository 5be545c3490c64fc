-- A report in parts.
use Rattle.std.proofs.Common.{◌≡◌, ℕ, zero, suc, ◌+◌, ◌<◌, List, [], ◌∷◌, ◌++◌, map, length, take, get_or, refl}
use Rattle.std.proofs.Common.{ap, sym, ◌∙◌, append_assoc, arith}
use Rattle.std.specs.Prelude.{codes}
use Rattle.std.specs.List.{concat, flat_map}
use Rattle.std.proofs.lemmas.List.{append-nil, take_more, length-map}
use Rattle.std.proofs.lemmas.List.Folds.{concat-append}
use Rattle.std.proofs.lemmas.Grind.{flat_map-append, get_or_head, get_or_tail}
use Rattle.std.proofs.Math.Seq.{take-length}
use Rattle.am_text.specs.declared.job.Job.{Job}
use Rattle.am_text.specs.declared.job.JobLife.{JobLife}
use Rattle.am_journal.specs.declared.event.Format.{Format}
use Rattle.am_journal.specs.declared.parts.Section.{Section}
use Rattle.am_journal.specs.declared.parts.Section.TheVariants as section
use Rattle.am_journal.specs.declared.view.ConnView.{ConnView}
use Rattle.am_journal.specs.declared.view.WindowView.{WindowView}
use Rattle.am_journal.specs.declared.view.ItemView.{ItemView}
use Rattle.am_journal.specs.declared.view.View.{View}
use Rattle.am_journal.specs.Report.{title, count_line, conn_line, window_lines, item_line}
use Rattle.am_journal.specs.Report.{request_told, requests_from}
use Rattle.am_journal.specs.Report.{conns_part, windows_part, items_part, requests_part}
use Rattle.am_journal.specs.Sections.{sections, first_line, request_parts, section_parts, AreReports}

-- ---- how many they are

pub requests_counted : (format : Format) (ls : List JobLife) (k : ℕ) (js : List Job)
    → length (request_parts format ls k js) ≡ length js
requests_counted format ls k [] = refl
requests_counted format ls k (j ∷ js) = omega (arith, requests_counted format ls (k + 1) js)

pub ruleset counts = (length-map, requests_counted)

-- ---- each

get_or-map : {A : Type 0} (f : A → List ℕ) (xs : List A) (k : ℕ) (x : A) → k < length xs
    → get_or (map f xs) k [] ≡ f (get_or xs k x)
get_or-map f [] k x h = absurd (omega (arith, h))
get_or-map f (y ∷ xs) zero x h = refl
get_or-map f (y ∷ xs) (suc k) x h = get_or-map f xs k x (omega (arith, h))

pub conn_at : (format : Format) (vs : List ConnView) (k : ℕ) (v : ConnView) → k < length vs
    → get_or (map (conn_line format) vs) k [] ≡ conn_line format (get_or vs k v)
conn_at format vs k v h = get_or-map (conn_line format) vs k v h

pub window_at : (vs : List WindowView) (k : ℕ) (v : WindowView) → k < length vs
    → get_or (map window_lines vs) k [] ≡ window_lines (get_or vs k v)
window_at vs k v h = get_or-map window_lines vs k v h

pub item_at : (vs : List ItemView) (k : ℕ) (v : ItemView) → k < length vs
    → get_or (map item_line vs) k [] ≡ item_line (get_or vs k v)
item_at vs k v h = get_or-map item_line vs k v h

requests_at : (format : Format) (ls : List JobLife) (n : ℕ) (js : List Job) (k : ℕ) (j : Job) → k < length js
    → get_or (request_parts format ls n js) k [] ≡ request_told format ls (n + k) (get_or js k j)
requests_at format ls n [] k j h = absurd (omega (arith, h))
requests_at format ls n (x ∷ js) zero j h =
    let same : n ≡ n + 0 = omega arith in ap (λ (m : ℕ). request_told format ls m x) same
requests_at format ls n (x ∷ js) (suc k) j h =
    let next : n + 1 + k ≡ n + suc k = omega arith in
    requests_at format ls (n + 1) js k j (omega (arith, h))
    ∙ ap (λ (m : ℕ). request_told format ls m (get_or js k j)) next

pub request_at : (format : Format) (ls : List JobLife) (js : List Job) (k : ℕ) (j : Job) → k < length js
    → get_or (request_parts format ls 0 js) k [] ≡ request_told format ls k (get_or js k j)
request_at format ls js k j h =
    let same : 0 + k ≡ k = omega arith in
    requests_at format ls 0 js k j h ∙ ap (λ (m : ℕ). request_told format ls m (get_or js k j)) same

pub ruleset requested = (request_at, append_assoc)

pub ruleset parts = (get_or_head, get_or_tail)

-- ---- joined

concat-map : {A : Type 0} (f : A → List ℕ) (xs : List A) → concat (map f xs) ≡ flat_map f xs
concat-map f [] = refl
concat-map f (x ∷ xs) = ap (λ (l : List ℕ). f x ++ l) (concat-map f xs)

concat-requests : (format : Format) (ls : List JobLife) (k : ℕ) (js : List Job)
    → concat (request_parts format ls k js) ≡ requests_from format ls k js
concat-requests format ls k [] = refl
concat-requests format ls k (j ∷ js) =
    ap (λ (l : List ℕ). request_told format ls k j ++ l) (concat-requests format ls (k + 1) js)

-- a section, and what comes behind it
section-then : (first : List ℕ) (members rest : List (List ℕ)) (told after : List ℕ) → concat members ≡ told
    → concat rest ≡ after → first ++ concat (members ++ rest) ≡ (first ++ told) ++ after
section-then first members rest told after are rest_is =
    ap (λ (l : List ℕ). first ++ l) (concat-append members rest)
    ∙ ap (λ (l : List ℕ). first ++ (l ++ concat rest)) are
    ∙ ap (λ (l : List ℕ). first ++ (told ++ l)) rest_is
    ∙ sym (append_assoc first told after)

-- six texts
six : (t j c w i q : List ℕ) → t ++ j ++ c ++ w ++ i ++ q ≡ t ++ (j ++ (c ++ (w ++ (i ++ q))))
six t j c w i q =
    append_assoc (t ++ j ++ c ++ w) i q ∙ append_assoc (t ++ j ++ c) w (i ++ q)
    ∙ append_assoc (t ++ j) c (w ++ (i ++ q)) ∙ append_assoc t j (c ++ (w ++ (i ++ q)))

pub are_reports : AreReports
unfolding sections section_parts conns_part windows_part items_part requests_part
are_reports v =
    let q : concat (section_parts v section.Requests ++ []) ≡ requests_part v =
    section-then (first_line v section.Requests) (request_parts v.format v.lives 0 v.jobs) []
    (requests_from v.format v.lives 0 v.jobs) [] (concat-requests v.format v.lives 0 v.jobs) refl ∙ append-nil (requests_part v) in
    let i : concat (section_parts v section.Items ++ (section_parts v section.Requests ++ [])) ≡ items_part v
    ++ requests_part v =
    section-then (first_line v section.Items) (map item_line v.items) (section_parts v section.Requests ++ [])
    (flat_map item_line v.items) (requests_part v) (concat-map item_line v.items) q in
    let w : concat (section_parts v section.Windows ++ (section_parts v section.Items
    ++ (section_parts v section.Requests ++ []))) ≡ windows_part v ++ (items_part v ++ requests_part v) =
    section-then (first_line v section.Windows) (map window_lines v.windows) (section_parts v section.Items
    ++ (section_parts v section.Requests ++ []))
    (flat_map window_lines v.windows) (items_part v ++ requests_part v) (concat-map window_lines v.windows) i in
    let c : concat (section_parts v section.Connections ++ (section_parts v section.Windows
    ++ (section_parts v section.Items ++ (section_parts v section.Requests ++ []))))
    ≡ conns_part v ++ (windows_part v ++ (items_part v ++ requests_part v)) =
    section-then (first_line v section.Connections) (map (conn_line v.format) v.conns) (section_parts v section.Windows
    ++ (section_parts v section.Items ++ (section_parts v section.Requests ++ [])))
    (flat_map (conn_line v.format) v.conns) (windows_part v ++ (items_part v ++ requests_part v))
    (concat-map (conn_line v.format) v.conns) w in
    ap (λ (l : List ℕ). title ++ (count_line (codes "journal ") v.entries ++ l)) c
    ∙ sym (six title (count_line (codes "journal ") v.entries) (conns_part v) (windows_part v) (items_part v)
    (requests_part v))

-- ---- one after the other

pub parts_more : (ps : List (List ℕ)) (i : ℕ) → i < length ps
    → concat (take (i + 1) ps) ≡ concat (take i ps) ++ get_or ps i []
parts_more ps i h = ap concat (take_more ps i [] h) ∙ concat-append (take i ps) (get_or ps i [] ∷ [])
    ∙ ap (λ (l : List ℕ). concat (take i ps) ++ l) (append-nil (get_or ps i []))

pub sections_more : (v : View) (ss : List Section) (i : ℕ) (s : Section) → i < length ss
    → concat (flat_map (section_parts v) (take (i + 1) ss))
    ≡ concat (flat_map (section_parts v) (take i ss)) ++ concat (section_parts v (get_or ss i s))
sections_more v ss i s h =
    ap (λ (l : List Section). concat (flat_map (section_parts v) l)) (take_more ss i s h)
    ∙ ap concat (flat_map-append (section_parts v) (take i ss) (get_or ss i s ∷ []))
    ∙ concat-append (flat_map (section_parts v) (take i ss)) (flat_map (section_parts v) (get_or ss i s ∷ []))
    ∙ ap (λ (l : List (List ℕ)). concat (flat_map (section_parts v) (take i ss)) ++ concat l)
    (append-nil (section_parts v (get_or ss i s)))

pub ruleset joins = (parts_more, take-length, append_assoc, append-nil)

pub ruleset reports = (sections_more, take-length, are_reports)

-- Lines of actions and of files are read as they are spelled.
use Rattle.std.proofs.Common.{◌≡◌, ℕ, ◌<◌, ◌≤◌, true, false, cond, List, ◌∷◌, ◌++◌, length, Option, Some, None, refl}
use Rattle.std.proofs.Common.{ap, sym, subst, ◌∙◌, arith}
use Rattle.std.specs.Prelude.{codes}
use Rattle.std.specs.Char.{IsScalar}
use Rattle.std.specs.List.{AllByRecursion, flat_map}
use Rattle.am_text.specs.Lines.{escaped, first_field, after_field}
use Rattle.am_text.proofs.Unescaped.{reads_again}
use Rattle.am_journal.specs.declared.event.Event.{Event}
use Rattle.am_journal.specs.declared.event.Event.TheVariants as event
use Rattle.am_journal.specs.declared.event.Spot.{Spot}
use Rattle.am_journal.specs.Lawful.{IsSpotInRange}
use Rattle.am_journal.specs.Paths.{is_path_text}
use Rattle.am_text.specs.Front.{after_front}
use Rattle.am_journal.specs.Line.{text_of, spot_at, first_spot, after_spot, spot_words, exec_from, exec_at, exec_line}
use Rattle.am_journal.specs.Line.{arg_from, arg_at, arg_line, look_from, look_at, look_line, path_at, file_from}
use Rattle.am_journal.specs.Line.{file_at, file_line, dir_from, dir_at, dir_line, with_front, action_of}
use Rattle.am_journal.proofs.FieldWords.{first-is, after-is, split-is, front-is}
use Rattle.am_journal.proofs.WindowLaws.{text-is}
use Rattle.am_journal.proofs.PathLaws.{path_text-visible}
use Rattle.am_journal.proofs.SpotLaws.{first_spot-again, after_spot-again, spot-again, spot-is, first_spot-is}
use Rattle.am_journal.proofs.SpotLaws.{words_some}
use Rattle.am_journal.proofs.Found.{Found, event_is}

-- ---- what is spelled is read

arg_same : (a b : Option Spot) (at chord : Spot) → a ≡ Some at → b ≡ Some chord
    → arg_from a b ≡ Some (event.Arg at chord)
arg_same a b at chord e f = rw (e, f) refl

pub arg-again : (at chord : Spot) → (at.range.q0 ≤ at.range.q1) × (chord.range.q0 ≤ chord.range.q1) → IsSpotInRange at
    × IsSpotInRange chord → arg_at (spot_words at ++ 32 ∷ spot_words chord) ≡ Some (event.Arg at chord)
arg-again at chord ordered fits =
    let all = spot_words at ++ 32 ∷ spot_words chord in
    arg_same (first_spot all) (spot_at (after_spot all)) at chord (first_spot-again at (spot_words chord) ordered.0
    fits.0)
    (ap spot_at (after_spot-again at (spot_words chord) fits.0) ∙ spot-again chord ordered.1 fits.1)

path-again : (path : List ℕ) → is_path_text path ≡ true → path_at path ≡ Some path
path-again path h = ap (λ t. cond t (Some path) None) h

pub dir-again : (path : List ℕ) → is_path_text path ≡ true → dir_at path ≡ Some (event.Dir path)
dir-again path h = ap dir_from (path-again path h)

file_same : (a b : Option (List ℕ)) (path text : List ℕ) → a ≡ Some path → b ≡ Some text
    → file_from a b ≡ Some (event.File path text)
file_same a b path text e f = rw (e, f) refl

pub file-again : (path text : List ℕ) → is_path_text path ≡ true → AllByRecursion IsScalar text
    → file_at (path ++ 32 ∷ 58 ∷ flat_map escaped text) ≡ Some (event.File path text)
file-again path text h scalars =
    let words = 58 ∷ flat_map escaped text in
    let all = path ++ 32 ∷ words in
    let seen = path_text-visible path h in
    file_same (path_at (first_field all)) (text_of (after_field all)) path text
    (ap path_at (first-is path words seen) ∙ path-again path h)
    (ap text_of (after-is path words seen) ∙ reads_again text scalars)

-- ---- what is read is spelled so

record Of {A : Type 0} (made : A → Event) (o : Option A) (e : Event) : Type 0 where
  value : A
  value-is : o ≡ Some value
  is : made value ≡ e

exec_some : (o : Option Spot) (e : Event) → exec_from o ≡ Some e → Of event.Exec o e
exec_some None e h = absurd cc
exec_some (Some at) e h = record { value = at; value-is = refl; is = event_is (event.Exec at) e h }

exec_line-is : (at : Spot) → codes "exec " ++ spot_words at ≡ exec_line at
unfolding exec_line
exec_line-is at = refl

exec-is : (bs rest : List ℕ) (e : Event) → bs ≡ codes "exec " ++ rest → exec_at rest ≡ Some e → Found bs e
exec-is bs rest e front h =
    let o = exec_some (spot_at rest) e h in
    let s = spot-is rest o.value o.value-is in
    subst (Found bs) o.is
    (record {
      lawful = s.ordered;
      in_range = s.in_range;
      spelled = front ∙ ap (λ (l : List ℕ). codes "exec " ++ l)
          s.spelled ∙ exec_line-is o.value;
    })

look_some : (o : Option Spot) (e : Event) → look_from o ≡ Some e → Of event.Look o e
look_some None e h = absurd cc
look_some (Some at) e h = record { value = at; value-is = refl; is = event_is (event.Look at) e h }

look_line-is : (at : Spot) → codes "look " ++ spot_words at ≡ look_line at
unfolding look_line
look_line-is at = refl

look-is : (bs rest : List ℕ) (e : Event) → bs ≡ codes "look " ++ rest → look_at rest ≡ Some e → Found bs e
look-is bs rest e front h =
    let o = look_some (spot_at rest) e h in
    let s = spot-is rest o.value o.value-is in
    subst (Found bs) o.is
    (record {
      lawful = s.ordered;
      in_range = s.in_range;
      spelled = front ∙ ap (λ (l : List ℕ). codes "look " ++ l)
          s.spelled ∙ look_line-is o.value;
    })

record Args (a b : Option Spot) (e : Event) : Type 0 where
  at : Spot
  chord : Spot
  at-is : a ≡ Some at
  chord-is : b ≡ Some chord
  is : event.Arg at chord ≡ e

args_some : (a b : Option Spot) (e : Event) → arg_from a b ≡ Some e → Args a b e
args_some None b e h = absurd cc
args_some (Some at) None e h = absurd cc
args_some (Some at) (Some chord) e h = record {
  at = at;
  chord = chord;
  at-is = refl;
  chord-is = refl;
  is =
      event_is (event.Arg at chord) e h;
}

arg_line-is : (at chord : Spot) → codes "arg " ++ (spot_words at ++ 32 ∷ spot_words chord) ≡ arg_line at chord
unfolding arg_line
arg_line-is at chord = refl

arg-is : (bs rest : List ℕ) (e : Event) → bs ≡ codes "arg " ++ rest → arg_at rest ≡ Some e → Found bs e
arg-is bs rest e front h =
    let a = args_some (first_spot rest) (spot_at (after_spot rest)) e h in
    let chord = spot-is (after_spot rest) a.chord a.chord-is in
    let some : 0 < length (after_spot rest) = subst (λ (l : List ℕ). 0 < length l) (sym chord.spelled)
    (words_some a.chord) in
    let at = first_spot-is rest a.at a.at-is some in
    let words : rest ≡ spot_words a.at ++ 32 ∷ spot_words a.chord =
    at.spelled ∙ ap (λ (l : List ℕ). spot_words a.at ++ 32 ∷ l) chord.spelled in
    subst (Found bs) a.is
    (record {
      lawful = (at.ordered, chord.ordered);
      in_range = (at.in_range, chord.in_range);
      spelled = front ∙ ap (λ (l : List ℕ). codes "arg " ++ l) words ∙ arg_line-is a.at a.chord;
    })

path_is : (a b : List ℕ) → Some a ≡ Some b → a ≡ b
path_is a b e = cc

path-is : (bs path : List ℕ) → path_at bs ≡ Some path → (is_path_text path ≡ true) × (bs ≡ path)
path-is bs path =
    elim (is_path_text bs) as (λ t. is_path_text bs ≡ t → cond t (Some bs) None ≡ Some path → (is_path_text path ≡ true)
    × (bs ≡ path)) [
      | true ↦ λ t h. let same = path_is bs path h in (ap is_path_text (sym same) ∙ t, same)
      | false ↦ λ t h. absurd cc
    ] refl

record Files (a b : Option (List ℕ)) (e : Event) : Type 0 where
  path : List ℕ
  text : List ℕ
  path-is : a ≡ Some path
  text-is : b ≡ Some text
  is : event.File path text ≡ e

files_some : (a b : Option (List ℕ)) (e : Event) → file_from a b ≡ Some e → Files a b e
files_some None b e h = absurd cc
files_some (Some path) None e h = absurd cc
files_some (Some path) (Some text) e h = record {
  path = path;
  text = text;
  path-is = refl;
  text-is = refl;
  is =
      event_is (event.File path text) e h;
}

file_line-is : (path text : List ℕ) → codes "file " ++ (path ++ 32 ∷ 58 ∷ flat_map escaped text) ≡ file_line path text
unfolding file_line
file_line-is path text = refl

file-is : (bs rest : List ℕ) (e : Event) → bs ≡ codes "file " ++ rest → file_at rest ≡ Some e → Found bs e
file-is bs rest e front h =
    let f = files_some (path_at (first_field rest)) (text_of (after_field rest)) e h in
    let path = path-is (first_field rest) f.path f.path-is in
    let text = text-is (after_field rest) f.text f.text-is in
    let words = split-is rest f.path (58 ∷ flat_map escaped f.text) path.1 text.1 (omega arith) in
    subst (Found bs) f.is
    (record {
      lawful = (path.0, text.0);
      in_range = tt;
      spelled = front ∙ ap (λ (l : List ℕ). codes "file " ++ l) words
          ∙ file_line-is f.path f.text;
    })

dir_some : (o : Option (List ℕ)) (e : Event) → dir_from o ≡ Some e → Of event.Dir o e
dir_some None e h = absurd cc
dir_some (Some path) e h = record { value = path; value-is = refl; is = event_is (event.Dir path) e h }

dir_line-is : (path : List ℕ) → codes "dir " ++ path ≡ dir_line path
unfolding dir_line
dir_line-is path = refl

dir-is : (bs rest : List ℕ) (e : Event) → bs ≡ codes "dir " ++ rest → dir_at rest ≡ Some e → Found bs e
dir-is bs rest e front h =
    let o = dir_some (path_at rest) e h in
    let path = path-is rest o.value o.value-is in
    subst (Found bs) o.is
    (record {
      lawful = path.0;
      in_range = tt;
      spelled = front ∙ ap (λ (l : List ℕ). codes "dir " ++ l) path.1
          ∙ dir_line-is o.value;
    })

-- ---- lines

no_event : (e : Event) → None ≡ Some e → ⊥
no_event e h = cc

-- what the other fronts give of a line
abbrev after_file : List ℕ → Option Event
after_file bs = with_front (after_front (codes "dir ") bs) dir_at None

abbrev after_look : List ℕ → Option Event
after_look bs = with_front (after_front (codes "file ") bs) file_at (after_file bs)

abbrev after_arg : List ℕ → Option Event
after_arg bs = with_front (after_front (codes "look ") bs) look_at (after_look bs)

abbrev after_exec : List ℕ → Option Event
after_exec bs = with_front (after_front (codes "arg ") bs) arg_at (after_arg bs)

dir_case : (bs : List ℕ) (e : Event) (o : Option (List ℕ)) → after_front (codes "dir ") bs ≡ o → with_front o dir_at
    None ≡ Some e → Found bs e
dir_case bs e None given h = absurd (no_event e h)
dir_case bs e (Some rest) given h = dir-is bs rest e (front-is (codes "dir ") bs rest given) h

file_case : (bs : List ℕ) (e : Event) (o : Option (List ℕ)) → after_front (codes "file ") bs ≡ o → with_front o file_at
    (after_file bs) ≡ Some e → Found bs e
file_case bs e None given h = dir_case bs e (after_front (codes "dir ") bs) refl h
file_case bs e (Some rest) given h = file-is bs rest e (front-is (codes "file ") bs rest given) h

look_case : (bs : List ℕ) (e : Event) (o : Option (List ℕ)) → after_front (codes "look ") bs ≡ o → with_front o look_at
    (after_look bs) ≡ Some e → Found bs e
look_case bs e None given h = file_case bs e (after_front (codes "file ") bs) refl h
look_case bs e (Some rest) given h = look-is bs rest e (front-is (codes "look ") bs rest given) h

arg_case : (bs : List ℕ) (e : Event) (o : Option (List ℕ)) → after_front (codes "arg ") bs ≡ o → with_front o arg_at
    (after_arg bs) ≡ Some e → Found bs e
arg_case bs e None given h = look_case bs e (after_front (codes "look ") bs) refl h
arg_case bs e (Some rest) given h = arg-is bs rest e (front-is (codes "arg ") bs rest given) h

exec_case : (bs : List ℕ) (e : Event) (o : Option (List ℕ)) → after_front (codes "exec ") bs ≡ o → with_front o exec_at
    (after_exec bs) ≡ Some e → Found bs e
exec_case bs e None given h = arg_case bs e (after_front (codes "arg ") bs) refl h
exec_case bs e (Some rest) given h = exec-is bs rest e (front-is (codes "exec ") bs rest given) h

pub action-is : (bs : List ℕ) (e : Event) → action_of bs ≡ Some e → Found bs e
unfolding action_of
action-is bs e h = exec_case bs e (after_front (codes "exec ") bs) refl h

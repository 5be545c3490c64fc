-- What a call does to the openings of `log`.
use Rattle.std.proofs.Common.{◌≡◌, ℕ, ◌+◌, ◌&&◌, true, false, cond, List, [], ◌∷◌, ◌++◌, map, Option, Some}
use Rattle.std.proofs.Common.{None, refl, ap, append-nil}
use Rattle.std.specs.List.{list_any}
use Rattle.wait_queue.specs.Reads.{is_on}
use Rattle.wait_queue.specs.WaitState.{WaitState, piece_of}
use Rattle.wait_queue.specs.declared.types.Asker.{Asker}
use Rattle.acme_watch.specs.Log.{is_reader, new_reader, reader_of, noted, after_log_read, without_reader}
use Rattle.acme_watch.specs.Reads.{same_file}
use Rattle.acme_watch.specs.Watching.{WatchState, has_opening, read_waits, piece_in, given_in, after_answer, next_of}
use Rattle.acme_watch.specs.Watching.{after_next, without_next}
use Rattle.acme_watch.specs.Calls.{Call, OpenLog, OpenJobs, Note, Put, Ask, Serve, Answer, Cancel, LeaveLog, LeaveJobs}
use Rattle.acme_watch.specs.Calls.{CanCall, after_call, answer_to, answers_of, bytes_to, lines_to}
use Rattle.acme_watch.specs.declared.types.WatchFile.{WatchFile}
use Rattle.acme_watch.specs.declared.types.WatchFile.TheVariants.{Log, Jobs}
use Rattle.acme_watch.specs.declared.types.WatchRead.{WatchRead}
use Rattle.acme_watch.proofs.ServeLemmas.{next-there}

pub data Move : Type 0 where
  Stays : Move
  Opens : ℕ → Move
  Notes : List ℕ → Move
  Reads : Asker → Move
  Leaves : ℕ → Move

abbrev pub moved : List WaitState → Move → List WaitState
moved ws Stays = ws
moved ws (Opens o) = ws ++ new_reader o ∷ []
moved ws (Notes line) = map (noted line) ws
moved ws (Reads r) = after_log_read ws r
moved ws (Leaves o) = without_reader ws o

abbrev pub count_moved : ℕ → Move → ℕ
count_moved n Stays = n
count_moved n (Opens o) = n + 1
count_moved n (Notes line) = n
count_moved n (Reads r) = n
count_moved n (Leaves o) = n

abbrev pub CanMove : List WaitState → ℕ → Move → Type 0
CanMove ws n Stays = Unit {0}
CanMove ws n (Opens o) = o ≡ n + 1
CanMove ws n (Notes line) = Unit {0}
CanMove ws n (Reads r) = list_any (is_reader r.opening) ws ≡ true
CanMove ws n (Leaves o) = Unit {0}

-- the bytes that an opening is given
abbrev pub given_of : List WaitState → Move → ℕ → List ℕ
given_of ws Stays x = []
given_of ws (Opens o) x = []
given_of ws (Notes line) x = []
given_of ws (Reads r) x = cond (is_on x r) (piece_of (reader_of ws r.opening) r).bytes []
given_of ws (Leaves o) x = []

-- the lines that are noted for it
abbrev pub noted_of : List WaitState → Move → ℕ → List (List ℕ)
noted_of ws Stays x = []
noted_of ws (Opens o) x = []
noted_of ws (Notes line) x = cond (list_any (is_reader x) ws) (line ∷ []) []
noted_of ws (Reads r) x = []
noted_of ws (Leaves o) x = []

pub record Moves (s t : WatchState) (bytes : ℕ → List ℕ) (lines : ℕ → List (List ℕ)) : Type 0 where
  pub move : Move
  pub can : CanMove s.log s.opened.log move
  pub log : t.log ≡ moved s.log move
  pub count : t.opened.log ≡ count_moved s.opened.log move
  pub given : (x : ℕ) → bytes x ≡ given_of s.log move x
  pub noted : (x : ℕ) → lines x ≡ noted_of s.log move x

stays-moves : (s t : WatchState) → t.log ≡ s.log → t.opened.log ≡ s.opened.log → Moves s t (λ _. []) (λ _. [])
stays-moves s t l n = record { move = Stays; can = tt; log = l; count = n; given = λ x. refl; noted = λ x. refl }

read-moves : (s u : WatchState) (file : WatchFile) (r : Asker) (at : ℕ) → u.log ≡ s.log → u.opened.log ≡ s.opened.log
    → has_opening s file r.opening ≡ true
    → Moves s (given_in u file r at) (λ x. cond (same_file Log file && is_on x r) (piece_in s file r).bytes [] ++ [])
    (λ _. [])
read-moves s u Log r at l n h = record {
  move = Reads r;
  can = h;
  log = ap (λ ws. after_log_read ws r) l;
  count = n;
  given = λ x. append-nil _;
  noted = λ x. refl;
}
read-moves s u Jobs r at l n h = stays-moves s (given_in u Jobs r at) l n

next-moves : (s : WatchState) (found : Option WatchRead) (at : ℕ) → next_of s ≡ found
    → Moves s (after_next found s at) (λ x. bytes_to Log x (answer_to found s)) (λ _. [])
next-moves s None at e = stays-moves s s refl refl
next-moves s (Some r) at e = read-moves s (without_next s) r.file r.asker at refl refl (next-there s r e)

pub call-moves : (s : WatchState) (c : Call) → CanCall s c
    → Moves s (after_call s c) (λ x. bytes_to Log x (answers_of s c))
    (λ x. lines_to x s c)
call-moves s (OpenLog o) a = record {
  move = Opens o;
  can = a;
  log = refl;
  count = refl;
  given = λ x. refl;
  noted = λ x. refl;
}
call-moves s (OpenJobs o) a = stays-moves s _ refl refl
call-moves s (Note line) a = record {
  move = Notes line;
  can = tt;
  log = refl;
  count = refl;
  given = λ x. refl;
  noted = λ x. refl;
}
call-moves s (Put job) a = stays-moves s _ refl refl
call-moves s (Ask r at) a =
    elim (read_waits s.log s.jobs r) as (λ b. Moves s (cond b (record s {
      reads = s.reads
          ++ r ∷ [];
    }) (after_answer s r at))
    (λ x. bytes_to Log x (cond b [] ((r, piece_in s r.file r.asker) ∷ []))) (λ _. [])) [
      | true ↦ stays-moves s _ refl refl
      | false ↦ read-moves s s r.file r.asker at refl refl a
    ]
call-moves s (Serve at) a = next-moves s (next_of s) at refl
call-moves s (Answer o bytes at) a = stays-moves s _ refl refl
call-moves s (Cancel conn tag) a = stays-moves s _ refl refl
call-moves s (LeaveLog o) a = record {
  move = Leaves o;
  can = tt;
  log = refl;
  count = refl;
  given = λ x. refl;
  noted = λ x. refl;
}
call-moves s (LeaveJobs o at) a = stays-moves s _ refl refl

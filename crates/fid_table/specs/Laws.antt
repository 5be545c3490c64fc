-- What holds of all sessions.
use Rattle.std.specs.Prelude.{◌≡◌, ◌≢◌, ℕ, [], filter, Option, Some, None}
use Rattle.fid_table.specs.Tables.{Tables, HasJoined, fids_of, fid_of, is_waiting_on, after_put, after_take}
use Rattle.fid_table.specs.Tables.{after_version}
use Rattle.fid_table.specs.declared.types.Fid.{Fid}

-- a fid that was put is found
abbrev pub FindsWhatWasPut : Type 0
FindsWhatWasPut =
    (t : Tables) (conn fid : ℕ) (value : Fid) → HasJoined t conn → fid_of (after_put t conn fid value) conn
    fid ≡ Some value

-- a fid that was taken isn't in use
abbrev pub ForgetsWhatWasTaken : Type 0
ForgetsWhatWasTaken = (t : Tables) (conn fid : ℕ) → fid_of (after_take t conn fid) conn fid ≡ None

-- another fid of the connection, and all fids of another connection, stay
pub record LeavesOtherFids : Type 0 where
  pub put_number : (t : Tables) (conn fid other : ℕ) (value : Fid) → other ≢ fid
      → fid_of (after_put t conn fid value) conn other ≡ fid_of t conn other
  pub put_conn : (t : Tables) (conn fid other : ℕ) (value : Fid) → other ≢ conn
      → fids_of (after_put t conn fid value) other ≡ fids_of t other
  pub take_number : (t : Tables) (conn fid other : ℕ) → other ≢ fid
      → fid_of (after_take t conn fid) conn other ≡ fid_of t conn other
  pub take_conn : (t : Tables) (conn fid other : ℕ) → other ≢ conn
      → fids_of (after_take t conn fid) other ≡ fids_of t other

-- a version leaves the connection no fid and no waiting read, and leaves those of another connection
pub record DropsAllFids : Type 0 where
  pub fids : (t : Tables) (conn : ℕ) (msize : Option ℕ) → fids_of (after_version t conn msize) conn ≡ []
  pub waiting : (t : Tables) (conn : ℕ) (msize : Option ℕ) → filter (is_waiting_on conn)
      (after_version t conn msize).waiting ≡ []
  pub other_fids : (t : Tables) (conn other : ℕ) (msize : Option ℕ) → other ≢ conn
      → fids_of (after_version t conn msize) other ≡ fids_of t other
  pub other_waiting : (t : Tables) (conn other : ℕ) (msize : Option ℕ) → other ≢ conn
      → filter (is_waiting_on other) (after_version t conn msize).waiting ≡ filter (is_waiting_on other) t.waiting

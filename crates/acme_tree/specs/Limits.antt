-- Limits of the windows, and where the paths of qids stand.
use Rattle.std.specs.Prelude.{ℕ, ◌^◌}

-- the most windows that are live
abbrev pub max_windows : ℕ
max_windows = 4096

-- the number that no window gets
abbrev pub never_given : ℕ
never_given = 4294967295

-- how far the paths of two windows with numbers side by side lie apart
abbrev pub window_paths : ℕ
window_paths = 256

-- the path of the first port
abbrev pub first_port_path : ℕ
first_port_path = 2 ^ 40

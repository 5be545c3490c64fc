-- The commands by which the words after the first are read.
use Rattle.std.specs.Prelude.{ℕ, true, List, [], ◌∷◌, Option, Some, None, codes, if◌then◌else◌, option_and_then}
use Rattle.clap.specs.Walk.{Rule, Text, first_of}
use Rattle.clap.specs.Simple.{App, matches_of, new_rule, new_shape}
use Rattle.clap.specs.Takes.{takes}
use Rattle.am_words.specs.Words.{rounds_of, path_and_clients}

-- a command whose words are arguments alone
abbrev pub of_arguments : Text → List Rule → App
of_arguments name rules = record {
  top = record (new_shape name) {
    rules = rules;
    no_binary_name = true;
    disable_help_flag = true;
    disable_version_flag = true;
  };
  subs = [];
}

-- an argument that the words must have
abbrev pub required : Text → Rule
required id = record (new_rule id) { required = true }

-- `N`
abbrev pub drill : App
drill = of_arguments (codes "drill") (required (codes "rounds") ∷ [])

-- `PATH --clients N`
abbrev pub serve : App
serve =
    of_arguments (codes "serve") (record (required (codes "clients")) { long = Some (codes "clients") }
    ∷ required (codes "path") ∷ [])

-- the value of an argument
abbrev pub value_in : App → Text → List Text → Option Text
value_in app id words = first_of id (matches_of app words)

-- how many rounds the command reads in words that it takes
unfoldable pub drill_reads : List Text → Option ℕ
drill_reads words =
    if takes drill words then option_and_then rounds_of (value_in drill (codes "rounds") words) else None

-- the path with the number of clients, of the two values
abbrev pub served_by : Option Text → Option Text → Option (Text × ℕ)
served_by (Some path) (Some number) = path_and_clients path number
served_by (Some path) None = None
served_by None number = None

-- the path and the number of clients that the command reads in words that it takes
unfoldable pub serve_reads : List Text → Option (Text × ℕ)
serve_reads words =
    if takes serve words then served_by (value_in serve (codes "path") words) (value_in serve (codes "clients") words)
    else None

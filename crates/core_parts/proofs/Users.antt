-- The users of connections, none of which attached, and the tables of the empty editor.
use Rattle.std.proofs.Common.{◌≡◌, ℕ, ◌+◌, List, [], ◌∷◌, ◌++◌, length, refl, sym, ap, ◌∙◌, length-append}
use Rattle.std.specs.Prelude.{replicate}
use Rattle.std.proofs.lemmas.List.{replicate-append-replicate}
use Rattle.am_text.specs.Twice.{Twice, both}
use Rattle.am_journal.specs.declared.event.Format.{Format}
use Rattle.am_journal.specs.Limits.{connection_count}
use Rattle.fid_table.specs.Tables.{Tables, nothing}
use Rattle.core_scene.specs.declared.scene.Scene.{Scene}
use Rattle.core_scene.specs.Scenes.{SceneState, kept_of, scene_in, no_scene}
use Rattle.core_outputs.specs.declared.reply.Reply.{Reply}
use Rattle.core_outputs.specs.Unsent.{Unsent, nothing_unsent}
use Rattle.core_parts.specs.declared.connection.Connection.{Connection}
use Rattle.core_parts.specs.declared.connection.Connection.TheVariants.{Undialed}
use Rattle.core_parts.specs.States.{Present, present, is_watched, start_of}

pub more_users : (us : List (List ℕ)) (u : List ℕ) → us ≡ replicate (length us) [] → u ≡ []
    → us ++ u ∷ [] ≡ replicate (length (us ++ u ∷ [])) []
more_users us u e h =
    let n : length (us ++ u ∷ []) ≡ length us + 1 = length-append us (u ∷ []) in
    ap (λ (x : List (List ℕ)). x ++ u ∷ []) e ∙ ap (λ (y : List ℕ). replicate (length us) [] ++ y ∷ []) h
    ∙ replicate-append-replicate (length us) 1 [] ∙ ap (λ (x : ℕ). replicate x []) (sym n)

same_present : (cs ds : List Connection) (ns ms : List (List ℕ)) (t u : Tables) (s r : SceneState) (us vs : List Unsent)
    (rs qs : List Reply) → cs ≡ ds → ns ≡ ms → t ≡ u → s ≡ r → us ≡ vs → rs ≡ qs
    → ◌≡◌ {A = Present} (record {
      entries = 0;
      connections = cs;
      users = ns;
      tables = t;
      scene = s;
      unsent = us;
      replies = rs;
    })
    (record { entries = 0; connections = ds; users = ms; tables = u; scene = r; unsent = vs; replies = qs })
same_present cs ds ns ms t u s r us vs rs qs a b c d e f = rw (a, b, c, d, e, f) refl

-- all that is made at first
pub begins : (format : Format) (cs : List Connection) (ns : List (List ℕ)) (t : Twice Tables) (s : Scene)
    (us : Twice (List Unsent)) (rs : List Reply)
    → cs ≡ replicate connection_count Undialed → ns ≡ replicate connection_count [] → t ≡ both (nothing format)
    → s ≡ scene_in (no_scene (is_watched format)) → us ≡ both (replicate connection_count nothing_unsent) → rs ≡ []
    → ◌≡◌ {A = Present} (record {
      entries = 0;
      connections = cs;
      users = ns;
      tables = t.kept;
      scene = kept_of s;
      unsent = us.kept;
      replies = rs;
    }) (present (start_of format))
begins format cs ns t s us rs a b c d e f =
    same_present cs (replicate connection_count Undialed) ns (replicate connection_count []) t.kept (nothing format)
    (kept_of s) (no_scene (is_watched format)) us.kept (replicate connection_count nothing_unsent) rs []
    a b (ap (λ (x : Twice Tables). x.kept) c) (ap kept_of d) (ap (λ (x : Twice (List Unsent)). x.kept) e) f

-- What the items of a message come from.
use Rattle.std.specs.Prelude.{ℕ, Bool, true, false, Option, Some, None, if◌then◌else◌}
use Rattle.ninep_types.specs.declared.message.TBody.{TBody}
use Rattle.ninep_types.specs.declared.message.TBody.TheVariants as t
use Rattle.acme_tree.specs.declared.node.Node.{Node}
use Rattle.acme_tree.specs.declared.node.Node.TheVariants.{File}
use Rattle.acme_tree.specs.declared.node.WinFile.TheVariants.{Body, Tag}
use Rattle.fid_table.specs.declared.types.Fid.{Fid}
use Rattle.fid_table.specs.Tables.{Tables, fid_of}
use Rattle.win_events.specs.declared.item.Origin.{Origin}
use Rattle.win_events.specs.declared.item.Origin.TheVariants.{E, F}

-- the files whose text is that of a window
abbrev pub is_text : Node → Bool
is_text (File w Body) = true
is_text (File w Tag) = true
is_text node = false

-- the origin of what is done through a fid
abbrev pub origin_at : Option Fid → Origin
origin_at None = F
origin_at (Some fid) = if is_text fid.node then E else F

-- writes to `body` and `tag` are of one origin, and all other files of another
abbrev pub message_origin : Tables → ℕ → TBody → Origin
message_origin tables conn (t.Write fid offset bytes) = origin_at (fid_of tables conn fid)
message_origin tables conn body = F

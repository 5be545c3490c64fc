-- The bytes of what is said to connections.
use Rattle.std.specs.Prelude.{List, map}
use Rattle.ninep_types.specs.Spelling.{spelling_r}
use Rattle.core_events.specs.declared.response.Response.{Response}
use Rattle.core_outputs.specs.declared.reply.Reply.{Reply}

-- the bytes of what is said to a connection
abbrev pub reply_of : Response → Reply
reply_of response = record { conn = response.conn; bytes = spelling_r response.message }

-- what is said, spelled
abbrev pub replies_of : List Response → List Reply
replies_of said = map reply_of said

-- How the definitions see an entry of the code's table of named replies.
use Rattle.std.specs.Prelude.{List, ℕ, find, Option, bytes_eq}
use Rattle.seq_objects.specs.declared.reply.NamedReply as code
use Rattle.seq_objects.specs.Replies.{NamedReply, named_replies}

-- An entry of the code's table of named replies, with its name as a list of bytes.
abbrev pub shown : code.NamedReply → NamedReply
shown reply = record { name = reply.name.now; word = reply.word }

-- The entry with the name `name` in the table of named replies.
unfoldable pub reply_named : List ℕ → Option NamedReply
reply_named name = find (λ reply. bytes_eq reply.name name) named_replies

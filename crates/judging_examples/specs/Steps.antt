-- Worked steps: an operation by its text, a list before and after, and the text of the reply.
use Rattle.std.specs.Prelude.{◌≡◌, ℕ, List}
use Rattle.seq_objects.specs.declared.kind.Kind.{Kind}
use Rattle.seq_objects.specs.Words.{operation_text}
use Rattle.seq_objects.specs.Replies.{reply_word}
use Rattle.seq_objects.specs.Objects.{kind_next}

-- The operation word `op` of a kind has the text `operation`, turns the list `before` into the list
-- `after`, and gets a reply whose text is `replied`.
pub record Makes (kind : Kind) (op : ℕ) (operation before after replied : List ℕ) : Type 0 where
  pub text : operation_text kind op ≡ operation
  pub list : (kind_next kind before op).0 ≡ after
  pub reply : reply_word (kind_next kind before op).1 ≡ replied

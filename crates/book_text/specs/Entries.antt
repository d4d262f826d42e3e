-- What the line of a call says, read by itself.
use Rattle.std.specs.Prelude.{◌≡◌, ◌≢◌, ℕ, ◌<◌, ◌^◌, Bool, true, false, IsTrue, List, [], ◌∷◌, ◌++◌, length, Option, Some, None}
use Rattle.book_base.specs.declared.call.Call.{Call}
use Rattle.book_base.specs.declared.call.Record.{Record}
use Rattle.book_base.specs.declared.fault.What.{What}
use Rattle.book_base.specs.declared.fault.What.TheVariants as what
use Rattle.seq_objects.specs.Replies.{reply_word}
use Rattle.text_fields.specs.declared.version.Version.{Version}
use Rattle.text_fields.specs.Counts.{AreNumbers}
use Rattle.text_fields.specs.Operations.{Operations}
use Rattle.book_text.specs.CallLines.{call_words, IsNoView}

-- an answer, or none, that the words after an operation may give in a text of `n` callers; `gap`
-- says whether an earlier call of the caller is unanswered
abbrev pub IsEntryAnswer : ℕ → Bool → Option Record → Type 0
IsEntryAnswer n gap None = Unit {0}
IsEntryAnswer n gap (Some answer) = (gap ≡ false) × (answer.reply < 2 ^ 64)
    × (length answer.view ≡ n) × AreNumbers answer.view

-- the words of a line say this operation and this answer
pub record IsEntry (version : Version) (operations : Operations) (n : ℕ) (gap : Bool) (call : Call)
    (words : List (List ℕ)) (op : ℕ) (answer : Option Record) : Type 0 where
  pub has : IsTrue (operations.has op)
  pub answered : IsEntryAnswer n gap answer
  pub text : words ≡ call_words version operations call op answer

-- the words begin with those of this operation
abbrev pub BeginWith : Operations → List (List ℕ) → ℕ → List (List ℕ) → Type 0
BeginWith operations words op suffix = IsTrue (operations.has op)
    × (words ≡ operations.words op ++ suffix)

-- the words begin with those of no operation
abbrev pub BeginWithNone : Operations → List (List ℕ) → Type 0
BeginWithNone operations words = (op : ℕ) (suffix : List (List ℕ)) → IsTrue (operations.has op)
    → words ≢ operations.words op ++ suffix

-- the test that the words after an operation fail, so that they give no answer
abbrev pub IsNoAnswer : Version → ℕ → Bool → List (List ℕ) → What → Type 0
IsNoAnswer version n gap words what.Gap = (words ≢ []) × (gap ≡ true)
IsNoAnswer version n gap words what.Reply = (word : List ℕ) × (suffix : List (List ℕ))
    × (gap ≡ false) × (words ≡ word ∷ suffix)
    × ((reply : ℕ) → reply < 2 ^ 64 → reply_word reply ≢ word)
IsNoAnswer version n gap words what.View = (reply : ℕ) × (suffix : List (List ℕ)) × (gap ≡ false)
    × (reply < 2 ^ 64) × (words ≡ reply_word reply ∷ suffix) × IsNoView version n suffix
IsNoAnswer version n gap words _ = ⊥

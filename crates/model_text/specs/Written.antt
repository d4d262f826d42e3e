-- The lines of a model's text, as they are written one after the other.
use Rattle.std.specs.Prelude.{◌≡◌, ℕ, List, [], ◌∷◌, ◌++◌, length, map, codes, decimal}
use Rattle.book_base.specs.declared.call.Call.{Call}
use Rattle.book_base.specs.Book.{Page}
use Rattle.text_fields.specs.declared.version.Version.TheVariants.{Second}
use Rattle.text_fields.specs.Head.{callers_words, calls_words}
use Rattle.book_text.specs.Fields.{spaced}
use Rattle.book_text.specs.Grammar.{line_of}
use Rattle.model_text.specs.declared.told_line.Subject.{Subject}
use Rattle.model_text.specs.declared.told_line.Subject.TheVariants.{Leaves, Step}
use Rattle.model_text.specs.ModelWords.{model_words, model_operations}
use Rattle.model_text.specs.ModelBookRules.{title_words, object_words}

-- the four lines of the head of a model's book
abbrev pub head_lines : List ℕ → List (List (List ℕ))
head_lines calls =
    title_words ∷ object_words ∷ callers_words (length calls) ∷ calls_words calls ∷ []

-- the line of a call of a model's book
abbrev pub call_line : List Page → Call → List (List ℕ)
call_line pages call = line_of Second model_operations pages call

-- the lines of some calls of a model's book
abbrev pub call_texts : List Page → List Call → List (List (List ℕ))
call_texts pages calls = map (call_line pages) calls

-- what a told line speaks of is written: its first word, and the others with a space before each
abbrev pub IsSubjectWritten : List ℕ → List ℕ → Subject → Type 0
IsSubjectWritten old new (Leaves op) = new ≡ old ++ (codes "leaves" ++ spaced (model_words op))
IsSubjectWritten old new (Step state op next) =
    new ≡ old ++ (decimal state ++ spaced (model_words op ++ decimal next ∷ []))

-- Told lines, which are written one after another after those of a book.
use Rattle.std.proofs.Common.{◌≡◌, ℕ, ◌+◌, ◌<◌, ◌≤◌, List, [], ◌∷◌, ◌++◌, length, map, take, get_or, decimal, sym, ap, subst, ◌∙◌, append_assoc}
use Rattle.std.specs.Prelude.{codes}
use Rattle.std.specs.List.{AllByRecursion}
use Rattle.std.proofs.lemmas.List.{map-append, take_more, take_all}
use Rattle.list_laws.proofs.Elements.{AllByRecursion-append}
use Rattle.seq_objects.specs.Replies.{reply_word}
use Rattle.text_fields.specs.Lines.{line_text, text_of}
use Rattle.book_text.specs.Fields.{spaced}
use Rattle.book_text.specs.Grammar.{end_words}
use Rattle.book_text.proofs.Texts.{one_more}
use Rattle.book_text.proofs.WrittenLines.{first_word, more_word, more_words, line_ends}
use Rattle.model_text.specs.declared.told_line.Subject.{Subject}
use Rattle.model_text.specs.declared.told_line.Subject.TheVariants.{Leaves, Step}
use Rattle.model_text.specs.declared.told_line.ToldLine.{ToldLine}
use Rattle.model_text.specs.ModelWords.{model_words}
use Rattle.model_text.specs.Grammar.{steps_words, told_words, steps_lines, subject_words, IsLine}
use Rattle.model_text.specs.Written.{IsSubjectWritten}

-- what a line speaks of, its reply after a space, and the line feed are the line
pub line_written : (old m1 m2 new : List ℕ) (subject : Subject) (reply : ℕ)
    → IsSubjectWritten old m1 subject → m2 ≡ m1 ++ 32 ∷ reply_word reply
    → new ≡ m2 ++ 10 ∷ [] → new ≡ old ++ line_text (subject_words subject ++ reply_word reply ∷ [])
line_written old m1 m2 new (Leaves op) reply h k e =
    line_ends old m2 new (codes "leaves") (model_words op ++ reply_word reply ∷ [])
    (more_word old m1 m2 (codes "leaves") (model_words op) (reply_word reply) (record { text = h })
    k) e
line_written old m1 m2 new (Step state op next) reply h k e =
    let words : List (List ℕ) = model_words op ++ decimal next ∷ [] in
    line_ends old m2 new (decimal state) (words ++ reply_word reply ∷ [])
    (more_word old m1 m2 (decimal state) words (reply_word reply) (record { text = h }) k) e

-- a state, the words of an operation and the state to which it leads are what a line speaks of
pub step_written : (old m1 m2 new : List ℕ) (subject : Subject) (state op next : ℕ)
    → subject ≡ Step state op next → m1 ≡ old ++ decimal state
    → m2 ≡ m1 ++ spaced (model_words op) → new ≡ m2 ++ 32 ∷ decimal next
    → IsSubjectWritten old new subject
step_written old m1 m2 new subject state op next is h k e =
    subst (IsSubjectWritten old new) (sym is)
    (more_word old m2 new (decimal state) (model_words op) (decimal next)
    (more_words old m1 m2 (decimal state) [] (model_words op)
    (first_word old m1 (decimal state) h) k) e).text

module _ (prefix : List (List (List ℕ))) (told : List ToldLine) where
  -- the lines before the steps, their title, and these told lines
  abbrev pub lines_to : List ToldLine → List (List (List ℕ))
  lines_to lines = prefix ++ steps_words ∷ map told_words lines

  pub told_written : (old new : List ℕ) (i : ℕ) (d : ToldLine) → i < length told
      → old ≡ text_of (lines_to (take i told))
      → new ≡ old ++ line_text (told_words (get_or told i d))
      → new ≡ text_of (lines_to (take (i + 1) told))
  told_written old new i d lt h k =
      let line : ToldLine = get_or told i d in
      one_more [] old new (lines_to (take i told)) (told_words line) h k
      ∙ ap text_of
      (append_assoc prefix (steps_words ∷ map told_words (take i told)) (told_words line ∷ [])
      ∙ ap (λ (ls : List (List (List ℕ))). prefix ++ steps_words ∷ ls)
      (sym (map-append told_words (take i told) (line ∷ []))
      ∙ ap (map told_words) (sym (take_more told i d lt))))

  pub end_written : (old new : List ℕ) (i : ℕ) → length told ≤ i
      → old ≡ text_of (lines_to (take i told)) → new ≡ old ++ line_text end_words
      → new ≡ text_of (prefix ++ steps_lines told)
  end_written old new i le h k =
      one_more [] old new (lines_to (take i told)) end_words h k
      ∙ ap text_of
      (append_assoc prefix (steps_words ∷ map told_words (take i told)) (end_words ∷ [])
      ∙ ap (λ (lines : List ToldLine). prefix ++ steps_words
      ∷ (map told_words lines ++ end_words ∷ [])) (take_all i told le))

  pub lines_more : (i : ℕ) (d : ToldLine) → i < length told → AllByRecursion IsLine (take i told)
      → IsLine (get_or told i d) → AllByRecursion IsLine (take (i + 1) told)
  lines_more i d lt h k = subst (AllByRecursion IsLine) (sym (take_more told i d lt))
      (AllByRecursion-append IsLine (take i told) (get_or told i d ∷ []) h (k, tt))

  pub lines_all : (i : ℕ) → length told ≤ i → AllByRecursion IsLine (take i told)
      → AllByRecursion IsLine told
  lines_all i le h = subst (AllByRecursion IsLine) (take_all i told le) h

-- The bytes that are written of a refutation are read as this refutation.
use Rattle.std.proofs.Common.{◌≡◌, ℕ, ◌+◌, List, [], ◌∷◌, ◌++◌, length, map, Some, refl, sym, ap, subst, ◌∙◌, append_assoc}
use Rattle.std.specs.List.{AllByRecursion}
use Rattle.std.proofs.lemmas.List.{append-nil}
use Rattle.std.proofs.lemmas.List.Concat.{flat_map-cons, flat_map-append}
use Rattle.book_base.specs.Book.{Page}
use Rattle.seq_objects.specs.declared.kind.Kind.{Kind}
use Rattle.text_fields.specs.declared.version.Version.TheVariants.{Second}
use Rattle.text_fields.specs.Lines.{line_text, text_of}
use Rattle.text_fields.specs.Faults.{AllPass}
use Rattle.text_fields.specs.Head.{TitleDue}
use Rattle.text_fields.proofs.Sharp.{AllPass-append}
use Rattle.book_text.specs.BookRules.{BookDue, InHead, InCalls, AtEnd, BookPasses, IsBookText}
use Rattle.refutation_text.specs.Said.{StepSaid, EndingSaid, Impossible, Takes, Find, Closed, Pairs, Levels, LineSaid, StepLine, ImpossibleLine, TakesLine, FindLine, PlainLine, PairsLine, LevelsLine, ItemLine, MoveLine, TableLine, EndLine}
use Rattle.refutation_text.specs.Grammar.{refutation_words, MaySay, line_words}
use Rattle.refutation_text.specs.RefutationRules.{BodyDue, InSteps, EndDue, InEntries, InPairs, InLevels, BodyRead, after_line, BodyPasses, StepsDue, InBody, after_book, RefutationPasses, refutation_rules, nothing_read, IsRefutationText}
use Rattle.evidence_text.specs.Written.{ending_lines, body_lines, IsWritten}
use Rattle.evidence_text.proofs.WrittenLines.{both_written}

-- ---- the lines after the title

right : (due after : BodyDue) (line : LineSaid) → MaySay line → after_line due line ≡ Some after
    → BodyPasses due (line_words line) after
right due after line may leads = (line, record { may = may; text = refl }, leads)

-- the lines of entries pass, with the end
module _ {X : Type 0} (steps : List StepSaid) (inside : List X → BodyDue) (line : X → LineSaid)
    (ending : List X → EndingSaid)
    (goes : (done : List X) (x : X)
    → after_line (inside done) (line x) ≡ Some (inside (done ++ x ∷ [])))
    (ends : (done : List X)
    → after_line (inside done) EndLine ≡ Some (BodyRead steps (ending done))) where
  list_passes : (done xs : List X) → AllByRecursion MaySay (map line xs ++ EndLine ∷ [])
      → AllPass BodyPasses (inside done) (map line_words (map line xs ++ EndLine ∷ []))
      (BodyRead steps (ending (done ++ xs)))
  list_passes done [] may = (
    BodyRead steps (ending done),
    right (inside done) (BodyRead steps (ending done)) EndLine tt (ends done),
    ap (λ (all : List X). BodyRead steps (ending all)) (sym (append-nil done)),
  )
  list_passes done (x ∷ xs) may =
      let one : List X = done ++ x ∷ [] in (
        inside one,
        right (inside done) (inside one) (line x) may.0 (goes done x),
        subst (λ (all : List X). AllPass BodyPasses (inside one)
            (map line_words (map line xs ++ EndLine ∷ [])) (BodyRead steps (ending all)))
            (append_assoc done (x ∷ []) xs) (list_passes one xs may.1),
      )

-- an ending of one line passes, with the end
line_passes : (steps : List StepSaid) (ending : EndingSaid) (line : LineSaid) → MaySay line
    → after_line (InSteps steps) line ≡ Some (EndDue steps ending)
    → AllPass BodyPasses (InSteps steps) (map line_words (line ∷ EndLine ∷ []))
    (BodyRead steps ending)
line_passes steps ending line may leads = (
  EndDue steps ending,
  right (InSteps steps) (EndDue steps ending) line may leads,
  (
    BodyRead steps ending,
    right (EndDue steps ending) (BodyRead steps ending) EndLine tt refl,
    refl,
  ),
)

ending_passes : (steps : List StepSaid) (ending : EndingSaid)
    → AllByRecursion MaySay (ending_lines ending)
    → AllPass BodyPasses (InSteps steps) (map line_words (ending_lines ending))
    (BodyRead steps ending)
ending_passes steps (Impossible call) may =
    line_passes steps (Impossible call) (ImpossibleLine call) may.0 refl
ending_passes steps (Takes value moment) may =
    line_passes steps (Takes value moment) (TakesLine value moment) may.0 refl
ending_passes steps (Find call values) may =
    line_passes steps (Find call values) (FindLine call values) may.0 refl
ending_passes steps (Closed entries) may = (
  InEntries steps [],
  right (InSteps steps) (InEntries steps []) PlainLine tt refl,
  list_passes steps (InEntries steps) ItemLine Closed (λ done x. refl) (λ done. refl) [] entries
      may.1,
)
ending_passes steps (Pairs entries) may = (
  InPairs steps [],
  right (InSteps steps) (InPairs steps []) PairsLine tt refl,
  list_passes steps (InPairs steps) MoveLine Pairs (λ done x. refl) (λ done. refl) [] entries may.1,
)
ending_passes steps (Levels entries) may = (
  InLevels steps [],
  right (InSteps steps) (InLevels steps []) LevelsLine tt refl,
  list_passes steps (InLevels steps) TableLine Levels (λ done x. refl) (λ done. refl) [] entries
      may.1,
)

body_passes : (done steps : List StepSaid) (ending : EndingSaid)
    → AllByRecursion MaySay (body_lines steps ending)
    → AllPass BodyPasses (InSteps done) (map line_words (body_lines steps ending))
    (BodyRead (done ++ steps) ending)
body_passes done [] ending may =
    subst (λ (all : List StepSaid). AllPass BodyPasses (InSteps done)
    (map line_words (ending_lines ending)) (BodyRead all ending)) (sym (append-nil done))
    (ending_passes done ending may)
body_passes done (step ∷ steps) ending may =
    let one : List StepSaid = done ++ step ∷ [] in (
      InSteps one,
      right (InSteps done) (InSteps one) (StepLine step) may.0 refl,
      subst (λ (all : List StepSaid). AllPass BodyPasses (InSteps one)
          (map line_words (body_lines steps ending)) (BodyRead all ending))
          (append_assoc done (step ∷ []) steps) (body_passes one steps ending may.1),
    )

-- ---- all lines

-- the right lines of a book are right in the text of a refutation
book_right : (due after : BookDue) (words : List (List ℕ)) → BookPasses Second due words after
    → RefutationPasses (after_book due) words (after_book after)
book_right (InHead due) after words h = (after, h, refl)
book_right (InCalls kind book calls) after words h = (after, h, refl)
book_right (AtEnd kind book) after words h = absurd h

book_passes : (due after : BookDue) (lines : List (List (List ℕ)))
    → AllPass (BookPasses Second) due lines after
    → AllPass RefutationPasses (after_book due) lines (after_book after)
book_passes due after [] h = ap after_book h
book_passes due after (words ∷ lines) h =
    (after_book h.0, book_right due h.0 words h.1, book_passes h.0 after lines h.2)

module _ (kind : Kind) (book : List Page) where
  lifted : (due after : BodyDue) (lines : List (List (List ℕ)))
      → AllPass BodyPasses due lines after
      → AllPass RefutationPasses (InBody kind book due) lines (InBody kind book after)
  lifted due after [] h = ap (InBody kind book) h
  lifted due after (words ∷ lines) h =
      (InBody kind book h.0, (h.0, h.1, refl), lifted h.0 after lines h.2)

  module _ (steps : List StepSaid) (ending : EndingSaid) where
    -- the title of a refutation, and the lines after it
    abbrev lines_after_book : List (List (List ℕ))
    lines_after_book = refutation_words ∷ map line_words (body_lines steps ending)

    refutation_passes : AllByRecursion MaySay (body_lines steps ending)
        → AllPass RefutationPasses (StepsDue kind book) lines_after_book
        (InBody kind book (BodyRead steps ending))
    refutation_passes may = (
      InBody kind book (InSteps []),
      (refl, refl),
      lifted (InSteps []) (BodyRead steps ending) (map line_words (body_lines steps ending))
          (body_passes [] steps ending may),
    )

    -- these lines may follow the text of a book
    refutation_after : (bytes : List ℕ) → IsBookText Second bytes kind book
        → AllByRecursion MaySay (body_lines steps ending)
        → IsRefutationText (bytes ++ text_of lines_after_book) kind book steps ending
    refutation_after bytes read may =
        let ls : List (List (List ℕ)) = read.1.goes.lines in
        let back : List (List (List ℕ)) = lines_after_book in
        let same : bytes ≡ text_of ls = read.1.goes.bytes
        ∙ ap (λ (x : List ℕ). text_of ls ++ x) read.1.through ∙ append-nil (text_of ls) in
        let whole : bytes ++ text_of back ≡ text_of (ls ++ back) ++ []
        = ap (λ (x : List ℕ). x ++ text_of back) same ∙ sym (flat_map-append line_text ls back)
        ∙ sym (append-nil (text_of (ls ++ back))) in (
          record { bytes = []; number = 1 + length (ls ++ back) },
          record {
            goes = record {
              lines = ls ++ back;
              right = AllPass-append refutation_rules nothing_read (StepsDue kind book)
                  (InBody kind book (BodyRead steps ending)) ls back
                  (book_passes (InHead TitleDue) (AtEnd kind book) ls read.1.goes.right)
                  (refutation_passes may);
              bytes = whole;
              number = refl;
            };
            through = refl;
          },
        )

    -- what is written after a book is read as a refutation
    pub written_is_read : (booked titled stepped new : List ℕ) → IsBookText Second booked kind book
        → titled ≡ booked ++ line_text refutation_words
        → IsWritten titled (map StepLine steps) stepped
        → IsWritten stepped (ending_lines ending) new
        → IsRefutationText new kind book steps ending
    written_is_read booked titled stepped new read title h k =
        let body : IsWritten titled (body_lines steps ending) new =
        both_written titled stepped new (map StepLine steps) (ending_lines ending) h k in
        let lines : List (List (List ℕ)) = map line_words (body_lines steps ending) in
        let whole : new ≡ booked ++ text_of lines_after_book
        = body.text ∙ ap (λ (x : List ℕ). x ++ text_of lines) title
        ∙ append_assoc booked (line_text refutation_words) (text_of lines)
        ∙ ap (λ (x : List ℕ). booked ++ x) (sym (flat_map-cons line_text refutation_words lines)) in
        subst (λ (b : List ℕ). IsRefutationText b kind book steps ending) (sym whole)
        (refutation_after booked read body.may)

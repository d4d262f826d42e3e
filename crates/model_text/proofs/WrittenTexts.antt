-- The bytes that are written of a model are read as this model.
use Rattle.std.proofs.Common.{◌≡◌, ℕ, ◌+◌, List, [], ◌∷◌, ◌++◌, length, map, refl, sym, ap, subst, ◌∙◌, append_assoc, inl, inr}
use Rattle.std.specs.List.{AllByRecursion}
use Rattle.std.proofs.lemmas.List.{append-nil}
use Rattle.std.proofs.lemmas.List.Concat.{flat_map-append}
use Rattle.book_base.specs.Book.{Page}
use Rattle.text_fields.specs.Lines.{line_text, text_of}
use Rattle.text_fields.specs.Faults.{AllPass}
use Rattle.text_fields.proofs.Sharp.{AllPass-append}
use Rattle.book_text.specs.Grammar.{end_words}
use Rattle.model_text.specs.declared.told_line.ToldLine.{ToldLine}
use Rattle.model_text.specs.Told.{AllFollow}
use Rattle.model_text.specs.Grammar.{told_words, steps_lines, model_book_lines, IsLine, IsWrittenModel}
use Rattle.model_text.specs.ModelBookRules.{ModelBookDue, TitleDue, ObjectDue, CallersDue, CountsDue, InCalls, AtEnd, ModelBookPasses, IsModelBookText}
use Rattle.model_text.specs.ModelRules.{StepsDue, InSteps, AllRead, after_book, nothing_read, ModelPasses, model_rules, IsModelText}
use Rattle.model_text.proofs.WrittenBooks as books

-- the right lines of a model's book are right in a model's text
book_right : (due after : ModelBookDue) (words : List (List ℕ)) → ModelBookPasses due words after
    → ModelPasses (after_book due) words (after_book after)
book_right TitleDue after words h = (after, h, refl)
book_right ObjectDue after words h = (after, h, refl)
book_right CallersDue after words h = (after, h, refl)
book_right (CountsDue n) after words h = (after, h, refl)
book_right (InCalls pages calls) after words h = (after, h, refl)
book_right (AtEnd pages) after words h = absurd h

pub book_passes : (due after : ModelBookDue) (lines : List (List (List ℕ)))
    → AllPass ModelBookPasses due lines after
    → AllPass ModelPasses (after_book due) lines (after_book after)
book_passes due after [] h = ap after_book h
book_passes due after (words ∷ lines) h =
    (after_book h.0, book_right due h.0 words h.1, book_passes h.0 after lines h.2)

module _ (pages : List Page) where
  -- told lines and the end are right after the title of the steps
  pub told_pass : (done told : List ToldLine) → AllByRecursion IsLine told → AllFollow done told
      → AllPass ModelPasses (InSteps pages done) (map told_words told ++ end_words ∷ [])
      (AllRead pages (done ++ told))
  told_pass done [] h f =
      (AllRead pages done, inl (refl, refl), ap (AllRead pages) (sym (append-nil done)))
  told_pass done (line ∷ told) h f =
      let one : List ToldLine = done ++ line ∷ [] in (
        InSteps pages one,
        inr (
          line,
          record { may = h.0; keeps_promises = f.0.keeps_promises; text = refl },
          f.0.rises,
          refl,
        ),
        subst (λ (all : List ToldLine). AllPass ModelPasses (InSteps pages one)
            (map told_words told ++ end_words ∷ []) (AllRead pages all))
            (append_assoc done (line ∷ []) told) (told_pass one told h.1 f.1),
      )

  pub steps_pass : (told : List ToldLine) → AllByRecursion IsLine told → AllFollow [] told
      → AllPass ModelPasses (StepsDue pages) (steps_lines told) (AllRead pages told)
  steps_pass told h f = (InSteps pages [], (refl, refl), told_pass [] told h f)

-- the lines of the steps may follow the text of a model's book
pub steps_after : (bytes : List ℕ) (pages : List Page) (told : List ToldLine)
    → IsModelBookText bytes pages → AllByRecursion IsLine told → AllFollow [] told
    → IsModelText (bytes ++ text_of (steps_lines told)) pages told
steps_after bytes pages told read h f =
    let ls : List (List (List ℕ)) = read.1.goes.lines in
    let back : List (List (List ℕ)) = steps_lines told in
    let same : bytes ≡ text_of ls = read.1.goes.bytes
    ∙ ap (λ (x : List ℕ). text_of ls ++ x) read.1.through ∙ append-nil (text_of ls) in
    let whole : bytes ++ text_of back ≡ text_of (ls ++ back) ++ []
    = ap (λ (x : List ℕ). x ++ text_of back) same ∙ sym (flat_map-append line_text ls back)
    ∙ sym (append-nil (text_of (ls ++ back))) in (
      record { bytes = []; number = 1 + length (ls ++ back) },
      record {
        goes = record {
          lines = ls ++ back;
          right = AllPass-append model_rules nothing_read (StepsDue pages) (AllRead pages told) ls
              back (book_passes TitleDue (AtEnd pages) ls read.1.goes.right)
              (steps_pass pages told h f);
          bytes = whole;
          number = refl;
        };
        through = refl;
      },
    )

-- the bytes that are written of a model are read as this model
pub written_is_read : (bytes : List ℕ) (pages : List Page) (told : List ToldLine)
    → IsWrittenModel bytes pages told → IsModelText bytes pages told
written_is_read bytes pages told h =
    let prefix : List (List (List ℕ)) = model_book_lines pages in
    let read : IsModelBookText (text_of prefix) pages =
    books.written_is_read (text_of prefix) pages (record { writable = h.writable; text = refl }) in
    subst (λ (b : List ℕ). IsModelText b pages told)
    (sym (h.text ∙ flat_map-append line_text prefix (steps_lines told)))
    (steps_after (text_of prefix) pages told read h.lines h.follow)

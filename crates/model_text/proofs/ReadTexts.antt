-- A model that is read is the one of which the bytes are written.
use Rattle.std.proofs.Common.{◌≡◌, ℕ, ◌+◌, List, [], ◌∷◌, ◌++◌, length, map, refl, sym, ap, subst, ◌∙◌, append_assoc, inl, inr, Result, Ok, Err}
use Rattle.std.specs.Prelude.{IfOk}
use Rattle.std.specs.List.{AllByRecursion}
use Rattle.std.proofs.lemmas.List.{append-nil}
use Rattle.std.proofs.lemmas.List.Concat.{flat_map-append}
use Rattle.book_base.specs.Book.{Page}
use Rattle.book_base.specs.declared.fault.ReadFault.{ReadFault}
use Rattle.text_fields.specs.Lines.{line_text, text_of}
use Rattle.text_fields.specs.Faults.{AllPass}
use Rattle.book_text.specs.Grammar.{end_words}
use Rattle.model_text.specs.declared.model_text.ModelText.{ModelText}
use Rattle.model_text.specs.declared.told_line.ToldLine.{ToldLine}
use Rattle.model_text.specs.Told.{AllFollow}
use Rattle.model_text.specs.Grammar.{steps_words, told_words, steps_lines, model_book_lines, IsLine, IsWrittenBook, IsWrittenModel}
use Rattle.model_text.specs.ModelBookRules.{ModelBookDue, TitleDue, ObjectDue, CallersDue, CountsDue, InCalls, AtEnd, ModelBookPasses, IsModelBookText}
use Rattle.model_text.specs.ModelRules.{ModelDue, StepsDue, InSteps, AllRead, after_book, ModelPasses, IsModelText}
use Rattle.model_text.specs.Laws.{OneTextPerModel, ATextIsItsLines}
use Rattle.model_text.proofs.Readings.{IsFound}
use Rattle.model_text.proofs.WrittenTexts.{written_is_read}
use Rattle.model_text.proofs.WrittenBooks as books

module _ (pages : List Page) (told : List ToldLine) where
  -- these lines lead from a state to the end of the text
  abbrev Leads : ModelDue → List (List (List ℕ)) → Type 0
  Leads due lines = AllPass ModelPasses due lines (AllRead pages told)

  moved : (due next : ModelDue) (lines : List (List (List ℕ))) → due ≡ next → Leads due lines
      → Leads next lines
  moved due next lines e h = subst (λ (d : ModelDue). Leads d lines) e h

  -- ---- the steps

  -- told lines lead to the end of the text
  record IsTail (b : List Page) (done : List ToldLine) (lines : List (List (List ℕ))) : Type 0 where
    pub rest : List ToldLine
    pub books : b ≡ pages
    pub whole : done ++ rest ≡ told
    pub may : AllByRecursion IsLine rest
    pub follow : AllFollow done rest
    pub text : lines ≡ map told_words rest ++ end_words ∷ []

  ended : (b : List Page) (done : List ToldLine) (words : List (List ℕ))
      (lines : List (List (List ℕ))) → words ≡ end_words → Leads (AllRead b done) lines
      → IsTail b done (words ∷ lines)
  ended b done words [] e h = record {
    rest = [];
    books = cc;
    whole = append-nil done ∙ cc;
    may = tt;
    follow = tt;
    text = ap (λ (w : List (List ℕ)). w ∷ []) e;
  }
  ended b done words (other ∷ lines) e h = absurd h.1

  read_tail : (b : List Page) (done : List ToldLine) (lines : List (List (List ℕ)))
      → Leads (InSteps b done) lines → IsTail b done lines
  read_tail b done [] h = absurd cc
  read_tail b done (words ∷ lines) (next, inl right, more) =
      ended b done words lines right.0 (moved next (AllRead b done) lines right.1 more)
  read_tail b done (words ∷ lines) (next, inr right, more) =
      let line : ToldLine = right.0 in
      let tail = read_tail b (done ++ line ∷ []) lines
      (moved next (InSteps b (done ++ line ∷ [])) lines right.3 more) in
      record {
        rest = line ∷ tail.rest;
        books = tail.books;
        whole = sym (append_assoc done (line ∷ []) tail.rest) ∙ tail.whole;
        may = (right.1.may, tail.may);
        follow = (
          record { rises = right.2; keeps_promises = right.1.keeps_promises },
          tail.follow,
        );
        text = ap (λ (w : List (List ℕ)). w ∷ lines) right.1.text
            ∙ ap (λ (ls : List (List (List ℕ))). told_words line ∷ ls) tail.text;
      }

  -- the title and the told lines lead to the end of the text
  record AreStepsRead (b : List Page) (lines : List (List (List ℕ))) : Type 0 where
    pub books : b ≡ pages
    pub may : AllByRecursion IsLine told
    pub follow : AllFollow [] told
    pub text : lines ≡ steps_lines told

  read_steps : (b : List Page) (lines : List (List (List ℕ))) → Leads (StepsDue b) lines
      → AreStepsRead b lines
  read_steps b [] h = absurd cc
  read_steps b (words ∷ lines) h =
      let tail = read_tail b [] lines (moved h.0 (InSteps b []) lines h.1.1 h.2) in
      record {
        books = tail.books;
        may = subst (AllByRecursion IsLine) tail.whole tail.may;
        follow = subst (AllFollow []) tail.whole tail.follow;
        text = ap (λ (w : List (List ℕ)). w ∷ lines) h.1.0
            ∙ ap (λ (ls : List (List (List ℕ))). steps_words ∷ ls) tail.text
            ∙ ap (λ (ls : List ToldLine). steps_words ∷ (map told_words ls ++ end_words ∷ []))
            tail.whole;
      }

  -- ---- the book

  -- the lines are those of a model's book, up to its end, followed by others
  record IsSplit (due : ModelBookDue) (lines : List (List (List ℕ))) : Type 0 where
    pub b : List Page
    pub prefix : List (List (List ℕ))
    pub back : List (List (List ℕ))
    pub text : lines ≡ prefix ++ back
    pub prefix_right : AllPass ModelBookPasses due prefix (AtEnd b)
    pub back_right : Leads (StepsDue b) back

  -- one line more before the lines of a split
  with_line : (due next : ModelBookDue) (words : List (List ℕ)) (lines : List (List (List ℕ)))
      → ModelBookPasses due words next → IsSplit next lines → IsSplit due (words ∷ lines)
  with_line due next words lines right more = record {
    b = more.b;
    prefix = words ∷ more.prefix;
    back = more.back;
    text = ap (λ (ls : List (List (List ℕ))). words ∷ ls) more.text;
    prefix_right = (next, right, more.prefix_right);
    back_right = more.back_right;
  }

  split : (due : ModelBookDue) (lines : List (List (List ℕ))) → Leads (after_book due) lines
      → IsSplit due lines
  split (AtEnd b) lines h = record {
    b = b;
    prefix = [];
    back = lines;
    text = refl;
    prefix_right = refl;
    back_right = h;
  }
  split TitleDue [] h = absurd cc
  split ObjectDue [] h = absurd cc
  split CallersDue [] h = absurd cc
  split (CountsDue n) [] h = absurd cc
  split (InCalls b calls) [] h = absurd cc
  split TitleDue (words ∷ lines) h = with_line TitleDue h.1.0 words lines h.1.1
      (split h.1.0 lines (moved h.0 (after_book h.1.0) lines h.1.2 h.2))
  split ObjectDue (words ∷ lines) h = with_line ObjectDue h.1.0 words lines h.1.1
      (split h.1.0 lines (moved h.0 (after_book h.1.0) lines h.1.2 h.2))
  split CallersDue (words ∷ lines) h = with_line CallersDue h.1.0 words lines h.1.1
      (split h.1.0 lines (moved h.0 (after_book h.1.0) lines h.1.2 h.2))
  split (CountsDue n) (words ∷ lines) h = with_line (CountsDue n) h.1.0 words lines h.1.1
      (split h.1.0 lines (moved h.0 (after_book h.1.0) lines h.1.2 h.2))
  split (InCalls b calls) (words ∷ lines) h = with_line (InCalls b calls) h.1.0 words lines h.1.1
      (split h.1.0 lines (moved h.0 (after_book h.1.0) lines h.1.2 h.2))

-- a model that is read is the one of which the bytes are written
pub read_is_written : (bytes : List ℕ) (pages : List Page) (told : List ToldLine)
    → IsModelText bytes pages told → IsWrittenModel bytes pages told
read_is_written bytes pages told h =
    let lines = h.1.goes.lines in
    let parts = split pages told TitleDue lines h.1.goes.right in
    let tail = read_steps pages told parts.b parts.back parts.back_right in
    let prefix_text : IsModelBookText (text_of parts.prefix) parts.b = (
      record { bytes = []; number = 1 + length parts.prefix },
      record {
        goes = record {
          lines = parts.prefix;
          right = parts.prefix_right;
          bytes = sym (append-nil (text_of parts.prefix));
          number = refl;
        };
        through = refl;
      },
    ) in
    let written : IsWrittenBook (text_of parts.prefix) pages =
    subst (IsWrittenBook (text_of parts.prefix)) tail.books
    (books.read_is_written (text_of parts.prefix) parts.b prefix_text) in
    record {
      writable = written.writable;
      lines = tail.may;
      follow = tail.follow;
      text = h.1.goes.bytes ∙ ap (λ (x : List ℕ). text_of lines ++ x) h.1.through
          ∙ append-nil (text_of lines) ∙ ap text_of parts.text
          ∙ flat_map-append line_text parts.prefix parts.back
          ∙ ap (λ (x : List ℕ). x ++ text_of parts.back) written.text
          ∙ ap (λ (ls : List (List (List ℕ))). text_of (model_book_lines pages) ++ text_of ls)
          tail.text
          ∙ sym (flat_map-append line_text (model_book_lines pages) (steps_lines told));
    }

-- a model has one text at most
pub one_text : OneTextPerModel
one_text a b pages told h k =
    (read_is_written a pages told h).text ∙ sym (read_is_written b pages told k).text

pub a_text_is_its_lines : ATextIsItsLines
a_text_is_its_lines bytes pages told =
    (written_is_read bytes pages told, read_is_written bytes pages told)

-- each told line that was read may follow those before it
pub follow_read : (bytes : List ℕ) (result : Result ModelText ReadFault) → IsFound bytes result
    → IfOk result (λ read. AllFollow [] read.told.items)
follow_read bytes (Ok read) h = (read_is_written bytes read.book read.told.items h).follow
follow_read bytes (Err fault) h = tt

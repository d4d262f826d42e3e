-- The lines of a model's book's calls beside those of a book of another kind with the same calls.
use Rattle.std.proofs.Common.{◌≡◌, ℕ, ◌^◌, IsTrue, List, [], ◌∷◌, ◌++◌, map, Option, refl, sym, ap, subst, ◌∙◌}
use Rattle.std.specs.Prelude.{nat_lt, unwrap_or}
use Rattle.book_base.specs.declared.call.Call.{Call}
use Rattle.book_base.specs.declared.call.Record.{Record}
use Rattle.book_base.specs.Book.{Page, operation_of, record_of}
use Rattle.seq_objects.specs.declared.kind.Kind.{Kind}
use Rattle.text_fields.specs.declared.version.Version.TheVariants.{Second}
use Rattle.text_fields.specs.Operations.{Operations, kind_operations}
use Rattle.text_fields.specs.OperationLaws.{one_kind_operation}
use Rattle.text_fields.specs.Faults.{AllPass}
use Rattle.book_text.specs.CallLines.{BookSoFar, IsCallLine, place_words, answer_words, call_words}
use Rattle.book_text.specs.Grammar.{line_of, end_words}
use Rattle.book_text.specs.BookRules as books
use Rattle.book_text.specs.BookRules.{BookDue, BookPasses}
use Rattle.book_text.proofs.EntryTexts.{same_after, after_place}
use Rattle.model_text.specs.ModelWords.{model_words, model_operations}
use Rattle.model_text.specs.ModelBookRules.{ModelBookDue, InCalls, AtEnd, ModelBookPasses}

pub same_head : (v w : List (List ℕ)) (x y : List (List (List ℕ))) → v ∷ x ≡ w ∷ y
    → (v ≡ w) × (x ≡ y)
same_head v w x y e = (cc, cc)

-- lines lead from a state to the end of a model's book, or to the end of a book
abbrev pub ModelEnds : List Page → ModelBookDue → List (List (List ℕ)) → Type 0
ModelEnds book due lines = AllPass ModelBookPasses due lines (AtEnd book)

abbrev pub BookEnds : Kind → List Page → BookDue → List (List (List ℕ)) → Type 0
BookEnds kind book due lines = AllPass (BookPasses Second) due lines (books.AtEnd kind book)

module _ (kind : Kind) where
  abbrev pub others : Operations
  others = kind_operations Second kind

  -- two lines say the same of a call, one in a model's book and one in a book
  pub record IsTwin (call : Call) (words other : List (List ℕ)) : Type 0 where
    pub op : ℕ
    pub answer : Option Record
    pub has : IsTrue (nat_lt op (2 ^ 128))
    pub first : words ≡ call_words Second model_operations call op answer
    pub second : other ≡ call_words Second others call op answer

  -- the lines of these calls are twins, and the end follows
  abbrev pub AreTwins : List Call → List (List (List ℕ)) → List (List (List ℕ)) → Type 0
  AreTwins [] lines twins = (lines ≡ end_words ∷ []) × (twins ≡ end_words ∷ [])
  AreTwins (call ∷ calls) [] twins = ⊥
  AreTwins (call ∷ calls) (words ∷ lines) [] = ⊥
  AreTwins (call ∷ calls) (words ∷ lines) (other ∷ twins) = IsTwin call words other
      × AreTwins calls lines twins

  -- ---- each right line has a twin

  model_end : (book b : List Page) (lines : List (List (List ℕ))) → ModelEnds b (AtEnd book) lines
      → (lines ≡ []) × (book ≡ b)
  model_end book b [] h = (refl, cc)
  model_end book b (words ∷ lines) h = absurd h.1

  pub twins_of : (b book : List Page) (due : List Call) (lines : List (List (List ℕ)))
      → ModelEnds b (InCalls book due) lines
      → (twins : List (List (List ℕ))) × BookEnds kind b (books.InCalls kind book due) twins
      × AreTwins due lines twins
  twins_of b book due [] h = absurd cc
  twins_of b book [] (words ∷ lines) h =
      let end = model_end book b lines (subst (λ (d : ModelBookDue). ModelEnds b d lines) h.1.1 h.2) in (
        end_words ∷ [],
        (books.AtEnd kind book, (refl, refl), ap (books.AtEnd kind) end.1),
        (
          ap (λ (ls : List (List (List ℕ))). words ∷ ls) end.0
              ∙ ap (λ (w : List (List ℕ)). w ∷ []) h.1.0,
          refl,
        ),
      )
  twins_of b book (call ∷ calls) (words ∷ lines) h =
      let next : BookSoFar = h.1.0 in
      let read : IsCallLine Second model_operations book call words next.book = h.1.1.0 in
      let at : h.0 ≡ InCalls next.book calls = h.1.2 ∙ ap (InCalls next.book) h.1.1.1 in
      let rest =
      twins_of b next.book calls lines (subst (λ (d : ModelBookDue). ModelEnds b d lines) at h.2) in
      let other : List (List ℕ) = call_words Second others call read.op read.answer in
      let line : IsCallLine Second others book call other next.book
      = record {
        named = read.named;
        op = read.op;
        answer = read.answer;
        has = read.has;
        stands = read.stands;
        text = refl;
        book_is = read.book_is;
      } in (
        other ∷ rest.0,
        (
          books.InCalls kind next.book calls,
          (record { book = next.book; due = calls }, (line, refl), refl),
          rest.1,
        ),
        (
          record {
            op = read.op;
            answer = read.answer;
            has = read.has;
            first = read.text;
            second = refl;
          },
          rest.2,
        ),
      )

  book_end : (k : Kind) (book b : List Page) (lines : List (List (List ℕ)))
      → BookEnds k b (books.AtEnd kind book) lines → (lines ≡ []) × (book ≡ b)
  book_end k book b [] h = (refl, cc)
  book_end k book b (words ∷ lines) h = absurd h.1

  pub model_of : (k : Kind) (b book : List Page) (due : List Call) (lines : List (List (List ℕ)))
      → BookEnds k b (books.InCalls kind book due) lines
      → (twins : List (List (List ℕ))) × ModelEnds b (InCalls book due) twins
  model_of k b book due [] h = absurd cc
  model_of k b book [] (words ∷ lines) h =
      let end = book_end k book b lines (subst (λ (d : BookDue). BookEnds k b d lines) h.1.1 h.2) in
      (end_words ∷ [], (AtEnd book, (refl, refl), ap AtEnd end.1))
  model_of k b book (call ∷ calls) (words ∷ lines) h =
      let next : BookSoFar = h.1.0 in
      let read : IsCallLine Second others book call words next.book = h.1.1.0 in
      let at : h.0 ≡ books.InCalls kind next.book calls =
      h.1.2 ∙ ap (books.InCalls kind next.book) h.1.1.1 in
      let rest =
      model_of k b next.book calls lines (subst (λ (d : BookDue). BookEnds k b d lines) at h.2) in
      let other : List (List ℕ) = call_words Second model_operations call read.op read.answer in
      let line : IsCallLine Second model_operations book call other next.book
      = record {
        named = read.named;
        op = read.op;
        answer = read.answer;
        has = read.has;
        stands = read.stands;
        text = refl;
        book_is = read.book_is;
      } in (
        other ∷ rest.0,
        (
          InCalls next.book calls,
          (record { book = next.book; due = calls }, (line, refl), refl),
          rest.1,
        ),
      )

  -- ---- where the twins are a book's lines, the lines are the book's

  module _ (book : List Page) (has_word : (call : Call)
      → IsTrue (nat_lt (unwrap_or (operation_of book call) 0) (2 ^ 128))) where
    same_line : (call : Call) (words other : List (List ℕ)) → IsTwin call words other
        → other ≡ line_of Second others book call → words ≡ line_of Second model_operations book call
    same_line call words other twin e =
        let op : ℕ = unwrap_or (operation_of book call) 0 in
        let answer : Option Record = record_of book call in
        let tail = after_place call (others.words twin.op ++ answer_words Second twin.answer)
        (others.words op ++ answer_words Second answer) (sym twin.second ∙ e) in
        let same : twin.op ≡ op =
        one_kind_operation Second kind twin.op op (answer_words Second twin.answer)
        (answer_words Second answer) twin.has (has_word call) tail in
        let answers : answer_words Second twin.answer ≡ answer_words Second answer
        = same_after (others.words op) (answer_words Second twin.answer)
        (answer_words Second answer)
        (ap (λ (o : ℕ). others.words o ++ answer_words Second twin.answer) (sym same) ∙ tail) in
        twin.first ∙ ap (λ (o : ℕ). call_words Second model_operations call o twin.answer) same
        ∙ ap (λ (suffix : List (List ℕ)). place_words call ++ (model_words op ++ suffix)) answers

    pub lines_are : (due : List Call) (lines twins : List (List (List ℕ)))
        → AreTwins due lines twins → twins ≡ map (line_of Second others book) due ++ end_words ∷ []
        → lines ≡ map (line_of Second model_operations book) due ++ end_words ∷ []
    lines_are [] lines twins h e = h.0
    lines_are (call ∷ calls) [] twins h e = absurd h
    lines_are (call ∷ calls) (words ∷ lines) [] h e = absurd h
    lines_are (call ∷ calls) (words ∷ lines) (other ∷ twins) h e =
        let parts = same_head other (line_of Second others book call) twins
        (map (line_of Second others book) calls ++ end_words ∷ []) e in
        ap (λ (w : List (List ℕ)). w ∷ lines) (same_line call words other h.0 parts.0)
        ∙ ap (λ (ls : List (List (List ℕ))). line_of Second model_operations book call ∷ ls)
        (lines_are calls lines twins h.1 parts.1)

-- A model's book that is read is the one of which the bytes are written, and the other way round.
-- Both hold of books of kinds, and the calls of a model's book have lines in the text of such a book
-- too.
use Rattle.std.proofs.Common.{◌≡◌, ◌≢◌, ℕ, ◌+◌, ◌^◌, IsTrue, List, [], ◌∷◌, ◌++◌, length, map, decimal, Option, Some, None, refl, sym, ap, subst, ◌∙◌, arith, inl, inr}
use Rattle.std.specs.Prelude.{codes, unwrap_or, nat_lt}
use Rattle.std.specs.List.{AllByRecursion, join_with_byte}
use Rattle.std.proofs.lemmas.List.{append-nil, length-append, length-map}
use Rattle.list_laws.proofs.Elements.{AllByRecursion-append}
use Rattle.list_laws.proofs.Options.{cases_Option}
use Rattle.book_base.specs.declared.call.Call.{Call}
use Rattle.book_base.specs.declared.call.Record.{Record}
use Rattle.book_base.specs.Book.{Page, announced, operation_of, record_of, unanswered_book}
use Rattle.book_base.proofs.GrowthLemmas.{announced_at, below_calls}
use Rattle.seq_objects.specs.declared.kind.Kind.{Kind}
use Rattle.seq_objects.specs.declared.kind.Kind.TheVariants.{Counter}
use Rattle.seq_objects.specs.Replies.{reply_word}
use Rattle.seq_objects.proofs.Texts.{reply_word-IsWord}
use Rattle.text_fields.specs.declared.version.Version.TheVariants.{Second}
use Rattle.text_fields.specs.Lines.{line_text, text_of, IsSolid, AreSolid}
use Rattle.text_fields.specs.Counts.{AreAtMost}
use Rattle.text_fields.specs.Head as heads
use Rattle.text_fields.specs.Head.{AreCallers, AreCalls, callers_words, calls_words, head_lines}
use Rattle.text_fields.specs.Faults.{Rules, AllPass, AreSharp}
use Rattle.text_fields.specs.OperationLaws.{solid_kind_words}
use Rattle.text_fields.proofs.LineTexts.{text_of-cons}
use Rattle.text_fields.proofs.NumberTexts.{same_first, solid_word, solid_decimal}
use Rattle.text_fields.proofs.HeadTexts.{plain, same_numbers, numbers_at_most}
use Rattle.text_fields.proofs.Sharp.{same_line, AllPass-append}
use Rattle.book_text.specs.CallLines.{IsNamedCall, place_words, answer_words, all_calls}
use Rattle.book_text.specs.Grammar as books
use Rattle.book_text.specs.Grammar.{line_of, end_words, book_lines}
use Rattle.book_text.specs.BookRules as rules
use Rattle.book_text.specs.BookRules.{BookDue, BookPasses, book_rules, after_head, IsBookText}
use Rattle.book_text.proofs.SharpBooks.{book_sharp, solid_cut}
use Rattle.book_text.proofs.ReadTexts as reading
use Rattle.book_text.proofs.ReadTexts.{has_zero}
use Rattle.book_text.proofs.WrittenTexts as writing
use Rattle.book_text.proofs.WrittenTexts.{numbers_from_places, at_most_from_places}
use Rattle.model_text.specs.ModelWords.{model_operations}
use Rattle.model_text.specs.ModelBookRules.{ModelBookDue, TitleDue, ObjectDue, CallersDue, CountsDue, InCalls, AtEnd, title_words, object_words, ModelBookPasses, IsModelBookText}
use Rattle.model_text.specs.Grammar.{model_book_lines, IsWritable, IsWrittenBook}
use Rattle.model_text.proofs.NamedCalls.{all_named}
use Rattle.model_text.proofs.Twins.{same_head, ModelEnds, BookEnds, others, twins_of, model_of, lines_are}

-- ---- right lines are taken one by one

-- where the end isn't reached yet, there is a next line
record HasLine {Due : Type 0} (Passes : Due → List (List ℕ) → Due → Type 0) (end due : Due)
    (lines : List (List (List ℕ))) : Type 0 where
  pub words : List (List ℕ)
  pub rest : List (List (List ℕ))
  pub next : Due
  pub text : lines ≡ words ∷ rest
  pub right : Passes due words next
  pub leads : AllPass Passes next rest end

has_line : {Due : Type 0} (Passes : Due → List (List ℕ) → Due → Type 0) (end due : Due)
    (lines : List (List (List ℕ))) → due ≢ end → AllPass Passes due lines end
    → HasLine Passes end due lines
has_line Passes end due [] unlike h = absurd (unlike h)
has_line Passes end due (words ∷ rest) unlike h =
    record { words = words; rest = rest; next = h.0; text = refl; right = h.1; leads = h.2 }

four_lines : (lines a b c d : List (List (List ℕ))) (p q r s t u v w : List (List ℕ))
    → lines ≡ p ∷ a → a ≡ q ∷ b → b ≡ r ∷ c → c ≡ s ∷ d → p ≡ t → q ≡ u → r ≡ v → s ≡ w
    → lines ≡ t ∷ u ∷ v ∷ w ∷ d
four_lines lines a b c d p q r s t u v w h0 h1 h2 h3 e f g h = cc

-- the head of a model's book, and the lines after it
record IsHeadRead (book : List Page) (lines : List (List (List ℕ))) : Type 0 where
  pub n : ℕ
  pub callers : AreCallers Second n
  pub counts : List ℕ
  pub calls : AreCalls Second n counts
  pub rest : List (List (List ℕ))
  pub text : lines ≡ title_words ∷ object_words ∷ callers_words n ∷ calls_words counts ∷ rest
  pub leads : ModelEnds book (InCalls (unanswered_book counts) (all_calls 0 counts)) rest

model_head : (book : List Page) (lines : List (List (List ℕ))) → ModelEnds book TitleDue lines
    → IsHeadRead book lines
model_head book lines h =
    let end : ModelBookDue = AtEnd book in
    let moved : (due next : ModelBookDue) (ls : List (List (List ℕ))) → due ≡ next
    → ModelEnds book due ls → ModelEnds book next ls =
    λ due next ls e leads. subst (λ (d : ModelBookDue). ModelEnds book d ls) e leads in
    let title = has_line ModelBookPasses end TitleDue lines (λ e. absurd cc) h in
    let object = has_line ModelBookPasses end ObjectDue title.rest (λ e. absurd cc)
    (moved title.next ObjectDue title.rest title.right.1 title.leads) in
    let callers = has_line ModelBookPasses end CallersDue object.rest (λ e. absurd cc)
    (moved object.next CallersDue object.rest object.right.1 object.leads) in
    let n : ℕ = callers.right.0 in
    let calls = has_line ModelBookPasses end (CountsDue n) callers.rest (λ e. absurd cc)
    (moved callers.next (CountsDue n) callers.rest callers.right.3 callers.leads) in
    let counts : List ℕ = calls.right.0 in
    record {
      n = n;
      callers = callers.right.1;
      counts = counts;
      calls = calls.right.1;
      rest = calls.rest;
      text =
          four_lines lines title.rest object.rest callers.rest calls.rest title.words object.words
          callers.words calls.words title_words object_words (callers_words n) (calls_words counts)
          title.text object.text callers.text calls.text title.right.0 object.right.0
          callers.right.2 calls.right.2;
      leads = moved calls.next (InCalls (unanswered_book counts) (all_calls 0 counts)) calls.rest
          calls.right.3 calls.leads;
    }

-- the head of a book, and the lines after it
record IsBookHead (kind : Kind) (book : List Page) (lines : List (List (List ℕ))) : Type 0 where
  pub object : Kind
  pub n : ℕ
  pub callers : AreCallers Second n
  pub counts : List ℕ
  pub calls : AreCalls Second n counts
  pub rest : List (List (List ℕ))
  pub leads : BookEnds kind book
      (rules.InCalls object (unanswered_book counts) (all_calls 0 counts)) rest

book_head : (kind : Kind) (book : List Page) (lines : List (List (List ℕ)))
    → BookEnds kind book (rules.InHead heads.TitleDue) lines → IsBookHead kind book lines
book_head kind book lines h =
    let end : BookDue = rules.AtEnd kind book in
    let moved : (due next : BookDue) (ls : List (List (List ℕ))) → due ≡ next
    → BookEnds kind book due ls → BookEnds kind book next ls =
    λ due next ls e leads. subst (λ (d : BookDue). BookEnds kind book d ls) e leads in
    let title =
    has_line (BookPasses Second) end (rules.InHead heads.TitleDue) lines (λ e. absurd cc) h in
    let object = has_line (BookPasses Second) end (rules.InHead heads.ObjectDue) title.rest
    (λ e. absurd cc) (moved title.next (rules.InHead heads.ObjectDue) title.rest
    (title.right.2 ∙ ap after_head title.right.1.1) title.leads) in
    let k : Kind = object.right.1.0 in
    let callers = has_line (BookPasses Second) end (rules.InHead (heads.CallersDue k)) object.rest
    (λ e. absurd cc)
    (moved object.next (rules.InHead (heads.CallersDue k)) object.rest
    (object.right.2 ∙ ap after_head object.right.1.3) object.leads) in
    let n : ℕ = callers.right.1.0 in
    let calls = has_line (BookPasses Second) end (rules.InHead (heads.CountsDue k n)) callers.rest
    (λ e. absurd cc)
    (moved callers.next (rules.InHead (heads.CountsDue k n)) callers.rest
    (callers.right.2 ∙ ap after_head callers.right.1.3) callers.leads) in
    let counts : List ℕ = calls.right.1.0 in
    record {
      object = k;
      n = n;
      callers = callers.right.1.1;
      counts = counts;
      calls = calls.right.1.1;
      rest = calls.rest;
      leads = moved calls.next (rules.InCalls k (unanswered_book counts) (all_calls 0 counts))
          calls.rest (calls.right.2 ∙ ap after_head calls.right.1.3) calls.leads;
    }

-- ---- lines of one text are the same

all_solid : {Due : Type 0} (rs : Rules Due) → AreSharp rs
    → (due after : Due) (lines : List (List (List ℕ))) → AllPass rs.Passes due lines after
    → AllByRecursion AreSolid lines
all_solid rs sharp due after [] h = tt
all_solid rs sharp due after (words ∷ lines) h =
    (sharp.solid due h.0 words h.1, all_solid rs sharp h.0 after lines h.2)

one_line_more : (words : List (List ℕ)) (lines : List (List (List ℕ)))
    → text_of (words ∷ lines) ≡ line_text words ++ text_of lines
one_line_more words lines =
    sym (append-nil (text_of (words ∷ lines))) ∙ text_of-cons words lines [] ∙ ap
    (λ (x : List ℕ). line_text words ++ x) (append-nil (text_of lines))

not_empty : (words : List (List ℕ)) (lines : List (List (List ℕ)))
    → [] ≡ text_of (words ∷ lines) → ⊥
not_empty words lines e =
    omega (
      arith,
      ap length (e ∙ one_line_more words lines),
      length-append (line_text words) (text_of lines),
      length-append (join_with_byte 32 words) (10 ∷ []),
    )

same_lines : (a b : List (List (List ℕ))) → AllByRecursion AreSolid a → AllByRecursion AreSolid b
    → text_of a ≡ text_of b → a ≡ b
same_lines [] [] h k e = refl
same_lines [] (w ∷ b) h k e = absurd (not_empty w b e)
same_lines (v ∷ a) [] h k e = absurd (not_empty v a (sym e))
same_lines (v ∷ a) (w ∷ b) h k e =
    let parts = same_line v w (text_of a) (text_of b) h.0 k.0
    (sym (one_line_more v a) ∙ e ∙ one_line_more w b) in
    ap (λ (l : List (List ℕ)). l ∷ a) parts.0
    ∙ ap (λ (ls : List (List (List ℕ))). w ∷ ls) (same_lines a b h.1 k.1 parts.1)

-- ---- the lines of a book that can be written

module _ (book : List Page) (w : books.IsWritable Second Counter book) where
  has_word : (call : Call) → IsTrue (nat_lt (unwrap_or (operation_of book call) 0) (2 ^ 128))
  has_word call = elim (cases_Option (operation_of book call)) [
    | inl none ↦ subst (λ (o : Option ℕ). IsTrue (nat_lt (unwrap_or o 0) (2 ^ 128))) (sym none)
        (has_zero Second)
    | inr some ↦ subst (λ (o : Option ℕ). IsTrue (nat_lt (unwrap_or o 0) (2 ^ 128))) (sym some.1)
        (w.operations call some.0 some.1)
  ]

  solid_answer : (call : Call) (answer : Option Record) → record_of book call ≡ answer
      → AllByRecursion IsSolid (answer_words Second answer)
  solid_answer call None e = tt
  solid_answer call (Some r) e = (
    solid_word (reply_word r.reply) (reply_word-IsWord r.reply (w.replies call r e)),
    (
      plain (codes "view") (omega arith, (omega arith, (omega arith, (omega arith, tt))))
          (omega arith),
      solid_cut Second r.view (omega (arith, w.valid.wide call r e, w.callers))
          (numbers_from_places r.view
          (λ i. omega (arith, below_calls book r.view (w.valid.within call r e) i, w.calls i))),
    ),
  )

  solid_line : (call : Call) → IsNamedCall book call
      → AreSolid (line_of Second (others Counter) book call)
  solid_line call named =
      let op : ℕ = unwrap_or (operation_of book call) 0 in
      let answer : Option Record = record_of book call in
      let words = solid_kind_words Second Counter op (has_word call) in
      record {
        some = omega (
          arith,
          length-append (place_words call)
              ((others Counter).words op ++ answer_words Second answer),
        );
        each = AllByRecursion-append IsSolid (place_words call)
            ((others Counter).words op ++ answer_words Second answer) (
              solid_decimal call.caller (omega (arith, named.caller, named.callers)),
              (solid_decimal call.number named.number, tt),
            )
            (AllByRecursion-append IsSolid ((others Counter).words op)
            (answer_words Second answer) words.each (solid_answer call answer refl));
      }

  solid_calls : (calls : List Call) → AllByRecursion (IsNamedCall book) calls
      → AllByRecursion AreSolid (map (line_of Second (others Counter) book) calls ++ end_words ∷ [])
  solid_calls [] h = (
    record {
      some = omega arith;
      each =
          (plain (codes "end") (omega arith, (omega arith, (omega arith, tt))) (omega arith), tt);
    },
    tt,
  )
  solid_calls (call ∷ calls) h = (solid_line call h.0, solid_calls calls h.1)

-- the head of a book's text is right
head_pass : (counts : List ℕ) → AreCallers Second (length counts)
    → AreCalls Second (length counts) counts
    → AllPass (BookPasses Second) (rules.InHead heads.TitleDue)
    (head_lines Second (codes "book") Counter counts)
    (rules.InCalls Counter (unanswered_book counts) (all_calls 0 counts))
head_pass counts callers calls = (
  rules.InHead heads.ObjectDue,
  (heads.ObjectDue, (refl, refl), refl),
  (
    rules.InHead (heads.CallersDue Counter),
    (heads.CallersDue Counter, (Counter, refl, refl, refl), refl),
    (
      rules.InHead (heads.CountsDue Counter (length counts)),
      (heads.CountsDue Counter (length counts), (length counts, callers, refl, refl), refl),
      (
        rules.InCalls Counter (unanswered_book counts) (all_calls 0 counts),
        (heads.HeadRead Counter counts, (counts, calls, refl, refl), refl),
        refl,
      ),
    ),
  ),
)

announced_few : (book : List Page) → books.IsWritable Second Counter book
    → AreAtMost 256 (announced book)
announced_few book w =
    at_most_from_places 256 (announced book) (λ i. omega (arith, announced_at book i, w.calls i))

announced_wide : (book : List Page) → length (announced book) ≡ length book
announced_wide book = length-map book (λ (p : Page). length p.operations)

-- all lines of such a book can be read back
solid_book : (book : List Page) → books.IsWritable Second Counter book
    → AllByRecursion AreSolid (book_lines Second Counter book)
solid_book book w =
    let counts : List ℕ = announced book in
    let wide = announced_wide book in
    let callers : AreCallers Second (length counts) =
    record { some = omega (arith, w.some, wide); few = omega (arith, w.callers, wide) } in
    let calls : AreCalls Second (length counts) counts =
    record { count = refl; few = announced_few book w } in
    let start = head_lines Second (codes "book") Counter counts in
    let named = all_named book 0 counts (omega (arith, wide)) (omega (arith, w.callers))
    (announced_few book w) in
    AllByRecursion-append AreSolid start
    (map (line_of Second (others Counter) book) (all_calls 0 counts) ++ end_words ∷ [])
    (all_solid (book_rules Second) (book_sharp Second) (rules.InHead heads.TitleDue)
    (rules.InCalls Counter (unanswered_book counts) (all_calls 0 counts)) start
    (head_pass counts callers calls))
    (solid_calls book w (all_calls 0 counts) named)

-- ---- what can be written

as_model_book : (book : List Page) → books.IsWritable Second Counter book → IsWritable book
as_model_book book w = record {
  valid = w.valid;
  some = w.some;
  callers = w.callers;
  calls = w.calls;
  operations = w.operations;
  replies = w.replies;
}

as_book : (book : List Page) → IsWritable book → books.IsWritable Second Counter book
as_book book w =
    record {
      valid = w.valid;
      kind_known = refl;
      some = w.some;
      callers = w.callers;
      calls = w.calls;
      operations = w.operations;
      replies = w.replies;
    }

-- a model's book that is read is the one of which the bytes are written
pub read_is_written : (bytes : List ℕ) (book : List Page) → IsModelBookText bytes book
    → IsWrittenBook bytes book
read_is_written bytes book h =
    let lines = h.1.goes.lines in
    let head = model_head book lines h.1.goes.right in
    let counts : List ℕ = head.counts in
    let size : head.n ≡ length counts = sym head.calls.count in
    let callers : AreCallers Second (length counts) = subst (AreCallers Second) size head.callers in
    let calls : AreCalls Second (length counts) counts =
    record { count = refl; few = head.calls.few } in
    let twins =
    twins_of Counter book (unanswered_book counts) (all_calls 0 counts) head.rest head.leads in
    let start = head_lines Second (codes "book") Counter counts in
    let due : BookDue = rules.InHead heads.TitleDue in
    let middle : BookDue = rules.InCalls Counter (unanswered_book counts) (all_calls 0 counts) in
    let end : BookDue = rules.AtEnd Counter book in
    let right : AllPass (BookPasses Second) due (start ++ twins.0) end = AllPass-append
    (book_rules Second) due middle end start twins.0 (head_pass counts callers calls) twins.1 in
    let text : IsBookText Second (text_of (start ++ twins.0)) Counter book = (
      record { bytes = []; number = 1 + length (start ++ twins.0) },
      record {
        goes = record {
          lines = start ++ twins.0;
          right = right;
          bytes = sym (append-nil (text_of (start ++ twins.0)));
          number = refl;
        };
        through = refl;
      },
    ) in
    let w = reading.read_is_written Second (text_of (start ++ twins.0)) Counter book text in
    let same : start ++ twins.0 ≡ book_lines Second Counter book
    = same_lines (start ++ twins.0) (book_lines Second Counter book)
    (all_solid (book_rules Second) (book_sharp Second) due end (start ++ twins.0) right)
    (solid_book book w.writable) w.text in
    let past_title = same_head _ _ _ _ same in
    let past_object = same_head _ _ _ _ past_title.1 in
    let after_callers = same_head _ _ _ _ past_object.1 in
    let after_calls =
    same_head (calls_words counts) (calls_words (announced book)) twins.0 _ after_callers.1 in
    let numbers = numbers_at_most 256 counts (omega arith) head.calls.few in
    let others_numbers =
    numbers_at_most 256 (announced book) (omega arith) (announced_few book w.writable) in
    let counts_are : counts ≡ announced book =
    same_numbers counts (announced book) numbers others_numbers (same_first (codes "calls")
    (codes "calls") (map decimal counts) (map decimal (announced book)) after_calls.0).1 in
    let line = line_of Second model_operations book in
    let rest_is : head.rest ≡ map line (all_calls 0 counts) ++ end_words ∷ []
    = lines_are Counter book (has_word book w.writable)
    (all_calls 0 counts) head.rest twins.0 twins.2
    (after_calls.1 ∙ ap (λ (ns : List ℕ). map (line_of Second (others Counter) book)
    (all_calls 0 ns) ++ end_words ∷ []) (sym counts_are)) in
    let n_is : head.n ≡ length book = size ∙ ap (length {A = ℕ}) counts_are ∙ announced_wide book in
    let made : ℕ → List ℕ → List (List (List ℕ)) = λ n ns. title_words ∷ object_words
    ∷ callers_words n ∷ calls_words ns ∷ (map line (all_calls 0 ns) ++ end_words ∷ []) in
    let whole : lines ≡ model_book_lines book
    = head.text
    ∙ ap (λ (ls : List (List (List ℕ))).
    title_words ∷ object_words ∷ callers_words head.n ∷ calls_words counts ∷ ls) rest_is
    ∙ ap (λ (n : ℕ). made n counts) n_is
    ∙ ap (made (length book)) counts_are in
    record {
      writable = as_model_book book w.writable;
      text = h.1.goes.bytes ∙ ap (λ (b : List ℕ). text_of lines ++ b) h.1.through
          ∙ append-nil (text_of lines) ∙ ap text_of whole;
    }

-- the bytes that are written of a model's book are read as this book
pub written_is_read : (bytes : List ℕ) (book : List Page) → IsWrittenBook bytes book
    → IsModelBookText bytes book
written_is_read bytes book h =
    let text = writing.written_is_read Second (text_of (book_lines Second Counter book)) Counter
    book (record { writable = as_book book h.writable; text = refl }) in
    let head = book_head Counter book text.1.goes.lines text.1.goes.right in
    let counts : List ℕ = head.counts in
    let ours = model_of head.object Counter book (unanswered_book counts)
    (all_calls 0 counts) head.rest head.leads in
    let lines : List (List (List ℕ)) =
    title_words ∷ object_words ∷ callers_words head.n ∷ calls_words counts ∷ ours.0 in
    let right : ModelEnds book TitleDue lines = (
      ObjectDue,
      (refl, refl),
      (
        CallersDue,
        (refl, refl),
        (
          CountsDue head.n,
          (head.n, head.callers, refl, refl),
          (
            InCalls (unanswered_book counts) (all_calls 0 counts),
            (counts, head.calls, refl, refl),
            ours.1,
          ),
        ),
      ),
    ) in
    let read : IsModelBookText (text_of lines) book = (
      record { bytes = []; number = 1 + length lines },
      record {
        goes = record {
          lines = lines;
          right = right;
          bytes = sym (append-nil (text_of lines));
          number = refl;
        };
        through = refl;
      },
    ) in
    subst (λ (b : List ℕ). IsModelBookText b book)
    ((read_is_written (text_of lines) book read).text ∙ sym h.text) read

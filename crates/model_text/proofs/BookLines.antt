-- A model's book that is written line by line.
use Rattle.std.proofs.Common.{◌≡◌, ℕ, ◌+◌, ◌<◌, ◌≤◌, ◌^◌, List, [], ◌∷◌, ◌++◌, length, map, take, sym, ap, ◌∙◌, append_assoc, arith}
use Rattle.std.proofs.lemmas.Bool.{lt-ltb}
use Rattle.std.proofs.lemmas.Option.{slice_get_within}
use Rattle.std.proofs.lemmas.List.{map-append, length-map, take_all}
use Rattle.book_base.specs.declared.call.Call.{Call}
use Rattle.book_base.specs.Book.{Page, announced, calls_of, page_of, IsCall, IsValid, IsSmall}
use Rattle.book_base.proofs.PageLemmas.{caller_from_call}
use Rattle.text_fields.specs.Lines.{line_text, text_of}
use Rattle.text_fields.specs.Head.{callers_words, calls_words}
use Rattle.book_text.specs.CallLines.{calls_from, all_calls}
use Rattle.book_text.specs.Grammar.{end_words}
use Rattle.book_text.specs.Fields.{HasWords}
use Rattle.book_text.proofs.Texts.{one_more, lines_more, callers_more}
use Rattle.model_text.specs.Grammar.{model_book_lines, IsWrittenBook}
use Rattle.model_text.specs.ModelBookRules.{title_words, object_words}
use Rattle.model_text.specs.Written.{head_lines, call_line, call_texts}

-- the head of a model's book, and the lines of the callers before one
abbrev pub lines_to : List Page → ℕ → List (List (List ℕ))
lines_to pages i =
    head_lines (announced pages) ++ call_texts pages (all_calls 0 (take i (announced pages)))

-- the lines of the callers before one, with those of one caller more
pub caller_written : (pages : List Page) (middle new : List ℕ) (i : ℕ) → i < length pages
    → middle ≡ text_of (lines_to pages i)
    → new ≡ middle ++ text_of (call_texts pages (calls_from i 0 (calls_of pages i)))
    → new ≡ text_of (lines_to pages (i + 1))
caller_written pages middle new i lt h k =
    let line : Call → List (List ℕ) = call_line pages in
    let head : List (List (List ℕ)) = head_lines (announced pages) in
    let before : List Call = all_calls 0 (take i (announced pages)) in
    let more : List Call = calls_from i 0 (calls_of pages i) in
    lines_more [] middle new (head ++ map line before) (map line more) h k
    ∙ ap text_of (append_assoc head (map line before) (map line more)
    ∙ ap (λ (ls : List (List (List ℕ))). head ++ ls)
    (sym (map-append line before more) ∙ ap (map line) (sym (callers_more pages i lt))))

-- the head of a model's book with a number of callers, and other lines after it
abbrev head_of : List Page → ℕ → List (List (List ℕ)) → List (List (List ℕ))
head_of pages n ls =
    title_words ∷ object_words ∷ callers_words n ∷ calls_words (announced pages) ∷ ls

-- all callers are written, and then the end
pub end_written : (pages : List Page) (middle new : List ℕ) (i : ℕ) → length pages ≤ i
    → middle ≡ text_of (lines_to pages i) → new ≡ middle ++ line_text end_words
    → new ≡ text_of (model_book_lines pages)
end_written pages middle new i le h k =
    let line : Call → List (List ℕ) = call_line pages in
    let head : List (List (List ℕ)) = head_lines (announced pages) in
    let size : Page → ℕ = λ p. length p.operations in
    let wide = length-map pages size in
    let whole : take i (announced pages) ≡ announced pages =
    take_all i (announced pages) (omega (arith, wide)) in
    one_more [] middle new (head ++ map line (all_calls 0 (take i (announced pages)))) end_words h k
    ∙ ap text_of
    (append_assoc head (map line (all_calls 0 (take i (announced pages)))) (end_words ∷ [])
    ∙ ap (λ (counts : List ℕ). head ++ (map line (all_calls 0 counts) ++ end_words ∷ [])) whole
    ∙ ap (λ (n : ℕ). head_of pages n (map line (all_calls 0 (announced pages)) ++ end_words ∷ [])) wide)

-- a book within the limits of texts is written
pub book_written : (pages : List Page) (bytes : List ℕ) → IsValid pages → IsSmall pages
    → ((call : Call) → call.caller < length pages → IsCall pages call → HasWords pages call)
    → bytes ≡ text_of (model_book_lines pages) → IsWrittenBook bytes pages
book_written pages bytes valid small words e = record {
  writable = record {
    valid = valid;
    some = small.some;
    callers = omega (arith, small.callers);
    calls = λ i. omega (arith, small.calls i);
    operations = λ call op at.
        let is : IsCall pages call =
        slice_get_within (page_of pages call.caller).operations call.number op at in
        lt-ltb op (2 ^ 128)
        ((words call (caller_from_call pages call.caller call.number is) is).operation op at);
    replies = λ call answer at.
        let within = slice_get_within (page_of pages call.caller).records call.number answer at in
        let is : IsCall pages call = omega (arith, within, valid.answers call.caller) in
        (words call (caller_from_call pages call.caller call.number is) is).reply answer at;
  };
  text = e;
}

-- What the book of some lines has of one line.
use Rattle.std.proofs.Common.{◌≡◌, ℕ, zero, suc, List, [], ◌∷◌, map, Option, Some, slice_get, refl, ap, ◌∙◌}
use Rattle.std.specs.Option.{option_map}
use Rattle.std.proofs.lemmas.Option.{slice_get-map}
use Rattle.book_base.specs.declared.call.Call.{Call}
use Rattle.book_base.specs.Book.{Page, page_of, operation_of}
use Rattle.world_core.specs.Calls.{Made, page_with}
use Rattle.report_lines.specs.declared.line.Line.{Line}
use Rattle.report_lines.specs.Lines.{made_of, book_of_lines, lines_at, line_at}

-- the page of a caller is that of its lines
page_of-lines : (lines : List (List Line)) (i : ℕ)
    → page_of (book_of_lines lines) i ≡ page_with (map made_of (lines_at lines i))
page_of-lines [] i = refl
page_of-lines (own ∷ lines) zero = refl
page_of-lines (own ∷ lines) (suc i) = page_of-lines lines i

-- the operation of a call is its line's
pub operation_of-lines : (lines : List (List Line)) (call : Call) (line : Line)
    → line_at lines call ≡ Some line → operation_of (book_of_lines lines) call ≡ Some line.op
operation_of-lines lines call line there =
    let own : List Line = lines_at lines call.caller in
    ap (λ (page : Page). slice_get page.operations call.number) (page_of-lines lines call.caller)
    ∙ slice_get-map (λ (c : Made). c.operation) (map made_of own) call.number
    ∙ ap (λ (o : Option Made). option_map (λ (c : Made). c.operation) o)
    (slice_get-map made_of own call.number ∙ ap (λ (o : Option Line). option_map made_of o) there)

-- An element of a prefix of a list is one of the list.
use Rattle.std.proofs.Common.{◌≡◌, ℕ, zero, suc, List, [], ◌∷◌, ◌++◌, get_or, take, drop, slice_get, Some, refl, ap, ◌∙◌}
use Rattle.std.specs.List.{flat_map}
use Rattle.std.proofs.lemmas.List.Concat.{flat_map-append}
use Rattle.std.proofs.lemmas.Option.{slice_get_within}
use Rattle.list_laws.proofs.Prefixes.{slice_get-append_within}
use Rattle.list_laws.proofs.Options.{and_then_some}
use Rattle.book_base.specs.declared.call.Call.{Call}
use Rattle.book_base.specs.declared.call.Record.{Record}
use Rattle.book_base.specs.Book.{page_of, record_of}
use Rattle.report_lines.specs.declared.line.Line.{Line}
use Rattle.report_lines.specs.Lines.{line_at, seen_in, seen_at}
use Rattle.client_scripts.specs.ScriptRules.{grouped}
use Rattle.report_text.specs.ReportRules.{book_so_far}
use Rattle.report_text.proofs.Pushing.{records_in}

-- the first c lines of a longer list begin with the first c of the list
take-longer : (c : ℕ) (xs ys : List Line) → (zs : List Line) × (take c (xs ++ ys) ≡ take c xs ++ zs)
take-longer zero xs ys = ([], refl)
take-longer (suc c) [] ys = (take (suc c) ys, refl)
take-longer (suc c) (x ∷ xs) ys = let more = take-longer c xs ys in
    (more.0, ap (λ (ls : List Line). x ∷ ls) more.1)

drop-longer : (c : ℕ) (xs ys : List Line) → (zs : List Line) × (drop c (xs ++ ys) ≡ drop c xs ++ zs)
drop-longer zero xs ys = (ys, refl)
drop-longer (suc c) [] ys = (drop (suc c) ys, refl)
drop-longer (suc c) (x ∷ xs) ys = drop-longer c xs ys

place-longer : {X : Type 0} (xs ys : List X) (k : ℕ) (z : X) → slice_get xs k ≡ Some z
    → slice_get (xs ++ ys) k ≡ Some z
place-longer xs ys k z e = slice_get-append_within xs ys k (slice_get_within xs k z e) ∙ e

pub line-longer : (counts : List ℕ) (told more : List Line) (call : Call) (line : Line)
    → line_at (grouped counts told) call ≡ Some line
    → line_at (grouped counts (told ++ more)) call ≡ Some line
line-longer counts told more call line e = go counts told more call.caller e where
  go : (counts : List ℕ) (told more : List Line) (i : ℕ)
      → slice_get (get_or (grouped counts told) i []) call.number ≡ Some line
      → slice_get (get_or (grouped counts (told ++ more)) i []) call.number ≡ Some line
  go [] told more i e = e
  go (c ∷ counts) told more zero e =
      let longer = take-longer c told more in
      ap (λ (ls : List Line). slice_get ls call.number) longer.1
      ∙ place-longer (take c told) longer.0 call.number line e
  go (c ∷ counts) told more (suc i) e =
      let longer = drop-longer c told more in
      ap (λ (ls : List Line). slice_get (get_or (grouped counts ls) i []) call.number) longer.1
      ∙ go counts (drop c told) longer.0 i e

pub seen-longer : (counts : List ℕ) (told more : List Line) (call : Call) (cut : List ℕ)
    → seen_at (grouped counts told) call ≡ Some cut
    → seen_at (grouped counts (told ++ more)) call ≡ Some cut
seen-longer counts told more call cut e =
    let at =
    and_then_some (line_at (grouped counts told) call) (λ (l : Line). seen_in l.end) cut e in
    let there = line-longer counts told more call at.0 at.1 in
    rw there at.2

pub records-so_far : (counts : List ℕ) (told : List Line) (i : ℕ)
    → (page_of (book_so_far counts told) i).records
    ≡ flat_map records_in (get_or (grouped counts told) i [])
records-so_far [] told i = refl
records-so_far (c ∷ counts) told zero = refl
records-so_far (c ∷ counts) told (suc i) = records-so_far counts (drop c told) i

pub record-longer : (counts : List ℕ) (told more : List Line) (call : Call) (r : Record)
    → record_of (book_so_far counts told) call ≡ Some r
    → record_of (book_so_far counts (told ++ more)) call ≡ Some r
record-longer counts told more call r e = go counts told more call.caller e where
  go : (counts : List ℕ) (told more : List Line) (i : ℕ)
      → slice_get (page_of (book_so_far counts told) i).records call.number ≡ Some r
      → slice_get (page_of (book_so_far counts (told ++ more)) i).records call.number ≡ Some r
  go [] told more i e = e
  go (c ∷ counts) told more zero e =
      let longer = take-longer c told more in
      ap (λ (ls : List Line). slice_get (flat_map records_in ls) call.number) longer.1
      ∙ ap (λ (rs : List Record). slice_get rs call.number)
      (flat_map-append records_in (take c told) longer.0)
      ∙ place-longer (flat_map records_in (take c told))
      (flat_map records_in longer.0) call.number r e
  go (c ∷ counts) told more (suc i) e =
      let longer = drop-longer c told more in
      ap (λ (ls : List Line). slice_get (page_of (book_so_far counts ls) i).records call.number)
      longer.1 ∙ go counts (drop c told) longer.0 i e

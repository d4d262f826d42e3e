-- Locals have one report.
use Rattle.std.proofs.Common.{◌≡◌, ℕ, suc, List, [], ◌∷◌, length, map, Some, slice_get, refl, sym, ap, ◌∙◌, subst, arith}
use Rattle.book_base.specs.declared.call.Call.{Call}
use Rattle.book_base.specs.SeqSpec.{SeqSpec}
use Rattle.book_base.specs.Book.{Page}
use Rattle.world_core.specs.Calls.{Made, book_of}
use Rattle.report_lines.specs.declared.line.LineEnd.{LineEnd}
use Rattle.report_lines.specs.declared.line.LineEnd.TheVariants.{Pending, Unchecked, Delivered, Error}
use Rattle.report_lines.specs.declared.line.Line.{Line}
use Rattle.report_lines.specs.Lines.{reached_of, made_of, calls_of, book_of_lines, line_at, IsJudged}
use Rattle.report_lines.specs.Reporting.{LocalsDetermineLines}

module _ (spec : SeqSpec) (book : List Page) where
  -- ends that say the same of a call, and are judged by one book, are the same end
  same_end : (a b : LineEnd) → reached_of a ≡ reached_of b → IsJudged spec book a
      → IsJudged spec book b → a ≡ b
  same_end Pending Pending e h g = refl
  same_end Pending (Unchecked s) e h g = absurd cc
  same_end Pending (Delivered s d) e h g = absurd cc
  same_end Pending (Error s d) e h g = absurd cc
  same_end (Unchecked r) Pending e h g = absurd cc
  same_end (Unchecked r) (Unchecked s) e h g = let same : r ≡ s = cc in ap (λ x. Unchecked x) same
  same_end (Unchecked r) (Delivered s d) e h g = absurd cc
  same_end (Unchecked r) (Error s d) e h g = absurd cc
  same_end (Delivered r c) Pending e h g = absurd cc
  same_end (Delivered r c) (Unchecked s) e h g = absurd cc
  same_end (Delivered r c) (Delivered s d) e h g = let same : r ≡ s = cc in
      let cut : c ≡ d = cc in cc
  same_end (Delivered r c) (Error s d) e h g = let cut : c ≡ d = cc in
      absurd (g (subst (λ x. IsJudged spec book (Delivered r x)) cut h))
  same_end (Error r c) Pending e h g = absurd cc
  same_end (Error r c) (Unchecked s) e h g = absurd cc
  same_end (Error r c) (Delivered s d) e h g = let cut : d ≡ c = cc in
      absurd (h (subst (λ x. IsJudged spec book (Delivered s x)) cut g))
  same_end (Error r c) (Error s d) e h g = let same : r ≡ s = cc in let cut : c ≡ d = cc in cc

  same_line : (x y : Line) → made_of x ≡ made_of y → IsJudged spec book x.end
      → IsJudged spec book y.end → x ≡ y
  same_line x y e h g =
      let op : x.op ≡ y.op = ap (λ (m : Made). m.operation) e in
      let end : x.end ≡ y.end = same_end x.end y.end (ap (λ (m : Made). m.reached) e) h g in
      let line : ℕ → LineEnd → Line = λ o e. record { op = o; end = e } in
      ap (λ (o : ℕ). line o x.end) op ∙ ap (line y.op) end

  -- each line of a caller is judged; and each line of all
  abbrev AreJudged : List Line → Type 0
  AreJudged own = (k : ℕ) (line : Line) → slice_get own k ≡ Some line
      → IsJudged spec book line.end

  abbrev AreAllJudged : List (List Line) → Type 0
  AreAllJudged lines = (call : Call) (line : Line) → line_at lines call ≡ Some line
      → IsJudged spec book line.end

  same_own : (xs ys : List Line) → map made_of xs ≡ map made_of ys → AreJudged xs
      → AreJudged ys → xs ≡ ys
  same_own [] [] e h g = refl
  same_own [] (y ∷ ys) e h g = absurd (omega (arith, ap (λ (ms : List Made). length ms) e))
  same_own (x ∷ xs) [] e h g = absurd (omega (arith, ap (λ (ms : List Made). length ms) e))
  same_own (x ∷ xs) (y ∷ ys) e h g =
      let made : made_of x ≡ made_of y = cc in
      let rest : map made_of xs ≡ map made_of ys = cc in
      let first : x ≡ y = same_line x y made (h 0 x refl) (g 0 y refl) in
      let others : xs ≡ ys = same_own xs ys rest (λ k. h (suc k)) (λ k. g (suc k)) in
      cc

  same_lines : (a b : List (List Line)) → calls_of a ≡ calls_of b → AreAllJudged a
      → AreAllJudged b → a ≡ b
  same_lines [] [] e h g = refl
  same_lines [] (ys ∷ b) e h g = absurd (omega (arith, ap (λ (cs : List (List Made)). length cs) e))
  same_lines (xs ∷ a) [] e h g = absurd (omega (arith, ap (λ (cs : List (List Made)). length cs) e))
  same_lines (xs ∷ a) (ys ∷ b) e h g =
      let made : map made_of xs ≡ map made_of ys = cc in
      let rest : calls_of a ≡ calls_of b = cc in
      let first : xs ≡ ys = same_own xs ys made (λ k. h (record { caller = 0; number = k }))
      (λ k. g (record { caller = 0; number = k })) in
      let suffix : Call → Call =
      λ call. record { caller = suc call.caller; number = call.number } in
      let others : a ≡ b =
      same_lines a b rest (λ call. h (suffix call)) (λ call. g (suffix call)) in
      cc

pub locals_determine_lines : LocalsDetermineLines
locals_determine_lines spec locals lines others are too =
    let same : calls_of lines ≡ calls_of others = are.calls ∙ sym too.calls in
    same_lines spec (book_of_lines lines) lines others same are.judged
    (λ call line there. subst (λ (book : List Page). IsJudged spec book line.end)
    (sym (ap book_of same)) (too.judged call line there))

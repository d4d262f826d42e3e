use Rattle.std.proofs.Common.{◌≡◌, ◌∙◌, ℕ, ◌+◌, ◌<◌, ◌≤◌, max, List, slice_index, sym, subst, inl, inr, arith}
use Rattle.std.proofs.lemmas.Bool.{cases_eq}
use Rattle.book_base.specs.Book.{Page, calls_of}
use Rattle.row_table.specs.Callers.{local_with}
use Rattle.row_gather.specs.Words.{IsLengthenedTo}
use Rattle.row_gather.proofs.Peeking.{alone_then}
use Rattle.row_gather.proofs.Reading.{peeked_calls_then}
use Rattle.row_gather.proofs.operations.add_calls.Goals as goal

pub returns-in_err-add_calls_of-clause-peeks : goal.returns-in_err-add_calls_of-clause-peeks
returns-in_err-add_calls_of-clause-peeks g c = alone_then g.P.Program.meaning c.args.rows.now _ _ _
    _ _ _ c.loop-j.invariant.alone c.add_calls_of.ensures.peeks

-- Where the first j callers have their calls, and then caller j gets its own, the first j + 1
-- callers have theirs.
done_more : (start now new : List Page) (counts : List ℕ) (j count : ℕ)
    → count ≡ slice_index counts j
    → ((i : ℕ) → i < j → calls_of now i ≡ max (calls_of start i) (slice_index counts i))
    → ((i : ℕ) → j ≤ i → calls_of now i ≡ calls_of start i) → IsLengthenedTo j count now new
    → (i : ℕ) → i < j + 1 → calls_of new i ≡ max (calls_of start i) (slice_index counts i)
done_more start now new counts j count is done rest step i low =
    elim (cases_eq i j) [
      | inl same ↦
          subst (λ (k : ℕ). calls_of new k ≡ max (calls_of start k) (slice_index counts k))
          (sym same) (omega (arith, step.mine, rest j (omega arith), is))
      | inr other ↦ step.others i other ∙ done i (omega (arith, low, other))
    ]

pub loop-j-preserved : goal.loop-j-preserved
loop-j-preserved g c =
    let was = c.loop-j.invariant in
    let step = c.add_calls_of.ensures.peeks in
    let now = c.in_ok-add_calls_of.ensures in
    record {
      alone = alone_then g.P.Program.meaning c.args.rows.now _ _ _ _ _ _ was.alone step;
      ticks = omega (arith, was.ticks, now.ticks);
      same = peeked_calls_then (local_with c.loop-j.caller) (local_with c.add_calls_of.new.caller)
          c.args.book.now c.loop-j.book c.add_calls_of.new.book was.same now.same;
      done = done_more c.args.book.now c.loop-j.book c.add_calls_of.new.book c.args.counts.now
          c.loop-j.j c.get.result c.get.ensures was.done was.rest now.calls;
      rest = λ i past. now.calls.others i (λ same. absurd (omega (arith, past, same)))
          ∙ was.rest i (omega (arith, past));
    }

use Rattle.std.proofs.Common.{◌≡◌, ℕ, ◌+◌, ◌<◌, ◌∙◌, List, [], ◌∷◌, ◌++◌, length, get_or, Some, sym, ap, subst, slice_get, arith}
use Rattle.std.proofs.lemmas.List.{length-set}
use Rattle.std.proofs.lemmas.Option.{slice_get-get_or, slice_get_within, get_or_from_slice_get}
use Rattle.book_base.specs.Book.{IsCall}
use Rattle.book_base.specs.Next.{raised, next_call}
use Rattle.book_base.proofs.PageLemmas.{caller_from_call}
use Rattle.level_refutations.specs.Closed.{no_calls}
use Rattle.level_refutations.specs.Stored.{wide_of, AreCuts}
use Rattle.level_refutations.proofs.Widening.{as_long, stored_at, wide_count, wide_raised, cuts_push}
use Rattle.level_refutations.proofs.cuts.add_next.Goals.{then-caller-from-via-then-caller-from, then-caller-from-via-else-caller-from+then-from-len}
use Rattle.level_refutations.proofs.cuts.add_next.Goals as goal

pub returns-then-caller-from-clause-unmade : goal.returns-then-caller-from-clause-unmade
returns-then-caller-from-clause-unmade c e list are made =
    let book = c.args.book.now in
    let there = caller_from_call book c.args.caller (get_or made.0 c.args.caller 0) made.2 in
    elim c.then-caller-from.branch [
      | then-caller-from-via-then-caller-from w ↦ omega (
        arith,
        there,
        w.if-caller-from.true,
        c.from.ensures,
        c.callers.ensures.count,
      )
      | then-caller-from-via-else-caller-from+then-from-len w ↦ omega (
        arith,
        slice_get_within list c.args.from made.0 made.1,
        as_long book c.args.cuts.now.items list are,
        w.if-from-len.true,
        w.len.ensures,
      )
    ]

pub returns-then-from-calls-clause-unmade : goal.returns-then-from-calls-clause-unmade
returns-then-from-calls-clause-unmade c e list are made =
    let book = c.args.book.now in
    let caller : ℕ = c.args.caller in
    let there = caller_from_call book caller (get_or made.0 caller 0) made.2 in
    let counts : c.index.result.now ≡ wide_of made.0 = c.index.ensures
    ∙ get_or_from_slice_get c.args.cuts.now.items c.args.from (wide_of made.0) c.index.result.now
    (stored_at book c.args.cuts.now.items list are c.args.from made.0 made.1) in
    let count : c.from-2.result ≡ get_or made.0 caller 0 = c.from-2.ensures
    ∙ (ap (λ (l : List ℕ). get_or l caller 0) counts ∙ wide_count made.0 caller
    (omega (arith, there, are.wide c.args.from made.0 made.1))) in
    omega (arith, made.2, count, c.if-from-calls.true, c.calls.ensures)

pub returns-clause-made : goal.returns-clause-made
returns-clause-made c e list are =
    let book = c.args.book.now in
    let caller : ℕ = c.args.caller in
    let from : ℕ = c.args.from in
    let stored = c.args.cuts.now.items in
    let cut : List ℕ = get_or list from (no_calls book) in
    let at : slice_get list from ≡ Some cut = slice_get-get_or list from (no_calls book) (omega (
      arith,
      as_long book stored list are,
      c.if-from-len.false,
      c.len.ensures,
    )) in
    let long : length cut ≡ length book = are.wide from cut at in
    let inside : caller < length cut = omega (
      arith,
      long,
      c.if-caller-from.false,
      c.from.ensures,
      c.callers.ensures.count,
    ) in
    let counts : c.index.result.now ≡ wide_of cut = c.index.ensures
    ∙ get_or_from_slice_get stored from (wide_of cut) c.index.result.now
    (stored_at book stored list are from cut at) in
    let count : c.from-2.result ≡ get_or cut caller 0 = c.from-2.ensures
    ∙ (ap (λ (l : List ℕ). get_or l caller 0) counts ∙ wide_count cut caller inside) in
    let call : IsCall book (next_call cut caller) =
    omega (arith, count, c.if-from-calls.false, c.calls.ensures) in
    let more : c.raised.result ≡ wide_of (raised cut caller) = c.raised.ensures
    ∙ (ap (λ (l : List ℕ). raised l caller) counts ∙ wide_raised cut caller inside) in (
      (cut, at, call),
      subst (λ (l : List (List ℕ)). AreCuts book l (list ++ raised cut caller ∷ []))
          (sym c.in_ok-push.ensures.items) (cuts_push book stored list are (raised cut caller)
          c.raised.result (length-set cut caller (get_or cut caller 0 + 1) ∙ long) more),
    )

use Rattle.std.proofs.Common.{◌≡◌, ℕ, ◌∙◌, true≢false, refl, sym, subst, inl, inr, arith}
use Rattle.std.proofs.lemmas.Bool.{cases_lt}
use Rattle.std.proofs.lemmas.Option.{same_Some}
use Rattle.book_base.specs.declared.TheConstants.{MAX_CALLERS}
use Rattle.queue_pairs.specs.Pairs.{Paired}
use Rattle.queue_pairs.specs.NextEntries.{paired}
use Rattle.pair_refutations.specs.declared.entry.Move.TheVariants.{Callers}
use Rattle.pair_refutations.specs.Closed.{GoesOn, IsClosedStanding}
use Rattle.pair_refutations.specs.Tabled.{standings_of, AreGoodTo}
use Rattle.pair_refutations.proofs.Leading.{goes-past, goes-before, all-go}
use Rattle.pair_refutations.proofs.closed.first_open_at.Goals as goal

pub returns-in-Some-first_unserved-clause-fault :
    goal.returns-in-Some-first_unserved-clause-fault
returns-in-Some-first_unserved-clause-fault c reading book is =
    let table = c.args.table.now in
    let list = standings_of c.args.standings.now in
    let s : Paired = paired c.in-Some.standing in
    let good = subst (AreGoodTo reading book table list c.in-Some.standing MAX_CALLERS 0)
    (sym c.deref.ensures.value) (c.in_ok-good_pairs.ensures reading book is) in
    let some = c.in-Some-first_unserved.ensures.some reading book table is c.of-next.ensures list
    good in (
      s,
      c.in-Some.ensures.there,
      (
        refl,
        λ whole. true≢false (sym ((c.is_whole.ensures reading book table is
            c.of-next.ensures).1 whole) ∙ c.if-is_whole.false),
        some.0,
        goes-before reading book list s c.loop-putter.putter c.in-Some-first_unserved.taker
            ((c.finds_lead.ensures reading book is).0 c.if-not-finds_lead.false)
            (c.loop-putter.invariant reading book is) some.1,
      ),
    )

pub loop-putter-preserved : goal.loop-putter-preserved
loop-putter-preserved c reading book is i j less =
    let table = c.args.table.now in
    let list = standings_of c.args.standings.now in
    let s : Paired = paired c.in-Some.standing in
    elim (cases_lt i c.loop-putter.putter) [
      | inl below ↦ c.loop-putter.invariant reading book is i j below
      | inr not_below ↦
          let good = subst (AreGoodTo reading book table list c.in-Some.standing MAX_CALLERS 0)
          (sym c.deref.ensures.value) (c.in_ok-good_pairs.ensures reading book is) in
          let same : i ≡ c.loop-putter.putter = omega (arith, less, not_below) in
          subst (λ (k : ℕ). GoesOn reading book list s (Callers k j)) (sym same)
          (c.in_default-first_unserved.ensures.none reading book table is c.of-next.ensures list
          good j)
    ]

pub returns-clause-closed : goal.returns-clause-closed
returns-clause-closed c t at reading book is =
    let table = c.args.table.now in
    let list = standings_of c.args.standings.now in
    let s : Paired = paired c.in-Some.standing in
    let same : t ≡ s = same_Some t s (sym at ∙ c.in-Some.ensures.there) in
    subst (IsClosedStanding reading book list) (sym same) (record {
      unfinished = λ whole. true≢false (sym ((c.is_whole.ensures reading book table is
          c.of-next.ensures).1 whole) ∙ c.if-is_whole.false);
      moves = all-go reading book list s
          ((c.finds_lead.ensures reading book is).0 c.if-not-finds_lead.false)
          (λ i j. elim (cases_lt i c.loop-putter.putter) [
            | inl below ↦ c.loop-putter.invariant reading book is i j below
            | inr past ↦ goes-past reading book table list s i j is
                (inl (omega (arith, past, c.loop-putter-test.false)))
          ]);
    })

use Rattle.std.proofs.Common.{◌≡◌, ◌+◌, ◌∙◌, true≢false, sym, ap, subst, arith}
use Rattle.queue_pairs.specs.Pairs.{Paired, Pair, Pairs, after}
use Rattle.queue_pairs.specs.NextEntries.{paired, pair_of}
use Rattle.pair_refutations.specs.Closed.{LeadsOn}
use Rattle.pair_refutations.specs.Tabled.{standings_of, AreGoodTo}
use Rattle.pair_refutations.proofs.Moving.{pair-one}
use Rattle.pair_refutations.proofs.Leading.{after-is, good-more, good-other}
use Rattle.pair_refutations.proofs.closed.add_good.Goals as goal

pub leads_on-requires-clause-early : goal.leads_on-requires-clause-early
leads_on-requires-clause-early c =
    let table = c.args.table.now in
    let s = c.args.standing.now in
    let reading = c.requires.table.0 in
    let book = c.requires.table.1 in
    let is = c.requires.table.2 in
    let next = c.in-Some.ensures.next reading book table is c.requires.next in
    let after_it = after-is reading book table s c.with_pair.result c.in-Some.pair is next
    c.with_pair.ensures in (
      omega (arith, ap (λ (p : Paired). p.put_moment) after_it, c.in-Some.ensures.early.0),
      omega (arith, ap (λ (p : Paired). p.take_moment) after_it, c.in-Some.ensures.early.1),
    )

pub returns : goal.returns
returns c reading book is good =
    let table = c.args.table.now in
    let s = c.args.standing.now in
    let standings = standings_of c.args.standings.now in
    let next = c.in-Some.ensures.next reading book table is c.requires.next in
    let pair = c.in-Some.ensures.pair reading book table is c.requires.next in
    let after_it = after-is reading book table s c.with_pair.result c.in-Some.pair is next
    c.with_pair.ensures in
    let leads = subst (LeadsOn reading book standings) after_it
    ((c.leads_on.ensures reading book is).0 c.if-not-leads_on.false) in
    subst (AreGoodTo reading book table standings s c.args.putter (c.args.taker + 1))
    (sym c.in_ok-push.ensures.items)
    (good-more reading book table standings s c.args.putter c.args.taker c.args.good.now.items
    c.in-Some.pair good next pair.0 (pair.1, leads))

pub returns-in_default : goal.returns-in_default
returns-in_default c reading book is good =
    good-other reading book c.args.table.now (standings_of c.args.standings.now)
    c.args.standing.now c.args.putter c.args.taker c.args.good.now.items good
    (λ p of it.
    c.in_default.ensures.none reading book c.args.table.now is c.requires.next p of it.0)

pub returns-then-not-leads_on : goal.returns-then-not-leads_on
returns-then-not-leads_on c reading book is good =
    let table = c.args.table.now in
    let s = c.args.standing.now in
    let standings = standings_of c.args.standings.now in
    good-other reading book table standings s c.args.putter c.args.taker c.args.good.now.items good
    (λ p of it.
    let next = c.in-Some.ensures.next reading book table is c.requires.next in
    let pair = c.in-Some.ensures.pair reading book table is c.requires.next in
    let after_it = after-is reading book table s c.with_pair.result c.in-Some.pair is next
    c.with_pair.ensures in
    let same : p ≡ pair_of c.in-Some.pair = pair-one reading book (paired s) c.args.putter
    c.args.taker p (pair_of c.in-Some.pair) of pair.0 it.0 pair.1 in
    let leads = subst (LeadsOn reading book standings) (sym after_it)
    (subst (λ (q : Pair). LeadsOn reading book standings (after (paired s) (Pairs q))) same
    it.1) in
    true≢false (sym ((c.leads_on.ensures reading book is).1 leads) ∙ c.if-not-leads_on.true))

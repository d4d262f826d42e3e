use Rattle.std.proofs.Common.{ℕ, sym, refl, subst}
use Rattle.queue_pairs.specs.Pairs.{FindNothing, after}
use Rattle.queue_pairs.specs.NextEntries.{paired}
use Rattle.pair_refutations.specs.Closed.{LeadsOn}
use Rattle.pair_refutations.specs.Tabled.{standings_of}
use Rattle.pair_refutations.proofs.Moving.{find-one}
use Rattle.pair_refutations.proofs.closed.finds_lead.Goals as goal

pub returns-in-Some : goal.returns-in-Some
returns-in-Some c reading book is =
    let s = c.args.standing.now in
    let standings = standings_of c.args.standings.now in
    let move = c.in-Some.ensures.find reading book c.args.table.now is c.requires.next in
    let leads = c.leads_on.ensures reading book is in (
      λ told g it.
          let same = find-one reading book (paired s) c.in-Some.moment g move it in
          subst (λ (m : ℕ). LeadsOn reading book standings (after (paired s) (FindNothing m))) same
          (subst (LeadsOn reading book standings) c.with_finds.ensures (leads.0 told)),
      λ goes. leads.1 (subst (LeadsOn reading book standings) (sym c.with_finds.ensures)
          (goes c.in-Some.moment move)),
    )

pub returns-in-None : goal.returns-in-None
returns-in-None c reading book is = (
  λ told g it.
      absurd (c.in-None.ensures.none reading book c.args.table.now is c.requires.next g it),
  λ goes. refl,
)

use Rattle.std.proofs.Common.{◌∙◌, refl, sym, subst, ap, ℕ, List, length, arith}
use Rattle.std.specs.Prelude.{Some}
use Rattle.client_calls.specs.Clients.{HasSpent}
use Rattle.run_report.specs.declared.worker.Worker.{Worker}
use Rattle.run_report.proofs.Returns.{spent_client}
use Rattle.run_report.proofs.Settled.{released_spent, settled_spent}
use Rattle.run_report.proofs.worker.Worker.settle.Goals as goal

pub unwrap-client-requires : goal.unwrap-client-requires
unwrap-client-requires g c = rw (c.take.ensures.value, c.requires.spent.2.here) refl

pub allotment_at-allotment-requires : goal.allotment_at-allotment-requires
allotment_at-allotment-requires g c =
    let h = spent_client _ _ _ _ _ _ _ c.requires.spent.0 c.args.self.now c.unwrap-client.result
    c.requires.spent.2 (sym c.take.ensures.value ∙ c.unwrap-client.ensures) in
    omega (arith, h.2, c.requires.spent.1)

pub settle_counted-settled-requires-clause-work : goal.settle_counted-settled-requires-clause-work
settle_counted-settled-requires-clause-work g c =
    let h = spent_client _ _ _ _ _ _ _ c.requires.spent.0 c.args.self.now c.unwrap-client.result
    c.requires.spent.2 (sym c.take.ensures.value ∙ c.unwrap-client.ensures) in
    h.0.work

pub settle_counted-settled-requires-clause-spent : goal.settle_counted-settled-requires-clause-spent
settle_counted-settled-requires-clause-spent g c =
    let h = spent_client _ _ _ _ _ _ _ c.requires.spent.0 c.args.self.now c.unwrap-client.result
    c.requires.spent.2 (sym c.take.ensures.value ∙ c.unwrap-client.ensures) in
    subst (λ (a : ℕ). HasSpent a c.unwrap-client.result)
    (sym c.allotment_at-allotment.ensures.allotment) h.1

pub settle_counted-settled-requires-clause-within :
    goal.settle_counted-settled-requires-clause-within
settle_counted-settled-requires-clause-within g c =
    let h = spent_client _ _ _ _ _ _ _ c.requires.spent.0 c.args.self.now c.unwrap-client.result
    c.requires.spent.2 (sym c.take.ensures.value ∙ c.unwrap-client.ensures) in
    omega (
      arith,
      c.allotment_at-allotment.ensures.within,
      ap (λ (ops : List ℕ). length ops) h.0.operations,
    )

pub returns-clause-spent : goal.returns-clause-spent
returns-clause-spent g c i spent =
    let done = c.settle_counted-settled.ensures in
    let settled = c.settle_counted-settled.result in
    let between : Worker _ _ _ = record { client = Some settled; allotment = 0 } in
    released_spent _ _ _ _ _ _ _ i between _ settled c.release.result refl c.replace.ensures.after
    c.release.ensures
    (settled_spent _ _ _ _ _ _ _ i c.args.self.now between c.unwrap-client.result settled
    (sym c.take.ensures.value ∙ c.unwrap-client.ensures) refl done.work done.same
    (subst (λ (a : ℕ). HasSpent a settled) c.allotment_at-allotment.ensures.allotment done.spent)
    spent)

pub returns-clause-free : goal.returns-clause-free
returns-clause-free g c = record {
  client = c.release.result;
  here = c.replace.ensures.after;
  no_book = c.release.ensures.no_book;
  no_order = c.release.ensures.no_order;
}

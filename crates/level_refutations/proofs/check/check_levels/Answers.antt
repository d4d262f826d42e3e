use Rattle.std.proofs.Common.{ℕ, ◌∙◌, List, true≢false, refl, inr, sym, subst}
use Rattle.level_refutations.specs.declared.node.Node.{Node}
use Rattle.level_refutations.specs.Closed.{levels_of}
use Rattle.level_refutations.specs.Stored.{AreKnown}
use Rattle.level_refutations.proofs.Faults.{closed_tables_fail_no_test}
use Rattle.level_refutations.proofs.Refuting.{closed_tables_have_no_order}
use Rattle.level_refutations.proofs.Opening.{OnOk-more, IfErr-never}
use Rattle.level_refutations.proofs.check.check_levels.Goals as goal

pub cuts_of-requires : goal.cuts_of-requires
cuts_of-requires c =
    c.len.ensures c.args.entries.now (levels_of c.args.entries.now) c.in_ok-levels.ensures

pub returns-in-Err-clause-accepted : goal.returns-in-Err-clause-accepted
returns-in-Err-clause-accepted c closed = absurd (closed_tables_fail_no_test c.args.book.now
    c.args.entries.now c.in-Err.fault closed (rw c.in-Err.is at c.in_ok-cuts.ensures.fault))

pub returns-in-Err-clause-fault : goal.returns-in-Err-clause-fault
returns-in-Err-clause-fault c = (rw c.in-Err.is at c.in_ok-cuts.ensures.fault)

pub begins-requires : goal.begins-requires
begins-requires c = record {
  levels = c.in_ok-levels.ensures;
  cuts = (rw c.in-Ok.is at c.in_ok-cuts.ensures.cuts);
  nodes = c.in_ok-nodes.ensures;
  known = subst (λ (cs : List (List ℕ)). AreKnown cs c.in_ok-nodes.nodes.items
      c.in_ok-known.known.keys) c.deref-2.ensures.value
      (subst (λ (ns : List Node). AreKnown c.deref-2.result.now ns c.in_ok-known.known.keys)
      c.deref.ensures.value c.in_ok-known.ensures);
}

pub returns-then-not-begins-clause-accepted : goal.returns-then-not-begins-clause-accepted
returns-then-not-begins-clause-accepted c closed =
    sym c.if-not-begins.true ∙ c.begins.ensures.1 closed.begins

pub returns-then-not-begins-clause-fault : goal.returns-then-not-begins-clause-fault
returns-then-not-begins-clause-fault c = inr (
  refl,
  record {
    made = (rw c.in-Ok.is at c.in_ok-cuts.ensures.made);
    lacks = λ node. true≢false (sym (c.begins.ensures.1 node) ∙ c.if-not-begins.true);
  },
)

pub first_open-requires-clause-stored : goal.first_open-requires-clause-stored
first_open-requires-clause-stored c = record {
  levels = c.in_ok-levels.ensures;
  cuts = (rw c.in-Ok.is at c.in_ok-cuts.ensures.cuts);
  nodes = c.in_ok-nodes.ensures;
  known = subst (λ (cs : List (List ℕ)). AreKnown cs c.in_ok-nodes.nodes.items
      c.in_ok-known.known.keys) c.deref-2.ensures.value
      (subst (λ (ns : List Node). AreKnown c.deref-2.result.now ns c.in_ok-known.known.keys)
      c.deref.ensures.value c.in_ok-known.ensures);
}

pub first_open-requires-clause-made : goal.first_open-requires-clause-made
first_open-requires-clause-made c = (rw c.in-Ok.is at c.in_ok-cuts.ensures.made)

pub first_open-requires-clause-begins : goal.first_open-requires-clause-begins
first_open-requires-clause-begins c = c.begins.ensures.0 c.if-not-begins.false

pub returns-clause-closed : goal.returns-clause-closed
returns-clause-closed c = OnOk-more c.first_open.result c.first_open.ensures.closed
    (λ closed. record {
      made = (rw c.in-Ok.is at c.in_ok-cuts.ensures.made);
      begins = c.begins.ensures.0 c.if-not-begins.false;
      closed = closed;
    })

pub returns-clause-refuted : goal.returns-clause-refuted
returns-clause-refuted c = OnOk-more c.first_open.result c.first_open.ensures.closed
    (λ closed. closed_tables_have_no_order c.args.book.now c.args.entries.now (record {
      made = (rw c.in-Ok.is at c.in_ok-cuts.ensures.made);
      begins = c.begins.ensures.0 c.if-not-begins.false;
      closed = closed;
    }))

pub returns-clause-accepted : goal.returns-clause-accepted
returns-clause-accepted c closed = IfErr-never c.first_open.result c.first_open.ensures.fault
    (λ fault at. closed_tables_fail_no_test c.args.book.now c.args.entries.now fault closed at)

pub returns-clause-fault : goal.returns-clause-fault
returns-clause-fault c = c.first_open.ensures.fault

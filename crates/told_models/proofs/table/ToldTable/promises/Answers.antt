use Rattle.std.proofs.Common.{◌≡◌, ℕ, ◌+◌, ◌<◌, ◌≤◌, List, take, length, get_or, slice_get, Some, None, refl, sym, ap, subst, ◌∙◌, arith}
use Rattle.std.specs.List.{list_any}
use Rattle.std.specs.Ordering.{is_eq}
use Rattle.std.proofs.lemmas.List.{take_all}
use Rattle.told_models.specs.Table.{Table, pair_order, is_same_pair}
use Rattle.told_models.proofs.Listing.{promised_more}
use Rattle.told_models.proofs.table.ToldTable.promises.Goals as goal

pub loop-k-init : goal.loop-k-init
loop-k-init c pair =
    ap (list_any (λ (other : ℕ × ℕ). is_eq (pair_order pair other))) c.new-promises.ensures.empty

pub loop-k-preserved : goal.loop-k-preserved
loop-k-preserved c pair =
    promised_more c.self.inside.promises.keys c.loop-k.promises c.insert.new.self c.loop-k.k
    c.index.result.now c.index.ensures c.in_ok-insert.ensures.updates.0 c.loop-k.invariant pair

pub returns : goal.returns
returns c = record {
  promises = λ op reply. c.loop-k.invariant (op, reply)
      ∙ ap (list_any (is_same_pair (op, reply)))
      (take_all c.loop-k.k c.self.inside.promises.keys
      (omega (arith, c.len-k-end.ensures.len, c.loop-k-test.false)))
      ∙ ap (λ (t : Table). list_any (is_same_pair (op, reply)) t.promises) c.self.view_is;
}

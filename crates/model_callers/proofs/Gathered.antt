-- A gathered call stays so for a caller that is the same but for its stance.
use Rattle.std.proofs.Common.{◌≡◌, ℕ, List, sym, ap, subst, ◌∙◌}
use Rattle.book_base.specs.Book.{Page}
use Rattle.world_core.specs.declared.program.Outside.{Outside}
use Rattle.world_core.specs.Local.{Local}
use Rattle.world_core.specs.Calls.{IsGathered, local_at}
use Rattle.row_table.specs.declared.caller.Caller.{Caller}
use Rattle.row_table.specs.declared.rows.Rows.{Rows}
use Rattle.row_table.specs.Callers.{local_with}
use Rattle.row_gather.specs.declared.gathered.Gathered.{Gathered}
use Rattle.row_gather.specs.Exact.{IsTheBookAt}
use Rattle.drv_wrapper.specs.Stands.{IsSame}
use Rattle.announced_calls.specs.Outside.{every_reply}
use Rattle.model_callers.specs.declared.gathered_call.GatheredCall.{GatheredCall}
use Rattle.model_callers.specs.Callers.{IsGatheredCall}

module _ (r : Rows Outside) (c d : Caller Outside) (cut : List ℕ) (book : List Page)
    (same : IsSame c d) where
  pub same_gathered : IsGathered r.callers (local_with c) cut book
      → IsGathered r.callers (local_with d) cut book
  same_gathered h = subst (λ (l : Local). IsGathered r.callers l cut book) (sym same.local) h

  pub same_exact : IsTheBookAt every_reply r c cut book → IsTheBookAt every_reply r d cut book
  same_exact exact = λ locals together is.
      exact locals together (ap (λ (i : ℕ). local_at locals i) (sym same.who) ∙ is ∙ same.local)

-- A gathered call stays so where its caller is halted.
pub same_call : (r : Rows Outside) (a b : GatheredCall) → b.gathered ≡ a.gathered
    → IsSame a.caller b.caller → IsGatheredCall r a → IsGatheredCall r b
same_call r a b kept same h = record {
  caller = same.rows every_reply r h.caller;
  gathered =
      subst (λ (g : Gathered). IsGathered r.callers (local_with b.caller) g.cut g.book) (sym kept)
      (same_gathered r a.caller b.caller a.gathered.cut a.gathered.book same h.gathered);
  exact =
      subst (λ (g : Gathered). IsTheBookAt every_reply r b.caller g.cut g.book) (sym kept)
      (same_exact r a.caller b.caller a.gathered.cut a.gathered.book same h.exact);
}

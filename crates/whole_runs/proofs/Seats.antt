-- Callers that leave their seats for a call, and come back.
use Rattle.std.proofs.Common.{◌≡◌, ◌∙◌, ℕ, Option, Some, sym, subst}
use Rattle.world_core.specs.Shape.{Meaning}
use Rattle.row_table.specs.declared.caller.Caller.{Caller}
use Rattle.row_table.specs.declared.rows.Rows.{Rows}
use Rattle.row_table.specs.Callers.{IsStill}
use Rattle.whole_runs.specs.Seated.{IsThere, IsNewAt}

-- A caller that was taken from its seat, and still belongs to its table, is there where it is back.
pub there_again : {P : Type 0} (meaning : P → ℕ → ℕ → Meaning) (r : Rows P) (i : ℕ)
    (seat taken back : Option (Caller P)) (c d e : Caller P) → IsNewAt meaning r i seat
    → taken ≡ seat → taken ≡ Some c → IsStill meaning r c d → IsStill meaning r d e
    → back ≡ Some e → IsThere meaning r i back
there_again meaning r i seat taken back c d e new from is seen judged again =
    let at = (subst (λ (o : Option (Caller _)). IsNewAt meaning r i o) (sym from ∙ is) new).0 in
    subst (λ (o : Option (Caller _)). IsThere meaning r i o) (sym again)
    (record { caller = judged.0; who = judged.1 ∙ (seen.1 ∙ at.who) })

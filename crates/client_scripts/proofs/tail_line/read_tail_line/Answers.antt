use Rattle.std.proofs.Common.{ℕ, sym, subst, rules}
use Rattle.client_scripts.specs.ScriptRules.{AreTurns}
use Rattle.client_scripts.proofs.Clients.{callers_in}
use Rattle.client_scripts.proofs.tail_line.read_tail_line.Goals as goal

pub returns-in-Some-2-clause-found : goal.returns-in-Some-2-clause-found
returns-in-Some-2-clause-found c =
    let found = rw c.in-Some-2.is at c.in_ok-turns.ensures.found in
    record {
      may = subst (λ (n : ℕ). AreTurns n c.in-Some-2.turns.items)
          (sym (callers_in c.args.clients.now)) found.0;
      text = search rules;
    }

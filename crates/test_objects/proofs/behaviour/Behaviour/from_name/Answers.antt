use Rattle.std.proofs.Common.{rules, tests, ◌≡◌, bytes_eq, ◌∙◌}
use Rattle.std.proofs.lemmas.Iterator.{YieldsList-from_slice}
use Rattle.std.proofs.lemmas.Iterator.Search.{find_from_yields_List}
use Rattle.test_objects.specs.Names.{behaviour_name}
use Rattle.test_objects.proofs.Naming.{all_behaviours, first_named, behaviour_found, no_behaviour_found}
use Rattle.test_objects.proofs.behaviour.Behaviour.from_name.Goals as goal

found : (c : goal.After-copied) → c.copied.result ≡ first_named c.args.name.now all_behaviours
found c =
    c.copied.ensures
    ∙ find_from_yields_List (λ b. bytes_eq (behaviour_name b) c.args.name.now) _ _ c.find.result
    c.find.ensures.ran (YieldsList-from_slice all_behaviours cc) (λ x b q k. search (rules, tests))

pub returns-clause-found : goal.returns-clause-found
returns-clause-found c = behaviour_found c.args.name.now c.copied.result (found c)

pub returns-clause-none : goal.returns-clause-none
returns-clause-none c = no_behaviour_found c.args.name.now c.copied.result (found c)

use Rattle.std.proofs.Common.{rules, tests, ◌≡◌, find, bytes_eq, ◌∙◌}
use Rattle.std.proofs.lemmas.Iterator.{YieldsList-from_slice}
use Rattle.std.proofs.lemmas.Iterator.Search.{find_from_yields_List}
use Rattle.seq_objects.specs.Words.{kind_name, all_kinds}
use Rattle.seq_objects.proofs.Tables.{kind_found, no_kind_found}
use Rattle.seq_objects.proofs.kind.Kind.from_name.Goals as goal

found : (c : goal.After-copied)
    → c.copied.result ≡ find (λ kind. bytes_eq (kind_name kind) c.args.name.now) all_kinds
found c =
    c.copied.ensures ∙ find_from_yields_List
    (λ kind. bytes_eq (kind_name kind) c.args.name.now) _ _ c.find.result c.find.ensures.ran
    (YieldsList-from_slice all_kinds cc) (λ x b q k. search (rules, tests))

pub returns-clause-found : goal.returns-clause-found
returns-clause-found c = kind_found c.args.name.now c.copied.result (found c)

pub returns-clause-none : goal.returns-clause-none
returns-clause-none c = no_kind_found c.args.name.now c.copied.result (found c)

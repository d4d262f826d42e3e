use Rattle.std.proofs.lemmas.Option.{IfSome_then}
use Rattle.list_laws.proofs.Options.{IfNone_then}
use Rattle.broken_rules.proofs.Refuting.{what_breaks_is_illegal}
use Rattle.broken_rules.proofs.Searching.{all_listed}
use Rattle.broken_rules.proofs.search.broken_rule.Goals as goal

pub returns-clause-illegal : goal.returns-clause-illegal
returns-clause-illegal c =
    IfSome_then c.first_broken.result c.first_broken.ensures.broken
    (λ broken breaks. what_breaks_is_illegal c.args.kind c.args.book.now broken
    c.callers-callers.ensures.small breaks)

pub returns-clause-none : goal.returns-clause-none
returns-clause-none c =
    IfNone_then c.first_broken.result c.first_broken.ensures.none
    (λ none broken breaks. (let at = all_listed broken.rule in none at.0 broken at.1 breaks))

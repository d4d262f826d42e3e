use Rattle.std.proofs.Common.{◌∙◌, ◌==◌, sym, rules, tests}
use Rattle.std.specs.List.{filter}
use Rattle.std.proofs.lemmas.List.{length-map}
use Rattle.std.proofs.lemmas.Iterator.{YieldsList-from_slice}
use Rattle.std.proofs.lemmas.Iterator.Consumers.{count_from_yields_List, YieldsList-from_filter}
use Rattle.test_objects.proofs.invent.calls_of.Goals as goal

pub returns : goal.returns
returns c =
    count_from_yields_List c.filter.result _ c.count.ensures.ran
    (YieldsList-from_filter _ (λ e. e.caller == c.args.caller)
    (YieldsList-from_slice c.args.log.now (cc)) c.filter.ensures.closure
    (λ x b q k. search (rules, tests)))
    ∙ sym (length-map (filter (λ e. e.caller == c.args.caller) c.args.log.now) (λ e. e.op))

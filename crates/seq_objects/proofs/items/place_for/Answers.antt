use Rattle.std.proofs.Common.{rules, tests, ◌≡◌, position, nat_lt, length, unwrap_or, ap, ◌∙◌}
use Rattle.std.proofs.lemmas.Iterator.{YieldsList-from_slice}
use Rattle.std.proofs.lemmas.Iterator.Search.{position_from_yields_List}
use Rattle.seq_objects.proofs.items.place_for.Goals as goal

pub returns : goal.returns
returns c =
    let greater : c.position.result ≡ position (λ x. nat_lt c.args.value x) c.args.words.now =
    position_from_yields_List (λ x. nat_lt c.args.value x) _ _ c.position.result
    c.position.ensures.ran (YieldsList-from_slice c.args.words.now cc)
    (λ x b q k. search (rules, tests)) in
    c.unwrap_or.ensures ∙ ap (λ place. unwrap_or place (length c.args.words.now)) greater

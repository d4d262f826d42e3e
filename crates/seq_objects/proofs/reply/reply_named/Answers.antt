use Rattle.std.proofs.Common.{rules, tests, ◌≡◌, find, option_map, option_copied, bytes_eq, sym, ap, ◌∙◌}
use Rattle.std.proofs.lemmas.Iterator.{YieldsList-from_slice}
use Rattle.std.proofs.lemmas.Iterator.Search.{find_from_yields_List}
use Rattle.seq_objects.specs.ReplyView.{shown, reply_named}
use Rattle.list_laws.proofs.Finds.{find-map}
use Rattle.seq_objects.proofs.reply.reply_named.Goals as goal

pub returns : goal.returns
unfolding reply_named
returns c =
    let found : option_copied c.find.result
    ≡ find (λ e. bytes_eq e.name.now c.args.name.now) c.all_named.result.now =
    find_from_yields_List (λ e. bytes_eq e.name.now c.args.name.now) _ _ c.find.result
    c.find.ensures.ran (YieldsList-from_slice c.all_named.result.now cc)
    (λ x b q k. search (rules, tests)) in
    ap (option_map shown) (c.copied.ensures ∙ found)
    ∙ sym (find-map shown (λ e. bytes_eq e.name c.args.name.now) c.all_named.result.now)
    ∙ ap (find (λ e. bytes_eq e.name c.args.name.now)) c.all_named.ensures

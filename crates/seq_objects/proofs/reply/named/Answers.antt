use Rattle.std.proofs.Common.{rules, tests, ◌≡◌, find, option_map, option_copied, nat_eq, sym, ap, ◌∙◌}
use Rattle.std.proofs.lemmas.Iterator.{YieldsList-from_slice}
use Rattle.std.proofs.lemmas.Iterator.Search.{find_from_yields_List}
use Rattle.seq_objects.specs.Replies.{named_reply}
use Rattle.seq_objects.specs.ReplyView.{shown}
use Rattle.list_laws.proofs.Finds.{find-map}
use Rattle.seq_objects.proofs.reply.named.Goals as goal

pub returns : goal.returns
unfolding named_reply
returns c =
    let found : option_copied c.find.result
    ≡ find (λ e. nat_eq c.args.reply e.word) c.all_named.result.now =
    find_from_yields_List (λ e. nat_eq c.args.reply e.word) _ _ c.find.result c.find.ensures.ran
    (YieldsList-from_slice c.all_named.result.now cc) (λ x b q k. search (rules, tests)) in
    ap (option_map shown) (c.copied.ensures ∙ found)
    ∙ sym (find-map shown (λ e. nat_eq c.args.reply e.word) c.all_named.result.now)
    ∙ ap (find (λ e. nat_eq c.args.reply e.word)) c.all_named.ensures

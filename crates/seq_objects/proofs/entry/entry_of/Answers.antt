use Rattle.std.proofs.Common.{rules, tests, ◌≡◌, find, option_map, option_copied, sym, ap, ◌∙◌}
use Rattle.std.proofs.lemmas.Iterator.{YieldsList-from_slice}
use Rattle.std.proofs.lemmas.Iterator.Search.{find_from_yields_List}
use Rattle.seq_objects.specs.Words.{is_operation_of, entry_of}
use Rattle.seq_objects.specs.EntryView.{shown}
use Rattle.list_laws.proofs.Finds.{find-map}
use Rattle.seq_objects.proofs.entry.entry_of.Goals as goal

pub returns : goal.returns
unfolding entry_of
returns c =
    let found : option_copied c.find.result
    ≡ find (λ e. is_operation_of c.args.word (shown e)) c.entries.result.now =
    find_from_yields_List (λ e. is_operation_of c.args.word (shown e)) _ _ c.find.result
    c.find.ensures.ran (YieldsList-from_slice c.entries.result.now cc)
    (λ x b q k. search (rules, tests)) in
    ap (option_map shown) (c.copied.ensures ∙ found)
    ∙ sym (find-map shown (is_operation_of c.args.word) c.entries.result.now)
    ∙ ap (find (is_operation_of c.args.word)) c.entries.ensures

use Rattle.std.proofs.Common.{◌∙◌, sym, ap, subst, ◌<◌}
use Rattle.std.specs.List.{All, range_with_len}
use Rattle.shared_words.specs.declared.entry.Entry.{Entry}
use Rattle.test_objects.specs.Passes.{pairs_in}
use Rattle.named_runs.proofs.ToldCalls.{logged_from_told}
use Rattle.named_runs.proofs.named_object.LogBoxNamedObject.close_with.Goals as goal

pub close-requires : goal.close-requires
close-requires g c = record {
  passes = record {
    callers = c.requires.3.callers ∙ ap (range_with_len 0) (sym c.requires.2.0);
    each = c.requires.3.own;
  };
}

pub returns : goal.returns
returns g c kind n phases calls opened own told =
    opened.1 phases calls
    (logged_from_told _ _ pairs_in _ n own phases calls told _ c.close.result.items
    (subst (λ k. All (λ (e : Entry). e.caller < k) c.close.result.items) opened.0
    c.close.ensures.callers) c.close.ensures.told)

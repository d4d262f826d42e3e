use Rattle.std.proofs.Common.{◌^◌, [], sym, subst}
use Rattle.book_base.specs.SeqSpec.{spec_from}
use Rattle.book_base.specs.Pruning.{IsReached}
use Rattle.search_hints.specs.Marks.{MarksSuffice}
use Rattle.search_hints.proofs.PruningLemmas.{all_next_suffice}
use Rattle.seq_objects.specs.Objects.{kind_next, kind_spec}
use Rattle.seq_objects.specs.StackSteps.{stack_operation, stack_after}
use Rattle.seq_objects.specs.RegisterSteps.{register_operation, register_after}
use Rattle.seq_objects.specs.IntSetSteps.{set_operation, set_after}
use Rattle.seq_objects.specs.PqueueSteps.{pqueue_operation, pqueue_after}
use Rattle.seq_objects.specs.MapSteps.{map_operation, map_after}
use Rattle.kind_search.specs.RegisterReading.{held_in}
use Rattle.kind_search.specs.Keys.{set_part, map_part}
use Rattle.kind_search.proofs.LastFirst.{stack_gives_last_first}
use Rattle.kind_search.proofs.LeastFirst.{pqueue_gives_least_first}
use Rattle.kind_search.proofs.HoldsLast.{register_holds_last}
use Rattle.kind_search.proofs.SetKeys.{set_is_keyed}
use Rattle.kind_search.proofs.MapKeys.{map_is_keyed}
use Rattle.kind_search.proofs.searched_kind.SearchedKindSearchHints.narrow.Goals as goal

pub returns-in-Queue-clause-suffice : goal.returns-in-Queue-clause-suffice
returns-in-Queue-clause-suffice c =
    all_next_suffice c.args.book.now (kind_next c.args.self.now.kind) c.args.cut.now
    c.args.words.now c.args.forced c.args.marks c.requires.forced c.requires.marks

pub returns-in-Stack-clause-suffice : goal.returns-in-Stack-clause-suffice
unfolding kind_next
returns-in-Stack-clause-suffice c =
    subst (λ kind. MarksSuffice c.args.book.now (kind_next kind) c.args.cut.now c.args.words.now
    c.narrow_last_first.result) (sym c.in-Stack.is)
    (c.narrow_last_first.ensures.suffice
    (spec_from [] (λ list op. stack_after list (stack_operation op))) (2 ^ 32)
    stack_gives_last_first tt
    (subst (λ kind. IsReached (kind_spec kind) c.args.book.now c.args.cut.now
    c.args.words.now) c.in-Stack.is c.requires.reached))

pub returns-in-Register-clause-suffice : goal.returns-in-Register-clause-suffice
unfolding kind_next
returns-in-Register-clause-suffice c =
    subst (λ kind. MarksSuffice c.args.book.now (kind_next kind) c.args.cut.now c.args.words.now
    c.narrow_holds_last.result) (sym c.in-Register.is)
    (c.narrow_holds_last.ensures.suffice held_in
    (λ list op. register_after list (register_operation op)) c.args.words.now
    register_holds_last (sym c.held_in.ensures))

pub returns-in-IntSet-clause-suffice : goal.returns-in-IntSet-clause-suffice
unfolding kind_next
returns-in-IntSet-clause-suffice c =
    subst (λ kind. MarksSuffice c.args.book.now (kind_next kind) c.args.cut.now c.args.words.now
    c.narrow_to_key.result) (sym c.in-IntSet.is)
    (c.narrow_to_key.ensures.suffice set_part
    (λ list op. set_after list (set_operation op)) c.args.words.now set_is_keyed)

pub returns-in-Pqueue-clause-suffice : goal.returns-in-Pqueue-clause-suffice
unfolding kind_next
returns-in-Pqueue-clause-suffice c =
    subst (λ kind. MarksSuffice c.args.book.now (kind_next kind) c.args.cut.now c.args.words.now
    c.narrow_least_first.result) (sym c.in-Pqueue.is)
    (c.narrow_least_first.ensures.suffice
    (spec_from [] (λ list op. pqueue_after list (pqueue_operation op))) (2 ^ 32)
    pqueue_gives_least_first tt
    (subst (λ kind. IsReached (kind_spec kind) c.args.book.now c.args.cut.now
    c.args.words.now) c.in-Pqueue.is c.requires.reached))

pub returns-in-Map-clause-suffice : goal.returns-in-Map-clause-suffice
unfolding kind_next
returns-in-Map-clause-suffice c =
    subst (λ kind. MarksSuffice c.args.book.now (kind_next kind) c.args.cut.now c.args.words.now
    c.narrow_to_key-in-Map.result) (sym c.in-Map.is)
    (c.narrow_to_key-in-Map.ensures.suffice map_part
    (λ list op. map_after list (map_operation op)) c.args.words.now map_is_keyed)

-- Lists of standings that have, for each of them, the standing after each step that may come next.
use Rattle.std.proofs.Common.{ℕ, List, refl, inl, inr, arith}
use Rattle.std.proofs.lemmas.Bool.{cases_lt}
use Rattle.book_base.specs.declared.call.Call.{Call}
use Rattle.book_base.specs.Book.{Page}
use Rattle.legal_orders.specs.Container.{Reading}
use Rattle.queue_pairs.specs.Pairs.{Paired, Pairs, FindNothing, MayFind, after}
use Rattle.queue_pairs.specs.Serving.{IsDueNoLater}
use Rattle.queue_pairs.proofs.Serving.{held_later}
use Rattle.queue_refutation.specs.Closed.{IsOnePaired, FindsLead, HasSuccessors}
use Rattle.queue_refutation.specs.RefutationLaws.{PairsServeForThemselves, SuccessorsSuffice}

due-itself : (book : List Page) (call : Call) → IsDueNoLater book call call
due-itself book call r known = (r, known, omega arith)

pub pairs_serve_for_themselves : PairsServeForThemselves
pairs_serve_for_themselves reading book s pair may = record {
  puts = λ v put. put;
  takes = refl;
  put = may.put;
  take = may.take;
  after_puts = may.after_puts;
  after_takes = may.after_takes;
  in_turn = may.in_turn;
  put_held = may.put_effect.first;
  take_held = may.take_effect.first;
  put_moment = omega arith;
  take_moment = omega arith;
  put_due = due-itself book pair.put;
  take_due = due-itself book pair.take;
}

finds-lead : (reading : Reading) (book : List Page) (standings : List Paired) (s : Paired) (m : ℕ)
    → MayFind reading book s m → IsOnePaired standings (after s (FindNothing m))
    → FindsLead reading book standings s m
finds-lead reading book standings s m may there =
    elim (cases_lt s.found m) [
      | inl more ↦ inr (m, more, omega arith, inl there)
      | inr held ↦ inl (λ e nothing by. held_later book e m s.found held by)
    ]

pub successors_suffice : SuccessorsSuffice
successors_suffice reading book standings has s is =
    let h : HasSuccessors reading book standings s = has s is in
    record {
      wide_puts = h.wide_puts;
      wide_takes = h.wide_takes;
      leads = inl (record {
        in_turn = h.in_turn;
        unfinished = h.unfinished;
        pairs = λ pair may.
            inl (
              pair,
              pairs_serve_for_themselves reading book s pair may,
              inl (h.successors (Pairs pair) may),
            );
        finds = λ m may. finds-lead reading book standings s m may
            (h.successors (FindNothing m) may);
      });
    }

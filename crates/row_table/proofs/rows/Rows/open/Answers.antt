use Rattle.std.proofs.Common.{◌≡◌, ◌+◌, List, Option, rules, refl, sym, ap, ◌∙◌, subst, length, map, replicate, Some}
use Rattle.std.proofs.lemmas.List.{length-replicate}
use Rattle.world_core.specs.Local.{fresh}
use Rattle.row_table.specs.declared.bench.Kept.{Kept}
use Rattle.row_table.specs.Holders.{whole}
use Rattle.row_table.specs.Seats.{View, Together}
use Rattle.row_table.specs.Notes.{notes_from}
use Rattle.row_table.specs.Benches.{kept_notes}
use Rattle.row_table.proofs.Parting.{ruled_at_opening, together_at_start}
use Rattle.row_table.proofs.Benching.{tied_fresh}
use Rattle.row_table.proofs.rows.Rows.open.Goals as goal

pub of_words-requires : goal.of_words-requires
of_words-requires g c =
    let filled : c.in_ok-words.words.items
    ≡ replicate (c.row_words.result + c.object_words-objects.result) 0 = search rules in
    ruled_at_opening _ _ _ c.object_words-objects.ensures.count
    (c.as_slice.ensures.value ∙ filled
    ∙ (λ i. replicate (c.row_words.ensures.count i + c.object_words-objects.ensures.count i) 0))

pub invariant_of-bench : goal.invariant_of-bench
invariant_of-bench g c =
    let view : c.in_ok-table.seat.me.0 ≡ whole c.args.n fresh = ap (λ m. m.0) c.in_ok-table.ensures.4 in
    record {
      quiet = search rules;
      tied =
          ap (λ (xs : List (Option Kept)). map kept_notes xs) c.in_ok-places.ensures
          ∙ tied_fresh c.args.n c.args.n
          ∙ ap (λ (v : View). notes_from c.args.n 0 v) (sym view);
    }

pub returns-clause-bench : goal.returns-clause-bench
returns-clause-bench g c =
    let view : c.in_ok-table.seat.me.0 ≡ whole c.args.n fresh = ap (λ m. m.0) c.in_ok-table.ensures.4 in
    record {
      table = search rules;
      callers = refl;
      cap = refl;
      wide = ap (λ (v : View). length v) view ∙ length-replicate c.args.n (Some fresh);
      together =
          subst (λ (v : View). Together (record {
            callers = c.args.n;
            cap = c.args.cap;
            program = g.P.Program.meaning c.args.program c.args.n c.args.cap;
          }) v)
          (sym view) (together_at_start _);
    }

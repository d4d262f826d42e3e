use Rattle.std.proofs.Common.{◌≡◌, ◌∙◌, sym, subst, ap, refl, ℕ, List, [], ◌∷◌, ◌++◌, Some, length, slice_index}
use Rattle.std.specs.Prelude.{IfSome}
use Rattle.std.proofs.lemmas.List.{map-append}
use Rattle.std.proofs.lemmas.Slice.{pushed}
use Rattle.book_base.specs.SeqSpec.{SeqSpec}
use Rattle.world_core.specs.Local.{Local}
use Rattle.world_core.specs.Calls.{calls_in}
use Rattle.report_lines.specs.Phases.{HasMade, IsTold}
use Rattle.report_lines.specs.Allotments.{operations_at}
use Rattle.row_table.specs.Callers.{who_of, local_with, stance_of, on_bench, stance_on}
use Rattle.reports.specs.declared.report.Own.{Own}
use Rattle.reports.specs.ReportLayout.{lines_in}
use Rattle.client_calls.specs.Stands.{caller_at, local_at_stand}
use Rattle.client_calls.specs.Clients.{phases_by}
use Rattle.client_calls.specs.Ends.{HasLeftAt}
use Rattle.client_calls.specs.Course.{HasTold, HasCounted}
use Rattle.client_calls.proofs.Told.{if_some_as}
use Rattle.run_report.specs.Starts.{allotments_by, course_of}
use Rattle.run_report.specs.Returns.{IsCountOf}
use Rattle.run_report.proofs.Places.{last_at}
use Rattle.run_report.proofs.Returns.{spent_within, fits_back}
use Rattle.run_report.proofs.end.bring_back.Goals as goal

pub back-requires-clause-caller : goal.back-requires-clause-caller
back-requires-clause-caller g c =
    c.finish-caller.ensures.caller.rows _ _ c.requires.client.work.course.caller

pub returns-clause-passes : goal.returns-clause-passes
returns-clause-passes g c =
    pushed (c.finish-caller.result.pass ∷ []) refl c.unwrap.ensures c.push.ensures.items
    ∙ ap (λ pass. c.args.passes.now.items ++ pass ∷ []) c.finish-caller.ensures.pass

-- the lines of the caller come after the lines of earlier callers
lines_put : (old new : List Own) (own : Own)
    → new ≡ old ++ own ∷ [] → lines_in new ≡ lines_in old ++ own.lines.items ∷ []
lines_put old new own put = ap (λ (all : List Own). lines_in all) put
    ∙ map-append (λ (o : Own). o.lines.items) old (own ∷ [])

pub returns-clause-lines : goal.returns-clause-lines
returns-clause-lines g c = (
  c.finish-caller.result.lines.items,
  lines_put _ _ _ (pushed (record { lines = c.finish-caller.result.lines } ∷ []) refl
      c.unwrap-2.ensures c.push-2.ensures.items),
)

pub returns-clause-back : goal.returns-clause-back
returns-clause-back g c =
    let f = c.finish-caller.result in
    let done = c.finish-caller.ensures in
    let k = c.args.client in
    let i = k.sheet.who in
    let l : Local = local_with f.caller in
    let r = c.args.shared.now.rows.now in
    let plan = c.args._script.now in
    let course = course_of plan (allotments_by c.args._pace plan)
    (g.E.Ending.object c.args._ending.now) in
    let of = c.requires.client in
    let who : who_of f.caller ≡ i = done.caller.who ∙ of.work.course.number in
    let judges : g.E.Ending.object f.ending ≡ course.object =
    ap g.E.Ending.object done.ending ∙ of.judges in
    record {
      on = record {
        local = l;
        pass = f.pass;
        phases = phases_by k;
        here = subst (λ (n : ℕ). on_bench c.back.new.bench n ≡ Some l) who c.back.ensures.here.0;
        pass_here = last_at _ _ f.pass i
            (pushed (f.pass ∷ []) refl c.unwrap.ensures c.push.ensures.items) c.requires.next_pass;
        back = record {
          fits_caller = fits_back g.P.Program.meaning r (g.A.Asks.fits c.args.shared.now.asks.now)
              (caller_at k.stand) l k.pass f.pass i of.work.course.caller of.work.course.number
              done.caller.local done.pass of.work.pass.fits_caller;
          within = spent_within (slice_index course.allotments i)
              (length k.sheet.lines.items) k.stand c.requires.spent;
          phases = subst (λ (ops : List ℕ). HasMade ops (phases_by k) l) of.operations done.made;
          asked = done.asked;
          counts = subst (λ pass. IfSome (g.A.Asks.count pass) (IsCountOf (phases_by k) l))
              (sym done.pass)
              (subst (λ (m : Local). IfSome (g.A.Asks.count k.pass) (IsCountOf (phases_by k) m))
              (sym done.caller.local)
              (if_some_as (g.A.Asks.count k.pass)
              (HasCounted k.sheet.operations.now k.stand k.sheet.lines.items)
              (IsCountOf (phases_by k) (local_at_stand k.stand))
              (λ n h. record {
                asked_for = h.asked.made_is;
                told_is = if_some_as n.told (HasTold k.stand k.sheet.lines.items)
                    (IsTold (phases_by k) (calls_in (local_at_stand k.stand)))
                    (λ pairs t. t.told) h.asked.told_is;
              }) of.work.pass.counts));
        };
        stands = record {
          stance = stance_of f.caller;
          here = subst (λ (n : ℕ). stance_on c.back.new.bench n ≡ Some (stance_of f.caller)) who
              c.back.ensures.here.1;
          standing = done.standing;
        };
      };
      own = f.lines.items;
      lines_here = last_at _ _ f.lines.items i (lines_put _ _ _
          (pushed (record { lines = f.lines } ∷ []) refl c.unwrap-2.ensures c.push-2.ensures.items))
          c.requires.next_lines;
      free = λ none. done.free (sym done.wants_memory ∙ none);
      left = λ none.
          subst (λ (o : SeqSpec).
          HasLeftAt (g.E.Ending.says o) r.callers (operations_at course.operations i)
          (slice_index course.allotments i) (phases_by k) l f.lines.items) judges
          (subst
          (λ (ops : List ℕ). HasLeftAt (g.E.Ending.says (g.E.Ending.object f.ending)) r.callers ops
          (slice_index course.allotments i) (phases_by k) l f.lines.items) of.operations
          (done.leaves (sym done.wants_memory ∙ none)
          (slice_index course.allotments i) c.requires.spent));
    }

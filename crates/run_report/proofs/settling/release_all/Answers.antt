use Rattle.std.proofs.Common.{◌≡◌, ◌∙◌, sym, ap, ◌-◌, length, slice_get, arith}
use Rattle.std.specs.Prelude.{Some, is_some}
use Rattle.std.proofs.lemmas.List.{length-set}
use Rattle.std.proofs.lemmas.Option.{slice_get-get_or, slice_get_within}
use Rattle.run_report.proofs.Places.{set_each, set_down}
use Rattle.run_report.proofs.settling.release_all.Goals as goal

pub release-requires : goal.release-requires
release-requires g c =
    let place = c.loop-place.place in
    let there : slice_get c.loop-place.workers.items place ≡ Some c.index_mut.result.now =
    slice_get-get_or c.loop-place.workers.items place _
    (omega (
      arith,
      c.loop-place-test.true,
      c.loop-place.invariant.workers.all,
      c.requires.workers.all,
    ))
    ∙ ap (λ w. Some w) (sym c.index_mut.ensures.value) in
    let n = length c.args._script.now.operations in
    let spent = c.loop-place.invariant.workers.each (n - 1 - place) place c.index_mut.result.now
    (omega (arith, c.loop-place-test.true, c.requires.workers.all)) there in
    ap is_some spent.here

pub loop-place-preserved : goal.loop-place-preserved
loop-place-preserved g c =
    let place = c.loop-place.place in
    let there : slice_get c.loop-place.workers.items place ≡ Some c.index_mut.result.now =
    slice_get-get_or c.loop-place.workers.items place _
    (omega (
      arith,
      c.loop-place-test.true,
      c.loop-place.invariant.workers.all,
      c.requires.workers.all,
    ))
    ∙ ap (λ w. Some w) (sym c.index_mut.ensures.value) in
    record {
      workers = record {
        all = length-set c.loop-place.workers.items place c.release.new.self
            ∙ c.loop-place.invariant.workers.all;
        each = set_down _ place _ c.loop-place.workers.items c.index_mut.result.now
            c.release.new.self there (λ i. c.release.ensures.spent _ i)
            c.loop-place.invariant.workers.each;
      };
      free = set_each _ c.loop-place.workers.items place c.release.new.self
          (λ low. c.release.ensures.free)
          (λ j w other there low. c.loop-place.invariant.free j w there
          (omega (arith, low, other)));
    }

pub returns-clause-free : goal.returns-clause-free
returns-clause-free g c j w there =
    c.loop-place.invariant.free j w there
    (omega (arith, slice_get_within c.loop-place.workers.items j w there, c.loop-place-test.false))

use Rattle.std.proofs.Common.{◌≡◌, ◌∙◌, sym, ap, ◌-◌, length, slice_get, arith}
use Rattle.std.specs.Prelude.{Some}
use Rattle.std.proofs.lemmas.List.{length-set}
use Rattle.std.proofs.lemmas.Option.{slice_get-get_or}
use Rattle.run_report.proofs.Places.{set_each, set_down}
use Rattle.run_report.proofs.settling.settle_at.Goals as goal

pub settle-requires-clause-spent : goal.settle-requires-clause-spent
settle-requires-clause-spent g c =
    let place = c.args.place in
    let there : slice_get c.args.workers.now.items place ≡ Some c.index_mut.result.now =
    slice_get-get_or c.args.workers.now.items place _ c.requires.place
    ∙ ap (λ w. Some w) (sym c.index_mut.ensures.value) in
    let n = length c.args.script.now.operations in (
      n - 1 - place,
      omega (arith, c.requires.place, c.requires.workers.all),
      c.requires.workers.each (n - 1 - place) place c.index_mut.result.now
          (omega (arith, c.requires.place, c.requires.workers.all)) there,
    )

pub returns-clause-workers : goal.returns-clause-workers
returns-clause-workers g c =
    let place = c.args.place in
    let there : slice_get c.args.workers.now.items place ≡ Some c.index_mut.result.now =
    slice_get-get_or c.args.workers.now.items place _ c.requires.place
    ∙ ap (λ w. Some w) (sym c.index_mut.ensures.value) in
    record {
      all = length-set c.args.workers.now.items place c.settle.new.self ∙ c.requires.workers.all;
      each = set_down _ place _ c.args.workers.now.items c.index_mut.result.now c.settle.new.self
          there c.settle.ensures.spent c.requires.workers.each;
    }

pub returns-clause-free : goal.returns-clause-free
returns-clause-free g c =
    set_each _ c.args.workers.now.items c.args.place c.settle.new.self c.settle.ensures.free
    (λ j w other there. c.requires.free j w there)

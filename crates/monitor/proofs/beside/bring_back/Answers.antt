use Rattle.std.proofs.Common.{◌≡◌, ◌∙◌, refl, sym, ap, subst, Some}
use Rattle.std.proofs.lemmas.Option.{same_Some}
use Rattle.row_table.specs.declared.caller.Caller.{Caller}
use Rattle.row_table.specs.declared.stance.Stance.{Stance}
use Rattle.row_table.specs.Callers.{who_of, local_with, stance_of, on_bench, stance_on}
use Rattle.monitor.specs.declared.monitor.Monitor.{Monitor}
use Rattle.monitor.specs.Monitors.{IsMonitorOf}
use Rattle.monitor.proofs.beside.bring_back.Goals as goal

pub returns-clause-back : goal.returns-clause-back
returns-clause-back g c =
    let parts = c.into_parts-caller.ensures.parts in
    let there = c.requires.watch in
    let monitor = c.unwrap.result in
    let bench = c.back.new.bench in
    let same = same_Some there.monitor monitor (sym there.here ∙ c.unwrap.ensures) in
    let resting =
    (subst (λ (m : Monitor g.row.P.Denot). IsMonitorOf g.P.Program.meaning c.args.rows.now m) same
    there.of).resting in
    record {
      monitor = monitor;
      here = c.unwrap.ensures;
      back =
          record {
            here = subst
                (λ (d : Caller g.row.P.Denot). on_bench bench (who_of d) ≡ Some (local_with d))
                parts.0 c.back.ensures.here.0;
            stance =
                subst
                (λ (d : Caller g.row.P.Denot). stance_on bench (who_of d) ≡ Some (stance_of d))
                parts.0 c.back.ensures.here.1
                ∙ ap (λ (s : Stance). Some s) resting.stance;
            idle = resting.idle;
          };
      found = parts.1;
      wanted = refl;
      others = λ i other.
          let stays = c.back.ensures.others i
          (λ same. other (same ∙ ap (λ (d : Caller g.row.P.Denot). who_of d) parts.0)) in
          record { local = stays.0; stance = stays.1 };
    }

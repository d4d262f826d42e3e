use Rattle.std.proofs.Common.{◌∙◌, refl, sym, ap}
use Rattle.std.proofs.lemmas.Option.{same_Some}
use Rattle.row_table.specs.declared.caller.Caller.{Caller}
use Rattle.row_table.specs.Callers.{who_of, local_with}
use Rattle.monitor.proofs.beside.take_off.Goals as goal

pub returns-clause-others : goal.returns-clause-others
returns-clause-others g c i other = let stays = c.part-caller.ensures.others i other in
    record { local = stays.0; stance = stays.1 }

pub returns-clause-watch : goal.returns-clause-watch
returns-clause-watch g c l there =
    let part = c.part-caller in
    let same = c.new.ensures.caller in
    record {
      monitor = c.new.result;
      here = refl;
      fresh = record {
        of = c.new.ensures.monitor g.P.Program.meaning c.args.rows.now part.ensures.caller.0;
        on = c.new.ensures.board;
        none = c.new.ensures.nothing.0;
      };
      who = ap (λ (d : Caller g.row.P.Denot). who_of d) same ∙ part.ensures.caller.1;
      local = ap (λ (d : Caller g.row.P.Denot). local_with d) same
          ∙ same_Some (local_with part.result) l (sym part.ensures.local ∙ there);
      rounds = refl;
    }

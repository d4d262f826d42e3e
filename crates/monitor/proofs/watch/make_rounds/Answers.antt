use Rattle.std.proofs.Common.{◌∙◌, refl, sym, subst, ℕ, List, Option, arith}
use Rattle.monitor.specs.declared.witness.Witness.{Witness}
use Rattle.monitor.specs.declared.round.Round.{Round}
use Rattle.monitor.specs.Rounds.{HasScannedOnce, HasMadeRounds}
use Rattle.monitor.specs.Monitors.{local_of, own_of, HasFound}
use Rattle.monitor.proofs.Rounds.{no_round, one_more_legal, the_illegal, the_short}
use Rattle.monitor.proofs.watch.make_rounds.Goals as goal

pub loop-i-init : goal.loop-i-init
loop-i-init g c =
    let spec = g.S.SeqObject.spec c.args.shared.now.sequential.now in
    record {
      fresh = c.requires;
      who = refl;
      stands = tt;
      rounds = no_round spec c.args.shared.now.rows.now.callers (local_of c.args.monitor);
    }

pub returns-in-Ok-Illegal : goal.returns-in-Ok-Illegal
returns-in-Ok-Illegal g c =
    let spec = g.S.SeqObject.spec c.args.shared.now.sequential.now in
    let n = c.args.shared.now.rows.now.callers in
    let l = local_of c.args.monitor in
    let m = local_of c.loop-i.monitor in
    let k = local_of c.round_after.new.self in
    let made = c.loop-i.invariant in
    let later = c.round_after.ensures.later in
    let (once, w, own, cut, illegal) =
    subst (λ (r : Round). HasFound spec n m k (own_of c.round_after.new.self) r)
    c.in-Ok-Illegal.field-0-is c.in-Ok-Illegal.ensures.found in
    let mine = subst (λ (x : List ℕ). HasScannedOnce x m k) (sym cut) once in
    record {
      later = record { monitor = later.monitor; who = later.who ∙ made.who; on = later.on };
      progress = once.progress ∙ made.rounds.progress;
      rounds = subst (λ (o : Option Witness). HasMadeRounds spec n c.args.rounds l k o) (sym own)
          (the_illegal spec n c.loop-i._i c.args.rounds w l m k
          (omega (arith, c.loop-i-test.true)) made.rounds mine illegal);
    }

pub returns-in-Err : goal.returns-in-Err
returns-in-Err g c =
    let spec = g.S.SeqObject.spec c.args.shared.now.sequential.now in
    let n = c.args.shared.now.rows.now.callers in
    let made = c.loop-i.invariant in
    let later = c.round_after.ensures.later in
    let (cut, once) = c.round_after.ensures.scanned in
    record {
      later = record { monitor = later.monitor; who = later.who ∙ made.who; on = later.on };
      progress = once.progress ∙ made.rounds.progress;
      rounds = (
        the_short spec n c.loop-i._i c.args.rounds cut (local_of c.args.monitor)
            (local_of c.loop-i.monitor) (local_of c.round_after.new.self)
            (omega (arith, c.loop-i-test.true)) made.rounds once,
        c.in-Err.ensures.err,
      );
    }

pub loop-i-preserved : goal.loop-i-preserved
loop-i-preserved g c =
    let spec = g.S.SeqObject.spec c.args.shared.now.sequential.now in
    let n = c.args.shared.now.rows.now.callers in
    let m = local_of c.loop-i.monitor in
    let k = local_of c.round_after.new.self in
    let made = c.loop-i.invariant in
    let later = c.round_after.ensures.later in
    let (once, legal, none) =
    subst (λ (r : Round). HasFound spec n m k (own_of c.round_after.new.self) r)
    c.in-Ok-Legal.field-0-is c.in-Ok-Legal.ensures.found in
    record {
      fresh = record { of = later.monitor; on = later.on; none = none };
      who = later.who ∙ made.who;
      stands = c.round_after.ensures.stands;
      rounds = one_more_legal spec n c.loop-i._i c.in-Ok-Legal.field-0-0
          (local_of c.args.monitor) m k made.rounds once legal;
    }

use Rattle.report_text.proofs.Drafting.{misfits_seen}
use Rattle.report_text.proofs.draft.misfit.Goals as goal

pub returns-then-not-fits_cuts-clause-misfit : goal.returns-then-not-fits_cuts-clause-misfit
returns-then-not-fits_cuts-clause-misfit c =
    misfits_seen c.args.limits.now c.args.seen.now c.args.call c.args.count c.args.line.now
    (λ fits. let is = c.fits_cuts.ensures.1 fits in absurd (cc (is, c.if-not-fits_cuts.true)))

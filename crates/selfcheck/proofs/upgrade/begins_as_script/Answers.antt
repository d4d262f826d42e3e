use Rattle.std.proofs.Common.{codes, drop}
use Rattle.std.proofs.lemmas.Bool.Decides.{Decides-eqb}
use Rattle.std.proofs.lemmas.Slice.Eq.{starts_is}
use Rattle.selfcheck.specs.Upgrade.{BeginsAsScript}
use Rattle.selfcheck.proofs.upgrade.begins_as_script.Goals as goal

pub returns : goal.returns
unfolding BeginsAsScript
returns c =
    let cases = starts_is Decides-eqb c.args.bytes.now
    (codes "script 1\n") c.starts_with.result c.starts_with.ensures.value in
    (λ yes. (drop 9 c.args.bytes.now, cases.0 yes), λ begun. cases.1 begun.0 begun.1)

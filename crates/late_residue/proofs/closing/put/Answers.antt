use Rattle.std.proofs.Common.{List, sym, subst}
use Rattle.late_residue.specs.Description.{Description}
use Rattle.late_residue.specs.declared.reached.Reached.{Reached}
use Rattle.late_residue.specs.Reached.{Has, description_of, descriptions_of}
use Rattle.late_residue.specs.Meaning.{Serves}
use Rattle.late_residue.proofs.Items.{grows-not}
use Rattle.late_residue.proofs.Meanings.{serves_means}
use Rattle.late_residue.proofs.closing.put.Goals as goal

pub returns-then-serve-clause-grows : goal.returns-then-serve-clause-grows
returns-then-serve-clause-grows c = grows-not (descriptions_of c.args.ones.now.items)

pub returns-then-serve-clause-means : goal.returns-then-serve-clause-means
returns-then-serve-clause-means c at means =
    let found = subst (λ (l : List Reached). (other : Description) × Has (descriptions_of l) other
    × Serves other (description_of c.args.one)) c.deref.ensures.value
    (c.serve.ensures.some c.if-serve.true) in (
      found.0,
      found.1,
      serves_means found.0 (description_of c.args.one) found.2 at means,
    )

pub add-requires : goal.add-requires
add-requires c other has serves = c.serve.ensures.none c.if-serve.false other
    (subst (λ (l : List Reached). Has (descriptions_of l) other) (sym c.deref.ensures.value) has)
    serves

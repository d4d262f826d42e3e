use Rattle.std.proofs.Common.{List, [], ◌∷◌, refl, sym, subst}
use Rattle.residue_laws.specs.Residue.{IsInResidue}
use Rattle.late_residue.specs.Description.{Description}
use Rattle.late_residue.specs.Reached.{Has, description_of, descriptions_of}
use Rattle.late_residue.specs.Meaning.{Serves}
use Rattle.late_residue.specs.declared.reached.Reached.{Reached}
use Rattle.late_residue.proofs.Items.{on_ok}
use Rattle.late_residue.proofs.Meanings.{serves_means, serves_narrower}
use Rattle.late_residue.proofs.Handling.{added_none, added_given, all_of_one}
use Rattle.late_residue.proofs.closing.admit.Goals as goal

pub returns-then-serve-clause-added : goal.returns-then-serve-clause-added
returns-then-serve-clause-added g c = added_none (g.O.SeqObject.spec c.args.object.now)
    c.args.calls.now c.args.returning.now c.args.reply _ (descriptions_of c.args.ones.now.items)
    (descriptions_of c.args.left.now.items)

pub returns-then-serve-clause-taken : goal.returns-then-serve-clause-taken
returns-then-serve-clause-taken g c at means =
    let found = subst (λ (l : List Reached). (other : Description) × Has (descriptions_of l) other
    × Serves other (description_of c.args.one)) c.deref.ensures.value
    (c.serve.ensures.some c.if-serve.true) in
    c.requires found.0 found.1 at (serves_means found.0 (description_of c.args.one) found.2 at means)

pub returns-clause-added : goal.returns-clause-added
returns-clause-added g c =
    let spec = g.O.SeqObject.spec c.args.object.now in
    on_ok c.take.result (λ added. added_given spec c.args.calls.now c.args.returning.now
    c.args.reply (description_of c.settle.new.one ∷ []) (description_of c.args.one ∷ [])
    (descriptions_of c.args.ones.now.items) (descriptions_of c.args.left.now.items)
    (descriptions_of c.take.new.ones.items) (descriptions_of c.take.new.left.items)
    (λ stream are reached given. all_of_one (IsInResidue spec stream) c.args.calls.now
    (description_of c.settle.new.one) (c.in_ok-settle.ensures.sound stream are
    (given (description_of c.args.one) (0, refl))))
    (added c.args.calls.now)) c.take.ensures.added

pub returns-clause-taken : goal.returns-clause-taken
returns-clause-taken g c =
    on_ok c.take.result (λ taken at means. taken at (c.in_ok-settle.ensures.wider.means at means))
    c.take.ensures.taken

pub take-requires : goal.take-requires
take-requires g c other has serves = c.serve.ensures.none c.if-serve.false other
    (subst (λ (l : List Reached). Has (descriptions_of l) other) (sym c.deref.ensures.value) has)
    (serves_narrower (description_of c.args.one) (description_of c.settle.new.one) other
    c.in_ok-settle.ensures.wider c.in_ok-settle.ensures.optional serves)

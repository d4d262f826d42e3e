-- However a stream goes on, its residue decides.
use Rattle.std.proofs.Common.{List, [], ◌∷◌, ◌++◌, subst}
use Rattle.book_base.specs.SeqSpec.{SeqSpec}
use Rattle.streams.specs.Stream.{StreamEvent}
use Rattle.streams.specs.StreamOrder.{StreamPlace, IsLegalStreamOrder, HasLegalStreamOrder}
use Rattle.residue_laws.specs.Residue.{Configuration, IsInResidue}
use Rattle.residue_laws.specs.Continuation.{IsContinuation}
use Rattle.residue_laws.specs.Laws.{ResiduesDecide, PrefixesHaveOne, OnlyReturnsRefute, ResiduesSettle}
use Rattle.streams.specs.Stream.{Called, Lost}
use Rattle.residue_laws.proofs.Fronts.{front_of, reaches_somewhere, front_is_legal, rest_continues}
use Rattle.residue_laws.proofs.Joining.{joined_is_legal}
use Rattle.streams.proofs.Pushing.{no_return-called, no_return-lost}
use Rattle.residue_laws.proofs.Events.{reaches-longer}

pub residues_decide : ResiduesDecide
residues_decide spec stream = (
  λ (order, legal). let at = reaches_somewhere spec stream order legal in (at.0, (order, at.1)),
  λ (at, (order, reaches)). (order, reaches.legal),
)

-- an order that is legal for a longer stream is a front that comes to a configuration of the
-- residue, and a continuation from there
pub splits : (spec : SeqSpec) (stream later : List StreamEvent)
    → HasLegalStreamOrder spec (stream ++ later)
    → (at : Configuration) × IsInResidue spec stream at
    × ((rest : List StreamPlace) × IsContinuation spec.next stream later at rest)
splits spec stream later (order, legal) =
    let cut = front_of stream order in
    let joined : IsLegalStreamOrder spec (stream ++ later) (cut.0 ++ cut.1) =
    subst (λ (o : List StreamPlace). IsLegalStreamOrder spec (stream ++ later) o) cut.2 legal in
    let front = front_is_legal spec stream later cut.0 cut.1 joined cut.3 cut.4 in
    let at = reaches_somewhere spec stream cut.0 front in (
      at.0,
      (cut.0, at.1),
      (cut.1, rest_continues spec stream later cut.0 cut.1 at.0 joined at.1 cut.4),
    )

pub prefixes_have_one : PrefixesHaveOne
prefixes_have_one spec stream later has =
    let found = splits spec stream later has in (found.1.0, found.1.1.legal)

pub residues_settle : ResiduesSettle
residues_settle spec stream later = (
  splits spec stream later,
  λ (at, (order, reaches), (rest, continues)).
      (order ++ rest, joined_is_legal spec stream later order rest at reaches continues),
)

pub only_returns_refute : OnlyReturnsRefute
only_returns_refute spec stream (order, legal) =
    let at = reaches_somewhere spec stream order legal in (
      λ process op. (
        order,
        (reaches-longer spec stream (Called process op ∷ []) order at.0
            (no_return-called stream process op) at.1).legal,
      ),
      λ process. (
        order,
        (reaches-longer spec stream (Lost process ∷ []) order at.0
            (no_return-lost stream process) at.1).legal,
      ),
    )

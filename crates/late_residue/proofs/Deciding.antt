-- Known replies decide as the residue does.
use Rattle.std.proofs.Common.{◌≡◌, ◌∙◌, ℕ, List, ◌++◌, Some, None, refl, sym, subst}
use Rattle.std.proofs.lemmas.Option.{none-some}
use Rattle.book_base.specs.SeqSpec.{SeqSpec}
use Rattle.streams.specs.Stream.{StreamEvent, Returns}
use Rattle.streams.specs.StreamOrder.{StreamPlace, IsLegalStreamOrder}
use Rattle.residue_laws.proofs.Appending.{among-left}
use Rattle.residue_laws.proofs.Fronts.{front_of, reaches_somewhere, front_is_legal}
use Rattle.late_residue.specs.declared.open_call.OpenCall.{OpenCall}
use Rattle.late_residue.specs.Description.{Description}
use Rattle.late_residue.specs.Reached.{Has}
use Rattle.late_residue.specs.Known.{AgreesWithKnown}
use Rattle.late_residue.specs.LateOnes.{AreLate}
use Rattle.late_residue.specs.Laws.{AreKnownFrom, WhereNothingIsKnown, KnownRepliesDecide}
use Rattle.late_residue.proofs.Items.{has-none}
use Rattle.late_residue.proofs.KnownReplies.{one_reply}
use Rattle.late_residue.proofs.Reaching.{residue_on}
use Rattle.late_residue.proofs.Events.{late_has}

none_and_some : (one : OpenCall) (known : ℕ) → one.reply ≡ None → one.reply ≡ Some known → ⊥
none_and_some one known none is = none-some known (sym none ∙ is)

pub where_nothing_is_known : WhereNothingIsKnown
where_nothing_is_known spec stream calls ones nothing late at = (
  λ residue. late.whole at residue (λ place among one has same known given.
      absurd (none_and_some one known (nothing one has) given)),
  λ (from, (one, has, means), (rest, placed)). residue_on spec stream from at rest
      ((late.reached one has).each from means) placed,
)

module _ (spec : SeqSpec) (stream later : List StreamEvent) (calls : List OpenCall)
    (known : AreKnownFrom stream later calls) (order : List StreamPlace)
    (legal : IsLegalStreamOrder spec (stream ++ later) order) where
  -- some description is of configurations that agree with the replies of a legal order
  agreeing_one : (ones : List Description) → AreLate spec stream calls ones
      → (one : Description) × Has ones one
  agreeing_one ones late =
      let cut = front_of stream order in
      let joined : IsLegalStreamOrder spec (stream ++ later) (cut.0 ++ cut.1) =
      subst (λ (o : List StreamPlace). IsLegalStreamOrder spec (stream ++ later) o) cut.2 legal in
      let front = front_is_legal spec stream later cut.0 cut.1 joined cut.3 cut.4 in
      let at = reaches_somewhere spec stream cut.0 front in
      let agrees : AgreesWithKnown calls at.0 = λ place placed one has same reply given.
      let returns = known one has reply given in
      let here : Returns (stream ++ later) place.call returns.0 reply =
      subst (λ (c : ℕ). Returns (stream ++ later) c returns.0 reply) same returns.1 in
      one_reply spec (stream ++ later) (cut.0 ++ cut.1) joined place
      (record { call = place.call; reply = reply })
      (among-left cut.0 cut.1 place ((at.1.placed place).0 placed).0)
      (joined.returned place.call returns.0 reply here) refl in
      let found = late.whole at.0 (cut.0, at.1) agrees in (found.1.0, found.1.1)

pub known_replies_decide : KnownRepliesDecide
known_replies_decide spec stream calls ones late = (
  λ one has. late_has spec stream calls ones late one has,
  λ later known none (order, legal).
      let found = agreeing_one spec stream later calls known order legal ones late in
      has-none found.0 (subst (λ (l : List Description). Has l found.0) none found.1),
)

-- Laws of residues, for every sequential object.
use Rattle.std.specs.Prelude.{ℕ, ◌↔◌, List, [], ◌∷◌, ◌++◌}
use Rattle.book_base.specs.SeqSpec.{SeqSpec}
use Rattle.streams.specs.Stream.{StreamEvent, Called, Lost, IsValidStream}
use Rattle.streams.specs.StreamOrder.{StreamPlace, HasLegalStreamOrder}
use Rattle.residue_laws.specs.Residue.{Configuration, IsInResidue}
use Rattle.residue_laws.specs.Step.{AreAlike, MayPlace, with_place, ArePlaced, StepsTo}
use Rattle.residue_laws.specs.Continuation.{IsContinuation, HaveTheSamePendingCalls}
use Rattle.residue_laws.specs.Late.{IsInLateResidue, StepsLateTo}
use Rattle.residue_laws.specs.Lookahead.{AgreesWith}

-- A stream has a legal order exactly where its residue has a configuration.
abbrev pub ResiduesDecide : Type 0
ResiduesDecide = (spec : SeqSpec) (stream : List StreamEvent)
    → (HasLegalStreamOrder spec stream ↔ ((at : Configuration) × IsInResidue spec stream at))

-- Where a stream has a legal order, each of its prefixes has one.
abbrev pub PrefixesHaveOne : Type 0
PrefixesHaveOne = (spec : SeqSpec) (stream later : List StreamEvent)
    → HasLegalStreamOrder spec (stream ++ later) → HasLegalStreamOrder spec stream

-- A stream that has a legal order still has one after a call, and after a loss.
abbrev pub OnlyReturnsRefute : Type 0
OnlyReturnsRefute = (spec : SeqSpec) (stream : List StreamEvent) → HasLegalStreamOrder spec stream
    → ((process op : ℕ) → HasLegalStreamOrder spec (stream ++ Called process op ∷ []))
    × ((process : ℕ) → HasLegalStreamOrder spec (stream ++ Lost process ∷ []))

-- The residue of the empty stream has the configurations at which no call is placed, and the list
-- is the object's first one.
abbrev pub EmptyResidue : Type 0
EmptyResidue = (spec : SeqSpec) (at : Configuration)
    → (IsInResidue spec [] at ↔ AreAlike (record { placed = []; list = spec.init }) at)

-- Where a call may be placed at a configuration of a residue, the residue has the configuration
-- after it too.
abbrev pub ResiduesAreClosed : Type 0
ResiduesAreClosed = (spec : SeqSpec) (stream : List StreamEvent) (at : Configuration)
    (place : StreamPlace) → IsInResidue spec stream at → MayPlace spec.next stream at place
    → IsInResidue spec stream (with_place spec.next stream at place)

-- The residue after one more event of a valid stream has exactly the configurations to which those
-- of the residue before it step.
abbrev pub ResiduesStep : Type 0
ResiduesStep = (spec : SeqSpec) (stream : List StreamEvent) (event : StreamEvent)
    (after : Configuration) → IsValidStream (stream ++ event ∷ [])
    → (IsInResidue spec (stream ++ event ∷ []) after
    ↔ ((at : Configuration) × IsInResidue spec stream at × StepsTo spec.next stream event at after))

-- However a stream continues, it has a legal order exactly where some configuration of its residue
-- has a legal continuation.
abbrev pub ResiduesSettle : Type 0
ResiduesSettle = (spec : SeqSpec) (stream later : List StreamEvent)
    → (HasLegalStreamOrder spec (stream ++ later)
    ↔ ((at : Configuration) × IsInResidue spec stream at
    × ((rest : List StreamPlace) × IsContinuation spec.next stream later at rest)))

-- Which continuations are legal from a configuration depends on the pending calls of the stream and
-- on the events that follow alone.
abbrev pub PendingCallsSettle : Type 0
PendingCallsSettle = (next : List ℕ → ℕ → List ℕ × ℕ) (one other later : List StreamEvent)
    (at : Configuration) (rest : List StreamPlace)
    → HaveTheSamePendingCalls one other
    → IsContinuation next one later at rest → IsContinuation next other later at rest

-- The residue has exactly the configurations to which calls that are placed at those of the late
-- residue lead.
abbrev pub LateResiduesSuffice : Type 0
LateResiduesSuffice = (spec : SeqSpec) (stream : List StreamEvent) (after : Configuration)
    → (IsInResidue spec stream after
    ↔ ((at : Configuration) × IsInLateResidue spec stream at
    × ((rest : List StreamPlace) × ArePlaced spec.next stream at rest after)))

-- The late residue after one more event of a valid stream has exactly the configurations to which
-- those of the late residue before it step late.
abbrev pub LateResiduesStep : Type 0
LateResiduesStep = (spec : SeqSpec) (stream : List StreamEvent) (event : StreamEvent)
    (after : Configuration) → IsValidStream (stream ++ event ∷ [])
    → (IsInLateResidue spec (stream ++ event ∷ []) after
    ↔ ((at : Configuration) × IsInLateResidue spec stream at
    × StepsLateTo spec.next stream event at after))

-- Of a residue, the configurations that agree with the returns of the next events are enough: the
-- stream has a legal order exactly where some of these has a legal continuation.
abbrev pub AgreeingOnesDecide : Type 0
AgreeingOnesDecide = (spec : SeqSpec) (stream window later : List StreamEvent)
    → (HasLegalStreamOrder spec (stream ++ (window ++ later))
    ↔ ((at : Configuration) × IsInResidue spec stream at × AgreesWith (stream ++ window) at
    × ((rest : List StreamPlace) × IsContinuation spec.next stream (window ++ later) at rest)))

-- A configuration of the residue after one more event that agrees with the returns of the next
-- events is reached by a step from one that agrees with them.
abbrev pub AgreeingOnesStep : Type 0
AgreeingOnesStep = (spec : SeqSpec) (stream : List StreamEvent) (event : StreamEvent)
    (later : List StreamEvent) (after : Configuration) → IsValidStream (stream ++ event ∷ [])
    → IsInResidue spec (stream ++ event ∷ []) after → AgreesWith (stream ++ event ∷ later) after
    → (at : Configuration) × IsInResidue spec stream at × AgreesWith (stream ++ event ∷ later) at
    × StepsTo spec.next stream event at after

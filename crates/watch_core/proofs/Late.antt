-- What is known of the late residue of a stream.
use Rattle.std.proofs.Common.{◌≡◌, ◌∙◌, ◌⊎◌, ℕ, Bool, true, false, List, [], ◌∷◌, ◌++◌, refl, sym, ap, subst, append_assoc, inl, inr}
use Rattle.std.proofs.lemmas.Option.{none-some}
use Rattle.book_base.specs.SeqSpec.{SeqSpec}
use Rattle.streams.specs.Stream.{StreamEvent, Called, Lost, IsValidStream, HasReturned, Returns}
use Rattle.streams.specs.StreamOrder.{StreamPlace, HasLegalStreamOrder}
use Rattle.streams.proofs.Returning.{returns-longer}
use Rattle.residue_laws.specs.Residue.{Configuration}
use Rattle.residue_laws.proofs.Stepping.{empty_residue}
use Rattle.residue_laws.proofs.Events.{alike_itself}
use Rattle.late_residue.specs.declared.open_call.OpenCall.{OpenCall}
use Rattle.late_residue.specs.Reached.{Has}
use Rattle.late_residue.specs.Known.{IsKnownPlace, AgreesWithKnown}
use Rattle.late_residue.specs.LateOnes.{AreLate}
use Rattle.late_residue.specs.Laws.{AreKnownFrom}
use Rattle.watch_core.specs.Table.{Derives}

-- a place agrees with what is known of calls from which others are derived
pub known-derived : (calls more : List OpenCall) → Derives calls more → (place : StreamPlace)
    → IsKnownPlace calls place → IsKnownPlace more place
known-derived calls more derives place agrees one has same known given =
    let old = derives one has known given in
    agrees old.0 old.1 (old.2 ∙ same) known old.3

-- and so does a configuration
pub agree-derived : (calls more : List OpenCall) → Derives calls more → (at : Configuration)
    → AgreesWithKnown calls at → AgreesWithKnown more at
agree-derived calls more derives at agrees place among =
    known-derived calls more derives place (agrees place among)

-- the empty stream is valid and has a legal order
pub valid_none : IsValidStream []
valid_none = record {
  calls = λ j k process op other less first second. absurd (none-some _ first);
  ends = λ end event at. absurd (none-some event at);
}

pub legal_none : (spec : SeqSpec) → HasLegalStreamOrder spec []
legal_none spec =
    let first : Configuration = record { placed = []; list = spec.init } in
    let found = (empty_residue spec first).1 (alike_itself first) in (found.0, found.1.legal)

pub known_further : (stream later near far : List StreamEvent) (calls : List OpenCall)
    → later ≡ near ++ far → AreKnownFrom stream near calls → AreKnownFrom stream later calls
known_further stream later near far calls parts known one has reply is =
    let r = known one has reply is in (
      r.0,
      subst (λ (s : List StreamEvent). Returns s one.call r.0 reply)
          (append_assoc stream near far ∙ ap (λ (l : List StreamEvent). stream ++ l) (sym parts))
          (returns-longer (stream ++ near) far one.call r.0 reply r.1),
    )

pub not_both : (b : Bool) → b ≡ true → b ≡ false → ⊥
not_both b is is_not = let clash : true ≡ false = sym is ∙ is_not in absurd cc

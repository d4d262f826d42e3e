-- The rounds of a monitor, one more at a time.
use Rattle.std.proofs.Common.{◌≡◌, ◌∙◌, refl, sym, ap, subst, ℕ, ◌+◌, ◌<◌, inl, inr, List, [], ◌∷◌, ◌++◌, length, None, Some, append_assoc, length-append, arith}
use Rattle.std.proofs.lemmas.List.{append-nil}
use Rattle.std.proofs.lemmas.Option.{none-some}
use Rattle.list_laws.proofs.Places.{slice_get-push_cases}
use Rattle.book_base.specs.SeqSpec.{SeqSpec}
use Rattle.world_core.specs.declared.region.Region.TheVariants.{M}
use Rattle.world_core.specs.Local.{Local, Given}
use Rattle.world_laws.specs.Gathering.{HasPeekedAll}
use Rattle.world_laws.proofs.Gathered.{gathered_stays}
use Rattle.collect_scan.specs.Given.{given_with}
use Rattle.monitor.specs.declared.witness.Witness.{Witness}
use Rattle.monitor.specs.Rounds.{HasScannedOnce, IsLegalAt, IsLegalRound, AreLegal, IsIllegalAt, HasMadeRounds, WasCutShort}
use Rattle.monitor.proofs.Resting.{grows_once}

module _ (spec : SeqSpec) (n : ℕ) where
  -- what was found of a book stays true while its caller peeks more
  pub legal_stays : (l m : Local) (cut : List ℕ) → HasPeekedAll l m → IsLegalAt spec n l cut
      → IsLegalAt spec n m cut
  legal_stays l m cut more h = record {
    book = h.book;
    gathered = gathered_stays n l m cut h.book more h.gathered;
    order = h.order;
  }

  pub illegal_stays : (l m : Local) (w : Witness) → HasPeekedAll l m → IsIllegalAt spec n l w
      → IsIllegalAt spec n m w
  illegal_stays l m w more h =
      record { gathered = gathered_stays n l m w.cut w.book more h.gathered; none = h.none }

  all_stay : (l m : Local) (rounds : List Given) → HasPeekedAll l m → AreLegal spec n l rounds
      → AreLegal spec n m rounds
  all_stay l m rounds more h k given there =
      let round = h k given there in
      record { region = round.region; legal = legal_stays l m given.cut more round.legal }

  -- legal rounds and a legal round after them are legal
  all_push : (l : Local) (rounds : List Given) (given : Given) → AreLegal spec n l rounds
      → IsLegalRound spec n l given → AreLegal spec n l (rounds ++ given ∷ [])
  all_push l rounds given h last k other there =
      elim (slice_get-push_cases rounds given k other there) [
        | inl old ↦ h k other old
        | inr new ↦ subst (IsLegalRound spec n l) (sym new.1) last
      ]

  cuts_after : (l m k : Local) (rounds : List Given) (given : Given) → m.cuts ≡ l.cuts ++ rounds
      → k.cuts ≡ m.cuts ++ given ∷ [] → k.cuts ≡ l.cuts ++ (rounds ++ given ∷ [])
  cuts_after l m k rounds given before now = now ∙ ap
      (λ (cuts : List Given). cuts ++ given ∷ []) before ∙ append_assoc l.cuts rounds (given ∷ [])

  -- the rounds of a monitor that made none
  pub no_round : (l : Local) → HasMadeRounds spec n 0 l l None
  no_round l = record {
    rounds = [];
    cuts = sym (append-nil l.cuts);
    are = (refl, λ k given there. absurd (none-some given there));
    progress = refl;
  }

  -- after i rounds, a legal round makes i + 1 rounds
  pub one_more_legal : (i : ℕ) (cut : List ℕ) (l m k : Local) → HasMadeRounds spec n i l m None
      → HasScannedOnce cut m k → IsLegalAt spec n k cut → HasMadeRounds spec n (i + 1) l k None
  one_more_legal i cut l m k made once legal =
      let given : Given = given_with m M cut in
      record {
        rounds = made.rounds ++ given ∷ [];
        cuts = cuts_after l m k made.rounds given made.cuts once.adds.cuts;
        are = (
          omega (arith, length-append made.rounds (given ∷ []), made.are.0),
          all_push k made.rounds given
              (all_stay m k made.rounds (grows_once cut m k once).peeked made.are.1)
              (record { region = refl; legal = legal }),
        );
        progress = once.progress ∙ made.progress;
      }

  -- the first illegal round ends the rounds with its witness
  pub the_illegal : (i most : ℕ) (w : Witness) (l m k : Local) → i < most
      → HasMadeRounds spec n i l m None → HasScannedOnce w.cut m k → IsIllegalAt spec n k w
      → HasMadeRounds spec n most l k (Some w)
  the_illegal i most w l m k low made once illegal =
      let given : Given = given_with m M w.cut in
      record {
        rounds = made.rounds ++ given ∷ [];
        cuts = cuts_after l m k made.rounds given made.cuts once.adds.cuts;
        are = (
          omega (arith, low, length-append made.rounds (given ∷ []), made.are.0),
          record {
            before = made.rounds;
            since = length m.looked;
            is = refl;
            legal = all_stay m k made.rounds (grows_once w.cut m k once).peeked made.are.1;
            illegal = illegal;
          },
        );
        progress = once.progress ∙ made.progress;
      }

  -- want of memory in a round after legal ones
  pub the_short : (i most : ℕ) (cut : List ℕ) (l m k : Local) → i < most
      → HasMadeRounds spec n i l m None → HasScannedOnce cut m k → WasCutShort spec n most l k
  the_short i most cut l m k low made once =
      let given : Given = given_with m M cut in
      record {
        before = made.rounds;
        last = given;
        cuts = cuts_after l m k made.rounds given made.cuts once.adds.cuts;
        few = omega (arith, low, made.are.0);
        legal = all_stay m k made.rounds (grows_once cut m k once).peeked made.are.1;
        region = refl;
        progress = once.progress ∙ made.progress;
      }

-- All passes come back to one seat: they know prefixes of one history.
use Rattle.std.proofs.Common.{◌≡◌, ℕ, ◌<◌, List, [], ◌∷◌, length, map, get_or, Some, refl, sym, ap, ◌∙◌, subst}
use Rattle.std.specs.List.{All, range_with_len}
use Rattle.std.proofs.lemmas.List.{nil_from_length}
use Rattle.std.proofs.lemmas.List.Elements.{All-nil, All-map, All-weaker}
use mathlib.Core.Option.{some}
use mathlib.Core.List.{IsPrefix}
use lib.ListN.{get_elem?}
use Rattle.atomic_table.specs.Table.{Final, Seen}
use Rattle.row_table.specs.Holders.{has}
use Rattle.shared_words.proofs.Coming.{IsComing, all_hands}
use Rattle.shared_words.specs.declared.shared_words.SharedWords.{SharedWords}
use Rattle.shared_words.specs.declared.words_pass.WordsPass.{WordsPass}
use Rattle.shared_words.specs.Deeds.{Deed, AreCalls}
use Rattle.shared_words.specs.Histories.{Access, View, deeds_by}
use Rattle.shared_words.specs.Passes.{seat_in, deeds_of, caller_of_pass, history_in, pairs_in, transcript_of, IsSeatOf, IsPassOf, IsOneHistory}
use Rattle.shared_words.specs.Transcripts.{Transcript, AreOfOneHistory}
use Rattle.shared_words.specs.Rule.{HaveOneHistory, Ruled}
use Rattle.shared_words.proofs.Histories.{lawful_none}

-- what the rule says of passes whose callers are with one seat
knows : (may : ℕ → Deed → Type 0) (n count id : ℕ) (v : View) (passes : List WordsPass)
    (words : List ℕ) (views : List View) (r : HaveOneHistory may n count words views)
    → get_elem? views id ≡ some v
    → All (λ p. has v (caller_of_pass p) ≡ Some (history_in p)) passes
    → IsOneHistory may n r.history passes
knows may n count id v passes words views r at hands =
    record {
      callers = r.callers;
      lawful = r.lawful;
      prefixes = All-weaker (λ p. has v (caller_of_pass p) ≡ Some (history_in p))
          (λ p. IsPrefix (history_in p) r.history)
          (λ p here. (r.hands.held (caller_of_pass p) id v (history_in p) at here).1.prefix)
          passes hands;
      deeds = All-weaker (λ p. has v (caller_of_pass p) ≡ Some (history_in p))
          (λ p. deeds_by (caller_of_pass p) r.history ≡ deeds_of p.seat)
          (λ p here. (r.hands.held (caller_of_pass p) id v (history_in p) at here).1.own)
          passes hands;
    }

-- where all passes came back, the closed table determines their one history
pub closed : {U : Type 0} (may : ℕ → Deed → Type 0) (w : SharedWords U) (id : ℕ) (v : View)
    (all rest : List WordsPass) (ws : List ℕ) (homes : List (Unit {0}))
    → IsComing caller_of_pass history_in w.callers all rest v → length rest ≡ 0
    → Final (Seen (Ruled may w.table.shared.key.callers w.table.shared.key.count) id v) ws homes
    → (history : List Access) × IsOneHistory may w.callers history all
closed may w id v all rest ws homes h none final =
    let seen = final.1 in (
      seen.0.history,
      subst (λ (n : ℕ). IsOneHistory may n seen.0.history all) w.sized.2
          (knows may w.table.shared.key.callers w.table.shared.key.count id v all final.0.words
          final.0.views seen.0 seen.1
          (all_hands caller_of_pass history_in w.callers all rest v h none)),
    )

-- without callers there is no access
pub closed_without : (may : ℕ → Deed → Type 0) (n : ℕ) (passes : List WordsPass) → length passes ≡ 0
    → (history : List Access) × IsOneHistory may n history passes
closed_without may n passes none =
    let no_history : IsOneHistory may n [] [] =
    record {
      callers = All-nil (λ (a : Access). a.caller < n);
      lawful = lawful_none may [] refl;
      prefixes = All-nil (λ (p : WordsPass). IsPrefix (history_in p) []);
      deeds = All-nil (λ (p : WordsPass). deeds_by (caller_of_pass p) [] ≡ deeds_of p.seat);
    } in (
      [],
      subst (λ (ps : List WordsPass). IsOneHistory may n [] ps)
          (sym (nil_from_length passes none)) no_history,
    )

-- the calls of the passes are of that one history
calls_from : (call : ℕ → ℕ → ℕ → List Deed → List Deed → Type 0) (history : List Access)
    (p : WordsPass) → AreCalls (call (caller_of_pass p)) (pairs_in p) [] (deeds_of p.seat)
    → deeds_by (caller_of_pass p) history ≡ deeds_of p.seat
    → AreCalls (call (caller_of_pass p)) (pairs_in p) [] (deeds_by (caller_of_pass p) history)
calls_from call history p calls same = subst
    (λ (ds : List Deed). AreCalls (call (caller_of_pass p)) (pairs_in p) [] ds) (sym same) calls

both : (P Q R : WordsPass → Type 0) → ((p : WordsPass) → P p → Q p → R p)
    → (passes : List WordsPass) → All P passes → All Q passes → All R passes
both P Q R gives passes ps qs k d low = gives (get_or passes k d) (ps k d low) (qs k d low)

-- the transcripts are of the passes' callers
callers_told : (passes : List WordsPass)
    → map (λ (t : Transcript). t.caller) (map transcript_of passes) ≡ map caller_of_pass passes
callers_told [] = refl
callers_told (p ∷ passes) = ap (λ (ids : List ℕ). caller_of_pass p ∷ ids) (callers_told passes)

pub of_one_history : {U : Type 0} (may : ℕ → Deed → Type 0)
    (call : ℕ → ℕ → ℕ → List Deed → List Deed → Type 0) (w : SharedWords U) (n : ℕ)
    (history : List Access) (passes : List WordsPass)
    → map caller_of_pass passes ≡ range_with_len 0 n
    → All (IsPassOf may call w) passes → IsOneHistory may n history passes
    → AreOfOneHistory may call n history (map transcript_of passes)
of_one_history may call w n history passes all own one =
    record {
      all = callers_told passes ∙ all;
      callers = one.callers;
      lawful = one.lawful;
      calls =
          All-map
          (λ (t : Transcript). AreCalls (call t.caller) t.pairs [] (deeds_by t.caller history))
          transcript_of passes
          (both (IsPassOf may call w) (λ p. deeds_by (caller_of_pass p) history ≡ deeds_of p.seat)
          (λ p.
          AreCalls (call (caller_of_pass p)) (pairs_in p) [] (deeds_by (caller_of_pass p) history))
          (λ p is same. calls_from call history p is.calls same) passes own one.deeds);
    }

-- the seats of passes that are these words'
pub seats_of : {U : Type 0} (may : ℕ → Deed → Type 0)
    (call : ℕ → ℕ → ℕ → List Deed → List Deed → Type 0) (w : SharedWords U)
    (passes : List WordsPass) → All (IsPassOf may call w) passes
    → All (λ p. IsSeatOf may w (seat_in p)) passes
seats_of may call w passes own =
    All-weaker (IsPassOf may call w) (λ p. IsSeatOf may w (seat_in p)) (λ p is. is.seat) passes own

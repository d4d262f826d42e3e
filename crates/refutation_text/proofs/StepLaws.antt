-- What the steps of a refutation leave: each part is evidence of the part before.
use Rattle.std.proofs.Common.{◌≡◌, ℕ, zero, suc, ◌≤◌, ◌∙◌, min, List, length, get_or, sym, ap, subst, inl, arith}
use Rattle.std.specs.List.{range_with_len}
use Rattle.std.proofs.lemmas.List.{length-map}
use Rattle.std.proofs.lemmas.List.FromFn.{length-range_with_len, length-map-range_with_len}
use Rattle.book_base.specs.declared.call.Call.{Call}
use Rattle.book_base.specs.Cut.{IsWithin}
use Rattle.book_base.specs.Book.{Page, calls_of, answers_of, answered, IsValid}
use Rattle.book_base.specs.Order.{HasLegalOrder}
use Rattle.book_base.specs.Pruning.{HasOneOpen}
use Rattle.book_base.proofs.ViewLemmas.{answered_at}
use Rattle.legal_orders.proofs.BookAtLaws.{is_the_only_one}
use Rattle.seq_objects.specs.declared.kind.Kind.{Kind}
use Rattle.seq_objects.specs.declared.kind.Kind.TheVariants as kinds
use Rattle.seq_objects.specs.Objects.{kind_next, kind_spec}
use Rattle.smaller_book.specs.Part.{numbers_of, count_below, original, IsPart}
use Rattle.smaller_book.specs.Numbers.{picked, AreNumbersOf}
use Rattle.smaller_book.specs.Keys.{KeysMayGo}
use Rattle.smaller_book.specs.Earliest.{all_numbers}
use Rattle.smaller_book.specs.ReadOnly.{IsReadOnly}
use Rattle.smaller_book.specs.OneKey.{LacksUnseen}
use Rattle.smaller_book.specs.Evidence.{IsEvidence}
use Rattle.smaller_book.proofs.LeastCuts.{numbers_of-all}
use Rattle.smaller_book.proofs.Removing.{all_but_are_numbers, lacks_one}
use Rattle.smaller_book.proofs.PassingRows.{passing_are_numbers}
use Rattle.smaller_book.proofs.KeyRows.{all_without_are_numbers}
use Rattle.smaller_book.proofs.PartsOfParts.{numbers_of-composed}
use Rattle.smaller_book.proofs.Settings.{words_tell}
use Rattle.smaller_book.proofs.Steps.{cut_evidence, keys_evidence, unseen_evidence, evidence_part}
use Rattle.smaller_book.proofs.Evidence.{evidence_tells}
use Rattle.refutation_text.specs.Said.{StepSaid, At, Keys, Leave, Keep}
use Rattle.refutation_text.specs.Steps.{AreNamesOf, is_listed, all_listed, keys_gone, IsCutOf, HasPlaces, IsStep, Leaves, LeaveAfter}
use Rattle.refutation_text.specs.Laws.{StepsLeaveALegalOrder}

min-right : (m n : ℕ) → min m n ≤ n
min-right m n = omega arith

-- the cut of a step is within the records of its part
pub cut_within : (names : List (List ℕ)) (part : List Page) (counts cut : List ℕ)
    → IsCutOf names part counts cut → IsWithin cut (answered part)
cut_within names part counts cut at i = omega (
  arith,
  at.count i,
  answered_at part i,
  min-right (count_below (numbers_of names i) (get_or counts i 0)) (answers_of part i),
)

-- keys may go where each view holds at most one unanswered call of each caller
keys_may_go : (kind : Kind) (book : List Page) → HasOneOpen book → KeysMayGo kind book
keys_may_go kinds.Queue book one = one
keys_may_go kinds.Stack book one = one
keys_may_go kinds.Pqueue book one = one
keys_may_go kinds.IntSet book one = tt
keys_may_go kinds.Map book one = tt
keys_may_go kinds.Register book one = tt
keys_may_go kinds.Counter book one = tt
keys_may_go kinds.CasRegister book one = tt

-- the places of listed calls are rising numbers of calls of the part, a list for each caller
pub all_listed_are_numbers : (names : List (List ℕ)) (calls : List Call) (part : List Page)
    → AreNumbersOf part (all_listed names calls part)
all_listed_are_numbers names calls part = passing_are_numbers
    (λ (i number : ℕ). is_listed calls (original names (record { caller = i; number = number })))
    part

-- a part that lacks only read-only and unseen calls of a part is evidence of it
lacking_evidence : (kind : Kind) (part : List Page) (places : List (List ℕ)) (left : List Page)
    → IsValid part → IsValid left → length places ≡ length part → HasPlaces part places left
    → LacksUnseen kind part places → IsEvidence kind part places left
lacking_evidence kind part places left valid still wide has lacks =
    unseen_evidence kind part places left valid still (record {
      wide = wide;
      is_part = has.is_part;
      answers = has.answers;
      unseen = lacks;
    })

-- the part that a step leaves is evidence of the part before
pub step_evidence : (kind : Kind) (names : List (List ℕ)) (part : List Page) (step : StepSaid)
    (places : List (List ℕ)) (left : List Page) → IsValid part → IsValid left
    → IsStep kind names part step places left → IsEvidence kind part places left
step_evidence kind names part (At counts) places left valid still (none, at, named) =
    subst (λ (ns : List (List ℕ)). IsEvidence kind part ns left) (sym named)
    (cut_evidence kind part left valid (record {
      cut = at.0;
      within = cut_within names part counts at.0 at.1;
      at_cut = is_the_only_one part at.0 left valid at.2;
    }))
step_evidence kind names part (Keys these keys) places left valid still (one, named, has) =
    keys_evidence kind part places left valid still (record {
      may_go = keys_may_go kind part one;
      keys = keys_gone these keys;
      named = named;
      is_part = has.is_part;
      answers = has.answers;
    })
step_evidence kind names part (Leave called) places left valid still
    (call, is, leaves, named, has) =
    lacking_evidence kind part places left valid still
    (ap length named ∙ (all_but_are_numbers part call is.inside).wide) has
    (subst (LacksUnseen kind part) (sym named)
    (λ other there unnamed. inl (lacks_one (IsReadOnly (kind_next kind) part) part call
    is.inside leaves other there unnamed)))
step_evidence kind names part (Keep calls) places left valid still (there, lacks, named, has) =
    lacking_evidence kind part places left valid still
    (ap length named ∙ (all_listed_are_numbers names calls part).wide) has
    (subst (LacksUnseen kind part) (sym named)
    (words_tell kind part (all_listed names calls part) lacks))

-- the places of a step are a list for each caller
pub places_wide : (kind : Kind) (names : List (List ℕ)) (part : List Page) (step : StepSaid)
    (places : List (List ℕ)) (left : List Page) → IsStep kind names part step places left
    → length places ≡ length left
places_wide kind names part (At counts) places left (none, at, named) =
    let rows : ℕ → List ℕ = λ i. range_with_len 0 (calls_of left i) in
    ap length named ∙ length-map-range_with_len rows 0 (length left)
places_wide kind names part (Keys these keys) places left (one, named, has) =
    ap length named
    ∙ ((all_without_are_numbers kind (keys_gone these keys) part).wide
    ∙ sym has.is_part.callers)
places_wide kind names part (Leave called) places left (call, is, leaves, named, has) =
    ap length named ∙ ((all_but_are_numbers part call is.inside).wide ∙ sym has.is_part.callers)
places_wide kind names part (Keep calls) places left (there, lacks, named, has) =
    ap length named ∙ ((all_listed_are_numbers names calls part).wide ∙ sym has.is_part.callers)

-- numbers go with the part that a step leaves
pub leaves_names : (kind : Kind) (names : List (List ℕ)) (part : List Page) (step : StepSaid)
    (after : List (List ℕ)) (left : List Page) → IsValid part
    → Leaves kind names part step after left → AreNamesOf after left
leaves_names kind names part step after left valid (places, is, named, still) =
    let part_is : IsPart part places left = evidence_part kind part places left
    (step_evidence kind names part step places left valid still is) in
    let rows : ℕ → List ℕ = λ i. picked (numbers_of names i) (numbers_of places i) in
    record {
      valid = still;
      wide = ap length named ∙ (length-map-range_with_len rows 0 (length places)
          ∙ places_wide kind names part step places left is);
      inside = λ i k room. omega (
        arith,
        room,
        part_is.calls i,
        length-map (numbers_of places i) (λ (place : ℕ). get_or (numbers_of names i) place 0),
        ap length (numbers_of-composed names places i),
        ap (λ (ns : List (List ℕ)). length (numbers_of ns i)) named,
      );
    }

-- numbers go with a book
pub whole_names : (book : List Page) → IsValid book → AreNamesOf (all_numbers book) book
whole_names book valid =
    let rows : ℕ → List ℕ = λ i. range_with_len 0 (calls_of book i) in
    record {
      valid = valid;
      wide = length-map-range_with_len rows 0 (length book);
      inside = λ i k room. omega (
        arith,
        room,
        ap length (numbers_of-all book i),
        length-range_with_len 0 (calls_of book i),
      );
    }

-- the parts that steps leave are valid, and numbers go with them
pub after_names : (kind : Kind) (book : List Page) (steps : List StepSaid) (s : ℕ)
    (names : List (List ℕ)) (part : List Page) → LeaveAfter kind book steps s names part
    → AreNamesOf names part
after_names kind book steps zero names part (valid, named, same) =
    subst (λ (b : List Page). AreNamesOf names b) (sym same)
    (subst (λ (ns : List (List ℕ)). AreNamesOf ns book) (sym named) (whole_names book valid))
after_names kind book steps (suc s) names part (step, before, whole, there, earlier, leaves) =
    leaves_names kind before whole step names part
    (after_names kind book steps s before whole earlier).valid leaves

-- where a book has a legal order, each part that steps leave of it has one
pub steps_leave : StepsLeaveALegalOrder
steps_leave kind book part steps zero names (valid, named, same) legal =
    subst (HasLegalOrder (kind_spec kind)) (sym same) legal
steps_leave kind book part steps (suc s) names (step, before, whole, there, earlier, leaves) legal =
    evidence_tells kind whole leaves.0 part
    (step_evidence kind before whole step leaves.0 part
    (after_names kind book steps s before whole earlier).valid leaves.3 leaves.1)
    (steps_leave kind book whole steps s before earlier legal)

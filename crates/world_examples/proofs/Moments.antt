-- Which cuts of worked scans are instantaneous, and which aren't.
use Rattle.std.proofs.Common.{◌≡◌, ℕ, List, [], ◌∷◌, ◌++◌, drop, take, slice_index, refl, ap}
use Rattle.world_core.specs.declared.region.Region.TheVariants.{N, M}
use Rattle.world_core.specs.World.{Step, end_of}
use Rattle.world_core.specs.Snapshot.{counts_in, IsInstantaneous}
use Rattle.world_examples.specs.Schedules.{pair, trio, three_collects, moved_again, borrowed, borrowing_span, span_beside_stages, single, span_after_announcement, given_alone}

-- the cut with the count 1 was the counts of N right after the scan's first look
pub instantaneous_alone : IsInstantaneous single (given_alone N 1) span_after_announcement
instantaneous_alone = ([], [], refl, refl)

-- between the two looks of the scan there is no step, and the counts of N were then not the cut 0
before_by : (early late : List Step) → [] ≡ early ++ late
    → counts_in single N
    (end_of single (span_after_announcement.before ++ span_after_announcement.first ∷ early))
    ≡ 0 ∷ [] → ⊥
before_by [] late parts is = let never : 1 ≡ 0 = ap (λ (c : List ℕ). slice_index c 0) is in
    absurd cc
before_by (x ∷ early) late parts is = absurd cc

-- between the two looks of the scan there is no step, and the counts of M were then not the cut 1
answers_by : (early late : List Step) → [] ≡ early ++ late
    → counts_in single M
    (end_of single (span_after_announcement.before ++ span_after_announcement.first ∷ early))
    ≡ 1 ∷ [] → ⊥
answers_by [] late parts is = let never : 0 ≡ 1 = ap (λ (c : List ℕ). slice_index c 0) is in
    absurd cc
answers_by (x ∷ early) late parts is = absurd cc

-- the cut with the count 0, which was the counts of N before the scan, isn't instantaneous
pub not_before : IsInstantaneous single (given_alone N 0) span_after_announcement → ⊥
not_before (early, late, parts, is) = before_by early late parts is

-- the cut with the count 1, which was the counts of N, isn't instantaneous as a cut of M
pub not_of_answers : IsInstantaneous single (given_alone M 1) span_after_announcement → ⊥
not_of_answers (early, late, parts, is) = answers_by early late parts is

-- the borrowed cut was the counts of N after the three collects, before caller 0 announced again
pub instantaneous_borrowed : IsInstantaneous trio
    (record { region = N; cut = 1 ∷ 1 ∷ 0 ∷ []; since = 0 }) borrowing_span
instantaneous_borrowed = (drop 1 three_collects, moved_again ++ take 7 borrowed, refl, refl)

-- the cut of the scan beside stages was the counts of N right after the scan's first look
pub instantaneous_beside : IsInstantaneous pair
    (record { region = N; cut = 0 ∷ 1 ∷ []; since = 0 }) span_beside_stages
instantaneous_beside = ([], span_beside_stages.between, refl, refl)

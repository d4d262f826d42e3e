-- Which cuts worked spans don't give, by the part of the definition that fails.
use Rattle.std.proofs.Common.{◌≡◌, true, false, List, slice_index, slice_index_or, ap, arith}
use Rattle.world_core.specs.declared.region.Region.TheVariants.{N}
use Rattle.world_core.specs.Local.{Given}
use Rattle.world_core.specs.Snapshot.{GivesCut}
use Rattle.world_examples.specs.Schedules.{single, span_after_announcement, given_alone}
use Rattle.world_examples.specs.Parts.{span_of_no_run, span_begun_before, span_given_up, given_since}

-- false isn't true
fails : false ≡ true → ⊥
fails e = absurd cc

-- steps that are no run are no span in which a scan gives a cut
pub no_run : GivesCut single 0 (given_since 0) span_of_no_run → ⊥
no_run g = fails g.run

-- a scan gives no cut in a span whose first step began no scan
pub not_begun : GivesCut single 0 (given_since 2) span_begun_before → ⊥
not_begun g = fails g.begins

-- a scan gives no cut in a span in which it was given up
pub not_kept : GivesCut single 0 (given_since 3) span_given_up → ⊥
not_kept g = fails g.keeps

-- a scan that found the count 1 doesn't give the cut with the count 0
pub other_cut : GivesCut single 0 (given_alone N 0) span_after_announcement → ⊥
other_cut g = let counts : 1 ≡ 0 =
    ap (λ (cuts : List Given). slice_index (slice_index_or cuts 1 (given_since 0)).cut 0) g.ends in
    omega (arith, counts)

-- a scan before which two counts were looked at doesn't give its cut as one after a single look
pub other_time : GivesCut single 0 (given_since 1) span_after_announcement → ⊥
other_time g = let times : 2 ≡ 1 =
    ap (λ (cuts : List Given). (slice_index_or cuts 1 (given_since 0)).since) g.ends in
    omega (arith, times)

use Rattle.std.proofs.Common.{◌≡◌, ◌++◌, map}
use Rattle.std.specs.List.{All}
use Rattle.std.specs.Vec.Iter.{into_iter_items, into_iter_len}
use Rattle.hunts.specs.Listing.{pass_in, IsEmptyListing}
use Rattle.hunts.proofs.listed.listing_all.Given as goal

abbrev pub invariant-loop-pass : goal.invariant-loop-pass
invariant-loop-pass g l =
    record {
      passes : map pass_in l.listing.items ++ into_iter_items l.rest ≡ l.fn.passes.items;
      empty : All (IsEmptyListing g.P.ObjectPass.cap) l.listing.items;
    }

abbrev pub decreases-loop-pass : goal.decreases-loop-pass
decreases-loop-pass g l = into_iter_len l.rest

use Rattle.hunts.proofs.Listings.{listing_unused}
use Rattle.hunts.proofs.listed.Listed.new.Goals as goal

pub returns-clause-unused : goal.returns-clause-unused
returns-clause-unused g c =
    listing_unused _ _ _ _ _ _ _ c.in_ok-listing.ensures.passes c.in_ok-listing.ensures.empty
    c.requires.passes

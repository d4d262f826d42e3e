-- Passes that list their calls, and objects that are called with them.
use Rattle.std.proofs.Common.{◌≡◌, ◌∙◌, sym, ap, ℕ, ◌≤◌, List, [], Some, length, vec_capacity}
use Rattle.std.proofs.lemmas.Option.{same_Some}
use Rattle.hunts.specs.declared.listing_pass.ListingPass.{ListingPass}
use Rattle.hunts.specs.declared.listed.Listed.{Listed}

module _ {T : Type 0} where
  -- The pass whose calls are listed.
  abbrev pub pass_in : ListingPass T → T
  pass_in listing = listing.pass

  -- The operation and the reply of each call that was made with a pass, in order.
  abbrev pub calls_of : ListingPass T → List (ℕ × ℕ)
  calls_of listing = listing.calls.items

  -- The listed pass is an object's own, its list has one pair for each call that was made with it,
  -- and there is memory for a pair for each call that it may make.
  pub record IsListing (is_own : T → Type 0) (made cap : T → ℕ)
      (listing : ListingPass T) : Type 0 where
    pub own : is_own (pass_in listing)
    pub count : length (calls_of listing) ≡ made (pass_in listing)
    pub room : cap (pass_in listing) ≤ vec_capacity listing.calls

  -- The list of a listing pass is empty, and there is memory for a pair for each call that the
  -- listed pass may make.
  pub record IsEmptyListing (cap : T → ℕ) (listing : ListingPass T) : Type 0 where
    pub calls : calls_of listing ≡ []
    pub room : cap (pass_in listing) ≤ vec_capacity listing.calls

  -- The list of an object's listing pass has as many pairs as calls were made with it.
  pub lists_each : (is_own : T → Type 0) (made cap : T → ℕ) (listing : ListingPass T)
      (pairs : List (ℕ × ℕ)) → IsListing is_own made cap listing
      → Some (calls_of listing) ≡ Some pairs → length pairs ≡ made (pass_in listing)
  lists_each is_own made cap listing pairs own told =
      sym (ap (λ (l : List (ℕ × ℕ)). length l) (same_Some (calls_of listing) pairs told))
      ∙ own.count

-- The object that is called with listing passes.
abbrev pub object_in : {B : Type 0} → Listed B → B
object_in listed = listed.object

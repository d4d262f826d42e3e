-- Passes that are given empty lists of calls.
use Rattle.std.proofs.Common.{◌≡◌, ◌∙◌, sym, ap, subst, ℕ, ◌<◌, ◌++◌, List, [], ◌∷◌, Some, length, map, get_or, slice_get, append_assoc}
use Rattle.std.specs.Prelude.{option_map}
use Rattle.std.specs.List.{All}
use Rattle.std.proofs.lemmas.List.{append-nil, map-append, length-map, nil_from_length}
use Rattle.std.proofs.lemmas.Option.{slice_get-map, slice_get_within, get_or_from_slice_get}
use Rattle.run_report.specs.Passes.{AreUnusedPasses}
use Rattle.hunts.specs.declared.listing_pass.ListingPass.{ListingPass}
use Rattle.hunts.specs.Listing.{pass_in, calls_of, IsListing, IsEmptyListing}

module _ {T : Type 0} where
  -- one pass more of all has its list
  pub listing_more : (all left left' : List T) (listing new : List (ListingPass T))
      (one : ListingPass T) (pass : T) → map pass_in listing ++ left ≡ all → left ≡ pass ∷ left'
      → new ≡ listing ++ one ∷ [] → pass_in one ≡ pass → map pass_in new ++ left' ≡ all
  listing_more all left left' listing new one pass so_far next is own =
      ap (λ (ls : List (ListingPass T)). map pass_in ls ++ left') is
      ∙ ap (λ (ps : List T). ps ++ left') (map-append pass_in listing (one ∷ []))
      ∙ append_assoc (map pass_in listing) (pass_in one ∷ []) left'
      ∙ ap (λ (p : T). map pass_in listing ++ p ∷ left') own
      ∙ ap (λ (ps : List T). map pass_in listing ++ ps) (sym next) ∙ so_far

  -- all passes have their lists
  pub listing_whole : (all left : List T) (listing : List (ListingPass T))
      → map pass_in listing ++ left ≡ all → length left ≡ 0 → map pass_in listing ≡ all
  listing_whole all left listing so_far none = sym (append-nil (map pass_in listing)) ∙ ap
      (λ (ps : List T). map pass_in listing ++ ps) (sym (nil_from_length left none)) ∙ so_far

  -- unused passes with empty lists are unused
  pub listing_unused : (is_own : T → Type 0) (caller made cap : T → ℕ)
      (operations : List (List ℕ)) (passes : List T) (listing : List (ListingPass T))
      → map pass_in listing ≡ passes → All (IsEmptyListing cap) listing
      → AreUnusedPasses is_own caller made cap operations passes
      → AreUnusedPasses (IsListing is_own made cap) (λ l. caller (pass_in l))
      (λ l. made (pass_in l)) (λ l. cap (pass_in l)) operations listing
  listing_unused is_own caller made cap operations passes listing same empty unused = record {
    as_many = sym (length-map listing pass_in) ∙ ap (λ (ps : List T). length ps) same
        ∙ unused.as_many;
    each = λ i one there.
        let found : slice_get passes i ≡ Some (pass_in one) =
        ap (λ (ps : List T). slice_get ps i) (sym same) ∙ slice_get-map pass_in listing i
        ∙ ap (option_map pass_in) there in
        let was = unused.each i (pass_in one) found in
        let fresh = subst (IsEmptyListing cap) (get_or_from_slice_get listing i one one there)
        (empty i one (slice_get_within listing i one there)) in
        record {
          own = record {
            own = was.own;
            count = ap (λ (l : List (ℕ × ℕ)). length l) fresh.calls ∙ sym was.none;
            room = fresh.room;
          };
          of = was.of;
          none = was.none;
          enough = was.enough;
        };
  }

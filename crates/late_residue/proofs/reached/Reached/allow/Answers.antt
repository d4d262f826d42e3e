use Rattle.std.proofs.Common.{◌≡◌, ◌∙◌, List, [], ◌∷◌, ◌++◌, map, refl, ap}
use Rattle.residue_laws.proofs.Appending.{map-both}
use Rattle.late_residue.specs.declared.reached.Placed.{Placed}
use Rattle.late_residue.specs.Reached.{place_of}
use Rattle.late_residue.proofs.Meanings.{among-push}
use Rattle.late_residue.proofs.reached.Reached.allow.Goals as goal

pub returns : goal.returns
returns c = record {
  list = refl;
  placed = refl;
  optional = λ q.
      let images : map place_of c.push.new.self.items
      ≡ map place_of c.args.self.now.optional.items ++ place_of c.args.place ∷ [] =
      ap (λ (ps : List Placed). map place_of ps) c.in_ok-push.ensures.items
      ∙ map-both place_of c.args.self.now.optional.items (c.args.place ∷ []) in
      among-push (map place_of c.args.self.now.optional.items)
      (map place_of c.push.new.self.items) (place_of c.args.place) q images;
}

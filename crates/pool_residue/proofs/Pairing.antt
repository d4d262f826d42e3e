-- Items that are taken of open puts, one for each pair.
use Rattle.std.proofs.Common.{◌≡◌, zero, suc, List, [], ◌∷◌, ◌++◌, map, refl, ap, subst}
use Rattle.std.proofs.lemmas.Option.{same_Some}
use Rattle.late_residue.specs.declared.open_call.OpenCall.{OpenCall}
use Rattle.late_residue.specs.Reached.{Has}
use Rattle.late_residue.proofs.Items.{has-none}
use Rattle.pool_residue.specs.declared.container.Container.{Container}
use Rattle.pool_residue.specs.Items.{Item}
use Rattle.pool_residue.specs.Description.{TakenPut, IsTakenAs, AreTakenAs}

module _ (container : Container) (calls : List OpenCall) where
  abbrev are : List TakenPut → List Item → Type 0
  are = AreTakenAs container calls

  -- the item of a pair, and those of the pairs before it and after it
  pub record IsSplit (before : List TakenPut) (one : TakenPut) (after : List TakenPut)
      (items : List Item) : Type 0 where
    pub left : List Item
    pub x : Item
    pub right : List Item
    pub is : items ≡ left ++ x ∷ right
    pub first : AreTakenAs container calls before left
    pub it : IsTakenAs container calls one x
    pub last : AreTakenAs container calls after right

  pub pairs-split : (before : List TakenPut) (one : TakenPut) (after : List TakenPut)
      (items : List Item) → are (before ++ one ∷ after) items → IsSplit before one after items
  pairs-split [] one after [] taken = absurd taken
  pairs-split [] one after (x ∷ items) taken = record {
    left = [];
    x = x;
    right = items;
    is = refl;
    first = tt;
    it = taken.0;
    last = taken.1;
  }
  pairs-split (p ∷ before) one after [] taken = absurd taken
  pairs-split (p ∷ before) one after (x ∷ items) taken =
      let found = pairs-split before one after items taken.1 in
      record {
        left = x ∷ found.left;
        x = found.x;
        right = found.right;
        is = ap (λ (l : List Item). x ∷ l) found.is;
        first = (taken.0, found.first);
        it = found.it;
        last = found.last;
      }

  pub pairs-join : (before after : List TakenPut) (left right : List Item) → are before left
      → are after right → are (before ++ after) (left ++ right)
  pairs-join [] after [] right first last = last
  pairs-join [] after (x ∷ left) right first last = absurd first
  pairs-join (p ∷ before) after [] right first last = absurd first
  pairs-join (p ∷ before) after (x ∷ left) right first last =
      (first.0, pairs-join before after left right first.1 last)

  -- items in the place of others that are taken as well
  pub pairs-map : (more : List OpenCall) (change : Item → Item) (pairs : List TakenPut)
      (items : List Item) → are pairs items
      → ((p : TakenPut) (x : Item) → Has pairs p → Has items x → IsTakenAs container calls p x
      → IsTakenAs container more p (change x))
      → AreTakenAs container more pairs (map change items)
  pairs-map more change [] [] taken each = tt
  pairs-map more change [] (x ∷ items) taken each = absurd taken
  pairs-map more change (p ∷ pairs) [] taken each = absurd taken
  pairs-map more change (p ∷ pairs) (x ∷ items) taken each = (
    each p x (0, refl) (0, refl) taken.0,
    pairs-map more change pairs items taken.1
        (λ q y (j, at) (k, there). each q y (suc j, at) (suc k, there)),
  )

  -- the pair of an item
  pub pair_of : (pairs : List TakenPut) (items : List Item) → are pairs items → (x : Item)
      → Has items x → (p : TakenPut) × Has pairs p × IsTakenAs container calls p x
  pair_of [] [] taken x has = absurd (has-none x has)
  pair_of [] (y ∷ items) taken x has = absurd taken
  pair_of (p ∷ pairs) [] taken x has = absurd taken
  pair_of (p ∷ pairs) (y ∷ items) taken x (zero, at) =
      (p, (0, refl), subst (IsTakenAs container calls p) (same_Some y x at) taken.0)
  pair_of (p ∷ pairs) (y ∷ items) taken x (suc k, at) =
      let found = pair_of pairs items taken.1 x (k, at) in
      (found.0, (suc found.1.0, found.1.1), found.2)

  -- the items of the first pairs, and those of the others
  pub record IsCut (before after : List TakenPut) (items : List Item) : Type 0 where
    pub left : List Item
    pub right : List Item
    pub is : items ≡ left ++ right
    pub first : AreTakenAs container calls before left
    pub last : AreTakenAs container calls after right

  pub pairs-cut : (before after : List TakenPut) (items : List Item)
      → are (before ++ after) items → IsCut before after items
  pairs-cut [] after items taken =
      record { left = []; right = items; is = refl; first = tt; last = taken }
  pairs-cut (p ∷ before) after [] taken = absurd taken
  pairs-cut (p ∷ before) after (x ∷ items) taken =
      let found = pairs-cut before after items taken.1 in
      record {
        left = x ∷ found.left;
        right = found.right;
        is = ap (λ (l : List Item). x ∷ l) found.is;
        first = (taken.0, found.first);
        last = found.last;
      }

  -- items are taken among other calls
  pub pairs-again : (more : List OpenCall) (pairs : List TakenPut) (items : List Item)
      → are pairs items
      → ((p : TakenPut) (x : Item) → IsTakenAs container calls p x → IsTakenAs container more p x)
      → AreTakenAs container more pairs items
  pairs-again more [] [] taken each = tt
  pairs-again more [] (x ∷ items) taken each = absurd taken
  pairs-again more (p ∷ pairs) [] taken each = absurd taken
  pairs-again more (p ∷ pairs) (x ∷ items) taken each =
      (each p x taken.0, pairs-again more pairs items taken.1 each)

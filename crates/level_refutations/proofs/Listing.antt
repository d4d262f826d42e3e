-- The levels that entries make, one after another.
use Rattle.std.proofs.Common.{◌≡◌, ℕ, zero, suc, ◌+◌, ◌-◌, ◌<◌, ◌≤◌, ◌⊎◌, ◌↔◌, ◌∙◌, List, [], ◌∷◌, ◌++◌, length, take, get_or, Some, None, Vec, Global, inl, inr, refl, sym, ap, subst, slice_get, arith}
use Rattle.std.proofs.lemmas.List.{length_push}
use Rattle.std.proofs.lemmas.List.Sums.{fold_more}
use Rattle.std.proofs.lemmas.Option.{same_Some, slice_get-get_or, slice_get_within}
use Rattle.list_laws.proofs.Places.{slice_get-push_last, slice_get-push_old, slice_get-push_cases}
use Rattle.level_refutations.specs.declared.entry.LevelEntry.{LevelEntry}
use Rattle.level_refutations.specs.declared.entry.LevelEntry.TheVariants as entry
use Rattle.level_refutations.specs.declared.levels.Levels.{Levels}
use Rattle.level_refutations.specs.Closed.{IsOneOf, Level, bottom, LiesOn, with_level, levels_of}
use Rattle.level_refutations.specs.Stored.{AreEven, Names, IsMadeBy, AreLevels}

-- an entry
abbrev pub no_entry : LevelEntry
no_entry = entry.Cut 0 0

-- The levels of the first k + 1 entries are those of the first k with what entry k leaves.
pub levels_more : (entries : List LevelEntry) (k : ℕ) (made : LevelEntry)
    → slice_get entries k ≡ Some made → k < length entries
    → levels_of (take (k + 1) entries) ≡ with_level (levels_of (take k entries)) made
levels_more entries k made at less =
    let here : get_or entries k no_entry ≡ made =
    same_Some (get_or entries k no_entry) made
    (sym (slice_get-get_or entries k no_entry less) ∙ at) in
    fold_more with_level (bottom ∷ []) entries k no_entry less
    ∙ ap (with_level (levels_of (take k entries))) here

made_more : (levels : List Level) (more : Level) (j : ℕ) (maker : LevelEntry)
    → IsMadeBy levels j maker → IsMadeBy (levels ++ more ∷ []) j maker
made_more levels more j (entry.Cut p i) made = made
made_more levels more j (entry.Level v below) made =
    slice_get-push_old levels more (j + 1) _ made
made_more levels more j (entry.At l cuts) made = made

-- what lies above what, with one more level
lies_more : (levels : List Level) (v : ℕ) (below : List ℕ) (m w l : ℕ)
    → LiesOn (levels ++ record { top = Some v; below = below } ∷ []) m w l
    ↔ (LiesOn levels m w l ⊎ ((w ≡ v) × IsOneOf below l × (m ≡ length levels)))
lies_more levels v below m w l =
    let more : Level = record { top = Some v; below = below } in (
      λ lies. elim (slice_get-push_cases levels more m lies.0 lies.1) [
        | inl old ↦ inl (lies.0, old, lies.2, lies.3)
        | inr last ↦ inr (
          same_Some w v (sym lies.2 ∙ ap (λ (x : Level). x.top) last.1),
          subst (λ (x : Level). IsOneOf x.below l) last.1 lies.3,
          last.0,
        )
      ],
      λ lies. elim lies [
        | inl old ↦ (old.0, slice_get-push_old levels more m old.0 old.1, old.2, old.3)
        | inr new ↦ (
          more,
          ap (slice_get (levels ++ more ∷ [])) new.2 ∙ slice_get-push_last levels more,
          ap (λ (x : ℕ). Some x) (sym new.0),
          new.1,
        )
      ],
    )

-- A level is added: its maker goes last, and it is named above each level that may lie below it.
pub record IsAdded (entries : List LevelEntry) (old new : Levels) (k v : ℕ) (below : List ℕ)
    (maker : LevelEntry) : Type 0 where
  pub at : slice_get entries k ≡ Some maker
  pub makes : (levels : List Level) (j : ℕ)
      → slice_get levels (j + 1) ≡ Some (record { top = Some v; below = below })
      → IsMadeBy levels j maker
  pub makers : new.makers.items ≡ old.makers.items ++ k ∷ []
  pub even : AreEven new.above
  pub named : (w l m : ℕ) → Names new.above w l m ↔ (Names old.above w l m
      ⊎ ((w ≡ v) × IsOneOf below l × (m ≡ length old.makers.items + 1)))

pub added_levels : (entries : List LevelEntry) (old new : Levels) (k v : ℕ) (below : List ℕ)
    (maker : LevelEntry) (levels : List Level) → IsAdded entries old new k v below maker
    → AreLevels entries old levels
    → AreLevels entries new (levels ++ record { top = Some v; below = below } ∷ [])
added_levels entries old new k v below maker levels added are =
    let more : Level = record { top = Some v; below = below } in
    let makers : List ℕ = old.makers.items in
    record {
      even = added.even;
      first = slice_get-push_old levels more 0 bottom are.first;
      long = length_push levels more ∙ (ap (λ (n : ℕ). n + 1) are.long
          ∙ ap (λ (n : ℕ). n + 1) (sym (length_push makers k)
          ∙ ap (λ (l : List ℕ). length l) (sym added.makers)));
      made = λ j e at. elim (slice_get-push_cases makers k j e
          (subst (λ (l : List ℕ). slice_get l j ≡ Some e) added.makers at)) [
            | inl before ↦
                let was = are.made j e before in
                (was.0, was.1, made_more levels more j was.0 was.2)
            | inr last ↦ (
              maker,
              ap (slice_get entries) last.1 ∙ added.at,
              added.makes (levels ++ more ∷ []) j
                  (ap (slice_get (levels ++ more ∷ [])) (ap (λ (n : ℕ). n + 1) last.0
                  ∙ sym are.long) ∙ slice_get-push_last levels more),
            )
          ];
      named = λ w l m. (
        λ names. elim ((added.named w l m).0 names) [
          | inl before ↦
              (lies_more levels v below m w l).1 (inl ((are.named w l m).0 before))
          | inr new ↦ (lies_more levels v below m w l).1
              (inr (new.0, new.1, new.2 ∙ sym are.long))
        ],
        λ lies. elim ((lies_more levels v below m w l).0 lies) [
          | inl before ↦ (added.named w l m).1 (inl ((are.named w l m).1 before))
          | inr new ↦ (added.named w l m).1 (inr (new.0, new.1, new.2 ∙ are.long))
        ],
      );
    }

-- nothing lies on the level of the empty stack
pub none_lies : (m v l : ℕ) → LiesOn (bottom ∷ []) m v l → ⊥
none_lies zero v l lies =
    let same : bottom ≡ lies.0 = same_Some bottom lies.0 lies.1 in
    let top : None ≡ Some v = ap (λ (x : Level). x.top) same ∙ lies.2 in
    absurd cc
none_lies (suc m) v l lies = absurd (let at = lies.1 in cc)

-- the levels before all entries
pub no_levels : (entries : List LevelEntry) (stored : Levels) → AreEven stored.above
    → ((v l m : ℕ) → Names stored.above v l m → ⊥) → stored.makers.items ≡ []
    → AreLevels entries stored (bottom ∷ [])
no_levels entries stored even none makers = record {
  even = even;
  first = refl;
  long = ap (λ (l : List ℕ). length l + 1) (sym makers);
  made = λ j e at. absurd (no_maker j e (subst (λ (l : List ℕ). slice_get l j ≡ Some e) makers at));
  named = λ v l m. (λ names. absurd (none v l m names), λ lies. absurd (none_lies m v l lies));
}
  where
    no_maker : (j e : ℕ) → slice_get [] j ≡ Some e → ⊥
    no_maker j e at = absurd cc

-- the element that is read at a place
pub read_at : {X : Type 0} (xs : List X) (k : ℕ) (r d : X) → k < length xs → r ≡ get_or xs k d
    → slice_get xs k ≡ Some r
read_at {X} xs k r d less is = slice_get-get_or xs k d less ∙ ap (λ (x : X). Some x) (sym is)

-- an entry that makes no level leaves the levels
pub no_level : (made : LevelEntry)
    → ((v : ℕ) (below : Vec ℕ Global) → made ≡ entry.Level v below → ⊥) → (levels : List Level)
    → with_level levels made ≡ levels
no_level (entry.Cut p i) never levels = refl
no_level (entry.Level v below) never levels = absurd (never v below refl)
no_level (entry.At l cuts) never levels = refl

module _ (entries : List LevelEntry) (stored : Levels) (levels : List Level)
    (are : AreLevels entries stored levels) (number e d : ℕ) (some : 1 ≤ number)
    (few : number ≤ length stored.makers.items)
    (is : e ≡ get_or stored.makers.items (number - 1) d) where
  maker_of : (maker : LevelEntry) × (slice_get entries e ≡ Some maker)
      × IsMadeBy levels (number - 1) maker
  maker_of = are.made (number - 1) e
      (read_at stored.makers.items (number - 1) e d (omega (arith, some, few)) is)

  pub maker_there : e < length entries
  maker_there = slice_get_within entries e maker_of.0 maker_of.1

  module _ (r x : LevelEntry) (less : e < length entries) (read : r ≡ get_or entries e x) where
    made_by : IsMadeBy levels (number - 1) r
    made_by = subst (IsMadeBy levels (number - 1))
        (same_Some maker_of.0 r (sym maker_of.1 ∙ read_at entries e r x less read)) maker_of.2

    -- the level with a number is the one that its entry says
    pub level_is : (v : ℕ) (below : Vec ℕ Global) → r ≡ entry.Level v below
        → slice_get levels number ≡ Some (record { top = Some v; below = below.items })
    level_is v below says =
        let here : number - 1 + 1 ≡ number = omega (arith, some) in
        ap (slice_get levels) (sym here) ∙ subst (IsMadeBy levels (number - 1)) says made_by

    -- the entry of a level is one that makes a level
    pub level_made : ((v : ℕ) (below : Vec ℕ Global) → r ≡ entry.Level v below → ⊥) → ⊥
    level_made never = made_never r never made_by
      where
        made_never : (made : LevelEntry)
            → ((v : ℕ) (below : Vec ℕ Global) → made ≡ entry.Level v below → ⊥)
            → IsMadeBy levels (number - 1) made → ⊥
        made_never (entry.Cut p i) never made = made
        made_never (entry.Level v below) never made = never v below refl
        made_never (entry.At l cuts) never made = made

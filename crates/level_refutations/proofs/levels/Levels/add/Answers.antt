use Rattle.std.proofs.Common.{◌≡◌, ℕ, ◌+◌, ◌∙◌, List, length, take, Some, inl, inr, sym, ap, subst, slice_get, arith}
use Rattle.std.proofs.lemmas.List.{length_push}
use Rattle.level_refutations.specs.declared.entry.LevelEntry.{LevelEntry}
use Rattle.level_refutations.specs.declared.entry.LevelEntry.TheVariants as entry
use Rattle.level_refutations.specs.declared.levels.Levels.{Levels}
use Rattle.level_refutations.specs.Closed.{IsOneOf, Level, levels_of}
use Rattle.level_refutations.specs.Stored.{AreLevels}
use Rattle.level_refutations.proofs.Listing.{read_at, levels_more, no_level, IsAdded, added_levels}
use Rattle.level_refutations.proofs.levels.Levels.add.Goals as goal

pub add_all-requires : goal.add_all-requires
add_all-requires c = c.requires.before.even

pub returns-in_ok-add_all : goal.returns-in_ok-add_all
returns-in_ok-add_all c =
    let entries = c.args.entries.now in
    let k : ℕ = c.args.k in
    let v : ℕ = c.in-Level.value in
    let below : List ℕ = c.in-Level.below.items in
    let maker : LevelEntry = entry.Level c.in-Level.value c.in-Level.below in
    let before : List Level = levels_of (take k entries) in
    let new : Levels = record { makers = c.push.new.self; above = c.add_all.new.self } in
    let makers : List ℕ = c.args.self.now.makers.items in
    let read = read_at entries k c.index-entries-k.result _ c.requires.within c.index-entries-k.is
    in
    let at : slice_get entries k ≡ Some maker =
    read ∙ ap (λ (e : LevelEntry). Some e) c.in-Level.is in
    let count : c.len-level.result ≡ length makers + 1 = omega (
      arith,
      c.len-level.ensures,
      length_push makers k,
      ap (λ (l : List ℕ). length l) c.in_ok-push.ensures.items,
    ) in
    let added : IsAdded entries c.args.self.now new k v below maker = record {
      at = at;
      makes = λ levels j here. here;
      makers = c.in_ok-push.ensures.items;
      even = c.in_ok-add_all.ensures.even;
      named = λ w l m.
          let is = c.in_ok-add_all.ensures.named w l m in (
            λ one. elim (is.0 one) [
              | inl old ↦ inl old
              | inr it ↦ inr (
                it.0,
                subst (λ (xs : List ℕ). IsOneOf xs l) c.deref.ensures.value it.1,
                it.2 ∙ count,
              )
            ],
            λ one. elim one [
              | inl old ↦ is.1 (inl old)
              | inr it ↦ is.1 (inr (
                it.0,
                subst (λ (xs : List ℕ). IsOneOf xs l) (sym c.deref.ensures.value) it.1,
                it.2 ∙ sym count,
              ))
            ],
          );
    } in
    subst (AreLevels entries new) (sym (levels_more entries k maker at c.requires.within))
    (added_levels entries c.args.self.now new k v below maker before added c.requires.before)

pub returns-in_default : goal.returns-in_default
returns-in_default c =
    let entries = c.args.entries.now in
    let k : ℕ = c.args.k in
    let read = read_at entries k c.index-entries-k.result _ c.requires.within c.index-entries-k.is
    in
    subst (AreLevels entries c.args.self.now)
    (sym (levels_more entries k c.index-entries-k.result read c.requires.within
    ∙ no_level c.index-entries-k.result c.in_default.not-Level (levels_of (take k entries))))
    c.requires.before

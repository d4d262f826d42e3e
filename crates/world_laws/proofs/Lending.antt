-- What holds where a collect makes a scan borrow a row.
use Rattle.std.proofs.Common.{◌≡◌, ℕ, suc, ◌+◌, ◌-◌, ◌<◌, Bool, true, false, if◌then◌else◌, nat_lt, List, [], ◌∷◌, length, Option, Some, None, slice_index, refl, sym, ap, ◌∙◌, subst, arith, inl, inr}
use Rattle.std.proofs.lemmas.Bool.{ltb-true, cases_Bool}
use Rattle.world_core.specs.declared.course.Course.{Course}
use Rattle.world_core.specs.declared.course.Course.TheVariants.{Collects, Borrows, Ends}
use Rattle.world_core.specs.Scan.{course_on, course_by, lent_by, mover, mover_from, is_same_cut}

-- What holds where a collect that found the counts `latest`, after a first one that found `first`,
-- makes the scan borrow row k of caller j: j is one of the callers, its count is above k, and k is
-- above its count in the first collect.
pub record IsLent (first latest : List ℕ) (j k : ℕ) : Type 0 where
  pub caller : j < length latest
  pub above : k < slice_index latest j
  pub moved : slice_index first j < k

record Moves_from (i : ℕ) (first latest : List ℕ) (j : ℕ) : Type 0 where
  at : ℕ
  is : j ≡ i + at
  below : at < length latest
  more : slice_index first at + 1 < slice_index latest at

moves_from : (i : ℕ) (first latest : List ℕ) (j : ℕ) → mover_from i first latest ≡ Some j
    → Moves_from i first latest j
moves_from i [] latest j h = absurd cc
moves_from i (a ∷ first) [] j h = absurd cc
moves_from i (a ∷ first) (b ∷ latest) j h = elim (cases_Bool (nat_lt (a + 1) b)) [
  | inl moved ↦
      let here : Some i ≡ Some j =
      sym (ap (λ (c : Bool). if c then Some i else mover_from (suc i) first latest) moved) ∙ h in
      let same : i ≡ j = cc in
      record {
        at = 0;
        is = omega (arith, same);
        below = omega arith;
        more = ltb-true (a + 1) b moved;
      }
  | inr stays ↦
      let rest = moves_from (suc i) first latest j
      (sym (ap (λ (c : Bool). if c then Some i else mover_from (suc i) first latest) stays) ∙ h) in
      record {
        at = suc rest.at;
        is = omega (arith, rest.is);
        below = omega (arith, rest.below);
        more = rest.more;
      }
]

lent_is : (first latest : List ℕ) (m : Option ℕ) (j k : ℕ) → mover first latest ≡ m
    → lent_by latest m ≡ Borrows j k → IsLent first latest j k
lent_is first latest None j k is h = absurd cc
lent_is first latest (Some i) j k is h =
    let m = moves_from 0 first latest i is in
    let caller : i ≡ j = cc in
    let row : slice_index latest i - 1 ≡ k = cc in
    let at : i ≡ m.at = omega (arith, m.is) in
    let more : slice_index first i + 1 < slice_index latest i =
    subst (λ (t : ℕ). slice_index first t + 1 < slice_index latest t) (sym at) m.more in
    subst (λ (t : ℕ). IsLent first latest t k) caller (record {
      caller = omega (arith, at, m.below);
      above = omega (arith, more, row);
      moved = omega (arith, more, row);
    })

lent_unless : (b : Bool) (first latest : List ℕ) (j k : ℕ)
    → (if b then Ends latest else lent_by latest (mover first latest)) ≡ Borrows j k
    → IsLent first latest j k
lent_unless true first latest j k h = absurd cc
lent_unless false first latest j k h = lent_is first latest (mover first latest) j k refl h

collect_lends : (first : List ℕ) (last : Option (List ℕ)) (latest : List ℕ) (j k : ℕ)
    → course_by first last latest ≡ Borrows j k → IsLent first latest j k
collect_lends first None latest j k h = absurd cc
collect_lends first (Some before) latest j k h =
    lent_unless (is_same_cut before latest) first latest j k h

-- What holds of a round after which the scan borrows row k of caller j: it was a collect, which
-- makes the scan borrow this row.
pub record Lends (first latest : List ℕ) (c : Course) (j k : ℕ) : Type 0 where
  pub was : c ≡ Collects
  pub lent : IsLent first latest j k

-- Where the scan borrows a row after a round, that round was a collect, in which the count of the
-- row's caller is above the row's number.
pub round_lends : (first : List ℕ) (last : Option (List ℕ)) (latest : List ℕ) (c : Course) (j k : ℕ)
    → course_on first last latest c ≡ Borrows j k → Lends first latest c j k
round_lends first last latest Collects j k h =
    record { was = refl; lent = collect_lends first last latest j k h }
round_lends first last latest (Borrows i row) j k h = absurd cc
round_lends first last latest (Ends cut) j k h = absurd cc

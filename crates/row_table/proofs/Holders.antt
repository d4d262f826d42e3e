-- What is held of the callers still fits where one seat changes, gives a caller away or gets one
-- back.
use Rattle.std.proofs.Common.{◌≡◌, ◌≢◌, ◌⊎◌, ℕ, ◌+◌, ◌<◌, ◌≤◌, ◌==◌, if◌then◌else◌, List, [], ◌∷◌, ◌++◌, length, slice_set, Option, Some, None, zero, suc, refl, sym, ap, ◌∙◌, subst, arith, inl, inr, length-set, eq-eqb, ne_eqb}
use Rattle.std.proofs.lemmas.List.{get_or-set_other, get_or-set_same}
use Rattle.std.proofs.lemmas.Bool.{cases_eq}
use Rattle.std.proofs.lemmas.Option.{none-some, same_Some}
use mathlib.Core.Option.{some, some-injective, some-ne-none}
use lib.ListN.{get_elem?}
use Rattle.atomic_table.proofs.Lists.{at_set, set_else}
use Rattle.atomic_table.specs.Table.{Me}
use Rattle.row_table.specs.Holders.{has, held_or, only, whole, union_of, AreHeld}

at_end : {B : Type 0} (xs : List B) (x y : B) (j : ℕ) → get_elem? (xs ++ x ∷ []) j ≡ some y
    → (get_elem? xs j ≡ some y) ⊎ ((j ≡ length xs) × (x ≡ y))
at_end [] x y zero e = inr (refl, some-injective x y e)
at_end [] x y (suc j) e = absurd (some-ne-none y (sym e))
at_end (z ∷ xs) x y zero e = inl e
at_end (z ∷ xs) x y (suc j) e = elim (at_end xs x y j e) [
  | inl h ↦ inl h
  | inr h ↦ inr (ap suc h.0, h.1)
]

-- the seat of caller `who`, and the others' as they were
moved_to : (ℕ → ℕ) → ℕ → ℕ → ℕ → ℕ
moved_to owner who seat i = if i == who then seat else owner i

to_who : (owner : ℕ → ℕ) (who seat : ℕ) → moved_to owner who seat who ≡ seat
unfolding moved_to
to_who owner who seat = ap (λ b. if b then seat else owner who) (eq-eqb who who refl)

to_else : (owner : ℕ → ℕ) (who seat i : ℕ) → i ≢ who → moved_to owner who seat i ≡ owner i
unfolding moved_to
to_else owner who seat i ne = ap (λ b. if b then seat else owner i) (ne_eqb i who ne)

module _ {A : Type 0} where
  -- a view has nothing after its end
  pub inside : (v : List (Option A)) (i : ℕ) (x : A) → has v i ≡ Some x → i < length v
  inside [] i x e = absurd (none-some x e)
  inside (y ∷ v) zero x e = omega arith
  inside (y ∷ v) (suc i) x e = let deeper = inside v i x e in omega arith

  -- a view of one caller has this caller's value, and no other caller's
  pub only_here : (who : ℕ) (x : A) → has (only who x) who ≡ Some x
  only_here zero x = refl
  only_here (suc who) x = only_here who x

  pub only_else : (who i : ℕ) (x y : A) → has (only who x) i ≡ Some y → i ≡ who
  only_else zero zero x y e = refl
  only_else zero (suc i) x y e = absurd (none-some y e)
  only_else (suc who) zero x y e = absurd (none-some y e)
  only_else (suc who) (suc i) x y e = ap suc (only_else who i x y e)

  -- a seat of one caller alone has this caller's value
  pub alone_here : (me : Me (Unit {0}) (List (Option A))) (who : ℕ) (x : A) → me ≡ (only who x, [])
      → has me.0 who ≡ Some x
  alone_here me who x is = ap (λ (m : Me (Unit {0}) (List (Option A))). has m.0 who) is
      ∙ only_here who x

  only_set : (who : ℕ) (x y : A) → slice_set (only who x) who (Some y) ≡ only who y
  only_set zero x y = refl
  only_set (suc who) x y = ap (λ (v : List (Option A)). None ∷ v) (only_set who x y)

  -- A seat has one caller alone, with the value `x`; `start` stands for a value where there is none.
  pub record HasOne (start : A) (who : ℕ) (after : Me (Unit {0}) (List (Option A)))
      (x : A) : Type 0 where
    pub alone : after ≡ (only who (held_or start (has after.0 who)), [])
    pub here : held_or start (has after.0 who) ≡ x

  -- a seat of one caller alone still is one after a change of this caller's value
  pub changed_alone : (start : A) (who : ℕ) (me after : Me (Unit {0}) (List (Option A))) (x y : A)
      → me ≡ (only who x, []) → after ≡ (slice_set me.0 who (Some y), me.1)
      → HasOne start who after y
  changed_alone start who me after x y is moved =
      let one : after ≡ (only who y, []) =
      moved ∙ (λ i. (slice_set (is i).0 who (Some y), (is i).1))
      ∙ (λ i. (only_set who x y i, [])) in
      let here = ap (held_or start) (alone_here after who y one) in
      record { alone = one ∙ (λ i. (only who (sym here i), [])); here = here }

  pub length-only : (who : ℕ) (x : A) → length (only who x) ≡ suc who
  length-only zero x = refl
  length-only (suc who) x = ap suc (length-only who x)

  -- removing a caller from a view, or setting one, changes what the view has of this caller alone
  pub without_here : (v : List (Option A)) (who : ℕ) → has (slice_set v who None) who ≡ None
  without_here [] who = refl
  without_here (x ∷ v) zero = refl
  without_here (x ∷ v) (suc who) = without_here v who

  pub without_else : (v : List (Option A)) (who i : ℕ) → i ≢ who
      → has (slice_set v who None) i ≡ has v i
  without_else v who i ne = get_or-set_other v who i None None ne

  pub with_here : (v : List (Option A)) (who : ℕ) (x : A) → who < length v
      → has (slice_set v who (Some x)) who ≡ Some x
  with_here v who x low = get_or-set_same v who (Some x) None low

  pub with_else : (v : List (Option A)) (who i : ℕ) (x : A) → i ≢ who
      → has (slice_set v who (Some x)) i ≡ has v i
  with_else v who i x ne = get_or-set_other v who i (Some x) None ne

  -- a caller that leaves a view leaves those after it as they were
  pub left_others : (n who : ℕ) (x : A) (v u : List (Option A))
      → ((i : ℕ) → who ≤ i → i < n → has v i ≡ Some x) → u ≡ slice_set v who None
      → (i : ℕ) → who + 1 ≤ i → i < n → has u i ≡ Some x
  left_others n who x v u all is i above low =
      ap (λ (w : List (Option A)). has w i) is
      ∙ without_else v who i (λ e. absurd (omega arith))
      ∙ all i (omega arith) low

  joined_none : (v : List (Option A)) → union_of v [] ≡ v
  joined_none [] = refl
  joined_none (x ∷ v) = refl

  -- joining a view with what one caller has sets this caller's place, where the view lacked the
  -- caller
  joined_only : (v : List (Option A)) (who : ℕ) (x : A) → has v who ≡ None → who < length v
      → union_of v (only who x) ≡ slice_set v who (Some x)
  joined_only [] who x gone low = absurd (omega arith)
  joined_only (None ∷ v) zero x gone low = ap (λ (u : List (Option A)). Some x ∷ u) (joined_none v)
  joined_only (Some y ∷ v) zero x gone low = absurd (none-some y (sym gone))
  joined_only (None ∷ v) (suc who) x gone low =
      ap (λ (u : List (Option A)). None ∷ u) (joined_only v who x gone (omega arith))
  joined_only (Some y ∷ v) (suc who) x gone low =
      ap (λ (u : List (Option A)). Some y ∷ u) (joined_only v who x gone (omega arith))

  pub joined_with : (v w u : List (Option A)) (who : ℕ) (x : A) → u ≡ union_of v w → w ≡ only who x
      → has v who ≡ None → who < length v → u ≡ slice_set v who (Some x)
  joined_with v w u who x both is gone low =
      both ∙ ap (union_of v) is ∙ joined_only v who x gone low

  -- where a seat changes what it has of one caller, what the other seats have still fits
  pub held_changed : (fits fits' : ℕ → A → Type 0) (views : List (List (Option A))) (id : ℕ)
      (v : List (Option A)) (who : ℕ) (x y : A)
      → AreHeld fits views → get_elem? views id ≡ some v → has v who ≡ Some x → fits' who y
      → ((i : ℕ) (z : A) → i ≢ who → fits i z → fits' i z)
      → AreHeld fits' (slice_set views id (slice_set v who (Some y)))
  held_changed fits fits' views id v who x y h at here right stays =
      record {
        owner = h.owner;
        held = λ i seat u z there e.
            let mine = h.held who id v x at here in
            elim (at_set views id seat (slice_set v who (Some y)) u there) [
              | inl is ↦ elim (cases_eq i who) [
                | inl me ↦
                    let same : y ≡ z =
                    same_Some y z (sym (with_here v who y (inside v who x here))
                    ∙ ap (has (slice_set v who (Some y))) (sym me)
                    ∙ ap (λ (w : List (Option A)). has w i) is.1 ∙ e) in (
                      ap h.owner me ∙ mine.0 ∙ sym is.0,
                      subst (λ (j : ℕ × A). fits' j.0 j.1) (λ k. (sym me k, same k)) right,
                    )
                | inr ne ↦
                    let was = h.held i id v z at (sym (with_else v who i y ne)
                    ∙ ap (λ (w : List (Option A)). has w i) is.1 ∙ e) in
                    (was.0 ∙ sym is.0, stays i z ne was.1)
              ]
              | inr away ↦
                  let was = h.held i seat u z away.1 e in
                  (was.0, stays i z (λ me. away.0 (sym was.0 ∙ ap h.owner me ∙ mine.0)) was.1)
            ];
      }

  -- what the seats have still fits where a new seat gets one caller of a seat
  held_parted : (fits : ℕ → A → Type 0) (views : List (List (Option A))) (id : ℕ)
      (v : List (Option A)) (who : ℕ) (x : A)
      → AreHeld fits views → get_elem? views id ≡ some v → has v who ≡ Some x
      → AreHeld fits (slice_set views id (slice_set v who None) ++ only who x ∷ [])
  held_parted fits views id v who x h at here =
      let left = slice_set v who None in
      let mine = h.held who id v x at here in
      let long : length (slice_set views id left) ≡ length views = length-set views id left in
      record {
        owner = moved_to h.owner who (length views);
        held = λ i seat u z there e.
            elim (at_end (slice_set views id left) (only who x) u seat there) [
              | inr last ↦
                  let new : has (only who x) i ≡ Some z =
                  ap (λ (w : List (Option A)). has w i) last.1 ∙ e in
                  let is = only_else who i x z new in
                  let same : x ≡ z =
                  same_Some x z (sym (only_here who x) ∙ ap (has (only who x)) (sym is) ∙ new) in (
                    ap (moved_to h.owner who (length views)) is ∙ to_who h.owner who (length views)
                        ∙ sym long ∙ sym last.0,
                    subst (λ (j : ℕ × A). fits j.0 j.1) (λ k. (sym is k, same k)) mine.1,
                  )
              | inl old ↦ elim (at_set views id seat left u old) [
                | inl is ↦ elim (cases_eq i who) [
                  | inl me ↦ absurd (none-some z (sym (without_here v who) ∙ ap (has left) (sym me)
                      ∙ ap (λ (w : List (Option A)). has w i) is.1 ∙ e))
                  | inr ne ↦
                      let was = h.held i id v z at (sym (without_else v who i ne)
                      ∙ ap (λ (w : List (Option A)). has w i) is.1 ∙ e) in
                      (to_else h.owner who (length views) i ne ∙ was.0 ∙ sym is.0, was.1)
                ]
                | inr away ↦
                    let was = h.held i seat u z away.1 e in (
                      to_else h.owner who (length views) i
                          (λ me. away.0 (sym was.0 ∙ ap h.owner me ∙ mine.0)) ∙ was.0,
                      was.1,
                    )
              ]
            ];
      }

  -- the same, where the new seat gets what the seat has of the caller, or `start` where it has
  -- nothing
  pub held_left : (fits : ℕ → A → Type 0) (start : A) (views : List (List (Option A))) (id : ℕ)
      (v : List (Option A)) (who jw : ℕ) (x : A)
      → AreHeld fits views → get_elem? views id ≡ some v → jw ≡ who → has v who ≡ Some x
      → AreHeld fits
      (slice_set views id (slice_set v jw None) ++ only jw (held_or start (has v jw)) ∷ [])
  held_left fits start views id v who jw x h at is here' =
      let here : has v jw ≡ Some x = ap (has v) is ∙ here' in
      subst (λ (y : A). AreHeld fits (slice_set views id (slice_set v jw None) ++ only jw y ∷ []))
      (sym (ap (held_or start) here)) (held_parted fits views id v jw x h at here)

  -- what the seats have still fits where a seat gets the one caller of another seat back, and that
  -- other seat is spent
  held_returned : (fits : ℕ → A → Type 0) (views : List (List (Option A))) (id other : ℕ)
      (v : List (Option A)) (who : ℕ) (x : A)
      → AreHeld fits views → get_elem? views id ≡ some v → other ≢ id
      → get_elem? views other ≡ some (only who x) → who < length v
      → AreHeld fits (slice_set (slice_set views id (slice_set v who (Some x))) other [])
  held_returned fits views id other v who x h at apart there' low =
      let both = slice_set v who (Some x) in
      let mine = h.held who other (only who x) x there' (only_here who x) in
      record {
        owner = moved_to h.owner who id;
        held = λ i seat u z there e. elim (at_set (slice_set views id both) other seat [] u there) [
          | inl spent ↦ absurd (none-some z (ap (λ (w : List (Option A)). has w i) spent.1 ∙ e))
          | inr n ↦ elim (at_set views id seat both u n.1) [
            | inl is ↦ elim (cases_eq i who) [
              | inl me ↦
                  let same : x ≡ z = same_Some x z (sym (with_here v who x low)
                  ∙ ap (has both) (sym me) ∙ ap (λ (w : List (Option A)). has w i) is.1 ∙ e) in (
                    ap (moved_to h.owner who id) me ∙ to_who h.owner who id ∙ sym is.0,
                    subst (λ (j : ℕ × A). fits j.0 j.1) (λ k. (sym me k, same k)) mine.1,
                  )
              | inr ne ↦
                  let was = h.held i id v z at
                  (sym (with_else v who i x ne) ∙ ap (λ (w : List (Option A)). has w i) is.1 ∙ e) in
                  (to_else h.owner who id i ne ∙ was.0 ∙ sym is.0, was.1)
            ]
            | inr k ↦
                let was = h.held i seat u z k.1 e in (
                  to_else h.owner who id i (λ me. n.0 (sym was.0 ∙ ap h.owner me ∙ mine.0)) ∙ was.0,
                  was.1,
                )
          ]
        ];
      }

  -- what the seats have still fits where a seat takes over the view of another seat, which has one
  -- caller alone
  pub held_joined : (fits : ℕ → A → Type 0) (views : List (List (Option A))) (id other : ℕ)
      (v w : List (Option A)) (who : ℕ) (x : A)
      → AreHeld fits views → get_elem? views id ≡ some v → other ≢ id
      → get_elem? (slice_set views id (union_of v w)) other ≡ some w → w ≡ only who x
      → has v who ≡ None → who < length v
      → AreHeld fits (slice_set (slice_set views id (union_of v w)) other [])
  held_joined fits views id other v w who x h at apart there is gone low =
      subst (λ (u : List (Option A)). AreHeld fits (slice_set (slice_set views id u) other []))
      (sym (joined_with v w (union_of v w) who x refl is gone low))
      (held_returned fits views id other v who x h at apart
      (sym (set_else views id other (union_of v w) apart) ∙ there ∙ ap some is) low)

  -- at the start one seat has all callers
  pub whole_at : (n i : ℕ) (x : A) → i < n → has (whole n x) i ≡ Some x
  whole_at zero i x low = absurd (omega arith)
  whole_at (suc n) zero x low = refl
  whole_at (suc n) (suc i) x low = whole_at n i x (omega arith)

  pub whole_is : (n i : ℕ) (x y : A) → has (whole n x) i ≡ Some y → (i < n) × (x ≡ y)
  whole_is zero i x y e = absurd (none-some y e)
  whole_is (suc n) zero x y e = (omega arith, same_Some x y e)
  whole_is (suc n) (suc i) x y e = let deeper = whole_is n i x y e in
      ((let low = deeper.0 in omega arith), deeper.1)

  one_view : (v u : List (Option A)) (seat : ℕ) → get_elem? (v ∷ []) seat ≡ some u
      → (seat ≡ 0) × (v ≡ u)
  one_view v u zero e = (refl, some-injective v u e)
  one_view v u (suc seat) e = absurd (some-ne-none u (sym e))

  pub held_at_start : (fits : ℕ → A → Type 0) (n : ℕ) (x : A) → ((i : ℕ) → i < n → fits i x)
      → AreHeld fits (whole n x ∷ [])
  held_at_start fits n x right =
      record {
        owner = λ i. 0;
        held = λ i seat v y there e.
            let one = one_view (whole n x) v seat there in
            let is = whole_is n i x y (ap (λ (w : List (Option A)). has w i) one.1 ∙ e) in
            (sym one.0, subst (λ (z : A). fits i z) is.1 (right i is.0));
      }

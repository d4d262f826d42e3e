-- A linearization grows as its history does: laws of lists alone.
use Rattle.std.proofs.Common.{◌≡◌, ◌≢◌, ℕ, List, [], ◌∷◌, ◌++◌, map, Some, slice_get, slice_index_or, refl, sym, subst, arith, inl, inr}
use Rattle.std.specs.Prelude.{All, Contains, ◌⊎◌}
use Rattle.std.proofs.lemmas.Option.{slice_get_within, get_or_from_slice_get}
use Rattle.std.proofs.lemmas.List.Elements.{All-push, All-weaker, All-contains, Contains-get_or, Contains-append_left, Contains-push_cases}
use Rattle.std.proofs.lemmas.List.Quantifiers.{all_pairs_push}
use Rattle.list_laws.proofs.Places.{slice_get-push_cases}
use Rattle.book_base.specs.declared.call.Call.{Call}
use Rattle.book_base.specs.SeqSpec.{SeqSpec}
use Rattle.book_base.specs.Sequential.{IsRunFrom}
use Rattle.world_core.specs.History.{Happening, Invoked, Returned, Done, step_of, ReturnsBefore, IsLinearization}

-- The list of a sequential object after the calls of an order.
abbrev pub list_after : (List ℕ → ℕ → List ℕ × ℕ) → List ℕ → List Done → List ℕ
list_after next list [] = list
list_after next list (d ∷ ds) = list_after next (next list d.operation).0 ds

pub list_after-push : (next : List ℕ → ℕ → List ℕ × ℕ) (list : List ℕ)
    (order : List Done) (d : Done)
    → list_after next list (order ++ d ∷ []) ≡ (next (list_after next list order) d.operation).0
list_after-push next list [] d = refl
list_after-push next list (x ∷ xs) d = list_after-push next (next list x.operation).0 xs d

is_run-push : (next : List ℕ → ℕ → List ℕ × ℕ) (list : List ℕ) (order : List Done) (d : Done)
    → IsRunFrom next list (map step_of order)
    → (next (list_after next list order) d.operation).1 ≡ d.reply
    → IsRunFrom next list (map step_of (order ++ d ∷ []))
is_run-push next list [] d run is = (is, tt)
is_run-push next list (x ∷ xs) d run is =
    (run.0, is_run-push next (next list x.operation).0 xs d run.1 is)

-- a list contains the element at a place of it
pub contained : {X : Type 0} (xs : List X) (k : ℕ) (x : X) → slice_get xs k ≡ Some x → Contains xs x
contained xs k x e = (k, slice_get_within xs k x e, get_or_from_slice_get xs k x x e)

-- a call that returned before another was invoked did so in the history before the last happening,
-- unless this happening is the invocation
before_push : (history : List Happening) (h : Happening) (a b : Call)
    → ReturnsBefore (history ++ h ∷ []) a b
    → ReturnsBefore history a b ⊎ ((operation : ℕ) × (h ≡ Invoked b operation))
before_push history h a b (i, j, reply, operation, lt, back, call) =
    elim (slice_get-push_cases history h j (Invoked b operation) call) [
      | inl old ↦ elim (slice_get-push_cases history h i (Returned a reply) back) [
        | inl there ↦ inl (i, j, reply, operation, lt, there, old)
        | inr last ↦
            absurd (omega (arith, lt, last.0, slice_get_within history j (Invoked b operation) old))
      ]
      | inr last ↦ inr (operation, sym last.1)
    ]

module _ (spec : SeqSpec) (history : List Happening) (order : List Done)
    (lin : IsLinearization spec history order) where
  all_invoked : (h : Happening)
      → All (λ (d : Done). Contains (history ++ h ∷ []) (Invoked d.call d.operation)) order
  all_invoked h =
      All-weaker (λ (d : Done). Contains history (Invoked d.call d.operation))
      (λ (d : Done). Contains (history ++ h ∷ []) (Invoked d.call d.operation))
      (λ d there. Contains-append_left history (h ∷ []) (Invoked d.call d.operation) there)
      order lin.invoked

  stands_new : (call : Call) → ((x : ℕ) → Contains history (Invoked call x) → ⊥)
      → (q : ℕ) (d : Done) → slice_get order q ≡ Some d → d.call ≡ call → ⊥
  stands_new call new q d at same =
      new d.operation
      (subst (λ (c : Call). Contains history (Invoked c d.operation)) same
      (All-contains (λ (e : Done). Contains history (Invoked e.call e.operation)) order d
      lin.invoked (contained order q d at)))

  -- an order of a history is also one after the invocation of a call that wasn't invoked before
  pub after_invocation : (call : Call) (operation : ℕ)
      → ((x : ℕ) → Contains history (Invoked call x) → ⊥)
      → IsLinearization spec (history ++ Invoked call operation ∷ []) order
  after_invocation call operation new =
      let h : Happening = Invoked call operation in
      record {
        invoked = all_invoked h;
        once = lin.once;
        returned = λ a reply back. elim (Contains-push_cases history h (Returned a reply) back) [
          | inl old ↦ lin.returned a reply old
          | inr last ↦ absurd cc
        ];
        legal = lin.legal;
        ordered = λ p q d e at there before. elim (before_push history h d.call e.call before) [
          | inl old ↦ lin.ordered p q d e at there old
          | inr last ↦ let same : call ≡ e.call = let is = last.1 in cc in
              absurd (stands_new call new q e there (sym same))
        ];
      }

  -- an order of a history is also one after the return of a call with the reply that it has in the
  -- order
  pub after_return : (call : Call) (operation reply : ℕ)
      → Contains order (record { call = call; operation = operation; reply = reply })
      → IsLinearization spec (history ++ Returned call reply ∷ []) order
  after_return call operation reply stands =
      let h : Happening = Returned call reply in
      record {
        invoked = all_invoked h;
        once = lin.once;
        returned = λ a answer back. elim (Contains-push_cases history h (Returned a answer) back) [
          | inl old ↦ lin.returned a answer old
          | inr last ↦
              let same : call ≡ a = cc in
              let word : reply ≡ answer = cc in (
                operation,
                subst (λ (c : Call). Contains order
                    (record { call = c; operation = operation; reply = answer })) same
                    (subst (λ (r : ℕ). Contains order
                    (record { call = call; operation = operation; reply = r })) word stands),
              )
        ];
        legal = lin.legal;
        ordered = λ p q d e at there before. elim (before_push history h d.call e.call before) [
          | inl old ↦ lin.ordered p q d e at there old
          | inr last ↦ let is = last.1 in absurd cc
        ];
      }

  -- a call that was invoked and isn't in the order is added to its end, with the reply of the
  -- sequential object
  module _ (d : Done) (invoked : Contains history (Invoked d.call d.operation))
      (new : (e : Done) → Contains order e → e.call ≡ d.call → ⊥)
      (is : (spec.next (list_after spec.next spec.init order) d.operation).1 ≡ d.reply) where
    unreturned : (reply : ℕ) → Contains history (Returned d.call reply) → ⊥
    unreturned reply back =
        let found = lin.returned d.call reply back in
        new (record { call = d.call; operation = found.0; reply = reply }) found.1 refl

    pub after_effect : IsLinearization spec history (order ++ d ∷ [])
    after_effect =
        record {
          invoked = All-push (λ (e : Done). Contains history (Invoked e.call e.operation)) order d
              lin.invoked invoked;
          once =
              all_pairs_push (λ (a b : Done). a.call ≢ b.call) order d lin.once
              (λ k e low. new (slice_index_or order k e) (Contains-get_or order k e low));
          returned = λ a reply back.
              let found = lin.returned a reply back in (
                found.0,
                Contains-append_left order (d ∷ [])
                    (record { call = a; operation = found.0; reply = reply }) found.1,
              );
          legal = is_run-push spec.next spec.init order d lin.legal is;
          ordered = λ p q a b at there before. elim (slice_get-push_cases order d p a at) [
            | inl old ↦ elim (slice_get-push_cases order d q b there) [
              | inl here ↦ lin.ordered p q a b old here before
              | inr last ↦ omega (arith, last.0, slice_get_within order p a old)
            ]
            | inr first ↦
                let back : slice_get history before.0 ≡ Some (Returned d.call before.2) =
                subst (λ (c : Done). slice_get history before.0 ≡ Some (Returned c.call before.2))
                first.1 before.5 in
                absurd
                (unreturned before.2 (contained history before.0 (Returned d.call before.2) back))
          ];
        }

-- Lines of one more name, or of one more call.
use Rattle.std.proofs.Common.{◌≡◌, ◌+◌, ◌<◌, ◌++◌, ◌∷◌, [], ℕ, zero, suc, List, Some, length, take, get_or, slice_get, arith, refl, sym, ap, ◌∙◌}
use Rattle.std.proofs.lemmas.List.{append-nil, append_assoc, take_more}
use Rattle.std.proofs.lemmas.Option.{slice_get_within, slice_get-get_or}
use Rattle.book_base.specs.declared.call.Call.{Call}
use Rattle.log_books.specs.declared.key_calls.LinedCall.{LinedCall}
use Rattle.log_books.specs.Lines.{name_line, names_text, call_line, calls_text}

names_push : (n : ℕ) (names : List (List ℕ)) (name : List ℕ)
    → names_text n (names ++ name ∷ []) ≡ names_text n names ++ name_line (n + length names) name
names_push n [] name = append-nil (name_line n name)
    ∙ ap (λ (m : ℕ). name_line m name) (omega arith)
names_push n (first ∷ names) name =
    ap (λ (l : List ℕ). name_line n first ++ l) (names_push (n + 1) names name)
    ∙ sym (append_assoc (name_line n first) (names_text (n + 1) names) (name_line (n + 1 + length names) name))
    ∙ ap (λ (m : ℕ). (name_line n first ++ names_text (n + 1) names) ++ name_line m name) (omega arith)

-- the item at a place is the last of those up to it
pub take_next : {X : Type 0} (xs : List X) (k : ℕ) (x : X) → slice_get xs k ≡ Some x
    → take (k + 1) xs ≡ take k xs ++ x ∷ []
take_next xs k x e =
    let low = slice_get_within xs k x e in
    let same : get_or xs k x ≡ x = cc (sym (slice_get-get_or xs k x low) ∙ e) in
    take_more xs k x low ∙ ap (λ y. take k xs ++ y ∷ []) same

pub length_taken : {X : Type 0} (xs : List X) (k : ℕ) → k < length xs → length (take k xs) ≡ k
length_taken [] k low = absurd (omega (arith, low))
length_taken (x ∷ xs) zero low = refl
length_taken (x ∷ xs) (suc k) low = ap suc (length_taken xs k (omega (arith, low)))

pub names_next : (names : List (List ℕ)) (k : ℕ) (name : List ℕ) → slice_get names k ≡ Some name
    → names_text 0 (take (k + 1) names) ≡ names_text 0 (take k names) ++ name_line k name
names_next names k name at =
    ap (names_text 0) (take_next names k name at) ∙ names_push 0 (take k names) name
    ∙ ap (λ (m : ℕ). names_text 0 (take k names) ++ name_line m name) (counted k)
  where
    counted : (n : ℕ) → 0 + length (take k names) ≡ k
    counted n = let is = length_taken names k (slice_get_within names k name at) in omega (arith, is)

calls_push : (calls : List LinedCall) (names : List Call) (c : LinedCall) (n : Call)
    → length calls ≡ length names
    → calls_text (calls ++ c ∷ []) (names ++ n ∷ []) ≡ calls_text calls names ++ call_line c n
calls_push [] [] c n same = append-nil (call_line c n)
calls_push [] (m ∷ names) c n same = absurd cc
calls_push (b ∷ calls) [] c n same = absurd cc
calls_push (b ∷ calls) (m ∷ names) c n same =
    ap (λ (l : List ℕ). call_line b m ++ l) (calls_push calls names c n (omega (arith, same)))
    ∙ sym (append_assoc (call_line b m) (calls_text calls names) (call_line c n))

pub calls_next : (calls : List LinedCall) (names : List Call) (k : ℕ) (d : LinedCall) (e : Call)
    → k < length calls → k < length names
    → calls_text (take (k + 1) calls) (take (k + 1) names)
    ≡ calls_text (take k calls) (take k names) ++ call_line (get_or calls k d) (get_or names k e)
calls_next calls names k d e low few =
    ap (λ l. calls_text l (take (k + 1) names)) (take_more calls k d low)
    ∙ ap (λ l. calls_text (take k calls ++ get_or calls k d ∷ []) l) (take_more names k e few)
    ∙ calls_push (take k calls) (take k names) (get_or calls k d) (get_or names k e)
    (length_taken calls k low ∙ sym (length_taken names k few))

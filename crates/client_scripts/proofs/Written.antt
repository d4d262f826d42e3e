-- The text of a script, written part by part.
use Rattle.std.proofs.Common.{◌≡◌, ℕ, zero, suc, ◌+◌, ◌<◌, List, [], ◌∷◌, ◌++◌, length, take, get_or, Some, sym, ap, ◌∙◌, append_assoc, arith, slice_get}
use Rattle.std.specs.Prelude.{slice_index, codes}
use Rattle.std.proofs.lemmas.List.{take_more, length-take}
use Rattle.std.proofs.lemmas.Option.{none-some, same_Some}
use Rattle.text_fields.specs.Lines.{line_text, text_of, by_number}
use Rattle.book_text.proofs.Texts.{text_of-one, one_more, lines_more}
use Rattle.text_fields.specs.declared.version.Version.TheVariants.{Second}
use Rattle.text_fields.specs.Head.{head_lines}
use Rattle.book_text.specs.Grammar.{end_words}
use Rattle.client_scripts.specs.Plans.{Plan, sizes}
use Rattle.client_scripts.specs.Grammar.{caller_lines, stop_line, turns_words, script_lines}
use Rattle.client_scripts.proofs.Groups.{by_number-push}

-- the lines of one item more
pub part_more : {X : Type 0} (write : ℕ → X → List (List (List ℕ))) (old middle new : List ℕ)
    (xs : List X) (d : X) (k : ℕ) → k < length xs
    → middle ≡ old ++ text_of (by_number write 0 (take k xs))
    → new ≡ middle ++ text_of (write k (get_or xs k d))
    → new ≡ old ++ text_of (by_number write 0 (take (k + 1) xs))
part_more {X} write old middle new xs d k lt h e =
    let x : X = get_or xs k d in
    let size : 0 + length (take k xs) ≡ k = omega (arith, length-take k xs) in
    let one : by_number write 0 (take (k + 1) xs) ≡ by_number write 0 (take k xs) ++ write k x =
    ap (by_number write 0) (take_more xs k d lt) ∙ by_number-push write 0 (take k xs) x k size in
    lines_more old middle new (by_number write 0 (take k xs)) (write k x) h e
    ∙ ap (λ (ls : List (List (List ℕ))). old ++ text_of ls) (sym one)

-- one line is a text
pub one_line : (old new : List ℕ) (words : List (List ℕ)) → new ≡ old ++ line_text words
    → new ≡ old ++ text_of (words ∷ [])
one_line old new words h = h ∙ ap (λ (x : List ℕ). old ++ x) (sym (text_of-one words))

pub value_at : (xs : List ℕ) (k x : ℕ) → slice_get xs k ≡ Some x → x ≡ slice_index xs k
value_at [] k x e = absurd (none-some x e)
value_at (y ∷ xs) zero x e = sym (same_Some y x e)
value_at (y ∷ xs) (suc k) x e = value_at xs k x e

-- the parts together are the whole text
pub whole_written : (plan : Plan) (m1 m2 m3 m4 new : List ℕ)
    → m1 ≡ text_of (head_lines Second (codes "script") plan.kind (sizes plan.operations))
    → m2 ≡ m1 ++ text_of (by_number (caller_lines plan.kind) 0 plan.operations)
    → m3 ≡ m2 ++ text_of (by_number stop_line 0 plan.stops)
    → m4 ≡ m3 ++ line_text (turns_words plan.turns) → new ≡ m4 ++ line_text end_words
    → new ≡ text_of (script_lines Second plan)
whole_written plan m1 m2 m3 m4 new e1 e2 e3 e4 e5 =
    let head : List (List (List ℕ)) =
    head_lines Second (codes "script") plan.kind (sizes plan.operations) in
    let calls : List (List (List ℕ)) = by_number (caller_lines plan.kind) 0 plan.operations in
    let stops : List (List (List ℕ)) = by_number stop_line 0 plan.stops in
    let turns : List (List ℕ) = turns_words plan.turns in
    let two = lines_more [] m1 m2 head calls e1 e2 in
    let three = lines_more [] m2 m3 (head ++ calls) stops two e3 in
    let four = one_more [] m3 m4 ((head ++ calls) ++ stops) turns three e4 in
    let all = one_more [] m4 new (((head ++ calls) ++ stops) ++ turns ∷ []) end_words four e5 in
    let joined : (((head ++ calls) ++ stops) ++ turns ∷ []) ++ end_words ∷ [] ≡ head
    ++ (calls ++ (stops ++ turns ∷ end_words ∷ []))
    = append_assoc ((head ++ calls) ++ stops) (turns ∷ []) (end_words ∷ [])
    ∙ append_assoc (head ++ calls) stops (turns ∷ end_words ∷ [])
    ∙ append_assoc head calls (stops ++ turns ∷ end_words ∷ []) in
    all ∙ ap text_of joined

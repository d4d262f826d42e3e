-- Lists that are cut at the first byte of a given value.
use Rattle.std.proofs.Common.{◌≡◌, ℕ, ◌+◌, ◌<◌, ◌≤◌, Bool, true, false, cond, eqb, ltb, List, [], ◌∷◌, ◌++◌, length, get_or, take, drop, Some, None, refl, ap, ◌∙◌, arith}
use Rattle.std.specs.Option.{option_map}
use Rattle.std.specs.List.{slice_split, position_or_len, before_first, after_first}
use Rattle.std.proofs.lemmas.Bool.{ltb-true, ltb-false, eqb-true}
use Rattle.std.proofs.lemmas.List.Sums.{split_at_first, passes_at_first, fails_before_first}
use Rattle.std.proofs.lemmas.List.Splits.{slice_split_first, slice_split_none}
use Rattle.text_fields.specs.Lines.{cut_at}

abbrev pub parts_at : ℕ → List ℕ → List ℕ × List ℕ
parts_at i bytes = (take i bytes, drop (i + 1) bytes)

chosen_none : (b : Bool) (i : ℕ) (bytes : List ℕ)
    → option_map (λ k. parts_at k bytes) (cond b (Some i) None) ≡ None → b ≡ false
chosen_none true i bytes e = absurd cc
chosen_none false i bytes e = refl

pub chosen_some : (b : Bool) (i : ℕ) (bytes : List ℕ) (parts : List ℕ × List ℕ)
    → option_map (λ k. parts_at k bytes) (cond b (Some i) None) ≡ Some parts → (b ≡ true)
    × (parts_at i bytes ≡ parts)
chosen_some true i bytes parts e = (refl, cc)
chosen_some false i bytes parts e = absurd cc

-- a list without the byte has one part
pub split_uncut : (byte : ℕ) (bytes : List ℕ) → cut_at byte bytes ≡ None
    → slice_split (λ b. eqb b byte) bytes ≡ bytes ∷ []
split_uncut byte bytes e =
    let p = λ (b : ℕ). eqb b byte in
    let le : length bytes ≤ position_or_len p bytes = ltb-false _ _ (chosen_none
    (ltb (position_or_len p bytes) (length bytes)) (position_or_len p bytes) bytes e) in
    slice_split_none p bytes (λ k d lt. fails_before_first p bytes k d (omega arith))

-- the first part of a list that is cut is what is before the byte
pub split_cut : (byte : ℕ) (bytes prefix rest : List ℕ) → cut_at byte bytes ≡ Some (prefix, rest)
    → slice_split (λ b. eqb b byte) bytes ≡ prefix ∷ slice_split (λ b. eqb b byte) rest
split_cut byte bytes prefix rest e =
    let p = λ (b : ℕ). eqb b byte in
    let c = chosen_some (ltb (position_or_len p bytes) (length bytes))
    (position_or_len p bytes) bytes (prefix, rest) e in
    let lt : position_or_len p bytes < length bytes = ltb-true _ _ c.0 in
    slice_split_first p bytes 0 lt ∙ ap (λ (x : List ℕ × List ℕ). x.0 ∷ slice_split p x.1) c.1

-- the parts and the byte between them are the list
pub cut_joins : (byte : ℕ) (bytes prefix rest : List ℕ) → cut_at byte bytes ≡ Some (prefix, rest)
    → bytes ≡ prefix ++ byte ∷ rest
cut_joins byte bytes prefix rest e =
    let p = λ (b : ℕ). eqb b byte in
    let c = chosen_some (ltb (position_or_len p bytes) (length bytes))
    (position_or_len p bytes) bytes (prefix, rest) e in
    let lt : position_or_len p bytes < length bytes = ltb-true _ _ c.0 in
    let at : get_or bytes (position_or_len p bytes) 0 ≡ byte =
    eqb-true _ _ (passes_at_first p bytes 0 lt) in
    split_at_first p bytes 0 lt ∙ ap (λ b. before_first p bytes ++ b ∷ after_first p bytes) at
    ∙ ap (λ (x : List ℕ × List ℕ). x.0 ++ byte ∷ x.1) c.1

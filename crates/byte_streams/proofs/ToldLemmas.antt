-- Lemmas on the bytes that sources and sinks tell.
use Rattle.std.proofs.Common.{◌≡◌, ℕ, ◌+◌, ◌-◌, ◌≤◌, List, ◌++◌, length, take, drop, Some, None, Option, sym, ap, ◌∙◌, subst, append-nil, take_at, drop_at, take_all, take-add}
use Rattle.std.proofs.lemmas.List.{drop_all, take_rest}
use Rattle.std.proofs.KnownBytes.{Appends-trans}
use Rattle.std.specs.Io.KnownBytes.{Appends, Consumes, IsAtEnd}
use Rattle.byte_streams.specs.Told.{HasRead}
use Rattle.byte_streams.specs.declared.TheConstants.{INPUT_LIMIT}

-- a sink that took a text up to a place, and then the first bytes of the rest, took it up to the
-- place after them
pub Appends-take : (a b c : Option (List ℕ)) (text : List ℕ) (at count : ℕ)
    → Appends a b (take at text)
    → Appends b c (take count (take (length text - at) (drop at text)))
    → Appends a c (take (at + count) text)
Appends-take a b c text at count before now =
    let both : take at text ++ take count (take (length text - at) (drop at text))
    ≡ take (at + count) text =
    rw take_rest (sym (take-add at count text)) in
    subst (Appends a c) both (Appends-trans a b c _ _ before now)

-- a source that gave as many bytes as a read to the limit asks for was read
pub HasRead-full : (old new : Option (List ℕ)) (bytes : List ℕ) → Consumes old new bytes
    → length bytes ≡ INPUT_LIMIT + 1 → HasRead old new bytes
HasRead-full None new bytes given full = tt
HasRead-full (Some held) None bytes given full = absurd given
HasRead-full (Some held) (Some left) bytes given full = (
  sym (ap (take (INPUT_LIMIT + 1)) given ∙ take_at bytes left _ full),
  ap Some (sym (ap (drop (INPUT_LIMIT + 1)) given ∙ drop_at bytes left _ full)),
)

-- a source that gave all that it held was read to its end
pub HasRead-end : (old new : Option (List ℕ)) (bytes : List ℕ) → Consumes old new bytes
    → IsAtEnd new → length bytes ≤ INPUT_LIMIT + 1 → HasRead old new bytes
HasRead-end None new bytes given end few = tt
HasRead-end (Some held) None bytes given end few = absurd given
HasRead-end (Some held) (Some left) bytes given end few =
    let all : held ≡ bytes = given ∙ ap (λ l. bytes ++ l) end ∙ append-nil bytes in (
      sym (ap (take (INPUT_LIMIT + 1)) all ∙ take_all _ bytes few),
      ap Some (end ∙ sym (ap (drop (INPUT_LIMIT + 1)) all ∙ drop_all _ bytes few)),
    )

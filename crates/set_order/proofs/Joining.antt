-- A reply of joins has the numbers that were joined before, and the one that its operation joins.
use Rattle.std.proofs.Common.{◌≡◌, ℕ, zero, suc, ◌+◌, ◌-◌, ◌/◌, ◌%◌, ◌^◌, ◌<◌, ◌≤◌, ◌∙◌, Bool, true, false, List, [], ◌∷◌, map, length, Some, refl, sym, ap, subst, inl, inr, slice_get, arith}
use Rattle.std.specs.Prelude.{bit_and, bit_or}
use Rattle.std.proofs.lemmas.Bool.{cond-true, cond-false, cases_Bool}
use Rattle.std.proofs.lemmas.Nat.Bits.{bit_at_or, same_from_bits}
use Rattle.std.proofs.Math.Pow.{pow-lt}
use Rattle.std.proofs.lemmas.Nat.{or_comm, or_lt, and_or_self}
use Rattle.std.proofs.lemmas.Option.{same_Some, none-some}
use Rattle.std.specs.Int.Bits.{or_self}
use Rattle.seq_objects.specs.Replies.{reply_value, reply_bad}
use Rattle.set_order.specs.Serving.{ServesTo, NeverRepliesFrom}
use Rattle.set_order.specs.Joins.{is_join, mask_of, with_join, with_joins, joins_some, list_joined, join_reply, served_joins, HasMask}
use Rattle.set_order.specs.JoinLaws.{join_small}
use Rattle.set_order.proofs.Trying.{got_map}

or_assoc : (a b c : ℕ) → bit_or (bit_or a b) c ≡ bit_or a (bit_or b c)
or_assoc a b c =
    same_from_bits (bit_or (bit_or a b) c) (bit_or a (bit_or b c))
    (λ (i : ℕ). omega (
      arith,
      bit_at_or (bit_or a b) c i,
      bit_at_or a b i,
      bit_at_or a (bit_or b c) i,
      bit_at_or b c i,
    ))

-- a mask joined with another one, and then with a number, is joined with the other one's numbers
-- and that number
join-more : (a mask op : ℕ) → with_join (bit_or a mask) op ≡ bit_or a (with_join mask op)
join-more a mask op = elim (cases_Bool (is_join op)) [
  | inl joins ↦
      cond-true (is_join op) (bit_or (bit_or a mask) (2 ^ (op - 2 ^ 32))) (bit_or a mask) joins
      ∙ (or_assoc a mask (2 ^ (op - 2 ^ 32))
      ∙ ap (bit_or a) (sym (cond-true (is_join op) (bit_or mask (2 ^ (op - 2 ^ 32))) mask joins)))
  | inr stays ↦
      cond-false (is_join op) (bit_or (bit_or a mask) (2 ^ (op - 2 ^ 32))) (bit_or a mask) stays
      ∙ ap (bit_or a) (sym (cond-false (is_join op) (bit_or mask (2 ^ (op - 2 ^ 32))) mask stays))
]

-- One mask has all numbers of another one.
abbrev Has : ℕ → ℕ → Type 0
Has mask part = (a : ℕ) × (mask ≡ bit_or a part)

has-more : (mask part op : ℕ) → Has mask part → Has (with_join mask op) part
has-more mask part op h = elim (cases_Bool (is_join op)) [
  | inl joins ↦
      let bit : ℕ = 2 ^ (op - 2 ^ 32) in
      let made : with_join mask op ≡ bit_or mask bit =
      cond-true (is_join op) (bit_or mask bit) mask joins in
      let turned : bit_or (bit_or h.0 part) bit ≡ bit_or (bit_or h.0 bit) part =
      or_assoc h.0 part bit ∙ (ap (bit_or h.0) (or_comm part bit) ∙ sym (or_assoc h.0 bit part)) in
      (bit_or h.0 bit, made ∙ (ap (λ (n : ℕ). bit_or n bit) h.1 ∙ turned))
  | inr stays ↦ (h.0, cond-false (is_join op) (bit_or mask (2 ^ (op - 2 ^ 32))) mask stays ∙ h.1)
]

has-all : (mask part : ℕ) (ops : List ℕ) → Has mask part → Has (with_joins mask ops) part
has-all mask part [] h = h
has-all mask part (op ∷ ops) h = has-all (with_join mask op) part ops (has-more mask part op h)

has-one : (mask part : ℕ) (ops : List ℕ) (p op : ℕ) → slice_get ops p ≡ Some op → Has mask part
    → Has (with_joins mask ops) (with_join part op)
has-one mask part [] p op at h = absurd (none-some op at)
has-one mask part (first ∷ ops) zero op at h =
    let same : first ≡ op = same_Some first op at in
    let now : Has (with_join mask first) (with_join part op) = (
      h.0,
      ap (λ (n : ℕ). with_join n first) h.1
          ∙ (ap (with_join (bit_or h.0 part)) same ∙ join-more h.0 part op),
    ) in
    has-all (with_join mask first) (with_join part op) ops now
has-one mask part (first ∷ ops) (suc p) op at h =
    has-one (with_join mask first) part ops p op at (has-more mask part first h)

with_join-small : (mask op : ℕ) → mask < 2 ^ 32 → with_join mask op < 2 ^ 32
with_join-small mask op small = elim (cases_Bool (is_join op)) [
  | inl joins ↦
      let below : op - 2 ^ 32 < 32 = omega (arith, join_small op joins) in
      let bit : 2 ^ (op - 2 ^ 32) < 2 ^ 32 = pow-lt below in
      subst (λ (n : ℕ). n < 2 ^ 32)
      (sym (cond-true (is_join op) (bit_or mask (2 ^ (op - 2 ^ 32))) mask joins))
      (or_lt 32 mask (2 ^ (op - 2 ^ 32)) small bit)
  | inr stays ↦ subst (λ (n : ℕ). n < 2 ^ 32)
      (sym (cond-false (is_join op) (bit_or mask (2 ^ (op - 2 ^ 32))) mask stays)) small
]

with_joins-small : (mask : ℕ) (ops : List ℕ) → mask < 2 ^ 32 → with_joins mask ops < 2 ^ 32
with_joins-small mask [] small = small
with_joins-small mask (op ∷ ops) small =
    with_joins-small (with_join mask op) ops (with_join-small mask op small)

mask_of-small : (list : List ℕ) → mask_of list < 2 ^ 32
mask_of-small [] = omega arith
mask_of-small (word ∷ list) = omega arith

reply_is : (list ops after replies : List ℕ) (p op reply : ℕ) → served_joins list ops
    ≡ Some (after, replies) → slice_get ops p ≡ Some op → slice_get replies p ≡ Some reply
    → reply ≡ join_reply (with_joins (mask_of list) ops) op
reply_is list ops after replies p op reply gives at replied =
    let mask : ℕ = with_joins (mask_of list) ops in
    let both = same_Some (list_joined (joins_some ops) mask list, map (join_reply mask) ops)
    (after, replies) gives in
    let there : slice_get replies p ≡ Some (join_reply mask op) =
    ap (λ (x : List ℕ × List ℕ). slice_get x.1 p) (sym both)
    ∙ got_map (join_reply mask) ops p op at in
    same_Some reply (join_reply mask op) (sym replied ∙ there)

-- an operation that joins nothing gets no other reply than `bad`
pub never_other : (list : List ℕ) (op reply : ℕ) → is_join op ≡ false → (reply ≡ reply_bad → ⊥)
    → NeverRepliesFrom served_joins list op reply
never_other list op reply stays other sets later serves ops after replies p gives at replied =
    other (reply_is later ops after replies p op reply gives at replied
    ∙ cond-false (is_join op) (reply_value (with_joins (mask_of later) ops)) reply_bad stays)

has-has : (a b c : ℕ) → Has a b → Has b c → Has a c
has-has a b c h k = (bit_or h.0 k.0, h.1 ∙ (ap (bit_or h.0) k.1 ∙ sym (or_assoc h.0 k.0 c)))

has-joined : (some : Bool) (mask : ℕ) (list : List ℕ) → mask < 2 ^ 32 → Has mask (mask_of list)
    → Has (mask_of (list_joined some mask list)) (mask_of list)
has-joined true mask list small h = let same : mask % 2 ^ 32 ≡ mask = omega arith in
    (h.0, same ∙ h.1)
has-joined false mask list small h = (mask_of list, sym (or_self (mask_of list)))

-- numbers stay joined
has-later : (list : List ℕ) (sets : List (List ℕ)) (later : List ℕ)
    → ServesTo served_joins list sets later → Has (mask_of later) (mask_of list)
has-later list [] later same = (mask_of list, ap mask_of (sym same) ∙ sym (or_self (mask_of list)))
has-later list (ops ∷ sets) later h =
    let mask : ℕ = with_joins (mask_of list) ops in
    let both =
    same_Some (list_joined (joins_some ops) mask list, map (join_reply mask) ops) (h.0, h.1) h.2 in
    let now : Has mask (mask_of list) =
    has-all (mask_of list) (mask_of list) ops (mask_of list, sym (or_self (mask_of list))) in
    let step : Has (mask_of h.0) (mask_of list) =
    subst (λ (l : List ℕ). Has (mask_of l) (mask_of list)) (ap (λ (x : List ℕ × List ℕ). x.0) both)
    (has-joined (joins_some ops) mask list
    (with_joins-small (mask_of list) ops (mask_of-small list)) now) in
    has-has (mask_of later) (mask_of h.0) (mask_of list) (has-later h.0 sets later h.3) step

-- an operation that joins a number gets no mask without this number, or without those that are
-- joined already
pub never_less : (list : List ℕ) (op reply : ℕ) → is_join op ≡ true
    → (HasMask reply (with_join (mask_of list) op) → ⊥)
    → NeverRepliesFrom served_joins list op reply
never_less list op reply joins less sets later serves ops after replies p gives at replied =
    let mask : ℕ = with_joins (mask_of later) ops in
    let joined : ℕ = with_join (mask_of list) op in
    let is : reply ≡ reply_value mask = reply_is later ops after replies p op reply gives at replied
    ∙ cond-true (is_join op) (reply_value mask) reply_bad joins in
    let small : mask < 2 ^ 32 = with_joins-small (mask_of later) ops (mask_of-small later) in
    let tag : reply / 2 ^ 32 ≡ 2 = omega arith in
    let value : reply % 2 ^ 32 ≡ mask = omega arith in
    let has : Has mask joined =
    has-one (mask_of later) (mask_of list) ops p op at (has-later list sets later serves) in
    let kept : bit_and mask joined ≡ joined =
    ap (λ (n : ℕ). bit_and n joined) has.1 ∙ and_or_self joined has.0 in
    less (tag, ap (λ (n : ℕ). bit_and n joined) value ∙ kept)

-- Where an operation joins a number, one word fits a capacity that the list after the operations
-- fits.
pub joined_room : (list ops : List ℕ) (room : ℕ) → joins_some ops ≡ true
    → ((after replies : List ℕ) → served_joins list ops ≡ Some (after, replies)
    → length after ≤ room) → 1 ≤ room
joined_room list ops room some fits =
    let mask : ℕ = with_joins (mask_of list) ops in
    subst (λ (b : Bool). length (list_joined b mask list) ≤ room) some
    (fits (list_joined (joins_some ops) mask list) (map (join_reply mask) ops) refl)

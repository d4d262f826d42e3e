-- The words that belong in a row depend on the lists of its region alone.
use Rattle.std.proofs.Common.{◌≡◌, ℕ, zero, suc, ◌+◌, ◌*◌, ◌-◌, ◌^◌, ◌<◌, Bool, true, false, nat_lt, if◌then◌else◌, List, [], slice_index, slice_index_or, ap, ◌∙◌, arith}
use Rattle.std.proofs.lemmas.Nat.{div-mul-add, mod-mul-add}
use Rattle.book_base.specs.OperationWord.{low_of, high_of, joined}
use Rattle.world_core.specs.declared.region.Region.{Region}
use Rattle.world_core.specs.declared.region.Region.TheVariants.{N, M}
use Rattle.world_core.specs.Layout.{View_entry, Embedded_entry, content}
use Rattle.world_core.specs.Local.{Local, word_of}

-- Two locals have the same row k in a region.
pub record SameAnnouncement (l m : Local) (k : ℕ) : Type 0 where
  pub operation : slice_index l.operations k ≡ slice_index m.operations k
  pub embedded : slice_index_or l.embedded_in_N k [] ≡ slice_index_or m.embedded_in_N k []

pub record SameRecord (l m : Local) (k : ℕ) : Type 0 where
  pub reply : slice_index l.replies k ≡ slice_index m.replies k
  pub view : slice_index_or l.views k [] ≡ slice_index_or m.views k []
  pub embedded : slice_index_or l.embedded_in_M k [] ≡ slice_index_or m.embedded_in_M k []

abbrev pub SameRow : Local → Local → Region → ℕ → Type 0
SameRow l m N k = SameAnnouncement l m k
SameRow l m M k = SameRecord l m k

same_entry : (l m : Local) (k i j : ℕ) (b : Bool) → SameRecord l m k
    → word_of l k (if b then View_entry i else Embedded_entry M j)
    ≡ word_of m k (if b then View_entry i else Embedded_entry M j)
same_entry l m k i j true h = ap (λ (c : List ℕ). slice_index c i) h.view
same_entry l m k i j false h = ap (λ (c : List ℕ). slice_index c j) h.embedded

-- the same words belong in the row of two locals that have the same row
pub same_row : (n : ℕ) (l m : Local) (r : Region) (k p : ℕ) → SameRow l m r k
    → word_of l k (content n r p) ≡ word_of m k (content n r p)
same_row n l m N k zero h = ap low_of h.operation
same_row n l m N k (suc zero) h = ap high_of h.operation
same_row n l m N k (suc (suc j)) h = ap (λ (c : List ℕ). slice_index c j) h.embedded
same_row n l m M k zero h = h.reply
same_row n l m M k (suc j) h = same_entry l m k j (j - n) (nat_lt j n) h

-- the words of an operation that was joined from two
pub low_joined : (a b : ℕ) → a < 2 ^ 64 → low_of (joined a b) ≡ a
low_joined a b low = ap low_of (let e : a + b * 2 ^ 64 ≡ b * 2 ^ 64 + a = omega arith in e)
    ∙ mod-mul-add b (2 ^ 64) a low

pub high_joined : (a b : ℕ) → a < 2 ^ 64 → high_of (joined a b) ≡ b
high_joined a b low = ap high_of (let e : a + b * 2 ^ 64 ≡ b * 2 ^ 64 + a = omega arith in e)
    ∙ div-mul-add b (2 ^ 64) a low

-- Calls one after the other, and the forms of their replies.
use Rattle.std.proofs.Common.{◌≡◌, ◌≢◌, ℕ, ◌-◌, ◌^◌, ◌≤◌, arith, List, [], ◌∷◌, ◌++◌, refl, ap, ◌∙◌}
use Rattle.std.specs.List.{All}
use Rattle.std.proofs.lemmas.List.Elements.{All-nil, All-cons}
use Rattle.seq_objects.specs.Replies.{reply_done}
use Rattle.shared_words.specs.Deeds.{Deed, Stored, AreCalls}
use Rattle.test_objects.specs.Forms.{read, IsTallied, IsCellCall, IsTallyReply, IsCellReply, TalliesAreFormed, CellsAreFormed}

-- the reply to a tallied call has the form of a tally's reply
pub tally_form : (op reply : ℕ) (before after : List Deed) → IsTallied op reply before after
    → IsTallyReply op reply
tally_form op reply before after call =
    record {
      counts = λ is. let c = call.counts is in (c.0, c.2);
      other = λ isnt. (call.other isnt).1;
    }

pub cell_form : (op reply : ℕ) (before after : List Deed) → IsCellCall op reply before after
    → IsCellReply op reply
cell_form op reply before after call =
    record {
      writes = λ value low is. (call.writes value low is).1;
      reads = λ is. let c = call.reads is in (c.0, c.2);
      other = λ no_write no_read. (call.other no_write no_read).1;
    }

-- a store of what a write asks for is its call
pub stored_is_kept : (op word : ℕ) (before after : List Deed) → 2 ^ 32 ≤ op → op ≢ read
    → op ≤ 2 ^ 33 → word ≡ op - 2 ^ 32
    → after ≡ before ++ Stored 0 word ∷ [] → IsCellCall op reply_done before after
stored_is_kept op word before after from no_read to is step =
    record {
      writes = λ value low same. let value_is : word ≡ value = omega arith in
          (step ∙ ap (λ (w : ℕ). before ++ Stored 0 w ∷ []) value_is, refl);
      reads = λ same. absurd (no_read same);
      other = λ no_write no_read'. absurd (no_write (op - 2 ^ 32) (omega arith) (omega arith));
    }

-- what follows of each call holds of each pair
formed : (call : ℕ → ℕ → List Deed → List Deed → Type 0) (form : ℕ → ℕ → Type 0)
    → ((op reply : ℕ) (before after : List Deed) → call op reply before after → form op reply)
    → (pairs : List (ℕ × ℕ)) (before after : List Deed) → AreCalls call pairs before after
    → All (λ (pair : ℕ × ℕ). form pair.0 pair.1) pairs
formed call form gives [] before after calls = All-nil (λ (pair : ℕ × ℕ). form pair.0 pair.1)
formed call form gives (pair ∷ pairs) before after calls =
    All-cons (λ (p : ℕ × ℕ). form p.0 p.1) pair pairs (gives pair.0 pair.1 before calls.0 calls.1)
    (formed call form gives pairs calls.0 after calls.2)

pub tallies_are_formed : TalliesAreFormed
tallies_are_formed = formed IsTallied IsTallyReply tally_form

pub cells_are_formed : CellsAreFormed
cells_are_formed = formed IsCellCall IsCellReply cell_form

-- The operation words of a register: the read, the writes, and the others.
use Rattle.std.proofs.Common.{◌≡◌, ◌≢◌, ℕ, ◌-◌, ◌*◌, ◌^◌, ◌<◌, ◌≤◌, Bool, true, false, ◌&&◌, ◌||◌, ◌==◌, if◌then◌else◌, Some, None, refl, sym, ap, ◌∙◌, subst, arith, inl, inr}
use Rattle.std.specs.Prelude.{is_some}
use Rattle.std.proofs.lemmas.Bool.{and_parts, cases_Bool, eqb-true}
use Rattle.seq_objects.specs.declared.kind.Kind.TheVariants as kinds
use Rattle.seq_objects.specs.Words.{OperationEntry, is_operation_of, is_known_word, entry_of, entries, code_of, argument_of, extra_of}
use Rattle.seq_objects.specs.Words as words

-- the read, whose code is 2
pub read_is : (op : ℕ) → op ≡ 2 * 2 ^ 32 → (is_operation_of op words.write ≡ false)
    × (is_operation_of op words.read ≡ true)
read_is op same = subst
    (λ (x : ℕ). (is_operation_of x words.write ≡ false) × (is_operation_of x words.read ≡ true))
    (sym same) (refl, refl)

is_read : (op : ℕ) → is_operation_of op words.read ≡ true → op ≡ 2 * 2 ^ 32
is_read op h =
    let a = and_parts (code_of op == 2) ((argument_of op == 0) && (extra_of op == 0)) h in
    let b = and_parts (argument_of op == 0) (extra_of op == 0) a.1 in
    let code : code_of op ≡ 2 = eqb-true (code_of op) 2 a.0 in
    let argument : argument_of op ≡ 0 = eqb-true (argument_of op) 0 b.0 in
    let extra : extra_of op ≡ 0 = eqb-true (extra_of op) 0 b.1 in
    omega (arith, code, argument, extra)

-- A write: its word is that of the write of 0 with its argument.
pub record IsWrite (op : ℕ) : Type 0 where
  pub write : is_operation_of op words.write ≡ true
  pub least : 2 ^ 32 ≤ op
  pub argument : op - 2 ^ 32 ≡ argument_of op
  pub small : op - 2 ^ 32 < 2 ^ 32

is_write : (op : ℕ) → is_operation_of op words.write ≡ true → IsWrite op
is_write op h =
    let a = and_parts (code_of op == 1) (extra_of op == 0) h in
    let code : code_of op ≡ 1 = eqb-true (code_of op) 1 a.0 in
    let extra : extra_of op ≡ 0 = eqb-true (extra_of op) 0 a.1 in
    record {
      write = h;
      least = omega (arith, code, extra);
      argument = omega (arith, code, extra);
      small = omega (arith, code, extra);
    }

known_by : (e f : OperationEntry) (a b : Bool)
    → is_some (if a then Some e else (if b then Some f else None)) ≡ a || b
known_by e f true b = refl
known_by e f false true = refl
known_by e f false false = refl

-- the register knows the writes and the read
pub known_is : (op : ℕ) → is_known_word kinds.Register op
    ≡ (is_operation_of op words.write || is_operation_of op words.read)
unfolding is_known_word entry_of entries
known_is op =
    known_by words.write words.read (is_operation_of op words.write) (is_operation_of op words.read)

-- a known word that isn't the read is a write
pub writes : (op : ℕ) → op ≢ 2 * 2 ^ 32 → is_known_word kinds.Register op ≡ true → IsWrite op
writes op other known =
    elim (cases_Bool (is_operation_of op words.write)) [
      | inl write ↦ is_write op write
      | inr none ↦
          absurd (other (is_read op
          (sym (ap (λ b. b || is_operation_of op words.read) none) ∙ sym (known_is op) ∙ known)))
    ]

-- The replies of the calls of every run of a tally, and of a cell, by their operations.
use Rattle.std.proofs.Common.{◌≡◌, ℕ, ◌+◌, ◌-◌, ◌^◌, ◌<◌, ◌⊎◌, true, false, ◌&&◌, ◌||◌, ◌==◌, List, [], ◌∷◌, map, take, get_or, Some, slice_get, slice_index, slice_index_or, refl, sym, ap, ◌∙◌, subst, inl, inr, arith, eq-eqb}
use Rattle.std.specs.List.{All, range_with_len}
use Rattle.std.proofs.lemmas.Bool.{and_parts, and_from, cases_Bool, eqb-true, cond-true, cond-false}
use Rattle.std.proofs.lemmas.List.Elements.{All-same, All-take, All-map}
use Rattle.std.proofs.lemmas.List.FromFn.{length-range_with_len, get_or-range_with_len}
use Rattle.std.proofs.lemmas.Option.{same_Some, none-some, slice_get-get_or}
use Rattle.book_base.specs.declared.TheConstants.{BAD}
use Rattle.book_base.specs.SeqSpec.{SeqSpec}
use Rattle.seq_objects.specs.declared.kind.Kind.TheVariants.{Counter, Register}
use Rattle.seq_objects.specs.Objects.{kind_spec}
use Rattle.seq_objects.specs.Replies.{reply_done, reply_value}
use Rattle.seq_objects.specs.Words.{is_operation_of, code_of, argument_of, extra_of}
use Rattle.seq_objects.specs.Words as words
use Rattle.world_core.specs.Shape.{Shape}
use Rattle.world_core.specs.Local.{Local, Object_step}
use Rattle.world_core.specs.World.{World, Step, local_of, IsRun, end_of}
use Rattle.world_core.specs.Calls.{calls_in, local_at}
use Rattle.world_laws.proofs.Pages.{HasLengths, slice_get-made}
use Rattle.world_laws.proofs.Validity.{all_lengths}
use Rattle.report_lines.specs.Phases.{answered, HasMade, answers_in}
use Rattle.world_objects.specs.OneWord.{OneWord, one_word_shape, reply_by_step, reply_of, reply_if_announced, one_word_effects, Serves}
use Rattle.world_objects.specs.TallyAndCell.{tally, count_in, cell, value_in}
use Rattle.world_objects.proofs.OneWords.{one_word_orders_are_of_steps}
use Rattle.world_objects.proofs.TallyAndCell.{tally_serves_counter, cell_serves_register}
use Rattle.core_objects.proofs.RegisterWords.{read_is, known_is, writes}
use Rattle.test_objects.specs.Forms.{increment, IsTallyReply, IsCellReply}
use Rattle.core_runs.specs.Logged.{AreFormed}
use Rattle.core_runs.specs.Runs.{HaveMadePhases, RunsOfTalliesAreFormed, RunsOfCellsAreFormed}
use Rattle.core_runs.proofs.Answers.{has_begun, answer_at, answers_are_first}
use Rattle.core_runs.proofs.Logging.{answered_effect}

-- The reply of a call to an object of one word is that of its step, by the word that this found, or
-- bad where the call makes no step.
abbrev IsReplyOf : OneWord → ℕ → ℕ → Type 0
IsReplyOf o op reply = ((o.makes_step op ≡ true) × (found : ℕ) × (reply ≡ o.replies op found))
    ⊎ ((o.makes_step op ≡ false) × (reply ≡ BAD))

reply_of_step : (o : OneWord) (op reply : ℕ) (steps : List Object_step)
    → reply_by_step o op steps ≡ Some reply → (found : ℕ) × (reply ≡ o.replies op found)
reply_of_step o op reply [] is = absurd (none-some reply is)
reply_of_step o op reply (step ∷ more) is =
    (step.old, sym (same_Some (o.replies op step.old) reply is))

reply_is_of : (o : OneWord) (op reply : ℕ) (steps : List Object_step)
    → reply_of o op steps ≡ Some reply → IsReplyOf o op reply
reply_is_of o op reply steps is =
    elim (cases_Bool (o.makes_step op)) [
      | inl some ↦
          let found = reply_of_step o op reply steps
          (sym (cond-true (o.makes_step op) (reply_by_step o op steps) (Some BAD) some) ∙ is) in
          inl (some, found.0, found.1)
      | inr none ↦ inr (
        none,
        same_Some reply BAD
            (sym is ∙ cond-false (o.makes_step op) (reply_by_step o op steps) (Some BAD) none),
      )
    ]

-- what holds of the operation and the reply of each answered call of a caller holds of each pair of
-- `answers_in`
all_answers : (form : ℕ → ℕ → Type 0) (operations : List ℕ) (p : ℕ) (l : Local)
    → HasMade operations p l → HasLengths l
    → ((k : ℕ) → k < answered p → form (slice_index l.operations k) (slice_index l.replies k))
    → All (λ (pair : ℕ × ℕ). form pair.0 pair.1) (answers_in (calls_in l))
all_answers form operations p l made lengths each =
    let is_formed : ℕ × ℕ → Type 0 = λ pair. form pair.0 pair.1 in
    let answer : ℕ → ℕ × ℕ = answer_at operations p l made in
    let numbers : List ℕ = range_with_len 0 (answered p) in
    All-same is_formed (answers_in (calls_in l)) (take (answered p) (map answer numbers))
    (sym (answers_are_first operations p l made lengths (map answer numbers)
    (λ k low. slice_get-made answer (answered p) k low)))
    (All-take is_formed (answered p) (map answer numbers) (All-map is_formed answer numbers
    (λ k d low. let within : k < answered p =
    omega (arith, low, length-range_with_len 0 (answered p)) in
    each (get_or numbers k d)
    (omega (arith, within, get_or-range_with_len 0 (answered p) k d within)))))

module _ (o : OneWord) (list : ℕ → List ℕ) (spec : SeqSpec) (serves : Serves o list spec)
    (n cap : ℕ) (form : ℕ → ℕ → Type 0)
    (formed : (op reply : ℕ) → IsReplyOf o op reply → form op reply) where
  abbrev s : Shape
  s = one_word_shape n cap o

  formed_at_the_end : (steps : List Step) → IsRun s steps → (i : ℕ) (operations : List ℕ) (p : ℕ)
      → HasMade operations p (local_of (end_of s steps) i)
      → All (λ (pair : ℕ × ℕ). form pair.0 pair.1)
      (answers_in (calls_in (local_of (end_of s steps) i)))
  formed_at_the_end steps run i operations p made =
      let w : World = end_of s steps in
      let l : Local = local_of w i in
      let order = one_word_orders_are_of_steps o list spec serves n cap steps run in
      all_answers form operations p l made
      (all_lengths s w.locals (w, (steps, run, refl), refl) i) (λ k low.
      let op : ℕ = slice_index l.operations k in
      let there : slice_get l.operations k ≡ Some op =
      slice_get-get_or l.operations k 0 (omega (arith, low, has_begun operations p l made)) in
      let own : List Object_step = slice_index_or l.object_steps k [] in
      let effect = answered_effect spec s
      (one_word_effects s o list) steps run order.0 order.1 order.2 i operations p made k low in
      formed op (slice_index l.replies k) (reply_is_of o op (slice_index l.replies k) own
      (sym (ap (λ x. reply_if_announced o x own) there) ∙ effect)))

  runs_are_formed : (operations : ℕ → List ℕ) (phases : ℕ → ℕ) (locals : List Local)
      → HaveMadePhases s operations phases locals
      → AreFormed form n (λ i. calls_in (local_at locals i))
  runs_are_formed operations phases locals h i low =
      let t = h.together in
      let reach = t.1 in
      let same : (end_of s reach.0).locals ≡ locals = ap (λ (w : World). w.locals) reach.2 ∙ t.2 in
      subst (λ (ls : List Local).
      All (λ (pair : ℕ × ℕ). form pair.0 pair.1) (answers_in (calls_in (local_at ls i)))) same
      (formed_at_the_end reach.0 reach.1 i (operations i) (phases i)
      (subst (λ (ls : List Local). HasMade (operations i) (phases i) (local_at ls i)) (sym same)
      (h.made i low)))

-- the operation word of the increment is the only one of the table's entry for increments
is_increment : (op : ℕ) → is_operation_of op words.inc ≡ true → op ≡ increment
is_increment op h =
    let a = and_parts (code_of op == 1) ((argument_of op == 0) && (extra_of op == 0)) h in
    let b = and_parts (argument_of op == 0) (extra_of op == 0) a.1 in
    let code : code_of op ≡ 1 = eqb-true (code_of op) 1 a.0 in
    let argument : argument_of op ≡ 0 = eqb-true (argument_of op) 0 b.0 in
    let extra : extra_of op ≡ 0 = eqb-true (extra_of op) 0 b.1 in
    omega (arith, code, argument, extra)

tally_form : (op reply : ℕ) → IsReplyOf tally op reply → IsTallyReply op reply
tally_form op reply (inl (some, found, is)) =
    record { counts = λ same. (found, is); other = λ away. absurd (away (is_increment op some)) }
tally_form op reply (inr (none, is)) =
    record {
      counts = λ same.
          let counted : is_operation_of op words.inc ≡ true =
          subst (λ (x : ℕ). is_operation_of x words.inc ≡ true) (sym same) refl in
          let never : true ≡ false = sym counted ∙ none in
          absurd cc;
      other = λ away. is;
    }

-- the operation word of a write is one of the table's entry for writes
is_write : (op value : ℕ) → value < 2 ^ 32 → op ≡ 2 ^ 32 + value
    → is_operation_of op words.write ≡ true
is_write op value low same =
    and_from (code_of op == 1) (extra_of op == 0) (eq-eqb (code_of op) 1 (omega (arith, low, same)))
    (eq-eqb (extra_of op) 0 (omega (arith, low, same)))

cell_form : (op reply : ℕ) → IsReplyOf cell op reply → IsCellReply op reply
cell_form op reply (inl (some, found, is)) =
    record {
      writes = λ value low same.
          is ∙ cond-true (is_operation_of op words.write) reply_done (reply_value found)
          (is_write op value low (omega (arith, same)));
      reads = λ same. (
        found,
        is ∙ cond-false (is_operation_of op words.write) reply_done (reply_value found)
            (read_is op same).0,
      );
      other = λ no_write no_read.
          let w = writes op no_read (known_is op ∙ some) in
          absurd (no_write (op - 2 ^ 32) w.small (omega (arith, w.least)));
    }
cell_form op reply (inr (none, is)) =
    record {
      writes = λ value low same.
          let never : true ≡ false =
          sym (ap (λ b. b || is_operation_of op words.read)
          (is_write op value low (omega (arith, same)))) ∙ none in
          absurd cc;
      reads = λ same.
          let read = read_is op same in
          let never : true ≡ false =
          sym (ap (λ b. b || is_operation_of op words.read) read.0 ∙ read.1) ∙ none in
          absurd cc;
      other = λ no_write no_read. is;
    }

pub runs_of_tallies_are_formed : RunsOfTalliesAreFormed
runs_of_tallies_are_formed n cap operations phases locals h =
    runs_are_formed tally count_in (kind_spec Counter) tally_serves_counter n
    cap IsTallyReply tally_form operations phases locals h

pub runs_of_cells_are_formed : RunsOfCellsAreFormed
runs_of_cells_are_formed n cap operations phases locals h =
    runs_are_formed cell value_in
    (kind_spec Register) cell_serves_register n cap IsCellReply cell_form operations phases locals h

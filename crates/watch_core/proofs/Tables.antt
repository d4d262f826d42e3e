-- The table of the open calls of a stream with one more event.
use Rattle.std.proofs.Common.{◌≡◌, ◌≢◌, ◌⊎◌, ◌∙◌, ℕ, ◌+◌, ◌<◌, true, false, List, [], ◌∷◌, ◌++◌, length, Some, None, slice_get, slice_set, refl, sym, ap, subst, inl, inr, arith}
use Rattle.std.specs.List.{remove}
use Rattle.std.proofs.lemmas.Bool.{cases_eq}
use Rattle.std.proofs.lemmas.Option.{same_Some, slice_get_within, none-some}
use Rattle.list_laws.proofs.Places.{slice_get-push_last, slice_get-push_cases}
use Rattle.streams.specs.Stream.{StreamEvent, Called, Returned, Lost, process_of, IsCalledAt, HasReturned, IsWaiting}
use Rattle.streams.proofs.Returning.{get-longer, returns-longer}
use Rattle.streams.proofs.Pushing.{no_return-called, no_return-lost, returns_now, no_other_returns, called_cases, old_call}
use Rattle.late_residue.specs.declared.open_call.OpenCall.{OpenCall}
use Rattle.late_residue.specs.Reached.{Has}
use Rattle.late_residue.proofs.Items.{has-left, has-right, has-cases, has-cons, has-none, set-from, set-to, set-at}
use Rattle.late_residue.proofs.Taking.{one_waits}
use Rattle.watch_core.specs.Table.{Waits, IsTable, Derives}
use Rattle.watch_core.proofs.Places.{remove-from, remove-to}
use Rattle.watch_core.proofs.Extending.{waiting-longer, waiting-shorter, waiting_now, waits_not}

-- calls each of which stands once have one reply at most
pub same_replies : (calls : List OpenCall)
    → ((j k : ℕ) (a b : OpenCall) → slice_get calls j ≡ Some a → slice_get calls k ≡ Some b
    → a.call ≡ b.call → j ≡ k)
    → (one other : OpenCall) → Has calls one → Has calls other → one.call ≡ other.call
    → one.reply ≡ other.reply
same_replies calls once one other (j, first) (k, second) e =
    let places : j ≡ k = once j k one other first second e in
    ap (λ (c : OpenCall). c.reply) (same_Some one other
    (sym (subst (λ (i : ℕ). slice_get calls i ≡ Some one) places first) ∙ second))

-- the empty stream has the empty table
pub table_none : IsTable [] []
table_none = record {
  are_open = record {
    called = λ one has. absurd (has-none one has);
    pending = λ one has. absurd (has-none one has);
    whole = λ call is not. absurd (none-some _ is.2);
    same = λ one other has. absurd (has-none one has);
  };
  once = λ j k a b first second same. absurd (none-some a first);
  waiting = λ one has. absurd (has-none one has);
  lost = λ one has. absurd (has-none one has);
}

module _ (stream : List StreamEvent) (calls : List OpenCall) (table : IsTable stream calls) where
  -- an open call is one of the stream
  pub within : (one : OpenCall) → Has calls one → one.call < length stream
  within one has = slice_get_within stream one.call _ (table.are_open.called one has)

  -- the call for which a process waits is in the table, and isn't lost
  pub waits_in : (process : ℕ) → Waits stream process
      → (one : OpenCall) × Has calls one × (one.process ≡ process) × (one.is_lost ≡ false)
  waits_in process (call, (op, called, quiet)) =
      let pending : HasReturned stream call → ⊥ = λ (returned : HasReturned stream call).
      let h = returned.2 in
      let same : h.process ≡ process =
      ap process_of (same_Some _ _ (sym h.called ∙ called)) in
      quiet returned.0 (Returned h.process returned.1) h.after
      (slice_get_within stream returned.0 _ h.returned) h.returned same in
      let found = table.are_open.whole call (process, op, called) pending in
      let there : IsCalledAt stream call found.0.process found.0.op =
      subst (λ (c : ℕ). IsCalledAt stream c found.0.process found.0.op) found.2
      (table.are_open.called found.0 found.1) in
      let same : found.0.process ≡ process =
      ap process_of (same_Some _ _ (sym there ∙ called)) in (
        found.0,
        found.1,
        same,
        flag found.0 found.1 (
          op,
          subst (λ (c : ℕ). IsCalledAt stream c found.0.process op) (sym found.2)
              (subst (λ (p : ℕ). IsCalledAt stream call p op) (sym same) called),
          subst (λ (c : ℕ). (k : ℕ) (event : StreamEvent) → c < k → k < length stream
              → slice_get stream k ≡ Some event → process_of event ≡ found.0.process → ⊥)
              (sym found.2)
              (λ k event past below at is. quiet k event past below at (is ∙ same)),
        ),
      )
    where
      flag : (one : OpenCall) → Has calls one → IsWaiting stream one.process one.call
          → one.is_lost ≡ false
      flag one has waits = by one.is_lost refl
        where
          by : (b : _) → one.is_lost ≡ b → one.is_lost ≡ false
          by true is = absurd (table.lost one has is waits)
          by false is = is

  module _ (process op : ℕ) (free : Waits stream process → ⊥) where
    abbrev new : OpenCall
    new = record { call = length stream; process = process; op = op; is_lost = false; reply = None }

    abbrev longer : List StreamEvent
    longer = stream ++ Called process op ∷ []

    cases : (one : OpenCall) → Has (calls ++ new ∷ []) one → Has calls one ⊎ (new ≡ one)
    cases one has = elim (has-cases calls (new ∷ []) one has) [
      | inl old ↦ inl old
      | inr last ↦ elim (has-cons new [] one last) [
        | inl is ↦ inr is
        | inr none ↦ absurd (has-none one none)
      ]
    ]

    call_pending : (one : OpenCall) → Has calls one ⊎ (new ≡ one) → HasReturned longer one.call → ⊥
    call_pending one (inl old) (end, reply, h) = table.are_open.pending one old
        (end, reply, no_return-called stream process op one.call end reply h)
    call_pending one (inr is) (end, reply, h) =
        let before = no_return-called stream process op one.call end reply h in
        let low : one.call < length stream = slice_get_within stream one.call _ before.called in
        let here : length stream ≡ one.call = ap (λ (c : OpenCall). c.call) is in
        omega (arith, low, here)

    call_once : (j k : ℕ) (a b : OpenCall) → slice_get (calls ++ new ∷ []) j ≡ Some a
        → slice_get (calls ++ new ∷ []) k ≡ Some b → a.call ≡ b.call → j ≡ k
    call_once j k a b first second same =
        elim (slice_get-push_cases calls new j a first) [
          | inl one ↦ elim (slice_get-push_cases calls new k b second) [
            | inl other ↦ table.once j k a b one other same
            | inr last ↦
                let low : a.call < length stream = within a (j, one) in
                let here : b.call ≡ length stream = ap (λ (c : OpenCall). c.call) last.1 in
                absurd (omega (arith, low, here, same))
          ]
          | inr last ↦ elim (slice_get-push_cases calls new k b second) [
            | inl other ↦
                let low : b.call < length stream = within b (k, other) in
                let here : a.call ≡ length stream = ap (λ (c : OpenCall). c.call) last.1 in
                absurd (omega (arith, low, here, same))
            | inr also ↦ last.0 ∙ sym also.0
          ]
        ]

    pub table_call : IsTable longer (calls ++ new ∷ [])
    table_call = record {
      are_open = record {
        called = λ one has. elim (cases one has) [
          | inl old ↦ get-longer stream (Called process op ∷ []) one.call _
              (table.are_open.called one old)
          | inr is ↦ subst (λ (c : OpenCall). IsCalledAt longer c.call c.process c.op) is
              (slice_get-push_last stream (Called process op))
        ];
        pending = λ one has. call_pending one (cases one has);
        whole = λ call is not.
            elim (called_cases stream (Called process op) call is.0 is.1 is.2) [
              | inl old ↦
                  let found = table.are_open.whole call (is.0, is.1, old)
                  (λ (r : HasReturned stream call). not (
                    r.0,
                    r.1,
                    returns-longer stream (Called process op ∷ []) call r.0 r.1 r.2,
                  )) in
                  (found.0, has-left calls (new ∷ []) found.0 found.1, found.2)
              | inr at_end ↦
                  (new, has-right calls (new ∷ []) new (0, refl), sym at_end.0)
            ];
        same = same_replies (calls ++ new ∷ []) call_once;
      };
      once = call_once;
      waiting = λ one has is. elim (cases one has) [
        | inl old ↦
            let waits = table.waiting one old is in
            waiting-longer stream (Called process op) one.process one.call
            (λ (e : process ≡ one.process). free (
              one.call,
              subst (λ (p : ℕ). IsWaiting stream p one.call) (sym e) waits,
            )) waits
        | inr equal ↦ subst (λ (c : OpenCall). IsWaiting longer c.process c.call) equal
            (waiting_now stream process op)
      ];
      lost = λ one has is waits. elim (cases one has) [
        | inl old ↦ table.lost one old is
            (waiting-shorter stream (Called process op) one.process one.call (within one old) waits)
        | inr equal ↦
            let clash : false ≡ true = ap (λ (c : OpenCall). c.is_lost) equal ∙ is in absurd cc
      ];
    }

    pub call_derives : Derives calls (calls ++ new ∷ [])
    call_derives one has reply is = elim (cases one has) [
      | inl old ↦ (one, old, refl, is)
      | inr equal ↦ absurd (none-some reply (ap (λ (c : OpenCall). c.reply) equal ∙ is))
    ]

    pub derives_call : Derives (calls ++ new ∷ []) calls
    derives_call one has reply is = (one, has-left calls (new ∷ []) one has, refl, is)

  module _ (at : ℕ) (one : OpenCall) (here : slice_get calls at ≡ Some one)
      (waits : IsWaiting stream one.process one.call) where
    -- another open call for which a process waits is another process's
    other_process : (k : ℕ) (other : OpenCall) → slice_get calls k ≡ Some other → k ≢ at
        → IsWaiting stream other.process other.call → one.process ≢ other.process
    other_process k other there apart waiting same = apart (table.once k at other one there here
        (one_waits stream other.process other.call one.call waiting
        (subst (λ (p : ℕ). IsWaiting stream p one.call) same waits)))

    abbrev lost_one : OpenCall
    lost_one = record one { is_lost = true }

    abbrev without : List StreamEvent
    without = stream ++ Lost one.process ∷ []

    -- an item of the table after the loss
    loss_cases : (other : OpenCall) → Has (slice_set calls at lost_one) other
        → (lost_one ≡ other) ⊎ ((k : ℕ) × (slice_get calls k ≡ Some other) × (k ≢ at))
    loss_cases other (k, is) = elim (set-from calls at lost_one k other is) [
      | inl (same, equal) ↦ inl equal
      | inr (apart, old) ↦ inr (k, old, apart)
    ]

    loss_called : (other : OpenCall)
        → (lost_one ≡ other) ⊎ ((k : ℕ) × (slice_get calls k ≡ Some other) × (k ≢ at))
        → IsCalledAt stream other.call other.process other.op
    loss_called other (inl is) =
        subst (λ (c : OpenCall). IsCalledAt stream c.call c.process c.op) is
        (table.are_open.called one (at, here))
    loss_called other (inr (k, old, apart)) = table.are_open.called other (k, old)

    loss_pending : (other : OpenCall)
        → (lost_one ≡ other) ⊎ ((k : ℕ) × (slice_get calls k ≡ Some other) × (k ≢ at))
        → HasReturned stream other.call → ⊥
    loss_pending other (inl is) = subst (λ (c : OpenCall). HasReturned stream c.call → ⊥) is
        (table.are_open.pending one (at, here))
    loss_pending other (inr (k, old, apart)) = table.are_open.pending other (k, old)

    loss_once : (j k : ℕ) (a b : OpenCall)
        → ((j ≡ at) × (lost_one ≡ a)) ⊎ ((j ≢ at) × (slice_get calls j ≡ Some a))
        → ((k ≡ at) × (lost_one ≡ b)) ⊎ ((k ≢ at) × (slice_get calls k ≡ Some b))
        → a.call ≡ b.call → j ≡ k
    loss_once j k a b (inl first) (inl second) same = first.0 ∙ sym second.0
    loss_once j k a b (inl first) (inr second) same =
        first.0 ∙ table.once at k one b here second.1
        (ap (λ (c : OpenCall). c.call) first.1 ∙ same)
    loss_once j k a b (inr first) (inl second) same =
        table.once j at a one first.1 here
        (same ∙ sym (ap (λ (c : OpenCall). c.call) second.1)) ∙ sym second.0
    loss_once j k a b (inr first) (inr second) same =
        table.once j k a b first.1 second.1 same

    loss_same : (j k : ℕ) (a b : OpenCall) → slice_get (slice_set calls at lost_one) j ≡ Some a
        → slice_get (slice_set calls at lost_one) k ≡ Some b → a.call ≡ b.call → j ≡ k
    loss_same j k a b first second same = loss_once j k a b
        (set-from calls at lost_one j a first) (set-from calls at lost_one k b second) same

    pub table_loss : IsTable without (slice_set calls at lost_one)
    table_loss = record {
      are_open = record {
        called = λ other has. get-longer stream (Lost one.process ∷ []) other.call _
            (loss_called other (loss_cases other has));
        pending = λ other has (end, reply, h). loss_pending other (loss_cases other has)
            (end, reply, no_return-lost stream one.process other.call end reply h);
        whole = λ call is not.
            let before = old_call stream (Lost one.process)
            (λ p o (e : Called p o ≡ Lost one.process). cc) call is in
            let found = table.are_open.whole call before
            (λ (r : HasReturned stream call). not (
              r.0,
              r.1,
              returns-longer stream (Lost one.process ∷ []) call r.0 r.1 r.2,
            )) in
            elim (cases_eq found.1.0 at) [
              | inl same ↦
                  let equal : found.0 ≡ one = same_Some found.0 one (sym found.1.1
                  ∙ (ap (λ (k : ℕ). slice_get calls k) same ∙ here)) in (
                    lost_one,
                    (at, set-at calls at lost_one one here),
                    ap (λ (c : OpenCall). c.call) (sym equal) ∙ found.2,
                  )
              | inr apart ↦ (
                found.0,
                (found.1.0, set-to calls at lost_one found.1.0 found.0 found.1.1 apart),
                found.2,
              )
            ];
        same = same_replies (slice_set calls at lost_one) loss_same;
      };
      once = loss_same;
      waiting = λ other has is. elim (loss_cases other has) [
        | inl equal ↦
            let clash : true ≡ false = ap (λ (c : OpenCall). c.is_lost) equal ∙ is in absurd cc
        | inr (k, old, apart) ↦
            let waiting = table.waiting other (k, old) is in
            waiting-longer stream (Lost one.process) other.process other.call
            (other_process k other old apart waiting) waiting
      ];
      lost = λ other has is waiting. elim (loss_cases other has) [
        | inl equal ↦
            let mine : IsWaiting without one.process one.call =
            subst (λ (c : OpenCall). IsWaiting without c.process c.call) (sym equal) waiting in
            waits_not stream (Lost one.process) one.call (within one (at, here)) mine
        | inr (k, old, apart) ↦ table.lost other (k, old) is (waiting-shorter stream
            (Lost one.process) other.process other.call (within other (k, old)) waiting)
      ];
    }

    pub loss_derives : Derives calls (slice_set calls at lost_one)
    loss_derives other has reply is = elim (loss_cases other has) [
      | inl equal ↦ (
        one,
        (at, here),
        ap (λ (c : OpenCall). c.call) equal,
        ap (λ (c : OpenCall). c.reply) equal ∙ is,
      )
      | inr (k, old, apart) ↦ (other, (k, old), refl, is)
    ]

    pub derives_loss : Derives (slice_set calls at lost_one) calls
    derives_loss other (k, old) reply is = elim (cases_eq k at) [
      | inl same ↦
          let equal : other ≡ one = same_Some other one (sym old
          ∙ (ap (λ (i : ℕ). slice_get calls i) same ∙ here)) in (
            lost_one,
            (at, set-at calls at lost_one one here),
            ap (λ (c : OpenCall). c.call) (sym equal),
            ap (λ (c : OpenCall). c.reply) (sym equal) ∙ is,
          )
      | inr apart ↦ (other, (k, set-to calls at lost_one k other old apart), refl, is)
    ]

    module _ (reply : ℕ) where
      abbrev returned : List StreamEvent
      returned = stream ++ Returned one.process reply ∷ []

      inside : at < length calls
      inside = slice_get_within calls at one here

      -- an item of the table after the return
      return_cases : (k : ℕ) (other : OpenCall) → slice_get (remove calls at) k ≡ Some other
          → (j : ℕ) × (slice_get calls j ≡ Some other) × (j ≢ at)
          × (((j < at) × (j ≡ k)) ⊎ ((at < j) × (j ≡ k + 1)))
      return_cases k other is = elim (remove-from calls at k other inside is) [
        | inl (below, old) ↦
            (k, old, (λ (e : k ≡ at). omega (arith, below, e)), inl (below, refl))
        | inr (above, old) ↦
            let past : at < k + 1 = omega (arith, above) in
            (k + 1, old, (λ (e : k + 1 ≡ at). omega (arith, past, e)), inr (past, refl))
      ]

      return_once : (j k i h : ℕ) → i ≡ h → ((i < at) × (i ≡ j)) ⊎ ((at < i) × (i ≡ j + 1))
          → ((h < at) × (h ≡ k)) ⊎ ((at < h) × (h ≡ k + 1)) → j ≡ k
      return_once j k i h e (inl a) (inl b) = omega (arith, e, a.1, b.1)
      return_once j k i h e (inl a) (inr b) = absurd (omega (arith, e, a.0, b.0))
      return_once j k i h e (inr a) (inl b) = absurd (omega (arith, e, a.0, b.0))
      return_once j k i h e (inr a) (inr b) = omega (arith, e, a.1, b.1)

      return_same : (j k : ℕ) (a b : OpenCall) → slice_get (remove calls at) j ≡ Some a
          → slice_get (remove calls at) k ≡ Some b → a.call ≡ b.call → j ≡ k
      return_same j k a b first second same =
          let one_old = return_cases j a first in
          let other_old = return_cases k b second in
          return_once j k one_old.0 other_old.0
          (table.once one_old.0 other_old.0 a b one_old.1 other_old.1 same) one_old.3 other_old.3

      pub table_return : IsTable returned (remove calls at)
      table_return = record {
        are_open = record {
          called = λ other (k, is). let old = return_cases k other is in
              get-longer stream (Returned one.process reply ∷ []) other.call _
              (table.are_open.called other (old.0, old.1));
          pending = λ other (k, is) (end, last, h). let old = return_cases k other is in
              elim (no_other_returns stream one.process one.call reply waits other.call
              end last h) [
                | inl before ↦ table.are_open.pending other (old.0, old.1) (end, last, before)
                | inr (same, equal, place) ↦
                    old.2 (table.once old.0 at other one old.1 here same)
              ];
          whole = λ call is not.
              let before = old_call stream (Returned one.process reply)
              (λ p o (e : Called p o ≡ Returned one.process reply). cc) call is in
              let found = table.are_open.whole call before
              (λ (r : HasReturned stream call). not (
                r.0,
                r.1,
                returns-longer stream (Returned one.process reply ∷ []) call r.0 r.1 r.2,
              )) in
              elim (cases_eq found.1.0 at) [
                | inl same ↦
                    let equal : found.0 ≡ one = same_Some found.0 one (sym found.1.1
                    ∙ (ap (λ (k : ℕ). slice_get calls k) same ∙ here)) in
                    let this : one.call ≡ call =
                    ap (λ (c : OpenCall). c.call) (sym equal) ∙ found.2 in
                    absurd (not (subst (λ (c : ℕ). HasReturned returned c) this (
                      length stream,
                      reply,
                      returns_now stream one.process one.call reply waits,
                    )))
                | inr apart ↦ (
                  found.0,
                  remove-to calls at found.1.0 found.0 inside found.1.1 apart,
                  found.2,
                )
              ];
          same = same_replies (remove calls at) return_same;
        };
        once = return_same;
        waiting = λ other (k, is) flag. let old = return_cases k other is in
            let waiting = table.waiting other (old.0, old.1) flag in
            waiting-longer stream (Returned one.process reply) other.process other.call
            (other_process old.0 other old.1 old.2 waiting) waiting;
        lost = λ other (k, is) flag waiting. let old = return_cases k other is in
            table.lost other (old.0, old.1) flag (waiting-shorter stream
            (Returned one.process reply) other.process other.call (within other (old.0, old.1))
            waiting);
      }

      pub return_derives : Derives calls (remove calls at)
      return_derives other (k, is) known given =
          let old = return_cases k other is in (other, (old.0, old.1), refl, given)

      -- an open call is the one that returns, or stays
      pub returns_or_stays : (other : OpenCall) → Has calls other
          → (other ≡ one) ⊎ Has (remove calls at) other
      returns_or_stays other (k, old) = elim (cases_eq k at) [
        | inl same ↦ inl (same_Some other one (sym old
            ∙ (ap (λ (i : ℕ). slice_get calls i) same ∙ here)))
        | inr apart ↦ inr (remove-to calls at k other inside old apart)
      ]

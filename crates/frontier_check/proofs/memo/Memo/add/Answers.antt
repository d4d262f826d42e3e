use Rattle.std.proofs.Common.{length, arith, rules}
use Rattle.frontier_check.specs.declared.memo.MemoEntry.{MemoEntry}
use Rattle.frontier_check.specs.declared.memo.Memo.{Memo}
use Rattle.frontier_check.proofs.Pairs.{IsAdded, memo-added, remembers-added}
use Rattle.frontier_check.proofs.memo.Memo.add.Goals as goal

pub returns-clause-memo : goal.returns-clause-memo
returns-clause-memo c =
    let entry : MemoEntry = record { from = c.len.result; len = length c.args.words.now } in
    let new : Memo = record {
      callers = c.args.self.now.callers;
      counts = c.extend_from_slice.new.self;
      words = c.extend_from_slice-2.new.self;
      entries = c.push.new.self;
      slots = c.args.self.now.slots;
    } in
    let is : IsAdded c.args.self.now new c.args.counts.now c.args.words.now entry = record {
      callers = search rules;
      counts = c.in_ok-extend_from_slice.ensures.items;
      words = c.in_ok-extend_from_slice-2.ensures.items;
      entries = c.in_ok-push.ensures.items;
      wide = c.requires.wide;
      from = search rules;
      len = search rules;
    } in
    memo-added c.args.self.now new c.args.counts.now c.args.words.now entry c.requires.memo is
    (omega arith)

pub returns-clause-only : goal.returns-clause-only
returns-clause-only c =
    let entry : MemoEntry = record { from = c.len.result; len = length c.args.words.now } in
    let new : Memo = record {
      callers = c.args.self.now.callers;
      counts = c.extend_from_slice.new.self;
      words = c.extend_from_slice-2.new.self;
      entries = c.push.new.self;
      slots = c.args.self.now.slots;
    } in
    let is : IsAdded c.args.self.now new c.args.counts.now c.args.words.now entry = record {
      callers = search rules;
      counts = c.in_ok-extend_from_slice.ensures.items;
      words = c.in_ok-extend_from_slice-2.ensures.items;
      entries = c.in_ok-push.ensures.items;
      wide = c.requires.wide;
      from = search rules;
      len = search rules;
    } in
    remembers-added c.args.self.now new c.args.counts.now c.args.words.now entry c.requires.memo is

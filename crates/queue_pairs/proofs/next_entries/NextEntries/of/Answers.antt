use Rattle.queue_pairs.proofs.next_entries.NextEntries.of.Goals as goal

pub returns : goal.returns
returns c = record {
  puts = c.next_puts-puts.ensures;
  takes = c.next_takes-takes.ensures;
  put_limit = c.least_last-put_limit.ensures;
  take_limit = c.least_last-take_limit.ensures;
  find_first = c.find_first-find_first.ensures;
  find_limit = c.find_limit-find_limit.ensures;
}

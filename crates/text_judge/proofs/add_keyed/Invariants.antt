-- For each key, the sum so far and the sum of what is left make the whole; no sum is more than a value for each entry passed.
use Rattle.std.proofs.Common.{◌≡◌, ℕ, ◌+◌, ◌*◌, ◌≤◌, ◌<◌, length, get_or}
use Rattle.lists.specs.Lists.{sum_at}
use Rattle.text_judge.proofs.add_keyed.Given as goal

abbrev pub invariant-loop-k : goal.invariant-loop-k
invariant-loop-k l =
    let keys = l.k-iterator.a.rest.now in
    let values = l.k-iterator.b.rest.now in
    record {
      pairs : length keys ≡ length values;
      whole : (v : ℕ) → v < length l.initial.sums → get_or l.sums v 0 + sum_at keys values v ≡ get_or l.initial.sums v 0 + sum_at l.keys l.values v;
      most : (v : ℕ) → get_or l.sums v 0 + 4294967296 * length keys ≤ get_or l.initial.sums v 0 + 4294967296 * length l.keys;
    }

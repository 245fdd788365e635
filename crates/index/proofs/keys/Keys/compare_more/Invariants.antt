-- The invariant: the words left compare as all do. Assumes nothing.
use Rattle.std.proofs.Common.{◌≡◌, ◌+◌, ◌-◌, ◌*◌}
use Rattle.index.proofs.Turns.{rest_order}
use Rattle.index.proofs.keys.Keys.compare_more.Given as goal

abbrev pub invariant-loop-k : goal.invariant-loop-k
invariant-loop-k l =
    let a = l.a * l.self.width in
    let b = l.b * l.self.width in
    rest_order l.self.rows.now a b l.k (2 + l.self.more - l.k) ≡ rest_order l.self.rows.now a b 2 l.self.more

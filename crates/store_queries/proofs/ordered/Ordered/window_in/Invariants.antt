-- `window_in` meets its contract. The loop's invariant: each wanted row passed is in the window so far (`Seen`). Assumes nothing.
use Rattle.store_queries.proofs.Windows.{Seen}
use Rattle.store_queries.specs.Rows.{passes_of}
use Rattle.store_queries.proofs.ordered.Ordered.window_in.Given as goal

abbrev pub invariant-loop-k : goal.invariant-loop-k
invariant-loop-k l = Seen (passes_of l.self.blocks.now l.filter) l.self.stored l.self.order.now l.from l.first l.end l.k

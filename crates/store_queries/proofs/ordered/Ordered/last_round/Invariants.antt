-- `last_round` meets its contract. No wanted row passed is above the last of the rounds counted (`OrderFrom`). Assumes nothing.
use Rattle.store_queries.proofs.Rising.{OrderFrom}
use Rattle.store_queries.specs.Rows.{passes_of}
use Rattle.store_queries.proofs.ordered.Ordered.last_round.Given as goal

abbrev pub invariant-loop-k : goal.invariant-loop-k
invariant-loop-k l = OrderFrom l.self.blocks.now l.self.stored l.self.order.now (passes_of l.self.blocks.now l.filter) l.limit l.initial.last l.last l.left l.k

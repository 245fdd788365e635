-- `window_at` meets its contract. Halving finds the one row of the reference, or there is none. Assumes nothing.
use Rattle.store_queries.proofs.Standing.{block-found, block_none}
use Rattle.store_queries.proofs.ordered.Ordered.window_at.Goals as goal

pub returns-then-row-self : goal.returns-then-row-self
returns-then-row-self c =
    let a = c.args.self.now in
    block-found a.blocks.now a.order.now a.stored a.indexed c.args.reference _ c.row_by-row.ensures c.if-row-self.true

pub returns : goal.returns
returns c =
    let a = c.args.self.now in
    block_none a.blocks.now a.order.now a.stored a.indexed c.args.reference _ c.row_by-row.ensures c.if-row-self.false

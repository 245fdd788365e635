use Rattle.std.proofs.Common.{◌<◌, arith, rules}
use Rattle.store_queries.proofs.Standing.{entry_of, entry-there}
use Rattle.store_queries.proofs.Windows.{seen_more, seen_all}
use Rattle.store_queries.specs.Rows.{passes_of}
use Rattle.store_queries.proofs.ordered.Ordered.window_in.Goals as goal

pub overflow_add-row : goal.overflow_add-row
overflow_add-row c =
    let a = c.args.self.now in
    let l = c.loop-k in
    omega (arith, entry-there a.blocks.now a.order.now a.stored a.indexed l.k (omega (arith, c.requires.fits)), c.row_at-row.ensures)

pub loop-k-preserved : goal.loop-k-preserved
loop-k-preserved c =
    let a = c.args.self.now in
    let l = c.loop-k in
    let there : c.row_at-row.result < a.stored = omega (arith, entry-there a.blocks.now a.order.now a.stored a.indexed l.k (omega (arith, c.requires.fits)), c.row_at-row.ensures) in
    seen_more (passes_of a.blocks.now c.args.filter) a.stored a.order.now c.args.from l.first l.end l.k l.invariant _ c.row_at-row.ensures there (search rules) _ c.max-end.result c.min-first.ensures (search rules)

pub returns : goal.returns
returns c =
    let a = c.args.self.now in
    let l = c.loop-k in
    seen_all (passes_of a.blocks.now c.args.filter) a.stored a.order.now c.args.from l.first l.end l.k l.invariant (entry_of a.blocks.now a.order.now a.stored a.indexed) c.args.to c.requires c.loop-k-test.false _ c.min.ensures

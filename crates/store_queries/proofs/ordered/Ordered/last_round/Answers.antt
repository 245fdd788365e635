use Rattle.store_queries.proofs.Rising.{order-begins, order-end, order-stop, order-step}
use Rattle.store_queries.specs.Rows.{passes_of}
use Rattle.store_queries.proofs.ordered.Ordered.last_round.Goals as goal

pub loop-k-init : goal.loop-k-init
loop-k-init c =
    let a = c.args.self.now in
    order-begins a.blocks.now a.stored a.order.now a.indexed (passes_of a.blocks.now c.args.filter) c.args.limit c.args.above.0 _ c.first_of_round-k.ensures

pub returns-then-left-eq0 : goal.returns-then-left-eq0
returns-then-left-eq0 c =
    let a = c.args.self.now in
    let l = c.loop-k in
    order-stop a.blocks.now a.stored a.order.now a.indexed (passes_of a.blocks.now c.args.filter) c.args.limit c.args.above.0 l.last l.left l.k l.invariant c.if-left-eq0.true

pub loop-k-preserved : goal.loop-k-preserved
loop-k-preserved c =
    let a = c.args.self.now in
    let l = c.loop-k in
    order-step a.blocks.now a.stored a.order.now a.indexed (passes_of a.blocks.now c.args.filter) c.args.limit c.args.above.0 l.last l.left l.k l.invariant c.loop-k-test.true _ c.row_at-row.ensures _ c.round_at-round.ensures _ c.passes.ensures c.if-not-passes.false c.if-round-last.false c.if-left-eq0.false

pub returns : goal.returns
returns c =
    let a = c.args.self.now in
    let l = c.loop-k in
    order-end a.blocks.now a.stored a.order.now a.indexed (passes_of a.blocks.now c.args.filter) c.args.limit c.args.above.0 l.last l.left l.k l.invariant c.loop-k-test.false

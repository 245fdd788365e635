-- `past_round` meets its contract. The first entry of the next round, or the end where there is none. Assumes nothing.
use Rattle.std.proofs.Common.{ℕ, sym, subst}
use Rattle.store_queries.proofs.Standing.{past-round}
use Rattle.store_queries.specs.Windows.{Standing, up_to}
use Rattle.store_queries.proofs.ordered.Ordered.past_round.Goals as goal

pub returns : goal.returns
returns c =
    let a = c.args.self.now in
    subst (λ (to : ℕ). Standing a.order.now a.stored (up_to a.blocks.now c.args.round.0) 0 to) (sym c.first_of_round.ensures) (past-round a.blocks.now a.order.now a.stored a.indexed c.args.round.0)

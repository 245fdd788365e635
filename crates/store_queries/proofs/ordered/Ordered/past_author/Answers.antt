-- `past_author` meets its contract. The first entry of the next authority, or the end where there is none. Assumes nothing.
use Rattle.std.proofs.Common.{ℕ, sym, subst}
use Rattle.block_store.specs.Store.{is_at}
use Rattle.store_queries.proofs.Standing.{past-author}
use Rattle.store_queries.specs.Windows.{Standing}
use Rattle.store_queries.proofs.ordered.Ordered.past_author.Goals as goal

pub returns : goal.returns
returns c =
    let a = c.args.self.now in
    subst (λ (to : ℕ). Standing a.order.now a.stored (is_at a.blocks.now c.args.authority.0 c.args.round.0) 0 to) (sym c.first_of_author_round.ensures) (past-author a.blocks.now a.order.now a.stored a.indexed c.args.authority.0 c.args.round.0)

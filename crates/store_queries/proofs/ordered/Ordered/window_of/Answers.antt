-- `window_of` meets its contract. For each case of the filter, where the rows stand that it wants. Assumes nothing.
use Rattle.store_queries.proofs.Standing.{stand-in, stand-at, stand-within}
use Rattle.store_queries.proofs.ordered.Ordered.window_of.Goals as goal

pub window_in-requires-in-In : goal.window_in-requires-in-In
window_in-requires-in-In c =
    let a = c.args.self.now in
    stand-in a.blocks.now a.order.now a.stored a.indexed _ _ _ c.first_of_round-from.ensures c.past_round.ensures

pub window_in-requires-in-At : goal.window_in-requires-in-At
window_in-requires-in-At c =
    let a = c.args.self.now in
    stand-at a.blocks.now a.order.now a.stored a.indexed _ _ _ _ c.first_of_author_round-from.ensures c.past_author.ensures

pub window_in-requires-in-Within : goal.window_in-requires-in-Within
window_in-requires-in-Within c =
    let a = c.args.self.now in
    stand-within a.blocks.now a.order.now a.stored a.indexed _ _ _ _ _ c.first_of_round-from-in-Within.ensures c.past_round-in-Within.ensures

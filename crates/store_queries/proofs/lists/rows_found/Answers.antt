-- `rows_found` meets its contract. Past the tests the window is filled with what is asked for. Assumes nothing.
use Rattle.std.proofs.Common.{ℕ, List, length, ap, ◌∙◌}
use Rattle.block_store.specs.Stored.{store_in}
use Rattle.store_queries.proofs.Calls.{answered, answered-area}
use Rattle.store_queries.proofs.Finding.{asked-opens, asked-rows}
use Rattle.store_queries.specs.Rows.{passes_of, listed, filled}
use Rattle.store_queries.specs.declared.filter.Filter.{Filter}
use Rattle.types.specs.Below.{rows_below}
use Rattle.store_queries.proofs.lists.rows_found.Goals as goal

pub fill_rows-requires-clause-opens : goal.fill_rows-requires-clause-opens
fill_rows-requires-clause-opens c =
    rw c.filter_up_to-filter.ensures (asked-opens c.args.store.now.blocks.now c.args.store.now.stored c.args.question c.in_ok-found.found c.in_ok-found.ensures.1)

pub returns-clause-result_value : goal.returns-clause-result_value
returns-clause-result_value c =
    let a = c.args in
    let found = c.in_ok-found in
    c.fill_rows.ensures.result_value
    ∙ ap (λ (f : Filter). listed (rows_below (passes_of a.store.now.blocks.now f) found.found.window.end) (length c.fill.new.self)) c.filter_up_to-filter.ensures
    ∙ ap (λ (l : List ℕ). listed l (length c.fill.new.self)) (asked-rows a.store.now.blocks.now a.store.now.stored a.question found.found found.ensures.1)
    ∙ ap (listed _) c.fill.ensures.len
    ∙ answered (store_in a.store.now) _ _ found.ensures.0 c.in_ok-refuse_unless.ensures

pub returns-clause-rows_after : goal.returns-clause-rows_after
returns-clause-rows_after c =
    let a = c.args in
    let found = c.in_ok-found in
    c.fill_rows.ensures.rows_after
    ∙ ap (λ (f : Filter). filled (rows_below (passes_of a.store.now.blocks.now f) found.found.window.end) (length c.fill.new.self)) c.filter_up_to-filter.ensures
    ∙ ap (λ (l : List ℕ). filled l (length c.fill.new.self)) (asked-rows a.store.now.blocks.now a.store.now.stored a.question found.found found.ensures.1)
    ∙ ap (filled _) c.fill.ensures.len
    ∙ answered-area (store_in a.store.now) _ _ _ found.ensures.0 c.in_ok-refuse_unless.ensures
